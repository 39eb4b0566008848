use Rattle.std.proofs.Common.{take}
use Rattle.std.specs.List.{AllZip}
use Rattle.der_read.specs.Names.{IsTextOfAttribute}
use Rattle.der_read.proofs.names.attribute_texts.Given as goal

abbrev pub invariant-loop-attribute : goal.invariant-loop-attribute
invariant-loop-attribute l = AllZip IsTextOfAttribute (take l.attribute-index l.attributes) l.texts.items
