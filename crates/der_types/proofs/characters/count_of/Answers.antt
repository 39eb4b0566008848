use Rattle.std.proofs.Common.{sym}
use Rattle.der_types.specs.declared.width.Width.TheVariants.{Two, Four}
use Rattle.der_types.specs.CharacterStringLaws.{length-characters}
use Rattle.der_types.proofs.characters.count_of.Goals as goal

pub returns-in-Two : goal.returns-in-Two
returns-in-Two c = rw c.in-Two.is (sym (length-characters Two c.args.bytes.now))

pub returns-in-Four : goal.returns-in-Four
returns-in-Four c = rw c.in-Four.is (sym (length-characters Four c.args.bytes.now))
