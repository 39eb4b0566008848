use Rattle.std.proofs.Common.{take}
use Rattle.std.specs.List.{concat}
use Rattle.der_ber.specs.Parts.{contents, IsAppended}
use Rattle.der_ber.proofs.joining.push_octets.Given as goal

abbrev pub invariant-loop-part : goal.invariant-loop-part
invariant-loop-part l =
    IsAppended l.fn.parts.items l.parts.items (concat (contents (take l.part-index l.inside))) l.content_len
