use Rattle.std.proofs.Common.{take}
use Rattle.der_ber.specs.Parts.{contents}
use Rattle.der_ber.specs.Joining.{AreSegmentsPushed}
use Rattle.der_ber.proofs.joining.push_bits.Given as goal

abbrev pub invariant-loop-part : goal.invariant-loop-part
invariant-loop-part l =
    AreSegmentsPushed (contents (take l.part-index l.inside)) l.unused l.initial.parts.items l.parts.items l.len
