use Rattle.std.proofs.Common.{refl, ap, arith}
use Rattle.der_ber.specs.Parts.{content_in}
use Rattle.der_ber.proofs.JoiningLemmas.{segment_pushed, fails_bad, no_segment}
use Rattle.der_ber.proofs.joining.push_segment.Goals as goal

pub returns-then-unused-ne0-clause-err : goal.returns-then-unused-ne0-clause-err
returns-then-unused-ne0-clause-err c =
    fails_bad c.args.part.now c.in-Content.content.now (ap content_in c.in-Content.is) c.args.position c.args.unused
    (λ none. absurd (c.if-unused-ne0.true none))

pub returns-in_default-clause-err : goal.returns-in_default-clause-err
returns-in_default-clause-err c =
    fails_bad c.args.part.now c.in-Content.content.now (ap content_in c.in-Content.is) c.args.position c.args.unused
    (λ none. c.in_default.ensures)

pub returns-in_ok-extend_from_slice-in-Content-clause-ok : goal.returns-in_ok-extend_from_slice-in-Content-clause-ok
returns-in_ok-extend_from_slice-in-Content-clause-ok c =
    segment_pushed c.args.part.now c.in-Content.content.now (ap content_in c.in-Content.is) c.args.parts.now.items _ _
    c.args.unused _ _ _ c.in-Some.ensures.0 c.in-Some.ensures.1 (omega arith)
    c.in_ok-extend_from_slice-in-Content.ensures.items refl refl

pub returns-in-Header-clause-ok : goal.returns-in-Header-clause-ok
returns-in-Header-clause-ok c =
    no_segment c.args.part.now (ap content_in c.in-Header.is) c.args.parts.now.items c.args.unused

pub returns-in-UnusedBits-clause-ok : goal.returns-in-UnusedBits-clause-ok
returns-in-UnusedBits-clause-ok c =
    no_segment c.args.part.now (ap content_in c.in-UnusedBits.is) c.args.parts.now.items c.args.unused
