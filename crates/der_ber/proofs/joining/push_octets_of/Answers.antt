use Rattle.std.proofs.Common.{refl, ap}
use Rattle.der_ber.specs.Parts.{content_in}
use Rattle.der_ber.proofs.JoiningLemmas.{octets_pushed, no_octets}
use Rattle.der_ber.proofs.joining.push_octets_of.Goals as goal

pub returns-in_ok-extend_from_slice-in-Content-clause-ok : goal.returns-in_ok-extend_from_slice-in-Content-clause-ok
returns-in_ok-extend_from_slice-in-Content-clause-ok c =
    octets_pushed c.args.part.now c.in-Content.content.now (ap content_in c.in-Content.is) c.args.parts.now.items _ _ _
    c.in_ok-extend_from_slice-in-Content.ensures.items refl refl

pub returns-in-Header-clause-ok : goal.returns-in-Header-clause-ok
returns-in-Header-clause-ok c = no_octets c.args.part.now (ap content_in c.in-Header.is) c.args.parts.now.items

pub returns-in-UnusedBits-clause-ok : goal.returns-in-UnusedBits-clause-ok
returns-in-UnusedBits-clause-ok c =
    no_octets c.args.part.now (ap content_in c.in-UnusedBits.is) c.args.parts.now.items
