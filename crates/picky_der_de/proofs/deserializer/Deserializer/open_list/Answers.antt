use Rattle.std.proofs.Common.{[], ap, ◌∙◌}
use Rattle.picky_der_de.specs.State.{State}
use Rattle.picky_der_de.specs.SetOrder.{first_by}
use Rattle.picky_der_de.proofs.Ends.{opens_unseen, first_compared}
use Rattle.picky_der_de.proofs.deserializer.Deserializer.open_list.Goals as goal

pub returns-clause-ok : goal.returns-clause-ok
returns-clause-ok g c =
    let opened = c.open_end-outer.ensures in
    opens_unseen c.requires.number c.in_ok-len.ensures.ok
    (c.take_seen.ensures.same ∙ ap (λ (s : State). record s { seen = [] }) opened.opened) opened.outer_end

pub returns-clause-compared : goal.returns-clause-compared
returns-clause-compared g c =
    first_compared c.take_seen.new.self (first_by c.args.tag) (ap (λ (s : State). s.seen) c.take_seen.ensures.same)
