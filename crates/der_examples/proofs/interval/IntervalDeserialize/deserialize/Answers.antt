use Rattle.std.proofs.Common.{rules, refl, ◌∙◌}
use Rattle.picky_der_de.proofs.PassedOn.{unsaid_refused, refusal_passed_on, reads_at}
use Rattle.picky_der_de.proofs.Rests.{unread_first, rest_unopened, rest_refused, rest_head, rest_next, rest_left}
use Rattle.picky_der_de.proofs.Rests.{members_last, members_read, reads_members}
use Rattle.der_examples.specs.declared.interval.Interval.{Interval}
use Rattle.der_examples.proofs.interval.IntervalDeserialize.deserialize.Goals as goal

pub returns-in_err-members-clause-err : goal.returns-in_err-members-clause-err
returns-in_err-members-clause-err g c =
    refusal_passed_on _ c.from_residual.ensures.1 refl
    (rest_unopened refl (rw c.in_err-members.was at c.deserialize_seq.follows.holds-at-none))

pub returns-in_err-first-clause-err : goal.returns-in_err-first-clause-err
returns-in_err-first-clause-err g c =
    let rest = rest_head (λ (it : Interval) p readable. unread_first it.first p.0 readable.0)
    c.in_err-first.ensures.err in
    refusal_passed_on _ c.from_residual-in_err-first.ensures.1 (search rules)
    (rest_refused refl (λ it of_shape. of_shape.1) c.in_ok-members.ensures.ok rest)

pub returns-in_err-last-clause-err : goal.returns-in_err-last-clause-err
returns-in_err-last-clause-err g c =
    let rest = rest_next c.in_ok-first.ensures.ok
    (rest_head (λ (it : Interval) p readable. unread_first it.last p.1.0 readable.0) c.in_err-last.ensures.err) in
    refusal_passed_on _ c.from_residual-in_err-last.ensures.1 (search rules)
    (rest_refused refl (λ it of_shape. of_shape.1) c.in_ok-members.ensures.ok rest)

pub returns-in_err-end-clause-err : goal.returns-in_err-end-clause-err
returns-in_err-end-clause-err g c =
    let rest = rest_next c.in_ok-first.ensures.ok
    (rest_left (λ it. refl) c.in_ok-last.ensures.ok c.in_err-end.ensures.err) in
    refusal_passed_on _ c.from_residual-in_err-end.ensures.1 (search rules)
    (rest_refused refl (λ it of_shape. of_shape.1) c.in_ok-members.ensures.ok rest)

pub returns-clause-ok : goal.returns-clause-ok
returns-clause-ok g c =
    let row = members_read c.in_ok-first.ensures.ok (members_last c.in_ok-last.ensures.ok) in
    reads_at (reads_members c.in_ok-members.ensures.ok row c.in_ok-end.ensures.ok (c.in_ok-last.ensures.outer
    ∙ c.in_ok-first.ensures.outer)) (search rules)

pub returns-in_err-members-clause-refused_by : goal.returns-in_err-members-clause-refused_by
returns-in_err-members-clause-refused_by g c = unsaid_refused _ _ c.from_residual.result

pub returns-in_err-first-clause-refused_by : goal.returns-in_err-first-clause-refused_by
returns-in_err-first-clause-refused_by g c = unsaid_refused _ _ c.from_residual-in_err-first.result

pub returns-in_err-last-clause-refused_by : goal.returns-in_err-last-clause-refused_by
returns-in_err-last-clause-refused_by g c = unsaid_refused _ _ c.from_residual-in_err-last.result

pub returns-in_err-end-clause-refused_by : goal.returns-in_err-end-clause-refused_by
returns-in_err-end-clause-refused_by g c = unsaid_refused _ _ c.from_residual-in_err-end.result
