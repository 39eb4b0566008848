use Rattle.std.proofs.Common.{rules, refl, ◌<◌, ◌^◌, ◌∙◌, length, arith}
use Rattle.picky_der_de.proofs.PassedOn.{unsaid_refused, refusal_passed_on, reads_at}
use Rattle.der_tool_lib.proofs.AlgorithmIdentifierReads.{algorithm_unopened, no_algorithm, no_parameters, left_over}
use Rattle.der_tool_lib.proofs.AlgorithmIdentifierReads.{reads_algorithm}
use Rattle.der_tool_lib.proofs.algorithm_identifier.AlgorithmIdentifierDeserialize.deserialize.Goals as goal

pub returns-in_err-members-clause-err : goal.returns-in_err-members-clause-err
returns-in_err-members-clause-err g c =
    refusal_passed_on _ c.from_residual.ensures.1 refl
    (algorithm_unopened (rw c.in_err-members.was at c.deserialize_seq.follows.holds-at-none))

pub returns-in_err-algorithm-clause-err : goal.returns-in_err-algorithm-clause-err
returns-in_err-algorithm-clause-err g c = refusal_passed_on _ c.from_residual-in_err-algorithm.ensures.1 (search rules)
    (no_algorithm c.in_ok-members.ensures.ok c.in_err-algorithm.ensures.err)

pub returns-in_err-parameters-clause-err : goal.returns-in_err-parameters-clause-err
returns-in_err-parameters-clause-err g c =
    let e = c.in_err-parameters.ensures in
    refusal_passed_on _ c.from_residual-in_err-parameters.ensures.1 (search rules)
    (no_parameters c.in_ok-members.ensures.ok c.in_ok-algorithm.ensures.ok e.err e.ahead)

pub returns-in_err-end-clause-err : goal.returns-in_err-end-clause-err
returns-in_err-end-clause-err g c =
    let p = c.in_ok-parameters.ensures in
    refusal_passed_on _ c.from_residual-in_err-end.ensures.1 (search rules)
    (left_over c.in_ok-members.ensures.ok c.in_ok-algorithm.ensures.ok c.in_ok-parameters.parameters p.member p.none
    c.in_err-end.ensures.err)

pub returns-clause-ok : goal.returns-clause-ok
returns-clause-ok g c =
    let p = c.in_ok-parameters.ensures in
    let bytes = c.in_ok-algorithm.algorithm.0 in
    let small : length bytes.items < 2 ^ 64 = omega (arith, bytes.ok, bytes.small) in
    reads_at (reads_algorithm bytes.items c.in_ok-parameters.parameters small c.in_ok-members.ensures.ok
    c.in_ok-algorithm.ensures.ok p.member p.none c.in_ok-end.ensures.ok (p.outer ∙ c.in_ok-algorithm.ensures.outer))
    (search rules)

pub returns-in_err-members-clause-refused_by : goal.returns-in_err-members-clause-refused_by
returns-in_err-members-clause-refused_by g c = unsaid_refused _ _ c.from_residual.result

pub returns-in_err-algorithm-clause-refused_by : goal.returns-in_err-algorithm-clause-refused_by
returns-in_err-algorithm-clause-refused_by g c = unsaid_refused _ _ c.from_residual-in_err-algorithm.result

pub returns-in_err-parameters-clause-refused_by : goal.returns-in_err-parameters-clause-refused_by
returns-in_err-parameters-clause-refused_by g c = unsaid_refused _ _ c.from_residual-in_err-parameters.result

pub returns-in_err-end-clause-refused_by : goal.returns-in_err-end-clause-refused_by
returns-in_err-end-clause-refused_by g c = unsaid_refused _ _ c.from_residual-in_err-end.result
