use Rattle.std.proofs.Common.{rules}
use Rattle.picky_der_de.proofs.PassedOn.{unsaid_refused, refusal_passed_on}
use Rattle.picky_der_de.proofs.Peeked.{identified_refuses, refuses_identifier}
use Rattle.picky_der_de.proofs.PlainReads.{refuses_of}
use Rattle.picky_der_de.proofs.NumberReads.{refuses_within}
use Rattle.der_rows.proofs.seen.SeenDeserialize.deserialize.Goals as goal

pub returns-in-Err-clause-err : goal.returns-in-Err-clause-err
returns-in-Err-clause-err g c = refuses_identifier c.in-Err.ensures.err

pub returns-in_err-number-clause-err : goal.returns-in_err-number-clause-err
returns-in_err-number-clause-err g c =
    refusal_passed_on _ c.from_residual.ensures.1 (search rules)
    (identified_refuses c.in-Ok.ensures.ok
    (refuses_of (λ x. x.number) (refuses_within c.in_err-number.ensures.err.refuses)))

pub returns-in_err-number-clause-refused_by : goal.returns-in_err-number-clause-refused_by
returns-in_err-number-clause-refused_by g c = unsaid_refused _ _ c.from_residual.result

pub returns-in-Err-clause-refused_by : goal.returns-in-Err-clause-refused_by
returns-in-Err-clause-refused_by g c = λ j bs left k l. tt
