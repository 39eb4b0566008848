use Rattle.std.proofs.lemmas.Result.{err_from_is_err_and}
use Rattle.picky_der_de.proofs.Peeked.{identified_refuses, refuses_identifier}
use Rattle.picky_der_de.proofs.NextRuled.{no_byte_by, value_by}
use Rattle.picky_der_de.proofs.deserializer.Deserializer.next_value.Goals as goal

pub returns-in_err-value-in-Ok-Some-clause-err :
    goal.returns-in_err-value-in-Ok-Some-clause-err
returns-in_err-value-in-Ok-Some-clause-err g c =
    let p = err_from_is_err_and c.from_residual.result c.from_residual.ensures.1 in
    rw (p.1, p.2) (identified_refuses (rw c.in-Ok-Some.field-0-is at c.in-Ok-Some.ensures.tag)
    c.in_err-value-in-Ok-Some.ensures.err)

pub returns-in-Err-clause-err : goal.returns-in-Err-clause-err
returns-in-Err-clause-err g c = refuses_identifier c.in-Err.ensures.err

pub returns-in_err-value-in-Ok-Some-clause-refused_by :
    goal.returns-in_err-value-in-Ok-Some-clause-refused_by
returns-in_err-value-in-Ok-Some-clause-refused_by g c =
    let p = err_from_is_err_and c.from_residual.result c.from_residual.ensures.1 in
    rw (p.1, p.2) (value_by g.T.Deserialize.facts.rule c.requires.whole
    (rw c.in-Ok-Some.field-0-is at c.in-Ok-Some.ensures.tag) c.in_err-value-in-Ok-Some.ensures.refused_by)

pub returns-in-Err-clause-refused_by : goal.returns-in-Err-clause-refused_by
returns-in-Err-clause-refused_by g c = no_byte_by g.T.Deserialize.facts.rule c.in-Err.ensures.err
