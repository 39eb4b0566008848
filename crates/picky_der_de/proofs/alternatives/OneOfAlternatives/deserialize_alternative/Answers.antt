use Rattle.std.proofs.Common.{rules}
use Rattle.std.proofs.lemmas.Result.{err_from_is_err_and}
use Rattle.picky_der_de.specs.Facts.{is_lawful}
use Rattle.picky_der_de.proofs.Choices.{reads_this, reads_other, refuses_this, refuses_other}
use Rattle.picky_der_de.proofs.ChoiceRuled.{this_by, other_by}
use Rattle.picky_der_de.proofs.alternatives.OneOfAlternatives.deserialize_alternative.Goals as goal

pub returns-in_err-deserialize-clause-err : goal.returns-in_err-deserialize-clause-err
returns-in_err-deserialize-clause-err g c =
    let p = err_from_is_err_and c.from_residual.result c.from_residual.ensures.1 in
    rw (p.1, p.2) (refuses_this (is_lawful g.A.Deserialize.facts g.met.A.Deserialize.proved).begun
    (g.B.Alternatives.facts.follows g.met.B.Alternatives.premise).begun
    (c.begins_with.ensures.0 c.if-begins_with.true) c.in_err-deserialize.ensures.err)

pub returns-then-begins_with-clause-ok : goal.returns-then-begins_with-clause-ok
returns-then-begins_with-clause-ok g c = reads_this c.in_ok-deserialize.ensures.ok

pub returns-in_err-deserialize_alternative-clause-err :
    goal.returns-in_err-deserialize_alternative-clause-err
returns-in_err-deserialize_alternative-clause-err g c =
    let p = err_from_is_err_and c.from_residual-in_err-deserialize_alternative.result
    c.from_residual-in_err-deserialize_alternative.ensures.1 in
    rw (p.1, p.2) (refuses_other (is_lawful g.A.Deserialize.facts g.met.A.Deserialize.proved).begun
    (g.B.Alternatives.facts.follows g.met.B.Alternatives.premise).begun (λ h. let x = c.begins_with.ensures.1 h in
    search rules) c.in_err-deserialize_alternative.ensures.err)

pub returns-clause-ok : goal.returns-clause-ok
returns-clause-ok g c = reads_other c.in_ok-deserialize_alternative.ensures.ok

pub returns-in_err-deserialize-clause-refused_by : goal.returns-in_err-deserialize-clause-refused_by
returns-in_err-deserialize-clause-refused_by g c =
    let p = err_from_is_err_and c.from_residual.result c.from_residual.ensures.1 in
    rw (p.1, p.2) (this_by (c.begins_with.ensures.0 c.if-begins_with.true) c.in_err-deserialize.ensures.refused_by)

pub returns-in_err-deserialize_alternative-clause-refused_by :
    goal.returns-in_err-deserialize_alternative-clause-refused_by
returns-in_err-deserialize_alternative-clause-refused_by g c =
    let p = err_from_is_err_and c.from_residual-in_err-deserialize_alternative.result
    c.from_residual-in_err-deserialize_alternative.ensures.1 in
    rw (p.1, p.2) (other_by (λ h. let x = c.begins_with.ensures.1 h in search rules)
    c.in_err-deserialize_alternative.ensures.refused_by)
