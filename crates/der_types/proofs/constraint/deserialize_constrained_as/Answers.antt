use Rattle.std.proofs.Common.{◌≡◌, true, false, rules, inr, refl, sym, ◌∙◌}
use Rattle.picky_der_de.proofs.PlainReads.{refuses_of}
use Rattle.picky_der_de.specs.Facts.{is_lawful}
use Rattle.picky_der_de.proofs.OtherValues.{other_value}
use Rattle.picky_der_de.proofs.PassedOn.{passed_on, refusal_passed_on}
use Rattle.picky_der_de.proofs.ChoiceRuled.{twin_by, no_value_by}
use Rattle.picky_der_de.specs.RefusesBy.{RefusesBy}
use Rattle.picky_der_de.specs.Rules.{tested_rule}
use Rattle.der_types.proofs.constraint.deserialize_constrained_as.Goals as goal

pub returns-in_err-value-clause-err : goal.returns-in_err-value-clause-err
returns-in_err-value-clause-err g c =
    refusal_passed_on _ c.from_residual.ensures.1 (search rules)
    (refuses_of g.C.Constrained.unconstrained c.in_err-value.ensures.err)

pub returns-in-None-clause-err : goal.returns-in-None-clause-err
returns-in-None-clause-err g c =
    other_value (is_lawful g.C.Of.Deserialize.facts g.met.C.Of.Deserialize.proved).sound c.in_ok-value.ensures.ok
    c.refuse.ensures.is c.refuse.ensures.fails (λ h. cc) (λ it p same.
    let determined = g.met.C.Constrained.determined (g.C.Constrained.unconstrained it) c.in_ok-value.value same in
    let wrong : true ≡ false = sym (g.met.C.Constrained.kept it) ∙ determined ∙ c.in-None.ensures.none in
    cc)

pub returns-in_err-value-clause-refused_by : goal.returns-in_err-value-clause-refused_by
returns-in_err-value-clause-refused_by g c =
    passed_on (RefusesBy (tested_rule g.C.Of.Serialize.meaning g.C.Of.Deserialize.shape g.C.Constrained.unconstrained
    g.C.Of.Deserialize.facts.rule) _) _ c.from_residual.ensures.1 (search rules)
    (twin_by c.in_err-value.ensures.refused_by)

pub returns-in-None-clause-refused_by : goal.returns-in-None-clause-refused_by
returns-in-None-clause-refused_by g c =
    no_value_by c.in_ok-value.value c.in_ok-value.ensures.ok (inr (
      refl,
      λ it same.
          let determined = g.met.C.Constrained.determined (g.C.Constrained.unconstrained it) c.in_ok-value.value same in
          let wrong : true ≡ false = sym (g.met.C.Constrained.kept it) ∙ determined ∙ c.in-None.ensures.none in
          cc,
    )) c.refuse.ensures.is
