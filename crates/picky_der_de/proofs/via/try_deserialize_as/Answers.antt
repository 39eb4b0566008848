use Rattle.std.proofs.Common.{◌≡◌, ◌≢◌, refl, sym, ◌∙◌, inl, inr}
use Rattle.picky_der_core.specs.declared.error.Asn1DerError.{Asn1DerError}
use Rattle.picky_der_core.specs.declared.error.Asn1DerError.TheVariants.{TruncatedData, InvalidData, OutOfMemory}
use Rattle.picky_der_core.specs.Tree.{Tree}
use Rattle.picky_der_de.proofs.PlainReads.{refuses_of}
use Rattle.picky_der_de.specs.Facts.{is_lawful}
use Rattle.picky_der_de.specs.Twins.{IsNoValue}
use Rattle.picky_der_de.proofs.OtherValues.{other_unless_memory}
use Rattle.picky_der_de.specs.RefusesBy.{RefusesBy}
use Rattle.picky_der_de.specs.Rules.{tested_rule}
use Rattle.picky_der_de.proofs.ChoiceRuled.{twin_by, no_value_by}
use Rattle.picky_der_de.proofs.PassedOn.{passed_on, refusal_passed_on}
use Rattle.picky_der_de.proofs.via.try_deserialize_as.Goals as goal

-- more bytes can't change such an error
is_final : {V W : Type 0} (meaning : W → Tree) (parts : V → W) (w : W) (e : Asn1DerError) → IsNoValue meaning parts w e
    → e ≢ TruncatedData
is_final meaning parts w e (inl m) q = let n : OutOfMemory ≡ TruncatedData = sym m ∙ q in cc
is_final meaning parts w e (inr p) q = let n : InvalidData ≡ TruncatedData = sym p.0 ∙ q in cc

-- unless an allocation failed, no value has these parts
others : {V W : Type 0} (meaning : W → Tree) (parts : V → W) (w : W) (e : Asn1DerError) → IsNoValue meaning parts w e
    → e ≢ OutOfMemory → (v : V) → meaning (parts v) ≢ meaning w
others meaning parts w e (inl m) n v = absurd (n m)
others meaning parts w e (inr p) n v = p.1 v

pub returns-in_err-twin-clause-err : goal.returns-in_err-twin-clause-err
returns-in_err-twin-clause-err g c =
    refusal_passed_on _ c.from_residual.ensures.1 refl (refuses_of g.T.TryVia.parts c.in_err-twin.ensures.err)

pub returns-in-Err-clause-err : goal.returns-in-Err-clause-err
returns-in-Err-clause-err g c =
    let none = c.in-Err.ensures.err in
    other_unless_memory (is_lawful g.T.As.Deserialize.facts g.met.T.As.Deserialize.proved).sound c.in_ok-twin.ensures.ok
    c.refuse.ensures.is c.refuse.ensures.fails (is_final g.T.As.Serialize.meaning g.T.TryVia.parts _ _ none)
    (λ n v p. others g.T.As.Serialize.meaning g.T.TryVia.parts _ _ none n v)

pub returns-in_err-twin-clause-refused_by : goal.returns-in_err-twin-clause-refused_by
returns-in_err-twin-clause-refused_by g c =
    passed_on (RefusesBy (tested_rule g.T.As.Serialize.meaning g.T.As.Deserialize.shape g.T.TryVia.parts
    g.T.As.Deserialize.facts.rule) _) _ c.from_residual.ensures.1 refl (twin_by c.in_err-twin.ensures.refused_by)

pub returns-in-Err-clause-refused_by : goal.returns-in-Err-clause-refused_by
returns-in-Err-clause-refused_by g c =
    no_value_by c.in_ok-twin.twin c.in_ok-twin.ensures.ok c.in-Err.ensures.err c.refuse.ensures.is
