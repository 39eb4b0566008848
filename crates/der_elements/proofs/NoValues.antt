-- Elements that are refused.
use Rattle.std.proofs.Common.{◌≡◌, ℕ, List, inl, inr, subst}
use Rattle.std.specs.Prelude.{Result, Ok, Err, IfErr}
use Rattle.std.proofs.lemmas.Grind.{not_there}
use Rattle.picky_der_core.specs.declared.error.Asn1DerError.{Asn1DerError}
use Rattle.picky_der_core.specs.Encoding.{der}
use Rattle.picky_der_core.specs.Readable.{IsWritable}
use Rattle.picky_der_core.specs.Tree.{Tree}
use Rattle.picky_der_de.specs.Twins.{IsNoValue}
use Rattle.der_types.specs.WellFormed.{IsWellFormed}
use Rattle.der_elements.specs.Refusals.{RefusesElement, RefusesValue}

-- are no value of a type whose values are well-formed elements
module _ {V W : Type 0} (bytes : W → List ℕ) (part : V → W) (kept : (v : V) → ∥ IsWellFormed (bytes (part v)) ∥₁) where
  none : (w : W) (e : Asn1DerError) → RefusesElement (bytes w) e → IsNoValue (λ x. Tree.raw (bytes x)) part w e
  none w e (RefusesElement.no_memory is) = inl is
  none w e (RefusesElement.not_formed is unformed) = inr (
    is,
    λ v same. let alike : bytes (part v) ≡ bytes w = cc in
        not_there (kept v) (λ formed. unformed (subst IsWellFormed alike formed)),
  )

  pub no_value : (w : W) (r : Result V Asn1DerError) → IfErr r (RefusesElement (bytes w))
      → IfErr r (IsNoValue (λ x. Tree.raw (bytes x)) part w)
  no_value w (Ok v) h = h
  no_value w (Err e) h = none w e h

-- are a value's encoding
pub refused_value : {V : Type 0} (t : Tree) (bytes : List ℕ) (r : Result V Asn1DerError) → bytes ≡ der t
    → IsWritable t → IfErr r (RefusesElement bytes) → IfErr r (RefusesValue t)
refused_value t bytes (Ok v) is w h = h
refused_value t bytes (Err e) is w h = RefusesValue.refused w (subst (λ s. RefusesElement s e) is h)
