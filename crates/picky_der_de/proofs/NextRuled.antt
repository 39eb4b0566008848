-- The next of several values is refused by the rule of its type.
use Rattle.std.proofs.Common.{◌≡◌, ℕ, List, [], ◌∷◌, Option, Some, None, refl, ap, subst}
use Rattle.picky_der_core.specs.declared.error.Asn1DerError.{Asn1DerError}
use Rattle.picky_der_de.specs.State.{State}
use Rattle.picky_der_de.specs.LookAhead.{Identifies, IdentifiesIn, Peeks, RefusesIdentifier, identifier_refusal}
use Rattle.picky_der_de.specs.LookAhead.{identifier_refusal_in}
use Rattle.picky_der_de.specs.RefusesBy.{Rule, spot_of, RefusesBy}
use Rattle.picky_der_de.specs.Rules.{next_rule, no_byte, as_next, next_byte_refusal}
use Rattle.picky_der_de.proofs.Peeked.{peeks_judged}
use Rattle.picky_der_de.proofs.KnownBytes.{kept_known}
use Rattle.picky_der_de.proofs.PlainRuled.{bytes_by}

no_byte_of : (d : Option ℕ) (a : State) → d ≡ None → (rest : List ℕ)
    → identifier_refusal_in d a rest ≡ next_byte_refusal (spot_of a) rest
no_byte_of None a h [] = refl
no_byte_of None a h (b ∷ rest) = refl
no_byte_of (Some number) a h rest = absurd (let q : Some number ≡ None = h in cc)

module _ (rule : Rule) where
  pub no_byte_by : {a c : State} {e : Asn1DerError} → RefusesIdentifier a c e → RefusesBy (next_rule rule) a c e
  no_byte_by {a} h j bs left k l =
      no_byte (bytes_by (identifier_refusal a) next_byte_refusal
      (no_byte_of a.implicit_tag a (h.missing j).0) h.refuses.just j bs left k l)

  pub value_by : {a b c : State} {x : ℕ} {e : Asn1DerError} → a.implicit_tag ≡ None → Identifies a b x
      → RefusesBy rule b c e → RefusesBy (next_rule rule) a c e
  value_by {a} {b} {c} {x} {e} whole h by j bs left k l =
      let p : Peeks a b x = subst (λ d. IdentifiesIn d a b x) whole h.is in
      let q = by (peeks_judged p j) bs left (kept_known a.input b.input bs p.input k) l in
      as_next (subst (λ at. rule at bs e left) (ap spot_of p.same) q)
