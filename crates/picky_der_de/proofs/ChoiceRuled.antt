-- Choices and values of twins are refused by their rules.
use Rattle.std.proofs.Common.{◌≡◌, ◌≢◌, ℕ, Bool, true, false, List, [], ◌∷◌, Option, Some, None, refl, sym, ◌∙◌, ap}
use Rattle.std.proofs.Common.{subst}
use Rattle.std.proofs.Common.{IfSome, inl, inr}
use Rattle.picky_der_core.specs.declared.error.Asn1DerError.{Asn1DerError}
use Rattle.picky_der_core.specs.declared.error.Asn1DerError.TheVariants.{InvalidData, OutOfMemory}
use Rattle.picky_der_core.specs.Failure.{IsAnswer}
use Rattle.picky_der_core.specs.Element.{IsPrefix}
use Rattle.picky_der_core.specs.Shape.{Shape, contains}
use Rattle.picky_der_core.specs.Tree.{Tree}
use Rattle.picky_der_de.specs.State.{State}
use Rattle.picky_der_de.specs.Steps.{IsJudged}
use Rattle.picky_der_de.specs.Refusing.{FailsAs}
use Rattle.picky_der_de.specs.Twins.{IsNoValue}
use Rattle.picky_der_de.specs.Reading.{Reads}
use Rattle.picky_der_de.specs.LookAhead.{Peeks, RefusesChoice, choice_refusal, choice_refusal_in}
use Rattle.picky_der_de.specs.RefusesBy.{Rule, spot_of, RefusesBy}
use Rattle.picky_der_de.specs.Rules.{ChoiceRule, no_alternative_rule, alternative_rule, at_this, at_other, choice_rule}
use Rattle.picky_der_de.specs.Rules.{no_first, by_first, choice_refusal_at, tested_rule, as_twin, after_twin}
use Rattle.picky_der_de.proofs.Peeked.{peeks_judged}
use Rattle.picky_der_de.proofs.KnownBytes.{kept_known}
use Rattle.picky_der_de.proofs.PlainRuled.{same_left, bytes_by}
use Rattle.picky_der_de.proofs.WrapperRuled.{next_of}

-- ---- alternatives

-- no alternative begins with the byte
pub no_alternative_by : {b : ℕ} {a c : State} {e : Asn1DerError} → FailsAs InvalidData a e c
    → RefusesBy (no_alternative_rule b) a c e
no_alternative_by {c = c} {e = e} f j bs left k l = record {
  error = subst (λ o. IsAnswer o InvalidData e) j.had_not_failed f.0;
  all_left = same_left c.input l (ap (λ (z : State). z.input) f.1 ∙ k);
}

module _ {begins : List ℕ} {this : Rule} {others : ChoiceRule} {b : ℕ} {a c : State} {e : Asn1DerError} where
  pub this_by : contains begins b ≡ true → RefusesBy this a c e
      → RefusesBy (alternative_rule begins this others b) a c e
  this_by is by j bs left k l = at_this is (by j bs left k l)

  pub other_by : (contains begins b ≡ true → ⊥) → RefusesBy (others b) a c e
      → RefusesBy (alternative_rule begins this others b) a c e
  other_by other by j bs left k l = at_other (is_false (contains begins b) other) (by j bs left k l)
    where
      is_false : (x : Bool) → (x ≡ true → ⊥) → x ≡ false
      is_false true h = absurd (h refl)
      is_false false h = refl

-- ---- choices

no_byte_of : (d : Option ℕ) (a : State) (rest : List ℕ)
    → choice_refusal_in d a rest ≡ choice_refusal_at d (spot_of a) rest
no_byte_of None a [] = refl
no_byte_of None a (b ∷ rest) = refl
no_byte_of (Some number) a rest = refl

module _ (alternatives : ChoiceRule) where
  -- there is no byte to choose by
  pub no_first_by : {a c : State} {e : Asn1DerError} → RefusesChoice a c e → RefusesBy (choice_rule alternatives) a c e
  no_first_by {a} h j bs left k l =
      no_first (bytes_by (choice_refusal a) (λ at rest. choice_refusal_at at.implicit_tag at rest)
      (λ rest. no_byte_of a.implicit_tag a rest) h.refuses.just j bs left k l)

  -- the alternative was refused
  pub chosen_by : {a b c : State} {x : ℕ} {e : Asn1DerError} → Peeks a b x → RefusesBy (alternatives x) b c e
      → RefusesBy (choice_rule alternatives) a c e
  chosen_by {a} {b} {c} {x} {e} p by j bs left k l =
      let q = by (peeks_judged p j) bs left (kept_known a.input b.input bs p.input k) l in
      let f = first_is a.input bs p.next k in
      by_first x f.0 p.ahead p.implicit_tag f.1 (subst (λ at. alternatives x at bs e left) (ap spot_of p.same) q)
    where
      first_is : (i : Option (List ℕ)) (bs : List ℕ) → IfSome i (IsPrefix (x ∷ [])) → i ≡ Some bs
          → (rest : List ℕ) × (bs ≡ x ∷ rest)
      first_is None bs h e = absurd (let q : None ≡ Some bs = e in cc)
      first_is (Some xs) bs h e = let same : xs ≡ bs = cc in (h.rest, sym same ∙ h.is)

-- ---- twins

module _ {V W : Type 0} {meaning : W → Tree} {s : Shape} {parts : V → W} {rule : Rule} where
  pub twin_by : {a c : State} {e : Asn1DerError} → RefusesBy rule a c e
      → RefusesBy (tested_rule meaning s parts rule) a c e
  twin_by by j bs left k l = as_twin (by j bs left k l)

  -- a value of the twin was read that is none of the type
  pub no_value_by : {a b c : State} {kind e : Asn1DerError} (w : W) → Reads s a b (meaning w)
      → IsNoValue meaning parts w kind → FailsAs kind b e c → RefusesBy (tested_rule meaning s parts rule) a c e
  unfolding next_of
  no_value_by {a} {b} {c} {kind} {e} w r none f j bs left k l = by_error none
    where
      same : e ≡ kind
      same = subst (λ o. IsAnswer o kind e) r.consumes.not_failed f.0

      by_error : IsNoValue meaning parts w kind → tested_rule meaning s parts rule (spot_of a) bs e left
      by_error (inl memory) = absurd (j.memory (same ∙ memory))
      by_error (inr other) =
          after_twin b.until_end (next_of w r k (sym (ap (λ (z : State). z.input) f.1) ∙ l) refl) other.1
          (same ∙ other.0)
