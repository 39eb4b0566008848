-- Whole inputs are refused by the rules of their types.
use Rattle.std.proofs.Common.{◌≡◌, ◌≢◌, ℕ, ◌+◌, ◌<◌, List, [], length, Option, Some, refl, sym, ◌∙◌, ap}
use Rattle.std.proofs.Common.{subst}
use Rattle.std.proofs.Common.{arith, length-append}
use Rattle.picky_der_core.specs.declared.error.Asn1DerError.{Asn1DerError}
use Rattle.picky_der_core.specs.declared.error.Asn1DerError.TheVariants.{InvalidData, OutOfMemory}
use Rattle.picky_der_core.specs.Reading.{written_at}
use Rattle.picky_der_core.specs.Shape.{Shape}
use Rattle.picky_der_core.specs.Tree.{Tree}
use Rattle.picky_der_core.specs.Faults.{Fault}
use Rattle.picky_der_de.specs.State.{State, fresh}
use Rattle.picky_der_de.specs.Steps.{IsJudged, place_of}
use Rattle.picky_der_de.specs.Reading.{Reads, Refuses}
use Rattle.picky_der_de.specs.RefusesBy.{Rule, spot_of, RefusesBy}
use Rattle.picky_der_de.specs.Rules.{IsNext, soft_spot, RefusesWholeBy, as_value, past_value}
use Rattle.picky_der_de.proofs.Refusals.{front_consumed}
use Rattle.picky_der_de.proofs.WrapperRuled.{next_of}

module _ {V : Type 0} (meaning : V → Tree) (s : Shape) (rule : Rule) {bytes : List ℕ} {old new : State}
    (is : old ≡ fresh (Some bytes) (length bytes) [] []) {position : ℕ} (size : position ≡ new.consumed)
  where
    pub whole_refused : {e : Asn1DerError} → new.faults ≡ [] → Refuses meaning s old new e → RefusesBy rule old new e
        → RefusesWholeBy meaning s rule bytes e position
    whole_refused {e} still h by memory =
        let j : IsJudged old new e = record {
          had_not_failed = ap (λ (z : State). z.failed) is;
          faults = still ∙ sym (ap (λ (z : State). z.faults) is);
          memory = memory;
        } in
        let known : old.input ≡ Some bytes = ap (λ (z : State). z.input) is in
        let taken = h.fails.took in
        let p = front_consumed old.input new.input taken.bytes bytes taken.input known in
        as_value p.0 (subst (λ at. rule at bytes e p.0) (ap spot_of is) (by j bytes p.0 known p.1)) (omega (
          arith,
          size,
          taken.count,
          ap (λ (z : State). z.consumed) is,
          ap length p.2,
          length-append taken.bytes p.0,
        ))

    pub whole_left_over : (v : V) → Reads s old new (meaning v) → position < length bytes
        → RefusesWholeBy meaning s rule bytes InvalidData position
    whole_left_over v r less memory =
        let known : old.input ≡ Some bytes = ap (λ (z : State). z.input) is in
        let written = written_at (place_of old) (meaning v) in
        let p = front_consumed old.input new.input written bytes r.consumes.input known in
        let sizes = length-append written p.0 in
        let count : position ≡ length written = omega (
          arith,
          size,
          r.consumes.consumed,
          ap (λ (z : State). z.consumed) is,
        ) in
        let all : length bytes ≡ length written + length p.0 = ap length p.2 ∙ sizes in
        past_value new.until_end p.0
        (subst (λ at. IsNext meaning s at bytes new.until_end p.0) (ap spot_of is) (next_of v r known p.1 refl))
        (omega (arith, less, count, all)) refl (omega (arith, count, all))

-- ---- the front of an input

-- known bytes were refused with the error of the rule
pub front_refused_by : {V : Type 0} {meaning : V → Tree} {s : Shape} (rule : Rule) {input : Option (List ℕ)} {limit : ℕ}
    {faults : List Fault} {references : List ℕ} {old new : State} {e : Asn1DerError}
    → old ≡ fresh input limit faults references → Refuses meaning s old new e → RefusesBy rule old new e
    → new.faults ≡ faults → e ≢ OutOfMemory → (bytes : List ℕ) → input ≡ Some bytes
    → (left : List ℕ) × rule (soft_spot limit) bytes e left
front_refused_by rule {old = old} {new = new} {e = e} is h by still memory bytes k =
    let known : old.input ≡ Some bytes = ap (λ (z : State). z.input) is ∙ k in
    let j : IsJudged old new e = record {
      had_not_failed = ap (λ (z : State). z.failed) is;
      faults = still ∙ sym (ap (λ (z : State). z.faults) is);
      memory = memory;
    } in
    let taken = h.fails.took in
    let p = front_consumed old.input new.input taken.bytes bytes taken.input known in
    (p.0, subst (λ at. rule at bytes e p.0) (ap spot_of is) (by j bytes p.0 known p.1))
