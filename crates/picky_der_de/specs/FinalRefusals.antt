-- What a refusal promises of more bytes.
use Rattle.std.specs.Prelude.{◌≡◌, ◌≢◌, ℕ, ◌+◌, List, [], ◌++◌, length, Some, refl}
use Rattle.std.proofs.Common.{sym, inl, inr, append-nil}
use Rattle.picky_der_core.specs.declared.error.Asn1DerError.{Asn1DerError}
use Rattle.picky_der_core.specs.declared.error.Asn1DerError.TheVariants.{TruncatedData}
use Rattle.picky_der_core.specs.Tree.{Tree}
use Rattle.picky_der_core.specs.Shape.{Shape}
use Rattle.picky_der_core.specs.Reading.{written_at, IsMendable}
use Rattle.picky_der_de.specs.State.{State}
use Rattle.picky_der_de.specs.Steps.{IsJudged, fetched_count, mendable_limit, place_of}
use Rattle.picky_der_de.specs.Reading.{Refuses, ever}

-- Unless it says that the input is cut short, no bytes after the consumed ones make a value.
pub not_mendable : {V : Type 0} {meaning : V → Tree} {s : Shape} {old new : State} {e : Asn1DerError}
    → Refuses meaning s old new e → IsJudged old new e → e ≢ TruncatedData
    → (d left : List ℕ) → old.input ≡ Some (d ++ left) → length d + old.consumed ≡ fetched_count new
    → IsMendable meaning s (place_of old) d (mendable_limit old) → ⊥
not_mendable {meaning = meaning} {old = old} h judged other d left k fetched m =
    let bytes = written_at (place_of old) (meaning m.value) in
    elim m.agrees [
      | inl p ↦ h.none judged (mendable_limit old) d (ever other refl d [] left k fetched (sym (append-nil d))) m.value
          (record {
            of_shape = m.of_shape;
            readable = m.readable;
            may_be_there = m.may_be_there;
            within = m.within;
            front = p;
          })
      | inr p ↦ h.none judged (mendable_limit old) bytes (ever other refl d p.rest left k fetched p.is) m.value
          (record {
            of_shape = m.of_shape;
            readable = m.readable;
            may_be_there = m.may_be_there;
            within = m.within;
            front = record { rest = []; is = sym (append-nil bytes) };
          })
    ]
