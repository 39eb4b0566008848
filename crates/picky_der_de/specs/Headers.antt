-- Lengths and headers.
use Rattle.std.specs.Prelude.{◌≡◌, ℕ, ◌^◌, ◌<◌, ◌≤◌, List, [], ◌∷◌, ◌++◌, length, Option, Some, None, IfSome, Err}
use Rattle.std.specs.Int.Digits.{number_from_digits}
use Rattle.picky_der_core.specs.declared.error.Asn1DerError.{Asn1DerError}
use Rattle.picky_der_core.specs.declared.error.Asn1DerError.TheVariants.{TruncatedData}
use Rattle.picky_der_core.specs.Element.{length_octets, tlv}
use Rattle.picky_der_core.specs.Refusal.{length_of, header_refusal}
use Rattle.picky_der_de.specs.State.{State}
use Rattle.picky_der_de.specs.Steps.{Consumed, ConsumesBytes, Fails, IsCut, IsJudged, failed_with, is_hard}
use Rattle.picky_der_de.specs.Steps.{error_at_end}
use Rattle.picky_der_de.specs.Reading.{AllConcerned, AreJustRefused}

-- why no length was read: a byte was missing, or what was consumed begins none
pub data StopsLength (old new : State) (e : Asn1DerError) : Type 0 where
  cut : (n : ℕ) (c : IsCut old new n e) → ((lacking : Asn1DerError) → length_of lacking c.bytes ≡ Err (lacking, []))
      → StopsLength old new e
  bad : (mid : State) (bytes : List ℕ) → Consumed old mid bytes → new ≡ failed_with mid e
      → ((lacking : Asn1DerError) (y : List ℕ) → length_of lacking (bytes ++ y) ≡ Err (e, y)) → StopsLength old new e

-- no length was read
pub record RefusesLength (old new : State) (e : Asn1DerError) : Type 0 where
  pub fails : Fails old new e
  pub stops : IsJudged old new e → StopsLength old new e

-- why no length of a content was read: there is no length, or it reaches past the innermost end
pub data StopsContentLength (old new : State) (e : Asn1DerError) : Type 0 where
  no_length : StopsLength old new e → StopsContentLength old new e
  too_long : (mid : State) (n : ℕ) → Consumed old mid (length_octets n) → n < 2 ^ 64 → mid.until_end < n
      → e ≡ error_at_end mid.end → new ≡ failed_with mid e → StopsContentLength old new e

-- no length of a content that ends before the innermost end was read
pub record RefusesContentLength (old new : State) (e : Asn1DerError) : Type 0 where
  pub fails : Fails old new e
  pub stops : IsJudged old new e → StopsContentLength old new e

-- no element with this tag is there
abbrev pub NoElement : ℕ → ℕ → List ℕ → Type 0
NoElement tag end bs = (c rest : List ℕ) → length c < 2 ^ 64 → bs ≡ tlv tag c ++ rest → length (tlv tag c) ≤ end → ⊥

-- no header of an element with this tag was read, and no such element is there
pub record RefusesHeader (tag : ℕ) (old new : State) (e : Asn1DerError) : Type 0 where
  pub fails : Fails old new e
  pub none : AllConcerned old new e (NoElement tag)
  pub first : IsJudged old new e → e ≡ TruncatedData → 0 < old.until_end → (b : ℕ) (left : List ℕ)
      → old.input ≡ Some (b ∷ left) → b ≡ tag
  pub just : AreJustRefused (header_refusal tag (is_hard old.end) old.until_end) old new e

-- the header, which was consumed before directly under an implicit tag
abbrev pub header_bytes : Option ℕ → ℕ → ℕ → List ℕ
header_bytes None tag n = tag ∷ length_octets n
header_bytes (Some number) tag n = []

-- the content of an element with this tag is next, n bytes of it
pub record BeginsContent (tag : ℕ) (old new : State) (n : ℕ) : Type 0 where
  pub consumes : Consumed old new (header_bytes old.implicit_tag tag n)
  pub implicit_tag : new.implicit_tag ≡ None
  pub fits : n ≤ new.until_end
  pub all : IfSome old.implicit_tag (λ number. n ≡ new.until_end)
  pub bounded : old.until_end < 2 ^ 64

-- there is none; directly under an implicit tag there is no header to refuse
pub record RefusesBegin (tag : ℕ) (old new : State) (e : Asn1DerError) : Type 0 where
  pub fails : Fails old new e
  pub header : IsJudged old new e → (old.implicit_tag ≡ None) × RefusesHeader tag old new e
  pub bounded : old.failed ≡ None → old.until_end < 2 ^ 64

-- a number was read from this many bytes
pub record ReadsDigits (old new : State) (count n : ℕ) : Type 0 where
  pub digits : List ℕ
  pub consumes : ConsumesBytes old new count digits
  pub number : n ≡ number_from_digits 256 digits
