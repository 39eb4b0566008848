-- What reading a value in a wrapper does.
use Rattle.std.specs.Prelude.{◌≡◌, ◌≢◌, ℕ, zero, suc, ◌+◌, ◌^◌, ◌<◌, ◌≤◌, Bool, true, false, List, [], ◌∷◌, ◌++◌}
use Rattle.std.specs.Prelude.{length, ◌==◌, Option, None, Some, Ok, Err, if◌then◌else◌}
use Rattle.std.specs.Io.KnownBytes.{Keeps}
use Rattle.picky_der_core.specs.declared.error.Asn1DerError.{Asn1DerError}
use Rattle.picky_der_core.specs.declared.error.Asn1DerError.TheVariants.{TruncatedData, InvalidData}
use Rattle.picky_der_core.specs.declared.asn1.wrapper.Wrapper.{Wrapper}
use Rattle.picky_der_core.specs.Element.{length_octets, tlv}
use Rattle.picky_der_core.specs.Wrapper.{wrapper_tag, wrapper_front, counts_unused_bits, keeps_header, HasTagNumber}
use Rattle.picky_der_core.specs.Tree.{Tree}
use Rattle.picky_der_core.specs.Shape.{Shape}
use Rattle.picky_der_core.specs.Refusal.{Refusal, ReadOutcome, wrapper_header, error_past_end}
use Rattle.picky_der_de.specs.declared.end.End.TheVariants.{Hard}
use Rattle.picky_der_de.specs.State.{State}
use Rattle.picky_der_de.specs.Steps.{Consumed, Fails, IsJudged, IsMissing, UsesNoMemory, failed_with, is_hard}
use Rattle.picky_der_de.specs.Reading.{Reads, Refuses, AllConcerned, AreNotRefused, AreJustRefused}
use Rattle.picky_der_de.specs.Ends.{EnclosingEnd, innermost, with_inner_end, with_outer_end, RefusesClose}

-- the shape, in a wrapper or as it is
abbrev pub wrap_shape_if : Option Wrapper → Shape → Shape
wrap_shape_if None s = s
wrap_shape_if (Some w) s = Shape.wrapped w s

-- the implicit tag directly under which the value is: the byte that replaces its own
abbrev pub implicit_tag_of : Wrapper → Option ℕ
implicit_tag_of w = if keeps_header w then None else Some (wrapper_tag w)

-- ---- how the opening is refused

-- n bytes before the end of a bit string container
abbrev pub unused_bits_refusal : ℕ → List ℕ → Option Refusal
unused_bits_refusal zero rest = Some (error_past_end true, rest)
unused_bits_refusal (suc n) [] = Some (TruncatedData, [])
unused_bits_refusal (suc n) (b ∷ bs) = if b == 0x00 then None else Some (InvalidData, bs)

abbrev pub refusal_after : Bool → ReadOutcome ℕ → Option Refusal
refusal_after counts (Err r) = Some r
refusal_after true (Ok (n, rest)) = unused_bits_refusal n rest
refusal_after false (Ok (n, rest)) = None

-- how the bytes before the value are refused, or none
abbrev pub opening_refusal : Wrapper → State → List ℕ → Option Refusal
opening_refusal w s rest = refusal_after (counts_unused_bits w) (wrapper_header w (is_hard s.end) s.until_end rest)

-- ---- openings

-- the header, and the count of unused bits
abbrev pub wrapper_opening : Wrapper → ℕ → List ℕ
wrapper_opening w n = (wrapper_tag w ∷ length_octets n) ++ wrapper_front w

-- What is before the value was consumed, and nothing else changed but for a hard end that was opened where the length
-- says.
pub record OpensWrapper (w : Wrapper) (old new : State) (outer : EnclosingEnd) : Type 0 where
  pub size : ℕ
  pub number : HasTagNumber w
  pub outer_end : outer ≡ innermost old
  pub consumes : Consumed old (with_outer_end outer new) (wrapper_opening w size)
  pub until_end : size ≡ length (wrapper_front w) + new.until_end
  pub within : new.consumed + new.until_end ≤ outer.position
  pub end : new.end ≡ Hard
  pub implicit_tag : new.implicit_tag ≡ implicit_tag_of w
  pub bounded : old.until_end < 2 ^ 64
  pub no_refusal : AreNotRefused (opening_refusal w old) old

-- no such wrapper is there
abbrev pub NoWrapper : Wrapper → ℕ → List ℕ → Type 0
NoWrapper w end bs = (content rest : List ℕ) → HasTagNumber w → length (wrapper_front w ++ content) < 2 ^ 64
    → bs ≡ tlv (wrapper_tag w) (wrapper_front w ++ content) ++ rest
    → length (tlv (wrapper_tag w) (wrapper_front w ++ content)) ≤ end → ⊥

-- the bytes before the value were refused, with exactly their error and rest; nothing was allocated
pub record RefusesOpening (w : Wrapper) (old new : State) (e : Asn1DerError) : Type 0 where
  pub fails : Fails old new e
  pub none : AllConcerned old new e (NoWrapper w)
  pub first : IsJudged old new e → e ≡ TruncatedData → 0 < old.until_end → (b : ℕ) (left : List ℕ)
      → old.input ≡ Some (b ∷ left) → (b ≡ wrapper_tag w) × HasTagNumber w
  pub just : AreJustRefused (opening_refusal w old) old new e
  pub memory : UsesNoMemory old new e
  pub bounded : old.failed ≡ None → old.until_end < 2 ^ 64

-- the header was consumed, and the end was opened
pub record BeginsWrapper (w : Wrapper) (old new : State) (outer : EnclosingEnd) : Type 0 where
  pub mid : State
  pub size : ℕ
  pub number : HasTagNumber w
  pub consumes : Consumed old mid (wrapper_tag w ∷ length_octets size)
  pub fits : size ≤ mid.until_end
  pub opened : new ≡ with_inner_end mid size Hard
  pub outer_end : outer ≡ innermost mid
  pub bounded : old.until_end < 2 ^ 64

-- why the count of unused bits isn't 00: it is missing, or another byte was consumed
pub data StopsUnusedBits (old new : State) (e : Asn1DerError) : Type 0 where
  count_missing : IsMissing old e → Keeps old.input new.input → new.consumed ≡ old.consumed → new.peeked ≡ old.peeked
      → StopsUnusedBits old new e
  count_other : (mid : State) (b : ℕ) → Consumed old mid (b ∷ []) → b ≢ 0x00 → e ≡ InvalidData → new ≡ failed_with mid e
      → StopsUnusedBits old new e

pub record RefusesUnusedBits (old new : State) (e : Asn1DerError) : Type 0 where
  pub fails : Fails old new e
  pub stops : IsJudged old new e → StopsUnusedBits old new e
  pub memory : UsesNoMemory old new e

-- ---- values in wrappers

-- a value was read in this wrapper, before which nothing was refused
pub record ReadsWrapped (w : Wrapper) (s : Shape) (old new : State) (t : Tree) : Type 0 where
  pub reads : Reads (Shape.wrapped w s) old new (Tree.wrapped w t)
  pub no_refusal : AreNotRefused (opening_refusal w old) old

-- Where a value in this wrapper was refused: before it, in it, where some read of the value is refused so, or after it.
pub data RefusesWrapped {V : Type 0} (meaning : V → Tree) (s : Shape) (w : Wrapper) (old new : State)
    (e : Asn1DerError) : Type 0 where
  before_value : RefusesOpening w old new e → RefusesWrapped meaning s w old new e
  in_value : (mid : State) (outer : EnclosingEnd) → OpensWrapper w old mid outer → Refuses meaning s mid new e
      → RefusesWrapped meaning s w old new e
  after_value : (mid last : State) (outer : EnclosingEnd) (t : Tree) → OpensWrapper w old mid outer → Reads s mid last t
      → RefusesClose last new e → RefusesWrapped meaning s w old new e
