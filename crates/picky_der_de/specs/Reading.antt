-- What reading a value of a type does.
use Rattle.std.specs.Prelude.{◌≡◌, ◌≢◌, ℕ, ℤ, Bool, ◌+◌, ◌<◌, List, ◌∷◌, ◌++◌, length, take, drop, Option, Some, None}
use Rattle.picky_der_core.specs.Primitive.{Primitive, PrimitiveShape, shape_tag}
use Rattle.picky_der_core.specs.declared.error.Asn1DerError.{Asn1DerError}
use Rattle.picky_der_core.specs.declared.error.Asn1DerError.TheVariants.{TruncatedData}
use Rattle.picky_der_core.specs.Tree.{Tree}
use Rattle.picky_der_core.specs.Readable.{IsReadable}
use Rattle.picky_der_core.specs.Shape.{Shape, IsOf, IsFirst}
use Rattle.picky_der_core.specs.Integer.{integer_tree, int_tree}
use Rattle.picky_der_core.specs.Reading.{written_at, MayBeAt, IsAtFront}
use Rattle.picky_der_core.specs.Refusal.{Judge, Refusal, plain_refusal, inside_refusal, int_error, content_error}
use Rattle.picky_der_de.specs.State.{State}
use Rattle.picky_der_de.specs.Steps.{Consumed, Fails, IsJudged, fetched_count, mendable_limit, place_of, is_hard}
use Rattle.picky_der_de.specs.RefusesBy.{RefusesBy}
use Rattle.picky_der_de.specs.PlainRules.{plain_rule}

-- a tree of the shape was read
pub record Reads (s : Shape) (old new : State) (t : Tree) : Type 0 where
  pub of_shape : IsOf s t
  pub readable : IsReadable t
  pub may_be_there : MayBeAt (place_of old) t
  pub consumes : Consumed old new (written_at (place_of old) t)
  pub implicit_tag : new.implicit_tag ≡ None

-- The bytes to which a refusal applies, and the end before which they are: what the reader has, and, where the refusal
-- is final, what was consumed with any bytes after it.
pub data Concerns (old new : State) (e : Asn1DerError) (end : ℕ) (bs : List ℕ) : Type 0 where
  now : old.input ≡ Some bs → end ≡ old.until_end → Concerns old new e end bs
  ever : e ≢ TruncatedData → end ≡ mendable_limit old → (d y left : List ℕ) → old.input ≡ Some (d ++ left)
      → length d + old.consumed ≡ fetched_count new → bs ≡ d ++ y → Concerns old new e end bs

-- P of all bytes to which the refusal applies
abbrev pub AllConcerned : State → State → Asn1DerError → (ℕ → List ℕ → Type 0) → Type 0
AllConcerned old new e P = IsJudged old new e → (end : ℕ) (bs : List ℕ) → Concerns old new e end bs → P end bs

-- no value of the type is at the front of these bytes
abbrev pub NoValue : {V : Type 0} → (V → Tree) → Shape → State → ℕ → List ℕ → Type 0
NoValue {V} meaning s old end bs = (v : V) → IsAtFront (place_of old) s bs end (meaning v) → ⊥

-- a refusal that more bytes may change comes at no byte that is foreign to the shape
abbrev pub IsNoForeign : Shape → State → State → Asn1DerError → Type 0
IsNoForeign s old new e =
    IsJudged old new e → e ≡ TruncatedData → old.implicit_tag ≡ None → 0 < old.until_end → (b : ℕ) (left : List ℕ)
    → old.input ≡ Some (b ∷ left) → IsFirst s b

-- no value of the type was read, and none is there
pub record Refuses {V : Type 0} (meaning : V → Tree) (s : Shape) (old new : State) (e : Asn1DerError) : Type 0 where
  pub fails : Fails old new e
  pub none : AllConcerned old new e (NoValue meaning s old)
  pub first : IsNoForeign s old new e

-- ---- plain values

-- how a plain value with this tag is refused there, or none; the reader has `rest` of the bytes before the innermost
-- end
abbrev pub refusal_in : Option ℕ → ℕ → Judge → State → List ℕ → Option Refusal
refusal_in None tag judge s rest = plain_refusal tag judge (is_hard s.end) s.until_end rest
refusal_in (Some number) tag judge s rest = inside_refusal tag judge s.until_end rest

abbrev pub refusal_at : ℕ → Judge → State → List ℕ → Option Refusal
refusal_at tag judge s rest = refusal_in s.implicit_tag tag judge s rest

-- known bytes were refused with exactly this error, and exactly these bytes are left
pub record IsJustRefused (refusal : List ℕ → Option Refusal) (old new : State) (e : Asn1DerError) (bs : List ℕ) : Type 0
  where
    pub left : List ℕ
    pub refused : refusal (take old.until_end bs) ≡ Some (e, left)
    pub input : new.input ≡ Some (left ++ drop old.until_end bs)
    -- a peeked byte stays where nothing was consumed, and else was the first
    pub kept : new.consumed ≡ old.consumed → new.peeked ≡ old.peeked
    pub used : old.consumed < new.consumed → new.peeked ≡ None

abbrev pub AreJustRefused : (List ℕ → Option Refusal) → State → State → Asn1DerError → Type 0
AreJustRefused refusal old new e = IsJudged old new e → (bs : List ℕ) → old.input ≡ Some bs
    → IsJustRefused refusal old new e bs

-- known bytes aren't refused
abbrev pub AreNotRefused : (List ℕ → Option Refusal) → State → Type 0
AreNotRefused refusal old = (bs : List ℕ) → old.input ≡ Some bs → refusal (take old.until_end bs) ≡ None

-- a plain value was read, and nothing refuses it
pub record ReadsPlain (tag : ℕ) (judge : Judge) (s : Shape) (old new : State) (t : Tree) : Type 0 where
  pub reads : Reads s old new t
  pub no_refusal : AreNotRefused (refusal_at tag judge old) old

-- a plain value was refused, with exactly its error and rest
pub record RefusesPlain {V : Type 0} (meaning : V → Tree) (tag : ℕ) (judge : Judge) (s : Shape) (old new : State)
    (e : Asn1DerError) : Type 0 where
  pub refuses : Refuses meaning s old new e
  pub just : AreJustRefused (refusal_at tag judge old) old new e
  pub by : RefusesBy (plain_rule tag judge) old new e

-- ---- the kinds of plain values

-- a value of a primitive kind was read, by a judge of its content
abbrev pub ReadsJudged : PrimitiveShape → Judge → State → State → Primitive → Type 0
ReadsJudged k judge old new p = ReadsPlain (shape_tag k) judge (Shape.primitive k) old new (Tree.primitive p)

abbrev pub RefusesJudged : {V : Type 0} → (V → Primitive) → PrimitiveShape → Judge → State → State → Asn1DerError
    → Type 0
RefusesJudged meaning k judge old new e =
    RefusesPlain (λ v. Tree.primitive (meaning v)) (shape_tag k) judge (Shape.primitive k) old new e

-- by that of the kind
abbrev pub ReadsPrimitive : PrimitiveShape → State → State → Primitive → Type 0
ReadsPrimitive k old new p = ReadsJudged k (content_error k) old new p

abbrev pub RefusesPrimitive : {V : Type 0} → (V → Primitive) → PrimitiveShape → State → State → Asn1DerError → Type 0
RefusesPrimitive meaning k old new e = RefusesJudged meaning k (content_error k) old new e

-- a number of an integer type, by a test of which numbers it has
abbrev pub ReadsInt : (ℤ → Bool) → State → State → ℤ → Type 0
ReadsInt fits old new z = ReadsPlain 0x02 (int_error fits) (Shape.primitive (PrimitiveShape.bytes 0x02)) old new
    (integer_tree z)

abbrev pub RefusesInt : (ℤ → Bool) → State → State → Asn1DerError → Type 0
RefusesInt fits old new e =
    RefusesPlain (int_tree fits) 0x02 (int_error fits) (Shape.primitive (PrimitiveShape.bytes 0x02)) old new e
