-- The bytes of elements whose lengths have any form (X.690, 8.1.1 to 8.1.5).
use Rattle.std.specs.Prelude.{◌≡◌, ℕ, Bool, true, false, ◌||◌, ◌==◌, List, [], ◌∷◌, ◌++◌, length}
use Rattle.picky_der_core.specs.Tag.{number_of, IsTagNumber, is_constructed}
use Rattle.der_ber.specs.Nodes.{Nodes}
use Rattle.der_ber.specs.Lengths.{IsLength}

-- The number 0 of the universal class is reserved for the rules of encoding (X.680, 8.6): 00 begins an end-of-contents.
abbrev pub is_reserved : ℕ → Bool
is_reserved tag = (tag == 0x00) || (tag == 0x20)

-- a tag of the short form that a type may have, of a primitive encoding or of a constructed one (8.1.2)
pub record IsTag (tag : ℕ) (constructed : Bool) : Type 0 where
  pub number : IsTagNumber (number_of tag)
  pub free : is_reserved tag ≡ false
  pub form : is_constructed tag ≡ constructed

-- the bytes are a tag, a length of the definite form and this content, and others after it
pub record IsDefinite (tag : ℕ) (content bytes after : List ℕ) : Type 0 where
  pub octets : List ℕ
  pub is_length : IsLength (length content) octets
  pub is : bytes ≡ tag ∷ (octets ++ (content ++ after))

-- the first element is primitive, and has the definite form (8.1.3.2)
pub record BeginsPrimitive (tag : ℕ) (content : List ℕ) (AreOthers : List ℕ → Type 0) (bytes : List ℕ) : Type 0 where
  pub is_tag : IsTag tag false
  pub after : List ℕ
  pub definite : IsDefinite tag content bytes after
  pub others : AreOthers after

-- the first element is constructed, and has the definite form, or the indefinite one with an end-of-contents (8.1.5)
pub data BeginsConstructed (tag : ℕ) (AreInside AreOthers : List ℕ → Type 0) (bytes : List ℕ) : Type 0 where
  definite : (content after : List ℕ) → IsTag tag true → IsDefinite tag content bytes after → AreInside content
      → AreOthers after → BeginsConstructed tag AreInside AreOthers bytes
  indefinite : (content after : List ℕ) → IsTag tag true
      → bytes ≡ tag ∷ (0x80 ∷ (content ++ (0x00 ∷ (0x00 ∷ after)))) → AreInside content → AreOthers after
      → BeginsConstructed tag AreInside AreOthers bytes

-- the bytes are these elements
abbrev pub HasLongLengths : Nodes → List ℕ → Type 0
HasLongLengths Nodes.none bytes = bytes ≡ []
HasLongLengths (Nodes.primitive tag content after) bytes = BeginsPrimitive tag content (HasLongLengths after) bytes
HasLongLengths (Nodes.constructed tag inside after) bytes =
    BeginsConstructed tag (HasLongLengths inside) (HasLongLengths after) bytes
