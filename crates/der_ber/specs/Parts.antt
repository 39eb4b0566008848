-- What is written of elements.
use Rattle.std.specs.Prelude.{◌≡◌, ℕ, Bool, true, ◌&&◌, List, [], ◌∷◌, ◌++◌, length}
use Rattle.std.specs.List.{flat_map}
use Rattle.picky_der_core.specs.Element.{length_octets}
use Rattle.der_ber.specs.declared.parts.Part.{Part}
use Rattle.der_ber.specs.declared.parts.Part.TheVariants as part
use Rattle.der_ber.specs.Nodes.{Nodes}
use Rattle.der_ber.specs.Strings.{is_part}

abbrev pub part_bytes : Part → List ℕ
part_bytes (part.Header tag content_len) = tag ∷ length_octets content_len
part_bytes (part.Content content) = content.now
part_bytes (part.UnusedBits count) = count ∷ []

abbrev pub written : List Part → List ℕ
written parts = flat_map part_bytes parts

-- parts with these bytes, which are so many, were appended
pub record IsAppended (old new : List Part) (bytes : List ℕ) (size : ℕ) : Type 0 where
  pub parts : List Part
  pub appended : new ≡ old ++ parts
  pub writes : written parts ≡ bytes
  pub counted : size ≡ length bytes

-- ---- the parts of elements whose strings stay in parts

-- the content in a part
abbrev pub content_in : Part → List (List ℕ)
content_in (part.Header tag content_len) = []
content_in (part.Content content) = content.now ∷ []
content_in (part.UnusedBits count) = []

-- the contents in these parts
abbrev pub contents : List Part → List (List ℕ)
contents parts = flat_map content_in parts

-- it has no tag but that of a part of a string
abbrev pub is_in : ℕ → Part → Bool
is_in segment (part.Header tag content_len) = is_part segment tag
is_in segment (part.Content content) = true
is_in segment (part.UnusedBits count) = true

abbrev pub are_in : ℕ → List Part → Bool
are_in segment [] = true
are_in segment (p ∷ parts) = is_in segment p && are_in segment parts

-- the first parts are the header and the content of a primitive element
pub record BeginsPrimitivePart (tag : ℕ) (content : List ℕ) (AreOthers : List Part → Type 0) (parts : List Part) :
    Type 0 where
  pub content_len : ℕ
  pub second : Part
  pub others : List Part
  pub is : parts ≡ part.Header tag content_len ∷ (second ∷ others)
  pub is_content : content_in second ≡ content ∷ []
  pub no_tag : (segment : ℕ) → is_in segment second ≡ true
  pub after : AreOthers others

-- they are the header of a constructed one, and those of the elements in it
pub record BeginsConstructedPart (tag : ℕ) (AreInside AreOthers : List Part → Type 0) (parts : List Part) : Type 0 where
  pub content_len : ℕ
  pub within : List Part
  pub others : List Part
  pub is : parts ≡ part.Header tag content_len ∷ (within ++ others)
  pub inside : AreInside within
  pub after : AreOthers others

abbrev pub ArePartsOf : Nodes → List Part → Type 0
ArePartsOf Nodes.none parts = parts ≡ []
ArePartsOf (Nodes.primitive tag content after) parts = BeginsPrimitivePart tag content (ArePartsOf after) parts
ArePartsOf (Nodes.constructed tag inside after) parts =
    BeginsConstructedPart tag (ArePartsOf inside) (ArePartsOf after) parts
