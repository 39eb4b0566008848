-- Strings in parts, and the same strings in one (X.690, 8.6.4, 8.7.3, 8.23.3).
use Rattle.std.specs.Prelude.{◌≡◌, ◌≢◌, ℕ, ◌≤◌, Bool, true, ◌||◌, ◌&&◌, ◌==◌, nat_le, nat_lt, if◌then◌else◌}
use Rattle.std.specs.Prelude.{List, [], ◌∷◌, ◌++◌, length, Option, Some, None}
use Rattle.std.specs.List.{concat}
use Rattle.picky_der_core.specs.Tag.{number_of}
use Rattle.der_ber.specs.declared.strings.Strings.{Strings}
use Rattle.der_ber.specs.declared.strings.Strings.TheVariants.{InParts, Whole}
use Rattle.der_ber.specs.declared.strings.WholeString.{WholeString}
use Rattle.der_ber.specs.Nodes.{Nodes}

-- ---- which elements are strings in parts

-- The tags of constructed octet strings, and of the types that are encoded as if they were octet strings: those of
-- characters (8.23.3), times and object descriptors, which X.680 defines by them (8.25, 47 and 48 there).
abbrev pub is_octets : ℕ → Bool
is_octets tag =
    (tag == 0x24)
    || (tag == 0x27)
    || (tag == 0x2C)
    || (nat_le 0x32 tag && nat_le tag 0x3C)
    || (tag == 0x3E)

-- the tag of the primitive parts of a string, if this is the tag of a constructed one (8.6.4.1, 8.7.3.2)
abbrev pub segment_tag : ℕ → Option ℕ
segment_tag tag = if tag == 0x23 then Some 0x03 else (if is_octets tag then Some 0x04 else None)

-- the same, where strings in parts become primitive
abbrev pub segment_of : Strings → ℕ → Option ℕ
segment_of InParts tag = None
segment_of Whole tag = segment_tag tag

-- the same of the first element
abbrev pub segment_first : List ℕ → Option ℕ
segment_first [] = None
segment_first (tag ∷ rest) = segment_tag tag

abbrev pub segment_at : Strings → List ℕ → Option ℕ
segment_at InParts bytes = None
segment_at Whole bytes = segment_first bytes

-- the first element is a string in parts that becomes primitive, with these tags
pub record IsStringAt (strings : Strings) (bytes : List ℕ) (string : WholeString) : Type 0 where
  pub first : ℕ
  pub rest : List ℕ
  pub is : bytes ≡ first ∷ rest
  pub is_string : segment_of strings first ≡ Some string.segment
  pub tag : string.tag ≡ number_of first

-- ---- their parts

-- a universal tag with this number, of a primitive encoding or of a constructed one
abbrev pub is_part : ℕ → ℕ → Bool
is_part segment tag = (number_of tag == segment) && nat_lt tag 0x40

-- at every depth
abbrev pub are_segments : ℕ → Nodes → Bool
are_segments segment Nodes.none = true
are_segments segment (Nodes.primitive tag content after) = is_part segment tag && are_segments segment after
are_segments segment (Nodes.constructed tag inside after) =
    is_part segment tag && (are_segments segment inside && are_segments segment after)

-- the contents of the primitive ones in the order of the bytes
abbrev pub segments : Nodes → List (List ℕ)
segments Nodes.none = []
segments (Nodes.primitive tag content after) = content ∷ segments after
segments (Nodes.constructed tag inside after) = segments inside ++ segments after

-- how many bits of the last byte may be unused (8.6.2.2 and 8.6.2.3)
abbrev pub most_unused : List ℕ → ℕ
most_unused bits = if length bits == 0 then 0 else 7

-- The first segment of a bit string has bits, and others have those after them. Only the last has unused bits (8.6.4).
pub data BeginsBits (segment : List ℕ) (others : List (List ℕ)) (AreOthers : ℕ → List ℕ → Type 0) (unused : ℕ)
    (bits : List ℕ) : Type 0 where
  last : others ≡ [] → segment ≡ unused ∷ bits → unused ≤ most_unused bits
      → BeginsBits segment others AreOthers unused bits
  more : (first rest : List ℕ) → segment ≡ 0x00 ∷ first → bits ≡ first ++ rest → AreOthers unused rest
      → BeginsBits segment others AreOthers unused bits

-- segments have these bits, and so many are unused
abbrev pub AreBits : List (List ℕ) → ℕ → List ℕ → Type 0
AreBits [] unused bits = (unused ≡ 0) × (bits ≡ [])
AreBits (segment ∷ others) unused bits = BeginsBits segment others (AreBits others) unused bits

-- the content of a primitive bit string that has the bits of these segments (8.6.2)
pub record IsBitString (segments : List (List ℕ)) (content : List ℕ) : Type 0 where
  pub unused : ℕ
  pub bits : List ℕ
  pub are_bits : AreBits segments unused bits
  pub is : content ≡ unused ∷ bits

-- the content of a primitive string that has the value of these segments
pub data IsJoined (segment : ℕ) (segments : List (List ℕ)) (content : List ℕ) : Type 0 where
  bits : segment ≡ 0x03 → IsBitString segments content → IsJoined segment segments content
  octets : segment ≢ 0x03 → content ≡ concat segments → IsJoined segment segments content

-- the elements in a constructed string are its parts, and this is the content of the primitive one
pub record IsWholeContent (segment : ℕ) (inside : Nodes) (content : List ℕ) : Type 0 where
  pub parts : are_segments segment inside ≡ true
  pub joined : IsJoined segment (segments inside) content

-- ---- elements with the strings in them

-- a primitive element stays
pub record BeginsSame (tag : ℕ) (content : List ℕ) (AreOthers : Nodes → Type 0) (whole : Nodes) : Type 0 where
  pub after : Nodes
  pub is : whole ≡ Nodes.primitive tag content after
  pub others : AreOthers after

-- a constructed one becomes primitive if it is a string, and else the elements in it do
pub data BeginsWhole (segment : Option ℕ) (tag : ℕ) (inside : Nodes) (AreInside AreOthers : Nodes → Type 0)
    (whole : Nodes) : Type 0 where
  string : (part : ℕ) (content : List ℕ) (after : Nodes) → segment ≡ Some part → IsWholeContent part inside content
      → whole ≡ Nodes.primitive (number_of tag) content after → AreOthers after
      → BeginsWhole segment tag inside AreInside AreOthers whole
  other : (within after : Nodes) → segment ≡ None → AreInside within
      → whole ≡ Nodes.constructed tag within after → AreOthers after
      → BeginsWhole segment tag inside AreInside AreOthers whole

-- The elements are these, whose strings in parts are in one part there.
abbrev pub HasParts : Strings → Nodes → Nodes → Type 0
HasParts strings Nodes.none whole = whole ≡ Nodes.none
HasParts strings (Nodes.primitive tag content after) whole = BeginsSame tag content (HasParts strings after) whole
HasParts strings (Nodes.constructed tag inside after) whole =
    BeginsWhole (segment_of strings tag) tag inside (HasParts strings inside) (HasParts strings after) whole
