-- Elements in DER, whatever their types, and what is listed of them.
use Rattle.std.specs.Prelude.{◌≡◌, ℕ, ◌+◌, true, false, List, [], ◌∷◌, ◌++◌, length, None, ⊤}
use Rattle.picky_der_core.specs.Tag.{number_of, IsTagNumber, is_constructed}
use Rattle.picky_der_core.specs.Element.{length_octets, tlv}
use Rattle.der_show.specs.declared.element.Element.{Element}
use Rattle.der_show.specs.Contents.{form_rule, IsContent}

-- elements one after another, the first of them with a content of its own or with elements in it
pub data Nodes : Type 0 where
  none : Nodes
  primitive : ℕ → List ℕ → Nodes → Nodes
  constructed : ℕ → Nodes → Nodes → Nodes

unfoldable pub encoding : Nodes → List ℕ
encoding Nodes.none = []
encoding (Nodes.primitive tag content after) = tlv tag content ++ encoding after
encoding (Nodes.constructed tag inside after) = tlv tag (encoding inside) ++ encoding after

-- the tag has the short form, its type may have such an encoding, and the content is one that DER has
pub record IsCanonical (tag : ℕ) (content : List ℕ) : Type 0 where
  pub number : IsTagNumber (number_of tag)
  pub form : form_rule tag ≡ None
  pub is_content : IsContent tag content

-- each element is in DER
abbrev pub AreCanonical : Nodes → Type 0
AreCanonical Nodes.none = ⊤
AreCanonical (Nodes.primitive tag content after) = IsCanonical tag content × (is_constructed tag ≡ false)
    × AreCanonical after
AreCanonical (Nodes.constructed tag inside after) = IsCanonical tag (encoding inside) × (is_constructed tag ≡ true)
    × AreCanonical inside × AreCanonical after

-- how many bytes the tag and the length take before a content of so many
abbrev pub header_size : ℕ → ℕ
header_size n = 1 + length (length_octets n)

-- what is listed of an element
abbrev pub element : ℕ → ℕ → ℕ → ℕ → Element
element depth offset tag n = record {
  offset = offset;
  depth = depth;
  tag = tag;
  header_len = header_size n;
  content_len = n;
}

-- what is listed of elements at this depth and from this offset on: each before those in it
unfoldable pub elements : ℕ → ℕ → Nodes → List Element
elements depth offset Nodes.none = []
elements depth offset (Nodes.primitive tag content after) =
    element depth offset tag (length content) ∷ elements depth (offset + header_size (length content) + length content)
    after
elements depth offset (Nodes.constructed tag inside after) =
    element depth offset tag (length (encoding inside))
    ∷ (elements (depth + 1) (offset + header_size (length (encoding inside))) inside
    ++ elements depth (offset + header_size (length (encoding inside)) + length (encoding inside)) after)
