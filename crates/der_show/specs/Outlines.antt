-- What comes of going over bytes.
use Rattle.std.specs.Prelude.{◌≡◌, ℕ, ◌+◌, ◌<◌, ◌≤◌, true, false, List, [], ◌∷◌, ◌++◌, length, Some, MatchOption}
use Rattle.std.specs.Prelude.{slice_range}
use Rattle.picky_der_core.specs.Tag.{is_constructed}
use Rattle.picky_der_core.specs.Element.{tlv}
use Rattle.der_show.specs.declared.element.Element.{Element}
use Rattle.der_show.specs.declared.outline.Complaint.{Complaint}
use Rattle.der_show.specs.declared.outline.Outline.{Outline}
use Rattle.der_show.specs.declared.outline.Front.{Front}
use Rattle.der_show.specs.declared.outline.Front.TheVariants as front
use Rattle.der_show.specs.declared.rule.Rule.{Rule}
use Rattle.der_show.specs.declared.header.Header.{Header}
use Rattle.der_show.specs.Headers.{BreaksHeader}
use Rattle.der_show.specs.Contents.{form_rule, BreaksContent}
use Rattle.der_show.specs.Ends.{innermost}
use Rattle.der_show.specs.Nodes.{Nodes, encoding, IsCanonical, AreCanonical, header_size, elements}

-- the element at the front of the bytes, which end where the one around it does, breaks this rule
pub data Breaks (bytes : List ℕ) (r : Rule) : Type 0 where
  header : BreaksHeader bytes r → Breaks bytes r
  form : (tag : ℕ) (content rest : List ℕ) → bytes ≡ tlv tag content ++ rest → form_rule tag ≡ Some r → Breaks bytes r
  content : (tag : ℕ) (content rest : List ℕ) → bytes ≡ tlv tag content ++ rest → BreaksContent tag content r
      → Breaks bytes r

-- the bytes begin with an element in DER, whose header this is
pub record IsFound (bytes : List ℕ) (h : Header) : Type 0 where
  pub content : List ℕ
  pub rest : List ℕ
  pub is : bytes ≡ tlv h.tag content ++ rest
  pub canonical : IsCanonical h.tag content
  pub content_len : h.content_len ≡ length content
  pub header_len : h.header_len ≡ header_size (length content)

-- what is at the front of the bytes
abbrev pub IsFront : List ℕ → Front → Type 0
IsFront bytes (front.Element h) = IsFound bytes h
IsFront bytes (front.Broken r) = Breaks bytes r

-- these are the elements of the bytes, and each is in DER
pub record IsListed (bytes : List ℕ) (es : List Element) : Type 0 where
  pub nodes : Nodes
  pub canonical : AreCanonical nodes
  pub is : bytes ≡ encoding nodes
  pub listed : es ≡ elements 0 0 nodes

-- the bytes are elements in DER
abbrev pub AreElements : List ℕ → Type 0
AreElements bytes = (es : List Element) × IsListed bytes es

-- ---- up to an element that isn't in DER

-- what is listed of an element with this header
abbrev pub listed_at : ℕ → ℕ → Header → Element
listed_at depth offset h = record {
  offset = offset;
  depth = depth;
  tag = h.tag;
  header_len = h.header_len;
  content_len = h.content_len;
}

-- The elements before an offset, each in DER but for what isn't before it, and the ends of those that it is in.
pub data IsBefore (bytes : List ℕ) : List ℕ → ℕ → List Element → Type 0 where
  none : IsBefore bytes [] 0 []
  -- after one more that is primitive
  after : (ends : List ℕ) (at : ℕ) (es : List Element) (h : Header) → IsBefore bytes ends at es
      → IsFound (slice_range bytes at (innermost (length bytes) ends)) h
      → is_constructed h.tag ≡ false
      → IsBefore bytes ends (at + h.header_len + h.content_len) (es ++ (listed_at (length ends) at h ∷ []))
  -- in one more that is constructed
  inside : (ends : List ℕ) (at : ℕ) (es : List Element) (h : Header) → IsBefore bytes ends at es
      → IsFound (slice_range bytes at (innermost (length bytes) ends)) h
      → is_constructed h.tag ≡ true → IsBefore bytes ((at + h.header_len + h.content_len) ∷ ends) (at + h.header_len)
      (es ++ (listed_at (length ends) at h ∷ []))
  -- at the end of the innermost
  ended : (ends : List ℕ) (at : ℕ) (es : List Element) → IsBefore bytes (at ∷ ends) at es → IsBefore bytes ends at es

-- The bytes aren't elements in DER. The one at the offset, with the bytes up to the end of the one around it, breaks
-- the rule, and these are the elements before it.
pub record IsRefused (bytes : List ℕ) (es : List Element) (c : Complaint) : Type 0 where
  pub none : (nodes : Nodes) → AreCanonical nodes → bytes ≡ encoding nodes → ⊥
  pub ends : List ℕ
  pub before : IsBefore bytes ends c.offset es
  pub inside : c.offset < innermost (length bytes) ends
  pub within : innermost (length bytes) ends ≤ length bytes
  pub breaks : Breaks (slice_range bytes c.offset (innermost (length bytes) ends)) c.rule

-- the same, whatever elements are before it
abbrev pub IsComplaint : List ℕ → Complaint → Type 0
IsComplaint bytes c = (es : List Element) × IsRefused bytes es c

abbrev pub IsOutline : List ℕ → Outline → Type 0
IsOutline bytes o = MatchOption o.complaint (IsListed bytes o.elements.items) (IsRefused bytes o.elements.items)
