-- Which types of ASN.1 have only values that are written in DER.
use Rattle.std.specs.Prelude.{◌≡◌, ℕ, Bool, true, false, not, ◌&&◌, List, [], ◌∷◌, nat_le, ◌==◌, if◌then◌else◌}
use Rattle.picky_der_core.specs.declared.asn1.wrapper.Wrapper.{Wrapper}
use Rattle.picky_der_core.specs.declared.asn1.wrapper.Wrapper.TheVariants.{OctetContainer, BitContainer, Explicit}
use Rattle.picky_der_core.specs.declared.asn1.wrapper.Wrapper.TheVariants.{Implicit, Application, ImplicitList}
use Rattle.picky_der_core.specs.Tag.{is_constructed}
use Rattle.picky_der_core.specs.Tree.{Tree}
use Rattle.picky_der_core.specs.Shape.{contains}
use Rattle.der_types.specs.Denotes.{Denotes}
use Rattle.der_types.specs.Notation.{Notation, Member, Members, Alternatives}
use Rattle.der_show.specs.Written.{IsChecked}

-- the restricted strings but for UTF8String (X.680, 41, table 8)
abbrev pub string_tags : List ℕ
string_tags = 0x12 ∷ 0x13 ∷ 0x14 ∷ 0x15 ∷ 0x16 ∷ 0x19 ∷ 0x1A ∷ 0x1B ∷ 0x1C ∷ 0x1E ∷ []

-- not a universal one
abbrev pub is_free_tag : ℕ → Bool
is_free_tag tag = nat_le 0x40 tag

-- one under which any content may be
abbrev pub is_content_tag : ℕ → Bool
is_content_tag tag = if tag == 0x04 then true else (is_free_tag tag && not (is_constructed tag))

-- its values have elements in them, or headers of their own
abbrev pub has_elements : Notation → Bool
has_elements (Notation.sequence ms) = true
has_elements (Notation.list-of kind t) = true
has_elements (Notation.wrapped w t) = true
has_elements (Notation.sized least most t) = has_elements t
has_elements _ = false

-- what is in a string or in a primitive tag is any content, and a tag of one's own has no rule
abbrev pub is_checked_in : Wrapper → Bool → Bool → Bool
is_checked_in OctetContainer elements checked = true
is_checked_in BitContainer elements checked = true
is_checked_in (Explicit n) elements checked = checked
is_checked_in (Implicit n) elements checked = true
is_checked_in (Application n) elements checked = checked
is_checked_in (ImplicitList tag) elements checked = is_free_tag tag && elements && checked

-- no part of it is any element, any content under a tag that has a rule, or a list under a universal tag
abbrev mutual
  pub is_checked : Notation → Bool
  is_checked (Notation.restricted-string tag) = contains string_tags tag
  is_checked (Notation.any-content tag) = is_content_tag tag
  is_checked Notation.any-element = false
  is_checked Notation.well-formed-element = false
  is_checked (Notation.sequence ms) = are_members_checked ms
  is_checked (Notation.choice ts) = are_alternatives_checked ts
  is_checked (Notation.list-of kind t) = is_checked t
  is_checked (Notation.wrapped w t) = is_checked_in w (has_elements t) (is_checked t)
  is_checked (Notation.content-under tag t) = is_content_tag tag
  is_checked (Notation.in-range least most t) = is_checked t
  is_checked (Notation.at-least least t) = is_checked t
  is_checked (Notation.at-most most t) = is_checked t
  is_checked (Notation.outside least most t) = is_checked t
  is_checked (Notation.sized least most t) = is_checked t
  is_checked (Notation.permitted ranges t) = is_checked t
  is_checked (Notation.listed contents t) = is_checked t
  is_checked (Notation.unlisted contents t) = is_checked t
  is_checked (Notation.begun-otherwise bytes) = false
  is_checked (Notation.encoded t) = false
  is_checked (Notation.element-of ts) = false
  is_checked _ = true

  pub is_member_checked : Member → Bool
  is_member_checked (Member.required t) = is_checked t
  is_member_checked (Member.optional t) = is_checked t
  is_member_checked (Member.defaulted value t) = is_checked t

  pub are_members_checked : Members → Bool
  are_members_checked Members.end = true
  are_members_checked (Members.member m ms) = is_member_checked m && are_members_checked ms
  are_members_checked (Members.added ms) = are_members_checked ms
  are_members_checked (Members.others excluded) = false
  are_members_checked (Members.others-from least) = false
  are_members_checked (Members.well-formed ms) = false

  pub are_alternatives_checked : Alternatives → Bool
  are_alternatives_checked Alternatives.none = true
  are_alternatives_checked (Alternatives.alternative t ts) = is_checked t && are_alternatives_checked ts

-- each tree that such a type denotes is checked
abbrev pub DenotesChecked : Type 0
DenotesChecked = (n : Notation) → is_checked n ≡ true → (t : Tree) → Denotes n t → IsChecked t
