-- What is in a value of a type, by the form of the type.
use Rattle.std.proofs.Common.{◌≡◌, ℕ, Bool, true, false, List, ◌++◌, Some, sym, refl, subst}
use Rattle.serde_json.specs.Data.{Data, no_members}
use Rattle.picky_der_core.specs.Element.{tlv}
use Rattle.picky_der_core.specs.Encoding.{plain_encoding}
use Rattle.picky_der_core.specs.Wrapper.{wrapper_tag, wrapper_front, keeps_header}
use Rattle.picky_der_core.specs.declared.asn1.wrapper.Wrapper.{Wrapper}
use Rattle.der_schema.specs.declared.node.Alternative.{Alternative}
use Rattle.der_schema.specs.declared.node.Kind.{Kind}
use Rattle.der_schema.specs.declared.node.Kind.TheVariants as kind
use Rattle.der_schema.specs.declared.node.Member.{Member}
use Rattle.der_schema.specs.declared.node.Node.{Node}
use Rattle.der_json.specs.Contents.{IsPlain, plain_tag}
use Rattle.der_json.specs.Json.{AreMembers, IsAlternative, IsAny, IsArray, IsJson, IsOfKind, alternatives_in, is_any}
use Rattle.der_json.specs.Json.{list_of, members_in, same_as, wrapped_data}

-- what the JSON of a type's values is made of
pub data Form : Type 0 where
  plain : Form
  same : ℕ → Form
  sequence : List Member → Form
  list : ℕ × ℕ → Form
  choice : List Alternative → Form
  wrapped : Wrapper → ℕ → Form
  under : ℕ → ℕ → Form
  any : Form

abbrev pub form_of : Kind → Form
form_of (kind.Reference i) = Form.same i
form_of (kind.InRange least most i) = Form.same i
form_of (kind.AtLeast least i) = Form.same i
form_of (kind.AtMost most i) = Form.same i
form_of (kind.Outside least most i) = Form.same i
form_of (kind.Sized least most i) = Form.same i
form_of (kind.Permitted ranges i) = Form.same i
form_of (kind.Sequence members) = Form.sequence members.now
form_of (kind.SequenceOf i) = Form.list (0x30, i)
form_of (kind.SetOf i) = Form.list (0x31, i)
form_of (kind.Choice alternatives) = Form.choice alternatives.now
form_of (kind.Wrapped w i) = Form.wrapped w i
form_of (kind.ContentUnder tag i) = Form.under tag i
form_of kind.AnyElement = Form.any
form_of kind.WellFormedElement = Form.any
form_of _ = Form.plain

pub plain_form : (k : Kind) (tag : ℕ) → plain_tag k ≡ Some tag → form_of k ≡ Form.plain
plain_form kind.Boolean tag e = refl
plain_form _ tag e = cc

pub same_form : (k : Kind) (j : ℕ) → same_as k ≡ Some j → form_of k ≡ Form.same j
same_form (kind.Reference i) j e = cc
same_form _ j e = cc

pub sequence_form : (k : Kind) (ms : List Member) → members_in k ≡ Some ms → form_of k ≡ Form.sequence ms
sequence_form (kind.Sequence members) ms e = cc
sequence_form _ ms e = cc

pub list_form : (k : Kind) (p : ℕ × ℕ) → list_of k ≡ Some p → form_of k ≡ Form.list p
list_form (kind.SequenceOf i) p e = cc
list_form _ p e = cc

pub choice_form : (k : Kind) (cs : List Alternative) → alternatives_in k ≡ Some cs → form_of k ≡ Form.choice cs
choice_form (kind.Choice alternatives) cs e = cc
choice_form _ cs e = cc

pub any_form : (k : Kind) → is_any k ≡ true → form_of k ≡ Form.any
any_form kind.AnyElement e = refl
any_form _ e = cc

pub record IsSequence (nodes : List Node) (ms : List Member) (header : Bool) (bytes : List ℕ) (d : Data)
    : Type 0 where
  pub content : List ℕ
  pub encoded : bytes ≡ plain_encoding header 0x30 content
  pub members : AreMembers nodes ms content no_members d

-- of the tag and the index of the items' type
pub record IsListed (nodes : List Node) (p : ℕ × ℕ) (header : Bool) (bytes : List ℕ) (d : Data) : Type 0 where
  pub content : List ℕ
  pub encoded : bytes ≡ plain_encoding header p.0 content
  pub inside : IsArray nodes p.1 content d

pub record IsWrapped (nodes : List Node) (w : Wrapper) (j : ℕ) (bytes : List ℕ) (d : Data) : Type 0 where
  pub content : List ℕ
  pub encoded : bytes ≡ tlv (wrapper_tag w) (wrapper_front w ++ content)
  pub inside : Data
  pub json : IsJson nodes j (keeps_header w) content inside
  pub is : d ≡ wrapped_data w inside

pub record IsUnder (nodes : List Node) (tag j : ℕ) (header : Bool) (bytes : List ℕ) (d : Data) : Type 0 where
  pub content : List ℕ
  pub encoded : bytes ≡ plain_encoding header tag content
  pub json : IsJson nodes j false content d

-- the value of a kind of this form
abbrev pub IsFormed : List Node → Kind → Form → Bool → List ℕ → Data → Type 0
IsFormed nodes k Form.plain header bytes d = IsPlain k header bytes d
IsFormed nodes k (Form.same j) header bytes d = IsJson nodes j header bytes d
IsFormed nodes k (Form.sequence ms) header bytes d = IsSequence nodes ms header bytes d
IsFormed nodes k (Form.list p) header bytes d = IsListed nodes p header bytes d
IsFormed nodes k (Form.choice cs) header bytes d = IsAlternative nodes cs header bytes d
IsFormed nodes k (Form.wrapped w j) header bytes d = IsWrapped nodes w j bytes d
IsFormed nodes k (Form.under tag j) header bytes d = IsUnder nodes tag j header bytes d
IsFormed nodes k Form.any header bytes d = IsAny bytes d

-- of the only kind that a node has
of_kind : (nodes : List Node) (i : ℕ) (k l : Kind) (form : Form) (header : Bool) (bytes : List ℕ) (d : Data)
    → IsOfKind nodes i k → IsOfKind nodes i l → form_of k ≡ form → IsFormed nodes k form header bytes d
    → IsFormed nodes l (form_of l) header bytes d
of_kind nodes i k l form header bytes d of it is x =
    let same : k ≡ l = cc (of, it) in
    subst (λ (o : Kind). IsFormed nodes o (form_of o) header bytes d) same
    (subst (λ (f : Form). IsFormed nodes k f header bytes d) (sym is) x)

-- what is in a value of a node's type
pub formed : (nodes : List Node) (i : ℕ) (header : Bool) (bytes : List ℕ) (d : Data) → IsJson nodes i header bytes d
    → (k : Kind) → IsOfKind nodes i k → IsFormed nodes k (form_of k) header bytes d
formed nodes i header bytes d (IsJson.plain _ _ _ l _ _ of x) k it =
    of_kind nodes i l k Form.plain header bytes d of it (plain_form l x.tag x.has_tag) x
formed nodes i header bytes d (IsJson.same _ _ j _ l _ _ of is x) k it =
    of_kind nodes i l k (Form.same j) header bytes d of it (same_form l j is) x
formed nodes i header bytes d (IsJson.sequence _ _ _ l ms content _ _ of is encoded x) k it =
    let these : IsSequence nodes ms header bytes d =
    record { content = content; encoded = encoded; members = x } in
    of_kind nodes i l k (Form.sequence ms) header bytes d of it (sequence_form l ms is) these
formed nodes i header bytes d (IsJson.list _ _ j tag _ l content _ ds of is encoded x) k it =
    let items : IsArray nodes j content d = record { items = ds; each = x; is = refl } in
    let these : IsListed nodes (tag, j) header bytes d =
    record { content = content; encoded = encoded; inside = items } in
    of_kind nodes i l k (Form.list (tag, j)) header bytes d of it (list_form l (tag, j) is) these
formed nodes i header bytes d (IsJson.choice _ _ place _ l cs a _ v of is there x) k it =
    let these : IsAlternative nodes cs header bytes d =
    record { place = place; alternative = a; there = there; inside = v; json = x; is = refl } in
    of_kind nodes i l k (Form.choice cs) header bytes d of it (choice_form l cs is) these
formed nodes i header bytes d (IsJson.wrapped _ _ j _ w content _ v of encoded x) k it =
    let these : IsWrapped nodes w j bytes d =
    record { content = content; encoded = encoded; inside = v; json = x; is = refl } in
    of_kind nodes i (kind.Wrapped w j) k (Form.wrapped w j) header bytes d of it refl these
formed nodes i header bytes d (IsJson.content-under _ _ j tag _ content _ _ of encoded x) k it =
    let these : IsUnder nodes tag j header bytes d =
    record { content = content; encoded = encoded; json = x } in
    of_kind nodes i (kind.ContentUnder tag j) k (Form.under tag j) header bytes d of it refl these
formed nodes i header bytes d (IsJson.any _ _ _ l _ _ of is x) k it =
    of_kind nodes i l k Form.any header bytes d of it (any_form l is) x

-- another value of the type, of the form that the first one has
pub as_formed : (nodes : List Node) (k : Kind) (form : Form) (header : Bool) (t : List ℕ) (e : Data) → form_of k ≡ form
    → IsFormed nodes k (form_of k) header t e → IsFormed nodes k form header t e
as_formed nodes k form header t e is x = subst (λ (f : Form). IsFormed nodes k f header t e) is x
