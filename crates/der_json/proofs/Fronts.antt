-- With which tag a value begins, by its JSON: one of its type's, so that alternatives and members are distinguished.
use Rattle.std.proofs.Common.{◌≡◌, ℕ, zero, suc, ◌+◌, Bool, true, false, ◌||◌, List, [], ◌∷◌, ◌++◌, map}
use Rattle.std.proofs.Common.{Option, Some, None, refl, sym, ap, ◌∙◌, subst}
use Rattle.std.proofs.lemmas.Bool.{false≢true, eq-eqb}
use Rattle.std.specs.List.{list_all}
use Rattle.std.specs.Prelude.{◌==◌, if◌then◌else◌, option_map, slice_get}
use Rattle.serde_json.specs.Data.{Data, Members}
use Rattle.picky_der_core.specs.Element.{tlv}
use Rattle.picky_der_core.specs.ElementLaws.{tlv_prefix}
use Rattle.picky_der_core.specs.Encoding.{plain_encoding}
use Rattle.picky_der_core.specs.Shape.{contains}
use Rattle.picky_der_core.specs.Tag.{is_constructed}
use Rattle.picky_der_core.specs.Wrapper.{wrapper_tag, wrapper_front}
use Rattle.der_types.specs.CharacterStringLaws.{both}
use Rattle.der_schema.specs.declared.node.Alternative.{Alternative}
use Rattle.der_schema.specs.declared.node.Kind.{Kind}
use Rattle.der_schema.specs.declared.node.Kind.TheVariants as kind
use Rattle.der_schema.specs.declared.node.Member.{Member}
use Rattle.der_schema.specs.declared.node.Node.{Node}
use Rattle.der_schema.specs.declared.node.Presence.{Presence}
use Rattle.der_schema.specs.declared.node.Presence.TheVariants as presence
use Rattle.der_schema.specs.OneForm.{has_short_tag}
use Rattle.der_schema.specs.Rules.{are_all_apart, are_members_apart, is_required, next_tags}
use Rattle.der_schema.specs.Tags.{alternatives_of, are_apart, has_tag, own_tag, same_type, tags_at, tags_of_any}
use Rattle.der_schema.specs.Tags.{tags_of_kind, tags_of_node, tags_of_own}
use Rattle.der_schema.proofs.TagSets.{has-left, has-right, kind-alternatives, kind-any, kind-own, kind-same_type}
use Rattle.der_schema.proofs.TagSets.{none-both, of_alternative, or-first}
use Rattle.der_json.specs.Contents.{plain_tag}
use Rattle.der_json.specs.Json.{AreMembers, IsJson, IsOfKind, alternatives_in, can_be_absent, is_any, list_of}
use Rattle.der_json.specs.Json.{members_in, same_as}

-- the element at the front of a value with its header, whose tag is one of the type's
pub record IsFront (nodes : List Node) (i : ℕ) (s : List ℕ) : Type 0 where
  pub tag : ℕ
  pub content : List ℕ
  pub is : s ≡ tlv tag content
  pub has : (n : ℕ) → has_tag (tags_at nodes n i) tag ≡ true

-- the tag of each type is short
abbrev pub HasShortTags : List Node → Type 0
HasShortTags nodes = (i : ℕ) (k : Kind) → IsOfKind nodes i k → has_short_tag k ≡ true

-- ---- tags of kinds

plain_own : (k : Kind) (tag : ℕ) → plain_tag k ≡ Some tag → own_tag k ≡ Some tag
plain_own kind.Boolean tag e = e
plain_own _ tag e = cc

pub same_types : (k : Kind) (j : ℕ) → same_as k ≡ Some j → same_type k ≡ Some j
same_types (kind.Reference i) j e = e
same_types _ j e = cc

sequence_own : (k : Kind) (ms : List Member) → members_in k ≡ Some ms → own_tag k ≡ Some 0x30
sequence_own (kind.Sequence members) ms e = refl
sequence_own _ ms e = cc

list_own : (k : Kind) (tag j : ℕ) → list_of k ≡ Some (tag, j) → own_tag k ≡ Some tag
list_own (kind.SequenceOf i) tag j e = ap (option_map (λ (p : ℕ × ℕ). p.0)) e
list_own (kind.SetOf i) tag j e = ap (option_map (λ (p : ℕ × ℕ). p.0)) e
list_own _ tag j e = cc

pub choice_alternatives : (k : Kind) (cs : List Alternative) → alternatives_in k ≡ Some cs → alternatives_of k ≡ cs
choice_alternatives (kind.Choice alternatives) cs e = cc
choice_alternatives _ cs e = cc

any_tags : (k : Kind) → is_any k ≡ true → tags_of_any k ≡ None
any_tags kind.AnyElement e = refl
any_tags kind.WellFormedElement e = refl
any_tags _ e = cc

own_has : (tag : ℕ) → has_tag (tags_of_own (Some tag)) tag ≡ true
own_has tag =
    or-first (tag == tag) (contains (if is_constructed (tag + 0x20) then (tag + 0x20) ∷ [] else []) tag)
    (eq-eqb tag tag refl)

-- a tag of the kind of a node is one of the node's
of_node : (o : Option Node) (k : Kind) → option_map (λ node. node.kind) o ≡ Some k → (tags : ℕ → Option (List ℕ))
    (tag : ℕ) → has_tag (tags_of_kind tags k) tag ≡ true → has_tag (tags_of_node tags o) tag ≡ true
of_node None k e tags tag h = absurd (cc)
of_node (Some node) k e tags tag h =
    let same : node.kind ≡ k = cc in
    subst (λ (l : Kind). has_tag (tags_of_kind tags l) tag ≡ true) (sym same) h

at_node : (nodes : List Node) (i : ℕ) (k : Kind) → IsOfKind nodes i k → (tag : ℕ)
    → ((n : ℕ) → has_tag (tags_of_kind (tags_at nodes n) k) tag ≡ true) → (n : ℕ)
    → has_tag (tags_at nodes n i) tag ≡ true
at_node nodes i k of tag each zero = refl
at_node nodes i k of tag each (suc n) = of_node (slice_get nodes i) k of (tags_at nodes n) tag (each n)

-- ---- the front of a value

with_header : (header : Bool) (tag : ℕ) (content s : List ℕ) → header ≡ true → s ≡ plain_encoding header tag content
    → s ≡ tlv tag content
unfolding plain_encoding
with_header true tag content s h e = e
with_header false tag content s h e = absurd (false≢true h)

-- an element with the only tag of its kind
own_front : (nodes : List Node) (i : ℕ) (k : Kind) → IsOfKind nodes i k → (tag : ℕ) (content s : List ℕ)
    → own_tag k ≡ Some tag → s ≡ tlv tag content → IsFront nodes i s
own_front nodes i k of tag content s own is = record {
  tag = tag;
  content = content;
  is = is;
  has = at_node nodes i k of tag (λ n. kind-own (tags_at nodes n) tag k tag own (own_has tag));
}

pub front : (nodes : List Node) (i : ℕ) (header : Bool) (s : List ℕ) (d : Data) → IsJson nodes i header s d
    → header ≡ true → HasShortTags nodes → IsFront nodes i s
front nodes i header s d (IsJson.plain _ _ _ k _ _ of x) h short =
    own_front nodes i k of x.tag x.content s (plain_own k x.tag x.has_tag)
    (with_header header x.tag x.content s h x.encoded)
front nodes i header s d (IsJson.same _ _ j _ k _ _ of is x) h short =
    let f : IsFront nodes j s = front nodes j header s d x h short in
    record {
      tag = f.tag;
      content = f.content;
      is = f.is;
      has = at_node nodes i k of f.tag (λ n. kind-same_type (tags_at nodes n) f.tag k j (same_types k j is) (f.has n));
    }
front nodes i header s d (IsJson.sequence _ _ _ k ms content _ _ of is encoded x) h short =
    own_front nodes i k of 0x30 content s (sequence_own k ms is) (with_header header 0x30 content s h encoded)
front nodes i header s d (IsJson.list _ _ j tag _ k content _ ds of is encoded x) h short =
    own_front nodes i k of tag content s (list_own k tag j is) (with_header header tag content s h encoded)
front nodes i header s d (IsJson.choice _ _ place _ k cs a _ v of is there x) h short =
    let f : IsFront nodes a.node s = front nodes a.node header s v x h short in
    let at : slice_get (alternatives_of k) place ≡ Some a =
    ap (λ (l : List Alternative). slice_get l place) (choice_alternatives k cs is) ∙ there in
    record {
      tag = f.tag;
      content = f.content;
      is = f.is;
      has = at_node nodes i k of f.tag (λ n. kind-alternatives (tags_at nodes n) f.tag k
          (of_alternative (tags_at nodes n) f.tag (alternatives_of k) place a at (f.has n)));
    }
front nodes i header s d (IsJson.wrapped _ _ j _ w content _ v of encoded x) h short =
    own_front nodes i (kind.Wrapped w j) of (wrapper_tag w) (wrapper_front w ++ content) s
    (ap (λ (b : Bool). if b then Some (wrapper_tag w) else None) (short i (kind.Wrapped w j) of)) encoded
front nodes i header s d (IsJson.content-under _ _ j tag _ content _ _ of encoded x) h short =
    own_front nodes i (kind.ContentUnder tag j) of tag content s refl (with_header header tag content s h encoded)
front nodes i header s d (IsJson.any _ _ _ k _ _ of is x) h short = record {
  tag = x.element.tag;
  content = x.element.content;
  is = x.element.is;
  has = at_node nodes i k of x.element.tag (λ n. kind-any (tags_at nodes n) x.element.tag k (any_tags k is));
}

-- an element isn't empty
pub not_empty : (tag : ℕ) (content rest : List ℕ) → [] ≡ tlv tag content ++ rest → ⊥
unfolding tlv
not_empty tag content rest e = cc

-- ---- which alternative

apart_at : (tags : ℕ → Option (List ℕ)) (i : ℕ) (cs : List Alternative) (n : ℕ) (b : Alternative)
    → list_all (λ j. are_apart (tags i) (tags j)) (map (λ a. a.node) cs) ≡ true → slice_get cs n ≡ Some b
    → are_apart (tags i) (tags b.node) ≡ true
apart_at tags i [] n b e is = absurd (cc)
apart_at tags i (c ∷ cs) zero b e is =
    let same : c ≡ b = cc in
    subst (λ (d : Alternative). are_apart (tags i) (tags d.node) ≡ true) same
    (both (are_apart (tags i) (tags c.node)) (list_all (λ j. are_apart (tags i) (tags j)) (map (λ a. a.node) cs)) e).0
apart_at tags i (c ∷ cs) (suc n) b e is =
    apart_at tags i cs n b
    (both (are_apart (tags i) (tags c.node)) (list_all (λ j. are_apart (tags i) (tags j)) (map (λ a. a.node) cs)) e).1
    is

-- only one alternative has the tag
pub one_alternative : (tags : ℕ → Option (List ℕ)) (tag : ℕ) (cs : List Alternative) (m n : ℕ) (a b : Alternative)
    → are_all_apart tags (map (λ a. a.node) cs) ≡ true → slice_get cs m ≡ Some a → slice_get cs n ≡ Some b
    → has_tag (tags a.node) tag ≡ true → has_tag (tags b.node) tag ≡ true → a ≡ b
one_alternative tags tag [] m n a b e is at p q = absurd (cc)
one_alternative tags tag (c ∷ cs) zero zero a b e is at p q = cc
one_alternative tags tag (c ∷ cs) zero (suc n) a b e is at p q =
    let same : c ≡ a = cc in
    let apart : are_apart (tags c.node) (tags b.node) ≡ true =
    apart_at tags c.node cs n b
    (both (list_all (λ j. are_apart (tags c.node) (tags j)) (map (λ a. a.node) cs))
    (are_all_apart tags (map (λ a. a.node) cs)) e).0 at in
    absurd (none-both (tags c.node) (tags b.node) tag apart
    (subst (λ (d : Alternative). has_tag (tags d.node) tag ≡ true) (sym same) p) q)
one_alternative tags tag (c ∷ cs) (suc m) zero a b e is at p q =
    let same : c ≡ b = cc in
    let apart : are_apart (tags c.node) (tags a.node) ≡ true =
    apart_at tags c.node cs m a
    (both (list_all (λ j. are_apart (tags c.node) (tags j)) (map (λ a. a.node) cs))
    (are_all_apart tags (map (λ a. a.node) cs)) e).0 is in
    absurd (none-both (tags c.node) (tags a.node) tag apart
    (subst (λ (d : Alternative). has_tag (tags d.node) tag ≡ true) (sym same) q) p)
one_alternative tags tag (c ∷ cs) (suc m) (suc n) a b e is at p q =
    one_alternative tags tag cs m n a b
    (both (list_all (λ j. are_apart (tags c.node) (tags j)) (map (λ a. a.node) cs))
    (are_all_apart tags (map (λ a. a.node) cs)) e).1 is at p q

-- ---- which member

not_required : (p : Presence) → can_be_absent p ≡ true → is_required p ≡ false
not_required presence.Required free = absurd (false≢true free)
not_required _ free = refl

-- the tag of the element at the front is one that may be next
next : (nodes : List Node) (ms : List Member) (s : List ℕ) (before : Members) (d : Data)
    → AreMembers nodes ms s before d → HasShortTags nodes → (n tag : ℕ) (content rest : List ℕ)
    → s ≡ tlv tag content ++ rest → has_tag (next_tags (tags_at nodes n) ms) tag ≡ true
next nodes ms s before d (AreMembers.end-of-members _ _) short n tag content rest e =
    absurd (not_empty tag content rest e)
next nodes ms s before d (AreMembers.there _ m others first more v _ _ x xs) short n tag content rest e =
    let f : IsFront nodes m.node first = front nodes m.node true first v x refl short in
    let same = tlv_prefix f.tag tag f.content content more rest (ap (λ (l : List ℕ). l ++ more) (sym f.is) ∙ e) in
    has-left (tags_at nodes n m.node) (if is_required m.presence then Some [] else next_tags (tags_at nodes n) others)
    tag (subst (λ (t : ℕ). has_tag (tags_at nodes n m.node) t ≡ true) same.0 (f.has n))
next nodes ms s before d (AreMembers.absent _ m others _ _ _ free xs) short n tag content rest e =
    has-right (tags_at nodes n m.node) (if is_required m.presence then Some [] else next_tags (tags_at nodes n) others)
    tag (subst (λ (b : Bool). has_tag (if b then Some [] else next_tags (tags_at nodes n) others) tag ≡ true)
    (sym (not_required m.presence free)) (next nodes others s before d xs short n tag content rest e))

-- a member isn't absent whose tag the front has
pub not_absent : (nodes : List Node) (n : ℕ) (m : Member) (others : List Member) (first rest t : List ℕ) (v : Data)
    (earlier : Members) (e : Data) → HasShortTags nodes → are_members_apart (tags_at nodes n) (m ∷ others) ≡ true
    → first ++ rest ≡ t → IsJson nodes m.node true first v → can_be_absent m.presence ≡ true
    → AreMembers nodes others t earlier e → ⊥
not_absent nodes n m others first rest t v earlier e short apart same x free ys =
    let f : IsFront nodes m.node first = front nodes m.node true first v x refl short in
    let tags : Option (List ℕ) = next_tags (tags_at nodes n) others in
    let parts = both (is_required m.presence || are_apart (tags_at nodes n m.node) tags)
    (are_members_apart (tags_at nodes n) others) apart in
    let here : are_apart (tags_at nodes n m.node) tags ≡ true =
    subst (λ (b : Bool). (b || are_apart (tags_at nodes n m.node) tags) ≡ true) (not_required m.presence free)
    parts.0 in
    none-both (tags_at nodes n m.node) tags f.tag here (f.has n)
    (next nodes others t earlier e ys short n f.tag f.content rest (sym same ∙ ap (λ (l : List ℕ). l ++ rest) f.is))
