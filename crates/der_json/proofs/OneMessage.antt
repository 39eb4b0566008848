-- JSON is that of one message only.
use Rattle.std.proofs.Common.{◌≡◌, ◌≢◌, ℕ, zero, suc, Bool, true, false, List, [], ◌∷◌, ◌++◌, Some, None}
use Rattle.std.proofs.Common.{sym, ap, ap₂, ◌∙◌, refl, subst}
use Rattle.std.specs.Prelude.{slice_get}
use Rattle.std.specs.List.{AllByRecursion}
use Rattle.serde_json.specs.Data.{Data, Members, no_members, put}
use Rattle.serde_json.specs.Find.{get, get_member}
use Rattle.serde_json.specs.View.{items_of}
use Rattle.serde_json.proofs.Views.{get_member-put, get_member-put_other}
use Rattle.picky_der_core.specs.Element.{AreBytes, tlv}
use Rattle.picky_der_core.specs.ElementLaws.{content_bytes, second_bytes}
use Rattle.picky_der_core.specs.Encoding.{plain_encoding}
use Rattle.picky_der_core.specs.Wrapper.{wrapper_tag, wrapper_front, keeps_header}
use Rattle.picky_der_core.specs.declared.asn1.wrapper.Wrapper.{Wrapper}
use Rattle.picky_der_core.specs.declared.asn1.wrapper.Wrapper.TheVariants as wrapper
use Rattle.der_schema.specs.declared.node.Alternative.{Alternative}
use Rattle.der_schema.specs.declared.node.Kind.{Kind}
use Rattle.der_schema.specs.declared.node.Kind.TheVariants as kind
use Rattle.der_schema.specs.declared.node.Member.{Member}
use Rattle.der_schema.specs.declared.node.Node.{Node}
use Rattle.der_json.specs.Contents.{IsPlain}
use Rattle.der_json.specs.Json.{AreItems, AreMembers, IsAlternative, IsAny, IsJson, alternatives_in, members_in}
use Rattle.der_json.specs.Json.{wrapped_data}
use Rattle.der_json.specs.Laws.{OneMessage}
use Rattle.der_schema.specs.Names.{alternative_names, member_names, names_in}
use Rattle.der_json.proofs.Forms.{Form, IsListed, IsSequence, IsUnder, IsWrapped, any_form, as_formed, choice_form}
use Rattle.der_json.proofs.Forms.{formed, list_form, plain_form, same_form, sequence_form}
use Rattle.der_json.proofs.NameLemmas.{AreDifferent, AreNames, HasNames, each_has_names}
use Rattle.der_json.proofs.OneContent.{content_of, one_element}

-- ---- bytes of parts

plain_bytes : (header : Bool) (tag : ℕ) (content s : List ℕ) → s ≡ plain_encoding header tag content → AreBytes s
    → AreBytes content
unfolding plain_encoding
plain_bytes true tag content s e p = content_bytes tag content (subst AreBytes e p)
plain_bytes false tag content s e p = subst AreBytes e p

wrapped_bytes : (tag : ℕ) (front content s : List ℕ) → s ≡ tlv tag (front ++ content) → AreBytes s → AreBytes content
wrapped_bytes tag front content s e p =
    second_bytes front content (content_bytes tag (front ++ content) (subst AreBytes e p))

first_bytes : (xs ys : List ℕ) → AreBytes (xs ++ ys) → AreBytes xs
first_bytes [] ys h = tt
first_bytes (x ∷ xs) ys h = (h.0, first_bytes xs ys h.1)

-- ---- names

sequence_names : (k : Kind) (ms : List Member) → members_in k ≡ Some ms → names_in k ≡ member_names ms
sequence_names (kind.Sequence members) ms e = let same : members.now ≡ ms = cc in ap member_names same
sequence_names _ ms e = cc

choice_names : (k : Kind) (cs : List Alternative) → alternatives_in k ≡ Some cs → names_in k ≡ alternative_names cs
choice_names (kind.Choice alternatives) cs e =
    let same : alternatives.now ≡ cs = cc in ap alternative_names same
choice_names _ cs e = cc

-- what is true of each name is true of that of an alternative
name_at : (P : List ℕ → Type 0) (cs : List Alternative) (n : ℕ) (c : Alternative) → slice_get cs n ≡ Some c
    → AllByRecursion P (alternative_names cs) → P c.name.now
name_at P [] n c e all = absurd (cc)
name_at P (x ∷ cs) zero c e all =
    let same : x ≡ c = cc in subst (λ (a : Alternative). P a.name.now) same all.0
name_at P (x ∷ cs) (suc n) c e all = name_at P cs n c e all.1

same_alternative : (cs : List Alternative) (m n : ℕ) (a b : Alternative) → AreDifferent (alternative_names cs)
    → slice_get cs m ≡ Some a → slice_get cs n ≡ Some b → a.name.now ≡ b.name.now → a ≡ b
same_alternative [] m n a b d e f same = cc
same_alternative (x ∷ cs) zero zero a b d e f same = cc
same_alternative (x ∷ cs) zero (suc n) a b d e f same =
    let here : x.name.now ≡ a.name.now = let it : x ≡ a = cc in ap (λ (c : Alternative). c.name.now) it in
    absurd (name_at (λ y. x.name.now ≢ y) cs n b f d.0 (here ∙ same))
same_alternative (x ∷ cs) (suc m) zero a b d e f same =
    let here : x.name.now ≡ b.name.now = let it : x ≡ b = cc in ap (λ (c : Alternative). c.name.now) it in
    absurd (name_at (λ y. x.name.now ≢ y) cs m a e d.0 (here ∙ sym same))
same_alternative (x ∷ cs) (suc m) (suc n) a b d e f same = same_alternative cs m n a b d.1 e f same

-- ---- members of objects

-- none of these members is there yet
abbrev Lack : List Member → Members → Type 0
Lack [] before = Unit {0}
Lack (m ∷ ms) before = (get_member m.name.now before ≡ None) × Lack ms before

lack_all : (ms : List Member) → Lack ms no_members
lack_all [] = tt
lack_all (m ∷ ms) = (refl, lack_all ms)

lack_more : (ms : List Member) (name : List ℕ) (d : Data) (before : Members)
    → AllByRecursion (λ y. name ≢ y) (member_names ms) → Lack ms before → Lack ms (put name d before)
lack_more [] name d before other h = tt
lack_more (m ∷ ms) name d before other h = (
  get_member-put_other m.name.now name d before (λ e. other.0 (sym e)) ∙ h.0,
  lack_more ms name d before other.1 h.1,
)

-- a name that isn't one of those that follow has the value that it had
kept : (nodes : List Node) (ms : List Member) (s : List ℕ) (before : Members) (d : Data)
    → AreMembers nodes ms s before d → (name : List ℕ) → AllByRecursion (λ y. name ≢ y) (member_names ms)
    → get name d ≡ get_member name before
kept nodes ms s before d (AreMembers.end-of-members _ _) name other = refl
kept nodes ms s before d (AreMembers.there _ m others first rest v _ _ x xs) name other =
    kept nodes others rest (put m.name.now v before) d xs name other.1
    ∙ get_member-put_other name m.name.now v before other.0
kept nodes ms s before d (AreMembers.absent _ m others _ _ _ free xs) name other =
    kept nodes others s before d xs name other.1

-- a member that is there has this value
found : (nodes : List Node) (m : Member) (others : List Member) (rest : List ℕ) (v : Data) (before : Members) (d : Data)
    → AllByRecursion (λ y. m.name.now ≢ y) (member_names others)
    → AreMembers nodes others rest (put m.name.now v before) d → get m.name.now d ≡ Some v
found nodes m others rest v before d other xs =
    kept nodes others rest (put m.name.now v before) d xs m.name.now other ∙ get_member-put m.name.now v before

-- ---- values

same_wrapped : (w : Wrapper) (d e : Data) → wrapped_data w d ≡ wrapped_data w e → d ≡ e
same_wrapped wrapper.OctetContainer d e h = cc
same_wrapped wrapper.BitContainer d e h = cc
same_wrapped _ d e h = h

one_plain : (k : Kind) (header : Bool) (s t : List ℕ) (d : Data) → AreNames (names_in k) → AreBytes s → AreBytes t
    → IsPlain k header s d → IsPlain k header t d → s ≡ t
one_plain k header s t d names p q x y =
    let tags : x.tag ≡ y.tag = cc (x.has_tag, y.has_tag) in
    let contents : x.content ≡ y.content =
    content_of k x.content y.content d names (plain_bytes header x.tag x.content s x.encoded p)
    (plain_bytes header y.tag y.content t y.encoded q) x.json y.json in
    x.encoded ∙ ap₂ (plain_encoding header) tags contents ∙ sym y.encoded

mutual
  one_value : (nodes : List Node) (i : ℕ) (header : Bool) (s : List ℕ) (d : Data) → IsJson nodes i header s d
      → HasNames nodes → (t : List ℕ) (e : Data) → d ≡ e → AreBytes s → AreBytes t → IsJson nodes i header t e → s ≡ t
  one_value nodes i header s d (IsJson.plain _ _ _ k _ _ of x) names t e same p q y =
      let z : IsPlain k header t e =
      as_formed nodes k Form.plain header t e (plain_form k x.tag x.has_tag) (formed nodes i header t e y k of) in
      one_plain k header s t d (names i k of) p q x (subst (λ (v : Data). IsPlain k header t v) (sym same) z)
  one_value nodes i header s d (IsJson.same _ _ j _ k _ _ of is x) names t e same p q y =
      let z : IsJson nodes j header t e =
      as_formed nodes k (Form.same j) header t e (same_form k j is) (formed nodes i header t e y k of) in
      one_value nodes j header s d x names t e same p q z
  one_value nodes i header s d (IsJson.sequence _ _ _ k ms content _ _ of is encoded x) names t e same p q y =
      let z : IsSequence nodes ms header t e =
      as_formed nodes k (Form.sequence ms) header t e (sequence_form k ms is) (formed nodes i header t e y k of) in
      let different : AreDifferent (member_names ms) =
      subst AreDifferent (sequence_names k ms is) (names i k of).different in
      let contents : content ≡ z.content =
      one_members nodes ms content no_members d x names different z.content no_members e same
      (plain_bytes header 0x30 content s encoded p) (plain_bytes header 0x30 z.content t z.encoded q) (lack_all ms)
      (lack_all ms) z.members in
      encoded ∙ ap (plain_encoding header 0x30) contents ∙ sym z.encoded
  one_value nodes i header s d (IsJson.list _ _ j tag _ k content _ ds of is encoded x) names t e same p q y =
      let z : IsListed nodes (tag, j) header t e =
      as_formed nodes k (Form.list (tag, j)) header t e (list_form k (tag, j) is) (formed nodes i header t e y k of) in
      let items : items_of ds ≡ items_of z.inside.items = cc (same, z.inside.is) in
      let contents : content ≡ z.content =
      one_list nodes j content ds x names z.content z.inside.items items (plain_bytes header tag content s encoded p)
      (plain_bytes header tag z.content t z.encoded q) z.inside.each in
      encoded ∙ ap (plain_encoding header tag) contents ∙ sym z.encoded
  one_value nodes i header s d (IsJson.choice _ _ place _ k cs a _ v of is there x) names t e same p q y =
      let z : IsAlternative nodes cs header t e =
      as_formed nodes k (Form.choice cs) header t e (choice_form k cs is) (formed nodes i header t e y k of) in
      let different : AreDifferent (alternative_names cs) =
      subst AreDifferent (choice_names k cs is) (names i k of).different in
      let name : a.name.now ≡ z.alternative.name.now = cc (same, z.is) in
      let inner : v ≡ z.inside = cc (same, z.is) in
      let one : a ≡ z.alternative =
      same_alternative cs place z.place a z.alternative different there z.there name in
      one_value nodes a.node header s v x names t z.inside inner p q
      (subst (λ (c : Alternative). IsJson nodes c.node header t z.inside) (sym one) z.json)
  one_value nodes i header s d (IsJson.wrapped _ _ j _ w content _ v of encoded x) names t e same p q y =
      let z : IsWrapped nodes w j t e = formed nodes i header t e y (kind.Wrapped w j) of in
      let inner : v ≡ z.inside = same_wrapped w v z.inside (same ∙ z.is) in
      let contents : content ≡ z.content =
      one_value nodes j (keeps_header w) content v x names z.content z.inside inner
      (wrapped_bytes (wrapper_tag w) (wrapper_front w) content s encoded p)
      (wrapped_bytes (wrapper_tag w) (wrapper_front w) z.content t z.encoded q) z.json in
      encoded ∙ ap (λ l. tlv (wrapper_tag w) (wrapper_front w ++ l)) contents ∙ sym z.encoded
  one_value nodes i header s d (IsJson.content-under _ _ j tag _ content _ _ of encoded x) names t e same p q y =
      let z : IsUnder nodes tag j header t e = formed nodes i header t e y (kind.ContentUnder tag j) of in
      let contents : content ≡ z.content =
      one_value nodes j false content d x names z.content e same (plain_bytes header tag content s encoded p)
      (plain_bytes header tag z.content t z.encoded q) z.json in
      encoded ∙ ap (plain_encoding header tag) contents ∙ sym z.encoded
  one_value nodes i header s d (IsJson.any _ _ _ k _ _ of is x) names t e same p q y =
      let z : IsAny t e =
      as_formed nodes k Form.any header t e (any_form k is) (formed nodes i header t e y k of) in
      one_element s t d p q x (subst (IsAny t) (sym same) z)

  one_members : (nodes : List Node) (ms : List Member) (s : List ℕ) (before : Members) (d : Data)
      → AreMembers nodes ms s before d → HasNames nodes → AreDifferent (member_names ms)
      → (t : List ℕ) (earlier : Members) (e : Data) → d ≡ e → AreBytes s → AreBytes t → Lack ms before → Lack ms earlier
      → AreMembers nodes ms t earlier e → s ≡ t
  one_members nodes ms s before d (AreMembers.end-of-members _ _) names other t earlier e same p q l k
      (AreMembers.end-of-members _ _) =
      refl
  one_members nodes ms s before d (AreMembers.there _ m others first rest v _ _ x xs) names other t earlier e same p q l
      k (AreMembers.there _ _ _ second more w _ _ y ys) =
      let inner : v ≡ w =
      cc (found nodes m others rest v before d other.0 xs, found nodes m others more w earlier e other.0 ys, same) in
      let fronts : first ≡ second =
      one_value nodes m.node true first v x names second w inner (first_bytes first rest p)
      (first_bytes second more q) y in
      let ends : rest ≡ more =
      one_members nodes others rest (put m.name.now v before) d xs names other.1 more (put m.name.now w earlier) e same
      (second_bytes first rest p) (second_bytes second more q)
      (lack_more others m.name.now v before other.0 l.1) (lack_more others m.name.now w earlier other.0 k.1) ys in
      ap₂ (λ a b. a ++ b) fronts ends
  one_members nodes ms s before d (AreMembers.there _ m others first rest v _ _ x xs) names other t earlier e same p q l
      k (AreMembers.absent _ _ _ _ _ _ free ys) =
      absurd (cc (
        found nodes m others rest v before d other.0 xs,
        kept nodes others t earlier e ys m.name.now other.0,
        k.0,
        same,
      ))
  one_members nodes ms s before d (AreMembers.absent _ m others _ _ _ free xs) names other t earlier e same p q l k
      (AreMembers.there _ _ _ second more w _ _ y ys) =
      absurd (cc (
        found nodes m others more w earlier e other.0 ys,
        kept nodes others s before d xs m.name.now other.0,
        l.0,
        same,
      ))
  one_members nodes ms s before d (AreMembers.absent _ m others _ _ _ free xs) names other t earlier e same p q l k
      (AreMembers.absent _ _ _ _ _ _ also ys) =
      one_members nodes others s before d xs names other.1 t earlier e same p q l.1 k.1 ys

  one_list : (nodes : List Node) (i : ℕ) (s : List ℕ) (ds : List Data) → AreItems nodes i s ds → HasNames nodes
      → (t : List ℕ) (es : List Data) → items_of ds ≡ items_of es → AreBytes s → AreBytes t → AreItems nodes i t es
      → s ≡ t
  one_list nodes i s ds (AreItems.end-of-items _ _) names t es same p q (AreItems.end-of-items _ _) = refl
  one_list nodes i s ds (AreItems.end-of-items _ _) names t es same p q (AreItems.item _ _ second more e others y ys) =
      absurd (cc same)
  one_list nodes i s ds (AreItems.item _ _ first rest d later x xs) names t es same p q (AreItems.end-of-items _ _) =
      absurd (cc same)
  one_list nodes i s ds (AreItems.item _ _ first rest d later x xs) names t es same p q
      (AreItems.item _ _ second more e others y ys) =
      let inner : d ≡ e = cc same in
      let following : items_of later ≡ items_of others = cc same in
      let fronts : first ≡ second =
      one_value nodes i true first d x names second e inner (first_bytes first rest p) (first_bytes second more q) y in
      let ends : rest ≡ more =
      one_list nodes i rest later xs names more others following (second_bytes first rest p)
      (second_bytes second more q) ys in
      ap₂ (λ a b. a ++ b) fronts ends

pub one_message : OneMessage
one_message nodes i header s t d names p q x y =
    one_value nodes i header s d x (each_has_names nodes names) t d refl p q y
