-- The members of a list whose shape is in the order of tags are written in that order.
use Rattle.std.proofs.Common.{◌≡◌, ℕ, ◌<◌, Bool, true, false, ◌&&◌, ◌||◌, List, [], ◌∷◌, ◌++◌, ◌==◌, nat_lt, refl}
use Rattle.std.proofs.Common.{subst, sym, eqb-true, ltb-true, inl, inr}
use Rattle.std.proofs.lemmas.Bool.{and_parts}
use Rattle.std.specs.List.{AllByRecursion, list_all}
use Rattle.picky_der_core.specs.Tree.{ListKind, Tree, Trees}
use Rattle.picky_der_core.specs.Encoding.{encodings, der, tree_bytes}
use Rattle.picky_der_core.specs.Readable.{IsReadable, AreReadable}
use Rattle.picky_der_core.specs.Shape.{Shape, Layout, IsOf, AreMembersOf, EachIs, IsRaw, firsts, contains, tags_below}
use Rattle.picky_der_core.specs.FirstLaws.{BeginsIn, begins_in, contains-append_left, contains-append_right}
use Rattle.picky_der_core.specs.FirstLaws.{others_each}
use Rattle.der_types.specs.TagOrder.{tag_place, leading, AreInTagOrder, member_encodings, are_before, layout_firsts}
use Rattle.der_types.specs.TagOrder.{is_layout_in_order, is_in_tag_order}

-- ---- lists of first bytes

-- P of each, so of one that is listed
listed : (P : ℕ → Bool) (x : ℕ) (ys : List ℕ) → list_all P ys ≡ true → contains ys x ≡ true → P x ≡ true
listed P x [] h k = cc
listed P x (y ∷ ys) h k =
    let parts = and_parts (P y) (list_all P ys) h in
    by_first (x == y) refl k parts.0 (listed P x ys parts.1)
  where
    by_first : (b : Bool) → (x == y) ≡ b → (b || contains ys x) ≡ true → P y ≡ true
        → (contains ys x ≡ true → P x ≡ true) → P x ≡ true
    by_first true e l first others = subst (λ z. P z ≡ true) (sym (eqb-true x y e)) first
    by_first false e l first others = others l

before : (x y : ℕ) (xs ys : List ℕ) → are_before xs ys ≡ true → contains xs x ≡ true → contains ys y ≡ true
    → tag_place x < tag_place y
before x y xs ys h k l =
    let all = listed (λ a. list_all (λ b. nat_lt (tag_place a) (tag_place b)) ys) x xs h k in
    ltb-true (tag_place x) (tag_place y) (listed (λ b. nat_lt (tag_place x) (tag_place b)) y ys all l)

-- ---- one that begins with such a byte is before others

module _ (x : ℕ) (xs ys : List ℕ) (apart : are_before xs ys ≡ true) (is : contains xs x ≡ true) where
  -- what begins with a byte of the second list
  after : (fs : List ℕ) (t : Tree) → ((b : ℕ) → contains fs b ≡ true → contains ys b ≡ true) → BeginsIn fs t
      → tag_place x < tag_place (leading (der t))
  after fs t among b =
      subst (λ e. tag_place x < tag_place (leading e)) (sym b.is)
      (before x b.first xs ys apart is (among b.first b.listed))

  raws_after : (ts : Trees) → ((b : ℕ) → contains (tags_below 256) b ≡ true → contains ys b ≡ true) → EachIs IsRaw ts
      → AreReadable ts → AllByRecursion (λ y. tag_place x < tag_place (leading y)) (encodings ts)
  unfolding der tree_bytes
  raws_after Trees.none among p r = tt
  raws_after (Trees.more t ts) among p r =
      (after (tags_below 256) t among (begins_in Shape.raw t p.0 r.0), raws_after ts among p.1 r.1)

  members_after : (l : Layout) (ts : Trees) → ((b : ℕ) → contains (layout_firsts l) b ≡ true → contains ys b ≡ true)
      → AreMembersOf l ts → AreReadable ts → AllByRecursion (λ y. tag_place x < tag_place (leading y)) (encodings ts)
  unfolding der tree_bytes
  members_after Layout.empty Trees.none among p r = tt
  members_after Layout.empty (Trees.more t ts) among p r = absurd p
  members_after (Layout.required s l) Trees.none among p r = absurd p
  members_after (Layout.required s l) (Trees.more t ts) among p r = (
    after (firsts s) t (λ b c. among b (contains-append_left b (firsts s) (layout_firsts l) c)) (begins_in s t p.0 r.0),
    members_after l ts (λ b c. among b (contains-append_right b (firsts s) (layout_firsts l) c)) p.1 r.1,
  )
  members_after (Layout.maybe s l) Trees.none among (inl p) r = absurd p
  members_after (Layout.maybe s l) (Trees.more t ts) among (inl p) r = (
    after (firsts s) t (λ b c. among b (contains-append_left b (firsts s) (layout_firsts l) c)) (begins_in s t p.0 r.0),
    members_after l ts (λ b c. among b (contains-append_right b (firsts s) (layout_firsts l) c)) p.1 r.1,
  )
  members_after (Layout.maybe s l) ts among (inr p) r =
      members_after l ts (λ b c. among b (contains-append_right b (firsts s) (layout_firsts l) c)) p r
  members_after (Layout.added l) ts among (inl p) r = members_after l ts among p r
  members_after (Layout.added l) Trees.none among (inr p) r = tt
  members_after (Layout.added l) (Trees.more t ts) among (inr p) r = absurd p
  members_after (Layout.others excluded) ts among p r = raws_after ts among (others_each excluded ts p) r

-- ---- members in order

first_in_order : (s : Shape) (l : Layout) (t : Tree) (ts : Trees) → are_before (firsts s) (layout_firsts l) ≡ true
    → IsOf s t → IsReadable t → AreMembersOf l ts → AreReadable ts
    → AllByRecursion (λ y. tag_place (leading (der t)) < tag_place (leading y)) (encodings ts)
first_in_order s l t ts h p q r k =
    let b = begins_in s t p q in
    subst (λ e. AllByRecursion (λ y. tag_place (leading e) < tag_place (leading y)) (encodings ts)) (sym b.is)
    (members_after b.first (firsts s) (layout_firsts l) h b.listed l ts (λ c i. i) r k)

members_in_order : (l : Layout) (ts : Trees) → is_layout_in_order l ≡ true → AreMembersOf l ts → AreReadable ts
    → AreInTagOrder (encodings ts)
unfolding der tree_bytes
members_in_order Layout.empty Trees.none h p r = tt
members_in_order Layout.empty (Trees.more t ts) h p r = absurd p
members_in_order (Layout.required s l) Trees.none h p r = absurd p
members_in_order (Layout.required s l) (Trees.more t ts) h p r =
    let parts = and_parts (are_before (firsts s) (layout_firsts l)) (is_layout_in_order l) h in
    (first_in_order s l t ts parts.0 p.0 r.0 p.1 r.1, members_in_order l ts parts.1 p.1 r.1)
members_in_order (Layout.maybe s l) Trees.none h (inl p) r = absurd p
members_in_order (Layout.maybe s l) (Trees.more t ts) h (inl p) r =
    let parts = and_parts (are_before (firsts s) (layout_firsts l)) (is_layout_in_order l) h in
    (first_in_order s l t ts parts.0 p.0 r.0 p.1 r.1, members_in_order l ts parts.1 p.1 r.1)
members_in_order (Layout.maybe s l) ts h (inr p) r =
    members_in_order l ts (and_parts (are_before (firsts s) (layout_firsts l)) (is_layout_in_order l) h).1 p r
members_in_order (Layout.added l) ts h (inl p) r = members_in_order l ts h p r
members_in_order (Layout.added l) Trees.none h (inr p) r = tt
members_in_order (Layout.added l) (Trees.more t ts) h (inr p) r = absurd p
members_in_order (Layout.others excluded) ts h p r = cc

-- of each list of such a shape
pub in_tag_order : (s : Shape) (t : Tree) → is_in_tag_order s ≡ true → IsOf s t → IsReadable t
    → AreInTagOrder (member_encodings t)
in_tag_order (Shape.fields ListKind.sequence l) (Tree.list kind ts) h p r = members_in_order l ts h p.1 r.1
in_tag_order (Shape.fields ListKind.sequence l) _ h p r = absurd p
in_tag_order _ t h p r = cc
