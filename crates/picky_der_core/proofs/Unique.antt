-- Two readable trees of one sound shape that are written alike are the same tree.
use Rattle.std.proofs.Common.{◌≡◌, ℕ, Bool, true, false, ◌&&◌, List, [], ◌∷◌, ◌++◌, length, ◌<◌, ◌⊎◌, inl, inr, refl}
use Rattle.std.proofs.Common.{sym, ap, subst, ◌∙◌, arith}
use Rattle.std.specs.List.{concat}
use Rattle.picky_der_core.specs.declared.asn1.wrapper.Wrapper.{Wrapper}
use Rattle.picky_der_core.specs.Primitive.{PrimitiveShape}
use Rattle.picky_der_core.specs.PrimitiveLaws.{primitive_content-same}
use Rattle.picky_der_core.specs.Wrapper.{wrapper_front, keeps_header, can_vanish}
use Rattle.picky_der_core.specs.WrapperLaws.{after_front}
use Rattle.picky_der_core.specs.Tree.{ListKind, Tree, Trees, is_absent}
use Rattle.picky_der_core.specs.Encoding.{plain_encoding, wrapper_encoding, tree_bytes, encodings, der, list_content}
use Rattle.picky_der_core.specs.Readable.{IsReadable, AreReadable, IsHeadedIfChoice}
use Rattle.picky_der_core.specs.Shape.{Shape, Shapes, Layout, IsOf, IsOneOf, AreMembersOf, firsts, firsts_of}
use Rattle.picky_der_core.specs.Shape.{next_firsts, are_disjoint, IsPrimitiveTree, IsRaw, IsList, IsWrapped, IsOptional}
use Rattle.picky_der_core.specs.Shape.{IsChoice, EachIs, FirstAndRest, FirstOrNone, AllOrNone, IsEmpty, AreOthers}
use Rattle.picky_der_core.specs.Shape.{IsSound, AreSound, AreDistinct, AreMembersSound, AreMembersDistinct}
use Rattle.picky_der_core.specs.ElementLaws.{tlv-same}
use Rattle.picky_der_core.specs.EncodingLaws.{is_absent-readable, list_content-in_order, never_absent, same_encoding}
use Rattle.picky_der_core.specs.EncodingLaws.{length-der}
use Rattle.picky_der_core.specs.FirstLaws.{begins_in, begins_in_one, begins_next, disjoint_differ, is_of-optional}
use Rattle.picky_der_core.specs.FirstLaws.{others_each}

-- a readable tree with P is known by what is written of it
abbrev pub IsKnown : Bool → (Tree → Type 0) → Type 0
IsKnown header P = (t u : Tree) → P t → P u → IsReadable t → IsReadable u → IsHeadedIfChoice header t
    → IsHeadedIfChoice header u → tree_bytes header t ≡ tree_bytes header u → t ≡ u

abbrev pub AreKnown : (Trees → Type 0) → Type 0
AreKnown Q = (ts us : Trees) → Q ts → Q us → AreReadable ts → AreReadable us
    → concat (encodings ts) ≡ concat (encodings us) → ts ≡ us

-- ---- what is written under a header

plain_encoding-same : (header : Bool) (x y : ℕ) (c d : List ℕ) → plain_encoding header x c ≡ plain_encoding header y d
    → c ≡ d
unfolding plain_encoding
plain_encoding-same true x y c d e = (tlv-same x y c d e).1
plain_encoding-same false x y c d e = e

wrapper_encoding-same : (p q : Bool) (x y : ℕ) (c d : List ℕ) → p ≡ false → q ≡ false
    → wrapper_encoding p x c ≡ wrapper_encoding q y d → c ≡ d
unfolding wrapper_encoding
wrapper_encoding-same false false x y c d h k e = (tlv-same x y c d e).1
wrapper_encoding-same true _ x y c d h k e = cc
wrapper_encoding-same false true x y c d h k e = cc

-- ---- each kind of shape

primitive_known : (k : PrimitiveShape) (header : Bool) → IsKnown header (IsPrimitiveTree k)
unfolding tree_bytes
primitive_known k header (Tree.primitive b) (Tree.primitive c) p q r s m n e =
    ap Tree.primitive (primitive_content-same k b c p q (plain_encoding-same header _ _ _ _ e))
primitive_known k header (Tree.primitive b) _ p q r s m n e = absurd q
primitive_known k header _ _ p q r s m n e = absurd p

list_known : (kind : ListKind) (Q : Trees → Type 0) → AreKnown Q → (header : Bool) → IsKnown header (IsList kind Q)
unfolding tree_bytes
list_known kind Q known header (Tree.list x ts) (Tree.list y us) p q r s m n e =
    let f : x ≡ y = p.0 ∙ sym q.0 in
    let h : list_content x (encodings ts) ≡ list_content y (encodings us) = plain_encoding-same header _ _ _ _ e in
    let k : concat (encodings ts) ≡ concat (encodings us) = sym (list_content-in_order x (encodings ts) r.0) ∙ h
    ∙ list_content-in_order y (encodings us) s.0 in
    let g : ts ≡ us = known ts us p.1 q.1 r.1 s.1 k in
    cc
list_known kind Q known header (Tree.list x ts) _ p q r s m n e = absurd q
list_known kind Q known header _ _ p q r s m n e = absurd p

optional_known : (P : Tree → Type 0) (header : Bool) → IsKnown header P → IsKnown header (IsOptional P)
optional_known P header known t u p q r s = known t u (is_of-optional P t p r) (is_of-optional P u q s) r s

-- a readable tree in a wrapper doesn't vanish
is_written : (w : Wrapper) (t : Tree) → IsReadable t → (can_vanish w && is_absent t) ≡ false
is_written w t r = never_absent (can_vanish w) (is_absent t) (is_absent-readable t r)

wrapped_known : (w : Wrapper) (P : Tree → Type 0) → IsKnown (keeps_header w) P → (header : Bool)
    → IsKnown header (IsWrapped w P)
unfolding tree_bytes
wrapped_known w P known header (Tree.wrapped v t) (Tree.wrapped x u) p q r s m n e =
    let same : v ≡ x = p.0 ∙ sym q.0 in
    let held : wrapper_front v ++ tree_bytes (keeps_header v) t ≡ wrapper_front x ++ tree_bytes (keeps_header x) u =
    wrapper_encoding-same _ _ _ _ _ _ (is_written v t r.2) (is_written x u s.2) e in
    let in_w : wrapper_front w ++ tree_bytes (keeps_header w) t ≡ wrapper_front w ++ tree_bytes (keeps_header w) u =
    subst (λ z. wrapper_front z ++ tree_bytes (keeps_header z) t ≡ wrapper_front w ++ tree_bytes (keeps_header w) u) p.0
    (subst (λ z. wrapper_front v ++ tree_bytes (keeps_header v) t ≡ wrapper_front z ++ tree_bytes (keeps_header z) u)
    q.0 held) in
    let headed_t = subst (λ z. IsHeadedIfChoice (keeps_header z) t) p.0 r.1 in
    let headed_u = subst (λ z. IsHeadedIfChoice (keeps_header z) u) q.0 s.1 in
    let inner : t ≡ u = known t u p.1 q.1 r.2 s.2 headed_t headed_u (after_front w _ _ in_w) in
    cc
wrapped_known w P known header (Tree.wrapped v t) _ p q r s m n e = absurd q
wrapped_known w P known header _ _ p q r s m n e = absurd p

raw_known : (header : Bool) → IsKnown header IsRaw
unfolding tree_bytes
raw_known header (Tree.raw b) (Tree.raw c) p q r s m n e = ap Tree.raw e
raw_known header (Tree.raw b) _ p q r s m n e = absurd q
raw_known header _ _ p q r s m n e = absurd p

choice_known : (P : Tree → Type 0) → IsKnown true P → (header : Bool) → IsKnown header (IsChoice P)
unfolding tree_bytes
choice_known P known true (Tree.choice t) (Tree.choice u) p q r s m n e = ap Tree.choice (known t u p q r s tt tt e)
choice_known P known true (Tree.choice t) _ p q r s m n e = absurd q
choice_known P known true _ _ p q r s m n e = absurd p
choice_known P known false (Tree.choice t) _ p q r s m n e = absurd m
choice_known P known false _ _ p q r s m n e = absurd p

-- ---- members

pub not_empty : (t : Tree) (rest : List ℕ) → IsReadable t → der t ++ rest ≡ [] → ⊥
not_empty t rest r e = by_bytes (der t) (length-der t r) e
  where
    by_bytes : (b : List ℕ) → 0 < length b → b ++ rest ≡ [] → ⊥
    by_bytes [] h e = omega arith
    by_bytes (x ∷ b) h e = cc

-- members that are at the front of one list are the same, and so is what follows
member_known : (P : Tree → Type 0) → IsKnown true P → (t u : Tree) (a b : List ℕ) → P t → P u → IsReadable t
    → IsReadable u → der t ++ a ≡ der u ++ b → (t ≡ u) × (a ≡ b)
unfolding der
member_known P known t u a b p q r s e =
    let parts = same_encoding t u a b r s e in
    (known t u p q r s tt tt parts.0, parts.1)

each_known : (P : Tree → Type 0) → IsKnown true P → AreKnown (EachIs P)
unfolding tree_bytes der
each_known P known Trees.none Trees.none p q r s e = refl
each_known P known Trees.none (Trees.more u us) p q r s e = absurd (not_empty u (concat (encodings us)) s.0 (sym e))
each_known P known (Trees.more t ts) Trees.none p q r s e = absurd (not_empty t (concat (encodings ts)) r.0 e)
each_known P known (Trees.more t ts) (Trees.more u us) p q r s e =
    let first = member_known P known t u (concat (encodings ts)) (concat (encodings us)) p.0 q.0 r.0 s.0 e in
    let f : t ≡ u = first.0 in
    let g : ts ≡ us = each_known P known ts us p.1 q.1 r.1 s.1 first.1 in
    cc

others_known : (excluded : List ℕ) → AreKnown (AreOthers excluded)
others_known excluded ts us p q =
    each_known IsRaw (raw_known true) ts us (others_each excluded ts p) (others_each excluded us q)

empty_known : AreKnown IsEmpty
empty_known Trees.none Trees.none p q r s e = refl
empty_known Trees.none _ p q r s e = absurd q
empty_known _ _ p q r s e = absurd p

first_and_rest_known : (P : Tree → Type 0) (Q : Trees → Type 0) → IsKnown true P → AreKnown Q
    → AreKnown (FirstAndRest P Q)
unfolding tree_bytes der
first_and_rest_known P Q known others (Trees.more t ts) (Trees.more u us) p q r s e =
    let first = member_known P known t u (concat (encodings ts)) (concat (encodings us)) p.0 q.0 r.0 s.0 e in
    let f : t ≡ u = first.0 in
    let g : ts ≡ us = others ts us p.1 q.1 r.1 s.1 first.1 in
    cc
first_and_rest_known P Q known others (Trees.more t ts) _ p q r s e = absurd q
first_and_rest_known P Q known others _ _ p q r s e = absurd p

-- ---- alternatives

one_known : (s : Shape) (ss : Shapes) → are_disjoint (firsts s) (firsts_of ss) ≡ true → IsKnown true (IsOf s)
    → IsKnown true (IsOneOf ss) → IsKnown true (λ t. IsOf s t ⊎ IsOneOf ss t)
unfolding der
one_known s ss a known others t u (inl p) (inl q) r v m n e = known t u p q r v tt tt e
one_known s ss a known others t u (inr p) (inr q) r v m n e = others t u p q r v tt tt e
one_known s ss a known others t u (inl p) (inr q) r v m n e =
    absurd (disjoint_differ (firsts s) (firsts_of ss) t u a (begins_in s t p r) (begins_in_one ss u q v) e)
one_known s ss a known others t u (inr p) (inl q) r v m n e =
    absurd (disjoint_differ (firsts s) (firsts_of ss) u t a (begins_in s u q v) (begins_in_one ss t p r) (sym e))

-- ---- members that may be missing

-- a member, and what comes instead if it is missing, aren't written alike
absent_distinct : (s : Shape) (l : Layout) → are_disjoint (firsts s) (next_firsts l) ≡ true → (ts us : Trees)
    → FirstAndRest (IsOf s) (AreMembersOf l) ts → AreMembersOf l us → AreReadable ts → AreReadable us
    → concat (encodings ts) ≡ concat (encodings us) → ⊥
unfolding tree_bytes der
absent_distinct s l disjoint (Trees.more t ts) Trees.none p q r v e = not_empty t (concat (encodings ts)) r.0 e
absent_distinct s l disjoint (Trees.more t ts) (Trees.more u us) p q r v e =
    let same = (same_encoding t u (concat (encodings ts)) (concat (encodings us)) r.0 v.0 e).0 in
    disjoint_differ (firsts s) (next_firsts l) t u disjoint (begins_in s t p.0 r.0) (begins_next l u us q v.0) same
absent_distinct s l disjoint Trees.none _ p q r v e = absurd p

first_or_none_known : (s : Shape) (l : Layout) → are_disjoint (firsts s) (next_firsts l) ≡ true → IsKnown true (IsOf s)
    → AreKnown (AreMembersOf l) → AreKnown (FirstOrNone (IsOf s) (AreMembersOf l))
first_or_none_known s l disjoint known others ts us (inl p) (inl q) r v e =
    first_and_rest_known (IsOf s) (AreMembersOf l) known others ts us p q r v e
first_or_none_known s l disjoint known others ts us (inr p) (inr q) r v e = others ts us p q r v e
first_or_none_known s l disjoint known others ts us (inl p) (inr q) r v e =
    absurd (absent_distinct s l disjoint ts us p q r v e)
first_or_none_known s l disjoint known others ts us (inr p) (inl q) r v e =
    absurd (absent_distinct s l disjoint us ts q p v r (sym e))

-- ---- members that an extension added

all_or_none_known : (P : Trees → Type 0) → AreKnown P → AreKnown (AllOrNone P)
unfolding tree_bytes der
all_or_none_known P known ts us (inl p) (inl q) r v e = known ts us p q r v e
all_or_none_known P known Trees.none Trees.none p q r v e = refl
all_or_none_known P known (Trees.more t ts) Trees.none (inl p) (inr q) r v e =
    absurd (not_empty t (concat (encodings ts)) r.0 e)
all_or_none_known P known Trees.none (Trees.more u us) (inr p) (inl q) r v e =
    absurd (not_empty u (concat (encodings us)) v.0 (sym e))
all_or_none_known P known ts (Trees.more u us) p (inr q) r v e = absurd q
all_or_none_known P known (Trees.more t ts) us (inr p) q r v e = absurd p

mutual
  pub known : (s : Shape) → IsSound s → (header : Bool) → IsKnown header (IsOf s)
  known (Shape.primitive k) = λ sound header. primitive_known k header
  known (Shape.list_of kind s) = λ sound header. list_known kind _ (each_known _ (known s sound true)) header
  known (Shape.fields kind l) = λ sound header. list_known kind _ (members_known l sound.0 sound.1) header
  known (Shape.wrapped w s) = λ sound header. wrapped_known w _ (known s sound (keeps_header w)) header
  known (Shape.optional s) = λ sound header. optional_known _ header (known s sound header)
  known Shape.raw = λ sound header. raw_known header
  known (Shape.choice ss) = λ sound header. choice_known _ (alternatives_known ss sound.0 sound.1) header

  members_known : (l : Layout) → AreMembersSound l → AreMembersDistinct l → AreKnown (AreMembersOf l)
  members_known Layout.empty = λ sound disjoint. empty_known
  members_known (Layout.required s l) =
      λ sound disjoint. first_and_rest_known _ _ (known s sound.0 true) (members_known l sound.1 disjoint)
  members_known (Layout.maybe s l) = λ sound disjoint. first_or_none_known s l disjoint.0 (known s sound.0 true)
      (members_known l sound.1 disjoint.1)
  members_known (Layout.added l) = λ sound disjoint. all_or_none_known (AreMembersOf l) (members_known l sound disjoint)
  members_known (Layout.others excluded) = λ sound disjoint. others_known excluded

  alternatives_known : (ss : Shapes) → AreSound ss → AreDistinct ss → IsKnown true (IsOneOf ss)
  alternatives_known Shapes.none = λ sound disjoint t u p. absurd p
  alternatives_known (Shapes.more s ss) =
      λ sound disjoint. one_known s ss disjoint.0 (known s sound.0 true) (alternatives_known ss sound.1 disjoint.1)

-- two trees at the front of one list are the same tree, and leave the same rest
pub same_tree : (s : Shape) → IsSound s → (t u : Tree) → IsOf s t → IsOf s u → IsReadable t → IsReadable u
    → (a b : List ℕ) → der t ++ a ≡ der u ++ b → (t ≡ u) × (a ≡ b)
same_tree s sound t u p q r v a b e = member_known (IsOf s) (known s sound true) t u a b p q r v e
