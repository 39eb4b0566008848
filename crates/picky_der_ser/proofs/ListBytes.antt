-- The members of a list, and the bytes of these.
use Rattle.std.proofs.Common.{◌≡◌, ◌<◌, ◌≤◌, ◌^◌, Bool, true, false, ◌&&◌, List, [], ◌∷◌, ◌++◌, length, map, refl, sym}
use Rattle.std.proofs.Common.{ap, ◌∙◌, subst, arith, length-append, ℕ, cond, nat_lt, ap₂, append-nil, append_assoc}
use Rattle.std.proofs.Common.{nat_cmp, take, drop, Bor, Vec, Global, Result, Ok, Err, IfOk, IsPermutation}
use Rattle.std.proofs.Common.{IsSortedByKey}
use Rattle.std.specs.Prelude.{IsTrue}
use Rattle.std.specs.List.{concat, between, flat_map, AllZip, each_same}
use Rattle.picky_der_core.specs.Primitive.{Primitive}
use Rattle.picky_der_core.specs.OpenWrapperLaws.{AreAlike, alike-under, der-alike}
use Rattle.picky_der_core.specs.OpenWrappers.{under}
use Rattle.picky_der_core.specs.declared.asn1.wrapper.Wrapper.{Wrapper}
use Rattle.picky_der_core.specs.Tree.{ListKind, Tree, Trees, trees}
use Rattle.picky_der_core.specs.Encoding.{list_content, list_tag, tree_bytes, encodings, der}
use Rattle.picky_der_core.specs.Readable.{has_tag_numbers, have_tag_numbers, IsWritable}
use Rattle.picky_der_core.specs.EncodingLaws.{encodings-trees, length-list_content}
use Rattle.picky_der_ser.specs.declared.header.Header.TheVariants.{Tagged}
use Rattle.picky_der_ser.specs.Headers.{is_set}
use Rattle.picky_der_ser.proofs.HeaderBytes.{der-holds}
use Rattle.picky_der_ser.proofs.Alike.{past_under}
use Rattle.std.proofs.lemmas.Bool.{lt-ltb}
use Rattle.picky_der_core.specs.Order.{in_ascending_order, is_less}
use Rattle.picky_der_core.specs.OrderLaws.{without_empty, in_ascending_order-without_empty, IsSortedBy-one}
use Rattle.picky_der_core.specs.OrderLaws.{in_ascending_order-same, in_ascending_order-sorted}
use Rattle.picky_der_core.specs.OrderLaws.{length-in_ascending_order}
use Rattle.picky_der_ser.specs.declared.header.Header.{Header}
use Rattle.picky_der_ser.specs.Seams.{cut_at_seams, AreSeams, last_seam, next_seams, cut_from}
use Rattle.picky_der_ser.specs.State.{Level, with_member, with_members, final_content}
use Rattle.std.specs.declared.alloc.AllocError.{AllocError}
use Rattle.std.specs.Cmp.Lexicographic.{slice_cmp}
use Rattle.std.proofs.Math.Seq.{take-append_seam, drop-append_seam}
use Rattle.std.proofs.lemmas.List.{take-append-le, take-append-drop, drop-append-le, length-take-le}
use Rattle.std.proofs.lemmas.List.Concat.{concat_is}
use Rattle.std.proofs.lemmas.List.Folds.{flat_map-map}
use Rattle.std.proofs.lemmas.Slice.{between_is}

pub last_seam-least : (start : ℕ) (ss : List ℕ) → AreSeams start ss → start ≤ last_seam start ss
last_seam-least start [] h = omega arith
last_seam-least start (s ∷ ss) h =
    let first = h.0 in
    let rest = last_seam-least s ss h.1 in
    omega (arith, first, rest)

-- ---- one seam more

pub last_seam-push : (start : ℕ) (ss : List ℕ) (n : ℕ) → last_seam start (ss ++ (n ∷ [])) ≡ n
last_seam-push start [] n = refl
last_seam-push start (s ∷ ss) n = last_seam-push s ss n

pub seams-push : (start : ℕ) (ss : List ℕ) (n : ℕ) → last_seam start ss ≤ n → AreSeams start ss
    → AreSeams start (ss ++ (n ∷ []))
seams-push start [] n h k = (h, tt)
seams-push start (s ∷ ss) n h k = (k.0, seams-push s ss n h k.1)

pub seams-next : (header : Header) (ss : List ℕ) (n : ℕ) → last_seam 0 ss ≤ n → AreSeams 0 ss
    → AreSeams 0 (next_seams header ss n)
seams-next header ss n h k = by_test (is_set header && nat_lt 0 n)
  where
    by_test : (t : Bool) → AreSeams 0 (cond t (ss ++ (n ∷ [])) ss)
    by_test true = seams-push 0 ss n h k
    by_test false = k

pub last_seam-next : (header : Header) (ss : List ℕ) (n : ℕ) → last_seam 0 ss ≤ n
    → last_seam 0 (next_seams header ss n) ≤ n
last_seam-next header ss n h = by_test (is_set header && nat_lt 0 n)
  where
    by_test : (t : Bool) → last_seam 0 (cond t (ss ++ (n ∷ [])) ss) ≤ n
    by_test true = omega (arith, last_seam-push 0 ss n)
    by_test false = h

-- of ascending seams, the seams before the `k`th stay

pub drop-next_seams : (header : Header) (k : ℕ) (ss : List ℕ) (n : ℕ) → k ≤ length ss
    → drop k (next_seams header ss n) ≡ next_seams header (drop k ss) n
drop-next_seams header k ss n h = by_test (is_set header && nat_lt 0 n)
  where
    by_test : (t : Bool) → drop k (cond t (ss ++ (n ∷ [])) ss) ≡ cond t (drop k ss ++ (n ∷ [])) (drop k ss)
    by_test true = drop-append-le k ss (n ∷ []) h
    by_test false = refl

pub take-next_seams : (header : Header) (k : ℕ) (ss : List ℕ) (n : ℕ) → k ≤ length ss
    → take k (next_seams header ss n) ≡ take k ss
take-next_seams header k ss n h = by_test (is_set header && nat_lt 0 n)
  where
    by_test : (t : Bool) → take k (cond t (ss ++ (n ∷ [])) ss) ≡ take k ss
    by_test true = take-append-le k ss (n ∷ []) h
    by_test false = refl

pub length-next_seams : (header : Header) (ss : List ℕ) (n : ℕ) → length ss ≤ length (next_seams header ss n)
length-next_seams header ss n = by_test (is_set header && nat_lt 0 n)
  where
    by_test : (t : Bool) → length ss ≤ length (cond t (ss ++ (n ∷ [])) ss)
    by_test true = omega (arith, length-append ss (n ∷ []))
    by_test false = omega arith

-- ---- a member after the others is cut off as one more

between-front : (start s : ℕ) (c b : List ℕ) → s ≤ length c → between start s (c ++ b) ≡ between start s c
between-front start s c b h = between_is (c ++ b) start s ∙ ap (drop start) (take-append-le s c b h)
    ∙ sym (between_is c start s)

pub cut_from-push : (start : ℕ) (ss c b : List ℕ) → AreSeams start ss → last_seam start ss ≤ length c
    → cut_from start (ss ++ (length c ∷ [])) (c ++ b) ≡ cut_from start ss c ++ (b ∷ [])
cut_from-push start [] c b k h =
    let front : between start (length c) (c ++ b) ≡ drop start c = between_is (c ++ b) start (length c)
    ∙ ap (drop start) (take-append_seam c b) in
    ap₂ (λ x y. x ∷ y ∷ []) front (drop-append_seam c b)
cut_from-push start (s ∷ ss) c b k h =
    let least = last_seam-least s ss k.1 in
    ap₂ (λ x y. x ∷ y) (between-front start s c b (omega (arith, least, h))) (cut_from-push s ss c b k.1 h)

-- ---- what was cut is all of it

cut_from-concat : (start : ℕ) (ss c : List ℕ) → AreSeams start ss → last_seam start ss ≤ length c
    → concat (cut_from start ss c) ≡ drop start c
cut_from-concat start [] c k h = append-nil (drop start c)
cut_from-concat start (s ∷ ss) c k h =
    let first = k.0 in
    let least = last_seam-least s ss k.1 in
    let size = length-take-le s c (omega (arith, least, h)) in
    let seam = drop-append-le start (take s c) (drop s c) (omega (arith, first, size)) in
    ap₂ (λ x y. x ++ y) (between_is c start s) (cut_from-concat s ss c k.1 h) ∙ sym seam
    ∙ ap (drop start) (take-append-drop s c)

pub length-in_order : (ss c : List ℕ) → AreSeams 0 ss → last_seam 0 ss ≤ length c
    → length (concat (in_ascending_order (cut_at_seams ss c))) ≡ length c
length-in_order ss c k h = length-in_ascending_order (cut_at_seams ss c) ∙ ap length (cut_from-concat 0 ss c k h)

-- what isn't cut stays as it is
pub in_ascending_order-uncut : (ss c : List ℕ) → length ss ≡ 0 → concat (in_ascending_order (cut_at_seams ss c)) ≡ c
in_ascending_order-uncut [] c h = ap concat (in_ascending_order-same (c ∷ []) (IsSortedBy-one is_less c)) ∙ append-nil c
in_ascending_order-uncut (s ∷ ss) c h = absurd (omega (arith, h))

-- ---- what a sort of what was cut gives, one after the other

pub joined-sorted : (xs ys : List (Bor (List ℕ))) (all : List (List ℕ)) (r : Result (Vec ℕ Global) AllocError)
    → map (λ x. x.now) xs ≡ all → IsPermutation xs ys → IsSortedByKey (λ x. x.now) (slice_cmp nat_cmp) ys
    → IfOk r (λ v. AllZip (λ a b. b ≡ a) (flat_map (λ y. y.now) ys) v.items)
    → IfOk r (λ v. v.items ≡ concat (in_ascending_order all))
joined-sorted xs ys all (Err e) is moved up h = tt
joined-sorted xs ys all (Ok v) is moved up h =
    let bytes : map (λ y. y.now) ys ≡ in_ascending_order all =
    sym (in_ascending_order-sorted (λ y. y.now) xs ys moved up) ∙ ap in_ascending_order is in
    let items : v.items ≡ flat_map (λ y. y.now) ys = each_same (flat_map (λ y. y.now) ys) v.items h in
    items ∙ sym (flat_map-map (λ l. l) (λ y. y.now) ys) ∙ sym (concat_is (map (λ y. y.now) ys)) ∙ ap concat bytes

-- ---- the members of a list, and the bytes of these

-- ---- members before others

abbrev pub before : List Tree → Trees → Trees
before [] us = us
before (t ∷ ts) us = Trees.more t (before ts us)

pub before_none : (ts : List Tree) → before ts Trees.none ≡ trees ts
before_none [] = refl
before_none (t ∷ ts) = ap (Trees.more t) (before_none ts)

-- the first of the others, counted with the members in front
pub before_next : (ts : List Tree) (t : Tree) (us : Trees) → before ts (Trees.more t us) ≡ before (ts ++ (t ∷ [])) us
before_next [] t us = refl
before_next (s ∷ ts) t us = ap (Trees.more s) (before_next ts t us)

-- ---- tag numbers

both : (b c : Bool) → b ≡ true → c ≡ true → (b && c) ≡ true
both true c e f = f
both false c e f = e

first_of : (b c : Bool) → (b && c) ≡ true → b ≡ true
first_of true c e = refl
first_of false c e = e

pub second_of : (b c : Bool) → (b && c) ≡ true → c ≡ true
second_of true c e = e
second_of false c e = cc

pub numbers_next : (ts : List Tree) (t : Tree) → IsTrue (have_tag_numbers (trees ts)) → IsTrue (has_tag_numbers t)
    → IsTrue (have_tag_numbers (trees (ts ++ (t ∷ []))))
numbers_next [] t h k = both (has_tag_numbers t) true k refl
numbers_next (s ∷ ts) t h k =
    both (has_tag_numbers s) _ (first_of (has_tag_numbers s) _ h)
    (numbers_next ts t (second_of (has_tag_numbers s) _ h) k)

numbers_at : (ts : List Tree) (t : Tree) (us : Trees) → IsTrue (have_tag_numbers (before ts (Trees.more t us)))
    → IsTrue (has_tag_numbers t)
numbers_at [] t us h = first_of (has_tag_numbers t) _ h
numbers_at (s ∷ ts) t us h = numbers_at ts t us (second_of (has_tag_numbers s) _ h)

-- the same for what is in wrappers
pub numbers_inside : (ws : List Wrapper) (t : Tree) → IsTrue (has_tag_numbers (under ws t)) → IsTrue (has_tag_numbers t)
numbers_inside ws t h = by_cases (has_tag_numbers t) refl
  where
    by_cases : (b : Bool) → has_tag_numbers t ≡ b → IsTrue (has_tag_numbers t)
    by_cases true e = e
    by_cases false e = let past = past_under ws t e in cc

-- ---- bytes

pub map_next : (ts : List Tree) (t : Tree) → map der (ts ++ (t ∷ [])) ≡ map der ts ++ (der t ∷ [])
map_next [] t = refl
map_next (s ∷ ts) t = ap (λ l. der s ∷ l) (map_next ts t)

size_at : (ts : List Tree) (t : Tree) (us : Trees)
    → length (der t) ≤ length (concat (encodings (before ts (Trees.more t us))))
unfolding der tree_bytes
size_at [] t us = omega (arith, length-append (der t) (concat (encodings us)))
size_at (s ∷ ts) t us =
    omega (arith, size_at ts t us, length-append (der s) (concat (encodings (before ts (Trees.more t us)))))

-- a list is written as bytes with its tag
alike_by : (kind : ListKind) (ts : Trees) → IsTrue (have_tag_numbers ts)
    → AreAlike (Tree.primitive (Primitive.bytes (list_tag kind) (list_content kind (encodings ts)))) (Tree.list kind ts)
unfolding tree_bytes
alike_by ListKind.sequence ts h = record { written_same = λ b. refl; absent_same = refl; numbers_same = sym h }
alike_by ListKind.set ts h = record { written_same = λ b. refl; absent_same = refl; numbers_same = sym h }

pub alike_list : (kind : ListKind) (ts : List Tree) → IsTrue (have_tag_numbers (trees ts))
    → AreAlike (Tree.primitive (Primitive.bytes (list_tag kind) (list_content kind (map der ts))))
    (Tree.list kind (trees ts))
alike_list kind ts h =
    subst (λ bs. AreAlike (Tree.primitive (Primitive.bytes (list_tag kind) (list_content kind bs)))
    (Tree.list kind (trees ts))) (encodings-trees ts) (alike_by kind (trees ts) h)

-- a list is written only if its members are
pub member_writable : (ws : List Wrapper) (kind : ListKind) (ts : List Tree) (t : Tree) (us : Trees)
    → IsWritable (under ws (Tree.list kind (before ts (Trees.more t us)))) → IsWritable t
member_writable ws kind ts t us h =
    let all = before ts (Trees.more t us) in
    let c = list_content kind (encodings all) in
    let numbers : IsTrue (have_tag_numbers all) = numbers_inside ws (Tree.list kind all) h.numbers in
    let same : der (under ws (Tree.primitive (Primitive.bytes (list_tag kind) c)))
    ≡ der (under ws (Tree.list kind all)) = der-alike _ _ (alike-under ws _ _ (alike_by kind all numbers)) in
    let fits : length (der (under ws (Tree.list kind all))) < 2 ^ 64 = h.fits in
    record {
      numbers = numbers_at ts t us numbers;
      fits =
          omega (
            arith,
            fits,
            ap length same,
            der-holds ws (Tagged (list_tag kind)) c,
            length-list_content kind (encodings all),
            size_at ts t us,
          );
    }

-- ---- the content of a set, in order

-- what isn't cut stays as it is
pub final_content-uncut : (l : Level) → l.seams ≡ [] → final_content l ≡ l.content
final_content-uncut l e = in_ascending_order-uncut l.seams l.content (ap length e)

-- ---- the members of a set that aren't empty are the pieces between seams that aren't empty

record SeamsDivide (seams content : List ℕ) (members : List (List ℕ)) : Type 0 where
  pub ascending : AreSeams 0 seams
  pub within : last_seam 0 seams ≤ length content
  pub no_seam : content ≡ [] → seams ≡ []
  pub same : without_empty (cut_at_seams seams content) ≡ without_empty members

without_empty-append : (xs ys : List (List ℕ)) → without_empty (xs ++ ys) ≡ without_empty xs ++ without_empty ys
without_empty-append [] ys = refl
without_empty-append ([] ∷ xs) ys = without_empty-append xs ys
without_empty-append ((b ∷ a) ∷ xs) ys = ap (λ l. (b ∷ a) ∷ l) (without_empty-append xs ys)

seams_divide_first : (b : List ℕ) (members : List (List ℕ)) → without_empty members ≡ []
    → SeamsDivide [] b (members ++ (b ∷ []))
seams_divide_first b members none = record {
  ascending = tt;
  within = omega arith;
  no_seam = λ _. refl;
  same = ap (λ l. l ++ without_empty (b ∷ [])) (sym none) ∙ sym (without_empty-append members (b ∷ []));
}

seams_divide_more : (x : ℕ) (ss c b : List ℕ) (members : List (List ℕ)) → SeamsDivide ss (x ∷ c) members
    → SeamsDivide (ss ++ (length (x ∷ c) ∷ [])) (x ∷ c ++ b) (members ++ (b ∷ []))
seams_divide_more x ss c b members h =
    let last = last_seam-push 0 ss (length (x ∷ c)) in
    let size = length-append (x ∷ c) b in
    record {
      ascending = seams-push 0 ss (length (x ∷ c)) h.within h.ascending;
      within = omega (arith, last, size);
      no_seam = λ e. cc;
      same = ap without_empty (cut_from-push 0 ss (x ∷ c) b h.ascending h.within)
          ∙ without_empty-append (cut_at_seams ss (x ∷ c)) (b ∷ [])
          ∙ ap (λ l. l ++ without_empty (b ∷ [])) h.same ∙ sym (without_empty-append members (b ∷ []));
    }

seams_divide_next : (header : Header) (ss c b : List ℕ) (members : List (List ℕ)) → is_set header ≡ true
    → SeamsDivide ss c members
    → SeamsDivide (next_seams header ss (length c)) (c ++ b) (members ++ (b ∷ []))
seams_divide_next header ss [] b members e h =
    let none = h.no_seam refl in
    let seams : next_seams header ss 0 ≡ [] = ap (λ t. cond (t && nat_lt 0 0) (ss ++ (0 ∷ [])) ss) e ∙ none in
    let empty : without_empty members ≡ [] = sym h.same ∙ ap (λ l. without_empty (cut_at_seams l [])) none in
    subst (λ l. SeamsDivide l b (members ++ (b ∷ []))) (sym seams) (seams_divide_first b members empty)
seams_divide_next header ss (x ∷ c) b members e h =
    let n = length (x ∷ c) in
    let more = ap (λ t. cond t (ss ++ (n ∷ [])) ss) (lt-ltb 0 n (omega arith)) in
    let seams : next_seams header ss n ≡ ss ++ (n ∷ []) = ap (λ t. cond (t && nat_lt 0 n) (ss ++ (n ∷ [])) ss) e
    ∙ more in
    subst (λ l. SeamsDivide l (x ∷ c ++ b) (members ++ (b ∷ []))) (sym seams) (seams_divide_more x ss c b members h)

seams_divide_all : (l : Level) (members bs : List (List ℕ)) → is_set l.header ≡ true
    → SeamsDivide l.seams l.content members
    → let m = with_members l bs in SeamsDivide m.seams m.content (members ++ bs)
seams_divide_all l members [] e h = subst (SeamsDivide l.seams l.content) (sym (append-nil members)) h
seams_divide_all l members (b ∷ bs) e h =
    let m = with_members l (b ∷ bs) in
    let next = seams_divide_next l.header l.seams l.content b members e h in
    subst (SeamsDivide m.seams m.content) (append_assoc members (b ∷ []) bs)
    (seams_divide_all (with_member l b) (members ++ (b ∷ [])) bs e next)

-- ---- members of a level that isn't cut

uncut_seams : (l : Level) (bs : List (List ℕ)) → is_set l.header ≡ false → (with_members l bs).seams ≡ l.seams
uncut_seams l [] e = refl
uncut_seams l (b ∷ bs) e =
    let n = length l.content in
    uncut_seams (with_member l b) bs e ∙ ap (λ t. cond (t && nat_lt 0 n) (l.seams ++ (n ∷ [])) l.seams) e

members_content : (l : Level) (bs : List (List ℕ)) → (with_members l bs).content ≡ l.content ++ concat bs
members_content l [] = sym (append-nil l.content)
members_content l (b ∷ bs) = members_content (with_member l b) bs ∙ append_assoc l.content b (concat bs)

-- ---- the level of a list

abbrev pub list_level : ListKind → List Wrapper → Level
list_level kind around = record { header = Tagged (list_tag kind); around = around; content = []; seams = [] }

pub members_header : (l : Level) (bs : List (List ℕ)) → (with_members l bs).header ≡ l.header
members_header l [] = refl
members_header l (b ∷ bs) = members_header (with_member l b) bs

pub members_around : (l : Level) (bs : List (List ℕ)) → (with_members l bs).around ≡ l.around
members_around l [] = refl
members_around l (b ∷ bs) = members_around (with_member l b) bs

-- one after the others
pub members-push : (l : Level) (bs : List (List ℕ)) (b : List ℕ)
    → with_members l (bs ++ (b ∷ [])) ≡ with_member (with_members l bs) b
members-push l [] b = refl
members-push l (c ∷ bs) b = members-push (with_member l c) bs b

-- with its members it is settled to the content of the list
pub final_content-members : (kind : ListKind) (around : List Wrapper) (bs : List (List ℕ))
    → final_content (with_members (list_level kind around) bs) ≡ list_content kind bs
final_content-members ListKind.sequence around bs =
    let l = list_level ListKind.sequence around in
    final_content-uncut (with_members l bs) (uncut_seams l bs refl) ∙ members_content l bs
final_content-members ListKind.set around bs =
    let l = list_level ListKind.set around in
    let m = with_members l bs in
    let start : SeamsDivide [] [] [] = record {
      ascending = tt;
      within = omega arith;
      no_seam = λ _. refl;
      same =
          refl;
    } in
    let all = seams_divide_all l [] bs refl start in
    in_ascending_order-without_empty (cut_at_seams m.seams m.content) ∙ ap (λ x. concat (in_ascending_order x)) all.same
    ∙ sym (in_ascending_order-without_empty bs)
