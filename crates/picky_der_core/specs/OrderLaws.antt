-- Lists in order, and that of the same encodings one list alone is ascending.
use Rattle.std.proofs.Common.{◌≡◌, ℕ, zero, suc, ◌+◌, Bool, true, false, cond, List, [], ◌∷◌, ◌++◌, map, length, get_or}
use Rattle.std.proofs.Common.{IsPermutation, IsSortedBy, IsSortedByKey, sum_by, is_lt, is_eq, nat_cmp, Ordering, Less}
use Rattle.std.proofs.Common.{Equal, Greater, refl, sym, ap, ap₂, ◌∙◌, subst, arith, length-append, true≢false}
use Rattle.std.specs.Cmp.Lexicographic.{slice_cmp}
use Rattle.std.specs.List.{concat}
use Rattle.std.specs.Ordering.{ordering_reverse}
use Rattle.std.proofs.lemmas.Cmp.{nat_list_cmp_total, tied_itself}
use Rattle.std.proofs.lemmas.List.{get_or_append_left}
use Rattle.std.proofs.lemmas.List.Concat.{concat_is, length-flat_map}
use Rattle.std.proofs.lemmas.List.Sorted.{ranks_by, sum_by-IsPermutation, IsPermutation-refl, IsPermutation-sym}
use Rattle.std.proofs.lemmas.List.Sorted.{IsPermutation-trans, IsPermutation-cons, IsPermutation-middle}
use Rattle.std.proofs.lemmas.List.Sorted.{IsPermutation-map}
use Rattle.std.proofs.lemmas.List.Sums.{sum_by-cons}
use Rattle.std.proofs.lemmas.Map.Lookups.{exact_bytes}
use Rattle.picky_der_core.specs.Order.{is_less, IsAscending, in_order_with, in_ascending_order}

-- ---- lists in any order, from left to right

module _ {X : Type 0} (less : X → X → Bool) where
  pub IsSortedBy-nil : IsSortedBy less []
  IsSortedBy-nil k d low high = absurd (omega arith)

  pub IsSortedBy-one : (a : X) → IsSortedBy less (a ∷ [])
  IsSortedBy-one a k d low high = absurd (omega arith)

  pub IsSortedBy-first : (a b : X) (ys : List X) → IsSortedBy less (a ∷ b ∷ ys) → less b a ≡ false
  IsSortedBy-first a b ys up = up 0 a (omega arith) (omega arith)

  pub IsSortedBy-tail : (a : X) (ys : List X) → IsSortedBy less (a ∷ ys) → IsSortedBy less ys
  IsSortedBy-tail a ys up k d low high =
      let next : suc k + 1 ≡ suc (k + 1) = omega arith in
      subst (λ n. less (get_or (a ∷ ys) n d) (get_or ys k d) ≡ false) next (up (suc k) d (omega arith) (omega arith))

  pub IsSortedBy-cons : (a b : X) (ys : List X) → less b a ≡ false → IsSortedBy less (b ∷ ys)
      → IsSortedBy less (a ∷ b ∷ ys)
  IsSortedBy-cons a b ys first up zero d low high = first
  IsSortedBy-cons a b ys first up (suc k) d low high =
      let next : suc (k + 1) ≡ suc k + 1 = omega arith in
      subst (λ n. less (get_or (a ∷ b ∷ ys) n d) (get_or (b ∷ ys) k d) ≡ false) next
      (up k d (omega arith) (omega arith))

  -- two lists in order that share an element: the last of the one is the first of the other
  pub IsSortedBy-join : (xs : List X) (b : X) (zs : List X) → IsSortedBy less (xs ++ b ∷ []) → IsSortedBy less (b ∷ zs)
      → IsSortedBy less (xs ++ b ∷ zs)
  IsSortedBy-join [] b zs up on = on
  IsSortedBy-join (a ∷ []) b zs up on = IsSortedBy-cons a b zs (IsSortedBy-first a b [] up) on
  IsSortedBy-join (a ∷ c ∷ xs) b zs up on =
      let others = IsSortedBy-join (c ∷ xs) b zs (IsSortedBy-tail a (c ∷ xs ++ b ∷ []) up) on in
      IsSortedBy-cons a c (xs ++ b ∷ zs) (IsSortedBy-first a c (xs ++ b ∷ []) up) others

  -- no list is in order in which one is less than the one before it, whatever follows
  pub IsSortedBy-broken : (xs : List X) (a b : X) (ys : List X) → less b a ≡ true → IsSortedBy less (xs ++ a ∷ b ∷ ys)
      → ⊥
  IsSortedBy-broken [] a b ys e up = true≢false (sym e ∙ IsSortedBy-first a b ys up)
  IsSortedBy-broken (c ∷ xs) a b ys e up = IsSortedBy-broken xs a b ys e (IsSortedBy-tail c (xs ++ a ∷ b ∷ ys) up)

module _ {X Y : Type 0} (less : Y → Y → Bool) (key : X → Y) where
  abbrev by_key : X → X → Bool
  by_key a b = less (key a) (key b)

  -- where elements are in order by their keys, the keys are
  pub IsSortedBy-map : (xs : List X) → IsSortedBy by_key xs → IsSortedBy less (map key xs)
  IsSortedBy-map [] up = IsSortedBy-nil less
  IsSortedBy-map (a ∷ []) up = IsSortedBy-one less (key a)
  IsSortedBy-map (a ∷ b ∷ xs) up =
      let others = IsSortedBy-map (b ∷ xs) (IsSortedBy-tail by_key a (b ∷ xs) up) in
      IsSortedBy-cons less (key a) (key b) (map key xs) (IsSortedBy-first by_key a b xs up) others

-- ---- the order of bytes

less_one_way : (a b : List ℕ) → is_less a b ≡ true → is_less b a ≡ false
less_one_way a b = (ranks_by nat_list_cmp_total (λ (c : List ℕ). c)).one_way a b

not_less_chain : (a b c : List ℕ) → is_less a b ≡ false → is_less b c ≡ false → is_less a c ≡ false
not_less_chain a b c = (ranks_by nat_list_cmp_total (λ (d : List ℕ). d)).chain a b c

less_on : (a b c : List ℕ) → is_less a b ≡ true → is_less c b ≡ false → is_less a c ≡ true
less_on a b c h k = by_test (is_less a c) refl
  where
    by_test : (t : Bool) → is_less a c ≡ t → is_less a c ≡ true
    by_test true e = e
    by_test false e = absurd (true≢false (sym h ∙ not_less_chain a c b e k))

-- one of two that differ is less
neither_less : (a b : List ℕ) → is_less a b ≡ false → is_less b a ≡ false → a ≡ b
neither_less a b h k = by_order (slice_cmp nat_cmp a b) refl
  where
    by_order : (o : Ordering) → slice_cmp nat_cmp a b ≡ o → a ≡ b
    by_order Less e = absurd (true≢false (sym (ap is_lt e) ∙ h))
    by_order Equal e = exact_bytes a b e
    by_order Greater e =
        absurd (true≢false (sym (ap is_lt (nat_list_cmp_total.antisymm b a ∙ ap ordering_reverse e)) ∙ k))

-- nothing is less than no bytes
pub ascending_after_nothing : (ys : List (List ℕ)) → IsAscending ys → IsAscending ([] ∷ ys)
ascending_after_nothing [] up = IsSortedBy-one is_less []
ascending_after_nothing (b ∷ ys) up = IsSortedBy-cons is_less [] b ys (not_less_nothing b) up
  where
    not_less_nothing : (c : List ℕ) → is_less c [] ≡ false
    not_less_nothing [] = refl
    not_less_nothing (x ∷ c) = refl

-- ---- how often each is in a list

abbrev once_if_equal : Ordering → ℕ
once_if_equal o = cond (is_eq o) 1 0

abbrev count : List ℕ → List (List ℕ) → ℕ
count a = sum_by (λ b. once_if_equal (slice_cmp nat_cmp a b))

count_more : (a b : List ℕ) (ys : List (List ℕ)) → count a (b ∷ ys) ≡ once_if_equal (slice_cmp nat_cmp a b) + count a ys
count_more a b ys = sum_by-cons (λ c. once_if_equal (slice_cmp nat_cmp a c)) b ys

count_itself : (a : List ℕ) (ys : List (List ℕ)) → count a (a ∷ ys) ≡ 1 + count a ys
count_itself a ys = count_more a a ys ∙ ap (λ o. once_if_equal o + count a ys) (tied_itself nat_list_cmp_total a)

less_differs : (o : Ordering) → is_lt o ≡ true → once_if_equal o ≡ 0
less_differs Less e = refl
less_differs Equal e = absurd (true≢false (sym e))
less_differs Greater e = refl

-- what is less than the first isn't there
count_less : (a b : List ℕ) (ys : List (List ℕ)) → is_less a b ≡ true → IsAscending (b ∷ ys) → count a (b ∷ ys) ≡ 0
count_less a b [] h up = omega (arith, count_more a b [], less_differs (slice_cmp nat_cmp a b) h)
count_less a b (c ∷ ys) h up =
    let others = count_less a c ys (less_on a b c h (IsSortedBy-first is_less b c ys up))
    (IsSortedBy-tail is_less b (c ∷ ys) up) in
    omega (arith, count_more a b (c ∷ ys), less_differs (slice_cmp nat_cmp a b) h)

-- the first of one list isn't less than the first of another where it is as often
first_not_less : (a b : List ℕ) (xs ys : List (List ℕ)) → IsAscending (b ∷ ys) → count a (a ∷ xs) ≡ count a (b ∷ ys)
    → is_less a b ≡ false
first_not_less a b xs ys up same = by_test (is_less a b) refl
  where
    by_test : (t : Bool) → is_less a b ≡ t → is_less a b ≡ false
    by_test true e = absurd (omega (arith, same, count_itself a xs, count_less a b ys e up))
    by_test false e = e

same_ascending : (xs ys : List (List ℕ)) → IsAscending xs → IsAscending ys → ((c : List ℕ) → count c xs ≡ count c ys)
    → xs ≡ ys
same_ascending [] [] up on same = refl
same_ascending [] (b ∷ ys) up on same = absurd (omega (arith, same b, count_itself b ys))
same_ascending (a ∷ xs) [] up on same = absurd (omega (arith, same a, count_itself a xs))
same_ascending (a ∷ xs) (b ∷ ys) up on same =
    let first : a ≡ b =
    neither_less a b (first_not_less a b xs ys on (same a)) (first_not_less b a ys xs up (sym (same b))) in
    let counts = λ (c : List ℕ). ap (λ d. once_if_equal (slice_cmp nat_cmp c d)) first in
    let fewer : (c : List ℕ) → count c xs ≡ count c ys =
    λ c. omega (arith, same c, count_more c a xs, count_more c b ys, counts c) in
    let others : xs ≡ ys = same_ascending xs ys (IsSortedBy-tail is_less a xs up) (IsSortedBy-tail is_less b ys on)
    fewer in
    cc

-- only one list of the same elements is ascending
pub only_ascending : (xs ys : List (List ℕ)) → IsPermutation xs ys → IsAscending xs → IsAscending ys → xs ≡ ys
only_ascending xs ys moved up on =
    same_ascending xs ys up on
    (λ c. sym (sum_by-IsPermutation (λ d. once_if_equal (slice_cmp nat_cmp c d)) xs ys moved))

-- ---- the arrangement

in_order_with-permutation : (a : List ℕ) (ys : List (List ℕ)) → IsPermutation (a ∷ ys) (in_order_with a ys)
in_order_with-permutation a [] = IsPermutation-refl (a ∷ [])
in_order_with-permutation a (b ∷ ys) = by_test (is_less b a) (in_order_with-permutation a ys)
  where
    by_test : (t : Bool) → IsPermutation (a ∷ ys) (in_order_with a ys)
        → IsPermutation (a ∷ b ∷ ys) (cond t (b ∷ in_order_with a ys) (a ∷ b ∷ ys))
    by_test true moved =
        let swapped = IsPermutation-sym _ _ (IsPermutation-middle (b ∷ []) a ys) in
        IsPermutation-trans _ _ _ swapped (IsPermutation-cons b _ _ moved)
    by_test false moved = IsPermutation-refl (a ∷ b ∷ ys)

-- after b, which a isn't less than
in_order_with-after : (a b : List ℕ) (ys : List (List ℕ)) → is_less a b ≡ false → IsAscending (b ∷ ys)
    → IsAscending (in_order_with a ys)
    → IsAscending (b ∷ in_order_with a ys)
in_order_with-after a b [] h up on = IsSortedBy-cons is_less b a [] h on
in_order_with-after a b (c ∷ ys) h up on = by_test (is_less c a) on
  where
    by_test : (t : Bool) → IsAscending (cond t (c ∷ in_order_with a ys) (a ∷ c ∷ ys))
        → IsAscending (b ∷ cond t (c ∷ in_order_with a ys) (a ∷ c ∷ ys))
    by_test true next = IsSortedBy-cons is_less b c (in_order_with a ys) (IsSortedBy-first is_less b c ys up) next
    by_test false next = IsSortedBy-cons is_less b a (c ∷ ys) h next

in_order_with-ascending : (a : List ℕ) (ys : List (List ℕ)) → IsAscending ys → IsAscending (in_order_with a ys)
in_order_with-ascending a [] up = IsSortedBy-one is_less a
in_order_with-ascending a (b ∷ ys) up =
    by_test (is_less b a) refl (in_order_with-ascending a ys (IsSortedBy-tail is_less b ys up))
  where
    by_test : (t : Bool) → is_less b a ≡ t → IsAscending (in_order_with a ys)
        → IsAscending (cond t (b ∷ in_order_with a ys) (a ∷ b ∷ ys))
    by_test true e on = in_order_with-after a b ys (less_one_way b a e) up on
    by_test false e on = IsSortedBy-cons is_less a b ys e up

pub in_ascending_order-permutation : (xs : List (List ℕ)) → IsPermutation xs (in_ascending_order xs)
unfolding in_ascending_order
in_ascending_order-permutation [] = IsPermutation-refl []
in_ascending_order-permutation (a ∷ xs) =
    IsPermutation-trans _ _ _ (IsPermutation-cons a _ _ (in_ascending_order-permutation xs))
    (in_order_with-permutation a (in_ascending_order xs))

pub in_ascending_order-ascending : (xs : List (List ℕ)) → IsAscending (in_ascending_order xs)
unfolding in_ascending_order
in_ascending_order-ascending [] = IsSortedBy-nil is_less
in_ascending_order-ascending (a ∷ xs) =
    in_order_with-ascending a (in_ascending_order xs) (in_ascending_order-ascending xs)

-- what is ascending stays as it is
pub in_ascending_order-same : (xs : List (List ℕ)) → IsAscending xs → in_ascending_order xs ≡ xs
in_ascending_order-same xs up =
    sym (only_ascending xs (in_ascending_order xs) (in_ascending_order-permutation xs) up
    (in_ascending_order-ascending xs))

-- the order in which the elements are given doesn't matter
pub in_ascending_order-permuted : (xs ys : List (List ℕ)) → IsPermutation xs ys
    → in_ascending_order xs ≡ in_ascending_order ys
in_ascending_order-permuted xs ys moved =
    let back = IsPermutation-sym _ _ (in_ascending_order-permutation xs) in
    let on = IsPermutation-trans _ _ _ moved (in_ascending_order-permutation ys) in
    let whole = IsPermutation-trans _ _ _ back on in
    only_ascending (in_ascending_order xs) (in_ascending_order ys) whole (in_ascending_order-ascending xs)
    (in_ascending_order-ascending ys)

-- it is what a sort by the bytes of each element gives
pub in_ascending_order-sorted : {X : Type 0} (bytes : X → List ℕ) (xs ys : List X) → IsPermutation xs ys
    → IsSortedByKey bytes (slice_cmp nat_cmp) ys → in_ascending_order (map bytes xs) ≡ map bytes ys
in_ascending_order-sorted bytes xs ys moved up =
    let same = in_ascending_order-permuted (map bytes xs) (map bytes ys) (IsPermutation-map bytes xs ys moved) in
    same ∙ in_ascending_order-same (map bytes ys) (IsSortedBy-map is_less bytes ys up)

-- as many bytes in all
pub length-in_ascending_order : (xs : List (List ℕ)) → length (concat (in_ascending_order xs)) ≡ length (concat xs)
length-in_ascending_order xs = total (in_ascending_order xs) ∙ sum_by-IsPermutation length xs (in_ascending_order xs)
    (in_ascending_order-permutation xs) ∙ sym (total xs)
  where
    total : (ys : List (List ℕ)) → length (concat ys) ≡ sum_by length ys
    total ys = ap length (concat_is ys) ∙ length-flat_map (λ b. b) ys

-- ---- elements without bytes

abbrev pub without_empty : List (List ℕ) → List (List ℕ)
without_empty [] = []
without_empty ([] ∷ xs) = without_empty xs
without_empty ((b ∷ a) ∷ xs) = (b ∷ a) ∷ without_empty xs

abbrev empty_ones : List (List ℕ) → List (List ℕ)
empty_ones [] = []
empty_ones ([] ∷ xs) = [] ∷ empty_ones xs
empty_ones ((b ∷ a) ∷ xs) = empty_ones xs

in_order_with-nothing : (xs : List (List ℕ)) → in_order_with [] xs ≡ [] ∷ xs
in_order_with-nothing [] = refl
in_order_with-nothing ([] ∷ xs) = refl
in_order_with-nothing ((b ∷ a) ∷ xs) = refl

in_order_with-after_empty : (b : ℕ) (a : List ℕ) (xs ys : List (List ℕ))
    → in_order_with (b ∷ a) (empty_ones xs ++ ys) ≡ empty_ones xs ++ in_order_with (b ∷ a) ys
in_order_with-after_empty b a [] ys = refl
in_order_with-after_empty b a ([] ∷ xs) ys = ap (λ l. [] ∷ l) (in_order_with-after_empty b a xs ys)
in_order_with-after_empty b a ((d ∷ c) ∷ xs) ys = in_order_with-after_empty b a xs ys

-- they come first
empty_first : (xs : List (List ℕ)) → in_ascending_order xs ≡ empty_ones xs ++ in_ascending_order (without_empty xs)
unfolding in_ascending_order
empty_first [] = refl
empty_first ([] ∷ xs) = in_order_with-nothing (in_ascending_order xs) ∙ ap (λ l. [] ∷ l) (empty_first xs)
empty_first ((b ∷ a) ∷ xs) = ap (in_order_with (b ∷ a)) (empty_first xs)
    ∙ in_order_with-after_empty b a xs (in_ascending_order (without_empty xs))

concat-empty : (xs ys : List (List ℕ)) → concat (empty_ones xs ++ ys) ≡ concat ys
concat-empty [] ys = refl
concat-empty ([] ∷ xs) ys = concat-empty xs ys
concat-empty ((b ∷ a) ∷ xs) ys = concat-empty xs ys

-- and add nothing
pub in_ascending_order-without_empty : (xs : List (List ℕ))
    → concat (in_ascending_order xs) ≡ concat (in_ascending_order (without_empty xs))
in_ascending_order-without_empty xs = ap concat (empty_first xs)
    ∙ concat-empty xs (in_ascending_order (without_empty xs))
