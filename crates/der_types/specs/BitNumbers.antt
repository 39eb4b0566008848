-- Bits by their numbers.
use Rattle.std.proofs.Common.{◌≡◌, ℕ, zero, suc, ◌+◌, ◌<◌, ◌==◌, Bool, true, false, ◌||◌, if◌then◌else◌, List, [], ◌∷◌}
use Rattle.std.proofs.Common.{◌++◌, length, take, get_or, Some, None, refl, sym, ap, ◌∙◌, add-one, arith}
use Rattle.std.specs.Prelude.{slice_get}
use Rattle.std.specs.List.{list_any}
use Rattle.der_types.specs.BitString.{bit_string_content, bits_of, unless_zeros, without_zeros}
use Rattle.der_types.specs.BitStringLaws.{bits_of-content}

-- ---- one bit more of those that are read

pub taken_more : (bits : List Bool) (i : ℕ) (b : Bool) → slice_get bits i ≡ Some b
    → take (i + 1) bits ≡ take i bits ++ b ∷ []
taken_more bits i b e = ap (λ n. take n bits) (add-one i) ∙ taken bits i e
  where
    taken : (bits : List Bool) (i : ℕ) → slice_get bits i ≡ Some b → take (suc i) bits ≡ take i bits ++ b ∷ []
    taken [] i e = cc
    taken (c ∷ bits) zero e = cc
    taken (c ∷ bits) (suc i) e = ap (λ bs. c ∷ bs) (taken bits i e)

pub taken_all : (bits : List Bool) (i : ℕ) → slice_get bits i ≡ None → take i bits ≡ bits
taken_all [] zero e = refl
taken_all [] (suc i) e = refl
taken_all (c ∷ bits) zero e = cc
taken_all (c ∷ bits) (suc i) e = ap (λ bs. c ∷ bs) (taken_all bits i e)

-- ---- bits that are written one after another

any_more : (test : ℕ → Bool) (numbers : List ℕ) (i : ℕ) → i < length numbers
    → list_any test (take (suc i) numbers) ≡ (list_any test (take i numbers) || test (get_or numbers i 0))
any_more test [] i h = absurd (omega arith)
any_more test (n ∷ numbers) zero h = elim (test n) as (λ b. (b || false) ≡ b) [ true ↦ refl | false ↦ refl ]
any_more test (n ∷ numbers) (suc i) h =
    ap (λ b. test n || b) (any_more test numbers i (omega arith))
    ∙ grouped (test n) (list_any test (take i numbers)) (test (get_or numbers i 0))
  where
    grouped : (a b c : Bool) → (a || (b || c)) ≡ ((a || b) || c)
    grouped true b c = refl
    grouped false b c = refl

pub put_more : (k : ℕ) (numbers : List ℕ) (i : ℕ) (b : Bool) → i < length numbers
    → b ≡ list_any (λ n. k == n) (take i numbers)
    → (if k == get_or numbers i 0 then true else b) ≡ list_any (λ n. k == n) (take (i + 1) numbers)
put_more k numbers i b h e =
    either (k == get_or numbers i 0) b ∙ ap (λ b. b || (k == get_or numbers i 0)) e
    ∙ sym (any_more (λ n. k == n) numbers i h) ∙ sym (ap (λ j. list_any (λ n. k == n) (take j numbers)) (add-one i))
  where
    either : (a b : Bool) → (if a then true else b) ≡ (b || a)
    either true true = refl
    either true false = refl
    either false true = refl
    either false false = refl

-- ---- what a content has of bits that it is made of

get_or-without_zeros : (bits : List Bool) (k : ℕ) → get_or (without_zeros bits) k false ≡ get_or bits k false
get_or-without_zeros [] k = refl
get_or-without_zeros (b ∷ bits) zero = first b (without_zeros bits)
  where
    first : (b : Bool) (bits : List Bool) → get_or (unless_zeros b bits) 0 false ≡ b
    first true bits = refl
    first false [] = refl
    first false (c ∷ bits) = refl
get_or-without_zeros (b ∷ bits) (suc k) = others b (without_zeros bits) ∙ get_or-without_zeros bits k
  where
    others : (b : Bool) (bits : List Bool) → get_or (unless_zeros b bits) (suc k) false ≡ get_or bits k false
    others true bits = refl
    others false [] = refl
    others false (c ∷ bits) = refl

pub bit-named_content : (bits : List Bool) (k : ℕ)
    → get_or (bits_of (bit_string_content (without_zeros bits))) k false ≡ get_or bits k false
bit-named_content bits k =
    ap (λ bs. get_or bs k false) (bits_of-content (without_zeros bits)) ∙ get_or-without_zeros bits k
