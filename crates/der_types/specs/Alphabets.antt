-- Permitted alphabets (X.680, 51.7): the characters of a string type whose numbers are of some ranges.
use Rattle.std.specs.Prelude.{◌≡◌, ℕ, ◌<◌, ◌≤◌, Bool, true, false, ◌&&◌, ◌||◌, nat_le, nat_lt, List, [], ◌∷◌, refl}
use Rattle.std.specs.Int.{is_in_range}
use Rattle.std.specs.List.{list_all}
use Rattle.std.proofs.Common.{arith, leb-true, ltb-true}
use Rattle.std.proofs.lemmas.Bool.{and_from, and_parts}
use Rattle.der_types.specs.ContentTypes.{string_character}

-- of one of these ranges, by their least and greatest numbers
abbrev pub is_of : List (ℕ × ℕ) → ℕ → Bool
is_of [] c = false
is_of (r ∷ rs) c = is_in_range r.0 r.1 c || is_of rs c

-- a character of the string type with this tag, too
abbrev pub is_permitted : ℕ → List (ℕ × ℕ) → ℕ → Bool
is_permitted tag ranges c = string_character tag c && is_of ranges c

-- each range ends below a number
abbrev pub are_below : ℕ → List (ℕ × ℕ) → Bool
are_below most [] = true
are_below most (r ∷ rs) = nat_lt r.1 most && are_below most rs

-- ---- the numbers of the characters

below_of : (most : ℕ) (r : ℕ × ℕ) (rs : List (ℕ × ℕ)) (c : ℕ) (p q : Bool) → is_in_range r.0 r.1 c ≡ p
    → is_of rs c ≡ q → (p || q) ≡ true → nat_lt r.1 most ≡ true → (q ≡ true → c < most) → c < most
below_of most r rs c true q e f o h later =
    let end : c ≤ r.1 = leb-true c r.1 (and_parts (nat_le r.0 c) (nat_le c r.1) e).1 in
    omega (arith, end, ltb-true r.1 most h)
below_of most r rs c false true e f o h later = later refl
below_of most r rs c false false e f o h later = cc

is_of-below : (most : ℕ) (ranges : List (ℕ × ℕ)) → are_below most ranges ≡ true → (c : ℕ) → is_of ranges c ≡ true
    → c < most
is_of-below most [] h c e = cc
is_of-below most (r ∷ rs) h c e =
    let parts = and_parts (nat_lt r.1 most) (are_below most rs) h in
    below_of most r rs c (is_in_range r.0 r.1 c) (is_of rs c) refl refl e parts.0 (is_of-below most rs parts.1 c)

pub permitted_is_below : (tag : ℕ) (ranges : List (ℕ × ℕ)) (most : ℕ) → are_below most ranges ≡ true → (c : ℕ)
    → is_permitted tag ranges c ≡ true → c < most
permitted_is_below tag ranges most h c e =
    is_of-below most ranges h c (and_parts (string_character tag c) (is_of ranges c) e).1

pub permitted_is_of : (tag : ℕ) (ranges : List (ℕ × ℕ)) (c : ℕ) → is_permitted tag ranges c ≡ true
    → string_character tag c ≡ true
permitted_is_of tag ranges c e = (and_parts (string_character tag c) (is_of ranges c) e).0

-- ---- characters of both kinds

module _ (p q : ℕ → Bool) where
  pub all-both : (xs : List ℕ) → list_all p xs ≡ true → list_all q xs ≡ true → list_all (λ x. p x && q x) xs ≡ true
  all-both [] f g = refl
  all-both (x ∷ xs) f g =
      let a = and_parts (p x) (list_all p xs) f in
      let b = and_parts (q x) (list_all q xs) g in
      and_from (p x && q x) (list_all (λ x. p x && q x) xs) (and_from (p x) (q x) a.0 b.0) (all-both xs a.1 b.1)

  pub both-all : (xs : List ℕ) → list_all (λ x. p x && q x) xs ≡ true
      → (list_all p xs ≡ true) × (list_all q xs ≡ true)
  both-all [] e = (refl, refl)
  both-all (x ∷ xs) e =
      let parts = and_parts (p x && q x) (list_all (λ x. p x && q x) xs) e in
      let first = and_parts (p x) (q x) parts.0 in
      let others = both-all xs parts.1 in
      (and_from (p x) (list_all p xs) first.0 others.0, and_from (q x) (list_all q xs) first.1 others.1)
