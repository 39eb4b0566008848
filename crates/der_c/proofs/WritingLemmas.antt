-- Sizes of elements, and one write after another.
use Rattle.std.proofs.Common.{rules, arith, slice_range, ◌≡◌, ℕ, ◌+◌, ◌-◌, ◌≤◌, List, ◌++◌, length, take, drop, ap, ◌∙◌}
use Rattle.std.proofs.lemmas.List.{length-append, length-take-le, length-drop, drop-drop, same_lists, places}
use borrow.Rule.Slice.PartMut.{put_mid}
use Rattle.picky_der_core.specs.Element.{tlv, length_octets}
use Rattle.der_c.specs.Writing.{put_over}

-- the size of an element
pub length_tlv : (tag : ℕ) (content : List ℕ)
    → length (tlv tag content) ≡ 1 + length (length_octets (length content)) + length content
unfolding tlv
length_tlv tag content = let e = length-append (length_octets (length content)) content in omega (arith, e)

-- an element is put as its header, and then its content
pub put_put : (old xs ys : List ℕ) (at : ℕ) → at + (length xs + length ys) ≤ length old
    → put_over (put_over old at xs) (at + length xs) ys ≡ put_over old at (xs ++ ys)
put_put old xs ys at fits = same_lists _ _ (search (rules, places)) (λ k d h. grind (arith, places))

-- a part of a slice after it was written
pub mid_put : (xs ys : List ℕ) (r : ℕ) → put_mid r (r + length ys - r) xs ys ≡ put_over xs r ys
mid_put xs ys r = let e : r + length ys - r ≡ length ys = omega arith in
    ap (λ (n : ℕ). put_mid r n xs ys) e ∙ ap (λ (d : List ℕ). take r xs ++ (ys ++ d)) (drop-drop (length ys) r xs)

-- a header is put in front of a content that was moved
pub put_before : (old xs ys : List ℕ) (at : ℕ) → at + (length xs + length ys) ≤ length old
    → put_over (put_over old (at + length xs) ys) at xs ≡ put_over old at (xs ++ ys)
put_before old xs ys at fits = same_lists _ _ (search (rules, places)) (λ k d h. grind (arith, places))

pub length_range : (old : List ℕ) (a b : ℕ) → a ≤ b → b ≤ length old → length (slice_range old a b) ≡ b - a
length_range old a b le fits = length-take-le (b - a) (drop a old) (let e = length-drop a old in
    omega (arith, e, le, fits))
