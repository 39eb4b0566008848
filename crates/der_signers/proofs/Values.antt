-- Lists of one value, and lists of reports.
use Rattle.std.proofs.Common.{◌≡◌, ℕ, ◌+◌, ◌<◌, ◌≤◌, Bool, List, [], ◌∷◌, ◌++◌, length, map, take, get_or, nat_eq, sym}
use Rattle.std.proofs.Common.{ap, ◌∙◌, subst, arith}
use Rattle.std.specs.Prelude.{IsTrue, ◌↔◌}
use Rattle.std.specs.Cmp.Lexicographic.{pointwise, bytes_decides}
use Rattle.std.specs.List.{AllZip}
use Rattle.std.proofs.lemmas.List.{take_more}

-- the only element of a list
pub only_value : {X : Type 0} (f : X → List ℕ) (items : List X) (x : X) (value : List ℕ) (r : Bool) → 1 ≤ length items
    → length items < 2 → x ≡ get_or items 0 x → r ≡ pointwise nat_eq (f x) value → IsTrue r ↔ (map f items ≡ value ∷ [])
only_value f [] x value r low high is e = absurd (omega arith)
only_value f (y ∷ []) x value r low high is e =
    let same : f y ≡ f x = ap f (sym is) in (
      λ t. ap (λ v. v ∷ []) (same ∙ (bytes_decides (f x) value).0 (sym e ∙ t)),
      λ h. e ∙ (bytes_decides (f x) value).1 (sym same ∙ ap (λ l. get_or l 0 []) h),
    )
only_value f (y ∷ z ∷ items) x value r low high is e = absurd (omega arith)

AllZip-more : {A B : Type 0} (R : A → B → Type 0) (xs : List A) (ys : List B) (x : A) (y : B) → AllZip R xs ys → R x y
    → AllZip R (xs ++ x ∷ []) (ys ++ y ∷ [])
AllZip-more R [] [] x y h one = (one, tt)
AllZip-more R [] (b ∷ ys) x y h one = absurd h
AllZip-more R (a ∷ xs) [] x y h one = absurd h
AllZip-more R (a ∷ xs) (b ∷ ys) x y h one = (h.0, AllZip-more R xs ys x y h.1 one)

-- one more of the list, and one more after the others
pub zip_more : {A B : Type 0} (R : A → B → Type 0) (xs : List A) (ys : List B) (i : ℕ) (x : A) (y : B) → i < length xs
    → x ≡ get_or xs i x → AllZip R (take i xs) ys → R x y → AllZip R (take (i + 1) xs) (ys ++ y ∷ [])
zip_more R xs ys i x y inside is h one =
    let more : take (i + 1) xs ≡ take i xs ++ x ∷ [] = take_more xs i x inside
    ∙ ap (λ z. take i xs ++ z ∷ []) (sym is) in
    subst (λ l. AllZip R l (ys ++ y ∷ [])) (sym more) (AllZip-more R (take i xs) ys x y h one)
