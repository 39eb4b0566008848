-- Lists: a relation of each two elements, and what is found in one.
use Rattle.std.proofs.Common.{◌≡◌, ℕ, ◌+◌, ◌<◌, List, [], ◌∷◌, ◌++◌, length, map, take, get_or, Option, Some, None}
use Rattle.std.proofs.Common.{IfSome, IfNone, MatchOption, sym, ap, ◌∙◌, subst}
use Rattle.std.specs.List.{AllZip, All, Contains}
use Rattle.std.proofs.lemmas.List.{take_more}
use Rattle.std.proofs.lemmas.List.Elements.{All-contains}

-- ---- one more of each

AllZip-more : {A B : Type 0} (R : A → B → Type 0) (xs : List A) (ys : List B) (x : A) (y : B) → AllZip R xs ys → R x y
    → AllZip R (xs ++ x ∷ []) (ys ++ y ∷ [])
AllZip-more R [] [] x y h one = (one, tt)
AllZip-more R [] (b ∷ ys) x y h one = absurd h
AllZip-more R (a ∷ xs) [] x y h one = absurd h
AllZip-more R (a ∷ xs) (b ∷ ys) x y h one = (h.0, AllZip-more R xs ys x y h.1 one)

-- one more of the list, and one more after the others
pub zip_more : {A B : Type 0} (R : A → B → Type 0) (xs : List A) (ys : List B) (i : ℕ) (x : A) (y : B) → i < length xs
    → x ≡ get_or xs i x → AllZip R (take i xs) ys → R x y → AllZip R (take (i + 1) xs) (ys ++ y ∷ [])
zip_more R xs ys i x y inside is h one =
    let more : take (i + 1) xs ≡ take i xs ++ x ∷ [] = take_more xs i x inside
    ∙ ap (λ z. take i xs ++ z ∷ []) (sym is) in
    subst (λ l. AllZip R l (ys ++ y ∷ [])) (sym more) (AllZip-more R (take i xs) ys x y h one)

-- ---- images of both lists

module _ {A B C : Type 0} (R : A → C → Type 0) (g : B → C) where
  pub zip_right : (xs : List A) (ys : List B) → AllZip (λ x y. R x (g y)) xs ys → AllZip R xs (map g ys)
  zip_right [] [] h = h
  zip_right [] (y ∷ ys) h = h
  zip_right (x ∷ xs) [] h = h
  zip_right (x ∷ xs) (y ∷ ys) h = (h.0, zip_right xs ys h.1)

module _ {A B C D : Type 0} (R : C → D → Type 0) (f : A → C) (g : B → D) where
  pub zip_both : (xs : List A) (ys : List B) → AllZip (λ x y. R (f x) (g y)) xs ys → AllZip R (map f xs) (map g ys)
  zip_both [] [] h = h
  zip_both [] (y ∷ ys) h = h
  zip_both (x ∷ xs) [] h = h
  zip_both (x ∷ xs) (y ∷ ys) h = (h.0, zip_both xs ys h.1)

-- ---- a search in a list of all values

-- if none is found among all, there is none
pub found_or_none : {X : Type 0} (P : X → Type 0) (all : List X) (r : Option X) → ((x : X) → Contains all x)
    → IfSome r P → IfNone r (All (λ x. P x → ⊥) all) → MatchOption r ((x : X) → P x → ⊥) P
found_or_none P all (Some x) listed some none = some
found_or_none P all None listed some none = λ x. All-contains (λ y. P y → ⊥) all x none (listed x)
