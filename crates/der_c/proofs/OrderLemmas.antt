-- Elements that are cut from the front one by one, and put in order.
use Rattle.std.proofs.Common.{◌≡◌, ℕ, List, [], ◌∷◌, ◌++◌, length, map, sym, ap, subst, ◌∙◌, append_assoc}
use Rattle.std.specs.Borrow.{Bor}
use Rattle.std.specs.List.{AllByRecursion, concat}
use Rattle.std.proofs.lemmas.List.{map-append}
use Rattle.picky_der_core.specs.Element.{IsElement}
use Rattle.picky_der_core.specs.OrderLaws.{length-in_ascending_order}
use Rattle.der_c.specs.Order.{AreInOrder}

all_and_one : (ms : List (List ℕ)) (m : List ℕ) → AllByRecursion IsElement ms → IsElement m
    → AllByRecursion IsElement (ms ++ (m ∷ []))
all_and_one [] m all is = (is, tt)
all_and_one (n ∷ ns) m all is = (all.0, all_and_one ns m all.1 is)

concat_and_one : (ms : List (List ℕ)) (m rest : List ℕ) → concat (ms ++ (m ∷ [])) ++ rest ≡ concat ms ++ (m ++ rest)
concat_and_one [] m rest = append_assoc m [] rest
concat_and_one (n ∷ ns) m rest = append_assoc n (concat (ns ++ (m ∷ []))) rest
    ∙ ap (λ b. n ++ b) (concat_and_one ns m rest) ∙ sym (append_assoc n (concat ns) (m ++ rest))

-- one more is cut off
pub one_more : (xs ys : List (Bor (List ℕ))) (x : Bor (List ℕ)) (bytes rest after : List ℕ) → ys ≡ xs ++ (x ∷ [])
    → AllByRecursion IsElement (map (λ m. m.now) xs) → bytes ≡ concat (map (λ m. m.now) xs) ++ rest
    → IsElement x.now → rest ≡ x.now ++ after
    → AllByRecursion IsElement (map (λ m. m.now) ys) × (bytes ≡ concat (map (λ m. m.now) ys) ++ after)
one_more xs ys x bytes rest after same elements is element e =
    let ms : List (List ℕ) = map (λ m. m.now) xs in
    let all : map (λ m. m.now) ys ≡ ms ++ (x.now ∷ []) =
    ap (map (λ m. m.now)) same ∙ map-append (λ m. m.now) xs (x ∷ []) in (
      subst (AllByRecursion IsElement) (sym all) (all_and_one ms x.now elements element),
      is ∙ ap (λ b. concat ms ++ b) e ∙ sym (concat_and_one ms x.now after) ∙ ap (λ a. concat a ++ after) (sym all),
    )

-- as many bytes, in another order
pub length-in_order : (bytes ordered : List ℕ) → AreInOrder bytes ordered → length ordered ≡ length bytes
length-in_order bytes ordered o =
    ap length o.is ∙ length-in_ascending_order o.members ∙ sym (ap length o.cut.is)
