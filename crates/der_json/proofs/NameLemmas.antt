-- What names are.
use Rattle.std.proofs.Common.{◌≡◌, ◌≢◌, ℕ, zero, suc, ◌≤◌, Bool, true, false, not, ◌||◌, List, [], ◌∷◌}
use Rattle.std.proofs.Common.{refl, ap, sym, ◌∙◌, leb-true}
use Rattle.std.specs.Prelude.{nat_le}
use Rattle.std.specs.List.{AllByRecursion, list_all, list_any}
use Rattle.std.specs.Str.{bytes_eq}
use Rattle.std.proofs.lemmas.Slice.Eq.{bytes_eq-Decides}
use Rattle.der_types.specs.CharacterStringLaws.{both}
use Rattle.der_schema.specs.declared.node.Kind.{Kind}
use Rattle.der_schema.specs.declared.node.Node.{Node}
use Rattle.der_json.specs.Json.{IsOfKind}
use Rattle.der_schema.specs.Names.{are_different, are_names, has_names, is_small, names_in}

abbrev pub AreDifferent : List (List ℕ) → Type 0
AreDifferent [] = Unit {0}
AreDifferent (x ∷ xs) = AllByRecursion (λ y. x ≢ y) xs × AreDifferent xs

abbrev pub IsSmall : List ℕ → Type 0
IsSmall [] = ⊥
IsSmall (c ∷ cs) = (0x61 ≤ c) × (c ≤ 0x7A)

pub record AreNames (names : List (List ℕ)) : Type 0 where
  pub small : AllByRecursion IsSmall names
  pub different : AreDifferent names

-- each type of a table has names
abbrev pub HasNames : List Node → Type 0
HasNames nodes = (i : ℕ) (k : Kind) → IsOfKind nodes i k → AreNames (names_in k)

neither : (a b : Bool) → not (a || b) ≡ true → (a ≡ false) × (not b ≡ true)
neither true b e = absurd (cc)
neither false b e = (refl, e)

apart : (x y : List ℕ) → bytes_eq x y ≡ false → x ≢ y
apart x y e same = cc ((bytes_eq-Decides x y).1 same)

others_differ : (x : List ℕ) (xs : List (List ℕ)) → not (list_any (bytes_eq x) xs) ≡ true
    → AllByRecursion (λ y. x ≢ y) xs
others_differ x [] e = tt
others_differ x (y ∷ ys) e =
    let parts = neither (bytes_eq x y) (list_any (bytes_eq x) ys) e in
    (apart x y parts.0, others_differ x ys parts.1)

all_different : (xs : List (List ℕ)) → are_different xs ≡ true → AreDifferent xs
all_different [] e = tt
all_different (x ∷ xs) e =
    let parts = both (not (list_any (bytes_eq x) xs)) (are_different xs) e in
    (others_differ x xs parts.0, all_different xs parts.1)

begins_small : (x : List ℕ) → is_small x ≡ true → IsSmall x
begins_small [] e = absurd (cc)
begins_small (c ∷ cs) e =
    let parts = both (nat_le 0x61 c) (nat_le c 0x7A) e in
    (leb-true 0x61 c parts.0, leb-true c 0x7A parts.1)

all_small : (xs : List (List ℕ)) → list_all is_small xs ≡ true → AllByRecursion IsSmall xs
all_small [] e = tt
all_small (x ∷ xs) e =
    let parts = both (is_small x) (list_all is_small xs) e in
    (begins_small x parts.0, all_small xs parts.1)

pub names_from : (names : List (List ℕ)) → are_names names ≡ true → AreNames names
names_from names e =
    let parts = both (list_all is_small names) (are_different names) e in
    record { small = all_small names parts.0; different = all_different names parts.1 }

-- what is true of the kind of each node
pub kind_holds : (p : Kind → Bool) (nodes : List Node) (i : ℕ) (k : Kind) → list_all (λ node. p node.kind) nodes ≡ true
    → IsOfKind nodes i k → p k ≡ true
kind_holds p [] i k e of = cc
kind_holds p (node ∷ nodes) zero k e of =
    let same : node.kind ≡ k = cc in
    ap p (sym same) ∙ (both (p node.kind) (list_all (λ l. p l.kind) nodes) e).0
kind_holds p (node ∷ nodes) (suc i) k e of =
    kind_holds p nodes i k (both (p node.kind) (list_all (λ l. p l.kind) nodes) e).1 of

pub each_has_names : (nodes : List Node) → has_names nodes ≡ true → HasNames nodes
each_has_names nodes e i k of =
    names_from (names_in k) (kind_holds (λ l. are_names (names_in l)) nodes i k e of)
