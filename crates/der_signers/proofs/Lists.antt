-- One more element of a list, and what is left of it.
use Rattle.std.proofs.Common.{◌≡◌, ℕ, ◌+◌, ◌<◌, ◌≤◌, Bool, List, [], ◌∷◌, ◌++◌, length, map, take, drop, get_or, sym}
use Rattle.std.proofs.Common.{ap, ◌∙◌, arith, append_assoc, append-nil, length-take}
use Rattle.std.specs.Prelude.{Some, None, true, false, nat_eq, ◌==◌, if◌then◌else◌}
use Rattle.std.specs.Cmp.Lexicographic.{pointwise}
use Rattle.std.specs.List.{enumerate_from, flat_map}
use Rattle.std.proofs.lemmas.List.{take_more, drop_more, at_drop_all}
use Rattle.der_signers.specs.Algorithm.{name_in}
use Rattle.der_signers.specs.LineEnds.{canonical_after, with_cr}

-- what is left, from the next byte on
pub canonical_more : (text : List ℕ) (is_after_cr : Bool) (bytes whole : List ℕ) (i b : ℕ) → i < length bytes
    → b ≡ get_or bytes i b → text ++ canonical_after is_after_cr (drop i bytes) ≡ whole
    → (text ++ with_cr is_after_cr b) ++ canonical_after (b == 13) (drop (i + 1) bytes) ≡ whole
canonical_more text is_after_cr bytes whole i b inside is h =
    let left : drop i bytes ≡ b ∷ drop (i + 1) bytes = drop_more bytes i b inside
    ∙ ap (λ x. x ∷ drop (i + 1) bytes) (sym is) in
    append_assoc text (with_cr is_after_cr b) _ ∙ (ap (λ l. text ++ canonical_after is_after_cr l) (sym left) ∙ h)

-- ---- numbered elements

flat_map-numbered : {X A : Type 0} (f : ℕ × X → List A) (xs : List X) (x : X) (n : ℕ)
    → flat_map f (enumerate_from n (xs ++ x ∷ [])) ≡ flat_map f (enumerate_from n xs) ++ f (n + length xs, x)
flat_map-numbered f [] x n =
    let here : n ≡ n + 0 = omega arith in
    append-nil (f (n, x)) ∙ ap (λ k. f (k, x)) here
flat_map-numbered f (y ∷ xs) x n =
    let next : n + 1 + length xs ≡ n + length (y ∷ xs) = omega arith in
    ap (λ l. f (n, y) ++ l) (flat_map-numbered f xs x (n + 1)
    ∙ ap (λ k. flat_map f (enumerate_from (n + 1) xs) ++ f (k, x)) next)
    ∙ sym (append_assoc (f (n, y)) (flat_map f (enumerate_from (n + 1) xs)) (f (n + length (y ∷ xs), x)))

-- those up to the next element
pub numbered_more : {X A : Type 0} (f : ℕ × X → List A) (xs : List X) (i : ℕ) (x : X) → i < length xs
    → x ≡ get_or xs i x → flat_map f (enumerate_from 0 (take (i + 1) xs)) ≡ flat_map f (enumerate_from 0 (take i xs))
    ++ f (i, x)
numbered_more f xs i x inside is =
    let more : take (i + 1) xs ≡ take i xs ++ x ∷ [] = take_more xs i x inside
    ∙ ap (λ z. take i xs ++ z ∷ []) (sym is) in
    let size : 0 + length (take i xs) ≡ i = omega (arith, length-take i xs, inside) in
    ap (λ l. flat_map f (enumerate_from 0 l)) more
    ∙ (flat_map-numbered f (take i xs) x 0 ∙ ap (λ k. flat_map f (enumerate_from 0 (take i xs)) ++ f (k, x)) size)

-- ---- the table of names

pub name_more : {E : Type 0} (f : E → List ℕ × List ℕ) (table : List E) (i : ℕ) (d : E) (content : List ℕ)
    → i < length table → pointwise nat_eq (f (get_or table i d)).0 content ≡ false
    → name_in (map f (drop i table)) content ≡ name_in (map f table) content
    → name_in (map f (drop (i + 1) table)) content ≡ name_in (map f table) content
name_more f table i d content inside other h =
    let entry = f (get_or table i d) in
    let rest = name_in (map f (drop (i + 1) table)) content in
    sym (ap (λ found. if found then Some entry.1 else rest) other)
    ∙ (sym (ap (λ l. name_in (map f l) content) (drop_more table i d inside)) ∙ h)

pub name_found : {E : Type 0} (f : E → List ℕ × List ℕ) (table : List E) (i : ℕ) (d : E) (content : List ℕ)
    → i < length table → pointwise nat_eq (f (get_or table i d)).0 content ≡ true
    → name_in (map f (drop i table)) content ≡ name_in (map f table) content
    → Some (f (get_or table i d)).1 ≡ name_in (map f table) content
name_found f table i d content inside same h =
    let entry = f (get_or table i d) in
    let rest = name_in (map f (drop (i + 1) table)) content in
    sym (ap (λ found. if found then Some entry.1 else rest) same)
    ∙ (sym (ap (λ l. name_in (map f l) content) (drop_more table i d inside)) ∙ h)

pub no_name : {E : Type 0} (f : E → List ℕ × List ℕ) (table : List E) (i : ℕ) (content : List ℕ) → length table ≤ i
    → name_in (map f (drop i table)) content ≡ name_in (map f table) content → None ≡ name_in (map f table) content
no_name f table i content past h = sym (at_drop_all (λ l. name_in (map f l) content) table i past) ∙ h

-- ---- texts

pub appended : (a b c d : List ℕ) → a ≡ b → c ≡ d → a ++ c ≡ b ++ d
appended a b c d h k = ap (λ x. x ++ c) h ∙ ap (λ x. b ++ x) k
