-- Arcs of an object identifier, and of a text.
use Rattle.std.proofs.Common.{◌≡◌, ◌≢◌, ◌⊎◌, ℕ, ◌==◌, Bool, true, false, not, ◌&&◌, ◌||◌, List, [], ◌∷◌, map, nat_lt}
use Rattle.std.proofs.Common.{Some, None, Result, Ok, Err, IfErr, refl, sym, ap, ◌∙◌, inl, inr, arith}
use Rattle.std.specs.Prelude.{if◌then◌else◌}
use Rattle.std.specs.Fmt.{decimal}
use Rattle.std.proofs.lemmas.Bool.Decides.{nat_tests}
use Rattle.std.proofs.lemmas.Fmt.{decimal_injective}
use Rattle.der_types.specs.declared.oid_error.OidError.{OidError}
use Rattle.der_types.specs.declared.oid_error.OidError.TheVariants.{FirstArc, SecondArc, OutOfMemory}
use Rattle.der_types.specs.Dotted.{dotted, AreFitting, parts_of, RefusesText}
use Rattle.der_types.specs.ObjectIdentifier.{are_arcs, arcs_error, RefusesArcs, RefusesOidText}
use Rattle.der_types.proofs.DottedLemmas.{slice_split-dotted}

-- ---- arcs

pub are_arcs-none : (arcs : List ℕ) → arcs_error arcs ≡ None → are_arcs arcs ≡ true
are_arcs-none [] e = cc
are_arcs-none (x ∷ []) e = cc
are_arcs-none (x ∷ y ∷ arcs) e = by_tests (nat_lt 2 x) (nat_lt x 2) (nat_lt y 40) (x == 2) refl refl refl e
  where
    by_tests : (p q r s : Bool) → nat_lt 2 x ≡ p → nat_lt x 2 ≡ q → (x == 2) ≡ s
        → (if p then Some FirstArc else if q && not r then Some SecondArc else None) ≡ None → (q && r || s) ≡ true
    by_tests true q r s f g h e = cc
    by_tests false true true s f g h e = refl
    by_tests false true false s f g h e = cc
    by_tests false false r true f g h e = refl
    by_tests false false r false f g h e = grind (arith, nat_tests)

-- ---- texts

same_decimals : (a b : List ℕ) → AreFitting a → AreFitting b → map decimal a ≡ map decimal b → a ≡ b
same_decimals [] [] p q e = refl
same_decimals [] (y ∷ b) p q e = cc
same_decimals (x ∷ a) [] p q e = cc
same_decimals (x ∷ a) (y ∷ b) p q e =
    let first : x ≡ y = decimal_injective x y p.0 q.0 cc in
    let others : a ≡ b = same_decimals a b p.1 q.1 cc in
    cc

pub if_err : {T E : Type 0} (P Q : E → Type 0) (r : Result T E) → ((e : E) → P e → Q e) → IfErr r P → IfErr r Q
if_err P Q (Ok v) f h = tt
if_err P Q (Err e) f h = f e h

none_of_parts : (text : List ℕ) (e : OidError) → RefusesText text e → (arcs : List ℕ) → are_arcs arcs ≡ true
    → AreFitting arcs → text ≢ dotted arcs
none_of_parts text e h [] valid fit = λ is. cc
none_of_parts text e h (x ∷ []) valid fit = λ is. cc
none_of_parts text e h (x ∷ y ∷ arcs) valid fit = h.none x (y ∷ arcs) fit

pub refuses_parts : (text : List ℕ) (e : OidError) → (e ≡ OutOfMemory) ⊎ RefusesText text e
    → (e ≡ OutOfMemory) ⊎ RefusesOidText text e
refuses_parts text e (inl memory) = inl memory
refuses_parts text e (inr h) = inr (record { none = none_of_parts text e h; reason = inl h })

none_of_arcs : (text : List ℕ) (arcs : List ℕ) → parts_of text ≡ map decimal arcs → AreFitting arcs
    → are_arcs arcs ≡ false → (others : List ℕ) → are_arcs others ≡ true → AreFitting others → text ≢ dotted others
none_of_arcs text arcs parts fit refused [] valid others_fit = λ is. cc
none_of_arcs text arcs parts fit refused (x ∷ []) valid others_fit = λ is. cc
none_of_arcs text arcs parts fit refused (x ∷ y ∷ others) valid others_fit = λ is.
    let same : arcs ≡ x ∷ y ∷ others =
    same_decimals arcs (x ∷ y ∷ others) fit others_fit (sym parts ∙ ap parts_of is
    ∙ slice_split-dotted x (y ∷ others) others_fit) in
    let wrong : false ≡ true = sym refused ∙ ap are_arcs same ∙ valid in
    cc

pub refuses_arcs : (text arcs : List ℕ) → text ≡ dotted arcs → parts_of text ≡ map decimal arcs → (e : OidError)
    → (e ≡ OutOfMemory) ⊎ RefusesArcs arcs e → (e ≡ OutOfMemory) ⊎ RefusesOidText text e
refuses_arcs text arcs is parts e (inl memory) = inl memory
refuses_arcs text arcs is parts e (inr h) =
    inr (record { none = none_of_arcs text arcs parts h.fitting h.refused; reason = inr (arcs, is, h) })
