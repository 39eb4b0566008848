-- Texts of arcs: which parts they have, and what one more adds.
use Rattle.std.proofs.Common.{◌≡◌, ◌≢◌, ℕ, suc, zero, ◌^◌, ◌<◌, ◌==◌, Bool, true, false, not, ◌&&◌, List, [], ◌∷◌, ◌++◌}
use Rattle.std.proofs.Common.{length, map, get_or, refl, sym, ap, subst, ◌∙◌, inl, inr, arith, rules, ne_eqb}
use Rattle.std.proofs.Common.{append-nil, Result, Ok, Err, IfErr, IsErrAnd}
use Rattle.std.specs.Char.{is_ascii_digit}
use Rattle.std.specs.List.{list_all, slice_split, flat_map}
use Rattle.std.specs.Fmt.{decimal}
use Rattle.std.specs.Str.Parse.{digits_value}
use Rattle.std.proofs.lemmas.Bool.{cases_lt}
use Rattle.std.proofs.lemmas.Bool.Decides.{nat_tests}
use Rattle.std.proofs.lemmas.Str.Parse.{IsNumeralModel, IsDigitsTest, numerals_by_value}
use Rattle.std.proofs.lemmas.Fmt.{digits_decimal, decimal_digit, decimal_nonempty, first_decimal}
use Rattle.std.proofs.lemmas.List.Concat.{flat_map-append}
use Rattle.std.proofs.lemmas.List.Splits.{slice_split_none, slice_split_at}
use Rattle.der_types.specs.declared.oid_error.OidError.{OidError}
use Rattle.der_types.specs.Dotted.{dotted, arc_text, dotted_or_marked, AreFitting, is_decimal, IsNoArc, part_error}
use Rattle.der_types.specs.Dotted.{parts_of, RefusesText}

-- ---- decimal numbers

abbrev pub AreDigits : List ℕ → Type 0
AreDigits ds = list_all is_ascii_digit ds ≡ true

digits_test : IsDigitsTest AreDigits
digits_test = search rules

pub digits_model : IsNumeralModel AreDigits (digits_value 10)
digits_model = numerals_by_value AreDigits digits_test

both : (p q : Bool) → (p && q) ≡ true → (p ≡ true) × (q ≡ true)
both true q e = (refl, e)
both false q e = cc

not_zero : (c : ℕ) → not (c == 48) ≡ true → c ≢ 48
not_zero c e = grind (arith, nat_tests)

-- what a decimal number is
pub record IsNumber (ds : List ℕ) : Type 0 where
  pub digits : AreDigits ds
  pub some : 0 < length ds
  pub first : get_or ds 0 0 ≡ 48 → length ds ≡ 1

pub number_of_decimal : (ds : List ℕ) → is_decimal ds ≡ true → IsNumber ds
number_of_decimal [] e = cc
number_of_decimal (c ∷ []) e = record { digits = rw e refl; some = omega arith; first = λ h. refl }
number_of_decimal (c ∷ d ∷ cs) e =
    let parts = both (not (c == 48)) (list_all is_ascii_digit (c ∷ d ∷ cs)) e in
    record { digits = parts.1; some = omega arith; first = λ h. absurd (not_zero c parts.0 h) }

decimal_of_number : (ds : List ℕ) → IsNumber ds → is_decimal ds ≡ true
decimal_of_number [] h = absurd (omega (arith, h.some))
decimal_of_number (c ∷ []) h = (both (is_ascii_digit c) true h.digits).0
decimal_of_number (c ∷ d ∷ cs) h =
    let other : c ≢ 48 = λ e. let one = h.first e in omega arith in
    rw (ne_eqb c 48 other) h.digits

pub is_decimal-decimal : (n : ℕ) → n < 2 ^ 64 → is_decimal (decimal n) ≡ true
is_decimal-decimal n small = decimal_of_number (decimal n) (record {
  digits = digits_decimal digits_model n small;
  some = decimal_nonempty n small;
  first = elim (cases_lt n 10) [
    | inl low ↦ λ h. ap length (decimal_digit n low)
    | inr high ↦ λ h. absurd (omega (arith, first_decimal n (omega arith) small, h))
  ];
})

-- ---- parts

digit_is_no_point : (c : ℕ) → is_ascii_digit c ≡ true → (c == 46) ≡ false
digit_is_no_point c h = grind (arith, nat_tests)

no_point : (ds : List ℕ) → AreDigits ds → (k d : ℕ) → k < length ds → (get_or ds k d == 46) ≡ false
no_point [] h k d small = absurd (omega arith)
no_point (c ∷ cs) h zero d small = digit_is_no_point c (both (is_ascii_digit c) (list_all is_ascii_digit cs) h).0
no_point (c ∷ cs) h (suc k) d small = no_point cs (both (is_ascii_digit c) (list_all is_ascii_digit cs) h).1 k d
    (omega arith)

pub slice_split-dotted : (arc : ℕ) (arcs : List ℕ) → AreFitting (arc ∷ arcs)
    → slice_split (λ b. b == 46) (dotted (arc ∷ arcs)) ≡ map decimal (arc ∷ arcs)
slice_split-dotted arc [] h =
    slice_split_none (λ b. b == 46) (decimal arc) (no_point (decimal arc) (digits_decimal digits_model arc h.0))
slice_split-dotted arc (next ∷ arcs) h =
    slice_split_at (λ b. b == 46) (decimal arc) 46 (dotted (next ∷ arcs))
    (no_point (decimal arc) (digits_decimal digits_model arc h.0)) refl
    ∙ ap (λ parts. decimal arc ∷ parts) (slice_split-dotted next arcs h.1)

-- each part is an arc that fits
part_is_arc : (arcs : List ℕ) (place : ℕ) (part : List ℕ) → AreFitting arcs → place < length (map decimal arcs)
    → part ≡ get_or (map decimal arcs) place part → (n : ℕ) × (n < 2 ^ 64) × (part ≡ decimal n)
part_is_arc [] place part h within e = absurd (omega arith)
part_is_arc (arc ∷ arcs) zero part h within e = (arc, h.0, e)
part_is_arc (arc ∷ arcs) (suc place) part h within e = part_is_arc arcs place part h.1 (omega arith) e

pub refuses_text : (text : List ℕ) (place : ℕ) (part : List ℕ) (e : OidError) → place < length (parts_of text)
    → part ≡ get_or (parts_of text) place part → IsNoArc part → e ≡ part_error part → RefusesText text e
refuses_text text place part e within is_part no_arc error = record {
  none = λ arc arcs fit is.
      let same : parts_of text ≡ map decimal (arc ∷ arcs) = ap parts_of is ∙ slice_split-dotted arc arcs fit in
      let found = part_is_arc (arc ∷ arcs) place part fit (subst (λ ps. place < length ps) same within)
      (subst (λ ps. part ≡ get_or ps place part) same is_part) in
      no_arc found.0 found.1 found.2;
  place = place;
  part = part;
  within = within;
  is_part = is_part;
  no_arc = no_arc;
  error = error;
}

-- ---- arcs that print

abbrev pub after_points : List (Result ℕ OidError) → List ℕ
after_points arcs = flat_map (λ arc. 46 ∷ arc_text arc) arcs

pub dotted_or_marked-cons : (arc : Result ℕ OidError) (arcs : List (Result ℕ OidError))
    → dotted_or_marked (arc ∷ arcs) ≡ arc_text arc ++ after_points arcs
dotted_or_marked-cons arc [] = sym (append-nil (arc_text arc))
dotted_or_marked-cons arc (next ∷ arcs) = ap (λ bs. arc_text arc ++ (46 ∷ bs)) (dotted_or_marked-cons next arcs)

pub after_points-append : (arcs : List (Result ℕ OidError)) (arc : Result ℕ OidError)
    → after_points (arcs ++ arc ∷ []) ≡ after_points arcs ++ (46 ∷ arc_text arc)
after_points-append arcs arc = flat_map-append (λ arc. 46 ∷ arc_text arc) arcs (arc ∷ [])
    ∙ ap (λ bs. after_points arcs ++ bs) (append-nil (46 ∷ arc_text arc))

-- ---- errors that are passed on

pub error_passed_on : {T E : Type 0} {e : E} (P : E → Type 0) (r : Result T E) → IsErrAnd r (λ error. error ≡ e) → P e
    → IfErr r P
error_passed_on P (Ok v) h f = absurd h
error_passed_on P (Err error) h f = rw h f
