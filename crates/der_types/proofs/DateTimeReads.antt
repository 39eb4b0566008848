-- Which date and time has a text.
use Rattle.std.proofs.Common.{◌≡◌, ◌<◌, ◌∷◌, [], ℕ, ◌+◌, ◌*◌, ◌/◌, ◌%◌, List, true, ap, sym, ◌∙◌, refl, arith}
use Rattle.std.proofs.Common.{rules, ◌&&◌, Option, None, Some, IfNone}
use lib.ListN.{get_or}
use Rattle.der_types.specs.declared.date_time.DateTime.{DateTime}
use Rattle.der_types.specs.Calendar.{is_date, is_time_of_day}
use Rattle.der_types.specs.CalendarLaws.{civil_of, time_of, IsCivil, IsTimeOfDay}
use Rattle.der_types.specs.DateTimes.{date_time_text, two_digits, IsAt}
use Rattle.der_types.specs.DateTimeTexts.{IsNumberOf}

-- a number of a text that has the digits of m at two indices
one : (text whole : List ℕ) (i j n m : ℕ) → whole ≡ text → two_digits m ≡ (get_or whole i 0 ∷ get_or whole j 0 ∷ [])
    → m < 100 → IsNumberOf (get_or text i 0) (get_or text j 0) n → n ≡ m
one text whole i j n m e digits small is =
    is m small (digits ∙ ap (λ bs. get_or bs i 0 ∷ get_or bs j 0 ∷ []) e)

-- if these numbers are those of its digits, they are those of the date and time that has the text
pub are_of_text : (text : List ℕ) (c y mo d h mi s : ℕ) → IsNumberOf (get_or text 0 0) (get_or text 1 0) c
    → IsNumberOf (get_or text 2 0) (get_or text 3 0) y → IsNumberOf (get_or text 5 0) (get_or text 6 0) mo
    → IsNumberOf (get_or text 8 0) (get_or text 9 0) d → IsNumberOf (get_or text 11 0) (get_or text 12 0) h
    → IsNumberOf (get_or text 14 0) (get_or text 15 0) mi → IsNumberOf (get_or text 17 0) (get_or text 18 0) s
    → (t : DateTime) → date_time_text t ≡ text → IsAt (c * 100 + y) mo d h mi s t
unfolding date_time_text
are_of_text text c y mo d h mi s c_is y_is mo_is d_is h_is mi_is s_is t e =
    let civil : IsCivil t.year t.month t.day = civil_of t.year t.month t.day t.date in
    let time : IsTimeOfDay t.hour t.minute t.second = time_of t.hour t.minute t.second t.time in
    let century : c ≡ t.year / 100 =
    one text (date_time_text t) 0 1 c (t.year / 100) e refl (omega (arith, civil.year)) c_is in
    let year : y ≡ t.year % 100 = one text (date_time_text t) 2 3 y (t.year % 100) e refl (omega arith) y_is in
    record {
      same_year = omega (arith, century, year);
      same_month = sym (one text (date_time_text t) 5 6 mo t.month e refl (omega (arith, civil.month)) mo_is);
      same_day = sym (one text (date_time_text t) 8 9 d t.day e refl (omega (arith, civil.short)) d_is);
      same_hour = sym (one text (date_time_text t) 11 12 h t.hour e refl (omega (arith, time.hour)) h_is);
      same_minute = sym (one text (date_time_text t) 14 15 mi t.minute e refl (omega (arith, time.minute)) mi_is);
      same_second = sym (one text (date_time_text t) 17 18 s t.second e refl (omega (arith, time.second)) s_is);
    }

-- the numbers decide the text
pub same_text : (y mo d h mi s : ℕ) (a b : DateTime) → IsAt y mo d h mi s a → IsAt y mo d h mi s b
    → date_time_text a ≡ date_time_text b
unfolding date_time_text
same_text y mo d h mi s a b one_is other_is =
    search (
      rules,
      one_is.same_year ∙ sym other_is.same_year,
      one_is.same_month ∙ sym other_is.same_month,
      one_is.same_day ∙ sym other_is.same_day,
      one_is.same_hour ∙ sym other_is.same_hour,
      one_is.same_minute ∙ sym other_is.same_minute,
      one_is.same_second ∙ sym other_is.same_second,
    )

-- no date and time has numbers that no date and time has
pub is_dated : (y mo d h mi s : ℕ) (t : DateTime) → IsAt y mo d h mi s t
    → (is_date y mo d && is_time_of_day h mi s) ≡ true
is_dated y mo d h mi s t is =
    let date : is_date t.year t.month t.day ≡ true = t.date in
    let time : is_time_of_day t.hour t.minute t.second ≡ true = t.time in
    search (
      rules,
      date,
      time,
      is.same_year,
      is.same_month,
      is.same_day,
      is.same_hour,
      is.same_minute,
      is.same_second,
    )

-- what follows from what a clause says where there is no value
pub none_then : {X : Type 0} (r : Option X) {P Q : Type 0} → IfNone r P → (P → Q) → IfNone r Q
none_then None h f = f h
none_then (Some x) h f = h
