-- The content of a GeneralizedTime distinguishes it, and its order is the order of time.
use Rattle.std.proofs.Common.{◌≡◌, ℕ, zero, suc, ◌+◌, ◌-◌, ◌*◌, ◌/◌, ◌%◌, ◌^◌, ◌<◌, ◌≤◌, Bool, true, false, not, ◌&&◌}
use Rattle.std.proofs.Common.{◌==◌, nat_lt, IsTrue, ◌↔◌, cond, List, [], ◌∷◌, ◌++◌, length, take, drop, get_or, refl}
use Rattle.std.proofs.Common.{sym, ap, ap₂, subst, ◌∙◌, arith, ltb-true, eqb-true, drop-cons, length-drop}
use Rattle.std.proofs.Common.{length-append, pow-suc}
use Rattle.std.proofs.Math.Nat.{pow-zero}
use Rattle.std.proofs.Math.Seq.{take-append_seam}
use Rattle.std.proofs.lemmas.Bool.{and_parts, eqb-false}
use Rattle.std.proofs.lemmas.List.{take-append-drop, drop-drop}
use Rattle.std.specs.Cmp.Lexicographic.{pointwise, slice_cmp, bytes_decides}
use Rattle.std.specs.Ordering.{on, nat_cmp, ordering_then}
use Rattle.der_types.specs.declared.date_time.DateTime.{DateTime}
use Rattle.der_types.specs.declared.generalized_time.GeneralizedTime.{GeneralizedTime}
use Rattle.der_types.specs.Calendar.{seconds_before}
use Rattle.der_types.specs.CalendarLaws.{civil_of, time_of, less, greater, then_assoc, added, part_lt, cmp_parts}
use Rattle.der_types.specs.CalendarLaws.{cmp_seconds}
use Rattle.der_types.specs.DateTimes.{two_digits, seconds_of}
use Rattle.der_types.specs.TimeContents.{is_digit, number_at, are_digits, seconds_at, year_at_first, are_whole_seconds}
use Rattle.der_types.specs.TimeContents.{is_fraction, fraction_of, is_ended, is_generalized_time}
use Rattle.der_types.specs.TimeValues.{month_to_second, after_point, generalized_content, IsReadAt}
use Rattle.der_types.specs.TimeLaws.{digit_range, AreSeconds, seconds_in, stamp_of, fourteen_read, last_left, IsShort}
use Rattle.der_types.specs.TimeLaws.{short_of}
use Rattle.der_types.specs.GeneralizedTimes.{time_key, scaled, ticks}

pub same-equal : (x y : GeneralizedTime) → x.content.items ≡ y.content.items → on time_key (pointwise ◌==◌) x y ≡ true
same-equal x y e = (bytes_decides (time_key x) (time_key y)).1 (ap (λ bs. take (length bs - 1) bs) e)

-- ---- what the test says

pub record IsGeneralized (bs : List ℕ) : Type 0 where
  pub long : 14 < length bs
  pub seconds : AreSeconds bs
  pub fraction : is_fraction (fraction_of bs) ≡ true
  pub ends : drop 14 bs ≡ after_point (fraction_of bs) ++ (0x5A ∷ [])

-- digits have a point before them
pointed : (ds : List ℕ) → 0 < length ds → after_point ds ≡ 0x2E ∷ ds
pointed [] h = absurd (omega (arith, h))
pointed (d ∷ ds) h = refl

pub generalized_of : (bs : List ℕ) → is_generalized_time bs ≡ true → IsGeneralized bs
generalized_of bs e =
    let a = and_parts (nat_lt 14 (length bs) && are_whole_seconds bs) (is_ended bs) e in
    let b = and_parts (nat_lt 14 (length bs)) (are_whole_seconds bs) a.0 in
    by_length (length bs == 15) refl (ltb-true 14 (length bs) b.0) (seconds_in bs b.1) a.1
  where
    by_length : (t : Bool) → (length bs == 15) ≡ t → 14 < length bs → AreSeconds bs
        → cond t (get_or bs 14 0 == 0x5A)
        (nat_lt 16 (length bs) && (get_or bs 14 0 == 0x2E) && (get_or bs (length bs - 1) 0 == 0x5A) && is_fraction
        (fraction_of bs)) ≡ true → IsGeneralized bs
    by_length true l long w e =
        let full = eqb-true (length bs) 15 l in
        let few : length bs - 1 - 15 ≡ 0 = omega (arith, full) in
        let none : fraction_of bs ≡ [] = ap (λ n. take n (drop 15 bs)) few in
        record {
          long = long;
          seconds = w;
          fraction = ap is_fraction none;
          ends = last_left bs 14 full (eqb-true (get_or bs 14 0) 0x5A e)
              ∙ ap (λ ds. after_point ds ++ (0x5A ∷ [])) (sym none);
        }
    by_length false l long w e =
        let a = and_parts (nat_lt 16 (length bs) && (get_or bs 14 0 == 0x2E) && (get_or bs (length bs - 1) 0 == 0x5A))
        (is_fraction (fraction_of bs)) e in
        let b = and_parts (nat_lt 16 (length bs) && (get_or bs 14 0 == 0x2E)) (get_or bs (length bs - 1) 0 == 0x5A)
        a.0 in
        let c = and_parts (nat_lt 16 (length bs)) (get_or bs 14 0 == 0x2E) b.0 in
        let some = ltb-true 16 (length bs) c.0 in
        let point = eqb-true (get_or bs 14 0) 0x2E c.1 in
        let zed = eqb-true (get_or bs (length bs - 1) 0) 0x5A b.1 in
        let whole : length bs ≡ suc (length bs - 1) = omega (arith, some) in
        let index : 15 + (length bs - 1 - 15) ≡ length bs - 1 = omega (arith, some) in
        let left : drop (length bs - 1 - 15) (drop 15 bs) ≡ 0x5A ∷ [] = drop-drop (length bs - 1 - 15) 15 bs
        ∙ ap (λ n. drop n bs) index ∙ last_left bs (length bs - 1) whole zed in
        let parts : drop 15 bs ≡ fraction_of bs ++ (0x5A ∷ []) =
        sym (take-append-drop (length bs - 1 - 15) (drop 15 bs)) ∙ ap (λ xs. fraction_of bs ++ xs) left in
        let count : 0 < length (fraction_of bs) =
        omega (arith, some, length-drop 15 bs, ap length parts, length-append (fraction_of bs) (0x5A ∷ [])) in
        record {
          long = long;
          seconds = w;
          fraction = a.1;
          ends = drop-cons bs 14 0 (omega (arith, some)) ∙ ap₂ (λ x xs. x ∷ xs) point parts
              ∙ ap (λ xs. xs ++ (0x5A ∷ [])) (sym (pointed (fraction_of bs) count));
        }

pub no_fraction : (bs : List ℕ) → length bs ≤ 15 → fraction_of bs ≡ []
no_fraction bs h =
    let few : length bs - 1 - 15 ≡ 0 = omega (arith, h) in
    ap (λ n. take n (drop 15 bs)) few

-- the content again
pub generalized-read : (bs : List ℕ) (t : DateTime) → IsGeneralized bs → IsReadAt (year_at_first bs) bs 4 t
    → generalized_content t (fraction_of bs) ≡ bs
unfolding generalized_content
generalized-read bs t w r =
    ap (λ xs. two_digits (t.year / 100) ++ (two_digits (t.year % 100) ++ (month_to_second t ++ xs))) (sym w.ends)
    ∙ fourteen_read bs t (omega (arith, w.long)) w.seconds r

-- ---- fractions

digits_tail : (d : ℕ) (ds : List ℕ) → is_fraction (d ∷ ds) ≡ true → (is_digit d ≡ true) × (is_fraction ds ≡ true)
digits_tail d [] e = let a = and_parts (are_digits (d ∷ [])) _ e in ((and_parts (is_digit d) true a.0).0, refl)
digits_tail d (c ∷ cs) e =
    let a = and_parts (are_digits (d ∷ c ∷ cs)) _ e in
    let b = and_parts (is_digit d) (are_digits (c ∷ cs)) a.0 in
    let i : length (d ∷ c ∷ cs) - 1 ≡ suc (length cs) = omega arith in
    let j : length (c ∷ cs) - 1 ≡ length cs = omega arith in
    let last : not (get_or (c ∷ cs) (length cs) 0 == 0x30) ≡ true =
    subst (λ n. not (get_or (d ∷ c ∷ cs) n 0 == 0x30) ≡ true) i a.1 in
    (b.0, rw (b.1) (subst (λ n. not (get_or (c ∷ cs) n 0 == 0x30) ≡ true) (sym j) last))

all_digits : (ds : List ℕ) → is_fraction ds ≡ true → are_digits ds ≡ true
all_digits ds e = (and_parts (are_digits ds) _ e).0

power_positive : (k : ℕ) → 0 < 10 ^ k
power_positive zero = omega (arith, pow-zero 10)
power_positive (suc k) = omega (arith, pow-suc 10 k, power_positive k)

scaled_below : (k : ℕ) (ds : List ℕ) → are_digits ds ≡ true → scaled k ds < 10 ^ k
scaled_below zero ds e = power_positive 0
scaled_below (suc k) [] e = power_positive (suc k)
scaled_below (suc k) (d ∷ ds) e =
    let a = and_parts (is_digit d) (are_digits ds) e in
    let r = digit_range d a.0 in
    let below = part_lt (10 ^ k) (d - 0x30) 10 (scaled k ds) 0 (scaled_below k ds a.1) (omega (arith, r)) in
    rw (pow-suc 10 k) (omega (arith, below))

scaled_positive : (k d : ℕ) (ds : List ℕ) → is_fraction (d ∷ ds) ≡ true → length (d ∷ ds) ≤ k → 0 < scaled k (d ∷ ds)
scaled_positive zero d ds e h = absurd (omega (arith, h))
scaled_positive (suc k) d [] e h =
    let a = and_parts (are_digits (d ∷ [])) _ e in
    let r = digit_range d (and_parts (is_digit d) true a.0).0 in
    let other : (d == 0x30) ≡ false = not_true (d == 0x30) a.1 in
    let ne = eqb-false d 0x30 other in
    let above = part_lt (10 ^ k) 0 (d - 0x30) 0 (scaled k []) (power_positive k) (positive d r.0 ne) in
    omega (arith, above)
  where
    not_true : (t : Bool) → not t ≡ true → t ≡ false
    not_true false e = refl
    not_true true e = cc

    positive : (d : ℕ) → 0x30 ≤ d → (d ≡ 0x30 → ⊥) → 0 < d - 0x30
    positive d h ne = omega (arith, h, ne)
scaled_positive (suc k) d (c ∷ cs) e h =
    omega (arith, scaled_positive k c cs (digits_tail d (c ∷ cs) e).1 (omega (arith, h)))

cmp_fractions : (k : ℕ) (ds es : List ℕ) → is_fraction ds ≡ true → is_fraction es ≡ true → length ds ≤ k → length es ≤ k
    → slice_cmp nat_cmp ds es ≡ nat_cmp (scaled k ds) (scaled k es)
cmp_fractions zero [] [] p q h i = refl
cmp_fractions zero [] (e ∷ es) p q h i = absurd (omega (arith, i))
cmp_fractions zero (d ∷ ds) es p q h i = absurd (omega (arith, h))
cmp_fractions (suc k) [] [] p q h i = refl
cmp_fractions (suc k) [] (e ∷ es) p q h i = sym (less 0 (scaled (suc k) (e ∷ es)) (scaled_positive (suc k) e es q i))
cmp_fractions (suc k) (d ∷ ds) [] p q h i = sym (greater (scaled (suc k) (d ∷ ds)) 0 (scaled_positive (suc k) d ds p h))
cmp_fractions (suc k) (d ∷ ds) (e ∷ es) p q h i =
    let a = digits_tail d ds p in
    let b = digits_tail e es q in
    let x : 0x30 + (d - 0x30) ≡ d = omega (arith, digit_range d a.0) in
    let y : 0x30 + (e - 0x30) ≡ e = omega (arith, digit_range e b.0) in
    let first : nat_cmp d e ≡ nat_cmp (d - 0x30) (e - 0x30) = sym (ap₂ nat_cmp x y)
    ∙ added 0x30 0x30 (d - 0x30) (e - 0x30) refl in
    ap₂ ordering_then first (cmp_fractions k ds es a.1 b.1 (omega (arith, h)) (omega (arith, i)))
    ∙ sym (cmp_parts (10 ^ k) (d - 0x30) (e - 0x30) (scaled k ds) (scaled k es) (scaled_below k ds (all_digits ds a.1))
    (scaled_below k es (all_digits es b.1)))

cmp_after_point : (ds es : List ℕ) → slice_cmp nat_cmp (after_point ds) (after_point es) ≡ slice_cmp nat_cmp ds es
cmp_after_point [] [] = refl
cmp_after_point [] (e ∷ es) = refl
cmp_after_point (d ∷ ds) [] = refl
cmp_after_point (d ∷ ds) (e ∷ es) = refl

-- ---- digits in the order of numbers

cmp_pair : (a b : ℕ) (xs ys : List ℕ) → a < 100 → b < 100
    → slice_cmp nat_cmp (two_digits a ++ xs) (two_digits b ++ ys) ≡ ordering_then (nat_cmp a b)
    (slice_cmp nat_cmp xs ys)
cmp_pair a b xs ys h k =
    let s = slice_cmp nat_cmp xs ys in
    let x : a / 10 * 10 + a % 10 ≡ a = omega arith in
    let y : b / 10 * 10 + b % 10 ≡ b = omega arith in
    ap₂ (λ p q. ordering_then p (ordering_then q s)) (added 0x30 0x30 (a / 10) (b / 10) refl)
    (added 0x30 0x30 (a % 10) (b % 10) refl)
    ∙ sym (then_assoc (nat_cmp (a / 10) (b / 10)) (nat_cmp (a % 10) (b % 10)) s)
    ∙ ap (λ o. ordering_then o s) (sym (cmp_parts 10 (a / 10) (b / 10) (a % 10) (b % 10) (omega arith) (omega arith))
    ∙ ap₂ nat_cmp x y)

-- the content without the Z
key : DateTime → List ℕ → List ℕ
key t ds = two_digits (t.year / 100)
    ++ (two_digits (t.year % 100)
    ++ (two_digits t.month
    ++ (two_digits t.day ++ (two_digits t.hour ++ (two_digits t.minute ++ (two_digits t.second ++ after_point ds))))))

key_whole : (t : DateTime) (ds : List ℕ) → generalized_content t ds ≡ key t ds ++ (0x5A ∷ [])
unfolding generalized_content month_to_second key
key_whole t ds = refl

without_last : (xs : List ℕ) (z : ℕ) → take (length (xs ++ (z ∷ [])) - 1) (xs ++ (z ∷ [])) ≡ xs
without_last xs z =
    let n : length (xs ++ (z ∷ [])) - 1 ≡ length xs = omega (arith, length-append xs (z ∷ [])) in
    ap (λ n. take n (xs ++ (z ∷ []))) n ∙ take-append_seam xs (z ∷ [])

cmp_keys : (t u : DateTime) (ds es : List ℕ)
    → slice_cmp nat_cmp (key t ds) (key u es) ≡ ordering_then (nat_cmp (seconds_of t) (seconds_of u))
    (slice_cmp nat_cmp ds es)
unfolding key
cmp_keys t u ds es =
    let a = short_of t in
    let b = short_of u in
    let f = slice_cmp nat_cmp ds es in
    let x : t.year / 100 * 100 + t.year % 100 ≡ t.year = omega arith in
    let y : u.year / 100 * 100 + u.year % 100 ≡ u.year = omega arith in
    let year : ordering_then (nat_cmp (t.year / 100) (u.year / 100)) (nat_cmp (t.year % 100) (u.year % 100))
    ≡ nat_cmp t.year u.year =
    sym (cmp_parts 100 (t.year / 100) (u.year / 100) (t.year % 100) (u.year % 100) (omega arith) (omega arith))
    ∙ ap₂ nat_cmp x y in
    let seconds = cmp_seconds t.year t.month t.day t.hour t.minute t.second u.year u.month u.day u.hour u.minute
    u.second (civil_of t.year t.month t.day t.date) (time_of t.hour t.minute t.second t.time)
    (civil_of u.year u.month u.day u.date) (time_of u.hour u.minute u.second u.time) in
    let mo = nat_cmp t.month u.month in
    let d = nat_cmp t.day u.day in
    let h = nat_cmp t.hour u.hour in
    let mi = nat_cmp t.minute u.minute in
    let s = nat_cmp t.second u.second in
    let s1 = two_digits t.second ++ after_point ds in
    let s2 = two_digits u.second ++ after_point es in
    let i1 = two_digits t.minute ++ s1 in
    let i2 = two_digits u.minute ++ s2 in
    let h1 = two_digits t.hour ++ i1 in
    let h2 = two_digits u.hour ++ i2 in
    let d1 = two_digits t.day ++ h1 in
    let d2 = two_digits u.day ++ h2 in
    let m1 = two_digits t.month ++ d1 in
    let m2 = two_digits u.month ++ d2 in
    cmp_pair (t.year / 100) (u.year / 100) (two_digits (t.year % 100) ++ m1) (two_digits (u.year % 100) ++ m2) a.century
    b.century
    ∙ ap (ordering_then (nat_cmp (t.year / 100) (u.year / 100)))
    (cmp_pair (t.year % 100) (u.year % 100) m1 m2 a.year b.year)
    ∙ sym (then_assoc (nat_cmp (t.year / 100) (u.year / 100)) (nat_cmp (t.year % 100) (u.year % 100))
    (slice_cmp nat_cmp m1 m2))
    ∙ ap (λ o. ordering_then o (slice_cmp nat_cmp m1 m2)) year
    ∙ ap (ordering_then (nat_cmp t.year u.year)) (cmp_pair t.month u.month d1 d2 a.month b.month
    ∙ ap (ordering_then mo) (cmp_pair t.day u.day h1 h2 a.day b.day
    ∙ ap (ordering_then d) (cmp_pair t.hour u.hour i1 i2 a.hour b.hour
    ∙ ap (ordering_then h) (cmp_pair t.minute u.minute s1 s2 a.minute b.minute
    ∙ ap (ordering_then mi) (cmp_pair t.second u.second (after_point ds) (after_point es) a.second b.second
    ∙ ap (ordering_then s) (cmp_after_point ds es)))
    ∙ sym (then_assoc h (ordering_then mi s) f ∙ ap (ordering_then h) (then_assoc mi s f)))
    ∙ sym (then_assoc d (ordering_then h (ordering_then mi s)) f))
    ∙ sym (then_assoc mo (ordering_then d (ordering_then h (ordering_then mi s))) f))
    ∙ sym (then_assoc (nat_cmp t.year u.year)
    (ordering_then mo (ordering_then d (ordering_then h (ordering_then mi s)))) f)
    ∙ ap (λ o. ordering_then o f) (sym seconds)

-- ---- the order of time

at_of : (bs : List ℕ) → IsGeneralized bs → DateTime
at_of bs w =
    let s = stamp_of (year_at_first bs) bs 4 w.seconds.valid in
    record {
      year = year_at_first bs;
      month = number_at bs 4;
      day = number_at bs 6;
      hour = number_at bs 8;
      minute =
          number_at bs 10;
      second = number_at bs 12;
      date = s.date;
      time = s.time;
    }

is_whole : (bs : List ℕ) (w : IsGeneralized bs) → bs ≡ key (at_of bs w) (fraction_of bs) ++ (0x5A ∷ [])
unfolding at_of
is_whole bs w =
    let s = stamp_of (year_at_first bs) bs 4 w.seconds.valid in
    sym (generalized-read bs (at_of bs w) w
    (record {
      digits = s.ten;
      at = record {
        same_year = refl;
        same_month = refl;
        same_day = refl;
        same_hour =
            refl;
        same_minute = refl;
        same_second = refl;
      };
    })) ∙ key_whole (at_of bs w) (fraction_of bs)

is_key : (bs : List ℕ) (w : IsGeneralized bs) → take (length bs - 1) bs ≡ key (at_of bs w) (fraction_of bs)
is_key bs w = ap (λ xs. take (length xs - 1) xs) (is_whole bs w) ∙ without_last (key (at_of bs w) (fraction_of bs)) 0x5A

-- the Z again
key_z : (bs : List ℕ) → is_generalized_time bs ≡ true → bs ≡ take (length bs - 1) bs ++ (0x5A ∷ [])
key_z bs e =
    let w = generalized_of bs e in
    is_whole bs w ∙ ap (λ xs. xs ++ (0x5A ∷ [])) (sym (is_key bs w))

pub same_times : (x y : GeneralizedTime)
    → IsTrue (on time_key (pointwise ◌==◌) x y) ↔ (x.content.items ≡ y.content.items)
same_times x y = (
  λ e. key_z x.content.items x.canonical ∙ ap (λ xs. xs ++ (0x5A ∷ [])) ((bytes_decides (time_key x) (time_key y)).0 e)
      ∙ sym (key_z y.content.items y.canonical),
  same-equal x y,
)

pub cmp_times : (k : ℕ) (x y : GeneralizedTime) → length (fraction_of x.content.items) ≤ k
    → length (fraction_of y.content.items) ≤ k
    → slice_cmp nat_cmp (time_key x) (time_key y) ≡ nat_cmp (ticks k x) (ticks k y)
unfolding at_of
cmp_times k x y h i =
    let a = x.content.items in
    let b = y.content.items in
    let v = generalized_of a x.canonical in
    let w = generalized_of b y.canonical in
    ap₂ (slice_cmp nat_cmp) (is_key a v) (is_key b w)
    ∙ cmp_keys (at_of a v) (at_of b w) (fraction_of a) (fraction_of b)
    ∙ ap (ordering_then (nat_cmp (seconds_of (at_of a v)) (seconds_of (at_of b w))))
    (cmp_fractions k (fraction_of a) (fraction_of b) v.fraction w.fraction h i)
    ∙ sym (cmp_parts (10 ^ k) (seconds_of (at_of a v)) (seconds_of (at_of b w)) (scaled k (fraction_of a))
    (scaled k (fraction_of b)) (scaled_below k (fraction_of a) (all_digits (fraction_of a) v.fraction))
    (scaled_below k (fraction_of b) (all_digits (fraction_of b) w.fraction)))
