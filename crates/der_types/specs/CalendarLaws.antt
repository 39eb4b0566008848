-- Dates and times of day are in the order of the seconds that they are.
use Rattle.std.proofs.Common.{◌≡◌, ℕ, zero, suc, ◌+◌, ◌-◌, ◌*◌, ◌/◌, ◌%◌, ◌<◌, ◌≤◌, Bool, true, false, not, ◌&&◌, ◌||◌}
use Rattle.std.proofs.Common.{◌==◌, nat_lt, IsTrue, ◌↔◌, cond, refl, sym, ap, ap₂, subst, ◌∙◌, arith, inl, inr, lt-ltb}
use Rattle.std.proofs.Common.{le-ltb, ltb-true, ltb-false, eq-eqb, eqb-true}
use Rattle.std.specs.Cmp.{nat_cmp_is}
use Rattle.std.specs.declared.cmp.Ordering.TheVariants.{Less, Equal, Greater}
use Rattle.std.specs.Ordering.{nat_cmp, ordering_then}
use Rattle.std.specs.declared.cmp.Ordering.{Ordering}
use Rattle.std.proofs.lemmas.Bool.{cases_lt, and_parts}
use Rattle.std.proofs.lemmas.Bool.Decides.{nat_tests}
use Rattle.der_types.specs.Calendar.{is_leap_year, days_in, is_date, is_time_of_day, days_in_year, days_before_year}
use Rattle.der_types.specs.Calendar.{days_before_month, days_before, seconds_before}

-- ---- numbers are short

days_none : (y m : ℕ) → 13 ≤ m → days_in y m ≡ 0
days_none y m h = grind (arith, nat_tests)

days_most : (y m : ℕ) → days_in y m ≤ 31
days_most y m = by_tests (m == 2) (is_leap_year y) ((m == 4) || (m == 6) || (m == 9) || (m == 11))
    (nat_lt 0 m && nat_lt m 13)
  where
    by_tests : (p q r s : Bool) → cond p (cond q 29 28) (cond r 30 (cond s 31 0)) ≤ 31
    by_tests true true r s = omega arith
    by_tests true false r s = omega arith
    by_tests false q true s = omega arith
    by_tests false q false true = omega arith
    by_tests false q false false = omega arith

pub record IsCivil (y m d : ℕ) : Type 0 where
  pub year : y < 10000
  pub month : m < 13
  pub first : 0 < d
  pub last : d ≤ days_in y m
  pub short : d < 32

pub civil_of : (y m d : ℕ) → is_date y m d ≡ true → IsCivil y m d
civil_of y m d p =
    let a = and_parts (nat_lt y 10000 && nat_lt 0 d) (nat_lt d (days_in y m + 1)) p in
    let b = and_parts (nat_lt y 10000) (nat_lt 0 d) a.0 in
    let first = ltb-true 0 d b.1 in
    let last : d ≤ days_in y m = omega (arith, ltb-true d (days_in y m + 1) a.1) in
    let month : m < 13 =
    elim (cases_lt m 13) [ inl h ↦ h | inr h ↦ absurd (omega (arith, first, last, days_none y m h)) ] in
    record {
      year = ltb-true y 10000 b.0;
      month = month;
      first = first;
      last = last;
      short =
          omega (arith, last, days_most y m);
    }

pub record IsTimeOfDay (h mi s : ℕ) : Type 0 where
  pub hour : h < 24
  pub minute : mi < 60
  pub second : s < 60

pub time_of : (h mi s : ℕ) → is_time_of_day h mi s ≡ true → IsTimeOfDay h mi s
time_of h mi s p =
    let a = and_parts (nat_lt h 24 && nat_lt mi 60) (nat_lt s 60) p in
    let b = and_parts (nat_lt h 24) (nat_lt mi 60) a.0 in
    record { hour = ltb-true h 24 b.0; minute = ltb-true mi 60 b.1; second = ltb-true s 60 a.1 }

-- ---- orders of numbers

pub less : (a b : ℕ) → a < b → nat_cmp a b ≡ Less
less a b h = sym (nat_cmp_is a b Less h)

pub greater : (a b : ℕ) → b < a → nat_cmp a b ≡ Greater
greater a b h = sym (nat_cmp_is a b Greater h)

pub equal : (a b : ℕ) → a ≡ b → nat_cmp a b ≡ Equal
equal a b e = sym (nat_cmp_is a b Equal e)

-- what is before it decides
pub when_less : (a b : ℕ) (o : Ordering) → a < b → ordering_then (nat_cmp a b) o ≡ Less
when_less a b o h = ap (λ r. ordering_then r o) (less a b h)

pub when_greater : (a b : ℕ) (o : Ordering) → b < a → ordering_then (nat_cmp a b) o ≡ Greater
when_greater a b o h = ap (λ r. ordering_then r o) (greater a b h)

pub when_equal : (a b : ℕ) (o : Ordering) → a ≡ b → ordering_then (nat_cmp a b) o ≡ o
when_equal a b o e = ap (λ r. ordering_then r o) (equal a b e)

pub then_assoc : (a b c : Ordering) → ordering_then (ordering_then a b) c ≡ ordering_then a (ordering_then b c)
then_assoc Less b c = refl
then_assoc Equal b c = refl
then_assoc Greater b c = refl

-- the same number is added
pub added : (c d x y : ℕ) → c ≡ d → nat_cmp (c + x) (d + y) ≡ nat_cmp x y
added c d x y e = elim (cases_lt x y) [
  | inl h ↦ less (c + x) (d + y) (omega arith) ∙ sym (less x y h)
  | inr h ↦ elim (cases_lt y x) [
    | inl k ↦ greater (c + x) (d + y) (omega arith) ∙ sym (greater x y k)
    | inr k ↦ equal (c + x) (d + y) (omega arith) ∙ sym (equal x y (omega arith))
  ]
]

-- a number of two parts, of which the second is below the weight of the first
pub part_lt : (w a b x y : ℕ) → x < w → a < b → a * w + x < b * w + y
part_lt w a b x y f h =
    let k : suc a * w ≤ b * w = grind arith in
    omega arith

pub cmp_parts : (w a b x y : ℕ) → x < w → y < w
    → nat_cmp (a * w + x) (b * w + y) ≡ ordering_then (nat_cmp a b) (nat_cmp x y)
cmp_parts w a b x y f g = elim (cases_lt a b) [
  | inl h ↦ less (a * w + x) (b * w + y) (part_lt w a b x y f h) ∙ sym (when_less a b (nat_cmp x y) h)
  | inr h ↦ elim (cases_lt b a) [
    | inl k ↦ greater (a * w + x) (b * w + y) (part_lt w b a y x g k) ∙ sym (when_greater a b (nat_cmp x y) k)
    | inr k ↦
        let e : a ≡ b = omega arith in
        added (a * w) (b * w) x y (ap (λ n. n * w) e) ∙ sym (when_equal a b (nat_cmp x y) e)
  ]
]

-- ---- days

-- a year is over before a later one
year_over : (y z : ℕ) → y < z → days_before_year y + days_in_year y ≤ days_before_year z
year_over y zero h = absurd (omega (arith, h))
year_over y (suc z) h = elim (cases_lt y z) [
  | inl k ↦ omega (arith, year_over y z k)
  | inr k ↦
      let e : y ≡ z = omega (arith, h, k) in
      subst (λ n. days_before_year y + days_in_year y ≤ days_before_year (suc n)) e (omega arith)
]

-- a month is over before a later one
month_over : (y m n : ℕ) → m < n → days_before_month y m + days_in y m ≤ days_before_month y n
month_over y m zero h = absurd (omega (arith, h))
month_over y m (suc n) h = elim (cases_lt m n) [
  | inl k ↦ omega (arith, month_over y m n k)
  | inr k ↦
      let e : m ≡ n = omega (arith, h, k) in
      subst (λ x. days_before_month y m + days_in y m ≤ days_before_month y (suc x)) e (omega arith)
]

all_months : (y : ℕ) → days_before_month y 13 ≡ days_in_year y
all_months y = by_leap (is_leap_year y)
  where
    by_leap : (l : Bool) → 0 + 0 + 31 + cond l 29 28 + 31 + 30 + 31 + 30 + 31 + 31 + 30 + 31 + 30 + 31 ≡ cond l 366 365
    by_leap true = refl
    by_leap false = refl

-- a day is in its year
day_in_year : (y m d : ℕ) → IsCivil y m d → days_before_month y m + (d - 1) < days_in_year y
day_in_year y m d c = omega (arith, c.first, c.last, month_over y m 13 c.month, all_months y)

cmp_same_year : (b y m d n e : ℕ) → IsCivil y m d → IsCivil y n e
    → nat_cmp (b + (days_before_month y m + (d - 1))) (b + (days_before_month y n + (e - 1))) ≡ ordering_then
    (nat_cmp m n) (nat_cmp d e)
cmp_same_year b y m d n e p q =
    let u = b + (days_before_month y m + (d - 1)) in
    let v = b + (days_before_month y n + (e - 1)) in
    elim (cases_lt m n) [
      | inl h ↦ less u v (omega (arith, p.first, p.last, month_over y m n h)) ∙ sym (when_less m n (nat_cmp d e) h)
      | inr h ↦ elim (cases_lt n m) [
        | inl k ↦ greater u v (omega (arith, q.first, q.last, month_over y n m k))
            ∙ sym (when_greater m n (nat_cmp d e) k)
        | inr k ↦
            let same : m ≡ n = omega (arith, h, k) in
            cmp_days b (days_before_month y m) (days_before_month y n) d e (ap (days_before_month y) same) p.first
            q.first ∙ sym (when_equal m n (nat_cmp d e) same)
      ]
    ]
  where
    cmp_days : (b u v d e : ℕ) → u ≡ v → 0 < d → 0 < e → nat_cmp (b + (u + (d - 1))) (b + (v + (e - 1))) ≡ nat_cmp d e
    cmp_days b u v d e s p q =
        let x = b + (u + (d - 1)) in
        let y = b + (v + (e - 1)) in
        elim (cases_lt d e) [
          | inl h ↦ less x y (omega (arith, s, p, h)) ∙ sym (less d e h)
          | inr h ↦ elim (cases_lt e d) [
            | inl k ↦ greater x y (omega (arith, s, q, k)) ∙ sym (greater d e k)
            | inr k ↦
                let same : d ≡ e = omega (arith, h, k) in
                equal x y (ap₂ (λ u d. b + (u + (d - 1))) s same) ∙ sym (equal d e same)
          ]
        ]

cmp_dates : (y m d z n e : ℕ) → IsCivil y m d → IsCivil z n e
    → nat_cmp (days_before y m d) (days_before z n e) ≡ ordering_then (nat_cmp y z)
    (ordering_then (nat_cmp m n) (nat_cmp d e))
cmp_dates y m d z n e p q =
    let o = ordering_then (nat_cmp m n) (nat_cmp d e) in
    elim (cases_lt y z) [
      | inl h ↦ less (days_before y m d) (days_before z n e) (omega (arith, day_in_year y m d p, year_over y z h))
          ∙ sym (when_less y z o h)
      | inr h ↦ elim (cases_lt z y) [
        | inl k ↦ greater (days_before y m d) (days_before z n e) (omega (arith, day_in_year z n e q, year_over z y k))
            ∙ sym (when_greater y z o k)
        | inr k ↦
            let same : z ≡ y = omega (arith, h, k) in
            let here : IsCivil y n e = subst (λ y. IsCivil y n e) same q in
            ap (λ x. nat_cmp (days_before y m d) (days_before x n e)) same
            ∙ cmp_same_year (days_before_year y) y m d n e p here ∙ sym (when_equal y z o (sym same))
      ]
    ]

-- ---- seconds

pub cmp_seconds : (y m d h mi s y' m' d' h' mi' s' : ℕ) → IsCivil y m d → IsTimeOfDay h mi s → IsCivil y' m' d'
    → IsTimeOfDay h' mi' s'
    → nat_cmp (seconds_before y m d h mi s) (seconds_before y' m' d' h' mi' s')
    ≡ ordering_then (nat_cmp y y')
    (ordering_then (nat_cmp m m')
    (ordering_then (nat_cmp d d') (ordering_then (nat_cmp h h') (ordering_then (nat_cmp mi mi') (nat_cmp s s')))))
cmp_seconds y m d h mi s y' m' d' h' mi' s' p t q u =
    let a = days_before y m d in
    let b = days_before y' m' d' in
    cmp_parts 60 ((a * 24 + h) * 60 + mi) ((b * 24 + h') * 60 + mi') s s' t.second u.second
    ∙ ap (λ o. ordering_then o (nat_cmp s s')) (cmp_parts 60 (a * 24 + h) (b * 24 + h') mi mi' t.minute u.minute)
    ∙ then_assoc (nat_cmp (a * 24 + h) (b * 24 + h')) (nat_cmp mi mi') (nat_cmp s s')
    ∙ ap (λ o. ordering_then o (ordering_then (nat_cmp mi mi') (nat_cmp s s'))) (cmp_parts 24 a b h h' t.hour u.hour)
    ∙ then_assoc (nat_cmp a b) (nat_cmp h h') (ordering_then (nat_cmp mi mi') (nat_cmp s s'))
    ∙ ap (λ o. ordering_then o (ordering_then (nat_cmp h h') (ordering_then (nat_cmp mi mi') (nat_cmp s s'))))
    (cmp_dates y m d y' m' d' p q)
    ∙ then_assoc (nat_cmp y y') (ordering_then (nat_cmp m m') (nat_cmp d d'))
    (ordering_then (nat_cmp h h') (ordering_then (nat_cmp mi mi') (nat_cmp s s')))
    ∙ ap (ordering_then (nat_cmp y y'))
    (then_assoc (nat_cmp m m') (nat_cmp d d')
    (ordering_then (nat_cmp h h') (ordering_then (nat_cmp mi mi') (nat_cmp s s'))))

then_equal : (a b : ℕ) (o : Ordering) → ordering_then (nat_cmp a b) o ≡ Equal → (a ≡ b) × (o ≡ Equal)
then_equal a b o e = elim (cases_lt a b) [
  | inl h ↦ let q : Less ≡ Equal = sym (when_less a b o h) ∙ e in cc
  | inr h ↦ elim (cases_lt b a) [
    | inl k ↦ let q : Greater ≡ Equal = sym (when_greater a b o k) ∙ e in cc
    | inr k ↦
        let same : a ≡ b = omega arith in
        (same, sym (when_equal a b o same) ∙ e)
  ]
]

-- the fields are the same exactly if the seconds are
pub same_seconds : (y m d h mi s y' m' d' h' mi' s' : ℕ) → IsCivil y m d → IsTimeOfDay h mi s → IsCivil y' m' d'
    → IsTimeOfDay h' mi' s'
    → IsTrue ((y == y') && ((m == m') && ((d == d') && ((h == h') && ((mi == mi') && (s == s'))))))
    ↔ (seconds_before y m d h mi s ≡ seconds_before y' m' d' h' mi' s')
same_seconds y m d h mi s y' m' d' h' mi' s' p t q u = (there, back)
  where
    there : ((y == y') && ((m == m') && ((d == d') && ((h == h') && ((mi == mi') && (s == s')))))) ≡ true
        → seconds_before y m d h mi s ≡ seconds_before y' m' d' h' mi' s'
    there e =
        let a = and_parts (y == y') ((m == m') && ((d == d') && ((h == h') && ((mi == mi') && (s == s'))))) e in
        let b = and_parts (m == m') ((d == d') && ((h == h') && ((mi == mi') && (s == s')))) a.1 in
        let c = and_parts (d == d') ((h == h') && ((mi == mi') && (s == s'))) b.1 in
        let f = and_parts (h == h') ((mi == mi') && (s == s')) c.1 in
        let g = and_parts (mi == mi') (s == s') f.1 in
        rw (
          eqb-true y y' a.0,
          eqb-true m m' b.0,
          eqb-true d d' c.0,
          eqb-true h h' f.0,
          eqb-true mi mi' g.0,
          eqb-true s s' g.1,
        ) refl

    back : seconds_before y m d h mi s ≡ seconds_before y' m' d' h' mi' s'
        → ((y == y') && ((m == m') && ((d == d') && ((h == h') && ((mi == mi') && (s == s')))))) ≡ true
    back e =
        let mis = ordering_then (nat_cmp mi mi') (nat_cmp s s') in
        let hs = ordering_then (nat_cmp h h') mis in
        let ds = ordering_then (nat_cmp d d') hs in
        let ms = ordering_then (nat_cmp m m') ds in
        let all : ordering_then (nat_cmp y y') ms ≡ Equal = sym (cmp_seconds y m d h mi s y' m' d' h' mi' s' p t q u)
        ∙ equal (seconds_before y m d h mi s) (seconds_before y' m' d' h' mi' s') e in
        let a = then_equal y y' ms all in
        let b = then_equal m m' ds a.1 in
        let c = then_equal d d' hs b.1 in
        let f = then_equal h h' mis c.1 in
        let g = then_equal mi mi' (nat_cmp s s') f.1 in
        let i : (s ≡ s') × (Equal ≡ Equal) = then_equal s s' Equal (ap (λ o. ordering_then o Equal) g.1) in
        rw (eq-eqb y y' a.0, eq-eqb m m' b.0, eq-eqb d d' c.0, eq-eqb h h' f.0, eq-eqb mi mi' g.0, eq-eqb s s' i.0) refl
