-- Which text is a date and time.
use Rattle.std.specs.Prelude.{◌≡◌, ℕ, ◌<◌, List, [], ◌∷◌}
use Rattle.der_types.specs.declared.date_time.DateTime.{DateTime}
use Rattle.der_types.specs.DateTimes.{date_time_text, two_digits}

-- none prints so
abbrev pub IsNoDateTime : List ℕ → Type 0
IsNoDateTime text = (t : DateTime) → date_time_text t ≡ text → ⊥

-- it is each number below 100 that has these digits
abbrev pub IsNumberOf : ℕ → ℕ → ℕ → Type 0
IsNumberOf tens ones m = (n : ℕ) → n < 100 → two_digits n ≡ (tens ∷ ones ∷ []) → m ≡ n

-- each that prints so is this one
abbrev pub IsOfText : List ℕ → DateTime → Type 0
IsOfText text it = (t : DateTime) → date_time_text t ≡ text → date_time_text it ≡ text
