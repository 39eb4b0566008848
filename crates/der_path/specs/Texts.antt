-- Paths as text.
use Rattle.std.specs.Prelude.{ℕ, List, [], ◌∷◌, ◌++◌, flat_map}
use Rattle.std.specs.Fmt.{decimal}

-- each number in decimal, after a point
abbrev pub after_points : List ℕ → List ℕ
after_points numbers = flat_map (λ n. 0x2E ∷ decimal n) numbers

-- with a point between any two numbers
abbrev pub with_points : List ℕ → List ℕ
with_points [] = []
with_points (n ∷ numbers) = decimal n ++ after_points numbers
