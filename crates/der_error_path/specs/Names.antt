-- Paths by names as text.
use Rattle.std.specs.Prelude.{ℕ, List, [], ◌∷◌, ◌++◌, length, codes, ◌==◌, if◌then◌else◌}
use Rattle.std.specs.Fmt.{decimal}
use Rattle.der_error_path.specs.declared.expected.Part.{Part}
use Rattle.der_error_path.specs.declared.expected.Part.TheVariants as part
use Rattle.der_error_path.specs.declared.steps.Step.{Step}

-- a point, unless nothing is before it
abbrev pub point_after : List ℕ → List ℕ
point_after text = if length text == 0 then [] else 0x2E ∷ []

-- a name after those before it
abbrev pub then_name : List ℕ → List ℕ → List ℕ
then_name text name = text ++ (point_after text ++ name)

-- a part of this index after those before it
abbrev pub then_part : List ℕ → ℕ → Part → List ℕ
then_part text index part.Value = text
then_part text index (part.Member name) = then_name text name.now
then_part text index part.Item = text ++ (codes "[" ++ (decimal index ++ codes "]"))
then_part text index part.Extra = then_name text (decimal index)
then_part text index part.Unknown = then_name text (decimal index)

-- these steps after those before
abbrev pub then_steps : List ℕ → List Step → List ℕ
then_steps text [] = text
then_steps text (s ∷ steps) = then_steps (then_part text s.index s.part) steps

abbrev pub names_of : List Step → List ℕ
names_of steps = then_steps [] steps
