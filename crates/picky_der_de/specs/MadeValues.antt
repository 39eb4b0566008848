-- Vectors and texts as values of the logic. No program has one of them at this address: what is said of them is said of
-- their items.
use Rattle.std.specs.Prelude.{ℕ, ◌^◌, ◌<◌, ◌≤◌, List, length, String, IsUtf8, refl}
use Rattle.std.proofs.Common.{arith}
use Rattle.std.specs.Global.{Vec, Global}
use Rattle.std.specs.Ptr.{null_ptr}

abbrev some_heap : Global
some_heap = record { memory = record { seal = tt } }

-- as long as it is
pub at_most_itself : (n : ℕ) → n ≤ n
at_most_itself n = omega arith

-- a vector of these items
abbrev pub vec_of : {A : Type 0} (xs : List A) → length xs < 2 ^ 63 → Vec A
vec_of xs h = record {
  ptr = null_ptr;
  len = length xs;
  cap = length xs;
  alloc = some_heap;
  items = xs;
  ok =
      (refl, at_most_itself (length xs));
  small = h;
}

-- a text of these bytes
abbrev pub text_of : (bs : List ℕ) → IsUtf8 bs → length bs < 2 ^ 63 → String Global
text_of bs u h = record { bytes = vec_of bs h; ok = ∣ u ∣₁ }
