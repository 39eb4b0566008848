-- What numbers of unsigned types mean: numbers that a type has, and others.
use Rattle.std.proofs.Common.{◌≡◌, ℕ, ◌<◌, ◌≤◌, ◌^◌, Bool, true, false, not, nat_lt, refl, arith, ltb-true, ltb-false}
use Rattle.std.proofs.Common.{le-ltb}
use Rattle.picky_der_core.specs.Primitive.{Primitive, PrimitiveShape}
use Rattle.picky_der_core.specs.Tree.{Tree}
use Rattle.picky_der_core.specs.Integer.{within, unsigned_tree}
use Rattle.picky_der_core.specs.Readable.{IsReadable}
use Rattle.picky_der_core.specs.Shape.{Shape, IsOf}

module _ (most : ℕ) where
  -- a number that the type has
  pub unsigned_tree-within : (n : ℕ) → n ≤ most → unsigned_tree most n ≡ Tree.primitive (Primitive.unsigned n)
  unsigned_tree-within n h = rw (le-ltb most n h) refl

  -- another is of no shape of numbers
  pub unsigned_tree-of : (n : ℕ) → IsOf (Shape.primitive (PrimitiveShape.unsigned most)) (unsigned_tree most n)
      → unsigned_tree most n ≡ Tree.primitive (Primitive.unsigned n)
  unsigned_tree-of n p = by_test (nat_lt most n) p
    where
      by_test : (t : Bool)
          → IsOf (Shape.primitive (PrimitiveShape.unsigned most))
          (within (not t) (Tree.primitive (Primitive.unsigned n)))
          → within (not t) (Tree.primitive (Primitive.unsigned n)) ≡ Tree.primitive (Primitive.unsigned n)
      by_test false p = refl
      by_test true p = absurd p

  -- and it isn't readable
  pub unsigned_tree-is_of : most < 2 ^ 128 → (n : ℕ) → IsReadable (unsigned_tree most n)
      → IsOf (Shape.primitive (PrimitiveShape.unsigned most)) (unsigned_tree most n)
  unsigned_tree-is_of small n r = by_test (nat_lt most n) refl r
    where
      by_test : (t : Bool) → nat_lt most n ≡ t → IsReadable (within (not t) (Tree.primitive (Primitive.unsigned n)))
          → IsOf (Shape.primitive (PrimitiveShape.unsigned most))
          (within (not t) (Tree.primitive (Primitive.unsigned n)))
      by_test false e r = let few : n ≤ most = ltb-false most n e in (few, omega arith)
      by_test true e r = absurd (omega (arith, r.0))

  -- numbers that mean the same are the same
  pub unsigned_tree-same : (m n : ℕ) → unsigned_tree most m ≡ unsigned_tree most n → m ≡ n
  unsigned_tree-same m n e = by_tests (nat_lt most m) (nat_lt most n) e
    where
      by_tests : (t u : Bool) → within (not t) (Tree.primitive (Primitive.unsigned m)) ≡ within (not u)
          (Tree.primitive (Primitive.unsigned n)) → m ≡ n
      by_tests false false e = cc
      by_tests false true e = cc
      by_tests true false e = cc
      by_tests true true e = cc
