-- What is known of the value in a wrapper is known of the whole.
use Rattle.std.specs.Prelude.{◌≡◌, Bool, refl}
use Rattle.picky_der_core.specs.declared.asn1.wrapper.Wrapper.{Wrapper}
use Rattle.picky_der_core.specs.Tree.{Tree}
use Rattle.picky_der_core.specs.Shape.{Shape}
use Rattle.picky_der_de.specs.InjectiveLaws.{IsInjective, HasShape}

tree_in : (w : Wrapper) (t u : Tree) → Tree.wrapped w t ≡ Tree.wrapped w u → t ≡ u
tree_in w t u e = cc

module _ (w : Wrapper) {V : Type 0} (meaning : V → Tree) (s : Shape) where
  -- readable values with one tree in a wrapper are equal
  pub wrapped_injective : (eq : V → V → Bool) → IsInjective meaning s eq
      → IsInjective (λ v. Tree.wrapped w (meaning v)) (Shape.wrapped w s) eq
  wrapped_injective eq known x y p q r e = known x y p.1 q.1 r.2 (tree_in w (meaning x) (meaning y) e)

  pub wrapped_has_shape : HasShape meaning s → HasShape (λ v. Tree.wrapped w (meaning v)) (Shape.wrapped w s)
  wrapped_has_shape has v r = (refl, has v r.2)
