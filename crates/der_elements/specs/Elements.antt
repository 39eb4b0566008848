-- The bytes of elements.
use Rattle.std.specs.Prelude.{◌≡◌, ℕ, List}
use Rattle.picky_der_core.specs.Tree.{Tree}
use Rattle.der_elements.specs.declared.any_element.AnyElement.{AnyElement}
use Rattle.der_elements.specs.contracts.any_element.AnyElementSerialize.TheImpl as written

-- those of one, with the header
abbrev pub element_bytes : AnyElement → List ℕ
element_bytes it = it.element.0.items

-- they are those of what it means
pub by_meaning : (it : AnyElement) (s : List ℕ) → written.ghosts.meaning it ≡ Tree.raw s → s ≡ element_bytes it
by_meaning it s means = let same : s ≡ it.element.0.items = cc in same
