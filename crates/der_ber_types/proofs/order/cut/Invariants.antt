use Rattle.std.proofs.Common.{◌≡◌, ◌++◌, length, map}
use Rattle.std.specs.List.{AllByRecursion, concat}
use Rattle.picky_der_core.specs.Element.{IsElement}
use Rattle.der_ber_types.proofs.Refusals.{SomeElements}
use Rattle.der_ber_types.proofs.order.cut.Given as goal

abbrev pub invariant-loop-rest : goal.invariant-loop-rest
invariant-loop-rest l = record {
  elements : AllByRecursion IsElement (map (λ e. e.now) l.elements.items);
  is : l.fn.bytes ≡ concat (map (λ e. e.now) l.elements.items) ++ l.rest;
  left : SomeElements l.fn.bytes → SomeElements l.rest;
}

abbrev pub decreases-loop-rest : goal.decreases-loop-rest
decreases-loop-rest l = length l.rest
