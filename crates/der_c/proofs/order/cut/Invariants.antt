use Rattle.std.proofs.Common.{◌≡◌, ◌++◌, length, map}
use Rattle.std.specs.List.{AllByRecursion, concat}
use Rattle.picky_der_core.specs.Element.{IsElement}
use Rattle.der_c.proofs.order.cut.Given as goal

abbrev pub invariant-loop-rest : goal.invariant-loop-rest
invariant-loop-rest l = record {
  elements : AllByRecursion IsElement (map (λ m. m.now) l.members.items);
  is : l.fn.bytes ≡ concat (map (λ m. m.now) l.members.items) ++ l.rest;
}

abbrev pub decreases-loop-rest : goal.decreases-loop-rest
decreases-loop-rest l = length l.rest
