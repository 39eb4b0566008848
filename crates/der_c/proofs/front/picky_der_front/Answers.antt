use Rattle.std.proofs.Common.{refl}
use Rattle.der_c.specs.Elements.{IsFrontInC}
use Rattle.der_c.proofs.front.picky_der_front.Goals as goal

pub returns-in-Element : goal.returns-in-Element
returns-in-Element c = IsFrontInC.element c.in-Element.header (rw c.in-Element.is at c.front_of.ensures)
    c.element_in_c.ensures refl

pub returns-in-Broken : goal.returns-in-Broken
returns-in-Broken c = IsFrontInC.broken c.in-Broken.rule (rw c.in-Broken.is at c.front_of.ensures) refl
    c.rule_code.ensures
