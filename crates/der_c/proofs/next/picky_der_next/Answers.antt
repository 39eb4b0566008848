use Rattle.std.proofs.Common.{sym, subst, refl}
use Rattle.der_c.specs.Elements.{IsGiven}
use Rattle.der_c.proofs.next.picky_der_next.Goals as goal

pub returns-in-Element : goal.returns-in-Element
returns-in-Element c = record {
  found = c.next_element-next.result.0;
  is = c.next_element-next.ensures.next;
  walk = c.next_element-next.ensures.walk;
  given = subst (λ n. IsGiven c.args.element.now c.element_in_c.result 0 n) (sym c.in-Element.is)
      (c.element_in_c.ensures, refl);
}

pub returns-in-Broken : goal.returns-in-Broken
returns-in-Broken c = record {
  found = c.next_element-next.result.0;
  is = c.next_element-next.ensures.next;
  walk = c.next_element-next.ensures.walk;
  given = subst (λ n. IsGiven c.args.element.now c.args.element.now c.rule_code.result n) (sym c.in-Broken.is) (
    refl,
    c.rule_code.ensures,
  );
}

pub returns-in-NoRoom : goal.returns-in-NoRoom
returns-in-NoRoom c = record {
  found = c.next_element-next.result.0;
  is = c.next_element-next.ensures.next;
  walk = c.next_element-next.ensures.walk;
  given = subst (λ n. IsGiven c.args.element.now c.args.element.now 6 n) (sym c.in-NoRoom.is) (refl, refl);
}
