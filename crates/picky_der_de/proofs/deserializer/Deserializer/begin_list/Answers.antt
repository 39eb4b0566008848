use Rattle.std.proofs.Common.{rules, sym, subst}
use Rattle.picky_der_de.specs.SetOrder.{in_order, IsCompared}
use Rattle.picky_der_de.specs.Ends.{OpensList}
use Rattle.picky_der_de.proofs.deserializer.Deserializer.begin_list.Goals as goal

pub invariant_of-result-clause-compared : goal.invariant_of-result-clause-compared
invariant_of-result-clause-compared g c =
    subst (IsCompared c.open_list.new.self) (sym c.first_of-next.ensures) c.in_ok-outer.ensures.compared

pub returns : goal.returns
returns g c =
    let next = c.first_of-next.result in
    let opened : OpensList c.args.tag c.args.self.now (in_order c.open_list.new.self next) c.in_ok-outer.outer =
    subst (λ n. OpensList c.args.tag c.args.self.now (in_order c.open_list.new.self n) c.in_ok-outer.outer)
    (sym c.first_of-next.ensures) c.in_ok-outer.ensures.ok in
    search rules
