use Rattle.picky_der_de.proofs.InOrder.{close_refused_in}
use Rattle.picky_der_de.proofs.SetOrder.{closed_compared}
use Rattle.picky_der_de.proofs.sequence.Sequence.end.Goals as goal

pub invariant_of-self-clause-compared : goal.invariant_of-self-clause-compared
invariant_of-self-clause-compared g c =
    closed_compared c.args.self.outer c.args.self.de.now c.close_end.new.self c.args.self.next c.close_end.result
    c.close_end.ensures.ok c.close_end.ensures.err

pub returns-clause-err : goal.returns-clause-err
returns-clause-err g c =
    close_refused_in c.args.self.de.now c.close_end.new.self c.args.self.next c.close_end.result
    c.close_end.ensures.err
