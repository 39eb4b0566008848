use Rattle.picky_der_de.proofs.InOrder.{fails_in, fails_as_in}
use Rattle.picky_der_de.proofs.sequence.Sequence.refuse.Goals as goal

pub returns-clause-is : goal.returns-clause-is
returns-clause-is g c =
    fails_as_in c.args.self.now.de.now c.refuse.new.self c.args.kind c.refuse.result c.args.self.now.next
    c.refuse.ensures.is

pub returns-clause-fails : goal.returns-clause-fails
returns-clause-fails g c = fails_in c.refuse.ensures.fails
