use Rattle.picky_der_de.proofs.InOrder.{reads_aside, refuses_aside, refused_aside}
use Rattle.picky_der_de.proofs.sequence.order.read_aside.Goals as goal

pub returns-clause-ok : goal.returns-clause-ok
returns-clause-ok g c =
    reads_aside c.args.de.now c.deserialize-result.new.de c.deserialize-result.result
    c.take_seen-seen.ensures.same c.set_seen.ensures g.T.Deserialize.shape g.T.Serialize.meaning
    c.deserialize-result.ensures.ok

pub returns-clause-err : goal.returns-clause-err
returns-clause-err g c =
    refuses_aside c.args.de.now c.deserialize-result.new.de c.deserialize-result.result
    c.take_seen-seen.ensures.same c.set_seen.ensures g.T.Deserialize.shape g.T.Serialize.meaning
    c.deserialize-result.ensures.err

pub returns-clause-refused_by : goal.returns-clause-refused_by
returns-clause-refused_by g c =
    refused_aside c.args.de.now c.deserialize-result.new.de c.deserialize-result.result
    c.take_seen-seen.ensures.same c.set_seen.ensures g.T.Deserialize.facts.rule c.deserialize-result.ensures.refused_by
