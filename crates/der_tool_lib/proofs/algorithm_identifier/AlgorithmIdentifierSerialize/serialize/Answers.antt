use Rattle.picky_der_ser.proofs.Alike.{writes-alike, fails-alike}
use Rattle.der_tool_lib.proofs.AlgorithmIdentifierWrites.{alike_elements}
use Rattle.der_tool_lib.proofs.algorithm_identifier.AlgorithmIdentifierSerialize.serialize.Goals as goal

pub returns-clause-wrote : goal.returns-clause-wrote
returns-clause-wrote g c =
    writes-alike g.W.WriteExt _ _ _ _ _ (alike_elements c.args.self.now) c.serialize.ensures.whole.wrote

pub returns-clause-failed : goal.returns-clause-failed
returns-clause-failed g c =
    fails-alike g.W.WriteExt _ _ _ _ _ (alike_elements c.args.self.now) c.serialize.ensures.whole.failed
