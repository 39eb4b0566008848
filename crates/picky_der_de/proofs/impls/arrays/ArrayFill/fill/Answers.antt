use Rattle.std.specs.Prelude.{length}
use Rattle.std.proofs.lemmas.Result.{MatchResult-weaker}
use Rattle.picky_der_de.proofs.ListReads.{array_refuses}
use Rattle.picky_der_de.proofs.impls.arrays.ArrayFill.fill.Goals as goal

pub returns-clause-err : goal.returns-clause-err
returns-clause-err g c =
    MatchResult-weaker c.read_into.result c.read_into.ensures.err (λ v h. tt)
    (λ e h. array_refuses g.T.Serialize.meaning g.row.N g.T.Deserialize.shape (length c.args.self.now) c.told-self
    h)
