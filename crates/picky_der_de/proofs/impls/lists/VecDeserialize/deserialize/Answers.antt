use Rattle.std.proofs.lemmas.Result.{MatchResult-weaker}
use Rattle.picky_der_de.proofs.PlainReads.{refuses_of}
use Rattle.picky_der_de.proofs.impls.lists.VecDeserialize.deserialize.Goals as goal

pub returns-clause-err : goal.returns-clause-err
returns-clause-err g c = MatchResult-weaker c.read_list.result c.read_list.ensures.err (λ v h. tt)
    (λ e h. refuses_of (λ list. list.items) h)
