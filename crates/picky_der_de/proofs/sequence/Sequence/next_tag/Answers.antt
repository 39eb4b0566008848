use Rattle.std.proofs.Common.{refl}
use Rattle.std.proofs.lemmas.Result.{err_from_is_err_and}
use Rattle.picky_der_de.proofs.InOrder.{identifies_in, identifier_refused_in}
use Rattle.picky_der_de.proofs.SetOrder.{identifier_compared, identifier_last}
use Rattle.picky_der_de.proofs.Peeked.{identifier_again}
use Rattle.picky_der_de.proofs.sequence.Sequence.next_tag.Goals as goal

pub returns-in_err-is_at_end-clause-err : goal.returns-in_err-is_at_end-clause-err
returns-in_err-is_at_end-clause-err g c =
    let p = err_from_is_err_and c.from_residual.result c.from_residual.ensures.1 in
    rw (p.1, p.2)
    (identifier_refused_in c.args.self.now.next (identifier_again c.in_err-is_at_end.ensures.err))

pub returns-in-Ok-clause-tag : goal.returns-in-Ok-clause-tag
returns-in-Ok-clause-tag g c = identifies_in c.args.self.now.next c.in-Ok.ensures.ok

pub returns-in-Err-clause-err : goal.returns-in-Err-clause-err
returns-in-Err-clause-err g c = identifier_refused_in c.args.self.now.next c.in-Err.ensures.err

pub invariant_of-self-2-clause-compared : goal.invariant_of-self-2-clause-compared
invariant_of-self-2-clause-compared g c =
    let s = c.args.self.now in
    let e = c.deserialize_identifier.ensures in
    identifier_compared s.de.now c.deserialize_identifier.new.self s.next c.deserialize_identifier.result s.compared
    e.ok e.err

pub returns-in_err-is_at_end-clause-last : goal.returns-in_err-is_at_end-clause-last
returns-in_err-is_at_end-clause-last g c =
    let p = err_from_is_err_and c.from_residual.result c.from_residual.ensures.1 in rw p.1 refl

pub returns-in-Err-clause-last : goal.returns-in-Err-clause-last
returns-in-Err-clause-last g c = identifier_last c.args.self.now.next c.in-Err.ensures.err
