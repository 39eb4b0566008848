use Rattle.std.proofs.Common.{refl}
use Rattle.std.proofs.lemmas.Result.{err_from_is_err_and}
use Rattle.picky_der_de.specs.SetOrder.{in_order}
use Rattle.picky_der_de.proofs.MemberReads.{member_again}
use Rattle.picky_der_de.proofs.sequence.Sequence.next_element.Goals as goal

pub returns-in_err-is_at_end-clause-err : goal.returns-in_err-is_at_end-clause-err
returns-in_err-is_at_end-clause-err g c =
    let p = err_from_is_err_and c.from_residual.result c.from_residual.ensures.1 in
    let s = c.args.self.now in
    rw (p.1, p.2) (member_again (in_order s.de.now s.next).last c.in_err-is_at_end.ensures.err)

pub returns-in_err-is_at_end-clause-last : goal.returns-in_err-is_at_end-clause-last
returns-in_err-is_at_end-clause-last g c =
    let p = err_from_is_err_and c.from_residual.result c.from_residual.ensures.1 in rw p.1 refl
