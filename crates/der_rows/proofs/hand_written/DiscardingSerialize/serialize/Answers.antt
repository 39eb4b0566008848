use Rattle.std.proofs.Common.{rules}
use Rattle.der_rows.proofs.LeftOpen.{left_open_at}
use Rattle.der_rows.proofs.hand_written.DiscardingSerialize.serialize.Goals as goal

pub returns-in_err-serialize_element-clause-failed : goal.returns-in_err-serialize_element-clause-failed
returns-in_err-serialize_element-clause-failed g c =
    left_open_at g.W.WriteExt _ _ _ _ c.from_residual-in_err-serialize_element.ensures.1 (search rules)
    (search rules) c.in_ok-count.ensures.wrote c.serialize_lazy.ensures.opened c.in_err-serialize_element.ensures.err
