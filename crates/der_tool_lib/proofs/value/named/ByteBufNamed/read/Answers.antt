use Rattle.std.proofs.lemmas.Result.{err_from_is_err_and}
use Rattle.der_tool_lib.proofs.value.named.ByteBufNamed.read.Goals as goal

pub returns-in_err-deserialize_byte_buf-clause-err : goal.returns-in_err-deserialize_byte_buf-clause-err
returns-in_err-deserialize_byte_buf-clause-err g c =
    let p = err_from_is_err_and c.from_residual.result c.from_residual.ensures.1 in
    rw (p.1, p.2) c.in_err-deserialize_byte_buf.ensures.err
