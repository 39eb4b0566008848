use Rattle.std.proofs.lemmas.Result.{err_from_is_err_and}
use Rattle.der_tool_lib.proofs.value.named.Asn1RawDerNamed.read.Goals as goal

pub returns-in_err-deserialize_raw-clause-err : goal.returns-in_err-deserialize_raw-clause-err
returns-in_err-deserialize_raw-clause-err g c =
    let p = err_from_is_err_and c.from_residual.result c.from_residual.ensures.1 in
    rw (p.1, p.2) (c.in_err-deserialize_raw.ensures.err.refuses, c.in_err-deserialize_raw.ensures.err.just)
