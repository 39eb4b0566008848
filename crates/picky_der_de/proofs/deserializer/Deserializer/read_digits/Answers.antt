use Rattle.std.proofs.Common.{◌≡◌, ◌+◌, ◌*◌, ◌<◌, ◌∙◌, sym, ap, arith, refl}
use Rattle.std.proofs.lemmas.Result.{err_from_is_err_and}
use Rattle.picky_der_de.proofs.PlainReads.{more_bytes, more_bytes_fit}
use Rattle.picky_der_de.proofs.Contents.{stops_short}
use Rattle.picky_der_de.proofs.Headers.{digits_none, digits_more}
use Rattle.picky_der_de.proofs.deserializer.Deserializer.read_digits.Goals as goal

pub loop-i-init : goal.loop-i-init
loop-i-init g c = (digits_none _ c.requires.had_not_failed c.requires.unpeeked, omega arith, refl)

pub overflow_mul-len : goal.overflow_mul-len
overflow_mul-len g c =
    omega (arith, more_bytes_fit c.loop-i._i 8 c.loop-i.len 0 (omega arith) c.loop-i.invariant.1 (omega arith))

pub overflow_add-len : goal.overflow_add-len
overflow_add-len g c =
    let d : c.from.result < 256 = omega (arith, c.in_ok-next_byte.ensures.byte, c.from.ensures) in
    omega (arith, more_bytes_fit c.loop-i._i 8 c.loop-i.len c.from.result (omega arith) c.loop-i.invariant.1 d)

pub loop-i-preserved : goal.loop-i-preserved
loop-i-preserved g c =
    let d : c.from.result < 256 = omega (arith, c.in_ok-next_byte.ensures.byte, c.from.ensures) in
    let i = c.loop-i.invariant in
    let e = c.in_ok-next_byte.ensures in
    let more = digits_more i.0 e.ok e.byte in
    let same : c.loop-i.len * 256 + c.in_ok-next_byte.field-0 ≡ c.loop-i.len * 256 + c.from.result =
    ap (λ b. c.loop-i.len * 256 + b) (sym c.from.ensures) in
    (rw same at more, more_bytes c.loop-i._i c.loop-i.len c.from.result i.1 d, e.implicit_tag ∙ i.2)

pub returns-in_err-next_byte-clause-err : goal.returns-in_err-next_byte-clause-err
returns-in_err-next_byte-clause-err g c =
    let p = err_from_is_err_and c.from_residual.result c.from_residual.ensures.1 in
    let i = c.loop-i.invariant.0.consumes in
    let e = c.in_err-next_byte.ensures in
    rw (p.1, p.2) (stops_short i.consumes i.count c.loop-i-test.true e.err e.missing e.unmoved)
