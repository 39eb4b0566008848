use Rattle.std.proofs.Common.{arith}
use Rattle.std.proofs.lemmas.Int.Digits.{number_more}
use Rattle.picky_der_de.proofs.PlainReads.{more_bytes, more_bytes_fit}
use Rattle.picky_der_de.proofs.integer.value_of.Goals as goal

pub overflow_mul-number : goal.overflow_mul-number
overflow_mul-number c =
    omega (
      arith,
      more_bytes_fit c.loop-digit.digit-index 16 c.loop-digit.number 0 (omega arith)
          c.loop-digit.invariant.1 (omega arith),
    )

pub overflow_add-number : goal.overflow_add-number
overflow_add-number c =
    let d = c.type_inv.digits c.loop-digit.digit-index in
    omega (
      arith,
      more_bytes_fit c.loop-digit.digit-index 16 c.loop-digit.number c.from.result (omega arith)
          c.loop-digit.invariant.1 (omega (arith, d)),
    )

pub loop-digit-preserved : goal.loop-digit-preserved
loop-digit-preserved c =
    let d = c.type_inv.digits c.loop-digit.digit-index in
    let i = c.loop-digit.invariant in
    let more = number_more 256 c.args.digits.now c.loop-digit.digit-index c.loop-digit-test.true in (
      omega (arith, i.0, more, c.from.ensures),
      more_bytes c.loop-digit.digit-index c.loop-digit.number c.from.result i.1
          (omega (arith, d)),
    )
