use Rattle.std.proofs.Common.{◌<◌, get_or, arith}
use Rattle.picky_der_core.proofs.DigitLaws.{turned_small, number_more, more_digits, more_digits_fit}
use Rattle.picky_der_core.proofs.integer.bits_of_digits.Goals as goal

pub overflow_mul-number : goal.overflow_mul-number
overflow_mul-number c =
    omega (
      arith,
      more_digits_fit c.loop-byte.byte-index 16 c.loop-byte.number 0 (omega (arith, c.requires))
          c.loop-byte.invariant.below (omega arith),
    )

-- the next digit is one
small : (c : goal.After-from) → c.from.result < 256
small c =
    let byte = turned_small c.args.is_turned (get_or c.args.bytes.now c.loop-byte.byte-index 0)
    (omega (arith, c.type_inv.bytes c.loop-byte.byte-index)) in
    omega (arith, c.digit_of.ensures, c.from.ensures, byte)

pub overflow_add-number : goal.overflow_add-number
overflow_add-number c =
    omega (
      arith,
      more_digits_fit c.loop-byte.byte-index 16 c.loop-byte.number c.from.result (omega (arith, c.requires))
          c.loop-byte.invariant.below (small c),
    )

pub loop-byte-preserved : goal.loop-byte-preserved
loop-byte-preserved c =
    let more = number_more c.args.is_turned c.args.bytes.now c.loop-byte.byte-index c.loop-byte-test.true in
    record {
      so_far = omega (arith, c.loop-byte.invariant.so_far, more, c.from.ensures, c.digit_of.ensures);
      below = more_digits c.loop-byte.byte-index c.loop-byte.number c.from.result c.loop-byte.invariant.below (small c);
    }
