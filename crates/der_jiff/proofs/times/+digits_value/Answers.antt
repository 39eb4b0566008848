use Rattle.std.proofs.Common.{◌<◌, ◌^◌, ◌+◌, ◌-◌, ◌*◌, arith}
use Rattle.der_jiff.proofs.Fractions.{power_positive, few_digits, first_digit, together}
use Rattle.der_jiff.proofs.times.+digits_value.Goals as goal

pub overflow_mul-result : goal.overflow_mul-result
overflow_mul-result t c =
    let some : 0 < c.args.places = omega (arith, c.if-places-eq0.false) in
    let digit : c.from.result < 10 =
    omega (arith, c.from.ensures, first_digit c.args.digits.now c.requires.digits c.in-len1-up.len_at_least) in
    let all : c.from.result * c.pow.result + 0 < 10 ^ c.args.places =
    rw c.pow.ensures (together c.args.places c.from.result 0 some digit (power_positive (c.args.places - 1))) in
    omega (arith, all, few_digits c.args.places c.requires.few)

pub overflow_add-result : goal.overflow_add-result
overflow_add-result t c =
    let some : 0 < c.args.places = omega (arith, c.if-places-eq0.false) in
    let digit : c.from.result < 10 =
    omega (arith, c.from.ensures, first_digit c.args.digits.now c.requires.digits c.in-len1-up.len_at_least) in
    let all : c.from.result * c.pow.result + c.digits_value.result < 10 ^ c.args.places =
    rw c.pow.ensures (together c.args.places c.from.result c.digits_value.result some digit
    c.digits_value.ensures.below) in
    omega (arith, all, few_digits c.args.places c.requires.few)

pub returns-in-empty-clause-below : goal.returns-in-empty-clause-below
returns-in-empty-clause-below t c = power_positive c.args.places

pub returns-in-len1-up-clause-below : goal.returns-in-len1-up-clause-below
returns-in-len1-up-clause-below t c =
    let some : 0 < c.args.places = omega (arith, c.if-places-eq0.false) in
    let digit : c.from.result < 10 =
    omega (arith, c.from.ensures, first_digit c.args.digits.now c.requires.digits c.in-len1-up.len_at_least) in
    rw c.pow.ensures (together c.args.places c.from.result c.digits_value.result some digit
    c.digits_value.ensures.below)
