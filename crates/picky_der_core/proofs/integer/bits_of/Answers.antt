use Rattle.std.proofs.Common.{◌<◌, length, subst, arith}
use Rattle.picky_der_core.proofs.DigitLaws.{bytes_by_index, long_bits}
use Rattle.picky_der_core.proofs.integer.bits_of.Goals as goal

pub returns-then-digits-gt16-clause-bytes : goal.returns-then-digits-gt16-clause-bytes
returns-then-digits-gt16-clause-bytes c = bytes_by_index c.args.content.now (λ i. omega (arith, c.type_inv.content i))

pub returns-clause-bytes : goal.returns-clause-bytes
returns-clause-bytes c = bytes_by_index c.args.content.now (λ i. omega (arith, c.type_inv.content i))

pub returns-then-digits-gt16-clause-none : goal.returns-then-digits-gt16-clause-none
returns-then-digits-gt16-clause-none c =
    long_bits c.args.content.now (bytes_by_index c.args.content.now (λ i. omega (arith, c.type_inv.content i)))
    c.requires
    (subst (λ ds. 16 < length ds) c.after_sign-digits.ensures c.if-digits-gt16.true)
