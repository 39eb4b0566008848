use Rattle.std.proofs.Common.{rules, arith, ◌/◌, ◌%◌}
use Rattle.std.proofs.lemmas.Fmt.{decimal_digit}
use Rattle.der_types.proofs.date_time.TwoDigitsDisplay.fmt.Goals as goal

pub returns-clause-writes : goal.returns-clause-writes
returns-clause-writes g c =
    search (
      rules,
      decimal_digit (c.args.self.now.number / 10) (omega (arith, c.args.self.now.short)),
      decimal_digit (c.args.self.now.number % 10) (omega arith),
    )
