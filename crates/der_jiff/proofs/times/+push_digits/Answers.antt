use Rattle.std.proofs.Common.{◌≡◌, ◌^◌, ◌+◌, ◌-◌, ◌/◌, ◌%◌, [], ◌∷◌, ◌++◌, arith, mod-lt, ap, sym, ◌∙◌}
use Rattle.std.proofs.lemmas.Result.{on_ok_weaker}
use Rattle.std.proofs.lemmas.List.{append_assoc}
use Rattle.der_jiff.proofs.Fractions.{power_positive, has_place, digit_of, fewest_more}
use Rattle.der_jiff.specs.JiffTimes.{fewest_digits}
use Rattle.der_jiff.proofs.times.+push_digits.Goals as goal

pub nonzero_div-number : goal.nonzero_div-number
nonzero_div-number t c = rw c.pow-unit.ensures (power_positive (c.args.places - 1))

pub overflow_cast-number : goal.overflow_cast-number
overflow_cast-number t c =
    let some = has_place c.args.places c.args.number c.if-number-eq0.false c.requires.below in
    rw c.pow-unit.ensures (omega (arith, digit_of c.args.places c.args.number some c.requires.below))

pub overflow_add-number : goal.overflow_add-number
overflow_add-number t c =
    let some = has_place c.args.places c.args.number c.if-number-eq0.false c.requires.below in
    rw c.pow-unit.ensures (omega (arith, digit_of c.args.places c.args.number some c.requires.below))

pub nonzero_rem-number : goal.nonzero_rem-number
nonzero_rem-number t c = rw c.pow-unit.ensures (power_positive (c.args.places - 1))

pub push_digits-requires : goal.push_digits-requires
push_digits-requires t c =
    let some = has_place c.args.places c.args.number c.if-number-eq0.false c.requires.below in (
      omega (arith, some, c.decreases),
      (
        omega (arith, c.requires.few),
        rw c.pow-unit.ensures (mod-lt c.args.number (power_positive (c.args.places - 1))),
      ),
    )

pub returns-clause-ok : goal.returns-clause-ok
returns-clause-ok t c =
    let some = has_place c.args.places c.args.number c.if-number-eq0.false c.requires.below in
    let digit = 0x30 + c.args.number / 10 ^ (c.args.places - 1) in
    let others = fewest_digits (c.args.places - 1) (c.args.number % 10 ^ (c.args.places - 1)) in
    let pushed : c.push.new.self.items ≡ c.args.content.now.items ++ (digit ∷ []) =
    rw c.pow-unit.ensures at c.in_ok-push.ensures.items in
    on_ok_weaker c.push_digits.result (λ e. rw c.pow-unit.ensures at e ∙ ap (λ xs. xs ++ others) pushed
    ∙ append_assoc c.args.content.now.items (digit ∷ []) others
    ∙ ap (λ xs. c.args.content.now.items ++ xs)
    (sym (fewest_more c.args.places c.args.number some c.if-number-eq0.false))) c.push_digits.ensures.ok
