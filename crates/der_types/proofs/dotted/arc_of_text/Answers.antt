use Rattle.std.proofs.Common.{◌≡◌, ◌<◌, ◌^◌, true, false, length, sym, ap, ◌∙◌, subst, arith}
use Rattle.std.specs.Result.{OkIff}
use Rattle.std.specs.Fmt.{decimal}
use Rattle.std.specs.Str.Parse.{digits_value}
use Rattle.std.proofs.lemmas.Str.Parse.{parse_digits}
use Rattle.std.proofs.lemmas.Fmt.{decimal-digits_value, digits_value-decimal}
use Rattle.der_types.specs.Dotted.{is_decimal}
use Rattle.der_types.proofs.DottedLemmas.{digits_model, number_of_decimal, is_decimal-decimal}
use Rattle.der_types.proofs.dotted.arc_of_text.Goals as goal

pub returns-then-not-is_decimal-clause-none : goal.returns-then-not-is_decimal-clause-none
returns-then-not-is_decimal-clause-none c = λ arc small is.
    let wrong : false ≡ true = c.if-not-is_decimal.ensures ∙ ap is_decimal (c.as_bytes.ensures.value ∙ is)
    ∙ is_decimal-decimal arc small in
    cc

pub returns-in-Ok-clause-ok : goal.returns-in-Ok-clause-ok
returns-in-Ok-clause-ok c =
    let text = c.args.text.now in
    let number = number_of_decimal text (sym (c.if-not-is_decimal.ensures ∙ ap is_decimal c.as_bytes.ensures.value)) in
    let parsed = parse_digits digits_model 64 text c.parse.result c.parse.ensures.value.0 number.digits in
    let known = subst (λ r. OkIff r ((0 < length text) × (digits_value 10 text < 2 ^ 64)) (digits_value 10 text))
    c.in-Ok.is parsed in
    sym (ap decimal known.1 ∙ decimal-digits_value digits_model text number.digits number.some number.first known.0.1)

pub returns-in-Err-clause-none : goal.returns-in-Err-clause-none
returns-in-Err-clause-none c = λ arc small is.
    let text = c.args.text.now in
    let number = number_of_decimal text (sym (c.if-not-is_decimal.ensures ∙ ap is_decimal c.as_bytes.ensures.value)) in
    let parsed = parse_digits digits_model 64 text c.parse.result c.parse.ensures.value.0 number.digits in
    let known = subst (λ r. OkIff r ((0 < length text) × (digits_value 10 text < 2 ^ 64)) (digits_value 10 text))
    c.in-Err.is parsed in
    let value : digits_value 10 text ≡ arc = ap (digits_value 10) is ∙ digits_value-decimal digits_model arc small in
    known (number.some, omega (arith, value))
