use Rattle.std.proofs.Common.{◌≡◌, ap, subst, ◌∙◌}
use Rattle.std.proofs.lemmas.Bool.{and_parts}
use Rattle.der_types.specs.GeneralizedTimeLaws.{generalized_of}
use Rattle.der_types.specs.GeneralizedTimes.{scaled}
use Rattle.der_types.specs.TimeContents.{are_digits, fraction_of}
use Rattle.der_jiff.specs.JiffTimes.{Shows}
use Rattle.der_jiff.proofs.times.generalized_time_to_civil.Goals as goal

pub digits_value-requires-clause-digits : goal.digits_value-requires-clause-digits
digits_value-requires-clause-digits c =
    let fraction = (generalized_of c.args.time.now.content.items c.args.time.now.canonical).fraction in
    ap are_digits c.fraction-fraction.ensures
    ∙ (and_parts (are_digits (fraction_of c.args.time.now.content.items)) _ fraction).0

pub returns-clause-some : goal.returns-clause-some
returns-clause-some c =
    let value : c.digits_value.result ≡ scaled 9 (fraction_of c.args.time.now.content.items) =
    c.digits_value.ensures.value ∙ ap (scaled 9) c.fraction-fraction.ensures in
    record {
      at = c.whole_seconds.result;
      is = c.whole_seconds.ensures;
      shows = subst (λ n. Shows c.civil_at.result c.whole_seconds.result n) value c.civil_at.ensures;
    }
