use Rattle.std.proofs.Common.{rules, ◌≡◌, [], ◌∷◌, ◌++◌, take, true, ap, sym, ◌∙◌, arith}
use Rattle.der_jiff.proofs.Fractions.{put_together, fewest_valid, valid}
use Rattle.der_types.specs.TimeContents.{is_generalized_time}
use Rattle.der_types.specs.TimeValues.{after_point, generalized_content}
use Rattle.der_jiff.specs.JiffTimes.{fewest_digits}
use Rattle.der_jiff.proofs.times.content_with.Goals as goal

is : (c : goal.After-drop-whole-2)
    → c.push.new.self.items ≡ generalized_content c.args.at (fewest_digits 9 c.args.nanoseconds)
is c =
    let digits = fewest_digits 9 c.args.nanoseconds in
    let whole : c.in_ok-content.content.items ≡ generalized_content c.args.at [] = search rules in
    let cut : c.truncate.new.self.items ≡ take 14 (generalized_content c.args.at []) = c.truncate.ensures.items
    ∙ ap (take 14) whole in
    let pushed : c.push_fraction.new.content.items ≡ take 14 (generalized_content c.args.at []) ++ after_point digits =
    c.in_ok-push_fraction.ensures.ok ∙ ap (λ xs. xs ++ after_point digits) cut in
    c.in_ok-push.ensures.items ∙ ap (λ xs. xs ++ (0x5A ∷ [])) pushed ∙ put_together c.args.at digits

pub returns-clause-is : goal.returns-clause-is
returns-clause-is c = is c

pub returns-clause-valid : goal.returns-clause-valid
returns-clause-valid c =
    let whole : is_generalized_time (generalized_content c.args.at []) ≡ true =
    ap is_generalized_time (sym c.in_ok-whole.ensures.ok) ∙ c.in_ok-whole.whole.canonical in
    ap is_generalized_time (is c) ∙ valid c.args.at (fewest_digits 9 c.args.nanoseconds) whole
    (fewest_valid 9 c.args.nanoseconds (omega (arith, c.requires)))
