use Rattle.std.proofs.Common.{◌≡◌, ◌<◌, ◌≤◌, Some, arith}
use Rattle.std.proofs.lemmas.Result.{err_from_is_err_and}
use Rattle.picky_der_core.specs.Failure.{failure_of}
use Rattle.picky_der_core.specs.Tag.{number_of}
use Rattle.picky_der_de.specs.Steps.{Fails, IsJudged, IsMissing}
use Rattle.picky_der_de.specs.Elements.{without_implicit_tag}
use Rattle.picky_der_de.proofs.Contents.{kept_input, failed_same, unmoved_consumed, unmoved_peeked}
use Rattle.picky_der_de.proofs.Elements.{raw_missing, raw_long_form, raw_no_length}
use Rattle.picky_der_de.proofs.deserializer.Deserializer.begin_element.Goals as goal

pub returns-in_err-next_byte-clause-err : goal.returns-in_err-next_byte-clause-err
returns-in_err-next_byte-clause-err g c =
    let p = err_from_is_err_and c.from_residual.result c.from_residual.ensures.1 in
    let e = c.in_err-next_byte.ensures in
    let old = without_implicit_tag c.args.self.now in
    let new = c.next_byte.new.self in
    let error = c.in_err-next_byte.field-0.0 in
    let unmoved : new ≡ record old { failed = Some (failure_of error); faults = new.faults; input = new.input } =
    rw (← c.self.view_is) e.unmoved in
    let fails : Fails old new error = rw (← c.self.view_is) e.err in
    let missing : IsJudged c.args.self.now new error → IsMissing old error =
    rw (← c.self.view_is) (λ j. e.missing j.had_not_failed j.faults) in
    let consumed = unmoved_consumed old new _ unmoved in
    rw (p.1, p.2) (raw_missing fails missing (kept_input fails.took consumed) consumed
    (unmoved_peeked old new _ unmoved))

pub returns-then-number-gt-MAX_NUMBER-clause-err : goal.returns-then-number-gt-MAX_NUMBER-clause-err
returns-then-number-gt-MAX_NUMBER-clause-err g c =
    let f = c.fail.ensures in
    let e = c.in_ok-next_byte.ensures in
    let past : 30 < number_of c.in_ok-next_byte.field-0 =
    omega (arith, c.if-number-gt-MAX_NUMBER.true, c.number.ensures, c.from-tag.ensures) in
    rw (← c.self.view_is) (raw_long_form e.ok past f.fails f.error (failed_same c.next_byte.new.self f.error f.same))

pub returns-in_err-len-clause-err : goal.returns-in_err-len-clause-err
returns-in_err-len-clause-err g c =
    let p = err_from_is_err_and c.from_residual-in_err-len.result c.from_residual-in_err-len.ensures.1 in
    let e = c.in_ok-next_byte.ensures in
    let few : number_of c.in_ok-next_byte.field-0 ≤ 30 =
    omega (arith, c.if-number-gt-MAX_NUMBER.false, c.number.ensures, c.from-tag.ensures) in
    rw (p.1, p.2, ← c.self.view_is) (raw_no_length e.ok few e.byte (omega (arith, c.self.invariant.0))
    c.in_err-len.ensures.err)
