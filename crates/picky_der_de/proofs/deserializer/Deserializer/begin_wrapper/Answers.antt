use Rattle.std.proofs.Common.{◌<◌, ◌^◌, subst}
use Rattle.std.proofs.lemmas.Result.{err_from_is_err_and}
use Rattle.picky_der_de.specs.Headers.{RefusesHeader}
use Rattle.picky_der_de.proofs.Contents.{failed_same}
use Rattle.picky_der_de.proofs.WrapperReads.{opening_past, opening_header}
use Rattle.picky_der_de.proofs.deserializer.Deserializer.begin_wrapper.Goals as goal

pub returns-then-not-has_tag_number-clause-err : goal.returns-then-not-has_tag_number-clause-err
returns-then-not-has_tag_number-clause-err g c =
    let f = c.fail.ensures in
    let small : c.args.self.now.until_end < 2 ^ 64 = c.earlier.ensures.bounded in
    opening_past (c.has_tag_number.ensures.no c.if-not-has_tag_number.true) f.fails f.error
    (failed_same c.args.self.now f.error f.same) small

pub returns-in_err-len-clause-err : goal.returns-in_err-len-clause-err
returns-in_err-len-clause-err g c =
    let p = err_from_is_err_and c.from_residual.result c.from_residual.ensures.1 in
    let e = c.in_err-len.ensures in
    let small : c.args.self.now.until_end < 2 ^ 64 = c.earlier.ensures.bounded in
    let refused = subst (λ tag. RefusesHeader tag c.args.self.now c.read_header.new.self c.in_err-len.field-0.0)
    c.tag.ensures e.err in
    rw (p.1, p.2) (opening_header (c.has_tag_number.ensures.yes c.if-not-has_tag_number.false) refused e.memory small)
