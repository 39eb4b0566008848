use Rattle.std.proofs.Common.{subst}
use Rattle.std.proofs.lemmas.Result.{err_from_is_err_and}
use Rattle.der_ber_types.specs.Refusals.{IsRefusal, HasNoOne}
use Rattle.der_ber_types.proofs.CallRefusals.{broken-none, type-none}
use Rattle.der_ber_types.proofs.by_type.to_der.Goals as goal

pub returns-in_err-whole-clause-none : goal.returns-in_err-whole-clause-none
returns-in_err-whole-clause-none c =
    let p = err_from_is_err_and c.from_residual.result c.from_residual.ensures.1 in
    rw p.1 (broken-none c.args.schema.nodes.now c.args.schema.root c.args.bytes.now _ p.0 p.2
    c.in_err-whole.ensures.none)

pub returns-in_err-one_in_der-clause-none : goal.returns-in_err-one_in_der-clause-none
returns-in_err-one_in_der-clause-none c =
    let p = err_from_is_err_and c.from_residual-in_err-one_in_der.result c.from_residual-in_err-one_in_der.ensures.1 in
    let nodes = c.args.schema.nodes.now in
    let none = subst (λ b. IsRefusal (HasNoOne nodes c.args.schema.root b) c.in_err-one_in_der.field-0.0)
    c.deref.ensures.value c.in_err-one_in_der.ensures.none in
    rw p.1 (type-none nodes c.args.schema.root c.args.bytes.now c.in_ok-whole.whole.items _ p.0 p.2 none
    c.in_ok-whole.ensures.ok)
