use Rattle.std.proofs.Common.{sym}
use Rattle.std.proofs.lemmas.Result.{err_from_is_err_and}
use Rattle.serde_json.specs.View.{view}
use Rattle.der_json.proofs.writer.Writer.+written.Goals as goal

pub value-returns-in_err-kind : goal.value-returns-in_err-kind
value-returns-in_err-kind t c =
    let p = err_from_is_err_and c.from_residual.result c.from_residual.ensures.1 in
    rw (p.1, p.2) (c.in_err-kind.ensures.refused (view c.args.json.now))

pub value-returns-in_err-content-in-Sequence : goal.value-returns-in_err-content-in-Sequence
value-returns-in_err-content-in-Sequence t c =
    let p =
    err_from_is_err_and c.from_residual-in_err-content-in-Sequence.result
    c.from_residual-in_err-content-in-Sequence.ensures.1 in
    rw (p.1, p.2) c.in_err-content-in-Sequence.ensures

pub value-returns-in_err-content-in-SequenceOf : goal.value-returns-in_err-content-in-SequenceOf
value-returns-in_err-content-in-SequenceOf t c =
    let p =
    err_from_is_err_and c.from_residual-in_err-content-in-SequenceOf.result
    c.from_residual-in_err-content-in-SequenceOf.ensures.1 in
    rw (p.1, p.2) c.in_err-content-in-SequenceOf.ensures

pub value-returns-in_err-content-in-SetOf : goal.value-returns-in_err-content-in-SetOf
value-returns-in_err-content-in-SetOf t c =
    let p =
    err_from_is_err_and c.from_residual-in_err-content-in-SetOf.result
    c.from_residual-in_err-content-in-SetOf.ensures.1 in
    rw (p.1, p.2) c.in_err-content-in-SetOf.ensures

pub value-returns-in_err-content-in-ContentUnder : goal.value-returns-in_err-content-in-ContentUnder
value-returns-in_err-content-in-ContentUnder t c =
    let p =
    err_from_is_err_and c.from_residual-in_err-content-in-ContentUnder.result
    c.from_residual-in_err-content-in-ContentUnder.ensures.1 in
    rw (p.1, p.2) c.in_err-content-in-ContentUnder.ensures

pub value-returns-in_err-bytes-in-Some : goal.value-returns-in_err-bytes-in-Some
value-returns-in_err-bytes-in-Some t c =
    let p =
    err_from_is_err_and c.from_residual-in_err-bytes-in-Some.result
    c.from_residual-in_err-bytes-in-Some.ensures.1 in
    rw (p.1, p.2) c.in_err-bytes-in-Some.ensures

pub value-returns-in_ok-content-in-Sequence : goal.value-returns-in_ok-content-in-Sequence
value-returns-in_ok-content-in-Sequence t c = c.plain.ensures (view c.args.json.now)

pub value-returns-in_ok-content-in-SequenceOf : goal.value-returns-in_ok-content-in-SequenceOf
value-returns-in_ok-content-in-SequenceOf t c = c.plain-in-SequenceOf.ensures (view c.args.json.now)

pub value-returns-in_ok-content-in-SetOf : goal.value-returns-in_ok-content-in-SetOf
value-returns-in_ok-content-in-SetOf t c = c.plain-in-SetOf.ensures (view c.args.json.now)

pub value-returns-in_ok-content-in-ContentUnder : goal.value-returns-in_ok-content-in-ContentUnder
value-returns-in_ok-content-in-ContentUnder t c = c.plain-in-ContentUnder.ensures (view c.args.json.now)

pub value-returns-in-Some-broken_constraint : goal.value-returns-in-Some-broken_constraint
value-returns-in-Some-broken_constraint t c =
    c.mistake.ensures (view c.args.json.now) (c.in-Some-broken_constraint.ensures (view c.args.json.now))

pub wrapped-returns-then-not-has_tag_number : goal.wrapped-returns-then-not-has_tag_number
wrapped-returns-then-not-has_tag_number t c = c.mistake.ensures (view c.args.json.now) tt

pub wrapped-returns-in_err-inner-in-OctetContainer : goal.wrapped-returns-in_err-inner-in-OctetContainer
wrapped-returns-in_err-inner-in-OctetContainer t c =
    let p = err_from_is_err_and c.from_residual.result c.from_residual.ensures.1 in
    rw (p.1, p.2) c.in_err-inner-in-OctetContainer.ensures

pub wrapped-returns-in_err-inner-in_default : goal.wrapped-returns-in_err-inner-in_default
wrapped-returns-in_err-inner-in_default t c =
    let p =
    err_from_is_err_and c.from_residual-in_err-inner-in_default.result
    c.from_residual-in_err-inner-in_default.ensures.1 in
    rw (p.1, p.2) c.in_err-inner-in_default.ensures

pub contained-returns-in_default : goal.contained-returns-in_default
contained-returns-in_default t c =
    let none = rw c.in_default.is at c.as_object.ensures in
    c.mistake.ensures (view c.args.json.now) (sym none)

pub contained-returns-in_default-get : goal.contained-returns-in_default-get
contained-returns-in_default-get t c =
    let none = rw c.in_default-get.is at c.get.ensures in
    c.mistake-in_default-get.ensures (view c.args.json.now) (sym none)

pub contained-returns-in-Err : goal.contained-returns-in-Err
contained-returns-in-Err t c =
    c.in_member.ensures (view c.args.json.now) (view c.in-Some-get.value.now)
    (sym c.in-Some-get.ensures) c.in-Err.ensures

pub members-returns-in_default : goal.members-returns-in_default
members-returns-in_default t c =
    let none = rw c.in_default.is at c.as_object.ensures in
    c.mistake.ensures (view c.args.json.now) (sym none)

pub members-returns-in_err-encoding : goal.members-returns-in_err-encoding
members-returns-in_err-encoding t c =
    let p = err_from_is_err_and c.from_residual.result c.from_residual.ensures.1 in
    rw (p.1, p.2) c.in_err-encoding.ensures

pub member-returns-in-Required : goal.member-returns-in-Required
member-returns-in-Required t c =
    let none = rw c.in_default.is at c.get.ensures in
    c.mistake.ensures (view c.args.object.now) (sym none)

pub member-returns-in-Err : goal.member-returns-in-Err
member-returns-in-Err t c =
    c.in_member.ensures (view c.args.object.now) (view c.in-Some.value.now) (sym c.in-Some.ensures) c.in-Err.ensures

pub member-returns-then-has_default : goal.member-returns-then-has_default
member-returns-then-has_default t c =
    c.in_member-then-has_default.ensures (view c.args.object.now) (view c.in-Some.value.now) (sym c.in-Some.ensures)
    (c.mistake-error.ensures (view c.in-Some.value.now) tt)

pub items-returns-in_default : goal.items-returns-in_default
items-returns-in_default t c =
    let none = rw c.in_default.is at c.as_array.ensures in
    c.mistake.ensures (view c.args.json.now) (sym none)

pub items-returns-in_default-get : goal.items-returns-in_default-get
items-returns-in_default-get t c = c.mistake-in_default-get.ensures (view c.args.json.now) tt

pub items-returns-in-Err : goal.items-returns-in-Err
items-returns-in-Err t c =
    c.in_item.ensures (view c.args.json.now) (view c.in-Some-get.value.now) (sym c.in-Some-get.ensures) c.in-Err.ensures

pub items-returns-then-is_lt : goal.items-returns-then-is_lt
items-returns-then-is_lt t c =
    c.in_item-then-is_lt.ensures (view c.args.json.now) (view c.in-Some-get.value.now) (sym c.in-Some-get.ensures)
    (c.mistake-then-is_lt.ensures (view c.in-Some-get.value.now) tt)

pub choice-returns-in_default : goal.choice-returns-in_default
choice-returns-in_default t c = c.mistake.ensures (view c.args.json.now) tt

pub choice-returns-in_default-get : goal.choice-returns-in_default-get
choice-returns-in_default-get t c = c.mistake-in_default-get.ensures (view c.args.json.now) tt

pub choice-returns-in-Err : goal.choice-returns-in-Err
choice-returns-in-Err t c =
    c.in_member.ensures (view c.args.json.now) (view c.in-Some-get.value.now)
    (sym c.in-Some-get.ensures) c.in-Err.ensures

pub choice-returns : goal.choice-returns
choice-returns t c =
    c.in_member-2.ensures (view c.args.json.now) (view c.in-Some-get.value.now) (sym c.in-Some-get.ensures)
    (c.mistake-error.ensures (view c.in-Some-get.value.now) tt)
