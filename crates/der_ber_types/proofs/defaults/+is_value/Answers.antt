use Rattle.std.proofs.Common.{subst, arith}
use Rattle.der_ber_types.proofs.Cutting.{smaller_content}
use Rattle.der_ber_types.proofs.Writing.{nothing_left, something_left}
use Rattle.der_ber_types.proofs.ValueLemmas.{no_value-none, no_value-more, no_value-tag, value-explicit}
use Rattle.der_ber_types.proofs.ValueLemmas.{explicit-value, value-own, own-value, never}
use Rattle.der_ber_types.specs.Inside.{IsInside}
use Rattle.der_ber_types.specs.declared.inside.Inside.TheVariants as inside
use Rattle.der_ber_types.proofs.defaults.+is_value.Goals as goal

pub returns-in_default : goal.returns-in_default
returns-in_default t c =
    never (no_value-none c.args.nodes.now c.args.value c.args.index c.args.element.now c.in_default.ensures)

pub returns-then-not-is_empty : goal.returns-then-not-is_empty
returns-then-not-is_empty t c =
    let first = c.in-Some.first in
    never (no_value-more c.args.nodes.now c.args.value c.args.index c.args.element.now first.tag first.content.now
    first.after.now c.in-Some.ensures
    (something_left first.after.now c.is_empty.result c.is_empty.ensures c.if-not-is_empty.true))

pub returns-in_default-inside_of : goal.returns-in_default-inside_of
returns-in_default-inside_of t c =
    let first = c.in-Some.first in
    never (no_value-tag c.args.nodes.now c.args.value c.args.index c.args.element.now first.tag first.content.now
    first.after.now c.in-Some.ensures c.in_default-inside_of.ensures.none)

pub is_value-requires : goal.is_value-requires
is_value-requires t c =
    let first = c.in-Some.first in
    let smaller =
    smaller_content c.args.element.now first.after.now first.tag first.content.now c.in-Some.ensures in
    (omega (arith, c.decreases, smaller), tt)

pub returns-in-One : goal.returns-in-One
returns-in-One t c =
    let nodes = c.args.nodes.now in
    let first = c.in-Some.first in
    let own : IsInside nodes c.args.index first.tag (inside.One c.in-One.inner) =
    subst (IsInside nodes c.args.index first.tag) c.in-One.is c.in-Some-inside_of.ensures.some in (
      λ h. value-explicit nodes c.args.value c.args.index c.args.element.now first.tag c.in-One.inner first.content.now
          first.after.now c.in-Some.ensures
          (nothing_left first.after.now c.is_empty.result c.is_empty.ensures c.if-not-is_empty.false) own
          (c.is_value.ensures.0 h),
      λ v. c.is_value.ensures.1 (explicit-value nodes c.args.value c.args.index c.args.element.now first.tag
          c.in-One.inner first.content.now first.after.now c.in-Some.ensures own v),
    )

pub returns-in_default-inside : goal.returns-in_default-inside
returns-in_default-inside t c =
    let nodes = c.args.nodes.now in
    let value = c.args.value in
    let index = c.args.index in
    let element = c.args.element.now in
    let first = c.in-Some.first in
    let content = first.content.now in
    let after = first.after.now in
    let it = c.in-Some-inside_of.inside in
    let is = c.in-Some-inside_of.ensures.some in
    let none = nothing_left after c.is_empty.result c.is_empty.ensures c.if-not-is_empty.false in (
      λ h. value-own nodes value index element first.tag it content after c.in-Some.ensures none is
          (c.is_content_of.ensures.0 h),
      λ v. c.is_content_of.ensures.1 (own-value nodes value index element first.tag it content after c.in-Some.ensures
          is c.in_default-inside.not-One v),
    )
