use Rattle.std.proofs.Common.{◌++◌, ap, ◌∙◌, subst}
use Rattle.der_ber_types.specs.Pushed.{IsMoved}
use Rattle.der_ber_types.specs.Reordered.{IsFirst}
use Rattle.der_ber_types.proofs.sets.without_member.Goals as goal

pub returns : goal.returns
returns c =
    let found = c.in-Some.found in
    let first : IsFirst c.args.nodes.now c.args.member.now.node c.args.bytes.items found.before.now found.element.now
    found.after.now =
    subst (λ b. IsFirst c.args.nodes.now c.args.member.now.node b found.before.now found.element.now found.after.now)
    c.deref.ensures.value c.in-Some.ensures in
    IsMoved.present found.before.now found.element.now found.after.now first
    (c.in_ok-extend_from_slice-2.ensures.items ∙ ap (λ b. b ++ found.after.now) c.in_ok-rest.ensures)
    c.in_ok-extend_from_slice.ensures.items
