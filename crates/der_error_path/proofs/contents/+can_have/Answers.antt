use Rattle.std.proofs.Common.{◌≡◌, true, false, sym, ap, ◌∙◌, rules, tests}
use Rattle.std.specs.Prelude.{Some, None, slice_get, nat_lt, if◌then◌else◌}
use Rattle.der_error_path.specs.Contents.{can_have, content_node, kind_or_inner}
use Rattle.der_error_path.proofs.KindContents.{no_node, node_has}
use Rattle.der_error_path.proofs.contents.+can_have.Goals as goal

pub returns-in_default : goal.returns-in_default
returns-in_default t c =
    let none : slice_get c.args.nodes.now c.args.index ≡ None = sym c.node_at.ensures ∙ c.in_default.is in
    sym (no_node c.args.nodes.now c.args.index c.args.content.now none)

pub returns-in_default-content_node : goal.returns-in_default-content_node
returns-in_default-content_node t c =
    let there : slice_get c.args.nodes.now c.args.index ≡ Some c.in-Some.node = sym c.node_at.ensures ∙ c.in-Some.is in
    let none : content_node c.in-Some.node.kind ≡ None =
    sym c.content_node.ensures ∙ c.in_default-content_node.is in
    c.kind_can_have.ensures
    ∙ sym (node_has c.args.nodes.now c.args.index c.in-Some.node there c.args.content.now
    ∙ ap (kind_or_inner c.args.nodes.now c.args.index c.args.content.now c.in-Some.node.kind) none)

pub returns-then-inner-index : goal.returns-then-inner-index
returns-then-inner-index t c =
    let there : slice_get c.args.nodes.now c.args.index ≡ Some c.in-Some.node = sym c.node_at.ensures ∙ c.in-Some.is in
    let j = c.in-Some-content_node.inner in
    let within : content_node c.in-Some.node.kind ≡ Some j =
    sym c.content_node.ensures ∙ c.in-Some-content_node.is in
    let less = c.if-inner-index.true in
    let before : nat_lt j c.args.index ≡ true = search (rules, tests) in
    c.can_have.ensures
    ∙ sym (node_has c.args.nodes.now c.args.index c.in-Some.node there c.args.content.now
    ∙ ap (kind_or_inner c.args.nodes.now c.args.index c.args.content.now c.in-Some.node.kind) within
    ∙ ap (λ b. if b then can_have c.args.nodes.now j c.args.content.now else true) before)

pub returns-else-inner-index : goal.returns-else-inner-index
returns-else-inner-index t c =
    let there : slice_get c.args.nodes.now c.args.index ≡ Some c.in-Some.node = sym c.node_at.ensures ∙ c.in-Some.is in
    let j = c.in-Some-content_node.inner in
    let within : content_node c.in-Some.node.kind ≡ Some j =
    sym c.content_node.ensures ∙ c.in-Some-content_node.is in
    let less = c.if-inner-index.false in
    let late : nat_lt j c.args.index ≡ false = search (rules, tests) in
    sym (node_has c.args.nodes.now c.args.index c.in-Some.node there c.args.content.now
    ∙ ap (kind_or_inner c.args.nodes.now c.args.index c.args.content.now c.in-Some.node.kind) within
    ∙ ap (λ b. if b then can_have c.args.nodes.now j c.args.content.now else true) late)
