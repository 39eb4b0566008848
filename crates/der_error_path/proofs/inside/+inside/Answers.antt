use Rattle.std.proofs.Common.{◌≡◌, sym, ap, ◌∙◌, arith}
use Rattle.std.proofs.lemmas.Option.{none-some, same_Some}
use Rattle.std.specs.Prelude.{Some, None, option_map, slice_get}
use Rattle.der_error_path.specs.Awaited.{awaited}
use Rattle.der_error_path.specs.Inside.{Awaits, content_of, inner_with}
use Rattle.der_error_path.proofs.inside.+inside.Goals as goal

pub returns-in_default : goal.returns-in_default
returns-in_default t c =
    let none : slice_get c.args.nodes.now c.args.index ≡ None = sym c.node_at.ensures ∙ c.in_default.is in
    Awaits.no_node c.args.index none

pub returns-in-Some-content_of : goal.returns-in-Some-content_of
returns-in-Some-content_of t c =
    let there : slice_get c.args.nodes.now c.args.index ≡ Some c.in-Some.node = sym c.node_at.ensures ∙ c.in-Some.is in
    let says : content_of c.in-Some.node.kind ≡ Some (awaited c.in-Some-content_of.expected) =
    sym c.content_of.ensures ∙ ap (option_map awaited) c.in-Some-content_of.is in
    Awaits.said c.args.index c.in-Some.node (awaited c.in-Some-content_of.expected) there says

pub returns-in_default-inner_with : goal.returns-in_default-inner_with
returns-in_default-inner_with t c =
    let there : slice_get c.args.nodes.now c.args.index ≡ Some c.in-Some.node = sym c.node_at.ensures ∙ c.in-Some.is in
    let says : content_of c.in-Some.node.kind ≡ None =
    sym c.content_of.ensures ∙ ap (option_map awaited) c.in_default-content_of.is in
    let none : inner_with c.args.nodes.now c.args.tag c.in-Some.node.kind ≡ None =
    sym c.inner_with.ensures ∙ c.in_default-inner_with.is in
    Awaits.end c.args.index c.in-Some.node there says (λ within some before. none-some within (sym none ∙ some))

pub returns-then-inner-index : goal.returns-then-inner-index
returns-then-inner-index t c =
    let there : slice_get c.args.nodes.now c.args.index ≡ Some c.in-Some.node = sym c.node_at.ensures ∙ c.in-Some.is in
    let says : content_of c.in-Some.node.kind ≡ None =
    sym c.content_of.ensures ∙ ap (option_map awaited) c.in_default-content_of.is in
    let within : inner_with c.args.nodes.now c.args.tag c.in-Some.node.kind ≡ Some c.in-Some-inner_with.inner =
    sym c.inner_with.ensures ∙ c.in-Some-inner_with.is in
    Awaits.inner c.args.index c.in-Some.node c.in-Some-inner_with.inner (awaited c.inside.result) there says within
    c.if-inner-index.true c.inside.ensures

pub returns-else-inner-index : goal.returns-else-inner-index
returns-else-inner-index t c =
    let there : slice_get c.args.nodes.now c.args.index ≡ Some c.in-Some.node = sym c.node_at.ensures ∙ c.in-Some.is in
    let says : content_of c.in-Some.node.kind ≡ None =
    sym c.content_of.ensures ∙ ap (option_map awaited) c.in_default-content_of.is in
    let within : inner_with c.args.nodes.now c.args.tag c.in-Some.node.kind ≡ Some c.in-Some-inner_with.inner =
    sym c.inner_with.ensures ∙ c.in-Some-inner_with.is in
    let late = c.if-inner-index.false in
    Awaits.end c.args.index c.in-Some.node there says (λ j some before.
    let same : c.in-Some-inner_with.inner ≡ j = same_Some _ _ (sym within ∙ some) in
    omega arith)
