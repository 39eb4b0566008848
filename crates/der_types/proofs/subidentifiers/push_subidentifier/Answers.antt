use Rattle.std.proofs.Common.{◌++◌, ◌∷◌, ◌/◌, ◌%◌, [], ap, ◌∙◌, append_assoc}
use Rattle.der_types.specs.Subidentifiers.{marked, subidentifier}
use Rattle.der_types.proofs.subidentifiers.push_subidentifier.Goals as goal

pub returns : goal.returns
unfolding subidentifier
returns c =
    let n = c.args.number in
    let last = (n % 128) ∷ [] in
    c.in_ok-push.ensures.items ∙ ap (λ bs. bs ++ last) c.in_ok-push_marked.ensures
    ∙ append_assoc c.args.bytes.now.items (marked (n / 128)) last
