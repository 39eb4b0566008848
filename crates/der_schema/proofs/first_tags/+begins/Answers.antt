use Rattle.std.proofs.Common.{◌≡◌, ◌<◌, ◌≤◌, true, false, sym, ◌∙◌, arith, rules, tests}
use Rattle.std.specs.Prelude.{Some, None, slice_get}
use Rattle.picky_der_core.specs.Tag.{number_of, is_tag_number}
use Rattle.der_schema.proofs.FirstTags.{long_tag, no_node, node_begins}
use Rattle.der_schema.proofs.first_tags.+begins.Goals as goal

pub begins-returns-in_default : goal.begins-returns-in_default
begins-returns-in_default t c =
    let none : slice_get c.args.nodes.now c.args.index ≡ None = sym c.node_at.ensures ∙ c.in_default.is in
    sym (no_node c.args.nodes.now c.args.index c.args.tag none)

pub begins-returns-then-number-gt-MAX_NUMBER : goal.begins-returns-then-number-gt-MAX_NUMBER
begins-returns-then-number-gt-MAX_NUMBER t c =
    let large : 30 < number_of c.args.tag = omega (arith, c.number.ensures, c.if-number-gt-MAX_NUMBER.true) in
    let long : is_tag_number (number_of c.args.tag) ≡ false = search (rules, tests) in
    sym (long_tag c.args.nodes.now c.args.index c.args.tag long)

pub begins-returns : goal.begins-returns
begins-returns t c =
    let small : number_of c.args.tag ≤ 30 = omega (arith, c.number.ensures, c.if-number-gt-MAX_NUMBER.false) in
    let ok : is_tag_number (number_of c.args.tag) ≡ true = search (rules, tests) in
    let there : slice_get c.args.nodes.now c.args.index ≡ Some c.in-Some.node = sym c.node_at.ensures ∙ c.in-Some.is in
    c.kind_begins.ensures
    ∙ sym (node_begins c.args.tag ok c.args.nodes.now c.args.index c.in-Some.node there (omega arith))
