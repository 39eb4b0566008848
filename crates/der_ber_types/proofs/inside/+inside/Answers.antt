use Rattle.std.proofs.Common.{refl, sym}
use Rattle.std.proofs.lemmas.Option.{IfSome_then, slice_get-get_or}
use Rattle.der_ber_types.specs.Inside.{IsInside, IsInsideOne}
use Rattle.der_ber_types.proofs.InsideLemmas.{if_none, no-any, no_tag-other, no_tag-own, none-all}
use Rattle.der_ber_types.proofs.inside.+inside.Goals as goal

pub inside_of-returns-in-Choice-clause-some : goal.inside_of-returns-in-Choice-clause-some
inside_of-returns-in-Choice-clause-some t c =
    IfSome_then c.inside_of_one.result c.inside_of_one.ensures.some
    (λ x. IsInside.choice c.args.index c.args.tag c.in-Some.node c.in-Choice.alternatives x (sym c.in-Some.ensures)
    c.in-Choice.is)

pub inside_of-returns-in-AnyElement-clause-some : goal.inside_of-returns-in-AnyElement-clause-some
inside_of-returns-in-AnyElement-clause-some t c =
    IsInside.any c.args.index c.args.tag c.in-Some.node _ (sym c.in-Some.ensures) c.in-AnyElement.is refl

pub inside_of-returns-then-inner-index : goal.inside_of-returns-then-inner-index
inside_of-returns-then-inner-index t c =
    let nodes = c.args.nodes.now in
    let node = c.in-Some.node in
    let inner = c.in-Some-same_type.inner in
    record {
      some = IfSome_then c.inside_of.result c.inside_of.ensures.some
          (λ x. IsInside.other c.args.index inner c.args.tag node x (sym c.in-Some.ensures)
          (sym c.in-Some-same_type.ensures) c.if-inner-index.true);
      none = if_none c.inside_of.result c.inside_of.ensures.none
          (λ h. no_tag-other nodes c.args.index inner c.args.tag node (sym c.in-Some.ensures)
          (sym c.in-Some-same_type.ensures) (λ _. h));
    }

pub inside_of-returns-in_ok-own_tag-in-None : goal.inside_of-returns-in_ok-own_tag-in-None
inside_of-returns-in_ok-own_tag-in-None t c =
    let nodes = c.args.nodes.now in
    let node = c.in-Some.node in
    let own = c.in_ok-own_tag-in-None.field-0 in
    record {
      some = IfSome_then c.with_own_tag.result c.with_own_tag.ensures.some
          (λ x. IsInside.own c.args.index own c.args.tag node x (sym c.in-Some.ensures) (sym c.in-None.ensures)
          (sym c.in_ok-own_tag-in-None.ensures));
      none = if_none c.with_own_tag.result c.with_own_tag.ensures.none
          (λ h. no_tag-own nodes c.args.index c.args.tag node own (sym c.in-Some.ensures) (sym c.in-None.ensures)
          c.in_default-kind.not-Choice
          (no-any node.kind c.in_default-kind.not-AnyElement c.in_default-kind.not-WellFormedElement)
          (sym c.in_ok-own_tag-in-None.ensures) h);
    }

pub inside_of_one-returns-in-Some-clause-some : goal.inside_of_one-returns-in-Some-clause-some
inside_of_one-returns-in-Some-clause-some t c =
    IsInsideOne.first c.args.index c.loop-alternative.alternative-index c.args.tag c.args.alternatives.now _
    c.in-Some.inside
    (slice_get-get_or c.args.alternatives.now c.loop-alternative.alternative-index _ c.loop-alternative-test.true)
    c.if-alternative-index.true c.loop-alternative.invariant c.in-Some.ensures.some

pub inside_of_one-returns-clause-none : goal.inside_of_one-returns-clause-none
inside_of_one-returns-clause-none t c =
    none-all c.args.nodes.now c.args.index c.args.alternatives.now c.loop-alternative.alternative-index c.args.tag
    c.loop-alternative.invariant c.loop-alternative-test.false
