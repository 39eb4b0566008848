use Rattle.std.proofs.Common.{◌≡◌, true, false, [], refl, sym, ◌∙◌, arith}
use Rattle.picky_der_core.specs.Tag.{is_constructed}
use Rattle.der_types.specs.WellFormed.{is_identifier}
use Rattle.der_elements.proofs.WellFormedLemmas.{front_of_some, none_identified}
use Rattle.der_elements.proofs.Later.{none_left, some_left, no_more, remain_others, size_others, remain_none}
use Rattle.der_elements.proofs.Later.{remain_after, remain_inside, remain_last, size_after_one, size_inside, size_last}
use Rattle.der_elements.proofs.well_formed.are_well_formed.Goals as goal

pub returns-in-None : goal.returns-in-None
returns-in-None c =
    let nothing = none_left c.loop-rest.rest.now c.is_empty.result c.is_empty.ensures c.if-is_empty.true in
    let all = no_more c.loop-rest.later.items (omega (arith, c.in-None.ensures.cases)) in (
      λ t. remain_none c.args.bytes.now c.loop-rest.rest.now c.loop-rest.later.items [] nothing c.loop-rest.invariant
          all,
      λ are. refl,
    )

pub loop-rest-smaller-then-is_empty : goal.loop-rest-smaller-then-is_empty
loop-rest-smaller-then-is_empty c =
    size_others c.args.bytes.now c.loop-rest.rest.now c.loop-rest.later.items c.pop.new.self.items
    (none_left c.loop-rest.rest.now c.is_empty.result c.is_empty.ensures c.if-is_empty.true)
    c.loop-rest.invariant c.in-Some.others c.in-Some.ensures.items

pub loop-rest-preserved-then-is_empty : goal.loop-rest-preserved-then-is_empty
loop-rest-preserved-then-is_empty c =
    remain_others c.args.bytes.now c.loop-rest.rest.now c.loop-rest.later.items c.pop.new.self.items
    (none_left c.loop-rest.rest.now c.is_empty.result c.is_empty.ensures c.if-is_empty.true)
    c.loop-rest.invariant c.in-Some.others c.in-Some.ensures.items

pub returns-in_default : goal.returns-in_default
returns-in_default c =
    let some = some_left c.loop-rest.rest.now c.is_empty.result c.is_empty.ensures c.if-is_empty.false in (
      λ t. absurd (cc),
      λ are. absurd (front_of_some c.loop-rest.rest.now (c.loop-rest.invariant.0 are).0 some c.in_default.ensures.none),
    )

pub returns-then-not-is_identifier : goal.returns-then-not-is_identifier
returns-then-not-is_identifier c =
    let wrong : is_identifier c.in-Some-split_element.identifier ≡ false = sym c.is_identifier.ensures
    ∙ c.if-not-is_identifier.true in (
      λ t. absurd (cc),
      λ are. absurd (none_identified c.loop-rest.rest.now c.in-Some-split_element.identifier
          c.in-Some-split_element.content.now c.in-Some-split_element.after.now c.in-Some-split_element.ensures.some
          wrong (c.loop-rest.invariant.0 are).0),
    )

-- the element at the front

pub loop-rest-smaller-in_ok-push : goal.loop-rest-smaller-in_ok-push
loop-rest-smaller-in_ok-push c =
    let identifier : is_identifier c.in-Some-split_element.identifier ≡ true =
    sym c.is_identifier.ensures ∙ c.if-not-is_identifier.false in
    rw c.in_ok-push.ensures.items (size_inside c.args.bytes.now c.loop-rest.rest.now c.loop-rest.later.items
    c.in-Some-split_element.identifier c.in-Some-split_element.content.now c.in-Some-split_element.after.now
    c.in-Some-split_element.ensures.some identifier c.loop-rest.invariant c.in-Some-split_element.after refl)

pub loop-rest-preserved-in_ok-push : goal.loop-rest-preserved-in_ok-push
loop-rest-preserved-in_ok-push c =
    let identifier : is_identifier c.in-Some-split_element.identifier ≡ true =
    sym c.is_identifier.ensures ∙ c.if-not-is_identifier.false in
    let bit : is_constructed c.in-Some-split_element.identifier ≡ true =
    cc (c.is_constructed.ensures.bit, c.from.ensures, c.if-is_constructed.true) in
    rw c.in_ok-push.ensures.items (remain_inside c.args.bytes.now c.loop-rest.rest.now c.loop-rest.later.items
    c.in-Some-split_element.identifier c.in-Some-split_element.content.now c.in-Some-split_element.after.now
    c.in-Some-split_element.ensures.some identifier c.loop-rest.invariant bit c.in-Some-split_element.after refl)

pub loop-rest-smaller-else-not-is_empty : goal.loop-rest-smaller-else-not-is_empty
loop-rest-smaller-else-not-is_empty c =
    let identifier : is_identifier c.in-Some-split_element.identifier ≡ true =
    sym c.is_identifier.ensures ∙ c.if-not-is_identifier.false in
    size_last c.args.bytes.now c.loop-rest.rest.now c.loop-rest.later.items
    c.in-Some-split_element.identifier c.in-Some-split_element.content.now c.in-Some-split_element.after.now
    c.in-Some-split_element.ensures.some identifier c.loop-rest.invariant

pub loop-rest-preserved-else-not-is_empty : goal.loop-rest-preserved-else-not-is_empty
loop-rest-preserved-else-not-is_empty c =
    let identifier : is_identifier c.in-Some-split_element.identifier ≡ true =
    sym c.is_identifier.ensures ∙ c.if-not-is_identifier.false in
    let bit : is_constructed c.in-Some-split_element.identifier ≡ true =
    cc (c.is_constructed.ensures.bit, c.from.ensures, c.if-is_constructed.true) in
    let none = none_left c.in-Some-split_element.after.now c.is_empty-then-is_constructed.result
    c.is_empty-then-is_constructed.ensures c.if-not-is_empty.false in
    remain_last c.args.bytes.now c.loop-rest.rest.now c.loop-rest.later.items
    c.in-Some-split_element.identifier c.in-Some-split_element.content.now c.in-Some-split_element.after.now
    c.in-Some-split_element.ensures.some identifier c.loop-rest.invariant bit none

pub loop-rest-smaller : goal.loop-rest-smaller
loop-rest-smaller c =
    let identifier : is_identifier c.in-Some-split_element.identifier ≡ true =
    sym c.is_identifier.ensures ∙ c.if-not-is_identifier.false in
    size_after_one c.args.bytes.now c.loop-rest.rest.now c.loop-rest.later.items
    c.in-Some-split_element.identifier c.in-Some-split_element.content.now c.in-Some-split_element.after.now
    c.in-Some-split_element.ensures.some identifier c.loop-rest.invariant

pub loop-rest-preserved : goal.loop-rest-preserved
loop-rest-preserved c =
    let identifier : is_identifier c.in-Some-split_element.identifier ≡ true =
    sym c.is_identifier.ensures ∙ c.if-not-is_identifier.false in
    let bit : is_constructed c.in-Some-split_element.identifier ≡ false =
    cc (c.is_constructed.ensures.bit, c.from.ensures, c.if-is_constructed.false) in
    remain_after c.args.bytes.now c.loop-rest.rest.now c.loop-rest.later.items
    c.in-Some-split_element.identifier c.in-Some-split_element.content.now c.in-Some-split_element.after.now
    c.in-Some-split_element.ensures.some identifier c.loop-rest.invariant bit
