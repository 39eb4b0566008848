use Rattle.std.proofs.Common.{length, ap, arith}
use Rattle.der_elements.specs.Fronts.{HasNoFront}
use Rattle.der_elements.proofs.WellFormedLemmas.{none_after, not_one}
use Rattle.der_elements.proofs.Later.{some_left}
use Rattle.der_elements.proofs.well_formed.is_well_formed.Goals as goal

pub returns-in_default : goal.returns-in_default
returns-in_default c =
    let some = some_left c.in-Some.after.now c.is_empty.result c.is_empty.ensures c.if-is_empty.false in (
      λ t. absurd (cc),
      λ formed. absurd
          (let none = none_after c.args.bytes.now _ _ _ c.in-Some.ensures.some formed.one in
          omega (arith, ap length none)),
    )

pub returns-in_default-2 : goal.returns-in_default-2
returns-in_default-2 c =
    let none : HasNoFront c.args.bytes.now = rw c.in_default.is at c.split_element.ensures.none in (
      λ t. absurd (cc),
      λ formed. absurd (not_one c.args.bytes.now none formed.one),
    )
