use Rattle.std.proofs.Common.{◌≡◌, ◌++◌, length, take, drop, sym, ap, ◌∙◌, arith, take-append-drop}
use Rattle.std.proofs.Common.{length-take-le, subst}
use Rattle.picky_der_core.specs.Element.{length_octets}
use Rattle.der_elements.specs.Fronts.{IsFront}
use Rattle.der_elements.proofs.WellFormedLemmas.{no_bytes, first_of, is_front, no_number, no_length, too_long}
use Rattle.der_elements.proofs.well_formed.split_element.Goals as goal

pub returns-in_default-clause-none : goal.returns-in_default-clause-none
returns-in_default-clause-none c = no_bytes c.args.bytes.now c.in_default.len_below

pub returns-then-number-gt-MAX_NUMBER-clause-none : goal.returns-then-number-gt-MAX_NUMBER-clause-none
returns-then-number-gt-MAX_NUMBER-clause-none c =
    no_number c.args.bytes.now c.from-tag.result _
    (first_of c.args.bytes.now c.from-tag.result c.from-tag.ensures c.in-len1-up.len_at_least)
    (λ short. omega (arith, c.number.ensures))

pub returns-in_default-split_length-clause-none : goal.returns-in_default-split_length-clause-none
returns-in_default-split_length-clause-none c =
    no_length c.args.bytes.now c.from-tag.result _
    (first_of c.args.bytes.now c.from-tag.result c.from-tag.ensures c.in-len1-up.len_at_least)
    (omega arith) c.in_default-split_length.ensures.none

pub returns-then-len-rest-clause-none : goal.returns-then-len-rest-clause-none
returns-then-len-rest-clause-none c =
    too_long c.args.bytes.now c.from-tag.result _
    (first_of c.args.bytes.now c.from-tag.result c.from-tag.ensures c.in-len1-up.len_at_least)
    c.in-Some.len c.in-Some.rest.now c.in-Some.ensures.some c.if-len-rest.true

pub returns-clause-some : goal.returns-clause-some
returns-clause-some c =
    let rest = c.in-Some.rest.now in
    let size : length (take c.in-Some.len rest) ≡ c.in-Some.len =
    length-take-le c.in-Some.len rest c.if-len-rest.false in
    let split : rest ≡ c.split_at.result.0.now ++ c.split_at.result.1.now =
    sym (take-append-drop c.in-Some.len rest) ∙ ap (λ b. b ++ drop c.in-Some.len rest) (sym c.split_at.ensures.front)
    ∙ ap (λ b. c.split_at.result.0.now ++ b) (sym c.split_at.ensures.back) in
    let same : c.in-Some.len ≡ length c.split_at.result.0.now = sym size ∙ ap length (sym c.split_at.ensures.front) in
    subst (λ t. IsFront c.args.bytes.now t c.split_at.result.0.now c.split_at.result.1.now) c.from-tag.ensures
    (is_front c.args.bytes.now c.from-tag.result _
    (first_of c.args.bytes.now c.from-tag.result c.from-tag.ensures c.in-len1-up.len_at_least)
    c.split_at.result.0.now c.split_at.result.1.now (omega (arith, c.number.ensures, c.if-number-gt-MAX_NUMBER.false))
    (c.in-Some.ensures.some ∙ ap (λ n. length_octets n ++ rest) same
    ∙ ap (λ b. length_octets (length c.split_at.result.0.now) ++ b) split))
