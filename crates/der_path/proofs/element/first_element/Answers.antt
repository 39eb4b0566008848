use Rattle.std.proofs.Common.{arith}
use Rattle.der_path.proofs.Elements.{first_of, none_of_empty, long_tag, no_length, past_end, found}
use Rattle.der_path.proofs.element.first_element.Goals as goal

pub returns-in_default : goal.returns-in_default
returns-in_default c = none_of_empty c.args.bytes.now (omega (arith, c.in_default.len_below))

pub returns-then-number-gt-MAX_NUMBER : goal.returns-then-number-gt-MAX_NUMBER
returns-then-number-gt-MAX_NUMBER c =
    long_tag c.args.bytes.now c.from-tag.result _
    (first_of c.args.bytes.now c.from-tag.result c.from-tag.ensures c.in-len1-up.len_at_least)
    (omega (arith, c.number.ensures, c.if-number-gt-MAX_NUMBER.true))

pub returns-in_default-split_length : goal.returns-in_default-split_length
returns-in_default-split_length c =
    no_length c.args.bytes.now c.from-tag.result _
    (first_of c.args.bytes.now c.from-tag.result c.from-tag.ensures c.in-len1-up.len_at_least)
    (omega arith) c.in_default-split_length.ensures.none

pub returns-then-len-rest : goal.returns-then-len-rest
returns-then-len-rest c =
    past_end c.args.bytes.now c.from-tag.result _
    (first_of c.args.bytes.now c.from-tag.result c.from-tag.ensures c.in-len1-up.len_at_least)
    c.in-Some.len c.in-Some.rest.now c.in-Some.ensures.some c.if-len-rest.true

pub returns : goal.returns
returns c =
    found c.args.bytes.now c.from-tag.result _
    (first_of c.args.bytes.now c.from-tag.result c.from-tag.ensures c.in-len1-up.len_at_least)
    c.in-Some.len c.in-Some.rest.now c.in-Some.ensures.some c.split_at.result.0.now c.split_at.result.1.now
    (omega (arith, c.number.ensures, c.if-number-gt-MAX_NUMBER.false)) c.if-len-rest.false c.split_at.ensures.front
    c.split_at.ensures.back
