use Rattle.std.proofs.Common.{◌^◌, ◌<◌, length, arith, refl}
use Rattle.picky_asn1_der.proofs.PartLemmas.{not_empty, some_length, enough, header_found, has_header}
use Rattle.picky_asn1_der.proofs.parts.header_of.Goals as goal

pub returns-in_default-clause-found : goal.returns-in_default-clause-found
returns-in_default-clause-found c = λ tag content rest is. not_empty c.args.bytes.now tag content rest is (omega arith)

pub returns-in_default-split_length-clause-found : goal.returns-in_default-split_length-clause-found
returns-in_default-split_length-clause-found c = λ tag content rest is.
    let small : length c.args.bytes.now < 2 ^ 64 = omega arith in
    some_length c.args.bytes.now tag content rest is (omega arith) small c.in_default-split_length.ensures.none

pub returns-then-content_len-rest-clause-found : goal.returns-then-content_len-rest-clause-found
returns-then-content_len-rest-clause-found c = λ tag content rest is.
    enough c.args.bytes.now tag content rest is (omega arith) c.in-Some.content_len c.in-Some.rest.now
    c.in-Some.ensures.some (omega arith)

pub returns-clause-found : goal.returns-clause-found
returns-clause-found c = λ tag content rest is.
    header_found c.args.bytes.now tag content rest is (omega arith) c.in-Some.content_len c.in-Some.rest.now
    c.in-Some.ensures.some _ refl refl

pub returns-clause-is : goal.returns-clause-is
returns-clause-is c =
    has_header c.args.bytes.now c.in-Some.content_len c.in-Some.rest.now (omega arith) c.in-Some.ensures.some
    (omega arith) _ refl refl
