use Rattle.std.proofs.Common.{arith, length, refl}
use Rattle.picky_der_core.specs.ElementLaws.{length-length_octets}
use Rattle.der_c.specs.Writing.{IsPut}
use Rattle.der_c.proofs.WritingLemmas.{length_tlv}
use Rattle.der_c.proofs.writing.picky_der_put.Goals as goal

pub overflow_add-size : goal.overflow_add-size
overflow_add-size c =
    let most = length-length_octets (length c.args.content.now) (omega arith) in
    omega (arith, most, c.encoded_len.ensures)

pub overflow_add-size-2 : goal.overflow_add-size-2
overflow_add-size-2 c =
    let most = length-length_octets (length c.args.content.now) (omega arith) in
    omega (arith, most, c.encoded_len.ensures)

pub returns-in_default : goal.returns-in_default
returns-in_default c =
    let e = length_tlv c.args.tag c.args.content.now in
    IsPut.uncountable (omega (arith, e, c.encoded_len.ensures, c.in_default.ensures)) refl refl refl

pub returns-then-end-out : goal.returns-then-end-out
returns-then-end-out c =
    let e = length_tlv c.args.tag c.args.content.now in
    IsPut.short (omega (arith, c.if-end-out.true)) (omega (arith, e, c.encoded_len.ensures, c.in-Some.ensures)) refl
    refl

pub put_at-requires : goal.put_at-requires
put_at-requires c =
    let e = length_tlv c.args.tag c.args.content.now in
    omega (arith, e, c.encoded_len.ensures, c.in-Some.ensures, c.if-end-out.false)

pub returns : goal.returns
returns c =
    let e = length_tlv c.args.tag c.args.content.now in
    IsPut.put (omega (arith, c.if-end-out.false)) (omega (arith, e, c.encoded_len.ensures, c.in-Some.ensures))
    c.put_at.ensures refl
