use Rattle.std.proofs.Common.{◌<◌, ◌/◌, ◌%◌, Some, length, get_or, sym, ap, ◌∙◌, arith}
use Rattle.std.proofs.lemmas.List.{take_rest}
use Rattle.der_types.specs.BitString.{byte_bit, bits_of}
use Rattle.der_types.specs.BitStringLaws.{slice_get-bits_of}
use Rattle.der_types.proofs.bits.bit_of.Goals as goal

pub returns : goal.returns
returns c =
    let bs = c.args.content.now in
    let i = c.args.index in
    let few : i < length (bits_of bs) = omega (arith, c.len_of.ensures) in
    ap Some c.byte_bit.ensures ∙ ap (λ bytes. Some (byte_bit (get_or bytes (i / 8) 0) (i % 8))) (take_rest bs 1)
    ∙ sym (slice_get-bits_of bs i c.requires few)
