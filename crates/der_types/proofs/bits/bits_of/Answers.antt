use Rattle.std.proofs.Common.{◌≡◌, ◌++◌, ◌∷◌, [], Some, None, take, vec_len, sym, ap, ◌∙◌}
use Rattle.std.specs.Prelude.{slice_get}
use Rattle.der_types.specs.BitString.{bits_of}
use Rattle.der_types.specs.BitNumbers.{taken_more, taken_all}
use Rattle.der_types.proofs.bits.bits_of.Goals as goal

pub loop-bit-preserved : goal.loop-bit-preserved
loop-bit-preserved c =
    let bits = bits_of c.args.content.now in
    let count = vec_len c.loop-bit.bits in
    let bit = c.in-Some.bit in
    let found : slice_get bits count ≡ Some bit =
    ap (slice_get bits) (sym c.len.ensures) ∙ sym c.bit_of.ensures ∙ c.in-Some.is in
    c.in_ok-push.ensures.items ∙ ap (λ bs. bs ++ bit ∷ []) c.loop-bit.invariant ∙ sym (taken_more bits count bit found)
    ∙ ap (λ n. take n bits) (sym c.in_ok-push.ensures.len)

pub returns : goal.returns
returns c =
    let bits = bits_of c.args.content.now in
    let count = vec_len c.loop-bit.bits in
    let none : slice_get bits count ≡ None =
    ap (slice_get bits) (sym c.len.ensures) ∙ sym c.bit_of.ensures ∙ c.in_default.is in
    c.loop-bit.invariant ∙ taken_all bits count none
