use Rattle.std.proofs.Common.{◌≡◌, length, refl, ap, set, arith}
use Rattle.std.proofs.lemmas.Result.{err_from_is_err_and}
use Rattle.der_ber.specs.declared.parts.Part.{Part}
use Rattle.der_ber.specs.declared.parts.Part.TheVariants as part
use Rattle.der_ber.specs.Parts.{contents}
use Rattle.der_ber.proofs.JoiningLemmas.{segments_more, bits_fail, bits_begin, bits_pushed, all_bits}
use Rattle.der_ber.proofs.joining.push_bits.Goals as goal

pub loop-part-init : goal.loop-part-init
loop-part-init c = bits_begin c.extend_from_slice.new.self.items

pub loop-part-preserved : goal.loop-part-preserved
loop-part-preserved c =
    segments_more c.args.inside.now c.loop-part.part-index c.part-item.result (omega arith) c.part-item.is
    c.loop-part.unused c.in_ok-later.later c.extend_from_slice.new.self.items c.loop-part.parts.items _ c.loop-part.len
    c.in_ok-later.added _ c.loop-part.invariant c.in_ok-later.ensures.ok c.in_ok-len.ensures.ok

pub returns-in_err-later-clause-err : goal.returns-in_err-later-clause-err
returns-in_err-later-clause-err c =
    let p = err_from_is_err_and c.from_residual-in_err-later.result c.from_residual-in_err-later.ensures.1 in
    rw (p.1, p.2) (bits_fail c.args.inside.now c.loop-part.part-index c.part-item.result (omega arith) c.part-item.is
    c.loop-part.unused c.args.position c.extend_from_slice.new.self.items c.loop-part.parts.items c.loop-part.len _
    c.loop-part.invariant c.in_err-later.ensures.err)

pub returns-clause-ok : goal.returns-clause-ok
returns-clause-ok c =
    let place : c.len-place.result ≡ length c.args.parts.now.items =
    omega (arith, c.len-place.ensures, c.args.parts.now.ok.0) in
    let last : Part = part.UnusedBits c.loop-part.unused in
    bits_pushed (contents c.args.inside.now) c.args.parts.now.items c.extend_from_slice.new.self.items
    c.loop-part.parts.items _ c.loop-part.unused c.loop-part.len _ _ last c.in_ok-extend_from_slice.ensures.items
    (all_bits c.args.inside.now c.loop-part.part-index c.loop-part.unused c.extend_from_slice.new.self.items
    c.loop-part.parts.items c.loop-part.len (omega arith) c.loop-part.invariant)
    (ap (λ n. set c.loop-part.parts.items n last) place) refl c.in_ok-content_len.ensures.ok
