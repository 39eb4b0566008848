use Rattle.std.proofs.Common.{◌≡◌, ◌++◌, ◌∷◌, [], ap, ◌∙◌}
use Rattle.der_ber_types.proofs.BitLemmas.{part-shorter, bits-more, bits-end}
use Rattle.der_ber_types.proofs.Refusals.{bits-then}
use Rattle.der_ber_types.proofs.Writing.{nothing_left}
use Rattle.der_ber_types.proofs.bits.joined_bits.Goals as goal

pub loop-rest-smaller : goal.loop-rest-smaller
loop-rest-smaller c =
    part-shorter c.loop-rest.rest.now c.in-Some.part.after.now c.in-Some.part.bits.now c.in-Some.part.unused
    c.in-Some.ensures

pub loop-rest-preserved : goal.loop-rest-preserved
loop-rest-preserved c =
    record {
      so_far = bits-more c.args.bytes.now c.loop-rest.rest.now c.in-Some.part.after.now c.loop-rest.bits.items
          c.in-Some.part.bits.now c.extend_from_slice.new.self.items c.loop-rest.unused c.in-Some.part.unused
          c.if-unused-ne0.false c.loop-rest.invariant.so_far c.in-Some.ensures c.in_ok-extend_from_slice.ensures.items;
      left = λ some. bits-then c.loop-rest.unused c.loop-rest.rest.now c.in-Some.part.unused c.in-Some.part.bits.now
          c.in-Some.part.after.now c.if-unused-ne0.false c.in-Some.ensures (c.loop-rest.invariant.left some);
    }

pub returns-clause-ok : goal.returns-clause-ok
returns-clause-ok c =
    let begun : c.push.new.self.items ≡ c.loop-rest.unused ∷ [] =
    c.in_ok-push.ensures.items ∙ ap (λ l. l ++ (c.loop-rest.unused ∷ [])) c.in_ok-content.ensures.items in
    bits-end c.args.bytes.now c.loop-rest.rest.now c.loop-rest.bits.items c.deref.result.now
    c.extend_from_slice-2.new.self.items c.push.new.self.items c.loop-rest.unused c.loop-rest.invariant.so_far
    (nothing_left c.loop-rest.rest.now c.is_empty.result c.is_empty.ensures c.loop-rest-test.false) begun
    c.in_ok-extend_from_slice-2.ensures.items c.deref.ensures.value
