use Rattle.std.proofs.Common.{◌≡◌, ◌++◌, ◌∷◌, ◌<◌, [], length, min, sym, ap, subst, ◌∙◌, append_assoc}
use Rattle.std.specs.Slice.Iter.{chunks_rest}
use Rattle.der_types.specs.BitString.{weigh, octets}
use Rattle.der_types.specs.BitStringLaws.{octets-append}
use Rattle.der_types.proofs.bits.push_octets.Goals as goal

pub loop-chunk-preserved : goal.loop-chunk-preserved
loop-chunk-preserved c =
    let x = c.in-Some.chunk.now in
    let rest = chunks_rest c.loop-chunk.chunk-iterator in
    let ys = chunks_rest c.next.new.self in
    let bytes = c.loop-chunk.bytes.items in
    let steps = c.in-Some.ensures.steps in
    let some : 0 < length (x ++ ys) = subst (λ r. 0 < length r) steps.1.0 steps.1.2 in
    let eight : length x ≡ min 8 (length (x ++ ys)) =
    steps.1.1 ∙ ap (λ size. min size (length rest)) c.loop-chunk.invariant.0
    ∙ ap (λ r. min 8 (length r)) steps.1.0 in
    let step : octets rest ≡ weigh 128 x ∷ octets ys = ap octets steps.1.0 ∙ octets-append x ys some eight in (
      steps.0 ∙ c.loop-chunk.invariant.0,
      ap (λ bs. bs ++ octets ys) c.in_ok-push.ensures.items
          ∙ append_assoc bytes (c.weigh.result ∷ []) (octets ys)
          ∙ ap (λ w. bytes ++ (w ∷ octets ys)) c.weigh.ensures.value ∙ ap (λ bs. bytes ++ bs) (sym step)
          ∙ c.loop-chunk.invariant.1,
    )
