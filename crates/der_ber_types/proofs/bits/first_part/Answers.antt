use Rattle.std.proofs.Common.{◌≡◌, ◌∷◌, length, get_or, sym, ap, ◌∙◌, arith}
use Rattle.std.proofs.lemmas.Slice.{first_rest}
use Rattle.std.specs.Prelude.{slice_range}
use Rattle.der_ber_types.specs.Contents.{most_unused}
use Rattle.der_ber_types.proofs.Refusals.{no_bit_part}
use Rattle.der_ber_types.proofs.bits.first_part.Goals.{then-inner-ne3-via-then-inner-ne3}
use Rattle.der_ber_types.proofs.bits.first_part.Goals.{then-inner-ne3-via-else-inner-ne3+then-unused-most_unused}
use Rattle.der_ber_types.proofs.bits.first_part.Goals as goal

pub returns-in_default-content : goal.returns-in_default-content
returns-in_default-content c =
    let element = c.in-Some.element in
    no_bit_part c.args.bytes.now element.content.now element.after.now element.tag c.in-Some.ensures.is
    (λ u bits e tag most. omega (arith, c.in_default-content.len_below, ap length e))

pub returns-then-inner-ne3 : goal.returns-then-inner-ne3
returns-then-inner-ne3 c =
    let element = c.in-Some.element in
    let content = element.content.now in
    no_bit_part c.args.bytes.now content element.after.now element.tag c.in-Some.ensures.is
    (λ u bits e tag most. elim c.then-inner-ne3.branch [
      | then-inner-ne3-via-then-inner-ne3 w ↦ omega (arith, c.inner.ensures, w.if-inner-ne3.true, tag)
      | then-inner-ne3-via-else-inner-ne3+then-unused-most_unused w ↦
          let list : get_or content 0 0 ∷ slice_range content 1 (length content) ≡ u ∷ bits =
          sym (first_rest content 0 c.in-len1-up.len_at_least) ∙ e in
          let first : get_or content 0 0 ≡ u = cc in
          let others : slice_range content 1 (length content) ≡ bits = cc in
          omega (arith, w.if-unused-most_unused.true, w.most_unused.ensures ∙ ap most_unused others, first, most)
    ])
