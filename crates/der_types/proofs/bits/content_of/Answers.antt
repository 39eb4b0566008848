use Rattle.std.proofs.Common.{◌≡◌, ◌++◌, ◌∷◌, ◌-◌, ◌*◌, ◌%◌, [], length, ap, ◌∙◌, arith}
use Rattle.der_types.specs.BitString.{octets}
use Rattle.der_types.specs.BitStringLaws.{length-octets}
use Rattle.der_types.proofs.bits.content_of.Goals as goal

pub returns : goal.returns
returns c =
    let bits = c.args.bits.now in
    let n = (8 - length bits % 8) % 8 in
    let unused : n ≡ 8 * length (octets bits) - length bits = omega (arith, length-octets bits) in
    c.in_ok-push_octets.ensures ∙ ap (λ bs. bs ++ octets bits) c.in_ok-push.ensures.items
    ∙ ap (λ bs. (bs ++ (n ∷ [])) ++ octets bits) c.new-content.ensures.items ∙ ap (λ n. n ∷ octets bits) unused
