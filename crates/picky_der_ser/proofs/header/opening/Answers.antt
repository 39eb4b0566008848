use Rattle.std.proofs.Common.{◌≡◌, ◌+◌, [], ◌∷◌, ◌++◌, ap, sym, ◌∙◌, arith, append-nil}
use Rattle.std.proofs.lemmas.Grind.{common_steps}
use mir.Val.{bool_byte}
use Rattle.picky_der_core.specs.Element.{length_octets}
use Rattle.picky_der_ser.specs.Headers.{front}
use Rattle.picky_der_ser.proofs.HeaderBytes.{opened}
use Rattle.picky_der_ser.proofs.header.opening.Goals as goal

pub returns-then-has_front : goal.returns-then-has_front
returns-then-has_front c = λ d e.
    let tag = c.args.tag in
    let f = c.args.has_front in
    let n = c.args.len in
    let yes = c.if-has_front.true in
    let octets : c.bytes.result.items ≡ length_octets (bool_byte f + n) =
    c.bytes.ensures ∙ ap (λ k. length_octets (k + n)) c.from.ensures in
    let first : c.try_extend_from_slice.new.self.items ≡ tag ∷ c.bytes.result.items = grind (arith, common_steps) in
    let is : c.push-then-has_front.new.self.items ≡ tag ∷ (length_octets (bool_byte f + n) ++ front f) =
    c.push-then-has_front.ensures.items ∙ ap (λ x. x ++ (0 ∷ [])) (first ∙ ap (λ x. tag ∷ x) octets)
    ∙ ap (λ b. tag ∷ (length_octets (bool_byte f + n) ++ front b)) (sym yes) in
    ap (λ x. x ++ d) is ∙ opened tag f n d (sym e)

pub returns-else-has_front : goal.returns-else-has_front
returns-else-has_front c = λ d e.
    let tag = c.args.tag in
    let f = c.args.has_front in
    let n = c.args.len in
    let no = c.if-has_front.false in
    let octets : c.bytes.result.items ≡ length_octets (bool_byte f + n) =
    c.bytes.ensures ∙ ap (λ k. length_octets (k + n)) c.from.ensures in
    let first : c.try_extend_from_slice.new.self.items ≡ tag ∷ c.bytes.result.items = grind (arith, common_steps) in
    let is : c.try_extend_from_slice.new.self.items ≡ tag ∷ (length_octets (bool_byte f + n) ++ front f) =
    first ∙ ap (λ x. tag ∷ x) (octets ∙ sym (append-nil (length_octets (bool_byte f + n))))
    ∙ ap (λ b. tag ∷ (length_octets (bool_byte f + n) ++ front b)) (sym no) in
    ap (λ x. x ++ d) is ∙ opened tag f n d (sym e)
