use Rattle.std.proofs.Common.{◌≡◌, sym, ap, ◌∙◌, IfOk}
use Rattle.std.proofs.lemmas.Result.{IfOk-weaker}
use Rattle.picky_der_core.specs.Element.{tlv}
use Rattle.picky_der_core.specs.Encoding.{plain_encoding}
use Rattle.der_json.proofs.part.Part.content_of.Goals as goal

pub returns-then-has_header : goal.returns-then-has_header
unfolding plain_encoding
returns-then-has_header c =
    IfOk-weaker c.content_under.result
    (λ content. c.args.self.bytes.now ≡ tlv c.args.tag content.bytes.now)
    (λ content. c.args.self.bytes.now ≡ plain_encoding c.args.has_header c.args.tag content.bytes.now)
    (λ content is. is ∙ ap (λ b. plain_encoding b c.args.tag content.bytes.now) (sym c.if-has_header.true))
    c.content_under.ensures

pub returns-else-has_header : goal.returns-else-has_header
unfolding plain_encoding
returns-else-has_header c =
    ap (λ b. plain_encoding b c.args.tag c.args.self.bytes.now) (sym c.if-has_header.false)
