use Rattle.std.proofs.Common.{sym, subst, ◌∙◌}
use Rattle.der_read.specs.contracts.message_type.MessageTypeDescribed.TheImpl as known
use Rattle.der_c.specs.JsonTexts.{IsJsonOfMessage}
use Rattle.der_c.specs.Verdict.{IsVerdict}
use Rattle.der_c.proofs.json.picky_der_to_json.Goals as goal

pub returns : goal.returns
returns c =
    let verdict =
    subst (λ code. IsVerdict (known.ghosts.description c.in-Some.named) c.args.bytes.now code c.check-code.new.position)
    c.if-code-ne-PICKY_DER_OK.false c.check-code.ensures in
    rw (sym c.type_of_number.ensures ∙ c.in-Some.is) (IsJsonOfMessage.message verdict c.put_json.ensures)
