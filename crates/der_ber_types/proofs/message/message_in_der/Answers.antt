use Rattle.std.proofs.Common.{sym}
use Rattle.der_ber_types.specs.Message.{IsMessage}
use Rattle.std.proofs.lemmas.Result.{IfOk-weaker, IfErr-weaker}
use Rattle.der_ber_types.proofs.CallRefusals.{no_message-bytes, no_message-content}
use Rattle.der_ber_types.proofs.message.message_in_der.Goals as goal

pub returns-in_default-schema_in-clause-ok : goal.returns-in_default-schema_in-clause-ok
returns-in_default-schema_in-clause-ok c =
    let m = c.in-Some.message in
    IsMessage.other m.identifier.now m.content.now c.in-Some.ensures (sym c.in_default-schema_in.ensures)
    c.in_ok-copied.ensures

pub returns-clause-ok : goal.returns-clause-ok
returns-clause-ok c =
    let m = c.in-Some.message in
    let schema = c.in-Some-schema_in.schema in
    IfOk-weaker c.written.result _ _
    (λ der w. IsMessage.known m.identifier.now m.content.now w.in_der schema c.in-Some.ensures
    (sym c.in-Some-schema_in.ensures) w.is_one w.is)
    c.written.ensures.ok

pub returns-in_default-clause-none : goal.returns-in_default-clause-none
returns-in_default-clause-none c =
    λ wrong. no_message-bytes c.args.types.now c.args.bytes.now c.in_default.ensures

pub returns-clause-none : goal.returns-clause-none
returns-clause-none c =
    let m = c.in-Some.message in
    IfErr-weaker c.written.result _ _
    (λ e none some. no_message-content c.args.types.now c.args.bytes.now m.identifier.now m.content.now
    c.in-Some-schema_in.schema c.in-Some.ensures (sym c.in-Some-schema_in.ensures) (none some))
    c.written.ensures.none
