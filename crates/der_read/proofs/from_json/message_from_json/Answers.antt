use Rattle.std.proofs.Common.{◌≡◌, Some, ap, sym, ◌∙◌}
use Rattle.std.proofs.lemmas.Result.{IfOk-weaker}
use Rattle.serde_json.specs.Read.{read}
use Rattle.der_read.specs.JsonMessages.{IsJsonOf}
use Rattle.der_read.proofs.Accepted.{from_accepted}
use Rattle.der_read.proofs.from_json.message_from_json.Goals as goal

pub returns-in-Ok-from_json_text : goal.returns-in-Ok-from_json_text
returns-in-Ok-from_json_text c =
    let h = c.in-Ok-from_json_text.ensures in
    let is : read c.args.json.now ≡ Some h.0 = ap read (sym c.in-Ok.ensures.cases.0) ∙ h.1 in
    let json : IsJsonOf c.args.named c.in-Ok-from_json_text.bytes.items h.0 =
    record { schema = c.in-Some.schema; is_schema = c.in-Some.ensures.some; json = h.2 } in
    IfOk-weaker c.accepted.result _ _ (from_accepted c.args.named c.args.json.now _ h.0 is json) c.accepted.ensures
