use Rattle.std.proofs.lemmas.Result.{IfOk-weaker}
use Rattle.serde_json.specs.View.{view}
use Rattle.der_read.proofs.NoFloats.{message_no_float}
use Rattle.der_read.proofs.printed.message_line.Goals as goal

pub returns-in_ok-value-in-Json : goal.returns-in_ok-value-in-Json
returns-in_ok-value-in-Json c =
    let d = view c.in_ok-value-in-Json.value in
    let is = c.in_ok-value-in-Json.ensures in
    let none = message_no_float c.args.file.now c.args.block c.args.bytes.now c.args.types.now d is in
    rw c.in-Json.is (IfOk-weaker c.json_line.result _ _ (λ text h. (d, (is, h none))) c.json_line.ensures.text)
