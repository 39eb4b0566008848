use Rattle.std.proofs.Common.{subst, ◌∙◌}
use Rattle.serde_json.specs.View.{view}
use Rattle.der_program_base.specs.Json.{json_line}
use Rattle.der_read.proofs.JsonFloats.{json_no_float}
use Rattle.der_read.specs.JsonMessages.{IsJsonOf, IsMessageJson}
use Rattle.der_c.specs.JsonTexts.{IsJsonWritten}
use Rattle.der_c.specs.Writing.{IsPut}
use Rattle.der_c.proofs.json.put_json.Goals as goal

pub returns-in-Ok-json_line : goal.returns-in-Ok-json_line
returns-in-Ok-json_line c =
    let value = view c.in-Value.value in
    let json : IsJsonOf c.args.named c.args.bytes.now value =
    subst (IsMessageJson c.args.named c.args.bytes.now) c.in-Value.is c.in-Ok.ensures in
    let text = c.in-Ok-json_line.ensures.text (json_no_float _ _ _ _ _ json.json) in
    let put : IsPut (json_line value) c.args.out.now c.append.new.out c.args.used.now c.append.new.used
    c.append.result =
    subst (λ bytes. IsPut bytes c.args.out.now c.append.new.out c.args.used.now c.append.new.used c.append.result)
    (c.as_bytes.ensures.value ∙ text) c.append.ensures in
    IsJsonWritten.appended value json put
