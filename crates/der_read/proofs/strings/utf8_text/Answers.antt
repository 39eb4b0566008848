use Rattle.std.proofs.Common.{◌∙◌}
use Rattle.der_read.proofs.StringLemmas.{is_utf8_text, no_utf8_text}
use Rattle.der_read.proofs.strings.utf8_text.Goals as goal

pub returns-in_ok-from_str-in-Ok : goal.returns-in_ok-from_str-in-Ok
returns-in_ok-from_str-in-Ok c =
    is_utf8_text c.args.content.now _ c.in-Ok.ensures.cases.1 (c.in_ok-from_str-in-Ok.ensures.ok
    ∙ c.in-Ok.ensures.cases.0)

pub returns-in-Err : goal.returns-in-Err
returns-in-Err c = no_utf8_text c.args.content.now c.in-Err.ensures.cases.0
