use Rattle.std.proofs.Common.{ap, ◌∙◌, string_bytes}
use Rattle.std.proofs.lemmas.Result.{IfOk-weaker}
use Rattle.der_program_base.specs.Line.{escaped, is_special_in_names}
use Rattle.der_read.specs.Names.{as_text}
use Rattle.der_read.proofs.names.value_text.Goals as goal

pub returns-in-Some : goal.returns-in-Some
returns-in-Some c =
    let string = rw c.in-Some.is at c.in_ok-text.ensures in
    IfOk-weaker c.escaped.result _ _
    (λ line e. as_text (string_bytes c.in-Some.text) string (e ∙ ap (escaped is_special_in_names) c.deref.ensures))
    c.escaped.ensures
