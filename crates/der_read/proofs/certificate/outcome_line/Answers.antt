use Rattle.std.proofs.Common.{◌≡◌, ◌++◌, ap, ◌∙◌, codes, rules}
use Rattle.std.proofs.lemmas.Result.{IfOk-weaker}
use Rattle.serde_json.specs.Data.{number, unsigned}
use Rattle.der_read.specs.Explanation.{explanation_text}
use Rattle.der_read.specs.Printed.{refusal_line}
use Rattle.der_read.proofs.certificate.outcome_line.Goals as goal

pub returns-in_ok-summary-in-Read : goal.returns-in_ok-summary-in-Read
returns-in_ok-summary-in-Read c =
    rw c.in-Read.is
    (IfOk-weaker c.summary_line.result _ _
    (λ line e. (c.in_ok-summary-in-Read.summary, c.in_ok-summary-in-Read.ensures, e)) c.summary_line.ensures)

pub returns-in_ok-text-in-Refused : goal.returns-in_ok-text-in-Refused
returns-in_ok-text-in-Refused c =
    let reason = c.in_ok-reason-in-Refused.reason in
    let said : c.deref.result.now ≡ codes "no certificate: " ++ explanation_text reason = search rules in
    let line_of = refusal_line c.args.format c.args.file.now c.args.block in
    rw c.in-Refused.is
    (IfOk-weaker c.refusal_line.result _ _
    (λ line e. (
      reason,
      c.in_ok-reason-in-Refused.ensures,
      e ∙ ap (λ offset. line_of offset c.deref.result.now) c.from.ensures
          ∙ ap (line_of (number (unsigned reason.offset))) said,
    ))
    c.refusal_line.ensures)
