use Rattle.std.proofs.Common.{sym}
use Rattle.std.proofs.lemmas.Result.{IfOk-weaker}
use Rattle.der_read.specs.Printed.{IsMessageData}
use Rattle.der_read.proofs.printed.message_value.Goals as goal

pub returns-in-Value : goal.returns-in-Value
returns-in-Value c =
    IfOk-weaker c.valued_value.result _ _
    (λ value is. IsMessageData.valued _ _ (sym c.in-Some.ensures.value) (rw c.in-Value.is at c.in_ok-json.ensures) is)
    c.valued_value.ensures

pub returns-in-NoSchema : goal.returns-in-NoSchema
returns-in-NoSchema c =
    IfOk-weaker c.plain_value-in-NoSchema.result _ _
    (λ value is. IsMessageData.plain _ (sym c.in-Some.ensures.value) (rw c.in-NoSchema.is at c.in_ok-json.ensures) is)
    c.plain_value-in-NoSchema.ensures

pub returns-in_ok-reason-in-Refused : goal.returns-in_ok-reason-in-Refused
returns-in_ok-reason-in-Refused c =
    IfOk-weaker c.unvalued_value.result _ _ (λ value is. IsMessageData.unvalued _ is) c.unvalued_value.ensures
