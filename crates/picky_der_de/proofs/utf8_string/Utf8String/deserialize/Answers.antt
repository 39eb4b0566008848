use Rattle.picky_der_de.specs.TextLaws.{text_good, text_bad}
use Rattle.picky_der_de.proofs.utf8_string.Utf8String.deserialize.Goals as goal

pub returns-in-Ok-clause-right : goal.returns-in-Ok-clause-right
returns-in-Ok-clause-right c = text_good c.args.content.now c.in-Ok.ensures.cases.1

pub returns-in-Err-clause-fault : goal.returns-in-Err-clause-fault
returns-in-Err-clause-fault c = text_bad c.args.content.now c.in-Err.ensures.cases.0
