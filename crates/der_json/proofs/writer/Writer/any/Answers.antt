use Rattle.der_json.proofs.writer.Writer.any.Goals as goal

pub returns-in-Err : goal.returns-in-Err
returns-in-Err c = c.mistake.ensures _ tt
