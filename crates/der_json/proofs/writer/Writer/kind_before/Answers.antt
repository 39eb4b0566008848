use Rattle.der_json.proofs.writer.Writer.kind_before.Goals as goal

pub returns-then-from-limit-clause-refused : goal.returns-then-from-limit-clause-refused
returns-then-from-limit-clause-refused c = λ whole. c.mistake.ensures whole tt

pub returns-in-None-clause-refused : goal.returns-in-None-clause-refused
returns-in-None-clause-refused c = λ whole. c.mistake-in-None.ensures whole tt
