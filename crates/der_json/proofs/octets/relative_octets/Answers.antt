use Rattle.der_json.proofs.octets.relative_octets.Goals as goal

pub returns-in-Err : goal.returns-in-Err
returns-in-Err c = c.of.ensures _ (c.mistake_in.ensures _)
