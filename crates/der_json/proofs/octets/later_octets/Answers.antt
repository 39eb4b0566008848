use Rattle.der_json.proofs.octets.later_octets.Goals as goal

pub returns-in-None : goal.returns-in-None
returns-in-None c = c.of.ensures _ (c.mistake_in.ensures _)
