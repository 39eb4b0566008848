use Rattle.der_json.proofs.octets.item_octets.Goals as goal

pub returns : goal.returns
returns c = c.of.ensures _ tt
