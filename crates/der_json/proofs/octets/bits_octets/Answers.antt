use Rattle.der_json.proofs.octets.bits_octets.Goals as goal

pub returns-in_default : goal.returns-in_default
returns-in_default c = c.of.ensures _ tt

pub returns-in_default-2 : goal.returns-in_default-2
returns-in_default-2 c = c.of-in_default-2.ensures _ tt

pub returns-then-len-from : goal.returns-then-len-from
returns-then-len-from c = c.of-then-len-from.ensures _ tt
