use Rattle.der_json.proofs.octets.hexadecimal_octets.Goals as goal

pub returns-in-Err : goal.returns-in-Err
returns-in-Err c = c.of.ensures _ tt
