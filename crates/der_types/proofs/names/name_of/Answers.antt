use Rattle.der_types.proofs.names.name_of.Goals as goal

pub returns : goal.returns
returns c = c.name_in.ensures
