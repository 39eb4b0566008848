use Rattle.der_types.specs.Subidentifiers.{marked, subidentifier}
use Rattle.der_show.proofs.names.further_name_of.Goals as goal

pub returns : goal.returns
unfolding marked subidentifier
returns c = c.name_in.ensures
