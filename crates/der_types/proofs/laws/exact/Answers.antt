use Rattle.der_types.specs.Exact.{is_exact}
use Rattle.der_types.proofs.laws.exact.Goals as goal

pub returns-clause-sound : goal.returns-clause-sound
returns-clause-sound g c = (is_exact g.T.Exact.values g.met.T.Exact.exact).sound

pub returns-clause-complete : goal.returns-clause-complete
returns-clause-complete g c = (is_exact g.T.Exact.values g.met.T.Exact.exact).complete
