use Rattle.serde_json.specs.View.{view}
use Rattle.der_json.proofs.octets.unchecked_octets.Goals as goal

pub returns-in_default : goal.returns-in_default
returns-in_default c = c.of.ensures (view c.args.json.now) tt
