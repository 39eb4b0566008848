use Rattle.der_json.proofs.OneJsonOfMessage.{one_json}
use Rattle.der_json.proofs.laws.one_json.Goals as goal

pub returns : goal.returns
returns c = one_json
