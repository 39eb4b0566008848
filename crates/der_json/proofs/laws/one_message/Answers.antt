use Rattle.der_json.proofs.OneMessage.{one_message}
use Rattle.der_json.proofs.laws.one_message.Goals as goal

pub returns : goal.returns
returns c = one_message
