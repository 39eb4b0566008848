use Rattle.der_json.proofs.OneJson.{one_json_of_content}
use Rattle.der_json.proofs.laws.one_json_of_content.Goals as goal

pub returns : goal.returns
returns c = one_json_of_content
