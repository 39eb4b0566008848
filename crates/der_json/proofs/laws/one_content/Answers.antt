use Rattle.der_json.proofs.OneContent.{one_content}
use Rattle.der_json.proofs.laws.one_content.Goals as goal

pub returns : goal.returns
returns c = one_content
