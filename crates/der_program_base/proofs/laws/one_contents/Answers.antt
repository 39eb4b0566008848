use Rattle.der_program_base.proofs.OneContents.{one_contents}
use Rattle.der_program_base.proofs.laws.one_contents.Goals as goal

pub returns : goal.returns
returns c = one_contents
