use Rattle.der_program_base.proofs.OneContents.{element_is_message}
use Rattle.der_program_base.proofs.laws.element_is_message.Goals as goal

pub returns : goal.returns
returns c = element_is_message
