use Rattle.std.proofs.Common.{ap, ◌∙◌}
use Rattle.der_program_base.specs.Guess.{begins_with_hyphens}
use Rattle.der_program_base.proofs.Labels.{trimmed_is}
use Rattle.der_program_base.proofs.guess.has_hyphens.Goals as goal

pub returns : goal.returns
returns c = c.begins_with_hyphens.ensures ∙ ap begins_with_hyphens (trimmed_is _ _ c.trim_ascii.ensures.value)
