use Rattle.std.proofs.Common.{sym, ◌∙◌}
use Rattle.der_program_base.proofs.Labels.{trimmed_is}
use Rattle.der_program_base.proofs.blocks.boundary_of.Goals as goal

pub returns-in-Some : goal.returns-in-Some
returns-in-Some c = record { is = sym (trimmed_is _ _ c.trim_ascii-line.ensures.value) ∙ c.in-Some.ensures }

pub returns-in-Some-label_of : goal.returns-in-Some-label_of
returns-in-Some-label_of c =
    record { is = sym (trimmed_is _ _ c.trim_ascii-line.ensures.value) ∙ c.in-Some-label_of.ensures }

pub returns-in-None : goal.returns-in-None
returns-in-None c =
    let is = trimmed_is _ _ c.trim_ascii-line.ensures.value in
    record {
      begins_none = λ label h. c.in_default.ensures label (is ∙ h.is);
      ends_none = λ label h. c.in-None.ensures label (is ∙ h.is);
    }
