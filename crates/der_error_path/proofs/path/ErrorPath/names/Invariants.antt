use Rattle.std.proofs.Common.{◌≡◌, string_bytes, drop}
use Rattle.der_error_path.specs.Names.{names_of, then_steps}
use Rattle.der_error_path.proofs.path.ErrorPath.names.Given as goal

-- the steps that are left give the same text
abbrev pub invariant-loop-step : goal.invariant-loop-step
invariant-loop-step l =
    then_steps (string_bytes l.text) (drop l.step-index l.self.steps.items) ≡ names_of l.self.steps.items
