use Rattle.std.proofs.Common.{take, string_bytes}
use Rattle.std.specs.List.{AllZip}
use Rattle.der_read.specs.Names.{IsStepText}
use Rattle.der_read.proofs.names.step_texts.Given as goal

abbrev pub invariant-loop-step : goal.invariant-loop-step
invariant-loop-step l =
    AllZip (λ step text. IsStepText step.value.0.items (string_bytes text)) (take l.step-index l.steps) l.texts.items
