use Rattle.std.proofs.Common.{◌≡◌}
use Rattle.der_program_base.proofs.RunSteps.{RunsOn}
use Rattle.der_program_base.proofs.lines.answer_lines.Given as goal

abbrev pub invariant-loop-read : goal.invariant-loop-read
invariant-loop-read g l = record {
  runs : RunsOn g.A.Answers.is_answer (g.R.Read.remaining l.initial.input) (g.R.Read.remaining l.input)
      (g.W.WriteExt.written l.initial.output) (g.W.WriteExt.written l.output) l.line.items l._read;
  reads : g.R.ReadExt.faults l.input ≡ g.R.ReadExt.faults l.initial.input;
  writes : g.W.WriteExt.faults l.output ≡ g.W.WriteExt.faults l.initial.output;
  same_references : g.R.ReadExt.references l.input ≡ g.R.ReadExt.references l.initial.input;
  continues : g.W.WriteExt.later l.initial.output l.output;
}
