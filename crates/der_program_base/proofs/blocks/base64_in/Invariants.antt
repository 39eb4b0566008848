use Rattle.std.proofs.Common.{◌≡◌, take}
use Rattle.der_program_base.specs.Lines.{texts}
use Rattle.der_program_base.specs.Sections.{base64_in}
use Rattle.der_program_base.proofs.blocks.base64_in.Given as goal

abbrev pub invariant-loop-line : goal.invariant-loop-line
invariant-loop-line l = l.text.items ≡ base64_in (texts (take l.line-index l.body))
