use Rattle.std.proofs.Common.{◌++◌}
use Rattle.std.proofs.lemmas.Bool.Decides.{Decides-eqb}
use Rattle.std.proofs.lemmas.Slice.Eq.{strip_prefix_is, strip_suffix_is}
use Rattle.der_program_base.specs.Lines.{dashes}
use Rattle.der_program_base.proofs.Labels.{labelled}
use Rattle.der_program_base.proofs.blocks.label_of.Goals as goal

pub returns-in_err-strip_prefix : goal.returns-in_err-strip_prefix
returns-in_err-strip_prefix c =
    let none = rw c.in_err-strip_prefix.was at
    (strip_prefix_is Decides-eqb c.args.line.now c.args.front.now c.strip_prefix.result
    c.strip_prefix.ensures.cases) in
    rw c.from_residual.ensures (λ label. none (label ++ dashes))

pub returns : goal.returns
returns c =
    let rest = rw c.in_ok-strip_prefix.was at
    (strip_prefix_is Decides-eqb c.args.line.now c.args.front.now c.strip_prefix.result
    c.strip_prefix.ensures.cases) in
    labelled c.args.line.now c.args.front.now c.in_ok-strip_prefix.field-0.now c.strip_suffix.result rest
    (strip_suffix_is Decides-eqb c.in_ok-strip_prefix.field-0.now dashes c.strip_suffix.result
    c.strip_suffix.ensures.cases)
