use Rattle.std.proofs.Common.{◌==◌, false, get_or, if◌then◌else◌, ap, ◌∙◌}
use Rattle.der_types.proofs.bits.with_bit.Goals as goal

pub returns : goal.returns
returns c = λ k. c.in_ok-put_bit.ensures k
    ∙ ap (λ bits. if k == c.args.number then c.args.value else get_or bits k false) c.in_ok-bits.ensures
