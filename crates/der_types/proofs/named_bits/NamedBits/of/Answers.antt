use Rattle.std.proofs.Common.{false, get_or, ap, ◌∙◌}
use Rattle.std.proofs.lemmas.Result.{IfOk-weaker}
use Rattle.der_types.specs.BitString.{bits_of}
use Rattle.der_types.specs.BitNumbers.{bit-named_content}
use Rattle.der_types.proofs.named_bits.NamedBits.of.Goals as goal

pub returns-clause-ok : goal.returns-clause-ok
returns-clause-ok c = IfOk-weaker c.from_bits.result _ _
    (λ it e k. ap (λ bs. get_or (bits_of bs) k false) e ∙ bit-named_content c.deref.result.now k
    ∙ ap (λ bits. get_or bits k false) c.deref.ensures.value ∙ c.in_ok-bits_with.ensures k)
    c.from_bits.ensures.ok
