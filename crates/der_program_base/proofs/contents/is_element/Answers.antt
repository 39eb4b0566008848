use mathlib.Core.Bool.{true≢false}
use Rattle.std.proofs.Common.{sym, ◌∷◌, length, take, drop, ◌-◌, IsTrue, ◌↔◌, ap, ◌∙◌, subst}
use Rattle.picky_der_core.specs.Element.{IsElement}
use Rattle.der_program_base.proofs.Elements.{first_byte_of, shorter_no_element}
use Rattle.der_program_base.proofs.contents.is_element.Goals as goal

pub returns-in-len1-up : goal.returns-in-len1-up
returns-in-len1-up c =
    let input = c.args.input.now in
    subst (λ l. IsTrue c.is_whole_element.result ↔ IsElement l)
    (ap (λ b. b ∷ take (length input - 1) (drop 1 input)) c.from.ensures
    ∙ first_byte_of input c.in-len1-up.len_at_least) c.is_whole_element.ensures

pub returns-in-empty : goal.returns-in-empty
returns-in-empty c =
    (λ t. absurd (true≢false (sym t)), λ h. absurd (shorter_no_element c.args.input.now c.in-empty.len_below h))
