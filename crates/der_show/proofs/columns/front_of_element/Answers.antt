use Rattle.std.proofs.Common.{◌*◌, ◌∙◌, ◌++◌, ap, append_assoc}
use Rattle.std.specs.Prelude.{codes, string_bytes}
use Rattle.der_show.specs.Lines.{spaces}
use Rattle.der_show.proofs.Padding.{two_spaces}
use Rattle.der_show.proofs.columns.front_of_element.Goals as goal

pub loop-preserved : goal.loop-preserved
loop-preserved c =
    c.in_ok-push_str-2.ensures.bytes ∙ ap (λ t. t ++ codes "  ") c.loop.invariant
    ∙ append_assoc (string_bytes c.push_str.new.self) (spaces (2 * c.loop.counter)) (codes "  ")
    ∙ ap (λ t. string_bytes c.push_str.new.self ++ t) (two_spaces c.loop.counter)
