use Rattle.std.proofs.Common.{◌≡◌, ℕ, List, [], ◌∷◌, ◌++◌, refl, sym, ◌∙◌, append_assoc}
use Rattle.der_program_base.specs.Text.{IsLine, AreLines, text_of_lines}
use Rattle.der_program_base.proofs.Separated.{one_before, none_after}
use Rattle.der_program_base.proofs.laws.one_split.Goals as goal

one_way : (lines others : List (List ℕ)) (last other : List ℕ) → AreLines lines → AreLines others → IsLine last
    → IsLine other
    → text_of_lines lines ++ last ≡ text_of_lines others ++ other → (lines ≡ others) × (last ≡ other)
one_way [] [] last other h k l m e = (refl, e)
one_way [] (b ∷ bs) last other h k l m e =
    absurd (none_after 0x0A last b _ l (e ∙ append_assoc b (0x0A ∷ text_of_lines bs) other))
one_way (a ∷ as') [] last other h k l m e =
    absurd (none_after 0x0A other a _ m (sym e ∙ append_assoc a (0x0A ∷ text_of_lines as') last))
one_way (a ∷ as') (b ∷ bs) last other h k l m e =
    let first = one_before 0x0A a b _ _ h.0 k.0 (sym (append_assoc a (0x0A ∷ text_of_lines as') last) ∙ e
    ∙ append_assoc b (0x0A ∷ text_of_lines bs) other) in
    let rest = one_way as' bs last other h.1 k.1 l m first.1 in
    let all : a ∷ as' ≡ b ∷ bs = cc in
    (all, rest.1)

pub returns : goal.returns
returns c input lines others last other h k =
    one_way lines others last other h.are_lines k.are_lines h.is_line k.is_line (sym h.is ∙ k.is)
