-- Labels between a front and five dashes.
use Rattle.std.proofs.Common.{◌≡◌, ◌≢◌, ℕ, List, ◌++◌, Option, Some, None, MatchOption, sym, ap, ◌∙◌, refl}
use Rattle.std.specs.Borrow.{Bor}
use Rattle.std.specs.Str.{IsTrimAscii}
use Rattle.std.proofs.lemmas.List.{append_cancel_left}
use Rattle.std.proofs.lemmas.Str.Ascii.{trim_ascii_is}
use Rattle.der_program_base.specs.Lines.{trimmed, dashes}

pub trimmed_is : (line result : List ℕ) → IsTrimAscii line result → result ≡ trimmed line
unfolding trimmed
trimmed_is line result h = trim_ascii_is line result _ refl h

-- what is left of a line that has the front
pub labelled : (line front rest : List ℕ) (result : Option (Bor (List ℕ))) → line ≡ front ++ rest
    → MatchOption result ((other : List ℕ) → rest ≢ other ++ dashes) (λ label. rest ≡ label.now ++ dashes)
    → MatchOption result ((label : List ℕ) → line ≡ front ++ (label ++ dashes)
    → ⊥) (λ label. line ≡ front ++ (label.now ++ dashes))
labelled line front rest None is h = λ label e. h label (append_cancel_left front rest (label ++ dashes) (sym is ∙ e))
labelled line front rest (Some label) is h = is ∙ ap (λ l. front ++ l) h
