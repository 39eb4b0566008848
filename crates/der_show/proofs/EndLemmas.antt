-- Ends that are reached.
use Rattle.std.proofs.Common.{◌≡◌, ◌≢◌, ℕ, ◌+◌, ◌<◌, List, [], ◌∷◌, length, take, get_or, refl, sym, ap, ◌∙◌, ne_eqb}
use Rattle.std.proofs.Common.{eq-eqb}
use Rattle.std.specs.Prelude.{reverse}
use Rattle.std.proofs.lemmas.List.{take_more, reverse-append}
use Rattle.der_show.specs.Ends.{without_reached}

last_first : (ends : List ℕ) (n : ℕ) → n < length ends
    → reverse (take (n + 1) ends) ≡ get_or ends n 0 ∷ reverse (take n ends)
last_first ends n h = ap reverse (take_more ends n 0 h) ∙ reverse-append (take n ends) (get_or ends n 0 ∷ [])

pub passes_one : (offset : ℕ) (ends : List ℕ) (n m : ℕ) → m ≡ n + 1 → n < length ends → get_or ends n 0 ≡ offset
    → without_reached offset (reverse (take m ends)) ≡ without_reached offset (reverse (take n ends))
passes_one offset ends n m e h same =
    ap (λ k. without_reached offset (reverse (take k ends))) e ∙ ap (without_reached offset) (last_first ends n h)
    ∙ (rw (eq-eqb (get_or ends n 0) offset same) refl)

pub stops_at : (offset : ℕ) (ends : List ℕ) (n m : ℕ) → m ≡ n + 1 → n < length ends → get_or ends n 0 ≢ offset
    → without_reached offset (reverse (take m ends)) ≡ reverse (take m ends)
stops_at offset ends n m e h other =
    let front = last_first ends n h in
    let here : without_reached offset (get_or ends n 0 ∷ reverse (take n ends))
    ≡ get_or ends n 0 ∷ reverse (take n ends) = rw (ne_eqb (get_or ends n 0) offset other) refl in
    ap (λ k. without_reached offset (reverse (take k ends))) e ∙ ap (without_reached offset) front ∙ here ∙ sym front
    ∙ ap (λ k. reverse (take k ends)) (sym e)
