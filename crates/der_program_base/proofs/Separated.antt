-- Lists before a byte that they don't have.
use Rattle.std.proofs.Common.{rules, ◌≡◌, ◌≢◌, ℕ, suc, ◌<◌, ◌+◌, ◌-◌, ◌==◌, not, true, List, [], ◌∷◌, ◌++◌, length}
use Rattle.std.proofs.Common.{length-take-le, length-drop, get_or, take, take_all, drop, refl, sym, ap, ◌∙◌, arith}
use Rattle.std.proofs.lemmas.Bool.{and_parts}
use Rattle.std.proofs.lemmas.Bool.Decides.{Decides-eqb, not_from_Decides}
use Rattle.std.proofs.lemmas.List.{take-append-drop, get_or-take, drop_more}
use Rattle.std.specs.List.{list_all}
use Rattle.der_program_base.specs.Words.{HasNo}

module _ (byte : ℕ) where
  -- what follows the byte is the same, too
  pub one_before : (a b x y : List ℕ) → HasNo byte a → HasNo byte b → a ++ (byte ∷ x) ≡ b ++ (byte ∷ y)
      → (a ≡ b) × (x ≡ y)
  one_before [] [] x y h k e = (refl, cc)
  one_before [] (c ∷ cs) x y h k e = let same : c ≡ byte = cc in absurd (k.0 same)
  one_before (c ∷ cs) [] x y h k e = let same : c ≡ byte = cc in absurd (h.0 same)
  one_before (c ∷ cs) (d ∷ ds) x y h k e =
      let tails : cs ++ (byte ∷ x) ≡ ds ++ (byte ∷ y) = cc in
      let rest = one_before cs ds x y h.1 k.1 tails in
      let lines : c ∷ cs ≡ d ∷ ds = cc in
      (lines, rest.1)

  pub none_after : (a b x : List ℕ) → HasNo byte a → a ≡ b ++ (byte ∷ x) → ⊥
  none_after [] [] x h e = cc
  none_after [] (c ∷ cs) x h e = cc
  none_after (c ∷ cs) [] x h e = let same : c ≡ byte = cc in h.0 same
  none_after (c ∷ cs) (d ∷ ds) x h e = let tails : cs ≡ ds ++ (byte ∷ x) = cc in none_after cs ds x h.1 tails

  -- the same by places
  pub none_at : (bytes : List ℕ) → ((i : ℕ) → i < length bytes → get_or bytes i 0 ≢ byte) → HasNo byte bytes
  none_at [] h = tt
  none_at (b ∷ bytes) h = (h 0 (omega arith), none_at bytes (λ i l. h (suc i) (omega (arith, l))))

  -- what is before the first place of the byte, and what is after it
  pub first_at : (line : List ℕ) (end : ℕ) → ((i : ℕ) → i < end → get_or line i 0 ≢ byte) → end < length line
      → get_or line end 0 ≡ byte
      → HasNo byte (take end line)
      × (line ≡ take end line ++ (byte ∷ take (length line - (end + 1)) (drop (end + 1) line)))
  first_at line end before fits at =
      let short : length (take end line) ≡ end = length-take-le end line (omega (arith, fits)) in
      let none = none_at (take end line)
      (λ i l e. before i (omega (arith, l, short)) (sym (get_or-take end line i 0 (omega (arith, l, short)))
      ∙ e)) in
      let rest : take (length line - (end + 1)) (drop (end + 1) line) ≡ drop (end + 1) line =
      take_all _ (drop (end + 1) line) (omega (arith, length-drop (end + 1) line)) in
      let seam : drop end line ≡ byte ∷ drop (end + 1) line = drop_more line end 0 fits
      ∙ ap (λ b. b ∷ drop (end + 1) line) at in (
        none,
        sym (ap (λ r. take end line ++ (byte ∷ r)) rest ∙ ap (λ r. take end line ++ r) (sym seam)
            ∙ take-append-drop end line),
      )

  -- and by a test
  pub none_passes : (bytes : List ℕ) → list_all (λ b. not (b == byte)) bytes ≡ true → HasNo byte bytes
  none_passes [] h = tt
  none_passes (b ∷ bytes) h =
      let parts = and_parts (not (b == byte)) (list_all (λ other. not (other == byte)) bytes) h in
      (not_from_Decides _ (Decides-eqb b byte) (search (rules, parts.0)), none_passes bytes parts.1)
