use Rattle.std.proofs.Common.{◌≡◌, ℕ, Bool, true, false, List, [], ◌∷◌, IfSome, Option, Some, None, refl, ap, subst}
use Rattle.picky_der_core.specs.Peeking.{prepend, fetched_byte, IsFirstIn}
use Rattle.picky_der_de.specs.State.{State}
use Rattle.picky_der_de.proofs.deserializer.Deserializer+ref+slice+u8.has_no_faults.Goals as goal

-- what is left after the peeked byte
after_peeked : (fetched : Bool) (p : Option ℕ) (left : List ℕ)
    → IfSome p (IsFirstIn (prepend (fetched_byte fetched p) (Some left)))
    → (x : Option (List ℕ)) × (prepend (fetched_byte fetched p) (Some left) ≡ prepend p x)
after_peeked true p left h = (Some left, refl)
after_peeked false None left h = (Some left, refl)
after_peeked false (Some b) [] h = absurd (let q : [] ≡ b ∷ [] = h in cc)
after_peeked false (Some b) (d ∷ ds) h =
    let e : d ≡ b = let q : d ∷ [] ≡ b ∷ [] = h in cc in
    (Some ds, ap (λ (x : ℕ). Some (x ∷ ds)) e)

pub returns-clause-left : goal.returns-clause-left
returns-clause-left c =
    let i = c.self.inside.reader in
    subst (λ (s : State). (x : Option (List ℕ)) × (s.input ≡ prepend s.peeked x)) c.self.view_is
    (after_peeked i.fetched i.peeked i.reader.now c.peeked_is_left.ensures)
