-- What was found of a path.
use Rattle.std.proofs.Common.{ℕ, ◌-◌, ◌<◌, ◌≤◌, List, [], ◌∷◌, ◌++◌, length, sym, subst, arith, append_assoc}
use Rattle.std.proofs.Common.{append-nil}
use Rattle.der_path.specs.Members.{IsMemberAt, IsInside}
use Rattle.der_path.specs.Paths.{IsPath}
use Rattle.der_path.proofs.Elements.{sizes}
use Rattle.der_path.proofs.Members.{left_length}

-- the path goes on as that of the inner place
pub record LeadsTo (bytes : List ℕ) (place : ℕ) (path : List ℕ) (around : List ℕ) (inner : ℕ) : Type 0 where
  pub on : (others : List ℕ) → IsPath around inner others → IsPath bytes place (path ++ others)

pub starts : (bytes : List ℕ) (place : ℕ) → LeadsTo bytes place [] bytes place
starts bytes place = record { on = λ others h. h }

module _ (bytes : List ℕ) (place : ℕ) (path around : List ℕ) (inner : ℕ) (l : LeadsTo bytes place path around inner)
  where
    pub ends : length around ≤ inner → IsPath bytes place path
    ends past = subst (IsPath bytes place) (append-nil path) (l.on [] (IsPath.none around inner past))

    module _ (index offset : ℕ) (rest : List ℕ) (m : IsMemberAt around inner index offset rest) where
      pub ends_in : ((content : List ℕ) (deeper : ℕ) → IsInside rest (inner - offset) content deeper → ⊥)
          → IsPath bytes place (path ++ (index ∷ []))
      ends_in none = l.on (index ∷ []) (IsPath.last around inner index offset rest m none)

      module _ (content : List ℕ) (deeper : ℕ) (i : IsInside rest (inner - offset) content deeper) where
        pub leads_on : LeadsTo bytes place (path ++ (index ∷ [])) content deeper
        leads_on = record {
          on = λ others h. subst (IsPath bytes place) (sym (append_assoc path (index ∷ []) others))
              (l.on (index ∷ others) (IsPath.more around inner index offset rest content deeper others m i h));
        }

        pub shorter : length content < length around
        shorter =
            omega (arith, sizes rest i.tag content i.after i.element, left_length around index offset rest m.passed)
