-- Members that are taken from the front one by one.
use Rattle.std.proofs.Common.{◌≡◌, ℕ, true, List, [], ◌∷◌, ◌++◌, refl, sym, ap, subst, ◌∙◌, append_assoc}
use Rattle.std.specs.List.{concat}
use Rattle.picky_der_core.specs.Element.{IsElement, IsPrefix}
use Rattle.der_show.specs.declared.members.Order.{Order}
use Rattle.der_show.specs.Members.{AreAtFront, BeginsNone, may_follow, AreAfter, IsOrdered, IsUnordered}
use Rattle.der_show.proofs.HeaderLemmas.{one_element}

-- the first of some elements at the front begins the bytes
first_begins : (m : List ℕ) (ms : List (List ℕ)) (bytes : List ℕ) → AreAtFront (m ∷ ms) bytes → IsPrefix m bytes
first_begins m ms bytes at =
    record { rest = concat ms ++ at.front.rest; is = at.front.is ∙ append_assoc m (concat ms) at.front.rest }

-- the others are at the front of what is after it
others_at_front : (m n : List ℕ) (ms : List (List ℕ)) (bytes after : List ℕ) → bytes ≡ m ++ after → IsElement m
    → AreAtFront (n ∷ ms) bytes → (n ≡ m) × AreAtFront ms after
others_at_front m n ms bytes after is element at =
    let same : n ++ (concat ms ++ at.front.rest) ≡ m ++ after =
    sym (at.front.is ∙ append_assoc n (concat ms) at.front.rest) ∙ is in
    let (first, left) = one_element n m (concat ms ++ at.front.rest) after at.elements.0 element same in
    (first, record { elements = at.elements.1; front = record { rest = at.front.rest; is = sym left } })

one_more : (m : List ℕ) (ms : List (List ℕ)) (bytes after : List ℕ) → bytes ≡ m ++ after → IsElement m
    → AreAtFront ms after → AreAtFront (m ∷ ms) bytes
one_more m ms bytes after is element at = record {
  elements = (element, at.elements);
  front = record {
    rest = at.front.rest;
    is = is ∙ ap (λ b. m ++ b) at.front.is
        ∙ sym (append_assoc m (concat ms) at.front.rest);
  };
}

-- ---- what a loop over the members knows

-- what is to be shown of the elements at the front of the rest, so that all are in order
abbrev pub OrderedFrom : Order → List ℕ → List ℕ → Type 0
OrderedFrom order last rest = (ms : List (List ℕ)) → AreAtFront ms rest → AreAfter order last ms

-- elements at the front of the rest that are out of order
pub record UnorderedFrom (order : Order) (last rest : List ℕ) : Type 0 where
  pub members : List (List ℕ)
  pub at_front : AreAtFront members rest
  pub unordered : AreAfter order last members → ⊥

-- The order of all is that of the elements of the rest.
pub record ComesTo (order : Order) (content last rest : List ℕ) : Type 0 where
  pub ordered : OrderedFrom order last rest → IsOrdered order content
  pub unordered : UnorderedFrom order last rest → IsUnordered order content

module _ (order : Order) where
  pub none_ordered : (content : List ℕ) → BeginsNone content → IsOrdered order content
  none_ordered content none [] at = tt
  none_ordered content none (m ∷ ms) at = absurd (none m at.elements.0 (first_begins m ms content at))

  pub none_after : (last rest : List ℕ) → BeginsNone rest → OrderedFrom order last rest
  none_after last rest none [] at = tt
  none_after last rest none (m ∷ ms) at = absurd (none m at.elements.0 (first_begins m ms rest at))

  module _ (m bytes after : List ℕ) (is : bytes ≡ m ++ after) (element : IsElement m) where
    begins_ordered : OrderedFrom order m after → IsOrdered order bytes
    begins_ordered h [] at = tt
    begins_ordered h (n ∷ ms) at =
        let (first, others) = others_at_front m n ms bytes after is element at in
        subst (λ x. AreAfter order x ms) (sym first) (h ms others)

    pub begun : ComesTo order bytes m after
    begun = record {
      ordered = begins_ordered;
      unordered =
          λ u. record {
            members = m ∷ u.members;
            at_front = one_more m u.members bytes after is element u.at_front;
            unordered = u.unordered;
          };
    }

    pub goes_ordered : (last : List ℕ) → may_follow order last m ≡ true → OrderedFrom order m after
        → OrderedFrom order last bytes
    goes_ordered last follows h [] at = tt
    goes_ordered last follows h (n ∷ ms) at =
        let (first, others) = others_at_front m n ms bytes after is element at in
        subst (λ x. (may_follow order last x ≡ true) × AreAfter order x ms) (sym first) (follows, h ms others)

    pub gone_on : (content last : List ℕ) → may_follow order last m ≡ true → ComesTo order content last bytes
        → ComesTo order content m after
    gone_on content last follows to = record {
      ordered = λ h. to.ordered (goes_ordered last follows h);
      unordered =
          λ u. to.unordered
          (record {
            members = m ∷ u.members;
            at_front = one_more m u.members bytes after is element u.at_front;
            unordered = λ h. u.unordered h.1;
          });
    }

    pub stopped : (content last : List ℕ) → (may_follow order last m ≡ true → ⊥) → ComesTo order content last bytes
        → IsUnordered order content
    stopped content last never to = to.unordered (record {
      members = m ∷ [];
      at_front = one_more m [] bytes after is element
          (record { elements = tt; front = record { rest = after; is = refl } });
      unordered = λ h. never h.0;
    })
