-- Choices, whose alternatives are distinguished by their first bytes.
use Rattle.std.specs.Prelude.{◌≡◌, ℕ, Bool, true, false, ◌⊎◌, ◌++◌, IsTrue, refl}
use Rattle.std.proofs.Common.{inl, inr, sym, subst}
use Rattle.picky_der_core.specs.declared.error.Asn1DerError.{Asn1DerError}
use Rattle.picky_der_core.specs.Tree.{Tree}
use Rattle.picky_der_core.specs.Readable.{IsReadable}
use Rattle.picky_der_core.specs.Shape.{Shape, Shapes, IsOf, IsOneOf, AreDistinct, firsts, firsts_of, are_disjoint}
use Rattle.picky_der_core.specs.FirstLaws.{begins_in, begins_in_one, disjoint_differ, contains-append_left}
use Rattle.picky_der_core.specs.FirstLaws.{contains-append_right}
use Rattle.picky_der_de.specs.State.{State}
use Rattle.picky_der_de.specs.Steps.{Fails}
use Rattle.picky_der_de.specs.Reading.{Reads, Refuses}
use Rattle.picky_der_de.specs.LookAhead.{Peeks}
use Rattle.picky_der_de.specs.declared.alternatives.OneOf.{OneOf}
use Rattle.picky_der_de.specs.declared.alternatives.OneOf.TheVariants.{This, Other}
use Rattle.picky_der_de.specs.Firsts.{IsBegunBy, begins_among}
use Rattle.picky_der_de.specs.InjectiveLaws.{IsInjective, HasShape}

-- what a value of one alternative, or of a later one, means
abbrev pub chosen_of : {A B : Type 0} → (A → Tree) → (B → Tree) → OneOf A B → Tree
chosen_of m n (This a) = m a
chosen_of m n (Other b) = n b

-- the same alternative was chosen, and its values are equal by its own test
abbrev pub equal_this_or_other : {A B : Type 0} → (A → A → Bool) → (B → B → Bool) → OneOf A B → OneOf A B → Bool
equal_this_or_other p q (This a) (This c) = p a c
equal_this_or_other p q (Other b) (Other d) = q b d
equal_this_or_other p q _ _ = false

-- ---- after a look at the first byte

-- an alternative was read, which makes it the choice of these that began with the byte
abbrev pub ReadsAfter : Shapes → ℕ → State → State → Tree → Type 0
ReadsAfter ss byte old new t = (before : State) → Peeks before old byte
    → Reads (Shape.choice ss) before new (Tree.choice t)

-- none was read, and no choice of these begins with the byte there, if one byte distinguishes them
pub record RefusesAfter {V : Type 0} (meaning : V → Tree) (ss : Shapes) (byte : ℕ) (old new : State)
    (e : Asn1DerError) : Type 0 where
  pub fails : Fails old new e
  pub refuses : AreDistinct ss → (before : State) → Peeks before old byte
      → Refuses (λ v. Tree.choice (meaning v)) (Shape.choice ss) before new e

-- ---- alternatives that are distinguished

-- where a first byte distinguishes the alternatives, two readable values with one tree are equal
abbrev pub AreInjective : {V : Type 0} → (V → Tree) → Shapes → (V → V → Bool) → Type 0
AreInjective {V} meaning ss eq = AreDistinct ss → (v w : V) → IsOneOf ss (meaning v) → IsOneOf ss (meaning w)
    → IsReadable (meaning v) → meaning v ≡ meaning w → eq v w ≡ true

module _ {A B : Type 0} (m : A → Tree) (n : B → Tree) (s : Shape) (ss : Shapes) (this : (a : A)
    → IsBegunBy (firsts s) (m a)) (other : (b : B) → IsBegunBy (firsts_of ss) (n b)) where
  pub begins_this_or_other : (v : OneOf A B) → IsBegunBy (firsts s ++ firsts_of ss) (chosen_of m n v)
  begins_this_or_other (This a) = λ b h. contains-append_left b (firsts s) (firsts_of ss) (this a b h)
  begins_this_or_other (Other c) = λ b h. contains-append_right b (firsts s) (firsts_of ss) (other c b h)

  module _ (w : IsTrue (are_disjoint (firsts s) (firsts_of ss))) where
    -- a value of this alternative is of no other's shape
    no_other : (a : A) → IsReadable (m a) → IsOneOf ss (m a) → ⊥
    no_other a r o = disjoint_differ (firsts s) (firsts_of ss) (m a) (m a) w (begins_among (firsts s) (m a) (this a) r)
        (begins_in_one ss (m a) o r) refl

    pub of_this : (a : A) → IsReadable (m a) → IsOf s (m a) ⊎ IsOneOf ss (m a) → IsOf s (m a)
    of_this a r (inl o) = o
    of_this a r (inr o) = absurd (no_other a r o)

    -- one of another isn't of this one's
    no_this : (b : B) → IsReadable (n b) → IsOf s (n b) → ⊥
    no_this b r o = disjoint_differ (firsts s) (firsts_of ss) (n b) (n b) w (begins_in s (n b) o r)
        (begins_among (firsts_of ss) (n b) (other b) r) refl

    pub of_other : (b : B) → IsReadable (n b) → IsOf s (n b) ⊎ IsOneOf ss (n b) → IsOneOf ss (n b)
    of_other b r (inl o) = absurd (no_this b r o)
    of_other b r (inr o) = o

    differ : (a : A) (b : B) → IsReadable (m a) → IsOf s (n b) ⊎ IsOneOf ss (n b) → m a ≡ n b → ⊥
    differ a b r p e = no_other a r (subst (IsOneOf ss) (sym e) (of_other b (subst IsReadable e r) p))

  pub this_or_other_injective : {p : A → A → Bool} {q : B → B → Bool} → IsInjective m s p → AreInjective n ss q
      → AreInjective (chosen_of m n) (Shapes.more s ss) (equal_this_or_other p q)
  this_or_other_injective k l distinct (This a) (This c) o p r e =
      let r' = subst IsReadable e r in
      k a c (of_this distinct.0 a r o) (of_this distinct.0 c r' p) r e
  this_or_other_injective k l distinct (This a) (Other d) o p r e = absurd (differ distinct.0 a d r p e)
  this_or_other_injective k l distinct (Other b) (This c) o p r e =
      absurd (differ distinct.0 c b (subst IsReadable e r) o (sym e))
  this_or_other_injective k l distinct (Other b) (Other d) o p r e =
      let r' = subst IsReadable e r in
      l distinct.1 b d (of_other distinct.0 b r o) (of_other distinct.0 d r' p) r e

-- readable values of alternatives are of their shapes
pub this_or_other_has_shape : {A B : Type 0} (m : A → Tree) (n : B → Tree) (s : Shape) (ss : Shapes) → HasShape m s
    → ((b : B) → IsReadable (n b) → IsOneOf ss (n b)) → (v : OneOf A B) → IsReadable (chosen_of m n v)
    → IsOneOf (Shapes.more s ss) (chosen_of m n v)
this_or_other_has_shape m n s ss this other (This a) r = inl (this a r)
this_or_other_has_shape m n s ss this other (Other b) r = inr (other b r)

-- the same for the choice of them
pub choice_injective : {P : Type 0} (m : P → Tree) (ss : Shapes) (eq : P → P → Bool) → AreDistinct ss
    → AreInjective m ss eq → IsInjective (λ p. Tree.choice (m p)) (Shape.choice ss) eq
choice_injective m ss eq distinct known p q o k r e = let f : m p ≡ m q = cc in known distinct p q o k r f
