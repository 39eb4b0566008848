-- Types of listed values, and elements of later versions: their values are exactly those that the notation denotes.
use Rattle.std.specs.Prelude.{◌≡◌, ℕ, ◌^◌, ◌<◌, Bool, true, false, not, ◌&&◌, List, [], ◌∷◌, length, nat_le, refl}
use Rattle.std.proofs.Common.{sym, ap, ◌∙◌, arith, le-leb}
use Rattle.picky_der_core.specs.Primitive.{boolean_content}
use Rattle.picky_der_core.specs.Shape.{begins_outside}
use Rattle.picky_der_core.specs.Tree.{Tree}
use Rattle.der_types.specs.Constraints.{is_size}
use Rattle.der_types.specs.Denotes.{Denotes, is_listed, tree_content, tree_size}
use Rattle.der_types.specs.Exact.{Values, made_exact, plain_values, values_by}
use Rattle.der_types.specs.ExactConstraints.{constrained_exact}
use Rattle.der_types.specs.Notation.{Notation}

-- a BOOLEAN is the one whose content is listed, or not
pub true_listed : (b : Bool) → b ≡ is_listed ((0xFF ∷ []) ∷ []) (boolean_content b)
true_listed false = refl
true_listed true = refl

pub false_listed : (b : Bool) → not b ≡ is_listed ((0x00 ∷ []) ∷ []) (boolean_content b)
false_listed false = refl
false_listed true = refl

-- a size from none to a greatest one
pub from_none : (most size : ℕ) → nat_le size most ≡ is_size 0 most size
from_none most size = sym (ap (λ b. b && nat_le size most) (le-leb 0 size (omega arith)))

-- a type around those values of another one that a test of their contents allows
module _ {A V : Type 0} (a : Values A) (n : Notation) (means : A → Tree) (allows : A
    → Bool) (part : V → A) (kept : (v : V) → allows (part v) ≡ true) (whole : (x : A) → allows x ≡ true
    → (v : V) × (part v ≡ x)) where
  -- those with a listed content
  abbrev pub listed_values : (contents : List (List ℕ))
      → ((x : A) → allows x ≡ is_listed contents (tree_content (means x))) → Values V
  listed_values contents same = values_by a n means (Notation.listed contents n) (λ v. means (part v))
      (λ is. constrained_exact (Denotes n) means is allows (λ t. is_listed contents (tree_content t)) (λ x r. same x)
      true part kept whole)

  -- those with another content
  abbrev pub unlisted_values : (contents : List (List ℕ))
      → ((x : A) → allows x ≡ not (is_listed contents (tree_content (means x)))) → Values V
  unlisted_values contents same = values_by a n means (Notation.unlisted contents n) (λ v. means (part v))
      (λ is. constrained_exact (Denotes n) means is allows (λ t. not (is_listed contents (tree_content t)))
      (λ x r. same x) true part kept whole)

  -- those of at most a size
  abbrev pub most_values : (most : ℕ) → ((x : A) → allows x ≡ nat_le (tree_size n (means x)) most) → Values V
  most_values most same = values_by a n means (Notation.sized 0 most n) (λ v. means (part v))
      (λ is. constrained_exact (Denotes n) means is allows (λ t. is_size 0 most (tree_size n t))
      (λ x r. same x ∙ from_none most (tree_size n (means x))) true part kept whole)

-- elements that begin with none of these bytes
abbrev pub begun_otherwise_values : {V : Type 0} (bytes : List ℕ) (element : V → List ℕ)
    → ((v : V) → begins_outside bytes (element v) ≡ true)
    → ((s : List ℕ) → begins_outside bytes s ≡ true → length s < 2 ^ 63 → (v : V) × (element v ≡ s)) → Values V
begun_otherwise_values bytes element kept whole = plain_values (Notation.begun-otherwise bytes)
    (λ v. Tree.raw (element v))
    (made_exact Tree.raw (λ s. begins_outside bytes s ≡ true) element (λ v r. kept v) (λ s p r h. whole s p h))
