-- What further elements after all members owe: the first of them begins with none of the excluded bytes.
use Rattle.std.specs.Prelude.{◌≡◌, ℕ, Bool, true, List, [], ◌∷◌, map}
use Rattle.std.specs.List.{AllByRecursion}
use Rattle.std.proofs.Common.{ap}
use lib.Pointwise.{pointwise}
use lib.Dec.{eqb}
use Rattle.picky_der_core.specs.Tree.{ListKind, Tree, Trees, trees}
use Rattle.picky_der_core.specs.Readable.{AreReadable}
use Rattle.picky_der_core.specs.Shape.{Shape, Layout, AreOthers, EachIs, IsRaw, begins_outside, next_firsts}
use Rattle.picky_der_core.specs.FirstLaws.{begins_next, others_each}
use Rattle.picky_der_de.specs.InjectiveLaws.{raw_injective, list_injective}
use Rattle.picky_der_de.specs.Layouts.{AreBegunBy}
use Rattle.picky_der_de.specs.LayoutLaws.{AreLayoutMembers}

module _ {E : Type 0} (bytes : E → List ℕ) where
  -- the trees of elements that are kept by their bytes
  abbrev pub others_of : List E → Trees
  others_of es = trees (map (λ e. Tree.raw (bytes e)) es)

-- the first of them, if there is one, begins with none of these bytes
abbrev pub are_outside : {E : Type 0} → List ℕ → (E → List ℕ) → List E → Bool
are_outside excluded bytes [] = true
are_outside excluded bytes (e ∷ es) = begins_outside excluded (bytes e)

module _ {E : Type 0} (bytes : E → List ℕ) (excluded : List ℕ) where
  each_raw : (es : List E) → AreReadable (others_of bytes es) → EachIs IsRaw (others_of bytes es)
  each_raw [] r = tt
  each_raw (e ∷ es) r = (r.0.1, each_raw es r.1)

  pub others_have_layout : (es : List E) → are_outside excluded bytes es ≡ true → AreReadable (others_of bytes es)
      → AreOthers excluded (others_of bytes es)
  others_have_layout [] h r = tt
  others_have_layout (e ∷ es) h r = ((r.0.1, h), each_raw es r.1)

  others_begin : (es : List E) → are_outside excluded bytes es ≡ true
      → AreBegunBy (next_firsts (Layout.others excluded)) (others_of bytes es)
  others_begin [] h = tt
  others_begin (e ∷ es) h = λ r. begins_next (Layout.others excluded) (Tree.raw (bytes e)) Trees.none ((r.1, h), tt) r

  pub others_are : {P : Type 0} (elements : P → List E) → ((p : P) → are_outside excluded bytes (elements p) ≡ true)
      → AreLayoutMembers (λ p. others_of bytes (elements p)) (Layout.others excluded)
      (λ x y. AllByRecursion (λ b. b ≡ true) (pointwise (λ a b. pointwise eqb (bytes a) (bytes b)) (elements x)
      (elements y) ∷ []))
  others_are elements outside = record {
    begins = λ p. others_begin (elements p) (outside p);
    has_layout = λ p. others_have_layout (elements p) (outside p);
    injective = λ distinct x y p q r e. (
      list_injective (λ a. Tree.raw (bytes a)) Shape.raw (λ a b. pointwise eqb (bytes a) (bytes b))
          (λ a b p q r e. raw_injective (bytes a) (bytes b) e) {k = ListKind.sequence} {l = ListKind.sequence}
          (elements x) (elements y)
          (others_each excluded _ p) (others_each excluded _ q) r (ap (Tree.list ListKind.sequence) e),
      tt,
    );
    sound = tt;
  }
