-- The shape of a type is the one that its notation denotes if this holds for its parts.
use Rattle.std.specs.Prelude.{◌≡◌, Bool, true, false, not, IsTrue, refl}
use Rattle.std.proofs.Common.{ap, ◌∙◌}
use Rattle.picky_der_core.specs.Primitive.{Primitive}
use Rattle.picky_der_core.specs.Tree.{Tree}
use Rattle.picky_der_core.specs.Shape.{Shape, Shapes, Layout}
use Rattle.picky_der_de.specs.Layouts.{Presence, layout_with}
use Rattle.der_types.specs.Notation.{Member, member_then}

-- one of this presence and shape is laid out as the member is, whatever comes after it
pub record IsMember (p : Presence) (s : Shape) (m : Member) : Type 0 where
  pub denoted_layout : (l : Layout) → layout_with p s l ≡ member_then m l

-- one that is always there, and those after it
pub required_first : {s t : Shape} → s ≡ t → {k l : Layout} → k ≡ l → Layout.required s k ≡ Layout.required t l
required_first {s} {t} d {k} {l} e = ap (λ x. Layout.required x k) d ∙ ap (Layout.required t) e

-- it holds before others that are laid out so
pub before_others : {p : Presence} {s : Shape} {m : Member} → IsMember p s m → {k l : Layout} → k ≡ l
    → layout_with p s k ≡ member_then m l
before_others {p} {s} a {k} {l} e = ap (layout_with p s) e ∙ a.denoted_layout l

-- two alternatives, or one and others
pub one_or_other : {s t : Shape} → s ≡ t → {ss ts : Shapes} → ss ≡ ts → Shapes.more s ss ≡ Shapes.more t ts
one_or_other {s} {t} d {ss} {ts} e = ap (λ x. Shapes.more x ss) d ∙ ap (Shapes.more t) e

-- a boolean that is a default means it
pub false_value : (b : Bool) → IsTrue (not b)
    → Tree.primitive (Primitive.boolean b) ≡ Tree.primitive (Primitive.boolean false)
false_value false h = refl
false_value true h = cc

pub true_value : (b : Bool) → IsTrue b → Tree.primitive (Primitive.boolean b) ≡ Tree.primitive (Primitive.boolean true)
true_value true h = refl
true_value false h = cc
