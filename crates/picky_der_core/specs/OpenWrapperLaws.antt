-- What is written in open wrappers, and trees that are written alike.
use Rattle.std.proofs.Common.{◌≡◌, Bool, true, false, ◌&&◌, List, [], ◌∷◌, ◌++◌, refl, sym, ap, ap₂}
use Rattle.std.specs.Prelude.{⊤, IsTrue}
use Rattle.picky_der_core.specs.declared.asn1.wrapper.Wrapper.{Wrapper}
use Rattle.picky_der_core.specs.Primitive.{Primitive, primitive_tag, primitive_content}
use Rattle.picky_der_core.specs.Wrapper.{wrapper_tag, wrapper_front, keeps_header, can_vanish, has_tag_number}
use Rattle.picky_der_core.specs.Element.{tlv}
use Rattle.picky_der_core.specs.Tree.{Tree, is_absent}
use Rattle.picky_der_core.specs.Encoding.{wrapper_encoding, tree_bytes, der}
use Rattle.picky_der_core.specs.Readable.{has_tag_numbers}
use Rattle.picky_der_core.specs.OpenWrappers.{under}
use Rattle.picky_der_core.specs.EncodingLaws.{der-absent, never_absent}

-- around something, something is written
pub present-under : (ws : List Wrapper) (t : Tree) → is_absent t ≡ false → is_absent (under ws t) ≡ false
present-under [] t h = h
present-under (w ∷ ws) t h = never_absent (can_vanish w) (is_absent (under ws t)) (present-under ws t h)

-- each of them can vanish
abbrev pub CanVanish : List Wrapper → Type 0
CanVanish [] = ⊤
CanVanish (w ∷ ws) = IsTrue (can_vanish w) × CanVanish ws

pub absent-under : (ws : List Wrapper) (t : Tree) → CanVanish ws → is_absent t ≡ true → is_absent (under ws t) ≡ true
absent-under [] t v h = h
absent-under (w ∷ ws) t v h = let k = absent-under ws t v.1 h in rw (v.0, k) refl

-- one more wrapper is opened inside the others
pub under-push : (ws : List Wrapper) (w : Wrapper) (t : Tree) → under (ws ++ (w ∷ [])) t ≡ under ws (Tree.wrapped w t)
under-push [] w t = refl
under-push (v ∷ ws) w t = ap (Tree.wrapped v) (under-push ws w t)

-- nothing is written of what is absent, in wrappers that can vanish
pub der-under_absent : (ws : List Wrapper) (t : Tree) → CanVanish ws → is_absent t ≡ true → der (under ws t) ≡ []
der-under_absent ws t v h = der-absent (under ws t) (absent-under ws t v h)

-- ---- trees that are written alike

-- with a header and without, and one is absent or has a tag that can't be written where the other is or has
pub record AreAlike (t u : Tree) : Type 0 where
  pub written_same : (header : Bool) → tree_bytes header t ≡ tree_bytes header u
  pub absent_same : is_absent t ≡ is_absent u
  pub numbers_same : has_tag_numbers t ≡ has_tag_numbers u

pub alike-wrapped : (w : Wrapper) (t u : Tree) → AreAlike t u → AreAlike (Tree.wrapped w t) (Tree.wrapped w u)
unfolding tree_bytes
alike-wrapped w t u a = record {
  written_same = λ h. ap₂ (λ b c. wrapper_encoding (can_vanish w && b) (wrapper_tag w) (wrapper_front w ++ c))
      a.absent_same (a.written_same (keeps_header w));
  absent_same = ap (λ b. can_vanish w && b) a.absent_same;
  numbers_same = ap (λ b. has_tag_number w && b) a.numbers_same;
}

-- trees that are written alike are so in open wrappers
pub alike-under : (ws : List Wrapper) (t u : Tree) → AreAlike t u → AreAlike (under ws t) (under ws u)
alike-under [] t u a = a
alike-under (w ∷ ws) t u a = alike-wrapped w (under ws t) (under ws u) (alike-under ws t u a)

pub alike-sym : (t u : Tree) → AreAlike t u → AreAlike u t
alike-sym t u a = record {
  written_same = λ h. sym (a.written_same h);
  absent_same = sym a.absent_same;
  numbers_same =
      sym a.numbers_same;
}

pub der-alike : (t u : Tree) → AreAlike t u → der t ≡ der u
unfolding der
der-alike t u a = a.written_same true

-- a choice is written as the alternative that was made
pub alike-choice : (t : Tree) → AreAlike (Tree.choice t) t
unfolding tree_bytes
alike-choice t = record { written_same = λ h. refl; absent_same = refl; numbers_same = refl }

-- a primitive value is written as bytes with its tag
pub alike-bytes : (p : Primitive) → AreAlike (Tree.primitive (Primitive.bytes (primitive_tag p) (primitive_content p)))
    (Tree.primitive p)
unfolding tree_bytes
alike-bytes p = record { written_same = λ h. refl; absent_same = refl; numbers_same = refl }
