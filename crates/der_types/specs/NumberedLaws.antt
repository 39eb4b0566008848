-- Elements pass the test of automatic tags exactly if their numbers ascend.
use Rattle.std.specs.Prelude.{◌≡◌, ℕ, ◌+◌, ◌/◌, ◌≤◌, Bool, true, false, ◌==◌, nat_le, List, [], ◌∷◌, map, refl}
use Rattle.std.specs.Prelude.{if◌then◌else◌}
use Rattle.std.proofs.Common.{sym, subst, eqb-true, leb-true, le-leb}
use Rattle.std.proofs.lemmas.Bool.{and_parts}
use Rattle.picky_der_core.specs.declared.asn1.tag.TagClass.TheVariants.{Universal, Application, ContextSpecific}
use Rattle.picky_der_core.specs.declared.asn1.tag.TagClass.TheVariants.{Private}
use Rattle.picky_der_core.specs.Tag.{class_of, number_of}
use Rattle.picky_der_core.specs.Readable.{AreReadable}
use Rattle.picky_der_core.specs.Shape.{EachIs, IsRaw}
use Rattle.picky_der_core.specs.Tree.{Tree, Trees}
use Rattle.picky_der_de.specs.InjectiveLaws.{both}
use Rattle.picky_der_de.specs.OtherLaws.{others_of}
use Rattle.picky_asn1_der.specs.LaterTags.{is_numbered_from, ascend_from, are_numbered_from}
use Rattle.der_types.specs.Denotes.{AreNumberedFrom, HasContextTag}

in_class : (least b : ℕ) → is_numbered_from least b ≡ true → class_of b ≡ ContextSpecific
in_class least b h =
    let third : b / 64 ≡ 2 = eqb-true (b / 64) 2 (and_parts (b / 64 == 2) (nat_le least (number_of b)) h).0 in
    rw third refl

from_least : (least b : ℕ) → is_numbered_from least b ≡ true → least ≤ number_of b
from_least least b h =
    leb-true least (number_of b) (and_parts (b / 64 == 2) (nat_le least (number_of b)) h).1

third_class : (x y z : Bool)
    → (if x then Universal else (if y then Application else (if z then ContextSpecific else Private))) ≡ ContextSpecific
    → z ≡ true
third_class true y z h = cc
third_class false true z h = cc
third_class false false true h = refl
third_class false false false h = cc

is_numbered : (least b : ℕ) → class_of b ≡ ContextSpecific → least ≤ number_of b → is_numbered_from least b ≡ true
is_numbered least b c h =
    both (third_class (b / 64 == 0) (b / 64 == 1) (b / 64 == 2) c) (le-leb least (number_of b) h)

-- the trees of numbered elements are raw
pub numbered_raw : (least : ℕ) (ts : Trees) → AreNumberedFrom least ts → AreReadable ts → EachIs IsRaw ts
numbered_raw least Trees.none p r = tt
numbered_raw least (Trees.more (Tree.raw s) ts) p r = (r.0.1, numbered_raw (p.0 + 1) ts p.3 r.1)
numbered_raw least (Trees.more _ ts) p r = absurd p

module _ {E : Type 0} (bytes : E → List ℕ) where
  sound_first : (least : ℕ) (s : List ℕ) (es : List E)
      → ((n : ℕ) → are_numbered_from n bytes es ≡ true → AreNumberedFrom n (others_of bytes es))
      → ascend_from least (s ∷ map bytes es) ≡ true
      → AreNumberedFrom least (Trees.more (Tree.raw s) (others_of bytes es))
  sound_first least [] es next h = cc
  sound_first least (b ∷ bs) es next h =
      let p = and_parts (is_numbered_from least b) (ascend_from (number_of b + 1) (map bytes es)) h in
      (number_of b, from_least least b p.0, (in_class least b p.0, refl), next (number_of b + 1) p.1)

  pub numbered_sound : (least : ℕ) (es : List E) → are_numbered_from least bytes es ≡ true
      → AreNumberedFrom least (others_of bytes es)
  numbered_sound least [] h = tt
  numbered_sound least (e ∷ es) h = sound_first least (bytes e) es (λ n k. numbered_sound n es k) h

  complete_first : (least : ℕ) (s : List ℕ) (es : List E)
      → ((n : ℕ) → AreNumberedFrom n (others_of bytes es) → are_numbered_from n bytes es ≡ true)
      → AreNumberedFrom least (Trees.more (Tree.raw s) (others_of bytes es))
      → ascend_from least (s ∷ map bytes es) ≡ true
  complete_first least [] es next p = absurd p.2
  complete_first least (b ∷ bs) es next p =
      let same : p.0 ≡ number_of b = sym p.2.1 in
      both (is_numbered least b p.2.0 (subst (λ n. least ≤ n) same p.1))
      (next (number_of b + 1) (subst (λ n. AreNumberedFrom (n + 1) (others_of bytes es)) same p.3))

  pub numbered_complete : (least : ℕ) (es : List E) → AreNumberedFrom least (others_of bytes es)
      → are_numbered_from least bytes es ≡ true
  numbered_complete least [] p = refl
  numbered_complete least (e ∷ es) p = complete_first least (bytes e) es (λ n q. numbered_complete n es q) p
