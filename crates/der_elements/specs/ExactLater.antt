-- Members of later versions: their values are exactly the well-formed elements that may be there.
use Rattle.std.specs.Prelude.{◌≡◌, ℕ, ◌^◌, ◌<◌, Bool, true, List, [], ◌∷◌, length, ⊤, refl}
use Rattle.std.proofs.Common.{sym, ap, ◌∙◌, subst, arith}
use Rattle.picky_der_core.specs.Readable.{AreReadable}
use Rattle.picky_der_core.specs.Shape.{AreOthers, EachIs}
use Rattle.picky_der_core.specs.Tree.{Tree, Trees}
use Rattle.picky_der_de.specs.OtherLaws.{are_outside, others_of, others_have_layout}
use Rattle.picky_asn1_der.specs.LaterTags.{are_numbered_from}
use Rattle.der_types.specs.Constraints.{member_count}
use Rattle.der_types.specs.Notation.{Members}
use Rattle.der_types.specs.Denotes.{AreShort, EachIsShort, DenoteMembers, IsWellFormedTree}
use Rattle.der_types.specs.ExactMembers.{AreExact, MembersValues}
use Rattle.der_types.specs.NumberedLaws.{numbered_sound, numbered_complete}
use Rattle.der_types.specs.WellFormed.{IsWellFormed}

module _ {E : Type 0} (bytes : E → List ℕ) (kept : (e : E) → ∥ IsWellFormed (bytes e) ∥₁) (element : (s : List ℕ)
    → ∥ IsWellFormed s ∥₁ → length s < 2 ^ 63 → (e : E) × (bytes e ≡ s)) where
  each_kept : (es : List E) → EachIs IsWellFormedTree (others_of bytes es)
  each_kept [] = tt
  each_kept (e ∷ es) = (kept e, each_kept es)

  -- elements of these trees
  abbrev Made : Trees → Type 0
  Made ts = (es : List E) × (length es ≡ member_count ts) × (others_of bytes es ≡ ts)

  abbrev made_first : (s : List ℕ) (ts : Trees) → ∥ IsWellFormed s ∥₁ → length s < 2 ^ 63 → Made ts
      → Made (Trees.more (Tree.raw s) ts)
  made_first s ts formed short rest =
      let e = element s formed short in (
        e.0 ∷ rest.0,
        omega (arith, rest.1),
        ap (λ bs. Trees.more (Tree.raw bs) (others_of bytes rest.0)) e.1
            ∙ ap (Trees.more (Tree.raw s)) rest.2,
      )

  each_made : (ts : Trees) → EachIs IsWellFormedTree ts → EachIsShort ts → Made ts
  each_made Trees.none p s = ([], refl, refl)
  each_made (Trees.more (Tree.raw bs) ts) p s = made_first bs ts p.0 s.0 (each_made ts p.1 s.1)
  each_made (Trees.more _ ts) p s = absurd p.0

  -- where values are the elements that pass a test
  module _ {V : Type 0} (ms : Members) (test : List E → Bool) (elements : V → List E) (passes : (v : V)
      → test (elements v) ≡ true) (whole : (es : List E) → test es ≡ true → length es < 2 ^ 63
      → (v : V) × (elements v ≡ es)) (sound : (es : List E) → test es ≡ true → AreReadable (others_of bytes es)
      → DenoteMembers ms (others_of bytes es)) (complete : (es : List E) → DenoteMembers ms (others_of bytes es)
      → test es ≡ true) where
    tested_complete : (ts : Trees) → DenoteMembers (Members.well-formed ms) ts → AreReadable ts → AreShort ts
        → (v : V) × (others_of bytes (elements v) ≡ ts)
    tested_complete ts d r s =
        let m = each_made ts d.1 s.1 in
        let v = whole m.0 (complete m.0 (subst (DenoteMembers ms) (sym m.2) d.0))
        (subst (λ n. n < 2 ^ 63) (sym m.1) s.0) in
        (v.0, ap (others_of bytes) v.1 ∙ m.2)

    pub tested_exact : AreExact (Members.well-formed ms) (λ v. others_of bytes (elements v))
    tested_exact = record {
      sound = λ v r. (sound (elements v) (passes v) r, each_kept (elements v));
      complete = tested_complete;
    }

    abbrev tested_values : MembersValues V
    tested_values = record {
      notation = Members.well-formed ms;
      members = λ v. others_of bytes (elements v);
      Premise = ⊤;
      follows = λ o. tested_exact;
    }

  pub outside : (excluded : List ℕ) (es : List E) → AreOthers excluded (others_of bytes es)
      → are_outside excluded bytes es ≡ true
  outside excluded [] p = refl
  outside excluded (e ∷ es) p = p.0.1

  module _ {V : Type 0} (excluded : List ℕ) (elements : V → List E) (passes : (v : V)
      → are_outside excluded bytes (elements v) ≡ true) (whole : (es : List E) → are_outside excluded bytes es ≡ true
      → length es < 2 ^ 63 → (v : V) × (elements v ≡ es)) where
    abbrev pub others_values : MembersValues V
    others_values = tested_values (Members.others excluded) (λ es. are_outside excluded bytes es) elements passes whole
        (others_have_layout bytes excluded) (outside excluded)

  module _ {V : Type 0} (least : ℕ) (elements : V → List E) (passes : (v : V)
      → are_numbered_from least bytes (elements v) ≡ true) (whole : (es : List E)
      → are_numbered_from least bytes es ≡ true → length es < 2 ^ 63 → (v : V) × (elements v ≡ es)) where
    abbrev pub numbered_values : MembersValues V
    numbered_values = tested_values (Members.others-from least) (λ es. are_numbered_from least bytes es) elements passes
        whole (λ es p r. numbered_sound bytes least es p) (numbered_complete bytes least)
