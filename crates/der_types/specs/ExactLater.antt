-- Members of later versions: their values are exactly the elements that the members before them exclude no first one
-- of, or those that automatic tags number.
use Rattle.std.specs.Prelude.{◌≡◌, ℕ, ◌+◌, ◌^◌, ◌<◌, Bool, true, List, [], ◌∷◌, length, ⊤, refl}
use Rattle.std.proofs.Common.{sym, ap, ◌∙◌, subst, arith}
use Rattle.picky_der_core.specs.Readable.{AreReadable}
use Rattle.picky_der_core.specs.Shape.{AreOthers, EachIs, IsRaw, begins_outside}
use Rattle.picky_der_core.specs.Tree.{Tree, Trees}
use Rattle.picky_der_de.specs.OtherLaws.{are_outside, others_of, others_have_layout}
use Rattle.picky_asn1_der.specs.LaterTags.{are_numbered_from}
use Rattle.der_types.specs.Constraints.{member_count}
use Rattle.der_types.specs.Notation.{Members}
use Rattle.der_types.specs.Denotes.{AreNumberedFrom, AreShort, EachIsShort}
use Rattle.der_types.specs.ExactMembers.{AreExact, MembersValues}
use Rattle.der_types.specs.NumberedLaws.{numbered_raw, numbered_sound, numbered_complete}

module _ {E : Type 0} (bytes : E → List ℕ) (element : (s : List ℕ) → length s < 2 ^ 63 → (e : E) × (bytes e ≡ s)) where
  -- elements of these trees
  abbrev Made : Trees → Type 0
  Made ts = (es : List E) × (length es ≡ member_count ts) × (others_of bytes es ≡ ts)

  abbrev made_first : (s : List ℕ) (ts : Trees) → length s < 2 ^ 63 → Made ts → Made (Trees.more (Tree.raw s) ts)
  made_first s ts short rest =
      let e = element s short in (
        e.0 ∷ rest.0,
        omega (arith, rest.1),
        ap (λ bs. Trees.more (Tree.raw bs) (others_of bytes rest.0)) e.1
            ∙ ap (Trees.more (Tree.raw s)) rest.2,
      )

  each_made : (ts : Trees) → EachIs IsRaw ts → EachIsShort ts → Made ts
  each_made Trees.none p s = ([], refl, refl)
  each_made (Trees.more (Tree.raw bs) ts) p s = made_first bs ts s.0 (each_made ts p.1 s.1)
  each_made (Trees.more _ ts) p s = absurd p.0

  -- where values are the elements that pass a test
  module _ {V : Type 0} (test : List E → Bool) (elements : V → List E) (whole : (es : List E) → test es ≡ true
      → length es < 2 ^ 63 → (v : V) × (elements v ≡ es)) where
    of_made : (ts : Trees) (m : Made ts) → test m.0 ≡ true → member_count ts < 2 ^ 63
        → (v : V) × (others_of bytes (elements v) ≡ ts)
    of_made ts m passes few =
        let v = whole m.0 passes (subst (λ n. n < 2 ^ 63) (sym m.1) few) in
        (v.0, ap (others_of bytes) v.1 ∙ m.2)

  module _ {V : Type 0} (excluded : List ℕ) (elements : V → List E) (outside : (v : V)
      → are_outside excluded bytes (elements v) ≡ true) (whole : (es : List E) → are_outside excluded bytes es ≡ true
      → length es < 2 ^ 63 → (v : V) × (elements v ≡ es)) where
    others_complete : (ts : Trees) → AreOthers excluded ts → AreReadable ts → AreShort ts
        → (v : V) × (others_of bytes (elements v) ≡ ts)
    others_complete Trees.none p r s =
        of_made (λ es. are_outside excluded bytes es) elements whole Trees.none ([], refl, refl) refl s.0
    others_complete (Trees.more (Tree.raw bs) ts) p r s =
        let m = made_first bs ts s.1.0 (each_made ts p.1 s.1.1) in
        of_made (λ es. are_outside excluded bytes es) elements whole (Trees.more (Tree.raw bs) ts) m
        (ap (begins_outside excluded) (element bs s.1.0).1 ∙ p.0.1) s.0
    others_complete (Trees.more _ ts) p r s = absurd p.0

    pub others_exact : AreExact (Members.others excluded) (λ v. others_of bytes (elements v))
    others_exact = record {
      sound = λ v r. others_have_layout bytes excluded (elements v) (outside v) r;
      complete =
          others_complete;
    }

    abbrev pub others_values : MembersValues V
    others_values = record {
      notation = Members.others excluded;
      members = λ v. others_of bytes (elements v);
      Premise =
          ⊤;
      follows = λ o. others_exact;
    }

  module _ {V : Type 0} (least : ℕ) (elements : V → List E) (numbered : (v : V)
      → are_numbered_from least bytes (elements v) ≡ true) (whole : (es : List E)
      → are_numbered_from least bytes es ≡ true
      → length es < 2 ^ 63 → (v : V) × (elements v ≡ es)) where
    from_complete : (ts : Trees) → AreNumberedFrom least ts → AreReadable ts → AreShort ts
        → (v : V) × (others_of bytes (elements v) ≡ ts)
    from_complete ts p r s =
        let m = each_made ts (numbered_raw least ts p r) s.1 in
        of_made (λ es. are_numbered_from least bytes es) elements whole ts m
        (numbered_complete bytes least m.0 (subst (AreNumberedFrom least) (sym m.2) p)) s.0

    pub numbered_exact : AreExact (Members.others-from least) (λ v. others_of bytes (elements v))
    numbered_exact = record {
      sound = λ v r. numbered_sound bytes least (elements v) (numbered v);
      complete =
          from_complete;
    }

    abbrev pub numbered_values : MembersValues V
    numbered_values = record {
      notation = Members.others-from least;
      members = λ v. others_of bytes (elements v);
      Premise =
          ⊤;
      follows = λ o. numbered_exact;
    }
