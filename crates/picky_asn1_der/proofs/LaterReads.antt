-- Elements that were read after all members, and that no value has there.
use Rattle.std.proofs.Common.{◌≡◌, ℕ, Bool, true, false, List, [], ◌++◌, length, refl, sym, ◌∙◌, ap, arith}
use Rattle.std.proofs.Common.{append_assoc, append-nil, length-append}
use Rattle.picky_der_core.specs.declared.error.Asn1DerError.{Asn1DerError}
use Rattle.picky_der_core.specs.Tree.{Tree, Trees}
use Rattle.picky_der_core.specs.Encoding.{der}
use Rattle.picky_der_core.specs.EncodingLaws.{length-der}
use Rattle.picky_der_core.specs.Readable.{AreReadable}
use Rattle.picky_der_core.specs.Shape.{Shape, Layout, EachIs, IsRaw}
use Rattle.picky_der_core.specs.FirstLaws.{others_each}
use Rattle.picky_der_core.proofs.Unique.{same_tree}
use Rattle.picky_der_de.specs.State.{State}
use Rattle.picky_der_de.specs.Steps.{Fails}
use Rattle.picky_der_de.specs.Members.{members_encoding, AreUpToEnd, ConsumesMembers, ReadsAll}
use Rattle.picky_der_de.specs.Layouts.{RefusesLayout}
use Rattle.picky_der_de.specs.OtherLaws.{are_outside, others_of}
use Rattle.picky_der_de.proofs.Order.{concerns_without_order}
use Rattle.picky_der_de.proofs.Refusals.{concerns_after, failed_grows}
use Rattle.picky_der_de.proofs.MemberReads.{members_encoding-more, members_encoding-none}
use Rattle.picky_der_de.proofs.OtherReads.{others_read, others_excluded}

-- none has as many bytes as one and others
shorter : (t : Tree) (ts : Trees) → AreReadable (Trees.more t ts)
    → length (members_encoding Trees.none) ≡ length (members_encoding (Trees.more t ts)) → ⊥
shorter t ts r l =
    omega (
      arith,
      l,
      ap length members_encoding-none,
      ap length (members_encoding-more t ts),
      length-append (der t) (members_encoding ts),
      length-der t r.0,
    )

module _ (ts us : Trees) (t u : Tree) (x y : List ℕ)
    (e : members_encoding (Trees.more t ts) ++ x ≡ members_encoding (Trees.more u us) ++ y) where
  parts : der t ++ (members_encoding ts ++ x) ≡ der u ++ (members_encoding us ++ y)
  parts =
      sym (append_assoc (der t) (members_encoding ts) x) ∙ ap (λ z. z ++ x) (sym (members_encoding-more t ts)) ∙ e
      ∙ ap (λ z. z ++ y) (members_encoding-more u us) ∙ append_assoc (der u) (members_encoding us) y

  sizes : length (members_encoding (Trees.more t ts)) ≡ length (members_encoding (Trees.more u us)) → t ≡ u
      → length (members_encoding ts) ≡ length (members_encoding us)
  sizes l same =
      omega (
        arith,
        l,
        ap length (members_encoding-more t ts),
        ap length (members_encoding-more u us),
        length-append (der t) (members_encoding ts),
        length-append (der u) (members_encoding us),
        ap (λ w. length (der w)) same,
      )

-- as many bytes of elements are the same elements
same_elements : (ts us : Trees) → EachIs IsRaw ts → EachIs IsRaw us → AreReadable ts → AreReadable us → (x y : List ℕ)
    → members_encoding ts ++ x ≡ members_encoding us ++ y
    → length (members_encoding ts) ≡ length (members_encoding us) → ts ≡ us
same_elements Trees.none Trees.none p q r v x y e l = refl
same_elements Trees.none (Trees.more u us) p q r v x y e l = absurd (shorter u us v l)
same_elements (Trees.more t ts) Trees.none p q r v x y e l = absurd (shorter t ts r (sym l))
same_elements (Trees.more t ts) (Trees.more u us) p q r v x y e l =
    let same = same_tree Shape.raw tt t u p.0 q.0 r.0 v.0 (members_encoding ts ++ x) (members_encoding us ++ y)
    (parts ts us t u x y e) in
    let first : t ≡ u = same.0 in
    let others : ts ≡ us = same_elements ts us p.1 q.1 r.1 v.1 x y same.1 (sizes ts us t u x y e l first) in
    cc

module _ {E V : Type 0} (bytes : E → List ℕ) (excluded : List ℕ) (elements : V → List E) where
  -- what is there up to the end is what was read
  only : {b c d : State} {e : Asn1DerError} (ts us : Trees) → ConsumesMembers b c ts → c.until_end ≡ 0
      → EachIs IsRaw ts → AreReadable ts → Fails c d e → EachIs IsRaw us → AreReadable us
      → AreUpToEnd b d e (members_encoding us) → us ≡ ts
  only {b} Trees.none us consumes reached p r f q v w =
      let end : b.until_end ≡ 0 = ap (λ (s : State). s.until_end) (sym consumes) ∙ reached in
      same_elements us Trees.none q tt v tt [] (members_encoding us)
      (append-nil (members_encoding us) ∙ sym (ap (λ z. z ++ members_encoding us) members_encoding-none))
      (omega (arith, w.fills, end, ap length members_encoding-none))
  only {b} {c} {d} {e} (Trees.more t ts) us consumes reached p r f q v w =
      let after = concerns_after consumes (failed_grows f) (concerns_without_order w.are_before.concerns) in
      same_elements us (Trees.more t ts) q p v r w.are_before.rest after.rest
      (sym w.are_before.begins ∙ after.begins) (omega (arith, w.fills, consumes.until_end, reached))

  -- elements were read that no value has
  pub others_differ : {b c d : State} {e : Asn1DerError} (es : List E)
      → ReadsAll (λ x. Tree.raw (bytes x)) Shape.raw b c es
      → ((v : V) → others_of bytes (elements v) ≡ others_of bytes es → ⊥) → Fails c d e
      → RefusesLayout (λ v. others_of bytes (elements v)) (Layout.others excluded) b d e
  others_differ {b} {c} {d} {e} es r differ f = by_first (are_outside excluded bytes es) refl
    where
      by_first : (x : Bool) → are_outside excluded bytes es ≡ x
          → RefusesLayout (λ v. others_of bytes (elements v)) (Layout.others excluded) b d e
      by_first false own = others_excluded bytes excluded elements es r own f
      by_first true outside = record {
        rest = record {
          fails = (others_read bytes excluded es r outside).fails d e f;
          none = λ j v p readable order w.
              differ v
              (only (others_of bytes es) (others_of bytes (elements v)) r.consumes r.reached r.of_shape r.readable f
              (others_each excluded (others_of bytes (elements v)) p.1) readable w);
        };
      }
