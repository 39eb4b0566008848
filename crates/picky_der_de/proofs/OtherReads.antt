-- Further elements after all members, read and refused. Each call gives one record, for one lemma.
use Rattle.std.proofs.Common.{◌≡◌, ℕ, Bool, true, false, not, List, [], ◌∷◌, ◌++◌, length, None, refl, sym, ◌∙◌, ap}
use Rattle.std.proofs.Common.{subst, arith, length-append}
use Rattle.picky_der_core.specs.declared.error.Asn1DerError.{Asn1DerError}
use Rattle.picky_der_core.specs.Tree.{Tree, Trees}
use Rattle.picky_der_core.specs.Encoding.{tree_bytes, der, encodings}
use Rattle.picky_der_core.specs.EncodingLaws.{length-der}
use Rattle.picky_der_core.specs.Readable.{IsReadable, AreReadable}
use Rattle.picky_der_core.specs.Shape.{Shape, Layout, AreOthers, contains, begins_outside, next_firsts, tags_below}
use Rattle.picky_der_core.specs.FirstLaws.{begins_next, others_each}
use Rattle.picky_der_de.specs.State.{State}
use Rattle.picky_der_de.specs.Steps.{Consumed, Fails}
use Rattle.picky_der_de.specs.Order.{AreInOrder, without_order}
use Rattle.picky_der_de.specs.LookAhead.{Peeks, Identifies}
use Rattle.picky_der_de.specs.FirstTests.{excluded_not_left}
use Rattle.picky_der_de.specs.Members.{members_encoding, AreUpToEnd, ConsumesMembers, ReadsAll, RefusesAll}
use Rattle.picky_der_de.specs.Layouts.{PeeksAtMost, same, looked, Passes, ReadsLayout, RefusesLayout}
use Rattle.picky_der_de.specs.OtherLaws.{others_of, are_outside, others_have_layout}
use Rattle.picky_der_de.proofs.Steps.{consumes_none}
use Rattle.picky_der_de.proofs.Order.{fails_after_any_order, concerns_without_order}
use Rattle.picky_der_de.proofs.Refusals.{concerns_after, failed_grows}
use Rattle.picky_der_de.proofs.Peeked.{peeks_fails}
use Rattle.picky_der_de.proofs.MemberReads.{members_encoding-more, members_encoding-none, none_left}
use Rattle.picky_der_de.proofs.LayoutReads.{as_look, peeks_at_most_here, peeks_at_most_consumes, first_is, Skips}

raw_bytes : (s : List ℕ) → der (Tree.raw s) ≡ s
unfolding der tree_bytes
raw_bytes s = refl

-- ---- after a look

module _ {s : Shape} {b c d : State} (k : Skips s b c) {l : Layout} where
  pub look_read : {ts : Trees} → ReadsLayout l c d ts → ReadsLayout l b d ts
  look_read {ts} n = record {
    are = n.are;
    readable = n.readable;
    order = subst (λ x. AreInOrder x (encodings ts)) k.last n.order;
    passes = λ a q. n.passes a (k.peeks_at_most a q);
    implicit_tag = n.implicit_tag;
    fails = λ last e f. k.fails last e (n.fails last e f);
    full = λ distinct last e f left us are readable w. n.full distinct last e f left us are readable
        (k.at_front last e (members_encoding us) w);
  }

  pub look_refused : {V : Type 0} {members : V → Trees} {e : Asn1DerError} → RefusesLayout members l c d e
      → RefusesLayout members l b d e
  look_refused {V} {members} {e} n = record {
    rest = record {
      fails = k.fails d e n.rest.fails;
      none = λ j v p readable order w.
          n.rest.none (k.judged d e j) v p readable (subst (λ x. AreInOrder x (encodings (members v))) (sym k.last)
          order) (k.at_front d e (members_encoding (members v)) w);
    };
  }

-- ---- an element that begins with an excluded byte

-- is none of them
not_first : (excluded : List ℕ) (u : Tree) (us : Trees) → AreOthers excluded (Trees.more u us) → IsReadable u
    → (x : ℕ) (others : List ℕ) → der u ≡ x ∷ others → contains excluded x ≡ true → ⊥
not_first excluded u us are readable x others is own =
    let h = begins_next (Layout.others excluded) u us are readable in
    let all : h.first ∷ h.others ≡ x ∷ others = sym h.is ∙ is in
    let first : h.first ≡ x = cc in
    let left : contains (next_firsts (Layout.others excluded)) x ≡ true =
    subst (λ z. contains (next_firsts (Layout.others excluded)) z ≡ true) first h.listed in
    let never : not true ≡ true = subst (λ z. not z ≡ true) left (excluded_not_left excluded x (tags_below 256) own) in
    cc

not_false : (b : Bool) → not b ≡ false → b ≡ true
not_false true h = refl
not_false false h = cc

-- bytes that begin two ways begin with one byte
same_front : {s u : List ℕ} (a b c d : List ℕ) {xs ys : List ℕ} {x y : ℕ} → s ≡ x ∷ xs → u ≡ y ∷ ys
    → (s ++ a) ++ b ≡ (u ++ c) ++ d → x ≡ y
same_front {s} {u} a b c d {xs} {ys} {x} {y} p q h =
    let e : x ∷ ((xs ++ a) ++ b) ≡ y ∷ ((ys ++ c) ++ d) = sym (ap (λ z. (z ++ a) ++ b) p) ∙ h
    ∙ ap (λ z. (z ++ c) ++ d) q in
    cc

-- it was looked at, and refused
pub excluded_refused : {V : Type 0} {members : V → Trees} (excluded : List ℕ) {b c d : State} {tag : ℕ}
    {e : Asn1DerError} → b.implicit_tag ≡ None → Identifies b c tag → contains excluded tag ≡ true → Fails c d e
    → RefusesLayout members (Layout.others excluded) b d e
excluded_refused {V} {members} excluded {b} {c} {d} {tag} {e} whole i own f = record {
  rest = record { fails = peeks_fails p f; none = λ j v q readable order w. none (members v) q.1 readable w };
} where
  p : Peeks b c tag
  p = as_look whole i

  none : (us : Trees) → AreOthers excluded us → AreReadable us → AreUpToEnd b d e (members_encoding us) → ⊥
  none Trees.none are readable w = none_left p.ahead w
  none (Trees.more u us) are readable w =
      let h = begins_next (Layout.others excluded) u us are readable.0 in
      let is : members_encoding (Trees.more u us) ≡ h.first ∷ (h.others ++ members_encoding us) =
      members_encoding-more u us ∙ ap (λ z. z ++ members_encoding us) h.is in
      let same : h.first ≡ tag = first_is p f w is in
      not_first excluded u us are readable.0 h.first h.others h.is
      (subst (λ z. contains excluded z ≡ true) (sym same) own)

-- ---- all of them, up to the end

members_passes : {a b c : State} (ts : Trees) → PeeksAtMost a b → ConsumesMembers b c ts → c.failed ≡ None
    → Passes a c (members_encoding ts)
members_passes {a} {b} {c} Trees.none q h n =
    record {
      mid = a;
      consumes = subst (Consumed (without_order a) (without_order a)) (sym members_encoding-none)
          (nothing q);
      peeks_at_most = subst (PeeksAtMost a) (sym h) q;
    }
  where
    nothing : PeeksAtMost a b → Consumed (without_order a) (without_order a) []
    nothing (same e f g) = consumes_none (without_order a) f g
    nothing (looked x g p) = consumes_none (without_order a) p.had_not_failed g
members_passes {a} {b} {c} (Trees.more t ts) q h n =
    record { mid = c; consumes = peeks_at_most_consumes c q h; peeks_at_most = peeks_at_most_here n h.unpeeked }

members_fails : {b c d : State} {e : Asn1DerError} (ts : Trees) → ConsumesMembers b c ts → Fails c d e → Fails b d e
members_fails {b} {c} {d} {e} Trees.none h f = subst (λ z. Fails z d e) h f
members_fails (Trees.more t ts) h f = fails_after_any_order h f

-- elements that are kept by their bytes
module _ {E : Type 0} (bytes : E → List ℕ) (excluded : List ℕ) where
  -- they were read
  pub others_read : {b c : State} (es : List E) → ReadsAll (λ e. Tree.raw (bytes e)) Shape.raw b c es
      → are_outside excluded bytes es ≡ true → ReadsLayout (Layout.others excluded) b c (others_of bytes es)
  others_read {b} {c} es r outside = record {
    are = others_have_layout bytes excluded es outside r.readable;
    readable = r.readable;
    order = r.order;
    passes = λ a q. members_passes (others_of bytes es) q r.consumes r.not_failed;
    implicit_tag = r.implicit_tag;
    fails = λ last e f. members_fails (others_of bytes es) r.consumes f;
    full = λ distinct last e f left us are readable w. omega (arith, left, r.reached);
  }

  module _ {V : Type 0} (elements : V → List E) where
    -- one of them was refused
    pub others_refused : {b c : State} {e : Asn1DerError} → RefusesAll (λ x. Tree.raw (bytes x)) Shape.raw b c e
        → RefusesLayout (λ v. others_of bytes (elements v)) (Layout.others excluded) b c e
    others_refused r = record {
      rest = record {
        fails = r.rest.fails;
        none = λ j v p readable order w. r.rest.none j (elements v)
            (others_each excluded (others_of bytes (elements v)) p.1) readable order w;
      };
    }

    -- they were read, and refused since the first one begins with an excluded byte
    pub others_excluded : {b c d : State} {e : Asn1DerError} (es : List E)
        → ReadsAll (λ x. Tree.raw (bytes x)) Shape.raw b c es → are_outside excluded bytes es ≡ false → Fails c d e
        → RefusesLayout (λ v. others_of bytes (elements v)) (Layout.others excluded) b d e
    others_excluded {b} {c} {d} {e} es r own f = record {
      rest = record {
        fails = members_fails (others_of bytes es) r.consumes f;
        none = λ j v p readable order w. none es r.consumes r.readable own (others_of bytes (elements v)) p.1 readable
            w;
      };
    } where
      -- members that are there where such an element was read
      differ : (x : E) (xs : List E)
          → Consumed (without_order b) (without_order c) (members_encoding (others_of bytes (x ∷ xs)))
          → AreReadable (others_of bytes (x ∷ xs)) → (s : List ℕ) → bytes x ≡ s → begins_outside excluded s ≡ false
          → (us : Trees) → AreOthers excluded us → AreReadable us → AreUpToEnd b d e (members_encoding us) → ⊥
      differ x xs consumes there [] is h us are readable w = cc
      differ x xs consumes there (y ∷ ys) is h Trees.none are readable w =
          let all = members_encoding-more (Tree.raw (bytes x)) (others_of bytes xs) in
          omega (
            arith,
            consumes.until_end,
            w.fills,
            ap length members_encoding-none,
            ap length all,
            length-append (der (Tree.raw (bytes x))) (members_encoding (others_of bytes xs)),
            length-der (Tree.raw (bytes x)) there.0,
          )
      differ x xs consumes there (y ∷ ys) is h (Trees.more u us) are readable w =
          let after = concerns_after consumes (failed_grows f) (concerns_without_order w.are_before.concerns) in
          let k = begins_next (Layout.others excluded) u us are readable.0 in
          let both : (der (Tree.raw (bytes x)) ++ members_encoding (others_of bytes xs)) ++ after.rest
          ≡ (der u ++ members_encoding us) ++ w.are_before.rest =
          ap (λ z. z ++ after.rest) (sym (members_encoding-more (Tree.raw (bytes x)) (others_of bytes xs)))
          ∙ sym after.begins ∙ w.are_before.begins
          ∙ ap (λ z. z ++ w.are_before.rest) (members_encoding-more u us) in
          let same : y ≡ k.first = same_front (members_encoding (others_of bytes xs)) after.rest (members_encoding us)
          w.are_before.rest (raw_bytes (bytes x) ∙ is) k.is both in
          not_first excluded u us are readable.0 k.first k.others k.is
          (subst (λ z. contains excluded z ≡ true) same (not_false (contains excluded y) h))

      none : (xs : List E) → ConsumesMembers b c (others_of bytes xs) → AreReadable (others_of bytes xs)
          → are_outside excluded bytes xs ≡ false → (us : Trees) → AreOthers excluded us → AreReadable us
          → AreUpToEnd b d e (members_encoding us) → ⊥
      none [] consumes there h us are readable w = cc
      none (x ∷ xs) consumes there h us are readable w = differ x xs consumes there (bytes x) refl h us are readable w
