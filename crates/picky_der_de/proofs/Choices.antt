-- Choices, read and refused after a look at the first byte. Values that may be missing.
use Rattle.std.proofs.Common.{◌≡◌, ℕ, ◌<◌, inl, inr, true, List, ◌∷◌, ◌++◌, length, Some, None, sym, ◌∙◌, ap, subst}
use Rattle.std.proofs.Common.{arith, Option}
use Rattle.picky_der_core.specs.declared.error.Asn1DerError.{Asn1DerError}
use Rattle.picky_der_core.specs.Tree.{Tree}
use Rattle.picky_der_core.specs.EncodingLaws.{der-choice}
use Rattle.picky_der_core.specs.Shape.{Shape, Shapes, IsOf, IsFirst, AreDistinct, firsts, firsts_of, contains}
use Rattle.picky_der_core.specs.FirstLaws.{disjoint_contains, contains-append_left, contains-append_right}
use Rattle.picky_der_core.specs.FirstLaws.{is_of-optional}
use Rattle.picky_der_core.specs.Reading.{Place, written_at, MayBeAt, IsAtFront}
use Rattle.picky_der_de.specs.State.{State}
use Rattle.picky_der_de.specs.Steps.{Consumed, IsJudged, place_in, place_of}
use Rattle.picky_der_de.specs.Reading.{Concerns, Reads, Refuses}
use Rattle.picky_der_de.specs.LookAhead.{Peeks, HidesChoice, no_byte, implicit, RefusesChoice}
use Rattle.picky_der_de.specs.declared.alternatives.OneOf.{OneOf}
use Rattle.picky_der_de.specs.declared.alternatives.OneOf.TheVariants.{This, Other}
use Rattle.picky_der_de.specs.Firsts.{IsBegunBy, begins_among}
use Rattle.picky_der_de.specs.Choices.{chosen_of, ReadsAfter, RefusesAfter, of_this, of_other}
use Rattle.picky_der_de.proofs.Refusals.{missing_first}
use Rattle.picky_der_de.proofs.Peeked.{no_implicit_tag, peeks_consumes, peeks_fails, peeks_judged, peeks_concerns}
use Rattle.picky_der_de.proofs.Peeked.{peeks_front, peeked_first, is_whole, nothing_whole}
use Rattle.picky_der_ser.specs.Meaning.{option_meaning}

-- ---- where a choice is

-- the alternative is where the choice is
alternative : {s t : Shape} {bs : List ℕ} {end : ℕ} {u : Tree} → IsOf s u
    → IsAtFront Place.whole t bs end (Tree.choice u) → IsAtFront Place.whole s bs end u
alternative {u = u} o st = record {
  of_shape = o;
  readable = st.readable;
  may_be_there = tt;
  within = omega (arith, st.within, ap length (der-choice u));
  front = record { rest = st.front.rest; is = st.front.is ∙ ap (λ z. z ++ st.front.rest) (der-choice u) };
}

-- the first byte there is one with which it begins
at_front_begun : {ss : Shapes} {bs left : List ℕ} {end x : ℕ} {u : Tree} (fs : List ℕ) → IsBegunBy fs u
    → IsAtFront Place.whole (Shape.choice ss) bs end (Tree.choice u) → bs ≡ x ∷ left → contains fs x ≡ true
at_front_begun {ss} {bs} {left} {end} {x} {u} fs f st e =
    let h = begins_among fs u f st.readable in
    let d = der-choice u ∙ h.is in
    let q : h.first ∷ (h.others ++ st.front.rest) ≡ x ∷ left = sym (ap (λ z. z ++ st.front.rest) d) ∙ sym st.front.is
    ∙ e in
    let same : h.first ≡ x = cc in
    subst (λ z. contains fs z ≡ true) same h.listed

nothing_at_front : {s : Shape} {a c : State} {e : Asn1DerError} {end : ℕ} {bs : List ℕ} (u : Tree) → HidesChoice a e
    → Concerns a c e end bs → IsAtFront (place_of a) s bs end (Tree.choice u) → ⊥
nothing_at_front u (no_byte d m) w st = nothing_whole d m w st
nothing_at_front {s} {a} {c} {e} {end} {bs} u (implicit number d is) w st =
    let place : place_of a ≡ Place.under_implicit a.until_end = ap (λ z. place_in z a.until_end) d in
    let may = subst (λ z. MayBeAt z (Tree.choice u)) place st.may_be_there in
    may.no_choice

-- no byte distinguishes a choice there
pub refuses_hidden : {V : Type 0} {m : V → Tree} {s : Shape} {a c : State} {e : Asn1DerError} → RefusesChoice a c e
    → Refuses (λ v. Tree.choice (m v)) s a c e
refuses_hidden {V} {m} {s} {a} {c} {e} h = record {
  fails = h.refuses.fails;
  none = λ j end bs w v st. nothing_at_front (m v) (h.hidden j) w st;
  first = λ j k d l b left q. foreign (h.hidden j) d l q;
} where
  foreign : {P : Type 0} → HidesChoice a e → a.implicit_tag ≡ None → 0 < a.until_end → {b : ℕ} {left : List ℕ}
      → a.input ≡ Some (b ∷ left) → P
  foreign (no_byte whole m) d l q = absurd (missing_first a m l q)
  foreign (implicit number i is) d l q = absurd (let z : Some number ≡ None = sym i ∙ d in cc)

-- ---- one alternative and the alternatives after it

pub reads_this : {s : Shape} {ss : Shapes} {x : ℕ} {b c : State} {t : Tree} → Reads s b c t
    → ReadsAfter (Shapes.more s ss) x b c t
reads_this {b = b} {c = c} {t = t} h a p = record {
  of_shape = inl h.of_shape;
  readable = h.readable;
  may_be_there = subst (λ z. MayBeAt z (Tree.choice t)) (sym (is_whole a p.implicit_tag)) tt;
  consumes = subst (λ z. Consumed a c (written_at z (Tree.choice t))) (sym (is_whole a p.implicit_tag))
      (subst (Consumed a c) (ap (λ z. written_at z t) (is_whole b (no_implicit_tag p)) ∙ sym (der-choice t))
      (peeks_consumes p h.consumes));
  implicit_tag = h.implicit_tag;
}

pub reads_other : {s : Shape} {ss : Shapes} {x : ℕ} {b c : State} {t : Tree} → ReadsAfter ss x b c t
    → ReadsAfter (Shapes.more s ss) x b c t
reads_other h a p = let r = h a p in record {
  of_shape = inr r.of_shape;
  readable = r.readable;
  may_be_there =
      r.may_be_there;
  consumes = r.consumes;
  implicit_tag = r.implicit_tag;
}

module _ {A B : Type 0} {m : A → Tree} {n : B → Tree} {s : Shape} {ss : Shapes} {x : ℕ} {b c : State} {e : Asn1DerError}
    (this : (v : A) → IsBegunBy (firsts s) (m v)) (other : (v : B) → IsBegunBy (firsts_of ss) (n v)) where
  -- this alternative was chosen, and refused
  pub refuses_this : IsFirst s x → Refuses m s b c e → RefusesAfter (chosen_of m n) (Shapes.more s ss) x b c e
  refuses_this g h = record {
    fails = h.fails;
    refuses = λ distinct a p. record {
      fails = peeks_fails p h.fails;
      none = λ j end bs k v st. none distinct p (peeks_judged p j) (peeks_concerns p k) (peeks_front p h.fails k).1 v
          (subst (λ z. IsAtFront z (Shape.choice (Shapes.more s ss)) bs end (Tree.choice (chosen_of m n v)))
          (is_whole a p.implicit_tag) st);
      first = λ j k d l y left i. subst (IsFirst (Shape.choice (Shapes.more s ss))) (sym (peeked_first p y left i))
          (contains-append_left x (firsts s) (firsts_of ss) g);
    };
  } where
    none : {a : State} → AreDistinct (Shapes.more s ss) → Peeks a b x → IsJudged b c e → {end : ℕ} {bs left : List ℕ}
        → Concerns b c e end bs → bs ≡ x ∷ left → (v : OneOf A B)
        → IsAtFront Place.whole (Shape.choice (Shapes.more s ss)) bs end (Tree.choice (chosen_of m n v)) → ⊥
    none distinct p j {end} {bs} k f (This v) st =
        let own = alternative (of_this m n s ss this other distinct.0 v st.readable st.of_shape) st in
        h.none j end bs k v (subst (λ z. IsAtFront z s bs end (m v)) (sym (is_whole b (no_implicit_tag p))) own)
    none distinct p j k f (Other v) st =
        disjoint_contains x (firsts s) (firsts_of ss) distinct.0 g (at_front_begun (firsts_of ss) (other v) st f)

  -- the alternatives after it were refused
  pub refuses_other : (IsFirst s x → ⊥) → RefusesAfter n ss x b c e
      → RefusesAfter (chosen_of m n) (Shapes.more s ss) x b c e
  refuses_other g h = record {
    fails = h.fails;
    refuses = λ distinct a p. let r = h.refuses distinct.1 a p in record {
      fails = r.fails;
      none = λ j end bs k v st. none distinct p r j k (peeks_front p h.fails k).1 v
          (subst (λ z. IsAtFront z (Shape.choice (Shapes.more s ss)) bs end (Tree.choice (chosen_of m n v)))
          (is_whole a p.implicit_tag) st);
      first = λ j k d l y left i. contains-append_right y (firsts s) (firsts_of ss) (r.first j k d l y left i);
    };
  } where
    none : {a : State} → AreDistinct (Shapes.more s ss) → Peeks a b x
        → Refuses (λ v. Tree.choice (n v)) (Shape.choice ss) a c e → IsJudged a c e → {end : ℕ} {bs left : List ℕ}
        → Concerns a c e end bs → bs ≡ x ∷ left → (v : OneOf A B)
        → IsAtFront Place.whole (Shape.choice (Shapes.more s ss)) bs end (Tree.choice (chosen_of m n v)) → ⊥
    none distinct p r j k f (This v) st = g (at_front_begun (firsts s) (this v) st f)
    none {a} distinct p r j {end} {bs} k f (Other v) st =
        let own : IsAtFront Place.whole (Shape.choice ss) bs end (Tree.choice (n v)) =
        record {
          of_shape = of_other m n s ss this other distinct.0 v st.readable st.of_shape;
          readable =
              st.readable;
          may_be_there = tt;
          within = st.within;
          front = st.front;
        } in
        r.none j end bs k v (subst (λ z. IsAtFront z (Shape.choice ss) bs end (Tree.choice (n v)))
        (sym (is_whole a p.implicit_tag)) own)

-- ---- values that are converted from another type

pub refuses_through : {V U : Type 0} (f : V → U) {m : U → Tree} {ss : Shapes} {x : ℕ} {b c : State} {e : Asn1DerError}
    → RefusesAfter m ss x b c e → RefusesAfter (λ v. m (f v)) ss x b c e
refuses_through f h = record {
  fails = h.fails;
  refuses = λ distinct a p. let r = h.refuses distinct a p in
      record { fails = r.fails; none = λ j end bs k v. r.none j end bs k (f v); first = r.first };
}

-- ---- values that may be missing, read and refused

pub reads_optional : {s : Shape} {a c : State} {t : Tree} → Reads s a c t → Reads (Shape.optional s) a c t
reads_optional h = record {
  of_shape = inr h.of_shape;
  readable = h.readable;
  may_be_there = h.may_be_there;
  consumes =
      h.consumes;
  implicit_tag = h.implicit_tag;
}

at_front_there : {place : Place} {s : Shape} {bs : List ℕ} {end : ℕ} {t : Tree}
    → IsAtFront place (Shape.optional s) bs end t → IsAtFront place s bs end t
at_front_there {s = s} {t = t} st = record {
  of_shape = is_of-optional (IsOf s) t st.of_shape st.readable;
  readable = st.readable;
  may_be_there = st.may_be_there;
  within = st.within;
  front = st.front;
}

none_there : {V : Type 0} {P : Type 0} (meaning : V → Tree) {place : Place} {s : Shape} {bs : List ℕ} {end : ℕ}
    (w : Option V) → IsAtFront place (Shape.optional s) bs end (option_meaning meaning w)
    → ((v : V) → IsAtFront place s bs end (meaning v) → P) → P
none_there meaning None st f = absurd st.readable
none_there meaning (Some v) st f = f v (at_front_there st)

pub refuses_optional : {V : Type 0} {meaning : V → Tree} {s : Shape} {a c : State} {e : Asn1DerError}
    → Refuses meaning s a c e → Refuses (option_meaning meaning) (Shape.optional s) a c e
refuses_optional {meaning = meaning} h = record {
  fails = h.fails;
  none = λ j end bs k w st. none_there meaning w st (h.none j end bs k);
  first = h.first;
}
