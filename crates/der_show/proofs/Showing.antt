-- What the loop of a listing keeps.
use Rattle.std.proofs.Common.{◌≡◌, ℕ, ◌^◌, ◌<◌, ◌≤◌, ◌==◌, ◌&&◌, min, Bool, true, false, if◌then◌else◌, Option, Some}
use Rattle.std.proofs.Common.{None, List, [], ◌∷◌, ◌++◌, length, map, refl, sym, ap, subst, ◌∙◌, arith, append-nil}
use Rattle.std.proofs.Common.{eqb-true}
use Rattle.std.specs.List.{list_all}
use Rattle.std.specs.Io.KnownBytes.{Appends}
use Rattle.std.proofs.lemmas.List.{map-append}
use Rattle.std.proofs.lemmas.List.Folds.{list_all-append}
use Rattle.std.proofs.KnownBytes.{Appends-nil, Appends-trans}
use Rattle.picky_der_core.specs.declared.error.Asn1DerError.{Asn1DerError}
use Rattle.picky_der_core.specs.declared.misc.writer.WriteExt.{Ghosts}
use Rattle.picky_der_core.specs.Writer.{beginning_after}
use Rattle.der_show.specs.declared.element.Element.{Element}
use Rattle.der_show.specs.declared.entry.Entry.{Entry}
use Rattle.der_show.specs.declared.entry.Entry.TheVariants as entry
use Rattle.der_show.specs.declared.options.LineForm.{LineForm}
use Rattle.der_show.specs.declared.options.ShowOptions.{ShowOptions}
use Rattle.der_show.specs.declared.rule.Rule.{Rule}
use Rattle.der_show.specs.declared.step.Step.{Step}
use Rattle.der_show.specs.declared.step.Step.TheVariants as step
use Rattle.der_show.specs.Ends.{innermost, without_reached}
use Rattle.der_show.specs.Outlines.{Breaks, IsBefore}
use Rattle.der_show.specs.Entries.{IsReached, IsSoFar, IsListing, ahead, complaint_at}
use Rattle.der_show.specs.Entries as kind
use Rattle.der_show.specs.Steps.{IsStep, step_entries, offset_after, ends_after, is_element, continues}
use Rattle.der_show.specs.Shown.{IsTextOf, IsPlain, listed, refused, IsBeginning, none, first, all, WritesEntries}
use Rattle.der_show.specs.Shown.{IsFailure, Shows, StopsAmong, Stops}
use Rattle.der_show.proofs.Walking.{Walks, walk_begins, walk_ends, walk_refused, walk_continues, before_continues}
use Rattle.der_show.proofs.Places.{IsPlace, place_at_first, place_open, place_last, step_place}
use Rattle.der_show.proofs.Texts.{no_text, joined, failure_since}

-- ---- ends that are reached

closed_one : (o : ShowOptions) (bytes ends : List ℕ) (at end : ℕ) (es : List Entry) (b : Bool) → (end == at) ≡ b
    → (IsReached o bytes ends at es → IsReached o bytes (without_reached at ends) at es)
    → IsReached o bytes (end ∷ ends) at es → IsReached o bytes (if b then without_reached at ends else end ∷ ends) at es
closed_one o bytes ends at end es true e others r =
    others (IsReached.ended ends at es (subst (λ k. IsReached o bytes (k ∷ ends) at es) (eqb-true end at e) r))
closed_one o bytes ends at end es false e others r = r

closed : (o : ShowOptions) (bytes ends : List ℕ) (at : ℕ) (es : List Entry) → IsReached o bytes ends at es
    → IsReached o bytes (without_reached at ends) at es
closed o bytes [] at es r = r
closed o bytes (end ∷ ends) at es r = closed_one o bytes ends at end es (end == at) refl (closed o bytes ends at es) r

-- ---- a plain listing

-- the entries are elements, as a walk over the bytes lists them
pub record Plainly (bytes ends : List ℕ) (at : ℕ) (es : List Entry) : Type 0 where
  pub elements : List Element
  pub walks : Walks bytes ends at elements
  pub before : IsBefore bytes ends at elements
  pub are : es ≡ map entry.Element elements

-- ---- a step

abbrev pub GoesOn : Step → Type 0
GoesOn t = continues t ≡ true

module _ (o : ShowOptions) (bytes ends : List ℕ) (at : ℕ) (es : List Entry) where
  abbrev end : ℕ
  end = innermost (length bytes) ends

  step_reached : (t : Step) → GoesOn t → IsStep o (length ends) (ahead bytes ends at) t → at < end
      → IsReached o bytes ends at es
      → IsReached o bytes (ends_after end at ends t) (offset_after end at t) (es ++ step_entries (length ends) at t)
  step_reached (step.Element h None) on is low r = IsReached.passed ends at es h r is.0 is.1
  step_reached (step.Element h (Some skipped)) on is low r =
      closed o bytes _ _ _ (IsReached.opened ends at es h skipped r is.0 is.1)
  step_reached (step.Broken rule h) on is low r = IsReached.broken ends at es rule h is.0 r is.1 is.2
  step_reached (step.Skipped rule) on is low r =
      closed o bytes _ _ _ (IsReached.skipped ends at es rule is.0 r low is.1)
  step_reached (step.Stopped rule) on is low r = cc

  step_plain : (t : Step) → GoesOn t → IsPlain o → IsStep o (length ends) (ahead bytes ends at) t → at < length bytes
      → Plainly bytes ends at es
      → Plainly bytes (ends_after end at ends t) (offset_after end at t) (es ++ step_entries (length ends) at t)
  step_plain (step.Element h None) on plain is more p = record {
    elements = _;
    walks = walk_continues bytes ends at p.elements h p.walks more is.0;
    before = before_continues bytes ends at p.elements h p.before is.0;
    are = ap (λ x. x ++ step_entries (length ends) at (step.Element h None)) p.are
        ∙ sym (map-append entry.Element p.elements _);
  }
  step_plain (step.Element h (Some skipped)) on plain is more p = let flat = plain.flat in let bad : false ≡ true =
      sym is.1.asked ∙ flat in cc
  step_plain (step.Broken rule h) on plain is more p = let bad : true ≡ false = sym is.0 ∙ plain.stops in cc
  step_plain (step.Skipped rule) on plain is more p = let bad : true ≡ false = sym is.0 ∙ plain.stops in cc
  step_plain (step.Stopped rule) on plain is more p = cc

  entries_fine : (t : Step) → list_all kind.is_element (step_entries (length ends) at t) ≡ is_element t
  entries_fine (step.Element h opening) = refl
  entries_fine (step.Broken rule h) = refl
  entries_fine (step.Skipped rule) = refl
  entries_fine (step.Stopped rule) = refl

  fine_more : (t : Step) (b : Bool) → b ≡ list_all kind.is_element es
      → (b && is_element t) ≡ list_all kind.is_element (es ++ step_entries (length ends) at t)
  fine_more t b e = ap (λ x. x && is_element t) e ∙ ap (λ x. list_all kind.is_element es && x) (sym (entries_fine t))
      ∙ sym (list_all-append kind.is_element es (step_entries (length ends) at t))

  -- a beginning of what a step lists
  so_far_none : (r : IsReached o bytes ends at es) → IsSoFar o bytes (es ++ [])
  so_far_none r = subst (IsSoFar o bytes) (sym (append-nil es)) (IsSoFar.reached ends at es r)

  so_far_by : (t : Step) (front : List Entry) → IsStep o (length ends) (ahead bytes ends at) t → at < end
      → IsReached o bytes ends at es → IsBeginning (step_entries (length ends) at t) front
      → IsSoFar o bytes (es ++ front)
  so_far_by t front is low r (none e) = subst (λ f. IsSoFar o bytes (es ++ f)) (sym e) (so_far_none r)
  so_far_by (step.Element h opening) front is low r (first x rest e k) =
      let same : x ≡ _ = cc in
      subst (λ f. IsSoFar o bytes (es ++ f)) (sym k)
      (subst (λ y. IsSoFar o bytes (es ++ (y ∷ []))) (sym same)
      (IsSoFar.reached _ _ _ (step_reached (step.Element h opening) refl is low r)))
  so_far_by (step.Broken rule h) front is low r (first x rest e k) =
      let same : x ≡ complaint_at at rule = cc in
      subst (λ f. IsSoFar o bytes (es ++ f)) (sym k)
      (subst (λ y. IsSoFar o bytes (es ++ (y ∷ []))) (sym same) (IsSoFar.complained ends at es rule r low is.1))
  so_far_by (step.Skipped rule) front is low r (first x rest e k) =
      let same : x ≡ complaint_at at rule = cc in
      subst (λ f. IsSoFar o bytes (es ++ f)) (sym k)
      (subst (λ y. IsSoFar o bytes (es ++ (y ∷ []))) (sym same)
      (IsSoFar.complained ends at es rule r low (Breaks.header is.1)))
  so_far_by (step.Stopped rule) front is low r (first x rest e k) =
      let same : x ≡ complaint_at at rule = cc in
      subst (λ f. IsSoFar o bytes (es ++ f)) (sym k)
      (subst (λ y. IsSoFar o bytes (es ++ (y ∷ []))) (sym same) (IsSoFar.complained ends at es rule r low is.1))
  so_far_by (step.Stopped rule) front is low r (all k) =
      subst (λ f. IsSoFar o bytes (es ++ f)) (sym k) (IsSoFar.complained ends at es rule r low is.1)
  so_far_by (step.Element h opening) front is low r (all k) =
      subst (λ f. IsSoFar o bytes (es ++ f)) (sym k)
      (IsSoFar.reached _ _ _ (step_reached (step.Element h opening) refl is low r))
  so_far_by (step.Broken rule h) front is low r (all k) =
      subst (λ f. IsSoFar o bytes (es ++ f)) (sym k)
      (IsSoFar.reached _ _ _ (step_reached (step.Broken rule h) refl is low r))
  so_far_by (step.Skipped rule) front is low r (all k) =
      subst (λ f. IsSoFar o bytes (es ++ f)) (sym k)
      (IsSoFar.reached _ _ _ (step_reached (step.Skipped rule) refl is low r))

-- ---- the loop

-- the listing has come to this offset, and the text of its entries is written
pub record Comes (form : LineForm) (o : ShowOptions) (bytes ends : List ℕ) (at : ℕ) (is_der : Bool)
    (old new : Option (List ℕ)) : Type 0 where
  pub place : IsPlace bytes ends at
  pub entries : List Entry
  pub reached : IsReached o bytes ends at entries
  pub fine : is_der ≡ list_all kind.is_element entries
  pub plain : IsPlain o → Plainly bytes ends at entries
  pub text : List ℕ
  pub is_text : IsTextOf form entries text
  pub written : Appends old new text

pub comes_first : (form : LineForm) (o : ShowOptions) (bytes : List ℕ) (at : ℕ) (w : Option (List ℕ))
    → at ≡ min o.start (length bytes) → Comes form o bytes [] at true w w
comes_first form o bytes at w e = record {
  place = place_at_first bytes at (omega (arith, e));
  entries = [];
  reached = subst (λ k. IsReached o bytes [] k []) (sym e) IsReached.start;
  fine = refl;
  plain = λ p. let first : at ≡ 0 = omega (arith, p.from_the_first, e) in
      subst (λ k. Plainly bytes [] k []) (sym first) (record {
        elements = [];
        walks = walk_begins bytes;
        before =
            IsBefore.none;
        are = refl;
      });
  text = [];
  is_text = no_text form;
  written = Appends-nil w;
}

module _ (form : LineForm) (o : ShowOptions) (bytes ends : List ℕ) (at : ℕ) (is_der : Bool) (old mid : Option (List ℕ))
    (c : Comes form o bytes ends at is_der old mid) where
  module _ (more : at < length bytes) (t : Step) (is : IsStep o (length ends) (ahead bytes ends at) t)
      (new : Option (List ℕ)) (w : WritesEntries form (step_entries (length ends) at t) mid new) where
    pub comes_on : GoesOn t → Comes form o bytes (ends_after (innermost (length bytes) ends) at ends t)
        (offset_after (innermost (length bytes) ends) at t) (is_der && is_element t) old new
    comes_on on = record {
      place = (step_place bytes ends at c.place more o t is).0;
      entries = c.entries ++ step_entries (length ends) at t;
      reached = step_reached o bytes ends at c.entries t on is (place_open bytes ends at c.place more).0 c.reached;
      fine = fine_more o bytes ends at c.entries t is_der c.fine;
      plain = λ p. step_plain o bytes ends at c.entries t on p is more (c.plain p);
      text = c.text ++ w.text;
      is_text = joined form c.entries (step_entries (length ends) at t) c.text w.text c.is_text w.is_text;
      written = Appends-trans old mid new c.text w.text c.written w.written;
    }

  -- all is listed
  pub comes_to_end : length bytes ≤ at → Shows form o bytes (record { is_der = is_der }) old mid
  comes_to_end done =
      let none_open = place_last bytes ends at c.place done in record {
        entries = c.entries;
        listing = IsListing.whole at c.entries (subst (λ x. IsReached o bytes x at c.entries) none_open c.reached) done;
        is_der = c.fine;
        plain = λ p. let q = c.plain p in listed q.elements (walk_ends bytes ends at q.elements q.walks done) q.are;
        text = c.text;
        is_text = c.is_text;
        written = c.written;
      }

  -- a rule ends the listing
  comes_to_rule : at < length bytes → length bytes < 2 ^ 64 → (r : Rule)
      → IsStep o (length ends) (ahead bytes ends at) (step.Stopped r) → (new : Option (List ℕ))
      → WritesEntries form (complaint_at at r ∷ []) mid new
      → Shows form o bytes (record { is_der = is_der && is_element (step.Stopped r) }) old new
  comes_to_rule more small r is new w = record {
    entries = c.entries ++ (complaint_at at r ∷ []);
    listing = IsListing.stopped ends at c.entries r is.0 c.reached (place_open bytes ends at c.place more).0 is.1;
    is_der = fine_more o bytes ends at c.entries (step.Stopped r) is_der c.fine;
    plain = λ p.
        let q = c.plain p in
        refused q.elements (record { offset = at; rule = r })
        (walk_refused bytes ends at q.elements r q.walks q.before more small is.1)
        (ap (λ x. x ++ (complaint_at at r ∷ [])) q.are);
    text = c.text ++ w.text;
    is_text = joined form c.entries (complaint_at at r ∷ []) c.text w.text c.is_text w.is_text;
    written = Appends-trans old mid new c.text w.text c.written w.written;
  }

  pub comes_to_stop : at < length bytes → length bytes < 2 ^ 64 → (t : Step) → continues t ≡ false
      → IsStep o (length ends) (ahead bytes ends at) t → (new : Option (List ℕ))
      → WritesEntries form (step_entries (length ends) at t) mid new
      → Shows form o bytes (record { is_der = is_der && is_element t }) old new
  comes_to_stop more small (step.Element h opening) off is new w = cc
  comes_to_stop more small (step.Broken r h) off is new w = cc
  comes_to_stop more small (step.Skipped r) off is new w = cc
  comes_to_stop more small (step.Stopped r) off is new w = comes_to_rule more small r is new w

module _ {W : Type 0} (g : Ghosts W) (form : LineForm) (o : ShowOptions) (bytes ends : List ℕ) (at : ℕ) (is_der : Bool)
    (old mid : W) (c : Comes form o bytes ends at is_der (g.written old) (g.written mid)) (same : g.faults mid
    ≡ g.faults old) (e : Asn1DerError) where
  -- nothing more was written
  pub stops_here : IsFailure g mid e mid → Stops g form o bytes old e mid
  stops_here f = record {
    failure = failure_since g old mid mid e same f;
    entries = c.entries;
    so_far = IsSoFar.reached ends at c.entries c.reached;
    text = c.text;
    is_text = c.is_text;
    written = record { front = c.text; rest = []; is = sym (append-nil c.text); appends = c.written };
  }

  -- a beginning of what a step lists was written
  pub stops_in_step : at < length bytes → (t : Step) (new : W) → IsStep o (length ends) (ahead bytes ends at) t
      → StopsAmong g form (step_entries (length ends) at t) mid e new → Stops g form o bytes old e new
  stops_in_step more t new is s = record {
    failure = failure_since g old mid new e same s.failure;
    entries = c.entries ++ s.front;
    so_far = so_far_by o bytes ends at c.entries t s.front is (place_open bytes ends at c.place more).0 c.reached
        s.begins;
    text = c.text ++ s.text;
    is_text = joined form c.entries s.front c.text s.text c.is_text s.is_text;
    written = beginning_after (g.written old) (g.written mid) (g.written new) c.text s.text c.written s.written;
  }
