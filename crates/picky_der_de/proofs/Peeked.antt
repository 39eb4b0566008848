-- A look at the next byte, and calls after it: what they do is done from before it.
use Rattle.std.proofs.Common.{◌≡◌, ◌≢◌, ℕ, ◌<◌, List, [], Option, Some, None, refl, sym, ◌∙◌, ap, ◌≤◌, inl, inr, ◌∷◌}
use Rattle.std.proofs.Common.{◌++◌, length, IfSome, subst, arith, length-append}
use Rattle.picky_der_core.specs.declared.error.Asn1DerError.{Asn1DerError}
use Rattle.picky_der_core.specs.Failure.{failure_of}
use Rattle.picky_der_core.specs.declared.error.Asn1DerError.TheVariants.{TruncatedData, InvalidData, OutOfMemory}
use Rattle.picky_der_core.specs.Refusal.{Refusal, missing_byte}
use Rattle.picky_der_de.specs.declared.end.End.{End}
use Rattle.picky_der_de.specs.declared.end.End.TheVariants.{Limit, Soft, Hard}
use Rattle.picky_der_de.specs.State.{State}
use Rattle.picky_der_de.specs.Steps.{Fails, IsMissing, end_is_here, input_ended, failed_with, is_hard, error_at_end}
use Rattle.picky_der_de.specs.Steps.{Consumed, IsJudged, fetched_count, mendable_limit, place_in, place_of}
use Rattle.picky_der_de.specs.LookAhead.{choice_refusal_in, choice_refusal, identifier_refusal_in, RefusesChoice}
use Rattle.picky_der_de.specs.LookAhead.{RefusesIdentifier, HidesChoice, no_byte, implicit, Peeks, IdentifiesIn}
use Rattle.picky_der_de.specs.LookAhead.{Identifies}
use Rattle.picky_der_de.proofs.Refusals.{StopsAt, read_fails, read_missing, keeps_consumes, split_after, missing_here}
use Rattle.picky_der_de.proofs.Refusals.{missing_first}
use Rattle.picky_der_de.proofs.KnownBytes.{just_unconsumed, just_missing, kept_known}
use Rattle.picky_der_de.proofs.PlainReads.{just_map}
use Rattle.picky_der_de.proofs.Steps.{fails_again, there_after}
use Rattle.std.specs.Io.KnownBytes.{Consumes}
use Rattle.std.proofs.KnownBytes.{Consumes-trans}
use Rattle.picky_der_core.specs.Element.{IsPrefix}
use Rattle.picky_der_core.specs.Peeking.{count_of_any}
use Rattle.picky_der_core.specs.Tree.{Tree}
use Rattle.picky_der_core.specs.Encoding.{der}
use Rattle.picky_der_core.specs.EncodingLaws.{length-der}
use Rattle.picky_der_core.specs.Reader.{ReportsFault}
use Rattle.picky_der_core.specs.Shape.{Shape}
use Rattle.picky_der_core.specs.Reading.{Place, IsAtFront}
use Rattle.picky_der_de.specs.Reading.{Concerns, now, ever, Refuses}

memory_at_end : (end : End) → error_at_end end ≢ OutOfMemory
memory_at_end Limit h = cc
memory_at_end Soft h = cc
memory_at_end Hard h = cc

-- a byte that is missing isn't out of memory
pub missing_not_for_memory : {s : State} {e : Asn1DerError} → IsMissing s e → e ≢ OutOfMemory
missing_not_for_memory {s} (end_is_here z is) h = memory_at_end s.end (sym is ∙ h)
missing_not_for_memory (input_ended l z is) h = let q : TruncatedData ≡ OutOfMemory = sym is ∙ h in cc

nothing_there : (d : Option ℕ) (s : State) → d ≡ None
    → choice_refusal_in d s [] ≡ Some (missing_byte (is_hard s.end) s.until_end [], [])
nothing_there None s h = refl
nothing_there (Some number) s h = absurd (let q : Some number ≡ None = h in cc)

-- the reader gave no byte
pub choice_unread : {old new : State} {e : Asn1DerError} → StopsAt old new e → 0 < old.until_end
    → old.implicit_tag ≡ None → RefusesChoice old new e
choice_unread {old} {new} {e} s ahead whole = record {
  refuses = record {
    fails = read_fails s;
    just = λ j bs k. just_missing (choice_refusal old) (read_missing s ahead j.faults) s.input
        (ap (λ (x : State). x.consumed) s.same) (ap (λ (x : State). x.peeked) s.same) k
        (λ h. nothing_there old.implicit_tag old whole ∙ ap (λ x. Some (x, [])) h);
    memory = λ n same. missing_not_for_memory (read_missing s ahead same);
    same = s.same;
  };
  hidden = λ j. no_byte whole (read_missing s ahead j.faults);
}

at_front_implicit : (d : Option ℕ) (number : ℕ) (s : State) (rest : List ℕ) → d ≡ Some number
    → choice_refusal_in d s rest ≡ Some (InvalidData, rest)
at_front_implicit None number s rest h = absurd (let q : None ≡ Some number = h in cc)
at_front_implicit (Some n) number s rest h = refl

-- the implicit tag is instead of it
pub choice_under_implicit : {a c : State} {e : Asn1DerError} {number : ℕ} → a.implicit_tag ≡ Some number → Fails a c e
    → e ≡ InvalidData → c ≡ failed_with a e → RefusesChoice a c e
choice_under_implicit {a} {c} {e} {number} d f is same = record {
  refuses = record {
    fails = f;
    just = λ j bs k. just_unconsumed (choice_refusal a) same k (λ rest. at_front_implicit a.implicit_tag number a rest d
        ∙ ap (λ x. Some (x, rest)) (sym is));
    memory = λ n h w. let q : InvalidData ≡ OutOfMemory = sym is ∙ w in cc;
    same = rw same refl;
  };
  hidden = λ j. implicit number d is;
}

next_of_either : (d : Option ℕ) (s : State) (rest : List ℕ) (r : Refusal) → d ≡ None
    → choice_refusal_in d s rest ≡ Some r → identifier_refusal_in d s rest ≡ Some r
next_of_either None s rest r d h = h
next_of_either (Some number) s rest r d h = absurd (let q : Some number ≡ None = d in cc)

hidden_whole : {s : State} {e : Asn1DerError} → s.implicit_tag ≡ None → HidesChoice s e → IsMissing s e
hidden_whole d (no_byte whole m) = m
hidden_whole d (implicit number h is) = absurd (let q : Some number ≡ None = sym h ∙ d in cc)

-- outside implicit tags an identifier is refused as the byte of a choice is
pub identifier_unread : {a c : State} {e : Asn1DerError} → a.implicit_tag ≡ None → RefusesChoice a c e
    → RefusesIdentifier a c e
identifier_unread {a} {c} whole h = record {
  refuses = record {
    fails = h.refuses.fails;
    just = λ j bs k. just_map (λ rest r. next_of_either a.implicit_tag a rest r whole) (h.refuses.just j bs k);
    memory = h.refuses.memory;
    same = ap (λ (z : State). record z { last = c.last }) h.refuses.same;
  };
  missing = λ j. (whole, hidden_whole whole (h.hidden j));
}

-- it had failed before
pub identifier_again : {a : State} {e : Asn1DerError} → a.failed ≡ Some (failure_of e) → RefusesIdentifier a a e
identifier_again {a} {e} h =
    let no : a.failed ≡ None → ⊥ = λ w. let q : None ≡ Some (failure_of e) = sym w ∙ h in cc in
    record {
      refuses = record {
        fails = fails_again a h;
        just = λ j. absurd (no j.had_not_failed);
        memory = λ w. absurd (no w);
        same = rw (← h) refl;
      };
      missing = λ j. absurd (no j.had_not_failed);
    }

-- ---- calls after a look at the next byte: what they do is done from before it

at_most_one : (p : Option ℕ) → count_of_any p ≤ 1
at_most_one None = omega arith
at_most_one (Some b) = omega arith

-- a look consumes no byte that isn't there
module _ {a b : State} {x : ℕ} (p : Peeks a b x) where
  still_consumed : b.consumed ≡ a.consumed
  still_consumed = ap (λ (s : State). s.consumed) p.same

  still_room : b.until_end ≡ a.until_end
  still_room = ap (λ (s : State). s.until_end) p.same

  still_faults : b.faults ≡ a.faults
  still_faults = ap (λ (s : State). s.faults) p.same

  still_limit : b.limit ≡ a.limit
  still_limit = ap (λ (s : State). s.limit) p.same

  not_failed : b.failed ≡ None
  not_failed = ap (λ (s : State). s.failed) p.same ∙ p.had_not_failed

  pub no_implicit_tag : b.implicit_tag ≡ None
  no_implicit_tag = ap (λ (s : State). s.implicit_tag) p.same ∙ p.implicit_tag

  one_peeked : count_of_any b.peeked ≡ 1
  one_peeked = ap (λ (s : State). count_of_any s.peeked) p.same

  fetches_more : fetched_count a ≤ fetched_count b
  fetches_more = omega (arith, at_most_one a.peeked, one_peeked, still_consumed)

  consumes_after : (i : Option (List ℕ)) (bytes : List ℕ) → Consumes b.input i bytes → Consumes a.input i bytes
  consumes_after i bytes h = Consumes-trans a.input b.input i [] bytes (keeps_consumes a.input b.input p.input) h

  pub peeks_consumes : {c : State} {bytes : List ℕ} → Consumed b c bytes → Consumed a c bytes
  peeks_consumes {c} {bytes} t = record {
    input = consumes_after c.input bytes t.input;
    consumed = omega (arith, t.consumed, still_consumed);
    until_end = omega (arith, t.until_end, still_room);
    end = t.end ∙ ap (λ (s : State). s.end) p.same;
    limit = t.limit ∙ still_limit;
    last = t.last ∙ ap (λ (s : State). s.last) p.same;
    unpeeked = t.unpeeked;
    fetched = omega (arith, t.fetched, fetches_more);
    had_not_failed = p.had_not_failed;
    not_failed = t.not_failed;
    faults = t.faults ∙ still_faults;
    references = t.references ∙ ap (λ (s : State). s.references) p.same;
  }

  pub peeks_fails : {c : State} {e : Asn1DerError} → Fails b c e → Fails a c e
  peeks_fails {c} {e} f = record {
    failed = f.failed;
    again = λ k w. absurd (let q : None ≡ Some k = sym p.had_not_failed ∙ w in cc);
    faults = subst (λ l. ReportsFault l c.faults c.input e) still_faults f.faults;
    unpeeked = λ more. f.unpeeked (λ same. more (same ∙ still_faults));
    other = λ w same. f.other not_failed (same ∙ sym still_faults);
    took = record {
      bytes = f.took.bytes;
      input = consumes_after c.input f.took.bytes f.took.input;
      count =
          omega (arith, f.took.count, still_consumed);
    };
    grows = omega (arith, f.grows, fetches_more);
    end = omega (arith, f.end, still_consumed, still_room);
    limit = f.limit ∙ still_limit;
    within = λ w. f.within (record {
      end = omega (arith, w.end, still_consumed, still_room, still_limit);
      fetched =
          omega (arith, w.end, p.ahead, one_peeked, still_consumed, still_limit);
    });
    there = λ w. there_after a.input b.input [] a.consumed b.consumed (fetched_count c)
        (keeps_consumes a.input b.input p.input) (omega (arith, still_consumed)) (f.there not_failed);
    references = f.references ∙ ap (λ (s : State). s.references) p.same;
  }

  pub peeks_judged : {c : State} {e : Asn1DerError} → IsJudged a c e → IsJudged b c e
  peeks_judged j = record { had_not_failed = not_failed; faults = j.faults ∙ sym still_faults; memory = j.memory }

  pub peeks_concerns : {c : State} {e : Asn1DerError} {end : ℕ} {bs : List ℕ} → Concerns a c e end bs
      → Concerns b c e end bs
  peeks_concerns {c} {e} {end} {bs} (now i r) = now (kept_known a.input b.input bs p.input i) (r ∙ sym still_room)
  peeks_concerns {c} {e} {end} {bs} (ever w r d y left i l f) =
      ever w (r ∙ sym (ap mendable_limit p.same)) d y left (kept_known a.input b.input (d ++ left) p.input i)
      (omega (arith, l, still_consumed)) f

  known_next : (i : Option (List ℕ)) (bs : List ℕ) → IfSome i (IsPrefix (x ∷ [])) → i ≡ Some bs
      → (left : List ℕ) × (bs ≡ x ∷ left)
  known_next None bs h e = absurd (let q : None ≡ Some bs = e in cc)
  known_next (Some xs) bs h e = let same : xs ≡ bs = cc in (h.rest, sym same ∙ h.is)

  -- the bytes to which a refusal applies begin with that byte
  pub peeks_front : {c : State} {e : Asn1DerError} {end : ℕ} {bs : List ℕ} → Fails b c e → Concerns a c e end bs
      → (left : List ℕ) × (bs ≡ x ∷ left)
  peeks_front {c} {e} {end} {bs} f (now i r) = known_next a.input bs p.next i
  peeks_front {c} {e} {end} {bs} f (ever w r d y left i l g) =
      let h = known_next a.input (d ++ left) p.next i in
      let u = split_after d (x ∷ []) h.0 left h.1 (omega (arith, f.grows, one_peeked, still_consumed, l)) in
      (u.0 ++ y, g ∙ ap (λ z. z ++ y) u.1)

  pub peeked_first : (y : ℕ) (left : List ℕ) → a.input ≡ Some (y ∷ left) → y ≡ x
  peeked_first y left i = let h = known_next a.input (y ∷ left) p.next i in let q : y ∷ left ≡ x ∷ h.0 = h.1 in cc

  same_place : place_of b ≡ place_of a
  same_place = ap place_of p.same

  -- a value was refused
  pub peeks_refuses : {V : Type 0} {meaning : V → Tree} {s : Shape} {c : State} {e : Asn1DerError}
      → Refuses meaning s b c e → Refuses meaning s a c e
  peeks_refuses {meaning = meaning} {s = s} h = record {
    fails = peeks_fails h.fails;
    none = λ j end bs w v st. h.none (peeks_judged j) end bs (peeks_concerns w) v
        (subst (λ z. IsAtFront z s bs end (meaning v)) (sym same_place) st);
    first = λ j k d l y left i. h.first (peeks_judged j) k no_implicit_tag (omega (arith, l, still_room)) y left
        (kept_known a.input b.input (y ∷ left) p.input i);
  }

-- ---- where a value is

pub is_whole : (s : State) → s.implicit_tag ≡ None → place_of s ≡ Place.whole
is_whole s d = ap (λ z. place_in z s.until_end) d

-- no value is there where a byte is missing
pub nothing_whole : {a c : State} {e : Asn1DerError} {s : Shape} {end : ℕ} {bs : List ℕ} {t : Tree}
    → a.implicit_tag ≡ None → IsMissing a e → Concerns a c e end bs → IsAtFront (place_of a) s bs end t → ⊥
nothing_whole {a} {s = s} {end = end} {bs = bs} {t = t} d m w st =
    let st' = subst (λ z. IsAtFront z s bs end t) (is_whole a d) st in
    let some = length-der t st'.readable in
    elim (missing_here m w) [
      | inl here ↦ omega (arith, some, st'.within, here)
      | inr ended ↦ omega (arith, some, ap length (sym st'.front.is ∙ ended), length-append (der t) st'.front.rest)
    ]

-- ---- after a look at the tag

pub through_identifies : (P : State → Type 0) {a b : State} {tag : ℕ} → (d : Option ℕ) → IdentifiesIn d a b tag
    → (Peeks a b tag → P b → P a) → P b → P a
through_identifies P None h f k = f h k
through_identifies P (Some number) h f k = subst P h.2 k

pub identified_refuses : {V : Type 0} {meaning : V → Tree} {s : Shape} {a b c : State} {tag : ℕ} {e : Asn1DerError}
    → Identifies a b tag → Refuses meaning s b c e → Refuses meaning s a c e
identified_refuses {meaning = meaning} {s = s} {a = a} {c = c} {e = e} h r =
    through_identifies (λ x. Refuses meaning s x c e) a.implicit_tag h.is (λ p k. peeks_refuses p k) r

-- no value is there if no tag is
pub refuses_identifier : {V : Type 0} {meaning : V → Tree} {s : Shape} {a c : State} {e : Asn1DerError}
    → RefusesIdentifier a c e → Refuses meaning s a c e
refuses_identifier {a = a} h = record {
  fails = h.refuses.fails;
  none = λ j end bs w v st. let m = h.missing j in nothing_whole m.0 m.1 w st;
  first = λ j k d l b left q. absurd (missing_first a (h.missing j).1 l q);
}
