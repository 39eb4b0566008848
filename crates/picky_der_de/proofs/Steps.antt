-- Steps of a deserializer, one after another.
use Rattle.std.proofs.Common.{◌≡◌, ℕ, ◌+◌, ◌≤◌, List, [], ◌++◌, length, Option, Some, None, refl, sym, subst, ◌∙◌, ap}
use Rattle.std.proofs.Common.{arith, length-append}
use Rattle.std.specs.Io.KnownBytes.{Consumes}
use Rattle.std.proofs.KnownBytes.{Consumes-nil, Consumes-trans, Keeps-refl}
use Rattle.picky_der_core.specs.declared.error.Asn1DerError.{Asn1DerError}
use Rattle.picky_der_core.specs.Failure.{failure_of}
use Rattle.picky_der_core.specs.Peeking.{count_of_any}
use Rattle.picky_der_core.specs.Reader.{ReportsFault}
use Rattle.picky_der_de.specs.declared.end.End.{End}
use Rattle.picky_der_de.specs.State.{State}
use Rattle.picky_der_de.specs.Steps.{Consumed, ConsumesSome, Fails, IsWithin, IsUnmoved, HasFetched, IsJudged}
use Rattle.picky_der_de.specs.Steps.{fetched_count}

pub consumes_then : {a b c : State} {x y : List ℕ} → Consumed a b x → Consumed b c y → Consumed a c (x ++ y)
consumes_then {a} {b} {c} {x} {y} h k = record {
  input = Consumes-trans a.input b.input c.input x y h.input k.input;
  consumed = omega (arith, length-append x y);
  until_end = omega (arith, length-append x y);
  end = k.end ∙ h.end;
  limit = k.limit ∙ h.limit;
  last = k.last ∙ h.last;
  unpeeked = k.unpeeked;
  fetched = omega (arith, h.fetched, k.fetched);
  had_not_failed = h.had_not_failed;
  not_failed = k.not_failed;
  faults = k.faults ∙ h.faults;
  references = k.references ∙ h.references;
}

-- nothing is consumed
pub consumes_none : (a : State) → a.failed ≡ None → a.peeked ≡ None → Consumed a a []
consumes_none a h p = record {
  input = Consumes-nil a.input;
  consumed = omega arith;
  until_end = omega arith;
  end = refl;
  limit = refl;
  last = refl;
  unpeeked = p;
  fetched = let e : count_of_any a.peeked ≡ 0 = ap count_of_any p in omega (arith, e);
  had_not_failed = h;
  not_failed = h;
  faults = refl;
  references = refl;
}

-- the same but for the innermost end, the last member and the implicit tag
abbrev pub beside : State → ℕ → End → Option (List ℕ) → Option ℕ → State
beside s n kind last tag = record s { until_end = n; end = kind; last = last; implicit_tag = tag }

-- what was consumed before one end was consumed before another
pub consumes_beside : {a c : State} {x : List ℕ} {n m : ℕ} {i j : End} {s u : Option (List ℕ)} {d g : Option ℕ}
    → a.until_end ≡ length x + m → j ≡ a.end → u ≡ a.last → Consumed (beside a n i s d) c x
    → Consumed a (beside c m j u g) x
consumes_beside ends kind same t = record {
  input = t.input;
  consumed = t.consumed;
  until_end = ends;
  end = kind;
  limit = t.limit;
  last = same;
  unpeeked = t.unpeeked;
  fetched = t.fetched;
  had_not_failed = t.had_not_failed;
  not_failed = t.not_failed;
  faults = t.faults;
  references = t.references;
}

-- a call that failed before a nearer end failed before the one around it
pub fails_beside : {a c : State} {e : Asn1DerError} {n : ℕ} {i : End} {s : Option (List ℕ)} {d : Option ℕ}
    → n ≤ a.until_end
    → Fails (beside a n i s d) c e → Fails a c e
fails_beside nearer f = record {
  failed = f.failed;
  again = λ k w. let q = f.again k w in
      (q.0, record { input = q.1.input; consumed = q.1.consumed; peeked = q.1.peeked; faults = q.1.faults });
  faults = f.faults;
  unpeeked = f.unpeeked;
  other = f.other;
  took = record { bytes = f.took.bytes; input = f.took.input; count = f.took.count };
  grows = f.grows;
  end = omega (arith, f.end);
  limit = f.limit;
  within = λ w. f.within (record { end = omega (arith, w.end); fetched = w.fetched });
  there = f.there;
  references = f.references;
}

pub there_after : (i j : Option (List ℕ)) (h : List ℕ) (s t n : ℕ) → Consumes i j h → t ≡ s + length h
    → HasFetched j t n → HasFetched i s n
there_after None j h s t n c e f = tt
there_after (Some xs) None h s t n c e f = absurd c
there_after (Some xs) (Some ys) h s t n c e f = omega (arith, ap length c, length-append h ys)

pub consumes_within : {a b : State} {x : List ℕ} → Consumed a b x → IsWithin a → IsWithin b
consumes_within {a} {b} {x} h w =
    let e : count_of_any b.peeked ≡ 0 = ap count_of_any h.unpeeked in
    record {
      end = omega (arith, w.end, h.consumed, h.until_end, h.limit);
      fetched =
          omega (arith, w.end, h.consumed, h.until_end, h.limit, e);
    }

took_after : {a b c : State} {x : List ℕ} → Consumed a b x → ConsumesSome b c → ConsumesSome a c
took_after {a} {b} {c} {x} h t = record {
  bytes = x ++ t.bytes;
  input = Consumes-trans a.input b.input c.input x t.bytes h.input t.input;
  count = omega (arith, length-append x t.bytes, h.consumed, t.count);
}

-- a call failed after bytes that were consumed
pub fails_after : {a b c : State} {x : List ℕ} {e : Asn1DerError} → Consumed a b x → Fails b c e → Fails a c e
fails_after {a} {b} {c} {x} {e} h f =
    let p : count_of_any b.peeked ≡ 0 = ap count_of_any h.unpeeked in
    record {
      failed = f.failed;
      again = λ k w. absurd (let q : None ≡ Some k = sym h.had_not_failed ∙ w in cc);
      faults = subst (λ l. ReportsFault l c.faults c.input e) h.faults f.faults;
      unpeeked = λ more. f.unpeeked (λ same. more (same ∙ h.faults));
      other = λ w same. f.other h.not_failed (same ∙ sym h.faults);
      took = took_after h f.took;
      grows = omega (arith, f.grows, h.fetched, p);
      end = omega (arith, f.end, h.consumed, h.until_end);
      limit = f.limit ∙ h.limit;
      within = λ w. f.within (consumes_within h w);
      there = λ w. there_after a.input b.input x a.consumed b.consumed (fetched_count c) h.input h.consumed
          (f.there h.not_failed);
      references = f.references ∙ h.references;
    }

pub judged_after : {a b c : State} {x : List ℕ} {e : Asn1DerError} → Consumed a b x → IsJudged a c e → IsJudged b c e
judged_after h j = record {
  had_not_failed = h.not_failed;
  faults = j.faults ∙ sym h.faults;
  memory = j.memory;
}

pub IsUnmoved-refl : (a : State) → IsUnmoved a a
IsUnmoved-refl a = record { input = Keeps-refl a.input; consumed = refl; peeked = refl; faults = refl }

took_none : (a : State) → ConsumesSome a a
took_none a = record { bytes = []; input = Consumes-nil a.input; count = omega arith }

-- it had failed before
pub fails_again : (a : State) {e : Asn1DerError} → a.failed ≡ Some (failure_of e) → Fails a a e
fails_again a {e} h = record {
  failed = h;
  again = λ f w. (let q : Some (failure_of e) ≡ Some f = sym h ∙ w in cc, IsUnmoved-refl a);
  faults = ReportsFault.no_fault refl;
  unpeeked = λ more. absurd (more refl);
  other = λ w. absurd (let q : None ≡ Some (failure_of e) = sym w ∙ h in cc);
  took = took_none a;
  grows = omega arith;
  end = omega arith;
  limit = refl;
  within = λ w. w;
  there = λ w. absurd (let q : None ≡ Some (failure_of e) = sym w ∙ h in cc);
  references = refl;
}
