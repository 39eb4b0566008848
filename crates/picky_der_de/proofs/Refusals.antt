-- Reads of the reader that failed, and the bytes of a refusal, after the consumed ones.
use Rattle.std.proofs.Common.{◌≡◌, ℕ, ◌<◌, List, [], Option, Some, None, IfSome, Result, Ok, Err, refl, sym, ◌∙◌, ap}
use Rattle.std.proofs.Common.{arith, subst, ◌≢◌, ◌+◌, ◌≤◌, ◌^◌, ◌⊎◌, inl, inr, ◌∷◌, ◌++◌, length, append_assoc}
use Rattle.std.proofs.Common.{length-append}
use Rattle.std.specs.Io.KnownBytes.{Keeps, Consumes, IsAtEnd}
use Rattle.std.specs.IoError.{error_kind}
use Rattle.std.specs.declared.io.Error.{Error}
use Rattle.picky_der_core.specs.declared.error.Asn1DerError.{Asn1DerError}
use Rattle.picky_der_core.specs.Failure.{failure_of}
use Rattle.picky_der_core.specs.declared.error.Asn1DerError.TheVariants.{TruncatedData}
use Rattle.picky_der_core.specs.Error.{error_of_kind}
use Rattle.picky_der_core.specs.Reader.{FailsOnce, ReportsFault}
use Rattle.picky_der_core.specs.ReaderLaws.{not_more}
use Rattle.picky_der_core.specs.Peeking.{count_of_any}
use Rattle.picky_der_de.specs.State.{State}
use Rattle.picky_der_de.specs.Steps.{Fails, IsOther, IsMissing, input_ended, HasFetched, Consumed, end_is_here}
use Rattle.picky_der_de.specs.Steps.{IsJudged, IsCut, error_at_end, mendable_within, mendable_limit, fetched_count}
use Rattle.picky_der_de.specs.declared.end.End.{End}
use Rattle.picky_der_de.specs.declared.end.End.TheVariants.{Limit, Soft, Hard}
use Rattle.picky_der_de.specs.Reading.{Concerns, now, ever, AllConcerned}
use Rattle.picky_der_de.proofs.Steps.{judged_after}

pub keeps_consumes : (i j : Option (List ℕ)) → Keeps i j → Consumes i j []
keeps_consumes None j k = tt
keeps_consumes (Some xs) None k = k
keeps_consumes (Some xs) (Some ys) k = sym k

fetched_none : (i : Option (List ℕ)) (n m : ℕ) → m ≡ n → HasFetched i n m
fetched_none None n m e = tt
fetched_none (Some bs) n m e = omega arith

-- nothing was left before either
pub ended_before : (i j : Option (List ℕ)) → Keeps i j → IsAtEnd j → IsAtEnd i
ended_before None j k h = tt
ended_before (Some xs) None k h = absurd k
ended_before (Some xs) (Some ys) k h = sym k ∙ h

-- why no byte came: the reader failed, and this is what that I/O error becomes; or the input has ended
pub data GivesNone (old new : State) (e : Asn1DerError) : Type 0 where
  fault : (error : Error) → e ≡ error_of_kind (error_kind error) → FailsOnce old.faults new.faults new.input error
      → GivesNone old new e
  end : new.faults ≡ old.faults → e ≡ TruncatedData → IsAtEnd old.input → GivesNone old new e

-- so it has failed, and nothing else changed
pub record StopsAt (old new : State) (e : Asn1DerError) : Type 0 where
  pub had_not_failed : old.failed ≡ None
  pub unpeeked : old.peeked ≡ None
  pub input : Keeps old.input new.input
  pub same : new ≡ record old { failed = Some (failure_of e); faults = new.faults; input = new.input }
  pub why : GivesNone old new e

module _ {old new : State} {e : Asn1DerError} (s : StopsAt old new e) where
  same_fetched : (p q : Option ℕ) → p ≡ q → count_of_any p ≡ count_of_any q
  same_fetched p q h = ap count_of_any h

  tells : GivesNone old new e → ReportsFault old.faults new.faults new.input e
  tells (fault error is once) = ReportsFault.fault (error_kind error) once is
  tells (end same is left) = ReportsFault.no_fault same

  no_other : GivesNone old new e → new.faults ≡ old.faults → IsOther e → ⊥
  no_other (fault error is once) same o = not_more (sym once ∙ same)
  no_other (end q is left) same o = absurd (subst IsOther is o)

  pub read_fails : Fails old new e
  read_fails =
      let peeked : new.peeked ≡ old.peeked = ap (λ (x : State). x.peeked) s.same in
      let consumed : new.consumed ≡ old.consumed = ap (λ (x : State). x.consumed) s.same in
      let until_end : new.until_end ≡ old.until_end = ap (λ (x : State). x.until_end) s.same in
      let limit : new.limit ≡ old.limit = ap (λ (x : State). x.limit) s.same in
      let p = same_fetched new.peeked old.peeked peeked in
      let z = same_fetched old.peeked None s.unpeeked in
      record {
        failed = ap (λ (x : State). x.failed) s.same;
        again = λ k w. absurd (let q : None ≡ Some k = sym s.had_not_failed ∙ w in cc);
        faults = tells s.why;
        unpeeked = λ more. peeked ∙ s.unpeeked;
        other = λ w. no_other s.why;
        took = record {
          bytes = [];
          input = keeps_consumes old.input new.input s.input;
          count =
              omega (arith, consumed);
        };
        grows = omega (arith, p, consumed);
        end = omega (arith, consumed, until_end);
        limit = limit;
        within = λ w. record {
          end = omega (arith, w.end, consumed, until_end, limit);
          fetched =
              omega (arith, w.fetched, p, consumed, limit);
        };
        there = λ w. fetched_none old.input old.consumed _ (omega (arith, p, z, consumed));
        references = ap (λ (x : State). x.references) s.same;
      }

  pub read_missing : 0 < old.until_end → new.faults ≡ old.faults → IsMissing old e
  read_missing r same = by_case s.why
    where
      by_case : GivesNone old new e → IsMissing old e
      by_case (fault error is once) = absurd (not_more (sym once ∙ same))
      by_case (end q is left) = input_ended r left is

-- a peeked byte would have been the result
pub unpeeked_at_error : {A : Type 0} (p : Option ℕ) (error : Error) (answer : ℕ → A)
    → IfSome p (λ b. ◌≡◌ {A = Result A Error} (Err error) (Ok (answer b))) → p ≡ None
unpeeked_at_error None error answer h = refl
unpeeked_at_error (Some b) error answer h = cc

pub unpeeked_at_end : (p : Option ℕ) → IfSome p (λ b. ◌≡◌ {A = Result (Option ℕ) Error} (Ok None) (Ok (Some b)))
    → p ≡ None
unpeeked_at_end None h = refl
unpeeked_at_end (Some b) h = cc

-- ---- the bytes of a refusal, after the consumed ones

-- ---- lists with a front

-- split after that front
pub split_after : (d h cs left : List ℕ) → d ++ left ≡ h ++ cs → length h ≤ length d
    → (e : List ℕ) × (d ≡ h ++ e) × (cs ≡ e ++ left)
split_after d [] cs left e l = (d, refl, sym e)
split_after [] (x ∷ h) cs left e l = absurd (omega arith)
split_after (y ∷ d) (x ∷ h) cs left e l =
    let q = split_after d h cs left (cc) (omega arith) in
    let p : y ≡ x = cc in
    let r : d ≡ h ++ q.0 = q.1 in
    (q.0, cc, q.2)

-- known bytes begin with the consumed ones
pub front_consumed : (i j : Option (List ℕ)) (h bs : List ℕ) → Consumes i j h → i ≡ Some bs
    → (cs : List ℕ) × (j ≡ Some cs) × (bs ≡ h ++ cs)
front_consumed None j h bs c e = absurd (let q : None ≡ Some bs = e in cc)
front_consumed (Some xs) None h bs c e = absurd c
front_consumed (Some xs) (Some ys) h bs c e = (ys, refl, cc)

-- ---- after what was consumed

pub record ConcernsAfter (old mid new : State) (e : Asn1DerError) (h : List ℕ) (end : ℕ) (bs : List ℕ) : Type 0 where
  pub left : ℕ
  pub rest : List ℕ
  pub begins : bs ≡ h ++ rest
  pub concerns : Concerns mid new e left rest
  -- the end is as much nearer, or as far as the limit lets it be
  pub ends : end ≤ length h + left

far_consumes : (e : End) (r s n : ℕ) → r ≡ n + s → mendable_within e r ≤ n + mendable_within e s
far_consumes Limit r s n h = omega arith
far_consumes Soft r s n h = omega arith
far_consumes Hard r s n h = omega arith

reach_consumes : {a b : State} {h : List ℕ} → Consumed a b h → mendable_limit a ≤ length h + mendable_limit b
reach_consumes {a} {b} {h} t =
    let same : mendable_limit b ≡ mendable_within a.end b.until_end =
    ap (λ (z : End). mendable_within z b.until_end) t.end in
    omega (arith, far_consumes a.end a.until_end b.until_end (length h) t.until_end, same)

-- what was consumed was consumed
pub failed_grows : {b c : State} {k : Asn1DerError} → Fails b c k → b.consumed ≤ fetched_count c
failed_grows f = omega (arith, f.grows)

pub cut_grows : {a c : State} {n : ℕ} {k : Asn1DerError} → (m : IsCut a c n k) → m.mid.consumed ≤ fetched_count c
cut_grows m = omega (arith, m.consumed)

pub concerns_after : {a b c : State} {k : Asn1DerError} {h : List ℕ} {end : ℕ} {bs : List ℕ} → Consumed a b h
    → b.consumed ≤ fetched_count c → Concerns a c k end bs → ConcernsAfter a b c k h end bs
concerns_after {a} {b} {c} {k} {h} {end} {bs} t f (now e r) =
    let q = front_consumed a.input b.input h bs t.input e in
    record { left = b.until_end; rest = q.0; begins = q.2; concerns = now q.1 refl; ends = omega (arith, t.until_end) }
concerns_after {a} {b} {c} {k} {h} {end} {bs} t f (ever n r d y left e m g) =
    let q = front_consumed a.input b.input h (d ++ left) t.input e in
    let p = split_after d h q.0 left q.2 (omega (arith, f, t.consumed)) in
    let i : b.input ≡ Some (p.0 ++ left) = q.1 ∙ ap (λ (z : List ℕ). Some z) p.2 in
    let u : bs ≡ h ++ (p.0 ++ y) = g ∙ ap (λ (z : List ℕ). z ++ y) p.1 ∙ append_assoc h p.0 y in
    let v : length d ≡ length h + length p.0 = ap (λ (z : List ℕ). length z) p.1 ∙ length-append h p.0 in
    record {
      left = mendable_limit b;
      rest = p.0 ++ y;
      begins = u;
      concerns =
          ever n refl p.0 y left i (omega (arith, t.consumed)) refl;
      ends = omega (arith, reach_consumes t);
    }

-- what is known of the bytes after is known of all
pub tells_after : {a b c : State} {k : Asn1DerError} {h : List ℕ} (P : ℕ → List ℕ → Type 0) → Consumed a b h
    → Fails b c k
    → (IsJudged b c k → (end left : ℕ) (rest : List ℕ) → end ≤ length h + left → Concerns b c k left rest
    → P end (h ++ rest)) → AllConcerned a c k P
tells_after P t f p = λ j end bs k. let w = concerns_after t (failed_grows f) k in
    rw w.begins (p (judged_after t j) end w.left w.rest w.ends w.concerns)

-- ---- ends

error_at_end_final : (e : End) (until_end : ℕ) (k : Asn1DerError) → k ≡ error_at_end e → k ≢ TruncatedData
    → mendable_within e until_end ≡ until_end
error_at_end_final Limit until_end k e n = absurd (n e)
error_at_end_final Soft until_end k e n = absurd (n e)
error_at_end_final Hard until_end k e n = refl

pub at_end_of : (i : Option (List ℕ)) (bs : List ℕ) → IsAtEnd i → i ≡ Some bs → bs ≡ []
at_end_of None bs h e = absurd (let q : None ≡ Some bs = e in cc)
at_end_of (Some xs) bs h e = let p : xs ≡ bs = cc in sym p ∙ h

-- no byte came: the end is here, or nothing is left
pub missing_here : {b c : State} {k : Asn1DerError} {end : ℕ} {bs : List ℕ} → IsMissing b k → Concerns b c k end bs
    → (end ≡ 0) ⊎ (bs ≡ [])
missing_here {b} {c} {k} {end} {bs} (end_is_here z m) (now e r) = inl (r ∙ z)
missing_here {b} {c} {k} {end} {bs} (input_ended l z m) (now e r) = inr (at_end_of b.input bs z e)
missing_here {b} {c} {k} {end} {bs} (end_is_here z m) (ever n r d y left e q f) =
    inl (r ∙ error_at_end_final b.end b.until_end k m n ∙ z)
missing_here {b} {c} {k} {end} {bs} (input_ended l z m) (ever n r d y left e q f) = absurd (n m)

-- a length that reaches past the end
pub past_end : {b c : State} {k : Asn1DerError} {end : ℕ} {bs : List ℕ} {n : ℕ} → k ≡ error_at_end b.end
    → b.until_end < n → Concerns b c k end bs → end < n
past_end {b} {c} {k} {end} {bs} {n} h l (now e r) = omega arith
past_end {b} {c} {k} {end} {bs} {n} h l (ever w r d y left e q f) =
    let g : end ≡ b.until_end = r ∙ error_at_end_final b.end b.until_end k h w in
    omega arith

far_below : (e : End) (until_end : ℕ) → until_end < 2 ^ 64 → mendable_within e until_end < 2 ^ 64
far_below Limit until_end h = omega arith
far_below Soft until_end h = h
far_below Hard until_end h = h

-- ends are 64-bit numbers
pub end_below : {a c : State} {k : Asn1DerError} {end : ℕ} {bs : List ℕ} → a.until_end < 2 ^ 64 → Concerns a c k end bs
    → end < 2 ^ 64
end_below {a} h (now e r) = omega arith
end_below {a} h (ever n r d y left e q f) = omega (arith, far_below a.end a.until_end h)

-- ---- first bytes

pub missing_first : (s : State) {k : Asn1DerError} {b : ℕ} {left : List ℕ} → IsMissing s k → 0 < s.until_end
    → s.input ≡ Some (b ∷ left) → ⊥
missing_first s {k} {b} {left} (end_is_here z m) l e = omega arith
missing_first s {k} {b} {left} (input_ended r z m) l e = let q : b ∷ left ≡ [] = at_end_of s.input (b ∷ left) z e in cc

pub consumed_first : (i j : Option (List ℕ)) (x y : ℕ) (h left : List ℕ) → Consumes i j (x ∷ h) → i ≡ Some (y ∷ left)
    → y ≡ x
consumed_first i j x y h left t e = let q = front_consumed i j (x ∷ h) (y ∷ left) t e in
    let p : y ∷ left ≡ x ∷ (h ++ q.0) = q.2 in cc
