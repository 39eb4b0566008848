-- What is written in one wrapper more.
use Rattle.std.proofs.Common.{◌≡◌, ℕ, ◌&&◌, true, false, Bool, List, [], ◌∷◌, ◌++◌, length, None, Some, refl}
use Rattle.std.proofs.Common.{sym, ap}
use Rattle.std.proofs.Common.{subst, Result, Ok, Err, IfOk, IfErr, ◌<◌, ◌^◌, ◌≤◌, ◌∙◌, inl, inr, arith, length-append}
use Rattle.std.proofs.Common.{cond, nat_lt}
use Rattle.std.specs.Prelude.{IfSome, IfNone, IsTrue}
use Rattle.picky_der_core.specs.WrapperLaws.{tag_number_tells}
use Rattle.picky_der_core.specs.OpenWrapperLaws.{AreAlike, alike-under, der-alike, present-under}
use Rattle.picky_der_core.specs.OpenWrapperLaws.{der-under_absent}
use Rattle.picky_der_core.specs.OpenWrappers.{under}
use Rattle.picky_der_core.specs.Failure.{failure_of}
use Rattle.picky_der_core.specs.declared.asn1.wrapper.Wrapper.{Wrapper}
use Rattle.picky_der_core.specs.declared.misc.writer.WriteExt.{Ghosts}
use Rattle.picky_der_core.specs.WriterFaults.{IsOnceAtMost}
use Rattle.picky_der_core.specs.declared.error.Asn1DerError.{Asn1DerError}
use Rattle.picky_der_core.specs.Tree.{Tree, is_absent}
use Rattle.picky_der_core.specs.Encoding.{der, tree_bytes, with_header}
use Rattle.picky_der_core.specs.EncodingLaws.{der-absent, der-wrapped, der-wrapped_present, implicit_content-other}
use Rattle.picky_der_core.specs.Wrapper.{wrapper_tag, wrapper_front, keeps_header, HasTagNumber}
use Rattle.picky_der_core.specs.Readable.{has_tag_numbers, IsWritable}
use Rattle.picky_der_ser.specs.Headers.{tree_of, is_set, CanAllBeOpen}
use Rattle.picky_der_ser.specs.State.{State, Level, Writing, with_member, final_content, beneath}
use Rattle.picky_der_ser.specs.Calls.{AddsIn, RefusesIn, Writes, RefusesWrite, UntouchedUnlessFailed}
use Rattle.picky_der_ser.specs.Calls.{MemoryExcuse, OpensLevel, AddsMember, RefusesToAdd, WritesContent, EndsLevel}
use Rattle.picky_der_ser.proofs.Alike.{past_under, unwritable-by, refused_unwritable, writes-alike, fails-alike}
use Rattle.picky_der_ser.proofs.Alike.{adds_none, can_vanish-open}
use Rattle.picky_der_ser.proofs.StateWrites.{numbers_writable}
use Rattle.picky_der_core.specs.declared.asn1.wrapper.Wrapper.TheVariants as wrapper
use Rattle.picky_der_core.specs.declared.error.Asn1DerError.TheVariants.{UnsupportedValue}
use Rattle.picky_der_core.specs.Tag.{is_tag_number}
use Rattle.picky_der_ser.specs.declared.header.Header.{Header}
use Rattle.picky_der_ser.specs.declared.header.Header.TheVariants.{Application, Raw}
use Rattle.picky_der_ser.proofs.HeaderBytes.{der-holds, length-opened}
use Rattle.picky_der_ser.proofs.ListBytes.{numbers_inside, second_of, final_content-uncut}
use Rattle.picky_der_ser.proofs.MemberWrites.{refused_part, writes_whatever, fails_whatever}

-- ---- the first wrapper

module _ {W : Type 0} (g : Ghosts W) where
  -- in no wrapper but this
  in_this : (ws : List Wrapper) (w : Wrapper) (t : Tree) → ws ≡ [] → under (w ∷ []) t ≡ under ws (Tree.wrapped w t)
  in_this ws w t e = ap (λ us. under us (Tree.wrapped w t)) (sym e)

  pub writes-wrapped : (w : Wrapper) (t : Tree) (old mid new : State W) (r : Result ℕ Asn1DerError) → old.around ≡ []
      → mid ≡ record old { around = w ∷ []; pending = None } → IfOk r (λ n. Writes g t mid n new)
      → IfOk r (λ n. Writes g (Tree.wrapped w t) old n new)
  writes-wrapped w t old mid new (Ok n) bare is h =
      let k : Writes g t (record old { around = w ∷ []; pending = None }) n new =
      subst (λ m. Writes g t m n new) is h in
      let u = in_this old.around w t bare in
      record {
        had_not_failed = k.had_not_failed;
        writable = subst IsWritable u k.writable;
        count = k.count ∙ ap (λ v. length (der v)) u;
        adds = subst (λ v. AddsIn g old.inside new.inside old.sink new.sink (der v)) u k.adds;
        closed = k.closed;
        not_failed = k.not_failed;
        no_fault = k.no_fault;
      }
  writes-wrapped w t old mid new (Err e) bare is h = tt

  pub fails-wrapped : (w : Wrapper) (t : Tree) (old mid new : State W) (r : Result ℕ Asn1DerError) → old.around ≡ []
      → mid ≡ record old { around = w ∷ []; pending = None } → IfErr r (λ e. RefusesWrite g t mid e new)
      → IfErr r (λ e. RefusesWrite g (Tree.wrapped w t) old e new)
  fails-wrapped w t old mid new (Ok n) bare is h = tt
  fails-wrapped w t old mid new (Err e) bare is h =
      let k : RefusesWrite g t (record old { around = w ∷ []; pending = None }) e new =
      subst (λ m. RefusesWrite g t m e new) is h in
      let u = in_this old.around w t bare in
      record {
        failed = k.failed;
        again = k.again;
        reason =
            subst (λ v. IfNone old.failed (RefusesIn g old.inside v old.sink e new.sink)) u k.reason;
      }

  -- a tag that can't be written
  pub fails-past : (w : Wrapper) (t : Tree) (old : State W) → (HasTagNumber w → ⊥) → old.failed ≡ None
      → RefusesWrite g (Tree.wrapped w t) old UnsupportedValue
      (record old { failed = Some (failure_of UnsupportedValue) })
  fails-past w t old past f =
      let u = under old.around (Tree.wrapped w t) in
      record {
        failed = refl;
        again = rw f tt;
        reason = rw f (refused u (past_under old.around (Tree.wrapped w t) number));
      }
    where
      number : has_tag_numbers (Tree.wrapped w t) ≡ false
      number = elim (tag_number_tells w) [
        | inl few ↦ absurd (past few.1)
        | inr many ↦ ap (λ b. b && has_tag_numbers t) many.0
      ]

      refused : (u : Tree) → has_tag_numbers u ≡ false → RefusesIn g old.inside u old.sink UnsupportedValue old.sink
      refused u n = refused_unwritable g old.inside u old.sink (unwritable-by u n)

-- ---- a level with one member

module _ {W : Type 0} (g : Ghosts W) (header : Header) (plain : is_set header ≡ false) (t : Tree) (old : State W)
    (now : Writing W) (o : OpensLevel g header old now) where
  abbrev full : Level
  full = record { header = header; around = old.around; content = der t; seams = [] }

  gained : (d : Writing W) → AddsMember g t now d → d ≡ record {
    sink = old.sink;
    failed = None;
    inside = old.inside;
    level = full;
  }
  gained d h =
      let seams : cond (is_set header && nat_lt 0 0) ([] ++ (0 ∷ [])) [] ≡ [] =
      ap (λ b. cond (b && nat_lt 0 0) ([] ++ (0 ∷ [])) []) plain in
      h.added ∙ ap (λ (s : Writing W). record {
        sink = s.sink;
        failed = None;
        inside = s.inside;
        level = with_member s.level (der t);
      }) o.opened ∙ ap (λ q. record {
        sink = old.sink;
        failed = None;
        inside = old.inside;
        level = record { header = header; around = old.around; content = der t; seams = q };
      }) seams

  ended : (d : Writing W) (new : State W) (r : Result ℕ Asn1DerError) → AddsMember g t now d → EndsLevel g d r new
      → WritesContent g header (der t) (record old { pending = None }) r new
  ended d new r h f =
      let none : old.failed ≡ None = sym (ap (λ (s : Writing W). s.failed) o.opened) ∙ h.had_not_failed in
      let at : WritesContent g header (final_content full)
      (record { sink = old.sink; around = old.around; failed = None; inside = old.inside; pending = None }) r new =
      subst (λ s. WritesContent g s.level.header (final_content s.level) (beneath s) r new) (gained d h) f.ended in
      subst (λ e. WritesContent g header (der t)
      (record { sink = old.sink; around = old.around; failed = e; inside = old.inside; pending = None }) r new)
      (sym none) (subst (λ c. WritesContent g header c
      (record { sink = old.sink; around = old.around; failed = None; inside = old.inside; pending = None }) r new)
      (final_content-uncut full refl) at)

  pub one_wrote : (u : Tree) (d : Writing W) (new : State W) (r : Result ℕ Asn1DerError)
      → AreAlike (tree_of header (der t)) u → AddsMember g t now d → EndsLevel g d r new
      → IfOk r (λ n. Writes g u old n new)
  one_wrote u d new r a h f =
      writes-alike g _ u old new r a (writes_whatever g _ old new None r (ended d new r h f).wrote)

  pub one_failed : (u : Tree) (d : Writing W) (new : State W) (r : Result ℕ Asn1DerError)
      → AreAlike (tree_of header (der t)) u → AddsMember g t now d → EndsLevel g d r new
      → IfErr r (λ e. RefusesWrite g u old e new)
  one_failed u d new r a h f =
      fails-alike g _ u old new r a (fails_whatever g _ old new None r (ended d new r h f).failed)

  pub one_untouched : (d : Writing W) (new : State W) (r : Result ℕ Asn1DerError) → AddsMember g t now d
      → EndsLevel g d r new → IfErr r (λ e. UntouchedUnlessFailed g old.sink e new.sink)
  one_untouched d new r h f = (ended d new r h f).untouched

  pub one_counted : (d : Writing W) (new : State W) (r : Result ℕ Asn1DerError) → AddsMember g t now d
      → EndsLevel g d r new → IsOnceAtMost (g.faults old.sink) (g.faults new.sink)
  one_counted d new r h f = (ended d new r h f).counted

  pub one_continues : (d : Writing W) (new : State W) (r : Result ℕ Asn1DerError) → AddsMember g t now d
      → EndsLevel g d r new → g.later old.sink new.sink
  one_continues d new r h f = (ended d new r h f).continues

  -- the member was refused, so nothing reached the sink
  pub one_kept : (last : Writing W) (e : Asn1DerError) → RefusesToAdd g t now e last → last.sink ≡ old.sink
  one_kept last e h = h.same ∙ ap (λ (s : Writing W). s.sink) o.opened

  -- the member was refused
  pub one_refused : (u : Tree) (last : Writing W) (new : State W) (d e : Asn1DerError)
      → (IsWritable (under old.around u) → IsWritable t) → RefusesToAdd g t now e last → new.sink ≡ last.sink
      → new.failed ≡ last.failed → d ≡ e → RefusesWrite g u old d new
  one_refused u last new d e part h same_sink same_failed i =
      let failed : now.failed ≡ old.failed = ap (λ (s : Writing W). s.failed) o.opened in
      let sink : new.sink ≡ old.sink = same_sink ∙ h.same ∙ ap (λ (s : Writing W). s.sink) o.opened in
      rw i (refused_part g u old new e part (same_failed ∙ h.failed) sink
      (subst (λ f. IfSome f (λ k. failure_of e ≡ k)) failed h.again)
      (subst (λ f. IfNone f (MemoryExcuse (IsWritable t) e)) failed h.reason))

-- ---- an application tag

written_alike : (n : ℕ) (t : Tree) (header : Bool)
    → tree_bytes header (Tree.wrapped (wrapper.Application n) (Tree.raw (der t))) ≡ tree_bytes header
    (Tree.wrapped (wrapper.Application n) t)
unfolding tree_bytes der
written_alike n t header = refl

-- around the bytes of a tree it is written as around the tree
pub alike_application : (n : ℕ) (t : Tree) → IsTrue (has_tag_numbers t)
    → AreAlike (Tree.wrapped (wrapper.Application n) (Tree.raw (der t))) (Tree.wrapped (wrapper.Application n) t)
alike_application n t h = record {
  written_same = written_alike n t;
  absent_same = refl;
  numbers_same =
      sym (ap (λ b. is_tag_number n && b) h);
}

-- what it holds can be written, if it can
pub application_part : (ws : List Wrapper) (n : ℕ) (t : Tree)
    → IsWritable (under ws (Tree.wrapped (wrapper.Application n) t)) → IsWritable t
application_part ws n t w =
    let numbers =
    second_of (is_tag_number n) (has_tag_numbers t)
    (numbers_inside ws (Tree.wrapped (wrapper.Application n) t) w.numbers) in
    let same = der-alike _ _ (alike-under ws _ _ (alike_application n t numbers)) in
    record { numbers = numbers; fits = omega (arith, w.fits, ap length same, der-holds ws (Application n) (der t)) }

module _ {W : Type 0} (g : Ghosts W) where
  -- a tag number past 30
  pub application_past : (n : ℕ) (t : Tree) (old : State W) → 30 < n → old.failed ≡ None
      → RefusesWrite g (Tree.wrapped (wrapper.Application n) t) old UnsupportedValue
      (record old { failed = Some (failure_of UnsupportedValue) })
  application_past n t old h f = fails-past g (wrapper.Application n) t old (λ k. omega (arith, h, k)) f

-- ---- a wrapper in another one

same_bytes : (w : Wrapper) (t : Tree) (header : Bool)
    → tree_bytes header (Tree.raw (der (Tree.wrapped w t))) ≡ tree_bytes header (Tree.wrapped w t)
unfolding tree_bytes der
same_bytes w t header = refl

-- what is there is written as its bytes are
pub alike_wrapped : (w : Wrapper) (t : Tree) → is_absent (Tree.wrapped w t) ≡ false
    → IsTrue (has_tag_numbers (Tree.wrapped w t)) → AreAlike (Tree.raw (der (Tree.wrapped w t))) (Tree.wrapped w t)
alike_wrapped w t there h = record {
  written_same = same_bytes w t;
  absent_same = sym there;
  numbers_same = sym h;
}

-- something is written of what is there
pub there_by : (w : Wrapper) (t : Tree) (n : ℕ) → n ≡ length (der (Tree.wrapped w t)) → (n ≡ 0 → ⊥)
    → is_absent (Tree.wrapped w t) ≡ false
there_by w t n count some = by_cases (is_absent (Tree.wrapped w t)) refl
  where
    by_cases : (b : Bool) → is_absent (Tree.wrapped w t) ≡ b → is_absent (Tree.wrapped w t) ≡ false
    by_cases false e = e
    by_cases true e = absurd (some (count ∙ ap length (der-absent (Tree.wrapped w t) e)))

pub absent_by : (w : Wrapper) (t : Tree) → 0 ≡ length (der (Tree.wrapped w t)) → is_absent (Tree.wrapped w t) ≡ true
absent_by w t count = by_cases (is_absent (Tree.wrapped w t)) refl
  where
    by_cases : (b : Bool) → is_absent (Tree.wrapped w t) ≡ b → is_absent (Tree.wrapped w t) ≡ true
    by_cases true e = e
    by_cases false e =
        let more = length-opened (wrapper_tag w) (wrapper_front w ++ with_header (keeps_header w) t) in
        absurd (omega (arith, count, ap length (der-wrapped w t e), more))

kept_whole : (keeps : Bool) (w : Wrapper) (t : Tree) → with_header keeps (Tree.wrapped w t) ≡ der (Tree.wrapped w t)
kept_whole true w t = refl
kept_whole false w t = implicit_content-other (Tree.wrapped w t) refl tt

holds_wrapped : (keeps : Bool) (ws : List Wrapper) (w : Wrapper) (t : Tree) → is_absent (Tree.wrapped w t) ≡ false
    → length (der (Tree.wrapped w t)) ≤ length (with_header keeps (under ws (Tree.wrapped w t)))
holds_wrapped keeps [] w t there = omega (arith, ap length (kept_whole keeps w t))
holds_wrapped keeps (v ∷ ws) w t there =
    let u = under ws (Tree.wrapped w t) in
    let bs = with_header (keeps_header v) u in
    let is = kept_whole keeps v u ∙ der-wrapped_present v u (present-under ws (Tree.wrapped w t) there) in
    omega (
      arith,
      ap length is,
      length-opened (wrapper_tag v) (wrapper_front v ++ bs),
      length-append (wrapper_front v) bs,
      holds_wrapped (keeps_header v) ws w t there,
    )

-- it can be written, if it can in other wrappers
pub wrapped_part : (ws : List Wrapper) (w : Wrapper) (t : Tree) → IsWritable (under ws (Tree.wrapped w t))
    → IsWritable (Tree.wrapped w t)
wrapped_part ws w t h =
    record {
      numbers = numbers_inside ws (Tree.wrapped w t) h.numbers;
      fits = by_cases (is_absent (Tree.wrapped w t)) refl;
    }
  where
    by_cases : (b : Bool) → is_absent (Tree.wrapped w t) ≡ b → length (der (Tree.wrapped w t)) < 2 ^ 64
    by_cases true e = omega (arith, ap length (der-absent (Tree.wrapped w t) e))
    by_cases false e = omega (arith, h.fits, holds_wrapped true ws w t e)

module _ {W : Type 0} (g : Ghosts W) where
  -- nothing was written in it, so nothing is of it
  pub nested_absent : (w : Wrapper) (t : Tree) (old new : State W) (now d : Writing W) → OpensLevel g Raw old now
      → CanAllBeOpen old.around → AddsMember g (Tree.wrapped w t) now d → 0 ≡ length (der (Tree.wrapped w t))
      → new.inside ≡ d.inside → new.sink ≡ d.sink → new.failed ≡ d.failed → new.around ≡ []
      → Writes g (Tree.wrapped w t) old 0 new
  nested_absent w t old new now d o all a count inside sink failed around =
      let u = Tree.wrapped w t in
      let none : der (under old.around u) ≡ [] =
      der-under_absent old.around u (can_vanish-open old.around all) (absent_by w t count) in
      let held : new.inside ≡ old.inside = inside ∙ ap (λ (s : Writing W). s.inside) a.added
      ∙ ap (λ (s : Writing W). s.inside) o.opened in
      let same : new.sink ≡ old.sink = sink ∙ ap (λ (s : Writing W). s.sink) a.added
      ∙ ap (λ (s : Writing W). s.sink) o.opened in
      record {
        had_not_failed = sym (ap (λ (s : Writing W). s.failed) o.opened) ∙ a.had_not_failed;
        writable = record {
          numbers = numbers_writable old.around u all a.writable.numbers;
          fits = rw none (omega arith);
        };
        count = ap length (sym none);
        adds = rw (none, held, same) (adds_none g old.inside old.sink);
        closed = around;
        not_failed = failed ∙ ap (λ (s : Writing W). s.failed) a.added;
        no_fault = ap g.faults same;
      }
