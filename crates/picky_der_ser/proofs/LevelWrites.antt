-- What a serializer does with a level, seen from its state.
use Rattle.std.proofs.Common.{◌≡◌, ◌≢◌, ℕ, ◌<◌, ◌^◌, true, List, [], ◌++◌, length, take, drop, Option, None}
use Rattle.std.proofs.Common.{Some}
use Rattle.std.proofs.Common.{refl, sym, ap, ◌∙◌, arith, subst, Result, Ok, Err, IfOk, OnOk, IfErr, OnErr}
use Rattle.std.specs.Prelude.{IfNone}
use Rattle.std.specs.Io.KnownBytes.{Appends}
use Rattle.std.proofs.Math.Seq.{drop-append_seam}
use Rattle.std.proofs.lemmas.List.{length-take-le}
use Rattle.picky_der_core.specs.declared.asn1.wrapper.Wrapper.{Wrapper}
use Rattle.picky_der_core.specs.declared.failure.Failure.{Failure}
use Rattle.picky_der_core.specs.declared.misc.writer.WriteExt.{Ghosts}
use Rattle.picky_der_core.specs.declared.error.Asn1DerError.{Asn1DerError}
use Rattle.picky_der_core.specs.Failure.{failure_of}
use Rattle.picky_der_core.specs.Tree.{Tree}
use Rattle.picky_der_core.specs.Encoding.{der}
use Rattle.picky_der_core.specs.OpenWrappers.{under}
use Rattle.picky_der_core.specs.Readable.{IsWritable}
use Rattle.picky_der_core.specs.Writer.{AppendsTooFew}
use Rattle.picky_der_core.specs.WriterFaults.{WriterFails, once_at_most}
use Rattle.picky_der_ser.specs.declared.header.Header.{Header}
use Rattle.picky_der_ser.specs.declared.levels.Mark.{Mark}
use Rattle.picky_der_ser.specs.declared.levels.Place.{Place}
use Rattle.picky_der_ser.specs.declared.levels.Place.TheVariants as place
use Rattle.picky_der_ser.specs.Headers.{tree_of, wrappers, CanAllBeOpen}
use Rattle.picky_der_ser.specs.State.{Level, Held, Stack, State, Writing, extended, stack, beneath, final_content}
use Rattle.picky_der_ser.specs.Marks.{level_at, level_in, first, inside_at, is_open, outside, enclosed, writing, IsMark}
use Rattle.picky_der_ser.specs.Marks.{IsOpen, Opens}
use Rattle.picky_der_ser.specs.Sequences.{HasOpenLevel}
use Rattle.picky_der_ser.specs.Calls.{OpensLevel, EntersLevel, EndsLevel, RefusesIn, RefusesWrite, RefusesToAdd}
use Rattle.picky_der_ser.specs.Calls.{MemoryExcuse}
use Rattle.picky_der_ser.proofs.LevelMarks.{within, held_is, open_member}
use Rattle.picky_der_ser.proofs.StateWrites.{writable_counted, wrote_by, refused_by, ends_inside, ends_outside, on_ok}
use Rattle.picky_der_ser.proofs.StateWrites.{fails_memory}
use Rattle.picky_der_core.specs.declared.error.Asn1DerError.TheVariants.{OutOfMemory}

-- what is written of the level of this mark
abbrev pub encoding_at : Mark → Held → List ℕ
encoding_at m h = der (under (wrappers m.around) (tree_of m.header (final_content (level_at m h))))

-- it is at the end of what is held
pub enclosed_rest : (m : Mark) (h : Held) → IsMark m h → drop m.at (enclosed m h).bytes ≡ encoding_at m h
enclosed_rest m h k =
    let size : length (take m.at h.bytes) ≡ m.at = length-take-le m.at h.bytes (omega (arith, k.room, within k)) in
    ap (λ n. drop n (take m.at h.bytes ++ encoding_at m h)) (sym size)
    ∙ drop-append_seam (take m.at h.bytes) (encoding_at m h)

-- what an open place outside levels has around it
in_sink : (p : Place) (n f : ℕ) (h : Held) → is_open p ≡ true → (p ≡ place.OpenMember → ⊥) → inside_at p n f h ≡ None
in_sink place.Member n f h o away = absurd (cc)
in_sink place.WrappedMember n f h o away = absurd (cc)
in_sink place.OpenMember n f h o away = absurd (away refl)
in_sink place.Sink n f h o away = absurd (cc)
in_sink place.WrappedSink n f h o away = absurd (cc)
in_sink place.OpenSink n f h o away = refl

-- and one in a level
pub in_member : (p : Place) (n f : ℕ) (h : Held) → p ≡ place.OpenMember → inside_at p n f h ≢ None
in_member p n f h e x =
    let some : inside_at p n f h ≡ Some (first n f h) = ap (λ q. inside_at q n f h) e in
    let both : Some (first n f h) ≡ None = sym some ∙ x in
    cc

module _ {W : Type 0} where
  -- the level of the mark, where this is held
  abbrev level_writing : Mark → State W → Held → Writing W
  level_writing m s h = record { sink = s.sink; failed = s.failed; inside = s.inside; level = level_at m h }

  writing_at : (m : Mark) (s : State W) (h : Held) → s.pending ≡ Some h → writing m s ≡ level_writing m s h
  writing_at m s h e =
      ap (λ p. record { sink = s.sink; failed = s.failed; inside = s.inside; level = level_in m p }) e

-- ---- it is opened

pub open_unless : (m : Mark) (failed : Option Failure) (inside pending : Option Held) → IsOpen m inside pending
    → HasOpenLevel m failed inside pending
open_unless m None inside pending k = k
open_unless m (Some f) inside pending k = tt

pub open_if : (m : Mark) (failed : Option Failure) (inside pending : Option Held) → failed ≡ None
    → HasOpenLevel m failed inside pending → IsOpen m inside pending
open_if m failed inside pending f k = subst (λ o. HasOpenLevel m o inside pending) f k

-- something is held with it
pub open_held : (m : Mark) (inside pending : Option Held) → IsOpen m inside pending → (h : Held) × (pending ≡ Some h)
open_held m inside None k = absurd k
open_held m inside (Some h) k = (h, refl)

module _ {W : Type 0} (g : Ghosts W) where
  pub level_opened : (header : Header) (m : Mark) (old new : State W) → Opens header (stack old) m (stack new)
      → new.sink ≡ old.sink → new.failed ≡ old.failed → OpensLevel g header old (writing m new)
  level_opened header m old new o same still =
      let inside : new.inside ≡ old.inside = ap (λ (s : Stack). s.inside) o.is in
      let level : level_in m new.pending
      ≡ record { header = header; around = old.around; content = []; seams = [] } =
      ap (level_in m) (ap (λ (s : Stack). s.pending) o.is) ∙ o.level in
      record { opened = rw (same, still, inside, level) refl }

  pub level_open : (header : Header) (m : Mark) (old new : State W) → Opens header (stack old) m (stack new)
      → IsOpen m new.inside new.pending
  level_open header m old new o = subst (λ (s : Stack). IsOpen m s.inside s.pending) (sym o.is) (o.mark, o.outer)

  -- its wrapper has a number
  pub opened_numbers : (header : Header) (m : Mark) (old new : State W) → OpensLevel g header old (writing m new)
      → HasOpenLevel m new.failed new.inside new.pending → new.failed ≡ None → CanAllBeOpen old.around
  opened_numbers header m old new o k f =
      let opened = open_if m new.failed new.inside new.pending f k in
      let h = open_held m new.inside new.pending opened in
      let mark : IsMark m h.0 = (subst (IsOpen m new.inside) h.1 opened).0 in
      let level : level_in m new.pending
      ≡ record { header = header; around = old.around; content = []; seams = [] } =
      ap (λ (w : Writing W). w.level) o.opened in
      let same : level_in m new.pending ≡ level_at m h.0 = ap (level_in m) h.1 in
      subst CanAllBeOpen (ap (λ (l : Level). l.around) (sym same ∙ level)) mark.numbers

  -- ---- a member was refused

  refused_inside : (inside : Option Held) (h : Held) (t : Tree) (sink now : W) (e : Asn1DerError) → inside ≡ Some h
      → RefusesIn g inside t sink e now → MemoryExcuse (IsWritable t) e × (now ≡ sink)
  refused_inside inside h t sink now e is r = subst (λ i. RefusesIn g i t sink e now) is r

  pub member_refused : (m n : Mark) (t : Tree) (old s v : State W) (ws : List Wrapper) (e : Asn1DerError)
      → EntersLevel g m old n s → RefusesWrite g t (record s { around = ws; pending = None }) e v
      → RefusesToAdd g (under ws t) (writing m old) e (writing n v)
  member_refused m n t old s v ws e k r =
      let inside : s.inside ≡ Some k.entered.held = ap (λ (x : Stack). x.inside) k.entered.is in
      let why : RefusesIn g s.inside (under ws t) s.sink e v.sink =
      subst (λ o. IfNone o (RefusesIn g s.inside (under ws t) s.sink e v.sink)) k.not_failed r.reason in
      let both = refused_inside s.inside k.entered.held (under ws t) s.sink v.sink e inside why in
      record {
        failed = r.failed;
        same = both.1 ∙ k.same;
        again = rw k.had_not_failed tt;
        reason = rw k.had_not_failed both.0;
      }

  -- ---- it ends

  pub ended_inside : (m : Mark) (h : Held) (old new : State W) (n : ℕ) → n < 2 ^ 64 → old.failed ≡ None
      → old.pending ≡ Some h → IsOpen m old.inside old.pending → old.inside ≢ None → n ≡ length (encoding_at m h)
      → stack new ≡ record { inside = Some (enclosed m h); pending = None; around = [] } → new.sink ≡ old.sink
      → new.failed ≡ old.failed → g.later old.sink old.sink → EndsLevel g (writing m old) (Ok n) new
  ended_inside m h old new n small f was opened some count is same still later =
      let k : IsMark m h × (old.inside ≡ outside m h) = subst (IsOpen m old.inside) was opened in
      let w = level_writing m old h in
      let added : (i : Held) → old.inside ≡ Some i → new.inside ≡ Some (extended i (encoding_at m h)) =
      λ i e. added_to i (sym (sym e ∙ k.1 ∙ open_member m.place m.at m.first_seam h i k.0.opened (sym e ∙ k.1))) in
      subst (λ x. EndsLevel g x (Ok n) new) (sym (writing_at m old h was)) (record {
        ended = ends_inside g w new n small f some (k.0.numbers, k.0.number) count added same
            (ap (λ (s : Stack). s.around) is) (still ∙ f) later;
        again = rw f tt;
      })
    where
      added_to : (i : Held) → Some (first m.at m.first_seam h) ≡ Some i
          → new.inside ≡ Some (extended i (encoding_at m h))
      added_to i e =
          ap (λ (s : Stack). s.inside) is ∙ ap (λ j. Some (extended j (encoding_at m h))) (held_is e)

  pub ended_outside : (m : Mark) (h : Held) (old new : State W) (mid : W) (bs : List ℕ) (r s : Result ℕ Asn1DerError)
      → old.failed ≡ None → old.pending ≡ Some h → IsOpen m old.inside old.pending → (m.place ≡ place.OpenMember → ⊥)
      → bs ≡ encoding_at m h → length bs < 2 ^ 64 → s ≡ r → new.sink ≡ mid → new.inside ≡ old.inside
      → OnOk r ((new.around ≡ []) × (new.failed ≡ old.failed)) → IfErr r (λ e. new.failed ≡ Some (failure_of e))
      → IfOk r (λ n. n ≡ length bs) → OnOk r (Appends (g.written old.sink) (g.written mid) bs)
      → OnErr r (AppendsTooFew (g.written old.sink) (g.written mid) bs) → IfErr r (λ e. WriterFails g old.sink e mid)
      → OnOk r (g.faults mid ≡ g.faults old.sink) → g.later old.sink mid → EndsLevel g (writing m old) s new
  ended_outside m h old new mid bs r s f was opened away is fits same sink inside done failed count appends begins fault
      no_fault later =
      let k : IsMark m h × (old.inside ≡ outside m h) = subst (IsOpen m old.inside) was opened in
      let w = level_writing m old h in
      let c = final_content (level_at m h) in
      let u = under (wrappers m.around) (tree_of m.header c) in
      let none : old.inside ≡ None = k.1 ∙ in_sink m.place m.at m.first_seam h k.0.opened away in
      let writable : IsWritable u =
      writable_counted (wrappers m.around) m.header c (k.0.numbers, k.0.number) (omega (arith, fits, ap length is)) in
      subst (λ x. EndsLevel g x s new) (sym (writing_at m old h was)) (record {
        ended = ends_outside g w new mid r s (tree_of m.header c) refl same sink f none (on_ok r (inside ∙ none))
            (subst (λ x. OnOk r ((new.around ≡ []) × (new.failed ≡ x))) f done) failed
            (wrote_by g u bs old.sink mid r writable is count appends)
            (refused_by g u bs old.sink mid r writable is begins fault) fault no_fault
            (once_at_most g old.sink mid r no_fault fault) later;
        again = rw f tt;
      })

  pub ended_again : (w : Writing W) (new : State W) (e : Asn1DerError) → w.failed ≡ Some (failure_of e)
      → new.sink ≡ w.sink → new.failed ≡ w.failed → g.later w.sink w.sink → EndsLevel g w (Err e) new
  ended_again w new e f same still later =
      let faults = ap g.faults same in
      record {
        ended = record {
          wrote = tt;
          failed = record { failed = still ∙ f; again = rw f (refl, same); reason = rw f tt };
          untouched = record { same = λ well. same };
          counted = (omega (arith, faults), omega (arith, faults));
          continues = subst (g.later w.sink) (sym same) later;
        };
        again = rw f (record { error = e; is = refl; kind = refl; same = same; failed = still ∙ f });
      }

  pub ended_memory : (w : Writing W) (new : State W) → w.failed ≡ None → new.failed ≡ Some (failure_of OutOfMemory)
      → new.sink ≡ w.sink → g.later w.sink w.sink → EndsLevel g w (Err OutOfMemory) new
  ended_memory w new f failed same later =
      let faults = ap g.faults same in
      record {
        ended = record {
          wrote = tt;
          failed = fails_memory g (tree_of w.level.header (final_content w.level)) (beneath w) new OutOfMemory f refl
              failed same;
          untouched = record { same = λ well. same };
          counted = (omega (arith, faults), omega (arith, faults));
          continues = subst (g.later w.sink) (sym same) later;
        };
        again = rw f tt;
      }
