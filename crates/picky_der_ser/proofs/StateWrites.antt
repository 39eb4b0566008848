-- What was written, seen from the state of a serializer.
use Rattle.std.proofs.Common.{arith, ◌≡◌, ◌≢◌, ◌<◌, ◌^◌, Option, ℕ, List, [], ◌∷◌, length, None, Some, refl, sym, ap}
use Rattle.std.proofs.Common.{◌∙◌, subst, Result, Ok, Err, IfOk, OnOk, IfErr, OnErr, true, le-leb, ap₂}
use Rattle.std.specs.Io.KnownBytes.{Appends}
use Rattle.picky_der_core.specs.OpenWrappers.{under}
use Rattle.picky_der_core.specs.Failure.{failure_of}
use Rattle.picky_der_core.specs.declared.asn1.wrapper.Wrapper.{Wrapper}
use Rattle.picky_der_core.specs.Writer.{AppendsTooFew, beginning_none}
use Rattle.picky_der_core.specs.WriterFaults.{WriterFails, IsOnceAtMost}
use Rattle.picky_der_core.specs.declared.misc.writer.WriteExt.{Ghosts}
use Rattle.picky_der_core.specs.declared.error.Asn1DerError.{Asn1DerError}
use Rattle.picky_der_core.specs.declared.error.Asn1DerError.TheVariants.{OutOfMemory}
use Rattle.picky_der_core.specs.Tree.{Tree}
use Rattle.picky_der_core.specs.Encoding.{der}
use Rattle.picky_der_core.specs.Readable.{IsWritable, has_tag_numbers}
use Rattle.picky_der_ser.specs.Headers.{tree_of, HasNumber, CanAllBeOpen}
use Rattle.picky_der_ser.specs.State.{State, Stack, stack, Held, Writing, extended, beneath, final_content}
use Rattle.picky_der_ser.specs.Marks.{Gains}
use Rattle.picky_der_ser.specs.Calls.{AddsIn, UntouchedUnlessFailed, SinkWrites, SinkRefuses, RefusesIn, no_memory}
use Rattle.picky_der_ser.specs.Calls.{no_room, Writes, RefusesWrite, OnlySinkFails, WritesPlain, WritesContent, no_sink}
use Rattle.std.specs.Prelude.{IsTrue}
use Rattle.picky_der_core.specs.Tag.{number_of, is_tag_number}
use Rattle.picky_der_core.specs.Wrapper.{has_tag_number}
use Rattle.picky_der_core.specs.WrapperLaws.{has_tag_number-true}
use Rattle.picky_der_ser.specs.declared.header.Header.{Header}
use Rattle.picky_der_ser.specs.declared.header.Header.TheVariants.{Tagged, Application, Raw}

-- ---- what can be written

number_writable : (h : Header) (c : List ℕ) → HasNumber h → IsTrue (has_tag_numbers (tree_of h c))
number_writable (Tagged tag) c h = le-leb (number_of tag) 30 h
number_writable (Application k) c h = let e : is_tag_number k ≡ true = le-leb k 30 h in rw e refl
number_writable Raw c h = refl

pub numbers_writable : (ws : List Wrapper) (t : Tree) → CanAllBeOpen ws → IsTrue (has_tag_numbers t)
    → IsTrue (has_tag_numbers (under ws t))
numbers_writable [] t h k = k
numbers_writable (w ∷ ws) t h k = let e : has_tag_number w ≡ true = has_tag_number-true w h.0.0 in
    rw e (numbers_writable ws t h.1 k)

pub writable_counted : (ws : List Wrapper) (h : Header) (c : List ℕ) → CanAllBeOpen ws × HasNumber h
    → length (der (under ws (tree_of h c))) < 2 ^ 64 → IsWritable (under ws (tree_of h c))
writable_counted ws h c n fits = record {
  numbers = numbers_writable ws (tree_of h c) n.0 (number_writable h c n.1);
  fits = fits;
}

module _ {W : Type 0} (g : Ghosts W) where
  pub wrote_by : (t : Tree) (bs : List ℕ) (old new : W) (r : Result ℕ Asn1DerError) → IsWritable t → bs ≡ der t
      → IfOk r (λ n. n ≡ length bs) → OnOk r (Appends (g.written old) (g.written new) bs)
      → IfOk r (λ n. SinkWrites g t old n new)
  wrote_by t bs old new (Ok n) w is count appends =
      record {
        writable = w;
        count = count ∙ ap length is;
        appends =
            subst (Appends (g.written old) (g.written new)) is appends;
      }
  wrote_by t bs old new (Err e) w is count appends = tt

  pub refused_by : (t : Tree) (bs : List ℕ) (old new : W) (r : Result ℕ Asn1DerError) → IsWritable t → bs ≡ der t
      → OnErr r (AppendsTooFew (g.written old) (g.written new) bs) → IfErr r (λ e. WriterFails g old e new)
      → IfErr r (λ e. SinkRefuses g t old e new)
  refused_by t bs old new (Ok n) w is begins fault = tt
  refused_by t bs old new (Err e) w is begins fault =
      let b : AppendsTooFew (g.written old) (g.written new) (der t) =
      subst (AppendsTooFew (g.written old) (g.written new)) is begins in
      record { begins = b.begins; excuse = no_sink w b.missing fault }

-- ---- the state of a serializer

module _ {W : Type 0} (g : Ghosts W) where
  adds_outside : (inside now : Option Held) (old new : W) (bs : List ℕ) → inside ≡ None → now ≡ None
      → Appends (g.written old) (g.written new) bs → AddsIn g inside now old new bs
  adds_outside inside now old new bs e f h = subst (λ l. AddsIn g l now old new bs) (sym e) (f, h)

  -- outside levels
  pub writes_outside : (t : Tree) (old new : State W) (n : ℕ) → old.failed ≡ None → old.inside ≡ None
      → new.inside ≡ None → new.around ≡ [] → new.failed ≡ None → SinkWrites g (under old.around t) old.sink n new.sink
      → g.faults new.sink ≡ g.faults old.sink → Writes g t old n new
  writes_outside t old new n f i j a b h q =
      record {
        had_not_failed = f;
        writable = h.writable;
        count = h.count;
        adds =
            adds_outside old.inside new.inside old.sink new.sink _ i j h.appends;
        closed = a;
        not_failed = b;
        no_fault =
            q;
      }

  pub fails_outside : (t : Tree) (old new : State W) (e : Asn1DerError) → old.failed ≡ None → old.inside ≡ None
      → new.failed ≡ Some (failure_of e) → SinkRefuses g (under old.around t) old.sink e new.sink
      → RefusesWrite g t old e new
  fails_outside t old new e f i b h =
      let u = under old.around t in
      let first : RefusesIn g old.inside u old.sink e new.sink =
      subst (λ ls. RefusesIn g ls u old.sink e new.sink) (sym i) h in
      record { failed = b; again = rw f tt; reason = rw f first }

  -- inside one
  adds_inside : (inside now : Option Held) (old new : W) (bs : List ℕ) → inside ≢ None
      → ((h : Held) → inside ≡ Some h → now ≡ Some (extended h bs)) → new ≡ old → AddsIn g inside now old new bs
  adds_inside None now old new bs some h s = absurd (some refl)
  adds_inside (Some k) now old new bs some h s = (h k refl, s)

  pub writes_inside : (t : Tree) (old new : State W) (n : ℕ) → old.failed ≡ None → old.inside ≢ None
      → ((h : Held) → old.inside ≡ Some h → new.inside ≡ Some (extended h (der (under old.around t))))
      → new.sink ≡ old.sink → new.around ≡ [] → new.failed ≡ None → IsWritable (under old.around t)
      → n ≡ length (der (under old.around t)) → Writes g t old n new
  writes_inside t old new n f some h s a b w count =
      record {
        had_not_failed = f;
        writable = w;
        count = count;
        adds =
            adds_inside old.inside new.inside old.sink new.sink _ some h s;
        closed = a;
        not_failed = b;
        no_fault =
            ap g.faults s;
      }

  -- anywhere: out of memory
  pub refused_memory : (inside : Option Held) (t : Tree) (sink : W) → RefusesIn g inside t sink OutOfMemory sink
  refused_memory None t sink = record { begins = beginning_none (g.written sink) (der t); excuse = no_memory refl }
  refused_memory (Some h) t sink = (no_room refl, refl)

  pub fails_memory : (t : Tree) (old new : State W) (e : Asn1DerError) → old.failed ≡ None → e ≡ OutOfMemory
      → new.failed ≡ Some (failure_of e) → new.sink ≡ old.sink → RefusesWrite g t old e new
  fails_memory t old new e f m b s =
      let first : RefusesIn g old.inside (under old.around t) old.sink e new.sink =
      rw (m, s) (refused_memory old.inside (under old.around t) old.sink) in
      record { failed = b; again = rw f tt; reason = rw f first }

  -- ---- plain values

  -- the sink accepted these bytes, and then the outcome was settled
  pub plain_outside : (t : Tree) (old new : State W) (mid : W) (now : Option Held) (r s : Result ℕ Asn1DerError)
      → s ≡ r → new.sink ≡ mid → new.inside ≡ now → IsWritable t → old.failed ≡ None → old.inside ≡ None
      → OnOk r (now ≡ None) → OnOk r ((new.around ≡ []) × (new.failed ≡ old.failed))
      → IfErr r (λ e. new.failed ≡ Some (failure_of e))
      → IfOk r (λ n. SinkWrites g (under old.around t) old.sink n mid)
      → IfErr r (λ e. SinkRefuses g (under old.around t) old.sink e mid)
      → IfErr r (λ e. old.around ≡ [] → WriterFails g old.sink e mid)
      → IfErr r (λ e. UntouchedUnlessFailed g old.sink e mid) → OnOk r (g.faults mid ≡ g.faults old.sink)
      → IsOnceAtMost (g.faults old.sink) (g.faults mid) → g.later old.sink mid → WritesPlain g t old s new
  plain_outside t old new mid now (Ok n) s is same x w f i j a b h k m u q c l = rw is (record {
    wrote = writes_outside t old new n f i (x ∙ j) a.0 (a.1 ∙ f)
        (subst (λ v. SinkWrites g (under old.around t) old.sink n v) (sym same) h) (ap g.faults same ∙ q);
    failed = tt;
    outside = tt;
    untouched = tt;
    refuses_unwritable = λ no. absurd (no w);
    counted = subst (λ v. IsOnceAtMost (g.faults old.sink) (g.faults v)) (sym same) c;
    continues = subst (g.later old.sink) (sym same) l;
  })
  plain_outside t old new mid now (Err e) s is same x w f i j a b h k m u q c l = rw is (record {
    wrote = tt;
    failed = fails_outside t old new e f i b (subst (λ v. SinkRefuses g (under old.around t) old.sink e v) (sym same)
        k);
    outside = λ p y z bare. subst (λ v. WriterFails g old.sink e v) (sym same) (m bare);
    untouched = subst (λ v. UntouchedUnlessFailed g old.sink e v) (sym same) u;
    refuses_unwritable = λ no. absurd (no w);
    counted = subst (λ v. IsOnceAtMost (g.faults old.sink) (g.faults v)) (sym same) c;
    continues = subst (g.later old.sink) (sym same) l;
  })

  pub plain_inside : (t : Tree) (old new : State W) (n : ℕ) → IsWritable t → Writes g t old n new
      → IsOnceAtMost (g.faults old.sink) (g.faults new.sink) → g.later old.sink new.sink
      → WritesPlain g t old (Ok n) new
  plain_inside t old new n w h c l = record {
    wrote = h;
    failed = tt;
    outside = tt;
    untouched = tt;
    refuses_unwritable =
        λ no. absurd (no w);
    counted = c;
    continues = l;
  }

  pub plain_refused : (t : Tree) (old new : State W) (e : Asn1DerError) → IsWritable t → OnlySinkFails g t old e new
      → RefusesWrite g t old e new → new.sink ≡ old.sink → IsOnceAtMost (g.faults old.sink) (g.faults new.sink)
      → g.later old.sink new.sink → WritesPlain g t old (Err e) new
  plain_refused t old new e w outside h same c l =
      record {
        wrote = tt;
        failed = h;
        outside = outside;
        untouched =
            record { same = λ well. same };
        refuses_unwritable = λ no. absurd (no w);
        counted = c;
        continues = l;
      }

  -- a level gained these bytes
  pub plain_gained : (t : Tree) (bs : List ℕ) (old new : State W) (n : ℕ) → IsWritable t → bs ≡ der t → n ≡ length bs
      → old.failed ≡ None → Gains bs (stack old) (stack new) → new.sink ≡ old.sink → new.failed ≡ old.failed
      → g.later old.sink new.sink → WritesPlain g t old (Ok n) new
  plain_gained t bs old new n w is count f k same still later =
      let inside : old.inside ≡ Some k.held = ap (λ (s : Stack). s.inside) k.was in
      let bare : old.around ≡ [] = ap (λ (s : Stack). s.around) k.was in
      let whole : bs ≡ der (under old.around t) = is ∙ ap (λ ws. der (under ws t)) (sym bare) in
      let some : old.inside ≢ None = λ e. let q : Some k.held ≡ None = sym inside ∙ e in cc in
      let gained : (h : Held) → old.inside ≡ Some h → new.inside ≡ Some (extended h (der (under old.around t))) =
      λ h e. let same_held : k.held ≡ h = cc in
      ap (λ (s : Stack). s.inside) k.is ∙ ap₂ (λ x y. Some (extended x y)) same_held whole in
      let writable : IsWritable (under old.around t) = subst (λ ws. IsWritable (under ws t)) (sym bare) w in
      let faults = ap g.faults same in
      plain_inside t old new n w
      (writes_inside t old new n f some gained same (ap (λ (s : Stack). s.around) k.is) (still ∙ f) writable
      (count ∙ ap length whole))
      (omega (arith, faults), omega (arith, faults)) later

  -- without wrappers, the sink accepted an element
  pub bare_wrote : (t : Tree) (ws : List Wrapper) (bs : List ℕ) (old new : W) (r : Result ℕ Asn1DerError) → ws ≡ []
      → IsWritable t → bs ≡ der t → IfOk r (λ n. n ≡ length bs) → OnOk r (Appends (g.written old) (g.written new) bs)
      → IfOk r (λ n. SinkWrites g (under ws t) old n new)
  bare_wrote t ws bs old new r e w is count appends =
      subst (λ vs. IfOk r (λ n. SinkWrites g (under vs t) old n new)) (sym e)
      (wrote_by g t bs old new r w is count appends)

  pub bare_refused : (t : Tree) (ws : List Wrapper) (bs : List ℕ) (old new : W) (r : Result ℕ Asn1DerError) → ws ≡ []
      → IsWritable t → bs ≡ der t → OnErr r (AppendsTooFew (g.written old) (g.written new) bs)
      → IfErr r (λ e. WriterFails g old e new) → IfErr r (λ e. SinkRefuses g (under ws t) old e new)
  bare_refused t ws bs old new r e w is begins fault =
      subst (λ vs. IfErr r (λ k. SinkRefuses g (under vs t) old k new)) (sym e)
      (refused_by g t bs old new r w is begins fault)

  -- what only an I/O error of the sink stops
  pub untouched_by_fault : (old new : W) (r : Result ℕ Asn1DerError) → IfErr r (λ e. WriterFails g old e new)
      → IfErr r (λ e. UntouchedUnlessFailed g old e new)
  untouched_by_fault old new (Ok n) h = tt
  untouched_by_fault old new (Err e) h = record { same = λ well. absurd (well h) }

  -- after the settling of an outcome the sink is as it was before it
  pub untouched_settled : (old mid new : W) (r s : Result ℕ Asn1DerError) → s ≡ r → new ≡ mid
      → IfErr r (λ e. UntouchedUnlessFailed g old e mid) → IfErr s (λ e. UntouchedUnlessFailed g old e new)
  untouched_settled old mid new r s same kept h = rw (same, kept) h

  pub bare_fault : (ws : List Wrapper) (old new : W) (r : Result ℕ Asn1DerError)
      → IfErr r (λ e. WriterFails g old e new) → IfErr r (λ e. ws ≡ [] → WriterFails g old e new)
  bare_fault ws old new (Ok n) h = tt
  bare_fault ws old new (Err e) h = λ bare. h

  pub wrapped_fault : (ws : List Wrapper) (old new : W) (r : Result ℕ Asn1DerError) → ws ≢ []
      → IfErr r (λ e. ws ≡ [] → WriterFails g old e new)
  wrapped_fault ws old new (Ok n) h = tt
  wrapped_fault ws old new (Err e) h = λ bare. absurd (h bare)

  -- ---- levels

  -- the sink accepted the level, and then the outcome was settled
  pub ends_outside : (old : Writing W) (new : State W) (mid : W) (r s : Result ℕ Asn1DerError)
      (t : Tree) → t ≡ tree_of old.level.header (final_content old.level) → s ≡ r → new.sink ≡ mid
      → old.failed ≡ None → old.inside ≡ None → OnOk r (new.inside ≡ None)
      → OnOk r ((new.around ≡ []) × (new.failed ≡ None)) → IfErr r (λ e. new.failed ≡ Some (failure_of e))
      → IfOk r (λ n. SinkWrites g (under old.level.around t) old.sink n mid)
      → IfErr r (λ e. SinkRefuses g (under old.level.around t) old.sink e mid)
      → IfErr r (λ e. WriterFails g old.sink e mid) → OnOk r (g.faults mid ≡ g.faults old.sink)
      → IsOnceAtMost (g.faults old.sink) (g.faults mid) → g.later old.sink mid
      → WritesContent g old.level.header (final_content old.level) (beneath old) s new
  ends_outside old new mid (Ok n) s t tree is same f i j a b h k m q c l = rw (is, sym tree) (record {
    wrote = writes_outside t (beneath old) new n f i j a.0 a.1
        (subst (λ v. SinkWrites g (under old.level.around t) old.sink n v) (sym same) h) (ap g.faults same ∙ q);
    failed = tt;
    untouched = tt;
    counted = subst (λ v. IsOnceAtMost (g.faults old.sink) (g.faults v)) (sym same) c;
    continues = subst (g.later old.sink) (sym same) l;
  })
  ends_outside old new mid (Err e) s t tree is same f i j a b h k m q c l = rw (is, sym tree) (record {
    wrote = tt;
    failed = fails_outside t (beneath old) new e f i b
        (subst (λ v. SinkRefuses g (under old.level.around t) old.sink e v) (sym same) k);
    untouched = subst (λ v. UntouchedUnlessFailed g old.sink e v) (sym same)
        (record { same = λ well. absurd (well m) });
    counted = subst (λ v. IsOnceAtMost (g.faults old.sink) (g.faults v)) (sym same) c;
    continues = subst (g.later old.sink) (sym same) l;
  })

  -- the level was added to what is held around it
  pub ends_inside : (old : Writing W) (new : State W) (n : ℕ) → n < 2 ^ 64 → old.failed ≡ None → old.inside ≢ None
      → CanAllBeOpen old.level.around × HasNumber old.level.header
      → n ≡ length (der (under old.level.around (tree_of old.level.header (final_content old.level))))
      → ((h : Held) → old.inside ≡ Some h → new.inside
      ≡ Some (extended h (der (under old.level.around (tree_of old.level.header (final_content old.level))))))
      → new.sink ≡ old.sink → new.around ≡ [] → new.failed ≡ None → g.later old.sink old.sink
      → WritesContent g old.level.header (final_content old.level) (beneath old) (Ok n) new
  ends_inside old new n small f some numbers count added s a b later =
      let t = tree_of old.level.header (final_content old.level) in
      let fits : length (der (under old.level.around t)) < 2 ^ 64 = omega (arith, count) in
      let writable = writable_counted old.level.around old.level.header (final_content old.level) numbers fits in
      record {
        wrote = writes_inside t (beneath old) new n f some added s a b writable count;
        failed = tt;
        untouched = tt;
        counted = let same = ap g.faults s in (omega (arith, same), omega (arith, same));
        continues = subst (g.later old.sink) (sym s) later;
      }

pub on_ok : {A E : Type 0} {P : Type 0} (r : Result A E) → P → OnOk r P
on_ok (Ok v) h = h
on_ok (Err e) h = tt
