-- What a writer, a vector and a slice hold that a tree was written to.
use Rattle.std.proofs.Common.{◌≡◌, ◌<◌, ◌≤◌, ℕ, List, [], ◌++◌, length, take, drop, None, Some, refl, sym, ap, ◌∙◌}
use Rattle.std.proofs.Common.{subst, arith, take-append-drop}
use Rattle.std.proofs.lemmas.Grind.{common_steps}
use Rattle.std.specs.Prelude.{IfNone}
use Rattle.std.specs.Io.KnownBytes.{Appends}
use Rattle.std.specs.declared.io.ErrorKind.{ErrorKind}
use Rattle.std.specs.declared.io.ErrorKind.TheVariants as kind
use Rattle.picky_der_core.specs.OpenWrappers.{under}
use Rattle.picky_der_core.specs.Error.{error_of_kind}
use Rattle.picky_der_core.specs.declared.misc.writer.WriteExt.{Ghosts}
use Rattle.picky_der_core.specs.declared.misc.buf_sink.BufSink.{BufSink}
use Rattle.picky_der_core.specs.declared.misc.slice_sink.SliceSink.{SliceSink}
use Rattle.picky_der_core.specs.declared.error.Asn1DerError.{Asn1DerError}
use Rattle.picky_der_core.specs.declared.error.Asn1DerError.TheVariants.{UnsupportedValue, InvalidSink, OutOfMemory}
use Rattle.picky_der_core.specs.Writer.{AppendsBeginning}
use Rattle.picky_der_core.specs.Tree.{Tree}
use Rattle.picky_der_core.specs.Encoding.{der}
use Rattle.picky_der_core.specs.Readable.{IsWritable}
use Rattle.picky_der_core.specs.Sink.{vector_of, position_of}
use Rattle.picky_der_core.specs.SliceSink.{slice_of, filled_of, written_of, faults_of, IsLater}
use Rattle.picky_der_core.specs.SliceSinkLaws.{holds_all, holds_beginning, holds_first}
use Rattle.picky_der_ser.specs.State.{State, Stack, stack}
use Rattle.picky_der_ser.specs.Calls.{Excuse, no_memory, unwritable, no_sink, MemoryExcuse, no_room, no_way, SinkWrites}
use Rattle.picky_der_ser.specs.Calls.{SinkRefuses, RefusesIn, RefusesWrite, Writes, AddsIn}
use Rattle.picky_der_ser.specs.Entry.{Overwrites, VecRefuses, SliceExcuse, without_memory, without_form, without_room}
use Rattle.picky_der_ser.specs.Entry.{SliceRefuses}

memory_kind : error_of_kind kind.OutOfMemory ≡ OutOfMemory
unfolding error_of_kind
memory_kind = refl

full_kind : error_of_kind kind.WriteZero ≡ InvalidSink
unfolding error_of_kind
full_kind = refl

-- ---- a writer, through a reference

module _ {V W : Type 0} (h : Ghosts V) (g : Ghosts W) (now : V → W) (told : (v : V) → h.written v ≡ g.written (now v))
    (faults : (v : V) → h.faults v ≡ g.faults (now v)) (answers : (k : ErrorKind) → h.answers k → g.answers k) where
  excuse-references : (t : Tree) (rest : List ℕ) (old new : V) (e : Asn1DerError) → Excuse h t rest old e new
      → Excuse g t rest (now old) e (now new)
  excuse-references t rest old new e (no_memory m) = no_memory m
  excuse-references t rest old new e (unwritable m n s) = unwritable m n (ap now s)
  excuse-references t rest old new e (no_sink w some f) =
      no_sink w some (record {
        rose = omega (arith, f.rose, faults old, faults new);
        kind = f.kind;
        answered =
            answers f.kind f.answered;
        is = f.is;
      })

  refused-references : (t : Tree) (old new : V) (e : Asn1DerError) → SinkRefuses h t old e new
      → SinkRefuses g t (now old) e (now new)
  refused-references t old new e r =
      let b = r.begins in
      let first : Appends (g.written (now old)) (h.written new) b.front =
      subst (λ a. Appends a (h.written new) b.front) (told old) b.appends in
      let both : Appends (g.written (now old)) (g.written (now new)) b.front =
      subst (λ c. Appends (g.written (now old)) c b.front) (told new) first in
      record {
        begins = record { front = b.front; rest = b.rest; is = b.is; appends = both };
        excuse =
            excuse-references t b.rest old new e r.excuse;
      }

  -- a serializer that began with nothing open, and hadn't failed
  pub refused-fresh : (t : Tree) (old new : State V) (e : Asn1DerError) → old.failed ≡ None → old.inside ≡ None
      → old.around ≡ [] → RefusesWrite h t old e new → SinkRefuses g t (now old.sink) e (now new.sink)
  refused-fresh t old new e f i a k =
      let first : RefusesIn h old.inside (under old.around t) old.sink e new.sink =
      subst (λ o. IfNone o (RefusesIn h old.inside (under old.around t) old.sink e new.sink)) f k.reason in
      let outside : SinkRefuses h (under old.around t) old.sink e new.sink =
      subst (λ k. RefusesIn h k (under old.around t) old.sink e new.sink) i first in
      refused-references t old.sink new.sink e (subst (λ ws. SinkRefuses h (under ws t) old.sink e new.sink) a outside)

-- ---- a vector of its own, in a level of which all is written

abbrev pub in_root : Stack
in_root = record { inside = Some (record { bytes = []; seams = [] }); pending = None; around = [] }

module _ {W : Type 0} (g : Ghosts W) (t : Tree) (old new : State W) (start : stack old ≡ in_root) where
  root_inside : old.inside ≡ Some (record { bytes = []; seams = [] })
  root_inside = ap (λ (s : Stack). s.inside) start

  root_bare : old.around ≡ []
  root_bare = ap (λ (s : Stack). s.around) start

  -- it holds the encoding
  pub root_wrote : (n : ℕ) → Writes g t old n new
      → IsWritable t × (new.inside ≡ Some (record { bytes = der t; seams = [] }))
  root_wrote n h =
      let held : AddsIn g (Some (record { bytes = []; seams = [] })) new.inside old.sink new.sink
      (der (under old.around t)) =
      subst (λ k. AddsIn g k new.inside old.sink new.sink (der (under old.around t))) root_inside h.adds in
      let adds : AddsIn g (Some (record { bytes = []; seams = [] })) new.inside old.sink new.sink (der t) =
      subst (λ ws. AddsIn g (Some (record { bytes = []; seams = [] })) new.inside old.sink new.sink (der (under ws t)))
      root_bare held in
      (subst (λ ws. IsWritable (under ws t)) root_bare h.writable, adds.0)

  pub root_failed : (e : Asn1DerError) → old.failed ≡ None → RefusesWrite g t old e new
      → MemoryExcuse (IsWritable t) e
  root_failed e f h =
      let first : RefusesIn g old.inside (under old.around t) old.sink e new.sink =
      subst (λ o. IfNone o (RefusesIn g old.inside (under old.around t) old.sink e new.sink)) f h.reason in
      let held : RefusesIn g (Some (record { bytes = []; seams = [] })) (under old.around t) old.sink e new.sink =
      subst (λ k. RefusesIn g k (under old.around t) old.sink e new.sink) root_inside first in
      subst (λ ws. MemoryExcuse (IsWritable (under ws t)) e) root_bare held.0

-- ---- a vector

over : (j : ℕ) (front old new : List ℕ) → take j new ≡ front → j ≤ length new → drop j new ≡ drop j old
    → new ≡ front ++ drop (length front) old
over j front old new e h f =
    let n : length front ≡ j = sym (ap length e) ∙ grind (arith, common_steps) in
    sym (take-append-drop j new) ∙ ap (λ l. l ++ drop j new) e ∙ ap (λ l. front ++ l) f
    ∙ ap (λ k. front ++ drop k old) (sym n)

module _ (g : Ghosts BufSink) (told : (s : BufSink) → g.written s ≡ Some (take (position_of s) (vector_of s).now.items))
    (only : (k : ErrorKind) → g.answers k → k ≡ kind.OutOfMemory) where
  vec_excuse : (t : Tree) (old new : BufSink) (e : Asn1DerError) (rest : List ℕ) → Excuse g t rest old e new
      → MemoryExcuse (IsWritable t) e
  vec_excuse t old new e rest (no_memory m) = no_room m
  vec_excuse t old new e rest (unwritable m n s) = no_way m n
  vec_excuse t old new e rest (no_sink h some f) =
      no_room (f.is ∙ ap error_of_kind (only f.kind f.answered) ∙ memory_kind)

  vec_nothing : (t : Tree) (old new : BufSink) (e : Asn1DerError) (front rest : List ℕ) → position_of old ≡ 0
      → take (position_of new) (vector_of new).now.items ≡ front → Excuse g t rest old e new → e ≡ UnsupportedValue
      → front ≡ []
  vec_nothing t old new e front rest start is (no_memory m) u = cc
  vec_nothing t old new e front rest start is (unwritable m n s) u =
      sym is ∙ ap (λ k. take k (vector_of new).now.items) (ap position_of s ∙ start)
  vec_nothing t old new e front rest start is (no_sink h some f) u =
      let m : e ≡ OutOfMemory = f.is ∙ ap error_of_kind (only f.kind f.answered) ∙ memory_kind in
      cc

  -- a vector holds a beginning of the encoding, and after it what was there before
  pub refused-vec : (t : Tree) (old new : BufSink) (e : Asn1DerError) → position_of old ≡ 0
      → drop (position_of new) (vector_of new).now.items ≡ drop (position_of new) (vector_of old).now.items
      → SinkRefuses g t old e new → VecRefuses t (vector_of old).now.items e (vector_of new).now.items
  refused-vec t old new e start past h =
      let front = h.begins.front in
      let first : Appends (Some (take (position_of old) (vector_of old).now.items)) (g.written new) front =
      subst (λ a. Appends a (g.written new) front) (told old) h.begins.appends in
      let both : take (position_of new) (vector_of new).now.items ≡ take (position_of old) (vector_of old).now.items
      ++ front =
      subst (λ b. Appends (Some (take (position_of old) (vector_of old).now.items)) b front) (told new) first in
      let is : take (position_of new) (vector_of new).now.items ≡ front =
      both ∙ ap (λ k. take k (vector_of old).now.items ++ front) start in
      let within : position_of new ≤ length (vector_of new).now.items = omega (arith, new.within, new.buf.now.ok.0) in
      record {
        front = front;
        begins = record { rest = h.begins.rest; is = h.begins.is };
        holds = over (position_of new) front (vector_of old).now.items (vector_of new).now.items is within past;
        nothing = vec_nothing t old new e front h.begins.rest start is h.excuse;
        excuse = vec_excuse t old new e h.begins.rest h.excuse;
      }

-- ---- a slice

module _ (g : Ghosts SliceSink) (told : (s : SliceSink) → g.written s ≡ Some (written_of s)) (faults : (s : SliceSink)
    → g.faults s ≡ faults_of s) (only : (k : ErrorKind) → g.answers k → k ≡ kind.WriteZero) where
  told-appends : (old new : SliceSink) (bs : List ℕ) → Appends (g.written old) (g.written new) bs
      → Appends (Some (written_of old)) (Some (written_of new)) bs
  told-appends old new bs h =
      let first : Appends (Some (written_of old)) (g.written new) bs =
      subst (λ a. Appends a (g.written new) bs) (told old) h in
      subst (λ b. Appends (Some (written_of old)) b bs) (told new) first

  -- a slice holds the encoding, and after it what was there before
  pub wrote-slice : (t : Tree) (old new : SliceSink) (n : ℕ) → filled_of old ≡ 0 → IsLater old new
      → SinkWrites g t old n new
      → Overwrites t (slice_of old).now n (slice_of new).now × (length (der t) ≤ length (slice_of old).now)
  wrote-slice t old new n start later h =
      let all = holds_all old new (der t) start later (told-appends old new (der t) h.appends) in
      (record { writable = h.writable; count = h.count; holds = all.1 }, all.0)

  slice_excuse : (t : Tree) (old new : SliceSink) (e : Asn1DerError) → filled_of old ≡ 0 → IsLater old new
      → (b : AppendsBeginning (Some (written_of old)) (Some (written_of new)) (der t))
      → Excuse g t b.rest old e new → SliceExcuse t (slice_of old).now e (slice_of new).now
  slice_excuse t old new e start later b (no_memory m) = without_memory m
  slice_excuse t old new e start later b (unwritable m n s) =
      without_form m n (ap (λ (s : SliceSink). (slice_of s).now) s)
  slice_excuse t old new e start later b (no_sink h some f) =
      let rose : faults_of old < faults_of new = omega (arith, f.rose, faults old, faults new) in
      let first = holds_first old new (der t) start later (record { begins = b; missing = some }) rose in
      without_room (f.is ∙ ap error_of_kind (only f.kind f.answered) ∙ full_kind) h first.0 first.1

  -- it holds a beginning of the encoding, and after it what was there before
  pub refused-slice : (t : Tree) (old new : SliceSink) (e : Asn1DerError) → filled_of old ≡ 0 → IsLater old new
      → SinkRefuses g t old e new → SliceRefuses t (slice_of old).now e (slice_of new).now
  refused-slice t old new e start later h =
      let b : AppendsBeginning (Some (written_of old)) (Some (written_of new)) (der t) =
      record {
        front = h.begins.front;
        rest = h.begins.rest;
        is = h.begins.is;
        appends =
            told-appends old new h.begins.front h.begins.appends;
      } in
      record {
        begins = holds_beginning old new (der t) start later b;
        excuse =
            slice_excuse t old new e start later b h.excuse;
      }
