-- What the calls of a serializer do.
use Rattle.std.specs.Prelude.{◌≡◌, ℕ, List, [], length, None, Some, IfSome, IfNone, Result, Err, IfOk, IfErr, ⊤}
use Rattle.std.specs.Prelude.{◌<◌, Option}
use Rattle.picky_der_core.specs.OpenWrappers.{under}
use Rattle.std.specs.Io.KnownBytes.{Appends}
use Rattle.picky_der_core.specs.Writer.{AppendsBeginning}
use Rattle.picky_der_core.specs.WriterFaults.{WriterFails, IsOnceAtMost}
use Rattle.picky_der_core.specs.declared.misc.writer.WriteExt.{Ghosts}
use Rattle.picky_der_core.specs.declared.error.Asn1DerError.{Asn1DerError}
use Rattle.picky_der_core.specs.declared.failure.Failure.{Failure}
use Rattle.picky_der_core.specs.Failure.{failure_of, IsAnswer}
use Rattle.picky_der_core.specs.declared.error.Asn1DerError.TheVariants.{UnsupportedValue, UnsupportedType, OutOfMemory}
use Rattle.picky_der_core.specs.Primitive.{Primitive}
use Rattle.picky_der_core.specs.Tree.{Tree, Trees}
use Rattle.picky_der_core.specs.Encoding.{encodings, der}
use Rattle.picky_der_core.specs.Readable.{IsWritable}
use Rattle.picky_der_ser.specs.declared.header.Header.{Header}
use Rattle.picky_der_ser.specs.Headers.{tree_of}
use Rattle.picky_der_ser.specs.declared.levels.Mark.{Mark}
use Rattle.picky_der_ser.specs.Marks.{Enters}
use Rattle.picky_der_ser.specs.State.{stack, State, Held, Writing, extended, beneath, with_member, with_members}
use Rattle.picky_der_ser.specs.State.{final_content}

-- each of the trees can be written
abbrev pub AreWritable : Trees → Type 0
AreWritable Trees.none = ⊤
AreWritable (Trees.more t ts) = IsWritable t × AreWritable ts

-- why something isn't written into memory: an allocation failed, or it can't be written, as `Possible` would say
pub data MemoryExcuse (Possible : Type 0) (e : Asn1DerError) : Type 0 where
  no_room : e ≡ OutOfMemory → MemoryExcuse Possible e
  no_way : e ≡ UnsupportedValue → ¬ Possible → MemoryExcuse Possible e

-- the call refuses what isn't supported, whatever the value, and nothing but that becomes of the serializer
abbrev pub IsUnsupported : {W : Type 0} → State W → Result ℕ Asn1DerError → State W → Type 0
IsUnsupported old r new = (e : Asn1DerError) × (r ≡ Err e) × IsAnswer old.failed UnsupportedType e
    × (new ≡ record old { failed = Some (failure_of e) })

-- it had failed with this error, and nothing was done
pub record HadFailed {W : Type 0} (old : State W) (e : Asn1DerError) (new : State W) : Type 0 where
  pub again : old.failed ≡ Some (failure_of e)
  pub same : new ≡ old

module _ {W : Type 0} (g : Ghosts W) where
  -- these bytes were added to what was written, or inside a level to what is held
  abbrev pub AddsIn : Option Held → Option Held → W → W → List ℕ → Type 0
  AddsIn None inside old new bs = (inside ≡ None) × Appends (g.written old) (g.written new) bs
  AddsIn (Some h) inside old new bs = (inside ≡ Some (extended h bs)) × (new ≡ old)

  abbrev pub Adds : State W → State W → List ℕ → Type 0
  Adds old new bs = AddsIn old.inside new.inside old.sink new.sink bs

  -- Why a serializer that hadn't failed may refuse to write a tree to its sink. `rest` is what of the encoding wasn't
  -- written: at least a byte after an I/O error of the sink.
  pub data Excuse (t : Tree) (rest : List ℕ) (old : W) (e : Asn1DerError) (new : W) : Type 0 where
    -- what was written before may stay
    no_memory : e ≡ OutOfMemory → Excuse t rest old e new
    unwritable : e ≡ UnsupportedValue → ¬ IsWritable t → new ≡ old → Excuse t rest old e new
    no_sink : IsWritable t → 0 < length rest → WriterFails g old e new → Excuse t rest old e new

  -- unless the sink failed itself it is as it was
  pub record UntouchedUnlessFailed (old : W) (e : Asn1DerError) (new : W) : Type 0 where
    pub same : (WriterFails g old e new → ⊥) → new ≡ old

  -- the tree was written to the sink, and n is its length
  pub record SinkWrites (t : Tree) (old : W) (n : ℕ) (new : W) : Type 0 where
    pub writable : IsWritable t
    pub count : n ≡ length (der t)
    pub appends : Appends (g.written old) (g.written new) (der t)

  -- a beginning of the tree's encoding was written to the sink, and why no more
  pub record SinkRefuses (t : Tree) (old : W) (e : Asn1DerError) (new : W) : Type 0 where
    pub begins : AppendsBeginning (g.written old) (g.written new) (der t)
    pub excuse : Excuse t begins.rest old e new

  -- the tree wasn't written, and why: inside a level nothing reaches the sink
  abbrev pub RefusesIn : Option Held → Tree → W → Asn1DerError → W → Type 0
  RefusesIn None t old e new = SinkRefuses t old e new
  RefusesIn (Some h) t old e new = MemoryExcuse (IsWritable t) e × (new ≡ old)

  -- the call wrote the tree in the open wrappers, and closed them; no I/O error of the sink was passed over
  pub record Writes (t : Tree) (old : State W) (n : ℕ) (new : State W) : Type 0 where
    pub had_not_failed : old.failed ≡ None
    pub writable : IsWritable (under old.around t)
    pub count : n ≡ length (der (under old.around t))
    pub adds : Adds old new (der (under old.around t))
    pub closed : new.around ≡ []
    pub not_failed : new.failed ≡ None
    pub no_fault : g.faults new.sink ≡ g.faults old.sink

  -- the call returned an error in place of writing the tree
  pub record RefusesWrite (t : Tree) (old : State W) (e : Asn1DerError) (new : State W) : Type 0 where
    pub failed : new.failed ≡ Some (failure_of e)
    pub again : IfSome old.failed (λ f. (failure_of e ≡ f) × (new.sink ≡ old.sink))
    pub reason : IfNone old.failed (RefusesIn old.inside (under old.around t) old.sink e new.sink)

  -- outside wrappers and levels only the sink can refuse a plain value that can be written, since nothing is allocated
  abbrev pub OnlySinkFails : Tree → State W → Asn1DerError → State W → Type 0
  OnlySinkFails t old e new = IsWritable t → old.failed ≡ None → old.inside ≡ None → old.around ≡ []
      → WriterFails g old.sink e new.sink

  -- a plain value that can't be written is refused before anything else is done, whatever is open
  abbrev pub RefusesUnwritable : Tree → State W → Result ℕ Asn1DerError → State W → Type 0
  RefusesUnwritable t old r new = ¬ IsWritable t → old.failed ≡ None
      → (r ≡ Err UnsupportedValue) × (new.sink ≡ old.sink)

  -- the call writes a plain value
  pub record WritesPlain (t : Tree) (old : State W) (r : Result ℕ Asn1DerError) (new : State W) : Type 0 where
    pub wrote : IfOk r (λ n. Writes t old n new)
    pub failed : IfErr r (λ e. RefusesWrite t old e new)
    pub outside : IfErr r (λ e. OnlySinkFails t old e new)
    pub untouched : IfErr r (λ e. UntouchedUnlessFailed old.sink e new.sink)
    pub refuses_unwritable : RefusesUnwritable t old r new
    pub counted : IsOnceAtMost (g.faults old.sink) (g.faults new.sink)
    pub continues : g.later old.sink new.sink

  -- so one of a primitive kind
  abbrev pub WritesPrimitive : Primitive → State W → Result ℕ Asn1DerError → State W → Type 0
  WritesPrimitive p = WritesPlain (Tree.primitive p)

  -- the call writes what isn't there: the open wrappers are dropped, nothing is written, and only an earlier error is
  -- returned
  pub record WritesAbsent (old : State W) (r : Result ℕ Asn1DerError) (new : State W) : Type 0 where
    pub wrote : IfOk r (λ n. Writes Tree.absent old n new)
    pub count : IfOk r (λ n. n ≡ 0)
    pub again : IfErr r (λ e. HadFailed old e new)
    pub same : new.sink ≡ old.sink

  -- ---- levels

  -- another member of the level of the mark is being written from here on
  pub record EntersLevel (m : Mark) (old : State W) (n : Mark) (new : State W) : Type 0 where
    pub had_not_failed : old.failed ≡ None
    pub not_failed : new.failed ≡ None
    pub same : new.sink ≡ old.sink
    pub entered : Enters m (stack old) n (stack new)

  -- it stopped with this error: it had failed so, or an allocation failed; nothing was written
  pub record RefusesToEnter (old : State W) (e : Asn1DerError) (new : State W) : Type 0 where
    pub failed : new.failed ≡ Some (failure_of e)
    pub same : new.sink ≡ old.sink
    pub again : IfSome old.failed (λ f. failure_of e ≡ f)
    pub reason : IfNone old.failed (e ≡ OutOfMemory)

  -- a level was opened under this header, and the open wrappers became its own
  pub record OpensLevel (header : Header) (old : State W) (new : Writing W) : Type 0 where
    pub opened : new ≡ record {
      sink = old.sink;
      failed = old.failed;
      inside = old.inside;
      level = record { header = header; around = old.around; content = []; seams = [] };
    }

  -- the tree was added to the level as a member
  pub record AddsMember (t : Tree) (old new : Writing W) : Type 0 where
    pub had_not_failed : old.failed ≡ None
    pub writable : IsWritable t
    pub added : new ≡ record {
      sink = old.sink;
      failed = None;
      inside = old.inside;
      level = with_member old.level (der t);
    }

  -- It stopped with this error, and nothing was written: it had failed so, an allocation failed, or what was to be
  -- added can't be written.
  pub record RefusesBefore (Possible : Type 0) (old : Writing W) (e : Asn1DerError) (new : Writing W) : Type 0 where
    pub failed : new.failed ≡ Some (failure_of e)
    pub same : new.sink ≡ old.sink
    pub again : IfSome old.failed (λ f. failure_of e ≡ f)
    pub reason : IfNone old.failed (MemoryExcuse Possible e)

  -- the tree wasn't added
  abbrev pub RefusesToAdd : Tree → Writing W → Asn1DerError → Writing W → Type 0
  RefusesToAdd t = RefusesBefore (IsWritable t)

  -- all the trees were added to the level as members, in their order
  pub record AddsMembers (ts : Trees) (old new : Writing W) : Type 0 where
    pub had_not_failed : old.failed ≡ None
    pub writable : AreWritable ts
    pub added : new ≡ record {
      sink = old.sink;
      failed = None;
      inside = old.inside;
      level = with_members old.level (encodings ts);
    }

  -- all of these members were added; without any, nothing was done
  abbrev pub AddsAll : Trees → Writing W → Writing W → Type 0
  AddsAll Trees.none old new = new ≡ old
  AddsAll (Trees.more t ts) old new = AddsMembers (Trees.more t ts) old new

  -- one of them wasn't added
  abbrev pub RefusesToAddAll : Trees → Writing W → Asn1DerError → Writing W → Type 0
  RefusesToAddAll Trees.none old e new = ⊥
  RefusesToAddAll (Trees.more t ts) old e new = RefusesBefore (AreWritable (Trees.more t ts)) old e new

  -- What comes before members was added: they are added, or refused, as it and they together are.
  pub record AddsPrepended (prepend : Trees → Trees) (old new : Writing W) : Type 0 where
    pub added : (ts : Trees) (last : Writing W) → AddsAll ts new last → AddsAll (prepend ts) old last
    pub refused : (ts : Trees) (e : Asn1DerError) (last : Writing W) → RefusesToAddAll ts new e last
        → RefusesToAddAll (prepend ts) old e last

  -- It wasn't added, and so no members are that begin with it.
  abbrev pub RefusesPrepended : (Trees → Trees) → Writing W → Asn1DerError → Writing W → Type 0
  RefusesPrepended prepend old e new = (ts : Trees) → RefusesToAddAll (prepend ts) old e new

  -- one that had failed returned one of that kind again, and wrote nothing
  pub record AnswersAgain (old : W) (f : Failure) (r : Result ℕ Asn1DerError) (new : State W) : Type 0 where
    pub error : Asn1DerError
    pub is : r ≡ Err error
    pub kind : failure_of error ≡ f
    pub same : new.sink ≡ old
    pub failed : new.failed ≡ Some f

  -- the call wrote the tree in the wrappers of the state before, or stopped; unless the sink failed itself it wrote all
  -- or nothing
  pub record WritesWhole (t : Tree) (old : State W) (r : Result ℕ Asn1DerError) (new : State W) : Type 0 where
    pub wrote : IfOk r (λ n. Writes t old n new)
    pub failed : IfErr r (λ e. RefusesWrite t old e new)
    pub untouched : IfErr r (λ e. UntouchedUnlessFailed old.sink e new.sink)
    pub counted : IsOnceAtMost (g.faults old.sink) (g.faults new.sink)
    pub continues : g.later old.sink new.sink

  -- so of this content under the header
  abbrev pub WritesContent : Header → List ℕ → State W → Result ℕ Asn1DerError → State W → Type 0
  WritesContent header content = WritesWhole (tree_of header content)

  -- the level has ended
  pub record EndsLevel (old : Writing W) (r : Result ℕ Asn1DerError) (new : State W) : Type 0 where
    pub ended : WritesContent old.level.header (final_content old.level) (beneath old) r new
    pub again : IfSome old.failed (λ f. AnswersAgain old.sink f r new)
