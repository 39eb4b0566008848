-- A list that is being written: the members that it has, and the members that it still awaits.
use Rattle.std.proofs.Common.{◌≡◌, ℕ, List, [], ◌∷◌, ◌++◌, map, Option, None, Some, refl, sym, ap, ◌∙◌, subst, inl, inr}
use Rattle.std.proofs.Common.{Result, Ok, Err, IfOk, IfErr, zero, suc, ◌+◌, ◌<◌, ◌≤◌, length, drop, get_or, arith}
use Rattle.std.proofs.Common.{add-one}
use Rattle.std.specs.Prelude.{IfSome, IfNone, IsTrue}
use Rattle.picky_der_core.specs.Primitive.{Primitive}
use Rattle.picky_der_core.specs.OpenWrapperLaws.{AreAlike}
use Rattle.picky_der_core.specs.OpenWrappers.{under}
use Rattle.picky_der_core.specs.Failure.{failure_of}
use Rattle.picky_der_core.specs.declared.failure.Failure.{Failure}
use Rattle.picky_der_core.specs.declared.misc.writer.WriteExt.{Ghosts}
use Rattle.picky_der_core.specs.declared.error.Asn1DerError.{Asn1DerError}
use Rattle.picky_der_core.specs.Tree.{ListKind, Tree, Trees, trees}
use Rattle.picky_der_core.specs.Encoding.{list_content, list_tag, der}
use Rattle.picky_der_core.specs.Readable.{have_tag_numbers, IsWritable}
use Rattle.picky_der_ser.specs.declared.header.Header.TheVariants.{Tagged}
use Rattle.picky_der_ser.specs.State.{State, Level, Held, Writing, beneath, with_member, with_members, final_content}
use Rattle.picky_der_ser.specs.Sequences.{IsListTag, list_kind}
use Rattle.picky_der_ser.specs.Calls.{UntouchedUnlessFailed, MemoryExcuse, no_room, no_way, RefusesIn, Writes}
use Rattle.picky_der_ser.specs.Calls.{RefusesWrite, OpensLevel, RefusesBefore, AddsMember, RefusesToAdd, WritesContent}
use Rattle.picky_der_ser.specs.Calls.{EndsLevel}
use Rattle.picky_der_ser.proofs.Alike.{writes-alike, fails-alike, refused_unwritable}
use Rattle.picky_der_ser.proofs.StateWrites.{refused_memory}
use Rattle.picky_der_ser.proofs.ListBytes.{before, before_none, before_next, numbers_next, map_next, alike_list}
use Rattle.picky_der_ser.proofs.ListBytes.{member_writable, list_level, members_header, members_around, members-push}
use Rattle.picky_der_ser.proofs.ListBytes.{final_content-members}

module _ {W : Type 0} where
  -- the list, opened on this serializer, with these members
  abbrev pub level_with : ListKind → List Tree → State W → Level
  level_with kind ts old = with_members (list_level kind old.around) (map der ts)

  abbrev pub opened_with : ListKind → List Tree → State W → Writing W
  opened_with kind ts old = record {
    sink = old.sink;
    failed = old.failed;
    inside = old.inside;
    level = level_with kind ts old;
  }

  -- it was opened on `old`, will have all these members, and has all but the rest
  pub record Awaits (kind : ListKind) (rest all : Trees) (old : State W) (now : Writing W) : Type 0 where
    pub done : List Tree
    pub split : all ≡ before done rest
    pub numbers : IsTrue (have_tag_numbers (trees done))
    pub is : now ≡ opened_with kind done old

module _ {W : Type 0} (g : Ghosts W) where
  pub list_opened : (kind : ListKind) (all : Trees) (old : State W) (now : Writing W)
      → OpensLevel g (Tagged (list_tag kind)) old now
      → Awaits kind all all old now
  list_opened kind all old now h = record { done = []; split = refl; numbers = refl; is = h.opened }

  pub list_opened_by : (tag : ℕ) (all : Trees) (old : State W) (now : Writing W) → IsListTag tag
      → OpensLevel g (Tagged tag) old now
      → Awaits (list_kind tag) all all old now
  list_opened_by tag all old now (inl e) h =
      rw e (list_opened ListKind.sequence all old now (subst (λ t. OpensLevel g (Tagged t) old now) e h))
  list_opened_by tag all old now (inr e) h =
      rw e (list_opened ListKind.set all old now (subst (λ t. OpensLevel g (Tagged t) old now) e h))

  pub list_gained : (kind : ListKind) (rest all : Trees) (t : Tree) (old : State W) (now new : Writing W)
      → AddsMember g t now new → Awaits kind (Trees.more t rest) all old now → Awaits kind rest all old new
  list_gained kind rest all t old now new h a =
      let level : now.level ≡ level_with kind a.done old = ap (λ (s : Writing W). s.level) a.is in
      let sink : now.sink ≡ old.sink = ap (λ (s : Writing W). s.sink) a.is in
      let failed : None ≡ old.failed = sym h.had_not_failed ∙ ap (λ (s : Writing W). s.failed) a.is in
      let inside : now.inside ≡ old.inside = ap (λ (s : Writing W). s.inside) a.is in
      let next : level_with kind (a.done ++ (t ∷ [])) old ≡ with_member (level_with kind a.done old) (der t) =
      ap (with_members (list_level kind old.around)) (map_next a.done t)
      ∙ members-push (list_level kind old.around) (map der a.done) (der t) in
      record {
        done = a.done ++ (t ∷ []);
        split = a.split ∙ before_next a.done t rest;
        numbers =
            numbers_next a.done t a.numbers h.writable.numbers;
        is = cc;
      }

  -- ---- errors

  excused : {Part : Type 0} (inside : Option Held) (u : Tree) (sink : W) (e : Asn1DerError) → MemoryExcuse Part e
      → (IsWritable u → Part) → RefusesIn g inside u sink e sink
  excused inside u sink e (no_room m) part = rw m (refused_memory g inside u sink)
  excused inside u sink e (no_way m n) part = rw m (refused_unwritable g inside u sink (λ w. n (part w)))

  -- nothing was written: out of memory, or a part that can't be written
  pub refused_part : {Part : Type 0} (u : Tree) (old new : State W) (e : Asn1DerError)
      → (IsWritable (under old.around u) → Part) → new.failed ≡ Some (failure_of e) → new.sink ≡ old.sink
      → IfSome old.failed (λ f. failure_of e ≡ f) → IfNone old.failed (MemoryExcuse Part e) → RefusesWrite g u old e new
  refused_part {Part} u old new e part failed same again reason =
      record { failed = failed; again = earlier old.failed again; reason = own old.failed reason }
    where
      earlier : (o : Option Failure) → IfSome o (λ f. failure_of e ≡ f)
          → IfSome o (λ f. (failure_of e ≡ f) × (new.sink ≡ old.sink))
      earlier None h = tt
      earlier (Some f) h = (h, same)

      own : (o : Option Failure) → IfNone o (MemoryExcuse Part e)
          → IfNone o (RefusesIn g old.inside (under old.around u) old.sink e new.sink)
      own None h = rw same (excused old.inside (under old.around u) old.sink e h part)
      own (Some f) h = tt

  -- a part was refused that can be written if the list can, so the list is
  pub list_stopped : {Part : Type 0} (kind : ListKind) (rest all : Trees) (old : State W) (now last : Writing W)
      (new : State W) (d e : Asn1DerError)
      → ((a : Awaits kind rest all old now) → IsWritable (under old.around (Tree.list kind (before a.done rest)))
      → Part)
      → RefusesBefore g Part now e last → new.sink ≡ last.sink → new.failed ≡ last.failed → d ≡ e
      → Awaits kind rest all old now → RefusesWrite g (Tree.list kind all) old d new
  list_stopped {Part} kind rest all old now last new d e of_all h same_sink same_failed i a =
      let sink : new.sink ≡ old.sink = same_sink ∙ h.same ∙ ap (λ (s : Writing W). s.sink) a.is in
      let failed : now.failed ≡ old.failed = ap (λ (s : Writing W). s.failed) a.is in
      let part : IsWritable (under old.around (Tree.list kind all)) → Part =
      λ w. of_all a (subst (λ us. IsWritable (under old.around (Tree.list kind us))) a.split w) in
      rw i (refused_part (Tree.list kind all) old new e part (same_failed ∙ h.failed) sink
      (subst (λ o. IfSome o (λ f. failure_of e ≡ f)) failed h.again)
      (subst (λ o. IfNone o (MemoryExcuse Part e)) failed h.reason))

  -- a member was refused
  pub list_refused : (kind : ListKind) (rest all : Trees) (t : Tree) (old : State W) (now last : Writing W)
      (new : State W) (d e : Asn1DerError) → RefusesToAdd g t now e last → new.sink ≡ last.sink
      → new.failed ≡ last.failed → d ≡ e → Awaits kind (Trees.more t rest) all old now
      → RefusesWrite g (Tree.list kind all) old d new
  list_refused kind rest all t old now last new d e =
      list_stopped kind (Trees.more t rest) all old now last new d e
      (λ a. member_writable old.around kind a.done t rest)

  -- ---- the end

  -- what the call returns doesn't depend on the level that was opened last
  pub writes_whatever : (t : Tree) (old new : State W) (p : Option Held) (r : Result ℕ Asn1DerError)
      → IfOk r (λ n. Writes g t (record old { pending = p }) n new) → IfOk r (λ n. Writes g t old n new)
  writes_whatever t old new p (Ok n) h = record {
    had_not_failed = h.had_not_failed;
    writable = h.writable;
    count =
        h.count;
    adds = h.adds;
    closed = h.closed;
    not_failed = h.not_failed;
    no_fault = h.no_fault;
  }
  writes_whatever t old new p (Err e) h = tt

  pub fails_whatever : (t : Tree) (old new : State W) (p : Option Held) (r : Result ℕ Asn1DerError)
      → IfErr r (λ e. RefusesWrite g t (record old { pending = p }) e new) → IfErr r (λ e. RefusesWrite g t old e new)
  fails_whatever t old new p (Ok n) h = tt
  fails_whatever t old new p (Err e) h = record { failed = h.failed; again = h.again; reason = h.reason }

  ended : (kind : ListKind) (all : Trees) (old : State W) (now : Writing W) (new : State W)
      (r : Result ℕ Asn1DerError) → EndsLevel g now r new → (a : Awaits kind Trees.none all old now)
      → WritesContent g (Tagged (list_tag kind)) (list_content kind (map der a.done)) (record old { pending = None }) r
      new
  ended kind all old now new r h a =
      let l = level_with kind a.done old in
      let empty = list_level kind old.around in
      let bs = map der a.done in
      let whole : WritesContent g l.header (final_content l) (beneath (opened_with kind a.done old)) r new =
      subst (λ s. WritesContent g s.level.header (final_content s.level) (beneath s) r new) a.is h.ended in
      let under_tag : WritesContent g (Tagged (list_tag kind)) (final_content l)
      (beneath (opened_with kind a.done old)) r new =
      subst (λ x. WritesContent g x (final_content l) (beneath (opened_with kind a.done old)) r new)
      (members_header empty bs) whole in
      let wrapped : WritesContent g (Tagged (list_tag kind)) (final_content l) (record old { pending = None }) r new =
      subst (λ x. WritesContent g (Tagged (list_tag kind)) (final_content l)
      (record { sink = old.sink; around = x; failed = old.failed; inside = old.inside; pending = None }) r new)
      (members_around empty bs) under_tag in
      subst (λ c. WritesContent g (Tagged (list_tag kind)) c (record old { pending = None }) r new)
      (final_content-members kind old.around bs) wrapped

  same_list : (kind : ListKind) (all : Trees) (old : State W) (now : Writing W) (a : Awaits kind Trees.none all old now)
      → AreAlike (Tree.primitive (Primitive.bytes (list_tag kind) (list_content kind (map der a.done))))
      (Tree.list kind all)
  same_list kind all old now a =
      subst (λ us. AreAlike (Tree.primitive (Primitive.bytes (list_tag kind) (list_content kind (map der a.done))))
      (Tree.list kind us)) (sym (a.split ∙ before_none a.done)) (alike_list kind a.done a.numbers)

  pub list_wrote : (kind : ListKind) (all : Trees) (old : State W) (now : Writing W) (new : State W)
      (r : Result ℕ Asn1DerError) → EndsLevel g now r new → Awaits kind Trees.none all old now
      → IfOk r (λ n. Writes g (Tree.list kind all) old n new)
  list_wrote kind all old now new r h a =
      writes-alike g _ _ old new r (same_list kind all old now a)
      (writes_whatever _ old new _ r (ended kind all old now new r h a).wrote)

  pub list_failed : (kind : ListKind) (all : Trees) (old : State W) (now : Writing W) (new : State W)
      (r : Result ℕ Asn1DerError) → EndsLevel g now r new → Awaits kind Trees.none all old now
      → IfErr r (λ e. RefusesWrite g (Tree.list kind all) old e new)
  list_failed kind all old now new r h a =
      fails-alike g _ _ old new r (same_list kind all old now a)
      (fails_whatever _ old new _ r (ended kind all old now new r h a).failed)

  pub list_untouched : (kind : ListKind) (all : Trees) (old : State W) (now : Writing W) (new : State W)
      (r : Result ℕ Asn1DerError) → EndsLevel g now r new → Awaits kind Trees.none all old now
      → IfErr r (λ e. UntouchedUnlessFailed g old.sink e new.sink)
  list_untouched kind all old now new r h a = (ended kind all old now new r h a).untouched

-- ---- the items of a list

next_at : {A : Type 0} (m : A → Tree) (xs : List A) (i : ℕ) (x : A) → i < length xs → x ≡ get_or xs i x
    → trees (map m (drop i xs)) ≡ Trees.more (m x) (trees (map m (drop (suc i) xs)))
next_at m [] i x h e = absurd (omega arith)
next_at m (y ∷ ys) zero x h e = ap (λ z. Trees.more (m z) (trees (map m ys))) (sym e)
next_at m (y ∷ ys) (suc i) x h e = next_at m ys i x (omega arith) e

-- the next of the items
pub item_at : {A : Type 0} (m : A → Tree) (xs : List A) (i : ℕ) (x : A) → i < length xs → x ≡ get_or xs i x
    → trees (map m (drop i xs)) ≡ Trees.more (m x) (trees (map m (drop (i + 1) xs)))
item_at m xs i x h e = next_at m xs i x h e ∙ ap (λ n. Trees.more (m x) (trees (map m (drop n xs)))) (sym (add-one i))

-- and none after the last
pub items_end : {A : Type 0} (m : A → Tree) (xs : List A) (i : ℕ) → length xs ≤ i
    → trees (map m (drop i xs)) ≡ Trees.none
items_end m [] i h = none_of i
  where
    none_of : (j : ℕ) → trees (map m (drop j [])) ≡ Trees.none
    none_of zero = refl
    none_of (suc j) = refl
items_end m (y ∷ ys) zero h = absurd (omega arith)
items_end m (y ∷ ys) (suc i) h = items_end m ys i (omega arith)
