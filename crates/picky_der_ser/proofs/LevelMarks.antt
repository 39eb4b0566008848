-- A level while more bytes come.
use Rattle.std.proofs.Common.{not, ◌≡◌, ◌≢◌, ℕ, ◌≤◌, ◌+◌, ◌-◌, Bool, true, false, List, [], ◌∷◌, ◌++◌, length}
use Rattle.std.proofs.Common.{take}
use Rattle.std.proofs.Common.{drop, Option, None, Some, refl, sym, ap, ap₂, ◌∙◌, arith, subst, length-append, ◌⊎◌}
use Rattle.std.proofs.Common.{inl, inr}
use Rattle.std.proofs.Math.Seq.{take-append_seam, drop-append_seam}
use Rattle.std.proofs.lemmas.Bool.{false≢true}
use Rattle.std.specs.Prelude.{if◌then◌else◌}
use Rattle.std.specs.Option.{is_some}
use Rattle.std.proofs.lemmas.List.{take-append-le, drop-append-le, take_all, drop_all, length-drop, append-nil}
use Rattle.std.proofs.lemmas.List.{length-take-le}
use Rattle.picky_der_core.specs.declared.asn1.wrapper.Wrapper.{Wrapper}
use Rattle.picky_der_core.specs.declared.failure.Failure.{Failure}
use Rattle.picky_der_core.specs.Tree.{Tree}
use Rattle.picky_der_core.specs.Encoding.{der}
use Rattle.picky_der_core.specs.OpenWrappers.{under}
use Rattle.picky_der_core.specs.declared.misc.writer.WriteExt.{Ghosts}
use Rattle.picky_der_ser.specs.declared.header.Header.{Header}
use Rattle.picky_der_ser.specs.declared.levels.Mark.{Mark}
use Rattle.picky_der_ser.specs.declared.levels.Place.{Place}
use Rattle.picky_der_ser.specs.declared.levels.Place.TheVariants as place
use Rattle.picky_der_ser.specs.Headers.{wrappers, is_set, own_tag, HasNumber, CanAllBeOpen}
use Rattle.picky_der_ser.specs.Seams.{AreSeams, last_seam, next_seams}
use Rattle.picky_der_ser.specs.State.{Level, Held, Stack, State, extended, stack, with_bytes, with_member}
use Rattle.picky_der_ser.specs.State.{at_next_member}
use Rattle.picky_der_ser.specs.Marks.{level_at, level_in, held_of, first, inside_at, pending_at, around_at, is_open}
use Rattle.picky_der_ser.specs.Marks.{is_inside, tags}
use Rattle.picky_der_ser.specs.Marks.{outside, HasTag, IsMark, IsOpen, IsEntered, Opens, Enters}
use Rattle.picky_der_ser.specs.Marks.{writing}
use Rattle.picky_der_ser.specs.Calls.{Writes, AddsIn, AddsMember, EntersLevel}
use Rattle.picky_der_ser.proofs.ListBytes.{seams-next, last_seam-next, drop-next_seams, take-next_seams}
use Rattle.picky_der_ser.proofs.ListBytes.{length-next_seams}

-- ---- more bytes after those that are held

-- where the content begins
pub within : {m : Mark} {h : Held} → IsMark m h → m.start ≤ length h.bytes
within {m} {h} k = omega (arith, k.within)

tag-more : {m : Mark} {h : Held} (bs : List ℕ) → m.start ≤ length h.bytes → HasTag m h → HasTag m (extended h bs)
tag-more {m} {h} bs fits k =
    let before : m.at ≤ length h.bytes = omega (arith, fits, k.room) in
    let two : 1 ≤ length (drop m.at h.bytes) = omega (arith, fits, k.room, length-drop m.at h.bytes) in
    record {
      inside = k.inside;
      bare = k.bare;
      room = k.room;
      tag = k.tag ∙ sym (ap (take 1) (drop-append-le m.at h.bytes bs before)
          ∙ take-append-le 1 (drop m.at h.bytes) bs two);
    }

pub mark-more : {m : Mark} {h : Held} (bs : List ℕ) → IsMark m h → IsMark m (extended h bs)
mark-more {m} {h} bs k = record {
  opened = k.opened;
  numbers = k.numbers;
  number = k.number;
  room = k.room;
  within_seams = k.within_seams;
  within = omega (arith, k.within, length-append h.bytes bs);
  ascending = k.ascending;
  ready = k.ready;
  has_tag = λ e. tag-more bs (within k) (k.has_tag e);
}

pub level-more : {m : Mark} {h : Held} (bs : List ℕ) → IsMark m h
    → level_at m (extended h bs) ≡ with_bytes (level_at m h) bs
level-more {m} {h} bs k = ap (λ c. record (level_at m h) { content = c }) (drop-append-le m.start h.bytes bs (within k))

outside-at : (p : Place) (n q : ℕ) (h : Held) (bs : List ℕ) → n ≤ length h.bytes → is_open p ≡ true
    → inside_at p n q (extended h bs) ≡ inside_at p n q h
outside-at place.Member n q h bs k o = cc
outside-at place.WrappedMember n q h bs k o = cc
outside-at place.OpenMember n q h bs k o =
    ap (λ x. Some (record { bytes = x; seams = take q h.seams })) (take-append-le n h.bytes bs k)
outside-at place.Sink n q h bs k o = cc
outside-at place.WrappedSink n q h bs k o = cc
outside-at place.OpenSink n q h bs k o = refl

pub outside-more : {m : Mark} {h : Held} (bs : List ℕ) → IsMark m h → outside m (extended h bs) ≡ outside m h
outside-more {m} {h} bs k = outside-at m.place m.at m.first_seam h bs (omega (arith, k.room, within k)) k.opened

-- ---- a member

-- a serializer with these levels
abbrev pub state_with : {W : Type 0} → W → Option Failure → Stack → State W
state_with sink failed levels = record {
  sink = sink;
  around = levels.around;
  failed = failed;
  inside = levels.inside;
  pending = levels.pending;
}

-- where no wrapper and no level is open
pub bare_state : {W : Type 0} (s : State W) → s.around ≡ [] → s.pending ≡ None
    → s ≡ record s { around = []; pending = None }
bare_state s a p = ap₂ (λ x y. record s { around = x; pending = y }) a p

module _ {W : Type 0} (g : Ghosts W) where
  -- the level was entered, the member was written, and the level is open again
  pub member_added : (m n : Mark) (t : Tree) (old s v new : State W) (ws : List Wrapper) (count : ℕ)
      → EntersLevel g m old n s
      → Writes g t (record s { around = ws; pending = None }) count v
      → ((h : Held) → v.inside ≡ Some h
      → stack new ≡ record { inside = outside n h; pending = Some h; around = [] })
      → new.sink ≡ v.sink → new.failed ≡ v.failed
      → AddsMember g (under ws t) (writing m old) (writing n new)
  member_added m n t old s v new ws count e w left sink failed =
      let h = e.entered.held in
      let bs = der (under ws t) in
      let inside : s.inside ≡ Some h = ap (λ (k : Stack). k.inside) e.entered.is in
      let adds : AddsIn g (Some h) v.inside s.sink v.sink bs =
      subst (λ k. AddsIn g k v.inside s.sink v.sink bs) inside w.adds in
      let last : stack new
      ≡ record { inside = outside n (extended h bs); pending = Some (extended h bs); around = [] } =
      left (extended h bs) adds.0 in
      let was : old.pending ≡ Some e.entered.before = e.entered.was in
      let outer : new.inside ≡ old.inside = ap (λ (k : Stack). k.inside) last ∙ outside-more bs e.entered.mark
      ∙ sym e.entered.outer in
      let level : level_in n new.pending ≡ with_member (level_in m old.pending) bs =
      ap (level_in n) (ap (λ (k : Stack). k.pending) last) ∙ level-more bs e.entered.mark
      ∙ ap (λ l. with_bytes l bs) e.entered.level
      ∙ ap (λ p. with_member (level_in m p) bs) (sym was) in
      let same : new.sink ≡ old.sink = sink ∙ adds.1 ∙ e.same in
      let not : new.failed ≡ None = failed ∙ w.not_failed in
      record {
        had_not_failed = e.had_not_failed;
        writable = w.writable;
        added = rw (same, not, outer, level) refl;
      }

  -- before it is left, its mark says what is held
  pub member_entered : (m n : Mark) (t : Tree) (old s v : State W) (ws : List Wrapper) (count : ℕ)
      → EntersLevel g m old n s → Writes g t (record s { around = ws; pending = None }) count v → IsEntered n v.inside
  member_entered m n t old s v ws count e w =
      let h = e.entered.held in
      let bs = der (under ws t) in
      let inside : s.inside ≡ Some h = ap (λ (k : Stack). k.inside) e.entered.is in
      let adds : AddsIn g (Some h) v.inside s.sink v.sink bs =
      subst (λ k. AddsIn g k v.inside s.sink v.sink bs) inside w.adds in
      subst (IsEntered n) (sym adds.0) (mark-more bs e.entered.mark)

  -- and no wrapper is open once it is left
  pub member_bare : (m n : Mark) (t : Tree) (old s v new : State W) (ws : List Wrapper) (count : ℕ)
      → EntersLevel g m old n s
      → Writes g t (record s { around = ws; pending = None }) count v
      → ((h : Held) → v.inside ≡ Some h
      → stack new ≡ record { inside = outside n h; pending = Some h; around = [] })
      → new.around ≡ []
  member_bare m n t old s v new ws count e w left =
      let h = e.entered.held in
      let inside : s.inside ≡ Some h = ap (λ (k : Stack). k.inside) e.entered.is in
      let adds : AddsIn g (Some h) v.inside s.sink v.sink (der (under ws t)) =
      subst (λ k. AddsIn g k v.inside s.sink v.sink (der (under ws t))) inside w.adds in
      ap (λ (k : Stack). k.around) (left (extended h (der (under ws t))) adds.0)

  -- so the level of the mark is open
  pub member_open : (m n : Mark) (t : Tree) (old s v new : State W) (ws : List Wrapper) (count : ℕ)
      → EntersLevel g m old n s
      → Writes g t (record s { around = ws; pending = None }) count v
      → ((h : Held) → v.inside ≡ Some h
      → stack new ≡ record { inside = outside n h; pending = Some h; around = [] })
      → IsOpen n new.inside new.pending
  member_open m n t old s v new ws count e w left =
      let h = e.entered.held in
      let bs = der (under ws t) in
      let inside : s.inside ≡ Some h = ap (λ (k : Stack). k.inside) e.entered.is in
      let adds : AddsIn g (Some h) v.inside s.sink v.sink bs =
      subst (λ k. AddsIn g k v.inside s.sink v.sink bs) inside w.adds in
      let last : stack new
      ≡ record { inside = outside n (extended h bs); pending = Some (extended h bs); around = [] } =
      left (extended h bs) adds.0 in
      subst (λ (k : Stack). IsOpen n k.inside k.pending) (sym last) (mark-more bs e.entered.mark, refl)

abbrev empty_level : Header → List Wrapper → Level
empty_level header around = record { header = header; around = around; content = []; seams = [] }

abbrev pub stack_of : Option Held → Option Held → List Wrapper → Stack
stack_of inside pending around = record { inside = inside; pending = pending; around = around }

-- ---- a level that is opened

-- nothing or these bytes were added
pub grown : (ok : Bool) (s t pad : List ℕ) → t ≡ (if ok then s ++ pad else s) → (x : List ℕ) × (t ≡ s ++ x)
grown true s t pad e = (pad, e)
grown false s t pad e = ([], e ∙ sym (append-nil s))

module _ (m : Mark) (b q pad : List ℕ) (at : m.at ≡ length b) (start : m.start ≡ length b + length pad)
    (seams : m.first_seam ≡ length q) where
  no_seams : drop m.first_seam q ≡ []
  no_seams = drop_all m.first_seam q (omega (arith, seams))

  pub fresh_level : level_at m (held_of (b ++ pad) q) ≡ record {
    header = m.header;
    around = wrappers m.around;
    content = [];
    seams = [];
  }
  fresh_level =
      let none : drop m.start (b ++ pad) ≡ [] =
      drop_all m.start (b ++ pad) (omega (arith, start, length-append b pad)) in
      ap₂ (λ c s. record { header = m.header; around = wrappers m.around; content = c; seams = s }) none no_seams

  pub fresh_front : first m.at m.first_seam (held_of (b ++ pad) q) ≡ held_of b q
  fresh_front =
      let front : take m.at (b ++ pad) ≡ b = ap (λ k. take k (b ++ pad)) at ∙ take-append_seam b pad in
      ap₂ held_of front (take_all m.first_seam q (omega (arith, seams)))

  pub fresh_mark : is_open m.place ≡ true → CanAllBeOpen (wrappers m.around) → HasNumber m.header
      → (m.is_ready ≡ true → is_set m.header ≡ false) → (m.has_tag ≡ true → HasTag m (held_of (b ++ pad) q))
      → IsMark m (held_of (b ++ pad) q)
  fresh_mark is numbers number ready tag = record {
    opened = is;
    numbers = numbers;
    number = number;
    room = omega (arith, at, start);
    within_seams = omega (arith, seams);
    within = omega (arith, start, length-append b pad, ap (last_seam 0) no_seams);
    ascending = subst (AreSeams 0) (sym no_seams) tt;
    ready = ready;
    has_tag = tag;
  }

inside-whole : (p : Place) (n f : ℕ) (h : Held) → pending_at p h ≡ None
    → (inside_at p n f h ≡ None) ⊎ (inside_at p n f h ≡ Some h)
inside-whole place.Member n f h e = inr refl
inside-whole place.WrappedMember n f h e = inr refl
inside-whole place.OpenMember n f h e = absurd (cc)
inside-whole place.Sink n f h e = inl refl
inside-whole place.WrappedSink n f h e = inl refl
inside-whole place.OpenSink n f h e = inl refl

-- there is nothing around what is there, whatever it is
pub inside-none : (p r : Place) (n f n' f' : ℕ) (h h' : Held) → r ≡ p → inside_at p n f h ≡ None
    → inside_at r n' f' h' ≡ None
inside-none place.Member r n f n' f' h h' e x = absurd (cc)
inside-none place.WrappedMember r n f n' f' h h' e x = absurd (cc)
inside-none place.OpenMember r n f n' f' h h' e x = absurd (cc)
inside-none place.Sink r n f n' f' h h' e x = ap (λ s. inside_at s n' f' h') e
inside-none place.WrappedSink r n f n' f' h h' e x = ap (λ s. inside_at s n' f' h') e
inside-none place.OpenSink r n f n' f' h h' e x = ap (λ s. inside_at s n' f' h') e

-- what is ready isn't a set
pub unset : (b s r : Bool) → b ≡ s → r ≡ not b → r ≡ true → s ≡ false
unset true s r e is ready = absurd (false≢true (sym is ∙ ready))
unset false s r e is ready = sym e

-- there is something around a member
pub inside-some : (p : Place) (n f : ℕ) (h : Held) (inside : Option Held) → p ≡ place.Member
    → inside ≡ inside_at p n f h → inside ≢ None
inside-some p n f h inside e was x =
    let some : Some h ≡ None = sym (ap (λ r. inside_at r n f h) e) ∙ sym was ∙ x in
    cc

-- where there was room, these bytes were added
pub grown_all : (ok : Bool) (s t pad : List ℕ) → ok ≡ true → t ≡ (if ok then s ++ pad else s) → t ≡ s ++ pad
grown_all ok s t pad e is = is ∙ ap (λ b. if b then s ++ pad else s) e

-- a tag, before a byte for the length
pub tag_there : (m : Mark) (b q : List ℕ) (tag : ℕ) → m.at ≡ length b → is_inside m.place ≡ true
    → is_some m.around ≡ false → m.start ≡ m.at + 2 → own_tag true m.header ≡ Some tag
    → HasTag m (held_of (b ++ (tag ∷ 0x00 ∷ [])) q)
tag_there m b q tag at inside bare room own = record {
  inside = inside;
  bare = bare;
  room = room;
  tag = ap tags own
      ∙ sym (ap (λ n. take 1 (drop n (b ++ (tag ∷ 0x00 ∷ [])))) at
      ∙ ap (take 1) (drop-append_seam b (tag ∷ 0x00 ∷ [])));
}

-- in place of none
module _ (m : Mark) (old : Stack) (p : Place) (n f : ℕ) (w : Wrapper) (b q pad bytes : List ℕ)
    (more : bytes ≡ b ++ pad) (at : m.at ≡ length b) (start : m.start ≡ length bytes) (seams : m.first_seam ≡ length q)
    (none : pending_at p (held_of b q) ≡ None) (was : old.inside ≡ inside_at p n f (held_of b q))
    (around : wrappers m.around ≡ old.around) (numbers : CanAllBeOpen (wrappers m.around)) (number : HasNumber m.header)
    (ready : m.is_ready ≡ true → is_set m.header ≡ false)
    (tagged : m.has_tag ≡ true → HasTag m (held_of (b ++ pad) q)) where
  wide : m.start ≡ length b + length pad
  wide = omega (arith, start, ap length more, length-append b pad)

  abbrev opened_held : Held
  opened_held = held_of bytes q

  abbrev opened_stack : Stack
  opened_stack = record {
    inside = outside m opened_held;
    pending = pending_at m.place opened_held;
    around = around_at m.place w;
  }

  opens_by : is_open m.place ≡ true → opened_stack ≡ stack_of old.inside (Some opened_held) []
      → old.inside ≡ outside m opened_held → Opens m.header old m opened_stack
  opens_by is stacked outer = record {
    held = opened_held;
    is = stacked;
    outer = outer;
    mark = subst (λ x. IsMark m (held_of x q)) (sym more) (fresh_mark m b q pad at wide seams is numbers number ready
        tagged);
    level = ap (λ x. level_at m (held_of x q)) more ∙ fresh_level m b q pad at wide seams
        ∙ ap (empty_level m.header) around;
  }

  pub opens_member : old.inside ≢ None → m.place ≡ place.OpenMember → Opens m.header old m opened_stack
  opens_member some e =
      let front : first m.at m.first_seam opened_held ≡ held_of b q =
      ap (λ x. first m.at m.first_seam (held_of x q)) more ∙ fresh_front m b q pad at wide seams in
      let inside : old.inside ≡ Some (held_of b q) =
      elim (inside-whole p n f (held_of b q) none) [ inl x ↦ absurd (some (was ∙ x)) | inr x ↦ was ∙ x ] in
      let outer : old.inside ≡ outside m opened_held =
      inside ∙ sym (ap Some front) ∙ ap (λ k. inside_at k m.at m.first_seam opened_held) (sym e) in
      let stacked : opened_stack ≡ stack_of old.inside (Some opened_held) [] =
      ap (λ v. stack_of (inside_at v m.at m.first_seam opened_held) (pending_at v opened_held) (around_at v w)) e
      ∙ ap (λ i. stack_of i (Some opened_held) []) (ap Some front ∙ sym inside) in
      opens_by (ap is_open e) stacked outer

  pub opens_outside : old.inside ≡ None → m.place ≡ place.OpenSink → Opens m.header old m opened_stack
  opens_outside empty e =
      let outer : old.inside ≡ outside m opened_held =
      empty ∙ ap (λ k. inside_at k m.at m.first_seam opened_held) (sym e) in
      let stacked : opened_stack ≡ stack_of old.inside (Some opened_held) [] =
      ap (λ v. stack_of (inside_at v m.at m.first_seam opened_held) (pending_at v opened_held) (around_at v w)) e
      ∙ ap (λ i. stack_of i (Some opened_held) []) (sym empty) in
      opens_by (ap is_open e) stacked outer

-- ---- another member

module _ (m : Mark) (start : ℕ) (ready : Bool) (b q pad p : List ℕ) (k : IsMark m (held_of b q))
    (room : m.at ≤ start) (fits : start ≤ length (b ++ pad)) (same : drop start (b ++ pad) ≡ drop m.start b)
    (lists : ready ≡ true → is_set m.header ≡ false) (tagged : m.has_tag ≡ true → start ≡ m.start)
    (next : p ≡ next_seams m.header q (length (b ++ pad) - start)) where
  abbrev now : Mark
  now = record m { start = start; is_ready = ready }

  abbrev own : List ℕ
  own = drop m.first_seam q

  count : length (b ++ pad) - start ≡ length (drop m.start b)
  count = omega (arith, ap length same, length-drop start (b ++ pad))

  own_next : drop m.first_seam p ≡ next_seams m.header own (length (drop m.start b))
  own_next = ap (drop m.first_seam) next
      ∙ drop-next_seams m.header m.first_seam q (length (b ++ pad) - start) k.within_seams
      ∙ ap (next_seams m.header own) count

  fitting : last_seam 0 own ≤ length (drop m.start b)
  fitting = omega (arith, k.within, length-drop m.start b)

  pub entered_mark : IsMark now (held_of (b ++ pad) p)
  entered_mark = record {
    opened = k.opened;
    numbers = k.numbers;
    number = k.number;
    room = room;
    within_seams =
        omega (
          arith,
          k.within_seams,
          length-next_seams m.header q (length (b ++ pad) - start),
          ap length next,
        );
    within =
        omega (
          arith,
          fits,
          count,
          last_seam-next m.header own (length (drop m.start b)) fitting,
          ap (last_seam 0) own_next,
        );
    ascending =
        subst (AreSeams 0) (sym own_next)
        (seams-next m.header own (length (drop m.start b)) fitting k.ascending);
    ready = lists;
    has_tag = λ e. let t = tag-more pad (within k) (k.has_tag e) in record {
      inside = t.inside;
      bare = t.bare;
      room = tagged e ∙ t.room;
      tag = t.tag;
    };
  }

  pub entered_level : level_at now (held_of (b ++ pad) p) ≡ at_next_member (level_at m (held_of b q))
  entered_level =
      ap₂ (λ c s. record { header = m.header; around = wrappers m.around; content = c; seams = s }) same own_next

  pub entered_outside : outside now (held_of (b ++ pad) p) ≡ outside m (held_of b q)
  entered_outside = outside_next m.place m.at m.first_seam
      (λ e. take-append-le m.at b pad (omega (arith, k.room, within k)))
      (ap (take m.first_seam) next
      ∙ take-next_seams m.header m.first_seam q (length (b ++ pad) - start) k.within_seams) k.opened
    where
      outside_next : (p' : Place) (n f : ℕ) → (is_open p' ≡ true → take n (b ++ pad) ≡ take n b)
          → take f p ≡ take f q → is_open p' ≡ true
          → inside_at p' n f (held_of (b ++ pad) p) ≡ inside_at p' n f (held_of b q)
      outside_next place.Member n f x y o = cc
      outside_next place.WrappedMember n f x y o = cc
      outside_next place.OpenMember n f x y o = ap₂ (λ c s. Some (held_of c s)) (x refl) y
      outside_next place.Sink n f x y o = cc
      outside_next place.WrappedSink n f x y o = cc
      outside_next place.OpenSink n f x y o = refl

  pub enters : (old : Stack) → old.pending ≡ Some (held_of b q) → old.inside ≡ outside m (held_of b q)
      → Enters m old now (record { inside = Some (held_of (b ++ pad) p); pending = None; around = [] })
  enters old was outer = record {
    before = held_of b q;
    was = was;
    held = held_of (b ++ pad) p;
    is = refl;
    outer = outer ∙ sym entered_outside;
    mark = entered_mark;
    level = entered_level;
  }

pub enters_by : (m n : Mark) (b q pad bytes p : List ℕ) (old : Stack) → IsMark m (held_of b q)
    → n ≡ record m { start = n.start; is_ready = n.is_ready } → bytes ≡ b ++ pad → m.at ≤ n.start
    → n.start ≤ length bytes → drop n.start bytes ≡ drop m.start b → (n.is_ready ≡ true → is_set m.header ≡ false)
    → (m.has_tag ≡ true → n.start ≡ m.start) → p ≡ next_seams m.header q (length bytes - n.start)
    → old.pending ≡ Some (held_of b q) → old.inside ≡ outside m (held_of b q)
    → Enters m old n (record { inside = Some (held_of bytes p); pending = None; around = [] })
enters_by m n b q pad bytes p old k is more room fits same lists tagged next was outer =
    let wide : n.start ≤ length (b ++ pad) = omega (arith, fits, ap length more) in
    let whole = enters m n.start n.is_ready b q pad p k room wide (ap (drop n.start) (sym more) ∙ same) lists tagged
    (next ∙ ap (λ x. next_seams m.header q (length x - n.start)) more) old was outer in
    subst (λ r. Enters m old r (record { inside = Some (held_of bytes p); pending = None; around = [] })) (sym is)
    (subst (λ x. Enters m old (record m { start = n.start; is_ready = n.is_ready })
    (record { inside = Some (held_of x p); pending = None; around = [] })) (sym more) whole)

-- ---- the level that was opened last

-- where it is open, all that is held is with it
pub opened-by : (m : Mark) (p : Place) (h : Held) (inside pending : Option Held) → pending_at p h ≡ pending
    → IsOpen m inside pending → (pending ≡ Some h) × (IsMark m h × (inside ≡ outside m h))
opened-by m place.Member h inside pending e k = absurd (subst (IsOpen m inside) (sym e) k)
opened-by m place.WrappedMember h inside pending e k = absurd (subst (IsOpen m inside) (sym e) k)
opened-by m place.OpenMember h inside pending e k =
    let j : IsOpen m inside (Some h) = subst (IsOpen m inside) (sym e) k in (sym e, j)
opened-by m place.Sink h inside pending e k = absurd (subst (IsOpen m inside) (sym e) k)
opened-by m place.WrappedSink h inside pending e k = absurd (subst (IsOpen m inside) (sym e) k)
opened-by m place.OpenSink h inside pending e k =
    let j : IsOpen m inside (Some h) = subst (IsOpen m inside) (sym e) k in (sym e, j)

pub held_is : {h i : Held} → Some h ≡ Some i → h ≡ i
held_is e = cc

-- an open place in which something is held
pub open_member : (p : Place) (n f : ℕ) (h i : Held) → is_open p ≡ true → Some i ≡ inside_at p n f h
    → inside_at p n f h ≡ Some (first n f h)
open_member place.Member n f h i o e = absurd (cc)
open_member place.WrappedMember n f h i o e = absurd (cc)
open_member place.OpenMember n f h i o e = refl
open_member place.Sink n f h i o e = absurd (cc)
open_member place.WrappedSink n f h i o e = absurd (cc)
open_member place.OpenSink n f h i o e = absurd (cc)

-- with other bytes from its room on, the same is around it
module _ (m : Mark) (h : Held) (k : IsMark m h) (bs : List ℕ) where
  abbrev changed : Held
  changed = held_of (take m.at h.bytes ++ bs) (take m.first_seam h.seams)

  same_front : first m.at m.first_seam changed ≡ first m.at m.first_seam h
  same_front =
      let size : length (take m.at h.bytes) ≡ m.at = length-take-le m.at h.bytes (omega (arith, k.room, within k)) in
      ap₂ held_of (take-append-le m.at (take m.at h.bytes) bs (omega (arith, size))
      ∙ take_all m.at (take m.at h.bytes) (omega (arith, size)))
      (take_all m.first_seam (take m.first_seam h.seams) (omega (
        arith,
        length-take-le m.first_seam h.seams k.within_seams,
      )))

  -- where the mark says what stays
  pub changed_stack : (p : Place) (n f : ℕ) (w : Wrapper) (inside : Option Held) → inside_at p n f h ≡ inside
      → inside ≡ outside m h → pending_at p h ≡ Some h
      → ◌≡◌ {A = Stack}
      (stack_of (inside_at p m.at m.first_seam changed) (pending_at p changed) (around_at p w))
      (stack_of inside (Some changed) [])
  changed_stack place.Member n f w inside e o is = absurd (cc)
  changed_stack place.WrappedMember n f w inside e o is = absurd (cc)
  changed_stack place.OpenMember n f w inside e o is =
      let outer : inside_at m.place m.at m.first_seam h ≡ Some (first m.at m.first_seam h) =
      open_member m.place m.at m.first_seam h (first n f h) k.opened (e ∙ o) in
      ap (λ i. stack_of i (Some changed) []) (ap Some same_front ∙ sym outer ∙ sym o)
  changed_stack place.Sink n f w inside e o is = absurd (cc)
  changed_stack place.WrappedSink n f w inside e o is = absurd (cc)
  changed_stack place.OpenSink n f w inside e o is =
      ap (λ i. stack_of i (Some changed) []) e
