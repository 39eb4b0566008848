-- From what reading gives, what an entry call gives.
use Rattle.std.proofs.Common.{◌≡◌, ◌≢◌, ◌⊎◌, ℕ, ◌+◌, ◌<◌, ◌^◌, Bool, List, [], ◌∷◌, ◌++◌, length, Option, Some, None}
use Rattle.std.proofs.Common.{IfSome, Result, Ok, Err, IfErr, refl, sym, ◌∙◌, subst, ap, inl, inr, arith, length-append}
use Rattle.std.proofs.Common.{append_assoc, ◌≤◌, append-nil}
use Rattle.std.specs.Io.KnownBytes.{Consumes}
use Rattle.std.proofs.KnownBytes.{Consumes-nil}
use Rattle.picky_der_core.specs.declared.error.Asn1DerError.{Asn1DerError}
use Rattle.picky_der_core.specs.declared.error.Asn1DerError.TheVariants.{TruncatedData, InvalidData, UnsupportedValue}
use Rattle.picky_der_core.specs.declared.error.Asn1DerError.TheVariants.{UnsupportedType, InvalidSink, Message, Other}
use Rattle.picky_der_core.specs.declared.error.Asn1DerError.TheVariants.{OutOfMemory}
use Rattle.picky_der_core.specs.Element.{IsPrefix}
use Rattle.picky_der_core.specs.Tree.{Tree}
use Rattle.picky_der_core.specs.Encoding.{der}
use Rattle.picky_der_core.specs.Shape.{Shape, IsSound}
use Rattle.picky_der_core.specs.Reading.{Place, IsAtFront, ReadsFrom, IsMendable}
use Rattle.picky_der_core.specs.Faults.{Fault}
use Rattle.picky_der_core.specs.Reader.{ReportsFault}
use Rattle.picky_der_core.specs.ReaderLaws.{not_more}
use Rattle.picky_der_core.proofs.Unique.{same_tree}
use Rattle.picky_der_de.specs.State.{State, fresh}
use Rattle.picky_der_core.specs.Peeking.{prepend, count_of_any}
use Rattle.picky_der_de.specs.Steps.{IsJudged, IsOther, fetched_count}
use Rattle.picky_der_de.specs.Reading.{Reads, Refuses, now, ever}
use Rattle.picky_der_de.specs.FinalRefusals.{not_mendable}
use Rattle.picky_der_de.specs.InjectiveLaws.{IsInjective}
use Rattle.picky_der_de.specs.Entry.{any_length, IsFront, HasNoFront, ReaderView, ReadsFront, Fetches, RefusesFront}
use Rattle.picky_der_de.specs.Entry.{RefusesNextValue}
use Rattle.picky_der_de.proofs.Refusals.{front_consumed}
use Rattle.std.specs.Prelude.{take, drop}
use Rattle.std.proofs.lemmas.List.{take-append-drop, length-take, length-take-le}
use Rattle.std.proofs.Math.Nat.{le-min}
use Rattle.std.proofs.Math.Seq.{take-append-add}
use Rattle.picky_der_de.specs.Whole.{IsEncodingOf, IsWhole, IsNoEncoding}

-- ---- what is left in the reader

-- a peeked byte was consumed too
fetched_prepended : (i r : Option (List ℕ)) (p : Option ℕ) (x : List ℕ) → Consumes i (prepend p r) x
    → (d : List ℕ) × (length d ≡ length x + count_of_any p) × Consumes i r d
fetched_prepended i r None x c = (x, omega arith, c)
fetched_prepended None r (Some b) x c = (x ++ (b ∷ []), length-append x (b ∷ []), tt)
fetched_prepended (Some bs) None (Some b) x c = absurd c
fetched_prepended (Some bs) (Some cs) (Some b) x c =
    (x ++ (b ∷ []), length-append x (b ∷ []), c ∙ sym (append_assoc x (b ∷ []) cs))

left_of : (p : Option ℕ) (r : Option (List ℕ)) → p ≡ None → prepend p r ≡ r
left_of None r e = refl
left_of (Some b) r e = absurd (let q : Some b ≡ None = e in cc)

-- what was known of the reader after an I/O error is still known, since no byte is peeked there
reported_fault : {before between after : List Fault} {seen left : Option (List ℕ)} {peeked : Option ℕ}
    {e : Asn1DerError} → ReportsFault before between seen e → (between ≢ before → peeked ≡ None) → after ≡ between
    → seen ≡ prepend peeked left → ReportsFault before after left e
reported_fault {before = before} {left = left} {peeked = peeked} (ReportsFault.fault kind once is) unpeeked same front =
    let none = unpeeked (λ kept. not_more (sym once ∙ kept)) in
    ReportsFault.fault kind (same ∙ once
    ∙ ap (λ i. record { kind = kind; left = i } ∷ before) (front ∙ left_of peeked left none)) is
reported_fault (ReportsFault.no_fault none) unpeeked same front = ReportsFault.no_fault (same ∙ none)

-- ---- what more bytes could complete

unless_truncated : (e : Asn1DerError) → (e ≢ TruncatedData → ⊥) → e ≡ TruncatedData
unless_truncated TruncatedData h = refl
unless_truncated InvalidData h = absurd (h (λ (q : InvalidData ≡ TruncatedData). cc))
unless_truncated UnsupportedValue h = absurd (h (λ (q : UnsupportedValue ≡ TruncatedData). cc))
unless_truncated UnsupportedType h = absurd (h (λ (q : UnsupportedType ≡ TruncatedData). cc))
unless_truncated InvalidSink h = absurd (h (λ (q : InvalidSink ≡ TruncatedData). cc))
unless_truncated (Message text) h = absurd (h (λ (q : Message text ≡ TruncatedData). cc))
unless_truncated (Other kind) h = absurd (h (λ (q : Other kind ≡ TruncatedData). cc))
unless_truncated OutOfMemory h = absurd (h (λ (q : OutOfMemory ≡ TruncatedData). cc))

-- one of two beginnings of one list begins the other
comparable : (a b x y : List ℕ) → a ++ x ≡ b ++ y → IsPrefix a b ⊎ IsPrefix b a
comparable [] b x y e = inl (record { rest = b; is = refl })
comparable (c ∷ a) [] x y e = inr (record { rest = c ∷ a; is = refl })
comparable (c ∷ a) (d ∷ b) x y e =
    let head : c ≡ d = cc in
    let tail : a ++ x ≡ b ++ y = cc in
    elim (comparable a b x y tail) [
      | inl h ↦ inl (record { rest = h.rest; is = rw head (ap (λ z. d ∷ z) h.is) })
      | inr h
          ↦ inr (record { rest = h.rest; is = rw head (ap (λ z. d ∷ z) h.is) })
    ]

-- what more bytes after some could complete, more bytes after their beginning could too
mends_beginning : {V : Type 0} {meaning : V → Tree} {s : Shape} {until_end : ℕ} (d left : List ℕ)
    → IsMendable meaning s Place.whole (d ++ left) until_end → IsMendable meaning s Place.whole d until_end
mends_beginning {meaning = meaning} d left m = record {
  value = m.value;
  of_shape = m.of_shape;
  readable = m.readable;
  may_be_there = m.may_be_there;
  within = m.within;
  agrees = elim m.agrees [
    | inl h ↦ comparable (der (meaning m.value)) d h.rest left (sym h.is)
    | inr h ↦ inr (record { rest = left ++ h.rest; is = h.is ∙ append_assoc d left h.rest })
  ];
}

-- ---- read and refused

-- two facts of one error
pub err_both : {A : Type 0} (P Q : Asn1DerError → Type 0) (r : Result A Asn1DerError) → IfErr r P → IfErr r Q
    → IfErr r (λ e. P e × Q e)
err_both P Q (Ok v) p q = tt
err_both P Q (Err e) p q = (p, q)

-- two trees at the front are one
one_tree : (s : Shape) → IsSound s → {bytes : List ℕ} {limit : ℕ} (t u : Tree) → IsAtFront Place.whole s bytes limit t
    → IsAtFront Place.whole s bytes limit u → t ≡ u
one_tree s sound t u a b =
    (same_tree s sound t u a.of_shape b.of_shape a.readable b.readable a.front.rest b.front.rest (sym a.front.is
    ∙ b.front.is)).0

abbrev start_state : ReaderView → ℕ → List ℕ → State
start_state r limit references = fresh r.input limit r.faults references

module _ {V : Type 0} (meaning : V → Tree) (s : Shape) {old new : State} {references : List ℕ} {limit : ℕ}
    (before after : ReaderView) (is : old ≡ start_state before limit references) (left : new.input
    ≡ prepend new.peeked after.input) (faults : after.faults ≡ new.faults) where
  at_front_of : (bytes : List ℕ) (t : Tree) → before.input ≡ Some bytes
      → Reads s (start_state before limit references) new t → IsAtFront Place.whole s bytes limit t
  at_front_of bytes t k r =
      let front = front_consumed before.input new.input (der t) bytes r.consumes.input k in
      record {
        of_shape = r.of_shape;
        readable = r.readable;
        may_be_there = tt;
        within =
            omega (arith, r.consumes.until_end);
        front = record { rest = front.0; is = front.2 };
      }

  -- the value that was read is the one at the front
  pub reads_front : (eq : V → V → Bool) → IsSound s → IsInjective meaning s eq → (v : V) → Reads s old new (meaning v)
      → ReadsFront meaning s eq limit before after v
  reads_front eq sound known v read =
      let r : Reads s (start_state before limit references) new (meaning v) =
      subst (λ o. Reads s o new (meaning v)) is read in
      record {
        of_shape = r.of_shape;
        readable = r.readable;
        within = omega (arith, r.consumes.until_end);
        fetched = subst (λ i. Consumes before.input i (der (meaning v)))
            (left ∙ left_of new.peeked after.input r.consumes.unpeeked) r.consumes.input;
        front = λ bytes k. let at_front = at_front_of bytes (meaning v) k r in record {
          reads = at_front;
          only = λ w other. known v w at_front.of_shape other.of_shape at_front.readable
              (one_tree s sound (meaning v) (meaning w) at_front other);
          same = λ w other. one_tree s sound (meaning v) (meaning w) at_front other;
        };
        faults = faults ∙ r.consumes.faults;
      }

  fetches : {e : Asn1DerError} → Refuses meaning s (start_state before limit references) new e
      → Fetches limit before.input after.input
  fetches h =
      let took = h.fails.took in
      let d = fetched_prepended before.input after.input new.peeked took.bytes
      (subst (λ i. Consumes before.input i took.bytes) left took.input) in
      let all = h.fails.within (record { end = omega arith; fetched = omega arith }) in
      record { bytes = d.0; are = d.2; within = omega (arith, d.1, took.count, all.fetched, h.fails.limit) }

  -- as many bytes were consumed as are gone from the reader
  gone : {e : Asn1DerError} → Refuses meaning s (start_state before limit references) new e → (d rest : List ℕ)
      → before.input ≡ Some (d ++ rest) → after.input ≡ Some rest
      → length d + 0 ≡ new.consumed + count_of_any new.peeked
  gone h d rest k still =
      let took = h.fails.took in
      let x = fetched_prepended before.input after.input new.peeked took.bytes
      (subst (λ i. Consumes before.input i took.bytes) left took.input) in
      let same : d ++ rest ≡ x.0 ++ rest =
      subst (λ i. Consumes (Some (d ++ rest)) i x.0) still (subst (λ i. Consumes i after.input x.0) k x.2) in
      omega (arith, x.1, took.count, length-append d rest, length-append x.0 rest, ap length same)

  -- no bytes after the consumed ones make a value, unless more bytes are asked for
  final : {e : Asn1DerError} → Refuses meaning s (start_state before limit references) new e
      → new.faults ≡ before.faults → e ≢ OutOfMemory → (d rest : List ℕ) → before.input ≡ Some (d ++ rest)
      → after.input ≡ Some rest → IsMendable meaning s Place.whole d any_length → e ≡ TruncatedData
  final {e} h same memory d rest k still m =
      let judged : IsJudged (start_state before limit references) new e =
      record { had_not_failed = refl; faults = same; memory = memory } in
      unless_truncated e (λ other. not_mendable h judged other d rest k (gone h d rest k still) m)

  -- where none was read, none is there
  pub refuses_front : {e : Asn1DerError} → Refuses meaning s old new e → RefusesFront meaning s limit before after e
  refuses_front {e} refused =
      let h : Refuses meaning s (start_state before limit references) new e =
      subst (λ o. Refuses meaning s o new e) is refused in
      record {
        none = λ same memory bytes k v at_front. h.none
            (record { had_not_failed = refl; faults = sym faults ∙ same; memory = memory }) limit bytes (now k refl) v
            at_front;
        final = λ same memory d rest k still m. final h (sym faults ∙ same) memory d rest k still m;
        first = λ same cut ahead b rest k. h.first (record {
          had_not_failed = refl;
          faults = sym faults ∙ same;
          memory =
              λ (o : e ≡ OutOfMemory). let q : TruncatedData ≡ OutOfMemory = sym cut ∙ o in cc;
        }) cut refl ahead b rest k;
        fetched = fetches h;
        faults = reported_fault h.fails.faults h.fails.unpeeked faults left;
        other = λ same. h.fails.other refl (sym faults ∙ same);
      }

  -- where a refusal means that something is left, there was
  pub refuses_next_value : {e : Asn1DerError} → Refuses meaning s old new e
      → (IsJudged old new e → 0 < old.until_end → IfSome old.input (λ bytes. 0 < length bytes))
      → RefusesNextValue meaning s limit before after e
  refuses_next_value {e} refused ahead = record {
    refuses = refuses_front refused;
    ahead = λ until_end same memory none mendable.
        let some : IsJudged (start_state before limit references) new e → 0 < limit
        → IfSome before.input (λ bytes. 0 < length bytes) =
        subst (λ (o : State). IsJudged o new e → 0 < o.until_end → IfSome o.input (λ bytes. 0 < length bytes)) is
        ahead in
        let bytes : IfSome (Some []) (λ (bytes : List ℕ). 0 < length bytes) =
        subst (λ i. IfSome i (λ bytes. 0 < length bytes)) none
        (some (record { had_not_failed = refl; faults = sym faults ∙ same; memory = memory }) until_end) in
        omega (arith, bytes);
  }

-- ---- refused whatever comes

-- what begins with no bytes at all is any value
mends_nothing : {V : Type 0} {meaning : V → Tree} {s : Shape} {limit : ℕ} (v : V) {input : List ℕ} → limit < 2 ^ 64
    → ReadsFrom meaning s input limit v → IsMendable meaning s Place.whole [] any_length
mends_nothing {meaning = meaning} v small h =
    record {
      value = v;
      of_shape = h.of_shape;
      readable = h.readable;
      may_be_there = tt;
      within =
          omega (arith, h.within);
      agrees = inr (record { rest = der (meaning v); is = refl });
    }

-- where no bytes make a value, nothing has to be consumed
pub refused_always : {V : Type 0} (meaning : V → Tree) (s : Shape) {limit : ℕ} (view : ReaderView) {e : Asn1DerError}
    → limit < 2 ^ 64 → e ≢ TruncatedData → (IsOther e → ⊥)
    → (e ≢ OutOfMemory → IsMendable meaning s Place.whole [] any_length → ⊥)
    → RefusesNextValue meaning s limit view view e
refused_always meaning s view small cut no_fault never = record {
  refuses = record {
    none = λ same memory input k v at_front. never memory (mends_nothing v small at_front);
    final = λ same memory d left k still m. absurd
        (never memory (record {
          value = m.value;
          of_shape = m.of_shape;
          readable = m.readable;
          may_be_there =
              tt;
          within = m.within;
          agrees = inr (record { rest = der (meaning m.value); is = refl });
        }));
    first = λ same is. absurd (cut is);
    fetched = record { bytes = []; are = Consumes-nil view.input; within = omega arith };
    faults = ReportsFault.no_fault refl;
    other = λ same. no_fault;
  };
  ahead = λ until_end same memory none. never memory;
}

-- ---- of a slice

slice_final : {V : Type 0} (meaning : V → Tree) (s : Shape) {limit : ℕ} {before after : ReaderView} {e : Asn1DerError}
    (bytes : List ℕ) (r : Option (List ℕ)) → before.input ≡ Some bytes → after.faults ≡ before.faults → r ≡ after.input
    → (d : Fetches limit (Some bytes) r) → RefusesFront meaning s limit before after e → e ≢ OutOfMemory
    → IsMendable meaning s Place.whole bytes any_length → e ≡ TruncatedData
slice_final meaning s bytes None k same is d h memory m = absurd d.are
slice_final meaning s bytes (Some left) k same is d h memory m =
    h.final same memory d.bytes left (k ∙ ap Some d.are) (sym is)
    (mends_beginning d.bytes left (subst (λ z. IsMendable meaning s Place.whole z any_length) d.are m))

pub slice_refused : {V : Type 0} (meaning : V → Tree) (s : Shape) {limit : ℕ} {before after : ReaderView}
    {e : Asn1DerError} {bytes : List ℕ} → before.input ≡ Some bytes → before.faults ≡ [] → after.faults ≡ []
    → RefusesFront meaning s limit before after e → HasNoFront meaning s bytes limit e
slice_refused meaning s {limit = limit} {after = after} {bytes = bytes} k none still h = record {
  none = λ memory v at_front. h.none (still ∙ sym none) memory bytes k v at_front;
  final = slice_final meaning s bytes after.input k (still ∙ sym none) refl
      (subst (λ i. Fetches limit i after.input) k h.fetched) h;
  first = λ cut ahead b left is. h.first (still ∙ sym none) cut ahead b left (k ∙ ap Some is);
  no_fault = h.other (still ∙ sym none);
}

abbrev whole_slice : List ℕ → ReaderView
whole_slice bytes = record { input = Some bytes; faults = [] }

module _ {V : Type 0} (meaning : V → Tree) (s : Shape) {old new : State} {bytes : List ℕ} (left : Option (List ℕ))
    (after : List Fault) (is : old ≡ fresh (Some bytes) (length bytes) [] []) (input : new.input
    ≡ prepend new.peeked left) (faults : after ≡ new.faults) where
  pub front_read : (eq : V → V → Bool) → IsSound s → IsInjective meaning s eq → (v : V) → Reads s old new (meaning v)
      → IsFront meaning s eq bytes (length bytes) v
  front_read eq sound known v r =
      (reads_front meaning s (whole_slice bytes) (record { input = left; faults = after }) is input faults eq sound
      known v r).front bytes refl

  pub front_refused : {e : Asn1DerError} → after ≡ [] → Refuses meaning s old new e
      → HasNoFront meaning s bytes (length bytes) e
  front_refused none r =
      slice_refused meaning s {before = whole_slice bytes} {after = record { input = left; faults = after }} refl refl
      none (refuses_front meaning s (whole_slice bytes) (record { input = left; faults = after }) is input faults r)

-- ---- what reading a slice says of all its bytes

-- what is encoded by all bytes is at their front
at_front : {V : Type 0} (meaning : V → Tree) (s : Shape) (bytes : List ℕ) (v : V) → IsEncodingOf meaning s bytes v
    → IsAtFront Place.whole s bytes (length bytes) (meaning v)
at_front meaning s bytes v e = record {
  of_shape = e.of_shape;
  readable = e.readable;
  may_be_there = tt;
  within = let same : length bytes ≡ length (der (meaning v)) = ap length e.encoding in omega (arith, same);
  front = record { rest = []; is = e.encoding ∙ sym (append-nil (der (meaning v))) };
}

-- ---- a value was read

-- as many bytes were consumed as its encoding has
pub consumed_all : {s : Shape} {old new : State} {t : Tree} {input : Option (List ℕ)} {limit : ℕ} {faults : List Fault}
    {references : List ℕ} → old ≡ fresh input limit faults references → Reads s old new t
    → new.consumed ≡ length (der t)
consumed_all {s} {old} {new} {t} {input} {limit} {faults} {references} is r =
    let r : Reads s (fresh input limit faults references) new t = subst (λ o. Reads s o new t) is r in
    omega (arith, r.consumes.consumed)

module _ {V : Type 0} {meaning : V → Tree} {s : Shape} {eq : V → V → Bool} {bytes : List ℕ} {v : V}
    (f : IsFront meaning s eq bytes (length bytes) v) {position : ℕ} (size : position ≡ length (der (meaning v))) where
  whole_encoding : position ≡ length bytes → bytes ≡ der (meaning v)
  whole_encoding all =
      f.reads.front.is
      ∙ ap (λ z. der (meaning v) ++ z)
      (none_left f.reads.front.rest
      (omega (arith, ap length f.reads.front.is, length-append (der (meaning v)) f.reads.front.rest, size, all)))
      ∙ append-nil (der (meaning v))
    where
      none_left : (z : List ℕ) → length z ≡ 0 → z ≡ []
      none_left [] h = refl
      none_left (b ∷ z) h = absurd (omega (arith, h))

  -- it consumed all bytes
  pub is_whole : position ≡ length bytes → IsWhole meaning s eq bytes v
  is_whole all = record {
    is = record { of_shape = f.reads.of_shape; readable = f.reads.readable; encoding = whole_encoding all };
    only = λ w e. f.only w (at_front meaning s bytes w e);
    same = λ w e. f.same w (at_front meaning s bytes w e);
  }

  -- it left some
  pub left_over : IsSound s → (position ≡ length bytes → ⊥) → IsNoEncoding meaning s bytes InvalidData position
  left_over sound some = record {
    none = λ memory w e. some (size ∙ ap (λ t. length (der t)) (f.same w (at_front meaning s bytes w e))
        ∙ sym (ap length e.encoding));
    final = λ memory cut more w e fits. one_more f.reads.front.rest f.reads.front.is more w e;
    left_over = λ memory w front. (refl, size ∙ ap (λ t. length (der t)) (f.same w front));
    first = λ (cut : InvalidData ≡ TruncatedData) b left k. cc;
    within = omega (arith, size, f.reads.within);
    no_fault = λ h. h;
  } where
    one_more : (left : List ℕ) → bytes ≡ der (meaning v) ++ left → (more : List ℕ) (w : V)
        → IsEncodingOf meaning s (take (position + 1) bytes ++ more) w → ⊥
    one_more [] all more w e = some (size ∙ sym (ap length (all ∙ append-nil (der (meaning v)))))
    one_more (b ∷ left) all more w e =
        let front : take (position + 1) bytes ≡ der (meaning v) ++ (b ∷ []) =
        rw (size, all) (take-append-add (der (meaning v)) (b ∷ left) 1) in
        let same : der (meaning v) ++ (b ∷ more) ≡ der (meaning w) ++ [] =
        sym (append_assoc (der (meaning v)) (b ∷ []) more) ∙ ap (λ z. z ++ more) (sym front) ∙ e.encoding
        ∙ sym (append-nil (der (meaning w))) in
        let none : b ∷ more ≡ [] =
        (same_tree s sound (meaning v) (meaning w) f.reads.of_shape e.of_shape f.reads.readable e.readable
        (b ∷ more) [] same).1 in
        cc

-- ---- none was read

peeked_count : (p : Option ℕ) → count_of_any p ≤ 1
peeked_count None = omega arith
peeked_count (Some b) = omega arith

module _ {V : Type 0} (meaning : V → Tree) (s : Shape) {new : State} {bytes : List ℕ} {e : Asn1DerError}
    (h : Refuses meaning s (fresh (Some bytes) (length bytes) [] []) new e) where
  -- bytes that begin as what was consumed begin no value's encoding
  after_fetched : IsJudged (fresh (Some bytes) (length bytes) [] []) new e → e ≢ TruncatedData → (more : List ℕ) (v : V)
      → IsEncodingOf meaning s (take (new.consumed + 1) bytes ++ more) v → length (der (meaning v)) ≤ any_length → ⊥
  after_fetched judged cut more v enc fits =
      let n = fetched_count new in
      let x = take (new.consumed + 1) bytes in
      let there : n ≤ 0 + length bytes = h.fails.there refl in
      let short : n ≤ length x =
      rw (length-take (new.consumed + 1) bytes)
      (le-min (omega (arith, peeked_count new.peeked)) (omega (arith, there))) in
      let d = take n x in
      let all : bytes ≡ d ++ (drop n x ++ drop (new.consumed + 1) bytes) =
      sym (take-append-drop (new.consumed + 1) bytes)
      ∙ ap (λ z. z ++ drop (new.consumed + 1) bytes) (sym (take-append-drop n x))
      ∙ append_assoc d (drop n x) (drop (new.consumed + 1) bytes) in
      let front : x ++ more ≡ d ++ (drop n x ++ more) = ap (λ z. z ++ more) (sym (take-append-drop n x))
      ∙ append_assoc d (drop n x) more in
      let count : length d + 0 ≡ n = omega (arith, length-take-le n x short) in
      h.none judged any_length (d ++ (drop n x ++ more))
      (ever cut refl d (drop n x ++ more) (drop n x ++ drop (new.consumed + 1) bytes) (ap Some all) count refl) v
      (record {
        of_shape = enc.of_shape;
        readable = enc.readable;
        may_be_there = tt;
        within = fits;
        front = record { rest = []; is = sym front ∙ enc.encoding ∙ sym (append-nil (der (meaning v))) };
      })

module _ {V : Type 0} (meaning : V → Tree) (s : Shape) {old new : State} {bytes : List ℕ}
    (is : old ≡ fresh (Some bytes) (length bytes) [] []) (still : new.faults ≡ []) where
  pub no_encoding : {e : Asn1DerError} {position : ℕ} → position ≡ new.consumed → Refuses meaning s old new e
      → IsNoEncoding meaning s bytes e position
  no_encoding {e} {position} size refused = subst (IsNoEncoding meaning s bytes e) (sym size) (
      let h : Refuses meaning s (fresh (Some bytes) (length bytes) [] []) new e =
      subst (λ o. Refuses meaning s o new e) is refused in
      let judged : e ≢ OutOfMemory → IsJudged (fresh (Some bytes) (length bytes) [] []) new e =
      λ memory. record { had_not_failed = refl; faults = still; memory = memory } in
      let there : fetched_count new ≤ 0 + length bytes = h.fails.there refl in
      record {
        none = λ memory v enc. h.none (judged memory) (length bytes) bytes (now refl refl) v
            (at_front meaning s bytes v enc);
        final = λ memory. after_fetched meaning s h (judged memory);
        left_over = λ memory v front. absurd (h.none (judged memory) (length bytes) bytes (now refl refl) v front);
        first = λ cut b left k. h.first (judged (λ (o : e ≡ OutOfMemory). let q : TruncatedData ≡ OutOfMemory =
            sym cut ∙ o in cc)) cut refl (let some : length bytes ≡ length (b ∷ left) = ap length k in
            omega (arith, some)) b left (ap Some k);
        within = omega (arith, there);
        no_fault = h.fails.other refl still;
      })
