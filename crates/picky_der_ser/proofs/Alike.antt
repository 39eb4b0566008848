-- What is written of trees that are written alike.
use Rattle.std.proofs.Common.{Bool, refl, ◌≡◌, ◌<◌, ◌^◌, List, [], ◌∷◌, length, Option, None, Some, sym, ap, ◌∙◌, subst}
use Rattle.std.proofs.Common.{Result, Ok, Err, IfOk, IfErr, ℕ, ◌+◌, true, false, ◌&&◌, arith, le-leb, append-nil}
use Rattle.std.specs.Prelude.{IfNone, IsTrue}
use Rattle.picky_der_core.specs.Primitive.{Primitive, primitive_tag, primitive_content}
use Rattle.picky_der_core.specs.OpenWrapperLaws.{AreAlike, alike-under, der-alike, alike-sym, alike-bytes, alike-choice}
use Rattle.picky_der_core.specs.OpenWrapperLaws.{CanVanish, der-under_absent}
use Rattle.picky_der_core.specs.declared.failure.Failure.{Failure}
use Rattle.picky_der_core.specs.declared.misc.writer.WriteExt.{Ghosts}
use Rattle.picky_der_core.specs.declared.error.Asn1DerError.{Asn1DerError}
use Rattle.picky_der_core.specs.Tree.{Tree}
use Rattle.picky_der_core.specs.Readable.{IsWritable, has_tag_numbers}
use Rattle.picky_der_ser.specs.State.{State, Held, extended}
use Rattle.picky_der_ser.specs.Calls.{Adds, Excuse, no_memory, unwritable, no_sink, MemoryExcuse, no_room, no_way}
use Rattle.picky_der_ser.specs.Calls.{SinkRefuses, RefusesIn, Writes, RefusesWrite, OnlySinkFails, RefusesUnwritable}
use Rattle.picky_der_ser.specs.Calls.{WritesPrimitive, WritesPlain, AddsIn, WritesAbsent}
use Rattle.std.proofs.lemmas.Bool.{lt-leb}
use Rattle.picky_der_core.specs.OpenWrappers.{under}
use Rattle.picky_der_core.specs.Failure.{failure_of}
use Rattle.picky_der_core.specs.declared.asn1.wrapper.Wrapper.{Wrapper}
use Rattle.picky_der_core.specs.declared.asn1.wrapper.Wrapper.TheVariants as wrapper
use Rattle.picky_der_core.specs.Wrapper.{has_tag_number}
use Rattle.picky_der_core.specs.Tag.{number_of, is_tag_number, IsTagNumber}
use Rattle.picky_der_core.specs.ElementLaws.{length-tlv}
use Rattle.picky_der_core.specs.Writer.{beginning_none}
use Rattle.picky_der_core.specs.declared.error.Asn1DerError.TheVariants.{UnsupportedValue}
use Rattle.picky_der_core.specs.Encoding.{der}
use Rattle.picky_der_core.specs.EncodingLaws.{der-primitive, der-wrapped, der-raw}
use Rattle.picky_der_ser.specs.declared.header.Header.{Header}
use Rattle.picky_der_ser.specs.declared.header.Header.TheVariants.{Tagged, Application, Raw}
use Rattle.picky_der_ser.specs.Headers.{tree_of, HasNumber, CanAllBeOpen}
use Rattle.std.proofs.KnownBytes.{Appends-nil}
use Rattle.picky_der_ser.proofs.StateWrites.{numbers_writable}

pub writable-alike : (t u : Tree) → AreAlike t u → IsWritable t → IsWritable u
writable-alike t u a h = record {
  numbers = subst IsTrue a.numbers_same h.numbers;
  fits =
      subst (λ l. length l < 2 ^ 64) (der-alike t u a) h.fits;
}

-- what stops a part stops the whole
pub excuse_of_part : {Part Whole : Type 0} {e : Asn1DerError} → (Whole → Part) → MemoryExcuse Part e
    → MemoryExcuse Whole e
excuse_of_part part (no_room m) = no_room m
excuse_of_part part (no_way m n) = no_way m (λ h. n (part h))

module _ {W : Type 0} (g : Ghosts W) where
  excuse-alike : (t u : Tree) (rest : List ℕ) (old new : W) (e : Asn1DerError) → AreAlike t u
      → Excuse g t rest old e new → Excuse g u rest old e new
  excuse-alike t u rest old new e a (no_memory m) = no_memory m
  excuse-alike t u rest old new e a (unwritable m n s) =
      unwritable m (λ h. n (writable-alike u t (alike-sym t u a) h)) s
  excuse-alike t u rest old new e a (no_sink h k f) = no_sink (writable-alike t u a h) k f

  refused-alike : (t u : Tree) (old new : W) (e : Asn1DerError) → AreAlike t u → SinkRefuses g t old e new
      → SinkRefuses g u old e new
  refused-alike t u old new e a h =
      let b = h.begins in
      record {
        begins = record { front = b.front; rest = b.rest; is = sym (der-alike t u a) ∙ b.is; appends = b.appends };
        excuse = excuse-alike t u b.rest old new e a h.excuse;
      }

  refused_in-alike : (inside : Option Held) (t u : Tree) (old new : W) (e : Asn1DerError) → AreAlike t u
      → RefusesIn g inside t old e new → RefusesIn g inside u old e new
  refused_in-alike None t u old new e a h = refused-alike t u old new e a h
  refused_in-alike (Some k) t u old new e a h = (excuse_of_part (writable-alike u t (alike-sym t u a)) h.0, h.1)

  refused_first-alike : (f : Option Failure) (inside : Option Held) (t u : Tree) (old new : W) (e : Asn1DerError)
      → AreAlike t u → IfNone f (RefusesIn g inside t old e new) → IfNone f (RefusesIn g inside u old e new)
  refused_first-alike None inside t u old new e a h = refused_in-alike inside t u old new e a h
  refused_first-alike (Some j) inside t u old new e a h = tt

  pub writes-alike : (t u : Tree) (old new : State W) (r : Result ℕ Asn1DerError) → AreAlike t u
      → IfOk r (λ n. Writes g t old n new) → IfOk r (λ n. Writes g u old n new)
  writes-alike t u old new (Ok n) a h =
      let b = alike-under old.around t u a in
      let d = der-alike _ _ b in
      record {
        had_not_failed = h.had_not_failed;
        writable = writable-alike _ _ b h.writable;
        count =
            h.count ∙ ap length d;
        adds = subst (Adds g old new) d h.adds;
        closed = h.closed;
        not_failed = h.not_failed;
        no_fault = h.no_fault;
      }
  writes-alike t u old new (Err e) a h = tt

  pub fails-alike : (t u : Tree) (old new : State W) (r : Result ℕ Asn1DerError) → AreAlike t u
      → IfErr r (λ e. RefusesWrite g t old e new) → IfErr r (λ e. RefusesWrite g u old e new)
  fails-alike t u old new (Ok n) a h = tt
  fails-alike t u old new (Err e) a h =
      record {
        failed = h.failed;
        again = h.again;
        reason =
            refused_first-alike old.failed _ _ _ _ _ e (alike-under old.around t u a) h.reason;
      }

  outside-alike : (t u : Tree) (old new : State W) (r : Result ℕ Asn1DerError) → AreAlike t u
      → IfErr r (λ e. OnlySinkFails g t old e new) → IfErr r (λ e. OnlySinkFails g u old e new)
  outside-alike t u old new (Ok n) a h = tt
  outside-alike t u old new (Err e) a h = λ w. h (writable-alike u t (alike-sym t u a) w)

  refuses_unwritable-alike : (t u : Tree) (old new : State W) (r : Result ℕ Asn1DerError) → AreAlike t u
      → RefusesUnwritable g t old r new → RefusesUnwritable g u old r new
  refuses_unwritable-alike t u old new r a h = λ n. h (λ w. n (writable-alike t u a w))

  -- a value of a primitive kind is written as bytes under its tag
  pub writes_primitive-as : (p : Primitive) (c : List ℕ) → c ≡ primitive_content p
      → (old new : State W) (r : Result ℕ Asn1DerError)
      → WritesPrimitive g (Primitive.bytes (primitive_tag p) c) old r new → WritesPrimitive g p old r new
  writes_primitive-as p c e old new r h =
      let a = alike-bytes p in
      let t = Tree.primitive (Primitive.bytes (primitive_tag p) (primitive_content p)) in
      let u = Tree.primitive p in
      let k : WritesPrimitive g (Primitive.bytes (primitive_tag p) (primitive_content p)) old r new =
      subst (λ b. WritesPrimitive g (Primitive.bytes (primitive_tag p) b) old r new) e h in
      record {
        wrote = writes-alike t u old new r a k.wrote;
        failed = fails-alike t u old new r a k.failed;
        outside = outside-alike t u old new r a k.outside;
        untouched = k.untouched;
        refuses_unwritable = refuses_unwritable-alike t u old new r a k.refuses_unwritable;
        counted = k.counted;
        continues = k.continues;
      }

-- ---- choices, which are written as the alternative that was chosen

alike-chosen : (t : Tree) → AreAlike t (Tree.choice t)
alike-chosen t = alike-sym (Tree.choice t) t (alike-choice t)

module _ {W : Type 0} (g : Ghosts W) where
  pub choice_wrote : (t : Tree) (old new : State W) (r : Result ℕ Asn1DerError) → IfOk r (λ n. Writes g t old n new)
      → IfOk r (λ n. Writes g (Tree.choice t) old n new)
  choice_wrote t old new r h = writes-alike g t (Tree.choice t) old new r (alike-chosen t) h

  pub choice_failed : (t : Tree) (old new : State W) (r : Result ℕ Asn1DerError)
      → IfErr r (λ e. RefusesWrite g t old e new) → IfErr r (λ e. RefusesWrite g (Tree.choice t) old e new)
  choice_failed t old new r h = fails-alike g t (Tree.choice t) old new r (alike-chosen t) h

  -- the alternative is a plain value
  pub choice_wrote_plain : (t : Tree) (old new : State W) (r : Result ℕ Asn1DerError) → WritesPlain g t old r new
      → IfOk r (λ n. Writes g (Tree.choice t) old n new)
  choice_wrote_plain t old new r h = choice_wrote t old new r h.wrote

  pub choice_failed_plain : (t : Tree) (old new : State W) (r : Result ℕ Asn1DerError) → WritesPlain g t old r new
      → IfErr r (λ e. RefusesWrite g (Tree.choice t) old e new)
  choice_failed_plain t old new r h = choice_failed t old new r h.failed

-- all that a choice asks for
pub ruleset choice = (choice_wrote, choice_failed, choice_wrote_plain, choice_failed_plain)

-- ---- which plain values can be written

pub writable-bytes : (tag : ℕ) (c : List ℕ) → IsTagNumber (number_of tag) → length c + 10 < 2 ^ 64
    → IsWritable (Tree.primitive (Primitive.bytes tag c))
writable-bytes tag c h l = record {
  numbers = le-leb (number_of tag) 30 h;
  fits = let d = der-primitive (Primitive.bytes tag c) in let m = length-tlv tag c (omega arith) in
      rw d (omega (arith, m));
}

-- a content that is in memory, under its header
pub writable-content : (h : Header) (c : List ℕ) → HasNumber h → length c + 10 < 2 ^ 64 → IsWritable (tree_of h c)
writable-content (Tagged tag) c n l = writable-bytes tag c n l
writable-content (Application k) c n l = record {
  numbers = let e : is_tag_number k ≡ true = le-leb k 30 n in rw e refl;
  fits = let d = der-wrapped (wrapper.Application k) (Tree.raw c) refl in let m =
      length-tlv (0x60 + k) c (omega arith) in rw (d, der-raw c) (omega (arith, m));
}
writable-content Raw c n l = record { numbers = refl; fits = rw (der-raw c) (omega arith) }

-- a tag number past 30 stays in wrappers
and_false : (b c : Bool) → c ≡ false → (b && c) ≡ false
and_false true c e = e
and_false false c e = refl

pub past_under : (ws : List Wrapper) (t : Tree) → has_tag_numbers t ≡ false → has_tag_numbers (under ws t) ≡ false
past_under [] t e = e
past_under (w ∷ ws) t e = and_false (has_tag_number w) _ (past_under ws t e)

pub unwritable-by : (t : Tree) → has_tag_numbers t ≡ false → ¬ IsWritable t
unwritable-by t e h = let q : false ≡ true = sym e ∙ h.numbers in cc

module _ {W : Type 0} (g : Ghosts W) where
  pub refused_unwritable : (inside : Option Held) (t : Tree) (sink : W) → ¬ IsWritable t
      → RefusesIn g inside t sink UnsupportedValue sink
  refused_unwritable None t sink n = record {
    begins = beginning_none (g.written sink) (der t);
    excuse =
        unwritable refl n refl;
  }
  refused_unwritable (Some h) t sink n = (no_way refl n, refl)

  -- a tag number past 30
  pub plain_past : (tag : ℕ) (c : List ℕ) (old : State W) → 30 < number_of tag → old.failed ≡ None
      → g.later old.sink old.sink
      → WritesPrimitive g (Primitive.bytes tag c) old (Err UnsupportedValue)
      (record old { failed = Some (failure_of UnsupportedValue) })
  plain_past tag c old h f later =
      let t = Tree.primitive (Primitive.bytes tag c) in
      let past : has_tag_numbers t ≡ false = lt-leb (number_of tag) 30 h in
      let refused =
      refused_unwritable old.inside (under old.around t) old.sink
      (unwritable-by (under old.around t) (past_under old.around t past)) in
      record {
        wrote = tt;
        failed = record { failed = refl; again = rw f tt; reason = rw f refused };
        outside = λ w. absurd (unwritable-by t past w);
        untouched = record { same = λ well. refl };
        refuses_unwritable = λ n failed. (refl, refl);
        counted = (omega arith, omega arith);
        continues = later;
      }

-- ---- a value that isn't there: nothing is written, and no wrapper stays open

pub nothing_more : (h : Held) → h ≡ extended h []
nothing_more h = ap (λ bs. record h { bytes = bs }) (sym (append-nil h.bytes))

pub can_vanish-open : (ws : List Wrapper) → CanAllBeOpen ws → CanVanish ws
can_vanish-open [] h = tt
can_vanish-open (w ∷ ws) h = (h.0.1, can_vanish-open ws h.1)

module _ {W : Type 0} (g : Ghosts W) where
  pub adds_none : (inside : Option Held) (sink : W) → AddsIn g inside inside sink sink []
  adds_none None sink = (refl, Appends-nil (g.written sink))
  adds_none (Some h) sink = (ap Some (nothing_more h), refl)

  pub absent-ok : (old : State W) → old.failed ≡ None → CanAllBeOpen old.around
      → WritesAbsent g old (Ok 0) (record old { around = []; pending = None })
  absent-ok old f n =
      let none = der-under_absent old.around Tree.absent (can_vanish-open old.around n) refl in
      record {
        wrote = record {
          had_not_failed = f;
          writable = record { numbers = numbers_writable old.around Tree.absent n refl; fits = rw none (omega arith) };
          count = ap length (sym none);
          adds = rw none (adds_none old.inside old.sink);
          closed = refl;
          not_failed = f;
          no_fault = refl;
        };
        count = refl;
        again = tt;
        same = refl;
      }
