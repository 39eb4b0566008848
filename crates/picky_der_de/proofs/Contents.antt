-- Contents, consumed byte by byte or in pieces.
use Rattle.std.proofs.Common.{◌≡◌, ℕ, ◌+◌, ◌<◌, ◌≤◌, List, [], ◌∷◌, ◌++◌, length, take, Option, Some, None, Result, Ok}
use Rattle.std.proofs.Common.{Err, IsOk, IfOk, OnOk, OnErr, refl, sym, ◌∙◌, ap, arith, length-append, zero, suc, ◌-◌}
use Rattle.std.proofs.Common.{◌^◌, get_or}
use Rattle.std.proofs.lemmas.Grind.{common_steps}
use Rattle.picky_der_core.specs.declared.error.Asn1DerError.{Asn1DerError}
use Rattle.picky_der_core.specs.ElementLaws.{bytes_then}
use Rattle.picky_der_core.specs.Failure.{failure_of}
use Rattle.picky_der_de.specs.State.{State}
use Rattle.std.specs.Io.KnownBytes.{Consumes, Keeps}
use Rattle.picky_der_de.specs.Steps.{failed_with, Consumed, ConsumesBytes, ConsumesSome, ConsumesKept, StopsShort}
use Rattle.picky_der_de.specs.Steps.{Fails, IsMissing, ConsumesPiece}
use Rattle.picky_der_de.proofs.Steps.{consumes_then, fails_after, judged_after}
use Rattle.std.proofs.lemmas.List.{take-append-le}
use Rattle.picky_der_core.specs.Element.{AreBytes}
use Rattle.picky_der_core.specs.Peeking.{position_after, count_of_any}

-- the first bytes of one byte more
pub kept_more : (kept c : List ℕ) (b : ℕ) → kept ≡ take 18 c → length kept < 18
    → kept ++ (b ∷ []) ≡ take 18 (c ++ (b ∷ []))
kept_more kept c b e l = grind (arith, common_steps)

pub kept_full : (kept c : List ℕ) (b : ℕ) → kept ≡ take 18 c → 18 ≤ length kept → kept ≡ take 18 (c ++ (b ∷ []))
kept_full kept c b e l = grind (arith, common_steps)

-- one byte more was consumed, and kept if there was room
pub consumes_kept-more : {a b c : State} {n : ℕ} {kept more : List ℕ} {x : ℕ} → (h : ConsumesKept a b n kept)
    → Consumed b c (x ∷ []) → more ≡ take 18 (h.content ++ (x ∷ [])) → ConsumesKept a c (n + 1) more
consumes_kept-more {x = x} h t e = record {
  content = h.content ++ (x ∷ []);
  consumes = consumes_then h.consumes t;
  count = omega (arith, length-append h.content (x ∷ []), h.count);
  first = e;
}

-- no byte was consumed, and what is known is kept
consumes-keeps : (i j : Option (List ℕ)) (bs : List ℕ) → length bs ≡ 0 → Consumes i j bs → Keeps i j
consumes-keeps None j bs l c = tt
consumes-keeps (Some xs) None bs l c = c
consumes-keeps (Some xs) (Some ys) [] l c = sym c
consumes-keeps (Some xs) (Some ys) (b ∷ bs) l c = absurd (omega arith)

pub kept_input : {a b : State} → ConsumesSome a b → b.consumed ≡ a.consumed → Keeps a.input b.input
kept_input {a} {b} t e = consumes-keeps a.input b.input t.bytes (omega (arith, t.count)) t.input

-- one byte more was consumed
pub consumes_bytes-more : {a b c : State} {n x : ℕ} {content : List ℕ} → ConsumesBytes a b n content
    → Consumed b c (x ∷ []) → x < 256 → ConsumesBytes a c (n + 1) (content ++ (x ∷ []))
consumes_bytes-more {x = x} {content = content} h t l = record {
  consumes = consumes_then h.consumes t;
  count = omega (arith, length-append content (x ∷ []), h.count);
  bytes = bytes_then content (x ∷ []) h.bytes (l, tt);
}

-- what is unmoved after an error
pub unmoved_consumed : (b c : State) (e : Asn1DerError)
    → c ≡ record b { failed = Some (failure_of e); faults = c.faults; input = c.input } → c.consumed ≡ b.consumed
unmoved_consumed b c _ u = ap (λ (s : State). s.consumed) u

pub unmoved_peeked : (b c : State) (e : Asn1DerError)
    → c ≡ record b { failed = Some (failure_of e); faults = c.faults; input = c.input } → c.peeked ≡ b.peeked
unmoved_peeked b c _ u = ap (λ (s : State). s.peeked) u

-- it has failed with what it returns
pub failed_same : (b : State) {c : State} {e r : Asn1DerError} → r ≡ e → c ≡ failed_with b e → c ≡ failed_with b r
failed_same b {e = e} {r = r} h u = u ∙ ap (failed_with b) (sym h)

-- no byte came
pub stops_short : {a b c : State} {n k : ℕ} {e : Asn1DerError} {content : List ℕ} → Consumed a b content
    → length content ≡ k → k < n → Fails b c e → (b.failed ≡ None → c.faults ≡ b.faults → IsMissing b e)
    → c ≡ record b { failed = Some (failure_of e); faults = c.faults; input = c.input } → StopsShort a c n e
stops_short {a} {b} {c} {n} {k} {e} {content} t l s f m u = record {
  fails = fails_after t f;
  short = λ j. let i = judged_after t j in record {
    mid = b;
    bytes = content;
    consumes = t;
    short = omega arith;
    missing = m i.had_not_failed i.faults;
    input = kept_input (f.took) (unmoved_consumed b c _ u);
    consumed = unmoved_consumed b c _ u;
    peeked = unmoved_peeked b c _ u;
  };
}

-- a push that may find no room
pub kept_push : {U E A : Type 0} (items : A → List ℕ) (r : Result U E) (old new : A) (c : List ℕ) (b : ℕ)
    → items old ≡ take 18 c → OnOk r (items new ≡ items old ++ (b ∷ [])) → (IsOk r → length (items old) < 18)
    → OnErr r (new ≡ old) → OnErr r (length (items old) ≡ 18)
    → items new ≡ take 18 (c ++ (b ∷ []))
kept_push items (Ok u) old new c b e pushed room same full = pushed ∙ kept_more (items old) c b e (room refl)
kept_push items (Err u) old new c b e pushed room same full = ap items same ∙ kept_full (items old) c b e (omega arith)

-- bytes were consumed, and then no byte came, or an allocation failed
pub stops_later : {a b c : State} {n left : ℕ} {e : Asn1DerError} {content : List ℕ} → Consumed a b content
    → length content + left ≡ n → StopsShort b c left e → StopsShort a c n e
stops_later {content = content} t whole s = record {
  fails = fails_after t s.fails;
  short = λ j. let cut = s.short (judged_after t j) in record {
    mid = cut.mid;
    bytes = content ++ cut.bytes;
    consumes = consumes_then t cut.consumes;
    short = omega (arith, length-append content cut.bytes, cut.short, whole);
    missing = cut.missing;
    input = cut.input;
    consumed = cut.consumed;
    peeked = cut.peeked;
  };
}

-- two facts of a result
pub IfOk-both : {A E : Type 0} {P R : A → Type 0} {Q : Type 0} (r : Result A E) → IfOk r P → OnOk r Q
    → ((v : A) → P v → Q → R v) → IfOk r R
IfOk-both (Ok v) p q f = f v p q
IfOk-both (Err e) p q f = tt

-- ---- contents, consumed in pieces

-- one piece more was consumed
pub consumes_bytes-piece : {a b c : State} {k n m left : ℕ} {content buffer : List ℕ} → ConsumesBytes a b k content
    → ConsumesPiece b c left n buffer → m ≡ k + n → ConsumesBytes a c m (content ++ take n buffer)
consumes_bytes-piece {n = n} {content = content} {buffer = buffer} h p e = record {
  consumes = consumes_then h.consumes p.consumes.consumes;
  count = omega (arith, length-append content (take n buffer), h.count, p.consumes.count);
  bytes = bytes_then content (take n buffer) h.bytes p.consumes.bytes;
}

-- ---- one read

-- the bytes at the front of a buffer of bytes
pub bytes_at_front : (n : ℕ) (bs : List ℕ) → ((i : ℕ) → get_or bs i 0 < 256) → AreBytes (take n bs)
bytes_at_front zero bs h = tt
bytes_at_front (suc n) [] h = tt
bytes_at_front (suc n) (b ∷ bs) h = (h 0, bytes_at_front n bs (λ i. h (suc i)))

-- the position after them isn't the greatest
pub moved_few : (pos n : ℕ) → pos + n < 2 ^ 64 → position_after pos n ≡ pos + n
moved_few pos zero h = omega arith
moved_few pos (suc n) h = omega arith

-- a read gave these bytes, and nothing else changed
pub record Gives (old new : State) (n : ℕ) (bytes : List ℕ) : Type 0 where
  pub input : Consumes old.input new.input bytes
  pub count : length bytes ≡ n
  pub fits : n ≤ old.until_end
  pub small : old.consumed + old.until_end < 2 ^ 64
  pub consumed : new.consumed ≡ position_after old.consumed n
  pub until_end : new.until_end ≡ old.until_end - n
  pub end : new.end ≡ old.end
  pub limit : new.limit ≡ old.limit
  pub last : new.last ≡ old.last
  pub was_unpeeked : old.peeked ≡ None
  pub unpeeked : new.peeked ≡ None
  pub had_not_failed : old.failed ≡ None
  pub not_failed : new.failed ≡ None
  pub faults : new.faults ≡ old.faults
  pub references : new.references ≡ old.references

-- so they were consumed
pub given_consumed : {old new : State} {n : ℕ} {bytes : List ℕ} → Gives old new n bytes → Consumed old new bytes
given_consumed {old} {new} {n} {bytes} h =
    let position : new.consumed ≡ old.consumed + n =
    h.consumed ∙ moved_few old.consumed n (omega (arith, h.fits, h.small)) in
    let none : count_of_any old.peeked ≡ 0 = ap count_of_any h.was_unpeeked in
    record {
      input = h.input;
      consumed = omega (arith, position, h.count);
      until_end = omega (arith, h.until_end, h.count, h.fits);
      end = h.end;
      limit = h.limit;
      last = h.last;
      unpeeked = h.unpeeked;
      fetched = omega (arith, position, none);
      had_not_failed = h.had_not_failed;
      not_failed = h.not_failed;
      faults = h.faults;
      references = h.references;
    }

-- the bytes that were given are at the front of the piece
pub given_piece : {old new : State} {n left : ℕ} → (buffer rest : List ℕ) → Gives old new n (take n buffer)
    → n ≤ length buffer → ((i : ℕ) → get_or (buffer ++ rest) i 0 < 256) → 0 < n → n ≤ left
    → ConsumesPiece old new left n (buffer ++ rest)
given_piece {old} {new} {n} {left} buffer rest h within bytes some fits =
    let front : take n (buffer ++ rest) ≡ take n buffer = take-append-le n buffer rest within in
    record {
      consumes = record {
        consumes = rw front (given_consumed h);
        count = rw front h.count;
        bytes = bytes_at_front n (buffer ++ rest) bytes;
      };
      some = some;
      fits = fits;
    }
