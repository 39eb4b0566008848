-- Reading elements one after another, and what is in them.
use Rattle.std.proofs.Common.{◌≡◌, ℕ, suc, ◌+◌, ◌-◌, ◌<◌, ◌≤◌, true, false, List, [], ◌∷◌, ◌++◌, length, refl, sym, ap}
use Rattle.std.proofs.Common.{ap₂, subst, ◌∙◌, arith, append_assoc, append-nil, length-append, set}
use Rattle.std.specs.Prelude.{None}
use Rattle.std.proofs.lemmas.List.{set_at}
use Rattle.picky_der_core.specs.Element.{tlv, length_octets}
use Rattle.der_ber.specs.declared.error.BerError.{BerError}
use Rattle.der_ber.specs.declared.error.BerError.TheVariants.{OutOfMemory, Broken}
use Rattle.der_ber.specs.declared.error.BerRule.{BerRule}
use Rattle.der_ber.specs.declared.front.Until.{Until}
use Rattle.der_ber.specs.declared.front.Until.TheVariants as until
use Rattle.der_ber.specs.declared.parts.Part.{Part}
use Rattle.der_ber.specs.declared.parts.Part.TheVariants as part
use Rattle.der_ber.specs.declared.strings.Strings.{Strings}
use Rattle.der_ber.specs.Nodes.{Nodes, encoding}
use Rattle.der_ber.specs.LongLengths.{IsTag, IsDefinite, BeginsConstructed, HasLongLengths}
use Rattle.der_ber.specs.Strings.{segment_of, segment_at, BeginsWhole}
use Rattle.der_ber.specs.Broken.{Breaks}
use Rattle.der_ber.specs.Fronts.{IsEnd, Opens, AreInside, IsBroken}
use Rattle.der_ber.specs.Parts.{part_bytes, content_in, is_in}
use Rattle.der_ber.specs.Reading.{IsElementRead, IsFrontRead, AreRead, IsInsideRead, FailsAt, FailsWithin}
use Rattle.der_ber.proofs.StringTags.{at_first}
use Rattle.der_ber.proofs.Joined.{join, encoding-join, depth-join, joined}
use Rattle.der_ber.proofs.WholeLemmas.{whole_joined}
use Rattle.der_ber.proofs.PartLemmas.{written-append, parts_joined}

-- how many bytes an element has
pub length-element : (tag : ℕ) (c : List ℕ) → length (tlv tag c) ≡ 1 + length (length_octets (length c)) + length c
unfolding tlv
length-element tag c = omega (arith, length-append (length_octets (length c)) c)

-- ---- one after another

pub read_nothing : (strings : Strings) (room : ℕ) (bytes : List ℕ) (old : List Part)
    → IsElementRead strings room bytes old old 0 bytes
unfolding encoding
read_nothing strings room bytes old = record {
  nodes = Nodes.none;
  passed = [];
  elements = refl;
  levels = omega arith;
  is = refl;
  whole = Nodes.none;
  has_parts = refl;
  parts = [];
  appended = sym (append-nil old);
  writes = refl;
  counted = refl;
  are_parts = λ _. refl;
}

pub read_more : (strings : Strings) (room : ℕ) (bytes rest : List ℕ) (old now : List Part) (size : ℕ)
    → IsElementRead strings room bytes old now size rest → (new : List Part) (more sum : ℕ) (after : List ℕ)
    → IsElementRead strings room rest now new more after → sum ≡ size + more
    → IsElementRead strings room bytes old new sum after
read_more strings room bytes rest old now size h new more sum after k e = record {
  nodes = join h.nodes k.nodes;
  passed = h.passed ++ k.passed;
  elements = joined h.nodes k.nodes h.passed k.passed h.elements k.elements;
  levels = depth-join room h.nodes k.nodes h.levels k.levels;
  is = h.is ∙ ap (λ l. h.passed ++ l) k.is ∙ sym (append_assoc h.passed k.passed after);
  whole = join h.whole k.whole;
  has_parts = whole_joined strings h.nodes k.nodes h.whole k.whole h.has_parts k.has_parts;
  parts = h.parts ++ k.parts;
  appended = k.appended ∙ ap (λ l. l ++ k.parts) h.appended ∙ append_assoc old h.parts k.parts;
  writes = written-append h.parts k.parts ∙ ap₂ (λ s t. s ++ t) h.writes k.writes ∙ sym (encoding-join h.whole k.whole);
  counted = omega (
    arith,
    e,
    h.counted,
    k.counted,
    ap length (encoding-join h.whole k.whole),
    length-append (encoding h.whole) (encoding k.whole),
  );
  are_parts = λ kept. parts_joined h.nodes k.nodes h.parts k.parts (h.are_parts kept) (k.are_parts kept);
}

-- the rest is no longer than the bytes
pub rest_within : (strings : Strings) (room : ℕ) (bytes : List ℕ) (old new : List Part) (size : ℕ) (rest : List ℕ)
    → IsElementRead strings room bytes old new size rest → length rest ≤ length bytes
rest_within strings room bytes old new size rest h = omega (arith, ap length h.is, length-append h.passed rest)

-- an element after those that were read breaks a rule
pub fails_after : (u : Until) (strings : Strings) (room offset place : ℕ) (bytes : List ℕ) (old new : List Part)
    (size : ℕ) (rest : List ℕ) (e : BerError) → IsElementRead strings room bytes old new size rest
    → ((after : List ℕ) → IsEnd u rest after → ⊥) → place ≡ offset + (length bytes - length rest)
    → FailsAt strings room place rest e → FailsWithin u strings room offset bytes e
fails_after u strings room offset place bytes old new size rest OutOfMemory h goes p f = tt
fails_after u strings room offset place bytes old new size rest (Broken position r) h goes p f =
    let (at, is, broken) = f in
    let sizes = length-append h.passed rest in
    let whole = ap length h.is in (
      length h.passed + at,
      omega arith,
      record {
        passed = h.passed;
        rest = rest;
        before = record {
          nodes = h.nodes;
          elements = h.elements;
          levels = h.levels;
          is = h.is;
          whole = h.whole;
          has_parts = h.has_parts;
          goes_on = goes;
        };
        at = at;
        broken = broken;
        is = refl;
      },
    )

-- ---- one element

-- one that is all of the bytes before others
alone : (tag : ℕ) (c bytes after : List ℕ) (d : IsDefinite tag c bytes after)
    → bytes ≡ (tag ∷ (d.octets ++ (c ++ []))) ++ after
alone tag c bytes after d =
    d.is
    ∙ ap (λ l. tag ∷ l)
    (ap (λ l. d.octets ++ (l ++ after)) (sym (append-nil c)) ∙ sym (append_assoc d.octets (c ++ []) after))

itself : (tag : ℕ) (c bytes after : List ℕ) (d : IsDefinite tag c bytes after)
    → IsDefinite tag c (tag ∷ (d.octets ++ (c ++ []))) []
itself tag c bytes after d = record { octets = d.octets; is_length = d.is_length; is = refl }

-- the index of its content
start_is : (tag offset start end : ℕ) (c bytes after : List ℕ) (d : IsDefinite tag c bytes after)
    → end ≡ offset + (length bytes - length after) → start ≡ end - length c
    → start ≡ offset + (1 + length d.octets)
start_is tag offset start end c bytes after d e s =
    let whole = ap length d.is in
    let sizes = length-append d.octets (c ++ after) in
    let others = length-append c after in
    omega arith

pub read_primitive : (strings : Strings) (room tag : ℕ) (c bytes after : List ℕ) (old new : List Part)
    (p q : Part) (size : ℕ) → IsTag tag false → IsDefinite tag c bytes after → new ≡ old ++ (p ∷ (q ∷ []))
    → p ≡ part.Header tag (length c) → part_bytes q ≡ c → content_in q ≡ c ∷ []
    → ((segment : ℕ) → is_in segment q ≡ true) → size ≡ 1 + length (length_octets (length c)) + length c
    → IsFrontRead strings room bytes old new size after
unfolding encoding tlv
read_primitive strings room tag c bytes after old new p q size is_tag d e header content segment no_tag sizes =
    record {
      read = record {
        nodes = Nodes.primitive tag c Nodes.none;
        passed = tag ∷ (d.octets ++ (c ++ []));
        elements = record { is_tag = is_tag; after = []; definite = itself tag c bytes after d; others = refl };
        levels = omega arith;
        is = alone tag c bytes after d;
        whole = Nodes.primitive tag c Nodes.none;
        has_parts = record { after = Nodes.none; is = refl; others = refl };
        parts = p ∷ (q ∷ []);
        appended = e;
        writes = ap₂ (λ s t. part_bytes s ++ (t ++ [])) header content
            ∙ ap (λ l. tag ∷ (length_octets (length c) ++ l)) (append-nil c)
            ∙ sym (append-nil (tlv tag c));
        counted = sizes ∙ sym (length-element tag c) ∙ ap length (sym (append-nil (tlv tag c)));
        are_parts = λ _. record {
          content_len = length c;
          second = q;
          others = [];
          is = ap (λ h. h ∷ (q ∷ [])) header;
          is_content = segment;
          no_tag = no_tag;
          after = refl;
        };
      };
      single = refl;
    }

-- the elements up to the end of a content are all of it
pub whole_content : (content passed rest after : List ℕ) → content ≡ passed ++ rest → IsEnd until.End rest after
    → passed ≡ content
whole_content content passed rest after e end =
    sym (append-nil passed) ∙ ap (λ l. passed ++ l) (sym end.0) ∙ sym e

-- a constructed element isn't a string that becomes primitive
none_at : (strings : Strings) (tag : ℕ) (bytes rest : List ℕ) → segment_at strings bytes ≡ None → bytes ≡ tag ∷ rest
    → segment_of strings tag ≡ None
none_at strings tag bytes rest n e =
    sym (at_first strings tag rest) ∙ ap (segment_at strings) (sym e) ∙ n

pub read_definite : (strings : Strings) (room tag : ℕ) (c bytes after : List ℕ) (old new : List Part) (size : ℕ)
    (left : List ℕ) → IsTag tag true → IsDefinite tag c bytes after → segment_at strings bytes ≡ None
    → IsInsideRead tag until.End strings room c old new size left → IsFrontRead strings room bytes old new size after
unfolding encoding
read_definite strings room tag c bytes after old new size left is_tag d none h = record {
  read = record {
    nodes = Nodes.constructed tag h.inside Nodes.none;
    passed = tag ∷ (d.octets ++ (c ++ []));
    elements = BeginsConstructed.definite c [] is_tag (itself tag c bytes after d)
        (subst (HasLongLengths h.inside) (whole_content c h.passed h.rest left h.is h.end) h.elements) refl;
    levels = let inner = h.levels in omega arith;
    is = alone tag c bytes after d;
    whole = Nodes.constructed tag h.whole Nodes.none;
    has_parts = BeginsWhole.other h.whole Nodes.none (none_at strings tag bytes _ none d.is) h.has_parts refl refl;
    parts = h.parts;
    appended = h.appended;
    writes = h.writes ∙ sym (append-nil (tlv tag (encoding h.whole)));
    counted = h.counted ∙ ap length (sym (append-nil (tlv tag (encoding h.whole))));
    are_parts = h.are_parts;
  };
  single = refl;
}

pub read_indefinite : (strings : Strings) (room tag : ℕ) (inside bytes after : List ℕ) (old new : List Part)
    (size : ℕ) → IsTag tag true → bytes ≡ tag ∷ (0x80 ∷ inside) → segment_at strings bytes ≡ None
    → IsInsideRead tag until.EndOfContents strings room inside old new size after
    → IsFrontRead strings room bytes old new size after
unfolding encoding
read_indefinite strings room tag inside bytes after old new size is_tag e none h = record {
  read = record {
    nodes = Nodes.constructed tag h.inside Nodes.none;
    passed = tag ∷ (0x80 ∷ (h.passed ++ (0x00 ∷ (0x00 ∷ []))));
    elements = BeginsConstructed.indefinite h.passed [] is_tag refl h.elements refl;
    levels = let inner = h.levels in omega arith;
    is = e
        ∙ ap (λ l. tag ∷ (0x80 ∷ l))
        (h.is ∙ ap (λ l. h.passed ++ l) h.end ∙ sym (append_assoc h.passed (0x00 ∷ (0x00 ∷ [])) after));
    whole = Nodes.constructed tag h.whole Nodes.none;
    has_parts = BeginsWhole.other h.whole Nodes.none (none_at strings tag bytes _ none e) h.has_parts refl refl;
    parts = h.parts;
    appended = h.appended;
    writes = h.writes ∙ sym (append-nil (tlv tag (encoding h.whole)));
    counted = h.counted ∙ ap length (sym (append-nil (tlv tag (encoding h.whole))));
    are_parts = h.are_parts;
  };
  single = refl;
}

-- ---- an error in one element

pub fails_here : (strings : Strings) (room offset : ℕ) (bytes : List ℕ) (r : BerRule) → Breaks room bytes r
    → FailsAt strings room offset bytes (Broken offset r)
fails_here strings room offset bytes r b = (0, omega arith, IsBroken.here strings room bytes r b)

-- one in it breaks a rule
module _ (strings : Strings) (room offset start : ℕ) (bytes content : List ℕ) (e : BerError) (some : 0 < room)
    (none : segment_at strings bytes ≡ None) where
  levels : suc (room - 1) ≡ room
  levels = omega arith

  -- it is so many bytes after the beginning
  fails_in : (u : Until) (tag before : ℕ) (rest : List ℕ) → Opens u tag bytes before content → bytes ≡ tag ∷ rest
      → start ≡ offset + before → (f : BerError) → FailsWithin u strings (room - 1) start content f
      → FailsAt strings room offset bytes f
  fails_in u tag before rest opens is s OutOfMemory f = tt
  fails_in u tag before rest opens is s (Broken position r) f =
      let (at, place, refused) = f in (
        before + (length refused.passed + refused.at),
        omega (arith, place, refused.is, s),
        subst (λ n. IsBroken strings n bytes (before + (length refused.passed + refused.at)) r) levels
            (IsBroken.inside strings strings (room - 1) bytes u tag before content refused.passed refused.rest
            refused.at
            r opens (AreInside.same (none_at strings tag bytes rest none is) refl) refused.before refused.broken),
      )

  pub fails_definite : (tag end : ℕ) (after : List ℕ) → IsTag tag true → IsDefinite tag content bytes after
      → end ≡ offset + (length bytes - length after) → start ≡ end - length content
      → FailsWithin until.End strings (room - 1) start content e → FailsAt strings room offset bytes e
  fails_definite tag end after is_tag d ends s f =
      fails_in until.End tag (1 + length d.octets) _
      (record { after = after; is_tag = is_tag; definite = d; is = refl })
      d.is (start_is tag offset start end content bytes after d ends s) e f

  pub fails_indefinite : (tag : ℕ) → IsTag tag true → bytes ≡ tag ∷ (0x80 ∷ content) → start ≡ offset + 2
      → FailsWithin until.EndOfContents strings (room - 1) start content e → FailsAt strings room offset bytes e
  fails_indefinite tag is_tag d s f =
      fails_in until.EndOfContents tag 2 _ (record { is_tag = is_tag; definite = d; is = refl }) d s e f

-- ---- the part of a constructed element

-- its length is put in
pub read_inside : (tag : ℕ) (u : Until) (strings : Strings) (room inner : ℕ) (bytes : List ℕ)
    (old now later new : List Part) (first last : Part) (len size : ℕ) (after : List ℕ) → 1 + inner ≤ room
    → now ≡ old ++ (first ∷ []) → AreRead u strings inner bytes now later len after
    → new ≡ set later (length old) last → last ≡ part.Header tag len
    → size ≡ 1 + length (length_octets len) + len → IsInsideRead tag u strings room bytes old new size after
unfolding tlv
read_inside tag u strings room inner bytes old now later new first last len size after levels e h f header sizes =
    let g = h.read in
    let laters : later ≡ old ++ (first ∷ g.parts) =
    g.appended ∙ ap (λ l. l ++ g.parts) e ∙ append_assoc old (first ∷ []) g.parts in
    record {
      inside = g.nodes;
      passed = g.passed;
      rest = h.rest;
      elements = g.elements;
      levels = let within = g.levels in omega arith;
      is = g.is;
      end = h.end;
      whole = g.whole;
      has_parts = g.has_parts;
      parts = last ∷ g.parts;
      appended = f ∙ ap (λ l. set l (length old) last) laters ∙ set_at old first g.parts last (length old) refl;
      writes = ap₂ (λ p t. part_bytes p ++ t) header g.writes
          ∙ ap (λ n. tag ∷ (length_octets n ++ encoding g.whole)) g.counted;
      counted = sizes ∙ ap (λ n. 1 + length (length_octets n) + n) g.counted
          ∙ sym (length-element tag (encoding g.whole));
      are_parts = λ kept. record {
        content_len = len;
        within = g.parts;
        others = [];
        is = ap₂ (λ p l. p ∷ l) header (sym (append-nil g.parts));
        inside = g.are_parts kept;
        after = refl;
      };
    }
