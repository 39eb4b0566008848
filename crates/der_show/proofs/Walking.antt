-- What a loop over the elements knows.
use Rattle.std.proofs.Common.{◌≡◌, ℕ, ◌+◌, ◌^◌, ◌<◌, ◌≤◌, ◌==◌, Bool, true, false, if◌then◌else◌, List, [], ◌∷◌, ◌++◌}
use Rattle.std.proofs.Common.{length, refl, sym, ap, subst, ◌∙◌, arith, append_assoc, append-nil, eqb-true, eq-eqb, inl}
use Rattle.std.proofs.Common.{inr}
use Rattle.std.specs.Prelude.{slice_range}
use Rattle.std.proofs.lemmas.Bool.{cases_lt}
use Rattle.picky_der_core.specs.Tag.{is_constructed}
use Rattle.picky_der_core.specs.Element.{tlv}
use Rattle.der_show.specs.declared.element.Element.{Element}
use Rattle.der_show.specs.declared.header.Header.{Header}
use Rattle.der_show.specs.declared.rule.Rule.{Rule}
use Rattle.der_show.specs.Nodes.{IsCanonical, header_size, element, elements}
use Rattle.der_show.specs.Ends.{innermost, without_reached, next_offset, next_ends}
use Rattle.der_show.specs.Outlines.{Breaks, IsFound, IsListed, listed_at, IsBefore, IsRefused}
use Rattle.der_show.proofs.Ranges.{range_whole}
use Rattle.der_show.proofs.Listed.{Lists, closed_in, closed_out, after_within, primitive_in, primitive_out}
use Rattle.der_show.proofs.Listed.{constructed_in, constructed_out, broken_out}

-- ---- ends

-- the offset isn't after the innermost end, nor that after the next, and none is after the last byte
abbrev pub AreEnds : ℕ → ℕ → List ℕ → Type 0
AreEnds len at [] = at ≤ len
AreEnds len at (end ∷ ends) = (at ≤ end) × AreEnds len end ends

-- the innermost end isn't reached
abbrev pub IsOpen : ℕ → List ℕ → Type 0
IsOpen at [] = Unit {0}
IsOpen at (end ∷ ends) = at < end

pub ends_within : (len at : ℕ) (ends : List ℕ) → AreEnds len at ends
    → (at ≤ innermost len ends) × (innermost len ends ≤ len)
ends_within len at [] h = (h, omega arith)
ends_within len at (end ∷ ends) h = let (low, high) = ends_within len end ends h.1 in (h.0, omega arith)

pub ends_from : (len at next : ℕ) (ends : List ℕ) → AreEnds len at ends → next ≤ innermost len ends
    → AreEnds len next ends
ends_from len at next [] h k = k
ends_from len at next (end ∷ ends) h k = (k, h.1)

not_reached : (at end : ℕ) → at ≤ end → (end == at) ≡ false → at < end
not_reached at end h e = elim (cases_lt at end) [
  | inl less ↦ less
  | inr more ↦ let same : end ≡ at = omega arith in let bad : true ≡ false = sym (eq-eqb end at same) ∙ e in absurd (cc)
]

closes_one : (len at end : ℕ) (ends : List ℕ) (b : Bool) → (end == at) ≡ b → AreEnds len at (end ∷ ends)
    → (AreEnds len at ends → AreEnds len at (without_reached at ends) × IsOpen at (without_reached at ends))
    → AreEnds len at (if b then without_reached at ends else end ∷ ends)
    × IsOpen at (if b then without_reached at ends else end ∷ ends)
closes_one len at end ends true e h others = others (subst (λ k. AreEnds len k ends) (eqb-true end at e) h.1)
closes_one len at end ends false e h others = (h, not_reached at end h.0 e)

pub closes : (len at : ℕ) (ends : List ℕ) → AreEnds len at ends
    → AreEnds len at (without_reached at ends) × IsOpen at (without_reached at ends)
closes len at [] h = (h, tt)
closes len at (end ∷ ends) h = closes_one len at end ends (end == at) refl h (closes len at ends)

-- ---- what is ahead

-- from each of the ends on, elements up to the next, and these are all
abbrev pub IsLater : List ℕ → List ℕ → List Element → Type 0
IsLater bytes [] rows = rows ≡ []
IsLater bytes (end ∷ ends) rows = (front back : List Element)
    × Lists bytes end (innermost (length bytes) ends) (length ends) front × IsLater bytes ends back
    × (rows ≡ front ++ back)

-- the same from the offset on
pub record Ahead (bytes : List ℕ) (ends : List ℕ) (at : ℕ) (rows : List Element) : Type 0 where
  pub front : List Element
  pub back : List Element
  pub here : Lists bytes at (innermost (length bytes) ends) (length ends) front
  pub later : IsLater bytes ends back
  pub is : rows ≡ front ++ back

-- an end that is reached
close_in : (bytes ends : List ℕ) (at : ℕ) (rows : List Element) → Ahead bytes ends at rows
    → Ahead bytes (at ∷ ends) at rows
close_in bytes ends at rows a = record {
  front = [];
  back = rows;
  here = closed_in bytes at (length (at ∷ ends));
  later = (a.front, a.back, a.here, a.later, a.is);
  is = refl;
}

close_out : (bytes ends : List ℕ) (at : ℕ) (rows : List Element) → Ahead bytes (at ∷ ends) at rows
    → Ahead bytes ends at rows
close_out bytes ends at rows a =
    let none : a.front ≡ [] = closed_out bytes at (length (at ∷ ends)) a.front a.here in
    let all : rows ≡ a.back = a.is ∙ ap (λ f. f ++ a.back) none in
    record { front = a.later.0; back = a.later.1; here = a.later.2; later = a.later.3; is = all ∙ a.later.4 }

-- all that are
closed_one : (bytes ends : List ℕ) (at end : ℕ) (rows : List Element) (b : Bool) → (end == at) ≡ b
    → (Ahead bytes (without_reached at ends) at rows → Ahead bytes ends at rows)
    → Ahead bytes (if b then without_reached at ends else end ∷ ends) at rows → Ahead bytes (end ∷ ends) at rows
closed_one bytes ends at end rows true e others a =
    subst (λ k. Ahead bytes (k ∷ ends) at rows) (sym (eqb-true end at e)) (close_in bytes ends at rows (others a))
closed_one bytes ends at end rows false e others a = a

closed_ahead : (bytes ends : List ℕ) (at : ℕ) (rows : List Element) → Ahead bytes (without_reached at ends) at rows
    → Ahead bytes ends at rows
closed_ahead bytes [] at rows a = a
closed_ahead bytes (end ∷ ends) at rows a =
    closed_one bytes ends at end rows (end == at) refl (closed_ahead bytes ends at rows) a

ahead_one : (bytes ends : List ℕ) (at end : ℕ) (rows : List Element) (b : Bool) → (end == at) ≡ b
    → (Ahead bytes ends at rows → Ahead bytes (without_reached at ends) at rows)
    → Ahead bytes (end ∷ ends) at rows → Ahead bytes (if b then without_reached at ends else end ∷ ends) at rows
ahead_one bytes ends at end rows true e others a =
    others (close_out bytes ends at rows (subst (λ k. Ahead bytes (k ∷ ends) at rows) (eqb-true end at e) a))
ahead_one bytes ends at end rows false e others a = a

ahead_closed : (bytes ends : List ℕ) (at : ℕ) (rows : List Element) → Ahead bytes ends at rows
    → Ahead bytes (without_reached at ends) at rows
ahead_closed bytes [] at rows a = a
ahead_closed bytes (end ∷ ends) at rows a =
    ahead_one bytes ends at end rows (end == at) refl (ahead_closed bytes ends at rows) a

-- ---- the loop

-- What is ahead together with the elements so far is what is listed of all bytes, and nothing else is.
pub record Walks (bytes ends : List ℕ) (at : ℕ) (rows : List Element) : Type 0 where
  pub are_ends : AreEnds (length bytes) at ends
  pub open_end : IsOpen at ends
  pub sound : (more : List Element) → Ahead bytes ends at more → Lists bytes 0 (length bytes) 0 (rows ++ more)
  pub complete : (all : List Element) → Lists bytes 0 (length bytes) 0 all
      → (more : List Element) × Ahead bytes ends at more × (all ≡ rows ++ more)

pub walk_begins : (bytes : List ℕ) → Walks bytes [] 0 []
walk_begins bytes = record {
  are_ends = omega arith;
  open_end = tt;
  sound = λ more a. subst (Lists bytes 0 (length bytes) 0)
      (sym (a.is ∙ ap (λ b. a.front ++ b) a.later ∙ append-nil a.front)) a.here;
  complete = λ all l. (all, record { front = all; back = []; here = l; later = refl; is = sym (append-nil all) }, refl);
}

pub walk_ends : (bytes ends : List ℕ) (at : ℕ) (rows : List Element) → Walks bytes ends at rows → length bytes ≤ at
    → IsListed bytes rows
walk_ends bytes [] at rows w done =
    let last : length bytes ≡ at = omega (arith, w.are_ends) in
    let all = w.sound []
    (record {
      front = [];
      back = [];
      here = subst (λ k. Lists bytes at k 0 []) (sym last) (closed_in bytes at 0);
      later = refl;
      is = refl;
    }) in
    record {
      nodes = all.nodes;
      canonical = all.canonical;
      is = sym (range_whole bytes) ∙ all.is;
      listed =
          sym (append-nil rows) ∙ all.rows_are;
    }
walk_ends bytes (end ∷ ends) at rows w done =
    let (low, high) = ends_within (length bytes) end ends w.are_ends.1 in
    let open_at : at < end = w.open_end in
    absurd (omega arith)

-- the bytes up to the innermost end aren't used up
pub open_range : (bytes ends : List ℕ) (at : ℕ) (rows : List Element) → Walks bytes ends at rows → at < length bytes
    → (at < innermost (length bytes) ends) × (innermost (length bytes) ends ≤ length bytes)
open_range bytes [] at rows w more = (more, omega arith)
open_range bytes (end ∷ ends) at rows w more = (w.open_end, (ends_within (length bytes) at (end ∷ ends) w.are_ends).1)

pub walk_refused : (bytes ends : List ℕ) (at : ℕ) (rows : List Element) (r : Rule) → Walks bytes ends at rows
    → IsBefore bytes ends at rows → at < length bytes → length bytes < 2 ^ 64
    → Breaks (slice_range bytes at (innermost (length bytes) ends)) r
    → IsRefused bytes rows (record { offset = at; rule = r })
walk_refused bytes ends at rows r w before more small broken =
    let (low, high) = open_range bytes ends at rows w more in
    record {
      none = λ nodes canonical e.
          let all = w.complete (elements 0 0 nodes)
          (record { nodes = nodes; canonical = canonical; is = range_whole bytes ∙ e; rows_are = refl }) in
          broken_out bytes at (innermost (length bytes) ends) r low high small broken (length ends) all.1.front
          all.1.here;
      ends = ends;
      before = before;
      inside = low;
      within = high;
      breaks = broken;
    }

-- ---- one element more

module _ (bytes ends : List ℕ) (at : ℕ) (rows : List Element) (w : Walks bytes ends at rows) (some : at < length bytes)
    (tag : ℕ) (content rest : List ℕ) (is : slice_range bytes at (innermost (length bytes) ends)
    ≡ tlv tag content ++ rest) (canonical : IsCanonical tag content) where
  abbrev end : ℕ
  end = innermost (length bytes) ends

  low : at ≤ end
  low = omega (arith, open_range bytes ends at rows w some)

  high : end ≤ length bytes
  high = (open_range bytes ends at rows w some).1

  abbrev depth : ℕ
  depth = length ends

  abbrev inside_at : ℕ
  inside_at = at + header_size (length content)

  abbrev after_at : ℕ
  after_at = at + header_size (length content) + length content

  within : after_at ≤ end
  within = after_within bytes at end depth low high tag content rest is

  abbrev row : Element
  row = element depth at tag (length content)

  one_more : (more : List Element) → rows ++ (row ∷ more) ≡ (rows ++ (row ∷ [])) ++ more
  one_more more = sym (append_assoc rows (row ∷ []) more)

  -- after a primitive one
  primitive_ahead : (more : List Element) → is_constructed tag ≡ false → Ahead bytes ends after_at more
      → Ahead bytes ends at (row ∷ more)
  primitive_ahead more bit a = record {
    front = row ∷ a.front;
    back = a.back;
    here = primitive_in bytes at end depth low high tag content rest is canonical a.front bit a.here;
    later = a.later;
    is = ap (λ m. row ∷ m) a.is;
  }

  ahead_primitive : (all : List Element) → is_constructed tag ≡ false → Ahead bytes ends at all
      → (more : List Element) × Ahead bytes ends after_at more × (all ≡ row ∷ more)
  ahead_primitive all bit a =
      let found = primitive_out bytes at end depth low high tag content rest is a.front bit a.here in (
        found.0 ++ a.back,
        record { front = found.0; back = a.back; here = found.1; later = a.later; is = refl },
        a.is ∙ ap (λ f. f ++ a.back) found.2,
      )

  -- in a constructed one
  constructed_ahead : (more : List Element) → is_constructed tag ≡ true → Ahead bytes (after_at ∷ ends) inside_at more
      → Ahead bytes ends at (row ∷ more)
  constructed_ahead more bit a =
      let inner = a.front in
      let outer = a.later.0 in
      let back = a.later.1 in
      record {
        front = row ∷ (inner ++ outer);
        back = back;
        here = constructed_in bytes at end depth low high tag content rest is canonical inner outer bit (deeper a.here)
            a.later.2;
        later = a.later.3;
        is = ap (λ m. row ∷ m) (a.is ∙ ap (λ b. inner ++ b) a.later.4 ∙ sym (append_assoc inner outer back));
      }
    where
      deeper : {inner : List Element} → Lists bytes inside_at after_at (length (after_at ∷ ends)) inner
          → Lists bytes inside_at after_at (depth + 1) inner
      deeper {inner} l = let e : length (after_at ∷ ends) ≡ depth + 1 = omega arith in
          subst (λ d. Lists bytes inside_at after_at d inner) e l

  ahead_constructed : (all : List Element) → is_constructed tag ≡ true → Ahead bytes ends at all
      → (more : List Element) × Ahead bytes (after_at ∷ ends) inside_at more × (all ≡ row ∷ more)
  ahead_constructed all bit a =
      let found = constructed_out bytes at end depth low high tag content rest is a.front bit a.here in
      let inner = found.0 in
      let outer = found.1 in
      let e : depth + 1 ≡ length (after_at ∷ ends) = omega arith in (
        inner ++ (outer ++ a.back),
        record {
          front = inner;
          back = outer ++ a.back;
          here = subst (λ d. Lists bytes inside_at after_at d inner) e found.2;
          later = (outer, a.back, found.3, a.later, refl);
          is = refl;
        },
        a.is ∙ ap (λ f. f ++ a.back) found.4 ∙ ap (λ m. row ∷ m) (append_assoc inner outer a.back),
      )

  -- the ends that are reached are closed
  after : (next : ℕ) (opened : List ℕ) → AreEnds (length bytes) next opened
      → ((more : List Element) → Ahead bytes opened next more → Ahead bytes ends at (row ∷ more))
      → ((all : List Element) → Ahead bytes ends at all → (more : List Element) × Ahead bytes opened next more
      × (all ≡ row ∷ more))
      → Walks bytes (without_reached next opened) next (rows ++ (row ∷ []))
  after next opened are to from =
      let (kept, past) = closes (length bytes) next opened are in
      record {
        are_ends = kept;
        open_end = past;
        sound = λ more a. subst (Lists bytes 0 (length bytes) 0) (one_more more)
            (w.sound (row ∷ more) (to more (closed_ahead bytes opened next more a)));
        complete = λ all l.
            let before = w.complete all l in
            let found = from before.0 before.1 in (
              found.0,
              ahead_closed bytes opened next found.0 found.1,
              before.2 ∙ ap (λ m. rows ++ m) found.2
                  ∙ one_more found.0,
            );
      }

  pub after_primitive : is_constructed tag ≡ false
      → Walks bytes (without_reached after_at ends) after_at (rows ++ (row ∷ []))
  after_primitive bit = after after_at ends (ends_from (length bytes) at after_at ends w.are_ends within)
      (λ more. primitive_ahead more bit) (λ all. ahead_primitive all bit)

  pub after_constructed : is_constructed tag ≡ true
      → Walks bytes (without_reached inside_at (after_at ∷ ends)) inside_at (rows ++ (row ∷ []))
  after_constructed bit =
      after inside_at (after_at ∷ ends) (omega arith, ends_from (length bytes) at after_at ends w.are_ends within)
      (λ more. constructed_ahead more bit) (λ all. ahead_constructed all bit)

-- by the header that was found
module _ (bytes ends : List ℕ) (at : ℕ) (rows : List Element) (h : Header) (w : Walks bytes ends at rows)
    (some : at < length bytes) (found : IsFound (slice_range bytes at (innermost (length bytes) ends)) h) where
  abbrev listed : ℕ → ℕ → Element
  listed header_len content_len = record {
    offset = at;
    depth = length ends;
    tag = h.tag;
    header_len = header_len;
    content_len = content_len;
  }

  abbrev Opened : ℕ → ℕ → Type 0
  Opened header_len content_len =
      Walks bytes (without_reached (at + header_len) ((at + header_len + content_len) ∷ ends)) (at + header_len)
      (rows ++ (listed header_len content_len ∷ []))

  abbrev Passed : ℕ → ℕ → Type 0
  Passed header_len content_len =
      Walks bytes (without_reached (at + header_len + content_len) ends) (at + header_len + content_len)
      (rows ++ (listed header_len content_len ∷ []))

  by_form : (b : Bool) → is_constructed h.tag ≡ b
      → Walks bytes (if b then without_reached (at + h.header_len) ((at + h.header_len + h.content_len) ∷ ends) else
      without_reached (at + h.header_len + h.content_len) ends)
      (if b then at + h.header_len else at + h.header_len + h.content_len)
      (rows ++ (listed h.header_len h.content_len ∷ []))
  by_form true bit =
      subst (λ k. Opened k h.content_len) (sym found.header_len)
      (subst (Opened (header_size (length found.content))) (sym found.content_len)
      (after_constructed bytes ends at rows w some h.tag found.content found.rest found.is found.canonical bit))
  by_form false bit =
      subst (λ k. Passed k h.content_len) (sym found.header_len)
      (subst (Passed (header_size (length found.content))) (sym found.content_len)
      (after_primitive bytes ends at rows w some h.tag found.content found.rest found.is found.canonical bit))

  pub walk_continues : Walks bytes (next_ends h at ends) (next_offset h at)
      (rows ++ (listed h.header_len h.content_len ∷ []))
  walk_continues = by_form (is_constructed h.tag) refl

  -- the element isn't past the end of the bytes
  pub found_within : at + h.header_len + h.content_len ≤ length bytes
  found_within =
      omega (
        arith,
        found.header_len,
        found.content_len,
        within bytes ends at rows w some h.tag found.content found.rest
            found.is found.canonical,
        high bytes ends at rows w some h.tag found.content found.rest found.is found.canonical,
      )

  -- and the next is after it
  pub goes_further : at < next_offset h at
  goes_further = by (is_constructed h.tag)
    where
      by : (b : Bool) → at < (if b then at + h.header_len else at + h.header_len + h.content_len)
      by true = omega (arith, found.header_len)
      by false = omega (arith, found.header_len)

-- ---- the elements before the offset

reached_one : (bytes ends : List ℕ) (at end : ℕ) (rows : List Element) (b : Bool) → (end == at) ≡ b
    → (IsBefore bytes ends at rows → IsBefore bytes (without_reached at ends) at rows)
    → IsBefore bytes (end ∷ ends) at rows → IsBefore bytes (if b then without_reached at ends else end ∷ ends) at rows
reached_one bytes ends at end rows true e others h =
    others (IsBefore.ended ends at rows (subst (λ k. IsBefore bytes (k ∷ ends) at rows) (eqb-true end at e) h))
reached_one bytes ends at end rows false e others h = h

reached : (bytes ends : List ℕ) (at : ℕ) (rows : List Element) → IsBefore bytes ends at rows
    → IsBefore bytes (without_reached at ends) at rows
reached bytes [] at rows h = h
reached bytes (end ∷ ends) at rows h = reached_one bytes ends at end rows (end == at) refl (reached bytes ends at rows)
    h

module _ (bytes ends : List ℕ) (at : ℕ) (rows : List Element) (h : Header) (before : IsBefore bytes ends at rows)
    (found : IsFound (slice_range bytes at (innermost (length bytes) ends)) h) where
  before_by_form : (b : Bool) → is_constructed h.tag ≡ b
      → IsBefore bytes (if b then without_reached (at + h.header_len) ((at + h.header_len + h.content_len) ∷ ends) else
      without_reached (at + h.header_len + h.content_len) ends)
      (if b then at + h.header_len else at + h.header_len + h.content_len) (rows ++ (listed_at (length ends) at h ∷ []))
  before_by_form true bit = reached bytes ((at + h.header_len + h.content_len) ∷ ends) (at + h.header_len) _
      (IsBefore.inside ends at rows h before found bit)
  before_by_form false bit =
      reached bytes ends (at + h.header_len + h.content_len) _ (IsBefore.after ends at rows h before found bit)

  pub before_continues : IsBefore bytes (next_ends h at ends) (next_offset h at)
      (rows ++ (listed_at (length ends) at h ∷ []))
  before_continues = before_by_form (is_constructed h.tag) refl
