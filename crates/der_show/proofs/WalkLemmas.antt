-- What a step of a walk comes to.
use Rattle.std.proofs.Common.{◌≡◌, ℕ, ◌+◌, ◌^◌, ◌<◌, ◌≤◌, List, [], ◌∷◌, ◌++◌, length, take, drop, sym, ap, subst, ◌∙◌}
use Rattle.std.proofs.Common.{arith, inl, inr}
use Rattle.std.specs.Prelude.{reverse, slice_range, ◌⊎◌}
use Rattle.std.proofs.lemmas.Bool.{cases_lt}
use Rattle.std.proofs.lemmas.List.{length-take-le, length-reverse}
use Rattle.der_show.specs.declared.element.Element.{Element}
use Rattle.der_show.specs.declared.header.Header.{Header}
use Rattle.der_show.specs.declared.rule.Rule.{Rule}
use Rattle.der_show.specs.declared.walk.Place.{Place}
use Rattle.der_show.specs.declared.walk.Next.{Next}
use Rattle.der_show.specs.declared.walk.Next.TheVariants as next
use Rattle.der_show.specs.Ends.{innermost, next_offset, next_ends}
use Rattle.der_show.specs.Outlines.{IsFound, IsBefore, listed_at}
use Rattle.der_show.specs.Walks.{open_ends, IsAtEnd, IsInside, IsWalked, GoesOver, IsNext, ComesNext}
use Rattle.der_show.proofs.Walking.{Walks, walk_begins, walk_continues, walk_ends, walk_refused, before_continues}
use Rattle.der_show.proofs.Walking.{open_range, ends_within}
use Rattle.der_show.proofs.Places.{place_last}
use Rattle.der_show.proofs.HeaderLemmas.{found}
use Rattle.der_show.proofs.Fronts.{has_header}
use Rattle.der_show.proofs.Ranges.{length-range}

pub walked : (bytes ends : List ℕ) (at : ℕ) (es : List Element) → IsWalked bytes ends at es → Walks bytes ends at es
walked bytes _ _ _ IsWalked.start = walk_begins bytes
walked bytes _ _ _ (IsWalked.step ends at es h w more found) =
    walk_continues bytes ends at es h (walked bytes ends at es w) more found

before : (bytes ends : List ℕ) (at : ℕ) (es : List Element) → IsWalked bytes ends at es → IsBefore bytes ends at es
before bytes _ _ _ IsWalked.start = IsBefore.none
before bytes _ _ _ (IsWalked.step ends at es h w more found) =
    before_continues bytes ends at es h (before bytes ends at es w) found

open_count : (p : Place) (ends : List ℕ) → p.depth ≤ length ends → length (open_ends p ends) ≡ p.depth
open_count p ends h = length-reverse (take p.depth ends) ∙ length-take-le p.depth ends h

module _ (bytes : List ℕ) (small : length bytes < 2 ^ 64) (old : Place) (olds : List ℕ) (new : Place) (news : List ℕ)
    (es : List Element) (w : IsWalked bytes (open_ends old olds) old.offset es) where
  abbrev Comes : Next → Type 0
  Comes n = ComesNext bytes old olds new news es n

  abbrev ends : List ℕ
  ends = open_ends old olds

  walks : Walks bytes ends old.offset es
  walks = walked bytes ends old.offset es w

  comes_element : (h : Header) → GoesOver bytes old olds new news h
      → Comes (next.Element (listed_at old.depth old.offset h))
  comes_element h over =
      let more : old.offset < length bytes = omega (arith, over.inside.low, over.inside.high) in
      let step = IsWalked.step ends old.offset es h w more over.found in
      let count = open_count old olds over.inside.depth in
      subst (λ k. IsWalked bytes k new.offset (es ++ (listed_at old.depth old.offset h ∷ []))) (sym over.ends)
      (subst (λ k. IsWalked bytes (next_ends h old.offset ends) k (es ++ (listed_at old.depth old.offset h ∷ [])))
      (sym over.offset)
      (subst (λ d. IsWalked bytes (next_ends h old.offset ends) (next_offset h old.offset)
      (es ++ (listed_at d old.offset h ∷ []))) count step))

  -- the test refuses a place of a walk only if there are too few ends
  comes_nowhere : (IsAtEnd (length bytes) old → ⊥) → (IsInside (length bytes) old olds → ⊥) → length olds < old.depth
  comes_nowhere not_end out = elim (cases_lt (length olds) old.depth) [
    | inl few ↦ few
    | inr enough ↦ absurd (inside_or_end (cases_lt old.offset (length bytes)) enough)
  ]
    where
      count : old.depth ≤ length olds → length ends ≡ old.depth
      count enough = open_count old olds enough

      inside_or_end : (old.offset < length bytes) ⊎ (length bytes ≤ old.offset) → old.depth ≤ length olds → ⊥
      inside_or_end (inl more) enough = let (low, high) = open_range bytes ends old.offset es walks more in
          out (record { depth = enough; low = low; high = high })
      inside_or_end (inr done) enough =
          let none = place_last bytes ends old.offset (record { are_ends = walks.are_ends; open_end = walks.open_end })
          done in
          let within = ends_within (length bytes) old.offset ends walks.are_ends in
          not_end (record {
            depth = omega (arith, ap length none, count enough);
            offset =
                omega (arith, within.0, within.1, done);
          })

  pub comes_next : (n : Next) → IsNext bytes old olds new news n → Comes n
  comes_next n (IsNext.element h over is) = subst Comes (sym is) (comes_element h over)
  comes_next n (IsNext.broken r inside breaks kept is) =
      let more : old.offset < length bytes = omega (arith, inside.low, inside.high) in
      subst Comes (sym is) (walk_refused bytes ends old.offset es r walks (before bytes ends old.offset es w) more small
      breaks)
  comes_next n (IsNext.end all kept is) = let done : length bytes ≤ old.offset = omega (arith, all.offset) in
      subst Comes (sym is) (walk_ends bytes ends old.offset es walks done)
  comes_next n (IsNext.no_room h found bit full kept is) = subst Comes (sym is) full
  comes_next n (IsNext.no_place not_end out kept is) = subst Comes (sym is) (comes_nowhere not_end out)

-- the element at the front is within the bytes
pub found_fits : (bytes : List ℕ) (at end : ℕ) (h : Header) → at < end → end ≤ length bytes
    → IsFound (slice_range bytes at end) h → at + h.header_len + h.content_len ≤ length bytes
found_fits bytes at end h low high f =
    let front = slice_range bytes at end in
    omega (arith, (found front h (has_header front h f)).1, length-range bytes at end high)
