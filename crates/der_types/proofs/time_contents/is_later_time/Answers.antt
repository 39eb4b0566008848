use Rattle.std.proofs.Common.{◌≡◌, ◌&&◌, ℕ, List, true, false, nat_eq, slice_index_or, length, sym, refl, inl, inr}
use Rattle.std.proofs.lemmas.Bool.{and_parts}
use Rattle.std.proofs.lemmas.Bool.Decides.{eqb_tells}
use Rattle.der_types.specs.TimeContents.{are_digits_at, are_whole_seconds, is_date_time_at, year_at_first}
use Rattle.der_types.proofs.time_contents.is_later_time.Goals as goal

year-digits : (bs : List ℕ) → are_whole_seconds bs ≡ true → (are_digits_at bs 0 ≡ true) × (are_digits_at bs 2 ≡ true)
year-digits bs h =
    and_parts _ _ (and_parts (are_digits_at bs 0 && are_digits_at bs 2) (is_date_time_at (year_at_first bs) bs 4) h).0

pub returns-then-bytes-eq90 : goal.returns-then-bytes-eq90
returns-then-bytes-eq90 c = simp (
  c.if-bytes-ne15.false,
  sym c.if-not-are_whole_seconds.ensures,
  c.if-bytes-eq90.true,
  c.year_at_first.ensures,
) refl

pub returns-else-bytes-eq90 : goal.returns-else-bytes-eq90
returns-else-bytes-eq90 c =
    let no : nat_eq (slice_index_or c.args.bytes.now 14 0) 90 ≡ false =
    elim (eqb_tells (slice_index_or c.args.bytes.now 14 0) 90) [
      | inl is ↦ absurd (c.if-bytes-eq90.false is.1)
      | inr isnt ↦ isnt.0
    ] in
    simp (c.if-bytes-ne15.false, sym c.if-not-are_whole_seconds.ensures, no) refl

pub returns-then-bytes-ne15 : goal.returns-then-bytes-ne15
returns-then-bytes-ne15 c =
    let no : nat_eq (length c.args.bytes.now) 15 ≡ false = elim (eqb_tells (length c.args.bytes.now) 15) [
      | inl is ↦ absurd (c.if-bytes-ne15.true is.1)
      | inr isnt ↦ isnt.0
    ] in
    simp no refl

pub returns-then-not-are_whole_seconds : goal.returns-then-not-are_whole_seconds
returns-then-not-are_whole_seconds c = simp (c.if-bytes-ne15.false, sym c.if-not-are_whole_seconds.ensures) refl

pub year_at_first-requires-clause-century : goal.year_at_first-requires-clause-century
year_at_first-requires-clause-century c = (year-digits c.args.bytes.now (sym c.if-not-are_whole_seconds.ensures)).0

pub year_at_first-requires-clause-year : goal.year_at_first-requires-clause-year
year_at_first-requires-clause-year c = (year-digits c.args.bytes.now (sym c.if-not-are_whole_seconds.ensures)).1
