-- What a slice holds that a sink has filled from its first byte on.
use Rattle.std.proofs.Common.{◌≡◌, ℕ, ◌<◌, ◌≤◌, List, ◌++◌, length, take, drop, sym, ap, ◌∙◌, arith, take-append-drop}
use Rattle.std.proofs.Math.Seq.{take-append_seam, take-length}
use Rattle.std.proofs.lemmas.List.{length-append}
use Rattle.std.specs.Prelude.{Some}
use Rattle.std.specs.Io.KnownBytes.{Appends}
use Rattle.std.proofs.lemmas.Grind.{common_steps}
use Rattle.picky_der_core.specs.Writer.{AppendsBeginning, AppendsTooFew}
use Rattle.picky_der_core.specs.SliceSink.{slice_of, filled_of, written_of, faults_of, IsLater, is_within, is_full}
use Rattle.picky_der_core.specs.SliceSink.{HoldsBeginning}
use Rattle.picky_der_core.specs.declared.misc.slice_sink.SliceSink.{SliceSink}

front_and_rest : (i j : ℕ) (front old mid new : List ℕ) → i ≡ 0 → take j new ≡ take i mid ++ front → j ≤ length new
    → drop j new ≡ drop j old
    → (front ≡ take j new) × (length front ≡ j) × (new ≡ front ++ drop (length front) old)
front_and_rest i j front old mid new z e h f =
    let is : take j new ≡ front = e ∙ ap (λ k. take k mid ++ front) z in
    let n : length front ≡ j = sym (ap length is) ∙ grind (arith, common_steps) in (
      sym is,
      n,
      sym (take-append-drop j new) ∙ ap (λ l. l ++ drop j new) is ∙ ap (λ l. front ++ l) f
          ∙ ap (λ k. front ++ drop k old) (sym n),
    )

module _ (s t : SliceSink) (bs : List ℕ) (start : filled_of s ≡ 0) (later : IsLater s t) where
  -- where all were written, all of the bytes
  pub holds_all : Appends (Some (written_of s)) (Some (written_of t)) bs
      → (length bs ≤ length (slice_of s).now) × ((slice_of t).now ≡ bs ++ drop (length bs) (slice_of s).now)
  holds_all e =
      let within : filled_of t ≤ length (slice_of t).now = is_within t in
      let p = front_and_rest (filled_of s) (filled_of t) bs (slice_of s).now (slice_of s).now (slice_of t).now start e
      within later.3 in
      (omega (arith, p.1, later.1), p.2)

  -- else a beginning of them
  pub holds_beginning : AppendsBeginning (Some (written_of s)) (Some (written_of t)) bs
      → HoldsBeginning (slice_of s).now (slice_of t).now bs
  holds_beginning b =
      let within : filled_of t ≤ length (slice_of t).now = is_within t in
      let p = front_and_rest (filled_of s) (filled_of t) b.front (slice_of s).now (slice_of s).now (slice_of t).now
      start b.appends within later.3 in
      record { front = b.front; rest = b.rest; is = b.is; fits = omega (arith, p.1, later.1); holds = p.2 }

  -- after an I/O error the first of them, as many as there is room for, and there isn't room for all
  pub holds_first : AppendsTooFew (Some (written_of s)) (Some (written_of t)) bs → faults_of s < faults_of t
      → (length (slice_of s).now < length bs) × ((slice_of t).now ≡ take (length (slice_of s).now) bs)
  holds_first few h =
      let b = few.begins in
      let within : filled_of t ≤ length (slice_of t).now = is_within t in
      let full : filled_of t ≡ length (slice_of t).now = is_full t (omega (arith, h)) in
      let p = front_and_rest (filled_of s) (filled_of t) b.front (slice_of s).now (slice_of s).now (slice_of t).now
      start b.appends within later.3 in
      let count : length b.front ≡ length (slice_of s).now = p.1 ∙ full ∙ later.1 in
      let is : (slice_of t).now ≡ b.front = sym (ap (λ k. take k (slice_of t).now) full ∙ take-length (slice_of t).now)
      ∙ sym p.0 in (
        omega (arith, count, few.missing, ap length b.is, length-append b.front b.rest),
        is ∙ sym (take-append_seam b.front b.rest) ∙ ap (λ k. take k (b.front ++ b.rest)) count
            ∙ ap (take (length (slice_of s).now)) (sym b.is),
      )
