use Rattle.std.proofs.Common.{ℕ, ◌<◌, ◌==◌, false, rules, ◌≡◌, ◌≢◌, vec_len, is_ok, not, true, refl, ◌∙◌, sym, ap}
use Rattle.std.proofs.Common.{arith}
use Rattle.std.proofs.lemmas.Bool.Decides.{Decides-eqb, not_from_Decides}
use Rattle.std.proofs.lemmas.Result.{err_from_is_err_and}
use Rattle.der_program_base.proofs.RunSteps.{run_starts, byte_read, line_answered, line_push, ends, ends_answered}
use Rattle.der_program_base.proofs.RunStops.{fault_reported, reader_stops, byte_stops, line_stops, last_stops}
use Rattle.der_program_base.proofs.RunStops.{limit_stops}
use Rattle.der_program_base.proofs.lines.answer_lines.Goals as goal
use Rattle.der_program_base.proofs.lines.answer_lines.Goals.{then-byte-eq10+in_ok-answer_line-2}
use Rattle.der_program_base.proofs.lines.answer_lines.Goals.{else-byte-eq10+else-is_err}
use Rattle.der_program_base.proofs.lines.answer_lines.Goals.{then-not-is_empty+in_ok-answer_line, else-not-is_empty}

-- the test whether a line is empty
is_some : (count : ℕ) → false ≡ (count == 0) → 0 < count
is_some count e = let not_none : count ≢ 0 = not_from_Decides _ (Decides-eqb count 0) (sym e) in omega arith

is_none : (count : ℕ) → true ≡ (count == 0) → count ≡ 0
is_none count e = (Decides-eqb count 0).0 (sym e)

pub loop-read-init : goal.loop-read-init
loop-read-init g c = record {
  runs = rw c.new-line.ensures.items (run_starts _ _);
  reads = refl;
  writes = refl;
  same_references = refl;
  continues = search rules;
}

pub returns-in_err-byte-clause-stops : goal.returns-in_err-byte-clause-stops
returns-in_err-byte-clause-stops g c =
    let p = err_from_is_err_and c.from_residual.result c.from_residual.ensures.1 in
    let failed = c.in_err-byte.ensures in
    let i = c.loop-read.invariant in
    rw p.1 (reader_stops g.W.WriteExt i.runs _ _ _ _ _ failed.byte i.reads failed.fault p.2)

pub returns-in_err-byte-clause-reads : goal.returns-in_err-byte-clause-reads
returns-in_err-byte-clause-reads g c =
    let p = err_from_is_err_and c.from_residual.result c.from_residual.ensures.1 in
    rw p.1 (fault_reported c.loop-read.invariant.reads c.in_err-byte.ensures.fault p.2)

pub returns-in_err-answer_line-2-clause-stops : goal.returns-in_err-answer_line-2-clause-stops
returns-in_err-answer_line-2-clause-stops g c =
    let p = err_from_is_err_and c.from_residual-in_err-answer_line-2.result
    c.from_residual-in_err-answer_line-2.ensures.1 in
    let i = c.loop-read.invariant in
    let byte = rw (c.in-Some.is, c.if-byte-eq10.true) at c.in_ok-byte.ensures.byte in
    let stops = rw c.deref-then-byte-eq10.ensures.value at c.in_err-answer_line-2.ensures.err in
    rw (p.1, p.2) (line_stops g.W.WriteExt i.runs _ _ _ _ _ byte i.writes stops)

pub returns-then-is_err-clause-stops : goal.returns-then-is_err-clause-stops
returns-then-is_err-clause-stops g c =
    let i = c.loop-read.invariant in
    let byte = rw c.in-Some.is at c.in_ok-byte.ensures.byte in
    byte_stops g.W.WriteExt i.runs _ _ _ _ byte (line_push _ _ i.runs.is_line c.if-byte-eq10.false)

pub returns-in_err-answer_line-clause-stops : goal.returns-in_err-answer_line-clause-stops
returns-in_err-answer_line-clause-stops g c =
    let p = err_from_is_err_and c.from_residual-in_err-answer_line.result
    c.from_residual-in_err-answer_line.ensures.1 in
    let i = c.loop-read.invariant in
    let end = rw c.in_default.is at c.in_ok-byte.ensures.byte in
    let some = is_some (vec_len c.loop-read.line) c.if-not-is_empty.ensures in
    let stops = rw c.deref.ensures.value at c.in_err-answer_line.ensures.err in
    rw (p.1, p.2) (last_stops g.W.WriteExt i.runs _ _ _ _ _ end.0 end.1 (omega (arith, some, c.loop-read.line.ok.0))
    i.writes stops)

pub returns-in_default-clause-text : goal.returns-in_default-clause-text
returns-in_default-clause-text g c =
    let i = c.loop-read.invariant in
    let end = rw c.in_default.is at c.in_ok-byte.ensures.byte in
    elim c.if-not-is_empty.branch [
      | then-not-is_empty+in_ok-answer_line w ↦
          let some = is_some (vec_len c.loop-read.line) w.if-not-is_empty.ensures in
          let answered = rw w.deref.ensures.value at w.in_ok-answer_line.ensures.ok in
          rw w.output-is (ends_answered i.runs _ _ end.0 end.1 (omega (arith, some, c.loop-read.line.ok.0)) answered)
      | else-not-is_empty w ↦
          let none = is_none (vec_len c.loop-read.line) w.if-not-is_empty.ensures in
          rw w.output-is (ends i.runs _ end.0 end.1 (omega (arith, none, c.loop-read.line.ok.0)))
    ]

pub returns-clause-stops : goal.returns-clause-stops
returns-clause-stops g c = limit_stops g.W.WriteExt c.loop-read.invariant.runs _ _ (omega arith)

pub loop-read-preserved : goal.loop-read-preserved
loop-read-preserved g c =
    let i = c.loop-read.invariant in
    let consumed = c.in_ok-byte.ensures in
    let byte = rw c.in-Some.is at consumed.byte in
    elim c.if-byte-eq10.branch [
      | then-byte-eq10+in_ok-answer_line-2 w ↦
          let ended = rw w.if-byte-eq10.true at byte in
          let done = w.in_ok-answer_line-2.ensures in
          let answered = rw w.deref-then-byte-eq10.ensures.value at done.ok in
          record {
            runs = rw (w.output-is, w.line-is, w.clear.ensures.items) (line_answered i.runs _ _ ended answered);
            reads = consumed.no_fault ∙ i.reads;
            writes = rw w.output-is (done.no_fault ∙ i.writes);
            same_references = consumed.same_references ∙ i.same_references;
            continues = rw w.output-is (search (rules, i.continues, done.continues));
          }
      | else-byte-eq10+else-is_err w ↦
          let pushed : is_ok w.push.result ≡ true = w.is_err.ensures.negation ∙ ap not w.if-is_err.false in
          record {
            runs = rw (w.output-is, w.line-is, w.push.ensures.items, pushed)
                (byte_read i.runs _ _ byte w.if-byte-eq10.false);
            reads = consumed.no_fault ∙ i.reads;
            writes = rw w.output-is i.writes;
            same_references = consumed.same_references ∙ i.same_references;
            continues = rw w.output-is i.continues;
          }
    ]
