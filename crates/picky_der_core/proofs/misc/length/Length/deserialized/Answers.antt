use Rattle.std.proofs.Common.{[], refl, sym, ◌∙◌, arith}
use Rattle.std.proofs.KnownBytes.{Consumes-nil}
use Rattle.std.proofs.lemmas.Result.{err_from_is_err_and, IfOk-weaker, IfErr-weaker}
use Rattle.picky_der_core.specs.ElementLaws.{length_octets-short}
use Rattle.picky_der_core.specs.ReaderLaws.{reports_fault}
use Rattle.picky_der_core.proofs.LengthSteps.{none_from_refused, refused_missing, no_device, refused_count}
use Rattle.picky_der_core.proofs.LengthSteps.{length_first, length_more, length_below, refused_cut, Consumes-shortest}
use Rattle.picky_der_core.proofs.LengthSteps.{refused_longer, read_length_octets}
use Rattle.picky_der_core.proofs.misc.length.Length.deserialized.Goals as goal

-- ---- the first byte

pub returns-in_err-first-clause-refused : goal.returns-in_err-first-clause-refused
returns-in_err-first-clause-refused g c =
    let p = err_from_is_err_and c.from_residual.result c.from_residual.ensures.1 in
    let e = c.in_err-first.ensures in
    rw (p.1, p.2) (refused_missing _ _ [] refl (Consumes-nil _) e.byte e.fault)

pub returns-in_err-first-clause-none : goal.returns-in_err-first-clause-none
returns-in_err-first-clause-none g c = none_from_refused _ _ _ _ (returns-in_err-first-clause-refused g c)

pub returns-in_err-first-clause-device : goal.returns-in_err-first-clause-device
returns-in_err-first-clause-device g c =
    let p = err_from_is_err_and c.from_residual.result c.from_residual.ensures.1 in
    rw (p.1, p.2) (no_device c.in_err-first.ensures.fault)

pub returns-in_err-first-clause-fault : goal.returns-in_err-first-clause-fault
returns-in_err-first-clause-fault g c =
    let p = err_from_is_err_and c.from_residual.result c.from_residual.ensures.1 in
    rw (p.1, p.2) (reports_fault refl c.in_err-first.ensures.fault)

pub returns-then-first-lt128-clause-ok : goal.returns-then-first-lt128-clause-ok
returns-then-first-lt128-clause-ok g c =
    rw (c.from.ensures, length_octets-short c.in_ok-first.first (omega arith)) c.in_ok-first.ensures.byte

pub returns-in_err-count-clause-refused : goal.returns-in_err-count-clause-refused
returns-in_err-count-clause-refused g c =
    let p = err_from_is_err_and c.from_residual-in_err-count.result c.from_residual-in_err-count.ensures.1 in
    rw (p.1, p.2) (λ same. refused_count _ _ c.in_ok-first.ensures.byte c.in_err-count.ensures.err)

pub returns-in_err-count-clause-none : goal.returns-in_err-count-clause-none
returns-in_err-count-clause-none g c = none_from_refused _ _ _ _ (returns-in_err-count-clause-refused g c)

-- ---- the length bytes

pub loop-init : goal.loop-init
loop-init g c = record {
  no_fault = c.in_ok-first.ensures.fault;
  same_references = c.in_ok-first.ensures.same_references;
  consumed = length_first c.in_ok-first.ensures.byte;
}

pub overflow_mul-len : goal.overflow_mul-len
overflow_mul-len g c = omega (arith, length_below c.loop.invariant.consumed c.in_ok-count.ensures.ok c.loop-test.true)

pub returns-in_err-read_one-clause-refused : goal.returns-in_err-read_one-clause-refused
returns-in_err-read_one-clause-refused g c =
    let p = err_from_is_err_and c.from_residual-in_err-read_one.result c.from_residual-in_err-read_one.ensures.1 in
    let e = c.in_err-read_one.ensures in
    rw (p.1, p.2) (λ same. refused_cut c.loop.invariant.consumed c.in_ok-count.ensures.ok _ c.loop-test.true e.byte
    e.fault (same ∙ sym c.loop.invariant.no_fault))

pub returns-in_err-read_one-clause-none : goal.returns-in_err-read_one-clause-none
returns-in_err-read_one-clause-none g c = none_from_refused _ _ _ _ (returns-in_err-read_one-clause-refused g c)

pub returns-in_err-read_one-clause-device : goal.returns-in_err-read_one-clause-device
returns-in_err-read_one-clause-device g c =
    let p = err_from_is_err_and c.from_residual-in_err-read_one.result c.from_residual-in_err-read_one.ensures.1 in
    rw (p.1, p.2) (λ same. no_device c.in_err-read_one.ensures.fault (same ∙ sym c.loop.invariant.no_fault))

pub returns-in_err-read_one-clause-fault : goal.returns-in_err-read_one-clause-fault
returns-in_err-read_one-clause-fault g c =
    let p = err_from_is_err_and c.from_residual-in_err-read_one.result c.from_residual-in_err-read_one.ensures.1 in
    rw (p.1, p.2) (reports_fault c.loop.invariant.no_fault c.in_err-read_one.ensures.fault)

pub overflow_add-len : goal.overflow_add-len
overflow_add-len g c = omega (arith, length_below c.loop.invariant.consumed c.in_ok-count.ensures.ok c.loop-test.true)

pub loop-preserved : goal.loop-preserved
loop-preserved g c = record {
  no_fault = c.in_ok-read_one.ensures.fault ∙ c.loop.invariant.no_fault;
  same_references = c.in_ok-read_one.ensures.same_references ∙ c.loop.invariant.same_references;
  consumed = rw (c.from-in-loop.ensures) (length_more c.loop.invariant.consumed c.in_ok-read_one.ensures.byte
      (omega arith));
}

-- ---- the number

pub returns-clause-ok : goal.returns-clause-ok
returns-clause-ok g c =
    let t = c.loop.invariant.consumed in
    IfOk-weaker c.shortest.result _ _ (λ n h. rw h.0 (Consumes-shortest t c.in_ok-count.ensures.ok (omega arith) h.1))
    c.shortest.ensures.ok

pub returns-clause-read : goal.returns-clause-read
returns-clause-read g c =
    let t = c.loop.invariant.consumed in
    IfOk-weaker c.shortest.result _ _
    (λ n h. rw h.0
    (read_length_octets _ _ _ (omega arith) (Consumes-shortest t c.in_ok-count.ensures.ok (omega arith) h.1)))
    c.shortest.ensures.ok

pub returns-clause-refused : goal.returns-clause-refused
returns-clause-refused g c =
    let t = c.loop.invariant.consumed in
    IfErr-weaker c.shortest.result _ _
    (λ e h same. rw h.0 (refused_longer t c.in_ok-count.ensures.ok (omega arith) h.1)) c.shortest.ensures.err

pub returns-clause-none : goal.returns-clause-none
returns-clause-none g c = none_from_refused _ _ _ _ (returns-clause-refused g c)
