use Rattle.std.proofs.Common.{rules, refl, IfOk, IfErr}
use Rattle.std.proofs.lemmas.Result.{IfOk-weaker, IfErr-weaker}
use Rattle.picky_der_core.specs.SliceSink.{slice_of}
use Rattle.picky_der_ser.specs.Entry.{Overwrites, SliceRefuses}
use Rattle.picky_der_ser.proofs.EntryWrites.{wrote-slice, refused-slice}
use Rattle.picky_der_ser.proofs.entry.to_bytes.Goals as goal

pub returns-clause-ok : goal.returns-clause-ok
returns-clause-ok g c =
    let t = g.T.Serialize.meaning c.args.value.now in
    let old = c.new-sink.result in
    let new = c.to_writer-outcome.new.writer in
    let wrote : IfOk c.to_writer-outcome.result (λ n. Overwrites t (slice_of old).now n (slice_of new).now) =
    IfOk-weaker c.to_writer-outcome.result _ _
    (λ n h. (wrote-slice _ (λ _. refl) (λ _. refl) (λ _ k. k) t old new n c.new-sink.ensures.start
    c.to_writer-outcome.ensures.continues h).0)
    c.to_writer-outcome.ensures.ok in
    search (rules, wrote)

pub returns-clause-err : goal.returns-clause-err
returns-clause-err g c =
    let t = g.T.Serialize.meaning c.args.value.now in
    let old = c.new-sink.result in
    let new = c.to_writer-outcome.new.writer in
    let refused : IfErr c.to_writer-outcome.result (λ e. SliceRefuses t (slice_of old).now e (slice_of new).now) =
    IfErr-weaker c.to_writer-outcome.result _ _
    (λ e h. refused-slice _ (λ _. refl) (λ _. refl) (λ _ k. k) t old new e c.new-sink.ensures.start
    c.to_writer-outcome.ensures.continues h)
    c.to_writer-outcome.ensures.err in
    search (rules, refused)
