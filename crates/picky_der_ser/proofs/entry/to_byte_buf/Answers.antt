use Rattle.std.proofs.Common.{rules, refl, IfErr}
use Rattle.std.proofs.lemmas.Result.{IfErr-weaker}
use Rattle.picky_der_core.specs.Sink.{vector_of}
use Rattle.picky_der_ser.specs.Entry.{VecRefuses}
use Rattle.picky_der_ser.proofs.EntryWrites.{refused-vec}
use Rattle.picky_der_ser.proofs.entry.to_byte_buf.Goals as goal

pub returns-clause-err : goal.returns-clause-err
returns-clause-err g c =
    let t = g.T.Serialize.meaning c.args.value.now in
    let old = c.new-sink.result in
    let new = c.to_writer-outcome.new.writer in
    let refused : IfErr c.to_writer-outcome.result
    (λ e. VecRefuses t (vector_of old).now.items e (vector_of new).now.items) =
    IfErr-weaker c.to_writer-outcome.result _ _
    (λ e h. refused-vec _ (λ _. refl) (λ _ k. k) t old new e c.new-sink.ensures.start
    c.to_writer-outcome.ensures.continues.2 h)
    c.to_writer-outcome.ensures.err in
    search (rules, refused)
