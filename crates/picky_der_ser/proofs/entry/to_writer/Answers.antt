use Rattle.std.proofs.Common.{rules, refl, IfErr}
use Rattle.std.proofs.lemmas.Result.{IfErr-weaker}
use Rattle.picky_der_ser.specs.Calls.{SinkRefuses}
use Rattle.picky_der_ser.proofs.EntryWrites.{refused-fresh}
use Rattle.picky_der_ser.proofs.entry.to_writer.Goals as goal

pub returns-clause-err : goal.returns-clause-err
returns-clause-err g c =
    let t = g.T.Serialize.meaning c.args.value.now in
    let old = c.new_to_writer-ser.result in
    let new = c.serialize-outcome.new.ser in
    let start = c.new_to_writer-ser.ensures in
    let refused : IfErr c.serialize-outcome.result (λ e. SinkRefuses g.W.WriteExt t old.sink.now e new.sink.now) =
    IfErr-weaker c.serialize-outcome.result _ _
    (λ e h. refused-fresh _ g.W.WriteExt (λ w. w.now) (λ _. refl) (λ _. refl) (λ _ k. k) t old new e start.failed
    start.outside start.around h)
    c.serialize-outcome.ensures.failed in
    search (rules, refused)
