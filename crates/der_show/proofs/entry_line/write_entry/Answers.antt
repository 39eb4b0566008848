use Rattle.std.proofs.Common.{◌≡◌, [], ◌∷◌, ◌++◌, true, is_ok, not, refl, ap, ◌∙◌, arith}
use Rattle.std.specs.Prelude.{string_bytes}
use Rattle.std.proofs.lemmas.Result.{err_from_is_err_and}
use Rattle.picky_der_core.specs.WriterFaults.{WriterFails}
use Rattle.der_show.specs.Shown.{memory, writer}
use Rattle.der_show.proofs.Texts.{one_text, stops_before, stops_in_line}
use Rattle.der_show.proofs.entry_line.write_entry.Goals as goal

pub returns-in_err-line-clause-err : goal.returns-in_err-line-clause-err
returns-in_err-line-clause-err g c =
    let p = err_from_is_err_and c.from_residual.result c.from_residual.ensures.1 in
    rw p.1 (stops_before g.W.WriteExt c.args.format.now (c.args.entry ∷ []) _ _ _ (memory p.2 refl) refl)

pub returns-then-is_err-clause-err : goal.returns-then-is_err-clause-err
returns-then-is_err-clause-err g c =
    stops_before g.W.WriteExt c.args.format.now (c.args.entry ∷ []) _ _ _ (memory refl refl) refl

pub returns-in_err-write_exact-clause-err : goal.returns-in_err-write_exact-clause-err
returns-in_err-write_exact-clause-err g c =
    let p = err_from_is_err_and c.from_residual-in_err-write_exact.result
    c.from_residual-in_err-write_exact.ensures.1 in
    let pushed : is_ok c.push.result ≡ true = c.is_err.ensures.negation ∙ ap not c.if-is_err.false in
    let text = c.as_bytes.ensures.value ∙ rw (pushed, c.push.ensures.ascii (omega arith)) at c.push.ensures.bytes in
    let failed = c.in_err-write_exact.ensures in
    let fault : WriterFails g.W.WriteExt c.args.output.now p.0 c.write_exact.new.self =
    record { rose = failed.fault.0; kind = _; answered = failed.fault.1; is = p.2 } in
    rw p.1 (stops_in_line g.W.WriteExt c.args.format.now c.args.entry (string_bytes c.in_ok-line.line) _ _ _
    c.in_ok-line.ensures (writer fault) (rw text at failed.beginning.begins))

pub returns-clause-ok : goal.returns-clause-ok
returns-clause-ok g c =
    let pushed : is_ok c.push.result ≡ true = c.is_err.ensures.negation ∙ ap not c.if-is_err.false in
    let text = c.as_bytes.ensures.value ∙ rw (pushed, c.push.ensures.ascii (omega arith)) at c.push.ensures.bytes in
    record {
      text = string_bytes c.in_ok-line.line ++ (0x0A ∷ []);
      is_text = one_text c.args.format.now c.args.entry (string_bytes c.in_ok-line.line) c.in_ok-line.ensures;
      written = rw text at c.in_ok-write_exact.ensures.appends;
    }
