use Rattle.std.proofs.Common.{refl, [], ap, ◌∙◌}
use Rattle.std.proofs.lemmas.Result.{err_from_is_err_and}
use Rattle.picky_der_core.specs.Encoding.{der}
use Rattle.picky_der_ser.proofs.EntryWrites.{root_wrote, root_failed}
use Rattle.picky_der_ser.proofs.entry.to_vec.Goals as goal

pub returns-in_err-serialize-clause-err : goal.returns-in_err-serialize-clause-err
returns-in_err-serialize-clause-err g c =
    let from = c.from_residual-in_err-serialize in
    let p = err_from_is_err_and from.result from.ensures.1 in
    let refused = root_failed _ (g.T.Serialize.meaning c.args.value.now) _ _ c.new_in_root.ensures
    c.in_err-serialize.field-0.0 refl c.in_err-serialize.ensures.failed in
    rw (p.1, p.2) refused

pub returns-clause-ok : goal.returns-clause-ok
returns-clause-ok g c =
    let t = g.T.Serialize.meaning c.args.value.now in
    let w = root_wrote _ t _ _ c.new_in_root.ensures _ c.in_ok-serialize.ensures.wrote in
    c.into_bytes.ensures (record { bytes = der t; seams = [] })
    (ap (λ s. s.inside) c.serializer.view_is ∙ w.1)

pub returns-clause-writable : goal.returns-clause-writable
returns-clause-writable g c =
    let w = root_wrote _ (g.T.Serialize.meaning c.args.value.now) _ _ c.new_in_root.ensures _
    c.in_ok-serialize.ensures.wrote in
    w.0
