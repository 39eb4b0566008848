use Rattle.std.proofs.Common.{◌≡◌, ℕ, Some, true, false, Vec, Global, IsUtf8, string_bytes, sym, ◌∙◌, ap, subst}
use Rattle.std.proofs.lemmas.Result.{err_from_is_err_and}
use Rattle.std.proofs.lemmas.Str.{IsUtf8-string_bytes}
use Rattle.picky_der_de.proofs.Contents.{failed_same}
use Rattle.picky_der_de.specs.TextLaws.{text_bad}
use Rattle.picky_der_de.proofs.PlainReads.{refuses_header, refuses_cut, refuses_content, reads_plain}
use Rattle.picky_der_de.specs.PlainKindLaws.{text_kind}
use Rattle.picky_der_de.proofs.deserializer.Deserializer.deserialize_string.Goals as goal

pub returns-in_err-len-clause-err : goal.returns-in_err-len-clause-err
returns-in_err-len-clause-err g c =
    let p = err_from_is_err_and c.from_residual.result c.from_residual.ensures.1 in
    rw (p.1, p.2) (refuses_header text_kind c.in_err-len.ensures.err)

pub returns-in_err-content-clause-err : goal.returns-in_err-content-clause-err
returns-in_err-content-clause-err g c =
    let p = err_from_is_err_and c.from_residual-in_err-content.result c.from_residual-in_err-content.ensures.1 in
    rw (p.1, p.2) (refuses_cut text_kind c.in_ok-len.ensures.ok c.in_err-content.ensures.err)

pub returns-in-Ok-clause-ok : goal.returns-in-Ok-clause-ok
returns-in-Ok-clause-ok g c =
    let h = c.in_ok-len.ensures.ok in
    let k = c.in_ok-content.ensures in
    let same : string_bytes c.in-Ok.text ≡ c.in_ok-content.content.items =
    ap (λ (v : Vec ℕ Global). v.items) c.in-Ok.ensures.ok in
    let utf8 = subst IsUtf8 same (IsUtf8-string_bytes c.in-Ok.text) in
    rw same (reads_plain text_kind c.in_ok-content.content.items utf8 utf8 h k.ok.0 k.ok.1 (k.implicit_tag
    ∙ h.implicit_tag))

pub returns-clause-err : goal.returns-clause-err
returns-clause-err g c =
    let f = c.fail.ensures in
    let k = c.in_ok-content.ensures in
    refuses_content text_kind c.in_ok-len.ensures.ok k.ok.0 k.ok.1 f.fails
    (text_bad c.in_ok-content.content.items (λ u. let q : false ≡ true = c.in-Err.ensures.succeeds u in cc)
    ∙ ap (λ e. Some e) (sym f.error)) (failed_same c.fetch_vec.new.self f.error f.same)
