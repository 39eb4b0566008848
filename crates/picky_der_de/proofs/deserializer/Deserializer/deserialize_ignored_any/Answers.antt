use Rattle.std.proofs.Common.{◌∷◌, ◌++◌, ◌∙◌, refl}
use Rattle.std.proofs.lemmas.Result.{MatchResult-weaker}
use Rattle.picky_der_core.specs.Element.{length_octets}
use Rattle.picky_der_de.proofs.Contents.{IfOk-both}
use Rattle.picky_der_de.proofs.Elements.{raw_cut, reads_raw}
use Rattle.picky_der_de.proofs.deserializer.Deserializer.deserialize_ignored_any.Goals as goal

pub returns-clause-ok : goal.returns-clause-ok
returns-clause-ok g c =
    let h = c.in-Ok.ensures.ok in
    IfOk-both c.skip.result c.skip.ensures.ok c.skip.ensures.implicit_tag
    (λ v k d. (
      (c.in-Ok.header.0 ∷ length_octets c.in-Ok.header.1) ++ k.0,
      reads_raw h k.1 (d ∙ h.implicit_tag) refl,
    ))

pub returns-clause-err : goal.returns-clause-err
returns-clause-err g c =
    MatchResult-weaker c.skip.result c.skip.ensures.err (λ v k. tt) (λ e k. raw_cut c.in-Ok.ensures.ok k)
