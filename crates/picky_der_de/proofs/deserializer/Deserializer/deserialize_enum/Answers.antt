use Rattle.std.proofs.Common.{◌∙◌, sym, ap}
use Rattle.picky_der_de.specs.State.{State}
use Rattle.picky_der_de.proofs.Contents.{failed_same}
use Rattle.picky_der_de.proofs.Peeked.{choice_under_implicit}
use Rattle.picky_der_de.proofs.deserializer.Deserializer.deserialize_enum.Goals as goal

pub returns-in-Some-implicit_tag-clause-err : goal.returns-in-Some-implicit_tag-clause-err
returns-in-Some-implicit_tag-clause-err g c =
    let f = c.fail.ensures in
    choice_under_implicit (sym (ap (λ (s : State). s.implicit_tag) c.self.view_is) ∙ c.in-Some-implicit_tag.is) f.fails
    f.error (failed_same c.args.self.now f.error f.same)
