use Rattle.std.proofs.Common.{refl}
use Rattle.picky_der_de.specs.RefusesBy.{RefusesBy}
use Rattle.picky_der_de.proofs.PassedOn.{passed_on, refusal_passed_on}
use Rattle.picky_der_de.proofs.PlainReads.{refuses_of}
use Rattle.picky_der_de.proofs.via.deserialize_as.Goals as goal

pub returns-in_err-deserialize-clause-err : goal.returns-in_err-deserialize-clause-err
returns-in_err-deserialize-clause-err g c =
    refusal_passed_on _ c.from_residual.ensures.1 refl (refuses_of g.T.Via.parts c.in_err-deserialize.ensures.err)

pub returns-in_err-deserialize-clause-refused_by : goal.returns-in_err-deserialize-clause-refused_by
returns-in_err-deserialize-clause-refused_by g c =
    passed_on (RefusesBy g.T.As.Deserialize.facts.rule _) _ c.from_residual.ensures.1 refl
    c.in_err-deserialize.ensures.refused_by
