use Rattle.der_types.specs.TagOrderLaws.{in_tag_order}
use Rattle.der_types.proofs.laws.sets.Goals as goal

pub returns : goal.returns
returns g c =
    record {
      order = λ value p r. in_tag_order g.T.Deserialize.shape (g.T.Serialize.meaning value)
          g.met.T.TagOrdered.ordered p r;
    }
