use Rattle.der_types.specs.IntegerValueLaws.{integer_order}
use Rattle.der_types.proofs.laws.integer_order.Goals as goal

pub returns : goal.returns
returns c x y p q = integer_order x.content.items y.content.items x.canonical y.canonical p q
