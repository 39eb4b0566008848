use Rattle.std.specs.Cmp.{unsigned_Decides}
use denote.Enum.Bare.{same_true, true_same}
use Rattle.picky_der_core.specs.contracts.asn1.tag.TagClass.{the_type}
use Rattle.picky_der_core.proofs.laws.equality.tags.Goals as goal

pub returns-clause-tag : goal.returns-clause-tag
returns-clause-tag c x y = unsigned_Decides x y

pub returns-clause-class : goal.returns-clause-class
returns-clause-class c x y = (same_true the_type tt x y, true_same the_type x y)
