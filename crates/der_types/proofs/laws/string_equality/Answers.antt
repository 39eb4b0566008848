use Rattle.std.specs.Cmp.Lexicographic.{bytes_decides}
use Rattle.der_types.proofs.laws.string_equality.Goals as goal

pub returns : goal.returns
returns g c x y = bytes_decides x.content.items y.content.items
