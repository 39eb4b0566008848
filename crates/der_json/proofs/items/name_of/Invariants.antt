use Rattle.std.proofs.Common.{◌≡◌, length}
use Rattle.der_json.specs.Numbers.{item_name}
use Rattle.der_json.proofs.items.name_of.Given as goal

abbrev pub invariant-loop-left : goal.invariant-loop-left
invariant-loop-left l = item_name l.left l.number ≡ item_name l.items l.number

abbrev pub decreases-loop-left : goal.decreases-loop-left
decreases-loop-left l = length l.left
