use Rattle.std.proofs.Common.{length}
use Rattle.der_show.proofs.MemberLemmas.{ComesTo}
use Rattle.der_show.proofs.members.are_in_order.Given as goal

abbrev pub invariant-loop-member : goal.invariant-loop-member
invariant-loop-member l = ComesTo l.order l.content l.last l.rest

abbrev pub decreases-loop-member : goal.decreases-loop-member
decreases-loop-member l = length l.rest
