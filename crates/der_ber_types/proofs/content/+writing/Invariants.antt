use Rattle.std.proofs.Common.{◌+◌, ◌*◌, ◌≤◌, length, drop}
use Rattle.der_ber_types.specs.Pushed.{IsAppended}
use Rattle.der_ber_types.proofs.Writing.{CompletesEach, CompletesMembers}
use Rattle.der_ber_types.proofs.Refusals.{SomeEach, SomeMembers}
use Rattle.der_ber_types.proofs.content.+writing.Given as goal

abbrev pub decreases-push_content : goal.decreases-push_content
decreases-push_content l = 4 * length l.content.now + 4

abbrev pub decreases-push_one : goal.decreases-push_one
decreases-push_one l = 4 * length l.bytes.now + 3

abbrev pub decreases-push_each : goal.decreases-push_each
decreases-push_each l = 4 * length l.bytes.now + 3

abbrev pub decreases-push_members : goal.decreases-push_members
decreases-push_members l = 4 * length l.bytes.now + 3

abbrev pub decreases-push_member : goal.decreases-push_member
decreases-push_member l = 4 * length l.bytes.now + 2

abbrev pub decreases-push_element : goal.decreases-push_element
decreases-push_element l = 4 * length l.bytes.now + 1

-- what is made of the rest completes it
abbrev pub invariant-push_each-loop-rest : goal.invariant-push_each-loop-rest
invariant-push_each-loop-rest l = record {
  fewer : length l.rest ≤ length l.bytes;
  so_far : IsAppended (CompletesEach l.nodes l.index l.bytes l.rest) l.fn.der.items l.der.items;
  left : SomeEach l.nodes l.index l.bytes → SomeEach l.nodes l.index l.rest;
}

abbrev pub decreases-push_each-loop-rest : goal.decreases-push_each-loop-rest
decreases-push_each-loop-rest l = length l.rest

abbrev pub invariant-push_members-loop-member : goal.invariant-push_members-loop-member
invariant-push_members-loop-member l = record {
  fewer : length l.rest ≤ length l.bytes;
  so_far : IsAppended (CompletesMembers l.nodes l.members l.bytes (drop l.member-index l.members) l.rest)
      l.fn.der.items l.der.items;
  left : SomeMembers l.nodes l.members l.bytes → SomeMembers l.nodes (drop l.member-index l.members) l.rest;
}
