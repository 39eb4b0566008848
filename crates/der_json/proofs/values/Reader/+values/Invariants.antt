use Rattle.std.proofs.Common.{◌≡◌, ◌+◌, ◌*◌, List, ◌++◌, drop, length, map}
use Rattle.serde_json.specs.Data.{Data, no_members}
use Rattle.serde_json.specs.View.{view, members_view}
use Rattle.der_json.specs.Json.{AreItems, AreMembers}
use Rattle.der_json.proofs.values.Reader.+values.Given as goal

abbrev pub decreases-value : goal.decreases-value
decreases-value l = 2 * l.limit

abbrev pub decreases-object : goal.decreases-object
decreases-object l = 2 * l.limit + 1

abbrev pub decreases-array : goal.decreases-array
decreases-array l = 2 * l.limit + 1

abbrev pub decreases-choice : goal.decreases-choice
decreases-choice l = 2 * l.limit + 1

-- whatever the object with the members that are left is, it is that of all members
abbrev pub invariant-object-loop-member : goal.invariant-object-loop-member
invariant-object-loop-member l =
    (whole : Data)
    → AreMembers l.self.nodes.now (drop l.member-index l.members) l.rest.bytes.now (members_view l.object.entries) whole
    → AreMembers l.self.nodes.now l.members l.content.bytes.now no_members whole

-- items that follow are items of the whole after those of the list
abbrev pub invariant-array-loop-rest : goal.invariant-array-loop-rest
invariant-array-loop-rest l =
    (later : List Data) → AreItems l.self.nodes.now l.item l.rest.bytes.now later
    → AreItems l.self.nodes.now l.item l.content.bytes.now (map view l.list.items ++ later)

abbrev pub decreases-array-loop-rest : goal.decreases-array-loop-rest
decreases-array-loop-rest l = length l.rest.bytes.now
