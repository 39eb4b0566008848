use Rattle.std.proofs.Common.{◌≡◌, drop}
use Rattle.serde_json.specs.View.{items_view, members_view}
use Rattle.der_json.proofs.same.+same.Given as goal

-- if the items that are left are the same, all are
abbrev pub invariant-are_same_items-loop-item : goal.invariant-are_same_items-loop-item
invariant-are_same_items-loop-item l =
    items_view (drop l.item-index l.items.items) ≡ items_view l.left.rest.now
    → items_view l.items.items ≡ items_view l.others.items

-- if the members that are left are the same, all are
abbrev pub invariant-are_same_members-loop-name : goal.invariant-are_same_members-loop-name
invariant-are_same_members-loop-name l =
    members_view l.name-iterator ≡ members_view l.left → members_view l.members.entries ≡ members_view l.others.entries
