-- What was counted, with what is left, is the whole.
use Rattle.std.proofs.Common.{◌≡◌, ◌+◌, ◌≤◌, drop}
use Rattle.serde_json.specs.View.{items_view, members_view}
use Rattle.mini_model.specs.Weight.{capped}
use Rattle.mini_writer.specs.Fits.{units_in_items, units_in_members}
use Rattle.mini_writer.proofs.size.+units.Given as goal

abbrev pub invariant-count_item_units-loop-item : goal.invariant-count_item_units-loop-item
invariant-count_item_units-loop-item l =
    (capped (l.count + units_in_items (items_view (drop l.item-index l.item-items))) ≡ capped (units_in_items (items_view l.item-items)))
    × (l.count ≤ 18446744073709551615)

abbrev pub invariant-count_member_units-loop-key : goal.invariant-count_member_units-loop-key
invariant-count_member_units-loop-key l =
    (capped (l.count + units_in_members (members_view l.key-iterator)) ≡ capped (units_in_members (members_view l.members.entries)))
    × (l.count ≤ 18446744073709551615)
