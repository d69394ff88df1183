-- What was counted, with what is left, is the whole.
use Rattle.std.proofs.Common.{◌≡◌, ◌+◌, ◌≤◌, drop}
use Rattle.serde_json.specs.View.{items_view, members_view}
use Rattle.mini_model.specs.Weight.{capped}
use Rattle.mini_writer.specs.Fits.{values_in_items, values_in_members}
use Rattle.mini_writer.proofs.size.+values.Given as goal

abbrev pub invariant-count_item_values-loop-item : goal.invariant-count_item_values-loop-item
invariant-count_item_values-loop-item l =
    (capped (l.count + values_in_items (items_view (drop l.item-index l.item-items))) ≡ capped (values_in_items (items_view l.item-items)))
    × (l.count ≤ 18446744073709551615)

abbrev pub invariant-count_member_values-loop-member : goal.invariant-count_member_values-loop-member
invariant-count_member_values-loop-member l =
    (capped (l.count + values_in_members (members_view l.member-iterator)) ≡ capped (values_in_members (members_view l.members.entries)))
    × (l.count ≤ 18446744073709551615)
