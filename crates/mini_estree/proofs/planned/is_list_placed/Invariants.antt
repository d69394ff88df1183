use Rattle.std.proofs.Common.{◌≡◌, drop}
use Rattle.serde_json.specs.View.{view, items_view}
use Rattle.mini_accept.specs.Accept.{are_parts_placed}
use Rattle.mini_accept.specs.Plans.{parts_from}
use Rattle.mini_plan.specs.Views.{item_of}
use Rattle.mini_estree.proofs.planned.is_list_placed.Given as goal

abbrev pub invariant-loop-index : goal.invariant-loop-index
invariant-loop-index l =
    are_parts_placed l.strict (view l.value) (parts_from (item_of l.items) l.key 0 (items_view l.list))
    ≡ are_parts_placed l.strict (view l.value) (parts_from (item_of l.items) l.key l.index (items_view (drop l.index l.list)))
