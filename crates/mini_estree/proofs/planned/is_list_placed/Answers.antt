use Rattle.std.proofs.Common.{ap, sym, ◌∙◌}
use Rattle.serde_json.specs.View.{view}
use Rattle.mini_accept.specs.Accept.{is_part_placed}
use Rattle.mini_plan.specs.Views.{item_of}
use Rattle.mini_estree.proofs.Lists.{placed_step, placed_stop}
use Rattle.mini_estree.proofs.planned.is_list_placed.Goals as goal

pub loop-index-preserved : goal.loop-index-preserved
loop-index-preserved c =
    let d = view c.args.value.now in
    let told = c.is_part_placed.ensures ∙ ap (is_part_placed c.args.strict d) c.item_part-part.ensures in
    c.loop-index.invariant
    ∙ placed_step c.args.strict d (item_of c.args.items) c.args.key.now c.args.list.now c.loop-index.index c.index-list-index.result c.loop-index-test.true c.index-list-index.is (sym told ∙ c.if-not-is_part_placed.false)

pub returns-then-not-is_part_placed : goal.returns-then-not-is_part_placed
returns-then-not-is_part_placed c =
    let d = view c.args.value.now in
    let told = c.is_part_placed.ensures ∙ ap (is_part_placed c.args.strict d) c.item_part-part.ensures in
    sym (c.loop-index.invariant
    ∙ placed_stop c.args.strict d (item_of c.args.items) c.args.key.now c.args.list.now c.loop-index.index c.index-list-index.result c.loop-index-test.true c.index-list-index.is (sym told ∙ c.if-not-is_part_placed.true))
