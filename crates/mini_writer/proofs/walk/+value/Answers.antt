use Rattle.std.proofs.Common.{◌≡◌, IfOk, subst}
use Rattle.serde_json.specs.Data.{Data}
use Rattle.serde_json.specs.View.{view, items_view}
use Rattle.mini_model.specs.Tree.{children}
use Rattle.mini_node.specs.Children.{names}
use Rattle.mini_writer.specs.Written.{trees_data}
use Rattle.mini_writer.proofs.Lists.{item_step, items_end, written_node}
use Rattle.mini_writer.proofs.walk.+value.Goals as goal

pub loop-part-preserved : goal.loop-part-preserved
loop-part-preserved t c =
    item_step c.loop-part.below.items c.push.new.self.items c.in_ok-found.found c.parts-parts.result.now c.loop-part.part-index c.part-item.result (trees_data (children c.args.node.now))
    c.loop-part.invariant c.loop-part-test.true c.part-item.is c.in_ok-found.ensures c.in_ok-push.ensures.items

pub returns : goal.returns
returns t c =
    let below = items_end c.loop-part.below.items c.parts-parts.result.now c.loop-part.part-index (trees_data (children c.args.node.now)) c.loop-part-test.false c.loop-part.invariant in
    subst (λ (x : Data). IfOk c.node_value.result (λ v. view v ≡ x))
    (written_node c.args.node.now c.shape.result.now (names c.name.result.now) (items_view c.loop-part.below.items) c.shape.ensures c.name.ensures below) c.node_value.ensures
