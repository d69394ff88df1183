use Rattle.std.proofs.Common.{◌<◌, ◌∷◌, ◌∙◌, ap, sym, subst, arith}
use Rattle.std.specs.Prelude.{IfOk}
use Rattle.std.proofs.lemmas.Result.{IfOk-weaker}
use Rattle.mini_model.specs.Tree.{count, node_count}
use Rattle.mini_log.specs.Walk.{step_at, spot}
use Rattle.mini_checker.specs.Made.{Made}
use Rattle.mini_checker.proofs.Walks.{below, no_index, no_step, goes_past, goes_into, child_smaller, ended, here_first}
use Rattle.mini_checker.proofs.walking.+steps.Goals as goal

pub step_at-returns-in-None : goal.step_at-returns-in-None
step_at-returns-in-None g t c =
    let f = g.M.Making.makes c.args.making.now c.args.row in
    subst (λ q. IfOk c.make.result (Made (step_at f c.args.place c.args.node.now q) c.args.node.now c.make.new.node)) (sym (no_index c.args.path.now (sym c.in-None.ensures.cases)))
    (IfOk-weaker c.make.result _ _ (λ b m. ended f c.args.place c.args.node.now c.make.new.node b m) c.make.ensures)

pub step_below-returns-then-at-count : goal.step_below-returns-then-at-count
step_below-returns-then-at-count g t c =
    no_step (g.M.Making.makes c.args.making.now c.args.row) c.args.place c.args.node.now c.args.index c.args.rest.now c.find-at.result.0 (c.find-at.ensures.child ∙ ap (λ ts. spot ts c.args.index) c.children-2.ensures)
    (omega (arith, c.len-count.ensures, ap count c.children.ensures))

pub step_below-step_at-requires : goal.step_below-step_at-requires
step_below-step_at-requires g t c κs within =
    let small : node_count c.child_mut-child.result.now < node_count c.args.node.now =
    child_smaller c.args.node.now c.children_mut.result.now c.child_mut-child.result.now c.find-at.result.0 c.children_mut.ensures.value c.child_mut-child.ensures.value
    (omega (arith, c.len-count.ensures, ap count c.children.ensures, ap count c.children_mut.ensures.value)) in
    (omega (arith, c.decreases, small), within)

pub step_below-step_on-requires : goal.step_below-step_on-requires
step_below-step_on-requires g t c κs within =
    let small : node_count c.child_mut-child.result.now < node_count c.args.node.now =
    child_smaller c.args.node.now c.children_mut.result.now c.child_mut-child.result.now c.find-at.result.0 c.children_mut.ensures.value c.child_mut-child.ensures.value
    (omega (arith, c.len-count.ensures, ap count c.children.ensures, ap count c.children_mut.ensures.value)) in
    (omega (arith, c.decreases, small), within)

pub step_below-returns-then-is_node : goal.step_below-returns-then-is_node
step_below-returns-then-is_node g t c =
    IfOk-weaker c.step_at.result _ _
    (λ b m.
    below (g.M.Making.makes c.args.making.now c.args.row) c.args.place c.args.node.now c.args.index c.args.rest.now c.find-at.result.0 c.find-at.result.1 c.len-count.result c.shape.result.now c.child_place-stands.result
    c.children-2.result.now c.children_mut.result.now c.child_mut-child.result.now c.step_at.new.node c.args.rest.now b c.children-2.ensures c.find-at.ensures.child c.find-at.ensures.index c.children_mut.ensures.value
    c.child_mut-child.ensures.value (c.len-count.ensures ∙ ap count c.children.ensures) c.shape.ensures c.child_place-stands.ensures (omega arith)
    (goes_past c.child_mut-child.result.now c.find-at.result.1 c.args.rest.now (sym c.is_node.ensures ∙ c.if-is_node.true)) m)
    c.step_at.ensures

pub step_below-returns-else-is_node : goal.step_below-returns-else-is_node
step_below-returns-else-is_node g t c =
    IfOk-weaker c.step_on.result _ _
    (λ b m.
    below (g.M.Making.makes c.args.making.now c.args.row) c.args.place c.args.node.now c.args.index c.args.rest.now c.find-at.result.0 c.find-at.result.1 c.len-count.result c.shape.result.now c.child_place-stands.result
    c.children-2.result.now c.children_mut.result.now c.child_mut-child.result.now c.step_on.new.node (c.find-at.result.1 ∷ c.args.rest.now) b c.children-2.ensures c.find-at.ensures.child c.find-at.ensures.index c.children_mut.ensures.value
    c.child_mut-child.ensures.value (c.len-count.ensures ∙ ap count c.children.ensures) c.shape.ensures c.child_place-stands.ensures (omega arith)
    (goes_into c.child_mut-child.result.now c.find-at.result.1 c.args.rest.now (sym c.is_node.ensures ∙ c.if-is_node.false)) m)
    c.step_on.ensures

pub step_on-returns-then-branch : goal.step_on-returns-then-branch
step_on-returns-then-branch g t c =
    here_first (g.M.Making.makes c.args.making.now c.args.row) c.args.place c.args.node.now c.make_above.new.node c.args.index c.args.rest.now
    (subst (λ b. Made (g.M.Making.makes c.args.making.now c.args.row c.args.place c.args.node.now (c.args.index ∷ c.args.rest.now)) c.args.node.now c.make_above.new.node b) c.if-branch.true c.in_ok-make_above.ensures)
