use Rattle.std.proofs.Common.{◌<◌, ◌∷◌, ◌∙◌, ap, sym, subst, arith}
use Rattle.std.specs.Prelude.{IfOk}
use Rattle.std.proofs.lemmas.Result.{IfOk-weaker}
use Rattle.mini_log.specs.Walk.{spot}
use Rattle.mini_model.specs.Tree.{count, node_count}
use Rattle.mini_checker.proofs.Walks.{no_index, goes_past, goes_into, child_smaller}
use Rattle.mini_steps.specs.Rows.{rows_in}
use Rattle.mini_steps.specs.Steps.{AtPath, here}
use Rattle.mini_steps.proofs.Ways.{went, no_way}
use Rattle.mini_steps.proofs.walking.+steps.Goals as goal

pub step_at-returns-in-Some : goal.step_at-returns-in-Some
step_at-returns-in-Some t c =
    subst (λ q. IfOk c.step_below.result (AtPath (rows_in c.args.context.now c.args.rule) q c.args.place c.args.node.now c.step_below.new.node)) (sym c.in-Some.ensures.cases.0) c.step_below.ensures

pub step_at-returns-in-None : goal.step_at-returns-in-None
step_at-returns-in-None t c =
    let R = rows_in c.args.context.now c.args.rule in
    subst (λ q. IfOk c.call.result (AtPath R q c.args.place c.args.node.now c.call.new.node)) (sym (no_index c.args.path.now (sym c.in-None.ensures.cases)))
    (IfOk-weaker c.call.result _ _ (λ b m. here c.args.place c.args.node.now c.call.new.node b m) c.call.ensures)

pub step_below-returns-then-at-count : goal.step_below-returns-then-at-count
step_below-returns-then-at-count t c =
    no_way (rows_in c.args.context.now c.args.rule) c.args.place c.args.node.now c.args.index c.args.rest.now c.find-at.result.0 (c.find-at.ensures.child ∙ ap (λ ts. spot ts c.args.index) c.children-2.ensures)
    (omega (arith, c.len-count.ensures, ap count c.children.ensures))

pub step_below-step_at-requires : goal.step_below-step_at-requires
step_below-step_at-requires t c =
    let small : node_count c.child_mut-child.result.now < node_count c.args.node.now =
    child_smaller c.args.node.now c.children_mut.result.now c.child_mut-child.result.now c.find-at.result.0 c.children_mut.ensures.value c.child_mut-child.ensures.value
    (omega (arith, c.len-count.ensures, ap count c.children.ensures, ap count c.children_mut.ensures.value)) in
    (omega (arith, c.decreases, small), λ e. sym c.is_node.ensures ∙ c.if-is_node.true)

pub step_below-step_below-requires : goal.step_below-step_below-requires
step_below-step_below-requires t c =
    let small : node_count c.child_mut-child.result.now < node_count c.args.node.now =
    child_smaller c.args.node.now c.children_mut.result.now c.child_mut-child.result.now c.find-at.result.0 c.children_mut.ensures.value c.child_mut-child.ensures.value
    (omega (arith, c.len-count.ensures, ap count c.children.ensures, ap count c.children_mut.ensures.value)) in
    (omega (arith, c.decreases, small), tt)

pub step_below-returns-then-is_node : goal.step_below-returns-then-is_node
step_below-returns-then-is_node t c =
    IfOk-weaker c.step_at.result _ _
    (λ b m.
    went (rows_in c.args.context.now c.args.rule) c.args.place c.args.node.now c.args.index c.args.rest.now c.find-at.result.0 c.find-at.result.1 c.len-count.result c.shape.result.now c.child_place-stands.result
    c.children-2.result.now c.children_mut.result.now c.child_mut-child.result.now c.step_at.new.node c.args.rest.now b c.children-2.ensures c.find-at.ensures.child c.find-at.ensures.index c.children_mut.ensures.value
    c.child_mut-child.ensures.value (c.len-count.ensures ∙ ap count c.children.ensures) c.shape.ensures c.child_place-stands.ensures (omega arith)
    (goes_past c.child_mut-child.result.now c.find-at.result.1 c.args.rest.now (sym c.is_node.ensures ∙ c.if-is_node.true)) m)
    c.step_at.ensures

pub step_below-returns-else-is_node : goal.step_below-returns-else-is_node
step_below-returns-else-is_node t c =
    IfOk-weaker c.step_below.result _ _
    (λ b m.
    went (rows_in c.args.context.now c.args.rule) c.args.place c.args.node.now c.args.index c.args.rest.now c.find-at.result.0 c.find-at.result.1 c.len-count.result c.shape.result.now c.child_place-stands.result
    c.children-2.result.now c.children_mut.result.now c.child_mut-child.result.now c.step_below.new.node (c.find-at.result.1 ∷ c.args.rest.now) b c.children-2.ensures c.find-at.ensures.child c.find-at.ensures.index c.children_mut.ensures.value
    c.child_mut-child.ensures.value (c.len-count.ensures ∙ ap count c.children.ensures) c.shape.ensures c.child_place-stands.ensures (omega arith)
    (goes_into c.child_mut-child.result.now c.find-at.result.1 c.args.rest.now (sym c.is_node.ensures ∙ c.if-is_node.false)) m)
    c.step_below.ensures
