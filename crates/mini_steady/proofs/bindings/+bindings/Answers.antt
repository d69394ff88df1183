use Rattle.std.proofs.Common.{◌<◌, ◌≤◌, ◌+◌, ◌∙◌, sym, ap, arith}
use Rattle.std.specs.Prelude.{◌||◌}
use Rattle.mini_model.specs.Tree.{count}
use Rattle.mini_node.specs.Children.{rest_children}
use Rattle.mini_rows.specs.Past.{any_bind}
use Rattle.mini_steady.proofs.BoundNames.{none_own, bind_first, bind_step, bind_end}
use Rattle.mini_steady.proofs.bindings.+bindings.Goals as goal

pub any_bind-loop-at-init : goal.any_bind-loop-at-init
any_bind-loop-at-init t c = bind_first c.args.symbol.0 c.args.nodes.now

pub any_bind-returns-then-binds : goal.any_bind-returns-then-binds
any_bind-returns-then-binds t c =
    let inside : c.loop-at.at < count c.args.nodes.now = omega arith in
    sym (c.loop-at.invariant ∙ bind_step c.args.symbol.0 c.args.nodes.now c.loop-at.at c.child.result.now inside c.child.ensures.value ∙ ap (λ b. b || any_bind c.args.symbol.0 (rest_children (c.loop-at.at + 1) c.args.nodes.now)) (sym c.if-binds.ensures))

pub any_bind-loop-at-preserved : goal.any_bind-loop-at-preserved
any_bind-loop-at-preserved t c =
    let inside : c.loop-at.at < count c.args.nodes.now = omega arith in
    c.loop-at.invariant ∙ bind_step c.args.symbol.0 c.args.nodes.now c.loop-at.at c.child.result.now inside c.child.ensures.value ∙ ap (λ b. b || any_bind c.args.symbol.0 (rest_children (c.loop-at.at + 1) c.args.nodes.now)) (sym c.if-binds.ensures)

pub any_bind-returns : goal.any_bind-returns
any_bind-returns t c =
    let over : count c.args.nodes.now ≤ c.loop-at.at = omega arith in
    sym (c.loop-at.invariant ∙ bind_end c.args.symbol.0 c.args.nodes.now c.loop-at.at over)

pub binds-returns-else-declares : goal.binds-returns-else-declares
binds-returns-else-declares t c = c.any_bind.ensures ∙ ap (any_bind c.args.symbol.0) c.children.ensures ∙ sym (none_own c.args.symbol.0 c.args.node.now _ c.declares.ensures c.if-declares.false)
