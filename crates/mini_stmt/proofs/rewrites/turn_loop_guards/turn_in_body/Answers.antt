use Rattle.std.proofs.Common.{true, ◌∙◌, sym, ap, subst}
use Rattle.std.specs.Prelude.{Some, None}
use Rattle.mini_model.specs.Tree.{children}
use Rattle.mini_node.specs.Children.{part}
use Rattle.mini_node.specs.Kinds.{is_block}
use Rattle.mini_stmt.specs.MinimizeBody.{EarlyAt}
use Rattle.mini_stmt.specs.TurnLoopGuards.{TurnedIn}
use Rattle.mini_stmt.proofs.LoopGuards.{turned_loop, no_guard}
use Rattle.mini_stmt.proofs.rewrites.turn_loop_guards.turn_in_body.Goals as goal

pub returns-in_ok-node-in-Some : goal.returns-in_ok-node-in-Some
returns-in_ok-node-in-Some c =
    let list = c.children.ensures ∙ ap children (c.child-3.ensures.value ∙ ap (λ x. part x 0) c.child-2.ensures.value) in
    turned_loop c.args.node.now c.in_ok-node-in-Some.field-0 c.args.at c.in-Some.guard c.requires.place (sym (c.if-not-is_block.ensures.kind ∙ ap is_block c.child.ensures.value))
    (subst (λ ts. EarlyAt true ts (Some c.in-Some.guard)) list c.in-Some.ensures)
    (subst (λ x. TurnedIn x c.args.at c.in-Some.guard c.in_ok-node-in-Some.field-0) c.taken.ensures.value c.in_ok-node-in-Some.ensures)

pub returns-in-None : goal.returns-in-None
returns-in-None c =
    let list = c.children.ensures ∙ ap children (c.child-3.ensures.value ∙ ap (λ x. part x 0) c.child-2.ensures.value) in
    no_guard c.args.node.now c.args.at c.requires.place (sym (c.if-not-is_block.ensures.kind ∙ ap is_block c.child.ensures.value)) (subst (λ ts. EarlyAt true ts None) list c.in-None.ensures)
