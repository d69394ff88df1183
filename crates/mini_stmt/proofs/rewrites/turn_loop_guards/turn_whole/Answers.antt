use Rattle.std.proofs.Common.{true, ◌∙◌, sym, ap, subst}
use Rattle.mini_stmt.specs.MinimizeBody.{is_guard}
use Rattle.mini_stmt.specs.TurnLoopGuards.{TurnedWhole}
use Rattle.mini_stmt.proofs.LoopGuards.{whole_loop, no_whole}
use Rattle.mini_stmt.proofs.rewrites.turn_loop_guards.turn_whole.Goals as goal

pub returns-then-not-is_guard : goal.returns-then-not-is_guard
returns-then-not-is_guard c = no_whole c.args.node.now c.args.at c.requires.place c.requires.bare (sym (c.is_guard.ensures ∙ ap (is_guard true) c.child.ensures.value) ∙ c.if-not-is_guard.true)

pub returns : goal.returns
returns c = whole_loop c.args.node.now c.in_ok-node.field-0 c.args.at c.requires.place (subst (λ x. TurnedWhole x c.args.at c.in_ok-node.field-0) c.taken.ensures.value c.in_ok-node.ensures)
