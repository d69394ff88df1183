use Rattle.std.proofs.Common.{◌∙◌, sym, ap, subst}
use Rattle.mini_tree.specs.Rule.{Applied}
use Rattle.mini_stmt.specs.MinimizeStatements.{switches_of}
use Rattle.mini_stmt.specs.TurnLoopGuards.{GivesLoops, LoopsRest}
use Rattle.mini_stmt.proofs.LoopGuards.{applied}
use Rattle.mini_stmt.proofs.rewrites.turn_loop_guards.TurnLoopGuardsRule.apply.Goals as goal

pub returns-in_ok-turn_loop_guard-in-Stmt-clause-applied : goal.returns-in_ok-turn_loop_guard-in-Stmt-clause-applied
returns-in_ok-turn_loop_guard-in-Stmt-clause-applied g c =
    λ o q k. subst (λ p. Applied (GivesLoops o q) (LoopsRest o q) p c.args.node.now c.turn_loop_guard.new.node c.in_ok-turn_loop_guard-in-Stmt.field-0) (sym c.in-Stmt.is)
    (applied (switches_of o) c.in-Stmt.field-0 c.args.node.now c.turn_loop_guard.new.node c.in_ok-turn_loop_guard-in-Stmt.field-0
    (sym (ap (λ x. x.sequences) (c.options.ensures o q k)) ∙ c.if-not-options.false) c.in_ok-turn_loop_guard-in-Stmt.ensures)
