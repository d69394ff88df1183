use Rattle.std.proofs.Common.{sym, subst}
use Rattle.std.specs.Prelude.{IfOk}
use Rattle.mini_model.specs.Tree.{children}
use Rattle.mini_rows.specs.Inside.{unused_ends}
use Rattle.mini_unused.specs.RemoveUnusedDeclaration.{allowed}
use Rattle.mini_inside.specs.Further.{HereWalked}
use Rattle.mini_inside.proofs.ends.remove_here.Goals as goal

pub returns-in-Statements : goal.returns-in-Statements
returns-in-Statements c = subst (λ w. IfOk c.remove_in_statements.result (λ changed. HereWalked (unused_ends (allowed c.args.context.now)) (children c.args.above.now) w c.args.node.now c.remove_in_statements.new.node changed)) (sym c.in-Statements.is) c.remove_in_statements.ensures

pub returns-in-Held : goal.returns-in-Held
returns-in-Held c = subst (λ w. IfOk c.remove_held.result (λ changed. HereWalked (unused_ends (allowed c.args.context.now)) (children c.args.above.now) w c.args.node.now c.remove_held.new.node changed)) (sym c.in-Held.is) c.remove_held.ensures

pub returns-in-Head : goal.returns-in-Head
returns-in-Head c = subst (λ w. IfOk c.remove_in_heading.result (λ changed. HereWalked (unused_ends (allowed c.args.context.now)) (children c.args.above.now) w c.args.node.now c.remove_in_heading.new.node changed)) (sym c.in-Head.is) c.remove_in_heading.ensures
