use Rattle.std.proofs.Common.{subst, sym}
use Rattle.std.specs.Prelude.{IfOk}
use Rattle.mini_choices.specs.MinimizeNormalAssignmentToCombinedLogicalAssignment.{marked}
use Rattle.mini_steps.specs.Called.{Called}
use Rattle.mini_steps.specs.Rows.{rows_in}
use Rattle.mini_stmt.specs.MinimizeStatements.{switches_of}
use Rattle.mini_steps.proofs.Called.{left}
use Rattle.mini_steps.proofs.Others.{no_place}
use Rattle.mini_steps.proofs.calling.call.Goals as goal

pub returns-in-Stmt : goal.returns-in-Stmt
returns-in-Stmt c =
    subst (λ p. IfOk c.call_on_statement.result (Called (rows_in c.args.context.now c.args.rule) p c.args.node.now c.call_on_statement.new.node)) (sym c.in-Stmt.is)
    (c.call_on_statement.ensures (marked c.args.context.now.scopes) c.in-Stmt.field-0)

pub returns-in-Elsewhere : goal.returns-in-Elsewhere
returns-in-Elsewhere c =
    subst (λ p. IfOk c.call_on_part.result (Called (rows_in c.args.context.now c.args.rule) p c.args.node.now c.call_on_part.new.node)) (sym c.in-Elsewhere.is)
    (c.call_on_part.ensures (marked c.args.context.now.scopes))

pub returns-in_default : goal.returns-in_default
returns-in_default c =
    left (switches_of c.args.context.now.options) (marked c.args.context.now.scopes) c.args.rule c.args.place c.args.node.now (λ small w r l. no_place (switches_of c.args.context.now.options) (marked c.args.context.now.scopes) c.args.rule c.args.place c.args.node.now w c.in_default.not-Expr c.in_default.not-Stmt c.in_default.not-Elsewhere c.requires r)
