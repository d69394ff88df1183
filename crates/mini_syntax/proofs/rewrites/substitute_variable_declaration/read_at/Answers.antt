use Rattle.std.proofs.Common.{◌∙◌, ap, sym, arith}
use Rattle.mini_node.specs.Walks.{from_first}
use Rattle.mini_syntax.specs.SubstituteVariableDeclaration.{is_read, any_of}
use Rattle.mini_syntax.proofs.Declarations.{stops, goes_on, ends}
use Rattle.mini_syntax.proofs.rewrites.substitute_variable_declaration.read_at.Goals as goal

pub loop-at-init : goal.loop-at-init
loop-at-init c = ap (any_of is_read) (from_first c.args.statements.now)

pub returns-then-is_read-clause-any : goal.returns-then-is_read-clause-any
returns-then-is_read-clause-any c = stops is_read c.args.statements.now c.loop-at.at (omega arith) (sym (c.is_read.ensures ∙ ap is_read c.child.ensures.value) ∙ c.if-is_read.true) c.loop-at.invariant

pub loop-at-preserved : goal.loop-at-preserved
loop-at-preserved c = goes_on is_read c.args.statements.now c.loop-at.at (omega arith) (sym (c.is_read.ensures ∙ ap is_read c.child.ensures.value) ∙ c.if-is_read.false) c.loop-at.invariant

pub returns-clause-any : goal.returns-clause-any
returns-clause-any c = ends is_read c.args.statements.now c.loop-at.at (omega arith) c.loop-at.invariant
