use Rattle.std.proofs.Common.{◌∙◌, ap, sym, arith}
use Rattle.mini_node.specs.Walks.{from_first}
use Rattle.mini_syntax.specs.SubstituteVariableDeclaration.{begins_undefined, any_of}
use Rattle.mini_syntax.proofs.Declarations.{stops, goes_on, ends}
use Rattle.mini_syntax.proofs.rewrites.substitute_variable_declaration.undefined_at.Goals as goal

pub loop-at-init : goal.loop-at-init
loop-at-init c = ap (any_of begins_undefined) (from_first c.args.declarators.now)

pub returns-then-begins_undefined-clause-any : goal.returns-then-begins_undefined-clause-any
returns-then-begins_undefined-clause-any c = stops begins_undefined c.args.declarators.now c.loop-at.at (omega arith) (sym (c.begins_undefined.ensures.kind ∙ ap begins_undefined c.child.ensures.value) ∙ c.if-begins_undefined.true) c.loop-at.invariant

pub loop-at-preserved : goal.loop-at-preserved
loop-at-preserved c = goes_on begins_undefined c.args.declarators.now c.loop-at.at (omega arith) (sym (c.begins_undefined.ensures.kind ∙ ap begins_undefined c.child.ensures.value) ∙ c.if-begins_undefined.false) c.loop-at.invariant

pub returns-clause-any : goal.returns-clause-any
returns-clause-any c = ends begins_undefined c.args.declarators.now c.loop-at.at (omega arith) c.loop-at.invariant
