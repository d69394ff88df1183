use Rattle.std.proofs.Common.{refl, sym, subst}
use Rattle.mini_model.specs.declared.place.Position.TheVariants.{StatementList, BodyList}
use Rattle.mini_syntax.specs.SubstituteVariableDeclaration.{Applied}
use Rattle.mini_syntax.proofs.rewrites.substitute_variable_declaration.substitute_variable_declaration.Goals as goal

pub returns-in-Stmt : goal.returns-in-Stmt
returns-in-Stmt c = subst (λ p. Applied p c.args.node.now c.substitute_in_loop.new.node c.substitute_in_loop.result) (sym c.in-Stmt.is) (c.substitute_in_loop.ensures c.in-Stmt.field-0)

pub returns-in-StatementList : goal.returns-in-StatementList
returns-in-StatementList c = subst (λ p. Applied p c.args.node.now c.substitute_in_list.new.node c.substitute_in_list.result) (sym c.in-StatementList.is) (c.substitute_in_list.ensures StatementList refl)

pub returns-in-BodyList : goal.returns-in-BodyList
returns-in-BodyList c = subst (λ p. Applied p c.args.node.now c.substitute_in_list-in-BodyList.new.node c.substitute_in_list-in-BodyList.result) (sym c.in-BodyList.is) (c.substitute_in_list-in-BodyList.ensures BodyList refl)
