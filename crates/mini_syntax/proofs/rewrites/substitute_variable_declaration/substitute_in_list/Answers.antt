use Rattle.std.proofs.Common.{◌<◌, ◌∙◌, ap, sym, subst}
use Rattle.mini_model.specs.Tree.{count}
use Rattle.mini_syntax.specs.SubstituteVariableDeclaration.{any_of, is_read}
use Rattle.mini_syntax.proofs.Declarations.{list_applied, list_rests}
use Rattle.mini_syntax.proofs.rewrites.substitute_variable_declaration.substitute_in_list.Goals as goal

pub returns-in-Some : goal.returns-in-Some
returns-in-Some c =
    list_applied c.args.node.now c.in-Some.at c.drop_in_list.new.node (sym c.is_listed.ensures ∙ c.if-not-is_listed.false) (subst (λ ts. c.in-Some.at < count ts) c.children.ensures c.in-Some.ensures.found)
    c.drop_in_list.ensures.bared c.drop_in_list.ensures.rest

pub returns-in-None : goal.returns-in-None
returns-in-None c = list_rests c.args.node.now (c.in-None.ensures.any ∙ ap (any_of is_read) c.children.ensures)
