use Rattle.std.proofs.Common.{◌≡◌, ◌<◌, true, ◌∙◌, ap, subst}
use Rattle.mini_model.specs.Tree.{children, count, child_or_absent}
use Rattle.mini_node.specs.Children.{part}
use Rattle.mini_syntax.specs.SubstituteVariableDeclaration.{begins_undefined}
use Rattle.mini_syntax.proofs.Declarations.{list_first, two_parts, row_at}
use Rattle.mini_syntax.proofs.rewrites.substitute_variable_declaration.drop_first.Goals as goal

pub child-requires : goal.child-requires
child-requires c = list_first c.args.node.now c.requires

pub drop_initializer-requires-clause-list : goal.drop_initializer-requires-clause-list
drop_initializer-requires-clause-list c = list_first c.args.node.now c.requires

pub drop_initializer-requires-clause-initializer : goal.drop_initializer-requires-clause-initializer
drop_initializer-requires-clause-initializer c = two_parts (part (part c.args.node.now 0) c.in-Some.at) (subst (λ ts. begins_undefined (child_or_absent ts c.in-Some.at) ≡ true) (c.children.ensures ∙ ap children c.child.ensures.value) c.in-Some.ensures.begins)

pub returns-in-Some : goal.returns-in-Some
returns-in-Some c =
    let list = c.children.ensures ∙ ap children c.child.ensures.value in
    row_at c.args.node.now c.in-Some.at c.drop_initializer.new.node c.requires (subst (λ ts. c.in-Some.at < count ts) list c.in-Some.ensures.found) (subst (λ ts. begins_undefined (child_or_absent ts c.in-Some.at) ≡ true) list c.in-Some.ensures.begins) c.drop_initializer.ensures
