use Rattle.std.proofs.Common.{◌∙◌, ap, arith, []}
use Rattle.mini_model.specs.declared.kind.VariableDeclarationKind.TheVariants.{Var}
use Rattle.mini_model.specs.declared.shape.Shape.TheVariants as shape
use Rattle.mini_model.specs.Tree.{node, none, ◌▸◌, count, children, absent}
use Rattle.mini_node.specs.Children.{with_child}
use Rattle.mini_node.specs.Walks.{count_with}
use Rattle.mini_stmt.proofs.Assignments.{value_made}
use Rattle.mini_stmt.proofs.rewrites.join_assignments.with_value.Goals as goal

pub replace-requires : goal.replace-requires
replace-requires c =
    let same = ap count c.take-declarator.ensures.rest ∙ count_with c.into_children-declarators.result c.args.at absent in
    let is = ap count (c.into_children-declarators.ensures.value ∙ ap children c.one.ensures.value) in
    omega (arith, same, is, c.requires.within)

pub returns : goal.returns
returns c =
    c.new.ensures ∙ ap (λ ts. node (shape.VariableDeclaration Var) [] 0 ts) (c.in_ok-children.ensures ∙ ap (λ t. t ▸ none) c.listed.ensures)
    ∙ value_made c.args.declaration c.args.at c.args.value c.one.result c.take-declarator.result c.into_children-declarators.result c.take-declarator.new.self c.replace.new.self c.one.ensures.value c.into_children-declarators.ensures.value c.take-declarator.ensures.value c.take-declarator.ensures.rest
    (c.replace.ensures.rest ∙ ap (λ d. with_child c.take-declarator.new.self c.args.at d) c.initialised.ensures)
