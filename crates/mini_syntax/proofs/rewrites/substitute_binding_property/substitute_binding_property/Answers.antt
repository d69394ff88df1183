use Rattle.std.proofs.Common.{ap, ◌∙◌, sym}
use Rattle.mini_model.specs.Tree.{child_or_absent}
use Rattle.mini_node.specs.Children.{with_child}
use Rattle.mini_node.specs.Lends.{with_children}
use Rattle.mini_syntax.specs.SubstituteBindingProperty.{bared}
use Rattle.mini_syntax.proofs.BindingKeys.{pattern_over}
use Rattle.mini_syntax.proofs.rewrites.substitute_binding_property.substitute_binding_property.Goals as goal

pub returns-clause-tree : goal.returns-clause-tree
returns-clause-tree c =
    let t = c.args.node.now in
    let p = c.bare_part.new.node in
    let below = c.children_mut.ensures.value in
    let here = c.child_mut.ensures.value ∙ ap (λ ts. child_or_absent ts 0) below in
    ap (λ ts. with_children t (with_child ts 0 p)) below ∙ pattern_over t p (sym c.is_declaring.ensures.kind ∙ c.if-not-is_declaring.false) (c.in_ok-changed.ensures.tree ∙ ap bared here)
