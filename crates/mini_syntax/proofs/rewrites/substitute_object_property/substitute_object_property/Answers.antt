use Rattle.std.proofs.Common.{ap, ◌∙◌, sym}
use Rattle.mini_model.specs.Tree.{children, child_or_absent}
use Rattle.mini_node.specs.Children.{with_child}
use Rattle.mini_node.specs.Lends.{with_children}
use Rattle.mini_syntax.specs.SubstituteObjectProperty.{all_turned}
use Rattle.mini_syntax.proofs.Keys.{written_over}
use Rattle.mini_syntax.proofs.rewrites.substitute_object_property.substitute_object_property.Goals as goal

pub returns-clause-tree : goal.returns-clause-tree
returns-clause-tree c =
    let t = c.args.node.now in
    let ps = c.turn_each.new.properties in
    let below = c.children_mut.ensures.value in
    let list = c.child_mut.ensures.value ∙ ap (λ ts. child_or_absent ts 0) below in
    let made = c.in_ok-changed.ensures.tree ∙ ap all_turned (c.children_mut-properties.ensures.value ∙ ap children list) in
    ap (λ ts. with_children t (with_child ts 0 (with_children c.child_mut.result.now ps))) below
    ∙ ap (λ u. with_children t (with_child (children t) 0 (with_children u ps))) list
    ∙ written_over t ps (sym c.is_object_literal.ensures.kind ∙ c.if-not-is_object_literal.false) made
