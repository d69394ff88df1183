use Rattle.std.proofs.Common.{ap, ◌∙◌, sym}
use Rattle.mini_model.specs.Tree.{child_or_absent}
use Rattle.mini_node.specs.Children.{with_child}
use Rattle.mini_node.specs.Lends.{with_children}
use Rattle.mini_syntax.specs.SubstitutePropertyKey.{respelled}
use Rattle.mini_syntax.proofs.PropertyKeys.{written_over}
use Rattle.mini_syntax.proofs.rewrites.substitute_property_key.substitute_property_key.Goals as goal

pub returns-clause-tree : goal.returns-clause-tree
returns-clause-tree c =
    let t = c.args.node.now in
    let k = c.respell.new.key in
    let below = c.children_mut.ensures.value in
    let here = c.child_mut.ensures.value ∙ ap (λ ts. child_or_absent ts 0) below in
    ap (λ ts. with_children t (with_child ts 0 k)) below ∙ written_over t k (sym c.is_holder.ensures.kind ∙ c.if-not-is_holder.false) (c.respell.ensures.tree ∙ ap respelled here)
