use Rattle.std.proofs.Common.{sym, ap, ◌∙◌}
use Rattle.mini_model.specs.Tree.{children, child_or_absent}
use Rattle.mini_node.specs.Children.{with_child}
use Rattle.mini_node.specs.Lends.{with_children}
use Rattle.mini_fold.specs.FoldSequences.{left_of}
use Rattle.mini_fold.proofs.Sequences.{split_below, some_children}
use Rattle.mini_fold.proofs.rewrites.fold_sequences.+split_first.Goals as goal

pub returns-clause-left : goal.returns-clause-left
returns-clause-left t c =
    let here = c.args.node.now in
    let list = c.children_mut.ensures.value in
    ap (λ ts. with_children here (with_child ts 0 c.split_first.new.node)) list
    ∙ ap (λ u. with_children here (with_child (children here) 0 u)) (c.split_first.ensures.left ∙ ap left_of (c.child_mut.ensures.value ∙ ap (λ ts. child_or_absent ts 0) list))
    ∙ sym (split_below here (some_children here (sym c.is_leaf.ensures ∙ c.if-is_leaf.false)) (sym c.has_parts.ensures ∙ c.if-has_parts.false)).1
