use Rattle.std.proofs.Common.{◌≡◌, false}
use Rattle.std.proofs.lemmas.Result.{on_ok_weaker}
use Rattle.std.specs.Prelude.{is_some}
use Rattle.mini_node.specs.Children.{part}
use Rattle.mini_fold.specs.FoldTemplates.{nested_written}
use Rattle.mini_fold.proofs.Templates.{whole_tree}
use Rattle.mini_fold.proofs.rewrites.fold_templates.fold_sum_of_sum.Goals as goal

pub returns-else-branch-clause-tree : goal.returns-else-branch-clause-tree
returns-else-branch-clause-tree c =
    let node = c.args.node.now in
    let behind = nested_written (part (part node 0) 0) (part (part node 0) 1) (part node 1) in
    let none : false ≡ is_some behind = cc (c.if-branch.false, c.in_ok-fold_nested.ensures.said) in
    on_ok_weaker c.fold_pair.result (λ is. whole_tree c.args.seat node c.fold_nested.new.node c.fold_pair.new.node behind c.in_ok-fold_nested.ensures.tree none is) c.fold_pair.ensures.tree
