use Rattle.std.proofs.Common.{sym, ◌∙◌}
use Rattle.mini_fold.specs.FoldConstants.{literal_written}
use Rattle.mini_fold.proofs.Constants.{others_tree, others_said}
use Rattle.mini_fold.proofs.rewrites.fold_constants.fold_constant.Goals as goal

pub returns-else-branch-clause-tree : goal.returns-else-branch-clause-tree
returns-else-branch-clause-tree c =
    others_tree c.args.seat c.args.node.now c.fold_literal.new.node (literal_written c.args.seat c.args.node.now) c.in_ok-fold_literal.ensures.tree (sym c.if-branch.false ∙ c.in_ok-fold_literal.ensures.said) c.fold_other.new.node c.fold_other.result
    c.fold_other.ensures.tree

pub returns-else-branch-clause-said : goal.returns-else-branch-clause-said
returns-else-branch-clause-said c =
    others_said c.args.seat c.args.node.now c.fold_literal.new.node (literal_written c.args.seat c.args.node.now) c.in_ok-fold_literal.ensures.tree (sym c.if-branch.false ∙ c.in_ok-fold_literal.ensures.said) c.fold_other.result c.fold_other.ensures.said
