use Rattle.std.proofs.Common.{◌≡◌}
use Rattle.mini_node.specs.Children.{rest_children}
use Rattle.mini_fold.specs.FoldTemplates as template
use Rattle.mini_fold.proofs.rewrites.fold_templates.are_pieces.Given as goal

abbrev pub invariant-loop-at : goal.invariant-loop-at
invariant-loop-at l = template.are_pieces (rest_children l.at l.nodes) ≡ template.are_pieces l.nodes
