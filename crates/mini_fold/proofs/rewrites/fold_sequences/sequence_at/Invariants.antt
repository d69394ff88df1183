use Rattle.std.proofs.Common.{◌≡◌}
use Rattle.mini_node.specs.Children.{rest_children}
use Rattle.mini_fold.specs.FoldSequences.{is_several, any_of}
use Rattle.mini_fold.proofs.rewrites.fold_sequences.sequence_at.Given as goal

abbrev pub invariant-loop-at : goal.invariant-loop-at
invariant-loop-at l = any_of is_several (rest_children l.at l.nodes) ≡ any_of is_several l.nodes
