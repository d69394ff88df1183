use Rattle.std.proofs.Common.{◌≡◌}
use Rattle.mini_node.specs.Children.{rest_children}
use Rattle.mini_fold.specs.FoldTemplates.{any_sewn}
use Rattle.mini_fold.proofs.rewrites.fold_templates.sewn_at.Given as goal

abbrev pub invariant-loop-at : goal.invariant-loop-at
invariant-loop-at l = any_sewn l.spared (rest_children l.at l.texts) (rest_children l.at l.parts) ≡ any_sewn l.spared l.texts l.parts
