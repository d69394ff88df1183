use Rattle.mini_model.specs.Tree.{node_count}
use Rattle.mini_choices.proofs.rewrites.inject_optional_chaining.+optional_over.Given as goal

abbrev pub decreases-optional_over : goal.decreases-optional_over
decreases-optional_over l = node_count l.node
