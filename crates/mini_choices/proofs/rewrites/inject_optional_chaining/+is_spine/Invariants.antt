use Rattle.mini_model.specs.Tree.{node_count}
use Rattle.mini_choices.proofs.rewrites.inject_optional_chaining.+is_spine.Given as goal

abbrev pub decreases-is_spine : goal.decreases-is_spine
decreases-is_spine l = node_count l.node.now
