use Rattle.mini_model.specs.Tree.{node_count}
use Rattle.mini_choices.proofs.rewrites.chain_links.+outcome.Given as goal

abbrev pub decreases-outcome : goal.decreases-outcome
decreases-outcome l = node_count l.node.now
