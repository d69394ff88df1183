use Rattle.mini_model.specs.Tree.{node_count}
use Rattle.mini_choices.proofs.rewrites.chain_links.+folded.Given as goal

abbrev pub decreases-folded : goal.decreases-folded
decreases-folded l = node_count l.node
