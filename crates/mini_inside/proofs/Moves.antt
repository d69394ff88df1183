-- Steps of a relation as steps of the rule.
use Rattle.mini_model.specs.declared.place.Position.{Position}
use Rattle.mini_model.specs.Tree.{Tree}
use Rattle.mini_model.specs.Rewriting.{Reaches, here, done, more}
use Rattle.mini_rows.specs.Unused.{UnusedRow, UnusedContracts}
use Rattle.mini_rows.proofs.UnusedWeights.{unused_lighter}
use Rattle.mini_rows.specs.Switches.{Liberties}
use Rattle.mini_tree.specs.Rule.{Moves}
use Rattle.mini_tree.proofs.Reaching.{reaches_trans}
use Rattle.mini_unused.specs.Chains.{Chain, still, further, Several}

module _ (W : Liberties) (p : Position) (R : Tree → Tree → Type 0) (read : (t u : Tree) → R t u → UnusedRow W p t u) where
  written : (t u : Tree) → R t u → UnusedContracts W p t u
  written t u r = record { row = read t u r; lighter = unused_lighter W p t u (read t u r) }

  reached : (t u : Tree) → Chain R t u → Reaches (UnusedContracts W) p t u
  reached _ _ (still t) = done p t
  reached _ _ (further t v u c r) = reaches_trans (UnusedContracts W) (reached t v c) (more p v u u (here p v u (written v u r)) (done p u))

  pub several_moves : (t u : Tree) → Several R t u → Moves (UnusedContracts W) p t u
  several_moves t u m = record { next = m.next; step = here p t m.next (written t m.next m.first); others = reached m.next u m.others }
