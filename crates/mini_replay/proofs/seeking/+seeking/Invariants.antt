use Rattle.std.proofs.Common.{ℕ, ◌≡◌, ◌+◌, ◌*◌, ◌<◌}
use Rattle.mini_model.specs.Tree.{node_count, children}
use Rattle.mini_replay.specs.Seeking.{before, NoneAt}
use Rattle.mini_replay.proofs.seeking.+seeking.Given as goal

abbrev pub decreases-seek : goal.decreases-seek
decreases-seek g l = 4 * node_count l.node.now + 2

abbrev pub decreases-seek_below : goal.decreases-seek_below
decreases-seek_below g l = 4 * node_count l.node.now + 1

abbrev pub decreases-seek_at : goal.decreases-seek_at
decreases-seek_at g l = 4 * node_count l.node.now

abbrev pub decreases-seek_in : goal.decreases-seek_in
decreases-seek_in g l = 4 * node_count l.node.now + 3

abbrev pub invariant-seek_below-loop-at : goal.invariant-seek_below-loop-at
invariant-seek_below-loop-at g l = record {
  first : l.first ≡ before (children l.node) l.at;
  none : (k : ℕ) → k < l.at → NoneAt (g.S.Making.makes l.rows) l.place l.node k;
}
