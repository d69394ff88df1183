use Rattle.std.proofs.Common.{◌+◌, ◌*◌}
use Rattle.mini_model.specs.Tree.{node_count}
use Rattle.mini_steady.specs.Declarations.{begun_by}
use Rattle.mini_steady.specs.Own.{rows_there}
use Rattle.mini_unused.specs.Allowed.{switches_of}
use Rattle.mini_steady.proofs.Begun.{BegunTo}
use Rattle.mini_steady.proofs.Owning.{OwnWalkedTo}
use Rattle.mini_steady.proofs.own.+own.Given as goal

abbrev pub decreases-minimize_own_code : goal.decreases-minimize_own_code
decreases-minimize_own_code g l = 2 * node_count l.node.now + 1

abbrev pub decreases-minimize_parts : goal.decreases-minimize_parts
decreases-minimize_parts g l = 2 * node_count l.node.now

abbrev pub invariant-minimize_parts-loop-at : goal.invariant-minimize_parts-loop-at
invariant-minimize_parts-loop-at g l = OwnWalkedTo (rows_there (g.W.OwnRewrites.rows (switches_of (g.S.SteadyNames.orders l.steady))) (g.S.SteadyNames.sets l.steady) l.fn.body) (begun_by l.fn.body) l.place l.at l.fn.node l.node l.changed × BegunTo l.place l.fn.node l.at l.fn.body l.body
