use Rattle.std.proofs.Common.{◌≡◌, ◌+◌}
use Rattle.mini_model.specs.Tree.{count, node_counts}
use Rattle.mini_model.specs.Paths.{append}
use Rattle.mini_stmt.specs.MinimizeStatements.{reversed}
use Rattle.mini_stmt.proofs.statements.put_reversed.Given as goal

abbrev pub invariant-moving : goal.invariant-moving
invariant-moving l = record {
  list : append l.left (reversed l.rest) ≡ append l.fn.nodes (reversed l.fn.rest);
  nodes : node_counts l.rest + node_counts l.left ≡ node_counts l.fn.rest + node_counts l.fn.nodes;
}

abbrev pub decreases-moving : goal.decreases-moving
decreases-moving l = count l.left
