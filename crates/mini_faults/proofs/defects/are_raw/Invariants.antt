use Rattle.std.proofs.Common.{◌≡◌, drop}
use Rattle.mini_node.specs.Children.{trees_of}
use Rattle.mini_print.specs.Unprintable.{are_raw}
use Rattle.mini_faults.proofs.defects.are_raw.Given as goal

abbrev pub invariant-loop-piece : goal.invariant-loop-piece
invariant-loop-piece l = are_raw (trees_of (drop l.piece-index l.pieces)) ≡ are_raw (trees_of l.pieces)
