use Rattle.std.specs.Prelude.{length}
use Rattle.mini_node.specs.Children.{first_children}
use Rattle.mini_unused.specs.Tallies.{bucket, tallies, Counted}
use Rattle.mini_unused.proofs.tallies.+counting.Given as goal

abbrev pub invariant-count_all-loop-at : goal.invariant-count_all-loop-at
invariant-count_all-loop-at l = Counted (λ b. tallies (bucket l.fn.by_symbol (length l.fn.counts.items)) b (first_children l.at l.fn.nodes)) l.fn.counts.items l.counts.items
