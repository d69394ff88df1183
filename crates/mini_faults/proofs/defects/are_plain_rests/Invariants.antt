use Rattle.std.proofs.Common.{◌≡◌, drop}
use Rattle.mini_node.specs.Children.{trees_of}
use Rattle.mini_print.specs.Unprintable.{are_plain_rests}
use Rattle.mini_faults.proofs.defects.are_plain_rests.Given as goal

abbrev pub invariant-loop-property : goal.invariant-loop-property
invariant-loop-property l = are_plain_rests (trees_of (drop l.property-index l.properties)) ≡ are_plain_rests (trees_of l.properties)
