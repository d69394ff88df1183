use Rattle.std.proofs.Common.{◌≡◌, drop}
use Rattle.mini_node.specs.Children.{trees_of}
use Rattle.mini_print.specs.Unprintable.{are_names}
use Rattle.mini_faults.proofs.defects.are_names.Given as goal

abbrev pub invariant-loop-specifier : goal.invariant-loop-specifier
invariant-loop-specifier l = are_names (trees_of (drop l.specifier-index l.specifiers)) ≡ are_names (trees_of l.specifiers)
