use Rattle.std.proofs.Common.{◌≡◌, take}
use Rattle.mini_node.specs.Children.{trees_of}
use Rattle.mini_laws.specs.DeclaredNames.{all_names}
use Rattle.mini_laws.specs.declared.names.Declared.TheVariants as declared
use Rattle.mini_context.proofs.catching.hoisted_names.Given as goal

abbrev pub invariant-loop-node : goal.invariant-loop-node
invariant-loop-node l = l.names.items ≡ all_names declared.Hoisted (trees_of (take l.node-index l.nodes))
