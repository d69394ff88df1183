use Rattle.std.proofs.Common.{◌≡◌}
use Rattle.mini_node.specs.Children.{rest_children}
use Rattle.mini_terms.specs.Kind.{each_kind}
use Rattle.mini_terms.specs.Effects.{all_primitive}
use Rattle.mini_terms.proofs.effects.are_primitive.Given as goal

abbrev pub invariant-loop-at : goal.invariant-loop-at
invariant-loop-at l = all_primitive (each_kind (rest_children l.at l.nodes)) ≡ all_primitive (each_kind l.nodes)
