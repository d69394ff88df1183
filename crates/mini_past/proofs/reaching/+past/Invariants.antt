use Rattle.std.proofs.Common.{◌≡◌, ◌+◌, ◌*◌}
use Rattle.mini_model.specs.Tree.{node_count, node_counts}
use Rattle.mini_node.specs.Children.{rest_children}
use Rattle.mini_rows.specs.Past.{all_past}
use Rattle.mini_past.specs.SubstitutePast.{held_at}
use Rattle.mini_past.proofs.reaching.+past.Given as goal

abbrev pub decreases-are_past_in : goal.decreases-are_past_in
decreases-are_past_in g l = 2 * node_count l.node.now

abbrev pub decreases-all_past : goal.decreases-all_past
decreases-all_past g l = 2 * node_counts l.nodes.now + 1

abbrev pub invariant-all_past-loop-place : goal.invariant-all_past-loop-place
invariant-all_past-loop-place g l =
    let H = held_at (g.S.SteadyNames.sets l.fn.steady l.fn.body) l.fn.statements l.fn.at l.fn.declarators l.fn.which in
    all_past H l.fn.name l.fn.gathered l.fn.init l.fn.shape 0 l.fn.nodes ≡ all_past H l.fn.name l.fn.gathered l.fn.init l.fn.shape l.place (rest_children l.place l.fn.nodes)
