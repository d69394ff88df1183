use Rattle.std.proofs.Common.{◌≡◌, true}
use Rattle.mini_node.specs.Children.{first_children}
use Rattle.mini_rows.specs.Past.{all_of, passes_any_at}
use Rattle.mini_past.specs.SubstitutePast.{held_at}
use Rattle.mini_past.proofs.reaching.all_pass_before.Given as goal

abbrev pub invariant-loop-place : goal.invariant-loop-place
invariant-loop-place g l = all_of (passes_any_at (held_at (g.S.SteadyNames.sets l.fn.steady l.fn.body) l.fn.statements l.fn.at l.fn.declarators l.fn.which) l.fn.gathered l.fn.init l.fn.shape) (first_children l.place l.fn.nodes) ≡ true
