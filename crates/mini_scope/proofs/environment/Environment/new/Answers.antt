use Rattle.mini_scope.proofs.Places.{nothing_held}
use Rattle.mini_scope.proofs.Renumbered.{empty}
use Rattle.mini_scope.proofs.environment.Environment.new.Goals as goal

pub invariant_of-result : goal.invariant_of-result
invariant_of-result c = nothing_held c.new-2.result c.new-3.result.items c.new.result.items (λ s. empty c.new-2.result s c.new-2.ensures.empty) c.new.ensures.items
