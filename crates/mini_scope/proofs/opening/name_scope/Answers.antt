use Rattle.mini_laws.specs.DeclaredNames.{with_names}
use Rattle.mini_scope.proofs.opening.name_scope.Goals as goal

pub returns-else-holds : goal.returns-else-holds
unfolding with_names
returns-else-holds c = rw c.if-holds.false c.new.ensures.items
