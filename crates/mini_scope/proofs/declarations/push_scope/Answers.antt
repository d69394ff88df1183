use Rattle.mini_laws.specs.Early.{scope_declarations}
use Rattle.mini_scope.proofs.declarations.push_scope.Goals as goal

pub returns-clause-found : goal.returns-clause-found
unfolding scope_declarations
returns-clause-found c = rw (← c.shape.ensures, ← c.children.ensures, ← c.clash_of.ensures) c.push_by.ensures.found
