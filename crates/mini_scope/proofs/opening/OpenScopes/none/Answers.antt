use Rattle.mini_scope.proofs.Opened.{no_scopes}
use Rattle.mini_scope.proofs.opening.OpenScopes.none.Goals as goal

pub returns : goal.returns
returns c = no_scopes (record { first = c.new.result; second = c.new-2.result; third = c.new-3.result }) c.new.ensures.items c.new-2.ensures.items c.new-3.ensures.items
