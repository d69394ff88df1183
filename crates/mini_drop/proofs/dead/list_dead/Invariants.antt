use Rattle.mini_drop.specs.Symbols.{ListsDead}
use Rattle.mini_drop.proofs.dead.list_dead.Given as goal

abbrev pub invariant-loop-symbol : goal.invariant-loop-symbol
invariant-loop-symbol l = ListsDead l.context.scopes l.declared l.symbol l.dead.items
