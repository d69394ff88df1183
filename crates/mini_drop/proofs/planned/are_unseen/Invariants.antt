use Rattle.std.proofs.Common.{◌≡◌, true}
use Rattle.mini_context.specs.Tables.{mark_at}
use Rattle.mini_drop.specs.Symbols.{Unseen}
use Rattle.mini_drop.proofs.planned.are_unseen.Given as goal

abbrev pub invariant-loop-symbol : goal.invariant-loop-symbol
invariant-loop-symbol l = l.unseen ≡ true → Unseen (mark_at l.set) l.context.scopes l.symbol
