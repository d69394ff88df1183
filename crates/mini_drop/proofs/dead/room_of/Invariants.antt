use Rattle.std.proofs.Common.{◌≤◌, length}
use Rattle.mini_drop.proofs.dead.room_of.Given as goal

abbrev pub invariant-loop-symbol : goal.invariant-loop-symbol
invariant-loop-symbol l = l.symbol ≤ length l.context.scopes.reads
