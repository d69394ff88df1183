use Rattle.std.proofs.Common.{length}
use Rattle.mini_steady.proofs.code.+is_listed_twice.Given as goal

abbrev pub decreases-is_listed_twice : goal.decreases-is_listed_twice
decreases-is_listed_twice l = length l.symbols.now
