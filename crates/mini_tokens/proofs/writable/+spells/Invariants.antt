use Rattle.std.proofs.Common.{length}
use Rattle.mini_tokens.proofs.writable.+spells.Given as goal

abbrev pub decreases-spells : goal.decreases-spells
decreases-spells l = length l.units.now
