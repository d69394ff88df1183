use Rattle.std.proofs.Common.{length}
use Rattle.mini_cases.proofs.words.+word_in.Given as goal

abbrev pub decreases-word_in : goal.decreases-word_in
decreases-word_in g l = length l.table.now
