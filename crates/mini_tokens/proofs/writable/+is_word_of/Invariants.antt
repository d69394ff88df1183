use Rattle.std.proofs.Common.{length}
use Rattle.mini_tokens.proofs.writable.+is_word_of.Given as goal

abbrev pub decreases-is_word_of : goal.decreases-is_word_of
decreases-is_word_of l = length l.words.now
