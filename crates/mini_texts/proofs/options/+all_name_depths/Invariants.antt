use Rattle.std.proofs.Common.{length}
use Rattle.mini_texts.proofs.options.+all_name_depths.Given as goal

abbrev pub decreases-all_name_depths : goal.decreases-all_name_depths
decreases-all_name_depths l = length l.words.now
