use Rattle.mini_rows.proofs.PastBlockMore.{past_blocks_more}
use Rattle.mini_rows.proofs.past.past_steady_names_read_more_in_blocks.Goals as goal

pub returns : goal.returns
returns c = past_blocks_more
