use Rattle.mini_rows.proofs.PastKept.{past_blocks_are_lighter}
use Rattle.mini_rows.proofs.past.past_steady_names_lighten_blocks.Goals as goal

pub returns : goal.returns
returns c = past_blocks_are_lighter
