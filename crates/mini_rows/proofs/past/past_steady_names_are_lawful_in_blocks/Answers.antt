use Rattle.mini_rows.proofs.PastBlockLawful.{past_blocks_are_lawful}
use Rattle.mini_rows.proofs.past.past_steady_names_are_lawful_in_blocks.Goals as goal

pub returns : goal.returns
returns c = past_blocks_are_lawful
