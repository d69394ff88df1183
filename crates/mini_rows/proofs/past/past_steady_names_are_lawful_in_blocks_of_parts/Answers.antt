use Rattle.mini_rows.proofs.PastPartLawful.{past_blocks_are_lawful_in_parts}
use Rattle.mini_rows.proofs.past.past_steady_names_are_lawful_in_blocks_of_parts.Goals as goal

pub returns : goal.returns
returns c = past_blocks_are_lawful_in_parts
