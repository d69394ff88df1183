use Rattle.mini_rows.proofs.Fading.{fades_itself}
use Rattle.mini_rows.proofs.lexical.each_tree_fades.Goals as goal

pub returns : goal.returns
returns c = fades_itself
