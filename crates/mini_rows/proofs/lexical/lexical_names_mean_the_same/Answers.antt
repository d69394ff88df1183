use Rattle.mini_rows.proofs.LexicalMeaning.{lexical_same}
use Rattle.mini_rows.proofs.lexical.lexical_names_mean_the_same.Goals as goal

pub returns : goal.returns
returns c = lexical_same
