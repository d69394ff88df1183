use Rattle.mini_run.proofs.Named.{names_one, orders_one}
use Rattle.mini_run.proofs.laws.words_name_one_choice.Goals as goal

pub returns-clause-orders : goal.returns-clause-orders
returns-clause-orders c = orders_one

pub returns-clause-options : goal.returns-clause-options
returns-clause-options c = names_one
