use Rattle.mini_rows.proofs.OwnArrowLawful.{steady_code_lawful, lexical_code_lawful}
use Rattle.mini_rows.proofs.steady.own_code_is_lawful.Goals as goal

pub returns-clause-members : goal.returns-clause-members
returns-clause-members c = steady_code_lawful

pub returns-clause-lexical : goal.returns-clause-lexical
returns-clause-lexical c = lexical_code_lawful
