use Rattle.mini_rows.proofs.OwnArrowLawful.{steady_code_lightens, lexical_code_lightens}
use Rattle.mini_rows.proofs.steady.own_code_lightens.Goals as goal

pub returns-clause-members : goal.returns-clause-members
returns-clause-members c = steady_code_lightens

pub returns-clause-lexical : goal.returns-clause-lexical
returns-clause-lexical c = lexical_code_lightens
