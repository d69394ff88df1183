use Rattle.mini_rows.proofs.OwnPartLawful.{steady_parts_lawful, lexical_parts_lawful}
use Rattle.mini_rows.proofs.parts.own_parts_are_lawful.Goals as goal

pub returns-clause-members : goal.returns-clause-members
returns-clause-members c = steady_parts_lawful

pub returns-clause-lexical : goal.returns-clause-lexical
returns-clause-lexical c = lexical_parts_lawful
