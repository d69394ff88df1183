use Rattle.mini_rows.proofs.OwnPartLawful.{steady_parts_lighten, lexical_parts_lighten}
use Rattle.mini_rows.proofs.parts.own_parts_lighten.Goals as goal

pub returns-clause-members : goal.returns-clause-members
returns-clause-members c = steady_parts_lighten

pub returns-clause-lexical : goal.returns-clause-lexical
returns-clause-lexical c = lexical_parts_lighten
