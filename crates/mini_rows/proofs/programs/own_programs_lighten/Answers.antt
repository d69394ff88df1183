use Rattle.mini_rows.proofs.OwnProgramLawful.{steady_programs_lighten, lexical_programs_lighten}
use Rattle.mini_rows.proofs.programs.own_programs_lighten.Goals as goal

pub returns-clause-members : goal.returns-clause-members
returns-clause-members c = steady_programs_lighten

pub returns-clause-lexical : goal.returns-clause-lexical
returns-clause-lexical c = lexical_programs_lighten
