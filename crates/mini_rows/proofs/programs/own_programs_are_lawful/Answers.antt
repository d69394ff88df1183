use Rattle.mini_rows.proofs.OwnProgramLawful.{steady_programs_lawful, lexical_programs_lawful}
use Rattle.mini_rows.proofs.programs.own_programs_are_lawful.Goals as goal

pub returns-clause-members : goal.returns-clause-members
returns-clause-members c = steady_programs_lawful

pub returns-clause-lexical : goal.returns-clause-lexical
returns-clause-lexical c = lexical_programs_lawful
