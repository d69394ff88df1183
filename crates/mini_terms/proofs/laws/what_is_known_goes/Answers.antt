use Rattle.mini_terms.proofs.Dropping.{goes_on_same, stops_same, does_nothing}
use Rattle.mini_terms.proofs.laws.what_is_known_goes.Goals as goal

pub returns-clause-on : goal.returns-clause-on
returns-clause-on c = goes_on_same

pub returns-clause-stops : goal.returns-clause-stops
returns-clause-stops c = stops_same

pub returns-clause-statement : goal.returns-clause-statement
returns-clause-statement c = does_nothing
