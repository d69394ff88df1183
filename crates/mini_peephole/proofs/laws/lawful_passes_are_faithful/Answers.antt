use Rattle.mini_peephole.proofs.AnyPasses as law
use Rattle.mini_peephole.proofs.laws.lawful_passes_are_faithful.Goals as goal

pub returns-clause-faithful : goal.returns-clause-faithful
returns-clause-faithful g c = law.passes_faithful g.R.Rule.gives g.R.Rule.rests

pub returns-clause-steps : goal.returns-clause-steps
returns-clause-steps g c = law.steps_faithful g.R.Rule.gives g.R.Rule.rests

pub returns-clause-plain : goal.returns-clause-plain
returns-clause-plain g c = law.plain_faithful g.R.Rule.gives g.R.Rule.rests

pub returns-clause-told : goal.returns-clause-told
returns-clause-told g c = law.told_faithful g.R.Rule.gives g.R.Rule.rests
