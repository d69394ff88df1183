use Rattle.mini_writer.proofs.Light.{accepted_light}
use Rattle.mini_writer.proofs.size_laws.accepted_weighs_little.Goals as goal

pub returns-clause-tree : goal.returns-clause-tree
returns-clause-tree c = accepted_light

pub returns-clause-program : goal.returns-clause-program
returns-clause-program c = accepted_light
