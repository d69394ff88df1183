use Rattle.mini_less.proofs.TemplatesLess as law
use Rattle.mini_less.proofs.templates_read_less.Goals as goal

pub returns : goal.returns
returns c = law.templates_read_less
