use Rattle.mini_rows.proofs.TemplateLawful.{templates_lawful}
use Rattle.mini_rows.proofs.templates.templates_are_lawful.Goals as goal

pub returns : goal.returns
returns c = templates_lawful
