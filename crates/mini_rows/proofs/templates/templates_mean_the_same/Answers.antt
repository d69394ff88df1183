use Rattle.mini_rows.proofs.TemplateMeaning.{templates_same}
use Rattle.mini_rows.proofs.templates.templates_mean_the_same.Goals as goal

pub returns : goal.returns
returns c = templates_same
