use Rattle.mini_rows.proofs.TemplateWeights.{lightens}
use Rattle.mini_rows.proofs.templates.templates_lighten.Goals as goal

pub returns : goal.returns
returns c = lightens
