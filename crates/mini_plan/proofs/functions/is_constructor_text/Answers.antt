use Rattle.std.proofs.Common.{◌∙◌}
use Rattle.mini_fields.proofs.Texts.{constructor_told}
use Rattle.mini_plan.proofs.functions.is_constructor_text.Goals as goal

pub returns : goal.returns
returns c = c.eq.ensures ∙ constructor_told c.args.text.now c.utf8.text
