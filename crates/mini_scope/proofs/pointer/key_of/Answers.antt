use Rattle.std.proofs.Common.{◌∙◌, arith}
use Rattle.mini_scope.proofs.Keys.{last_key}
use Rattle.mini_scope.proofs.pointer.key_of.Goals as goal

pub returns-in_default : goal.returns-in_default
returns-in_default c = c.fourth_key.ensures ∙ last_key c.args.shape.now c.args.at (omega arith)
