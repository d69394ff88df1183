use Rattle.std.proofs.Common.{◌∙◌, sym}
use Rattle.mini_context.proofs.Joining.{other_joins}
use Rattle.mini_context.proofs.mentions.join_own.Goals as goal

pub returns-then-not-is_name_of_variable : goal.returns-then-not-is_name_of_variable
returns-then-not-is_name_of_variable c = other_joins c.args.standing.usage c.args.standing.around c.args.node.now c.shape.result.now _ c.shape.ensures (sym c.is_name_of_variable.ensures ∙ c.if-not-is_name_of_variable.true)
