use Rattle.std.proofs.Common.{◌∙◌, sym, arith}
use Rattle.std.proofs.lemmas.Bool.{le-ltb}
use Rattle.mini_logic.proofs.MinimizeForStatement.{none_leaves}
use Rattle.mini_logic.proofs.rewrites.minimize_for_statement.first_leaves.Goals as goal

pub returns-else-len-gt0 : goal.returns-else-len-gt0
returns-else-len-gt0 c = le-ltb _ _ c.if-len-gt0.false ∙ sym (none_leaves c.args.nodes.now (omega (arith, c.len.ensures, c.if-len-gt0.false)))
