use Rattle.std.proofs.Common.{◌∙◌, sym}
use Rattle.mini_stmt.proofs.Guards.{not_apart}
use Rattle.mini_stmt.proofs.rewrites.join_guards.join_neighbours.Goals as goal

pub returns-then-are_apart : goal.returns-then-are_apart
returns-then-are_apart c = not_apart c.args.list.now (sym c.are_apart.ensures ∙ c.if-are_apart.true)
