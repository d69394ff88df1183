use Rattle.std.proofs.Common.{◌∙◌, sym}
use Rattle.mini_stmt.proofs.Assignments.{kind_there}
use Rattle.mini_stmt.proofs.rewrites.join_assignments.is_declaration.Goals as goal

pub returns-clause-parts : goal.returns-clause-parts
returns-clause-parts c = λ e. kind_there c.args.node.now c.declared_kind.result c.declared_kind.ensures (sym c.is_some.ensures ∙ e)
