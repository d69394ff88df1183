use Rattle.std.proofs.Common.{◌∙◌, sym}
use Rattle.mini_stmt.proofs.Follows.{loop_first}
use Rattle.mini_stmt.proofs.rewrites.join_vars.with_declaration.Goals as goal

pub with_var-requires : goal.with_var-requires
with_var-requires c = loop_first c.args.kind c.args.next c.requires (sym c.declares.ensures ∙ c.if-declares.false)
