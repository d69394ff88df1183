use Rattle.std.proofs.Common.{◌∙◌, sym}
use Rattle.mini_stmt.proofs.Follows.{right_second}
use Rattle.mini_stmt.proofs.statements.with_expression.Goals as goal

pub with_joined_right-requires : goal.with_joined_right-requires
with_joined_right-requires c =
    right_second c.args.next c.requires (sym c.is_joinable_statement.ensures.kind ∙ c.if-is_joinable_statement.false) (sym c.has_joinable_head.ensures.kind ∙ c.if-has_joinable_head.false)
    (sym c.has_free_init.ensures.kind ∙ c.if-has_free_init.false)
