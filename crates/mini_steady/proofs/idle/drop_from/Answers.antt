use Rattle.std.proofs.Common.{sym, ◌∙◌}
use Rattle.mini_steady.proofs.IdleRows.{no_sequence}
use Rattle.mini_steady.proofs.idle.drop_from.Goals as goal

pub returns-then-not-is_sequence : goal.returns-then-not-is_sequence
returns-then-not-is_sequence c = no_sequence c.args.seat c.args.node.now (sym c.is_sequence.ensures.kind ∙ c.if-not-is_sequence.true)
