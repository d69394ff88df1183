use Rattle.std.proofs.Common.{subst}
use Rattle.mini_context.specs.Tables.{mark_at}
use Rattle.mini_dead.specs.Pruned.{Elsewhere}
use Rattle.mini_drop.specs.Walk.{Lost}
use Rattle.mini_drop.proofs.Losing.{round_drops, round_number}
use Rattle.mini_drop.proofs.rounds.drop_once.Goals as goal

pub returns-clause-drops : goal.returns-clause-drops
returns-clause-drops c =
    round_drops c.args.program.now c.drop_items.new.node c.in_ok-dead.dead.items c.in_ok-gone.gone c.requires.shaped c.in_ok-dead.ensures
    (subst (λ us. Lost (mark_at us) Elsewhere c.args.program.now c.drop_items.new.node c.in_ok-gone.gone) c.as_slice.ensures.value c.in_ok-gone.ensures)

pub returns-clause-number : goal.returns-clause-number
returns-clause-number c =
    round_number c.args.program.now c.drop_items.new.node c.in_ok-dead.dead.items c.in_ok-gone.gone c.in_ok-dead.ensures
    (subst (λ us. Lost (mark_at us) Elsewhere c.args.program.now c.drop_items.new.node c.in_ok-gone.gone) c.as_slice.ensures.value c.in_ok-gone.ensures)
