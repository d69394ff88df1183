use Rattle.std.proofs.Common.{subst}
use Rattle.mini_context.specs.Tables.{mark_at}
use Rattle.mini_dead.specs.Pruned.{Elsewhere}
use Rattle.mini_dead.specs.Drops.{Drops}
use Rattle.mini_drop.specs.Walk.{Lost}
use Rattle.mini_drop.proofs.Losing.{plan_drops, plan_fewer, round_shaped, round_more}
use Rattle.mini_drop.proofs.planned.drop_plan.Goals as goal

pub returns-clause-again : goal.returns-clause-again
returns-clause-again c =
    let d : Drops c.args.program.now c.drop_items.new.node c.in_ok-gone.gone = plan_drops c.args.program.now c.drop_items.new.node c.args.plan.now.set.items c.args.plan.now.rounds.items c.in_ok-gone.gone c.requires.shaped c.requires.sound (subst (λ us. Lost (mark_at us) Elsewhere c.args.program.now c.drop_items.new.node c.in_ok-gone.gone) c.as_slice.ensures.value c.in_ok-gone.ensures) in
    λ first a. round_more first c.args.program.now c.drop_items.new.node c.args.total.now c.in_ok-gone.gone c.in_ok-total.field-0 c.in_ok-total.ensures a d

pub returns-clause-shaped : goal.returns-clause-shaped
returns-clause-shaped c =
    let d : Drops c.args.program.now c.drop_items.new.node c.in_ok-gone.gone = plan_drops c.args.program.now c.drop_items.new.node c.args.plan.now.set.items c.args.plan.now.rounds.items c.in_ok-gone.gone c.requires.shaped c.requires.sound (subst (λ us. Lost (mark_at us) Elsewhere c.args.program.now c.drop_items.new.node c.in_ok-gone.gone) c.as_slice.ensures.value c.in_ok-gone.ensures) in
    round_shaped c.args.program.now c.drop_items.new.node c.in_ok-gone.gone d c.requires.shaped

pub returns-clause-no_more : goal.returns-clause-no_more
returns-clause-no_more c =
    let d : Drops c.args.program.now c.drop_items.new.node c.in_ok-gone.gone = plan_drops c.args.program.now c.drop_items.new.node c.args.plan.now.set.items c.args.plan.now.rounds.items c.in_ok-gone.gone c.requires.shaped c.requires.sound (subst (λ us. Lost (mark_at us) Elsewhere c.args.program.now c.drop_items.new.node c.in_ok-gone.gone) c.as_slice.ensures.value c.in_ok-gone.ensures) in
    plan_fewer c.args.program.now c.drop_items.new.node c.in_ok-gone.gone d
