use Rattle.std.proofs.Common.{◌≡◌, false, sym, arith}
use Rattle.mini_unused.proofs.Unused.{so_far_on}
use Rattle.mini_past.specs.SubstitutePast.{is_past}
use Rattle.mini_past.proofs.StillTold.{there_of_all}
use Rattle.mini_past.proofs.searching.past_at.Goals as goal

pub loop-at-preserved : goal.loop-at-preserved
loop-at-preserved g c = so_far_on (λ i. is_past (g.S.SteadyNames.sets c.args.steady.now c.args.body) (g.S.PastNames.lets c.args.steady.now) c.args.outside.now c.args.statements.now i ≡ false) c.loop-at.at _ (omega arith) (sym c.if-is_past.ensures.past) c.loop-at.invariant

pub is_past-requires-clause-told : goal.is_past-requires-clause-told
is_past-requires-clause-told g c = there_of_all c.args.lets.now c.args.statements.now _ c.loop-at.at _ c.requires
