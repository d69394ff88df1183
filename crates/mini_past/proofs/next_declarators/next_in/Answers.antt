use Rattle.std.proofs.Common.{◌≡◌, false, sym, arith}
use Rattle.mini_unused.proofs.Unused.{so_far_on}
use Rattle.mini_past.specs.SubstitutePast.{is_past_by_next}
use Rattle.mini_past.proofs.StillTold.{there_of_all}
use Rattle.mini_past.proofs.next_declarators.next_in.Goals as goal

pub loop-which-preserved : goal.loop-which-preserved
loop-which-preserved g c = so_far_on (λ j. is_past_by_next (g.S.SteadyNames.sets c.args.steady.now c.args.body) c.args.is_free (g.S.PastNames.lets c.args.steady.now) c.args.list.now j c.args.outside.now c.args.statements.now c.args.at ≡ false) c.loop-which.which _ (omega arith) (sym c.if-is_past_by_next.ensures) c.loop-which.invariant

pub is_past_by_next-requires-clause-told : goal.is_past_by_next-requires-clause-told
is_past_by_next-requires-clause-told g c = there_of_all c.args.lets.now c.args.statements.now _ c.args.at c.loop-which.which c.requires.told
