use Rattle.mini_model.specs.Tree.{node_count}
use Rattle.mini_accept.specs.WellShaped.{IsWellShaped}
use Rattle.mini_tree.specs.declared.options.CompressOptions.{CompressOptions}
use Rattle.mini_context.specs.Known.{Knows}
use Rattle.mini_dead.specs.Drops.{DropsAgain}
use Rattle.mini_drop.proofs.rounds.drop_dead.Given as goal

abbrev pub invariant-rounds : goal.invariant-rounds
invariant-rounds l = record {
  again : DropsAgain l.fn.program l.program l.total;
  shaped : IsWellShaped l.program;
  known : (o : CompressOptions) → Knows l.fn.context o l.fn.program → Knows l.context o l.program;
}

abbrev pub decreases-rounds : goal.decreases-rounds
decreases-rounds l = node_count l.program
