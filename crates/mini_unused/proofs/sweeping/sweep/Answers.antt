use Rattle.mini_unused.specs.Chains.{Chain}
use Rattle.mini_unused.specs.RemoveUnusedDeclaration.{allowed, open_in}
use Rattle.mini_unused.specs.SubstituteSingleUse.{Gone}
use Rattle.mini_unused.specs.Sweep.{Swept}
use Rattle.mini_unused.proofs.Swept.{on_ok}
use Rattle.mini_unused.proofs.sweeping.sweep.Goals as goal

pub sweep_from-requires : goal.sweep_from-requires
sweep_from-requires c = record { is_list = c.requires.list; unseen = c.requires.unseen; tallied = c.in_ok-tallies.ensures }

pub returns : goal.returns
returns c =
    let W = open_in c.args.outside.now (allowed c.args.context.now) in
    let o = c.args.outside.now in
    on_ok c.sweep_from.result (Swept W c.in_ok-tallies.tallies o c.args.list.now c.sweep_from.new.list) (Chain (Gone W o) c.args.list.now c.sweep_from.new.list) (λ s. s.gone) c.sweep_from.ensures
