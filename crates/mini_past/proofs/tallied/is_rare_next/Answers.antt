use Rattle.std.proofs.Common.{subst, add-one}
use Rattle.mini_model.specs.Tree.{child_or_absent}
use Rattle.mini_unused.specs.Tallies.{IsRareIn}
use Rattle.mini_past.proofs.tallied.is_rare_next.Goals as goal

pub returns : goal.returns
returns c = λ e. subst (λ k. IsRareIn c.args.tallies.now c.args.name.now (child_or_absent c.args.statements.now k)) (add-one c.args.at) (subst (IsRareIn c.args.tallies.now c.args.name.now) c.child.ensures.value (c.is_rare_in_head.ensures e))
