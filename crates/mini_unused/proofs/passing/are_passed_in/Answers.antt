use Rattle.mini_unused.proofs.Looks.{none_below}
use Rattle.mini_unused.proofs.passing.are_passed_in.Goals as goal

pub returns-in-Some : goal.returns-in-Some
returns-in-Some c = c.in-Some.ensures.1

pub are_all_passed-requires : goal.are_all_passed-requires
are_all_passed-requires c = none_below c.args.name.now c.args.node.now c.in-None.ensures
