use Rattle.mini_print.proofs.Linked.{linked_back}
use Rattle.mini_print.proofs.chains_come_back.Goals as goal
use Rattle.mini_model.specs.Tree.{none}

pub returns : goal.returns
returns c h xs n a ts = linked_back h xs n a ts none
