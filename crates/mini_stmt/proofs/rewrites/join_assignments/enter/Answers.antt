use Rattle.mini_stmt.proofs.Assignments.{given, made_row}
use Rattle.mini_stmt.proofs.rewrites.join_assignments.enter.Goals as goal

pub leave-requires : goal.leave-requires
leave-requires c = (given c.args.first c.args.next c.args.at c.requires).some

pub with_value-requires-clause-parts : goal.with_value-requires-clause-parts
with_value-requires-clause-parts c = (given c.args.first c.args.next c.args.at c.requires).parts

pub returns : goal.returns
returns c = made_row c.args.first c.args.next c.in_ok-declared.declared c.in_ok-value.value c.in_ok-value.left c.args.at c.requires c.in_ok-value.ensures.value c.in_ok-value.ensures.left c.in_ok-declared.ensures
