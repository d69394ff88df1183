use Rattle.mini_stmt.proofs.LetJoins.{given}
use Rattle.mini_stmt.proofs.rewrites.join_lets.join_let.Goals as goal

pub leave-requires : goal.leave-requires
leave-requires c = (given c.args.first c.args.next c.requires).some

pub with_value-requires-clause-some : goal.with_value-requires-clause-some
with_value-requires-clause-some c = (given c.args.first c.args.next c.requires).list

pub with_value-requires-clause-parts : goal.with_value-requires-clause-parts
with_value-requires-clause-parts c = (given c.args.first c.args.next c.requires).parts
