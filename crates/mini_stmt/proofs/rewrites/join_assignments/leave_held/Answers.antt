use Rattle.std.proofs.Common.{◌∙◌, sym}
use Rattle.mini_stmt.proofs.Assignments.{looped_parts}
use Rattle.mini_stmt.proofs.rewrites.join_assignments.leave_held.Goals as goal

pub leave_looped-requires-clause-parts : goal.leave_looped-requires-clause-parts
leave_looped-requires-clause-parts c = looped_parts c.args.next c.requires (sym c.loops_first.ensures.kind ∙ c.if-loops_first.true)
