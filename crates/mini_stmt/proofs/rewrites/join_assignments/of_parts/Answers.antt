use Rattle.std.proofs.Common.{◌∙◌, sym}
use Rattle.mini_stmt.proofs.Assignments.{one_part, sequence_made}
use Rattle.mini_stmt.proofs.rewrites.join_assignments.of_parts.Goals as goal

pub returns-then-len-eq1 : goal.returns-then-len-eq1
returns-then-len-eq1 c = c.remove.ensures.value ∙ one_part c.args.parts (sym c.len.ensures ∙ c.if-len-eq1.true)

pub returns : goal.returns
returns c = sequence_made c.args.parts c.sequence.result c.requires (λ e. c.if-len-eq1.false (c.len.ensures ∙ e)) c.sequence.ensures
