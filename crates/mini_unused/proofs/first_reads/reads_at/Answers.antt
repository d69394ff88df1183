use Rattle.std.proofs.Common.{ap, arith}
use Rattle.mini_model.specs.Tree.{count}
use Rattle.mini_unused.proofs.first_reads.reads_at.Goals as goal

pub returns-then-at-len : goal.returns-then-at-len
returns-then-at-len c = absurd (omega (arith, c.requires, ap count c.children.ensures))
