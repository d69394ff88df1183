use Rattle.std.proofs.Common.{refl, arith}
use Rattle.mini_log.specs.ListRows.{bare_export, first_by, within}
use Rattle.mini_recorded.proofs.ListEdits.{first_made, nothing, past_end}
use Rattle.mini_recorded.proofs.declarations.bare_export_at.Goals as goal

pub returns-then-at-len : goal.returns-then-at-len
returns-then-at-len c = nothing (within (first_by bare_export) c.args.nodes.now c.args.at) c.args.nodes.now (past_end (first_by bare_export) c.args.nodes.now c.args.at refl (omega arith))

pub returns : goal.returns
returns c = first_made bare_export c.args.nodes.now c.args.at c.child_mut.result.now c.bare_export.new.node c.bare_export.result (omega arith) c.child_mut.ensures.value c.bare_export.ensures
