use Rattle.std.proofs.lemmas.Result.{on_ok_weaker}
use Rattle.mini_context.proofs.Passing.{other_passes, read_passes, silent_passes, unnamed_passes}
use Rattle.mini_context.proofs.early.pass_own.Goals as goal
use Rattle.mini_context.proofs.early.pass_own.Goals.{then-not-is_reference-via-then-not-is_reference, then-not-is_reference-via-else-not-is_reference+then-not-is_read}

pub returns-then-not-is_reference : goal.returns-then-not-is_reference
returns-then-not-is_reference c =
    elim c.then-not-is_reference.branch [
      | then-not-is_reference-via-then-not-is_reference w ↦ other_passes c.args.reading.usage c.args.reading.around c.args.node.now c.shape.result.now c.is_reference.result _ c.shape.ensures c.is_reference.ensures w.if-not-is_reference.true
      | then-not-is_reference-via-else-not-is_reference+then-not-is_read w ↦ silent_passes c.args.reading.usage c.args.reading.around c.args.node.now w.is_read.result _ w.is_read.ensures w.if-not-is_read.true
    ]

pub returns-in-Some : goal.returns-in-Some
returns-in-Some c = on_ok_weaker c.pass_name.result (read_passes c.args.reading.usage c.args.reading.around c.args.node.now c.shape.result.now c.name.result.now c.in-Some.name c.is_reference.result c.is_read.result _ _ c.shape.ensures c.is_reference.ensures c.if-not-is_reference.false c.is_read.ensures c.if-not-is_read.false c.name.ensures c.in-Some.is) c.pass_name.ensures

pub returns-in-None : goal.returns-in-None
returns-in-None c = unnamed_passes c.args.reading.usage c.args.reading.around c.args.node.now c.name.result.now c.args.moments.now c.name.ensures c.in-None.is
