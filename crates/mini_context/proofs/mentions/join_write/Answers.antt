use Rattle.mini_context.proofs.Joining.{write_joins, use_joins, shape_joins}
use Rattle.mini_context.proofs.mentions.join_write.Goals as goal
use Rattle.mini_context.proofs.mentions.join_write.Goals.{else-is_reference-via-then-is_reference+else-is_write, else-is_reference-via-else-is_reference}

pub returns-then-is_write : goal.returns-then-is_write
returns-then-is_write c = write_joins c.args.standing.usage c.args.standing.around c.args.node.now c.shape.result.now c.is_reference.result c.is_write.result _ _ c.shape.ensures c.is_reference.ensures c.if-is_reference.true c.is_write.ensures c.if-is_write.true c.join_own.ensures

pub returns-else-is_reference : goal.returns-else-is_reference
returns-else-is_reference c =
    elim c.else-is_reference.branch [
      | else-is_reference-via-then-is_reference+else-is_write w ↦ use_joins c.args.standing.usage c.args.standing.around c.args.node.now w.is_write.result _ w.is_write.ensures w.if-is_write.false
      | else-is_reference-via-else-is_reference w ↦ shape_joins c.args.standing.usage c.args.standing.around c.args.node.now c.shape.result.now c.is_reference.result _ c.shape.ensures c.is_reference.ensures w.if-is_reference.false
    ]
