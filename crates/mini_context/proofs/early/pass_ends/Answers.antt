use Rattle.std.proofs.Common.{refl}
use Rattle.mini_model.specs.Tree.{children, shape_of}
use Rattle.mini_laws.specs.Foreign.{ended_by}
use Rattle.mini_context.proofs.Passing.{ended_marks, ends_pass}
use Rattle.mini_context.proofs.early.pass_ends.Goals as goal

pub returns : goal.returns
returns c =
    ends_pass c.args.reading.around (ended_by (shape_of c.args.node.now) (children c.args.node.now)) _ _
    (ended_marks c.args.node.now c.shape.result.now c.ended_part.result c.children.result.now c.args.moments.now.ended.items c.mark_part.new.marks.items c.shape.ensures c.ended_part.ensures c.children.ensures c.mark_part.ensures)
    refl
