use Rattle.std.proofs.Common.{◌∙◌, sym}
use Rattle.mini_context.proofs.Marking.{class_marks, lexical_marks}
use Rattle.mini_context.proofs.survey.mark_lexical.Goals as goal

pub returns-then-is_class : goal.returns-then-is_class
returns-then-is_class c = class_marks c.args.in_body c.args.node.now c.shape-shape.result.now c.is_class.result _ _ c.shape-shape.ensures c.is_class.ensures c.if-is_class.true c.mark_class.ensures

pub returns-else-is_class : goal.returns-else-is_class
returns-else-is_class c = lexical_marks c.args.in_body c.args.node.now c.shape-shape.result.now c.lexical_part.result c.children.result.now _ _ c.shape-shape.ensures (sym c.is_class.ensures ∙ c.if-is_class.false) c.lexical_part.ensures c.children.ensures c.mark_part.ensures
