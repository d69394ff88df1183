use Rattle.std.proofs.Common.{sym, subst, [], if◌then◌else◌}
use Rattle.mini_laws.specs.DeclaredNames.{bound_names}
use Rattle.mini_laws.specs.Strict.{is_strict_in}
use Rattle.mini_model.specs.Tree.{shape_of}
use Rattle.mini_context.specs.Tables.{Marked}
use Rattle.mini_context.proofs.Marking.{marks_add}
use Rattle.mini_context.proofs.Reached.{few_reached, other_reached, own_reached}
use Rattle.mini_context.proofs.reach.mark_reached.Goals as goal

pub returns-else-is_sloppy_function : goal.returns-else-is_sloppy_function
returns-else-is_sloppy_function c = other_reached c.args.strict c.args.node.now c.shape.result.now c.is_sloppy_function.result c.args.marks.now.items c.shape.ensures c.is_sloppy_function.ensures c.if-is_sloppy_function.false

pub returns-in_default : goal.returns-in_default
returns-in_default c = few_reached (is_strict_in c.args.strict (shape_of c.args.node.now)) c.args.node.now c.parts.result.now c.args.marks.now.items c.parts.ensures.value c.in_default.len_below

pub returns-else-names_own_arguments : goal.returns-else-names_own_arguments
returns-else-names_own_arguments c =
    let marks = c.args.marks.now.items in
    own_reached c.args.strict c.args.node.now c.shape.result.now c.is_sloppy_function.result c.names_own_arguments.result c.parts.result.now c.params-item.result c.body-item.result marks marks
    c.shape.ensures c.is_sloppy_function.ensures c.if-is_sloppy_function.true c.parts.ensures.value c.in-len3-up.len_at_least c.params-item.is c.body-item.is c.names_own_arguments.ensures
    (subst (λ v. Marked (if v then bound_names c.params-item.result else []) marks marks) (sym c.if-names_own_arguments.false) (marks_add.nothing marks))

pub returns-then-names_own_arguments : goal.returns-then-names_own_arguments
returns-then-names_own_arguments c =
    let old = c.args.marks.now.items in
    let new = c.mark_names.new.marks.items in
    own_reached c.args.strict c.args.node.now c.shape.result.now c.is_sloppy_function.result c.names_own_arguments.result c.parts.result.now c.params-item.result c.body-item.result old new
    c.shape.ensures c.is_sloppy_function.ensures c.if-is_sloppy_function.true c.parts.ensures.value c.in-len3-up.len_at_least c.params-item.is c.body-item.is c.names_own_arguments.ensures
    (subst (λ v. Marked (if v then bound_names c.params-item.result else []) old new) (sym c.if-names_own_arguments.true) c.mark_names.ensures)
