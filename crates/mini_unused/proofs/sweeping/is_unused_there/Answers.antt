use Rattle.std.proofs.Common.{◌<◌, ◌∙◌, refl, ap, sym, arith}
use Rattle.mini_model.specs.Tree.{children, count}
use Rattle.mini_unused.specs.RemoveUnusedDeclaration.{is_lexical_shape, allowed, open_in}
use Rattle.mini_unused.proofs.Swept.{unused_there}
use Rattle.mini_unused.proofs.sweeping.is_unused_there.Goals as goal

pub returns : goal.returns
returns c = λ e.
    let one = c.if-not-may_declare.ensures.list refl in
    let within : c.args.which < count (children c.child-list.result.now) = omega (arith, c.if-which-len.false, c.len.ensures, ap count c.children.ensures) in
    unused_there (open_in c.args.outside.now (allowed c.args.context.now)) c.args.outside.now c.args.statements.now c.args.at c.args.which c.child-statement.result.now c.child-list.result.now c.is_lexical.result
    c.child-statement.ensures.value (sym c.if-not-may_declare.ensures.kind) (omega (arith, one)) c.child-list.ensures.value within (c.is_lexical.ensures ∙ ap is_lexical_shape c.shape.ensures)
    (sym c.if-not-may_go_there.ensures) (c.is_alone_there.ensures e)
