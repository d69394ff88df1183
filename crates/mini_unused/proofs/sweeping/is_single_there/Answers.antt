use Rattle.std.proofs.Common.{◌≡◌, ◌∙◌, ap, sym, arith}
use Rattle.mini_model.specs.Tree.{children, count}
use Rattle.std.proofs.Common.{◌+◌}
use Rattle.mini_unused.specs.RemoveUnusedDeclaration.{is_lexical_shape, allowed, open_in}
use Rattle.mini_unused.proofs.Swept.{single_there, some_declarator}
use Rattle.mini_unused.proofs.sweeping.is_single_there.Goals as goal

pub returns-clause-single : goal.returns-clause-single
returns-clause-single c = λ e.
    let last : c.args.which + 1 ≡ count (children c.child-list.result.now) = omega (arith, c.if-which-len.false, c.len.ensures, ap count c.children.ensures) in
    single_there (open_in c.args.outside.now (allowed c.args.context.now)) c.args.outside.now c.args.statements.now c.args.at c.args.which c.child-statement.result.now c.child-list.result.now c.is_lexical.result
    c.child-statement.ensures.value (sym c.if-not-may_declare.ensures.kind) c.child-list.ensures.value last (c.is_lexical.ensures ∙ ap is_lexical_shape c.shape.ensures)
    (sym c.if-not-may_move_there.ensures) (c.is_read_there.ensures e)

pub returns-clause-declarators : goal.returns-clause-declarators
returns-clause-declarators c = λ e.
    let last : c.args.which + 1 ≡ count (children c.child-list.result.now) = omega (arith, c.if-which-len.false, c.len.ensures, ap count c.children.ensures) in
    some_declarator c.args.statements.now c.args.at c.args.which c.child-statement.result.now c.child-list.result.now c.child-statement.ensures.value c.child-list.ensures.value last
