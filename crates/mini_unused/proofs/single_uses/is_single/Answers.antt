use Rattle.std.proofs.Common.{◌≡◌, ◌-◌, ◌∙◌, sym, ap, arith}
use Rattle.mini_model.specs.Tree.{children, count}
use Rattle.mini_unused.specs.RemoveUnusedDeclaration.{is_lexical_shape, allowed, open_in}
use Rattle.mini_unused.specs.SubstituteSingleUse.{last_place}
use Rattle.mini_unused.proofs.SingleUses.{last_is, single_by}
use Rattle.mini_unused.proofs.single_uses.is_single.Goals as goal

pub returns-clause-single : goal.returns-clause-single
returns-clause-single c =
    let counted = c.len-count.ensures ∙ ap count c.children.ensures in
    let last : c.len-count.result - 1 ≡ last_place (children c.child-list.result.now) = omega (arith, counted, last_is (children c.child-list.result.now) (omega (arith, counted))) in
    single_by (open_in c.args.outside.now (allowed c.args.context.now)) c.args.outside.now c.args.statements.now c.args.at c.child-statement.result.now c.child-list.result.now (c.len-count.result - 1) c.is_lexical-is_free.result c.is_single_declarator.result c.child-statement.ensures.value (sym c.if-not-may_declare.ensures.kind) c.child-list.ensures.value last (c.is_lexical-is_free.ensures ∙ ap is_lexical_shape c.shape.ensures) c.is_single_declarator.ensures
