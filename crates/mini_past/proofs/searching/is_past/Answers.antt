use Rattle.std.proofs.Common.{◌≡◌, ◌-◌, ◌∙◌, sym, ap, arith}
use Rattle.mini_model.specs.Tree.{children, count}
use Rattle.mini_unused.specs.RemoveUnusedDeclaration.{is_lexical_shape}
use Rattle.mini_unused.specs.SubstituteSingleUse.{last_place}
use Rattle.mini_past.proofs.Places.{last_is, past_by}
use Rattle.mini_past.proofs.StillTold.{there_told}
use Rattle.mini_past.proofs.searching.is_past.Goals as goal

pub returns-clause-past : goal.returns-clause-past
returns-clause-past g c =
    let counted = c.len-count.ensures ∙ ap count c.children.ensures in
    let last : c.len-count.result - 1 ≡ last_place (children c.child-list.result.now) = omega (arith, counted, last_is (children c.child-list.result.now) (omega (arith, counted))) in
    past_by (g.S.SteadyNames.sets c.args.steady.now c.args.body) (g.S.PastNames.lets c.args.steady.now) c.args.outside.now c.args.statements.now c.args.at c.child-statement.result.now c.child-list.result.now (c.len-count.result - 1) c.is_lexical-is_free.result c.is_past_declarator.result c.child-statement.ensures.value (sym c.if-not-may_declare.ensures.kind) c.child-list.ensures.value last (c.is_lexical-is_free.ensures ∙ ap is_lexical_shape c.shape.ensures) c.is_past_declarator.ensures

pub is_past_declarator-requires-clause-told : goal.is_past_declarator-requires-clause-told
is_past_declarator-requires-clause-told g c =
    let counted = c.len-count.ensures ∙ ap count c.children.ensures in
    let last : c.len-count.result - 1 ≡ last_place (children c.child-list.result.now) = omega (arith, counted, last_is (children c.child-list.result.now) (omega (arith, counted))) in
    there_told c.args.lets.now c.args.statements.now c.args.at _ c.child-statement.result.now c.child-list.result.now c.child-statement.ensures.value c.child-list.ensures.value last c.requires.told
