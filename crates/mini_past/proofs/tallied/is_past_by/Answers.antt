use Rattle.std.proofs.Common.{◌≡◌, ◌-◌, ◌∙◌, true, sym, ap, arith}
use Rattle.mini_model.specs.Tree.{children, count}
use Rattle.mini_unused.specs.RemoveUnusedDeclaration.{is_lexical_shape}
use Rattle.mini_unused.specs.SubstituteSingleUse.{last_place}
use Rattle.mini_past.proofs.Places.{last_is, past_by}
use Rattle.mini_past.proofs.StillTold.{there_told}
use Rattle.mini_past.proofs.tallied.is_past_by.Goals as goal

pub returns-clause-past : goal.returns-clause-past
returns-clause-past g c = λ e.
    let counted = c.len-count.ensures ∙ ap count c.children.ensures in
    let last : c.len-count.result - 1 ≡ last_place (children c.child-list.result.now) = omega (arith, counted, last_is (children c.child-list.result.now) (omega (arith, counted))) in
    sym (past_by (g.S.SteadyNames.sets c.args.steady.now c.args.body) (g.S.PastNames.lets c.args.steady.now) c.args.outside.now c.args.statements.now c.args.at c.child-statement.result.now c.child-list.result.now (c.len-count.result - 1) c.is_lexical-is_free.result true c.child-statement.ensures.value (sym c.if-not-may_declare.ensures.kind) c.child-list.ensures.value last (c.is_lexical-is_free.ensures ∙ ap is_lexical_shape c.shape.ensures) (sym (c.is_read_by.ensures e)))

pub is_read_by-requires-clause-told : goal.is_read_by-requires-clause-told
is_read_by-requires-clause-told g c =
    let counted = c.len-count.ensures ∙ ap count c.children.ensures in
    let last : c.len-count.result - 1 ≡ last_place (children c.child-list.result.now) = omega (arith, counted, last_is (children c.child-list.result.now) (omega (arith, counted))) in
    there_told c.args.lets.now c.args.statements.now c.args.at _ c.child-statement.result.now c.child-list.result.now c.child-statement.ensures.value c.child-list.ensures.value last c.requires.told
