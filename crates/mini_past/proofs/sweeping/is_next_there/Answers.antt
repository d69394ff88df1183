use Rattle.std.proofs.Common.{◌<◌, ◌+◌, ◌∙◌, refl, ap, sym, arith}
use Rattle.std.specs.Prelude.{Some}
use Rattle.mini_model.specs.Tree.{children, count}
use Rattle.mini_unused.specs.RemoveUnusedDeclaration.{is_lexical_shape}
use Rattle.mini_past.proofs.NextPlaces.{of_statement}
use Rattle.mini_past.proofs.StillTold.{listed_told}
use Rattle.mini_past.proofs.sweeping.is_next_there.Goals as goal

pub returns : goal.returns
returns g c = λ e.
    let one = c.if-not-may_declare.ensures.list refl in
    let within : c.args.which + 1 < count (children c.child-list.result.now) = omega (arith, c.if-which-len.false, c.len.ensures, ap count c.children.ensures) in
    of_statement (g.S.SteadyNames.sets c.args.steady.now c.args.body) (g.S.PastNames.lets c.args.steady.now) c.args.outside.now c.args.statements.now c.args.at c.child-statement.result.now c.child-list.result.now c.is_lexical-is_free.result (Some c.args.which)
    c.child-statement.ensures.value (sym c.if-not-may_declare.ensures.kind) (omega (arith, one)) c.child-list.ensures.value (c.is_lexical-is_free.ensures ∙ ap is_lexical_shape c.shape.ensures) (omega (arith, within), c.is_next_by.ensures e)

pub is_next_by-requires-clause-told : goal.is_next_by-requires-clause-told
is_next_by-requires-clause-told g c = listed_told c.args.lets.now c.args.statements.now c.args.at c.args.which c.child-statement.result.now c.child-list.result.now c.child-statement.ensures.value c.child-list.ensures.value c.requires.told

pub is_next_by-requires-clause-tallied : goal.is_next_by-requires-clause-tallied
is_next_by-requires-clause-tallied g c = c.requires.tallied
