use Rattle.std.proofs.Common.{◌∙◌, ap, refl, sym, arith}
use Rattle.mini_unused.specs.RemoveUnusedDeclaration.{may_declare, is_lexical_shape}
use Rattle.mini_past.proofs.NextPlaces.{none_of, of_statement}
use Rattle.mini_past.proofs.next_declarators.next_of.Goals as goal

pub returns-then-not-may_declare : goal.returns-then-not-may_declare
returns-then-not-may_declare g c = none_of (g.S.SteadyNames.sets c.args.steady.now c.args.body) (g.S.PastNames.lets c.args.steady.now) c.args.outside.now c.args.statements.now c.args.at (sym (c.if-not-may_declare.ensures.kind ∙ ap (may_declare c.args.outside.now) c.child-statement.ensures.value))

pub returns : goal.returns
returns g c =
    let one = c.if-not-may_declare.ensures.list refl in
    of_statement (g.S.SteadyNames.sets c.args.steady.now c.args.body) (g.S.PastNames.lets c.args.steady.now) c.args.outside.now c.args.statements.now c.args.at c.child-statement.result.now c.child.result.now c.is_lexical-is_free.result c.next_in.result
    c.child-statement.ensures.value (sym c.if-not-may_declare.ensures.kind) (omega (arith, one)) c.child.ensures.value (c.is_lexical-is_free.ensures ∙ ap is_lexical_shape c.shape.ensures) c.next_in.ensures
