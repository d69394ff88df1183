use Rattle.std.proofs.Common.{◌∙◌, ap, sym}
use Rattle.mini_model.specs.Tree.{children}
use Rattle.mini_past.proofs.StillTold.{placed_told}
use Rattle.mini_past.proofs.sweeping.places_for.Goals as goal

pub returns-in-Ok : goal.returns-in-Ok
returns-in-Ok c =
    placed_told c.in-Ok.first c.args.list.now c.child-statement.result.now _ c.children-declarators.result.now c.args.at c.children-2.ensures c.child-statement.ensures.value
    (c.children-declarators.ensures ∙ ap children c.child.ensures.value) (sym c.if-not-declares_list.ensures.kind) c.in-Ok.ensures
