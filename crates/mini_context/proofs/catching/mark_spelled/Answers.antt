use Rattle.std.proofs.Common.{◌∙◌, ◌+◌, subst, sym, take}
use Rattle.mini_laws.specs.Shared.{spelled_among}
use Rattle.mini_context.specs.Tables.{Marked}
use Rattle.std.proofs.lemmas.List.{take_all}
use Rattle.mini_context.proofs.Marking.{marks_add}
use Rattle.mini_context.proofs.Spellings.{spelled_in, spelled_out}
use Rattle.mini_context.proofs.catching.mark_spelled.Goals as goal
use Rattle.mini_context.proofs.catching.mark_spelled.Goals.{then-has, else-has}

pub loop-name-preserved : goal.loop-name-preserved
loop-name-preserved c xs f =
    let y = c.name-item.result in
    let told = c.has.ensures ∙ f y.spelling in
    elim c.if-has.branch as (λ x. Marked (spelled_among xs (take (c.loop-name.name-index + 1) c.args.names.now)) c.args.marks.now.items c.if-has.marks.items) [
      | then-has w ↦ subst (λ m. Marked (spelled_among xs (take (c.loop-name.name-index + 1) c.args.names.now)) c.args.marks.now.items m.items) (sym w.marks-is) (spelled_in xs c.args.names.now c.loop-name.name-index y c.has.result _ _ _ c.loop-name-test.true c.name-item.is told w.if-has.true (c.loop-name.invariant xs f) w.mark_name.ensures)
      | else-has w ↦ subst (λ m. Marked (spelled_among xs (take (c.loop-name.name-index + 1) c.args.names.now)) c.args.marks.now.items m.items) (sym w.marks-is) (spelled_out xs c.args.names.now c.loop-name.name-index y c.has.result _ _ c.loop-name-test.true c.name-item.is told w.if-has.false (c.loop-name.invariant xs f))
    ]

pub loop-name-init : goal.loop-name-init
loop-name-init c xs f = marks_add.nothing c.args.marks.now.items

pub returns : goal.returns
returns c xs f = subst (λ ns. Marked (spelled_among xs ns) c.args.marks.now.items c.loop-name.marks.items) (take_all c.loop-name.name-index c.args.names.now c.loop-name-test.false) (c.loop-name.invariant xs f)
