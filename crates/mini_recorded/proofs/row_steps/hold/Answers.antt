use Rattle.std.proofs.Common.{sym, subst}
use Rattle.std.specs.Prelude.{IfOk}
use Rattle.std.proofs.lemmas.Result.{IfOk-weaker}
use Rattle.mini_log.specs.RowStep.{first_lighter, held_forms}
use Rattle.mini_checker.specs.Made.{Made}
use Rattle.mini_recorded.proofs.Stepping.{nothing_held}
use Rattle.mini_recorded.proofs.row_steps.hold.Goals as goal

pub returns-in-Row61 : goal.returns-in-Row61
returns-in-Row61 c =
    subst (λ r. Made (first_lighter c.args.place c.args.node.now (held_forms c.args.sequences r c.args.place c.args.node.now c.args.index)) c.args.node.now c.row_61.new.node c.row_61.result) (sym c.in-Row61.is) (c.row_61.ensures c.args.sequences)

pub returns-in-Row66 : goal.returns-in-Row66
returns-in-Row66 c =
    subst (λ r. IfOk c.row_66.result (Made (first_lighter c.args.place c.args.node.now (held_forms c.args.sequences r c.args.place c.args.node.now c.args.index)) c.args.node.now c.row_66.new.node)) (sym c.in-Row66.is) c.row_66.ensures

pub returns-in-Row79 : goal.returns-in-Row79
returns-in-Row79 c =
    IfOk-weaker c.row_79.result _ _
    (λ b m. subst (λ r. Made (first_lighter c.args.place c.args.node.now (held_forms c.args.sequences r c.args.place c.args.node.now c.args.index)) c.args.node.now c.row_79.new.node b) (sym c.in-Row79.is) (m c.args.sequences))
    c.row_79.ensures

pub returns-in_default : goal.returns-in_default
returns-in_default c = nothing_held c.args.sequences c.args.row c.args.place c.args.node.now c.args.index c.in_default.not-Row61 c.in_default.not-Row66 c.in_default.not-Row79
