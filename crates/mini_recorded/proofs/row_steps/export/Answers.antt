use Rattle.std.proofs.Common.{sym, subst}
use Rattle.mini_log.specs.RowStep.{export_forms, first_lighter}
use Rattle.mini_checker.specs.Made.{Made}
use Rattle.mini_recorded.proofs.Stepping.{exported_made, nothing_exported}
use Rattle.mini_recorded.proofs.row_steps.export.Goals as goal

pub returns-in-Row61 : goal.returns-in-Row61
returns-in-Row61 c =
    subst (λ r. Made (first_lighter c.args.place c.args.node.now (export_forms r c.args.place c.args.node.now c.args.index)) c.args.node.now c.bare_exported.new.node c.bare_exported.result) (sym c.in-Row61.is)
    (exported_made c.args.place c.args.node.now c.bare_exported.new.node c.args.index c.bare_exported.result c.bare_exported.ensures)

pub returns-in_default : goal.returns-in_default
returns-in_default c = nothing_exported c.args.row c.args.place c.args.node.now c.args.index c.in_default.not-Row61
