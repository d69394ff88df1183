use Rattle.std.proofs.Common.{◌∷◌, sym, subst}
use Rattle.std.specs.Prelude.{IfOk}
use Rattle.mini_log.specs.RowStep.{row_at}
use Rattle.mini_checker.specs.Forms.{marked}
use Rattle.mini_checker.specs.Made.{Made}
use Rattle.mini_checker.proofs.Walks.{no_index}
use Rattle.mini_recorded.proofs.row_steps.RowStepsMaking.make_above.Goals as goal

pub returns-in-Some : goal.returns-in-Some
returns-in-Some c =
    subst (λ q. Made (row_at c.args.self.now.sequences (marked c.args.self.now.scopes.now.writable) c.args.row c.args.place c.args.node.now (c.args.index ∷ q)) c.args.node.now c.export_above.new.node c.export_above.result) (sym c.in-Some.ensures.cases.0)
    (c.export_above.ensures c.args.self.now.sequences (marked c.args.self.now.scopes.now.writable))

pub returns-in-None : goal.returns-in-None
returns-in-None c =
    subst (λ q. IfOk c.hold.result (Made (row_at c.args.self.now.sequences (marked c.args.self.now.scopes.now.writable) c.args.row c.args.place c.args.node.now (c.args.index ∷ q)) c.args.node.now c.hold.new.node)) (sym (no_index c.args.rest.now (sym c.in-None.ensures.cases)))
    c.hold.ensures
