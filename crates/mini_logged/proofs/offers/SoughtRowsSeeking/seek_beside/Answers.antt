use Rattle.std.proofs.Common.{sym, subst}
use Rattle.mini_log.specs.RowStep.{row_at}
use Rattle.mini_checker.specs.Forms.{marked}
use Rattle.mini_replay.specs.Seeking.{MadeBeside}
use Rattle.mini_logged.proofs.Offered.{beside_made}
use Rattle.mini_logged.proofs.offers.SoughtRowsSeeking.seek_beside.Goals as goal

pub returns : goal.returns
returns c =
    subst (MadeBeside (row_at c.args.self.now.steps.sequences (marked c.args.self.now.steps.scopes.now.writable)) c.args.place c.args.node.now c.args.index) (sym c.offer.ensures)
    (beside_made c.args.self.now.steps.sequences (marked c.args.self.now.steps.scopes.now.writable) c.args.place c.args.node.now c.args.index)
