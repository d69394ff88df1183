use Rattle.std.proofs.lemmas.Result.{IfOk-weaker}
use Rattle.mini_checker.specs.Forms.{marked}
use Rattle.mini_logged.proofs.Offered.{here_made}
use Rattle.mini_logged.proofs.offers.SoughtRowsSeeking.seek_here.Goals as goal

pub returns : goal.returns
returns c =
    IfOk-weaker c.first_offered.result _ _
    (λ o h. here_made c.args.self.now.steps.sequences (marked c.args.self.now.steps.scopes.now.writable) c.args.place c.args.node.now o h)
    c.first_offered.ensures
