use Rattle.mini_kept.proofs.Each.{reaches_each, reaches_below}
use Rattle.mini_kept.proofs.rewriting_keeps_nodes.Goals as goal

pub returns-clause-anywhere : goal.returns-clause-anywhere
returns-clause-anywhere c f new p t u r = reaches_each f new r

pub returns-clause-program : goal.returns-clause-program
returns-clause-program c f new t u r = reaches_below f new (λ v w x. x) r
