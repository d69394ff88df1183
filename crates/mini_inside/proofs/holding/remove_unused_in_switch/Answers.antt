use Rattle.mini_model.specs.declared.place.Position.TheVariants.{Stmt}
use Rattle.mini_model.specs.declared.seat.StmtSeat.{StmtSeat}
use Rattle.mini_unused.specs.RemoveUnusedDeclaration.{allowed}
use Rattle.mini_inside.specs.Holding.{Applied, AppliedInCases}
use Rattle.mini_inside.proofs.Holders.{where_ok}
use Rattle.mini_inside.proofs.Switches.{of_switch}
use Rattle.mini_inside.proofs.holding.remove_unused_in_switch.Goals as goal

pub returns : goal.returns
returns c =
    let W = allowed c.args.context.now in
    where_ok c.remove_in_cases.result (λ changed. AppliedInCases W.switches c.args.node.now 0 c.remove_in_cases.new.node changed) (λ changed. (q : StmtSeat) → Applied W (Stmt q) c.args.node.now c.remove_in_cases.new.node changed)
    (λ changed r. of_switch W c.args.node.now c.remove_in_cases.new.node changed c.requires.switch r) c.remove_in_cases.ensures
