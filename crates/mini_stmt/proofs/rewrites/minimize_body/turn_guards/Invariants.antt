use Rattle.std.proofs.Common.{◌≡◌, true}
use Rattle.mini_model.specs.declared.place.Position.TheVariants.{BodyList}
use Rattle.mini_model.specs.Tree.{listed}
use Rattle.mini_model.specs.Weight.{weight}
use Rattle.mini_rows.specs.Switches.{Switches}
use Rattle.mini_stmt.specs.MinimizeBody.{Turns}
use Rattle.mini_stmt.proofs.rewrites.minimize_body.turn_guards.Given as goal

abbrev pub invariant-turning : goal.invariant-turning
invariant-turning l = (o : Switches) → o.sequences ≡ true → Turns o l.fn.list l.list l.changed

abbrev pub decreases-turning : goal.decreases-turning
decreases-turning l = weight BodyList (listed l.list)
