-- A step of the rule of lists makes the whole lighter, and so does one of guards in the bodies of
-- loops, or of a `let` and an assignment.
use Rattle.mini_model.specs.Tree.{Tree}
use Rattle.mini_laws.proofs.Lighter.{any_step_lighter}
use Rattle.mini_laws.specs.Writable.{writable_in}
use Rattle.mini_rows.specs.Lets.{LetContracts}
use Rattle.mini_rows.specs.Lists.{ListContracts}
use Rattle.mini_rows.specs.LoopGuards.{LoopGuardContracts}
use Rattle.mini_rows.proofs.LetWeights.{lets_lighten}
use Rattle.mini_rows.proofs.ListWeights.{lists_lighten}
use Rattle.mini_rows.proofs.LoopGuardWeights.{loop_guards_lighten}
use Rattle.mini_tree.specs.Rule.{AreLighter, IsLighter}
use Rattle.mini_stmt.specs.MinimizeStatements.{switches_of, Gives}
use Rattle.mini_stmt.specs.TurnLoopGuards.{GivesLoops}

pub lists_lighter : AreLighter Gives
lists_lighter o q = any_step_lighter (ListContracts (switches_of o)) (lists_lighten (switches_of o))

pub loops_lighter : AreLighter GivesLoops
loops_lighter o q = any_step_lighter (LoopGuardContracts (switches_of o)) (loop_guards_lighten (switches_of o))

pub lets_lighter : (q : Tree) → IsLighter (LetContracts (writable_in q))
lets_lighter q = any_step_lighter (LetContracts (writable_in q)) (lets_lighten (writable_in q))
