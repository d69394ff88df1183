use Rattle.std.proofs.Common.{◌-◌, ◌≤◌}
use Rattle.mini_context.specs.Known.{Knows}
use Rattle.mini_shaken.proofs.Turning.{SoFar}
use Rattle.mini_shaken.proofs.shake.shake.Given as goal

abbrev pub invariant-turns : goal.invariant-turns
invariant-turns l = record {
  known : Knows l.context l.fn.options l.tree;
  so_far : SoFar l.fn.options l.fn.tree l.tree l.passes;
  within : l.passes ≤ l.bound;
}

abbrev pub decreases-turns : goal.decreases-turns
decreases-turns l = l.bound - l.passes
