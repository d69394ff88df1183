use Rattle.std.proofs.Common.{arith, refl}
use Rattle.mini_context.proofs.context.TraverseCtx.drop_statement.Goals as goal

pub returns : goal.returns
returns g c = record {
  reads = c.count_out.ensures.reads;
  writes = c.count_out.ensures.writes;
  rest = c.count_out.ensures.rest;
  steps = omega (arith, c.count_out.ensures.steps);
  changes = refl;
  options = refl;
  parent = refl;
}
