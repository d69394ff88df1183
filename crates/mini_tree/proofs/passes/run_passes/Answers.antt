use Rattle.std.proofs.Common.{arith}
use Rattle.mini_tree.proofs.Passing.{so_far_none, so_far_more, settled_passes, stopped_passes}
use Rattle.mini_tree.proofs.passes.run_passes.Goals as goal

pub passes-init : goal.passes-init
passes-init g c = record { known = λ o k. k; so_far = λ o k. so_far_none (g.R.Rule.gives o) (g.R.Rule.rests o) c.args.program.now; within = omega arith }

pub passes-preserved : goal.passes-preserved
passes-preserved g c = record {
  known = λ o k. let now = c.passes.invariant.known o k in c.in_ok-refresh.ensures o _ (c.in_ok-walk.ensures.known o c.passes.program now);
  so_far = λ o k.
      let now = c.passes.invariant.known o k in
      so_far_more (g.R.Rule.gives o) (g.R.Rule.rests o) c.args.program.now c.passes.program c.walk.new.node c.passes.passes _ (g.met.R.Rule.lighter o c.passes.program) (c.passes.invariant.so_far o k) (c.in_ok-walk.ensures.walked o c.passes.program now) c.if-branch.true;
  within = omega arith;
}

pub returns-then-passes-bound : goal.returns-then-passes-bound
returns-then-passes-bound g c = λ o k.
    let now = c.passes.invariant.known o k in
    stopped_passes (g.R.Rule.gives o) (g.R.Rule.rests o) c.args.program.now c.passes.program c.walk.new.node c.passes.passes _ _ (g.met.R.Rule.lighter o c.passes.program) (c.passes.invariant.so_far o k) (omega (arith, c.passes.invariant.within)) (omega arith) (c.in_ok-walk.ensures.walked o c.passes.program now) c.if-branch.true

pub returns : goal.returns
returns g c = λ o k.
    let now = c.passes.invariant.known o k in
    settled_passes (g.R.Rule.gives o) (g.R.Rule.rests o) c.args.program.now c.passes.program c.walk.new.node c.passes.passes _ _ (c.passes.invariant.so_far o k) (omega (arith, c.passes.invariant.within)) (c.in_ok-walk.ensures.walked o c.passes.program now) c.if-branch.false
