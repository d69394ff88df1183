use Rattle.mini_replay.specs.Seeking.{NoneBeside}
use Rattle.mini_replay.proofs.seeking.seek_between.Given as goal

abbrev pub invariant-loop-index : goal.invariant-loop-index
invariant-loop-index g l = NoneBeside (g.S.Making.makes l.rows) l.place l.node l.fn.spot.first l.index
