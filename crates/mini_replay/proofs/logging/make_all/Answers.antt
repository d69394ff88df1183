use Rattle.std.proofs.Common.{subst, arith}
use Rattle.mini_model.specs.declared.place.Position.TheVariants.{Elsewhere}
use Rattle.mini_log.specs.Walk.{step_at}
use Rattle.mini_replay.specs.Logged.{EnteredIf}
use Rattle.mini_replay.proofs.Entries.{one_further}
use Rattle.mini_replay.proofs.logging.make_all.Goals as goal

pub loop-at-preserved : goal.loop-at-preserved
loop-at-preserved g c =
    let F = g.S.Making.makes c.args.rows.now in
    one_further F c.args.program.now c.loop-at.program c.make_found.new.program c.args.log.now c.loop-at.log c.make_found.new.log c.args.max_entries c.loop-at.invariant (omega arith)
    (subst (λ b. EnteredIf F (step_at (F c.index-drafted-at.result.row) Elsewhere c.loop-at.program c.index-drafted-at.result.at) c.loop-at.program c.make_found.new.program c.loop-at.log c.make_found.new.log b) c.if-not-branch.false c.in_ok-make_found.ensures)
