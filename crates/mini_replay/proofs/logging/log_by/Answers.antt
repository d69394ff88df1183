use Rattle.mini_replay.proofs.Entries.{next_longer, next_replays}
use Rattle.mini_replay.proofs.logging.log_by.Goals as goal

pub steps-preserved : goal.steps-preserved
steps-preserved g c =
    let F = g.S.Making.makes c.args.rows.now in
    record {
      replays =
          next_replays F c.args.program.now c.steps.program c.make_next.new.program c.steps.log c.make_next.new.log c.args.max_entries c.in_ok-make_next.field-0 c.in_ok-make_next.ensures c.steps.invariant.replays;
      bound = (next_longer F c.steps.program c.make_next.new.program c.steps.log c.make_next.new.log c.args.max_entries c.in_ok-make_next.field-0 c.if-branch-2.true c.in_ok-make_next.ensures).1;
    }
