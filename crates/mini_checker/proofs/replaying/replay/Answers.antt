use Rattle.std.proofs.Common.{◌∙◌, ap, sym, subst}
use Rattle.mini_checker.specs.Made.{Made}
use Rattle.mini_checker.specs.Checked.{StopsAt, entry_step_by, replayed_by}
use Rattle.mini_checker.proofs.Replays.{replay_next, replay_all, stopped}
use Rattle.mini_checker.proofs.replaying.replay.Goals as goal

pub loop-at-preserved : goal.loop-at-preserved
loop-at-preserved g c =
    let F = g.M.Making.makes c.args.making.now in
    replay_next F c.args.program.now c.loop-at.program c.make_entry.new.program c.as_slice-entries.result.now c.loop-at.at c.index-entries-at.result c.loop-at-test.true c.index-entries-at.is c.loop-at.invariant
    (subst (λ b. Made (entry_step_by F c.loop-at.program c.index-entries-at.result) c.loop-at.program c.make_entry.new.program b) c.if-not-branch.false c.in_ok-make_entry.ensures)

pub returns-then-not-branch : goal.returns-then-not-branch
returns-then-not-branch g c =
    let F = g.M.Making.makes c.args.making.now in
    subst (λ log. StopsAt F c.args.program.now c.make_entry.new.program log c.loop-at.at) c.as_slice-entries.ensures
    (stopped F c.args.program.now c.loop-at.program c.make_entry.new.program c.as_slice-entries.result.now c.loop-at.at c.index-entries-at.result c.loop-at-test.true c.index-entries-at.is c.loop-at.invariant
    (subst (λ b. Made (entry_step_by F c.loop-at.program c.index-entries-at.result) c.loop-at.program c.make_entry.new.program b) c.if-not-branch.true c.in_ok-make_entry.ensures))

pub returns : goal.returns
returns g c =
    let F = g.M.Making.makes c.args.making.now in
    sym (ap (replayed_by F c.args.program.now) c.as_slice-entries.ensures) ∙ replay_all F c.args.program.now c.loop-at.program c.as_slice-entries.result.now c.loop-at.at c.loop-at-test.false c.loop-at.invariant
