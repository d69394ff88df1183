use Rattle.std.proofs.lemmas.Result.{IfOk-weaker}
use Rattle.mini_laws.specs.Writable.{writable_in}
use Rattle.mini_replay.proofs.Checks.{replays, nothing_left, upheld_by}
use Rattle.mini_replay.proofs.checking.log_rows_by.Goals as goal

pub returns-clause-replays : goal.returns-clause-replays
returns-clause-replays g c = λ s W e. IfOk-weaker c.log_by.result _ _ (λ log r. replays (g.S.Making.makes c.args.rows.now) s W c.args.program.now c.log_by.new.program log e r) c.log_by.ensures.replays

pub returns-clause-all : goal.returns-clause-all
returns-clause-all g c = λ s W e. IfOk-weaker c.log_by.result _ _ (λ log f short. nothing_left (g.S.Making.makes c.args.rows.now) s W c.log_by.new.program e (f short)) c.log_by.ensures.all

pub returns-clause-upheld : goal.returns-clause-upheld
returns-clause-upheld g c = λ o e shaped.
    IfOk-weaker c.log_by.result _ _
    (λ log r.
    upheld_by c.accepted_logs_keep.ensures.keeps c.accepted_logs_keep.ensures.lighter o c.args.program.now c.log_by.new.program log shaped
    (replays (g.S.Making.makes c.args.rows.now) o.sequences (writable_in c.args.program.now) c.args.program.now c.log_by.new.program log e r))
    c.log_by.ensures.replays
