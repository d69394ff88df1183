use Rattle.std.proofs.lemmas.Result.{IfOk-weaker}
use Rattle.mini_laws.specs.Writable.{writable_in}
use Rattle.mini_replay.proofs.Checks.{judged, upheld}
use Rattle.mini_replay.proofs.checking.check_by.Goals as goal

pub returns-clause-judged : goal.returns-clause-judged
returns-clause-judged g c = λ s W e. IfOk-weaker c.replay.result _ _ (λ v k. judged (g.M.Making.makes c.args.rows.now) s W c.args.program.now c.replay.new.program c.args.log.now v e k) c.replay.ensures

pub returns-clause-upheld : goal.returns-clause-upheld
returns-clause-upheld g c = λ o e shaped.
    IfOk-weaker c.replay.result _ _
    (λ v k.
    upheld c.accepted_logs_keep.ensures.keeps c.accepted_logs_keep.ensures.lighter o c.args.program.now c.replay.new.program c.args.log.now v shaped
    (judged (g.M.Making.makes c.args.rows.now) o.sequences (writable_in c.args.program.now) c.args.program.now c.replay.new.program c.args.log.now v e k))
    c.replay.ensures
