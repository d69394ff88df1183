use Rattle.std.proofs.Common.{arith}
use Rattle.std.proofs.lemmas.Result.{IfOk-weaker}
use Rattle.mini_replay.proofs.Searches.{beside_found, none_yet, none_next, none_all}
use Rattle.mini_replay.proofs.seeking.seek_between.Goals as goal

pub loop-index-init : goal.loop-index-init
loop-index-init g c = none_yet (g.S.Making.makes c.args.rows.now) c.args.place c.args.node.now c.args.spot.first

pub loop-index-preserved : goal.loop-index-preserved
loop-index-preserved g c =
    none_next (g.S.Making.makes c.args.rows.now) c.args.place c.args.node.now c.args.spot.first c.loop-index.index c.in_ok-beside.field-0 c.in-None.is c.in_ok-beside.ensures c.loop-index.invariant

pub returns-in-Some : goal.returns-in-Some
returns-in-Some g c = λ within.
    IfOk-weaker c.found_beside.result _ _
    (λ o is.
    beside_found (g.S.Making.makes c.args.rows.now) c.args.place c.args.node.now c.args.base c.loop-index.index c.args.spot.first c.args.spot.end c.in-Some.beside c.in_ok-beside.field-0 o (omega (arith, within)) c.in-Some.is c.in_ok-beside.ensures is)
    c.found_beside.ensures

pub returns : goal.returns
returns g c = λ within. none_all (g.S.Making.makes c.args.rows.now) c.args.place c.args.node.now c.args.spot.first c.loop-index.index c.args.spot.end (omega arith) c.loop-index.invariant
