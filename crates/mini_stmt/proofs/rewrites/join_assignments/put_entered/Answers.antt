use Rattle.mini_stmt.specs.MinimizeStatements.{switches_of}
use Rattle.mini_stmt.proofs.Assignments.{put_entered, last_there}
use Rattle.mini_stmt.proofs.rewrites.join_assignments.put_entered.Goals as goal

pub enter-requires : goal.enter-requires
enter-requires c = last_there c.args.before.now c.take_last-last.new.list c.take_last-last.result c.args.statement c.in-Some.at c.in-Some.ensures c.take_last-last.ensures

pub returns-in_ok-put_reversed-in-Some : goal.returns-in_ok-put_reversed-in-Some
returns-in_ok-put_reversed-in-Some c =
    put_entered (switches_of c.args.options) c.args.before.now c.take_last-last.new.list c.take_last-last.result c.args.statement c.in_ok-declared-in-Some.declared c.in_ok-declared-in-Some.left c.args.rest.now c.push.new.self c.put_reversed.new.rest
    c.take_last-last.ensures c.in_ok-declared-in-Some.ensures c.in_ok-push-in-Some.ensures.ok c.in_ok-put_reversed-in-Some.ensures.list c.in_ok-put_reversed-in-Some.ensures.nodes
