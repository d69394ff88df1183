use Rattle.std.proofs.Common.{◌∙◌, sym}
use Rattle.mini_stmt.specs.MinimizeStatements.{switches_of}
use Rattle.mini_stmt.proofs.Assignments.{put_apart, put_headed, last_some}
use Rattle.mini_stmt.proofs.rewrites.join_assignments.put_headed.Goals as goal

pub returns-then-not-heads_last : goal.returns-then-not-heads_last
returns-then-not-heads_last c = put_apart (switches_of c.args.options) c.args.before.now c.args.statement c.push.new.self c.requires (sym c.heads_last.ensures.kind ∙ c.if-not-heads_last.true) c.in_ok-push.ensures.ok

pub take_last-last-requires : goal.take_last-last-requires
take_last-last-requires c = last_some (switches_of c.args.options) c.args.before.now c.args.statement (sym c.heads_last.ensures.kind ∙ c.if-not-heads_last.false)

pub returns : goal.returns
returns c =
    put_headed (switches_of c.args.options) c.args.before.now c.take_last-last.new.list c.take_last-last.result c.args.statement c.over_child.result c.push-2.new.self (sym c.heads_last.ensures.kind ∙ c.if-not-heads_last.false) c.take_last-last.ensures c.over_child.ensures c.in_ok-push-2.ensures.ok
