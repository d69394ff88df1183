use Rattle.std.proofs.Common.{sym}
use Rattle.mini_stmt.specs.JoinLets.{marked}
use Rattle.mini_stmt.proofs.LetJoins.{put_apart, put_joined, last_may, some_last}
use Rattle.mini_stmt.proofs.rewrites.join_lets.put_joined.Goals as goal

pub returns-then-not-joins_last : goal.returns-then-not-joins_last
returns-then-not-joins_last c = put_apart (marked c.args.scopes.now) c.args.before.now c.args.statement c.push.new.self (sym c.if-not-joins_last.ensures) c.in_ok-push.ensures.ok

pub take_last-last-requires : goal.take_last-last-requires
take_last-last-requires c = some_last (marked c.args.scopes.now) c.args.before.now c.args.statement (sym c.if-not-joins_last.ensures)

pub join_let-requires : goal.join_let-requires
join_let-requires c = last_may (marked c.args.scopes.now) c.args.before.now c.take_last-last.new.list c.take_last-last.result c.args.statement (sym c.if-not-joins_last.ensures) c.take_last-last.ensures

pub returns : goal.returns
returns c =
    put_joined (marked c.args.scopes.now) c.args.before.now c.take_last-last.new.list c.take_last-last.result c.args.statement c.in_ok-declared.declared c.in_ok-declared.left c.push-2.new.self c.append.new.self
    (sym c.if-not-joins_last.ensures) c.take_last-last.ensures c.in_ok-declared.ensures c.in_ok-push-2.ensures.ok c.in_ok-append.ensures.ok.0
