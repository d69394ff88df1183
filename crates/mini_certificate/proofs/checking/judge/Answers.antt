use Rattle.std.proofs.Common.{sym, subst}
use Rattle.mini_accept.specs.WellShaped.{IsWellShaped}
use Rattle.mini_laws.specs.Writable.{writable_in}
use Rattle.mini_kept.proofs.SameShape.{shaped_resolved}
use Rattle.mini_context.specs.Known.{Knows}
use Rattle.mini_replay.specs.Checking.{Judged, Upheld, made_by}
use Rattle.mini_certificate.proofs.Steps.{knows_first}
use Rattle.mini_certificate.proofs.checking.judge.Goals as goal

pub check_log-requires-clause-known : goal.check_log-requires-clause-known
check_log-requires-clause-known c = (c.args.options.now, knows_first c.in_ok-scopes.scopes c.new-context.result c.args.options.now c.args.tree.now c.resolve.new.program c.new-context.ensures.scopes c.new-context.ensures.options c.in_ok-scopes.ensures.scopes)

pub check_log-requires-clause-shaped : goal.check_log-requires-clause-shaped
check_log-requires-clause-shaped c = subst IsWellShaped (sym c.in_ok-scopes.ensures.resolved) (shaped_resolved c.args.tree.now c.requires.shaped)

pub returns-clause-judged : goal.returns-clause-judged
returns-clause-judged c =
    let knows : Knows c.new-context.result c.args.options.now c.resolve.new.program = knows_first c.in_ok-scopes.scopes c.new-context.result c.args.options.now c.args.tree.now c.resolve.new.program c.new-context.ensures.scopes c.new-context.ensures.options c.in_ok-scopes.ensures.scopes in
    subst (λ t. Judged c.args.options.now.sequences (writable_in t) t c.check_log.new.program c.args.log.now c.in_ok-verdict.verdict) c.in_ok-scopes.ensures.resolved (c.in_ok-verdict.ensures.judged c.args.options.now knows)

pub returns-clause-upheld : goal.returns-clause-upheld
returns-clause-upheld c =
    let knows : Knows c.new-context.result c.args.options.now c.resolve.new.program = knows_first c.in_ok-scopes.scopes c.new-context.result c.args.options.now c.args.tree.now c.resolve.new.program c.new-context.ensures.scopes c.new-context.ensures.options c.in_ok-scopes.ensures.scopes in
    subst (λ t. Upheld c.args.options.now t c.check_log.new.program (made_by c.args.log.now c.in_ok-verdict.verdict)) c.in_ok-scopes.ensures.resolved (c.in_ok-verdict.ensures.upheld c.args.options.now knows)
