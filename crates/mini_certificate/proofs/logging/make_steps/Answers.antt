use Rattle.std.proofs.Common.{◌≡◌, ◌<◌, sym, subst}
use Rattle.std.specs.Prelude.{Some, length}
use Rattle.mini_accept.specs.WellShaped.{IsWellShaped}
use Rattle.mini_laws.specs.Writable.{writable_in}
use Rattle.mini_kept.proofs.SameShape.{shaped_resolved}
use Rattle.mini_log.specs.RowStep.{replayed}
use Rattle.mini_context.specs.Known.{Knows}
use Rattle.mini_replay.specs.Checking.{NoStepLeft, Upheld, entries}
use Rattle.mini_certificate.proofs.Steps.{knows_first}
use Rattle.mini_certificate.proofs.logging.make_steps.Goals as goal

pub log_rows-requires-clause-known : goal.log_rows-requires-clause-known
log_rows-requires-clause-known c = (c.args.options.now, knows_first c.in_ok-scopes.scopes c.new-context.result c.args.options.now c.args.tree.now c.resolve.new.program c.new-context.ensures.scopes c.new-context.ensures.options c.in_ok-scopes.ensures.scopes)

pub log_rows-requires-clause-shaped : goal.log_rows-requires-clause-shaped
log_rows-requires-clause-shaped c = subst IsWellShaped (sym c.in_ok-scopes.ensures.resolved) (shaped_resolved c.args.tree.now c.requires.shaped)

pub returns-clause-replays : goal.returns-clause-replays
returns-clause-replays c =
    let knows : Knows c.new-context.result c.args.options.now c.resolve.new.program = knows_first c.in_ok-scopes.scopes c.new-context.result c.args.options.now c.args.tree.now c.resolve.new.program c.new-context.ensures.scopes c.new-context.ensures.options c.in_ok-scopes.ensures.scopes in
    subst (λ t. replayed c.args.options.now.sequences (writable_in t) t (entries c.in_ok-log.log) ≡ Some c.log_rows.new.program) c.in_ok-scopes.ensures.resolved (c.in_ok-log.ensures.replays c.args.options.now knows)

pub returns-clause-all : goal.returns-clause-all
returns-clause-all c =
    let knows : Knows c.new-context.result c.args.options.now c.resolve.new.program = knows_first c.in_ok-scopes.scopes c.new-context.result c.args.options.now c.args.tree.now c.resolve.new.program c.new-context.ensures.scopes c.new-context.ensures.options c.in_ok-scopes.ensures.scopes in
    subst (λ t. length c.in_ok-log.log < 4294967295 → NoStepLeft c.args.options.now.sequences (writable_in t) c.log_rows.new.program) c.in_ok-scopes.ensures.resolved (c.in_ok-log.ensures.all c.args.options.now knows)

pub returns-clause-upheld : goal.returns-clause-upheld
returns-clause-upheld c =
    let knows : Knows c.new-context.result c.args.options.now c.resolve.new.program = knows_first c.in_ok-scopes.scopes c.new-context.result c.args.options.now c.args.tree.now c.resolve.new.program c.new-context.ensures.scopes c.new-context.ensures.options c.in_ok-scopes.ensures.scopes in
    subst (λ t. Upheld c.args.options.now t c.log_rows.new.program (length c.in_ok-log.log)) c.in_ok-scopes.ensures.resolved (c.in_ok-log.ensures.upheld c.args.options.now knows)
