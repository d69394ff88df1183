use Rattle.std.proofs.Common.{sym, ◌∙◌}
use Rattle.mini_steady.specs.Declarations.{known_of}
use Rattle.mini_steady.proofs.IdleRows.{with_this, without_this}
use Rattle.mini_steady.proofs.idle.drop_idle_parts.Goals as goal

pub returns-then-not-has_this : goal.returns-then-not-has_this
returns-then-not-has_this g c = without_this (known_of (g.S.SteadyNames.sets c.args.steady.now) c.args.body.now) c.args.seat c.args.node.now (sym c.has_this.ensures ∙ c.if-not-has_this.true)

pub returns : goal.returns
returns g c = with_this (known_of (g.S.SteadyNames.sets c.args.steady.now) c.args.body.now) c.args.seat c.args.node.now _ _ (sym c.has_this.ensures ∙ c.if-not-has_this.false) c.in_ok-changed.ensures
