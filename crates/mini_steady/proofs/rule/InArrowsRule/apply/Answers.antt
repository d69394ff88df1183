use Rattle.std.proofs.Common.{◌∙◌, sym, subst₂}
use Rattle.mini_rows.specs.OwnArrows.{OwnArrow}
use Rattle.mini_tree.specs.declared.options.CompressOptions.{CompressOptions}
use Rattle.mini_tree.specs.Rule.{Applied}
use Rattle.mini_steady.specs.Arrows.{ArrowRests}
use Rattle.mini_unused.specs.Allowed.{switches_of}
use Rattle.mini_steady.proofs.ArrowSteps.{arrow_applied}
use Rattle.mini_steady.proofs.rule.InArrowsRule.apply.Goals as goal

pub returns-clause-applied : goal.returns-clause-applied
returns-clause-applied g c = λ o q k.
    let made = c.in_ok-minimize_in_arrow in
    let Rows = λ (x : CompressOptions). g.W.OwnRewrites.rows (switches_of x) in
    let F = Rows (g.C.SteadyNames.orders c.args.context.now) in
    subst₂ (λ x S. Applied (OwnArrow (Rows x) S) (ArrowRests (Rows x) S) c.args.place c.args.node.now c.minimize_in_arrow.new.node made.field-0) (g.met.C.SteadyContext.ordered c.args.context.now o q k) (g.met.C.SteadyContext.told c.args.context.now o q k)
    (arrow_applied F (g.C.SteadyNames.sets c.args.context.now) c.args.place c.args.node.now c.minimize_in_arrow.new.node made.field-0 (sym c.holds_arrow.ensures ∙ c.if-not-holds_arrow.false) made.ensures)
