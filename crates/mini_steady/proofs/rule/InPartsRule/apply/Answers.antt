use Rattle.std.proofs.Common.{subst₂}
use Rattle.mini_rows.specs.OwnParts.{OwnPart}
use Rattle.mini_tree.specs.declared.options.CompressOptions.{CompressOptions}
use Rattle.mini_tree.specs.Rule.{Applied}
use Rattle.mini_steady.specs.Parts.{PartRests}
use Rattle.mini_unused.specs.Allowed.{switches_of}
use Rattle.mini_steady.proofs.PartSteps.{part_applied}
use Rattle.mini_steady.proofs.rule.InPartsRule.apply.Goals as goal

pub returns-clause-applied : goal.returns-clause-applied
returns-clause-applied g c = λ o q k.
    let made = c.in_ok-minimize_in_part in
    let Rows = λ (x : CompressOptions). g.W.OwnRewrites.rows (switches_of x) in
    let F = Rows (g.C.SteadyNames.orders c.args.context.now) in
    subst₂ (λ x S. Applied (OwnPart (Rows x) S) (PartRests (Rows x) S) c.args.place c.args.node.now c.minimize_in_part.new.node made.field-0) (g.met.C.SteadyContext.ordered c.args.context.now o q k) (g.met.C.SteadyContext.told c.args.context.now o q k)
    (part_applied F (g.C.SteadyNames.sets c.args.context.now) c.args.place c.args.node.now c.minimize_in_part.new.node made.field-0 made.ensures)
