use Rattle.std.proofs.Common.{◌∙◌, sym, subst₂}
use Rattle.mini_tree.specs.Rule.{Applied}
use Rattle.mini_rows.specs.PastModules.{PastModule}
use Rattle.mini_past.specs.SubstitutePast.{RestsPastModule}
use Rattle.mini_past.proofs.Steps.{module_applied}
use Rattle.mini_past.proofs.rule.SubstitutePastModulesRule.apply.Goals as goal

pub returns-clause-applied : goal.returns-clause-applied
returns-clause-applied g c = λ o q k.
    let made = c.substitute_past_in_module in
    subst₂ (λ S W. Applied (PastModule S W) (RestsPastModule S W) c.args.place c.args.node.now made.new.node made.result) (g.met.C.SteadyContext.told c.args.context.now o q k) (g.met.C.PastContext.says c.args.context.now o q k)
    (module_applied (g.C.SteadyNames.sets c.args.context.now) (g.C.PastNames.lets c.args.context.now) c.args.place c.args.node.now made.new.node made.result (sym c.holds_program.ensures ∙ c.if-not-holds_program.false) made.ensures)
