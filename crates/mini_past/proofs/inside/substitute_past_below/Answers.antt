use Rattle.std.proofs.Common.{◌∙◌, ap, sym}
use Rattle.mini_model.specs.Tree.{children, count}
use Rattle.mini_rows.specs.declared.inside.Way.TheVariants as way
use Rattle.mini_past.proofs.Ends.{no_list, none_above, here_past}
use Rattle.mini_past.proofs.inside.substitute_past_below.Goals as goal

pub returns-then-not-is_listed : goal.returns-then-not-is_listed
returns-then-not-is_listed g c = no_list (g.S.SteadyNames.sets c.args.steady.now) (g.S.PastNames.lets c.args.steady.now) (children c.args.above.now) c.args.list.now (sym c.if-not-is_listed.ensures)

pub returns-then-len-eq0 : goal.returns-then-len-eq0
returns-then-len-eq0 g c = none_above (g.S.SteadyNames.sets c.args.steady.now) (g.S.PastNames.lets c.args.steady.now) (children c.args.above.now) way.Statements c.args.list.now (sym (ap count c.children.ensures) ∙ sym c.len.ensures ∙ c.if-len-eq0.true)

pub returns : goal.returns
returns g c = here_past (g.S.SteadyNames.sets c.args.steady.now) (g.S.PastNames.lets c.args.steady.now) c.args.above.now c.args.list.now c.substitute_past_in.new.list c.substitute_past_in.result c.requires (sym c.if-not-is_listed.ensures) (λ e. c.if-len-eq0.false (c.len.ensures ∙ ap count c.children.ensures ∙ e)) c.substitute_past_in.ensures
