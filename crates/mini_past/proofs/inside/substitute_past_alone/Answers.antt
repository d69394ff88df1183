use Rattle.std.proofs.Common.{◌∙◌, ap, sym}
use Rattle.mini_model.specs.Tree.{children, count}
use Rattle.mini_rows.specs.declared.inside.Way.TheVariants as way
use Rattle.mini_past.proofs.Ends.{no_var, none_above, one_past}
use Rattle.mini_past.proofs.inside.substitute_past_alone.Goals as goal

pub returns-then-not-is_var : goal.returns-then-not-is_var
returns-then-not-is_var g c = no_var (g.S.SteadyNames.sets c.args.steady.now) (g.S.PastNames.lets c.args.steady.now) (children c.args.above.now) c.args.node.now (sym c.if-not-is_var.ensures.kind)

pub returns-then-len-eq0 : goal.returns-then-len-eq0
returns-then-len-eq0 g c =
    let S = g.S.SteadyNames.sets c.args.steady.now in
    let W = g.S.PastNames.lets c.args.steady.now in
    let a = children c.args.above.now in
    let none_there = sym (ap count c.children.ensures) ∙ sym c.len.ensures ∙ c.if-len-eq0.true in
    (none_above S W a way.Held c.args.node.now none_there, none_above S W a way.Head c.args.node.now none_there)

pub returns : goal.returns
returns g c =
    one_past (g.S.SteadyNames.sets c.args.steady.now) (g.S.PastNames.lets c.args.steady.now) c.args.above.now c.args.node.now c.in_ok-list.list c.substitute_past_in-changed.new.list c.substitute_past_in-changed.result c.requires c.in_ok-list.ensures (λ e. c.if-len-eq0.false (c.len.ensures ∙ ap count c.children.ensures ∙ e)) c.substitute_past_in-changed.ensures
    c.put_first.new.node c.put_first.ensures
