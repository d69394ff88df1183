use Rattle.std.proofs.Common.{◌∙◌, ap, sym, subst₂}
use Rattle.mini_node.specs.Kinds.{is_listed}
use Rattle.mini_past.specs.SubstitutePast.{PastRemoved}
use Rattle.mini_past.proofs.Holders.{in_module, of_module, no_module, put_back}
use Rattle.mini_past.proofs.functions.substitute_past_in_module.Goals as goal

pub substitute_past-changed-requires : goal.substitute_past-changed-requires
substitute_past-changed-requires g c = ap is_listed c.take_child-list.ensures.child ∙ in_module c.args.node.now (sym c.if-not-is_module.ensures.kind)

pub returns-then-not-is_module : goal.returns-then-not-is_module
returns-then-not-is_module g c = no_module (g.S.SteadyNames.sets c.args.steady.now) (g.S.PastNames.lets c.args.steady.now) c.args.node.now (sym c.if-not-is_module.ensures.kind)

pub returns : goal.returns
returns g c =
    let S = g.S.SteadyNames.sets c.args.steady.now in
    let W = g.S.PastNames.lets c.args.steady.now in
    let t = c.args.node.now in
    let m = c.substitute_past-changed.new.list in
    of_module S W t m c.substitute_past-changed.result (sym c.if-not-is_module.ensures.kind) (subst₂ (λ o l. PastRemoved (S 0) W o l m c.substitute_past-changed.result) c.take_child-list.ensures.left c.take_child-list.ensures.child c.substitute_past-changed.ensures) c.put_child.new.node
    (put_back t 0 m c.take_child-list.new.node c.put_child.new.node c.take_child-list.ensures.left c.put_child.ensures)
