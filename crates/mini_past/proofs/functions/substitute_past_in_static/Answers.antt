use Rattle.std.proofs.Common.{◌∙◌, ap, sym, subst, subst₂}
use Rattle.mini_model.specs.Tree.{absent}
use Rattle.mini_node.specs.Children.{part, with_part}
use Rattle.mini_node.specs.Kinds.{is_listed}
use Rattle.mini_past.specs.SubstitutePast.{PastRemoved}
use Rattle.mini_past.proofs.Holders.{in_static, of_static, no_static, put_back}
use Rattle.mini_past.proofs.functions.substitute_past_in_static.Goals as goal

pub substitute_past-changed-requires : goal.substitute_past-changed-requires
substitute_past-changed-requires g c = ap is_listed c.take_child-list.ensures.child ∙ in_static c.args.node.now (sym c.if-not-is_static_block.ensures.kind)

pub returns-then-not-is_static_block : goal.returns-then-not-is_static_block
returns-then-not-is_static_block g c = no_static (g.S.SteadyNames.sets c.args.steady.now) (g.S.PastNames.lets c.args.steady.now) c.args.node.now (sym c.if-not-is_static_block.ensures.kind)

pub returns : goal.returns
returns g c =
    let S = g.S.SteadyNames.sets c.args.steady.now in
    let W = g.S.PastNames.lets c.args.steady.now in
    let t = c.args.node.now in
    let m = c.substitute_past-changed.new.list in
    of_static S W t m c.substitute_past-changed.result (sym c.if-not-is_static_block.ensures.kind)
    (subst (λ n. PastRemoved (S n) W (with_part t 0 absent) (part t 0) m c.substitute_past-changed.result) c.number-number.ensures (subst₂ (λ o l. PastRemoved (S c.number-number.result) W o l m c.substitute_past-changed.result) c.take_child-list.ensures.left c.take_child-list.ensures.child c.substitute_past-changed.ensures))
    c.put_child.new.node (put_back t 0 m c.take_child-list.new.node c.put_child.new.node c.take_child-list.ensures.left c.put_child.ensures)
