use Rattle.std.proofs.Common.{◌∙◌, ap, sym, subst, subst₂}
use Rattle.mini_model.specs.Tree.{absent}
use Rattle.mini_node.specs.Children.{part, with_part}
use Rattle.mini_node.specs.Kinds.{is_listed}
use Rattle.mini_past.specs.SubstitutePast.{PastRemoved}
use Rattle.mini_past.proofs.Holders.{in_function, of_function, no_function, put_back}
use Rattle.mini_past.proofs.functions.substitute_past_in_function.Goals as goal

pub substitute_past-changed-requires : goal.substitute_past-changed-requires
substitute_past-changed-requires g c = ap is_listed (c.take_child-list.ensures.child ∙ ap (λ b. part b 0) c.take_child-body.ensures.child) ∙ in_function c.args.node.now (sym c.if-not-is_function.ensures.kind)

pub returns-then-not-is_function : goal.returns-then-not-is_function
returns-then-not-is_function g c = no_function (g.S.SteadyNames.sets c.args.steady.now) (g.S.PastNames.lets c.args.steady.now) c.args.node.now (sym c.if-not-is_function.ensures.kind)

pub returns : goal.returns
returns g c =
    let S = g.S.SteadyNames.sets c.args.steady.now in
    let W = g.S.PastNames.lets c.args.steady.now in
    let t = c.args.node.now in
    let m = c.substitute_past-changed.new.list in
    let body = part t 2 in
    let body_there = c.take_child-body.ensures.child in
    let list_there = c.take_child-list.ensures.child ∙ ap (λ b. part b 0) body_there in
    let emptied = c.take_child-list.ensures.left ∙ ap (λ b. with_part b 0 absent) body_there in
    let whole = put_back body 0 m c.take_child-list.new.node c.put_child.new.node emptied c.put_child.ensures in
    of_function S W t m c.substitute_past-changed.result (sym c.if-not-is_function.ensures.kind)
    (subst (λ n. PastRemoved (S n) W (with_part t 2 absent) (part body 0) m c.substitute_past-changed.result) c.number-number.ensures (subst₂ (λ o l. PastRemoved (S c.number-number.result) W o l m c.substitute_past-changed.result) c.take_child-body.ensures.left list_there c.substitute_past-changed.ensures))
    c.put_child-2.new.node
    (put_back t 2 c.put_child.new.node c.take_child-body.new.node c.put_child-2.new.node c.take_child-body.ensures.left c.put_child-2.ensures ∙ ap (λ b. with_part t 2 b) whole)
