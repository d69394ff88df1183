use Rattle.std.proofs.Common.{◌≡◌, ◌+◌, ◌<◌, true, refl, sym, ap, subst, ◌∙◌}
use Rattle.mini_model.specs.declared.place.Position.TheVariants.{Expr}
use Rattle.mini_model.specs.Tree.{children, count, child_or_absent}
use Rattle.mini_node.specs.Children.{part}
use Rattle.mini_node.specs.Kinds.{sequence}
use Rattle.mini_tree.specs.Rule.{Moves}
use Rattle.mini_logic.specs.DeMorganForVoidExpr.{is_turned, turns_before_last, with_turned, Gives}
use Rattle.mini_logic.proofs.DeMorganParts.{part_applied, not_sequence, none_turns}
use Rattle.mini_logic.proofs.rewrites.de_morgan_for_void_expr.de_morgan_for_part.Goals as goal

pub returns-in_ok-node-in-Some : goal.returns-in_ok-node-in-Some
returns-in_ok-node-in-Some c =
    let list = c.children.ensures ∙ ap children c.child.ensures.value in
    subst (Moves Gives (Expr c.args.seat) c.args.node.now) (sym (c.in_ok-node-in-Some.ensures ∙ ap (λ t. sequence (with_turned c.in-Some.at (children (part t 0)))) c.taken.ensures.value))
    (part_applied c.args.seat c.args.node.now c.in-Some.at (sym c.is_sequence.ensures.kind ∙ c.if-not-is_sequence.false) (subst (λ ts. c.in-Some.at + 1 < count ts) list c.in-Some.ensures.found) (subst (λ ts. is_turned (child_or_absent ts c.in-Some.at) ≡ true) list c.in-Some.ensures.read))

pub returns-in-None : goal.returns-in-None
returns-in-None c = (refl, none_turns c.args.seat c.args.node.now (sym (c.in-None.ensures.any ∙ ap turns_before_last (c.children.ensures ∙ ap children c.child.ensures.value))))

pub returns-then-not-is_sequence : goal.returns-then-not-is_sequence
returns-then-not-is_sequence c = (refl, not_sequence c.args.seat c.args.node.now (sym c.is_sequence.ensures.kind ∙ c.if-not-is_sequence.true))
