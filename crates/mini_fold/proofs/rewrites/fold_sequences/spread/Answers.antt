use Rattle.std.proofs.Common.{◌<◌, ◌≡◌, true, refl, sym, ap, subst, ◌∙◌}
use Rattle.mini_model.specs.declared.place.Position.TheVariants.{Expr}
use Rattle.mini_model.specs.Tree.{children, count, child_or_absent}
use Rattle.mini_node.specs.Children.{part}
use Rattle.mini_node.specs.Kinds.{sequence}
use Rattle.mini_tree.specs.Rule.{Moves}
use Rattle.mini_fold.specs.FoldSequences.{is_several, any_of, spread_at, Gives}
use Rattle.mini_fold.proofs.Sequences.{spread_applied, rests, not_nested, not_losing, none_nested}
use Rattle.mini_fold.proofs.rewrites.fold_sequences.spread.Goals as goal

pub returns-then-not-is_sequence : goal.returns-then-not-is_sequence
returns-then-not-is_sequence c = let plain = sym c.is_sequence.ensures.kind ∙ c.if-not-is_sequence.true in (refl, rests c.args.seat c.args.node.now c.requires (not_nested c.args.node.now plain) (not_losing c.args.seat c.args.node.now plain))

pub returns-in_ok-node-in-Some : goal.returns-in_ok-node-in-Some
returns-in_ok-node-in-Some c =
    let list = c.children.ensures ∙ ap children c.child.ensures.value in
    subst (Moves Gives (Expr c.args.seat) c.args.node.now) (sym (c.in_ok-node-in-Some.ensures ∙ ap (λ t. sequence (spread_at c.in-Some.at (children (part t 0)))) c.taken.ensures.value))
    (spread_applied c.args.seat c.args.node.now c.in-Some.at (sym c.is_sequence.ensures.kind ∙ c.if-not-is_sequence.false)
    (subst (λ ts. c.in-Some.at < count ts) list c.in-Some.ensures.found) (subst (λ ts. is_several (child_or_absent ts c.in-Some.at) ≡ true) list c.in-Some.ensures.read))

pub drop_idle-requires-clause-nested : goal.drop_idle-requires-clause-nested
drop_idle-requires-clause-nested c = none_nested c.args.node.now (sym c.is_sequence.ensures.kind ∙ c.if-not-is_sequence.false) (c.in-None.ensures.any ∙ ap (any_of is_several) (c.children.ensures ∙ ap children c.child.ensures.value))
