use Rattle.std.proofs.Common.{refl, sym, ap, subst, ◌∙◌}
use Rattle.mini_model.specs.declared.place.Position.TheVariants.{Expr}
use Rattle.mini_model.specs.Tree.{children, child_or_absent}
use Rattle.mini_node.specs.Children.{part}
use Rattle.mini_tree.specs.Rule.{Moves}
use Rattle.mini_fold.specs.FoldSequences.{is_left, Gives}
use Rattle.mini_fold.proofs.Sequences.{alone_applied, rests, not_left}
use Rattle.mini_fold.proofs.rewrites.fold_sequences.leave_last.Goals as goal

pub returns-then-not-is_left : goal.returns-then-not-is_left
returns-then-not-is_left c =
    let same = c.is_left.ensures ∙ ap (is_left c.args.seat) (c.children.ensures ∙ ap children c.child.ensures.value) in
    (refl, rests c.args.seat c.args.node.now c.requires.lifted c.requires.nested (not_left c.args.seat c.args.node.now c.requires.kind c.requires.few (sym same ∙ c.if-not-is_left.true)))

pub returns : goal.returns
returns c =
    let same = c.is_left.ensures ∙ ap (is_left c.args.seat) (c.children.ensures ∙ ap children c.child.ensures.value) in
    subst (Moves Gives (Expr c.args.seat) c.args.node.now) (sym (c.last_of_two.ensures ∙ ap (λ t. child_or_absent (children (part t 0)) 1) c.taken.ensures.value))
    (alone_applied c.args.seat c.args.node.now c.requires.kind (sym same ∙ c.if-not-is_left.false))
