use Rattle.std.proofs.Common.{sym, ap, subst, ◌∙◌}
use Rattle.mini_model.specs.declared.place.Position.TheVariants.{Expr}
use Rattle.mini_tree.specs.Rule.{Moves}
use Rattle.mini_fold.specs.FoldSequences.{lifted, Gives}
use Rattle.mini_fold.proofs.Sequences.{lifted_applied}
use Rattle.mini_fold.proofs.rewrites.fold_sequences.fold_sequence_expression.Goals as goal

pub returns-then-is_lifted : goal.returns-then-is_lifted
returns-then-is_lifted c =
    subst (Moves Gives (Expr c.args.seat) c.args.node.now) (sym (c.in_ok-node.ensures ∙ ap lifted c.taken.ensures.value))
    (lifted_applied c.args.seat c.args.node.now (sym c.is_lifted.ensures ∙ c.if-is_lifted.true))
