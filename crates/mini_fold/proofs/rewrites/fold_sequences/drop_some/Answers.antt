use Rattle.std.proofs.Common.{Bool, ◌≡◌, true, false, refl, sym, subst, ◌∙◌}
use Rattle.mini_model.specs.declared.place.Position.TheVariants.{Expr}
use Rattle.mini_tree.specs.Rule.{Moves, Applied}
use Rattle.mini_fold.specs.FoldSequences.{Gives, Rests}
use Rattle.mini_fold.proofs.Sequences.{idle_applied, rests, no_idle}
use Rattle.mini_fold.proofs.rewrites.fold_sequences.drop_some.Goals as goal

pub returns : goal.returns
returns c = go c.in_ok-changed.changed refl
  where
    go : (b : Bool) → c.in_ok-changed.changed ≡ b → Applied Gives Rests (Expr c.args.seat) c.args.node.now c.drop_parts.new.node b
    go true e = subst (Moves Gives (Expr c.args.seat) c.args.node.now) (sym (c.in_ok-changed.ensures.left e)) (idle_applied c.args.seat c.args.node.now c.requires.kind (sym c.in_ok-changed.ensures.said ∙ e) c.requires.several)
    go false e = (c.in_ok-changed.ensures.same e, rests c.args.seat c.args.node.now c.requires.lifted c.requires.nested (no_idle c.args.seat c.args.node.now c.requires.kind c.requires.several (sym c.in_ok-changed.ensures.said ∙ e)))
