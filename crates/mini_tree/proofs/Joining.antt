-- What one rule makes, and then another.
use Rattle.std.proofs.Common.{◌≡◌, Bool, true, false, inl, inr, subst, ◌∙◌}
use Rattle.mini_model.specs.Tree.{Tree}
use Rattle.mini_model.specs.declared.place.Position.{Position}
use Rattle.mini_tree.specs.Rule.{Moves, Applied, Either, Both}
use Rattle.mini_tree.specs.Wider.{moves_of}

module _ (R S : Position → Tree → Tree → Type 0) (D E : Position → Tree → Type 0) where
  pub first_applied : (p : Position) (t u : Tree) (a : Bool) → Applied R D p t u a → a ≡ true → Moves (Either R S) p t u
  first_applied p t u true x e = moves_of R (Either R S) (λ q v w r. inl r) p t u x
  first_applied p t u false x e = absurd (cc e)

  pub both_applied : (p : Position) (t u v : Tree) (a b : Bool) → Applied R D p t u a → a ≡ false → Applied S E p u v b → Applied (Either R S) (Both D E) p t v b
  both_applied p t u v true b x e y = absurd (cc e)
  both_applied p t u v false true x e y = moves_of S (Either R S) (λ q n w r. inr r) p t v (subst (λ w. Moves S p w v) x.0 y)
  both_applied p t u v false false x e y = (y.0 ∙ x.0, (x.1, subst (E p) x.0 y.1))
