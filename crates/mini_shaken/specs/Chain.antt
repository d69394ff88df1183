-- Programs that lead from one to another, of which each is made of the one before by a pass of
-- rewrites, or by the loss of dead items.
use Rattle.std.specs.Prelude.{ℕ, zero, suc}
use Rattle.mini_model.specs.Tree.{Tree}

-- so many passes, and any number of losses between them
pub data Chain (Loses Rewrites : Tree → Tree → Type 0) : ℕ → Tree → Tree → Type 0 where
  no_link : (t : Tree) → Chain Loses Rewrites zero t t
  a_loss : (n : ℕ) (t u v : Tree) → Chain Loses Rewrites n t u → Loses u v → Chain Loses Rewrites n t v
  a_pass : (n : ℕ) (t u v : Tree) → Chain Loses Rewrites n t u → Rewrites u v → Chain Loses Rewrites (suc n) t v
