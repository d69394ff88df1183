-- Steps of a relation, one after another.
use Rattle.mini_model.specs.Tree.{Tree}

-- any number of them
pub data Chain (R : Tree → Tree → Type 0) : Tree → Tree → Type 0 where
  still : (t : Tree) → Chain R t t
  further : (t u v : Tree) → Chain R t u → R u v → Chain R t v

-- at least one
pub record Several (R : Tree → Tree → Type 0) (t u : Tree) : Type 0 where
  pub next : Tree
  pub first : R t next
  pub others : Chain R next u
