-- Steps of a relation, one after another.
use Rattle.mini_model.specs.Tree.{Tree}

-- at least one
pub data Several (R : Tree → Tree → Type 0) : Tree → Tree → Type 0 where
  once : (t u : Tree) → R t u → Several R t u
  again : (t u v : Tree) → Several R t u → R u v → Several R t v
