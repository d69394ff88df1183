-- Steps of a relation as steps of another.
use Rattle.mini_model.specs.Tree.{Tree}
use Rattle.mini_unused.specs.Chains.{Chain, still, further, Several}

pub chain_joined : (R : Tree → Tree → Type 0) (t u v : Tree) → Chain R t u → Chain R u v → Chain R t v
chain_joined R t _ _ c (still u) = c
chain_joined R t _ _ c (further u w v d r) = further t w v (chain_joined R t u w c d) r

pub chain_once : (R : Tree → Tree → Type 0) (t u : Tree) → R t u → Chain R t u
chain_once R t u r = further t t u (still t) r

-- ---- under a function on trees, where something holds of each tree

module _ (R S : Tree → Tree → Type 0) (I : Tree → Type 0) (over : Tree → Tree) (on : (t u : Tree) → I t → R t u → S (over t) (over u) × I u) where
  pub chain_over : (t u : Tree) → I t → Chain R t u → Chain S (over t) (over u) × I u
  chain_over _ _ i (still t) = (still (over t), i)
  chain_over _ _ i (further t v u c r) =
      let (d, j) = chain_over t v i c in
      let (s, k) = on v u j r in
      (further (over t) (over v) (over u) d s, k)

  pub several_over : (t u : Tree) → I t → Several R t u → Several S (over t) (over u)
  several_over t u i m =
      let (s, j) = on t m.next i m.first in
      record { next = over m.next; first = s; others = (chain_over m.next u j m.others).0 }
