-- What paths lead to.
use Rattle.std.proofs.Common.{◌≡◌, ℕ, true, [], ◌∷◌, ◌++◌, Option, Some, None, refl, sym, ap, ◌∙◌}
use Rattle.std.specs.Prelude.{is_some, option_map, option_and_then}
use Rattle.std.proofs.lemmas.Option.{same_Some, option_and_then_some}
use Rattle.mini_model.specs.Tree.{Tree, node}
use Rattle.mini_model.specs.Paths.{Path, is_node, child_at, children_of, with_child, node_at, replace_at}
use Rattle.mini_laws.specs.Finding as law
use Rattle.mini_laws.proofs.Putting.{spread_node}

pub child_node : (t : Tree) (i : ℕ) (c : Tree) → child_at (children_of t) i ≡ Some c → is_node c ≡ true
child_node (node h xs n ts) i c e = spread_node ts i c e

-- from a node, so is what is found from there
below_node : (p : Path) (t c : Tree) → is_node t ≡ true → node_at p t ≡ Some c → is_node c ≡ true
below_node [] t c m e = ap is_node (sym (same_Some t c e)) ∙ m
below_node (i ∷ p) t c m e = option_and_then_some (node_at p) (child_at (children_of t) i) c e (λ d at found. below_node p d c (child_node t i d at) found)

pub node_found : law.NodeFound
node_found i p t c e = option_and_then_some (node_at p) (child_at (children_of t) i) c e (λ d at found. below_node p d c (child_node t i d at) found)

some_map : (f : Tree → Tree) (o : Option Tree) → is_some (option_map f o) ≡ is_some o
some_map f None = refl
some_map f (Some c) = refl

some_both : (f g : Tree → Option Tree) (o : Option Tree) → ((c : Tree) → is_some (f c) ≡ is_some (g c)) → is_some (option_and_then f o) ≡ is_some (option_and_then g o)
some_both f g None h = refl
some_both f g (Some c) h = h c

pub found_where_replaced : law.FoundWhereReplaced
found_where_replaced [] w t = refl
found_where_replaced (i ∷ p) w t = some_both _ (node_at p) (child_at (children_of t) i) (λ c. some_map (with_child t i) (replace_at p w c) ∙ found_where_replaced p w c)

further_both : (f g h : Tree → Option Tree) (o : Option Tree) → ((c : Tree) → f c ≡ option_and_then g (h c)) → option_and_then f o ≡ option_and_then g (option_and_then h o)
further_both f g h None k = refl
further_both f g h (Some c) k = k c

pub found_further : law.FoundFurther
found_further [] q t = refl
found_further (i ∷ p) q t = further_both (node_at (p ++ q)) (node_at q) (node_at p) (child_at (children_of t) i) (found_further p q)
