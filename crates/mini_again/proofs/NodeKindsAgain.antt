-- A node that is read again is of the kind of the node.
use Rattle.mini_again.specs.Again.{Renaming, again}
use Rattle.mini_model.specs.Tree.{Tree, node, none}
use Rattle.mini_node.specs.Kinds.{is_named_leaf}
use Rattle.std.specs.Prelude.{[], refl, zero, ◌∷◌, ◌≡◌}

pub is_named_leaf_again : (ρ : Renaming) (t : Tree) → is_named_leaf (again ρ t) ≡ is_named_leaf t
is_named_leaf_again ρ (node h (x ∷ []) zero none) = refl
is_named_leaf_again ρ _ = refl
