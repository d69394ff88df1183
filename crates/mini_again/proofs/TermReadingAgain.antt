-- What a parent reads of a part that is read again.
use Rattle.mini_again.proofs.Names.{none_again}
use Rattle.mini_again.specs.Again.{Renaming, again, all_again}
use Rattle.mini_laws.specs.Renaming.{rename_name}
use Rattle.mini_model.specs.Tree.{Tree, Trees, node, none, ◌▸◌}
use Rattle.mini_model.specs.declared.name.Name.{Name}
use Rattle.mini_model.specs.declared.shape.Shape.{Shape}
use Rattle.mini_terms.specs.Reading.{are_plain_parts, is_declared, is_item, is_plain_part, is_typed_by, stands}
use Rattle.std.specs.Prelude.{List, [], map, refl, ◌∷◌, ◌≡◌}
use Rattle.mini_model.specs.declared.shape.Shape.TheVariants as shape

mutual
  pub are_plain_parts_again : (ρ : Renaming) (ts : Trees) → are_plain_parts (all_again ρ ts) ≡ are_plain_parts ts
  are_plain_parts_again ρ none = refl
  are_plain_parts_again ρ (t ▸ ts) = simp (is_plain_part_again ρ t, are_plain_parts_again ρ ts)

  pub is_plain_part_again : (ρ : Renaming) (t : Tree) → is_plain_part (again ρ t) ≡ is_plain_part t
  is_plain_part_again ρ (node h xs n ts) = simp (are_plain_parts_again ρ ts)

pub is_declared_again : (ρ : Renaming) (xs : List Name) → is_declared (map (rename_name ρ.symbol) xs) ≡ is_declared xs
is_declared_again ρ (x ∷ []) = simp (none_again ρ x.symbol)
is_declared_again ρ _ = refl

pub is_item_again : (ρ : Renaming) (t : Tree) → is_item (again ρ t) ≡ is_item t
is_item_again ρ (node h xs n ts) = refl

pub is_typed_by_again : (ρ : Renaming) (h : Shape) (xs : List Name) → is_typed_by h (map (rename_name ρ.symbol) xs) ≡ is_typed_by h xs
is_typed_by_again ρ shape.Identifier xs = simp (is_declared_again ρ xs)
is_typed_by_again ρ h xs = refl

pub stands_again : (ρ : Renaming) (t : Tree) → stands (again ρ t) ≡ stands t
stands_again ρ (node h xs n ts) = refl
