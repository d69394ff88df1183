-- Parts that may stay and parts that may be dropped, of parts that are read again.
use Rattle.mini_again.proofs.ModelTreeAgain.{shape_of_again}
use Rattle.mini_again.specs.Again.{Renaming, again, all_again}
use Rattle.mini_laws.specs.Renaming.{rename_name}
use Rattle.mini_model.specs.Tree.{Tree, Trees, node, none, ◌▸◌}
use Rattle.mini_model.specs.declared.name.Name.{Name}
use Rattle.mini_model.specs.declared.shape.Shape.{Shape}
use Rattle.mini_terms.specs.Parts.{first_is_link, first_is_several, has_name, is_number, is_several, is_several_by, leave_nothing, leaves_nothing, second_is_template, weighs, weighs_over}
use Rattle.std.specs.Prelude.{List, [], map, refl, ◌∷◌, ◌≡◌}
use Rattle.mini_model.specs.declared.shape.Shape.TheVariants as shape

pub first_is_link_again : (ρ : Renaming) (ts : Trees) → first_is_link (all_again ρ ts) ≡ first_is_link ts
first_is_link_again ρ none = refl
first_is_link_again ρ (t ▸ ts) = simp (shape_of_again ρ t)

pub is_several_by_again : (ρ : Renaming) (h : Shape) (ts : Trees) → is_several_by h (all_again ρ ts) ≡ is_several_by h ts
is_several_by_again ρ shape.Listed (a ▸ (b ▸ ts)) = refl
is_several_by_again ρ h ts = refl

pub is_several_again : (ρ : Renaming) (t : Tree) → is_several (again ρ t) ≡ is_several t
is_several_again ρ (node h xs n ts) = simp (is_several_by_again ρ h ts)

pub first_is_several_again : (ρ : Renaming) (ts : Trees) → first_is_several (all_again ρ ts) ≡ first_is_several ts
first_is_several_again ρ none = refl
first_is_several_again ρ (t ▸ ts) = simp (is_several_again ρ t)

pub has_name_again : (ρ : Renaming) (xs : List Name) → has_name (map (rename_name ρ.symbol) xs) ≡ has_name xs
has_name_again ρ [] = refl
has_name_again ρ (x ∷ xs) = refl

pub is_number_again : (ρ : Renaming) (t : Tree) → is_number (again ρ t) ≡ is_number t
is_number_again ρ (node (shape.NumericLiteral n) xs m ts) = refl
is_number_again ρ _ = refl

mutual
  pub leave_nothing_again : (ρ : Renaming) (ts : Trees) → leave_nothing (all_again ρ ts) ≡ leave_nothing ts
  leave_nothing_again ρ none = refl
  leave_nothing_again ρ (t ▸ ts) = simp (leaves_nothing_again ρ t, leave_nothing_again ρ ts)

  pub leaves_nothing_again : (ρ : Renaming) (t : Tree) → leaves_nothing (again ρ t) ≡ leaves_nothing t
  leaves_nothing_again ρ (node h xs n ts) = simp (leave_nothing_again ρ ts)

pub second_is_template_again : (ρ : Renaming) (ts : Trees) → second_is_template (all_again ρ ts) ≡ second_is_template ts
second_is_template_again ρ (a ▸ (t ▸ ts)) = simp (shape_of_again ρ t)
second_is_template_again ρ ts = refl

pub weighs_over_again : (ρ : Renaming) (h : Shape) (xs : List Name) (ts : Trees) → weighs_over h (map (rename_name ρ.symbol) xs) (all_again ρ ts) ≡ weighs_over h xs ts
weighs_over_again ρ shape.Identifier xs ts = simp (has_name_again ρ xs)
weighs_over_again ρ shape.SequenceExpression xs ts = simp (first_is_several_again ρ ts)
weighs_over_again ρ shape.ChainExpression xs ts = simp (first_is_link_again ρ ts)
weighs_over_again ρ shape.TaggedTemplateExpression xs ts = simp (second_is_template_again ρ ts)
weighs_over_again ρ h xs ts = refl

pub weighs_again : (ρ : Renaming) (t : Tree) → weighs (again ρ t) ≡ weighs t
weighs_again ρ (node h xs n ts) = simp (weighs_over_again ρ h xs ts)
