-- Names that others can see or write, of a tree that is read again.
use Rattle.mini_again.proofs.LawDeclaredNamesAgain.{all_names_again, is_spelled_again, names_of_again}
use Rattle.mini_again.proofs.ModelTreeAgain.{is_absent_again}
use Rattle.mini_again.proofs.Names.{if_names_again}
use Rattle.mini_again.specs.Again.{Renaming, again, all_again}
use Rattle.mini_laws.specs.DeclaredNames.{all_names, bound_names, is_spelled, names_of}
use Rattle.mini_laws.specs.Renaming.{rename_name}
use Rattle.mini_laws.specs.Resolved.{gives_value}
use Rattle.mini_laws.specs.Shared.{all_caught, all_module_names, all_reached_by_arguments, any_names_arguments, caught, given_values, is_arguments, is_of_function, module_names, module_names_by, names_arguments, own_caught, reached_by_arguments, reached_params, spelled_among, written_by}
use Rattle.mini_laws.specs.Strict.{is_strict_in}
use Rattle.mini_laws.specs.declared.names.Use.{Use}
use Rattle.mini_model.specs.Tree.{Tree, Trees, is_absent, node, none, ◌▸◌}
use Rattle.mini_model.specs.declared.name.Name.{Name}
use Rattle.mini_model.specs.declared.shape.Shape.{Shape}
use Rattle.std.proofs.lemmas.List.{map-append}
use Rattle.std.specs.Prelude.{Bool, List, [], map, not, refl, suc, ℕ, ◌&&◌, ◌||◌, ◌∷◌, ◌≡◌}
use Rattle.mini_laws.specs.declared.names.Declared.TheVariants as declared
use Rattle.mini_model.specs.declared.shape.Shape.TheVariants as shape

pub spelled_among_again : (ρ : Renaming) (xs ys : List Name) → spelled_among (map (rename_name ρ.symbol) xs) (map (rename_name ρ.symbol) ys) ≡ map (rename_name ρ.symbol) (spelled_among xs ys)
spelled_among_again ρ xs [] = refl
spelled_among_again ρ xs (y ∷ ys) = simp (if_names_again ρ (is_spelled y.spelling xs) (y ∷ spelled_among xs ys) (spelled_among xs ys), is_spelled_again ρ y.spelling xs, spelled_among_again ρ xs ys)

pub own_caught_again : (ρ : Renaming) (h : Shape) (ts : Trees) → own_caught h (all_again ρ ts) ≡ map (rename_name ρ.symbol) (own_caught h ts)
own_caught_again ρ shape.CatchClause (param ▸ ts) = simp (names_of_again ρ declared.Bound param, all_names_again ρ declared.Hoisted ts, spelled_among_again ρ (bound_names param) (all_names declared.Hoisted ts))
own_caught_again ρ h ts = refl

mutual
  unfolding all_caught caught

  pub all_caught_again : (ρ : Renaming) (ts : Trees) → all_caught (all_again ρ ts) ≡ map (rename_name ρ.symbol) (all_caught ts)
  all_caught_again ρ none = refl
  all_caught_again ρ (t ▸ ts) = simp (caught_again ρ t, all_caught_again ρ ts, map-append)

  pub caught_again : (ρ : Renaming) (t : Tree) → caught (again ρ t) ≡ map (rename_name ρ.symbol) (caught t)
  caught_again ρ (node h xs n ts) = simp (own_caught_again ρ h ts, all_caught_again ρ ts, map-append)

pub module_names_by_again : (ρ : Renaming) (h : Shape) (own lexical hoisted below : List Name) → module_names_by h (map (rename_name ρ.symbol) own) (map (rename_name ρ.symbol) lexical) (map (rename_name ρ.symbol) hoisted) (map (rename_name ρ.symbol) below) ≡ map (rename_name ρ.symbol) (module_names_by h own lexical hoisted below)
module_names_by_again ρ shape.Listed own lexical hoisted below = refl
module_names_by_again ρ (shape.Program is_module ds) own lexical hoisted below = refl
module_names_by_again ρ shape.ImportDeclaration own lexical hoisted below = refl
module_names_by_again ρ shape.ExportNamedDeclaration own lexical hoisted below = simp map-append
module_names_by_again ρ shape.ExportDefaultDeclaration own lexical hoisted below = refl
module_names_by_again ρ shape.ExportSpecifier own lexical hoisted below = refl
module_names_by_again ρ shape.Identifier own lexical hoisted below = refl
module_names_by_again ρ h own lexical hoisted below = refl

mutual
  unfolding all_module_names module_names

  pub all_module_names_again : (ρ : Renaming) (ts : Trees) → all_module_names (all_again ρ ts) ≡ map (rename_name ρ.symbol) (all_module_names ts)
  all_module_names_again ρ none = refl
  all_module_names_again ρ (t ▸ ts) = simp (module_names_again ρ t, all_module_names_again ρ ts, map-append)

  pub module_names_again : (ρ : Renaming) (t : Tree) → module_names (again ρ t) ≡ map (rename_name ρ.symbol) (module_names t)
  module_names_again ρ (node h xs n ts) = simp (names_of_again ρ declared.Lexical (node h xs n ts), names_of_again ρ declared.Hoisted (node h xs n ts), all_module_names_again ρ ts, module_names_by_again ρ h xs (names_of declared.Lexical (node h xs n ts)) (names_of declared.Hoisted (node h xs n ts)) (all_module_names ts))

pub is_arguments_again : (ρ : Renaming) (xs : List Name) → is_arguments (map (rename_name ρ.symbol) xs) ≡ is_arguments xs
is_arguments_again ρ [] = refl
is_arguments_again ρ (x ∷ xs) = refl

mutual
  unfolding any_names_arguments names_arguments

  pub any_names_arguments_again : (ρ : Renaming) (is_inside : (ℕ → Bool)) (i : ℕ) (ts : Trees) → any_names_arguments is_inside i (all_again ρ ts) ≡ any_names_arguments is_inside i ts
  any_names_arguments_again ρ is_inside i none = refl
  any_names_arguments_again ρ is_inside i (t ▸ ts) = simp (names_arguments_again ρ t, any_names_arguments_again ρ is_inside (suc i) ts)

  pub names_arguments_again : (ρ : Renaming) (t : Tree) → names_arguments (again ρ t) ≡ names_arguments t
  names_arguments_again ρ (node h xs n ts) = simp (is_arguments_again ρ xs, any_names_arguments_again ρ (is_of_function h) 0 ts)

pub reached_params_again : (ρ : Renaming) (strict : Bool) (h : Shape) (ts : Trees) → reached_params strict h (all_again ρ ts) ≡ map (rename_name ρ.symbol) (reached_params strict h ts)
reached_params_again ρ strict (shape.Function d g ds) (id ▸ params ▸ body ▸ ts) = simp (if_names_again ρ (not strict && (names_arguments params || names_arguments body)) (bound_names params) [], names_arguments_again ρ params, names_arguments_again ρ body, names_of_again ρ declared.Bound params)
reached_params_again ρ strict h ts = refl

mutual
  unfolding all_reached_by_arguments reached_by_arguments

  pub all_reached_by_arguments_again : (ρ : Renaming) (strict : Bool) (ts : Trees) → all_reached_by_arguments strict (all_again ρ ts) ≡ map (rename_name ρ.symbol) (all_reached_by_arguments strict ts)
  all_reached_by_arguments_again ρ strict none = refl
  all_reached_by_arguments_again ρ strict (t ▸ ts) = simp (reached_by_arguments_again ρ strict t, all_reached_by_arguments_again ρ strict ts, map-append)

  pub reached_by_arguments_again : (ρ : Renaming) (strict : Bool) (t : Tree) → reached_by_arguments strict (again ρ t) ≡ map (rename_name ρ.symbol) (reached_by_arguments strict t)
  reached_by_arguments_again ρ strict (node h xs n ts) = simp (reached_params_again ρ (is_strict_in strict h) h ts, all_reached_by_arguments_again ρ (is_strict_in strict h) ts, map-append)

pub written_by_again : (ρ : Renaming) (xs : List Name) (id : Tree) → written_by (map (rename_name ρ.symbol) xs) (again ρ id) ≡ map (rename_name ρ.symbol) (written_by xs id)
written_by_again ρ [] id = simp (names_of_again ρ declared.Bound id)
written_by_again ρ (x ∷ xs) id = refl

pub given_values_again : (ρ : Renaming) (u : Use) (h : Shape) (xs : List Name) (ts : Trees) → given_values u h (map (rename_name ρ.symbol) xs) (all_again ρ ts) ≡ map (rename_name ρ.symbol) (given_values u h xs ts)
given_values_again ρ u shape.VariableDeclarator xs (id ▸ (init ▸ ts)) = simp (if_names_again ρ (gives_value u (is_absent init)) (written_by xs id) [], is_absent_again ρ init, written_by_again ρ xs id)
given_values_again ρ u h xs ts = refl
