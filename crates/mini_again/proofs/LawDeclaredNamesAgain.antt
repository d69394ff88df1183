-- The names that a tree declares, of a tree that is read again.
use Rattle.mini_again.proofs.Names.{if_names_again}
use Rattle.mini_again.specs.Again.{Renaming, again, all_again}
use Rattle.mini_laws.specs.DeclaredNames.{all_body_names, all_names, any_inner, body_names, first_names, has_inner, is_spelled, is_statement_list, names_by, names_of, place_of}
use Rattle.mini_laws.specs.Renaming.{rename_name}
use Rattle.mini_laws.specs.declared.names.Declared.{Declared}
use Rattle.mini_laws.specs.declared.names.Place.{Place}
use Rattle.mini_model.specs.Tree.{Tree, Trees, node, none, ◌▸◌}
use Rattle.mini_model.specs.declared.name.Name.{Name}
use Rattle.std.proofs.lemmas.List.{map-append}
use Rattle.std.specs.Prelude.{List, [], map, refl, ℕ, ◌++◌, ◌∷◌, ◌≡◌}
use Rattle.mini_laws.specs.declared.names.Declared.TheVariants as declared
use Rattle.mini_laws.specs.declared.names.Place.TheVariants as place

pub names_by_again : (ρ : Renaming) (p : Place) (own first bound below : List Name) → names_by p (map (rename_name ρ.symbol) own) (map (rename_name ρ.symbol) first) (map (rename_name ρ.symbol) bound) (map (rename_name ρ.symbol) below) ≡ map (rename_name ρ.symbol) (names_by p own first bound below)
names_by_again ρ place.Here own first bound below = refl
names_by_again ρ place.FirstBound own first bound below = refl
names_by_again ρ place.Bound own first bound below = refl
names_by_again ρ place.Below own first bound below = refl
names_by_again ρ place.Nowhere own first bound below = refl

mutual
  unfolding all_names first_names names_of

  pub all_names_again : (ρ : Renaming) (d : Declared) (ts : Trees) → all_names d (all_again ρ ts) ≡ map (rename_name ρ.symbol) (all_names d ts)
  all_names_again ρ d none = refl
  all_names_again ρ d (t ▸ ts) = simp (names_of_again ρ d t, all_names_again ρ d ts, map-append)

  pub first_names_again : (ρ : Renaming) (ts : Trees) → first_names (all_again ρ ts) ≡ map (rename_name ρ.symbol) (first_names ts)
  first_names_again ρ none = refl
  first_names_again ρ (t ▸ ts) = simp (names_of_again ρ declared.Bound t)

  pub names_of_again : (ρ : Renaming) (d : Declared) (t : Tree) → names_of d (again ρ t) ≡ map (rename_name ρ.symbol) (names_of d t)
  names_of_again ρ d (node h xs n ts) = simp (first_names_again ρ ts, all_names_again ρ declared.Bound ts, all_names_again ρ d ts, names_by_again ρ (place_of d h) xs (first_names ts) (all_names declared.Bound ts) (all_names d ts))

mutual
  unfolding all_body_names body_names

  pub all_body_names_again : (ρ : Renaming) (ts : Trees) → all_body_names (all_again ρ ts) ≡ map (rename_name ρ.symbol) (all_body_names ts)
  all_body_names_again ρ none = refl
  all_body_names_again ρ (t ▸ ts) = simp (body_names_again ρ t, all_body_names_again ρ ts, map-append)

  pub body_names_again : (ρ : Renaming) (t : Tree) → body_names (again ρ t) ≡ map (rename_name ρ.symbol) (body_names t)
  body_names_again ρ (node h xs n ts) = simp (all_body_names_again ρ ts, names_of_again ρ declared.Lexical (node h xs n ts), names_of_again ρ declared.Hoisted (node h xs n ts), ← map-append) (if_names_again ρ (is_statement_list h) (all_body_names ts) (names_of declared.Lexical (node h xs n ts) ++ names_of declared.Hoisted (node h xs n ts)))

mutual
  unfolding any_inner has_inner

  pub any_inner_again : (ρ : Renaming) (ts : Trees) → any_inner (all_again ρ ts) ≡ any_inner ts
  any_inner_again ρ none = refl
  any_inner_again ρ (t ▸ ts) = simp (has_inner_again ρ t, any_inner_again ρ ts)

  pub has_inner_again : (ρ : Renaming) (t : Tree) → has_inner (again ρ t) ≡ has_inner t
  has_inner_again ρ (node h xs n ts) = simp (any_inner_again ρ ts)

pub is_spelled_again : (ρ : Renaming) (s : List ℕ) (xs : List Name) → is_spelled s (map (rename_name ρ.symbol) xs) ≡ is_spelled s xs
is_spelled_again ρ s [] = refl
is_spelled_again ρ s (x ∷ xs) = simp (is_spelled_again ρ s xs)
