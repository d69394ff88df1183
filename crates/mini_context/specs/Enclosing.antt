-- In the parameters of which functions a body stands, and a variable is bound.
use Rattle.std.specs.Prelude.{ℕ, ◌≡◌, ◌<◌, nat_eq, Bool, true, ◌&&◌, ◌||◌, List, [], ◌∷◌, ◌++◌, length, slice_index_or}
use Rattle.std.specs.List.{list_any}
use Rattle.mini_model.specs.declared.name.Name.{Name}
use Rattle.mini_model.specs.declared.shape.Shape.{Shape}
use Rattle.mini_model.specs.declared.shape.Shape.TheVariants as shape
use Rattle.mini_model.specs.Tree.{Tree, Trees, node, none, ◌▸◌}
use Rattle.mini_laws.specs.DeclaredNames.{bound_names}
use Rattle.mini_laws.specs.Foreign.{has_number}
use Rattle.mini_laws.specs.Mentions.{is_among}
use Rattle.mini_context.specs.declared.params.Params.{Params}
use Rattle.mini_context.specs.Lists.{holds}
use Rattle.mini_context.specs.Tables.{named}

-- the parameters of a node, and those of a tree, in order
abbrev pub own_params : Shape → Trees → List Tree
own_params (shape.Function d g ds) (id ▸ params ▸ ts) = params ∷ []
own_params (shape.ArrowFunctionExpression ds) (params ▸ ts) = params ∷ []
own_params h ts = []

-- the numbers in a tree, in order
unfoldable mutual
  pub numbers_in : Tree → List ℕ
  numbers_in (node h xs n ts) = n ∷ all_numbers_in ts

  pub all_numbers_in : Trees → List ℕ
  all_numbers_in none = []
  all_numbers_in (t ▸ ts) = numbers_in t ++ all_numbers_in ts

-- a function was put into the lists of these symbols, and of these numbers
pub record PutNames (k : ℕ) (xs : List Name) (old new : List (List ℕ)) : Type 0 where
  pub lists : length new ≡ length old
  pub each : (s : ℕ) → s < length old → (j : ℕ) → holds new s j ≡ (holds old s j || (is_among (named s) xs && nat_eq k j))

abbrev pub PutNumbers : ℕ → List ℕ → List (List ℕ) → List (List ℕ) → Type 0
PutNumbers k ns old new = (b j : ℕ) → holds new b j ≡ (holds old b j || (list_any (λ n. nat_eq n b) ns && nat_eq k j))

-- whether the lists of a symbol and of a number have a function in common
abbrev pub is_around : List (List ℕ) → List (List ℕ) → ℕ → ℕ → Bool
is_around fs ws s b = list_any (λ k. holds ws b k) (slice_index_or fs s [])

-- the functions so far have numbers below the next
abbrev pub Below : ℕ → List (List ℕ) → Type 0
Below n ls = (s j : ℕ) → holds ls s j ≡ true → j < n

pub record Bounded (p : Params) : Type 0 where
  pub symbols : Below p.next p.by_symbol.items
  pub numbers : Below p.next p.by_number.items

-- the functions with these parameters were added
pub record Enclosed (ps : List Tree) (old new : Params) : Type 0 where
  pub lists : length new.by_symbol.items ≡ length old.by_symbol.items
  pub bounded : Bounded old → Bounded new
  pub each : Bounded old → (s : ℕ) → s < length old.by_symbol.items → (b : ℕ) → is_around new.by_symbol.items new.by_number.items s b ≡ (is_around old.by_symbol.items old.by_number.items s b || list_any (λ t. is_among (named s) (bound_names t) && has_number b t) ps)
