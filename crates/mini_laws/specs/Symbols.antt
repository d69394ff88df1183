-- The symbols that a tree declares, and a tree with other symbols.
use Rattle.std.specs.Prelude.{ℕ, zero, suc, ◌+◌, ◌≤◌, nat_eq, Bool, true, false, List, [], ◌∷◌, ◌++◌, map, slice_index_or, Option, Some, None, if◌then◌else◌}
use Rattle.mini_model.specs.declared.name.Name.{Name}
use Rattle.mini_model.specs.declared.name.SymbolId.{SymbolId}
use Rattle.mini_model.specs.declared.shape.Shape.{Shape}
use Rattle.mini_model.specs.declared.shape.Shape.TheVariants as shape
use Rattle.mini_model.specs.Tree.{Tree, Trees, node, none, ◌▸◌}
use Rattle.mini_laws.specs.declared.names.Use.{Use}
use Rattle.mini_laws.specs.declared.names.Use.TheVariants.{Read}
use Rattle.mini_laws.specs.declared.names.Binding.{Binding}
use Rattle.mini_laws.specs.Scopes.{use_of, opened}

-- the symbols that a scope's names carry
abbrev pub symbols_in : List Binding → List (Option SymbolId)
symbols_in bs = map (λ b. b.name.symbol) bs

-- those that a tree's scopes declare, in the order in which they are entered
unfoldable mutual
  pub declared : Use → Tree → List (Option SymbolId)
  declared u (node h xs n ts) = declared_from (opened u h ts) (use_of h u) 0 ts

  pub declared_from : (ℕ → List Binding) → (ℕ → Use) → ℕ → Trees → List (Option SymbolId)
  declared_from scope uses i none = []
  declared_from scope uses i (t ▸ ts) = symbols_in (scope i) ++ (declared (uses i) t ++ declared_from scope uses (suc i) ts)

abbrev pub declared_symbols : Tree → List (Option SymbolId)
declared_symbols t = declared Read t

-- ---- other symbols

abbrev pub with_new : (Option SymbolId → Option SymbolId) → Name → Name
with_new f x = record { spelling = x.spelling; symbol = f x.symbol }

unfoldable mutual
  pub mapped : (Option SymbolId → Option SymbolId) → Tree → Tree
  mapped f (node h xs n ts) = node h (map (with_new f) xs) n (all_mapped f ts)

  pub all_mapped : (Option SymbolId → Option SymbolId) → Trees → Trees
  all_mapped f none = none
  all_mapped f (t ▸ ts) = mapped f t ▸ all_mapped f ts

-- a tree as it is written, without symbols, and without what a declarator's name tells of the
-- scopes around
abbrev pub no_symbol : Option SymbolId → Option SymbolId
no_symbol s = None

abbrev pub bare_names : Shape → List Name → List Name
bare_names shape.VariableDeclarator xs = []
bare_names h xs = map (with_new no_symbol) xs

unfoldable mutual
  pub bare : Tree → Tree
  bare (node h xs n ts) = node h (bare_names h xs) n (all_bare ts)

  pub all_bare : Trees → Trees
  all_bare none = none
  all_bare (t ▸ ts) = bare t ▸ all_bare ts

-- a tree whose symbols are places in this list, with the symbols that stand there
abbrev pub new_symbol : List (Option SymbolId) → Option SymbolId → Option SymbolId
new_symbol ss None = None
new_symbol ss (Some k) = slice_index_or ss k.0 None

abbrev pub renamed : List (Option SymbolId) → Tree → Tree
renamed ss t = mapped (new_symbol ss) t

-- so many symbols from a number on
abbrev pub symbols_to : ℕ → ℕ → List (Option SymbolId)
symbols_to s zero = []
symbols_to s (suc n) = Some (record { 0 = s }) ∷ symbols_to (suc s) n

-- ---- distinct symbols

abbrev pub is_same : Option SymbolId → Option SymbolId → Bool
is_same None None = true
is_same None (Some y) = false
is_same (Some x) None = false
is_same (Some x) (Some y) = nat_eq x.0 y.0

-- how often a symbol stands in a list
abbrev pub times : Option SymbolId → List (Option SymbolId) → ℕ
times x [] = 0
times x (y ∷ ss) = (if is_same x y then 1 else 0) + times x ss

-- how often a symbol may be declared
abbrev pub most : Option SymbolId → ℕ
most None = 0
most (Some x) = 1

-- each name that a scope declares has a symbol, and each symbol is declared once
abbrev pub Distinct : List (Option SymbolId) → Type 0
Distinct ss = (x : Option SymbolId) → times x ss ≤ most x

-- each symbol is declared here at most as often as there
abbrev pub Within : List (Option SymbolId) → List (Option SymbolId) → Type 0
Within ss rs = (x : Option SymbolId) → times x ss ≤ times x rs
