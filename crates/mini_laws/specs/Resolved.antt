-- The symbol of each name (ECMA-262, "ResolveBinding").
use Rattle.std.specs.Prelude.{ℕ, suc, ◌+◌, Bool, true, false, not, ◌&&◌, List, [], ◌∷◌, ◌++◌, length, map, Option, Some, None, if◌then◌else◌}
use Rattle.mini_model.specs.declared.name.Name.{Name}
use Rattle.mini_model.specs.declared.name.SymbolId.{SymbolId}
use Rattle.mini_model.specs.declared.shape.Shape.{Shape}
use Rattle.mini_model.specs.declared.shape.Shape.TheVariants as shape
use Rattle.mini_model.specs.Tree.{Tree, Trees, node, none, ◌▸◌, is_absent}
use Rattle.mini_model.specs.Weight.{same_text}
use Rattle.mini_laws.specs.declared.names.Use.{Use}
use Rattle.mini_laws.specs.declared.names.Use.TheVariants.{Read, Hoisted, Headed}
use Rattle.mini_laws.specs.declared.names.Binding.{Binding}
use Rattle.mini_laws.specs.Scopes.{use_of, opened}
use Rattle.mini_laws.specs.Symbols.{is_same}

-- the scopes around a place, as the names that they declare, the outermost first
abbrev pub Environment : Type 0
Environment = List Binding

-- a `var` declares its name in the nearest function or program; every other use finds it in any
-- scope
abbrev pub serves : Use → Binding → Bool
serves Hoisted b = b.hoists
serves Headed b = b.hoists
serves _ b = true

abbrev pub is_for : Use → List ℕ → Binding → Bool
is_for u s b = serves u b && same_text b.name.spelling s

abbrev pub or_else : Option SymbolId → Option SymbolId → Option SymbolId
or_else None y = y
or_else (Some x) y = Some x

abbrev pub own_symbol : Use → List ℕ → Binding → Option SymbolId
own_symbol u s b = if is_for u s b then b.name.symbol else None

-- the symbol of the innermost name with this spelling, if there is one
abbrev pub symbol_of : Use → List ℕ → Environment → Option SymbolId
symbol_of u s [] = None
symbol_of u s (b ∷ env) = or_else (symbol_of u s env) (own_symbol u s b)

abbrev pub with_symbol : Use → Environment → Name → Name
with_symbol u env x = record { spelling = x.spelling; symbol = symbol_of u x.spelling env }

-- ---- what a `var` writes

-- whether a declarator that is used like this gives its name a value: a `var` with an initializer
-- does, and one in the head of a `for..in` or `for..of`
abbrev pub gives_value : Use → Bool → Bool
gives_value Headed has_no_init = true
gives_value Hoisted has_no_init = not has_no_init
gives_value u has_no_init = false

-- the name that stands there, where it is no pattern
abbrev pub plain_name : Tree → List Name
plain_name (node shape.BindingIdentifier xs n ts) = xs
plain_name t = []

-- A `var` writes the innermost variable of its name (ECMA-262, "Variable Statement", Evaluation:
-- ResolveBinding), which under a parameter of `catch` is that ("VariableStatements in Catch
-- Clauses"). The name of that variable, where it is another than the one that is declared
abbrev pub other_name : Use → Environment → List Name → List Name
other_name u env [] = []
other_name u env (x ∷ xs) = if is_same (symbol_of Read x.spelling env) (symbol_of u x.spelling env) then [] else with_symbol Read env x ∷ []

-- so a declarator over these children has a name of its own, or none
abbrev pub written_name : Use → Environment → Trees → List Name
written_name u env (id ▸ (init ▸ ts)) = if gives_value u (is_absent init) then other_name u env (plain_name id) else []
written_name u env ts = []

-- the names of a node
abbrev pub names_in : Use → Environment → Shape → List Name → Trees → List Name
names_in u env shape.VariableDeclarator xs ts = written_name u env ts
names_in u env h xs ts = map (with_symbol u env) xs

-- these names with symbols that are numbered from here on
abbrev pub numbered : ℕ → List Binding → List Binding
numbered s [] = []
numbered s (b ∷ bs) = record { name = record { spelling = b.name.spelling; symbol = Some (record { 0 = s }) }; hoists = b.hoists } ∷ numbered (suc s) bs

-- how many symbols a tree declares
unfoldable mutual
  pub symbols : Use → Tree → ℕ
  symbols u (node h xs n ts) = symbols_from (opened u h ts) (use_of h u) 0 ts

  -- some children, the first of which has this index
  pub symbols_from : (ℕ → List Binding) → (ℕ → Use) → ℕ → Trees → ℕ
  symbols_from scope uses i none = 0
  symbols_from scope uses i (t ▸ ts) = length (scope i) + symbols (uses i) t + symbols_from scope uses (suc i) ts

-- the tree with the symbol of each name, in an environment, with new symbols from a number on
unfoldable mutual
  pub resolved : Use → Environment → ℕ → Tree → Tree
  resolved u env s (node h xs n ts) = node h (names_in u env h xs ts) n (resolved_from (opened u h ts) (use_of h u) 0 env s ts)

  pub resolved_from : (ℕ → List Binding) → (ℕ → Use) → ℕ → Environment → ℕ → Trees → Trees
  resolved_from scope uses i env s none = none
  resolved_from scope uses i env s (t ▸ ts) =
      resolved (uses i) (env ++ numbered s (scope i)) (s + length (scope i)) t ▸ resolved_from scope uses (suc i) (env ++ numbered s (scope i)) (s + length (scope i) + symbols (uses i) t) ts

-- a program with the symbols of its names (ECMA-262)
abbrev pub resolved_program : Tree → Tree
resolved_program t = resolved Read [] 0 t
