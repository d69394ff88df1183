-- The variables that a body shares with what is outside it: others may read them while it runs.
use Rattle.std.specs.Prelude.{ℕ, suc, Bool, true, false, ◌&&◌, ◌||◌, not, List, [], ◌∷◌, ◌++◌, map, is_none, codes, if◌then◌else◌}
use Rattle.std.specs.List.{list_any}
use Rattle.mini_model.specs.declared.name.Name.{Name}
use Rattle.mini_model.specs.declared.shape.Shape.{Shape}
use Rattle.mini_model.specs.declared.shape.Shape.TheVariants as shape
use Rattle.mini_model.specs.Tree.{Tree, Trees, node, none, ◌▸◌, is_absent, shape_of}
use Rattle.mini_model.specs.Weight.{same_text}
use Rattle.mini_laws.specs.declared.names.Use.{Use}
use Rattle.mini_laws.specs.declared.names.Use.TheVariants.{Read, Write}
use Rattle.mini_laws.specs.declared.names.Binding.{Binding}
use Rattle.mini_laws.specs.declared.names.Around.{Around}
use Rattle.mini_laws.specs.declared.names.Declared.TheVariants as declared
use Rattle.mini_laws.specs.DeclaredNames.{names_of, all_names, bound_names, is_spelled}
use Rattle.mini_laws.specs.Scopes.{use_of, opened}
use Rattle.mini_laws.specs.Resolved.{Environment, with_symbol, gives_value}
use Rattle.mini_laws.specs.Strict.{is_strict_in}
use Rattle.mini_laws.specs.ScopeList.{names_in, seen_by_eval}
use Rattle.mini_laws.specs.Mentions.{Mention, around_child, outermost, program_mentions, is_elsewhere, same_variable, is_among, is_variable}

-- a script's top names
abbrev pub script_tops : Tree → List Name
script_tops (node (shape.Program false ds) xs n ts) = names_in (opened Read (shape.Program false ds) ts 0)
script_tops t = []

-- what a module imports and exports (ECMA-262, "ImportEntries", "ExportEntries"): of an `export`
-- what it declares, and the names of its specifiers
abbrev pub module_names_by : Shape → List Name → List Name → List Name → List Name → List Name
module_names_by shape.Listed own lexical hoisted below = below
module_names_by (shape.Program is_module ds) own lexical hoisted below = below
module_names_by shape.ImportDeclaration own lexical hoisted below = lexical
module_names_by shape.ExportNamedDeclaration own lexical hoisted below = lexical ++ hoisted ++ below
module_names_by shape.ExportDefaultDeclaration own lexical hoisted below = lexical
module_names_by shape.ExportSpecifier own lexical hoisted below = below
module_names_by shape.Identifier own lexical hoisted below = own
module_names_by h own lexical hoisted below = []

unfoldable mutual
  pub module_names : Tree → List Name
  module_names (node h xs n ts) = module_names_by h xs (names_of declared.Lexical (node h xs n ts)) (names_of declared.Hoisted (node h xs n ts)) (all_module_names ts)

  pub all_module_names : Trees → List Name
  all_module_names none = []
  all_module_names (t ▸ ts) = module_names t ++ all_module_names ts

-- whether a function's own `arguments` is named in a part of it, whatever the name is then: arrows
-- included, and other functions, static blocks and the values of fields not (ECMA-262,
-- "ContainsArguments")
abbrev pub is_arguments : List Name → Bool
is_arguments [] = false
is_arguments (x ∷ xs) = same_text x.spelling (codes "arguments")

-- whether what stands in a node's child at an index belongs to the function around the node
abbrev pub is_of_function : Shape → ℕ → Bool
is_of_function (shape.Function d g ds) i = false
is_of_function shape.StaticBlock i = false
is_of_function (shape.PropertyDefinition computed is_static) (suc i) = false
is_of_function h i = true

abbrev pub is_name_of_variable : Shape → Bool
is_name_of_variable shape.Identifier = true
is_name_of_variable shape.BindingIdentifier = true
is_name_of_variable h = false

unfoldable mutual
  pub names_arguments : Tree → Bool
  names_arguments (node h xs n ts) = (is_name_of_variable h && is_arguments xs) || any_names_arguments (is_of_function h) 0 ts

  pub any_names_arguments : (ℕ → Bool) → ℕ → Trees → Bool
  any_names_arguments is_inside i none = false
  any_names_arguments is_inside i (t ▸ ts) = (is_inside i && names_arguments t) || any_names_arguments is_inside (suc i) ts

-- the parameters of sloppy functions that name it (ECMA-262, "CreateMappedArgumentsObject")
abbrev pub reached_params : Bool → Shape → Trees → List Name
reached_params strict (shape.Function d g ds) (id ▸ params ▸ body ▸ ts) = if not strict && (names_arguments params || names_arguments body) then bound_names params else []
reached_params strict h ts = []

unfoldable mutual
  pub reached_by_arguments : Bool → Tree → List Name
  reached_by_arguments strict (node h xs n ts) = reached_params (is_strict_in strict h) h ts ++ all_reached_by_arguments (is_strict_in strict h) ts

  pub all_reached_by_arguments : Bool → Trees → List Name
  all_reached_by_arguments strict none = []
  all_reached_by_arguments strict (t ▸ ts) = reached_by_arguments strict t ++ all_reached_by_arguments strict ts

-- the `var`s of which a declarator stands under a parameter of `catch` of their name (ECMA-262,
-- "VariableStatements in Catch Clauses")
abbrev pub spelled_among : List Name → List Name → List Name
spelled_among xs [] = []
spelled_among xs (y ∷ ys) = if is_spelled y.spelling xs then y ∷ spelled_among xs ys else spelled_among xs ys

abbrev pub own_caught : Shape → Trees → List Name
own_caught shape.CatchClause (param ▸ ts) = spelled_among (bound_names param) (all_names declared.Hoisted ts)
own_caught h ts = []

unfoldable mutual
  pub caught : Tree → List Name
  caught (node h xs n ts) = own_caught h ts ++ all_caught ts

  pub all_caught : Trees → List Name
  all_caught none = []
  all_caught (t ▸ ts) = caught t ++ all_caught ts

-- ---- what a `var` writes

-- A `var` gives a value where it has an initializer, and in the head of a `for..in` or `for..of`. A
-- declarator that has a name of its own writes that one, and every other the names that it declares
abbrev pub written_by : List Name → Tree → List Name
written_by [] id = bound_names id
written_by (x ∷ xs) id = x ∷ xs

abbrev pub given_values : Use → Shape → List Name → Trees → List Name
given_values u shape.VariableDeclarator xs (id ▸ (init ▸ ts)) = if gives_value u (is_absent init) then written_by xs id else []
given_values u h xs ts = []

abbrev pub write_at : Around → Name → Mention
write_at a x = record { name = x; used = Write; binds = false; around = a }

unfoldable mutual
  pub var_writes : Use → Around → Tree → List Mention
  var_writes u a (node h xs n ts) = map (write_at a) (given_values u h xs ts) ++ var_writes_from (use_of h u) (around_child h a n) 0 ts

  pub var_writes_from : (ℕ → Use) → (ℕ → Around) → ℕ → Trees → List Mention
  var_writes_from uses arounds i none = []
  var_writes_from uses arounds i (t ▸ ts) = var_writes (uses i) (arounds i) t ++ var_writes_from uses arounds (suc i) ts

abbrev pub program_var_writes : Tree → List Mention
program_var_writes t = var_writes Read outermost t

-- A declarator of a pattern has no name of its own, and the names in the pattern are those of the
-- `var`s. Each value goes to the innermost variable of its name, which under a parameter of `catch`
-- is that (ECMA-262, "Runtime Semantics: BindingInitialization" without an environment:
-- ResolveBinding; "VariableStatements in Catch Clauses")
abbrev pub is_pattern : Shape → Bool
is_pattern shape.ObjectPattern = true
is_pattern shape.ArrayPattern = true
is_pattern h = false

abbrev pub names_in_pattern : Tree → List Name
names_in_pattern id = if is_pattern (shape_of id) then bound_names id else []

abbrev pub own_pattern_writes : Use → Environment → Shape → Trees → List Name
own_pattern_writes u env shape.VariableDeclarator (id ▸ (init ▸ ts)) = if gives_value u (is_absent init) then map (with_symbol Read env) (names_in_pattern id) else []
own_pattern_writes u env h ts = []

unfoldable mutual
  pub pattern_writes : Use → Environment → Tree → List Name
  pattern_writes u env (node h xs n ts) = own_pattern_writes u env h ts ++ pattern_writes_from (opened u h ts) (use_of h u) 0 env ts

  pub pattern_writes_from : (ℕ → List Binding) → (ℕ → Use) → ℕ → Environment → Trees → List Name
  pattern_writes_from scope uses i env none = []
  pattern_writes_from scope uses i env (t ▸ ts) = pattern_writes (uses i) (env ++ scope i) t ++ pattern_writes_from scope uses (suc i) (env ++ scope i) ts

abbrev pub program_pattern_writes : Tree → List Name
program_pattern_writes t = pattern_writes Read [] t

-- ---- Shared

-- whether a variable is shared with every body that mentions it
abbrev pub is_shared_always : Tree → Name → Bool
is_shared_always t x = is_none x.symbol || is_among x (script_tops t) || is_among x (module_names t) || is_among x (seen_by_eval t) || is_among x (reached_by_arguments false t) || is_among x (caught t) || is_among x (program_pattern_writes t)

-- whether a body shares a variable: it is shared always, or another body or a carried node mentions
-- it
abbrev pub is_shared : Tree → ℕ → Name → Bool
is_shared t b x = is_variable x && (is_shared_always t x || list_any (λ m. same_variable x m.name && is_elsewhere b m.around) (program_mentions t))
