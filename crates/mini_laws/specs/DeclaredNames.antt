-- Which names are declared where (ECMA-262, "Static Semantics: BoundNames, LexicallyDeclaredNames,
-- VarDeclaredNames").
use Rattle.std.specs.Prelude.{ℕ, Bool, true, false, ◌||◌, List, [], ◌∷◌, ◌++◌, if◌then◌else◌}
use Rattle.mini_model.specs.declared.kind.VariableDeclarationKind.TheVariants.{Var}
use Rattle.mini_model.specs.declared.name.Name.{Name}
use Rattle.mini_model.specs.declared.shape.Shape.{Shape}
use Rattle.mini_model.specs.declared.shape.Shape.TheVariants as shape
use Rattle.mini_laws.specs.declared.names.Declared.{Declared}
use Rattle.mini_laws.specs.declared.names.Declared.TheVariants as declared
use Rattle.mini_laws.specs.declared.names.Place.{Place}
use Rattle.mini_laws.specs.declared.names.Place.TheVariants as place
use Rattle.mini_model.specs.Tree.{Tree, Trees, node, none, ◌▸◌}
use Rattle.mini_model.specs.Weight.{same_text}

-- where a node has the names that it declares: an inner expression, as a default is, binds none
abbrev pub bound_place : Shape → Place
bound_place shape.BindingIdentifier = place.Here
bound_place shape.VariableDeclarator = place.FirstBound
bound_place shape.Listed = place.Below
bound_place shape.ObjectPattern = place.Below
bound_place shape.ArrayPattern = place.Below
bound_place (shape.BindingProperty shorthand computed) = place.Below
bound_place shape.RestElement = place.Below
bound_place shape.AssignmentPattern = place.Below
bound_place shape.ImportSpecifier = place.Below
bound_place shape.ImportDefaultSpecifier = place.Below
bound_place shape.ImportNamespaceSpecifier = place.Below
bound_place _ = place.Nowhere

abbrev pub lexical_place : Shape → Place
lexical_place (shape.VariableDeclaration Var) = place.Nowhere
lexical_place (shape.VariableDeclaration k) = place.Bound
lexical_place (shape.Function true g ds) = place.FirstBound
lexical_place (shape.Class true) = place.FirstBound
lexical_place shape.ImportDeclaration = place.Bound
lexical_place shape.ExportNamedDeclaration = place.Below
lexical_place shape.ExportDefaultDeclaration = place.Below
lexical_place shape.SwitchCase = place.Below
lexical_place shape.Listed = place.Below
lexical_place _ = place.Nowhere

-- `var`s stand in statements, and so in what is made of them (ECMA-262, "Static Semantics:
-- VarDeclaredNames")
abbrev pub hoisted_place : Shape → Place
hoisted_place (shape.VariableDeclaration Var) = place.Bound
hoisted_place shape.Listed = place.Below
hoisted_place shape.BlockStatement = place.Below
hoisted_place shape.IfStatement = place.Below
hoisted_place shape.WhileStatement = place.Below
hoisted_place shape.DoWhileStatement = place.Below
hoisted_place shape.ForStatement = place.Below
hoisted_place shape.ForInStatement = place.Below
hoisted_place shape.ForOfStatement = place.Below
hoisted_place shape.LabeledStatement = place.Below
hoisted_place shape.SwitchStatement = place.Below
hoisted_place shape.SwitchCase = place.Below
hoisted_place shape.TryStatement = place.Below
hoisted_place shape.CatchClause = place.Below
hoisted_place shape.FunctionBody = place.Below
hoisted_place shape.ExportNamedDeclaration = place.Below
hoisted_place _ = place.Nowhere

abbrev pub place_of : Declared → Shape → Place
place_of declared.Bound h = bound_place h
place_of declared.Lexical h = lexical_place h
place_of declared.Hoisted h = hoisted_place h

abbrev pub names_by : Place → List Name → List Name → List Name → List Name → List Name
names_by place.Here own first bound below = own
names_by place.FirstBound own first bound below = first
names_by place.Bound own first bound below = bound
names_by place.Below own first bound below = below
names_by place.Nowhere own first bound below = []

-- the names that a tree declares, in order
unfoldable mutual
  pub names_of : Declared → Tree → List Name
  names_of d (node h xs n ts) = names_by (place_of d h) xs (first_names ts) (all_names declared.Bound ts) (all_names d ts)

  -- those that the first of some trees binds
  pub first_names : Trees → List Name
  first_names none = []
  first_names (t ▸ ts) = names_of declared.Bound t

  pub all_names : Declared → Trees → List Name
  all_names d none = []
  all_names d (t ▸ ts) = names_of d t ++ all_names d ts

-- what holds the statements of a body
abbrev pub is_statement_list : Shape → Bool
is_statement_list shape.Listed = true
is_statement_list shape.FunctionBody = true
is_statement_list _ = false

-- the names that a body of statements declares: of each statement those that it declares directly,
-- and the `var`s in it
unfoldable mutual
  pub body_names : Tree → List Name
  body_names (node h xs n ts) = if is_statement_list h then all_body_names ts else names_of declared.Lexical (node h xs n ts) ++ names_of declared.Hoisted (node h xs n ts)

  pub all_body_names : Trees → List Name
  all_body_names none = []
  all_body_names (t ▸ ts) = body_names t ++ all_body_names ts

-- whether one of the names has this spelling
abbrev pub is_spelled : List ℕ → List Name → Bool
is_spelled s [] = false
is_spelled s (x ∷ xs) = same_text x.spelling s || is_spelled s xs

-- these names with others, of which each is added where none has its spelling yet
abbrev pub with_name : List Name → Name → List Name
with_name seen x = if is_spelled x.spelling seen then seen else seen ++ x ∷ []

unfoldable pub with_names : List Name → List Name → List Name
with_names seen [] = seen
with_names seen (x ∷ xs) = with_names (with_name seen x) xs

-- whether an inner expression stands in a tree: among parameters, a default or a bracketed key
abbrev pub is_inner : Shape → Bool
is_inner shape.InnerExpression = true
is_inner _ = false

unfoldable mutual
  pub has_inner : Tree → Bool
  has_inner (node h xs n ts) = is_inner h || any_inner ts

  pub any_inner : Trees → Bool
  any_inner none = false
  any_inner (t ▸ ts) = has_inner t || any_inner ts

-- the names that stand in a node
abbrev pub own_names : Tree → List Name
own_names (node h xs n ts) = xs

abbrev pub bound_names : Tree → List Name
bound_names t = names_of declared.Bound t

abbrev pub lexical_names : Tree → List Name
lexical_names t = names_of declared.Lexical t
