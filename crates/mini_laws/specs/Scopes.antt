-- The scopes that a node opens, and how the names of each child are used.
use Rattle.std.specs.Prelude.{ℕ, zero, suc, Bool, true, false, not, ◌||◌, List, [], ◌∷◌, length, drop, map, if◌then◌else◌}
use Rattle.mini_model.specs.declared.kind.VariableDeclarationKind.{VariableDeclarationKind}
use Rattle.mini_model.specs.declared.kind.VariableDeclarationKind.TheVariants.{Var}
use Rattle.mini_model.specs.declared.name.Name.{Name}
use Rattle.mini_model.specs.declared.operator.AssignmentOperator.TheVariants.{Assign}
use Rattle.mini_model.specs.declared.shape.Shape.{Shape}
use Rattle.mini_model.specs.declared.shape.Shape.TheVariants as shape
use Rattle.mini_model.specs.Tree.{Tree, Trees, ◌▸◌}
use Rattle.mini_laws.specs.declared.names.Use.{Use}
use Rattle.mini_laws.specs.declared.names.Use.TheVariants.{Read, Write, ReadWrite, Hoisted, Headed, Alone}
use Rattle.mini_laws.specs.declared.names.Binding.{Binding}
use Rattle.mini_laws.specs.declared.names.Opening.{Opening}
use Rattle.mini_laws.specs.declared.names.Opening.TheVariants as opening
use Rattle.mini_laws.specs.DeclaredNames.{bound_names, lexical_names, body_names, with_names, has_inner}

-- of a `var`: the head of a `for..in` or `for..of` is what is assigned to
abbrev pub hoisted_by : Use → Use
hoisted_by Write = Headed
hoisted_by u = Hoisted

-- how a part of an `if` or a loop, an operand or a part of a declaration uses names; every other
-- part reads
abbrev pub use_of : Shape → Use → ℕ → Use
-- what stands for its parts
use_of shape.Listed u i = u
use_of shape.ObjectPattern u i = u
use_of shape.ArrayPattern u i = u
use_of (shape.BindingProperty shorthand computed) u i = u
use_of shape.RestElement u i = u
use_of shape.ImportSpecifier u i = u
use_of shape.ImportDefaultSpecifier u i = u
use_of shape.ImportNamespaceSpecifier u i = u
use_of shape.AssignmentPattern u i = u
use_of shape.ObjectAssignmentTarget u i = u
use_of shape.ArrayAssignmentTarget u i = u
use_of shape.AssignmentTargetPropertyIdentifier u i = u
use_of (shape.AssignmentTargetPropertyProperty computed) u i = u
use_of shape.VariableDeclarator u zero = u
-- declarations
use_of (shape.VariableDeclaration Var) u i = hoisted_by u
-- what is assigned to
use_of (shape.AssignmentExpression Assign) u zero = Write
use_of (shape.AssignmentExpression o) u zero = ReadWrite
use_of (shape.UpdateExpression o prefix) u i = ReadWrite
use_of shape.ForInStatement u zero = Write
use_of shape.ForOfStatement u zero = Write
-- branches and bodies
use_of shape.IfStatement u (suc i) = Alone
use_of shape.LabeledStatement u i = Alone
use_of shape.WhileStatement u (suc i) = Alone
use_of shape.DoWhileStatement u zero = Alone
use_of shape.ForStatement u (suc (suc (suc i))) = Alone
use_of shape.ForInStatement u (suc (suc i)) = Alone
use_of shape.ForOfStatement u (suc (suc i)) = Alone
use_of h u i = Read

abbrev pub is_alone : Use → Bool
is_alone Alone = true
is_alone _ = false

-- a scope of lexical names, and one of a program or a function, which has none of the names given
-- with it
abbrev pub lexical_scope : List Name → List Binding
lexical_scope xs = map (λ x. record { name = x; hoists = false }) (with_names [] xs)

abbrev pub body_scope : List Name → List Name → List Binding
body_scope params xs = map (λ x. record { name = x; hoists = true }) (drop (length params) (with_names params xs))

-- the names of parameters that are those of the body too: of all, where no default and no bracketed
-- key stands among them
abbrev pub merged : Tree → List Name
merged params = if has_inner params then [] else bound_names params

-- which scopes a node opens: a declaration has its name in the scope around, but where it stands
-- alone
abbrev pub variable_opening : Use → VariableDeclarationKind → Opening
variable_opening u Var = opening.Nothing
variable_opening u k = if is_alone u then opening.Bound else opening.Nothing

abbrev pub opening_of : Use → Shape → Opening
opening_of u (shape.Program is_module ds) = opening.Body
opening_of u shape.StaticBlock = opening.Body
opening_of u (shape.ArrowFunctionExpression ds) = opening.Arrow
opening_of u shape.BlockStatement = opening.First
opening_of u shape.ForStatement = opening.First
opening_of u shape.ForInStatement = opening.First
opening_of u shape.ForOfStatement = opening.First
opening_of u shape.SwitchStatement = opening.Second
opening_of u shape.CatchClause = opening.Bound
opening_of u (shape.Function declaration g ds) = opening.Function (not declaration || is_alone u)
opening_of u (shape.Class declaration) = opening.Class (not declaration || is_alone u) declaration
opening_of u (shape.VariableDeclaration k) = variable_opening u k
opening_of u h = opening.Nothing

abbrev pub name_if : Bool → Tree → List Name
name_if b id = if b then bound_names id else []

-- the scopes, the first of them before the first child, the second before the second, the third
-- before the third; each holds for all children from there on
unfoldable pub scopes_by : Opening → Trees → List (List Binding)
scopes_by opening.Body (body ▸ ts) = body_scope [] (body_names body) ∷ []
scopes_by (opening.Function own) (id ▸ params ▸ body ▸ ts) = lexical_scope (name_if own id) ∷ body_scope [] (bound_names params) ∷ body_scope (merged params) (body_names body) ∷ []
scopes_by opening.Arrow (params ▸ body ▸ ts) = body_scope [] (bound_names params) ∷ body_scope (merged params) (body_names body) ∷ []
scopes_by (opening.Class own inner) (id ▸ super_class ▸ body ▸ again ▸ ts) = lexical_scope (name_if own id) ∷ lexical_scope (name_if inner again) ∷ []
scopes_by opening.First (t ▸ ts) = lexical_scope (lexical_names t) ∷ []
scopes_by opening.Second (a ▸ b ▸ ts) = [] ∷ lexical_scope (lexical_names b) ∷ []
scopes_by opening.Bound (t ▸ ts) = lexical_scope (bound_names t) ∷ []
scopes_by o ts = []

abbrev pub at_or_empty : List (List Binding) → ℕ → List Binding
at_or_empty [] i = []
at_or_empty (s ∷ ss) zero = s
at_or_empty (s ∷ ss) (suc i) = at_or_empty ss i

-- the names that a node declares before its child at an index
abbrev pub opened : Use → Shape → Trees → ℕ → List Binding
opened u h ts i = at_or_empty (scopes_by (opening_of u h) ts) i
