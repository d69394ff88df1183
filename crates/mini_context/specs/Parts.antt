-- Which of the names that a node's children bind or declare a definition speaks of.
use Rattle.std.specs.Prelude.{ℕ, suc, Bool, true, false, List, [], Option, Some, None}
use Rattle.mini_model.specs.declared.kind.VariableDeclarationKind.TheVariants.{Const, Var}
use Rattle.mini_model.specs.declared.name.Name.{Name}
use Rattle.mini_model.specs.declared.shape.Shape.{Shape}
use Rattle.mini_model.specs.declared.shape.Shape.TheVariants as shape
use Rattle.mini_model.specs.Tree.{Tree, Trees}
use Rattle.mini_model.specs.Paths.{child_at}
use Rattle.mini_laws.specs.declared.names.Declared.TheVariants as declared
use Rattle.mini_laws.specs.DeclaredNames.{all_names, bound_names}
use Rattle.mini_context.specs.declared.parts.Part.{Part}
use Rattle.mini_context.specs.declared.parts.Part.TheVariants as part

abbrev pub bound_at : Option Tree → List Name
bound_at None = []
bound_at (Some t) = bound_names t

abbrev pub names_at : Part → Trees → List Name
names_at (part.Every d) ts = all_names d ts
names_at (part.At i) ts = bound_at (child_at ts i)
names_at part.Nothing ts = []

-- where a node has names that can't be written (ECMA-262, "CreateImmutableBinding")
abbrev pub fixed_part : Shape → Part
fixed_part (shape.VariableDeclaration Const) = part.Every declared.Bound
fixed_part shape.ImportDeclaration = part.Every declared.Bound
fixed_part (shape.Function false g ds) = part.At 0
fixed_part (shape.Class false) = part.At 0
fixed_part (shape.Class true) = part.At 3
fixed_part h = part.Nothing

-- where a node of a shape and a number binds names as a pattern does
abbrev pub pattern_part : Shape → ℕ → Part
pattern_part shape.ObjectPattern n = part.Every declared.Bound
pattern_part shape.ArrayPattern n = part.Every declared.Bound
pattern_part shape.AssignmentPattern (suc n) = part.Every declared.Bound
pattern_part h n = part.Nothing

-- the lexical names directly in a `switch`
abbrev pub switched_part : Shape → Part
switched_part shape.SwitchStatement = part.Every declared.Lexical
switched_part h = part.Nothing

-- where a node has lexical names, directly in the body of a script or a function (true), or
-- elsewhere: classes aside, which hold their name twice
abbrev pub lexical_part : Bool → Shape → Part
lexical_part b (shape.VariableDeclaration Var) = part.Nothing
lexical_part b (shape.VariableDeclaration k) = part.Every declared.Bound
lexical_part true (shape.Function true g ds) = part.Nothing
lexical_part b (shape.Function d g ds) = part.At 0
lexical_part b shape.CatchClause = part.At 0
lexical_part b shape.ImportDeclaration = part.Every declared.Bound
lexical_part b h = part.Nothing
