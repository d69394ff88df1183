-- Small programs, one function a form, for the examples.
use Rattle.std.specs.Prelude.{ℕ, Bool, true, false, List, [], ◌∷◌, ◌++◌, map, Option, Some, None, codes}
use Rattle.mini_model.specs.declared.kind.MethodDefinitionKind.TheVariants as method
use Rattle.mini_model.specs.declared.kind.VariableDeclarationKind.{VariableDeclarationKind}
use Rattle.mini_model.specs.declared.kind.VariableDeclarationKind.TheVariants.{Var, Let}
use Rattle.mini_model.specs.declared.name.Name.{Name}
use Rattle.mini_model.specs.declared.name.SymbolId.{SymbolId}
use Rattle.mini_model.specs.declared.operator.AssignmentOperator.TheVariants as assignment
use Rattle.mini_model.specs.declared.operator.UpdateOperator.TheVariants as update
use Rattle.mini_model.specs.declared.operator.BinaryOperator.TheVariants as binary
use Rattle.mini_model.specs.declared.shape.Shape.{Shape}
use Rattle.mini_model.specs.declared.shape.Shape.TheVariants as shape
use Rattle.mini_model.specs.Tree.{Tree, Trees, node, none, ◌▸◌, listed, absent, identifier, expression_statement, program, leaf, unresolved}

-- a name with a symbol
abbrev pub known : ℕ → List ℕ → Name
known n x = record { spelling = x; symbol = Some (record { 0 = n }) }

abbrev pub script : Trees → Tree
script ts = program false [] ts

abbrev pub module_of : Trees → Tree
module_of ts = program true [] ts

-- a name that is read, and one that is declared; with a symbol
abbrev pub reference : List ℕ → Tree
reference x = identifier (unresolved x)

abbrev pub binding : List ℕ → Tree
binding x = node shape.BindingIdentifier (unresolved x ∷ []) 0 none

abbrev pub reference_of : ℕ → List ℕ → Tree
reference_of n x = identifier (known n x)

abbrev pub binding_of : ℕ → List ℕ → Tree
binding_of n x = node shape.BindingIdentifier (known n x ∷ []) 0 none

abbrev pub word : List ℕ → Tree
word x = leaf (shape.IdentifierName x)

abbrev pub plain : Shape → Trees → Tree
plain h ts = node h [] 0 ts

abbrev pub inner : ℕ → Tree → Tree
inner n e = node shape.InnerExpression [] n (e ▸ none)

abbrev pub said : Tree → Tree
said e = expression_statement e

abbrev pub block : Trees → Tree
block ts = plain shape.BlockStatement (listed ts ▸ none)

abbrev pub declares : VariableDeclarationKind → Tree → Tree → Tree
declares k x init = plain (shape.VariableDeclaration k) (listed (plain shape.VariableDeclarator (x ▸ init ▸ none) ▸ none) ▸ none)

-- `var x`, `let x`, of a name
abbrev pub var_of : List ℕ → Tree
var_of x = declares Var (binding x) absent

abbrev pub let_of : List ℕ → Tree
let_of x = declares Let (binding x) absent

-- functions, with their number, and whether they are declarations
abbrev pub function_with : Bool → Bool → List (List ℕ) → ℕ → Tree → Trees → Trees → Tree
function_with declaration generator directives n x params body = node (shape.Function declaration generator directives) [] n (x ▸ listed params ▸ plain shape.FunctionBody (listed body ▸ none) ▸ none)

abbrev pub function : ℕ → Tree → Trees → Trees → Tree
function n x params body = function_with true false [] n x params body

abbrev pub function_expression : ℕ → Tree → Trees → Trees → Tree
function_expression n x params body = function_with false false [] n x params body

abbrev pub generator : ℕ → Tree → Trees → Trees → Tree
generator n x params body = function_with true true [] n x params body

abbrev pub strict_function : ℕ → Tree → Trees → Trees → Tree
strict_function n x params body = function_with true false (codes "use strict" ∷ []) n x params body

abbrev pub arrow : ℕ → Trees → Tree → Tree
arrow n params body = node (shape.ArrowFunctionExpression []) [] n (listed params ▸ body ▸ none)

abbrev pub arrow_block : ℕ → Trees → Trees → Tree
arrow_block n params body = arrow n params (plain shape.FunctionBody (listed body ▸ none))

-- `x = e` among parameters and in patterns
abbrev pub with_default : ℕ → ℕ → Tree → Tree → Tree
with_default n m x e = node shape.AssignmentPattern [] n (x ▸ inner m e ▸ none)

-- classes: the name, the name again, the superclass, the members
abbrev pub class_with : Bool → ℕ → Tree → Tree → Tree → Trees → Tree
class_with declaration n x again super_class members = node (shape.Class declaration) [] n (x ▸ super_class ▸ plain shape.ClassBody (listed members ▸ none) ▸ again ▸ none)

abbrev pub method_of : Tree → Tree
method_of f = plain (shape.MethodDefinition method.Method false false) (word (codes "m") ▸ f ▸ none)

abbrev pub constructor_of : Tree → Tree
constructor_of f = plain (shape.MethodDefinition method.Constructor false false) (word (codes "constructor") ▸ f ▸ none)

abbrev pub field_of : Tree → Tree
field_of e = plain (shape.PropertyDefinition false false) (word (codes "m") ▸ e ▸ none)

abbrev pub static_block : ℕ → Trees → Tree
static_block n ts = node shape.StaticBlock [] n (listed ts ▸ none)

abbrev pub assigns : Tree → Tree → Tree
assigns x e = plain (shape.AssignmentExpression assignment.Assign) (x ▸ e ▸ none)

abbrev pub adds : Tree → Tree → Tree
adds x e = plain (shape.AssignmentExpression assignment.Addition) (x ▸ e ▸ none)

abbrev pub increments : Tree → Tree
increments x = plain (shape.UpdateExpression update.Increment true) (x ▸ none)

abbrev pub sum : Tree → Tree → Tree
sum x y = plain (shape.BinaryExpression binary.Addition) (x ▸ y ▸ none)

abbrev pub zero_literal : Tree
zero_literal = leaf shape.NullLiteral

abbrev pub member : Tree → List ℕ → Tree
member e x = plain (shape.StaticMemberExpression false) (e ▸ word x ▸ none)

abbrev pub calls : Tree → Trees → Tree
calls f xs = plain (shape.CallExpression false) (f ▸ listed xs ▸ none)

-- `try { } catch (x) { .. }`
abbrev pub catches : Tree → Trees → Tree
catches x ts = plain shape.TryStatement (block none ▸ plain shape.CatchClause (x ▸ block ts ▸ none) ▸ absent ▸ none)

abbrev pub case_of : Tree → Trees → Tree
case_of test ts = plain shape.SwitchCase (test ▸ listed ts ▸ none)

abbrev pub switches : Tree → Trees → Tree
switches e cases = plain shape.SwitchStatement (e ▸ listed cases ▸ none)

abbrev pub loops : Tree → Tree → Tree
loops test body = plain shape.WhileStatement (test ▸ body ▸ none)

abbrev pub for_of : Tree → Tree → Tree → Tree
for_of left right body = plain shape.ForOfStatement (left ▸ right ▸ body ▸ none)

abbrev pub for_in : Tree → Tree → Tree → Tree
for_in left right body = plain shape.ForInStatement (left ▸ right ▸ body ▸ none)

abbrev pub for_with : Tree → Tree → Tree → Tree → Tree
for_with init test after body = plain shape.ForStatement (init ▸ test ▸ after ▸ body ▸ none)

abbrev pub labeled : List ℕ → Tree → Tree
labeled x body = plain shape.LabeledStatement (word x ▸ body ▸ none)

abbrev pub leaves : Shape → Tree → Tree
leaves h label = plain h (label ▸ none)

-- `{ x }` and `[ x ]` as patterns of a declaration
abbrev pub object_pattern : ℕ → List ℕ → Tree → Tree
object_pattern n x value = node shape.ObjectPattern [] n (listed (plain (shape.BindingProperty true false) (word x ▸ value ▸ none) ▸ none) ▸ none)

abbrev pub array_pattern : ℕ → Trees → Tree
array_pattern n ts = node shape.ArrayPattern [] n (listed ts ▸ none)

-- `export { x }`, `import x from ".."`
abbrev pub exports : Tree → Tree
exports x = plain shape.ExportNamedDeclaration (absent ▸ listed (plain shape.ExportSpecifier (word (codes "x") ▸ x ▸ none) ▸ none) ▸ absent ▸ none)

abbrev pub exports_declaration : Tree → Tree
exports_declaration d = plain shape.ExportNamedDeclaration (d ▸ listed none ▸ absent ▸ none)

abbrev pub imports : Tree → Tree
imports x = plain shape.ImportDeclaration (listed (plain shape.ImportDefaultSpecifier (x ▸ none) ▸ none) ▸ leaf (shape.StringLiteral []) ▸ none)

-- ---- what is asked

-- the symbols of the names of a tree, in order
abbrev pub is : ℕ → Option SymbolId
is n = Some (record { 0 = n })

abbrev pub free : Option SymbolId
free = None

unfoldable mutual
  pub given : Tree → List (Option SymbolId)
  given (node h xs n ts) = map (λ x. x.symbol) xs ++ all_given ts

  pub all_given : Trees → List (Option SymbolId)
  all_given none = []
  all_given (t ▸ ts) = given t ++ all_given ts

abbrev pub a : List ℕ
a = codes "a"

abbrev pub b : List ℕ
b = codes "b"

abbrev pub c : List ℕ
c = codes "c"

abbrev pub e : List ℕ
e = codes "e"

abbrev pub f : List ℕ
f = codes "f"

abbrev pub g : List ℕ
g = codes "g"

abbrev pub p : List ℕ
p = codes "p"

abbrev pub x : List ℕ
x = codes "x"

abbrev pub eval : List ℕ
eval = codes "eval"

abbrev pub arguments : List ℕ
arguments = codes "arguments"
