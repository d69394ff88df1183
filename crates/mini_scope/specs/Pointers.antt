-- The JSON pointer (RFC 6901) to the node at a path of a tree: the fields of each type are those of
-- ESTree (ES5 to ES2022).
use Rattle.std.specs.Prelude.{ℕ, zero, suc, ◌+◌, List, [], ◌∷◌, ◌++◌, length, codes, decimal, Option, Some, None, option_map, IfSome, ◌≡◌}
use Rattle.mini_model.specs.declared.shape.Shape.{Shape}
use Rattle.mini_model.specs.declared.shape.Shape.TheVariants as shape
use Rattle.mini_model.specs.Tree.{Tree, shape_of, children, child_or_absent}
use Rattle.mini_laws.specs.Early.{Path, early_names, early_jumps, no_targets}
use Rattle.mini_model.specs.Faults.{Fault, early_name, early_jump}

abbrev pub picked : ℕ → List ℕ → List ℕ → List ℕ → List ℕ → List ℕ
picked zero a b c d = a
picked (suc zero) a b c d = b
picked (suc (suc zero)) a b c d = c
picked (suc (suc (suc i))) a b c d = d

-- the field that holds a node's child at an index
abbrev pub key_of : Shape → ℕ → List ℕ
key_of (shape.Program a b) i = picked i (codes "body") [] [] []
key_of shape.BlockStatement i = picked i (codes "body") [] [] []
key_of shape.FunctionBody i = picked i (codes "body") [] [] []
key_of shape.ClassBody i = picked i (codes "body") [] [] []
key_of shape.StaticBlock i = picked i (codes "body") [] [] []
key_of shape.ExpressionStatement i = picked i (codes "expression") [] [] []
key_of shape.ChainExpression i = picked i (codes "expression") [] [] []
key_of shape.LabeledStatement i = picked i (codes "label") (codes "body") [] []
key_of shape.BreakStatement i = picked i (codes "label") [] [] []
key_of shape.ContinueStatement i = picked i (codes "label") [] [] []
key_of shape.ReturnStatement i = picked i (codes "argument") [] [] []
key_of shape.ThrowStatement i = picked i (codes "argument") [] [] []
key_of shape.SpreadElement i = picked i (codes "argument") [] [] []
key_of (shape.UnaryExpression a) i = picked i (codes "argument") [] [] []
key_of (shape.UpdateExpression a b) i = picked i (codes "argument") [] [] []
key_of (shape.YieldExpression a) i = picked i (codes "argument") [] [] []
key_of shape.RestElement i = picked i (codes "argument") [] [] []
key_of shape.IfStatement i = picked i (codes "test") (codes "consequent") (codes "alternate") []
key_of shape.ConditionalExpression i = picked i (codes "test") (codes "consequent") (codes "alternate") []
key_of shape.SwitchStatement i = picked i (codes "discriminant") (codes "cases") [] []
key_of shape.SwitchCase i = picked i (codes "test") (codes "consequent") [] []
key_of shape.TryStatement i = picked i (codes "block") (codes "handler") (codes "finalizer") []
key_of shape.CatchClause i = picked i (codes "param") (codes "body") [] []
key_of shape.WhileStatement i = picked i (codes "test") (codes "body") [] []
key_of shape.DoWhileStatement i = picked i (codes "body") (codes "test") [] []
key_of shape.ForStatement i = picked i (codes "init") (codes "test") (codes "update") (codes "body")
key_of shape.ForInStatement i = picked i (codes "left") (codes "right") (codes "body") []
key_of shape.ForOfStatement i = picked i (codes "left") (codes "right") (codes "body") []
key_of (shape.VariableDeclaration a) i = picked i (codes "declarations") [] [] []
key_of shape.VariableDeclarator i = picked i (codes "id") (codes "init") [] []
key_of (shape.Class a) i = picked i (codes "id") (codes "superClass") (codes "body") []
key_of (shape.Function a b c) i = picked i (codes "id") (codes "params") (codes "body") []
key_of (shape.ArrowFunctionExpression a) i = picked i (codes "params") (codes "body") [] []
key_of (shape.MethodDefinition a b c) i = picked i (codes "key") (codes "value") [] []
key_of (shape.PropertyDefinition a b) i = picked i (codes "key") (codes "value") [] []
key_of (shape.ObjectProperty a b c d) i = picked i (codes "key") (codes "value") [] []
key_of (shape.BindingProperty a b) i = picked i (codes "key") (codes "value") [] []
key_of shape.AssignmentTargetPropertyIdentifier i = picked i (codes "key") (codes "value") [] []
key_of (shape.AssignmentTargetPropertyProperty a) i = picked i (codes "key") (codes "value") [] []
key_of shape.ImportDeclaration i = picked i (codes "specifiers") (codes "source") [] []
key_of shape.ImportSpecifier i = picked i (codes "imported") (codes "local") [] []
key_of shape.ImportDefaultSpecifier i = picked i (codes "local") [] [] []
key_of shape.ImportNamespaceSpecifier i = picked i (codes "local") [] [] []
key_of shape.ExportNamedDeclaration i = picked i (codes "declaration") (codes "specifiers") (codes "source") []
key_of shape.ExportSpecifier i = picked i (codes "exported") (codes "local") [] []
key_of shape.ExportDefaultDeclaration i = picked i (codes "declaration") [] [] []
key_of shape.ExportAllDeclaration i = picked i (codes "exported") (codes "source") [] []
key_of shape.ArrayExpression i = picked i (codes "elements") [] [] []
key_of shape.ArrayPattern i = picked i (codes "elements") [] [] []
key_of shape.ArrayAssignmentTarget i = picked i (codes "elements") [] [] []
key_of shape.ObjectExpression i = picked i (codes "properties") [] [] []
key_of shape.ObjectPattern i = picked i (codes "properties") [] [] []
key_of shape.ObjectAssignmentTarget i = picked i (codes "properties") [] [] []
key_of (shape.BinaryExpression a) i = picked i (codes "left") (codes "right") [] []
key_of shape.PrivateInExpression i = picked i (codes "left") (codes "right") [] []
key_of (shape.LogicalExpression a) i = picked i (codes "left") (codes "right") [] []
key_of (shape.AssignmentExpression a) i = picked i (codes "left") (codes "right") [] []
key_of shape.AssignmentPattern i = picked i (codes "left") (codes "right") [] []
key_of shape.SequenceExpression i = picked i (codes "expressions") [] [] []
key_of (shape.CallExpression a) i = picked i (codes "callee") (codes "arguments") [] []
key_of shape.SuperCallExpression i = picked i (codes "callee") (codes "arguments") [] []
key_of shape.NewExpression i = picked i (codes "callee") (codes "arguments") [] []
key_of (shape.StaticMemberExpression a) i = picked i (codes "object") (codes "property") [] []
key_of (shape.ComputedMemberExpression a) i = picked i (codes "object") (codes "property") [] []
key_of (shape.PrivateFieldExpression a) i = picked i (codes "object") (codes "property") [] []
key_of shape.SuperStaticMemberExpression i = picked i (codes "object") (codes "property") [] []
key_of shape.SuperComputedMemberExpression i = picked i (codes "object") (codes "property") [] []
key_of shape.TemplateLiteral i = picked i (codes "quasis") (codes "expressions") [] []
key_of shape.TaggedTemplateExpression i = picked i (codes "tag") (codes "quasi") [] []
key_of (shape.MetaProperty a) i = picked i (codes "meta") (codes "property") [] []
key_of shape.ImportExpression i = picked i (codes "source") [] [] []
key_of h i = []

-- from a node to its child: to an item of a list, to a field, or nowhere, where the node is none of
-- ESTree
abbrev pub step_text : Shape → ℕ → ℕ → List ℕ
step_text shape.Listed shift i = 47 ∷ decimal (shift + i)
step_text shape.InnerExpression shift i = []
step_text h shift i = 47 ∷ key_of h i

-- how many items a list has before the first of the tree: the directives of a body stand before its
-- statements
abbrev pub shift_below : Shape → ℕ → ℕ → ℕ
shift_below (shape.Program is_module ds) shift i = length ds
shift_below (shape.Function d g ds) shift (suc (suc i)) = length ds
shift_below (shape.ArrowFunctionExpression ds) shift (suc i) = length ds
shift_below shape.FunctionBody shift i = shift
shift_below h shift i = 0

abbrev pub pointer_in : ℕ → Tree → Path → List ℕ
pointer_in shift t [] = []
pointer_in shift t (i ∷ p) = step_text (shape_of t) shift i ++ pointer_in (shift_below (shape_of t) shift i) (child_or_absent (children t) i) p

-- the early error of a program that is told: its first name that is declared twice, or else its
-- first jump without a target
abbrev pub fault_by : List Path → List Path → Tree → Option Fault
fault_by [] [] t = None
fault_by [] (p ∷ ps) t = Some (record { defect = early_jump; at = pointer_in 0 t p })
fault_by (p ∷ ps) qs t = Some (record { defect = early_name; at = pointer_in 0 t p })

unfoldable pub early_fault : Tree → Option Fault
early_fault t = fault_by (early_names [] t) (early_jumps no_targets [] t) t

-- new is old at a place below, unless memory ran out
abbrev pub fault_below : List ℕ → Fault → Fault
fault_below text f = record { defect = f.defect; at = text ++ f.at }

abbrev pub IsBelow : List ℕ → Option Fault → Option Fault → Type 0
IsBelow text old new = IfSome new (λ f. option_map (fault_below text) old ≡ Some f)
