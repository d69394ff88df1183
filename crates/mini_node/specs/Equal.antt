-- Whether two trees are equal.
use Rattle.std.specs.Prelude.{ℕ, ◌≡◌, nat_eq, Bool, true, false, ◌&&◌, List}
use Rattle.std.specs.Coded.{Coded, coded_list}
use base.Stored.{Gv, gnil, gnum, gcons}
use Rattle.mini_model.specs.declared.name.Name.{Name}
use Rattle.mini_model.specs.contracts.name.Name as name'
use Rattle.mini_model.specs.declared.shape.Shape.{Shape}
use Rattle.mini_model.specs.declared.shape.Shape.TheVariants as shape
use Rattle.mini_model.specs.contracts.shape.Shape as shape'
use Rattle.mini_model.specs.declared.kind.VariableDeclarationKind.TheVariants as kind
use Rattle.mini_model.specs.declared.kind.MetaPropertyKind.TheVariants as meta
use Rattle.mini_model.specs.declared.operator.LogicalOperator.TheVariants as logical
use Rattle.mini_model.specs.declared.operator.UnaryOperator.TheVariants as unary
use Rattle.mini_model.specs.declared.operator.UpdateOperator.TheVariants as update
use Rattle.mini_model.specs.Tree.{Tree, Trees, node, none, ◌▸◌, shape_of}
use Rattle.mini_node.specs.Children.{names_of, number_of}

-- what is plain is compared by its code, which is one to one (`Coded`)
abbrev pub same_code : Gv → Gv → Bool
same_code gnil gnil = true
same_code (gnum m) (gnum n) = nat_eq m n
same_code (gcons a b) (gcons c d) = same_code a c && same_code b d
same_code _ _ = false

unfoldable pub same_shape : Shape → Shape → Bool
same_shape h g = same_code (shape'.the_row.coded.code h) (shape'.the_row.coded.code g)

abbrev pub names_code : Coded (List Name)
names_code = coded_list name'.the_row.coded

-- spellings and symbols
unfoldable pub same_names : List Name → List Name → Bool
same_names xs ys = same_code (names_code.code xs) (names_code.code ys)

-- shape, names and number, whatever the children are
abbrev pub same_root : Tree → Tree → Bool
same_root t u = same_shape (shape_of t) (shape_of u) && (nat_eq (number_of t) (number_of u) && same_names (names_of t) (names_of u))

abbrev mutual
  pub same_tree : Tree → Tree → Bool
  same_tree (node h xs n ts) (node g ys m us) = (same_shape h g && (nat_eq n m && same_names xs ys)) && same_trees ts us

  pub same_trees : Trees → Trees → Bool
  same_trees none none = true
  same_trees (t ▸ ts) (u ▸ us) = same_tree t u && same_trees ts us
  same_trees _ _ = false

-- shapes are numbered, with each choice of their flags and of the kinds of which there are few;
-- those with other fields have 0
abbrev pub plain_number : Shape → ℕ
plain_number shape.Absent = 1
plain_number shape.Listed = 2
plain_number shape.InnerExpression = 3
plain_number shape.ExpressionStatement = 4
plain_number shape.EmptyStatement = 5
plain_number shape.DebuggerStatement = 6
plain_number shape.BlockStatement = 7
plain_number shape.LabeledStatement = 8
plain_number shape.BreakStatement = 9
plain_number shape.ContinueStatement = 10
plain_number shape.ReturnStatement = 11
plain_number shape.ThrowStatement = 12
plain_number shape.IfStatement = 13
plain_number shape.SwitchStatement = 14
plain_number shape.SwitchCase = 15
plain_number shape.TryStatement = 16
plain_number shape.CatchClause = 17
plain_number shape.WhileStatement = 18
plain_number shape.DoWhileStatement = 19
plain_number shape.ForStatement = 20
plain_number shape.ForInStatement = 21
plain_number shape.ForOfStatement = 22
plain_number shape.VariableDeclarator = 23
plain_number shape.FunctionBody = 24
plain_number shape.ClassBody = 25
plain_number shape.StaticBlock = 26
plain_number shape.ImportDeclaration = 27
plain_number shape.ImportSpecifier = 28
plain_number shape.ImportDefaultSpecifier = 29
plain_number shape.ImportNamespaceSpecifier = 30
plain_number shape.ExportNamedDeclaration = 31
plain_number shape.ExportSpecifier = 32
plain_number shape.ExportDefaultDeclaration = 33
plain_number shape.ExportAllDeclaration = 34
plain_number shape.Identifier = 35
plain_number shape.BindingIdentifier = 36
plain_number shape.NullLiteral = 37
plain_number shape.ThisExpression = 38
plain_number shape.Super = 39
plain_number shape.ArrayExpression = 40
plain_number shape.ObjectExpression = 41
plain_number shape.SpreadElement = 42
plain_number shape.PrivateInExpression = 43
plain_number shape.ConditionalExpression = 44
plain_number shape.SequenceExpression = 45
plain_number shape.SuperCallExpression = 46
plain_number shape.NewExpression = 47
plain_number shape.SuperStaticMemberExpression = 48
plain_number shape.SuperComputedMemberExpression = 49
plain_number shape.ChainExpression = 50
plain_number shape.TemplateLiteral = 51
plain_number shape.TaggedTemplateExpression = 52
plain_number shape.ImportExpression = 53
plain_number shape.ObjectPattern = 54
plain_number shape.ArrayPattern = 55
plain_number shape.RestElement = 56
plain_number shape.AssignmentPattern = 57
plain_number shape.ObjectAssignmentTarget = 58
plain_number shape.ArrayAssignmentTarget = 59
plain_number shape.AssignmentTargetPropertyIdentifier = 60
plain_number (shape.Class false) = 61
plain_number (shape.Class true) = 62
plain_number (shape.BooleanLiteral false) = 63
plain_number (shape.BooleanLiteral true) = 64
plain_number (shape.CallExpression false) = 65
plain_number (shape.CallExpression true) = 66
plain_number (shape.StaticMemberExpression false) = 67
plain_number (shape.StaticMemberExpression true) = 68
plain_number (shape.ComputedMemberExpression false) = 69
plain_number (shape.ComputedMemberExpression true) = 70
plain_number (shape.PrivateFieldExpression false) = 71
plain_number (shape.PrivateFieldExpression true) = 72
plain_number (shape.YieldExpression false) = 73
plain_number (shape.YieldExpression true) = 74
plain_number (shape.AssignmentTargetPropertyProperty false) = 75
plain_number (shape.AssignmentTargetPropertyProperty true) = 76
plain_number (shape.PropertyDefinition false false) = 77
plain_number (shape.PropertyDefinition false true) = 78
plain_number (shape.PropertyDefinition true false) = 79
plain_number (shape.PropertyDefinition true true) = 80
plain_number (shape.BindingProperty false false) = 81
plain_number (shape.BindingProperty false true) = 82
plain_number (shape.BindingProperty true false) = 83
plain_number (shape.BindingProperty true true) = 84
plain_number (shape.VariableDeclaration kind.Var) = 85
plain_number (shape.VariableDeclaration kind.Let) = 86
plain_number (shape.VariableDeclaration kind.Const) = 87
plain_number (shape.LogicalExpression logical.Or) = 88
plain_number (shape.LogicalExpression logical.And) = 89
plain_number (shape.LogicalExpression logical.Coalesce) = 90
plain_number (shape.MetaProperty meta.NewTarget) = 91
plain_number (shape.MetaProperty meta.ImportMeta) = 92
plain_number (shape.UnaryExpression unary.UnaryPlus) = 93
plain_number (shape.UnaryExpression unary.UnaryNegation) = 94
plain_number (shape.UnaryExpression unary.LogicalNot) = 95
plain_number (shape.UnaryExpression unary.BitwiseNot) = 96
plain_number (shape.UnaryExpression unary.Typeof) = 97
plain_number (shape.UnaryExpression unary.Void) = 98
plain_number (shape.UnaryExpression unary.Delete) = 99
plain_number (shape.UpdateExpression update.Increment false) = 100
plain_number (shape.UpdateExpression update.Increment true) = 101
plain_number (shape.UpdateExpression update.Decrement false) = 102
plain_number (shape.UpdateExpression update.Decrement true) = 103
plain_number _ = 0

-- Laws

-- trees that are the same are equal, and each is the same as itself
abbrev pub SameIsEqual : Type 0
SameIsEqual = (t u : Tree) → same_tree t u ≡ true → t ≡ u

abbrev pub EachIsItself : Type 0
EachIsItself = (t : Tree) → same_tree t t ≡ true
