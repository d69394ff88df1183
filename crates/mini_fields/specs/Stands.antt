-- Which types stand in like places.
use Rattle.std.specs.Prelude.{ℕ, List, [], ◌∷◌, Bool, true, false, ◌&&◌, ◌||◌, Option, Some, None, if◌then◌else◌, codes}
use Rattle.serde_json.specs.Data.{Data}
use Rattle.mini_accept.specs.WellShaped.{Depth, in_module}
use Rattle.mini_accept.specs.Fields.{has_text, has_type, has_one_of}
use Rattle.mini_accept.specs.Literals.{is_string_literal, is_key_literal}
use Rattle.mini_accept.specs.Standing.{declaration_types, module_types, is_variable, is_default, is_member_target, is_method, is_head}
use Rattle.mini_accept.specs.declared.kind.Kind.TheVariants as kind
use Rattle.mini_accept.specs.declared.kind.Kind.{Kind}
use Rattle.mini_fields.specs.declared.place.Class.{Class}
use Rattle.mini_fields.specs.declared.place.Class.TheVariants as class
use Rattle.mini_fields.specs.Views.{depth_of, letters_of}

abbrev pub is_expression_kind : Kind → Bool
is_expression_kind kind.Identifier = true
is_expression_kind kind.Literal = true
is_expression_kind kind.ThisExpression = true
is_expression_kind kind.ArrayExpression = true
is_expression_kind kind.ObjectExpression = true
is_expression_kind kind.FunctionExpression = true
is_expression_kind kind.ArrowFunctionExpression = true
is_expression_kind kind.ClassExpression = true
is_expression_kind kind.UnaryExpression = true
is_expression_kind kind.UpdateExpression = true
is_expression_kind kind.BinaryExpression = true
is_expression_kind kind.LogicalExpression = true
is_expression_kind kind.AssignmentExpression = true
is_expression_kind kind.ConditionalExpression = true
is_expression_kind kind.SequenceExpression = true
is_expression_kind kind.CallExpression = true
is_expression_kind kind.NewExpression = true
is_expression_kind kind.MemberExpression = true
is_expression_kind kind.ChainExpression = true
is_expression_kind kind.YieldExpression = true
is_expression_kind kind.TemplateLiteral = true
is_expression_kind kind.TaggedTemplateExpression = true
is_expression_kind kind.MetaProperty = true
is_expression_kind kind.ImportExpression = true
is_expression_kind k = false

abbrev pub is_statement_kind : Kind → Bool
is_statement_kind kind.ExpressionStatement = true
is_statement_kind kind.EmptyStatement = true
is_statement_kind kind.DebuggerStatement = true
is_statement_kind kind.BlockStatement = true
is_statement_kind kind.LabeledStatement = true
is_statement_kind kind.BreakStatement = true
is_statement_kind kind.ContinueStatement = true
is_statement_kind kind.ReturnStatement = true
is_statement_kind kind.ThrowStatement = true
is_statement_kind kind.IfStatement = true
is_statement_kind kind.SwitchStatement = true
is_statement_kind kind.TryStatement = true
is_statement_kind kind.WhileStatement = true
is_statement_kind kind.DoWhileStatement = true
is_statement_kind kind.ForStatement = true
is_statement_kind kind.ForInStatement = true
is_statement_kind kind.ForOfStatement = true
is_statement_kind kind.VariableDeclaration = true
is_statement_kind kind.FunctionDeclaration = true
is_statement_kind kind.ClassDeclaration = true
is_statement_kind k = false

abbrev pub is_pattern_kind : Kind → Bool
is_pattern_kind kind.Identifier = true
is_pattern_kind kind.ObjectPattern = true
is_pattern_kind kind.ArrayPattern = true
is_pattern_kind k = false

abbrev pub is_identifier_kind : Kind → Bool
is_identifier_kind kind.Identifier = true
is_identifier_kind k = false

abbrev pub is_block_kind : Kind → Bool
is_block_kind kind.BlockStatement = true
is_block_kind k = false

-- ---- by the class of the place

abbrev pub is_statement_of : Depth → Kind → Data → Bool
is_statement_of in_module k d = is_statement_kind k || has_one_of module_types d
is_statement_of depth k d = is_statement_kind k

abbrev pub is_loop_left : Bool → Kind → Data → Bool
is_loop_left enumerates k d = if is_variable d then is_head enumerates d else is_pattern_kind k || is_member_target d

-- the type that a class asks for, where it asks for one and for nothing else
abbrev pub asked_type : Class → Option (List ℕ)
asked_type class.Program = Some (codes "Program")
asked_type class.Case = Some (codes "SwitchCase")
asked_type class.Catch = Some (codes "CatchClause")
asked_type class.Declarator = Some (codes "VariableDeclarator")
asked_type class.PatternProperty = Some (codes "Property")
asked_type class.TargetProperty = Some (codes "Property")
asked_type class.PatternRest = Some (codes "RestElement")
asked_type class.TargetRest = Some (codes "RestElement")
asked_type class.PrivateName = Some (codes "PrivateIdentifier")
asked_type class.ClassBody = Some (codes "ClassBody")
asked_type class.InnerArgument = Some (codes "SpreadElement")
asked_type class.Super = Some (codes "Super")
asked_type class.TaggedTemplate = Some (codes "TemplateLiteral")
asked_type c = None

-- of the classes that ask for one of some types
abbrev pub stands_in_list : Class → Kind → Data → Bool
stands_in_list class.ClassMember k d = has_one_of (codes "MethodDefinition" ∷ codes "PropertyDefinition" ∷ codes "StaticBlock" ∷ []) d
stands_in_list class.Chain k d = has_one_of (codes "CallExpression" ∷ codes "MemberExpression" ∷ []) d
stands_in_list class.ObjectProperty k d = has_one_of (codes "Property" ∷ codes "SpreadElement" ∷ []) d
stands_in_list class.Import k d = has_one_of (codes "ImportSpecifier" ∷ codes "ImportDefaultSpecifier" ∷ codes "ImportNamespaceSpecifier" ∷ []) d
stands_in_list class.ExportedDeclaration k d = has_one_of declaration_types d
stands_in_list class.DefaultExport k d = is_expression_kind k || has_one_of (codes "FunctionDeclaration" ∷ codes "ClassDeclaration" ∷ []) d
stands_in_list c k d = false

-- of the other classes
abbrev pub stands_otherwise : Class → Kind → Data → Bool
stands_otherwise class.Expression k d = is_expression_kind k
stands_otherwise class.Link k d = is_expression_kind k
stands_otherwise (class.Key true) k d = is_expression_kind k
stands_otherwise (class.Statement depth) k d = is_statement_of (depth_of depth) k d
stands_otherwise class.Block k d = is_block_kind k
stands_otherwise class.FunctionBody k d = is_block_kind k
stands_otherwise class.ArrowBody k d = is_block_kind k || is_expression_kind k
stands_otherwise class.Init k d = is_variable d || is_expression_kind k
stands_otherwise (class.LoopLeft enumerates) k d = is_loop_left enumerates k d
stands_otherwise class.Argument k d = has_type (codes "SpreadElement") d || is_expression_kind k
stands_otherwise class.Pattern k d = is_pattern_kind k
stands_otherwise class.ElementTarget k d = is_pattern_kind k
stands_otherwise class.PatternElement k d = is_pattern_kind k || is_default d
stands_otherwise class.Parameter k d = is_pattern_kind k || is_default d
stands_otherwise class.TargetElement k d = is_pattern_kind k || is_default d
stands_otherwise class.Binding k d = is_identifier_kind k
stands_otherwise class.Label k d = is_identifier_kind k
stands_otherwise class.TargetName k d = is_identifier_kind k
stands_otherwise (class.Key false) k d = is_identifier_kind k || is_key_literal d
stands_otherwise class.InnerKey k d = is_identifier_kind k || is_key_literal d
stands_otherwise class.PrivateOrKey k d = is_identifier_kind k || (is_key_literal d || has_type (codes "PrivateIdentifier") d)
stands_otherwise class.Target k d = is_pattern_kind k || is_member_target d
stands_otherwise class.SimpleTarget k d = is_identifier_kind k || is_member_target d
stands_otherwise class.MemberTarget k d = is_member_target d
stands_otherwise class.NamedTarget k d = is_identifier_kind k || is_default d
stands_otherwise class.Method k d = is_method d
stands_otherwise class.ModuleName k d = is_identifier_kind k || is_string_literal d
stands_otherwise class.String k d = is_string_literal d
stands_otherwise (class.Word w) k d = is_identifier_kind k && has_text (codes "name") (letters_of w) d
stands_otherwise c k d = stands_in_list c k d
