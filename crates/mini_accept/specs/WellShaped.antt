-- Which trees are programs: each shape has the children that its type has in ESTree (ES5 to
-- ES2022), where ECMA-262's grammar lets them stand.
use Rattle.std.specs.Prelude.{◌≡◌, ℕ, suc, List, [], ◌∷◌, length, Bool, true, false, ◌&&◌, ◌||◌, ◌==◌, not, nat_eq, nat_le, Option, Some, None, is_some, codes, ℤ, pos, negsuc, if◌then◌else◌}
use Rattle.std.specs.Cmp.Lexicographic.{pointwise}
use Rattle.std.specs.Char.Utf16.{has_unpaired_surrogate}
use Rattle.mini_model.specs.Texts.{are_units, is_identifier_name}
use Rattle.mini_model.specs.Numerals.{max_safe_integer}
use Rattle.mini_model.specs.Templates.{cooked}
use Rattle.mini_model.specs.declared.kind.MetaPropertyKind.TheVariants.{NewTarget, ImportMeta}
use Rattle.mini_model.specs.declared.kind.MethodDefinitionKind.{MethodDefinitionKind}
use Rattle.mini_model.specs.declared.kind.MethodDefinitionKind.TheVariants as method
use Rattle.mini_model.specs.declared.kind.PropertyKind.{PropertyKind}
use Rattle.mini_model.specs.declared.kind.PropertyKind.TheVariants as property
use Rattle.mini_model.specs.declared.kind.VariableDeclarationKind.{VariableDeclarationKind}
use Rattle.mini_model.specs.declared.kind.VariableDeclarationKind.TheVariants.{Var}
use Rattle.mini_model.specs.declared.name.Name.{Name}
use Rattle.mini_model.specs.declared.operator.AssignmentOperator.TheVariants.{Assign}
use Rattle.mini_model.specs.declared.operator.UnaryOperator.TheVariants.{UnaryNegation}
use Rattle.mini_model.specs.declared.shape.Shape.{Shape}
use Rattle.mini_model.specs.declared.shape.Shape.TheVariants as shape
use Rattle.mini_model.specs.Tree.{Tree, Trees, node, none, ◌▸◌, count, children, child_or_absent, shape_of, is_absent}

-- ---- places

-- where a statement stands: in the body of a module, directly in the body of a script or a
-- function, or deeper
pub data Depth : Type 0 where
  in_module : Depth
  in_body : Depth
  nested : Depth

-- how a template stands: by itself, or with a tag, where malformed raw text may stand
pub data Tagging : Type 0 where
  untagged : Tagging
  tagged : Tagging

-- what may stand at a place
pub data Class : Type 0 where
  a_program : Class
  a_statement : Depth → Class
  a_block : Class
  a_case : Class
  a_catch : Class
  -- the head of a `for`, and of a `for..in` (true) or `for..of` (false)
  an_init : Class
  a_loop_left : Bool → Class
  -- a declarator; a pattern that a declaration binds, with or without a default
  a_declarator : Class
  a_pattern : Class
  a_pattern_element : Class
  a_pattern_property : Class
  a_pattern_rest : Class
  a_parameter : Class
  -- a name that is declared, a name that is none of a variable, a private name
  a_binding : Class
  a_label : Class
  a_private_name : Class
  a_function_body : Class
  an_arrow_body : Class
  a_class_body : Class
  a_class_member : Class
  -- a function that is a method's value: an expression without a name
  a_method : Class
  an_expression : Class
  -- the callee or the object in a chain, which may be optional, and the call or member at the end
  -- of one
  a_link : Class
  a_chain : Class
  an_argument : Class
  -- an argument of `super()`, whose expressions are inner ones
  an_inner_argument : Class
  -- an inner expression of a carried node, over a child of this class
  an_inner : Class → Class
  a_super : Class
  an_object_property : Class
  -- a key, computed or not: in an object literal, in a class, and in a pattern
  a_key : Bool → Class
  a_private_or_key : Bool → Class
  an_inner_key : Bool → Class
  a_tagged_template : Class
  -- what is assigned to: by `=`, by another operator or an update, or in a pattern
  a_target : Class
  a_simple_target : Class
  an_element_target : Class
  a_member_target : Class
  -- a name that a shorthand property assigns to, with or without a default
  a_named_target : Class
  a_target_name : Class
  a_target_element : Class
  a_target_property : Class
  a_target_rest : Class
  -- modules
  an_import : Class
  a_module_name : Class
  a_string : Class
  an_export : Class
  -- a local name that is exported, or the name that another module has for it
  an_exported_name : Class
  an_exported_declaration : Class
  a_default_export : Class
  -- the keyword of a meta property
  a_word : List ℕ → Class

-- the child that stands at a place of a node
pub data Slot : Type 0 where
  one : Class → Slot
  one_or_absent : Class → Slot
  -- a list; one with holes in it; and one whose last item may be a rest
  many : Class → Slot
  many_or_holes : Class → Slot
  many_and_rest : Class → Class → Slot
  many_or_holes_and_rest : Class → Class → Slot
  -- the quasis of a template
  quasis : Tagging → Slot

-- ---- texts and numbers

abbrev pub is_text : List ℕ → List ℕ → Bool
is_text = pointwise nat_eq

-- units of which each half of a surrogate pair has the other (The Unicode Standard, D91 and D92)
abbrev pub is_paired : List ℕ → Bool
is_paired s = are_units s && not (has_unpaired_surrogate s)

-- units that spell an identifier's name (ECMA-262, IdentifierName)
abbrev pub is_name : List ℕ → Bool
is_name s = are_units s && is_identifier_name s

abbrev pub are_paired : List (List ℕ) → Bool
are_paired [] = true
are_paired (s ∷ ss) = is_paired s && are_paired ss

-- of malformed text there is no cooked one
abbrev pub is_paired_cooked : Option (List ℕ) → Bool
is_paired_cooked None = true
is_paired_cooked (Some s) = is_paired s

-- 2 ^ 128 - 1
abbrev pub max_big_int : ℕ
max_big_int = 340_282_366_920_938_463_463_374_607_431_768_211_455

abbrev pub is_safe : ℤ → Bool
is_safe (pos n) = nat_le n max_safe_integer
is_safe (negsuc n) = nat_le (suc n) max_safe_integer

abbrev pub is_positive : ℤ → Bool
is_positive (pos (suc n)) = true
is_positive _ = false

abbrev pub has_use_strict : List (List ℕ) → Bool
has_use_strict [] = false
has_use_strict (s ∷ ss) = is_text s (codes "use strict") || has_use_strict ss

abbrev pub is_same_flag : Bool → Bool → Bool
is_same_flag true b = b
is_same_flag false b = not b

-- ---- what of a node's children stands where

abbrev pub is_function_body_shape : Shape → Bool
is_function_body_shape shape.FunctionBody = true
is_function_body_shape _ = false

abbrev pub is_function_body : Tree → Bool
is_function_body t = is_function_body_shape (shape_of t)

abbrev pub is_reference_shape : Shape → Bool
is_reference_shape shape.Identifier = true
is_reference_shape _ = false

abbrev pub is_reference : Tree → Bool
is_reference t = is_reference_shape (shape_of t)

abbrev pub first_item : Trees → Tree
first_item ts = child_or_absent ts 0

-- of the declaration in the head of a `for..in` or `for..of`: one declarator; no initializer but of
-- `var` in a `for..in`
abbrev pub is_initialized : Tree → Bool
is_initialized d = not (is_absent (child_or_absent (children d) 1))

abbrev pub is_var : VariableDeclarationKind → Bool
is_var Var = true
is_var _ = false

abbrev pub is_head_by : Bool → VariableDeclarationKind → Trees → Bool
is_head_by enumerates k (d ▸ none) = not (is_initialized d) || (enumerates && is_var k)
is_head_by enumerates k _ = false

-- the spelling of a name, of a key or a name
abbrev pub spelling_of_names : List Name → List ℕ
spelling_of_names [] = []
spelling_of_names (x ∷ xs) = x.spelling

abbrev pub spelling_by : Shape → List Name → Option (List ℕ)
spelling_by shape.Identifier xs = Some (spelling_of_names xs)
spelling_by shape.BindingIdentifier xs = Some (spelling_of_names xs)
spelling_by (shape.IdentifierName s) xs = Some s
spelling_by _ xs = None

abbrev pub spelling : Tree → Option (List ℕ)
spelling (node h xs n ts) = spelling_by h xs

abbrev pub is_same_spelling : Option (List ℕ) → Option (List ℕ) → Bool
is_same_spelling (Some s) (Some r) = is_text s r
is_same_spelling _ _ = false

-- of the value of a shorthand property: the part of a pattern without its default
abbrev pub without_default : Tree → Tree
without_default (node shape.AssignmentPattern xs n ts) = first_item ts
without_default t = t

abbrev pub repeats_key : Trees → Bool
repeats_key ts = is_same_spelling (spelling (child_or_absent ts 0)) (spelling (without_default (child_or_absent ts 1)))

-- a class declaration with a name holds it once more, and any other class doesn't (ECMA-262,
-- ClassDefinitionEvaluation)
abbrev pub holds_its_name : Bool → Trees → Bool
holds_its_name declaration ts =
    if declaration && not (is_absent (child_or_absent ts 0)) then is_same_spelling (spelling (child_or_absent ts 0)) (spelling (child_or_absent ts 3)) else is_absent (child_or_absent ts 3)

-- a method's key that makes it the constructor of its class: the name or the text `constructor`,
-- without brackets
abbrev pub names_constructor : Tree → Bool
names_constructor (node (shape.IdentifierName s) xs n ts) = is_text s (codes "constructor")
names_constructor (node (shape.StringLiteral s) xs n ts) = is_text s (codes "constructor")
names_constructor _ = false

abbrev pub is_constructor : Bool → Bool → Tree → Bool
is_constructor computed is_static key = not is_static && (not computed && names_constructor key)

-- a method that is no accessor, isn't static and has that key is the constructor, and no other is
-- (ECMA-262, ConstructorMethod)
abbrev pub has_its_kind : MethodDefinitionKind → Bool → Bool → Tree → Bool
has_its_kind method.Constructor computed is_static key = is_constructor computed is_static key
has_its_kind method.Method computed is_static key = not (is_constructor computed is_static key)
has_its_kind _ computed is_static key = true

abbrev pub is_init : PropertyKind → Bool
is_init property.Init = true
is_init _ = false

-- the class of a property's value
abbrev pub value_class : PropertyKind → Bool → Class
value_class k is_method = if is_method || not (is_init k) then a_method else an_expression

-- some link of the chain is optional, along callees and objects; a chain below has its own
abbrev mutual
  pub has_optional : Tree → Bool
  has_optional (node h xs n ts) = has_optional_by h ts

  pub has_optional_by : Shape → Trees → Bool
  has_optional_by (shape.CallExpression b) (t ▸ ts) = b || has_optional t
  has_optional_by (shape.StaticMemberExpression b) (t ▸ ts) = b || has_optional t
  has_optional_by (shape.ComputedMemberExpression b) (t ▸ ts) = b || has_optional t
  has_optional_by (shape.PrivateFieldExpression b) (t ▸ ts) = b || has_optional t
  has_optional_by shape.InnerExpression (t ▸ ts) = has_optional t
  has_optional_by h ts = false

abbrev pub is_not_positive_number : Tree → Bool
is_not_positive_number (node (shape.NumericLiteral n) xs m ts) = not (is_positive n)
is_not_positive_number _ = true

abbrev pub is_text_of_cooked : Option (List ℕ) → Option (List ℕ) → Bool
is_text_of_cooked (Some s) (Some r) = is_text s r
is_text_of_cooked None None = true
is_text_of_cooked _ _ = false

-- ---- the children of each shape, by where it stands

-- the expressions; the callee or object of a link in a chain has a class of its own
abbrev pub expression_slots : Class → Shape → Option (List Slot)
expression_slots k shape.ThisExpression = Some []
expression_slots k shape.Identifier = Some []
expression_slots k (shape.NumericLiteral n) = Some []
expression_slots k (shape.StringLiteral s) = Some []
expression_slots k (shape.BooleanLiteral b) = Some []
expression_slots k shape.NullLiteral = Some []
expression_slots k (shape.RegExpLiteral pattern flags) = Some []
expression_slots k (shape.BigIntLiteral n) = Some []
expression_slots k shape.ArrayExpression = Some (many_or_holes an_argument ∷ [])
expression_slots k shape.ObjectExpression = Some (many an_object_property ∷ [])
expression_slots k (shape.Function false g ds) = Some (one_or_absent a_binding ∷ many_and_rest a_parameter a_pattern_rest ∷ one a_function_body ∷ [])
expression_slots k (shape.ArrowFunctionExpression ds) = Some (many_and_rest a_parameter a_pattern_rest ∷ one an_arrow_body ∷ [])
expression_slots k (shape.Class false) = Some (one_or_absent a_binding ∷ one_or_absent (an_inner an_expression) ∷ one a_class_body ∷ one_or_absent a_binding ∷ [])
expression_slots k (shape.UnaryExpression o) = Some (one an_expression ∷ [])
expression_slots k (shape.UpdateExpression o prefix) = Some (one a_simple_target ∷ [])
expression_slots k (shape.BinaryExpression o) = Some (one an_expression ∷ one an_expression ∷ [])
expression_slots k shape.PrivateInExpression = Some (one a_private_name ∷ one (an_inner an_expression) ∷ [])
expression_slots k (shape.LogicalExpression o) = Some (one an_expression ∷ one an_expression ∷ [])
expression_slots k (shape.AssignmentExpression Assign) = Some (one a_target ∷ one an_expression ∷ [])
expression_slots k (shape.AssignmentExpression o) = Some (one a_simple_target ∷ one an_expression ∷ [])
expression_slots k shape.ConditionalExpression = Some (one an_expression ∷ one an_expression ∷ one an_expression ∷ [])
expression_slots k shape.SequenceExpression = Some (many an_expression ∷ [])
expression_slots k (shape.CallExpression optional) = Some (one k ∷ many an_argument ∷ [])
expression_slots k shape.SuperCallExpression = Some (one a_super ∷ many an_inner_argument ∷ [])
expression_slots k shape.NewExpression = Some (one an_expression ∷ many an_argument ∷ [])
expression_slots k (shape.StaticMemberExpression optional) = Some (one k ∷ one a_label ∷ [])
expression_slots k (shape.ComputedMemberExpression optional) = Some (one k ∷ one an_expression ∷ [])
expression_slots k (shape.PrivateFieldExpression optional) = Some (one (an_inner k) ∷ one a_private_name ∷ [])
expression_slots k shape.SuperStaticMemberExpression = Some (one a_super ∷ one a_label ∷ [])
expression_slots k shape.SuperComputedMemberExpression = Some (one a_super ∷ one (an_inner an_expression) ∷ [])
expression_slots k shape.ChainExpression = Some (one a_chain ∷ [])
expression_slots k (shape.YieldExpression delegate) = Some ((if delegate then one an_expression else one_or_absent an_expression) ∷ [])
expression_slots k shape.TemplateLiteral = Some (quasis untagged ∷ many an_expression ∷ [])
expression_slots k shape.TaggedTemplateExpression = Some (one (an_inner an_expression) ∷ one a_tagged_template ∷ [])
expression_slots k (shape.MetaProperty NewTarget) = Some (one (a_word (codes "new")) ∷ one (a_word (codes "target")) ∷ [])
expression_slots k (shape.MetaProperty ImportMeta) = Some (one (a_word (codes "import")) ∷ one (a_word (codes "meta")) ∷ [])
expression_slots k shape.ImportExpression = Some (one (an_inner an_expression) ∷ [])
expression_slots k h = None

abbrev pub is_optional : Shape → Bool
is_optional (shape.CallExpression b) = b
is_optional (shape.StaticMemberExpression b) = b
is_optional (shape.ComputedMemberExpression b) = b
is_optional (shape.PrivateFieldExpression b) = b
is_optional _ = false

abbrev pub none_if : Bool → Option (List Slot) → Option (List Slot)
none_if b slots = if b then None else slots

-- outside a chain nothing is optional
abbrev pub unchained_slots : Shape → Option (List Slot)
unchained_slots h = none_if (is_optional h) (expression_slots an_expression h)

-- a call or a member, which a chain holds
abbrev pub is_chained : Shape → Bool
is_chained (shape.CallExpression b) = true
is_chained (shape.StaticMemberExpression b) = true
is_chained (shape.ComputedMemberExpression b) = true
is_chained (shape.PrivateFieldExpression b) = true
is_chained _ = false

-- the members that may be assigned to: no optional one (ECMA-262, AssignmentTargetType)
abbrev pub member_slots : Shape → Option (List Slot)
member_slots (shape.StaticMemberExpression false) = Some (one an_expression ∷ one a_label ∷ [])
member_slots (shape.ComputedMemberExpression false) = Some (one an_expression ∷ one an_expression ∷ [])
member_slots (shape.PrivateFieldExpression false) = Some (one (an_inner an_expression) ∷ one a_private_name ∷ [])
member_slots shape.SuperStaticMemberExpression = Some (one a_super ∷ one a_label ∷ [])
member_slots shape.SuperComputedMemberExpression = Some (one a_super ∷ one (an_inner an_expression) ∷ [])
member_slots h = None

-- a name, or a pattern (ECMA-262, "Destructuring Assignment")
abbrev pub pattern_target_slots : Shape → Option (List Slot)
pattern_target_slots shape.Identifier = Some []
pattern_target_slots shape.ObjectAssignmentTarget = Some (many_and_rest a_target_property a_target_rest ∷ [])
pattern_target_slots shape.ArrayAssignmentTarget = Some (many_or_holes_and_rest a_target_element a_target_rest ∷ [])
pattern_target_slots h = None

-- ECMA-262, "Destructuring Binding Patterns"
abbrev pub pattern_slots : Shape → Option (List Slot)
pattern_slots shape.BindingIdentifier = Some []
pattern_slots shape.ObjectPattern = Some (many_and_rest a_pattern_property a_pattern_rest ∷ [])
pattern_slots shape.ArrayPattern = Some (many_or_holes_and_rest a_pattern_element a_pattern_rest ∷ [])
pattern_slots h = None

abbrev pub variable_slots : Shape → Option (List Slot)
variable_slots (shape.VariableDeclaration k) = Some (many a_declarator ∷ [])
variable_slots h = None

-- functions and classes as declarations, whose name's slot is given
abbrev pub function_slots : Slot → Shape → Option (List Slot)
function_slots name (shape.Function true g ds) = Some (name ∷ many_and_rest a_parameter a_pattern_rest ∷ one a_function_body ∷ [])
function_slots name (shape.Class true) = Some (name ∷ one_or_absent (an_inner an_expression) ∷ one a_class_body ∷ one_or_absent a_binding ∷ [])
function_slots name h = None

abbrev pub or_else : Option (List Slot) → Option (List Slot) → Option (List Slot)
or_else None slots = slots
or_else (Some slots) others = Some slots

-- ECMA-262, "Imports" and "Exports"
abbrev pub module_slots : Shape → Option (List Slot)
module_slots shape.ImportDeclaration = Some (many an_import ∷ one a_string ∷ [])
module_slots shape.ExportNamedDeclaration = Some (one_or_absent an_exported_declaration ∷ many an_export ∷ one_or_absent a_string ∷ [])
module_slots shape.ExportDefaultDeclaration = Some (one a_default_export ∷ [])
module_slots shape.ExportAllDeclaration = Some (one_or_absent a_module_name ∷ one a_string ∷ [])
module_slots h = None

abbrev pub in_depth : Depth → Option (List Slot) → Option (List Slot)
in_depth in_module slots = slots
in_depth _ slots = None

-- a function of sloppy code stands directly in a body, or in an export
abbrev pub is_sloppy_function : Bool → Depth → Shape → Bool
is_sloppy_function false nested (shape.Function d g ds) = true
is_sloppy_function strict d h = false

abbrev pub statement_slots : Bool → Depth → Shape → Option (List Slot)
statement_slots strict d shape.EmptyStatement = Some []
statement_slots strict d shape.DebuggerStatement = Some []
statement_slots strict d shape.ExpressionStatement = Some (one an_expression ∷ [])
statement_slots strict d shape.BlockStatement = Some (many (a_statement nested) ∷ [])
statement_slots strict d shape.LabeledStatement = Some (one a_label ∷ one (a_statement nested) ∷ [])
statement_slots strict d shape.BreakStatement = Some (one_or_absent a_label ∷ [])
statement_slots strict d shape.ContinueStatement = Some (one_or_absent a_label ∷ [])
statement_slots strict d shape.ReturnStatement = Some (one_or_absent an_expression ∷ [])
statement_slots strict d shape.ThrowStatement = Some (one an_expression ∷ [])
statement_slots strict d shape.IfStatement = Some (one an_expression ∷ one (a_statement nested) ∷ one_or_absent (a_statement nested) ∷ [])
statement_slots strict d shape.SwitchStatement = Some (one an_expression ∷ many a_case ∷ [])
statement_slots strict d shape.TryStatement = Some (one a_block ∷ one_or_absent a_catch ∷ one_or_absent a_block ∷ [])
statement_slots strict d shape.WhileStatement = Some (one an_expression ∷ one (a_statement nested) ∷ [])
statement_slots strict d shape.DoWhileStatement = Some (one (a_statement nested) ∷ one an_expression ∷ [])
statement_slots strict d shape.ForStatement = Some (one_or_absent an_init ∷ one_or_absent an_expression ∷ one_or_absent an_expression ∷ one (a_statement nested) ∷ [])
statement_slots strict d shape.ForInStatement = Some (one (a_loop_left true) ∷ one an_expression ∷ one (a_statement nested) ∷ [])
statement_slots strict d shape.ForOfStatement = Some (one (a_loop_left false) ∷ one an_expression ∷ one (a_statement nested) ∷ [])
statement_slots strict d h = none_if (is_sloppy_function strict d h) (or_else (variable_slots h) (or_else (function_slots (one a_binding) h) (in_depth d (module_slots h))))

abbrev pub key_slots : Shape → Option (List Slot)
key_slots (shape.IdentifierName s) = Some []
key_slots (shape.StringLiteral s) = Some []
key_slots (shape.NumericLiteral (pos n)) = Some []
key_slots h = None

abbrev pub private_or_key_slots : Shape → Option (List Slot)
private_or_key_slots (shape.PrivateIdentifier s) = Some []
private_or_key_slots h = key_slots h

abbrev pub inner_slots : Class → Shape → Option (List Slot)
inner_slots c shape.InnerExpression = Some (one c ∷ [])
inner_slots c h = None

abbrev pub word_slots : List ℕ → Shape → Option (List Slot)
word_slots w (shape.IdentifierName s) = none_if (not (is_text s w)) (Some [])
word_slots w h = None

-- the slots of the children of a shape at a place of a class; None where it can't stand there
abbrev pub slots_of : Bool → Class → Shape → Option (List Slot)
slots_of strict a_program (shape.Program is_module ds) = Some (many (a_statement (if is_module then in_module else in_body)) ∷ [])
-- statements
slots_of strict (a_statement d) h = statement_slots strict d h
slots_of strict a_block shape.BlockStatement = Some (many (a_statement nested) ∷ [])
slots_of strict a_case shape.SwitchCase = Some (one_or_absent an_expression ∷ many (a_statement nested) ∷ [])
slots_of strict a_catch shape.CatchClause = Some (one_or_absent a_pattern ∷ one a_block ∷ [])
slots_of strict an_init h = or_else (variable_slots h) (unchained_slots h)
slots_of strict (a_loop_left enumerates) h = or_else (variable_slots h) (or_else (pattern_target_slots h) (member_slots h))
slots_of strict a_declarator shape.VariableDeclarator = Some (one a_pattern ∷ one_or_absent an_expression ∷ [])
-- functions and classes
slots_of strict a_parameter shape.AssignmentPattern = Some (one a_pattern ∷ one (an_inner an_expression) ∷ [])
slots_of strict a_parameter h = pattern_slots h
slots_of strict a_function_body shape.FunctionBody = Some (many (a_statement in_body) ∷ [])
slots_of strict an_arrow_body shape.FunctionBody = Some (many (a_statement in_body) ∷ [])
slots_of strict an_arrow_body h = unchained_slots h
slots_of strict a_class_body shape.ClassBody = Some (many a_class_member ∷ [])
slots_of strict a_class_member (shape.MethodDefinition k computed is_static) = Some (one (a_private_or_key computed) ∷ one a_method ∷ [])
slots_of strict a_class_member (shape.PropertyDefinition computed is_static) = Some (one (a_private_or_key computed) ∷ one_or_absent (an_inner an_expression) ∷ [])
slots_of strict a_class_member shape.StaticBlock = Some (many (a_statement in_body) ∷ [])
slots_of strict a_method (shape.Function false g ds) = Some (one_or_absent a_binding ∷ many_and_rest a_parameter a_pattern_rest ∷ one a_function_body ∷ [])
-- names
slots_of strict a_binding shape.BindingIdentifier = Some []
slots_of strict a_label (shape.IdentifierName s) = Some []
slots_of strict a_private_name (shape.PrivateIdentifier s) = Some []
slots_of strict (a_word w) h = word_slots w h
-- expressions
slots_of strict an_expression h = unchained_slots h
slots_of strict a_link h = expression_slots a_link h
slots_of strict a_chain h = none_if (not (is_chained h)) (expression_slots a_link h)
slots_of strict an_argument shape.SpreadElement = Some (one an_expression ∷ [])
slots_of strict an_argument h = unchained_slots h
slots_of strict an_inner_argument shape.SpreadElement = Some (one (an_inner an_expression) ∷ [])
slots_of strict an_inner_argument h = inner_slots an_expression h
slots_of strict (an_inner c) h = inner_slots c h
slots_of strict a_super shape.Super = Some []
slots_of strict an_object_property shape.SpreadElement = Some (one an_expression ∷ [])
slots_of strict an_object_property (shape.ObjectProperty k is_method shorthand computed) = Some (one (a_key computed) ∷ one (value_class k is_method) ∷ [])
slots_of strict (a_key true) h = unchained_slots h
slots_of strict (a_key false) h = key_slots h
slots_of strict (a_private_or_key true) h = inner_slots an_expression h
slots_of strict (a_private_or_key false) h = private_or_key_slots h
slots_of strict (an_inner_key true) h = inner_slots an_expression h
slots_of strict (an_inner_key false) h = key_slots h
slots_of strict a_tagged_template shape.TemplateLiteral = Some (quasis tagged ∷ many (an_inner an_expression) ∷ [])
-- patterns of declarations
slots_of strict a_pattern h = pattern_slots h
slots_of strict a_pattern_element shape.AssignmentPattern = Some (one a_pattern ∷ one (an_inner an_expression) ∷ [])
slots_of strict a_pattern_element h = pattern_slots h
slots_of strict a_pattern_property (shape.BindingProperty shorthand computed) = Some (one (an_inner_key computed) ∷ one a_pattern_element ∷ [])
slots_of strict a_pattern_rest shape.RestElement = Some (one a_pattern ∷ [])
-- what is assigned to
slots_of strict a_target h = or_else (pattern_target_slots h) (member_slots h)
slots_of strict a_simple_target shape.Identifier = Some []
slots_of strict a_simple_target h = member_slots h
slots_of strict an_element_target h = or_else (pattern_target_slots h) (inner_slots a_member_target h)
slots_of strict a_member_target h = member_slots h
slots_of strict a_target_element shape.AssignmentPattern = Some (one an_element_target ∷ one (an_inner an_expression) ∷ [])
slots_of strict a_target_element h = or_else (pattern_target_slots h) (inner_slots a_member_target h)
slots_of strict a_target_property shape.AssignmentTargetPropertyIdentifier = Some (one a_label ∷ one a_named_target ∷ [])
slots_of strict a_target_property (shape.AssignmentTargetPropertyProperty computed) = Some (one (an_inner_key computed) ∷ one a_target_element ∷ [])
slots_of strict a_named_target shape.AssignmentPattern = Some (one a_target_name ∷ one (an_inner an_expression) ∷ [])
slots_of strict a_named_target shape.Identifier = Some []
slots_of strict a_target_name shape.Identifier = Some []
slots_of strict a_target_rest shape.RestElement = Some (one an_element_target ∷ [])
-- modules
slots_of strict an_import shape.ImportSpecifier = Some (one a_module_name ∷ one a_binding ∷ [])
slots_of strict an_import shape.ImportDefaultSpecifier = Some (one a_binding ∷ [])
slots_of strict an_import shape.ImportNamespaceSpecifier = Some (one a_binding ∷ [])
slots_of strict a_module_name (shape.IdentifierName s) = Some []
slots_of strict a_module_name (shape.StringLiteral s) = Some []
slots_of strict a_string (shape.StringLiteral s) = Some []
slots_of strict an_export shape.ExportSpecifier = Some (one a_module_name ∷ one an_exported_name ∷ [])
slots_of strict an_exported_name (shape.IdentifierName s) = Some []
slots_of strict an_exported_name (shape.StringLiteral s) = Some []
slots_of strict an_exported_name shape.Identifier = Some []
slots_of strict an_exported_declaration h = or_else (variable_slots h) (function_slots (one a_binding) h)
slots_of strict a_default_export h = or_else (function_slots (one_or_absent a_binding) h) (unchained_slots h)
slots_of strict c h = None

-- whether the code in a node is strict (ECMA-262, "Strict Mode Code")
abbrev pub is_strict_in : Bool → Shape → Bool
is_strict_in strict (shape.Program is_module ds) = is_module || has_use_strict ds
is_strict_in strict (shape.Function d g ds) = strict || has_use_strict ds
is_strict_in strict (shape.ArrowFunctionExpression ds) = strict || has_use_strict ds
is_strict_in strict (shape.Class d) = true
is_strict_in strict _ = strict

-- ---- the fields of a node beside its children

-- functions, carried nodes and the inner expressions of those; of the parts with a default the
-- parameters alone
abbrev pub is_numbered : Class → Shape → Bool
is_numbered c (shape.Program is_module ds) = true
is_numbered c (shape.Function d g ds) = true
is_numbered c (shape.ArrowFunctionExpression ds) = true
is_numbered c (shape.Class d) = true
is_numbered c shape.StaticBlock = true
is_numbered c shape.InnerExpression = true
is_numbered c (shape.RegExpLiteral pattern flags) = true
is_numbered c shape.PrivateInExpression = true
is_numbered c shape.SuperCallExpression = true
is_numbered c shape.SuperStaticMemberExpression = true
is_numbered c shape.SuperComputedMemberExpression = true
is_numbered c (shape.PrivateFieldExpression optional) = true
is_numbered c shape.TaggedTemplateExpression = true
is_numbered c (shape.MetaProperty k) = true
is_numbered c shape.ImportExpression = true
is_numbered c shape.ObjectPattern = true
is_numbered c shape.ArrayPattern = true
is_numbered c shape.ObjectAssignmentTarget = true
is_numbered c shape.ArrayAssignmentTarget = true
is_numbered a_parameter shape.AssignmentPattern = true
is_numbered c _ = false

-- the number of a node: a program's is 0, that of another node which is numbered isn't, and that of
-- any other node is
abbrev pub has_its_number : Class → Shape → ℕ → Bool
has_its_number c (shape.Program is_module ds) n = n == 0
has_its_number c h n = if is_numbered c h then not (n == 0) else n == 0

-- the names of a node; those of a declarator are not written, and the scopes around say which it
-- has
abbrev pub has_names : Shape → List Name → Bool
has_names shape.Identifier (x ∷ []) = is_name x.spelling
has_names shape.Identifier xs = false
has_names shape.BindingIdentifier (x ∷ []) = is_name x.spelling
has_names shape.BindingIdentifier xs = false
has_names shape.VariableDeclarator xs = true
has_names h [] = true
has_names h (x ∷ xs) = false

-- texts and numbers that can be written
abbrev pub has_plain_fields : Shape → Bool
has_plain_fields (shape.Program is_module ds) = are_paired ds
has_plain_fields (shape.Function d g ds) = are_paired ds
has_plain_fields (shape.ArrowFunctionExpression ds) = are_paired ds
has_plain_fields (shape.IdentifierName s) = is_name s
has_plain_fields (shape.PrivateIdentifier s) = is_name s
has_plain_fields (shape.NumericLiteral n) = is_safe n
has_plain_fields (shape.StringLiteral s) = is_paired s
has_plain_fields (shape.RegExpLiteral pattern flags) = is_paired pattern && is_paired flags
has_plain_fields (shape.BigIntLiteral n) = nat_le n max_big_int
has_plain_fields (shape.TemplateElement tail raw c) = is_paired raw && (is_text_of_cooked c (cooked raw) && is_paired_cooked c)
has_plain_fields _ = true

-- a local name that is exported from here is a variable; one that another module has is a name of
-- its own
abbrev pub are_locals : Bool → Trees → Bool
are_locals own none = true
are_locals own (t ▸ ts) = is_same_flag own (is_reference (child_or_absent (children t) 1)) && are_locals own ts

-- a declaration that is exported has no specifiers and no source
abbrev pub is_whole_export : Trees → Bool
is_whole_export ts = (is_absent (first_item ts) || (nat_eq (count (children (child_or_absent ts 1))) 0 && is_absent (child_or_absent ts 2))) && are_locals (is_absent (child_or_absent ts 2)) (children (child_or_absent ts 1))

-- a method or an accessor is no shorthand, and an accessor no method; a shorthand property repeats
-- its key
abbrev pub is_whole_property : PropertyKind → Bool → Bool → Bool → Trees → Bool
is_whole_property k is_method shorthand computed ts = (is_init k || not (is_method || shorthand)) && (not (is_method && shorthand) && (not shorthand || (not computed && repeats_key ts)))

-- what no slot tells of the children
abbrev pub has_its_parts : Class → Shape → Trees → Bool
has_its_parts (a_loop_left enumerates) (shape.VariableDeclaration k) ts = is_head_by enumerates k (children (first_item ts))
has_its_parts c (shape.VariableDeclaration k) ts = nat_le 1 (count (children (first_item ts)))
has_its_parts c shape.TryStatement ts = not (is_absent (child_or_absent ts 1) && is_absent (child_or_absent ts 2))
has_its_parts a_method (shape.Function d g ds) ts = is_absent (first_item ts)
has_its_parts c (shape.ArrowFunctionExpression ds) ts = nat_eq (length ds) 0 || is_function_body (child_or_absent ts 1)
has_its_parts c (shape.Class declaration) ts = holds_its_name declaration ts
has_its_parts c (shape.MethodDefinition k computed is_static) ts = has_its_kind k computed is_static (first_item ts)
has_its_parts c (shape.ObjectProperty k is_method shorthand computed) ts = is_whole_property k is_method shorthand computed ts
has_its_parts c (shape.BindingProperty shorthand computed) ts = not shorthand || (not computed && repeats_key ts)
has_its_parts c shape.AssignmentTargetPropertyIdentifier ts = repeats_key ts
has_its_parts c shape.SequenceExpression ts = nat_le 2 (count (children (first_item ts)))
has_its_parts c (shape.UnaryExpression UnaryNegation) ts = is_not_positive_number (first_item ts)
has_its_parts c shape.ChainExpression ts = has_optional (first_item ts)
has_its_parts c shape.TemplateLiteral ts = nat_eq (count (children (first_item ts))) (suc (count (children (child_or_absent ts 1))))
has_its_parts c shape.ExportNamedDeclaration ts = is_whole_export ts
has_its_parts c h ts = true

abbrev pub is_whole : Class → Shape → List Name → ℕ → Trees → Bool
is_whole c h xs n ts = has_names h xs && (has_its_number c h n && (has_plain_fields h && has_its_parts c h ts))

-- ---- the whole

-- a piece of a template's text: the last is its tail, and malformed text has a tag
abbrev pub is_quasi_by : Tagging → Bool → Shape → Bool
is_quasi_by untagged last (shape.TemplateElement tail raw c) = is_same_flag tail last && is_some c
is_quasi_by tagged last (shape.TemplateElement tail raw c) = is_same_flag tail last
is_quasi_by g last h = false

abbrev pub is_quasi : Tagging → Bool → Tree → Bool
is_quasi g last (node h [] n none) = is_quasi_by g last h && ((n == 0) && has_plain_fields h)
is_quasi g last _ = false

abbrev pub are_quasis : Tagging → Trees → Bool
are_quasis g none = false
are_quasis g (t ▸ none) = is_quasi g true t
are_quasis g (t ▸ (u ▸ ts)) = is_quasi g false t && are_quasis g (u ▸ ts)

-- what the children of a node must be
pub data Filling : Type 0 where
  -- the node can't stand here
  refused : Filling
  these : List Slot → Filling
  each : Slot → Filling
  -- the last may fill another slot
  each_or_last : Slot → Slot → Filling
  pieces : Tagging → Filling

abbrev pub filling_by : Option (List Slot) → Filling
filling_by None = refused
filling_by (Some slots) = these slots

abbrev pub filling : Bool → Slot → Shape → Filling
filling strict (one c) h = filling_by (slots_of strict c h)
filling strict (one_or_absent c) shape.Absent = these []
filling strict (one_or_absent c) h = filling_by (slots_of strict c h)
filling strict (many c) shape.Listed = each (one c)
filling strict (many_or_holes c) shape.Listed = each (one_or_absent c)
filling strict (many_and_rest c rest) shape.Listed = each_or_last (one c) (one rest)
filling strict (many_or_holes_and_rest c rest) shape.Listed = each_or_last (one_or_absent c) (one rest)
filling strict (quasis g) shape.Listed = pieces g
filling strict slot h = refused

abbrev pub class_of : Slot → Class
class_of (one c) = c
class_of (one_or_absent c) = c
class_of (many c) = c
class_of (many_or_holes c) = c
class_of (many_and_rest c rest) = c
class_of (many_or_holes_and_rest c rest) = c
class_of (quasis g) = an_expression

abbrev pub is_last : Trees → Bool
is_last none = true
is_last (t ▸ ts) = false

abbrev mutual
  -- the tree may fill the slot, in strict or sloppy code
  pub fits : Bool → Slot → Tree → Bool
  fits strict s (node h xs n ts) = is_whole (class_of s) h xs n ts && fill (is_strict_in strict h) (filling strict s h) ts

  pub fill : Bool → Filling → Trees → Bool
  fill strict refused ts = false
  fill strict (these []) none = true
  fill strict (these []) (t ▸ ts) = false
  fill strict (these (s ∷ ss)) none = false
  fill strict (these (s ∷ ss)) (t ▸ ts) = fits strict s t && fill strict (these ss) ts
  fill strict (each s) none = true
  fill strict (each s) (t ▸ ts) = fits strict s t && fill strict (each s) ts
  fill strict (each_or_last s l) none = true
  fill strict (each_or_last s l) (t ▸ ts) = (fits strict s t || (is_last ts && fits strict l t)) && fill strict (each_or_last s l) ts
  fill strict (pieces g) none = false
  fill strict (pieces g) (t ▸ ts) = are_quasis g (t ▸ ts)

-- the tree is a program of ESTree
abbrev pub IsWellShaped : Tree → Type 0
IsWellShaped t = fits false (one a_program) t ≡ true
