-- A value of each type of node that is accepted, as a tree that is well shaped. A text stands over
-- each; where a name is any that is allowed, what is asked of it comes first.
use Rattle.std.specs.Prelude.{◌≡◌, refl, ℕ, true, false, Bool, [], ◌∷◌, List, codes, Ok, Some}
use Rattle.std.specs.Str.{chars}
use Rattle.std.specs.Char.Utf16.{utf16_chars}
use Rattle.serde_json.specs.Data.{Data, null, boolean, number, unsigned, object}
use Rattle.mini_model.specs.Texts.{units_of}
use Rattle.mini_model.specs.declared.kind.MetaPropertyKind.TheVariants.{NewTarget}
use Rattle.mini_model.specs.declared.kind.MethodDefinitionKind.TheVariants as method
use Rattle.mini_model.specs.declared.kind.PropertyKind.TheVariants as property
use Rattle.mini_model.specs.declared.kind.VariableDeclarationKind.TheVariants as variable
use Rattle.mini_model.specs.declared.operator.AssignmentOperator.TheVariants as assignment
use Rattle.mini_model.specs.declared.operator.BinaryOperator.TheVariants as binary
use Rattle.mini_model.specs.declared.operator.LogicalOperator.TheVariants as logical
use Rattle.mini_model.specs.declared.operator.UnaryOperator.TheVariants.{Void}
use Rattle.mini_model.specs.declared.operator.UpdateOperator.TheVariants.{Increment}
use Rattle.mini_model.specs.declared.shape.Shape.{Shape}
use Rattle.mini_model.specs.declared.shape.Shape.TheVariants as shape
use Rattle.mini_model.specs.Tree.{Tree, Trees, node, none, ◌▸◌, leaf, listed, absent, unresolved, expression_statement, program}
use Rattle.mini_accept.specs.WellShaped.{IsWellShaped, is_name}
use Rattle.mini_accept.specs.Accept.{program_at}
use Rattle.mini_accept.specs.Samples.{members, list, typed, text, script, says, this, literal, name, member_of, block, this_tree, said, zero, unary, chain, sequence}

abbrev Fields : Type 0
Fields = List (List ℕ × Data)

-- the value is this tree, with so many numbers, and the tree is well shaped
abbrev Reads : Data → Tree → ℕ → Type 0
Reads d t n = (program_at 9 d ≡ Ok (t, n)) × IsWellShaped t

abbrev IsName : List ℕ → Type 0
IsName s = is_name (units_of s) ≡ true

-- ---- parts

abbrev code : List Data → Trees → ℕ → Type 0
code ds ts n = Reads (script ds) (program false [] ts) n

abbrev modular : List Data → Trees → ℕ → Type 0
modular ds ts n = Reads (typed (codes "Program") ((codes "sourceType", text (codes "module")) ∷ (codes "body", list ds) ∷ [])) (program true [] ts) n

abbrev expresses : Data → Tree → ℕ → Type 0
expresses e t n = Reads (script (says e ∷ [])) (said t) n

abbrev plain : Shape → Trees → Tree
plain h ts = node h [] 0 ts

abbrev bound : List ℕ → Tree
bound s = node shape.BindingIdentifier (unresolved (units_of s) ∷ []) 0 none

abbrev reference : List ℕ → Tree
reference s = node shape.Identifier (unresolved (units_of s) ∷ []) 0 none

abbrev word : List ℕ → Tree
word s = leaf (shape.IdentifierName (units_of s))

abbrev empty : Data
empty = typed (codes "EmptyStatement") []

abbrev empty_tree : Tree
empty_tree = leaf shape.EmptyStatement

abbrev block_tree : Trees → Tree
block_tree ts = plain shape.BlockStatement (listed ts ▸ none)

abbrev body_tree : Trees → Tree
body_tree ts = plain shape.FunctionBody (listed ts ▸ none)

abbrev declares : Data → Data → Data
declares id init = typed (codes "VariableDeclaration") ((codes "kind", text (codes "var")) ∷ (codes "declarations", list (typed (codes "VariableDeclarator") ((codes "id", id) ∷ (codes "init", init) ∷ []) ∷ [])) ∷ [])

abbrev declared : Tree → Tree → Tree
declared id init = plain (shape.VariableDeclaration variable.Var) (listed (plain shape.VariableDeclarator (id ▸ init ▸ none) ▸ none) ▸ none)

-- ---- statements

-- ; debugger; {}
empty_debugger_block : code (empty ∷ typed (codes "DebuggerStatement") [] ∷ block [] ∷ []) (empty_tree ▸ leaf shape.DebuggerStatement ▸ block_tree none ▸ none) 1
unfolding program_at
empty_debugger_block = (refl, refl)

-- a: ; break a; continue;
labels : (s : List ℕ) → IsName s → code (typed (codes "LabeledStatement") ((codes "label", name s) ∷ (codes "body", empty) ∷ []) ∷ typed (codes "BreakStatement") ((codes "label", name s) ∷ []) ∷ typed (codes "ContinueStatement") ((codes "label", null) ∷ []) ∷ [])
    (plain shape.LabeledStatement (word s ▸ empty_tree ▸ none) ▸ plain shape.BreakStatement (word s ▸ none) ▸ plain shape.ContinueStatement (absent ▸ none) ▸ none) 1
unfolding program_at
labels s h = (rw h refl, rw h refl)

-- function a() { return this; }
function : (s : List ℕ) → IsName s → code (typed (codes "FunctionDeclaration") ((codes "id", name s) ∷ (codes "params", list []) ∷ (codes "body", block (typed (codes "ReturnStatement") ((codes "argument", this) ∷ []) ∷ [])) ∷ []) ∷ [])
    (node (shape.Function true false []) [] 1 (bound s ▸ listed none ▸ body_tree (plain shape.ReturnStatement (this_tree ▸ none) ▸ none) ▸ none) ▸ none) 2
unfolding program_at
function s h = (rw h refl, rw h refl)

-- if (this) ; throw this;
if_and_throw : code (typed (codes "IfStatement") ((codes "test", this) ∷ (codes "consequent", empty) ∷ []) ∷ typed (codes "ThrowStatement") ((codes "argument", this) ∷ []) ∷ [])
    (plain shape.IfStatement (this_tree ▸ empty_tree ▸ absent ▸ none) ▸ plain shape.ThrowStatement (this_tree ▸ none) ▸ none) 1
unfolding program_at
if_and_throw = (refl, refl)

-- switch (this) { case this: ; default: }
switch : code (typed (codes "SwitchStatement") ((codes "discriminant", this) ∷ (codes "cases", list (typed (codes "SwitchCase") ((codes "test", this) ∷ (codes "consequent", list (empty ∷ [])) ∷ []) ∷ typed (codes "SwitchCase") ((codes "test", null) ∷ (codes "consequent", list []) ∷ []) ∷ [])) ∷ []) ∷ [])
    (plain shape.SwitchStatement (this_tree ▸ listed (plain shape.SwitchCase (this_tree ▸ listed (empty_tree ▸ none) ▸ none) ▸ plain shape.SwitchCase (absent ▸ listed none ▸ none) ▸ none) ▸ none) ▸ none) 1
unfolding program_at
switch = (refl, refl)

-- try {} catch (a) {} finally {}
try : (s : List ℕ) → IsName s → code (typed (codes "TryStatement") ((codes "block", block []) ∷ (codes "handler", typed (codes "CatchClause") ((codes "param", name s) ∷ (codes "body", block []) ∷ [])) ∷ (codes "finalizer", block []) ∷ []) ∷ [])
    (plain shape.TryStatement (block_tree none ▸ plain shape.CatchClause (bound s ▸ block_tree none ▸ none) ▸ block_tree none ▸ none) ▸ none) 1
unfolding program_at
try s h = (rw h refl, rw h refl)

-- while (this) ; do ; while (this); for (;;) ;
loops : code (typed (codes "WhileStatement") ((codes "test", this) ∷ (codes "body", empty) ∷ []) ∷ typed (codes "DoWhileStatement") ((codes "test", this) ∷ (codes "body", empty) ∷ []) ∷ typed (codes "ForStatement") ((codes "body", empty) ∷ []) ∷ [])
    (plain shape.WhileStatement (this_tree ▸ empty_tree ▸ none) ▸ plain shape.DoWhileStatement (empty_tree ▸ this_tree ▸ none) ▸ plain shape.ForStatement (absent ▸ absent ▸ absent ▸ empty_tree ▸ none) ▸ none) 1
unfolding program_at
loops = (refl, refl)

abbrev loop : List ℕ → Data → Data
loop type left = typed type ((codes "left", left) ∷ (codes "right", this) ∷ (codes "body", empty) ∷ [])

-- for (var a = this in this) ; for (this[0] of this) ;
loops_over : (s : List ℕ) → IsName s → code (loop (codes "ForInStatement") (declares (name s) this) ∷ loop (codes "ForOfStatement") (member_of false this) ∷ [])
    (plain shape.ForInStatement (declared (bound s) this_tree ▸ this_tree ▸ empty_tree ▸ none) ▸ plain shape.ForOfStatement (plain (shape.ComputedMemberExpression false) (this_tree ▸ zero ▸ none) ▸ this_tree ▸ empty_tree ▸ none) ▸ none) 1
unfolding program_at
loops_over s h = (rw h refl, rw h refl)

-- ---- expressions

-- [, ...this];
array : expresses (typed (codes "ArrayExpression") ((codes "elements", list (null ∷ typed (codes "SpreadElement") ((codes "argument", this) ∷ []) ∷ [])) ∷ [])) (plain shape.ArrayExpression (listed (absent ▸ plain shape.SpreadElement (this_tree ▸ none) ▸ none) ▸ none)) 1
unfolding program_at
array = (refl, refl)

abbrev property_of : Fields → Data → Data → Data
property_of more key value = typed (codes "Property") ((codes "key", key) ∷ (codes "value", value) ∷ more)

abbrev init : List ℕ × Data
init = (codes "kind", text (codes "init"))

abbrev function_value : Data
function_value = typed (codes "FunctionExpression") ((codes "params", list []) ∷ (codes "body", block []) ∷ [])

abbrev function_tree : ℕ → Tree
function_tree n = node (shape.Function false false []) [] n (absent ▸ listed none ▸ body_tree none ▸ none)

-- ({ 0: this, [this]() {}, get 0() {}, ...this });
object_of_four : expresses (typed (codes "ObjectExpression") ((codes "properties", list (property_of (init ∷ []) (literal (number (unsigned 0))) this ∷ property_of (init ∷ (codes "method", boolean true) ∷ (codes "computed", boolean true) ∷ []) this function_value ∷ property_of ((codes "kind", text (codes "get")) ∷ []) (literal (number (unsigned 0))) function_value ∷ typed (codes "SpreadElement") ((codes "argument", this) ∷ []) ∷ [])) ∷ []))
    (plain shape.ObjectExpression (listed (plain (shape.ObjectProperty property.Init false false false) (zero ▸ this_tree ▸ none) ▸ plain (shape.ObjectProperty property.Init true false true) (this_tree ▸ function_tree 1 ▸ none) ▸ plain (shape.ObjectProperty property.Get false false false) (zero ▸ function_tree 2 ▸ none) ▸ plain shape.SpreadElement (this_tree ▸ none) ▸ none) ▸ none)) 3
unfolding program_at
object_of_four = (refl, refl)

abbrev infix_of : List ℕ → List ℕ → Data → Data
infix_of type o left = typed type ((codes "operator", text o) ∷ (codes "left", left) ∷ (codes "right", this) ∷ [])

-- this | (this ?? this);
operators : expresses (typed (codes "BinaryExpression") ((codes "operator", text (codes "|")) ∷ (codes "left", this) ∷ (codes "right", infix_of (codes "LogicalExpression") (codes "??") this) ∷ []))
    (plain (shape.BinaryExpression binary.BitwiseOr) (this_tree ▸ plain (shape.LogicalExpression logical.Coalesce) (this_tree ▸ this_tree ▸ none) ▸ none)) 1
unfolding program_at
operators = (refl, refl)

-- #a in this;
private_in : (s : List ℕ) → IsName s → expresses (infix_of (codes "BinaryExpression") (codes "in") (typed (codes "PrivateIdentifier") ((codes "name", text s) ∷ [])))
    (node shape.PrivateInExpression [] 1 (leaf (shape.PrivateIdentifier (units_of s)) ▸ node shape.InnerExpression [] 2 (this_tree ▸ none) ▸ none)) 3
unfolding program_at
private_in s h = (rw h refl, rw h refl)

-- a >>>= this;
assigns : (s : List ℕ) → IsName s → expresses (infix_of (codes "AssignmentExpression") (codes ">>>=") (name s)) (plain (shape.AssignmentExpression assignment.ShiftRightZeroFill) (reference s ▸ this_tree ▸ none)) 1
unfolding program_at
assigns s h = (rw h refl, rw h refl)

-- void this, this[0]++, this?.[0];
sequence_of_three : expresses (sequence (unary (codes "void") this ∷ typed (codes "UpdateExpression") ((codes "operator", text (codes "++")) ∷ (codes "argument", member_of false this) ∷ []) ∷ chain (member_of true this) ∷ []))
    (plain shape.SequenceExpression (listed (plain (shape.UnaryExpression Void) (this_tree ▸ none) ▸ plain (shape.UpdateExpression Increment false) (plain (shape.ComputedMemberExpression false) (this_tree ▸ zero ▸ none) ▸ none) ▸ plain shape.ChainExpression (plain (shape.ComputedMemberExpression true) (this_tree ▸ zero ▸ none) ▸ none) ▸ none) ▸ none)) 1
unfolding program_at
sequence_of_three = (refl, refl)

-- this ? this : null;
conditional : expresses (typed (codes "ConditionalExpression") ((codes "test", this) ∷ (codes "consequent", this) ∷ (codes "alternate", literal null) ∷ [])) (plain shape.ConditionalExpression (this_tree ▸ this_tree ▸ leaf shape.NullLiteral ▸ none)) 1
unfolding program_at
conditional = (refl, refl)

abbrev called : List ℕ → Data → List Data → Data
called type f xs = typed type ((codes "callee", f) ∷ (codes "arguments", list xs) ∷ [])

-- new this(...this)(true);
calls : expresses (called (codes "CallExpression") (called (codes "NewExpression") this (typed (codes "SpreadElement") ((codes "argument", this) ∷ []) ∷ [])) (literal (boolean true) ∷ []))
    (plain (shape.CallExpression false) (plain shape.NewExpression (this_tree ▸ listed (plain shape.SpreadElement (this_tree ▸ none) ▸ none) ▸ none) ▸ listed (leaf (shape.BooleanLiteral true) ▸ none) ▸ none)) 1
unfolding program_at
calls = (refl, refl)

abbrev member_named : Data → Data → Data
member_named a key = typed (codes "MemberExpression") ((codes "object", a) ∷ (codes "property", key) ∷ [])

-- this.a.#a;
members_named : (s : List ℕ) → IsName s → expresses (member_named (member_named this (name s)) (typed (codes "PrivateIdentifier") ((codes "name", text s) ∷ [])))
    (node (shape.PrivateFieldExpression false) [] 1 (node shape.InnerExpression [] 2 (plain (shape.StaticMemberExpression false) (this_tree ▸ word s ▸ none) ▸ none) ▸ leaf (shape.PrivateIdentifier (units_of s)) ▸ none)) 3
unfolding program_at
members_named s h = (rw h refl, rw h refl)

abbrev super : Data
super = typed (codes "Super") []

-- super(super.a, ...super[this]);
supers : (s : List ℕ) → IsName s → expresses (called (codes "CallExpression") super (member_named super (name s) ∷ typed (codes "SpreadElement") ((codes "argument", typed (codes "MemberExpression") ((codes "object", super) ∷ (codes "property", this) ∷ (codes "computed", boolean true) ∷ [])) ∷ []) ∷ []))
    (node shape.SuperCallExpression [] 1 (leaf shape.Super ▸ listed (node shape.InnerExpression [] 2 (node shape.SuperStaticMemberExpression [] 3 (leaf shape.Super ▸ word s ▸ none) ▸ none) ▸ plain shape.SpreadElement (node shape.InnerExpression [] 4 (node shape.SuperComputedMemberExpression [] 5 (leaf shape.Super ▸ node shape.InnerExpression [] 6 (this_tree ▸ none) ▸ none) ▸ none) ▸ none) ▸ none) ▸ none)) 7
unfolding program_at
supers s h = (rw h refl, rw h refl)

-- yield* this; yield;
yields : code (says (typed (codes "YieldExpression") ((codes "delegate", boolean true) ∷ (codes "argument", this) ∷ [])) ∷ says (typed (codes "YieldExpression") []) ∷ [])
    (expression_statement (plain (shape.YieldExpression true) (this_tree ▸ none)) ▸ expression_statement (plain (shape.YieldExpression false) (absent ▸ none)) ▸ none) 1
unfolding program_at
yields = (refl, refl)

abbrev quasi : Bool → Data → Data
quasi tail cooked = typed (codes "TemplateElement") ((codes "tail", boolean tail) ∷ (codes "value", object (members ((codes "raw", text []) ∷ (codes "cooked", cooked) ∷ []))) ∷ [])

abbrev quasi_tree : Bool → Tree
quasi_tree tail = leaf (shape.TemplateElement tail [] (Some []))

-- this`${this}`;
tagged : expresses (typed (codes "TaggedTemplateExpression") ((codes "tag", this) ∷ (codes "quasi", typed (codes "TemplateLiteral") ((codes "quasis", list (quasi false (text []) ∷ quasi true (text []) ∷ [])) ∷ (codes "expressions", list (this ∷ [])) ∷ [])) ∷ []))
    (node shape.TaggedTemplateExpression [] 1 (node shape.InnerExpression [] 2 (this_tree ▸ none) ▸ plain shape.TemplateLiteral (listed (quasi_tree false ▸ quasi_tree true ▸ none) ▸ listed (node shape.InnerExpression [] 3 (this_tree ▸ none) ▸ none) ▸ none) ▸ none)) 4
unfolding program_at chars utf16_chars
tagged = (refl, refl)

-- (function () { new.target; });
new_target : IsName (codes "new") → IsName (codes "target") → expresses (typed (codes "FunctionExpression") ((codes "params", list []) ∷ (codes "body", block (says (typed (codes "MetaProperty") ((codes "meta", name (codes "new")) ∷ (codes "property", name (codes "target")) ∷ [])) ∷ [])) ∷ []))
    (node (shape.Function false false []) [] 1 (absent ▸ listed none ▸ body_tree (expression_statement (node (shape.MetaProperty NewTarget) [] 2 (leaf (shape.IdentifierName (codes "new")) ▸ leaf (shape.IdentifierName (codes "target")) ▸ none)) ▸ none) ▸ none)) 3
unfolding program_at chars
new_target h k = (rw (h, k) refl, rw (h, k) refl)

-- () => { return import(this); };
arrow : expresses (typed (codes "ArrowFunctionExpression") ((codes "params", list []) ∷ (codes "body", block (typed (codes "ReturnStatement") ((codes "argument", typed (codes "ImportExpression") ((codes "source", this) ∷ (codes "options", null) ∷ [])) ∷ []) ∷ [])) ∷ []))
    (node (shape.ArrowFunctionExpression []) [] 1 (listed none ▸ body_tree (plain shape.ReturnStatement (node shape.ImportExpression [] 2 (node shape.InnerExpression [] 3 (this_tree ▸ none) ▸ none) ▸ none) ▸ none) ▸ none)) 4
unfolding program_at
arrow = (refl, refl)

-- ---- classes

abbrev class_of : Fields → List Data → Data
class_of more ds = typed (codes "ClassExpression") ((codes "body", typed (codes "ClassBody") ((codes "body", list ds) ∷ [])) ∷ more)

-- (class extends this { static [this]() {} #a = this; 0; static {} });
class : (s : List ℕ) → IsName s → expresses (class_of ((codes "superClass", this) ∷ [])
    (typed (codes "MethodDefinition") ((codes "kind", text (codes "method")) ∷ (codes "key", this) ∷ (codes "value", function_value) ∷ (codes "computed", boolean true) ∷ (codes "static", boolean true) ∷ [])
    ∷ typed (codes "PropertyDefinition") ((codes "key", typed (codes "PrivateIdentifier") ((codes "name", text s) ∷ [])) ∷ (codes "value", this) ∷ [])
    ∷ typed (codes "PropertyDefinition") ((codes "key", literal (number (unsigned 0))) ∷ [])
    ∷ typed (codes "StaticBlock") ((codes "body", list []) ∷ []) ∷ []))
    (node (shape.Class false) [] 1 (absent ▸ node shape.InnerExpression [] 2 (this_tree ▸ none) ▸ plain shape.ClassBody (listed
    (plain (shape.MethodDefinition method.Method true true) (node shape.InnerExpression [] 3 (this_tree ▸ none) ▸ function_tree 4 ▸ none)
    ▸ plain (shape.PropertyDefinition false false) (leaf (shape.PrivateIdentifier (units_of s)) ▸ node shape.InnerExpression [] 5 (this_tree ▸ none) ▸ none)
    ▸ plain (shape.PropertyDefinition false false) (zero ▸ absent ▸ none)
    ▸ node shape.StaticBlock [] 6 (listed none ▸ none) ▸ none) ▸ none) ▸ absent ▸ none)) 7
unfolding program_at
class s h = (rw h refl, rw h refl)

-- class a {}
class_declaration : IsName (codes "a") → code (typed (codes "ClassDeclaration") ((codes "id", name (codes "a")) ∷ (codes "body", typed (codes "ClassBody") ((codes "body", list []) ∷ [])) ∷ []) ∷ [])
    (node (shape.Class true) [] 1 (bound (codes "a") ▸ absent ▸ plain shape.ClassBody (listed none ▸ none) ▸ bound (codes "a") ▸ none) ▸ none) 2
unfolding program_at chars
class_declaration h = (rw h refl, rw h refl)

-- (class a {});
class_expression : (s : List ℕ) → IsName s → expresses (class_of ((codes "id", name s) ∷ []) [])
    (node (shape.Class false) [] 1 (bound s ▸ absent ▸ plain shape.ClassBody (listed none ▸ none) ▸ absent ▸ none)) 2
unfolding program_at
class_expression s h = (rw h refl, rw h refl)

-- ---- modules

abbrev from_here : Data
from_here = literal (text [])

abbrev source_tree : Tree
source_tree = leaf (shape.StringLiteral [])

-- import a, { "" as a } from ""; import * as a from "";
imports : (s : List ℕ) → IsName s → modular
    (typed (codes "ImportDeclaration") ((codes "specifiers", list (typed (codes "ImportDefaultSpecifier") ((codes "local", name s) ∷ []) ∷ typed (codes "ImportSpecifier") ((codes "imported", from_here) ∷ (codes "local", name s) ∷ []) ∷ [])) ∷ (codes "source", from_here) ∷ (codes "attributes", list []) ∷ [])
    ∷ typed (codes "ImportDeclaration") ((codes "specifiers", list (typed (codes "ImportNamespaceSpecifier") ((codes "local", name s) ∷ []) ∷ [])) ∷ (codes "source", from_here) ∷ []) ∷ [])
    (plain shape.ImportDeclaration (listed (plain shape.ImportDefaultSpecifier (bound s ▸ none) ▸ plain shape.ImportSpecifier (source_tree ▸ bound s ▸ none) ▸ none) ▸ source_tree ▸ none)
    ▸ plain shape.ImportDeclaration (listed (plain shape.ImportNamespaceSpecifier (bound s ▸ none) ▸ none) ▸ source_tree ▸ none) ▸ none) 1
unfolding program_at chars utf16_chars
imports s h = (rw h refl, rw h refl)

abbrev exported : Data → Data
exported local = typed (codes "ExportSpecifier") ((codes "exported", from_here) ∷ (codes "local", local) ∷ [])

abbrev exports_of : List Data → Fields → Data
exports_of specifiers more = typed (codes "ExportNamedDeclaration") ((codes "specifiers", list specifiers) ∷ more)

-- export { a as "" }; export { a as "" } from ""; export var a; export default this; export * from
-- "";
exports : (s : List ℕ) → IsName s → modular
    (exports_of (exported (name s) ∷ []) []
    ∷ exports_of (exported (name s) ∷ []) ((codes "source", from_here) ∷ [])
    ∷ exports_of [] ((codes "declaration", declares (name s) null) ∷ [])
    ∷ typed (codes "ExportDefaultDeclaration") ((codes "declaration", this) ∷ [])
    ∷ typed (codes "ExportAllDeclaration") ((codes "source", from_here) ∷ []) ∷ [])
    (plain shape.ExportNamedDeclaration (absent ▸ listed (plain shape.ExportSpecifier (source_tree ▸ reference s ▸ none) ▸ none) ▸ absent ▸ none)
    ▸ plain shape.ExportNamedDeclaration (absent ▸ listed (plain shape.ExportSpecifier (source_tree ▸ word s ▸ none) ▸ none) ▸ source_tree ▸ none)
    ▸ plain shape.ExportNamedDeclaration (declared (bound s) absent ▸ listed none ▸ absent ▸ none)
    ▸ plain shape.ExportDefaultDeclaration (this_tree ▸ none)
    ▸ plain shape.ExportAllDeclaration (absent ▸ source_tree ▸ none) ▸ none) 1
unfolding program_at chars utf16_chars
exports s h = (rw h refl, rw h refl)

-- export default function () {}
default_export : modular (typed (codes "ExportDefaultDeclaration") ((codes "declaration", typed (codes "FunctionDeclaration") ((codes "params", list []) ∷ (codes "body", block []) ∷ [])) ∷ []) ∷ [])
    (plain shape.ExportDefaultDeclaration (node (shape.Function true false []) [] 1 (absent ▸ listed none ▸ body_tree none ▸ none) ▸ none) ▸ none) 2
unfolding program_at
default_export = (refl, refl)

-- ---- patterns

abbrev with_default : Data → Data
with_default left = typed (codes "AssignmentPattern") ((codes "left", left) ∷ (codes "right", this) ∷ [])

abbrev rest : Data → Data
rest argument = typed (codes "RestElement") ((codes "argument", argument) ∷ [])

abbrev array_of : List Data → Data
array_of ds = typed (codes "ArrayPattern") ((codes "elements", list ds) ∷ [])

abbrev object_of : List Data → Data
object_of ds = typed (codes "ObjectPattern") ((codes "properties", list ds) ∷ [])

abbrev inner_this : ℕ → Tree
inner_this n = node shape.InnerExpression [] n (this_tree ▸ none)

-- var { [this]: a = this, ...a } = this;
object_pattern : (s : List ℕ) → IsName s → code (declares (object_of (property_of (init ∷ (codes "computed", boolean true) ∷ []) this (with_default (name s)) ∷ rest (name s) ∷ [])) this ∷ [])
    (declared (node shape.ObjectPattern [] 1 (listed (plain (shape.BindingProperty false true) (inner_this 2 ▸ plain shape.AssignmentPattern (bound s ▸ inner_this 3 ▸ none) ▸ none) ▸ plain shape.RestElement (bound s ▸ none) ▸ none) ▸ none)) this_tree ▸ none) 4
unfolding program_at
object_pattern s h = (rw h refl, rw h refl)

-- var [, [a], ...a];
array_pattern : (s : List ℕ) → IsName s → code (declares (array_of (null ∷ array_of (name s ∷ []) ∷ rest (name s) ∷ [])) null ∷ [])
    (declared (node shape.ArrayPattern [] 1 (listed (absent ▸ node shape.ArrayPattern [] 2 (listed (bound s ▸ none) ▸ none) ▸ plain shape.RestElement (bound s ▸ none) ▸ none) ▸ none)) absent ▸ none) 3
unfolding program_at
array_pattern s h = (rw h refl, rw h refl)

-- [, this[0] = this, ...a] = this;
array_target : (s : List ℕ) → IsName s → expresses (infix_of (codes "AssignmentExpression") (codes "=") (array_of (null ∷ with_default (member_of false this) ∷ rest (name s) ∷ [])))
    (plain (shape.AssignmentExpression assignment.Assign) (node shape.ArrayAssignmentTarget [] 1 (listed (absent ▸ plain shape.AssignmentPattern (node shape.InnerExpression [] 2 (plain (shape.ComputedMemberExpression false) (this_tree ▸ zero ▸ none) ▸ none) ▸ inner_this 3 ▸ none) ▸ plain shape.RestElement (reference s ▸ none) ▸ none) ▸ none) ▸ this_tree ▸ none)) 4
unfolding program_at
array_target s h = (rw h refl, rw h refl)

-- ({ a = this, 0: this[0] } = this);
object_target : IsName (codes "a") → expresses (infix_of (codes "AssignmentExpression") (codes "=") (object_of (property_of (init ∷ (codes "shorthand", boolean true) ∷ []) (name (codes "a")) (with_default (name (codes "a"))) ∷ property_of (init ∷ []) (literal (number (unsigned 0))) (member_of false this) ∷ [])))
    (plain (shape.AssignmentExpression assignment.Assign) (node shape.ObjectAssignmentTarget [] 1 (listed (plain shape.AssignmentTargetPropertyIdentifier (leaf (shape.IdentifierName (codes "a")) ▸ plain shape.AssignmentPattern (node shape.Identifier (unresolved (codes "a") ∷ []) 0 none ▸ inner_this 2 ▸ none) ▸ none) ▸ plain (shape.AssignmentTargetPropertyProperty false) (zero ▸ node shape.InnerExpression [] 3 (plain (shape.ComputedMemberExpression false) (this_tree ▸ zero ▸ none) ▸ none) ▸ none) ▸ none) ▸ none) ▸ this_tree ▸ none)) 4
unfolding program_at chars
object_target h = (rw h refl, rw h refl)

-- (function (a = this, ...a) {});
parameters : (s : List ℕ) → IsName s → expresses (typed (codes "FunctionExpression") ((codes "params", list (with_default (name s) ∷ rest (name s) ∷ [])) ∷ (codes "body", block []) ∷ []))
    (node (shape.Function false false []) [] 1 (absent ▸ listed (node shape.AssignmentPattern [] 2 (bound s ▸ inner_this 3 ▸ none) ▸ plain shape.RestElement (bound s ▸ none) ▸ none) ▸ body_tree none ▸ none)) 4
unfolding program_at
parameters s h = (rw h refl, rw h refl)
