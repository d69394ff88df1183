-- Small trees that are programs, and others that are none. A text stands over each. Where a text is
-- any that is allowed, what is asked of it comes first.
use Rattle.std.specs.Prelude.{◌≡◌, refl, true, false, ◌&&◌, Bool, Some, [], ◌∷◌, List, ℕ, codes, pos, negsuc}
use Rattle.mini_model.specs.declared.kind.PropertyKind.TheVariants.{Init}
use Rattle.mini_model.specs.declared.kind.MethodDefinitionKind.TheVariants.{Constructor, Method}
use Rattle.mini_model.specs.declared.kind.VariableDeclarationKind.TheVariants.{Var}
use Rattle.mini_model.specs.declared.operator.UnaryOperator.TheVariants.{UnaryNegation}
use Rattle.mini_model.specs.declared.shape.Shape.TheVariants as shape
use Rattle.mini_model.specs.Tree.{Tree, Trees, node, none, ◌▸◌, leaf, listed, absent, unresolved, unary, expression_statement, program}
use Rattle.mini_accept.specs.WellShaped.{fits, one, a_program, a_class_member, a_key, is_paired, has_plain_fields, has_its_parts, is_name, is_text}

abbrev script : Trees → Bool
script ts = fits false (one a_program) (program false [] ts)

abbrev strict_script : Trees → Bool
strict_script ts = fits false (one a_program) (program false (codes "use strict" ∷ []) ts)

abbrev module_of : Trees → Bool
module_of ts = fits false (one a_program) (program true [] ts)

-- `this` and `null`
abbrev a : Tree
a = leaf shape.ThisExpression

abbrev b : Tree
b = leaf shape.NullLiteral

abbrev says : Tree → Trees
says e = expression_statement e ▸ none

abbrev number : ℕ → Tree
number n = leaf (shape.NumericLiteral (pos n))

abbrev key : Tree
key = number 0

-- a name that is declared
abbrev bound : List ℕ → Tree
bound s = node shape.BindingIdentifier (unresolved s ∷ []) 0 none

abbrev sequence : Trees → Tree
sequence ts = node shape.SequenceExpression [] 0 (listed ts ▸ none)

-- `t[0]`, `t?.[0]`
abbrev member : Bool → Tree → Tree
member optional t = node (shape.ComputedMemberExpression optional) [] 0 (t ▸ key ▸ none)

abbrev chain : Tree → Tree
chain t = node shape.ChainExpression [] 0 (t ▸ none)

-- `function f() {}`
abbrev function : List ℕ → Tree
function f = node (shape.Function true false []) [] 1 (bound f ▸ listed none ▸ node shape.FunctionBody [] 0 (listed none ▸ none) ▸ none)

-- `function () {}`, with a number
abbrev lambda : ℕ → Tree
lambda n = node (shape.Function false false []) [] n (absent ▸ listed none ▸ node shape.FunctionBody [] 0 (listed none ▸ none) ▸ none)

abbrev block : Tree → Tree
block s = node shape.BlockStatement [] 0 (listed (s ▸ none) ▸ none)

abbrev quasi : Bool → List ℕ → List ℕ → Tree
quasi tail raw cooked = leaf (shape.TemplateElement tail raw (Some cooked))

abbrev template : Trees → Trees → Tree
template qs es = node shape.TemplateLiteral [] 0 (listed qs ▸ listed es ▸ none)

abbrev property : Bool → Bool → Tree → Tree
property is_method shorthand value = node (shape.ObjectProperty Init is_method shorthand false) [] 0 (key ▸ value ▸ none)

abbrev object : Tree → Tree
object p = node shape.ObjectExpression [] 0 (listed (p ▸ none) ▸ none)

abbrev declaration : List ℕ → Tree → Tree
declaration f init = node (shape.VariableDeclaration Var) [] 0 (listed (node shape.VariableDeclarator [] 0 (bound f ▸ init ▸ none) ▸ none) ▸ none)

-- `this, null;`
sequence_of_two : script (says (sequence (a ▸ b ▸ none))) ≡ true
sequence_of_two = refl

-- a sequence of one part
sequence_of_one : script (says (sequence (a ▸ none))) ≡ false
sequence_of_one = refl

-- `this?.[0];`
optional_in_a_chain : script (says (chain (member true a))) ≡ true
optional_in_a_chain = refl

-- `this?.[0][0];`, whose mark stands below the end of the chain
optional_below : script (says (chain (member false (member true a)))) ≡ true
optional_below = refl

-- `this?.[0]` without a chain
optional_without_a_chain : script (says (member true a)) ≡ false
optional_without_a_chain = refl

-- a chain without a mark
chain_without_a_mark : script (says (chain (member false a))) ≡ false
chain_without_a_mark = refl

-- a chain over a chain, which has the only mark
chain_over_a_chain : script (says (chain (member false (chain (member true a))))) ≡ false
chain_over_a_chain = refl

-- `function f() {}`
function_in_a_script : (f : List ℕ) → is_name f ≡ true → script (function f ▸ none) ≡ true
function_in_a_script f e = rw e refl

-- `{ function f() {} }`, in sloppy code and in strict code
function_in_a_block : (f : List ℕ) → script (block (function f) ▸ none) ≡ false
function_in_a_block f = refl

function_in_a_strict_block : (f : List ℕ) → is_name f ≡ true → is_paired (codes "use strict") ≡ true → strict_script (block (function f) ▸ none) ≡ true
function_in_a_strict_block f e p = rw (e, p) refl

-- `import "s";`, in a module and in a script
import_in_a_module : (s : List ℕ) → is_paired s ≡ true → module_of (node shape.ImportDeclaration [] 0 (listed none ▸ leaf (shape.StringLiteral s) ▸ none) ▸ none) ≡ true
import_in_a_module s e = rw e refl

import_in_a_script : (s : List ℕ) → script (node shape.ImportDeclaration [] 0 (listed none ▸ leaf (shape.StringLiteral s) ▸ none) ▸ none) ≡ false
import_in_a_script s = refl

-- a text of a number that is no unit
greater_than_a_unit : script (says (leaf (shape.StringLiteral (0x1_0000 ∷ [])))) ≡ false
greater_than_a_unit = refl

-- a text with a half of a surrogate pair
half_of_a_pair : (s : List ℕ) → is_paired s ≡ false → script (says (leaf (shape.StringLiteral s))) ≡ false
half_of_a_pair s e = rw e refl

-- a minus over 1, which is one negative literal, and that literal
minus_over_one : script (says (unary UnaryNegation (number 1))) ≡ false
minus_over_one = refl

minus_one : script (says (leaf (shape.NumericLiteral (negsuc 0)))) ≡ true
minus_one = refl

-- a minus over 0 stays one
minus_over_zero : script (says (unary UnaryNegation (number 0))) ≡ true
minus_over_zero = refl

-- 2 ^ 53 - 1, and one more
safe_number : script (says (number 9007199254740991)) ≡ true
safe_number = refl

unsafe_number : script (says (number 9007199254740992)) ≡ false
unsafe_number = refl

-- a template of two pieces, with a tail that isn't last, and with one piece too few
pieces_of_a_template : (x : List ℕ) → has_plain_fields (shape.TemplateElement true x (Some x)) ≡ true → script (says (template (quasi false x x ▸ quasi true x x ▸ none) (a ▸ none))) ≡ true
pieces_of_a_template x e = rw e refl

early_tail : (x : List ℕ) → script (says (template (quasi true x x ▸ quasi true x x ▸ none) (a ▸ none))) ≡ false
early_tail x = refl

piece_too_few : (x : List ℕ) → script (says (template (quasi true x x ▸ none) (a ▸ none))) ≡ false
piece_too_few x = refl

-- a raw text with another's cooked text
cooked_of_another : has_plain_fields (shape.TemplateElement true (codes "x") (Some (codes "y"))) ≡ (is_paired (codes "x") && false)
cooked_of_another = refl

-- `({ 0: null })`, and a shorthand property whose key is no name
plain_property : script (says (object (property false false b))) ≡ true
plain_property = refl

shorthand_without_a_name : script (says (object (property false true b))) ≡ false
shorthand_without_a_name = refl

-- `({ 0() {} })`, and a method that is no function
method : script (says (object (property true false (lambda 1)))) ≡ true
method = refl

method_without_a_function : script (says (object (property true false a))) ≡ false
method_without_a_function = refl

-- a function has another number than 0; without one it is refused
numbered_function : script (says (lambda 1)) ≡ true
numbered_function = refl

unnumbered_function : script (says (lambda 0)) ≡ false
unnumbered_function = refl

-- an expression that has no number has 0; with another it is refused
unnumbered_array : script (says (node shape.ArrayExpression [] 0 (listed none ▸ none))) ≡ true
unnumbered_array = refl

numbered_array : script (says (node shape.ArrayExpression [] 1 (listed none ▸ none))) ≡ false
numbered_array = refl

-- the program has 0
unnumbered_program : fits false (one a_program) (node (shape.Program false []) [] 0 (listed none ▸ none)) ≡ true
unnumbered_program = refl

numbered_program : fits false (one a_program) (node (shape.Program false []) [] 1 (listed none ▸ none)) ≡ false
numbered_program = refl

-- `for (var f of this) ;`, and with an initializer
head_of_for_of : (f : List ℕ) → is_name f ≡ true → script (node shape.ForOfStatement [] 0 (declaration f absent ▸ a ▸ leaf shape.EmptyStatement ▸ none) ▸ none) ≡ true
head_of_for_of f e = rw e refl

initialized_head_of_for_of : (f : List ℕ) → script (node shape.ForOfStatement [] 0 (declaration f b ▸ a ▸ leaf shape.EmptyStatement ▸ none) ▸ none) ≡ false
initialized_head_of_for_of f = refl

-- `for (var f = null in this) ;`
initialized_head_of_for_in : (f : List ℕ) → is_name f ≡ true → script (node shape.ForInStatement [] 0 (declaration f b ▸ a ▸ leaf shape.EmptyStatement ▸ none) ▸ none) ≡ true
initialized_head_of_for_in f e = rw e refl

-- `try {}` alone
bare_try : script (node shape.TryStatement [] 0 (node shape.BlockStatement [] 0 (listed none ▸ none) ▸ absent ▸ absent ▸ none) ▸ none) ≡ false
bare_try = refl

-- a class without members, with the name that it holds once more
abbrev class : Bool → Tree → Tree → Tree
class declares id again = node (shape.Class declares) [] 1 (id ▸ absent ▸ node shape.ClassBody [] 0 (listed none ▸ none) ▸ again ▸ none)

-- `class f {}`, which holds its name once more; it doesn't hold another, nor none
class_in_a_script : (f : List ℕ) → is_name f ≡ true → is_text f f ≡ true → script (class true (bound f) (bound f) ▸ none) ≡ true
class_in_a_script f e s = rw (e, s) refl

class_with_another_name : script (class true (bound (codes "a")) (bound (codes "b")) ▸ none) ≡ false
class_with_another_name = refl

class_without_its_name : (f : List ℕ) → script (class true (bound f) absent ▸ none) ≡ false
class_without_its_name f = refl

-- `(class f {});`, which holds no name beside its own, nor does `export default class {}`
class_expression : (f : List ℕ) → is_name f ≡ true → script (says (class false (bound f) absent)) ≡ true
class_expression f e = rw e refl

class_expression_with_a_name : (f : List ℕ) → script (says (class false (bound f) (bound f))) ≡ false
class_expression_with_a_name f = refl

class_without_a_name : module_of (node shape.ExportDefaultDeclaration [] 0 (class true absent absent ▸ none) ▸ none) ≡ true
class_without_a_name = refl

name_of_no_class : (f : List ℕ) → module_of (node shape.ExportDefaultDeclaration [] 0 (class true absent (bound f) ▸ none) ▸ none) ≡ false
name_of_no_class f = refl

-- a class whose constructor is said to be a method
constructor_as_a_method : has_its_parts a_class_member (shape.MethodDefinition Method false false) (leaf (shape.IdentifierName (codes "constructor")) ▸ lambda 2 ▸ none) ≡ false
constructor_as_a_method = refl

constructor_of_a_class : has_its_parts a_class_member (shape.MethodDefinition Constructor false false) (leaf (shape.IdentifierName (codes "constructor")) ▸ lambda 2 ▸ none) ≡ true
constructor_of_a_class = refl

static_constructor : has_its_parts a_class_member (shape.MethodDefinition Method false true) (leaf (shape.IdentifierName (codes "constructor")) ▸ lambda 2 ▸ none) ≡ true
static_constructor = refl

-- `1` may be a key, and `-1` none
number_as_a_key : fits false (one (a_key false)) (number 1) ≡ true
number_as_a_key = refl

negative_key : fits false (one (a_key false)) (leaf (shape.NumericLiteral (negsuc 0))) ≡ false
negative_key = refl

-- 2 ^ 128 is too great for a BigInt
great_big_int : has_plain_fields (shape.BigIntLiteral 340_282_366_920_938_463_463_374_607_431_768_211_456) ≡ false
great_big_int = refl

-- raw text `\ud800`, whose cooked text is half a surrogate pair, which isn't written
half_a_pair : has_plain_fields (shape.TemplateElement true (92 ∷ 117 ∷ 100 ∷ 56 ∷ 48 ∷ 48 ∷ []) (Some (55296 ∷ []))) ≡ (is_paired (92 ∷ 117 ∷ 100 ∷ 56 ∷ 48 ∷ 48 ∷ []) && is_paired (55296 ∷ []))
half_a_pair = refl
