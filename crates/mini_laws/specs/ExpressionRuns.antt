-- Runs of each kind of expression, computed.
use Rattle.std.specs.Prelude.{◌≡◌, refl, true, false, [], ◌∷◌, Some, None, codes, pos, negsuc}
use Rattle.std.specs.Fmt.{digits}
use Rattle.mini_model.specs.declared.kind.MetaPropertyKind.TheVariants.{NewTarget}
use Rattle.mini_model.specs.declared.kind.PropertyKind.TheVariants.{Init, Get, Set}
use Rattle.mini_model.specs.declared.operator.BinaryOperator.TheVariants as binary
use Rattle.mini_model.specs.declared.operator.LogicalOperator.TheVariants.{Coalesce}
use Rattle.mini_model.specs.declared.operator.UnaryOperator.TheVariants as unary
use Rattle.mini_model.specs.declared.shape.Shape.TheVariants as shape
use Rattle.mini_model.specs.Tree.{none, ◌▸◌, leaf, absent, listed, logical}
use Rattle.mini_laws.specs.Value.{Undefined, Null, Boolean, Number, String, Object}
use Rattle.mini_laws.specs.State.{ForDefault, ForString, Anything, ABoolean, AnObject, InChain, GetOf, DeleteOf, CallOf, NewOf, Coerce, InOf, InstanceOf, ArrayOf, ObjectOf, SpreadOf, Create, NodeOf, YieldOf, TypeError, Raise, Item, Spreaded, Hole, Field, Prototype, Getter, Returning, Shortens, either, ThisOf, Setter}
use Rattle.mini_laws.specs.Command.{act, at_variable, read_slot, read_any, write_slot, take_turn, answered, answered_binds, heard, this_of}
use Rattle.mini_laws.specs.Step.{step, means, meaning}
use Rattle.mini_laws.specs.Body.{ReturnOf, ThrowOf, InnerValue, ArrowExpression, NormalOf, Run}
use Rattle.mini_laws.specs.Samples.{one, two, numbered, global, label, number, text, boolean, null, binary, call, called, member, property, sequence, template, function, class, answer, gives, throws, value_of, run_of, shown, environment, start}

-- `1 + 2`
sum : value_of (binary binary.Addition (number 1) (number 2)) ([]) ≡ Some (record { events = []; outcome = ReturnOf (Number (pos 3)) })
unfolding means meaning step either act at_variable read_slot read_any write_slot take_turn answered answered_binds heard this_of digits
sum = refl

-- `1 + "a"`
joined : value_of (binary binary.Addition (number 1) (text (codes "a"))) ([]) ≡ Some (record { events = []; outcome = ReturnOf (String (codes "1a")) })
unfolding means meaning step either act at_variable read_slot read_any write_slot take_turn answered answered_binds heard this_of digits
joined = refl

-- `" 0x10 " - 1`
text_as_number : value_of (binary binary.Subtraction (text (codes " 0x10 ")) (number 1)) ([]) ≡ Some (record { events = []; outcome = ReturnOf (Number (pos 15)) })
unfolding means meaning step either act at_variable read_slot read_any write_slot take_turn answered answered_binds heard this_of digits
text_as_number = refl

-- `1 - 3`
difference : value_of (binary binary.Subtraction (number 1) (number 3)) ([]) ≡ Some (record { events = []; outcome = ReturnOf (Number (negsuc 1)) })
unfolding means meaning step either act at_variable read_slot read_any write_slot take_turn answered answered_binds heard this_of digits
difference = refl

-- `6 * 7`
product : value_of (binary binary.Multiplication (number 6) (number 7)) ([]) ≡ Some (record { events = []; outcome = ReturnOf (Number (pos 42)) })
unfolding means meaning step either act at_variable read_slot read_any write_slot take_turn answered answered_binds heard this_of digits
product = refl

-- `-1 * 0` is -0, and so outside the model
minus_zero : value_of (binary binary.Multiplication (leaf (shape.NumericLiteral (negsuc 0))) (number 0)) [] ≡ None
unfolding means meaning step either act at_variable read_slot read_any write_slot take_turn answered answered_binds heard this_of digits
minus_zero = refl

-- `9007199254740991 + 1` is no safe number
unsafe_sum : value_of (binary binary.Addition (number 9_007_199_254_740_991) (number 1)) [] ≡ None
unfolding means meaning step either act at_variable read_slot read_any write_slot take_turn answered answered_binds heard this_of digits
unsafe_sum = refl

-- `6 / 3`
quotient : value_of (binary binary.Division (number 6) (number 3)) ([]) ≡ Some (record { events = []; outcome = ReturnOf (Number (pos 2)) })
unfolding means meaning step either act at_variable read_slot read_any write_slot take_turn answered answered_binds heard this_of digits
quotient = refl

-- `1 / 2` is not whole
half : value_of (binary binary.Division (number 1) (number 2)) ([]) ≡ None
unfolding means meaning step either act at_variable read_slot read_any write_slot take_turn answered answered_binds heard this_of digits
half = refl

-- `7 % 4`
remainder : value_of (binary binary.Remainder (number 7) (number 4)) ([]) ≡ Some (record { events = []; outcome = ReturnOf (Number (pos 3)) })
unfolding means meaning step either act at_variable read_slot read_any write_slot take_turn answered answered_binds heard this_of digits
remainder = refl

-- `2 ** 10`
power : value_of (binary binary.Exponential (number 2) (number 10)) ([]) ≡ Some (record { events = []; outcome = ReturnOf (Number (pos 1024)) })
unfolding means meaning step either act at_variable read_slot read_any write_slot take_turn answered answered_binds heard this_of digits
power = refl

-- `1 << 31`
shift : value_of (binary binary.ShiftLeft (number 1) (number 31)) ([]) ≡ Some (record { events = []; outcome = ReturnOf (Number (negsuc 2147483647)) })
unfolding means meaning step either act at_variable read_slot read_any write_slot take_turn answered answered_binds heard this_of digits
shift = refl

-- `"a" < "b"`
less : value_of (binary binary.LessThan (text (codes "a")) (text (codes "b"))) ([]) ≡ Some (record { events = []; outcome = ReturnOf (Boolean true) })
unfolding means meaning step either act at_variable read_slot read_any write_slot take_turn answered answered_binds heard this_of digits
less = refl

-- `null == undefined`
loosely : value_of (binary binary.Equality null (global (codes "undefined"))) ([]) ≡ Some (record { events = []; outcome = ReturnOf (Boolean true) })
unfolding means meaning step either act at_variable read_slot read_any write_slot take_turn answered answered_binds heard this_of digits
loosely = refl

-- `1 === "1"`
strictly : value_of (binary binary.StrictEquality (number 1) (text (codes "1"))) ([]) ≡ Some (record { events = []; outcome = ReturnOf (Boolean false) })
unfolding means meaning step either act at_variable read_slot read_any write_slot take_turn answered answered_binds heard this_of digits
strictly = refl

-- `1 == "1"`
loose_text : value_of (binary binary.Equality (number 1) (text (codes "1"))) ([]) ≡ Some (record { events = []; outcome = ReturnOf (Boolean true) })
unfolding means meaning step either act at_variable read_slot read_any write_slot take_turn answered answered_binds heard this_of digits
loose_text = refl

-- `o + 1` converts o
converted : value_of (binary binary.Addition (global (codes "o")) (number 1)) (gives (Number (pos 2)) ∷ []) ≡ Some (record { events = ((Coerce ForDefault), (None, Item (Object 7 false) ∷ [])) ∷ []; outcome = ReturnOf (Number (pos 3)) })
unfolding means meaning step either act at_variable read_slot read_any write_slot take_turn answered answered_binds heard this_of digits
converted = refl

-- `"k" in o`
in_operator : value_of (binary binary.In (text (codes "k")) (global (codes "o"))) (gives (Boolean true) ∷ []) ≡ Some (record { events = (InOf, (None, Item (String (codes "k")) ∷ Item (Object 7 false) ∷ [])) ∷ []; outcome = ReturnOf (Boolean true) })
unfolding means meaning step either act at_variable read_slot read_any write_slot take_turn answered answered_binds heard this_of digits
in_operator = refl

-- `"k" in 1` raises
in_number : value_of (binary binary.In (text (codes "k")) (number 1)) (throws Null ∷ []) ≡ Some (record { events = (Raise TypeError, (None, [])) ∷ []; outcome = ThrowOf Null })
unfolding means meaning step either act at_variable read_slot read_any write_slot take_turn answered answered_binds heard this_of digits
in_number = refl

-- `o instanceof f`
instance : value_of (binary binary.Instanceof (global (codes "o")) (global (codes "f"))) (gives (Boolean false) ∷ []) ≡ Some (record { events = (InstanceOf, (None, Item (Object 7 false) ∷ Item (Object 4 true) ∷ [])) ∷ []; outcome = ReturnOf (Boolean false) })
unfolding means meaning step either act at_variable read_slot read_any write_slot take_turn answered answered_binds heard this_of digits
instance = refl

-- `-"5"`
minus : value_of (one (shape.UnaryExpression unary.UnaryNegation) (text (codes "5"))) ([]) ≡ Some (record { events = []; outcome = ReturnOf (Number (negsuc 4)) })
unfolding means meaning step either act at_variable read_slot read_any write_slot take_turn answered answered_binds heard this_of digits
minus = refl

-- `+true`
plus : value_of (one (shape.UnaryExpression unary.UnaryPlus) (boolean true)) ([]) ≡ Some (record { events = []; outcome = ReturnOf (Number (pos 1)) })
unfolding means meaning step either act at_variable read_slot read_any write_slot take_turn answered answered_binds heard this_of digits
plus = refl

-- `~5`
bitwise_not : value_of (one (shape.UnaryExpression unary.BitwiseNot) (number 5)) ([]) ≡ Some (record { events = []; outcome = ReturnOf (Number (negsuc 5)) })
unfolding means meaning step either act at_variable read_slot read_any write_slot take_turn answered answered_binds heard this_of digits
bitwise_not = refl

-- `!null`
not_null : value_of (one (shape.UnaryExpression unary.LogicalNot) null) ([]) ≡ Some (record { events = []; outcome = ReturnOf (Boolean true) })
unfolding means meaning step either act at_variable read_slot read_any write_slot take_turn answered answered_binds heard this_of digits
not_null = refl

-- `void f()`
void_call : value_of (one (shape.UnaryExpression unary.Void) (called (global (codes "f")))) (gives Null ∷ []) ≡ Some (record { events = (CallOf, (None, Item (Object 4 true) ∷ Item Undefined ∷ [])) ∷ []; outcome = ReturnOf Undefined })
unfolding means meaning step either act at_variable read_slot read_any write_slot take_turn answered answered_binds heard this_of digits
void_call = refl

-- `typeof z`, where z is missing
type_of_missing : value_of (one (shape.UnaryExpression unary.Typeof) (global (codes "z"))) ([]) ≡ Some (record { events = []; outcome = ReturnOf (String (codes "undefined")) })
unfolding means meaning step either act at_variable read_slot read_any write_slot take_turn answered answered_binds heard this_of digits
type_of_missing = refl

-- `typeof f`
type_of_function : value_of (one (shape.UnaryExpression unary.Typeof) (global (codes "f"))) ([]) ≡ Some (record { events = []; outcome = ReturnOf (String (codes "function")) })
unfolding means meaning step either act at_variable read_slot read_any write_slot take_turn answered answered_binds heard this_of digits
type_of_function = refl

-- `delete o.k`
delete_member : value_of (one (shape.UnaryExpression unary.Delete) (member (global (codes "o")) (codes "k"))) (gives (Boolean true) ∷ []) ≡ Some (record { events = (DeleteOf, (None, Item (Object 7 false) ∷ Item (String (codes "k")) ∷ [])) ∷ []; outcome = ReturnOf (Boolean true) })
unfolding means meaning step either act at_variable read_slot read_any write_slot take_turn answered answered_binds heard this_of digits
delete_member = refl

-- `delete f()`
delete_value : value_of (one (shape.UnaryExpression unary.Delete) (called (global (codes "f")))) (gives Null ∷ []) ≡ Some (record { events = (CallOf, (None, Item (Object 4 true) ∷ Item Undefined ∷ [])) ∷ []; outcome = ReturnOf (Boolean true) })
unfolding means meaning step either act at_variable read_slot read_any write_slot take_turn answered answered_binds heard this_of digits
delete_value = refl

-- `delete a` is outside the model
delete_name : value_of (one (shape.UnaryExpression unary.Delete) (global (codes "a"))) ([]) ≡ None
unfolding means meaning step either act at_variable read_slot read_any write_slot take_turn answered answered_binds heard this_of digits
delete_name = refl

-- `null ?? 1`
coalesce : value_of (logical Coalesce null (number 1)) ([]) ≡ Some (record { events = []; outcome = ReturnOf (Number (pos 1)) })
unfolding means meaning step either act at_variable read_slot read_any write_slot take_turn answered answered_binds heard this_of digits
coalesce = refl

-- `0 ?? f()`
coalesce_left : value_of (logical Coalesce (number 0) (called (global (codes "f")))) ([]) ≡ Some (record { events = []; outcome = ReturnOf (Number (pos 0)) })
unfolding means meaning step either act at_variable read_slot read_any write_slot take_turn answered answered_binds heard this_of digits
coalesce_left = refl

-- `f(), g(), 3`
sequence_value : value_of (sequence (called (global (codes "f")) ▸ called (global (codes "g")) ▸ (number 3) ▸ none)) (gives Null ∷ gives Null ∷ []) ≡ Some (record { events = (CallOf, (None, Item (Object 4 true) ∷ Item Undefined ∷ [])) ∷ (CallOf, (None, Item (Object 5 true) ∷ Item Undefined ∷ [])) ∷ []; outcome = ReturnOf (Number (pos 3)) })
unfolding means meaning step either act at_variable read_slot read_any write_slot take_turn answered answered_binds heard this_of digits
sequence_value = refl

-- `o.k(1)` passes o as `this`
method_call : value_of (call (member (global (codes "o")) (codes "k")) ((number 1) ▸ none)) (gives (Object 6 true) ∷ gives Null ∷ []) ≡ Some (record { events = (GetOf, (None, Item (Object 7 false) ∷ Item (String (codes "k")) ∷ [])) ∷ (CallOf, (None, Item (Object 6 true) ∷ Item (Object 7 false) ∷ Item (Number (pos 1)) ∷ [])) ∷ []; outcome = ReturnOf Null })
unfolding means meaning step either act at_variable read_slot read_any write_slot take_turn answered answered_binds heard this_of digits
method_call = refl

-- `o[1]`
computed_member : value_of (two (shape.ComputedMemberExpression false) (global (codes "o")) (number 1)) (gives Null ∷ []) ≡ Some (record { events = (GetOf, (None, Item (Object 7 false) ∷ Item (String (codes "1")) ∷ [])) ∷ []; outcome = ReturnOf Null })
unfolding means meaning step either act at_variable read_slot read_any write_slot take_turn answered answered_binds heard this_of digits
computed_member = refl

-- `null.k` raises
member_of_null : value_of (member null (codes "k")) (throws Null ∷ []) ≡ Some (record { events = (Raise TypeError, (None, [])) ∷ []; outcome = ThrowOf Null })
unfolding means meaning step either act at_variable read_slot read_any write_slot take_turn answered answered_binds heard this_of digits
member_of_null = refl

-- `"abc".length`
length_of_text : value_of (member (text (codes "abc")) (codes "length")) ([]) ≡ Some (record { events = []; outcome = ReturnOf (Number (pos 3)) })
unfolding means meaning step either act at_variable read_slot read_any write_slot take_turn answered answered_binds heard this_of digits
length_of_text = refl

-- `"abc"[1]`
unit_of_text : value_of (two (shape.ComputedMemberExpression false) (text (codes "abc")) (number 1)) ([]) ≡ Some (record { events = []; outcome = ReturnOf (String (codes "b")) })
unfolding means meaning step either act at_variable read_slot read_any write_slot take_turn answered answered_binds heard this_of digits
unit_of_text = refl

-- `null?.k.l`
short_chain : value_of (one shape.ChainExpression (member (two (shape.StaticMemberExpression true) null (label (codes "k"))) (codes "l"))) ([]) ≡ Some (record { events = []; outcome = ReturnOf Undefined })
unfolding means meaning step either act at_variable read_slot read_any write_slot take_turn answered answered_binds heard this_of digits
short_chain = refl

-- `o?.k()` passes o as `this`
chain_call : value_of (one shape.ChainExpression (called (two (shape.StaticMemberExpression true) (global (codes "o")) (label (codes "k"))))) (gives (Object 6 true) ∷ gives Null ∷ []) ≡ Some (record { events = (GetOf, (None, Item (Object 7 false) ∷ Item (String (codes "k")) ∷ [])) ∷ (CallOf, (None, Item (Object 6 true) ∷ Item (Object 7 false) ∷ [])) ∷ []; outcome = ReturnOf Null })
unfolding means meaning step either act at_variable read_slot read_any write_slot take_turn answered answered_binds heard this_of digits
chain_call = refl

-- `delete null?.k`
delete_short_chain : value_of (one (shape.UnaryExpression unary.Delete) (one shape.ChainExpression (two (shape.StaticMemberExpression true) null (label (codes "k"))))) ([]) ≡ Some (record { events = []; outcome = ReturnOf (Boolean true) })
unfolding means meaning step either act at_variable read_slot read_any write_slot take_turn answered answered_binds heard this_of digits
delete_short_chain = refl

-- `new f(1)`
new_object : value_of (two shape.NewExpression (global (codes "f")) (listed ((number 1) ▸ none))) (gives (Object 7 false) ∷ []) ≡ Some (record { events = (NewOf, (None, Item (Object 4 true) ∷ Item (Number (pos 1)) ∷ [])) ∷ []; outcome = ReturnOf (Object 7 false) })
unfolding means meaning step either act at_variable read_slot read_any write_slot take_turn answered answered_binds heard this_of digits
new_object = refl

-- `f(...o)`
spread_argument : value_of (call (global (codes "f")) (one shape.SpreadElement (global (codes "o")) ▸ none)) (gives (Object 9 false) ∷ gives Null ∷ []) ≡ Some (record { events = (SpreadOf, (None, Item (Object 7 false) ∷ [])) ∷ (CallOf, (None, Item (Object 4 true) ∷ Item Undefined ∷ Spreaded (Object 9 false) ∷ [])) ∷ []; outcome = ReturnOf Null })
unfolding means meaning step either act at_variable read_slot read_any write_slot take_turn answered answered_binds heard this_of digits
spread_argument = refl

-- `[1, , 2]`
array : value_of (one shape.ArrayExpression (listed ((number 1) ▸ absent ▸ (number 2) ▸ none))) (gives (Object 7 false) ∷ []) ≡ Some (record { events = (ArrayOf, (None, Item (Number (pos 1)) ∷ Hole ∷ Item (Number (pos 2)) ∷ [])) ∷ []; outcome = ReturnOf (Object 7 false) })
unfolding means meaning step either act at_variable read_slot read_any write_slot take_turn answered answered_binds heard this_of digits
array = refl

-- `{ k: 1, 2: 3 }`
object : value_of (one shape.ObjectExpression (listed (property (label (codes "k")) (number 1) ▸ property (number 2) (number 3) ▸ none))) (gives (Object 7 false) ∷ []) ≡ Some (record { events = (ObjectOf, (None, Field (String (codes "k")) (Number (pos 1)) ∷ Field (String (codes "2")) (Number (pos 3)) ∷ [])) ∷ []; outcome = ReturnOf (Object 7 false) })
unfolding means meaning step either act at_variable read_slot read_any write_slot take_turn answered answered_binds heard this_of digits
object = refl

-- `{ __proto__: null }`
prototype : value_of (one shape.ObjectExpression (listed (property (label (codes "__proto__")) null ▸ none))) (gives (Object 7 false) ∷ []) ≡ Some (record { events = (ObjectOf, (None, Prototype Null ∷ [])) ∷ []; outcome = ReturnOf (Object 7 false) })
unfolding means meaning step either act at_variable read_slot read_any write_slot take_turn answered answered_binds heard this_of digits
prototype = refl

-- `{ get k() {} }`, a function with the number 2
getter : value_of (one shape.ObjectExpression (listed (two (shape.ObjectProperty Get false false false) (label (codes "k")) (function false 2 absent) ▸ none))) (gives (Object 4 true) ∷ gives (Object 7 false) ∷ []) ≡ Some (record { events = (Create, (Some 2, [])) ∷ (ObjectOf, (None, Getter (String (codes "k")) (Object 4 true) ∷ [])) ∷ []; outcome = ReturnOf (Object 7 false) })
unfolding means meaning step either act at_variable read_slot read_any write_slot take_turn answered answered_binds heard this_of digits
getter = refl

-- `{ [o]: 1 }` converts o
computed_key : value_of (one shape.ObjectExpression (listed (two (shape.ObjectProperty Init false false true) (global (codes "o")) (number 1) ▸ none))) (gives (String (codes "k")) ∷ gives (Object 7 false) ∷ []) ≡ Some (record { events = ((Coerce ForString), (None, Item (Object 7 false) ∷ [])) ∷ (ObjectOf, (None, Field (String (codes "k")) (Number (pos 1)) ∷ [])) ∷ []; outcome = ReturnOf (Object 7 false) })
unfolding means meaning step either act at_variable read_slot read_any write_slot take_turn answered answered_binds heard this_of digits
computed_key = refl

-- `` `a${1}b` ``
template_text : value_of (template (codes "a") (number 1) (codes "b")) ([]) ≡ Some (record { events = []; outcome = ReturnOf (String (codes "a1b")) })
unfolding means meaning step either act at_variable read_slot read_any write_slot take_turn answered answered_binds heard this_of digits
template_text = refl

-- `` `a${o}b` `` converts o
template_converts : value_of (template (codes "a") (global (codes "o")) (codes "b")) (gives (String (codes "x")) ∷ []) ≡ Some (record { events = ((Coerce ForString), (None, Item (Object 7 false) ∷ [])) ∷ []; outcome = ReturnOf (String (codes "axb")) })
unfolding means meaning step either act at_variable read_slot read_any write_slot take_turn answered answered_binds heard this_of digits
template_converts = refl

-- a function expression with the number 2
function_value : value_of (function false 2 absent) (gives (Object 4 true) ∷ []) ≡ Some (record { events = (Create, (Some 2, [])) ∷ []; outcome = ReturnOf (Object 4 true) })
unfolding means meaning step either act at_variable read_slot read_any write_slot take_turn answered answered_binds heard this_of digits
function_value = refl

-- an arrow with the number 2
arrow_value : value_of (numbered 2 (shape.ArrowFunctionExpression []) (listed none ▸ null ▸ none)) (gives (Object 4 true) ∷ []) ≡ Some (record { events = (Create, (Some 2, [])) ∷ []; outcome = ReturnOf (Object 4 true) })
unfolding means meaning step either act at_variable read_slot read_any write_slot take_turn answered answered_binds heard this_of digits
arrow_value = refl

-- a class expression with the number 2
class_value : value_of (class false 2 absent absent) (gives (Object 4 true) ∷ []) ≡ Some (record { events = ((NodeOf AnObject), (Some 2, [])) ∷ []; outcome = ReturnOf (Object 4 true) })
unfolding means meaning step either act at_variable read_slot read_any write_slot take_turn answered answered_binds heard this_of digits
class_value = refl

-- `this`
this_value : value_of (leaf shape.ThisExpression) ([]) ≡ Some (record { events = []; outcome = ReturnOf Undefined })
unfolding means meaning step either act at_variable read_slot read_any write_slot take_turn answered answered_binds heard this_of digits
this_value = refl

-- `/a/`, with the number 2
regular_expression : value_of (numbered 2 (shape.RegExpLiteral (codes "a") []) none) (gives (Object 7 false) ∷ []) ≡ Some (record { events = ((NodeOf AnObject), (Some 2, [])) ∷ []; outcome = ReturnOf (Object 7 false) })
unfolding means meaning step either act at_variable read_slot read_any write_slot take_turn answered answered_binds heard this_of digits
regular_expression = refl

-- `yield 1`
yield_value : value_of (one (shape.YieldExpression false) (number 1)) (gives Null ∷ []) ≡ Some (record { events = ((YieldOf false), (None, Item (Number (pos 1)) ∷ [])) ∷ []; outcome = ReturnOf Null })
unfolding means meaning step either act at_variable read_slot read_any write_slot take_turn answered answered_binds heard this_of digits
yield_value = refl

-- `yield 1`, returned from
yield_returns : value_of (one (shape.YieldExpression false) (number 1)) (answer (Returning Null) ∷ []) ≡ Some (record { events = ((YieldOf false), (None, Item (Number (pos 1)) ∷ [])) ∷ []; outcome = ReturnOf Null })
unfolding means meaning step either act at_variable read_slot read_any write_slot take_turn answered answered_binds heard this_of digits
yield_returns = refl

-- a tagged template, with the number 2
tagged_template : value_of (numbered 2 shape.TaggedTemplateExpression none) (gives (Boolean true) ∷ []) ≡ Some (record { events = ((NodeOf Anything), (Some 2, [])) ∷ []; outcome = ReturnOf (Boolean true) })
unfolding means meaning step either act at_variable read_slot read_any write_slot take_turn answered answered_binds heard this_of digits
tagged_template = refl

-- `import(..)`, with the number 2
import_call : value_of (numbered 2 shape.ImportExpression none) (gives (Boolean true) ∷ []) ≡ Some (record { events = ((NodeOf Anything), (Some 2, [])) ∷ []; outcome = ReturnOf (Boolean true) })
unfolding means meaning step either act at_variable read_slot read_any write_slot take_turn answered answered_binds heard this_of digits
import_call = refl

-- `super(..)`, with the number 2
super_call : value_of (numbered 2 shape.SuperCallExpression none) (gives (Boolean true) ∷ []) ≡ Some (record { events = ((NodeOf Anything), (Some 2, [])) ∷ []; outcome = ReturnOf (Boolean true) })
unfolding means meaning step either act at_variable read_slot read_any write_slot take_turn answered answered_binds heard this_of digits
super_call = refl

-- `super.k`, with the number 2
super_member : value_of (numbered 2 shape.SuperStaticMemberExpression none) (gives (Boolean true) ∷ []) ≡ Some (record { events = ((NodeOf Anything), (Some 2, [])) ∷ []; outcome = ReturnOf (Boolean true) })
unfolding means meaning step either act at_variable read_slot read_any write_slot take_turn answered answered_binds heard this_of digits
super_member = refl

-- `o.#k`, with the number 2
private_member : value_of (numbered 2 (shape.PrivateFieldExpression false) none) (gives (Boolean true) ∷ []) ≡ Some (record { events = ((NodeOf Anything), (Some 2, [])) ∷ []; outcome = ReturnOf (Boolean true) })
unfolding means meaning step either act at_variable read_slot read_any write_slot take_turn answered answered_binds heard this_of digits
private_member = refl

-- `o?.#k`, which may end its chain
private_chain : value_of (one shape.ChainExpression (numbered 2 (shape.PrivateFieldExpression true) none)) (answer Shortens ∷ []) ≡ Some (record { events = ((NodeOf InChain), (Some 2, [])) ∷ []; outcome = ReturnOf Undefined })
unfolding means meaning step either act at_variable read_slot read_any write_slot take_turn answered answered_binds heard this_of digits
private_chain = refl

-- `o.#k`, which doesn't
private_no_chain : value_of (numbered 2 (shape.PrivateFieldExpression false) none) (answer Shortens ∷ []) ≡ None
unfolding means meaning step either act at_variable read_slot read_any write_slot take_turn answered answered_binds heard this_of digits
private_no_chain = refl

-- `#k in o`, with the number 2
private_in : value_of (numbered 2 shape.PrivateInExpression none) (gives (Boolean true) ∷ []) ≡ Some (record { events = ((NodeOf ABoolean), (Some 2, [])) ∷ []; outcome = ReturnOf (Boolean true) })
unfolding means meaning step either act at_variable read_slot read_any write_slot take_turn answered answered_binds heard this_of digits
private_in = refl

-- `new.target`, with the number 2
meta_property : value_of (numbered 2 (shape.MetaProperty NewTarget) none) (gives (Boolean true) ∷ []) ≡ Some (record { events = ((NodeOf Anything), (Some 2, [])) ∷ []; outcome = ReturnOf (Boolean true) })
unfolding means meaning step either act at_variable read_slot read_any write_slot take_turn answered answered_binds heard this_of digits
meta_property = refl

-- `1n` is outside the model
big_int : value_of (leaf (shape.BigIntLiteral 1)) ([]) ≡ None
unfolding means meaning step either act at_variable read_slot read_any write_slot take_turn answered answered_binds heard this_of digits
big_int = refl

-- `super[k]`, with the number 2
super_computed : value_of (numbered 2 shape.SuperComputedMemberExpression none) (gives Null ∷ []) ≡ Some (record { events = ((NodeOf Anything), (Some 2, [])) ∷ []; outcome = ReturnOf Null })
unfolding means meaning step either act at_variable read_slot read_any write_slot take_turn answered answered_binds heard this_of digits
super_computed = refl

-- `{ set k(v) {} }`, a function with the number 2
setter : value_of (one shape.ObjectExpression (listed (two (shape.ObjectProperty Set false false false) (label (codes "k")) (function false 2 absent) ▸ none))) (gives (Object 4 true) ∷ gives (Object 7 false) ∷ []) ≡ Some (record { events = (Create, (Some 2, [])) ∷ (ObjectOf, (None, Setter (String (codes "k")) (Object 4 true) ∷ [])) ∷ []; outcome = ReturnOf (Object 7 false) })
unfolding means meaning step either act at_variable read_slot read_any write_slot take_turn answered answered_binds heard this_of digits
setter = refl

-- an inner expression, as a body
inner_value : run_of InnerValue (numbered 3 shape.InnerExpression (number 1 ▸ none)) [] ≡ Some (record { events = []; outcome = NormalOf (Number (pos 1)) })
unfolding means meaning step either act at_variable read_slot read_any write_slot take_turn answered answered_binds heard this_of digits
inner_value = refl

-- `this` where the world is asked for it
this_asked : shown (Run (record environment { asks_this = true }) ArrowExpression (leaf shape.ThisExpression) start Undefined (gives Null ∷ []) 0) ≡ Some (record { events = (ThisOf, (None, [])) ∷ []; outcome = ReturnOf Null })
unfolding means meaning step either act at_variable read_slot read_any write_slot take_turn answered answered_binds heard this_of digits
this_asked = refl
