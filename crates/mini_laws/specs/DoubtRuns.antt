-- Runs that a sceptic would doubt, computed: what comes first, what is converted when, what an end
-- skips. Each is worked out by hand from ECMA-262.
use Rattle.std.specs.Prelude.{◌≡◌, refl, true, false, [], ◌∷◌, Some, None, codes, pos, negsuc}
use Rattle.std.specs.Fmt.{digits}
use Rattle.mini_model.specs.declared.kind.PropertyKind.TheVariants.{Init}
use Rattle.mini_model.specs.declared.kind.VariableDeclarationKind.TheVariants.{Var, Let, Const}
use Rattle.mini_model.specs.declared.operator.AssignmentOperator.TheVariants as assignment
use Rattle.mini_model.specs.declared.operator.BinaryOperator.TheVariants as operator
use Rattle.mini_model.specs.declared.operator.UnaryOperator.TheVariants as unary
use Rattle.mini_model.specs.declared.operator.UpdateOperator.TheVariants.{Increment}
use Rattle.mini_model.specs.declared.shape.Shape.TheVariants as shape
use Rattle.mini_model.specs.Tree.{Tree, none, ◌▸◌, leaf, absent, listed, identifier}
use Rattle.mini_laws.specs.Value.{Undefined, Null, Boolean, Number, String, Symbol, Object, Declared}
use Rattle.mini_laws.specs.State.{ForDefault, ForNumber, ForString, Anything, InChain, GetOf, SetOf, CallOf, Coerce, ArrayOf, ObjectOf, SpreadOf, Create, NodeOf, PlaceOf, BindOf, ThisOf, IteratorOf, KeysOf, NextOf, CloseOf, YieldOf, TypeError, ReferenceError, Raise, Item, Converted, Spreaded, Field, Finished, Returning, Shortens, Refuses, Keeps, either}
use Rattle.mini_laws.specs.Command.{act, at_variable, read_slot, read_any, write_slot, take_turn, answered, answered_binds, heard, this_of}
use Rattle.mini_laws.specs.Step.{step, means, meaning}
use Rattle.mini_laws.specs.Fixity.{fixed_in}
use Rattle.mini_laws.specs.Body.{Program, FunctionStatements, ArrowExpression, NormalEnd, ReturnOf, ThrowOf, Run}
use Rattle.mini_laws.specs.Samples.{one, two, three, numbered, global, local, bound, label, number, text, boolean, null, binary, assign, update, call, called, member, sequence, function, class, block, script, function_body, does, declaration, returns, for_loop, environment, start, answer, gives, throws, shown, run_of, value_of}

-- `eval` with the symbol 1, and the texts of a template, which are empty
abbrev local_eval : Tree
local_eval = identifier (record { spelling = codes "eval"; symbol = Some (record { 0 = 1 }) })

abbrev quasi : Tree
quasi = leaf (shape.TemplateElement false [] (Some []))

-- `f() - o`, where f gives a symbol: it is no number, which raises before o is converted
symbol_first : value_of ((binary operator.Subtraction (called (global (codes "f"))) (global (codes "o")))) (gives (Symbol 1) ∷ throws Null ∷ []) ≡ Some (record { events = (CallOf, (None, Item (Object 4 true) ∷ Item Undefined ∷ [])) ∷ (Raise TypeError, (None, [])) ∷ []; outcome = ThrowOf Null })
unfolding means meaning step either act at_variable read_slot read_any write_slot take_turn answered answered_binds heard this_of digits
symbol_first = refl

-- `f() + o`: both are made primitive before
symbol_plus : value_of ((binary operator.Addition (called (global (codes "f"))) (global (codes "o")))) (gives (Symbol 1) ∷ gives (Number (pos 1)) ∷ throws Null ∷ []) ≡ Some (record { events = (CallOf, (None, Item (Object 4 true) ∷ Item Undefined ∷ [])) ∷ ((Coerce ForDefault), (None, Item (Object 7 false) ∷ [])) ∷ (Raise TypeError, (None, [])) ∷ []; outcome = ThrowOf Null })
unfolding means meaning step either act at_variable read_slot read_any write_slot take_turn answered answered_binds heard this_of digits
symbol_plus = refl

-- `f() < o`: so they are where they are compared
symbol_less : value_of ((binary operator.LessThan (called (global (codes "f"))) (global (codes "o")))) (gives (Symbol 1) ∷ gives (Number (pos 1)) ∷ throws Null ∷ []) ≡ Some (record { events = (CallOf, (None, Item (Object 4 true) ∷ Item Undefined ∷ [])) ∷ ((Coerce ForNumber), (None, Item (Object 7 false) ∷ [])) ∷ (Raise TypeError, (None, [])) ∷ []; outcome = ThrowOf Null })
unfolding means meaning step either act at_variable read_slot read_any write_slot take_turn answered answered_binds heard this_of digits
symbol_less = refl

-- `o > f()`: f is called before o is converted, and o before the right side is
greater_order : value_of ((binary operator.GreaterThan (global (codes "o")) (called (global (codes "f"))))) (gives (Object 7 false) ∷ gives (Number (pos 3)) ∷ gives (Number (pos 2)) ∷ []) ≡ Some (record { events = (CallOf, (None, Item (Object 4 true) ∷ Item Undefined ∷ [])) ∷ ((Coerce ForNumber), (None, Item (Object 7 false) ∷ [])) ∷ ((Coerce ForNumber), (None, Item (Object 7 false) ∷ [])) ∷ []; outcome = ReturnOf (Boolean true) })
unfolding means meaning step either act at_variable read_slot read_any write_slot take_turn answered answered_binds heard this_of digits
greater_order = refl

-- `o == o` converts nothing
loose_objects : value_of ((binary operator.Equality (global (codes "o")) (global (codes "o")))) ([]) ≡ Some (record { events = []; outcome = ReturnOf (Boolean true) })
unfolding means meaning step either act at_variable read_slot read_any write_slot take_turn answered answered_binds heard this_of digits
loose_objects = refl

-- `o == null` converts nothing
loose_null : value_of ((binary operator.Equality (global (codes "o")) null)) ([]) ≡ Some (record { events = []; outcome = ReturnOf (Boolean false) })
unfolding means meaning step either act at_variable read_slot read_any write_slot take_turn answered answered_binds heard this_of digits
loose_null = refl

-- `true == o` converts o by default, and then both to numbers
loose_object : value_of ((binary operator.Equality (boolean true) (global (codes "o")))) (gives (String (codes "1")) ∷ []) ≡ Some (record { events = ((Coerce ForDefault), (None, Item (Object 7 false) ∷ [])) ∷ []; outcome = ReturnOf (Boolean true) })
unfolding means meaning step either act at_variable read_slot read_any write_slot take_turn answered answered_binds heard this_of digits
loose_object = refl

-- `1 == o`, where o becomes null: null equals no number
loose_to_null : value_of ((binary operator.Equality (number 1) (global (codes "o")))) (gives Null ∷ []) ≡ Some (record { events = ((Coerce ForDefault), (None, Item (Object 7 false) ∷ [])) ∷ []; outcome = ReturnOf (Boolean false) })
unfolding means meaning step either act at_variable read_slot read_any write_slot take_turn answered answered_binds heard this_of digits
loose_to_null = refl

-- `"" == 0`
empty_is_zero : value_of ((binary operator.Equality (text (codes "")) (number 0))) ([]) ≡ Some (record { events = []; outcome = ReturnOf (Boolean true) })
unfolding means meaning step either act at_variable read_slot read_any write_slot take_turn answered answered_binds heard this_of digits
empty_is_zero = refl

-- `null == 0`, and yet `null >= 0`
null_is_not_zero : value_of ((binary operator.Equality null (number 0))) ([]) ≡ Some (record { events = []; outcome = ReturnOf (Boolean false) })
unfolding means meaning step either act at_variable read_slot read_any write_slot take_turn answered answered_binds heard this_of digits
null_is_not_zero = refl

-- `null >= 0`
null_not_less : value_of ((binary operator.GreaterEqualThan null (number 0))) ([]) ≡ Some (record { events = []; outcome = ReturnOf (Boolean true) })
unfolding means meaning step either act at_variable read_slot read_any write_slot take_turn answered answered_binds heard this_of digits
null_not_less = refl

-- `"10" < "9"` by units, and `"10" < 9` by numbers
texts_by_units : value_of ((binary operator.LessThan (text (codes "10")) (text (codes "9")))) ([]) ≡ Some (record { events = []; outcome = ReturnOf (Boolean true) })
unfolding means meaning step either act at_variable read_slot read_any write_slot take_turn answered answered_binds heard this_of digits
texts_by_units = refl

-- `"10" < 9`
text_by_number : value_of ((binary operator.LessThan (text (codes "10")) (number 9))) ([]) ≡ Some (record { events = []; outcome = ReturnOf (Boolean false) })
unfolding means meaning step either act at_variable read_slot read_any write_slot take_turn answered answered_binds heard this_of digits
text_by_number = refl

-- `o in f()`: both sides first, then it raises
in_after_both : value_of ((binary operator.In (global (codes "o")) (called (global (codes "f"))))) (gives (Number (pos 1)) ∷ throws Null ∷ []) ≡ Some (record { events = (CallOf, (None, Item (Object 4 true) ∷ Item Undefined ∷ [])) ∷ (Raise TypeError, (None, [])) ∷ []; outcome = ThrowOf Null })
unfolding means meaning step either act at_variable read_slot read_any write_slot take_turn answered answered_binds heard this_of digits
in_after_both = refl

-- `-1 >>> 0`
unsigned : value_of ((binary operator.ShiftRightZeroFill (leaf (shape.NumericLiteral (negsuc 0))) (number 0))) ([]) ≡ Some (record { events = []; outcome = ReturnOf (Number (pos 4294967295)) })
unfolding means meaning step either act at_variable read_slot read_any write_slot take_turn answered answered_binds heard this_of digits
unsigned = refl

-- `-5 >> 1`
signed_shift : value_of ((binary operator.ShiftRight (leaf (shape.NumericLiteral (negsuc 4))) (number 1))) ([]) ≡ Some (record { events = []; outcome = ReturnOf (Number (negsuc 2)) })
unfolding means meaning step either act at_variable read_slot read_any write_slot take_turn answered answered_binds heard this_of digits
signed_shift = refl

-- `1 << 33`: the count is modulo 32
shift_count : value_of ((binary operator.ShiftLeft (number 1) (number 33))) ([]) ≡ Some (record { events = []; outcome = ReturnOf (Number (pos 2)) })
unfolding means meaning step either act at_variable read_slot read_any write_slot take_turn answered answered_binds heard this_of digits
shift_count = refl

-- `5 & -2`
negative_bits : value_of ((binary operator.BitwiseAnd (number 5) (leaf (shape.NumericLiteral (negsuc 1))))) ([]) ≡ Some (record { events = []; outcome = ReturnOf (Number (pos 4)) })
unfolding means meaning step either act at_variable read_slot read_any write_slot take_turn answered answered_binds heard this_of digits
negative_bits = refl

-- `-1 ^ 5`
exclusive : value_of ((binary operator.BitwiseXor (leaf (shape.NumericLiteral (negsuc 0))) (number 5))) ([]) ≡ Some (record { events = []; outcome = ReturnOf (Number (negsuc 5)) })
unfolding means meaning step either act at_variable read_slot read_any write_slot take_turn answered answered_binds heard this_of digits
exclusive = refl

-- `-7 % 3`: the sign is that of the left side
left_sign : value_of ((binary operator.Remainder (leaf (shape.NumericLiteral (negsuc 6))) (number 3))) ([]) ≡ Some (record { events = []; outcome = ReturnOf (Number (negsuc 0)) })
unfolding means meaning step either act at_variable read_slot read_any write_slot take_turn answered answered_binds heard this_of digits
left_sign = refl

-- `7 % -3`
left_sign_again : value_of ((binary operator.Remainder (number 7) (leaf (shape.NumericLiteral (negsuc 2))))) ([]) ≡ Some (record { events = []; outcome = ReturnOf (Number (pos 1)) })
unfolding means meaning step either act at_variable read_slot read_any write_slot take_turn answered answered_binds heard this_of digits
left_sign_again = refl

-- `-8 % 4` is -0, and so outside the model
zero_remainder : value_of ((binary operator.Remainder (leaf (shape.NumericLiteral (negsuc 7))) (number 4))) ([]) ≡ None
unfolding means meaning step either act at_variable read_slot read_any write_slot take_turn answered answered_binds heard this_of digits
zero_remainder = refl

-- `(-2) ** 3`
odd_power : value_of ((binary operator.Exponential (leaf (shape.NumericLiteral (negsuc 1))) (number 3))) ([]) ≡ Some (record { events = []; outcome = ReturnOf (Number (negsuc 7)) })
unfolding means meaning step either act at_variable read_slot read_any write_slot take_turn answered answered_binds heard this_of digits
odd_power = refl

-- `0 ** 0`
no_power : value_of ((binary operator.Exponential (number 0) (number 0))) ([]) ≡ Some (record { events = []; outcome = ReturnOf (Number (pos 1)) })
unfolding means meaning step either act at_variable read_slot read_any write_slot take_turn answered answered_binds heard this_of digits
no_power = refl

-- `(-1) ** -3` is -1, and `(-1) ** -2` is 1
odd_negative_power : value_of ((binary operator.Exponential (leaf (shape.NumericLiteral (negsuc 0))) (leaf (shape.NumericLiteral (negsuc 2))))) ([]) ≡ Some (record { events = []; outcome = ReturnOf (Number (negsuc 0)) })
unfolding means meaning step either act at_variable read_slot read_any write_slot take_turn answered answered_binds heard this_of digits
odd_negative_power = refl

even_negative_power : value_of ((binary operator.Exponential (leaf (shape.NumericLiteral (negsuc 0))) (leaf (shape.NumericLiteral (negsuc 1))))) ([]) ≡ Some (record { events = []; outcome = ReturnOf (Number (pos 1)) })
unfolding means meaning step either act at_variable read_slot read_any write_slot take_turn answered answered_binds heard this_of digits
even_negative_power = refl

-- `" \t" * 1`: white space alone is 0
blank_text : value_of ((binary operator.Multiplication (text (32 ∷ 9 ∷ [])) (number 1))) ([]) ≡ Some (record { events = []; outcome = ReturnOf (Number (pos 0)) })
unfolding means meaning step either act at_variable read_slot read_any write_slot take_turn answered answered_binds heard this_of digits
blank_text = refl

-- `"0b101" * 1`
binary_text : value_of ((binary operator.Multiplication (text (codes "0b101")) (number 1))) ([]) ≡ Some (record { events = []; outcome = ReturnOf (Number (pos 5)) })
unfolding means meaning step either act at_variable read_slot read_any write_slot take_turn answered answered_binds heard this_of digits
binary_text = refl

-- `"-0x1" * 1` is no number, and so outside the model
signed_hex : value_of ((binary operator.Multiplication (text (codes "-0x1")) (number 1))) ([]) ≡ None
unfolding means meaning step either act at_variable read_slot read_any write_slot take_turn answered answered_binds heard this_of digits
signed_hex = refl

-- `"007" * 1`
zeros_in_front : value_of ((binary operator.Multiplication (text (codes "007")) (number 1))) ([]) ≡ Some (record { events = []; outcome = ReturnOf (Number (pos 7)) })
unfolding means meaning step either act at_variable read_slot read_any write_slot take_turn answered answered_binds heard this_of digits
zeros_in_front = refl

-- `true + true`
boolean_sum : value_of ((binary operator.Addition (boolean true) (boolean true))) ([]) ≡ Some (record { events = []; outcome = ReturnOf (Number (pos 2)) })
unfolding means meaning step either act at_variable read_slot read_any write_slot take_turn answered answered_binds heard this_of digits
boolean_sum = refl

-- `"" + null`
joined_null : value_of ((binary operator.Addition (text (codes "")) null)) ([]) ≡ Some (record { events = []; outcome = ReturnOf (String (codes "null")) })
unfolding means meaning step either act at_variable read_slot read_any write_slot take_turn answered answered_binds heard this_of digits
joined_null = refl

-- `o[o] += 1`: the key is converted by the read, and no more
key_converted_once : value_of ((assign assignment.Addition (two (shape.ComputedMemberExpression false) (global (codes "o")) (global (codes "o"))) (number 1))) (gives (Number (pos 1)) ∷ gives Null ∷ []) ≡ Some (record { events = (GetOf, (None, Item (Object 7 false) ∷ Item (Object 7 false) ∷ [])) ∷ (SetOf, (None, Item (Object 7 false) ∷ Converted (Object 7 false) ∷ Item (Number (pos 2)) ∷ [])) ∷ []; outcome = ReturnOf (Number (pos 2)) })
unfolding means meaning step either act at_variable read_slot read_any write_slot take_turn answered answered_binds heard this_of digits
key_converted_once = refl

-- `o[o] = 1`: by the write
key_by_write : value_of ((assign assignment.Assign (two (shape.ComputedMemberExpression false) (global (codes "o")) (global (codes "o"))) (number 1))) (gives Null ∷ []) ≡ Some (record { events = (SetOf, (None, Item (Object 7 false) ∷ Item (Object 7 false) ∷ Item (Number (pos 1)) ∷ [])) ∷ []; outcome = ReturnOf (Number (pos 1)) })
unfolding means meaning step either act at_variable read_slot read_any write_slot take_turn answered answered_binds heard this_of digits
key_by_write = refl

-- `o[1]++` gives the old value
update_member : value_of ((update Increment false (two (shape.ComputedMemberExpression false) (global (codes "o")) (number 1)))) (gives (String (codes "4")) ∷ gives Null ∷ []) ≡ Some (record { events = (GetOf, (None, Item (Object 7 false) ∷ Item (String (codes "1")) ∷ [])) ∷ (SetOf, (None, Item (Object 7 false) ∷ Item (String (codes "1")) ∷ Item (Number (pos 5)) ∷ [])) ∷ []; outcome = ReturnOf (Number (pos 4)) })
unfolding means meaning step either act at_variable read_slot read_any write_slot take_turn answered answered_binds heard this_of digits
update_member = refl

-- `null.k = f()`: f is called before it raises
null_target : value_of ((assign assignment.Assign (member null (codes "k")) (called (global (codes "f"))))) (gives Null ∷ throws Null ∷ []) ≡ Some (record { events = (CallOf, (None, Item (Object 4 true) ∷ Item Undefined ∷ [])) ∷ (Raise TypeError, (None, [])) ∷ []; outcome = ThrowOf Null })
unfolding means meaning step either act at_variable read_slot read_any write_slot take_turn answered answered_binds heard this_of digits
null_target = refl

-- `null[f()]`: the key is evaluated before it raises
null_key : value_of ((two (shape.ComputedMemberExpression false) null (called (global (codes "f"))))) (gives Null ∷ throws Null ∷ []) ≡ Some (record { events = (CallOf, (None, Item (Object 4 true) ∷ Item Undefined ∷ [])) ∷ (Raise TypeError, (None, [])) ∷ []; outcome = ThrowOf Null })
unfolding means meaning step either act at_variable read_slot read_any write_slot take_turn answered answered_binds heard this_of digits
null_key = refl

-- `"abc"["01"]` is no unit: the world is asked
index_not_canonical : value_of ((two (shape.ComputedMemberExpression false) (text (codes "abc")) (text (codes "01")))) (gives Undefined ∷ []) ≡ Some (record { events = (GetOf, (None, Item (String (codes "abc")) ∷ Item (String (codes "01")) ∷ [])) ∷ []; outcome = ReturnOf Undefined })
unfolding means meaning step either act at_variable read_slot read_any write_slot take_turn answered answered_binds heard this_of digits
index_not_canonical = refl

-- `"abc"[3]`
index_past_the_end : value_of ((two (shape.ComputedMemberExpression false) (text (codes "abc")) (number 3))) (gives Undefined ∷ []) ≡ Some (record { events = (GetOf, (None, Item (String (codes "abc")) ∷ Item (String (codes "3")) ∷ [])) ∷ []; outcome = ReturnOf Undefined })
unfolding means meaning step either act at_variable read_slot read_any write_slot take_turn answered answered_binds heard this_of digits
index_past_the_end = refl

-- `null?.[f()]` does not call f
optional_key : value_of ((one shape.ChainExpression (two (shape.ComputedMemberExpression true) null (called (global (codes "f")))))) ([]) ≡ Some (record { events = []; outcome = ReturnOf Undefined })
unfolding means meaning step either act at_variable read_slot read_any write_slot take_turn answered answered_binds heard this_of digits
optional_key = refl

-- `null?.(f())` does not call f
optional_arguments : value_of ((one shape.ChainExpression (two (shape.CallExpression true) null (listed ((called (global (codes "f"))) ▸ none))))) ([]) ≡ Some (record { events = []; outcome = ReturnOf Undefined })
unfolding means meaning step either act at_variable read_slot read_any write_slot take_turn answered answered_binds heard this_of digits
optional_arguments = refl

-- `(null?.k).l`: the chain ends in its parentheses, and the member raises
parenthesized_chain : value_of ((member (one shape.ChainExpression (two (shape.StaticMemberExpression true) null (label (codes "k")))) (codes "l"))) (throws Null ∷ []) ≡ Some (record { events = (Raise TypeError, (None, [])) ∷ []; outcome = ThrowOf Null })
unfolding means meaning step either act at_variable read_slot read_any write_slot take_turn answered answered_binds heard this_of digits
parenthesized_chain = refl

-- `delete null.k`
delete_null : value_of ((one (shape.UnaryExpression unary.Delete) (member null (codes "k")))) (throws Null ∷ []) ≡ Some (record { events = (Raise TypeError, (None, [])) ∷ []; outcome = ThrowOf Null })
unfolding means meaning step either act at_variable read_slot read_any write_slot take_turn answered answered_binds heard this_of digits
delete_null = refl

-- `delete (0, o.k)` reads o.k, and gives true
delete_sequence : value_of ((one (shape.UnaryExpression unary.Delete) (sequence ((number 0) ▸ (member (global (codes "o")) (codes "k")) ▸ none)))) (gives Null ∷ []) ≡ Some (record { events = (GetOf, (None, Item (Object 7 false) ∷ Item (String (codes "k")) ∷ [])) ∷ []; outcome = ReturnOf (Boolean true) })
unfolding means meaning step either act at_variable read_slot read_any write_slot take_turn answered answered_binds heard this_of digits
delete_sequence = refl

-- `typeof x` of a name that is not initialised is outside the model
typeof_uninitialised : value_of ((one (shape.UnaryExpression unary.Typeof) (local 6))) ([]) ≡ None
unfolding means meaning step either act at_variable read_slot read_any write_slot take_turn answered answered_binds heard this_of digits
typeof_uninitialised = refl

-- `(true ? o.k : 0)()` has no `this`
chosen_callee : value_of ((called (three shape.ConditionalExpression (boolean true) (member (global (codes "o")) (codes "k")) (number 0)))) (gives (Object 6 true) ∷ gives Null ∷ []) ≡ Some (record { events = (GetOf, (None, Item (Object 7 false) ∷ Item (String (codes "k")) ∷ [])) ∷ (CallOf, (None, Item (Object 6 true) ∷ Item Undefined ∷ [])) ∷ []; outcome = ReturnOf Null })
unfolding means meaning step either act at_variable read_slot read_any write_slot take_turn answered answered_binds heard this_of digits
chosen_callee = refl

-- `(0, eval)()` is no direct eval
eval_by_sequence : value_of ((called (sequence (number 0 ▸ local_eval ▸ none)))) (gives Null ∷ []) ≡ Some (record { events = (CallOf, (None, Item Undefined ∷ Item Undefined ∷ [])) ∷ []; outcome = ReturnOf Null })
unfolding means meaning step either act at_variable read_slot read_any write_slot take_turn answered answered_binds heard this_of digits
eval_by_sequence = refl

-- `o.#m(1)`, with the number 2: its object is `this`
private_call : value_of ((call (numbered 2 (shape.PrivateFieldExpression false) none) (number 1 ▸ none))) (gives (Object 7 false) ∷ gives (Object 6 true) ∷ gives Null ∷ []) ≡ Some (record { events = ((PlaceOf Anything), (Some 2, [])) ∷ ((NodeOf Anything), (Some 2, [])) ∷ (CallOf, (None, Item (Object 6 true) ∷ Item (Object 7 false) ∷ Item (Number (pos 1)) ∷ [])) ∷ []; outcome = ReturnOf Null })
unfolding means meaning step either act at_variable read_slot read_any write_slot take_turn answered answered_binds heard this_of digits
private_call = refl

-- `o?.#m(f())`, with the number 2: where the chain ends f is not called
private_short_call : value_of ((one shape.ChainExpression (call (numbered 2 (shape.PrivateFieldExpression true) none) ((called (global (codes "f"))) ▸ none)))) (answer Shortens ∷ []) ≡ Some (record { events = ((PlaceOf InChain), (Some 2, [])) ∷ []; outcome = ReturnOf Undefined })
unfolding means meaning step either act at_variable read_slot read_any write_slot take_turn answered answered_binds heard this_of digits
private_short_call = refl

-- `super.k()`, with the number 2, has the `this` of the code around
super_call_this : value_of ((called (numbered 2 shape.SuperStaticMemberExpression none))) (gives (Object 6 true) ∷ gives Null ∷ []) ≡ Some (record { events = ((NodeOf Anything), (Some 2, [])) ∷ (CallOf, (None, Item (Object 6 true) ∷ Item Undefined ∷ [])) ∷ []; outcome = ReturnOf Null })
unfolding means meaning step either act at_variable read_slot read_any write_slot take_turn answered answered_binds heard this_of digits
super_call_this = refl

-- and asks the world for it first, where that is asked
super_call_asks : shown (Run (record environment { asks_this = true }) ArrowExpression (called (numbered 2 shape.SuperStaticMemberExpression none)) start Undefined (gives (Object 7 false) ∷ gives (Object 6 true) ∷ gives Null ∷ []) 0) ≡ Some (record { events = (ThisOf, (None, [])) ∷ ((NodeOf Anything), (Some 2, [])) ∷ (CallOf, (None, Item (Object 6 true) ∷ Item (Object 7 false) ∷ [])) ∷ []; outcome = ReturnOf Null })
unfolding means meaning step either act at_variable read_slot read_any write_slot take_turn answered answered_binds heard this_of digits
super_call_asks = refl

-- `super[..] = f()`, with the number 2: its parts come before the right side
super_target : value_of ((assign assignment.Assign (numbered 2 shape.SuperComputedMemberExpression none) (called (global (codes "f"))))) (gives Null ∷ gives (Number (pos 1)) ∷ gives Null ∷ []) ≡ Some (record { events = ((PlaceOf Anything), (Some 2, [])) ∷ (CallOf, (None, Item (Object 4 true) ∷ Item Undefined ∷ [])) ∷ (BindOf, (Some 2, Item (Number (pos 1)) ∷ [])) ∷ []; outcome = ReturnOf (Number (pos 1)) })
unfolding means meaning step either act at_variable read_slot read_any write_slot take_turn answered answered_binds heard this_of digits
super_target = refl

-- `delete super.k`, with the number 2: its parts are evaluated, and a ReferenceError is made
super_deleted : value_of (one (shape.UnaryExpression unary.Delete) (numbered 2 shape.SuperStaticMemberExpression none)) (gives Null ∷ throws (Number (pos 1)) ∷ []) ≡ Some (record { events = ((PlaceOf Anything), (Some 2, [])) ∷ (Raise ReferenceError, (None, [])) ∷ []; outcome = ThrowOf (Number (pos 1)) })
unfolding means meaning step either act at_variable read_slot read_any write_slot take_turn answered answered_binds heard this_of digits
super_deleted = refl

-- `delete o.#k`, which no program has, is outside the model
private_deleted : value_of (one (shape.UnaryExpression unary.Delete) (numbered 2 (shape.PrivateFieldExpression false) none)) (gives Null ∷ throws Null ∷ []) ≡ None
unfolding means meaning step either act at_variable read_slot read_any write_slot take_turn answered answered_binds heard this_of digits
private_deleted = refl

-- `o.#k += f()`, with the number 2: its parts, its value, the right side, the write
private_added : value_of ((assign assignment.Addition (numbered 2 (shape.PrivateFieldExpression false) none) (called (global (codes "f"))))) (gives (Object 7 false) ∷ gives (Number (pos 1)) ∷ gives (Number (pos 2)) ∷ gives Null ∷ []) ≡ Some (record { events = ((PlaceOf Anything), (Some 2, [])) ∷ ((NodeOf Anything), (Some 2, [])) ∷ (CallOf, (None, Item (Object 4 true) ∷ Item Undefined ∷ [])) ∷ (BindOf, (Some 2, Item (Number (pos 3)) ∷ [])) ∷ []; outcome = ReturnOf (Number (pos 3)) })
unfolding means meaning step either act at_variable read_slot read_any write_slot take_turn answered answered_binds heard this_of digits
private_added = refl

-- `` `${o}${f()}` ``: o is converted before f is called
template_order : value_of ((two shape.TemplateLiteral (listed (quasi ▸ quasi ▸ quasi ▸ none)) (listed ((global (codes "o")) ▸ (called (global (codes "f"))) ▸ none)))) (gives (String (codes "a")) ∷ gives (String (codes "b")) ∷ []) ≡ Some (record { events = ((Coerce ForString), (None, Item (Object 7 false) ∷ [])) ∷ (CallOf, (None, Item (Object 4 true) ∷ Item Undefined ∷ [])) ∷ []; outcome = ReturnOf (String (codes "ab")) })
unfolding means meaning step either act at_variable read_slot read_any write_slot take_turn answered answered_binds heard this_of digits
template_order = refl

-- `` `${f()}` `` of a symbol raises
template_symbol : value_of ((two shape.TemplateLiteral (listed (quasi ▸ quasi ▸ none)) (listed ((called (global (codes "f"))) ▸ none)))) (gives (Symbol 1) ∷ throws Null ∷ []) ≡ Some (record { events = (CallOf, (None, Item (Object 4 true) ∷ Item Undefined ∷ [])) ∷ (Raise TypeError, (None, [])) ∷ []; outcome = ThrowOf Null })
unfolding means meaning step either act at_variable read_slot read_any write_slot take_turn answered answered_binds heard this_of digits
template_symbol = refl

-- `{ [o]: f() }`: the key is converted before the value is evaluated
key_before_value : value_of ((one shape.ObjectExpression (listed (two (shape.ObjectProperty Init false false true) (global (codes "o")) (called (global (codes "f"))) ▸ none)))) (gives (String (codes "k")) ∷ gives Null ∷ gives (Object 7 false) ∷ []) ≡ Some (record { events = ((Coerce ForString), (None, Item (Object 7 false) ∷ [])) ∷ (CallOf, (None, Item (Object 4 true) ∷ Item Undefined ∷ [])) ∷ (ObjectOf, (None, Field (String (codes "k")) Null ∷ [])) ∷ []; outcome = ReturnOf (Object 7 false) })
unfolding means meaning step either act at_variable read_slot read_any write_slot take_turn answered answered_binds heard this_of digits
key_before_value = refl

-- `{ ["__proto__"]: null }` is a property like any other
computed_prototype : value_of ((one shape.ObjectExpression (listed (two (shape.ObjectProperty Init false false true) (text (codes "__proto__")) null ▸ none)))) (gives (Object 7 false) ∷ []) ≡ Some (record { events = (ObjectOf, (None, Field (String (codes "__proto__")) Null ∷ [])) ∷ []; outcome = ReturnOf (Object 7 false) })
unfolding means meaning step either act at_variable read_slot read_any write_slot take_turn answered answered_binds heard this_of digits
computed_prototype = refl

-- `[...o, f()]`: o is spread before f is called
spread_in_order : value_of ((one shape.ArrayExpression (listed (one shape.SpreadElement (global (codes "o")) ▸ (called (global (codes "f"))) ▸ none)))) (gives (Object 9 false) ∷ gives Null ∷ gives (Object 7 false) ∷ []) ≡ Some (record { events = (SpreadOf, (None, Item (Object 7 false) ∷ [])) ∷ (CallOf, (None, Item (Object 4 true) ∷ Item Undefined ∷ [])) ∷ (ArrayOf, (None, Spreaded (Object 9 false) ∷ Item Null ∷ [])) ∷ []; outcome = ReturnOf (Object 7 false) })
unfolding means meaning step either act at_variable read_slot read_any write_slot take_turn answered answered_binds heard this_of digits
spread_in_order = refl

-- `do { try { break; } finally { f(); } } while (g());`
break_through_finally : run_of Program (script ((two shape.DoWhileStatement (block ((three shape.TryStatement (block ((one shape.BreakStatement absent) ▸ none)) absent (block ((does (called (global (codes "f")))) ▸ none))) ▸ none)) (called (global (codes "g")))) ▸ none)) (gives Null ∷ []) ≡ Some (record { events = (CallOf, (None, Item (Object 4 true) ∷ Item Undefined ∷ [])) ∷ []; outcome = NormalEnd })
unfolding means meaning step either act at_variable read_slot read_any write_slot take_turn answered answered_binds heard this_of digits
break_through_finally = refl

-- `try { throw 1; } finally { return 2; }` forgets what was thrown
finally_forgets : run_of FunctionStatements (function_body ((three shape.TryStatement (block ((one shape.ThrowStatement (number 1)) ▸ none)) absent (block ((returns (number 2)) ▸ none))) ▸ none)) ([]) ≡ Some (record { events = []; outcome = ReturnOf (Number (pos 2)) })
unfolding means meaning step either act at_variable read_slot read_any write_slot take_turn answered answered_binds heard this_of digits
finally_forgets = refl

-- `try { f(); } catch { g(); } finally { h(); }`, where f and g throw
catch_then_finally : run_of Program (script ((three shape.TryStatement (block ((does (called (global (codes "f")))) ▸ none)) (two shape.CatchClause absent (block ((does (called (global (codes "g")))) ▸ none))) (block ((does (called (global (codes "h")))) ▸ none))) ▸ none)) (throws Null ∷ throws Undefined ∷ gives Null ∷ []) ≡ Some (record { events = (CallOf, (None, Item (Object 4 true) ∷ Item Undefined ∷ [])) ∷ (CallOf, (None, Item (Object 5 true) ∷ Item Undefined ∷ [])) ∷ (CallOf, (None, Item (Object 6 true) ∷ Item Undefined ∷ [])) ∷ []; outcome = ThrowOf Undefined })
unfolding means meaning step either act at_variable read_slot read_any write_slot take_turn answered answered_binds heard this_of digits
catch_then_finally = refl

-- `try { return f(); } finally { g(); }`: f is called first, and its value is returned
return_value_first : run_of FunctionStatements (function_body ((three shape.TryStatement (block ((returns (called (global (codes "f")))) ▸ none)) absent (block ((does (called (global (codes "g")))) ▸ none))) ▸ none)) (gives (Number (pos 1)) ∷ gives Null ∷ []) ≡ Some (record { events = (CallOf, (None, Item (Object 4 true) ∷ Item Undefined ∷ [])) ∷ (CallOf, (None, Item (Object 5 true) ∷ Item Undefined ∷ [])) ∷ []; outcome = ReturnOf (Number (pos 1)) })
unfolding means meaning step either act at_variable read_slot read_any write_slot take_turn answered answered_binds heard this_of digits
return_value_first = refl

-- `try { yield 1; } finally { f(); }`, returned from
generator_returns : run_of FunctionStatements (function_body ((three shape.TryStatement (block ((does (one (shape.YieldExpression false) (number 1))) ▸ none)) absent (block ((does (called (global (codes "f")))) ▸ none))) ▸ none)) (answer (Returning (Number (pos 5))) ∷ gives Null ∷ []) ≡ Some (record { events = ((YieldOf false), (None, Item (Number (pos 1)) ∷ [])) ∷ (CallOf, (None, Item (Object 4 true) ∷ Item Undefined ∷ [])) ∷ []; outcome = ReturnOf (Number (pos 5)) })
unfolding means meaning step either act at_variable read_slot read_any write_slot take_turn answered answered_binds heard this_of digits
generator_returns = refl

-- `do continue; while (f());`: the test is evaluated after `continue`
continue_tests : run_of Program (script ((two shape.DoWhileStatement (one shape.ContinueStatement absent) (called (global (codes "f")))) ▸ none)) (gives Null ∷ []) ≡ Some (record { events = (CallOf, (None, Item (Object 4 true) ∷ Item Undefined ∷ [])) ∷ []; outcome = NormalEnd })
unfolding means meaning step either act at_variable read_slot read_any write_slot take_turn answered answered_binds heard this_of digits
continue_tests = refl

-- `for (; f(); g()) continue;`: so is the update
continue_updates : run_of Program (script ((for_loop absent (called (global (codes "f"))) (called (global (codes "g"))) (one shape.ContinueStatement absent)) ▸ none)) (gives (Boolean true) ∷ gives Null ∷ gives Null ∷ []) ≡ Some (record { events = (CallOf, (None, Item (Object 4 true) ∷ Item Undefined ∷ [])) ∷ (CallOf, (None, Item (Object 5 true) ∷ Item Undefined ∷ [])) ∷ (CallOf, (None, Item (Object 4 true) ∷ Item Undefined ∷ [])) ∷ []; outcome = NormalEnd })
unfolding means meaning step either act at_variable read_slot read_any write_slot take_turn answered answered_binds heard this_of digits
continue_updates = refl

-- `switch (1) { case 0: let x; default: x; }`: x is not initialised
switch_uninitialised : run_of Program (script ((two shape.SwitchStatement (number 1) (listed (two shape.SwitchCase (number 0) (listed (declaration Let (bound 6) absent ▸ none)) ▸ two shape.SwitchCase absent (listed (does (local 6) ▸ none)) ▸ none))) ▸ none)) ([]) ≡ None
unfolding means meaning step either act at_variable read_slot read_any write_slot take_turn answered answered_binds heard this_of digits
switch_uninitialised = refl

-- `switch (1) { case 1: break; case f(): }` does not call f
switch_tests_stop : run_of Program (script ((two shape.SwitchStatement (number 1) (listed (two shape.SwitchCase (number 1) (listed ((one shape.BreakStatement absent) ▸ none)) ▸ two shape.SwitchCase (called (global (codes "f"))) (listed none) ▸ none))) ▸ none)) ([]) ≡ Some (record { events = []; outcome = NormalEnd })
unfolding means meaning step either act at_variable read_slot read_any write_slot take_turn answered answered_binds heard this_of digits
switch_tests_stop = refl

-- `switch (2) { default: f(); case 2: g(); }`: the tests after `default` come first
switch_tests_past_default : run_of Program (script ((two shape.SwitchStatement (number 2) (listed (two shape.SwitchCase absent (listed ((does (called (global (codes "f")))) ▸ none)) ▸ two shape.SwitchCase (number 2) (listed ((does (called (global (codes "g")))) ▸ none)) ▸ none))) ▸ none)) (gives Null ∷ []) ≡ Some (record { events = (CallOf, (None, Item (Object 5 true) ∷ Item Undefined ∷ [])) ∷ []; outcome = NormalEnd })
unfolding means meaning step either act at_variable read_slot read_any write_slot take_turn answered answered_binds heard this_of digits
switch_tests_past_default = refl

-- `do switch (1) { default: continue; } while (f());`: `continue` passes a switch
switch_continue : run_of Program (script ((two shape.DoWhileStatement (two shape.SwitchStatement (number 1) (listed (two shape.SwitchCase absent (listed ((one shape.ContinueStatement absent) ▸ none)) ▸ none))) (called (global (codes "f")))) ▸ none)) (gives Null ∷ []) ≡ Some (record { events = (CallOf, (None, Item (Object 4 true) ∷ Item Undefined ∷ [])) ∷ []; outcome = NormalEnd })
unfolding means meaning step either act at_variable read_slot read_any write_slot take_turn answered answered_binds heard this_of digits
switch_continue = refl

-- `x; class x {}`: a class is not there before its declaration
class_uninitialised : run_of Program (script ((does (local 6)) ▸ (class true 2 (bound 6) (bound 7)) ▸ none)) ([]) ≡ None
unfolding means meaning step either act at_variable read_slot read_any write_slot take_turn answered answered_binds heard this_of digits
class_uninitialised = refl

-- `{ x(); function x() {} }`, with the number 2: and a function is
function_in_block : run_of Program (script ((block ((does (called (local 6))) ▸ (function true 2 (bound 6)) ▸ none)) ▸ none)) (gives (Object 6 true) ∷ gives Null ∷ []) ≡ Some (record { events = (Create, (Some 2, [])) ∷ (CallOf, (None, Item (Object 6 true) ∷ Item Undefined ∷ [])) ∷ []; outcome = NormalEnd })
unfolding means meaning step either act at_variable read_slot read_any write_slot take_turn answered answered_binds heard this_of digits
function_in_block = refl

-- `for (o.k of o);` where the write throws closes the iterator
of_target_throws : run_of Program (script ((three shape.ForOfStatement (member (global (codes "o")) (codes "k")) (global (codes "o")) (leaf shape.EmptyStatement)) ▸ none)) (gives (Object 9 false) ∷ gives (Number (pos 1)) ∷ throws Null ∷ gives Null ∷ []) ≡ Some (record { events = (IteratorOf, (None, Item (Object 7 false) ∷ [])) ∷ (NextOf, (None, Item (Object 9 false) ∷ [])) ∷ (SetOf, (None, Item (Object 7 false) ∷ Item (String (codes "k")) ∷ Item (Number (pos 1)) ∷ [])) ∷ (CloseOf, (None, Item (Object 9 false) ∷ [])) ∷ []; outcome = ThrowOf Null })
unfolding means meaning step either act at_variable read_slot read_any write_slot take_turn answered answered_binds heard this_of digits
of_target_throws = refl

-- `for (x of o);` where the next step throws closes nothing
of_next_throws : run_of Program (script ((three shape.ForOfStatement (local 1) (global (codes "o")) (leaf shape.EmptyStatement)) ▸ none)) (gives (Object 9 false) ∷ throws Null ∷ []) ≡ Some (record { events = (IteratorOf, (None, Item (Object 7 false) ∷ [])) ∷ (NextOf, (None, Item (Object 9 false) ∷ [])) ∷ []; outcome = ThrowOf Null })
unfolding means meaning step either act at_variable read_slot read_any write_slot take_turn answered answered_binds heard this_of digits
of_next_throws = refl

-- `for (x of o) break;` where the close throws
of_close_throws : run_of Program (script ((three shape.ForOfStatement (local 1) (global (codes "o")) (one shape.BreakStatement absent)) ▸ none)) (gives (Object 9 false) ∷ gives Null ∷ throws Null ∷ []) ≡ Some (record { events = (IteratorOf, (None, Item (Object 7 false) ∷ [])) ∷ (NextOf, (None, Item (Object 9 false) ∷ [])) ∷ (CloseOf, (None, Item (Object 9 false) ∷ [])) ∷ []; outcome = ThrowOf Null })
unfolding means meaning step either act at_variable read_slot read_any write_slot take_turn answered answered_binds heard this_of digits
of_close_throws = refl

-- `l: do for (x of o) continue l; while (f());` closes the iterator
of_outer_continue : run_of Program (script ((two shape.LabeledStatement (label (codes "l")) (two shape.DoWhileStatement (three shape.ForOfStatement (local 1) (global (codes "o")) (one shape.ContinueStatement (label (codes "l")))) (called (global (codes "f"))))) ▸ none)) (gives (Object 9 false) ∷ gives Null ∷ gives Null ∷ gives Null ∷ []) ≡ Some (record { events = (IteratorOf, (None, Item (Object 7 false) ∷ [])) ∷ (NextOf, (None, Item (Object 9 false) ∷ [])) ∷ (CloseOf, (None, Item (Object 9 false) ∷ [])) ∷ (CallOf, (None, Item (Object 4 true) ∷ Item Undefined ∷ [])) ∷ []; outcome = NormalEnd })
unfolding means meaning step either act at_variable read_slot read_any write_slot take_turn answered answered_binds heard this_of digits
of_outer_continue = refl

-- `for (x in o) break;` closes nothing
in_breaks : run_of Program (script ((three shape.ForInStatement (local 1) (global (codes "o")) (one shape.BreakStatement absent)) ▸ none)) (gives (Object 9 false) ∷ gives Null ∷ []) ≡ Some (record { events = (KeysOf, (None, Item (Object 7 false) ∷ [])) ∷ (NextOf, (None, Item (Object 9 false) ∷ [])) ∷ []; outcome = NormalEnd })
unfolding means meaning step either act at_variable read_slot read_any write_slot take_turn answered answered_binds heard this_of digits
in_breaks = refl

-- `for (const x of x);`: x is not initialised in its own head
of_head_uninitialised : run_of Program (script ((three shape.ForOfStatement (declaration Const (bound 6) absent) (local 6) (leaf shape.EmptyStatement)) ▸ none)) ([]) ≡ None
unfolding means meaning step either act at_variable read_slot read_any write_slot take_turn answered answered_binds heard this_of digits
of_head_uninitialised = refl

-- `for (const x in o) f(x);`
for_in_const : run_of Program (script ((three shape.ForInStatement (declaration Const (bound 6) absent) (global (codes "o")) (does (call (global (codes "f")) (local 6 ▸ none)))) ▸ none)) (gives (Object 9 false) ∷ gives (String (codes "k")) ∷ gives Null ∷ answer Finished ∷ []) ≡ Some (record { events = (KeysOf, (None, Item (Object 7 false) ∷ [])) ∷ (NextOf, (None, Item (Object 9 false) ∷ [])) ∷ (CallOf, (None, Item (Object 4 true) ∷ Item Undefined ∷ Item (String (codes "k")) ∷ [])) ∷ (NextOf, (None, Item (Object 9 false) ∷ [])) ∷ []; outcome = NormalEnd })
unfolding means meaning step either act at_variable read_slot read_any write_slot take_turn answered answered_binds heard this_of digits
for_in_const = refl

-- `l: { try { break l; } finally { f(); } g(); }`: `finally` is run, and g is not called
labelled_break_runs_finalizer : run_of Program (script ((two shape.LabeledStatement (label (codes "l")) (block ((three shape.TryStatement (block ((one shape.BreakStatement (label (codes "l"))) ▸ none)) absent (block ((does (called (global (codes "f")))) ▸ none))) ▸ (does (called (global (codes "g")))) ▸ none))) ▸ none)) (gives Null ∷ []) ≡ Some (record { events = (CallOf, (None, Item (Object 4 true) ∷ Item Undefined ∷ [])) ∷ []; outcome = NormalEnd })
unfolding means meaning step either act at_variable read_slot read_any write_slot take_turn answered answered_binds heard this_of digits
labelled_break_runs_finalizer = refl

-- `c ||= f()` of a constant that is undefined: it raises after f is called
logical_constant : run_of Program (script ((declaration Const (bound 8) absent) ▸ (does (assign assignment.LogicalOr (local 8) (called (global (codes "f"))))) ▸ none)) (gives (Number (pos 1)) ∷ throws Null ∷ []) ≡ Some (record { events = (CallOf, (None, Item (Object 4 true) ∷ Item Undefined ∷ [])) ∷ (Raise TypeError, (None, [])) ∷ []; outcome = ThrowOf Null })
unfolding means meaning step either act at_variable read_slot read_any write_slot take_turn answered answered_binds heard this_of digits
logical_constant = refl

-- `x = 1; var x; f(x);` keeps x
var_keeps : run_of Program (script ((does (assign assignment.Assign (local 1) (number 1))) ▸ (declaration Var (bound 1) absent) ▸ (does (call (global (codes "f")) (local 1 ▸ none))) ▸ none)) (gives Null ∷ []) ≡ Some (record { events = (CallOf, (None, Item (Object 4 true) ∷ Item Undefined ∷ Item (Number (pos 1)) ∷ [])) ∷ []; outcome = NormalEnd })
unfolding means meaning step either act at_variable read_slot read_any write_slot take_turn answered answered_binds heard this_of digits
var_keeps = refl

-- the own name of a function expression in sloppy code, written by strict code in it: it raises
own_name_in_strict_code : fixed_in true (script (does (function false 1 (bound 6)) ▸ none)) (Declared 6) ≡ Refuses
own_name_in_strict_code = refl

-- and by sloppy code it keeps its value
own_name_in_sloppy_code : fixed_in false (script (does (function false 1 (bound 6)) ▸ none)) (Declared 6) ≡ Keeps
own_name_in_sloppy_code = refl
