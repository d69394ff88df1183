-- Runs of assignments and updates, computed.
use Rattle.std.specs.Prelude.{◌≡◌, refl, true, false, [], ◌∷◌, Some, None, codes, pos}
use Rattle.std.specs.Fmt.{digits}
use Rattle.mini_model.specs.declared.operator.AssignmentOperator.TheVariants as assignment
use Rattle.mini_model.specs.declared.operator.UpdateOperator.TheVariants.{Increment, Decrement}
use Rattle.mini_model.specs.declared.shape.Shape.TheVariants as shape
use Rattle.mini_model.specs.Tree.{none, ◌▸◌, listed}
use Rattle.mini_laws.specs.Value.{Undefined, Null, Number, String, Object}
use Rattle.mini_laws.specs.State.{Anything, GetOf, SetOf, CallOf, PlaceOf, BindOf, TypeError, Raise, Item, either}
use Rattle.mini_laws.specs.Command.{act, at_variable, read_slot, read_any, write_slot, take_turn, answered, answered_binds, heard, this_of}
use Rattle.mini_laws.specs.Step.{step, means, meaning}
use Rattle.mini_laws.specs.Body.{ReturnOf, ThrowOf}
use Rattle.mini_laws.specs.Samples.{numbered, global, local, number, assign, update, called, member, sequence, gives, throws, value_of}

-- `x = 1, x`
assigned : value_of (sequence ((assign assignment.Assign (local 1) (number 1)) ▸ (local 1) ▸ none)) ([]) ≡ Some (record { events = []; outcome = ReturnOf (Number (pos 1)) })
unfolding means meaning step either act at_variable read_slot read_any write_slot take_turn answered answered_binds heard this_of digits
assigned = refl

-- `x = 1, x += 2, x`
added : value_of (sequence ((assign assignment.Assign (local 1) (number 1)) ▸ (assign assignment.Addition (local 1) (number 2)) ▸ (local 1) ▸ none)) ([]) ≡ Some (record { events = []; outcome = ReturnOf (Number (pos 3)) })
unfolding means meaning step either act at_variable read_slot read_any write_slot take_turn answered answered_binds heard this_of digits
added = refl

-- `x ||= 1`
or_assigned : value_of (assign assignment.LogicalOr (local 1) (number 1)) ([]) ≡ Some (record { events = []; outcome = ReturnOf (Number (pos 1)) })
unfolding means meaning step either act at_variable read_slot read_any write_slot take_turn answered answered_binds heard this_of digits
or_assigned = refl

-- `x &&= f()` calls nothing
and_assigned : value_of (assign assignment.LogicalAnd (local 1) (called (global (codes "f")))) ([]) ≡ Some (record { events = []; outcome = ReturnOf Undefined })
unfolding means meaning step either act at_variable read_slot read_any write_slot take_turn answered answered_binds heard this_of digits
and_assigned = refl

-- `x ??= 1, x`
nullish_assigned : value_of (sequence ((assign assignment.LogicalNullish (local 1) (number 1)) ▸ (local 1) ▸ none)) ([]) ≡ Some (record { events = []; outcome = ReturnOf (Number (pos 1)) })
unfolding means meaning step either act at_variable read_slot read_any write_slot take_turn answered answered_binds heard this_of digits
nullish_assigned = refl

-- `o.k = f()`: o is read before f is called
member_assigned : value_of (assign assignment.Assign (member (global (codes "o")) (codes "k")) (called (global (codes "f")))) (gives (Number (pos 1)) ∷ gives Null ∷ []) ≡ Some (record { events = (CallOf, (None, Item (Object 4 true) ∷ Item Undefined ∷ [])) ∷ (SetOf, (None, Item (Object 7 false) ∷ Item (String (codes "k")) ∷ Item (Number (pos 1)) ∷ [])) ∷ []; outcome = ReturnOf (Number (pos 1)) })
unfolding means meaning step either act at_variable read_slot read_any write_slot take_turn answered answered_binds heard this_of digits
member_assigned = refl

-- `o.k += 1`
member_added : value_of (assign assignment.Addition (member (global (codes "o")) (codes "k")) (number 1)) (gives (Number (pos 1)) ∷ gives Null ∷ []) ≡ Some (record { events = (GetOf, (None, Item (Object 7 false) ∷ Item (String (codes "k")) ∷ [])) ∷ (SetOf, (None, Item (Object 7 false) ∷ Item (String (codes "k")) ∷ Item (Number (pos 2)) ∷ [])) ∷ []; outcome = ReturnOf (Number (pos 2)) })
unfolding means meaning step either act at_variable read_slot read_any write_slot take_turn answered answered_binds heard this_of digits
member_added = refl

-- `o.k += f()` reads o.k before it calls f
member_read_first : value_of (assign assignment.Addition (member (global (codes "o")) (codes "k")) (called (global (codes "f")))) (gives (Number (pos 1)) ∷ gives (Number (pos 2)) ∷ gives Null ∷ []) ≡ Some (record { events = (GetOf, (None, Item (Object 7 false) ∷ Item (String (codes "k")) ∷ [])) ∷ (CallOf, (None, Item (Object 4 true) ∷ Item Undefined ∷ [])) ∷ (SetOf, (None, Item (Object 7 false) ∷ Item (String (codes "k")) ∷ Item (Number (pos 3)) ∷ [])) ∷ []; outcome = ReturnOf (Number (pos 3)) })
unfolding means meaning step either act at_variable read_slot read_any write_slot take_turn answered answered_binds heard this_of digits
member_read_first = refl

-- a constant is written to, after the right side
constant_assigned : value_of (assign assignment.Assign (local 8) (called (global (codes "f")))) (gives Null ∷ throws Null ∷ []) ≡ Some (record { events = (CallOf, (None, Item (Object 4 true) ∷ Item Undefined ∷ [])) ∷ (Raise TypeError, (None, [])) ∷ []; outcome = ThrowOf Null })
unfolding means meaning step either act at_variable read_slot read_any write_slot take_turn answered answered_binds heard this_of digits
constant_assigned = refl

-- a function's own name keeps its value
own_name_assigned : value_of (assign assignment.Assign (local 9) (number 1)) ([]) ≡ Some (record { events = []; outcome = ReturnOf (Number (pos 1)) })
unfolding means meaning step either act at_variable read_slot read_any write_slot take_turn answered answered_binds heard this_of digits
own_name_assigned = refl

-- `[x] = f()`, a pattern with the number 2
pattern_assigned : value_of (assign assignment.Assign (numbered 2 shape.ArrayAssignmentTarget (listed none ▸ none)) (called (global (codes "f")))) (gives (Object 7 false) ∷ gives Null ∷ []) ≡ Some (record { events = (CallOf, (None, Item (Object 4 true) ∷ Item Undefined ∷ [])) ∷ (BindOf, (Some 2, Item (Object 7 false) ∷ [])) ∷ []; outcome = ReturnOf (Object 7 false) })
unfolding means meaning step either act at_variable read_slot read_any write_slot take_turn answered answered_binds heard this_of digits
pattern_assigned = refl

-- `o.#k = 1`, with the number 2
private_assigned : value_of (assign assignment.Assign (numbered 2 (shape.PrivateFieldExpression false) none) (number 1)) (gives (Object 7 false) ∷ gives Null ∷ []) ≡ Some (record { events = ((PlaceOf Anything), (Some 2, [])) ∷ (BindOf, (Some 2, Item (Number (pos 1)) ∷ [])) ∷ []; outcome = ReturnOf (Number (pos 1)) })
unfolding means meaning step either act at_variable read_slot read_any write_slot take_turn answered answered_binds heard this_of digits
private_assigned = refl

-- `x = 1, x++`
incremented : value_of (sequence ((assign assignment.Assign (local 1) (number 1)) ▸ (update Increment false (local 1)) ▸ none)) ([]) ≡ Some (record { events = []; outcome = ReturnOf (Number (pos 1)) })
unfolding means meaning step either act at_variable read_slot read_any write_slot take_turn answered answered_binds heard this_of digits
incremented = refl

-- `x = 1, --x`
decremented : value_of (sequence ((assign assignment.Assign (local 1) (number 1)) ▸ (update Decrement true (local 1)) ▸ none)) ([]) ≡ Some (record { events = []; outcome = ReturnOf (Number (pos 0)) })
unfolding means meaning step either act at_variable read_slot read_any write_slot take_turn answered answered_binds heard this_of digits
decremented = refl

-- `z = 1`, where z is missing, adds z
missing_assigned : value_of (assign assignment.Assign (global (codes "z")) (number 1)) ([]) ≡ Some (record { events = []; outcome = ReturnOf (Number (pos 1)) })
unfolding means meaning step either act at_variable read_slot read_any write_slot take_turn answered answered_binds heard this_of digits
missing_assigned = refl

-- `({ x } = o)`, a pattern with the number 2
object_target : value_of (assign assignment.Assign (numbered 2 shape.ObjectAssignmentTarget (listed none ▸ none)) (global (codes "o"))) (gives Null ∷ []) ≡ Some (record { events = (BindOf, (Some 2, Item (Object 7 false) ∷ [])) ∷ []; outcome = ReturnOf (Object 7 false) })
unfolding means meaning step either act at_variable read_slot read_any write_slot take_turn answered answered_binds heard this_of digits
object_target = refl
