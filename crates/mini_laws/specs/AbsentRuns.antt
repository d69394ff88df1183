-- Runs over an absent name, computed: z is an unresolved name that no scope has.
use Rattle.std.specs.Prelude.{◌≡◌, refl, Bool, true, false, List, [], ◌∷◌, Option, Some, None, codes, pos}
use Rattle.std.specs.Fmt.{digits}
use Rattle.mini_model.specs.declared.operator.AssignmentOperator.TheVariants as assignment
use Rattle.mini_model.specs.declared.operator.UnaryOperator.TheVariants as unary
use Rattle.mini_model.specs.declared.operator.UpdateOperator.TheVariants.{Increment}
use Rattle.mini_model.specs.declared.shape.Shape.TheVariants as shape
use Rattle.mini_model.specs.Tree.{Tree, Trees, none, ◌▸◌, leaf, absent, listed}
use Rattle.mini_laws.specs.Value.{Undefined, Null, Number, String, Object, Variable, Global, Slot, Holds, Missing}
use Rattle.mini_laws.specs.State.{CallOf, KeysOf, IteratorOf, NextOf, CloseOf, ReferenceError, Raise, Item, Answer, Finished, Writes, WritesPresent, either}
use Rattle.mini_laws.specs.Command.{act, at_variable, read_slot, read_any, write_slot, take_turn, answered, answered_binds, heard, this_of}
use Rattle.mini_laws.specs.Fixity.{fixed_in}
use Rattle.mini_laws.specs.Step.{step, means, meaning}
use Rattle.mini_laws.specs.Body.{Program, NormalEnd, ThrowOf, Ran, Run, environment_of}
use Rattle.mini_laws.specs.Samples.{shown, slots_of, one, two, three, global, number, assign, update, call, called, member, block, does, answer, gives, throws, start}

abbrev z : Tree
z = global (codes "z")

abbrev f : Tree
f = called (global (codes "f"))

abbrev for_each : Tree → Tree
for_each left = three shape.ForOfStatement left (global (codes "o")) (leaf shape.EmptyStatement)

-- a script, in strict code or in sloppy code
abbrev program : Bool → Trees → Tree
program true ts = one (shape.Program false (codes "use strict" ∷ [])) (listed ts)
program false ts = one (shape.Program false []) (listed ts)

-- run with all of its unresolved names shared
abbrev ran : Bool → Trees → List Answer → Option Ran
ran strict ts answers = Run (environment_of (program strict ts)) Program (program strict ts) start Undefined answers 3

abbrev final_of : Variable → Option Ran → Option Slot
final_of x None = None
final_of x (Some r) = Some (r.final x)

-- Reading

-- `z; f();`
read : shown (ran false (does z ▸ does f ▸ none) (throws Null ∷ [])) ≡ Some (record { events = (Raise ReferenceError, (None, [])) ∷ []; outcome = ThrowOf Null })
unfolding means meaning step either act at_variable read_slot read_any write_slot take_turn answered answered_binds heard this_of digits
read = refl

-- an answer that gives a value to the error is outside the model
read_answered : shown (ran false (does z ▸ none) (gives Null ∷ [])) ≡ None
unfolding means meaning step either act at_variable read_slot read_any write_slot take_turn answered answered_binds heard this_of digits
read_answered = refl

-- `z(f())`: the callee is read before f is called
callee : shown (ran false (does (call z (f ▸ none)) ▸ none) (throws Null ∷ [])) ≡ Some (record { events = (Raise ReferenceError, (None, [])) ∷ []; outcome = ThrowOf Null })
unfolding means meaning step either act at_variable read_slot read_any write_slot take_turn answered answered_binds heard this_of digits
callee = refl

-- `f(z)`: f is read, and not called
argument : shown (ran false (does (call (global (codes "f")) (z ▸ none)) ▸ none) (throws Null ∷ [])) ≡ Some (record { events = (Raise ReferenceError, (None, [])) ∷ []; outcome = ThrowOf Null })
unfolding means meaning step either act at_variable read_slot read_any write_slot take_turn answered answered_binds heard this_of digits
argument = refl

-- `z.k = f()`: the object is read before f is called
object : shown (ran false (does (assign assignment.Assign (member z (codes "k")) f) ▸ none) (throws Null ∷ [])) ≡ Some (record { events = (Raise ReferenceError, (None, [])) ∷ []; outcome = ThrowOf Null })
unfolding means meaning step either act at_variable read_slot read_any write_slot take_turn answered answered_binds heard this_of digits
object = refl

-- `f(typeof z);`
under_typeof : shown (ran true (does (call (global (codes "f")) (one (shape.UnaryExpression unary.Typeof) z ▸ none)) ▸ none) (gives Null ∷ [])) ≡ Some (record { events = (CallOf, (None, Item (Object 4 true) ∷ Item Undefined ∷ Item (String (codes "undefined")) ∷ [])) ∷ []; outcome = NormalEnd })
unfolding means meaning step either act at_variable read_slot read_any write_slot take_turn answered answered_binds heard this_of digits
under_typeof = refl

-- `try { z; } catch { f(); }`
caught : shown (ran false (three shape.TryStatement (block (does z ▸ none)) (two shape.CatchClause absent (block (does f ▸ none))) absent ▸ none) (throws Null ∷ gives Null ∷ [])) ≡ Some (record { events = (Raise ReferenceError, (None, [])) ∷ (CallOf, (None, Item (Object 4 true) ∷ Item Undefined ∷ [])) ∷ []; outcome = NormalEnd })
unfolding means meaning step either act at_variable read_slot read_any write_slot take_turn answered answered_binds heard this_of digits
caught = refl

-- Targets that are read before the right side

-- `z += f()`
compound : shown (ran false (does (assign assignment.Addition z f) ▸ none) (throws Null ∷ [])) ≡ Some (record { events = (Raise ReferenceError, (None, [])) ∷ []; outcome = ThrowOf Null })
unfolding means meaning step either act at_variable read_slot read_any write_slot take_turn answered answered_binds heard this_of digits
compound = refl

-- `z ||= f()`
logical : shown (ran false (does (assign assignment.LogicalOr z f) ▸ none) (throws Null ∷ [])) ≡ Some (record { events = (Raise ReferenceError, (None, [])) ∷ []; outcome = ThrowOf Null })
unfolding means meaning step either act at_variable read_slot read_any write_slot take_turn answered answered_binds heard this_of digits
logical = refl

-- `z++`
updated : shown (ran false (does (update Increment false z) ▸ none) (throws Null ∷ [])) ≡ Some (record { events = (Raise ReferenceError, (None, [])) ∷ []; outcome = ThrowOf Null })
unfolding means meaning step either act at_variable read_slot read_any write_slot take_turn answered answered_binds heard this_of digits
updated = refl

-- Writing

-- `z = f(); f(z);` in sloppy code adds z
added : shown (ran false (does (assign assignment.Assign z f) ▸ does (call (global (codes "f")) (z ▸ none)) ▸ none) (gives (Number (pos 1)) ∷ gives Null ∷ [])) ≡ Some (record { events = (CallOf, (None, Item (Object 4 true) ∷ Item Undefined ∷ [])) ∷ (CallOf, (None, Item (Object 4 true) ∷ Item Undefined ∷ Item (Number (pos 1)) ∷ [])) ∷ []; outcome = NormalEnd })
unfolding means meaning step either act at_variable read_slot read_any write_slot take_turn answered answered_binds heard this_of digits
added = refl

-- `z = f();` in strict code raises after f is called
refused : shown (ran true (does (assign assignment.Assign z f) ▸ none) (gives (Number (pos 1)) ∷ throws Null ∷ [])) ≡ Some (record { events = (CallOf, (None, Item (Object 4 true) ∷ Item Undefined ∷ [])) ∷ (Raise ReferenceError, (None, [])) ∷ []; outcome = ThrowOf Null })
unfolding means meaning step either act at_variable read_slot read_any write_slot take_turn answered answered_binds heard this_of digits
refused = refl

-- `a = f(); f(a);` in strict code writes a, which is there
present : shown (ran true (does (assign assignment.Assign (global (codes "a")) f) ▸ does (call (global (codes "f")) (global (codes "a") ▸ none)) ▸ none) (gives (Number (pos 1)) ∷ gives Null ∷ [])) ≡ Some (record { events = (CallOf, (None, Item (Object 4 true) ∷ Item Undefined ∷ [])) ∷ (CallOf, (None, Item (Object 4 true) ∷ Item Undefined ∷ Item (Number (pos 1)) ∷ [])) ∷ []; outcome = NormalEnd })
unfolding means meaning step either act at_variable read_slot read_any write_slot take_turn answered answered_binds heard this_of digits
present = refl

-- what a write of an unresolved name does, in sloppy and in strict code
fixed_sloppy : fixed_in false (program false (does z ▸ none)) (Global (codes "z")) ≡ Writes
fixed_sloppy = refl

fixed_strict : fixed_in true (program true (does z ▸ none)) (Global (codes "z")) ≡ WritesPresent
fixed_strict = refl

-- Heads of loops

-- `for (z in o); f(z);` in sloppy code
for_in_added : shown (ran false (three shape.ForInStatement z (global (codes "o")) (leaf shape.EmptyStatement) ▸ does (call (global (codes "f")) (z ▸ none)) ▸ none) (gives (Object 9 false) ∷ gives (String (codes "k")) ∷ answer Finished ∷ gives Null ∷ [])) ≡ Some (record { events = (KeysOf, (None, Item (Object 7 false) ∷ [])) ∷ (NextOf, (None, Item (Object 9 false) ∷ [])) ∷ (NextOf, (None, Item (Object 9 false) ∷ [])) ∷ (CallOf, (None, Item (Object 4 true) ∷ Item Undefined ∷ Item (String (codes "k")) ∷ [])) ∷ []; outcome = NormalEnd })
unfolding means meaning step either act at_variable read_slot read_any write_slot take_turn answered answered_binds heard this_of digits
for_in_added = refl

-- in strict code it raises at the first key
for_in_refused : shown (ran true (three shape.ForInStatement z (global (codes "o")) (leaf shape.EmptyStatement) ▸ none) (gives (Object 9 false) ∷ gives (String (codes "k")) ∷ throws Null ∷ [])) ≡ Some (record { events = (KeysOf, (None, Item (Object 7 false) ∷ [])) ∷ (NextOf, (None, Item (Object 9 false) ∷ [])) ∷ (Raise ReferenceError, (None, [])) ∷ []; outcome = ThrowOf Null })
unfolding means meaning step either act at_variable read_slot read_any write_slot take_turn answered answered_binds heard this_of digits
for_in_refused = refl

-- `for (z of o);` in sloppy code
for_of_added : final_of (Global (codes "z")) (ran false (for_each z ▸ none) (gives (Object 9 false) ∷ gives (Number (pos 1)) ∷ answer Finished ∷ [])) ≡ Some (Holds (Number (pos 1)))
unfolding means meaning step either act at_variable read_slot read_any write_slot take_turn answered answered_binds heard this_of digits
for_of_added = refl

-- in strict code it raises at the first value, and the iterator is closed
for_of_refused : shown (ran true (for_each z ▸ none) (gives (Object 9 false) ∷ gives (Number (pos 1)) ∷ throws Null ∷ gives Null ∷ [])) ≡ Some (record { events = (IteratorOf, (None, Item (Object 7 false) ∷ [])) ∷ (NextOf, (None, Item (Object 9 false) ∷ [])) ∷ (Raise ReferenceError, (None, [])) ∷ (CloseOf, (None, Item (Object 9 false) ∷ [])) ∷ []; outcome = ThrowOf Null })
unfolding means meaning step either act at_variable read_slot read_any write_slot take_turn answered answered_binds heard this_of digits
for_of_refused = refl

-- What is shown

-- `f(); z;`: z is absent where f is called, where the error is made, and at the end
shown_absent : slots_of (Global (codes "z")) (ran false (does f ▸ does z ▸ none) (gives Null ∷ throws Null ∷ [])) ≡ Missing ∷ Missing ∷ []
unfolding means meaning step either act at_variable read_slot read_any write_slot take_turn answered answered_binds heard this_of digits
shown_absent = refl

final_absent : final_of (Global (codes "z")) (ran false (does f ▸ does z ▸ none) (gives Null ∷ throws Null ∷ [])) ≡ Some Missing
unfolding means meaning step either act at_variable read_slot read_any write_slot take_turn answered answered_binds heard this_of digits
final_absent = refl

-- `f(); z = 1; f();`: z is absent where f is called first, and has its value at the second call
shown_added : slots_of (Global (codes "z")) (ran false (does f ▸ does (assign assignment.Assign z (number 1)) ▸ does f ▸ none) (gives Null ∷ gives Null ∷ [])) ≡ Missing ∷ Holds (Number (pos 1)) ∷ []
unfolding means meaning step either act at_variable read_slot read_any write_slot take_turn answered answered_binds heard this_of digits
shown_added = refl

-- no answer adds a name: `f(); z;`, where the call of f would give every name the value 1
not_added : shown (ran false (does f ▸ does z ▸ none) (record (gives Null) { news = λ x. Some (Number (pos 1)) } ∷ throws Null ∷ [])) ≡ Some (record { events = (CallOf, (None, Item (Object 4 true) ∷ Item Undefined ∷ [])) ∷ (Raise ReferenceError, (None, [])) ∷ []; outcome = ThrowOf Null })
unfolding means meaning step either act at_variable read_slot read_any write_slot take_turn answered answered_binds heard this_of digits
not_added = refl
