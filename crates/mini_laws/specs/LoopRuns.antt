-- Runs of loops, computed.
use Rattle.std.specs.Prelude.{◌≡◌, refl, true, false, [], ◌∷◌, Some, None, codes, pos}
use Rattle.std.specs.Fmt.{digits}
use Rattle.mini_model.specs.declared.kind.VariableDeclarationKind.TheVariants.{Var, Let, Const}
use Rattle.mini_model.specs.declared.operator.BinaryOperator.TheVariants as binary
use Rattle.mini_model.specs.declared.operator.UpdateOperator.TheVariants.{Increment}
use Rattle.mini_model.specs.declared.shape.Shape.TheVariants as shape
use Rattle.mini_model.specs.Tree.{none, ◌▸◌, leaf, absent}
use Rattle.mini_laws.specs.Value.{Undefined, Null, Boolean, Number, String, Object, Declared, Holds, Uninitialised}
use Rattle.mini_laws.specs.State.{SetOf, CallOf, IteratorOf, KeysOf, NextOf, CloseOf, FreshOf, Item, Finished, either}
use Rattle.mini_laws.specs.Command.{act, at_variable, read_slot, read_any, write_slot, take_turn, answered, answered_binds, heard, this_of}
use Rattle.mini_laws.specs.Step.{step, means, meaning}
use Rattle.mini_laws.specs.Body.{Program, NormalEnd, ThrowOf, NoTurnsEnd}
use Rattle.mini_laws.specs.Samples.{one, two, three, global, local, bound, label, number, boolean, null, binary, update, call, called, member, block, script, does, declaration, for_loop, answer, gives, throws, run_of, slots_in}

-- `while (f()) g();`
while_loop : run_of Program (script ((two shape.WhileStatement (called (global (codes "f"))) (does (called (global (codes "g"))))) ▸ none)) (gives (Boolean true) ∷ gives Null ∷ gives (Boolean false) ∷ []) ≡ Some (record { events = (CallOf, (None, Item (Object 4 true) ∷ Item Undefined ∷ [])) ∷ (CallOf, (None, Item (Object 5 true) ∷ Item Undefined ∷ [])) ∷ (CallOf, (None, Item (Object 4 true) ∷ Item Undefined ∷ [])) ∷ []; outcome = NormalEnd })
unfolding means meaning step either act at_variable read_slot read_any write_slot take_turn answered answered_binds heard this_of digits
while_loop = refl

-- `while (true) f();` with three turns
while_forever : run_of Program (script ((two shape.WhileStatement (boolean true) (does (called (global (codes "f"))))) ▸ none)) (gives Null ∷ gives Null ∷ gives Null ∷ gives Null ∷ []) ≡ Some (record { events = (CallOf, (None, Item (Object 4 true) ∷ Item Undefined ∷ [])) ∷ (CallOf, (None, Item (Object 4 true) ∷ Item Undefined ∷ [])) ∷ (CallOf, (None, Item (Object 4 true) ∷ Item Undefined ∷ [])) ∷ []; outcome = NoTurnsEnd })
unfolding means meaning step either act at_variable read_slot read_any write_slot take_turn answered answered_binds heard this_of digits
while_forever = refl

-- `while (true) { f(); break; }`
while_breaks : run_of Program (script ((two shape.WhileStatement (boolean true) (block ((does (called (global (codes "f")))) ▸ (one shape.BreakStatement absent) ▸ none))) ▸ none)) (gives Null ∷ []) ≡ Some (record { events = (CallOf, (None, Item (Object 4 true) ∷ Item Undefined ∷ [])) ∷ []; outcome = NormalEnd })
unfolding means meaning step either act at_variable read_slot read_any write_slot take_turn answered answered_binds heard this_of digits
while_breaks = refl

-- `l: while (f()) { while (true) { continue l; } }`
labelled_continue : run_of Program (script ((two shape.LabeledStatement (label (codes "l")) (two shape.WhileStatement (called (global (codes "f"))) (block ((two shape.WhileStatement (boolean true) (one shape.ContinueStatement (label (codes "l")))) ▸ none)))) ▸ none)) (gives (Boolean true) ∷ gives (Boolean false) ∷ []) ≡ Some (record { events = (CallOf, (None, Item (Object 4 true) ∷ Item Undefined ∷ [])) ∷ (CallOf, (None, Item (Object 4 true) ∷ Item Undefined ∷ [])) ∷ []; outcome = NormalEnd })
unfolding means meaning step either act at_variable read_slot read_any write_slot take_turn answered answered_binds heard this_of digits
labelled_continue = refl

-- `do f(); while (g());`
do_loop : run_of Program (script ((two shape.DoWhileStatement (does (called (global (codes "f")))) (called (global (codes "g")))) ▸ none)) (gives Null ∷ gives (Boolean false) ∷ []) ≡ Some (record { events = (CallOf, (None, Item (Object 4 true) ∷ Item Undefined ∷ [])) ∷ (CallOf, (None, Item (Object 5 true) ∷ Item Undefined ∷ [])) ∷ []; outcome = NormalEnd })
unfolding means meaning step either act at_variable read_slot read_any write_slot take_turn answered answered_binds heard this_of digits
do_loop = refl

-- `for (let x = 0; x < 2; x++) f(x);`
for_let : run_of Program (script ((for_loop (declaration Let (bound 6) (number 0)) (binary binary.LessThan (local 6) (number 2)) (update Increment false (local 6)) (does (call (global (codes "f")) ((local 6) ▸ none)))) ▸ none)) (gives Null ∷ gives Null ∷ []) ≡ Some (record { events = (CallOf, (None, Item (Object 4 true) ∷ Item Undefined ∷ Item (Number (pos 0)) ∷ [])) ∷ (CallOf, (None, Item (Object 4 true) ∷ Item Undefined ∷ Item (Number (pos 1)) ∷ [])) ∷ []; outcome = NormalEnd })
unfolding means meaning step either act at_variable read_slot read_any write_slot take_turn answered answered_binds heard this_of digits
for_let = refl

-- the same with a shared x: Fresh where it is initialised, after that, and after each turn
for_copies : run_of Program (script ((for_loop (declaration Let (bound 7) (number 0)) (binary binary.LessThan (local 7) (number 1)) (update Increment false (local 7)) (leaf shape.EmptyStatement)) ▸ none)) ([]) ≡ Some (record { events = (FreshOf, (None, [])) ∷ (FreshOf, (None, [])) ∷ (FreshOf, (None, [])) ∷ []; outcome = NormalEnd })
unfolding means meaning step either act at_variable read_slot read_any write_slot take_turn answered answered_binds heard this_of digits
for_copies = refl

-- `for (var x = 0; x < 1; x++); f(x);`
for_var : run_of Program (script ((for_loop (declaration Var (bound 1) (number 0)) (binary binary.LessThan (local 1) (number 1)) (update Increment false (local 1)) (leaf shape.EmptyStatement)) ▸ (does (call (global (codes "f")) ((local 1) ▸ none))) ▸ none)) (gives Null ∷ []) ≡ Some (record { events = (CallOf, (None, Item (Object 4 true) ∷ Item Undefined ∷ Item (Number (pos 1)) ∷ [])) ∷ []; outcome = NormalEnd })
unfolding means meaning step either act at_variable read_slot read_any write_slot take_turn answered answered_binds heard this_of digits
for_var = refl

-- `for (;;) { f(); break; }`
for_without_test : run_of Program (script ((for_loop absent absent absent (block ((does (called (global (codes "f")))) ▸ (one shape.BreakStatement absent) ▸ none))) ▸ none)) (gives Null ∷ []) ≡ Some (record { events = (CallOf, (None, Item (Object 4 true) ∷ Item Undefined ∷ [])) ∷ []; outcome = NormalEnd })
unfolding means meaning step either act at_variable read_slot read_any write_slot take_turn answered answered_binds heard this_of digits
for_without_test = refl

-- `for (x in o) f(x);`
for_in : run_of Program (script ((three shape.ForInStatement (local 1) (global (codes "o")) (does (call (global (codes "f")) ((local 1) ▸ none)))) ▸ none)) (gives (Object 9 false) ∷ gives (String (codes "k")) ∷ gives Null ∷ answer Finished ∷ []) ≡ Some (record { events = (KeysOf, (None, Item (Object 7 false) ∷ [])) ∷ (NextOf, (None, Item (Object 9 false) ∷ [])) ∷ (CallOf, (None, Item (Object 4 true) ∷ Item Undefined ∷ Item (String (codes "k")) ∷ [])) ∷ (NextOf, (None, Item (Object 9 false) ∷ [])) ∷ []; outcome = NormalEnd })
unfolding means meaning step either act at_variable read_slot read_any write_slot take_turn answered answered_binds heard this_of digits
for_in = refl

-- `for (x in null) f();`
for_in_null : run_of Program (script ((three shape.ForInStatement (local 1) null (does (called (global (codes "f"))))) ▸ none)) ([]) ≡ Some (record { events = []; outcome = NormalEnd })
unfolding means meaning step either act at_variable read_slot read_any write_slot take_turn answered answered_binds heard this_of digits
for_in_null = refl

-- `for (var x = f() in o) g(x);` calls f before the keys of o are asked for
for_in_initialised : run_of Program (script ((three shape.ForInStatement (declaration Var (bound 1) (called (global (codes "f")))) (global (codes "o")) (does (call (global (codes "g")) ((local 1) ▸ none)))) ▸ none)) (gives (Number (pos 1)) ∷ gives (Object 9 false) ∷ gives (String (codes "k")) ∷ gives Null ∷ answer Finished ∷ []) ≡ Some (record { events = (CallOf, (None, Item (Object 4 true) ∷ Item Undefined ∷ [])) ∷ (KeysOf, (None, Item (Object 7 false) ∷ [])) ∷ (NextOf, (None, Item (Object 9 false) ∷ [])) ∷ (CallOf, (None, Item (Object 5 true) ∷ Item Undefined ∷ Item (String (codes "k")) ∷ [])) ∷ (NextOf, (None, Item (Object 9 false) ∷ [])) ∷ []; outcome = NormalEnd })
unfolding means meaning step either act at_variable read_slot read_any write_slot take_turn answered answered_binds heard this_of digits
for_in_initialised = refl

-- `for (var x = f() in null); g(x);` calls f, and x has what it gave
for_in_null_initialised : run_of Program (script ((three shape.ForInStatement (declaration Var (bound 1) (called (global (codes "f")))) null (leaf shape.EmptyStatement)) ▸ (does (call (global (codes "g")) ((local 1) ▸ none))) ▸ none)) (gives (Number (pos 1)) ∷ gives Null ∷ []) ≡ Some (record { events = (CallOf, (None, Item (Object 4 true) ∷ Item Undefined ∷ [])) ∷ (CallOf, (None, Item (Object 5 true) ∷ Item Undefined ∷ Item (Number (pos 1)) ∷ [])) ∷ []; outcome = NormalEnd })
unfolding means meaning step either act at_variable read_slot read_any write_slot take_turn answered answered_binds heard this_of digits
for_in_null_initialised = refl

-- `for (var x in o) f(x);`
for_in_var : run_of Program (script ((three shape.ForInStatement (declaration Var (bound 1) absent) (global (codes "o")) (does (call (global (codes "f")) ((local 1) ▸ none)))) ▸ none)) (gives (Object 9 false) ∷ gives (String (codes "k")) ∷ gives Null ∷ answer Finished ∷ []) ≡ Some (record { events = (KeysOf, (None, Item (Object 7 false) ∷ [])) ∷ (NextOf, (None, Item (Object 9 false) ∷ [])) ∷ (CallOf, (None, Item (Object 4 true) ∷ Item Undefined ∷ Item (String (codes "k")) ∷ [])) ∷ (NextOf, (None, Item (Object 9 false) ∷ [])) ∷ []; outcome = NormalEnd })
unfolding means meaning step either act at_variable read_slot read_any write_slot take_turn answered answered_binds heard this_of digits
for_in_var = refl

-- `for (const x of o) f(x);`
for_of_const : run_of Program (script ((three shape.ForOfStatement (declaration Const (bound 6) absent) (global (codes "o")) (does (call (global (codes "f")) ((local 6) ▸ none)))) ▸ none)) (gives (Object 9 false) ∷ gives (Number (pos 1)) ∷ gives Null ∷ answer Finished ∷ []) ≡ Some (record { events = (IteratorOf, (None, Item (Object 7 false) ∷ [])) ∷ (NextOf, (None, Item (Object 9 false) ∷ [])) ∷ (CallOf, (None, Item (Object 4 true) ∷ Item Undefined ∷ Item (Number (pos 1)) ∷ [])) ∷ (NextOf, (None, Item (Object 9 false) ∷ [])) ∷ []; outcome = NormalEnd })
unfolding means meaning step either act at_variable read_slot read_any write_slot take_turn answered answered_binds heard this_of digits
for_of_const = refl

-- `for (const x of o);` with a shared x, which is not initialised where the iterator is asked:
-- Iter, Next, Fresh, Next
for_of_names : slots_in (Declared 7) (script (three shape.ForOfStatement (declaration Const (bound 7) absent) (global (codes "o")) (leaf shape.EmptyStatement) ▸ none)) (gives (Object 9 false) ∷ gives (Number (pos 1)) ∷ answer Finished ∷ []) ≡ Uninitialised ∷ Uninitialised ∷ Uninitialised ∷ Uninitialised ∷ []
unfolding means meaning step either act at_variable write_slot take_turn answered heard read_slot
for_of_names = refl

-- and in a `for` with a `let` it keeps its value from turn to turn: Fresh before it has one, and at
-- two copies
for_let_names : slots_in (Declared 7) (script (for_loop (declaration Let (bound 7) (number 0)) (binary binary.LessThan (local 7) (number 1)) (update Increment false (local 7)) (leaf shape.EmptyStatement) ▸ none)) [] ≡ Uninitialised ∷ Holds (Number (pos 0)) ∷ Holds (Number (pos 0)) ∷ []
unfolding means meaning step either act at_variable write_slot take_turn answered heard read_slot
for_let_names = refl

-- `for (x of o) break;` closes the iterator
for_of_closes : run_of Program (script ((three shape.ForOfStatement (local 1) (global (codes "o")) (one shape.BreakStatement absent)) ▸ none)) (gives (Object 9 false) ∷ gives (Number (pos 1)) ∷ gives Null ∷ []) ≡ Some (record { events = (IteratorOf, (None, Item (Object 7 false) ∷ [])) ∷ (NextOf, (None, Item (Object 9 false) ∷ [])) ∷ (CloseOf, (None, Item (Object 9 false) ∷ [])) ∷ []; outcome = NormalEnd })
unfolding means meaning step either act at_variable read_slot read_any write_slot take_turn answered answered_binds heard this_of digits
for_of_closes = refl

-- `for (x of o) throw 1;`: what the close throws is not looked at
for_of_throws : run_of Program (script ((three shape.ForOfStatement (local 1) (global (codes "o")) (one shape.ThrowStatement (number 1))) ▸ none)) (gives (Object 9 false) ∷ gives (Number (pos 1)) ∷ throws Null ∷ []) ≡ Some (record { events = (IteratorOf, (None, Item (Object 7 false) ∷ [])) ∷ (NextOf, (None, Item (Object 9 false) ∷ [])) ∷ (CloseOf, (None, Item (Object 9 false) ∷ [])) ∷ []; outcome = ThrowOf (Number (pos 1)) })
unfolding means meaning step either act at_variable read_slot read_any write_slot take_turn answered answered_binds heard this_of digits
for_of_throws = refl

-- `for (o.k of o);`
for_of_member : run_of Program (script ((three shape.ForOfStatement (member (global (codes "o")) (codes "k")) (global (codes "o")) (leaf shape.EmptyStatement)) ▸ none)) (gives (Object 9 false) ∷ gives (Number (pos 1)) ∷ gives Null ∷ answer Finished ∷ []) ≡ Some (record { events = (IteratorOf, (None, Item (Object 7 false) ∷ [])) ∷ (NextOf, (None, Item (Object 9 false) ∷ [])) ∷ (SetOf, (None, Item (Object 7 false) ∷ Item (String (codes "k")) ∷ Item (Number (pos 1)) ∷ [])) ∷ (NextOf, (None, Item (Object 9 false) ∷ [])) ∷ []; outcome = NormalEnd })
unfolding means meaning step either act at_variable read_slot read_any write_slot take_turn answered answered_binds heard this_of digits
for_of_member = refl
