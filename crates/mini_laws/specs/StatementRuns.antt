-- Runs of each kind of statement other than loops, computed.
use Rattle.std.specs.Prelude.{◌≡◌, refl, true, [], ◌∷◌, Some, None, codes, pos}
use Rattle.std.specs.Fmt.{digits}
use Rattle.mini_model.specs.declared.kind.VariableDeclarationKind.TheVariants.{Let}
use Rattle.mini_model.specs.declared.shape.Shape.TheVariants as shape
use Rattle.mini_model.specs.Tree.{none, ◌▸◌, leaf, absent, listed}
use Rattle.mini_laws.specs.Value.{Undefined, Null, Number, Object}
use Rattle.mini_laws.specs.State.{CallOf, Create, DebuggerOf, Item, either}
use Rattle.mini_laws.specs.Command.{act, at_variable, read_slot, read_any, write_slot, take_turn, answered, answered_binds, heard, this_of}
use Rattle.mini_laws.specs.Step.{step, means, meaning}
use Rattle.mini_laws.specs.Body.{Program, FunctionStatements, NormalEnd, ReturnOf, ThrowOf}
use Rattle.mini_laws.specs.Samples.{one, two, three, global, local, bound, label, number, call, called, function, block, script, function_body, does, declaration, returns, gives, run_of}

-- `return 1;`
returned : run_of FunctionStatements (function_body ((returns (number 1)) ▸ (does (called (global (codes "f")))) ▸ none)) ([]) ≡ Some (record { events = []; outcome = ReturnOf (Number (pos 1)) })
unfolding means meaning step either act at_variable read_slot read_any write_slot take_turn answered answered_binds heard this_of digits
returned = refl

-- `return;`
returned_nothing : run_of FunctionStatements (function_body ((returns absent) ▸ none)) ([]) ≡ Some (record { events = []; outcome = ReturnOf Undefined })
unfolding means meaning step either act at_variable read_slot read_any write_slot take_turn answered answered_binds heard this_of digits
returned_nothing = refl

-- `throw 1;`
thrown : run_of Program (script ((one shape.ThrowStatement (number 1)) ▸ (does (called (global (codes "f")))) ▸ none)) ([]) ≡ Some (record { events = []; outcome = ThrowOf (Number (pos 1)) })
unfolding means meaning step either act at_variable read_slot read_any write_slot take_turn answered answered_binds heard this_of digits
thrown = refl

-- `if (f) f(); else g();`
if_taken : run_of Program (script ((three shape.IfStatement (global (codes "f")) (does (called (global (codes "f")))) (does (called (global (codes "g"))))) ▸ none)) (gives Null ∷ []) ≡ Some (record { events = (CallOf, (None, Item (Object 4 true) ∷ Item Undefined ∷ [])) ∷ []; outcome = NormalEnd })
unfolding means meaning step either act at_variable read_slot read_any write_slot take_turn answered answered_binds heard this_of digits
if_taken = refl

-- `switch (2) { case 1: f(); case 2: g(); default: h(); }`
switch_falls_through : run_of Program (script ((two shape.SwitchStatement (number 2) (listed (two shape.SwitchCase (number 1) (listed ((does (called (global (codes "f")))) ▸ none)) ▸ two shape.SwitchCase (number 2) (listed ((does (called (global (codes "g")))) ▸ none)) ▸ two shape.SwitchCase absent (listed ((does (called (global (codes "h")))) ▸ none)) ▸ none))) ▸ none)) (gives Null ∷ gives Null ∷ []) ≡ Some (record { events = (CallOf, (None, Item (Object 5 true) ∷ Item Undefined ∷ [])) ∷ (CallOf, (None, Item (Object 6 true) ∷ Item Undefined ∷ [])) ∷ []; outcome = NormalEnd })
unfolding means meaning step either act at_variable read_slot read_any write_slot take_turn answered answered_binds heard this_of digits
switch_falls_through = refl

-- `switch (3) { default: f(); break; case 1: g(); }`
switch_default : run_of Program (script ((two shape.SwitchStatement (number 3) (listed (two shape.SwitchCase absent (listed ((does (called (global (codes "f")))) ▸ (one shape.BreakStatement absent) ▸ none)) ▸ two shape.SwitchCase (number 1) (listed ((does (called (global (codes "g")))) ▸ none)) ▸ none))) ▸ none)) (gives Null ∷ []) ≡ Some (record { events = (CallOf, (None, Item (Object 4 true) ∷ Item Undefined ∷ [])) ∷ []; outcome = NormalEnd })
unfolding means meaning step either act at_variable read_slot read_any write_slot take_turn answered answered_binds heard this_of digits
switch_default = refl

-- `switch (1) { case f(): function x() {} }` creates x before the test
switch_function : run_of Program (script ((two shape.SwitchStatement (number 1) (listed (two shape.SwitchCase (called (global (codes "f"))) (listed (function true 2 (bound 6) ▸ none)) ▸ none))) ▸ none)) (gives (Object 5 true) ∷ gives Null ∷ []) ≡ Some (record { events = (Create, (Some 2, [])) ∷ (CallOf, (None, Item (Object 4 true) ∷ Item Undefined ∷ [])) ∷ []; outcome = NormalEnd })
unfolding means meaning step either act at_variable read_slot read_any write_slot take_turn answered answered_binds heard this_of digits
switch_function = refl

-- `try { throw 1; } catch (x) { f(x); }`
caught : run_of Program (script ((three shape.TryStatement (block ((one shape.ThrowStatement (number 1)) ▸ none)) (two shape.CatchClause (bound 6) (block ((does (call (global (codes "f")) ((local 6) ▸ none))) ▸ none))) absent) ▸ none)) (gives Null ∷ []) ≡ Some (record { events = (CallOf, (None, Item (Object 4 true) ∷ Item Undefined ∷ Item (Number (pos 1)) ∷ [])) ∷ []; outcome = NormalEnd })
unfolding means meaning step either act at_variable read_slot read_any write_slot take_turn answered answered_binds heard this_of digits
caught = refl

-- `try { throw 1; } catch { f(); }`
caught_without_name : run_of Program (script ((three shape.TryStatement (block ((one shape.ThrowStatement (number 1)) ▸ none)) (two shape.CatchClause absent (block ((does (called (global (codes "f")))) ▸ none))) absent) ▸ none)) (gives Null ∷ []) ≡ Some (record { events = (CallOf, (None, Item (Object 4 true) ∷ Item Undefined ∷ [])) ∷ []; outcome = NormalEnd })
unfolding means meaning step either act at_variable read_slot read_any write_slot take_turn answered answered_binds heard this_of digits
caught_without_name = refl

-- `try { return 1; } finally { return 2; }`
finalizer_wins : run_of FunctionStatements (function_body ((three shape.TryStatement (block ((returns (number 1)) ▸ none)) absent (block ((returns (number 2)) ▸ none))) ▸ none)) ([]) ≡ Some (record { events = []; outcome = ReturnOf (Number (pos 2)) })
unfolding means meaning step either act at_variable read_slot read_any write_slot take_turn answered answered_binds heard this_of digits
finalizer_wins = refl

-- `try { throw 1; } finally { f(); }`
finalizer_passes_on : run_of Program (script ((three shape.TryStatement (block ((one shape.ThrowStatement (number 1)) ▸ none)) absent (block ((does (called (global (codes "f")))) ▸ none))) ▸ none)) (gives Null ∷ []) ≡ Some (record { events = (CallOf, (None, Item (Object 4 true) ∷ Item Undefined ∷ [])) ∷ []; outcome = ThrowOf (Number (pos 1)) })
unfolding means meaning step either act at_variable read_slot read_any write_slot take_turn answered answered_binds heard this_of digits
finalizer_passes_on = refl

-- `l: { break l; f(); }`
labelled_break : run_of Program (script ((two shape.LabeledStatement (label (codes "l")) (block ((one shape.BreakStatement (label (codes "l"))) ▸ (does (called (global (codes "f")))) ▸ none))) ▸ none)) ([]) ≡ Some (record { events = []; outcome = NormalEnd })
unfolding means meaning step either act at_variable read_slot read_any write_slot take_turn answered answered_binds heard this_of digits
labelled_break = refl

-- `debugger;`
debugged : run_of Program (script ((leaf shape.DebuggerStatement) ▸ none)) (gives Null ∷ []) ≡ Some (record { events = (DebuggerOf, (None, [])) ∷ []; outcome = NormalEnd })
unfolding means meaning step either act at_variable read_slot read_any write_slot take_turn answered answered_binds heard this_of digits
debugged = refl

-- `{ x(); function x() {} }` creates x where the block is entered
block_function : run_of Program (script ((block ((does (called (local 6))) ▸ function true 2 (bound 6) ▸ none)) ▸ none)) (gives (Object 5 true) ∷ gives Null ∷ []) ≡ Some (record { events = (Create, (Some 2, [])) ∷ (CallOf, (None, Item (Object 5 true) ∷ Item Undefined ∷ [])) ∷ []; outcome = NormalEnd })
unfolding means meaning step either act at_variable read_slot read_any write_slot take_turn answered answered_binds heard this_of digits
block_function = refl

-- `{ let x = 1; } x;` reads a name whose scope has ended
block_ends : run_of Program (script ((block (declaration Let (bound 6) (number 1) ▸ none)) ▸ (does (local 6)) ▸ none)) ([]) ≡ None
unfolding means meaning step either act at_variable read_slot read_any write_slot take_turn answered answered_binds heard this_of digits
block_ends = refl

-- `static { f(); }`, as a body
static_block : run_of FunctionStatements (one shape.StaticBlock (listed (does (called (global (codes "f"))) ▸ none))) (gives Null ∷ []) ≡ Some (record { events = (CallOf, (None, Item (Object 4 true) ∷ Item Undefined ∷ [])) ∷ []; outcome = ReturnOf Undefined })
unfolding means meaning step either act at_variable read_slot read_any write_slot take_turn answered answered_binds heard this_of digits
static_block = refl
