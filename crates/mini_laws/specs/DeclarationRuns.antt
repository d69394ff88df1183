-- Runs of declarations and modules, computed.
use Rattle.std.specs.Prelude.{◌≡◌, refl, true, false, [], ◌∷◌, Some, None, codes, pos}
use Rattle.std.specs.Fmt.{digits}
use Rattle.mini_model.specs.declared.kind.VariableDeclarationKind.TheVariants.{Var, Let, Const}
use Rattle.mini_model.specs.declared.operator.AssignmentOperator.TheVariants as assignment
use Rattle.mini_model.specs.declared.shape.Shape.TheVariants as shape
use Rattle.mini_model.specs.Tree.{Tree, none, ◌▸◌, absent, listed}
use Rattle.mini_laws.specs.Value.{Undefined, Null, Number, Object, Declared}
use Rattle.mini_laws.specs.State.{AnObject, CallOf, Create, NodeOf, BindOf, FreshOf, ExportDefaultOf, Item, either, TypeError, Raise, Writes, Refuses, Keeps}
use Rattle.mini_laws.specs.Command.{act, at_variable, read_slot, read_any, write_slot, take_turn, answered, answered_binds, heard, this_of}
use Rattle.mini_laws.specs.Step.{step, means, meaning}
use Rattle.mini_laws.specs.Body.{Program, FunctionStatements, NormalEnd, ThrowOf, Run, environment_of}
use Rattle.mini_laws.specs.Fixity.{fixed_in}
use Rattle.mini_laws.specs.Samples.{one, two, three, numbered, global, local, bound, number, text, assign, call, called, function, class_of, class, script, does, declaration, gives, run_of, label, start, shown, throws}

-- `let x = 1; f(x);`
let_then_read : run_of Program (script ((declaration Let (bound 6) (number 1)) ▸ (does (call (global (codes "f")) ((local 6) ▸ none))) ▸ none)) (gives Null ∷ []) ≡ Some (record { events = (CallOf, (None, Item (Object 4 true) ∷ Item Undefined ∷ Item (Number (pos 1)) ∷ [])) ∷ []; outcome = NormalEnd })
unfolding means meaning step either act at_variable read_slot read_any write_slot take_turn answered answered_binds heard this_of digits
let_then_read = refl

-- `let x; f(x);`
let_alone : run_of Program (script ((declaration Let (bound 6) absent) ▸ (does (call (global (codes "f")) ((local 6) ▸ none))) ▸ none)) (gives Null ∷ []) ≡ Some (record { events = (CallOf, (None, Item (Object 4 true) ∷ Item Undefined ∷ Item Undefined ∷ [])) ∷ []; outcome = NormalEnd })
unfolding means meaning step either act at_variable read_slot read_any write_slot take_turn answered answered_binds heard this_of digits
let_alone = refl

-- `x; let x = 1;` reads what is not initialised
read_before_let : run_of Program (script ((does (local 6)) ▸ (declaration Let (bound 6) (number 1)) ▸ none)) ([]) ≡ None
unfolding means meaning step either act at_variable read_slot read_any write_slot take_turn answered answered_binds heard this_of digits
read_before_let = refl

-- `x = 1; var x; f(x);`
var_alone : run_of Program (script ((does (assign assignment.Assign (local 1) (number 1))) ▸ (declaration Var (bound 1) absent) ▸ (does (call (global (codes "f")) ((local 1) ▸ none))) ▸ none)) (gives Null ∷ []) ≡ Some (record { events = (CallOf, (None, Item (Object 4 true) ∷ Item Undefined ∷ Item (Number (pos 1)) ∷ [])) ∷ []; outcome = NormalEnd })
unfolding means meaning step either act at_variable read_slot read_any write_slot take_turn answered answered_binds heard this_of digits
var_alone = refl

-- `let x = 1;` with a shared x
shared_let : run_of Program (script ((declaration Let (bound 7) (number 1)) ▸ none)) ([]) ≡ Some (record { events = (FreshOf, (None, [])) ∷ []; outcome = NormalEnd })
unfolding means meaning step either act at_variable read_slot read_any write_slot take_turn answered answered_binds heard this_of digits
shared_let = refl

-- `let [x] = f(); g(x);`, a pattern with the number 2
pattern_let : run_of Program (script ((declaration Let (numbered 2 shape.ArrayPattern (listed (bound 6 ▸ none) ▸ none)) (called (global (codes "f")))) ▸ (does (call (global (codes "g")) ((local 6) ▸ none))) ▸ none)) (gives (Object 7 false) ∷ gives Null ∷ gives Null ∷ []) ≡ Some (record { events = (CallOf, (None, Item (Object 4 true) ∷ Item Undefined ∷ [])) ∷ (BindOf, (Some 2, Item (Object 7 false) ∷ [])) ∷ (CallOf, (None, Item (Object 5 true) ∷ Item Undefined ∷ Item Null ∷ [])) ∷ []; outcome = NormalEnd })
unfolding means meaning step either act at_variable read_slot read_any write_slot take_turn answered answered_binds heard this_of digits
pattern_let = refl

-- `class x {} f(x);`, with the number 2
class_declared : run_of Program (script ((class true 2 (bound 6) (bound 7)) ▸ (does (call (global (codes "f")) ((local 6) ▸ none))) ▸ none)) (gives (Object 6 true) ∷ gives Null ∷ []) ≡ Some (record { events = ((NodeOf AnObject), (Some 2, [])) ∷ (CallOf, (None, Item (Object 4 true) ∷ Item Undefined ∷ Item (Object 6 true) ∷ [])) ∷ []; outcome = NormalEnd })
unfolding means meaning step either act at_variable read_slot read_any write_slot take_turn answered answered_binds heard this_of digits
class_declared = refl

-- `x(); function x() {}`, with the number 2
function_declared : run_of Program (script ((does (called (local 1))) ▸ (function true 2 (bound 1)) ▸ none)) (gives (Object 6 true) ∷ gives Null ∷ []) ≡ Some (record { events = (Create, (Some 2, [])) ∷ (CallOf, (None, Item (Object 6 true) ∷ Item Undefined ∷ [])) ∷ []; outcome = NormalEnd })
unfolding means meaning step either act at_variable read_slot read_any write_slot take_turn answered answered_binds heard this_of digits
function_declared = refl

-- a module's function, with the number 2 and a shared name, is lexical: Fresh after it is created
module_function : run_of Program (one (shape.Program true []) (listed (does (called (local 7)) ▸ function true 2 (bound 7) ▸ none))) (gives (Object 6 true) ∷ gives Null ∷ []) ≡ Some (record { events = (Create, (Some 2, [])) ∷ (FreshOf, (None, [])) ∷ (CallOf, (None, Item (Object 6 true) ∷ Item Undefined ∷ [])) ∷ []; outcome = NormalEnd })
unfolding means meaning step either act at_variable read_slot read_any write_slot take_turn answered answered_binds heard this_of digits
module_function = refl

-- a script's is not
script_function : run_of Program (script (does (called (local 7)) ▸ function true 2 (bound 7) ▸ none)) (gives (Object 6 true) ∷ gives Null ∷ []) ≡ Some (record { events = (Create, (Some 2, [])) ∷ (CallOf, (None, Item (Object 6 true) ∷ Item Undefined ∷ [])) ∷ []; outcome = NormalEnd })
unfolding means meaning step either act at_variable read_slot read_any write_slot take_turn answered answered_binds heard this_of digits
script_function = refl

-- `export let x = 1; f(x);`
exported_let : run_of Program (script ((three shape.ExportNamedDeclaration (declaration Let (bound 6) (number 1)) (listed none) absent) ▸ (does (call (global (codes "f")) ((local 6) ▸ none))) ▸ none)) (gives Null ∷ []) ≡ Some (record { events = (CallOf, (None, Item (Object 4 true) ∷ Item Undefined ∷ Item (Number (pos 1)) ∷ [])) ∷ []; outcome = NormalEnd })
unfolding means meaning step either act at_variable read_slot read_any write_slot take_turn answered answered_binds heard this_of digits
exported_let = refl

-- `export default f();`
exported_value : run_of Program (script ((one shape.ExportDefaultDeclaration (called (global (codes "f")))) ▸ none)) (gives (Number (pos 1)) ∷ gives Null ∷ []) ≡ Some (record { events = (CallOf, (None, Item (Object 4 true) ∷ Item Undefined ∷ [])) ∷ (ExportDefaultOf, (None, Item (Number (pos 1)) ∷ [])) ∷ []; outcome = NormalEnd })
unfolding means meaning step either act at_variable read_slot read_any write_slot take_turn answered answered_binds heard this_of digits
exported_value = refl

-- `f(); export default function () {}` exports it first
exported_function : run_of Program (script ((does (called (global (codes "f")))) ▸ (one shape.ExportDefaultDeclaration (function true 2 absent)) ▸ none)) (gives (Object 6 true) ∷ gives Null ∷ gives Null ∷ []) ≡ Some (record { events = (Create, (Some 2, [])) ∷ (ExportDefaultOf, (None, Item (Object 6 true) ∷ [])) ∷ (CallOf, (None, Item (Object 4 true) ∷ Item Undefined ∷ [])) ∷ []; outcome = NormalEnd })
unfolding means meaning step either act at_variable read_slot read_any write_slot take_turn answered answered_binds heard this_of digits
exported_function = refl

-- `export default class x {} f(x);`
exported_class : run_of Program (script ((one shape.ExportDefaultDeclaration (class true 2 (bound 6) (bound 7))) ▸ (does (call (global (codes "f")) ((local 6) ▸ none))) ▸ none)) (gives (Object 6 true) ∷ gives Null ∷ gives Null ∷ []) ≡ Some (record { events = ((NodeOf AnObject), (Some 2, [])) ∷ (ExportDefaultOf, (None, Item (Object 6 true) ∷ [])) ∷ (CallOf, (None, Item (Object 4 true) ∷ Item Undefined ∷ Item (Object 6 true) ∷ [])) ∷ []; outcome = NormalEnd })
unfolding means meaning step either act at_variable read_slot read_any write_slot take_turn answered answered_binds heard this_of digits
exported_class = refl

-- `import x from "m";` and `export * from "m";` do nothing
imported : run_of Program (script ((two shape.ImportDeclaration (listed (one shape.ImportDefaultSpecifier (bound 6) ▸ none)) (text (codes "m"))) ▸ (two shape.ExportAllDeclaration absent (text (codes "m"))) ▸ none)) ([]) ≡ Some (record { events = []; outcome = NormalEnd })
unfolding means meaning step either act at_variable read_slot read_any write_slot take_turn answered answered_binds heard this_of digits
imported = refl

-- what a write does, by the declaration: `const x = 1;`, `let x = 1;`,
-- `import { y as x } from "m";`
fixed_const : fixed_in false (script (declaration Const (bound 6) (number 1) ▸ none)) (Declared 6) ≡ Refuses
fixed_const = refl

fixed_let : fixed_in false (script (declaration Let (bound 6) (number 1) ▸ none)) (Declared 6) ≡ Writes
fixed_let = refl

fixed_import : fixed_in true (one (shape.Program true []) (listed (two shape.ImportDeclaration (listed (two shape.ImportSpecifier (label (codes "y")) (bound 6) ▸ none)) (text (codes "m")) ▸ none))) (Declared 6) ≡ Refuses
fixed_import = refl

-- the own name of a function expression, in sloppy and in strict code
fixed_own : fixed_in false (script (does (function false 1 (bound 6)) ▸ none)) (Declared 6) ≡ Keeps
fixed_own = refl

fixed_own_strict : fixed_in true (one (shape.Program false (codes "use strict" ∷ [])) (listed (does (function false 1 (bound 6)) ▸ none))) (Declared 6) ≡ Refuses
fixed_own_strict = refl

-- a pattern of a `const`, and a class expression's name
fixed_pattern : fixed_in false (script (declaration Const (one shape.ArrayPattern (listed (bound 6 ▸ none))) (number 1) ▸ none)) (Declared 6) ≡ Refuses
fixed_pattern = refl

fixed_class : fixed_in false (script (does (class false 1 (bound 6) absent) ▸ none)) (Declared 6) ≡ Refuses
fixed_class = refl

-- `class A {}`: the name that the class holds once more, and the one that it declares
fixed_inside : fixed_in false (script (class true 1 (bound 6) (bound 4) ▸ none)) (Declared 4) ≡ Refuses
fixed_inside = refl

fixed_outside : fixed_in false (script (class true 1 (bound 6) (bound 4) ▸ none)) (Declared 6) ≡ Writes
fixed_outside = refl

-- `class A { static { A = 2; } }`: the block raises, in the environment of the program
abbrev writing_block : Tree
writing_block = numbered 2 shape.StaticBlock (listed (does (assign assignment.Assign (local 4) (number 2)) ▸ none) ▸ none)

class_written_inside : shown (Run (environment_of (script (class_of true 1 (bound 6) (writing_block ▸ none) (bound 4) ▸ none))) FunctionStatements writing_block start Undefined (throws Null ∷ []) 0) ≡ Some (record { events = (Raise TypeError, (None, [])) ∷ []; outcome = ThrowOf Null })
unfolding means meaning step either act at_variable read_slot read_any write_slot take_turn answered answered_binds heard this_of digits
class_written_inside = refl

-- `class A {} A = 2;` writes
class_written_outside : shown (Run (environment_of (script (class true 1 (bound 4) (bound 6) ▸ does (assign assignment.Assign (local 4) (number 2)) ▸ none))) Program (script (does (assign assignment.Assign (local 4) (number 2)) ▸ none)) start Undefined [] 0) ≡ Some (record { events = []; outcome = NormalEnd })
unfolding means meaning step either act at_variable read_slot read_any write_slot take_turn answered answered_binds heard this_of digits
class_written_outside = refl

-- `const x = 1; x = 2;` raises, in the environment of the program
const_written : shown (Run (environment_of (script (declaration Const (bound 6) (number 1) ▸ does (assign assignment.Assign (local 6) (number 2)) ▸ none))) Program (script (declaration Const (bound 6) (number 1) ▸ does (assign assignment.Assign (local 6) (number 2)) ▸ none)) start Undefined (throws Null ∷ []) 0) ≡ Some (record { events = (Raise TypeError, (None, [])) ∷ []; outcome = ThrowOf Null })
unfolding means meaning step either act at_variable read_slot read_any write_slot take_turn answered answered_binds heard this_of digits
const_written = refl

-- `let { x } = o; f(x);`, a pattern with the number 2
object_pattern : run_of Program (script (declaration Let (numbered 2 shape.ObjectPattern (listed (two (shape.BindingProperty true false) (label (codes "x")) (bound 6) ▸ none) ▸ none)) (global (codes "o")) ▸ does (call (global (codes "f")) (local 6 ▸ none)) ▸ none)) (gives Null ∷ gives Null ∷ []) ≡ Some (record { events = (BindOf, (Some 2, Item (Object 7 false) ∷ [])) ∷ (CallOf, (None, Item (Object 4 true) ∷ Item Undefined ∷ Item Null ∷ [])) ∷ []; outcome = NormalEnd })
unfolding means meaning step either act at_variable read_slot read_any write_slot take_turn answered answered_binds heard this_of digits
object_pattern = refl
