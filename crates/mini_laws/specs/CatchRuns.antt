-- Runs of a `var` under a parameter of `catch` of its name, from the text of a program, computed:
-- the `var` has the symbol 0 and the parameter the symbol 1.
use Rattle.std.specs.Prelude.{◌≡◌, refl, ℕ, true, false, List, [], ◌∷◌, Option, Some, None, codes, pos}
use Rattle.std.specs.Fmt.{digits}
use Rattle.mini_model.specs.declared.kind.VariableDeclarationKind.TheVariants.{Var}
use Rattle.mini_model.specs.declared.shape.Shape.TheVariants as shape
use Rattle.mini_model.specs.Tree.{Tree, Trees, none, ◌▸◌, leaf, absent}
use Rattle.mini_laws.specs.Value.{Undefined, Null, Number, String, Object, Value}
use Rattle.mini_laws.specs.State.{CallOf, KeysOf, IteratorOf, NextOf, Label, Entry, Item, Answer, Finished, either}
use Rattle.mini_laws.specs.Command.{act, at_variable, read_slot, read_any, write_slot, take_turn, answered, answered_binds, heard, this_of}
use Rattle.mini_laws.specs.DeclaredNames.{names_of, body_names, with_names, has_inner}
use Rattle.mini_laws.specs.Scopes.{scopes_by}
use Rattle.mini_laws.specs.Resolved.{symbols, resolved, resolved_program}
use Rattle.mini_laws.specs.Step.{step, means, meaning}
use Rattle.mini_laws.specs.Body.{Program, NormalEnd, Run}
use Rattle.mini_laws.specs.Programs.{binding, reference, e}
use Rattle.mini_laws.specs.Samples.{Shown, shown, one, two, three, number, null, call, block, script, does, declaration, for_loop, answer, gives, start, environment}

abbrev f : Tree → Tree
f x = does (call (reference (codes "f")) (x ▸ none))

-- `try { throw 1; } catch (e) { .. } f(e);`
abbrev program : Trees → Tree
program ts = script (three shape.TryStatement (block (one shape.ThrowStatement (number 1) ▸ none)) (two shape.CatchClause (binding e) (block ts)) absent ▸ f (reference e) ▸ none)

abbrev ran : Trees → List Answer → Option Shown
ran ts answers = shown (Run environment Program (resolved_program (program ts)) start Undefined answers 3)

-- an event of f
abbrev calls_f : Value → Label × (Option ℕ × List Entry)
calls_f v = (CallOf, (None, Item (Object 4 true) ∷ Item Undefined ∷ Item v ∷ []))

-- `var e = 2; f(e);` writes the parameter
initialised : ran (declaration Var (binding e) (number 2) ▸ f (reference e) ▸ none) (gives Null ∷ gives Null ∷ []) ≡ Some (record { events = calls_f (Number (pos 2)) ∷ calls_f Undefined ∷ []; outcome = NormalEnd })
unfolding resolved symbols scopes_by body_names names_of with_names has_inner means meaning step either act at_variable read_slot read_any write_slot take_turn answered answered_binds heard this_of digits
initialised = refl

-- `var e; f(e);` writes nothing
alone : ran (declaration Var (binding e) absent ▸ f (reference e) ▸ none) (gives Null ∷ gives Null ∷ []) ≡ Some (record { events = calls_f (Number (pos 1)) ∷ calls_f Undefined ∷ []; outcome = NormalEnd })
unfolding resolved symbols scopes_by body_names names_of with_names has_inner means meaning step either act at_variable read_slot read_any write_slot take_turn answered answered_binds heard this_of digits
alone = refl

-- `{ var e = 2; } f(e);`
in_a_block : ran (block (declaration Var (binding e) (number 2) ▸ none) ▸ f (reference e) ▸ none) (gives Null ∷ gives Null ∷ []) ≡ Some (record { events = calls_f (Number (pos 2)) ∷ calls_f Undefined ∷ []; outcome = NormalEnd })
unfolding resolved symbols scopes_by body_names names_of with_names has_inner means meaning step either act at_variable read_slot read_any write_slot take_turn answered answered_binds heard this_of digits
in_a_block = refl

-- `for (var e = 2;;) break; f(e);`
in_a_for : ran (for_loop (declaration Var (binding e) (number 2)) absent absent (one shape.BreakStatement absent) ▸ f (reference e) ▸ none) (gives Null ∷ gives Null ∷ []) ≡ Some (record { events = calls_f (Number (pos 2)) ∷ calls_f Undefined ∷ []; outcome = NormalEnd })
unfolding resolved symbols scopes_by body_names names_of with_names has_inner means meaning step either act at_variable read_slot read_any write_slot take_turn answered answered_binds heard this_of digits
in_a_for = refl

-- `for (var e in o) f(e);` writes it in each turn
in_a_head : ran (three shape.ForInStatement (declaration Var (binding e) absent) (reference (codes "o")) (f (reference e)) ▸ none) (gives (Object 9 false) ∷ gives (String (codes "k")) ∷ gives Null ∷ answer Finished ∷ gives Null ∷ []) ≡
    Some (record { events = (KeysOf, (None, Item (Object 7 false) ∷ [])) ∷ (NextOf, (None, Item (Object 9 false) ∷ [])) ∷ calls_f (String (codes "k")) ∷ (NextOf, (None, Item (Object 9 false) ∷ [])) ∷ calls_f Undefined ∷ []; outcome = NormalEnd })
unfolding resolved symbols scopes_by body_names names_of with_names has_inner means meaning step either act at_variable read_slot read_any write_slot take_turn answered answered_binds heard this_of digits
in_a_head = refl

-- `for (var e of o) f(e);`
in_a_head_of : ran (three shape.ForOfStatement (declaration Var (binding e) absent) (reference (codes "o")) (f (reference e)) ▸ none) (gives (Object 9 false) ∷ gives (Number (pos 3)) ∷ gives Null ∷ answer Finished ∷ gives Null ∷ []) ≡
    Some (record { events = (IteratorOf, (None, Item (Object 7 false) ∷ [])) ∷ (NextOf, (None, Item (Object 9 false) ∷ [])) ∷ calls_f (Number (pos 3)) ∷ (NextOf, (None, Item (Object 9 false) ∷ [])) ∷ calls_f Undefined ∷ []; outcome = NormalEnd })
unfolding resolved symbols scopes_by body_names names_of with_names has_inner means meaning step either act at_variable read_slot read_any write_slot take_turn answered answered_binds heard this_of digits
in_a_head_of = refl

-- `for (var e = 2 in null); f(e);`: the initializer writes it, too
in_a_head_initialised : ran (three shape.ForInStatement (declaration Var (binding e) (number 2)) null (leaf shape.EmptyStatement) ▸ f (reference e) ▸ none) (gives Null ∷ gives Null ∷ []) ≡ Some (record { events = calls_f (Number (pos 2)) ∷ calls_f Undefined ∷ []; outcome = NormalEnd })
unfolding resolved symbols scopes_by body_names names_of with_names has_inner means meaning step either act at_variable read_slot read_any write_slot take_turn answered answered_binds heard this_of digits
in_a_head_initialised = refl

-- `try { throw 3; } catch (e) { var e = 2; f(e); } f(e);`: the innermost parameter is written
in_two : ran (three shape.TryStatement (block (one shape.ThrowStatement (number 3) ▸ none)) (two shape.CatchClause (binding e) (block (declaration Var (binding e) (number 2) ▸ f (reference e) ▸ none))) absent ▸ f (reference e) ▸ none) (gives Null ∷ gives Null ∷ gives Null ∷ []) ≡
    Some (record { events = calls_f (Number (pos 2)) ∷ calls_f (Number (pos 1)) ∷ calls_f Undefined ∷ []; outcome = NormalEnd })
unfolding resolved symbols scopes_by body_names names_of with_names has_inner means meaning step either act at_variable read_slot read_any write_slot take_turn answered answered_binds heard this_of digits
in_two = refl
