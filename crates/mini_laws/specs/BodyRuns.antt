-- The bodies of small programs, worked out by hand.
use Rattle.std.specs.Prelude.{◌≡◌, refl, ℕ, Bool, true, false, List, [], ◌∷◌, Some, codes}
use Rattle.std.specs.Fmt.{digits}
use Rattle.mini_model.specs.declared.kind.MethodDefinitionKind.TheVariants as method
use Rattle.mini_model.specs.declared.operator.AssignmentOperator.TheVariants.{Assign}
use Rattle.mini_model.specs.declared.shape.Shape.TheVariants as shape
use Rattle.mini_model.specs.Tree.{Tree, Trees, none, ◌▸◌, leaf, absent, listed}
use Rattle.mini_laws.specs.Value.{String, Object}
use Rattle.mini_laws.specs.State.{either}
use Rattle.mini_laws.specs.Demand.{AMember}
use Rattle.mini_laws.specs.Command.{act, at_variable, read_slot, read_any, write_slot, take_turn, answered, answered_binds, heard, this_of}
use Rattle.mini_laws.specs.Step.{step, means, meaning}
use Rattle.mini_laws.specs.Body.{BodyKind, Program, FunctionStatements, ArrowExpression, InnerValue, InnerTarget, PlaceOf}
use Rattle.mini_laws.specs.Cut.{cut}
use Rattle.mini_laws.specs.Bodies.{Body, bodies_in}
use Rattle.mini_laws.specs.Samples.{one, two, numbered, global, bound, label, number, null, assign, call, member, script, function_body, does, run_of}

-- the number and the kind of each body, whether its code is strict, and whether it asks for `this`
abbrev told : List Body → List (ℕ × (BodyKind × (Bool × Bool)))
told [] = []
told (b ∷ bs) = (b.number, (b.kind, (b.strict, b.asks_this))) ∷ told bs

-- `function` with this number, these directives and this body
abbrev function_of : ℕ → List (List ℕ) → Trees → Tree
function_of n directives ts = numbered n (shape.Function false false directives) (absent ▸ listed none ▸ function_body ts ▸ none)

-- a script with a function that is strict, in which stands an arrow
nested : told (bodies_in (script (does (function_of 1 (codes "use strict" ∷ []) (does (numbered 2 (shape.ArrowFunctionExpression []) (listed none ▸ null ▸ none)) ▸ none)) ▸ none))) ≡ (0, (Program, (false, false))) ∷ (1, (FunctionStatements, (true, false))) ∷ (2, (ArrowExpression, (true, false))) ∷ []
nested = refl

-- a class with a superclass: its constructor, and an arrow there, ask for `this`, and a method
-- doesn't; all is strict
abbrev arrow : ℕ → Tree
arrow n = numbered n (shape.ArrowFunctionExpression []) (listed none ▸ leaf shape.ThisExpression ▸ none)

abbrev derived : Tree
derived =
    script (numbered 1 (shape.Class true) (bound 0 ▸ numbered 2 shape.InnerExpression (null ▸ none) ▸ one shape.ClassBody (listed (two (shape.MethodDefinition method.Constructor false false) (label (codes "constructor")) (function_of 3 [] (does (arrow 4) ▸ none))
    ▸ two (shape.MethodDefinition method.Method false false) (label (codes "m")) (function_of 5 [] (does (arrow 6) ▸ none)) ▸ two (shape.PropertyDefinition false false) (label (codes "p")) (numbered 7 shape.InnerExpression (arrow 8 ▸ none)) ▸ none)) ▸ bound 1 ▸ none) ▸ none)

derived_bodies : told (bodies_in derived) ≡ (0, (Program, (false, false))) ∷ (2, (InnerValue, (true, false))) ∷ (3, (FunctionStatements, (true, true))) ∷ (4, (ArrowExpression, (true, true))) ∷ (5, (FunctionStatements, (true, false))) ∷ (6, (ArrowExpression, (true, false))) ∷ (7, (InnerValue, (true, false))) ∷ (8, (ArrowExpression, (true, false))) ∷ []
derived_bodies = refl

-- `[o.k = 1] = a`: the member is assigned to, and its default is a value
abbrev assigning : Tree
assigning =
    does (assign Assign (numbered 1 shape.ArrayAssignmentTarget (listed (two shape.AssignmentPattern (numbered 2 shape.InnerExpression (member (global (codes "o")) (codes "k") ▸ none)) (numbered 3 shape.InnerExpression (number 1 ▸ none)) ▸ none) ▸ none)) (global (codes "a")))

assigned_bodies : told (bodies_in (script (assigning ▸ none))) ≡ (0, (Program, (false, false))) ∷ (2, (InnerTarget, (false, false))) ∷ (3, (InnerValue, (false, false))) ∷ []
assigned_bodies = refl

-- its run gives the place, and reads no member
assigned_place : run_of InnerTarget (numbered 2 shape.InnerExpression (member (global (codes "o")) (codes "k") ▸ none)) [] ≡ Some (record { events = []; outcome = PlaceOf (AMember (Object 7 false) (String (codes "k"))) })
unfolding means meaning step either act at_variable read_slot read_any write_slot take_turn answered answered_binds heard this_of digits
assigned_place = refl

-- without what is nested: `f(function () { a; }, o.#k)`
cut_call : cut (call (global (codes "f")) (function_of 1 [] (does (global (codes "a")) ▸ none) ▸ numbered 2 (shape.PrivateFieldExpression false) (numbered 3 shape.InnerExpression (global (codes "o") ▸ none) ▸ leaf (shape.PrivateIdentifier (codes "k")) ▸ none) ▸ none)) ≡
    call (global (codes "f")) (numbered 1 (shape.Function false false []) (absent ▸ none) ▸ numbered 2 (shape.PrivateFieldExpression false) (numbered 3 shape.InnerExpression none ▸ leaf (shape.PrivateIdentifier (codes "k")) ▸ none) ▸ none)
cut_call = refl
