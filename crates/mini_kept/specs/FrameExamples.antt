-- The frames of small programs, worked out by hand.
use Rattle.std.specs.Prelude.{◌≡◌, refl, ℕ, true, false, [], ◌∷◌, Some, None, codes}
use Rattle.std.specs.Fmt.{digits}
use Rattle.mini_model.specs.declared.kind.MetaPropertyKind.TheVariants.{NewTarget}
use Rattle.mini_model.specs.declared.kind.MethodDefinitionKind.TheVariants.{Method}
use Rattle.mini_model.specs.declared.kind.PropertyKind.{PropertyKind}
use Rattle.mini_model.specs.declared.kind.PropertyKind.TheVariants.{Init, Get}
use Rattle.mini_model.specs.declared.kind.VariableDeclarationKind.TheVariants.{Var, Let}
use Rattle.mini_model.specs.declared.name.Name.{Name}
use Rattle.mini_model.specs.declared.shape.Shape.TheVariants as shape
use Rattle.mini_model.specs.Tree.{Tree, node, none, ◌▸◌, leaf, absent, listed, empty_statement}
use Rattle.mini_laws.specs.DeclaredNames.{names_of, body_names}
use Rattle.mini_laws.specs.Samples.{one, two, three, numbered, global, local, bound, label, number, text, called, member, function, block, script, function_body, does, declaration}
use Rattle.mini_kept.specs.Frames.{Frame, frames, frames_in}
use Rattle.mini_kept.specs.SameNames.{is_among}

-- the name that `bound` declares
abbrev name : ℕ → Name
name n = record { spelling = codes "x"; symbol = Some (record { 0 = n }) }

abbrev framed : ℕ → Tree → Frame
framed n o = record { number = n; property = None; outline = o; globals = is_among [] }

abbrev property_framed : PropertyKind → ℕ → Tree → Frame
property_framed k n o = record { number = n; property = Some k; outline = o; globals = is_among [] }

-- an inner expression with this number, and what is left of it in another's frame
abbrev inner : ℕ → Tree → Tree
inner n a = numbered n shape.InnerExpression (a ▸ none)

abbrev inner_left : ℕ → Tree
inner_left n = numbered n shape.InnerExpression none

abbrev inner_framed : ℕ → Frame
inner_framed n = framed n (numbered n shape.InnerExpression (absent ▸ none))

-- a function expression without a name, what is left of it in another's frame, and its own
abbrev expression : ℕ → Tree
expression n = function false n absent

abbrev function_left : ℕ → Tree
function_left n = numbered n (shape.Function false false []) none

abbrev function_outline : ℕ → Tree
function_outline n = numbered n (shape.Function false false []) (absent ▸ listed none ▸ absent ▸ none)

-- `function f(a = 1, {b}, ...c) { g(); }`: in its frame the parameter with a default and the
-- pattern stand by their numbers
abbrev with_parameters : Tree
with_parameters =
    numbered 1 (shape.Function true false []) (bound 0 ▸ listed (numbered 2 shape.AssignmentPattern (bound 1 ▸ inner 3 (number 1) ▸ none) ▸ numbered 4 shape.ObjectPattern (listed (two (shape.BindingProperty true false) (label (codes "x")) (bound 2) ▸ none) ▸ none) ▸ one shape.RestElement (bound 3) ▸ none)
    ▸ function_body (does (called (global (codes "g"))) ▸ none) ▸ none)

parameters : frames None with_parameters ≡
    framed 1 (numbered 1 (shape.Function true false []) (bound 0 ▸ listed (numbered 2 shape.AssignmentPattern none ▸ numbered 4 shape.ObjectPattern none ▸ one shape.RestElement (bound 3) ▸ none) ▸ absent ▸ none))
    ∷ framed 2 (numbered 2 shape.AssignmentPattern (bound 1 ▸ inner_left 3 ▸ none))
    ∷ inner_framed 3
    ∷ framed 4 (numbered 4 shape.ObjectPattern (listed (two (shape.BindingProperty true false) (text (codes "x")) (bound 2) ▸ none) ▸ none))
    ∷ []
parameters = refl

-- `a => o.k`
arrow : frames None (numbered 1 (shape.ArrowFunctionExpression []) (listed (bound 0 ▸ none) ▸ member (global (codes "o")) (codes "k") ▸ none)) ≡
    framed 1 (numbered 1 (shape.ArrowFunctionExpression []) (listed (bound 0 ▸ none) ▸ absent ▸ none)) ∷ []
arrow = refl

-- `class A extends B { [k]() {} m() {} static p = 1; #q; static { f(); } }`: each key, value,
-- function and static block that is code stands by its number
class : frames None (numbered 1 (shape.Class true) (bound 0 ▸ inner 2 (global (codes "B")) ▸ one shape.ClassBody (listed (
    two (shape.MethodDefinition Method true false) (inner 3 (global (codes "k"))) (expression 4)
    ▸ two (shape.MethodDefinition Method false false) (label (codes "m")) (expression 5)
    ▸ two (shape.PropertyDefinition false true) (label (codes "p")) (inner 6 (number 1))
    ▸ two (shape.PropertyDefinition false false) (leaf (shape.PrivateIdentifier (codes "q"))) absent
    ▸ numbered 7 shape.StaticBlock (listed (does (called (global (codes "f"))) ▸ none) ▸ none) ▸ none)) ▸ bound 1 ▸ none)) ≡
    framed 1 (numbered 1 (shape.Class true) (bound 0 ▸ inner_left 2 ▸ one shape.ClassBody (listed (
    two (shape.MethodDefinition Method true false) (inner_left 3) (function_left 4)
    ▸ two (shape.MethodDefinition Method false false) (text (codes "m")) (function_left 5)
    ▸ two (shape.PropertyDefinition false true) (text (codes "p")) (inner_left 6)
    ▸ two (shape.PropertyDefinition false false) (leaf (shape.PrivateIdentifier (codes "q"))) absent
    ▸ numbered 7 shape.StaticBlock none ▸ none)) ▸ bound 1 ▸ none))
    ∷ inner_framed 2 ∷ inner_framed 3 ∷ framed 4 (function_outline 4) ∷ framed 5 (function_outline 5) ∷ inner_framed 6
    ∷ framed 7 (numbered 7 shape.StaticBlock (absent ▸ none)) ∷ []
class = refl

-- `let { x: a } = ..`, `let { "x": a } = ..`: a name and a text are the same property.
-- `let { 1: a } = ..`, `let { "1": a } = ..`: so are a number and its text; `let { "01": a } = ..`
-- has another
abbrev with_property : Tree → Tree
with_property k = numbered 1 shape.ObjectPattern (listed (two (shape.BindingProperty false false) k (bound 0) ▸ none) ▸ none)

abbrev property_shown : Tree → Frame
property_shown k = framed 1 (with_property k)

name_key : frames None (with_property (label (codes "x"))) ≡ property_shown (text (codes "x")) ∷ []
name_key = refl

text_key : frames None (with_property (text (codes "x"))) ≡ property_shown (text (codes "x")) ∷ []
text_key = refl

number_key : frames None (with_property (number 1)) ≡ property_shown (text (codes "1")) ∷ []
unfolding digits
number_key = refl

other_number_key : frames None (with_property (text (codes "01"))) ≡ property_shown (text (codes "01")) ∷ []
other_number_key = refl

-- `class { #x; "#x"; static 1() {} }`: a private name is no text
abbrev with_members : Tree → Tree → Tree
with_members k f = numbered 1 (shape.Class false) (absent ▸ absent ▸ one shape.ClassBody (listed (two (shape.PropertyDefinition false false) (leaf (shape.PrivateIdentifier (codes "x"))) absent
    ▸ two (shape.PropertyDefinition false false) (text (codes "#x")) absent ▸ two (shape.MethodDefinition Method false true) k f ▸ none)) ▸ absent ▸ none)

members_shown : frames None (with_members (number 1) (expression 2)) ≡ framed 1 (with_members (text (codes "1")) (function_left 2)) ∷ framed 2 (function_outline 2) ∷ []
unfolding digits
members_shown = refl

-- `({ m() {}, get k() {}, f: function () {} })`: the frame of a function tells whether it is a
-- method or an accessor
object : frames None (one shape.ObjectExpression (listed (
    two (shape.ObjectProperty Init true false false) (label (codes "m")) (expression 1)
    ▸ two (shape.ObjectProperty Get false false false) (label (codes "k")) (expression 2)
    ▸ two (shape.ObjectProperty Init false false false) (label (codes "f")) (expression 3) ▸ none))) ≡
    property_framed Init 1 (function_outline 1) ∷ property_framed Get 2 (function_outline 2) ∷ framed 3 (function_outline 3) ∷ []
object = refl

-- f`a${g()}b`
tagged : frames None (numbered 1 shape.TaggedTemplateExpression (inner 2 (global (codes "f")) ▸ two shape.TemplateLiteral (listed (leaf (shape.TemplateElement false (codes "a") (Some (codes "a"))) ▸ leaf (shape.TemplateElement true (codes "b") (Some (codes "b"))) ▸ none)) (listed (inner 3 (called (global (codes "g"))) ▸ none)) ▸ none)) ≡
    framed 1 (numbered 1 shape.TaggedTemplateExpression (inner_left 2 ▸ two shape.TemplateLiteral (listed (leaf (shape.TemplateElement false (codes "a") (Some (codes "a"))) ▸ leaf (shape.TemplateElement true (codes "b") (Some (codes "b"))) ▸ none)) (listed (inner_left 3 ▸ none)) ▸ none))
    ∷ inner_framed 2 ∷ inner_framed 3 ∷ []
tagged = refl

-- `[/a/g, o.#k, new.target]`
carried : frames None (one shape.ArrayExpression (listed (numbered 1 (shape.RegExpLiteral (codes "a") (codes "g")) none
    ▸ numbered 2 (shape.PrivateFieldExpression false) (inner 3 (global (codes "o")) ▸ leaf (shape.PrivateIdentifier (codes "k")) ▸ none)
    ▸ numbered 4 (shape.MetaProperty NewTarget) (label (codes "new") ▸ label (codes "target") ▸ none) ▸ none))) ≡
    framed 1 (numbered 1 (shape.RegExpLiteral (codes "a") (codes "g")) none)
    ∷ framed 2 (numbered 2 (shape.PrivateFieldExpression false) (inner_left 3 ▸ leaf (shape.PrivateIdentifier (codes "k")) ▸ none))
    ∷ inner_framed 3
    ∷ framed 4 (numbered 4 (shape.MetaProperty NewTarget) (label (codes "new") ▸ label (codes "target") ▸ none)) ∷ []
carried = refl

-- `[{ a: o.k = 1 }] = ..`: the pattern below has a frame of its own
nested : frames None (numbered 1 shape.ArrayAssignmentTarget (listed (numbered 2 shape.ObjectAssignmentTarget (listed (two (shape.AssignmentTargetPropertyProperty false) (label (codes "a")) (two shape.AssignmentPattern (inner 3 (member (global (codes "o")) (codes "k"))) (inner 4 (number 1))) ▸ none) ▸ none) ▸ none) ▸ none)) ≡
    framed 1 (numbered 1 shape.ArrayAssignmentTarget (listed (numbered 2 shape.ObjectAssignmentTarget none ▸ none) ▸ none))
    ∷ framed 2 (numbered 2 shape.ObjectAssignmentTarget (listed (two (shape.AssignmentTargetPropertyProperty false) (text (codes "a")) (two shape.AssignmentPattern (inner_left 3) (inner_left 4)) ▸ none) ▸ none))
    ∷ inner_framed 3 ∷ inner_framed 4 ∷ []
nested = refl

-- `({ x, y = 1 } = ..)`: a shorthand as what it is short for
shorthands : frames None (numbered 1 shape.ObjectAssignmentTarget (listed (two shape.AssignmentTargetPropertyIdentifier (label (codes "x")) (global (codes "x"))
    ▸ two shape.AssignmentTargetPropertyIdentifier (label (codes "y")) (two shape.AssignmentPattern (global (codes "y")) (inner 2 (number 1))) ▸ none) ▸ none)) ≡
    framed 1 (numbered 1 shape.ObjectAssignmentTarget (listed (two (shape.AssignmentTargetPropertyProperty false) (text (codes "x")) (global (codes "x"))
    ▸ two (shape.AssignmentTargetPropertyProperty false) (text (codes "y")) (two shape.AssignmentPattern (global (codes "y")) (inner_left 2)) ▸ none) ▸ none))
    ∷ inner_framed 2 ∷ []
shorthands = refl

-- a script, `var a; { var b; let c; } f(); for (var d of o) ; function g() {}`: the names that
-- `var` declares, and the functions, stand in its frame
script_names : frames_in (script (declaration Var (bound 0) absent ▸ block (declaration Var (bound 1) absent ▸ declaration Let (bound 2) absent ▸ none) ▸ does (called (global (codes "f")))
    ▸ three shape.ForOfStatement (declaration Var (bound 3) absent) (global (codes "o")) empty_statement ▸ function true 1 (bound 4) ▸ none)) ≡
    record (framed 0 (node (shape.Program false []) [] 0 (numbered 1 (shape.Function true false []) (bound 4 ▸ listed none ▸ absent ▸ none) ▸ none))) { globals = is_among (name 0 ∷ name 1 ∷ name 3 ∷ []) }
    ∷ framed 1 (numbered 1 (shape.Function true false []) (bound 4 ▸ listed none ▸ absent ▸ none)) ∷ []
unfolding names_of
script_names = refl

-- a strict one, `"use strict"; { function g() {} }`: a function in a block is no other code's
strict_block : frames_in (one (shape.Program false (codes "use strict" ∷ [])) (listed (block (function true 1 (bound 0) ▸ none) ▸ none))) ≡
    framed 0 (node (shape.Program false (codes "use strict" ∷ [])) [] 0 none) ∷ framed 1 (numbered 1 (shape.Function true false []) (bound 0 ▸ listed none ▸ absent ▸ none)) ∷ []
unfolding names_of
strict_block = refl

-- a module,
-- `import { a as b } from "m"; f(); export let c = f(); export { b as d }; export function g() {} export * from "n";`:
-- its imports and exports in order, and of a declaration its kind, its names and its number. `var`
-- gives no global name
abbrev imported : Tree
imported = two shape.ImportDeclaration (listed (two shape.ImportSpecifier (label (codes "a")) (bound 0) ▸ none)) (text (codes "m"))

abbrev specified : Tree
specified = three shape.ExportNamedDeclaration absent (listed (two shape.ExportSpecifier (label (codes "d")) (local 0) ▸ none)) absent

abbrev all_exported : Tree
all_exported = two shape.ExportAllDeclaration absent (text (codes "n"))

module_ports : frames_in (one (shape.Program true []) (listed (imported ▸ does (called (global (codes "f"))) ▸ three shape.ExportNamedDeclaration (declaration Let (bound 1) (called (global (codes "f")))) (listed none) absent
    ▸ specified ▸ three shape.ExportNamedDeclaration (function true 1 (bound 2)) (listed none) absent ▸ all_exported ▸ none))) ≡
    framed 0 (node (shape.Program true []) [] 0 (imported ▸ three shape.ExportNamedDeclaration (node (shape.VariableDeclaration Let) (name 1 ∷ []) 0 none) (listed none) absent
    ▸ specified ▸ three shape.ExportNamedDeclaration (node (shape.Function true false []) (name 2 ∷ []) 1 none) (listed none) absent ▸ all_exported ▸ none))
    ∷ framed 1 (numbered 1 (shape.Function true false []) (bound 2 ▸ listed none ▸ absent ▸ none)) ∷ []
unfolding names_of body_names
module_ports = refl

-- `export default f();` and `export default function () {}`: an expression is the program's body's,
-- and a declaration isn't
default_expression : frames_in (one (shape.Program true []) (listed (one shape.ExportDefaultDeclaration (called (global (codes "f"))) ▸ none))) ≡
    framed 0 (node (shape.Program true []) [] 0 (one shape.ExportDefaultDeclaration absent ▸ none)) ∷ []
default_expression = refl

default_function : frames_in (one (shape.Program true []) (listed (one shape.ExportDefaultDeclaration (function true 1 absent) ▸ none))) ≡
    framed 0 (node (shape.Program true []) [] 0 (one shape.ExportDefaultDeclaration (numbered 1 (shape.Function true false []) none) ▸ none))
    ∷ framed 1 (numbered 1 (shape.Function true false []) (absent ▸ listed none ▸ absent ▸ none)) ∷ []
unfolding names_of body_names
default_function = refl
