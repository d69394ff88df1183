-- Small trees and runs for the computed examples.
use Rattle.std.specs.Prelude.{ℕ, Bool, true, false, List, [], ◌∷◌, Option, Some, None, codes, pos, nat_lt}
use Rattle.mini_model.specs.declared.kind.PropertyKind.TheVariants.{Init}
use Rattle.mini_model.specs.declared.kind.VariableDeclarationKind.{VariableDeclarationKind}
use Rattle.mini_model.specs.declared.operator.AssignmentOperator.{AssignmentOperator}
use Rattle.mini_model.specs.declared.operator.BinaryOperator.{BinaryOperator}
use Rattle.mini_model.specs.declared.operator.UpdateOperator.{UpdateOperator}
use Rattle.mini_model.specs.declared.shape.Shape.{Shape}
use Rattle.mini_model.specs.declared.shape.Shape.TheVariants as shape
use Rattle.mini_model.specs.Tree.{Tree, Trees, node, none, ◌▸◌, leaf, absent, listed, identifier, unresolved, expression_statement}
use Rattle.mini_laws.specs.Value.{Value, Undefined, Null, Object, Variable, Declared, Global, Slot, Holds, Missing, Uninitialised, choose, variable_eq}
use Rattle.mini_laws.specs.State.{Label, Entry, Event, Normal, Throws, Given, Answer, Writing, Writes, Refuses, Keeps, Environment}
use Rattle.mini_laws.specs.Body.{Program, BodyKind, ArrowExpression, Outcome, Ran, Run}

-- Trees

abbrev pub one : Shape → Tree → Tree
one h a = node h [] 0 (a ▸ none)

abbrev pub two : Shape → Tree → Tree → Tree
two h a b = node h [] 0 (a ▸ b ▸ none)

abbrev pub three : Shape → Tree → Tree → Tree → Tree
three h a b c = node h [] 0 (a ▸ b ▸ c ▸ none)

-- a node with this number
abbrev pub numbered : ℕ → Shape → Trees → Tree
numbered n h ts = node h [] n ts

-- a name that no scope declares, and one with a symbol
abbrev pub global : List ℕ → Tree
global s = identifier (unresolved s)

abbrev pub local : ℕ → Tree
local n = identifier (record { spelling = codes "x"; symbol = Some (record { 0 = n }) })

abbrev pub bound : ℕ → Tree
bound n = node shape.BindingIdentifier (record { spelling = codes "x"; symbol = Some (record { 0 = n }) } ∷ []) 0 none

abbrev pub label : List ℕ → Tree
label s = leaf (shape.IdentifierName s)

abbrev pub number : ℕ → Tree
number n = leaf (shape.NumericLiteral (pos n))

abbrev pub text : List ℕ → Tree
text s = leaf (shape.StringLiteral s)

abbrev pub boolean : Bool → Tree
boolean b = leaf (shape.BooleanLiteral b)

abbrev pub null : Tree
null = leaf shape.NullLiteral

abbrev pub binary : BinaryOperator → Tree → Tree → Tree
binary o a b = two (shape.BinaryExpression o) a b

abbrev pub assign : AssignmentOperator → Tree → Tree → Tree
assign o a b = two (shape.AssignmentExpression o) a b

abbrev pub update : UpdateOperator → Bool → Tree → Tree
update o is_prefix a = one (shape.UpdateExpression o is_prefix) a

abbrev pub call : Tree → Trees → Tree
call f arguments = two (shape.CallExpression false) f (listed arguments)

abbrev pub called : Tree → Tree
called f = call f none

abbrev pub member : Tree → List ℕ → Tree
member object s = two (shape.StaticMemberExpression false) object (label s)

abbrev pub property : Tree → Tree → Tree
property key v = two (shape.ObjectProperty Init false false false) key v

abbrev pub sequence : Trees → Tree
sequence ts = one shape.SequenceExpression (listed ts)

-- `${..}` between two texts
abbrev pub template : List ℕ → Tree → List ℕ → Tree
template s a t = two shape.TemplateLiteral (listed (leaf (shape.TemplateElement false s (Some s)) ▸ leaf (shape.TemplateElement true t (Some t)) ▸ none)) (listed (a ▸ none))

-- a function with this number, this name or none, and no parameters
abbrev pub function : Bool → ℕ → Tree → Tree
function is_declaration n name = numbered n (shape.Function is_declaration false []) (name ▸ listed none ▸ one shape.FunctionBody (listed none) ▸ none)

-- a class with this number, this name or none, these members, and the name that it holds once more
-- or none
abbrev pub class_of : Bool → ℕ → Tree → Trees → Tree → Tree
class_of is_declaration n name members again = numbered n (shape.Class is_declaration) (name ▸ absent ▸ one shape.ClassBody (listed members) ▸ again ▸ none)

abbrev pub class : Bool → ℕ → Tree → Tree → Tree
class is_declaration n name again = class_of is_declaration n name none again

abbrev pub block : Trees → Tree
block ts = one shape.BlockStatement (listed ts)

abbrev pub script : Trees → Tree
script ts = one (shape.Program false []) (listed ts)

abbrev pub function_body : Trees → Tree
function_body ts = one shape.FunctionBody (listed ts)

abbrev pub does : Tree → Tree
does a = expression_statement a

abbrev pub declaration : VariableDeclarationKind → Tree → Tree → Tree
declaration k id init = one (shape.VariableDeclaration k) (listed (two shape.VariableDeclarator id init ▸ none))

abbrev pub returns : Tree → Tree
returns a = one shape.ReturnStatement a

abbrev pub for_loop : Tree → Tree → Tree → Tree → Tree
for_loop init test next body = node shape.ForStatement [] 0 (init ▸ test ▸ next ▸ body ▸ none)

-- Runs

-- f, g and h are functions, o an object, and a is undefined; the symbols 0 to 4 are undefined, and
-- the others have no value yet
abbrev pub known_global : Variable → Slot
known_global x =
    choose (variable_eq x (Global (codes "f"))) (Holds (Object 4 true)) (choose (variable_eq x (Global (codes "g"))) (Holds (Object 5 true)) (choose (variable_eq x (Global (codes "h"))) (Holds (Object 6 true)) (choose (variable_eq x (Global (codes "o"))) (Holds (Object 7 false)) (choose (variable_eq x (Global (codes "a"))) (Holds Undefined)
    Missing))))

abbrev pub start : Variable → Slot
start (Declared n) = choose (nat_lt n 5) (Holds Undefined) Uninitialised
start (Global s) = known_global (Global s)

-- the symbol 8 is a constant, and 9 the name of a function expression in sloppy code
abbrev pub fixed : Variable → Writing
fixed x = choose (variable_eq x (Declared 8)) Refuses (choose (variable_eq x (Declared 9)) Keeps Writes)

-- the symbol 7 is shared
abbrev pub environment : Environment
environment = record { shared = variable_eq (Declared 7); foreign = variable_eq (Global (codes "a")); fixed = fixed; asks_this = false }

-- answers that change nothing, and bind 7 to null
abbrev pub answer : Given → Answer
answer g = record { given = g; news = λ x. None; binds = λ x. Null }

abbrev pub gives : Value → Answer
gives v = answer (Normal v)

abbrev pub throws : Value → Answer
throws v = answer (Throws v)

-- what a run shows of its events, and its outcome
pub record Shown : Type 0 where
  pub events : List (Label × (Option ℕ × List Entry))
  pub outcome : Outcome

abbrev pub traced : List Event → List (Label × (Option ℕ × List Entry))
traced [] = []
traced (e ∷ es) = (e.label, (e.number, e.operands)) ∷ traced es

abbrev pub shown : Option Ran → Option Shown
shown None = None
shown (Some r) = Some (record { events = traced r.events; outcome = r.outcome })

-- three turns of loops
abbrev pub run_of : BodyKind → Tree → List Answer → Option Shown
run_of k t answers = shown (Run environment k t start Undefined answers 3)

abbrev pub value_of : Tree → List Answer → Option Shown
value_of t answers = run_of ArrowExpression t answers

-- what the events show of a shared variable
abbrev pub slots : Variable → List Event → List Slot
slots x [] = []
slots x (e ∷ es) = e.shared x ∷ slots x es

abbrev pub slots_of : Variable → Option Ran → List Slot
slots_of x None = []
slots_of x (Some r) = slots x r.events

abbrev pub slots_in : Variable → Tree → List Answer → List Slot
slots_in x t answers = slots_of x (Run environment Program t start Undefined answers 3)
