-- Programs that nearly do the same, and don't: each pair is told apart by one run from the start of
-- the computed examples, in which f, g and h are functions, o is an object, and a is undefined and
-- may be changed by an answer. The symbol 7, x below, is seen by others; y is the symbol 1, and c
-- the constant 8.
use Rattle.std.specs.Prelude.{true, false, codes}
use Rattle.mini_model.specs.declared.kind.VariableDeclarationKind.TheVariants.{Var, Let, Const}
use Rattle.mini_model.specs.declared.operator.AssignmentOperator.TheVariants as assignment
use Rattle.mini_model.specs.declared.operator.BinaryOperator.TheVariants as operator
use Rattle.mini_model.specs.declared.operator.LogicalOperator.TheVariants.{Or}
use Rattle.mini_model.specs.declared.operator.UnaryOperator.TheVariants as unary
use Rattle.mini_model.specs.declared.operator.UpdateOperator.TheVariants.{Increment}
use Rattle.mini_model.specs.declared.shape.Shape.TheVariants as shape
use Rattle.mini_model.specs.Tree.{Tree, Trees, none, ◌▸◌, leaf, absent, listed, logical}
use Rattle.mini_laws.specs.Value.{nothing}
use Rattle.mini_laws.specs.Body.{BodyKind, Program, FunctionStatements, ArrowExpression, SameBody}
use Rattle.mini_laws.specs.Samples.{one, two, three, numbered, global, local, bound, label, number, text, null, binary, assign, update, called, member, sequence, block, script, function_body, function, does, declaration, returns, for_loop, environment}

abbrev pub Unlike : BodyKind → Tree → Tree → Type 0
Unlike k n w = SameBody environment k nothing n w → ⊥

abbrev pub f : Tree
f = called (global (codes "f"))

abbrev pub g : Tree
g = called (global (codes "g"))

abbrev pub o : Tree
o = global (codes "o")

abbrev pub a : Tree
a = global (codes "a")

abbrev pub x : Tree
x = local 7

abbrev pub y : Tree
y = local 1

abbrev pub breaks : Tree
breaks = one shape.BreakStatement absent

abbrev pub continues : Tree
continues = one shape.ContinueStatement absent

abbrev pub tries : Trees → Trees → Tree
tries ts us = three shape.TryStatement (block ts) absent (block us)

abbrev pub case : Tree → Trees → Tree
case test ts = two shape.SwitchCase test (listed ts)

abbrev pub switch : Tree → Trees → Tree
switch v cases = two shape.SwitchStatement v (listed cases)

-- Conversions and operands

-- `+o - f()` converts o before f is called, and `o - f()` after
abbrev pub ConversionMoves : Type 0
ConversionMoves = Unlike ArrowExpression (binary operator.Subtraction (one (shape.UnaryExpression unary.UnaryPlus) o) f) (binary operator.Subtraction o f)

-- `f() * g()` and `g() * f()`
abbrev pub OperandsSwap : Type 0
OperandsSwap = Unlike ArrowExpression (binary operator.Multiplication f g) (binary operator.Multiplication g f)

-- `a == f()` reads a before f, which changes it, is called; `y = f(), a == y` after
abbrev pub ReadMoves : Type 0
ReadMoves = Unlike ArrowExpression (binary operator.StrictEquality a f) (sequence (assign assignment.Assign y f ▸ binary operator.StrictEquality a y ▸ none))

-- `1 == "1"` and `1 === "1"`
abbrev pub EqualitySharpens : Type 0
EqualitySharpens = Unlike ArrowExpression (binary operator.Equality (number 1) (text (codes "1"))) (binary operator.StrictEquality (number 1) (text (codes "1")))

-- References

-- `(0, o.k)()` and `o.k()`: `this`
abbrev pub ThisAppears : Type 0
ThisAppears = Unlike ArrowExpression (called (sequence (number 0 ▸ member o (codes "k") ▸ none))) (called (member o (codes "k")))

-- `delete (0, y)` gives true, and `delete y` is outside the model
abbrev pub DeletedName : Type 0
DeletedName = Unlike ArrowExpression (one (shape.UnaryExpression unary.Delete) (sequence (number 0 ▸ y ▸ none))) (one (shape.UnaryExpression unary.Delete) y)

-- `typeof z` and `typeof (0, z)`, where z is missing
abbrev pub MissingName : Type 0
MissingName = Unlike ArrowExpression (one (shape.UnaryExpression unary.Typeof) (global (codes "z"))) (one (shape.UnaryExpression unary.Typeof) (sequence (number 0 ▸ global (codes "z") ▸ none)))

-- `z; f();` and `f();`, where z is missing
abbrev pub AbsentDropped : Type 0
AbsentDropped = Unlike Program (script (does (global (codes "z")) ▸ does f ▸ none)) (script (does f ▸ none))

-- `z, f();` and `f();`, where z is missing
abbrev pub AbsentPartDropped : Type 0
AbsentPartDropped = Unlike Program (script (does (sequence (global (codes "z") ▸ f ▸ none)) ▸ none)) (script (does f ▸ none))

-- `null?.k.l` and `(null?.k).l`
abbrev pub ChainEnds : Type 0
ChainEnds =
    Unlike ArrowExpression (one shape.ChainExpression (member (two (shape.StaticMemberExpression true) null (label (codes "k"))) (codes "l"))) (member (one shape.ChainExpression (two (shape.StaticMemberExpression true) null (label (codes "k")))) (codes "l"))

-- Assignments

-- `o[o] += 1` converts its key once, and `o[o] = o[o] + 1` twice
abbrev pub KeyConvertsTwice : Type 0
KeyConvertsTwice =
    Unlike ArrowExpression (assign assignment.Addition (two (shape.ComputedMemberExpression false) o o) (number 1)) (assign assignment.Assign (two (shape.ComputedMemberExpression false) o o) (binary operator.Addition (two (shape.ComputedMemberExpression false) o o) (number 1)))

-- `a += f()` reads a first, and `a = f() + a` last
abbrev pub TargetReadLate : Type 0
TargetReadLate = Unlike ArrowExpression (assign assignment.Addition a f) (assign assignment.Assign a (binary operator.Addition f a))

-- `c ||= 1` of a constant that is true, and `c = c || 1`, which raises
abbrev pub ConstantWritten : Type 0
ConstantWritten =
    Unlike Program (script (declaration Const (bound 8) (number 1) ▸ does (assign assignment.LogicalOr (local 8) (number 1)) ▸ none)) (script (declaration Const (bound 8) (number 1) ▸ does (assign assignment.Assign (local 8) (logical Or (local 8) (number 1))) ▸ none))

-- `o.#k = f()`, a node with the number 2, evaluates o before f is called, and `y = f(), o.#k = y`
-- after
abbrev pub PrivateTargetMoves : Type 0
PrivateTargetMoves =
    Unlike ArrowExpression (assign assignment.Assign (numbered 2 (shape.PrivateFieldExpression false) none) f) (sequence (assign assignment.Assign y f ▸ assign assignment.Assign (numbered 2 (shape.PrivateFieldExpression false) none) y ▸ none))

-- `x = 1; f();` and `f(); x = 1;`: f sees x
abbrev pub WriteMoves : Type 0
WriteMoves = Unlike Program (script (declaration Let (bound 7) (number 0) ▸ does (assign assignment.Assign x (number 1)) ▸ does f ▸ none)) (script (declaration Let (bound 7) (number 0) ▸ does f ▸ does (assign assignment.Assign x (number 1)) ▸ none))

-- Statements

-- `try { f(); } finally { g(); }` and `f(); g();`, where f throws
abbrev pub FinalizerLost : Type 0
FinalizerLost = Unlike Program (script (tries (does f ▸ none) (does g ▸ none) ▸ none)) (script (does f ▸ does g ▸ none))

-- `try { return 1; } finally { return 2; }` and `return 1;`
abbrev pub FinalizerReplaces : Type 0
FinalizerReplaces = Unlike FunctionStatements (function_body (tries (returns (number 1) ▸ none) (returns (number 2) ▸ none) ▸ none)) (function_body (returns (number 1) ▸ none))

-- `switch (1) { case 1: f(); case 2: g(); }` and the same with `break;` after f
abbrev pub CaseSkipped : Type 0
CaseSkipped =
    Unlike Program (script (switch (number 1) (case (number 1) (does f ▸ none) ▸ case (number 2) (does g ▸ none) ▸ none) ▸ none)) (script (switch (number 1) (case (number 1) (does f ▸ breaks ▸ none) ▸ case (number 2) (does g ▸ none) ▸ none) ▸ none))

-- `switch (2) { default: f(); case 1: g(); }` and with the cases in the other order
abbrev pub DefaultMoves : Type 0
DefaultMoves =
    Unlike Program (script (switch (number 2) (case absent (does f ▸ none) ▸ case (number 1) (does g ▸ none) ▸ none) ▸ none)) (script (switch (number 2) (case (number 1) (does g ▸ none) ▸ case absent (does f ▸ none) ▸ none) ▸ none))

-- `do { if (1) continue; f(); } while (0)` and the same without `continue`, which stands in no tail
abbrev pub ContinueDropped : Type 0
ContinueDropped =
    Unlike Program (script (two shape.DoWhileStatement (block (three shape.IfStatement (number 1) continues absent ▸ does f ▸ none)) (number 0) ▸ none)) (script (two shape.DoWhileStatement (block (three shape.IfStatement (number 1) (leaf shape.EmptyStatement) absent ▸ does f ▸ none)) (number 0) ▸ none))

-- `do { break; } while (f())` and `do {} while (f())`: `break` is no end of a turn
abbrev pub BreakDropped : Type 0
BreakDropped = Unlike Program (script (two shape.DoWhileStatement (block (breaks ▸ none)) f ▸ none)) (script (two shape.DoWhileStatement (block none) f ▸ none))

-- `while (y = f()) { let x = 1; g(); }` and `let x; while (y = f()) { x = 1; g(); }`: a new x at
-- each turn
abbrev pub FreshLost : Type 0
FreshLost =
    Unlike Program (script (two shape.WhileStatement f (block (declaration Let (bound 7) (number 1) ▸ does g ▸ none)) ▸ none)) (script (declaration Let (bound 7) absent ▸ two shape.WhileStatement f (block (does (assign assignment.Assign x (number 1)) ▸ does g ▸ none)) ▸ none))

-- `for (let x = 0; f(); x++);` and `let x = 0; for (; f(); x++);`: x is copied for each turn
abbrev pub CopyLost : Type 0
CopyLost =
    Unlike Program (script (for_loop (declaration Let (bound 7) (number 0)) f (update Increment false x) (leaf shape.EmptyStatement) ▸ none)) (script (declaration Let (bound 7) (number 0) ▸ for_loop absent f (update Increment false x) (leaf shape.EmptyStatement) ▸ none))

-- `for (y of o) break;` closes the iterator, and `for (y of o);` doesn't
abbrev pub CloseLost : Type 0
CloseLost = Unlike Program (script (three shape.ForOfStatement y o breaks ▸ none)) (script (three shape.ForOfStatement y o (leaf shape.EmptyStatement) ▸ none))

-- `f(); function y() {}`, with the number 2, and the function expression `y = function () {}` there
abbrev pub FunctionLate : Type 0
FunctionLate = Unlike Program (script (does f ▸ function true 2 (bound 1) ▸ none)) (script (does f ▸ does (assign assignment.Assign y (function false 2 absent)) ▸ none))

-- `let x = f();` and `var x = f();`: a lexical name begins anew
abbrev pub LexicalLost : Type 0
LexicalLost = Unlike Program (script (declaration Let (bound 7) f ▸ none)) (script (declaration Var (bound 7) f ▸ none))
