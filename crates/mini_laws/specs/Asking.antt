-- What each shape asks of its children.
use Rattle.std.specs.Prelude.{ℕ, zero, suc, Bool, true, false, List, length, Option, Some, None}
use Rattle.mini_model.specs.declared.kind.VariableDeclarationKind.{VariableDeclarationKind}
use Rattle.mini_model.specs.declared.kind.VariableDeclarationKind.TheVariants.{Var}
use Rattle.mini_model.specs.declared.operator.LogicalOperator.{LogicalOperator}
use Rattle.mini_model.specs.declared.operator.LogicalOperator.TheVariants.{Or, And, Coalesce}
use Rattle.mini_model.specs.declared.operator.UnaryOperator.{UnaryOperator}
use Rattle.mini_model.specs.declared.operator.UnaryOperator.TheVariants.{LogicalNot, Typeof, Delete}
use Rattle.mini_model.specs.declared.shape.Shape.{Shape}
use Rattle.mini_model.specs.declared.shape.Shape.TheVariants as shape
use Rattle.mini_laws.specs.Demand.{Want, Val, Test, Unused, Tail, LoopTail, FunctionTail, Demand, As, Callee, OfType, Deleted, Target, AnEntry, Items, Parts, Texts, Stat, Declares, Binds, Heads, ClassValue, Cases, ACase, Catches}
use Rattle.mini_laws.specs.Naming.{Declared, Variables, AClass, Facts, first_facts, is_lexical}

-- what a part that gives the node's value is asked; where a statement stands no value is
abbrev pub pass : Demand → Want
pass (As w) = w
pass (Stat t) = Unused
pass _ = Val

abbrev pub first_demand : Demand → Demand → ℕ → Demand
first_demand p q zero = p
first_demand p q (suc i) = q

abbrev pub cons_demand : Demand → (ℕ → Demand) → ℕ → Demand
cons_demand q σ zero = q
cons_demand q σ (suc i) = σ i

-- Expressions

abbrev pub and_or_demand : Want → ℕ → Demand
and_or_demand Val i = As Val
and_or_demand Test i = As Test
and_or_demand Unused zero = As Test
and_or_demand Unused (suc i) = As Unused

abbrev pub logical_demand : LogicalOperator → Want → ℕ → Demand
logical_demand And w = and_or_demand w
logical_demand Or w = and_or_demand w
logical_demand Coalesce w = λ i. As Val

abbrev pub operand_demand : UnaryOperator → Demand
operand_demand LogicalNot = As Test
operand_demand Typeof = OfType
operand_demand Delete = Deleted
operand_demand _ = As Val

-- a chain is asked for the reference that it stands for
abbrev pub chained : Demand → Demand
chained (As w) = As w
chained Callee = Callee
chained Deleted = Deleted
chained _ = As Val

-- of a sequence with this many parts after the first: the value is that of the last
abbrev pub parts_demand : ℕ → Want → ℕ → Demand
parts_demand zero w = cons_demand (As w) (λ i. As Unused)
parts_demand (suc n) w = cons_demand (As Unused) (parts_demand n w)

abbrev pub sequence_demand : ℕ → Want → ℕ → Demand
sequence_demand zero w = λ i. As Unused
sequence_demand (suc n) w = parts_demand n w

-- Statements

-- the tail of a statement that this many others follow
abbrev pub last_tail : ℕ → Option Tail → Option Tail
last_tail zero t = t
last_tail (suc n) t = None

-- of this many statements
abbrev pub tail_demand : ℕ → Option Tail → ℕ → Demand
tail_demand zero t = λ i. Stat None
tail_demand (suc n) t = cons_demand (Stat (last_tail n t)) (tail_demand n t)

abbrev pub tail_of : Demand → Demand
tail_of (Stat t) = Stat t
tail_of q = Stat None

abbrev pub try_demand : ℕ → Demand
try_demand (suc zero) = Catches
try_demand i = Stat None

abbrev pub do_demand : ℕ → Demand
do_demand zero = Stat (Some LoopTail)
do_demand (suc i) = As Test

-- the head of a `for`, and that of a `for..in` or `for..of`: a declaration, or an expression or a
-- target
abbrev pub head_demand : Option Declared → Demand
head_demand (Some (Variables k)) = Stat None
head_demand _ = As Unused

abbrev pub for_demand : Option Declared → ℕ → Demand
for_demand d zero = head_demand d
for_demand d (suc zero) = As Test
for_demand d (suc (suc zero)) = As Unused
for_demand d (suc (suc (suc i))) = Stat (Some LoopTail)

abbrev pub left_demand : Option Declared → Demand
left_demand (Some (Variables Var)) = Heads
left_demand (Some (Variables k)) = Binds true
left_demand _ = Target

abbrev pub each_demand : Option Declared → ℕ → Demand
each_demand d zero = left_demand d
each_demand d (suc zero) = As Val
each_demand d (suc (suc i)) = Stat (Some LoopTail)

-- Declarations

abbrev pub declaration_demand : VariableDeclarationKind → Demand → Demand
declaration_demand k (Binds lexical) = Binds lexical
declaration_demand k Heads = Heads
declaration_demand k q = Declares (is_lexical k)

abbrev pub lexically : Demand → Bool
lexically (Declares lexical) = lexical
lexically (Binds lexical) = lexical
lexically q = false

abbrev pub exported_demand : Option Declared → Demand
exported_demand (Some AClass) = ClassValue
exported_demand _ = As Val

-- Lists

abbrev pub list_demand : ℕ → Demand → ℕ → Demand
list_demand n (Stat t) = tail_demand n t
list_demand n Items = λ i. AnEntry
list_demand n (Parts w) = sequence_demand n w
list_demand n Texts = λ i. As Val
list_demand n (Declares lexical) = λ i. Declares lexical
list_demand n (Binds lexical) = λ i. Binds lexical
list_demand n Heads = λ i. Heads
list_demand n Cases = λ i. ACase
list_demand n q = λ i. Stat None

-- what asks no child asks whatever stands here
abbrev pub demand : Shape → List Facts → Demand → ℕ → Demand
demand shape.Listed fs q = list_demand (length fs) q
demand shape.InnerExpression fs q = first_demand q (Stat None)
-- bodies
demand shape.FunctionBody fs q = λ i. Stat (Some FunctionTail)
-- statements
demand shape.ExpressionStatement fs q = λ i. As Unused
demand shape.BlockStatement fs q = λ i. tail_of q
demand shape.LabeledStatement fs q = first_demand (As Val) (Stat None)
demand shape.BreakStatement fs q = λ i. As Val
demand shape.ContinueStatement fs q = λ i. As Val
demand shape.ReturnStatement fs q = λ i. As Val
demand shape.ThrowStatement fs q = λ i. As Val
demand shape.IfStatement fs q = first_demand (As Test) (tail_of q)
demand shape.SwitchStatement fs q = first_demand (As Val) Cases
demand shape.SwitchCase fs q = first_demand (As Val) (Stat None)
demand shape.TryStatement fs q = try_demand
demand shape.CatchClause fs q = first_demand (Binds true) (Stat None)
demand shape.WhileStatement fs q = first_demand (As Test) (Stat (Some LoopTail))
demand shape.DoWhileStatement fs q = do_demand
demand shape.ForStatement fs q = for_demand (first_facts fs).declared
demand shape.ForInStatement fs q = each_demand (first_facts fs).declared
demand shape.ForOfStatement fs q = each_demand (first_facts fs).declared
demand (shape.VariableDeclaration k) fs q = λ i. declaration_demand k q
demand shape.VariableDeclarator fs q = first_demand (Binds (lexically q)) (As Val)
demand (shape.Class is_declaration) fs q = λ i. Binds true
demand shape.ExportDefaultDeclaration fs q = λ i. exported_demand (first_facts fs).declared
-- expressions
demand shape.ArrayExpression fs q = λ i. Items
demand shape.ObjectExpression fs q = λ i. Items
demand (shape.ObjectProperty k is_method is_shorthand is_computed) fs q = λ i. As Val
demand shape.SpreadElement fs q = λ i. As Val
demand (shape.UnaryExpression o) fs q = λ i. operand_demand o
demand (shape.UpdateExpression o is_prefix) fs q = λ i. Target
demand (shape.BinaryExpression o) fs q = λ i. As Val
demand (shape.LogicalExpression o) fs q = logical_demand o (pass q)
demand (shape.AssignmentExpression o) fs q = first_demand Target (As Val)
demand shape.ConditionalExpression fs q = first_demand (As Test) (As (pass q))
demand shape.SequenceExpression fs q = λ i. Parts (pass q)
demand (shape.CallExpression is_optional) fs q = first_demand Callee Items
demand shape.NewExpression fs q = first_demand (As Val) Items
demand (shape.StaticMemberExpression is_optional) fs q = λ i. As Val
demand (shape.ComputedMemberExpression is_optional) fs q = λ i. As Val
demand shape.ChainExpression fs q = λ i. chained q
demand (shape.YieldExpression is_delegate) fs q = λ i. As Val
demand shape.TemplateLiteral fs q = λ i. Texts
demand _ fs q = λ i. Stat None
