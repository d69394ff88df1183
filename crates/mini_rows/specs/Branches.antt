-- Rows of `if`, of blocks as branches and as bodies of loops, of a `switch`, and of `return`
-- without a value: each is a shape and what is written in its place, with the JavaScript before and
-- after.
use Rattle.std.specs.Prelude.{◌≡◌, ◌⊎◌, ◌<◌, Bool, true, false, not, [], Some, if◌then◌else◌}
use Rattle.mini_model.specs.declared.operator.LogicalOperator.TheVariants.{Or, And}
use Rattle.mini_model.specs.declared.operator.UnaryOperator.TheVariants.{Void}
use Rattle.mini_model.specs.declared.place.Position.{Position}
use Rattle.mini_model.specs.declared.place.Position.TheVariants.{Stmt}
use Rattle.mini_model.specs.declared.seat.Seat.{Seat}
use Rattle.mini_model.specs.declared.shape.Shape.{Shape}
use Rattle.mini_model.specs.declared.shape.Shape.TheVariants as shape
use Rattle.mini_model.specs.Paths.{append}
use Rattle.mini_model.specs.Tree.{Tree, Trees, node, none, ◌▸◌, shape_of, is_absent, absent, empty_statement, expression_statement, if_else, if_alone, negation, logical, unary}
use Rattle.mini_model.specs.Position.{if_test_seat, left_operand_seat, statement_expression_seat}
use Rattle.mini_model.specs.Weight.{weight}
use Rattle.mini_model.specs.Terms.{not_of, has_negated_result}
use Rattle.mini_laws.specs.Value.{Value, truth}
use Rattle.mini_terms.specs.Calculated.{operand_value}
use Rattle.mini_terms.specs.Folds.{is_effect_free}
use Rattle.mini_terms.specs.Parts.{leaves_nothing}
use Rattle.mini_rows.specs.Lists.{block, return_statement, is_unscoped, sequence}
use Rattle.mini_rows.specs.Loops.{bare_break, Row84}
use Rattle.mini_rows.specs.Spellings.{IsUndefined}
use Rattle.mini_rows.specs.Cases.{OneCaseRow}
use Rattle.mini_rows.specs.DeadCases.{DeadCaseRow}

-- ---- terms

-- `;` and `{}`
abbrev pub IsEmpty : Tree → Type 0
IsEmpty t = (t ≡ empty_statement) ⊎ (t ≡ block none)

-- an `if` with `else`
abbrev pub has_else : Tree → Bool
has_else (node shape.IfStatement xs n (a ▸ (b ▸ (c ▸ ts)))) = not (is_absent c)
has_else _ = false

abbrev pub is_expression_shape : Shape → Bool
is_expression_shape shape.ExpressionStatement = true
is_expression_shape shape.InnerExpression = true
is_expression_shape shape.Absent = true
is_expression_shape _ = false

-- a branch that is there, and is no expression statement
abbrev pub is_other_branch : Tree → Bool
is_other_branch t = not (is_expression_shape (shape_of t))

-- a statement as a consequent: an `if` with `else` has a block around it there
abbrev pub as_consequent : Tree → Tree
as_consequent t = if has_else t then block (t ▸ none) else t

-- ---- 60

-- `void a`, where a has no effect and nothing of it is left behind
pub record IsIdleVoid (t : Tree) : Type 0 where
  pub operand : Tree
  pub effect_free : is_effect_free operand ≡ true
  pub dropped : leaves_nothing operand ≡ true
  pub is : t ≡ unary Void operand

-- `return undefined;`, `return void 0;` and `return void a;` become `return;`
pub record Row60 (n w : Tree) : Type 0 where
  pub argument : Tree
  pub undefined : IsUndefined argument ⊎ IsIdleVoid argument
  pub shape : n ≡ return_statement argument
  pub written : w ≡ return_statement absent

-- ---- 79

-- a branch of an `if`, or the body of a loop, with what else the statement has
pub data Surrounding : Type 0 where
  -- `if (a) □ else u`, and the same without `else`
  Consequent : Tree → Tree → Surrounding
  -- `if (a) s else □`
  Alternate : Tree → Tree → Surrounding
  -- `while (a) □`
  WhileBody : Tree → Surrounding
  -- `do □ while (a);`
  DoBody : Tree → Surrounding
  -- `for (init; test; update) □`
  ForBody : Tree → Tree → Tree → Surrounding
  -- `for (left in right) □`
  InBody : Tree → Tree → Surrounding
  -- `for (left of right) □`
  OfBody : Tree → Tree → Surrounding

abbrev pub around : Surrounding → Tree → Tree
around (Consequent a u) c = if_else a c u
around (Alternate a s) c = if_else a s c
around (WhileBody a) c = node shape.WhileStatement [] 0 (a ▸ (c ▸ none))
around (DoBody a) c = node shape.DoWhileStatement [] 0 (c ▸ (a ▸ none))
around (ForBody init test update) c = node shape.ForStatement [] 0 (init ▸ (test ▸ (update ▸ (c ▸ none))))
around (InBody left right) c = node shape.ForInStatement [] 0 (left ▸ (right ▸ (c ▸ none)))
around (OfBody left right) c = node shape.ForOfStatement [] 0 (left ▸ (right ▸ (c ▸ none)))

-- an `if` with `else` keeps its block as a consequent
abbrev pub keeps_block : Surrounding → Tree → Bool
keeps_block (Consequent a u) c = has_else c
keeps_block k c = false

-- `if (a) { b(); } else { c(); }` becomes `if (a) b(); else c();`, a branch at a time, and
-- `while (a) { b(); }` becomes `while (a) b();`: a block of one statement that isn't scoped becomes
-- that statement
pub record Row79 (n w : Tree) : Type 0 where
  pub place : Surrounding
  pub statement : Tree
  pub unscoped : is_unscoped statement ≡ true
  pub bare : keeps_block place statement ≡ false
  pub shape : n ≡ around place (block (statement ▸ none))
  pub written : w ≡ around place statement

-- ---- 78, of loops

-- `continue;`
abbrev pub bare_continue : Tree
bare_continue = node shape.ContinueStatement [] 0 (absent ▸ none)

-- the body of a loop
abbrev pub is_loop : Surrounding → Bool
is_loop (Consequent a u) = false
is_loop (Alternate a s) = false
is_loop k = true

-- `while (a) { b(); continue; }` becomes `while (a) { b(); }`: where the body ends the loop goes on
-- by itself
pub record Row78Block (n w : Tree) : Type 0 where
  pub place : Surrounding
  pub before : Trees
  pub loop : is_loop place ≡ true
  pub shape : n ≡ around place (block (append before (bare_continue ▸ none)))
  pub written : w ≡ around place (block before)

-- `while (a) continue;` becomes `while (a);`
pub record Row78Whole (n w : Tree) : Type 0 where
  pub place : Surrounding
  pub loop : is_loop place ≡ true
  pub shape : n ≡ around place bare_continue
  pub written : w ≡ around place empty_statement

-- ---- 78, of a `do` that is run once

-- a test that does nothing but give a value that is false: `0`, `""`, `!1`, `null`, `void 0`, the
-- name `undefined`, which no scope declares
pub record IsFalse (t : Tree) : Type 0 where
  pub value : Value
  pub fails : truth value ≡ false
  pub is : operand_value t ≡ Some value

-- `do { a(); break; } while (0);` becomes `do { a(); } while (0);`: behind its body the loop ends
-- either way
pub record Row78Once (n w : Tree) : Type 0 where
  pub test : Tree
  pub before : Trees
  pub fails : IsFalse test
  pub shape : n ≡ around (DoBody test) (block (append before (bare_break ▸ none)))
  pub written : w ≡ around (DoBody test) (block before)

-- `do break; while (0);` becomes `do ; while (0);`
pub record Row78Never (n w : Tree) : Type 0 where
  pub test : Tree
  pub fails : IsFalse test
  pub shape : n ≡ around (DoBody test) bare_break
  pub written : w ≡ around (DoBody test) empty_statement

-- ---- 82, with an empty consequent

-- `if (a); else b;` becomes `a || b;`
pub record Row82EmptyOr (n w : Tree) : Type 0 where
  pub a : Tree
  pub empty : Tree
  pub b : Tree
  pub is_empty : IsEmpty empty
  pub plain : has_negated_result a ≡ false
  pub shape : n ≡ if_else a empty (expression_statement b)
  pub written : w ≡ expression_statement (logical Or a b)

-- the seat of the a in `a && b;`
abbrev pub conjunct_seat : Seat
conjunct_seat = left_operand_seat And statement_expression_seat

-- `if (!a); else b;` becomes `a && b;`
pub record Row82EmptyAnd (n w : Tree) : Type 0 where
  pub a : Tree
  pub empty : Tree
  pub b : Tree
  pub is_empty : IsEmpty empty
  pub negated : has_negated_result a ≡ true
  pub shape : n ≡ if_else a empty (expression_statement b)
  pub written : w ≡ expression_statement (logical And (not_of conjunct_seat a) b)

-- ---- 82, of a sequence that ends in a `!`

-- an expression that is a `!`, and a sequence whose last part ends in one
pub data Ending : Type 0 where
  not_of_all : Tree → Ending
  after : Tree → Trees → Ending → Ending

-- `!a`, and `a, b, !c`
abbrev pub with_not : Ending → Tree
with_not (not_of_all a) = negation a
with_not (after a bs c) = sequence (a ▸ append bs (with_not c ▸ none))

-- without that `!`: `a`, and `a, b, c`
abbrev pub without_not : Ending → Tree
without_not (not_of_all a) = a
without_not (after a bs c) = sequence (a ▸ append bs (without_not c ▸ none))

-- `if (a, !b) c;` becomes `(a, b) || c;`
pub record Row82EndsOr (n w : Tree) : Type 0 where
  pub first : Tree
  pub others : Trees
  pub last : Ending
  pub b : Tree
  pub shape : n ≡ if_alone (with_not (after first others last)) (expression_statement b)
  pub written : w ≡ expression_statement (logical Or (without_not (after first others last)) b)

-- and with an empty consequent `if (a, !b); else c;` becomes `(a, b) && c;`
pub record Row82EndsAnd (n w : Tree) : Type 0 where
  pub first : Tree
  pub others : Trees
  pub last : Ending
  pub empty : Tree
  pub b : Tree
  pub is_empty : IsEmpty empty
  pub shape : n ≡ if_else (with_not (after first others last)) empty (expression_statement b)
  pub written : w ≡ expression_statement (logical And (without_not (after first others last)) b)

-- ---- 83

-- `if (a);` becomes `a;`
pub record Row83Alone (n w : Tree) : Type 0 where
  pub a : Tree
  pub empty : Tree
  pub is_empty : IsEmpty empty
  pub shape : n ≡ if_alone a empty
  pub written : w ≡ expression_statement a

-- `if (a); else return b;` becomes `if (!a) return b;`, and what comes to be an `if` with `else` as
-- a consequent has a block
pub record Row83Else (n w : Tree) : Type 0 where
  pub a : Tree
  pub empty : Tree
  pub u : Tree
  pub is_empty : IsEmpty empty
  pub other : is_other_branch u ≡ true
  pub shape : n ≡ if_else a empty u
  pub written : w ≡ if_alone (not_of if_test_seat a) (as_consequent u)

-- `if (a) if (b) c;` becomes `if (a && b) c;`
pub record Row83Nested (n w : Tree) : Type 0 where
  pub a : Tree
  pub b : Tree
  pub s : Tree
  pub shape : n ≡ if_alone a (if_alone b s)
  pub written : w ≡ if_alone (logical And a b) s

-- `if (a) if (b) c; else d;`, where the `else` is that of the second `if`, becomes
-- `if (a) { if (b) c; else d; }`
pub record Row83Block (n w : Tree) : Type 0 where
  pub a : Tree
  pub c : Tree
  pub u : Tree
  pub chooses : has_else c ≡ true
  pub shape : n ≡ if_else a c u
  pub written : w ≡ if_else a (block (c ▸ none)) u

-- ---- all

abbrev pub Row82Empty : Tree → Tree → Type 0
Row82Empty n w = Row82EmptyOr n w ⊎ Row82EmptyAnd n w

abbrev pub Row82Ends : Tree → Tree → Type 0
Row82Ends n w = Row82EndsOr n w ⊎ Row82EndsAnd n w

abbrev pub Row83 : Tree → Tree → Type 0
Row83 n w = Row83Alone n w ⊎ (Row83Else n w ⊎ (Row83Nested n w ⊎ Row83Block n w))

abbrev pub IfRow : Tree → Tree → Type 0
IfRow n w = Row82Empty n w ⊎ (Row83 n w ⊎ Row82Ends n w)

abbrev pub Row78 : Tree → Tree → Type 0
Row78 n w = Row78Block n w ⊎ Row78Whole n w

abbrev pub Row78Do : Tree → Tree → Type 0
Row78Do n w = Row78Once n w ⊎ Row78Never n w

-- those of branches and bodies
abbrev pub BodyRow : Tree → Tree → Type 0
BodyRow n w = Row79 n w ⊎ (Row78 n w ⊎ (Row78Do n w ⊎ Row84 n w))

-- of a `switch` of one case, and of one over a value that is known
abbrev pub SwitchRow : Tree → Tree → Type 0
SwitchRow n w = OneCaseRow n w ⊎ DeadCaseRow n w

-- of `return` without a value, and of a `switch`
abbrev pub StatementRow : Tree → Tree → Type 0
StatementRow n w = Row60 n w ⊎ SwitchRow n w

-- a row reads n as w at this place
abbrev pub BranchRow : Position → Tree → Tree → Type 0
BranchRow (Stmt q) n w = StatementRow n w ⊎ (BodyRow n w ⊎ IfRow n w)
BranchRow _ n w = ⊥

-- what a row writes, where it weighs less
pub record BranchContracts (p : Position) (n w : Tree) : Type 0 where
  pub row : BranchRow p n w
  pub lighter : weight p w < weight p n

-- what each row writes is lighter wherever the node stands
abbrev pub BranchLighter : Type 0
BranchLighter = (p : Position) (n w : Tree) → BranchRow p n w → weight p w < weight p n
