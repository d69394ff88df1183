-- The row of a `for` whose body begins by leaving the loop.
use Rattle.std.specs.Prelude.{◌≡◌, Bool, true, false, not, ◌&&◌, ◌||◌, []}
use Rattle.mini_model.specs.declared.operator.LogicalOperator.TheVariants.{And}
use Rattle.mini_model.specs.declared.operator.UnaryOperator.TheVariants.{LogicalNot}
use Rattle.mini_model.specs.declared.shape.Shape.{Shape}
use Rattle.mini_model.specs.declared.shape.Shape.TheVariants as shape
use Rattle.mini_model.specs.Tree.{Tree, Trees, node, none, ◌▸◌, absent, empty_statement, if_else, negation, logical}
use Rattle.mini_rows.specs.Lists.{block, for_loop, is_unscoped, are_unscoped}

-- ---- terms

-- `break;`
abbrev pub bare_break : Tree
bare_break = node shape.BreakStatement [] 0 (absent ▸ none)

-- a `break` or a `continue`
abbrev pub is_leap_shape : Shape → Bool
is_leap_shape shape.BreakStatement = true
is_leap_shape shape.ContinueStatement = true
is_leap_shape _ = false

-- no jump in it goes out of it but by a value (ECMA-262, "ContainsUndefinedBreakTarget")
abbrev pub is_body_shape : Shape → Bool
is_body_shape (shape.Function is_declaration is_generator directives) = true
is_body_shape (shape.ArrowFunctionExpression directives) = true
is_body_shape shape.StaticBlock = true
is_body_shape _ = false

-- a `break` or a `continue` stands in it, functions and static blocks aside
abbrev mutual
  pub may_leap : Tree → Bool
  may_leap (node h xs n ts) = is_leap_shape h || (not (is_body_shape h) && any_may_leap ts)

  pub any_may_leap : Trees → Bool
  any_may_leap none = false
  any_may_leap (t ▸ ts) = may_leap t || any_may_leap ts

-- it is there; of a `!` it is asked of its operand, whose place it may take
abbrev pub is_there_by : Shape → Bool → Bool
is_there_by shape.Absent b = false
is_there_by shape.SwitchCase b = false
is_there_by (shape.UnaryExpression LogicalNot) b = b
is_there_by _ b = true

abbrev mutual
  pub is_there : Tree → Bool
  is_there (node h xs n ts) = is_there_by h (first_is_there ts)

  pub first_is_there : Trees → Bool
  first_is_there none = false
  first_is_there (t ▸ ts) = is_there t

-- an expression of a program is one: it is there, and has no statement in it but in functions and
-- static blocks
abbrev pub is_test : Tree → Bool
is_test t = is_there t && not (may_leap t)

-- ---- the head

-- the test of a `for`, which may be absent
pub data Tested : Type 0 where
  always : Tested
  while_true : Tree → Tested

abbrev pub test_of : Tested → Tree
test_of always = absent
test_of (while_true t) = t

abbrev pub is_tested : Tested → Bool
is_tested always = true
is_tested (while_true t) = is_there t

-- with another one beside it
abbrev pub also : Tested → Tree → Tree
also always x = x
also (while_true t) x = logical And t x

-- ---- the body

-- an `if` that leaves the loop: `if (x) break;`, `if (x) break; else s`, and
-- `if (x) s; else break;`
pub data Leaving : Type 0 where
  alone : Leaving
  or_else : Tree → Leaving
  unless : Tree → Leaving

abbrev pub leaves_by : Leaving → Tree → Tree
leaves_by alone x = if_else x bare_break absent
leaves_by (or_else s) x = if_else x bare_break s
leaves_by (unless s) x = if_else x s bare_break

-- the test by which the loop goes on
abbrev pub goes_by : Leaving → Tree → Tree
goes_by alone x = negation x
goes_by (or_else s) x = negation x
goes_by (unless s) x = x

-- what is run then
abbrev pub runs_on : Leaving → Tree
runs_on alone = empty_statement
runs_on (or_else s) = s
runs_on (unless s) = s

abbrev pub is_loose : Leaving → Bool
is_loose l = is_unscoped (runs_on l)

-- it is the body, or the first statement of a block, before others
pub data Leading : Type 0 where
  whole : Leading
  before : Trees → Leading

abbrev pub led : Leading → Tree → Tree
led whole t = t
led (before ts) t = block (t ▸ ts)

abbrev pub others_of : Leading → Trees
others_of whole = none
others_of (before ts) = ts

-- ---- 84

-- `for (i; t; u) { if (x) break; s }` becomes `for (i; t && !x; u) { s }`, and
-- `for (i; t; u) if (x) s; else break;` becomes `for (i; t && x; u) s`. Nothing in the block is a
-- `let`, a `const`, a class or a function
pub record Row84 (n w : Tree) : Type 0 where
  pub init : Tree
  pub test : Tested
  pub update : Tree
  pub leading : Leading
  pub leaving : Leaving
  pub x : Tree
  pub asked : is_test x ≡ true
  pub tested : is_tested test ≡ true
  pub loose : is_loose leaving ≡ true
  pub unscoped : are_unscoped (others_of leading) ≡ true
  pub shape : n ≡ for_loop init (test_of test) update (led leading (leaves_by leaving x))
  pub written : w ≡ for_loop init (also test (goes_by leaving x)) update (led leading (runs_on leaving))
