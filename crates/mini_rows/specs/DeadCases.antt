-- The rows of a `switch` over a value that is known: of its cases one is left, which has the
-- statements that run.
use Rattle.std.specs.Prelude.{◌≡◌, ◌⊎◌, ◌&&◌, ◌||◌, not, ℤ, pos, ℕ, zero, Bool, true, false, List, [], ◌∷◌, Option, Some, None, if◌then◌else◌}
use Rattle.mini_model.specs.declared.kind.VariableDeclarationKind.TheVariants.{Var}
use Rattle.mini_model.specs.declared.shape.Shape.TheVariants as shape
use Rattle.mini_model.specs.Paths.{append}
use Rattle.mini_model.specs.Tree.{Tree, Trees, node, none, ◌▸◌, leaf, absent, listed, is_absent, negation}
use Rattle.mini_laws.specs.Value.{Value, Undefined, Null, Boolean, Number, String, choose}
use Rattle.mini_laws.specs.Operators.{strictly_equal}
use Rattle.mini_terms.specs.Calculated.{free_value}
use Rattle.mini_terms.specs.Folds.{is_effect_free}
use Rattle.mini_rows.specs.Cases.{switch_case}
use Rattle.mini_rows.specs.Lists.{switch, void_zero, is_var_shape, are_unscoped, declares_nothing, any, are_terminated, encloses, left_behind, is_lighter_left}
use Rattle.mini_rows.specs.Loops.{is_body_shape}

-- ---- values that are written out

pub data Known : Type 0 where
  a_number : ℤ → Known
  a_text : List ℕ → Known
  a_truth : Bool → Known
  a_null : Known
  undefined : Known

-- `2`, `"a"`, `!0`, `null`, `void 0`: the lightest form of each value
abbrev pub known : Known → Tree
known (a_number n) = leaf (shape.NumericLiteral n)
known (a_text s) = leaf (shape.StringLiteral s)
known (a_truth true) = negation (leaf (shape.NumericLiteral (pos 0)))
known (a_truth false) = negation (leaf (shape.NumericLiteral (pos 1)))
known a_null = leaf shape.NullLiteral
known undefined = void_zero

abbrev pub value_of : Known → Value
value_of (a_number n) = Number n
value_of (a_text s) = String s
value_of (a_truth b) = Boolean b
value_of a_null = Null
value_of undefined = Undefined

-- ---- values that are known

-- what a discriminant gives where it gives a value, whatever it does besides: of `a(), 1 << 30`
-- that is 1073741824
abbrev pub asked : Tree → Option Value
asked d = choose (declares_nothing d) (free_value d) None

-- the value of a test without an effect, as `2`, `1 << 30`, `"a" + 1` and `void a`
abbrev pub tested : Tree → Option Value
tested t = choose (is_effect_free t) (asked t) None

-- ---- cases

-- each a test, which is absent in `default`, and its statements
pub data Choices : Type 0 where
  no_choices : Choices
  choice : Tree → Trees → Choices → Choices

abbrev pub cases_of : Choices → Trees
cases_of no_choices = none
cases_of (choice test statements cs) = switch_case test statements ▸ cases_of cs

-- these cases before others
abbrev pub before_others : Choices → Choices → Choices
before_others no_choices cs = cs
before_others (choice test statements bs) cs = choice test statements (before_others bs cs)

-- `switch (d) { .. }`
abbrev pub switch_over : Tree → Choices → Tree
switch_over d cs = switch d (listed (cases_of cs))

-- nothing in them is a `let`, a `const`, a class or a function
abbrev pub are_loose : Choices → Bool
are_loose no_choices = true
are_loose (choice test statements cs) = are_unscoped statements && are_loose cs

-- ---- what may go

-- no `var` stands in it, functions and static blocks aside
abbrev mutual
  pub hoists_nothing : Tree → Bool
  hoists_nothing (node h xs n ts) = is_body_shape h || (not (is_var_shape h) && hoist_nothing ts)

  pub hoist_nothing : Trees → Bool
  hoist_nothing none = true
  hoist_nothing (t ▸ ts) = hoists_nothing t && hoist_nothing ts

-- `x`, or `x = a`, of a `var`
abbrev pub is_plain_declarator : Tree → Bool
is_plain_declarator (node shape.VariableDeclarator [] zero (node shape.BindingIdentifier (x ∷ []) zero none ▸ (init ▸ none))) = true
is_plain_declarator _ = false

abbrev pub are_plain_declarators : Trees → Bool
are_plain_declarators none = true
are_plain_declarators (d ▸ ds) = is_plain_declarator d && are_plain_declarators ds

-- `var x = a, y;`
abbrev pub is_plain_var : Tree → Bool
is_plain_var (node (shape.VariableDeclaration Var) [] zero (node shape.Listed [] zero (d ▸ ds) ▸ none)) = are_plain_declarators (d ▸ ds)
is_plain_var _ = false

-- the names of `var`s in it weigh no more alone: there is none, it declares them itself, or they
-- are lighter
abbrev pub leaves_little : Tree → Bool
leaves_little t = (hoists_nothing t || is_plain_var t) || is_lighter_left t

-- statements that take along each name that can't be written, and of which nothing is left behind
-- but names of `var`s
abbrev pub all_go : Trees → Bool
all_go none = true
all_go (t ▸ ts) = (encloses false t && leaves_little t) && all_go ts

-- those names, each statement's in a `var` without initializers
abbrev pub left_all : Trees → Trees
left_all none = none
left_all (t ▸ ts) = append (left_behind t) (left_all ts)

abbrev pub left_cases : Choices → Trees
left_cases no_choices = none
left_cases (choice test statements cs) = append (left_all statements) (left_cases cs)

-- a test of which nothing is
abbrev pub test_goes : Tree → Bool
test_goes t = encloses false t && (is_absent t || declares_nothing t)

abbrev pub cases_go : Choices → Bool
cases_go no_choices = true
cases_go (choice test statements cs) = test_goes test && (all_go statements && cases_go cs)

-- ---- what runs

-- one of the statements ends in a jump
abbrev pub are_ended : Trees → Bool
are_ended ts = any (are_terminated ts)

-- the statements of a case and of those after it, up to the first that end in a jump; of others
-- after these the names
abbrev pub running : Trees → Choices → Trees
running statements no_choices = statements
running statements (choice test others cs) = if are_ended statements then append statements (left_cases (choice test others cs)) else append statements (running others cs)

-- of those after it nothing is left behind but statements that run
abbrev pub rest_goes : Trees → Choices → Bool
rest_goes statements no_choices = true
rest_goes statements (choice test others cs) = if are_ended statements then cases_go (choice test others cs) else test_goes test && rest_goes others cs

-- ---- which case is taken

-- a test that doesn't select its case (ECMA-262, "CaseClauseIsSelected")
pub record Missed (v : Value) (test : Tree) : Type 0 where
  pub value : Value
  pub is : tested test ≡ Some value
  pub other : strictly_equal v value ≡ false

abbrev pub AllMissed : Value → Choices → Type 0
AllMissed v no_choices = Unit {0}
AllMissed v (choice test statements cs) = Missed v test × AllMissed v cs

-- and `default` among such cases
abbrev pub AllPassed : Value → Choices → Type 0
AllPassed v no_choices = Unit {0}
AllPassed v (choice test statements cs) = (Missed v test ⊎ (test ≡ absent)) × AllPassed v cs

-- the first case whose test is the value
pub record Selected (v : Value) (before : Choices) (test : Tree) : Type 0 where
  pub value : Value
  pub is : tested test ≡ Some value
  pub equal : strictly_equal v value ≡ true
  pub passed : AllPassed v before

-- and where there is none, `default`
pub record Default (v : Value) (before : Choices) (test : Tree) (after : Choices) : Type 0 where
  pub is : test ≡ absent
  pub missed : AllMissed v before
  pub missed_later : AllMissed v after

abbrev pub Taken : Value → Choices → Tree → Choices → Type 0
Taken v before test after = Selected v before test ⊎ Default v before test after

-- there are others
abbrev pub are_several : Choices → Choices → Bool
are_several no_choices no_choices = false
are_several before after = true

-- ---- 81

-- `switch (2) { case 1: a(); case 2: b(); case 3: c(); break; case d: e(); }` becomes
-- `switch (2) { case 2: b(); c(); break; }`, and
-- `switch (2) { case 1: a(); default: b(); case 3: c(); }` becomes
-- `switch (2) { default: b(); c(); }`. The names that a `var` declares in what goes are declared in
-- the case that is left, before what runs or after it:
-- `switch (2) { case 1: var x = a(); case 2: b(x); }` becomes
-- `switch (2) { case 2: var x; b(x); }`, and so of `for (var x of a) b();` and of
-- `var { x } = a();`. And `switch (a(), 2) { case 1 << 20: b(); case 2: c(); }` becomes
-- `switch (a(), 2) { case 2: c(); }`
pub record Row81 (n w : Tree) : Type 0 where
  pub discriminant : Tree
  pub value : Value
  pub before : Choices
  pub test : Tree
  pub statements : Trees
  pub after : Choices
  pub asks : asked discriminant ≡ Some value
  pub taken : Taken value before test after
  pub several : are_several before after ≡ true
  pub loose : are_loose (before_others before (choice test statements after)) ≡ true
  pub dropped : cases_go before ≡ true
  pub rest_dropped : rest_goes statements after ≡ true
  pub shape : n ≡ switch_over discriminant (before_others before (choice test statements after))
  pub written : w ≡ switch_over discriminant (choice test (append (left_cases before) (running statements after)) no_choices)

-- `switch (2) { case 1: a(); case 3: var x = b(); }` becomes `switch (2) { case 1: var x; }`
pub record Row81None (n w : Tree) : Type 0 where
  pub discriminant : Tree
  pub value : Value
  pub test : Tree
  pub statements : Trees
  pub after : Choices
  pub asks : asked discriminant ≡ Some value
  pub missed : AllMissed value (choice test statements after)
  pub several : are_several no_choices after ≡ true
  pub loose : are_loose (choice test statements after) ≡ true
  pub dropped : cases_go (choice test statements after) ≡ true
  pub shape : n ≡ switch_over discriminant (choice test statements after)
  pub written : w ≡ switch_over discriminant (choice test (left_cases (choice test statements after)) no_choices)

abbrev pub DeadCaseRow : Tree → Tree → Type 0
DeadCaseRow n w = Row81 n w ⊎ Row81None n w
