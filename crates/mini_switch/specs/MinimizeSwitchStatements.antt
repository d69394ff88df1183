-- 80, `minimize_switch_statement`: `switch (a) { case 1: b(); break; }` becomes
-- `if (a === 1) { b(); }`, `switch (a) { default: b(); break; }` becomes `{ a; b(); }`, and
-- `switch (a) { default: let x = b(); c(x); }` `{ a; { let x = b(); c(x); } }`.
use Rattle.std.specs.Prelude.{ℕ, ◌-◌, ◌<◌, Bool, true, false, not, ◌&&◌, ◌||◌, Option, Some, None, if◌then◌else◌}
use Rattle.mini_model.specs.declared.operator.BinaryOperator.TheVariants.{StrictEquality}
use Rattle.mini_model.specs.declared.place.Position.{Position}
use Rattle.mini_model.specs.declared.place.Position.TheVariants.{Stmt}
use Rattle.mini_model.specs.declared.shape.Shape.{Shape}
use Rattle.mini_model.specs.declared.shape.Shape.TheVariants as shape
use Rattle.mini_model.specs.Tree.{Tree, Trees, none, ◌▸◌, shape_of, children, child_or_absent, count, expression_statement, if_alone}
use Rattle.mini_model.specs.Weight.{weight}
use Rattle.mini_node.specs.Children.{part, is_bare, first_children}
use Rattle.mini_node.specs.Kinds.{is_absent_part, is_listed}
use Rattle.mini_rows.specs.Branches.{SwitchRow, BranchContracts}
use Rattle.mini_rows.specs.Cases.{breaks_out}
use Rattle.mini_rows.specs.Lists.{block, are_unscoped, declares_nothing}
use Rattle.mini_rows.specs.Spellings.{binary}
use Rattle.mini_syntax.specs.Forms.{is_list_of, is_plain}

abbrev pub is_switch_shape : Shape → Bool
is_switch_shape shape.SwitchStatement = true
is_switch_shape _ = false

abbrev pub is_case_shape : Shape → Bool
is_case_shape shape.SwitchCase = true
is_case_shape _ = false

abbrev pub is_break_shape : Shape → Bool
is_break_shape shape.BreakStatement = true
is_break_shape _ = false

abbrev pub is_label_shape : Shape → Bool
is_label_shape (shape.IdentifierName s) = true
is_label_shape _ = false

-- the first child is a label
abbrev pub has_label : Trees → Bool
has_label ts = is_label_shape (shape_of (child_or_absent ts 0))

-- `break;`
abbrev pub is_bare_break : Tree → Bool
is_bare_break t = is_break_shape (shape_of t) && (is_bare t 1 && is_absent_part (part t 0))

-- the last of some statements is `break;`
abbrev pub ends_in_break : Trees → Bool
ends_in_break ts = is_bare_break (child_or_absent ts (count ts - 1))

-- how many statements there are without it
abbrev pub unbroken_count : Trees → ℕ
unbroken_count ts = if ends_in_break ts then count ts - 1 else count ts

abbrev pub before_break : Trees → Trees
before_break ts = first_children (unbroken_count ts) ts

-- a `break` without a label in one of the statements ends what is around them
abbrev pub some_breaks : Trees → Bool
some_breaks none = false
some_breaks (t ▸ ts) = breaks_out t || some_breaks ts

-- `case a: ..`, or `default: ..`
abbrev pub is_case : Tree → Bool
is_case c = is_case_shape (shape_of c) && (is_bare c 2 && is_listed (part c 1))

-- none of the statements but a last `break;` leaves them by a `break`
abbrev pub stay_inside : Trees → Bool
stay_inside ts = not (some_breaks (before_break ts))

-- a case whose test is absent, or writes a value out, and then nothing in the case is scoped
abbrev pub may_be_tested : Tree → Trees → Bool
may_be_tested x ss = is_absent_part x || (is_plain x && are_unscoped ss)

abbrev pub can_be_inlined : Tree → Bool
can_be_inlined c = is_case c && (may_be_tested (part c 0) (children (part c 1)) && stay_inside (children (part c 1)))

-- `switch (a) { one case }`
abbrev pub holds_one_case : Tree → Bool
holds_one_case t = is_switch_shape (shape_of t) && (is_bare t 2 && is_list_of 1 (part t 1))

abbrev pub the_case : Tree → Tree
the_case t = part (part t 1) 0

abbrev pub inlines : Tree → Bool
inlines t = holds_one_case t && (declares_nothing (part t 0) && can_be_inlined (the_case t))

-- statements in which nothing is scoped, or a block that has their names
abbrev pub enclosed : Trees → Trees
enclosed ss = if are_unscoped ss then ss else (block ss ▸ none)

abbrev pub written_for : Tree → Tree → Trees → Tree
written_for d x ss = if is_absent_part x then block (expression_statement d ▸ enclosed ss) else if_alone (binary StrictEquality d x) (block ss)

abbrev pub inlined : Tree → Tree
inlined t = written_for (part t 0) (part (the_case t) 0) (before_break (children (part (the_case t) 1)))

abbrev pub written : Tree → Option Tree
written t = if inlines t then Some (inlined t) else None

-- what the rule makes
abbrev pub Gives : Position → Tree → Tree → Type 0
Gives (Stmt q) n w = SwitchRow n w × (weight (Stmt q) w < weight (Stmt q) n)
Gives _ n w = ⊥

-- the row reads it as nothing
abbrev pub Rests : Position → Tree → Type 0
Rests (Stmt q) n = (w : Tree) → SwitchRow n w → ⊥
Rests _ n = Unit {0}

-- what the rule makes is what a row of branches contracts
abbrev pub GivesContracts : Type 0
GivesContracts = (p : Position) (n w : Tree) → Gives p n w → BranchContracts p n w
