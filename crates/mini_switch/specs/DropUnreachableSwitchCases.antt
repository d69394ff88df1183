-- 81, `drop_unreachable_switch_cases`: `switch (2) { case 1: a(); case 2: b(); case 3: c(); }`
-- becomes `switch (2) { case 2: b(); c(); }`.
use Rattle.std.specs.Prelude.{ℕ, zero, ◌-◌, nat_lt, Bool, true, false, ◌&&◌, ◌||◌, Option, Some, None, if◌then◌else◌}
use Rattle.mini_model.specs.declared.shape.Shape.{Shape}
use Rattle.mini_model.specs.declared.shape.Shape.TheVariants as shape
use Rattle.mini_model.specs.Tree.{Tree, Trees, none, ◌▸◌, shape_of, children, count, absent, listed}
use Rattle.mini_node.specs.Children.{part, is_bare, first_children, rest_children}
use Rattle.mini_node.specs.Kinds.{is_absent_part, is_listed}
use Rattle.mini_laws.specs.Value.{Value}
use Rattle.mini_laws.specs.Operators.{strictly_equal}
use Rattle.mini_rows.specs.Cases.{switch_case}
use Rattle.mini_model.specs.Paths.{append}
use Rattle.mini_node.specs.Kinds.{is_named_leaf}
use Rattle.mini_rows.specs.DeadCases.{asked, tested, Choices, no_choices, choice, are_loose, are_plain_declarators, left_cases, cases_go, running, rest_goes}
use Rattle.mini_rows.specs.Lists.{switch, is_var_shape, is_declarator_shape}
use Rattle.mini_syntax.specs.Forms.{first_of}
use Rattle.mini_switch.specs.MinimizeSwitchStatements as inlining
use Rattle.mini_switch.specs.MinimizeSwitchStatements.{is_switch_shape, is_case}

-- ---- cases

-- each of some nodes is one
abbrev pub are_cases : Trees → Bool
are_cases none = true
are_cases (c ▸ cs) = is_case c && are_cases cs

-- their tests and statements
abbrev pub choices_of : Trees → Choices
choices_of none = no_choices
choices_of (c ▸ cs) = choice (part c 0) (children (part c 1)) (choices_of cs)

-- ---- which case is taken, by how many cases stand from it on

-- whether the value of a test is this one, where it is known
abbrev pub verdict_by : Value → Option Value → Option Bool
verdict_by v (Some w) = Some (strictly_equal v w)
verdict_by v None = None

abbrev pub verdict : Value → Tree → Option Bool
verdict v t = verdict_by v (tested t)

-- from here on where it is, and from a later one on where it isn't, or this is `default`
abbrev pub selected_by : Option Bool → Bool → ℕ → Option ℕ → Option ℕ
selected_by (Some true) is_default here later = Some here
selected_by (Some false) is_default here later = later
selected_by None true here later = later
selected_by None false here later = None

-- the first whose test is the value; 0 where none is, and nothing where a test before isn't known
abbrev pub selected : Value → Trees → Option ℕ
selected v none = Some 0
selected v (c ▸ cs) = selected_by (verdict v (part c 0)) (is_absent_part (part c 0)) (count (c ▸ cs)) (selected v cs)

abbrev pub any_default : Trees → Bool
any_default none = false
any_default (c ▸ cs) = is_absent_part (part c 0) || any_default cs

abbrev pub two_defaults : Trees → Bool
two_defaults none = false
two_defaults (c ▸ cs) = if is_absent_part (part c 0) then any_default cs else two_defaults cs

-- from the first `default` on; 0 where there is none
abbrev pub default_left : Trees → ℕ
default_left none = 0
default_left (c ▸ cs) = if is_absent_part (part c 0) then count (c ▸ cs) else default_left cs

-- from the only one on; nothing where there are two
abbrev pub only_default : Trees → Option ℕ
only_default cs = if two_defaults cs then None else Some (default_left cs)

abbrev pub or_default : Trees → Option ℕ → Option ℕ
or_default cs (Some zero) = only_default cs
or_default cs o = o

abbrev pub entry : Value → Trees → Option ℕ
entry v cs = or_default cs (selected v cs)

-- ---- what goes

-- `x`, or `x = a`, by its parts
abbrev pub is_binding_shape : Shape → Bool
is_binding_shape shape.BindingIdentifier = true
is_binding_shape _ = false

abbrev pub binds_name : Tree → Bool
binds_name d = is_declarator_shape (shape_of d) && (is_bare d 2 && (is_binding_shape (shape_of (part d 0)) && is_named_leaf (part d 0)))

abbrev pub some_plain : Trees → Bool
some_plain none = false
some_plain (d ▸ ds) = are_plain_declarators (d ▸ ds)

-- `var x = a, y;`
abbrev pub declares_names : Tree → Bool
declares_names t = is_var_shape (shape_of t) && (is_bare t 1 && (is_listed (part t 0) && some_plain (children (part t 0))))

-- from the case on that is taken
abbrev pub later_go : Choices → Bool
later_go no_choices = true
later_go (choice test statements cs) = rest_goes statements cs

-- where it stands at this place
abbrev pub others_go : ℕ → Trees → Bool
others_go i cs = cases_go (choices_of (first_children i cs)) && later_go (choices_of (rest_children i cs))

abbrev pub place_by : Trees → Option ℕ → Option ℕ
place_by cs (Some k) = if others_go (count cs - k) cs then Some (count cs - k) else None
place_by cs None = None

-- `switch (a) { .. }`
abbrev pub holds_cases : Tree → Bool
holds_cases t = is_switch_shape (shape_of t) && (is_bare t 2 && is_listed (part t 1))

-- it is of two cases or more, in which nothing is scoped
abbrev pub is_read : Tree → Bool
is_read t = holds_cases t && (nat_lt 1 (count (children (part t 1))) && (are_cases (children (part t 1)) && are_loose (choices_of (children (part t 1)))))

-- over this value
abbrev pub place_over : Trees → Option Value → Option ℕ
place_over cs (Some v) = place_by cs (entry v cs)
place_over cs None = None

-- the place of the case that is left, or how many there are where none is taken
abbrev pub place : Tree → Option ℕ
place t = if is_read t then place_over (children (part t 1)) (asked (part t 0)) else None

-- ---- what is written

-- the case that is taken, behind the names of those before it, or the first one with the names of
-- all
abbrev pub left_by : Choices → Choices → Choices → Tree
left_by all before (choice test statements cs) = switch_case test (append (left_cases before) (running statements cs))
left_by (choice test statements cs) before no_choices = switch_case test (left_cases (choice test statements cs))
left_by no_choices before no_choices = absent

abbrev pub left_at : ℕ → Trees → Tree
left_at i cs = left_by (choices_of cs) (choices_of (first_children i cs)) (choices_of (rest_children i cs))

abbrev pub dropped_at : Tree → ℕ → Tree
dropped_at t i = switch (part t 0) (listed (left_at i (children (part t 1)) ▸ none))

abbrev pub written_by : Tree → Option ℕ → Option Tree
written_by t (Some i) = Some (dropped_at t i)
written_by t None = None

abbrev pub written : Tree → Option Tree
written t = written_by t (place t)

-- what either rewrite of a `switch` makes: 80, or this
abbrev pub either_written : Tree → Option Tree
either_written t = first_of (inlining.written t) (written t)
