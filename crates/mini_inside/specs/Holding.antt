-- What holds a list of statements, and 72 and 71 there, `remove_unused_declaration`:
-- `{ let x = a(); b(); }` becomes `{ a(); b(); }`, `{ let x = 1; b(); }` becomes `{ ; b(); }`, and
-- `{ let x, y = b(); c(y); }` becomes `{ let y = b(); c(y); }`; so do the statements of a function,
-- of a module and of a static block, and there each `var`, too, and the cases of a switch and the
-- head of a `for`.
use Rattle.std.specs.Prelude.{◌≡◌, ◌⊎◌, ◌≤◌, ℕ, nat_eq, Bool, true, false, ◌&&◌, ◌||◌, List, [], ◌∷◌, if◌then◌else◌}
use Rattle.mini_model.specs.declared.name.Name.{Name}
use Rattle.mini_model.specs.declared.place.Position.{Position}
use Rattle.mini_model.specs.declared.shape.Shape.{Shape}
use Rattle.mini_model.specs.declared.shape.Shape.TheVariants as shape
use Rattle.mini_model.specs.Tree.{Tree, absent, shape_of, count, children}
use Rattle.mini_laws.specs.ScopeList.{has_eval}
use Rattle.mini_node.specs.Children.{names_of, part, with_part, is_bare}
use Rattle.mini_node.specs.Kinds.{is_listed, is_block}
use Rattle.mini_rows.specs.Switches.{Switches, Liberties}
use Rattle.mini_rows.specs.Unused.{declares_list, is_idle, FunctionBodyRow, SwitchRow, ForRow, ForNextRow, ForHeadRow, UnusedRow, UnusedContracts}
use Rattle.mini_tree.specs.declared.options.CompressOptions.{CompressOptions}
use Rattle.mini_tree.specs.Rule as rule
use Rattle.mini_unused.specs.Allowed.{allowed_in}
use Rattle.mini_unused.specs.Chains.{Several}
use Rattle.mini_unused.specs.RemoveUnusedDeclaration.{is_lexical_shape, declares_name, let_left}

-- an arrow function with statements: its parameters are a list, and its body has a list of
-- statements
abbrev pub is_arrow_shape : Shape → Bool
is_arrow_shape (shape.ArrowFunctionExpression directives) = true
is_arrow_shape _ = false

abbrev pub is_body_shape : Shape → Bool
is_body_shape shape.FunctionBody = true
is_body_shape _ = false

abbrev pub are_statements : Tree → Bool
are_statements t = is_body_shape (shape_of t) && (is_bare t 1 && is_listed (part t 0))

abbrev pub are_no_names : List Name → Bool
are_no_names [] = true
are_no_names (x ∷ xs) = false

abbrev pub has_statements : Tree → Bool
has_statements t = is_arrow_shape (shape_of t) && (are_no_names (names_of t) && (nat_eq (count (children t)) 2 && (is_listed (part t 0) && are_statements (part t 1))))

-- any other function with statements: its name, its parameters in a list, and its body
abbrev pub is_function_shape : Shape → Bool
is_function_shape (shape.Function is_declared is_generator directives) = true
is_function_shape _ = false

abbrev pub is_function : Tree → Bool
is_function t = is_function_shape (shape_of t) && (are_no_names (names_of t) && (nat_eq (count (children t)) 3 && (is_listed (part t 1) && are_statements (part t 2))))

-- a module with its statements
abbrev pub is_module_shape : Shape → Bool
is_module_shape (shape.Program true directives) = true
is_module_shape _ = false

abbrev pub is_module : Tree → Bool
is_module t = is_module_shape (shape_of t) && (is_bare t 1 && is_listed (part t 0))

-- a static block with its statements
abbrev pub is_static_shape : Shape → Bool
is_static_shape shape.StaticBlock = true
is_static_shape _ = false

abbrev pub is_static_block : Tree → Bool
is_static_block t = is_static_shape (shape_of t) && (are_no_names (names_of t) && (nat_eq (count (children t)) 1 && is_listed (part t 0)))

-- either
abbrev pub holds_list : Tree → Bool
holds_list t = is_module t || is_static_block t

-- or a block, as one of a `try`
abbrev pub holds_statements : Tree → Bool
holds_statements t = is_block t || holds_list t

-- a switch over a list of cases
abbrev pub is_switch_shape : Shape → Bool
is_switch_shape shape.SwitchStatement = true
is_switch_shape _ = false

abbrev pub is_switch : Tree → Bool
is_switch t = is_switch_shape (shape_of t) && (is_bare t 2 && is_listed (part t 1))

-- a case, with its statements in a list
abbrev pub is_case_shape : Shape → Bool
is_case_shape shape.SwitchCase = true
is_case_shape _ = false

abbrev pub is_case : Tree → Bool
is_case t = is_case_shape (shape_of t) && (is_bare t 2 && is_listed (part t 1))

-- of a switch the case at the place, and the switch with another list of statements there
abbrev pub case_at : Tree → ℕ → Tree
case_at t i = part (part t 1) i

abbrev pub with_statements : Tree → ℕ → Tree → Tree
with_statements t i l = with_part t 1 (with_part (part t 1) i (with_part (case_at t i) 1 l))

-- one call of it for the case at the place, and for those from there on
abbrev pub AppliedInCase : Switches → Tree → ℕ → Tree → Bool → Type 0
AppliedInCase o t i u true = Several (SwitchRow o) t u
AppliedInCase o t i u false = (u ≡ t) × ((w : Tree) (r : SwitchRow o t w) → count r.first ≡ i → ⊥)

abbrev pub AppliedInCases : Switches → Tree → ℕ → Tree → Bool → Type 0
AppliedInCases o t i u true = Several (SwitchRow o) t u
AppliedInCases o t i u false = (u ≡ t) × ((w : Tree) (r : SwitchRow o t w) → i ≤ count r.first → ⊥)

-- a `for` over a `let` or a `const`
abbrev pub is_for_shape : Shape → Bool
is_for_shape shape.ForStatement = true
is_for_shape _ = false

abbrev pub has_head : Tree → Bool
has_head t = is_for_shape (shape_of t) && (is_bare t 4 && (is_lexical_shape (shape_of (part t 0)) && declares_list (part t 0)))

-- of a list of declarators the one at the place has a name, and an initializer that nothing misses
abbrev pub is_idle_at : Tree → ℕ → Bool
is_idle_at l j = declares_name (part l j) && is_idle (part (part l j) 1)

-- what is left of the head without it: nothing, where it is the only one
abbrev pub head_without : Tree → ℕ → Tree
head_without t j = if is_bare (part t 0) 1 then absent else let_left t j

-- one call of it for the head of a `for`: of what drops a name, of what puts it into the next
-- declarator, and of both
abbrev pub AppliedOnce : (Tree → Tree → Type 0) → Tree → Tree → Bool → Type 0
AppliedOnce R t u true = R t u
AppliedOnce R t u false = (u ≡ t) × ((w : Tree) → R t w → ⊥)

abbrev pub AppliedIdle : Tree → Tree → Bool → Type 0
AppliedIdle = AppliedOnce ForRow

abbrev pub AppliedNext : Switches → Tree → Tree → Bool → Type 0
AppliedNext o = AppliedOnce (ForNextRow o)

abbrev pub AppliedInHead : Switches → Tree → Tree → Bool → Type 0
AppliedInHead o = AppliedOnce (ForHeadRow o)

-- the declarator at the place goes from it, or nothing misses its initializer only where a direct
-- eval stands there
abbrev pub IdleDropped : Tree → ℕ → Tree → Bool → Type 0
IdleDropped t j u true = (is_idle_at (part (part t 0) 0) j ≡ true) × (has_eval t ≡ false) × (u ≡ with_part t 0 (head_without (part t 0) j))
IdleDropped t j u false = (u ≡ t) × ((is_idle_at (part (part t 0) 0) j ≡ false) ⊎ (has_eval t ≡ true))

-- no row of these variables reads it as anything
abbrev pub RestsOver : Liberties → Position → Tree → Type 0
RestsOver W p n = (w : Tree) → UnusedRow W p n w → ⊥

-- one call of the rule
abbrev pub Applied : Liberties → Position → Tree → Tree → Bool → Type 0
Applied W = rule.Applied (UnusedContracts W) (RestsOver W)

-- one call of it for a function, wherever that stands
abbrev pub AppliedInFunction : Liberties → Tree → Tree → Bool → Type 0
AppliedInFunction W t u true = Several (FunctionBodyRow W) t u
AppliedInFunction W t u false = (u ≡ t) × ((w : Tree) → FunctionBodyRow W t w → ⊥)

-- over a program the rule makes what a row says of the variables that can be written in it and of
-- the options, and rests where none does
abbrev pub Gives : CompressOptions → Tree → Position → Tree → Tree → Type 0
Gives o q = UnusedContracts (allowed_in o q)

abbrev pub Rests : CompressOptions → Tree → Position → Tree → Type 0
Rests o q = RestsOver (allowed_in o q)
