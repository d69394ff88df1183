-- Calls for one name, of 62, 71 and 72.
use Rattle.std.specs.Prelude.{◌≡◌, ◌⊎◌, ℕ, Bool, true, false, not, ◌&&◌, ◌||◌, None}
use Rattle.mini_model.specs.declared.shape.Shape.{Shape}
use Rattle.mini_model.specs.declared.shape.Shape.TheVariants as shape
use Rattle.mini_model.specs.Tree.{Tree, Trees, child_or_absent, children}
use Rattle.mini_laws.specs.ScopeList.{has_eval}
use Rattle.mini_node.specs.Children.{names_of, part}
use Rattle.mini_node.specs.Kinds.{is_absent_part}
use Rattle.mini_rows.specs.Lists.{declares_nothing}
use Rattle.mini_rows.specs.Switches.{Liberties}
use Rattle.mini_unused.specs.RemoveUnusedDeclaration.{declares_name, may_declare, may_lose, is_alone, is_free_at, list_at}
use Rattle.mini_unused.specs.SubstituteNext.{NextAt, NextGone}

-- ---- 62, `try_remove_name_from_functions` and `try_remove_name_from_classes`

abbrev pub is_function : Shape → Bool
is_function (shape.Function is_declaration is_generator directives) = true
is_function h = false

abbrev pub is_class : Shape → Bool
is_class (shape.Class is_declaration) = true
is_class h = false

-- ---- 72, `should_remove_unused_declarator`

-- of a declarator that is alone in its declaration: an initializer becomes a statement
abbrev pub may_go_alone : Tree → Bool
may_go_alone init = is_absent_part init || declares_nothing init

-- the declarator at the place in the list of a declaration has a name that nothing else mentions,
-- which may go
abbrev pub goes_alone : Bool → Liberties → Tree → ℕ → Tree → Trees → ℕ → Bool
goes_alone free W l j o ts i = declares_name (part l j) && (may_lose free W (names_of (part (part l j) 0)) && (may_go_alone (part (part l j) 1) && is_alone (names_of (part (part l j) 0)) o (part (part l j) 1) (children l) j ts i))

-- and no direct eval sees it
abbrev pub should_go : Liberties → Tree → Tree → ℕ → ℕ → Bool
should_go W o l i j = (may_declare o (child_or_absent (children l) i) && goes_alone (is_free_at (children l) i) W (list_at (children l) i) j o (children l) i) && not (has_eval o || has_eval l)

-- ---- 71 in one declaration, `substitute_within`

-- a name that the next declarator read is gone; or there is none, or a direct eval sees it
abbrev pub Within : Liberties → Tree → Tree → Tree → Bool → Type 0
Within W o l m true = ((has_eval o || has_eval l) ≡ false) × NextGone W o l m
Within W o l m false = (m ≡ l) × (((has_eval o || has_eval l) ≡ true) ⊎ NextAt W o (children l) None)
