-- 72 of a list of statements with what stands outside of it: `let x = a(); b();` becomes
-- `a(); b();`, `let x = 1; b();` becomes `; b();`, and `let x, y = b(); c(y);` becomes
-- `let y = b(); c(y);`; and of a `var`, too, that can be written.
use Rattle.std.specs.Prelude.{◌≡◌, ◌<◌, ℕ, suc, Bool, true, false, not, ◌&&◌, ◌||◌, List, [], ◌∷◌, Option, Some, None, is_some, if◌then◌else◌}
use Rattle.mini_model.specs.declared.name.Name.{Name}
use Rattle.mini_model.specs.declared.name.SymbolId.{SymbolId}
use Rattle.mini_model.specs.declared.shape.Shape.{Shape}
use Rattle.mini_model.specs.declared.shape.Shape.TheVariants as shape
use Rattle.mini_model.specs.Tree.{Tree, Trees, shape_of, count, child_or_absent, empty_statement, expression_statement, children}
use Rattle.mini_laws.specs.Value.{Declared}
use Rattle.mini_node.specs.Children.{names_of, like, part, with_part, without, is_bare, first_children, rest_children}
use Rattle.mini_node.specs.Kinds.{is_listed_shape, is_named_leaf}
use Rattle.mini_rows.specs.Lists.{declares_nothing}
use Rattle.mini_rows.specs.Switches.{Liberties, liberties}
use Rattle.mini_rows.specs.Unused.{names, any_names, is_idle}
pub use Rattle.mini_rows.specs.Unused.{is_lexical_shape}
pub use Rattle.mini_rows.specs.Unused.{is_declarator_shape, is_variables_shape, declares_list}
pub use Rattle.mini_unused.specs.Allowed.{allowed}

-- shapes

abbrev pub is_binding_shape : Shape → Bool
is_binding_shape shape.BindingIdentifier = true
is_binding_shape _ = false

-- a name that is declared, with its symbol
abbrev pub has_symbol : List Name → Bool
has_symbol (x ∷ []) = is_some x.symbol
has_symbol _ = false

abbrev pub is_resolved_binding : Tree → Bool
is_resolved_binding t = is_binding_shape (shape_of t) && (is_named_leaf t && has_symbol (names_of t))

-- `x = a()` or `x`, as a declarator
abbrev pub declares_name : Tree → Bool
declares_name d = is_declarator_shape (shape_of d) && (is_bare d 2 && is_resolved_binding (part d 0))

-- what shows the `var`s in it to what is around it
abbrev pub shows_vars : Shape → Bool
shows_vars shape.BlockStatement = true
shows_vars shape.SwitchStatement = true
shows_vars _ = false

-- those of them whose `var` may go from statements with what stands outside of them: of a block
-- that is no body, and of a switch, none
abbrev pub open_in : Tree → Liberties → Liberties
open_in o W = liberties W.switches (λ x. not (shows_vars (shape_of o)) && W.writable x)

abbrev pub may_write : Liberties → Option SymbolId → Bool
may_write W (Some s) = W.writable (Declared s.0)
may_write W None = false

abbrev pub may_write_in : Liberties → List Name → Bool
may_write_in W (x ∷ []) = may_write W x.symbol
may_write_in W xs = false

-- a name that a `let` or a `const` declares, or one of these
abbrev pub may_lose : Bool → Liberties → List Name → Bool
may_lose free W xs = free || may_write_in W xs

-- of a declarator that goes nothing misses the initializer, or it is the only one of the list and
-- leaves an expression
abbrev pub may_go : Tree → Tree → Bool
may_go init l = is_idle init || (is_bare l 1 && declares_nothing init)

-- no name like this one stands in the initializer of the declarator at the place, in another
-- declarator of the `let` at its place, or in another statement
abbrev pub is_alone_inside : Name → Tree → Trees → ℕ → Trees → ℕ → Bool
is_alone_inside x init ds j ts i = not (names x init) && (not (any_names x (rest_children (suc j) ds)) && (not (any_names x (rest_children (suc i) ts)) && (not (any_names x (first_children j ds)) && not (any_names x (first_children i ts)))))

-- nor in what is outside of the statements, as a function's parameters
abbrev pub is_alone : List Name → Tree → Tree → Trees → ℕ → Trees → ℕ → Bool
is_alone [] o init ds j ts i = false
is_alone (x ∷ xs) o init ds j ts i = not (names x o) && is_alone_inside x init ds j ts i

-- the declarator at the place in the list of a declaration, which is a statement at its place, has
-- a name that nothing else mentions, which is free to go, or one of these variables
abbrev pub is_unused_declarator : Bool → Liberties → Tree → ℕ → Tree → Trees → ℕ → Bool
is_unused_declarator free W l j o ts i = declares_name (part l j) && (may_lose free W (names_of (part (part l j) 0)) && (may_go (part (part l j) 1) l && is_alone (names_of (part (part l j) 0)) o (part (part l j) 1) (children l) j ts i))

-- of the statement at the place the list of its declarators
abbrev pub list_at : Trees → ℕ → Tree
list_at ts i = part (child_or_absent ts i) 0

-- whether it is a `let` or a `const`
abbrev pub is_free_at : Trees → ℕ → Bool
is_free_at ts i = is_lexical_shape (shape_of (child_or_absent ts i))

-- a `var`, with its list of declarators
abbrev pub is_var : Tree → Bool
is_var t = declares_list t && not (is_lexical_shape (shape_of t))

-- a declaration from which names may go: where a list stands outside of the statements, as the
-- nodes above a list further inside a body do, these are `var`s alone
abbrev pub may_declare : Tree → Tree → Bool
may_declare o t = if is_listed_shape (shape_of o) then is_var t else declares_list t

-- it has such a declarator at the other place
abbrev pub is_unused : Liberties → Tree → Trees → ℕ → ℕ → Bool
is_unused W o ts i j = may_declare o (child_or_absent ts i) && is_unused_declarator (is_free_at ts i) W (list_at ts i) j o ts i

-- the place of one in a list, or there is none
abbrev pub UnusedIn : Bool → Liberties → Tree → Tree → Trees → ℕ → Option ℕ → Type 0
UnusedIn free W l o ts i (Some j) = (j < count (children l)) × (is_unused_declarator free W l j o ts i ≡ true)
UnusedIn free W l o ts i None = (j : ℕ) → j < count (children l) → is_unused_declarator free W l j o ts i ≡ false

-- of one statement
abbrev pub UnusedOf : Liberties → Tree → Trees → ℕ → Option ℕ → Type 0
UnusedOf W o ts i (Some j) = (0 < count (children (child_or_absent ts i))) × (j < count (children (list_at ts i))) × (is_unused W o ts i j ≡ true)
UnusedOf W o ts i None = (j : ℕ) → j < count (children (list_at ts i)) → is_unused W o ts i j ≡ false

-- of all
abbrev pub UnusedAt : Liberties → Tree → Trees → Option (ℕ × ℕ) → Type 0
UnusedAt W o ts (Some p) = (p.0 < count ts) × UnusedOf W o ts p.0 (Some p.1)
UnusedAt W o ts None = (i : ℕ) → i < count ts → UnusedOf W o ts i None

-- the declaration without the declarator at the place
abbrev pub let_left : Tree → ℕ → Tree
let_left t j = with_part t 0 (like (part t 0) (without (children (part t 0)) j))

-- `a();` for `let x = a();`, `;` for `let x;` and `let x = 1;`, and the others where there are some
abbrev pub statement_left : Tree → ℕ → Tree
statement_left t j = if is_idle (part (part (part t 0) j) 1) then (if is_bare (part t 0) 1 then empty_statement else let_left t j) else expression_statement (part (part (part t 0) j) 1)

-- with that in the place of the declaration
abbrev pub list_left : Tree → ℕ → ℕ → Tree
list_left l i j = with_part l i (statement_left (part l i) j)
