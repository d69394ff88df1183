-- 71, `substitute_single_use`, in one declaration: `{ let x = a(), y = x.b; c(y); }` becomes
-- `{ let y = a().b; c(y); }`; so do the statements of a function, and there each `var`, too.
use Rattle.std.specs.Prelude.{◌≡◌, ◌<◌, ℕ, suc, Bool, true, false, not, ◌&&◌, ◌||◌, List, [], ◌∷◌, Option, Some, None}
use Rattle.mini_model.specs.declared.name.Name.{Name}
use Rattle.mini_model.specs.Tree.{Tree, Trees, count, child_or_absent, children}
use Rattle.mini_node.specs.Children.{names_of, like, part, with_part, without, first_children, rest_children}
use Rattle.mini_rows.specs.Switches.{Liberties}
use Rattle.mini_rows.specs.Unused.{names, any_names, is_first, may_move, put_first, are_passed}
pub use Rattle.mini_rows.specs.Unused.{is_declarator}
use Rattle.mini_unused.specs.RemoveUnusedDeclaration.{declares_name, may_declare, may_lose, is_free_at, list_at}

-- an expression reads it, after parts that pass the initializer r
abbrev pub reads_in : Name → Tree → Tree → Bool
reads_in x r v = is_first x false v && are_passed x r v

-- so does the initializer of the next declarator
abbrev pub reads_then : Name → Tree → Tree → Bool
reads_then x r e = reads_in x r (part e 1)

-- a name like it stands in the initializer, in what the next declarator declares, or in another
-- declarator
abbrev pub is_mentioned_beside : Name → Tree → Tree → Trees → ℕ → Bool
is_mentioned_beside x d e ds j = names x (part d 1) || (names x (part e 0) || (any_names x (first_children j ds) || any_names x (rest_children (suc (suc j)) ds)))

-- or in another statement than the one at the place
abbrev pub is_mentioned_elsewhere : Name → Trees → ℕ → Bool
is_mentioned_elsewhere x ts i = any_names x (first_children i ts) || any_names x (rest_children (suc i) ts)

-- the next declarator reads the name first, and no name like it stands elsewhere, nor in what is
-- outside of the statements
abbrev pub is_read_then : List Name → Tree → Tree → Tree → Trees → ℕ → Trees → ℕ → Bool
is_read_then [] d e o ds j ts i = false
is_read_then (x ∷ xs) d e o ds j ts i = reads_then x (part d 1) e && (not (is_mentioned_beside x d e ds j) && (not (names x o) && not (is_mentioned_elsewhere x ts i)))

-- so is the name of a declarator, whose initializer may move, and which is free to go, or one of
-- these variables
abbrev pub is_read_by : Bool → Liberties → Tree → Tree → Tree → Trees → ℕ → Trees → ℕ → Bool
is_read_by free W d e o ds j ts i = declares_name d && (is_declarator e && (may_lose free W (names_of (part d 0)) && (may_move W.switches (part d 1) && is_read_then (names_of (part d 0)) d e o ds j ts i)))

-- of a list the declarator at the place
abbrev pub is_read_by_next : Bool → Liberties → Tree → ℕ → Tree → Trees → ℕ → Bool
is_read_by_next free W l j o ts i = is_read_by free W (part l j) (part l (suc j)) o (children l) j ts i

-- the statement at the place is a declaration, whose declarator at the other place is such a one
abbrev pub is_next : Liberties → Tree → Trees → ℕ → ℕ → Bool
is_next W o ts i j = may_declare o (child_or_absent ts i) && is_read_by_next (is_free_at ts i) W (list_at ts i) j o ts i

-- the place of one in a list, or there is none
abbrev pub NextIn : Bool → Liberties → Tree → Tree → Trees → ℕ → Option ℕ → Type 0
NextIn free W l o ts i (Some j) = (suc j < count (children l)) × (is_read_by_next free W l j o ts i ≡ true)
NextIn free W l o ts i None = (j : ℕ) → suc j < count (children l) → is_read_by_next free W l j o ts i ≡ false

-- of one statement
abbrev pub NextOf : Liberties → Tree → Trees → ℕ → Option ℕ → Type 0
NextOf W o ts i (Some j) = (0 < count (children (child_or_absent ts i))) × (suc j < count (children (list_at ts i))) × (is_next W o ts i j ≡ true)
NextOf W o ts i None = (j : ℕ) → suc j < count (children (list_at ts i)) → is_next W o ts i j ≡ false

-- of all
abbrev pub NextAt : Liberties → Tree → Trees → Option (ℕ × ℕ) → Type 0
NextAt W o ts (Some p) = (p.0 < count ts) × NextOf W o ts p.0 (Some p.1)
NextAt W o ts None = (i : ℕ) → i < count ts → NextOf W o ts i None

-- another tree in the place of what a tree reads of a name, where there is one
abbrev pub put_named : List Name → Tree → Tree → Tree
put_named [] r t = t
put_named (x ∷ xs) r t = put_first x r t

-- of a list of declarators, the one at the place has another in what it reads of the name
abbrev pub with_initial : Tree → ℕ → List Name → Tree → Tree
with_initial l j xs r = with_part l j (with_part (part l j) 1 (put_named xs r (part (part l j) 1)))

-- the declarator at the place is gone, and its initializer stands in the next
abbrev pub declarators_next : Tree → ℕ → Tree
declarators_next l j = with_initial (like l (without (children l) j)) j (names_of (part (part l j) 0)) (part (part l j) 1)

abbrev pub list_next : Tree → ℕ → ℕ → Tree
list_next l i j = with_part l i (with_part (part l i) 0 (declarators_next (part (part l i) 0) j))

-- one call, of a list of statements and what is outside of them: a name that the next declarator
-- read is gone
pub record NextGone (W : Liberties) (o l m : Tree) : Type 0 where
  pub at : ℕ
  pub which : ℕ
  pub there : NextAt W o (children l) (Some (at, which))
  pub left : m ≡ list_next l at which
