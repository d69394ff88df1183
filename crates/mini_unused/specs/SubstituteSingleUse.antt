-- 71, `substitute_single_use`: `{ let x = a(); return x + b; }` becomes `{ ; return a() + b; }`,
-- `{ const a = b(), x = c(); return x; }` `{ const a = b(); return c(); }`, and
-- `{ let x = a(); const y = x.b; c(y); }` `{ ; const y = a().b; c(y); }`; so do the statements of a
-- function, and there each `var`, too.
use Rattle.std.specs.Prelude.{◌≡◌, ◌<◌, ◌^◌, ◌⊎◌, ℕ, suc, Bool, true, false, not, ◌&&◌, ◌||◌, zero, List, [], ◌∷◌, Option, Some, None, if◌then◌else◌}
use Rattle.mini_model.specs.declared.name.Name.{Name}
use Rattle.mini_model.specs.declared.shape.Shape.{Shape}
use Rattle.mini_model.specs.declared.shape.Shape.TheVariants as shape
use Rattle.mini_model.specs.Tree.{Tree, Trees, node, none, ◌▸◌, count, child_or_absent, empty_statement, shape_of, children}
use Rattle.mini_laws.specs.ScopeList.{has_eval}
use Rattle.mini_node.specs.Children.{names_of, part, with_part, is_bare, is_nameless, first_children, rest_children}
use Rattle.mini_terms.specs.Folds.{is_effect_free}
use Rattle.mini_rows.specs.SpellKeys.{is_proto}
use Rattle.mini_rows.specs.declared.gathered.Gathered.{Gathered}
use Rattle.mini_rows.specs.Switches.{Liberties}
use Rattle.mini_rows.specs.Unused.{names, any_names, leads, in_full, may_hold, is_constant, is_head_shape, may_move, passes_at, is_sure, is_placed, suits, takes}
use Rattle.mini_unused.specs.Chains.{Several}
use Rattle.mini_unused.specs.SubstituteNext.{put_named, NextAt, NextGone}
use Rattle.mini_unused.specs.RemoveUnusedDeclaration.{declares_name, may_declare, may_lose, is_free_at, list_at, let_left, list_left, UnusedAt}

-- the place of the first of some nodes that mentions the name, or how many they are
abbrev pub mention_place : Name → Trees → ℕ
mention_place x none = 0
mention_place x (t ▸ ts) = if names x t then 0 else suc (mention_place x ts)

-- a name other than `__proto__`
abbrev pub is_own_name : Shape → Bool
is_own_name (shape.IdentifierName s) = not (is_proto s)
is_own_name h = false

-- a property in full
abbrev pub written_in_full : Tree → Tree
written_in_full (node h xs n ts) = node (in_full h) xs n ts

-- a node without a name and a number, which evaluates the part at the place after those before it,
-- in full, or it can be
abbrev pub may_lead : Bool → Tree → ℕ → Bool
may_lead in_list t i = leads in_list (shape_of t) i (part t i) && may_hold t

-- each of them, from a place of such a shape on, may be evaluated before r
abbrev pub all_pass : Gathered → Tree → Shape → ℕ → Trees → Bool
all_pass m r h i none = true
all_pass m r h i (t ▸ ts) = passes_at m r h i t && all_pass m r h (suc i) ts

-- the part at the place is evaluated whatever those before it are, or r is a constant or has no
-- effect
abbrev pub is_reached_at : Gathered → Tree → Shape → ℕ → Bool
is_reached_at m r h zero = is_constant r || is_placed m (is_effect_free r) h
is_reached_at m r h (suc i) = is_constant r || (is_placed m (is_effect_free r) h && is_sure (is_effect_free r) h)

-- so it is, those before it may be evaluated before r, and r may stand there
abbrev pub may_reach : Name → Gathered → Tree → Tree → ℕ → Bool
may_reach x m r t i = suits x r (shape_of t) (children t) && (is_reached_at m r (shape_of t) i && all_pass m r (shape_of t) 0 (first_children i (children t)))

-- a statement that evaluates its first part before all else
abbrev pub is_head : Tree → Bool
is_head t = is_head_shape (shape_of t) && is_nameless t

-- the place of the last of some declarators
abbrev pub last_place : Trees → ℕ
last_place none = 0
last_place (t ▸ none) = 0
last_place (t ▸ (u ▸ ts)) = suc (last_place (u ▸ ts))

-- a name like it stands in the initializer, or in a declarator before the place
abbrev pub is_declared_over : Name → Tree → Trees → ℕ → Bool
is_declared_over x init ds j = names x init || any_names x (first_children j ds)

-- or after the statement that follows the one at the place, or before that one
abbrev pub is_mentioned_around : Name → Trees → ℕ → Bool
is_mentioned_around x ts i = any_names x (rest_children (suc (suc i)) ts) || any_names x (first_children i ts)

-- the next statement reads it, after parts that pass the initializer r, and takes that
abbrev pub reads_next : Name → Tree → Trees → ℕ → Bool
reads_next x r ts i = takes x r (child_or_absent ts (suc i))

-- the next statement reads the name, and no name like it stands elsewhere in the statements
abbrev pub is_read_inside : Name → Tree → Trees → ℕ → Trees → ℕ → Bool
is_read_inside x init ds j ts i = reads_next x init ts i && (not (is_declared_over x init ds j) && not (is_mentioned_around x ts i))

-- nor in what is outside of them
abbrev pub is_read_once : List Name → Tree → Tree → Trees → ℕ → Trees → ℕ → Bool
is_read_once [] o init ds j ts i = false
is_read_once (x ∷ xs) o init ds j ts i = not (names x o) && is_read_inside x init ds j ts i

-- so is the name of the declarator at the place, whose initializer may move, and which is free to
-- go, or one of these variables
abbrev pub is_single_declarator : Bool → Liberties → Tree → ℕ → Tree → Trees → ℕ → Bool
is_single_declarator free W l j o ts i = declares_name (part l j) && (may_lose free W (names_of (part (part l j) 0)) && (may_move W.switches (part (part l j) 1) && is_read_once (names_of (part (part l j) 0)) o (part (part l j) 1) (children l) j ts i))

-- the statement at the place is a declaration, whose last declarator is such a one
abbrev pub is_single : Liberties → Tree → Trees → ℕ → Bool
is_single W o ts i = may_declare o (child_or_absent ts i) && is_single_declarator (is_free_at ts i) W (list_at ts i) (last_place (children (list_at ts i))) o ts i

-- the place of such a statement, or there is none
abbrev pub SingleAt : Liberties → Tree → Trees → Option ℕ → Type 0
SingleAt W o ts (Some i) = (suc i < count ts) × (suc i < 2 ^ 64) × (0 < count (children (child_or_absent ts i))) × (0 < count (children (list_at ts i))) × (is_single W o ts i ≡ true)
SingleAt W o ts None = (i : ℕ) → suc i < count ts → is_single W o ts i ≡ false

-- the declaration without the declarator at the place: `;` where it is the only one
abbrev pub declaration_left : Tree → ℕ → Tree
declaration_left t j = if is_bare (part t 0) 1 then empty_statement else let_left t j

-- the initializer of the declarator at the place
abbrev pub initializer : Tree → ℕ → ℕ → Tree
initializer l i j = part (part (part (part l i) 0) j) 1

-- its names
abbrev pub declared_names : Tree → ℕ → ℕ → List Name
declared_names l i j = names_of (part (part (part (part l i) 0) j) 0)

-- with that in its place, and the initializer in the next statement
abbrev pub list_single : Tree → ℕ → ℕ → Tree
list_single l i j = with_part (with_part l i (declaration_left (part l i) j)) (suc i) (put_named (declared_names l i j) (initializer l i j) (part l (suc i)))

-- ---- one call, of a list of statements and what is outside of them

-- a name that nothing mentions is gone
pub record NameGone (W : Liberties) (o l m : Tree) : Type 0 where
  pub at : ℕ
  pub which : ℕ
  pub unused : UnusedAt W o (children l) (Some (at, which))
  pub left : m ≡ list_left l at which

-- one that was read once is gone
pub record ReadGone (W : Liberties) (o l m : Tree) : Type 0 where
  pub at : ℕ
  pub next : suc at < count (children l)
  pub declares : 0 < count (children (list_at (children l) at))
  pub single : is_single W o (children l) at ≡ true
  pub left : m ≡ list_single l at (last_place (children (list_at (children l) at)))

-- of one of them, which no direct eval sees
pub record Gone (W : Liberties) (o l m : Tree) : Type 0 where
  pub unseen : (has_eval o || has_eval l) ≡ false
  pub name : NameGone W o l m ⊎ (ReadGone W o l m ⊎ NextGone W o l m)

-- some names are gone, one after another; or there is none, or a direct eval sees it
abbrev pub Removed : Liberties → Tree → Tree → Tree → Bool → Type 0
Removed W o l m true = Several (Gone W o) l m
Removed W o l m false = (m ≡ l) × (((has_eval o || has_eval l) ≡ true) ⊎ (UnusedAt W o (children l) None × SingleAt W o (children l) None × NextAt W o (children l) None))
