-- 71 past steady names, `substitute_past`: `function f(g) { let x = a(); return g(x); }` becomes
-- `function f(g) { ; return g(a()); }`, and `function f(g) { let x = a(), y = g(x); return y; }`
-- becomes `function f(g) { let y = g(a()); return y; }`; so do each `var` whose name can be
-- written, and the statements of an arrow function and of a module.
use Rattle.std.specs.Prelude.{◌≡◌, ◌<◌, ◌^◌, ◌⊎◌, ℕ, suc, Bool, true, false, not, ◌&&◌, ◌||◌, List, [], ◌∷◌, Option, Some, None}
use Rattle.mini_model.specs.declared.name.Name.{Name}
use Rattle.mini_model.specs.declared.place.Position.{Position}
use Rattle.mini_model.specs.Tree.{Tree, Trees, count, child_or_absent, children}
use Rattle.mini_kept.specs.Without.{Assured, BodySets}
use Rattle.mini_laws.specs.ScopeList.{has_eval}
use Rattle.mini_node.specs.Children.{names_of, part, first_children}
use Rattle.mini_rows.specs.Past.{Kept, held, are_past, PastFunctionRow, PastFunction}
use Rattle.mini_rows.specs.PastArrows.{PastArrowRow, PastArrow}
use Rattle.mini_rows.specs.PastModules.{PastModuleRow, PastModule}
use Rattle.mini_rows.specs.PastStatics.{PastStaticRow, PastStatic}
use Rattle.mini_rows.specs.Unused.{names, is_constant, is_first, may_move, reads_head, evaluated}
use Rattle.mini_rows.specs.Switches.{Switches, Liberties}
use Rattle.mini_unused.specs.declared.tallies.Tallies.{Tallies}
use Rattle.mini_unused.specs.Chains.{Chain, Several}
use Rattle.mini_unused.specs.RemoveUnusedDeclaration.{declares_name, may_declare, is_free_at, list_at, may_lose}
use Rattle.mini_unused.specs.SubstituteNext.{is_declarator, is_mentioned_beside, is_mentioned_elsewhere, list_next}
use Rattle.mini_unused.specs.SubstituteSingleUse.{last_place, is_declared_over, is_mentioned_around, list_single}
use Rattle.mini_unused.specs.Sweep.{Calm}

-- what is held where a declarator stands, behind those before it in its list and the statements
-- before theirs
abbrev pub held_at : Assured → Trees → ℕ → Trees → ℕ → Kept
held_at V ts i ds j = held V ts (first_children i ts) (is_free_at ts i) (first_children j ds)

-- of a declarator the initializer may move, and is no constant, and the name is free to go, or one
-- of these variables
abbrev pub may_pass : Switches → Tree → Bool
may_pass o init = may_move o init && not (is_constant init)

abbrev pub may_pass_by : Bool → Liberties → Tree → Bool
may_pass_by free W d = declares_name d && (may_lose free W (names_of (part d 0)) && may_pass W.switches (part d 1))

-- ---- the next statement reads the name

-- before all else, or after parts that pass the initializer, and no name like it stands elsewhere,
-- nor in what is outside of the statements
abbrev pub is_read_past : Assured → List Name → Tree → Tree → Trees → ℕ → Trees → ℕ → Bool
is_read_past V [] o init ds j ts i = false
is_read_past V (x ∷ xs) o init ds j ts i =
    reads_head x (child_or_absent ts (suc i)) && (not (names x o) && (are_past (held_at V ts i ds j) x init (evaluated (child_or_absent ts (suc i))) && (not (is_declared_over x init ds j) && not (is_mentioned_around x ts i))))

-- so is the name of the declarator at the place
abbrev pub is_past_declarator : Assured → Bool → Liberties → Tree → ℕ → Tree → Trees → ℕ → Bool
is_past_declarator V free W l j o ts i = may_pass_by free W (part l j) && is_read_past V (names_of (part (part l j) 0)) o (part (part l j) 1) (children l) j ts i

-- the statement at the place is a declaration from which names may go, whose last declarator is
-- such a one
abbrev pub is_past : Assured → Liberties → Tree → Trees → ℕ → Bool
is_past V W o ts i = may_declare o (child_or_absent ts i) && is_past_declarator V (is_free_at ts i) W (list_at ts i) (last_place (children (list_at ts i))) o ts i

-- the place of such a statement, or there is none
abbrev pub PastAt : Assured → Liberties → Tree → Trees → Option ℕ → Type 0
PastAt V W o ts (Some i) = (suc i < count ts) × (suc i < 2 ^ 64) × (0 < count (children (child_or_absent ts i))) × (0 < count (children (list_at ts i))) × (is_past V W o ts i ≡ true)
PastAt V W o ts None = (i : ℕ) → suc i < count ts → is_past V W o ts i ≡ false

-- ---- the next declarator does

-- its initializer reads it first, after such parts
abbrev pub reads_past_in : Kept → Name → Tree → Tree → Bool
reads_past_in H x r v = is_first x false v && are_past H x r v

abbrev pub is_read_past_then : Assured → List Name → Tree → Tree → Tree → Trees → ℕ → Trees → ℕ → Bool
is_read_past_then V [] d e o ds j ts i = false
is_read_past_then V (x ∷ xs) d e o ds j ts i = reads_past_in (held_at V ts i ds j) x (part d 1) (part e 1) && (not (is_mentioned_beside x d e ds j) && (not (names x o) && not (is_mentioned_elsewhere x ts i)))

abbrev pub is_past_by : Assured → Bool → Liberties → Tree → Tree → Tree → Trees → ℕ → Trees → ℕ → Bool
is_past_by V free W d e o ds j ts i = is_declarator e && (may_pass_by free W d && is_read_past_then V (names_of (part d 0)) d e o ds j ts i)

-- of a list the declarator at the place is such a one
abbrev pub is_past_by_next : Assured → Bool → Liberties → Tree → ℕ → Tree → Trees → ℕ → Bool
is_past_by_next V free W l j o ts i = is_past_by V free W (part l j) (part l (suc j)) o (children l) j ts i

-- the statement at the place is a declaration from which names may go, whose declarator at the
-- other place is
abbrev pub is_past_next : Assured → Liberties → Tree → Trees → ℕ → ℕ → Bool
is_past_next V W o ts i j = may_declare o (child_or_absent ts i) && is_past_by_next V (is_free_at ts i) W (list_at ts i) j o ts i

-- the place of one in a list, or there is none
abbrev pub PastNextIn : Assured → Bool → Liberties → Tree → Tree → Trees → ℕ → Option ℕ → Type 0
PastNextIn V free W l o ts i (Some j) = (suc j < count (children l)) × (is_past_by_next V free W l j o ts i ≡ true)
PastNextIn V free W l o ts i None = (j : ℕ) → suc j < count (children l) → is_past_by_next V free W l j o ts i ≡ false

-- of one statement
abbrev pub PastNextOf : Assured → Liberties → Tree → Trees → ℕ → Option ℕ → Type 0
PastNextOf V W o ts i (Some j) = (0 < count (children (child_or_absent ts i))) × (suc j < count (children (list_at ts i))) × (is_past_next V W o ts i j ≡ true)
PastNextOf V W o ts i None = (j : ℕ) → suc j < count (children (list_at ts i)) → is_past_next V W o ts i j ≡ false

-- of all
abbrev pub PastNextAt : Assured → Liberties → Tree → Trees → Option (ℕ × ℕ) → Type 0
PastNextAt V W o ts (Some p) = (p.0 < count ts) × PastNextOf V W o ts p.0 (Some p.1)
PastNextAt V W o ts None = (i : ℕ) → i < count ts → PastNextOf V W o ts i None

-- ---- names that go from a list of statements, with what is outside of them

-- one that the next statement read
pub record ReadPast (V : Assured) (W : Liberties) (o l m : Tree) : Type 0 where
  pub at : ℕ
  pub next : suc at < count (children l)
  pub declares : 0 < count (children (list_at (children l) at))
  pub there : is_past V W o (children l) at ≡ true
  pub left : m ≡ list_single l at (last_place (children (list_at (children l) at)))

-- one that the next declarator did
pub record NextPast (V : Assured) (W : Liberties) (o l m : Tree) : Type 0 where
  pub at : ℕ
  pub which : ℕ
  pub there : PastNextAt V W o (children l) (Some (at, which))
  pub left : m ≡ list_next l at which

-- either, which no direct eval sees
pub record PastGone (V : Assured) (W : Liberties) (o l m : Tree) : Type 0 where
  pub unseen : (has_eval o || has_eval l) ≡ false
  pub name : ReadPast V W o l m ⊎ NextPast V W o l m

-- it has lost some names, and the tables count those of what is left
pub record Swept (V : Assured) (W : Liberties) (c : Tallies) (o l m : Tree) : Type 0 where
  pub gone : Chain (PastGone V W o) l m
  pub calm : Calm c o m

-- some names are gone, one after another; or there is none, or a direct eval sees it
abbrev pub PastRemoved : Assured → Liberties → Tree → Tree → Tree → Bool → Type 0
PastRemoved V W o l m true = Several (PastGone V W o) l m
PastRemoved V W o l m false = (m ≡ l) × (((has_eval o || has_eval l) ≡ true) ⊎ (PastAt V W o (children l) None × PastNextAt V W o (children l) None))

-- ---- of a function

-- one call of it: steps, one after another, or none, and then no row reads it
abbrev pub AppliedPast : BodySets → Liberties → Tree → Tree → Bool → Type 0
AppliedPast S W t u true = Several (PastFunctionRow S W) t u
AppliedPast S W t u false = (u ≡ t) × ((w : Tree) → PastFunctionRow S W t w → ⊥)

abbrev pub RestsPast : BodySets → Liberties → Position → Tree → Type 0
RestsPast S W p t = (w : Tree) → PastFunction S W p t w → ⊥

-- ---- of an arrow function

abbrev pub AppliedPastArrow : BodySets → Liberties → Tree → Tree → Bool → Type 0
AppliedPastArrow S W t u true = Several (PastArrowRow S W) t u
AppliedPastArrow S W t u false = (u ≡ t) × ((w : Tree) → PastArrowRow S W t w → ⊥)

abbrev pub RestsPastArrow : BodySets → Liberties → Position → Tree → Type 0
RestsPastArrow S W p t = (w : Tree) → PastArrow S W p t w → ⊥

-- ---- of a module

abbrev pub AppliedPastModule : BodySets → Liberties → Tree → Tree → Bool → Type 0
AppliedPastModule S W t u true = Several (PastModuleRow S W) t u
AppliedPastModule S W t u false = (u ≡ t) × ((w : Tree) → PastModuleRow S W t w → ⊥)

abbrev pub RestsPastModule : BodySets → Liberties → Position → Tree → Type 0
RestsPastModule S W p t = (w : Tree) → PastModule S W p t w → ⊥

-- ---- of a static block

abbrev pub AppliedPastStatic : BodySets → Liberties → Tree → Tree → Bool → Type 0
AppliedPastStatic S W t u true = Several (PastStaticRow S W) t u
AppliedPastStatic S W t u false = (u ≡ t) × ((w : Tree) → PastStaticRow S W t w → ⊥)

abbrev pub RestsPastStatic : BodySets → Liberties → Position → Tree → Type 0
RestsPastStatic S W p t = (w : Tree) → PastStatic S W p t w → ⊥
