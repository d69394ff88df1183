-- What a search for a row's step in a tree finds.
use Rattle.std.specs.Prelude.{ℕ, zero, suc, ◌+◌, ◌<◌, ◌≤◌, ◌≡◌, Bool, true, false, [], ◌∷◌, Option, Some, None, is_some}
use Rattle.mini_model.specs.declared.place.Position.{Position}
use Rattle.mini_model.specs.Paths.{Path, node_at, spread, standing, by_standing, width}
use Rattle.mini_model.specs.Position.{child_position}
use Rattle.mini_model.specs.Tree.{Tree, Trees, none, ◌▸◌, count, children, child_or_absent, shape_of}
use Rattle.mini_log.specs.declared.row.LogRow.{LogRow}
use Rattle.mini_log.specs.Walk.{step_at}
use Rattle.mini_checker.specs.Checked.{Rows}
use Rattle.mini_replay.specs.declared.seeking.Found.{Found}
use Rattle.mini_replay.specs.declared.seeking.Beside.{Beside}

-- the path leads to a node
abbrev pub IsPath : Tree → Path → Type 0
IsPath t q = is_some (node_at q t) ≡ true

-- the path from a child on, where it has this index in the child: the index goes on inside a list
abbrev pub further : Tree → ℕ → Path → Path
further t i q = by_standing (standing (shape_of t)) q (i ∷ q) (i ∷ q)

-- whether it stands for the nodes of ESTree that it holds
abbrev pub is_holder : Tree → Bool
is_holder t = by_standing (standing (shape_of t)) false true false

-- how many nodes of ESTree the children before one are
abbrev pub before : Trees → ℕ → ℕ
before none k = 0
before (t ▸ ts) zero = 0
before (t ▸ ts) (suc k) = width t + before ts k

-- the child of this index, and where it stands
abbrev pub child : Tree → ℕ → Tree
child t k = child_or_absent (children t) k

abbrev pub child_stands : Position → Tree → ℕ → Position
child_stands p t k = child_position (shape_of t) p (count (children t)) k

-- the rest of the path of what is named by the node of an index, or by that one's first child
abbrev pub rest_below : Bool → Path
rest_below true = 0 ∷ []
rest_below false = []

module _ (F : Rows) where
  -- of the rows that may make something of a node, where the path ends there
  abbrev pub MadeHere : Position → Tree → Option LogRow → Type 0
  MadeHere p t None = (r : LogRow) → F r p t [] ≡ None
  MadeHere p t (Some r) = is_some (F r p t []) ≡ true

  -- and where it goes on with an index
  abbrev pub MadeBeside : Position → Tree → ℕ → Option Beside → Type 0
  MadeBeside p t i None = (r : LogRow) (q : Path) → F r p t (i ∷ q) ≡ None
  MadeBeside p t i (Some x) = is_some (F x.row p t (i ∷ rest_below x.is_below)) ≡ true

  -- a step on a path from a node on, or none on any
  abbrev pub Sought : Position → Tree → Option Found → Type 0
  Sought p t None = (r : LogRow) (q : Path) → IsPath t q → step_at (F r) p t q ≡ None
  Sought p t (Some x) = is_some (step_at (F x.row) p t x.at) ≡ true

  -- the same on a path that goes on with an index, to which a number is added
  pub record StepsBelow (p : Position) (t : Tree) (b : ℕ) (x : Found) : Type 0 where
    pub index : ℕ
    pub rest : Path
    pub path : x.at ≡ (b + index) ∷ rest
    pub inside : index < count (spread (children t))
    pub steps : is_some (step_at (F x.row) p t (index ∷ rest)) ≡ true

  abbrev pub SoughtBelow : Position → Tree → ℕ → Option Found → Type 0
  SoughtBelow p t b None = (r : LogRow) (i : ℕ) (q : Path) → IsPath t (i ∷ q) → step_at (F r) p t (i ∷ q) ≡ None
  SoughtBelow p t b (Some x) = StepsBelow p t b x

  -- on a path from a child on, which is told from the node above it on
  pub record StepsIn (p : Position) (c : Tree) (b : ℕ) (x : Found) : Type 0 where
    pub index : ℕ
    pub rest : Path
    pub path : x.at ≡ (b + index) ∷ rest
    pub inside : index < width c
    pub steps : is_some (step_at (F x.row) p c (further c index rest)) ≡ true

  abbrev pub NoneIn : Position → Tree → Type 0
  NoneIn p c = (r : LogRow) (i : ℕ) (q : Path) → i < width c → IsPath c (further c i q) → step_at (F r) p c (further c i q) ≡ None

  abbrev pub SoughtIn : Position → Tree → ℕ → Option Found → Type 0
  SoughtIn p c b None = NoneIn p c
  SoughtIn p c b (Some x) = StepsIn p c b x

  -- of what a node's own rows make, where the path goes on with one of these indices
  abbrev pub NoneBeside : Position → Tree → ℕ → ℕ → Type 0
  NoneBeside p t first end = (r : LogRow) (i : ℕ) (q : Path) → first ≤ i → i < end → F r p t (i ∷ q) ≡ None

  abbrev pub SoughtBeside : Position → Tree → ℕ → ℕ → ℕ → Option Found → Type 0
  SoughtBeside p t b first end None = NoneBeside p t first end
  SoughtBeside p t b first end (Some x) = StepsBelow p t b x

  -- in the child of an index, or made of the node by what the child holds
  pub record NoneAt (p : Position) (t : Tree) (k : ℕ) : Type 0 where
    pub inside : NoneIn (child_stands p t k) (child t k)
    pub beside : NoneBeside p t (before (children t) k) (before (children t) k + width (child t k))

  abbrev pub SoughtAt : Position → Tree → ℕ → ℕ → Option Found → Type 0
  SoughtAt p t b k None = NoneAt p t k
  SoughtAt p t b k (Some x) = StepsBelow p t b x

  -- of a node alone, where the path ends there
  abbrev pub OwnSought : Position → Tree → Option Found → Type 0
  OwnSought p t None = (r : LogRow) → F r p t [] ≡ None
  OwnSought p t (Some x) = (x.at ≡ []) × (is_some (F x.row p t []) ≡ true)

-- the path from the node above on
pub record Longer (index : ℕ) (x y : Found) : Type 0 where
  pub row : y.row ≡ x.row
  pub path : y.at ≡ index ∷ x.at

abbrev pub AreLonger : ℕ → Option Found → Option Found → Type 0
AreLonger i None o = o ≡ None
AreLonger i (Some x) None = ⊥
AreLonger i (Some x) (Some y) = Longer i x y

abbrev pub IsBeside : ℕ → ℕ → Beside → Option Found → Type 0
IsBeside b i y None = ⊥
IsBeside b i y (Some x) = (x.row ≡ y.row) × (x.at ≡ (b + i) ∷ rest_below y.is_below)
