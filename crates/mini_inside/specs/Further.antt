-- What is done at the ends of ways further inside a body, as 71 and 72 of a `var`: the walk to
-- where one may stand, with the nodes above it, each without what the way goes into.
use Rattle.std.specs.Prelude.{◌≡◌, ◌||◌, ℕ, Bool, true, false, List, Option, Some, None}
use Rattle.mini_model.specs.declared.name.Name.{Name}
use Rattle.mini_model.specs.declared.place.Position.{Position}
use Rattle.mini_model.specs.declared.shape.Shape.{Shape}
use Rattle.mini_model.specs.Tree.{Tree, Trees, node, none, ◌▸◌, absent, listed, count, children}
use Rattle.mini_model.specs.Paths.{append}
use Rattle.mini_laws.specs.Path.{Path, here, inside, plug}
use Rattle.mini_laws.specs.ScopeList.{has_eval}
use Rattle.mini_laws.specs.Weights.{is_here}
use Rattle.mini_node.specs.Children.{part, with_part}
use Rattle.mini_rows.specs.declared.inside.Way.{Way}
use Rattle.mini_rows.specs.declared.inside.Way.TheVariants as way
use Rattle.mini_rows.specs.Inside.{is_way_to, above, HeadEnd, Holder, Function, stands_at, Ends, InsideOf, InsideAt, unused_ends, InsideContracts}
use Rattle.mini_rows.specs.Switches.{Liberties}
use Rattle.mini_tree.specs.declared.options.CompressOptions.{CompressOptions}
use Rattle.mini_tree.specs.Rule as rule
use Rattle.mini_unused.specs.Allowed.{allowed_in}
use Rattle.mini_unused.specs.Chains.{Several}
use Rattle.mini_unused.specs.RemoveUnusedDeclaration.{UnusedOf}
use Rattle.mini_inside.specs.Holding.{is_idle_at}

-- a list of nodes with another one
abbrev pub pushed : Tree → Tree → Tree
pushed (node h xs n ts) t = node h xs n (append ts (t ▸ none))

-- below some nodes, what stands at the end of a way loses a name; or the node may be that end
-- itself
pub record Loses (E : Ends) (a : Trees) (s : Way) (further : Bool) (t u : Tree) : Type 0 where
  pub place : Path
  pub end : Way
  pub read : Tree
  pub put : Tree
  pub way : is_way_to end (Some s) place ≡ true
  pub row : E (append a (above place)) end read put
  pub shape : t ≡ plug place read
  pub written : u ≡ plug place put
  pub below : further ≡ true → is_here place ≡ false

-- no row reads what stands at the place, if a way ends there
abbrev pub NothingAt : Ends → Trees → Way → Tree → Path → Type 0
NothingAt E a s t k = (end : Way) (read put : Tree) → is_way_to end (Some s) k ≡ true → t ≡ plug k read → E (append a (above k)) end read put → ⊥

abbrev pub InStep : Ends → Trees → Way → Tree → Tree → Type 0
InStep E a s = Loses E a s false

abbrev pub BelowStep : Ends → Trees → Way → Tree → Tree → Type 0
BelowStep E a s = Loses E a s true

-- lists further inside lose names, one after another; or none does, and then no row reads one
abbrev pub Walked : Ends → Trees → Way → Tree → Tree → Bool → Type 0
Walked E a s t u true = Several (InStep E a s) t u
Walked E a s t u false = (u ≡ t) × ((k : Path) → NothingAt E a s t k)

-- the same of what stands at the place itself
abbrev pub HereWalked : Ends → Trees → Way → Tree → Tree → Bool → Type 0
HereWalked E a s t u true = Several (InStep E a s) t u
HereWalked E a s t u false = (u ≡ t) × NothingAt E a s t here

-- of what a `for` begins with, alone in a list, the place of a declarator whose name nothing else
-- mentions and whose initializer nothing misses; or there is none that a row reads
abbrev pub HeadingFound : Liberties → Tree → Tree → Option ℕ → Type 0
HeadingFound W o t (Some j) = UnusedOf W o (t ▸ none) 0 (Some j) × (is_idle_at (part t 0) j ≡ true) × ((has_eval o || has_eval (listed (t ▸ none))) ≡ false)
HeadingFound W o t None = (w : Tree) → HeadEnd W (children o) t w → ⊥

-- of what stands in it
abbrev pub BelowWalked : Ends → Trees → Way → Tree → Tree → Bool → Type 0
BelowWalked E a s t u true = Several (BelowStep E a s) t u
BelowWalked E a s t u false = (u ≡ t) × ((h : Shape) (xs : List Name) (n : ℕ) (pre : Trees) (k : Path) (post : Trees) → NothingAt E a s t (inside h xs n pre k post))

-- of the child at an index, where the way goes into it
abbrev pub WalkedAt : Ends → Trees → Way → Tree → ℕ → Tree → Bool → Type 0
WalkedAt E a s t i u true = (c : Tree) × (u ≡ with_part t i c) × Several (BelowStep E a s) t u
WalkedAt E a s t i u false = (u ≡ t) × ((h : Shape) (xs : List Name) (n : ℕ) (pre : Trees) (k : Path) (post : Trees) → count pre ≡ i → NothingAt E a s t (inside h xs n pre k post))

-- of what stands there as this, with the node above it
abbrev pub ChildWalked : Ends → Trees → Way → Tree → ℕ → Tree → Bool → Type 0
ChildWalked E a r t i u c = (v : Tree) × (u ≡ with_part t i v) × Walked E (append a (with_part t i absent ▸ none)) r (part t i) v c

-- ---- what holds the list of a body

-- with another list in the body at the index
abbrev pub with_body_list : Tree → ℕ → Tree → Tree
with_body_list t i l = with_part t i (with_part (part t i) 0 l)

-- a list, below the node that holds it, without it
abbrev pub Under : Ends → Tree → Tree → Tree → Tree → Bool → Type 0
Under E o l p m c = (p ≡ o) × BelowWalked E (o ▸ none) way.Statements l m c

abbrev pub UnderBody : Ends → Tree → ℕ → Tree → Bool → Type 0
UnderBody E t i u c = (m : Tree) × (u ≡ with_body_list t i m) × BelowWalked E (with_body_list t i absent ▸ none) way.Statements (part (part t i) 0) m c

abbrev pub UnderList : Ends → Tree → Tree → Bool → Type 0
UnderList E t u c = (m : Tree) × (u ≡ with_part t 0 m) × BelowWalked E (with_part t 0 absent ▸ none) way.Statements (part t 0) m c

-- ---- the rule

-- no row with these ends reads it
abbrev pub RestsAt : Ends → Position → Tree → Type 0
RestsAt E p t = (w : Tree) (r : InsideOf E t w) → stands_at r.holder p ≡ true → ⊥

-- of a function that is no arrow function, wherever it stands
abbrev pub is_function_holder : Holder → Bool
is_function_holder (Function d g ds n name ps) = true
is_function_holder o = false

-- one call of it
abbrev pub AppliedAt : Ends → Position → Tree → Tree → Bool → Type 0
AppliedAt E = rule.Applied (InsideAt E) (RestsAt E)

-- and of one for a function that is no arrow function, wherever it stands
pub record FunctionStep (E : Ends) (t u : Tree) : Type 0 where
  pub row : InsideOf E t u
  pub function : is_function_holder row.holder ≡ true

abbrev pub InFunction : Ends → Tree → Tree → Bool → Type 0
InFunction E t u true = Several (FunctionStep E) t u
InFunction E t u false = (u ≡ t) × ((w : Tree) → FunctionStep E t w → ⊥)

-- of 71 and 72 no row of these variables reads it
abbrev pub RestsInside : Liberties → Position → Tree → Type 0
RestsInside W = RestsAt (unused_ends W)

-- over a program it makes what the row says of the variables that can be written in it and of the
-- options, and rests where that reads nothing
abbrev pub Gives : CompressOptions → Tree → Position → Tree → Tree → Type 0
Gives o q = InsideContracts (allowed_in o q)

abbrev pub Rests : CompressOptions → Tree → Position → Tree → Type 0
Rests o q = RestsInside (allowed_in o q)
