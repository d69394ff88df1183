-- What is asked of the names of a tree, as a fold with one answer of three, and when one tree
-- answers at most what another does. Each fact of which Shared and Foreign are made is such a
-- question about one symbol, and so is the order of reads and declarations: what comes first of a
-- name, its read or the end of its declaration.
use Rattle.std.specs.Prelude.{ℕ, suc, Bool, true, false, ◌&&◌, List, [], ◌∷◌, ◌++◌}
use Rattle.mini_model.specs.declared.name.Name.{Name}
use Rattle.mini_model.specs.declared.shape.Shape.{Shape}
use Rattle.mini_model.specs.declared.shape.Shape.TheVariants as shape
use Rattle.mini_model.specs.Tree.{Tree, Trees, node, none, ◌▸◌}
use Rattle.mini_laws.specs.declared.names.Use.{Use}
use Rattle.mini_laws.specs.declared.names.Binding.{Binding}
use Rattle.mini_laws.specs.declared.names.Around.{Around}
use Rattle.mini_laws.specs.Scopes.{use_of, opened}
use Rattle.mini_laws.specs.Resolved.{Environment}
use Rattle.mini_laws.specs.Strict.{is_strict_in}
use Rattle.mini_laws.specs.Mentions.{around_child}
use Rattle.mini_laws.specs.Foreign.{is_body_by}
use Rattle.mini_laws.specs.Shared.{is_of_function}

-- ---- answers

-- what comes first in a tree: the declaration of the name ends, nothing of it comes, or it is read
pub data Pace : Type 0 where
  Ends : Pace
  Silent : Pace
  Reads : Pace

-- one after another
abbrev pub followed : Pace → Pace → Pace
followed Silent q = q
followed p q = p

-- a later end, or an earlier read, is more
abbrev pub AtMost : Pace → Pace → Type 0
AtMost Ends q = Unit {0}
AtMost Silent Ends = ⊥
AtMost Silent q = Unit {0}
AtMost Reads Reads = Unit {0}
AtMost Reads q = ⊥

abbrev pub reads_if : Bool → Pace
reads_if true = Reads
reads_if false = Silent

abbrev pub ends_if : Bool → Pace
ends_if true = Ends
ends_if false = Silent

-- an end is not seen outside
abbrev pub kept_in : Pace → Pace
kept_in Ends = Silent
kept_in p = p

abbrev pub ends_after : Bool → Pace → Pace
ends_after b p = followed (kept_in p) (ends_if b)

-- ---- in the order of evaluation: what a `for..in` or `for..of` goes over comes before its head

abbrev pub all_followed : List Pace → Pace
all_followed [] = Silent
all_followed (p ∷ ps) = followed p (all_followed ps)

abbrev pub in_turn : Shape → List Pace → Pace
in_turn shape.ForInStatement (left ∷ (right ∷ rest)) = followed right (followed left (all_followed rest))
in_turn shape.ForOfStatement (left ∷ (right ∷ rest)) = followed right (followed left (all_followed rest))
in_turn h ps = all_followed ps

-- ---- questions

-- what is around a tree
pub record Setting : Type 0 where
  -- how its names are used
  pub used : Use
  -- the innermost numbered node
  pub around : Around
  pub strict : Bool
  -- it stands directly in the body of a script or a function
  pub is_body : Bool
  -- it belongs to the function around, whose `arguments` it may name
  pub belongs : Bool
  -- it is what declares the name that is asked for, or a list in which that stands
  pub ordered : Bool

abbrev pub below : Bool → Setting → Shape → ℕ → ℕ → Setting
below o c h n i = record { ordered = o; used = use_of h c.used i; around = around_child h c.around n i; strict = is_strict_in c.strict h; is_body = is_body_by h c.is_body; belongs = c.belongs && is_of_function h i }

-- what a node says before its children, whether these stand in the list that declares the name, and
-- whether a child ends its declaration: what ends in a child is not seen after it but by that, as
-- its scope ends with it
pub record Question : Type 0 where
  pub before : Setting → Environment → Shape → List Name → ℕ → Trees → Pace
  pub orders : Setting → Shape → Trees → Bool
  pub ends : Setting → Tree → Bool

unfoldable mutual
  pub pace : Question → Setting → Environment → Tree → Pace
  pace q c env (node h xs n ts) = followed (q.before c env h xs n ts) (in_turn h (paces q (opened c.used h ts) (below (q.orders c h ts) c h n) 0 env ts))

  pub paces : Question → (ℕ → List Binding) → (ℕ → Setting) → ℕ → Environment → Trees → List Pace
  paces q sc cs i env none = []
  paces q sc cs i env (t ▸ ts) = ends_after (q.ends (cs i) t) (pace q (cs i) (env ++ sc i) t) ∷ paces q sc cs (suc i) (env ++ sc i) ts
