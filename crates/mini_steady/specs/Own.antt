-- What a walk over the own code of a body does to it: steps in that code.
use Rattle.std.specs.Prelude.{ℕ, ◌≡◌, ◌<◌, ◌≤◌, ◌==◌, ◌&&◌, ◌++◌, not, Bool, true, false, List, Contains}
use Rattle.mini_model.specs.declared.name.Name.{Name}
use Rattle.mini_model.specs.declared.name.SymbolId.{SymbolId}
use Rattle.mini_model.specs.declared.place.Position.{Position}
use Rattle.mini_model.specs.Tree.{Tree, count, children, shape_of}
use Rattle.mini_model.specs.Position.{child_position}
use Rattle.mini_laws.specs.Naming.{summary, summaries}
use Rattle.mini_node.specs.Children.{part, number_of}
use Rattle.mini_laws.specs.Weights.{Lightens}
use Rattle.mini_kept.specs.Declaring.{declared}
use Rattle.mini_kept.specs.Without.{Assured, BodySets}
use Rattle.mini_rows.specs.Steady.{bindings, Begun, begun_at, has_body, OwnRows, OwnStep}
use Rattle.mini_steady.specs.Chains.{Several}
use Rattle.mini_steady.specs.Declarations.{known_there}
use Rattle.mini_steady.specs.declared.code.BodyCode.{BodyCode}

-- what stands in it is code of the body around it: it has neither a body of its own nor a number
abbrev pub is_open : Tree → Bool
is_open t = (number_of t == 0) && not (has_body (shape_of t))

-- a family has only rows that read what is open
abbrev pub ReadsOpen : OwnRows → Type 0
ReadsOpen F = (V : Assured) (p : Position) (n w : Tree) → F V p n w → is_open n ≡ true

-- what it writes is read alike by a parent, declares no name that what stood there didn't and no
-- symbol more often, and is lighter
pub record KeepsCode (R : Position → Tree → Tree → Type 0) : Type 0 where
  pub reads : (p : Position) (n w : Tree) → R p n w → summary n ≡ summary w
  pub declared : (p : Position) (n w : Tree) → R p n w → (x : Name) → Contains (declared w) x → Contains (declared n) x
  pub bound : (p : Position) (n w : Tree) → R p n w → (k : ℕ) → bindings k w ≤ bindings k n
  pub lightens : Lightens R

-- so does each row of a family
abbrev pub KeepsEach : OwnRows → Type 0
KeepsEach F = (V : Assured) → KeepsCode (F V)

-- where the child at an index stands
abbrev pub place_in : Position → Tree → ℕ → Position
place_in p t = child_position (shape_of t) p (count (children t))

-- what a family says of a node in this code, by what is begun there
abbrev pub rows_there : OwnRows → BodySets → BodyCode → Begun → Position → Tree → Tree → Type 0
rows_there F S c L = F (known_there S c L)

-- nothing reads it, in the code of the body itself, where L is begun
abbrev pub OwnRests : (Begun → Position → Tree → Tree → Type 0) → Begun → Position → Tree → Type 0
OwnRests R L p t = (w : Tree) → OwnStep R L p t w → ⊥

-- steps in that code; or none, and then nothing in it reads it
abbrev pub OwnWalked : (Begun → Position → Tree → Tree → Type 0) → Begun → Position → Tree → Tree → Bool → Type 0
OwnWalked R L p t u true = Several (OwnStep R L p) t u
OwnWalked R L p t u false = (u ≡ t) × OwnRests R L p t

-- what is begun at the child at an index
abbrev pub begun_in : Position → Begun → Tree → ℕ → Begun
begun_in p L t = begun_at (shape_of t) p L (summaries (children t))

-- the same of the children alone
abbrev pub OwnWalkedBelow : (Begun → Position → Tree → Tree → Type 0) → Begun → Position → Tree → Tree → Bool → Type 0
OwnWalkedBelow R L p t u true = Several (OwnStep R L p) t u
OwnWalkedBelow R L p t u false = (u ≡ t) × ((i : ℕ) → i < count (children t) → OwnRests R (begun_in p L t i) (place_in p t i) (part t i))

-- and of the node alone: steps there, or none
abbrev pub AppliedHere : (Position → Tree → Tree → Type 0) → Position → Tree → Tree → Bool → Type 0
AppliedHere R p t u true = Several (R p) t u
AppliedHere R p t u false = (u ≡ t) × ((w : Tree) → R p t w → ⊥)

-- the code of a body is told as before
pub record AsBefore (c d : BodyCode) : Type 0 where
  pub number : d.number ≡ c.number
  pub declared : d.declared.items ≡ c.declared.items
  pub begun : d.begun.items ≡ c.begun.items
  pub in_lexical : d.in_lexical ≡ c.in_lexical

-- and then these symbols are begun, too
pub record BeginsBesides (us : List SymbolId) (c d : BodyCode) : Type 0 where
  pub number : d.number ≡ c.number
  pub declared : d.declared.items ≡ c.declared.items
  pub begun : d.begun.items ≡ c.begun.items ++ us
  pub in_lexical : d.in_lexical ≡ c.in_lexical
