-- When the bodies of a program are those of another: each stands for one that has its number, its
-- kind and its code's mode, and that runs as it does. An arrow's body that is one `return` may
-- become what is returned.
use Rattle.std.specs.Prelude.{◌≡◌, ◌⊎◌, ℕ, List, [], ◌∷◌, None}
use Rattle.mini_model.specs.Tree.{Tree}
use Rattle.mini_laws.specs.Value.{Value, Variable, VariableSet, Slot}
use Rattle.mini_laws.specs.State.{Answer, Environment}
use Rattle.mini_laws.specs.Same.{Initialised}
use Rattle.mini_laws.specs.Body.{BodyKind, FunctionStatements, ArrowExpression, Run, start_of}
use Rattle.mini_laws.specs.Bodies.{Body}

-- of an earlier body and a later one; the statements of an arrow may become its expression
abbrev pub KindKept : BodyKind → BodyKind → Type 0
KindKept k l = (k ≡ l) ⊎ ((k ≡ FunctionStatements) × (l ≡ ArrowExpression))

-- from each start that initialises X the run of the earlier body is outside the model, or the later
-- one's is the same
pub record RunsAs (e : Environment) (k l : BodyKind) (X : VariableSet) (n w : Tree) : Type 0 where
  pub by : (vars : Variable → Slot) (this : Value) (answers : List Answer) (turns : ℕ) → Initialised X (start_of vars this answers turns) → (Run e k n vars this answers turns ≡ None) ⊎ (Run e k n vars this answers turns ≡ Run e l w vars this answers turns)

pub record AlikeBody (b c : Body) : Type 0 where
  pub number : b.number ≡ c.number
  pub kind : KindKept b.kind c.kind
  pub strict : b.strict ≡ c.strict
  pub asks_this : b.asks_this ≡ c.asks_this
  -- from each start, whichever variables are initialised there
  pub same : (e : Environment) (X : VariableSet) → RunsAs e b.kind c.kind X b.root c.root

-- the later body is one of these
abbrev pub IsOneOf : List Body → Body → Type 0
IsOneOf [] c = ⊥
IsOneOf (b ∷ bs) c = AlikeBody b c ⊎ IsOneOf bs c

-- and so is each of some later bodies
abbrev pub BodiesKept : List Body → List Body → Type 0
BodiesKept bs [] = Unit {0}
BodiesKept bs (c ∷ cs) = IsOneOf bs c × BodiesKept bs cs
