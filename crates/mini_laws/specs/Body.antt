-- Bodies: their variables, their frames and their runs.
use Rattle.std.specs.Prelude.{◌≡◌, ◌⊎◌, ℕ, Bool, true, false, ◌&&◌, List, [], ◌∷◌, ◌++◌, reverse, Option, Some, None, if◌then◌else◌}
use Rattle.mini_model.specs.declared.name.Name.{Name}
use Rattle.mini_model.specs.declared.shape.Shape.{Shape}
use Rattle.mini_model.specs.declared.shape.Shape.TheVariants as shape
use Rattle.mini_model.specs.Tree.{Tree, Trees, node, none, ◌▸◌, shape_of}
use Rattle.mini_laws.specs.Value.{Value, Undefined, Variable, VariableSet, Slot, variable_of, is_in}
use Rattle.mini_laws.specs.State.{Event, Answer, State, Stop, Thrown, Returned, Broken, Continued, Short, Halt, NoAnswers, NoTurns, Completion, ok, stop, halt, out, Environment, seen}
use Rattle.mini_laws.specs.Demand.{Val, Demand, As, Target, Stat, Reference, Prepare, Request, Reply}
use Rattle.mini_laws.specs.Naming.{NameKind, UndefinedName, NumberName, kind_of}
use Rattle.mini_laws.specs.Fixity.{is_strict_in, fixed_in}
use Rattle.mini_laws.specs.Step.{means}
use Rattle.mini_laws.specs.Same.{Initialised}

-- a program's statements, those of a function or a static block, an arrow's body that is an
-- expression, and an inner expression of a carried node: one whose value is asked, or the member
-- that a pattern assigns to
pub data BodyKind : Type 0 where
  Program : BodyKind
  FunctionStatements : BodyKind
  ArrowExpression : BodyKind
  InnerValue : BodyKind
  InnerTarget : BodyKind

pub data Outcome : Type 0 where
  NormalEnd : Outcome
  NormalOf : Value → Outcome
  PlaceOf : Reference → Outcome
  ReturnOf : Value → Outcome
  ThrowOf : Value → Outcome
  ShortEnd : Outcome
  JumpOut : Outcome
  NoAnswersEnd : Outcome
  NoTurnsEnd : Outcome

-- what a run shows: its events in order, the shared variables at its end, and its outcome
pub record Ran : Type 0 where
  pub events : List Event
  pub final : Variable → Slot
  pub outcome : Outcome

abbrev pub body_demand : BodyKind → Demand
body_demand Program = Stat None
body_demand FunctionStatements = Stat None
body_demand ArrowExpression = As Val
body_demand InnerValue = As Val
body_demand InnerTarget = Target

abbrev pub body_request : (k : BodyKind) → Request (body_demand k)
body_request Program = []
body_request FunctionStatements = []
body_request ArrowExpression = tt
body_request InnerValue = tt
body_request InnerTarget = Prepare

abbrev pub outcome_of_reply : (k : BodyKind) → Reply (body_demand k) (body_request k) → Outcome
outcome_of_reply Program u = NormalEnd
outcome_of_reply FunctionStatements u = ReturnOf Undefined
outcome_of_reply ArrowExpression v = ReturnOf v
outcome_of_reply InnerValue v = NormalOf v
outcome_of_reply InnerTarget reference = PlaceOf reference

abbrev pub outcome_of_stop : Stop → Outcome
outcome_of_stop (Thrown v) = ThrowOf v
outcome_of_stop (Returned v) = ReturnOf v
outcome_of_stop Short = ShortEnd
outcome_of_stop (Broken l) = JumpOut
outcome_of_stop (Continued l) = JumpOut

abbrev pub outcome_of_halt : Halt → Outcome
outcome_of_halt NoAnswers = NoAnswersEnd
outcome_of_halt NoTurns = NoTurnsEnd

abbrev pub ran : Environment → Outcome → State → Option Ran
ran e o s = Some (record { events = reverse s.events; final = seen e.shared s.vars; outcome = o })

-- None is outside the model
abbrev pub ends_as : {A : Type 0} → Environment → (A → Outcome) → Completion A → Option Ran
ends_as e f (ok a s) = ran e (f a) s
ends_as e f (stop x s) = ran e (outcome_of_stop x) s
ends_as e f (halt h s) = ran e (outcome_of_halt h) s
ends_as e f out = None

abbrev pub start_of : (Variable → Slot) → Value → List Answer → ℕ → State
start_of vars this answers turns = record { vars = vars; self = this; answers = answers; turns = turns; events = [] }

-- a run of a body from this start, with these answers and turns
abbrev pub Run : Environment → BodyKind → Tree → (Variable → Slot) → Value → List Answer → ℕ → Option Ran
Run e k n vars this answers turns = ends_as e (outcome_of_reply k) (means e n (body_demand k) (body_request k) (start_of vars this answers turns))

-- from each start the run of the earlier body is outside the model, or the later one's is the same
pub record SameBody (e : Environment) (k : BodyKind) (X : VariableSet) (n w : Tree) : Type 0 where
  pub by : (vars : Variable → Slot) (this : Value) (answers : List Answer) (turns : ℕ) → Initialised X (start_of vars this answers turns) → (Run e k n vars this answers turns ≡ None) ⊎ (Run e k n vars this answers turns ≡ Run e k w vars this answers turns)

-- The variables of a body

-- a name that is a variable: not an unresolved `undefined`, NaN or Infinity
abbrev pub is_variable : NameKind → Bool
is_variable UndefinedName = false
is_variable NumberName = false
is_variable k = true

abbrev pub mentioned_names : List Name → List Variable
mentioned_names [] = []
mentioned_names (x ∷ xs) = if is_variable (kind_of x) then variable_of x ∷ mentioned_names xs else mentioned_names xs

-- the variables that a tree mentions
abbrev mutual
  pub mentioned : Tree → List Variable
  mentioned (node h xs n ts) = mentioned_names xs ++ mentioned_all ts

  pub mentioned_all : Trees → List Variable
  mentioned_all none = []
  mentioned_all (t ▸ ts) = mentioned t ++ mentioned_all ts

abbrev pub is_global : Variable → Bool
is_global (Variable.Global s) = true
is_global (Variable.Declared n) = false

-- what events show: the unresolved names. Which declared names another body may see is said where
-- scopes are
abbrev pub shared_of : Tree → VariableSet
shared_of t x = is_global x && is_in x (mentioned t)

-- what an answer may change: the same
abbrev pub foreign_of : Tree → VariableSet
foreign_of t x = is_global x && is_in x (mentioned t)

-- of a body in this program, with the variables that its events show, those that an answer may
-- change, whether its code is strict, and whether it asks the world for `this`
abbrev pub environment_in : Tree → VariableSet → VariableSet → Bool → Bool → Environment
environment_in t shared foreign strict asks_this = record { shared = shared; foreign = foreign; fixed = fixed_in strict t; asks_this = asks_this }

-- of the program's own statements, with its unresolved names
abbrev pub environment_of : Tree → Environment
environment_of t = environment_in t (shared_of t) (foreign_of t) (is_strict_in false (shape_of t)) false

-- The frame of a body: what is not its statements

pub record Frame : Type 0 where
  pub is_module : Bool
  pub directives : List (List ℕ)

-- of a program's root
abbrev pub frame_of_shape : Shape → Option Frame
frame_of_shape (shape.Program is_module directives) = Some (record { is_module = is_module; directives = directives })
frame_of_shape _ = None

abbrev pub frame_of : Tree → Option Frame
frame_of t = frame_of_shape (shape_of t)
