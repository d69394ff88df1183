-- The state of a run: variables, events and answers.
use Rattle.std.specs.Prelude.{ℕ, Bool, List, Option, Some}
use Rattle.mini_laws.specs.Value.{Value, Variable, VariableSet, Slot, Holds, Missing, choose}

-- what a primitive value is wanted for (ECMA-262, "ToPrimitive")
pub data Hint : Type 0 where
  ForDefault : Hint
  ForNumber : Hint
  ForString : Hint

-- what the world answers to a carried node: anything, a boolean, an object, or in a chain also its
-- end
pub data Carries : Type 0 where
  Anything : Carries
  ABoolean : Carries
  AnObject : Carries
  InChain : Carries

-- which error is made and thrown (ECMA-262, "Native Error Types Used in This Standard")
pub data ErrorKind : Type 0 where
  TypeError : ErrorKind
  ReferenceError : ErrorKind

-- what is asked of the world around the program. `Fresh` alone takes no answer: it comes before a
-- shared lexical name is initialised, and at each copy of one for a turn of a loop. `PlaceOf` is of
-- a private or a `super` member that is called or assigned to, and of a `super` member that is
-- deleted: its parts are evaluated, and the answer is its object
pub data Label : Type 0 where
  GetOf : Label
  SetOf : Label
  DeleteOf : Label
  CallOf : Label
  DirectEval : Label
  NewOf : Label
  Coerce : Hint → Label
  InOf : Label
  InstanceOf : Label
  ArrayOf : Label
  ObjectOf : Label
  SpreadOf : Label
  Create : Label
  NodeOf : Carries → Label
  PlaceOf : Carries → Label
  BindOf : Label
  ThisOf : Label
  IteratorOf : Label
  KeysOf : Label
  NextOf : Label
  CloseOf : Label
  YieldOf : Bool → Label
  Raise : ErrorKind → Label
  FreshOf : Label
  DebuggerOf : Label
  ExportDefaultOf : Label

-- an operand of an event, or an entry of a list or of an object. `Converted` is a key that was an
-- object and that the read before has made a property key
pub data Entry : Type 0 where
  Item : Value → Entry
  Converted : Value → Entry
  Spreaded : Value → Entry
  Hole : Entry
  Field : Value → Value → Entry
  Prototype : Value → Entry
  Getter : Value → Value → Entry
  Setter : Value → Value → Entry

-- what a run asks of the world: a label, the number of the node if it has one, its operands, the
-- variable of a Fresh, and the shared variables at that moment
pub record Event : Type 0 where
  pub label : Label
  pub number : Option ℕ
  pub operands : List Entry
  pub fresh : Option Variable
  pub shared : Variable → Slot

-- what the world answers
pub data Given : Type 0 where
  Normal : Value → Given
  Throws : Value → Given
  -- to Next: there is none
  Finished : Given
  -- to Yield: the generator is returned from
  Returning : Value → Given
  -- to a carried node in a chain: the chain ends there
  Shortens : Given

-- and which variables it has changed, and what the names that a pattern binds begin with
pub record Answer : Type 0 where
  pub given : Given
  pub news : Variable → Option Value
  pub binds : Variable → Value

-- the variables, `this`, the answers and the turns of loops that are left, and the events so far,
-- the last one first
pub record State : Type 0 where
  pub vars : Variable → Slot
  pub self : Value
  pub answers : List Answer
  pub turns : ℕ
  pub events : List Event

-- an abrupt end (ECMA-262, "The Completion Record Specification Type"): `break` and `continue` with
-- the label's text, and the end of an optional chain whose base is undefined or null
pub data Stop : Type 0 where
  Thrown : Value → Stop
  Returned : Value → Stop
  Broken : Option (List ℕ) → Stop
  Continued : Option (List ℕ) → Stop
  Short : Stop

-- where a run is cut off, whatever is around
pub data Halt : Type 0 where
  NoAnswers : Halt
  NoTurns : Halt

-- how a part of a run ends: with a reply, abruptly, cut off, or outside the model
pub data Completion (A : Type 0) : Type 0 where
  ok : A → State → Completion A
  stop : Stop → State → Completion A
  halt : Halt → State → Completion A
  out : Completion A

-- an end that what is around may look at
pub data Ends (A : Type 0) : Type 0 where
  done : A → Ends A
  ended : Stop → Ends A

-- goes on after a reply, or after an abrupt end
unfoldable pub either : {A B : Type 0} → Completion A → (A → State → Completion B) → (Stop → State → Completion B) → Completion B
either (ok a s) f h = f a s
either (stop e s) f h = h e s
either (halt e s) f h = halt e s
either out f h = out

-- what a declaration says of a write of its names: it writes, it raises, or nothing
pub data Fixed : Type 0 where
  Writable : Fixed
  Constant : Fixed
  KeepsOld : Fixed

-- what a write of a variable does (ECMA-262, "PutValue"): it writes, and adds the name where that
-- is absent; it writes a name that is there, and raises a ReferenceError where it is absent; it
-- raises a TypeError; or it keeps the old value
pub data Writing : Type 0 where
  Writes : Writing
  WritesPresent : Writing
  Refuses : Writing
  Keeps : Writing

-- what a run rests on besides the text: the variables that an event shows, those that an answer may
-- change, what a write of each does, and whether `this` is asked of the world, as in a constructor
-- of a class with a superclass
pub record Environment : Type 0 where
  pub shared : VariableSet
  pub foreign : VariableSet
  pub fixed : Variable → Writing
  pub asks_this : Bool

abbrev pub with_vars : State → (Variable → Slot) → State
with_vars s f = record s { vars = f }

-- the shared variables alone
abbrev pub seen : VariableSet → (Variable → Slot) → Variable → Slot
seen d vars x = choose (d x) (vars x) Missing

-- an answer changes only a variable that has a value
abbrev pub refresh : Slot → Option Value → Slot
refresh (Holds v) (Some w) = Holds w
refresh s _ = s

abbrev pub news_of : VariableSet → (Variable → Slot) → (Variable → Option Value) → Variable → Slot
news_of d vars new x = choose (d x) (refresh (vars x) (new x)) (vars x)
