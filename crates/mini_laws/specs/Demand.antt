-- What a parent asks of a child, and what the child replies.
use Rattle.std.specs.Prelude.{ℕ, Bool, false, List, Option}
use Rattle.mini_laws.specs.Value.{Value, Undefined, Boolean, truth}
use Rattle.mini_laws.specs.State.{Entry}

-- the value, its truth alone, or that the expression is evaluated and no more
pub data Want : Type 0 where
  Val : Want
  Test : Want
  Unused : Want

-- a statement after which its parent ends a turn of a loop, or a function: there running off the
-- end and jumping to it are one thing
pub data Tail : Type 0 where
  LoopTail : Tail
  FunctionTail : Tail

pub data Demand : Type 0 where
  -- an expression; the callee of a call; the operand of `typeof`, and of `delete`; what is assigned
  -- to; an item of a list
  As : Want → Demand
  Callee : Demand
  OfType : Demand
  Deleted : Demand
  Target : Demand
  AnEntry : Demand
  -- lists of expressions: of arguments, elements or properties; of the parts of a sequence; of
  -- those of a template
  Items : Demand
  Parts : Want → Demand
  Texts : Demand
  -- a statement
  Stat : Option Tail → Demand
  -- declarators, lexical or not, and what takes a value and binds names to it
  Declares : Bool → Demand
  Binds : Bool → Demand
  -- a `var` in the head of a `for..in` or `for..of`
  Heads : Demand
  -- a class that is declared and whose value is asked
  ClassValue : Demand
  -- the cases of a `switch`, one of them, and the handler of a `try`
  Cases : Demand
  ACase : Demand
  Catches : Demand

-- the labels of a statement (ECMA-262, "LabelledEvaluation")
abbrev pub LabelSet : Type 0
LabelSet = List (List ℕ)

-- a reference (ECMA-262, "The Reference Record Specification Type"): of a name, which stays with
-- its node; of a member, with its base and its key, which is a property key or an object; of one
-- that was read, so that its key is no object any more; of a carried node; or a value that is no
-- reference
pub data Reference : Type 0 where
  AName : Reference
  AMember : Value → Value → Reference
  AFetched : Value → Value → Reference
  ACarried : Reference
  AValue : Value → Reference

-- what is asked of a target: the reference, its value, or that a value is put there
pub data TargetRequest : Type 0 where
  Prepare : TargetRequest
  Fetch : Reference → TargetRequest
  Put : Reference → Value → TargetRequest

-- and of a case: its test's value, if it has a test, or that its statements are run
pub data CaseRequest : Type 0 where
  AskTest : CaseRequest
  AskBody : CaseRequest

-- what a parent tells a child: the head of a loop that its initializer is evaluated, if it has one,
-- or that it takes a value
abbrev pub Request : Demand → Type 0
Request Target = TargetRequest
Request (Stat t) = LabelSet
Request (Binds lexical) = Value
Request Heads = Option Value
Request Cases = Value
Request ACase = CaseRequest
Request Catches = Value
Request _ = Unit {0}

-- a function that is called, its `this`, and whether the call is a direct eval
pub record Called : Type 0 where
  pub value : Value
  pub this_value : Value
  pub direct : Bool

abbrev pub Says : Want → Type 0
Says Val = Value
Says Test = Bool
Says Unused = Unit {0}

abbrev pub TargetSays : TargetRequest → Type 0
TargetSays Prepare = Reference
TargetSays (Fetch reference) = Value
TargetSays (Put reference v) = Unit {0}

abbrev pub CaseSays : CaseRequest → Type 0
CaseSays AskTest = Option Value
CaseSays AskBody = Unit {0}

abbrev pub Reply : (q : Demand) → Request q → Type 0
Reply (As w) r = Says w
Reply Callee r = Called
Reply OfType r = Value
Reply Deleted r = Reference
Reply Target r = TargetSays r
Reply AnEntry r = Entry
Reply Items r = List Entry
Reply (Parts w) r = Says w
Reply Texts r = List (List ℕ)
Reply (Stat t) r = Unit {0}
Reply (Declares lexical) r = Unit {0}
Reply (Binds lexical) r = Unit {0}
Reply Heads r = Unit {0}
Reply ClassValue r = Value
Reply Cases r = Unit {0}
Reply ACase r = CaseSays r
Reply Catches r = Unit {0}

-- a value, and a boolean, as it is wanted
abbrev pub says : (w : Want) → Value → Says w
says Val v = v
says Test v = truth v
says Unused v = tt

abbrev pub says_truth : (w : Want) → Bool → Says w
says_truth Val b = Boolean b
says_truth Test b = b
says_truth Unused b = tt

-- the function of a plain call has no `this`
abbrev pub plain_call : Value → Called
plain_call v = record { value = v; this_value = Undefined; direct = false }
