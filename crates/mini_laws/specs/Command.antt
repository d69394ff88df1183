-- Commands over the children of a node, and what they do. A command names no variable but by its
-- place in the node's naming, so that the command of a node is the same whatever its variables are.
use Rattle.std.specs.Prelude.{ℕ, zero, suc, Bool, true, false, List, [], ◌∷◌, Option, Some, None}
use Rattle.mini_laws.specs.Value.{Value, Undefined, Boolean, Object, Variable, Declared, Global, Slot, Holds, Missing, Uninitialised, choose, variable_eq, is_in, nth}
use Rattle.mini_laws.specs.State.{Label, Coerce, DeleteOf, NewOf, InOf, InstanceOf, ArrayOf, ObjectOf, Create, NodeOf, PlaceOf, BindOf, ThisOf, IteratorOf, KeysOf, NextOf, YieldOf, ReferenceError, Raise, FreshOf, ABoolean, AnObject, InChain, Entry, Item, Given, Normal, Throws, Finished, Returning, Shortens, Answer, State, Stop, Thrown, Returned, Short, NoAnswers, NoTurns, Completion, ok, stop, halt, out, Ends, done, ended, either, Writing, Environment, with_vars, seen, news_of}
use Rattle.mini_laws.specs.Demand.{Demand, Request, Reply}

-- a function that is created where its block or body is entered: its name, if it has one, and its
-- number
pub record Hoisted : Type 0 where
  pub name : Option Variable
  pub number : ℕ

-- the variables and the number of a node: those that it reads, those that it writes or initialises,
-- those that its pattern binds, those of the scope that it opens, and the functions that it creates
pub record Naming : Type 0 where
  pub own : List Variable
  pub written : List Variable
  pub bound : List Variable
  pub number : ℕ
  pub scope : List Variable
  pub functions : List Hoisted

-- whose number an event has: none, the node's, or that of a function that the node creates
pub data Tag : Type 0 where
  NoTag : Tag
  Mine : Tag
  OfFunction : ℕ → Tag

-- an action that is no child's. A function's name is initialised with a Fresh before it, or without
pub data Op : Type 0 where
  read : ℕ → Op
  read_typeof : ℕ → Op
  fixity : ℕ → Op
  write : ℕ → Value → Op
  init : ℕ → Value → Op
  init_function : Bool → ℕ → Value → Op
  hide : Op
  copy : Op
  event : Label → Tag → List Entry → Op
  bind_names : Value → Op
  self : Op
  turn : Op
  fuel : Op

-- what an event's answer tells
abbrev pub Got : Label → Type 0
Got NextOf = Option Value
Got DeleteOf = Bool
Got InOf = Bool
Got InstanceOf = Bool
Got l = Value

abbrev pub Gets : Op → Type 0
Gets (read i) = Value
Gets (read_typeof i) = Value
Gets (fixity i) = Writing
Gets (event l t vs) = Got l
Gets self = Value
Gets fuel = ℕ
Gets _ = Unit {0}

-- a command over children of whom q is asked: it replies, ends abruptly, has no meaning, or goes on
-- after an action or after a child
pub data Command (q : ℕ → Demand) (A : Type 0) : Type 0 where
  ret : A → Command q A
  fails : Stop → Command q A
  stuck : Command q A
  op : (o : Op) → (Ends (Gets o) → Command q A) → Command q A
  kid : (i : ℕ) (r : Request (q i)) → (Ends (Reply (q i) r) → Command q A) → Command q A

-- goes on after a normal end
abbrev pub then : {q : ℕ → Demand} {A B : Type 0} → (A → Command q B) → Ends A → Command q B
then f (done a) = f a
then f (ended e) = fails e

-- goes on after any end
abbrev pub attempt : {q : ℕ → Demand} {A B : Type 0} → Command q A → (Ends A → Command q B) → Command q B
attempt (ret a) f = f (done a)
attempt (fails e) f = f (ended e)
attempt stuck f = stuck
attempt (op o k) f = op o (λ e. attempt (k e) f)
attempt (kid i r k) f = kid i r (λ e. attempt (k e) f)

abbrev pub bind : {q : ℕ → Demand} {A B : Type 0} → Command q A → (A → Command q B) → Command q B
bind (ret a) f = f a
bind (fails e) f = fails e
bind stuck f = stuck
bind (op o k) f = op o (λ e. bind (k e) f)
bind (kid i r k) f = kid i r (λ e. bind (k e) f)

-- a command over the rest of the children
abbrev pub shift : {q : ℕ → Demand} {A : Type 0} → Command (λ i. q (suc i)) A → Command q A
shift {q} (ret a) = ret a
shift {q} (fails e) = fails e
shift {q} stuck = stuck
shift {q} (op o k) = op o (λ a. shift {q = q} (k a))
shift {q} (kid i r k) = kid (suc i) r (λ a. shift {q = q} (k a))

-- a body that tells whether to go on, with this many turns left
abbrev pub repeat : {q : ℕ → Demand} → ℕ → Command q Bool → Command q (Unit {0})
repeat zero c = stuck
repeat (suc n) c = bind c (λ b. choose b (repeat n c) (ret tt))

-- a body in turns of a loop, until it tells to end: each takes one of the turns that are left
abbrev pub loop : {q : ℕ → Demand} → Command q Bool → Command q (Unit {0})
loop c = op fuel (then (λ n. repeat (suc n) (op turn (then (λ u. c)))))

-- notes an event and takes its answer, without a number or with the node's
abbrev pub emit : {σ : ℕ → Demand} (l : Label) → List Entry → Command σ (Got l)
emit l vs = op (event l NoTag vs) (then ret)

abbrev pub emit_mine : {σ : ℕ → Demand} (l : Label) → List Entry → Command σ (Got l)
emit_mine l vs = op (event l Mine vs) (then ret)

-- what an action does

abbrev pub set_var : (Variable → Slot) → Variable → Slot → Variable → Slot
set_var vars x v y = choose (variable_eq x y) v (vars y)

abbrev pub hide_all : List Variable → (Variable → Slot) → Variable → Slot
hide_all xs vars y = choose (is_in y xs) Uninitialised (vars y)

-- the names that a pattern binds begin with what the answer gives
abbrev pub bind_all : List Variable → (Variable → Value) → (Variable → Slot) → Variable → Slot
bind_all xs values vars y = choose (is_in y xs) (Holds (values y)) (vars y)

-- what an answer tells: a value, an abrupt end, or what that label can't have
pub data Heard (A : Type 0) : Type 0 where
  hears : A → Heard A
  breaks : Stop → Heard A
  nonsense : Heard A

abbrev pub is_object : Value → Bool
is_object (Object n is_function) = true
is_object _ = false

abbrev pub only_object : Value → Heard Value
only_object v = choose (is_object v) (hears v) nonsense

abbrev pub only_primitive : Value → Heard Value
only_primitive v = choose (is_object v) nonsense (hears v)

abbrev pub only_boolean : Value → Heard Bool
only_boolean (Boolean b) = hears b
only_boolean _ = nonsense

abbrev pub boolean_value : Value → Heard Value
boolean_value (Boolean b) = hears (Boolean b)
boolean_value _ = nonsense

abbrev pub hear_value : (l : Label) → Value → Heard (Got l)
hear_value NextOf v = hears (Some v)
hear_value DeleteOf v = only_boolean v
hear_value InOf v = only_boolean v
hear_value InstanceOf v = only_boolean v
hear_value (Coerce hint) v = only_primitive v
hear_value Create v = only_object v
hear_value NewOf v = only_object v
hear_value ArrayOf v = only_object v
hear_value ObjectOf v = only_object v
hear_value IteratorOf v = only_object v
hear_value KeysOf v = only_object v
hear_value (NodeOf ABoolean) v = boolean_value v
hear_value (NodeOf AnObject) v = only_object v
hear_value (Raise error) v = nonsense
hear_value FreshOf v = nonsense
hear_value l v = hears v

abbrev pub hear : (l : Label) → Given → Heard (Got l)
hear l (Normal v) = hear_value l v
hear l (Throws v) = breaks (Thrown v)
hear NextOf Finished = hears None
hear (YieldOf delegate) (Returning v) = breaks (Returned v)
hear (NodeOf InChain) Shortens = breaks Short
hear (PlaceOf InChain) Shortens = breaks Short
hear l g = nonsense

abbrev pub function_number : Option Hoisted → Option ℕ
function_number (Some f) = Some f.number
function_number None = None

abbrev pub number_of : Naming → Tag → Option ℕ
number_of names NoTag = None
number_of names Mine = Some names.number
number_of names (OfFunction i) = function_number (nth names.functions i)

abbrev pub function_name : Option Hoisted → Option Variable
function_name (Some f) = f.name
function_name None = None

abbrev pub note : Environment → Label → Option ℕ → List Entry → Option Variable → State → State
note e l n vs x s = record s { events = record { label = l; number = n; operands = vs; fresh = x; shared = seen e.shared s.vars } ∷ s.events }

unfoldable pub heard : {A : Type 0} → Heard A → State → Completion A
heard (hears a) s = ok a s
heard (breaks e) s = stop e s
heard nonsense s = out

unfoldable pub answered : Environment → (l : Label) → List Answer → State → Completion (Got l)
answered e l [] s = halt NoAnswers s
answered e l (a ∷ rest) s = heard (hear l a.given) (record s { vars = news_of e.foreign s.vars a.news; answers = rest })

abbrev pub bound_if : Heard Value → List Variable → (Variable → Value) → State → Completion (Unit {0})
bound_if (hears v) xs values s = ok tt (with_vars s (bind_all xs values s.vars))
bound_if (breaks e) xs values s = stop e s
bound_if nonsense xs values s = out

-- the answer to the event of a pattern
unfoldable pub answered_binds : Environment → List Variable → List Answer → State → Completion (Unit {0})
answered_binds e xs [] s = halt NoAnswers s
answered_binds e xs (a ∷ rest) s = bound_if (hear BindOf a.given) xs a.binds (record s { vars = news_of e.foreign s.vars a.news; answers = rest })

-- `Fresh`, of a shared name
abbrev pub fresh_note : Environment → Variable → State → State
fresh_note e x s = choose (e.shared x) (note e FreshOf None [] (Some x) s) s

-- ECMA-262, "InitializeBinding"
abbrev pub start : Environment → Bool → Variable → Value → State → State
start e is_lexical x v s = let t = choose is_lexical (fresh_note e x s) s in with_vars t (set_var t.vars x (Holds v))

-- ECMA-262, "CreatePerIterationEnvironment"
abbrev pub copies : Environment → List Variable → State → State
copies e [] s = s
copies e (x ∷ xs) s = copies e xs (fresh_note e x s)

-- ECMA-262, "GetBindingValue" of a declared name, which is never absent
unfoldable pub read_slot : Slot → State → Completion Value
read_slot (Holds v) s = ok v s
read_slot Missing s = out
read_slot Uninitialised s = out

-- ECMA-262, "GetValue" of an unresolved name: where it is absent, a ReferenceError is thrown
abbrev pub read_global : Environment → Slot → State → Completion Value
read_global e (Holds v) s = ok v s
read_global e Missing s = answered e (Raise ReferenceError) s.answers (note e (Raise ReferenceError) None [] None s)
read_global e Uninitialised s = out

abbrev pub read_name : Environment → Variable → Slot → State → Completion Value
read_name e (Declared n) v s = read_slot v s
read_name e (Global t) v s = read_global e v s

-- the same under `typeof`, where an absent name is undefined
unfoldable pub read_any : Slot → State → Completion Value
read_any (Holds v) s = ok v s
read_any Missing s = ok Undefined s
read_any Uninitialised s = out

-- and of any name: a declared one is never absent
abbrev pub read_type : Variable → Slot → State → Completion Value
read_type (Declared n) v s = read_slot v s
read_type (Global t) v s = read_any v s

-- ECMA-262, "SetMutableBinding" of a declared name
unfoldable pub write_slot : Variable → Value → Slot → State → Completion (Unit {0})
write_slot x v (Holds w) s = ok tt (with_vars s (set_var s.vars x (Holds v)))
write_slot x v Missing s = out
write_slot x v Uninitialised s = out

-- ECMA-262, "PutValue" of an unresolved name: an absent one is added
abbrev pub write_global : Variable → Value → Slot → State → Completion (Unit {0})
write_global x v (Holds w) s = ok tt (with_vars s (set_var s.vars x (Holds v)))
write_global x v Missing s = ok tt (with_vars s (set_var s.vars x (Holds v)))
write_global x v Uninitialised s = out

abbrev pub write_name : Variable → Value → Slot → State → Completion (Unit {0})
write_name (Declared n) v o s = write_slot (Declared n) v o s
write_name (Global t) v o s = write_global (Global t) v o s

unfoldable pub at_variable : {A : Type 0} → Option Variable → (Variable → Completion A) → Completion A
at_variable (Some x) f = f x
at_variable None f = out

-- ECMA-262, "ResolveThisBinding"
unfoldable pub this_of : Environment → Bool → State → Completion Value
this_of e true s = answered e ThisOf s.answers (note e ThisOf None [] None s)
this_of e false s = ok s.self s

unfoldable pub take_turn : ℕ → State → Completion (Unit {0})
take_turn zero s = halt NoTurns s
take_turn (suc n) s = ok tt (record s { turns = n })

unfoldable pub act : Environment → Naming → (o : Op) → State → Completion (Gets o)
act e names (read i) s = at_variable (nth names.own i) (λ x. read_name e x (s.vars x) s)
act e names (read_typeof i) s = at_variable (nth names.own i) (λ x. read_type x (s.vars x) s)
act e names (fixity i) s = at_variable (nth names.written i) (λ x. ok (e.fixed x) s)
act e names (write i v) s = at_variable (nth names.written i) (λ x. write_name x v (s.vars x) s)
act e names (init i v) s = at_variable (nth names.written i) (λ x. ok tt (start e true x v s))
act e names (init_function is_lexical i v) s = at_variable (function_name (nth names.functions i)) (λ x. ok tt (start e is_lexical x v s))
act e names hide s = ok tt (with_vars s (hide_all names.scope s.vars))
act e names copy s = ok tt (copies e names.scope s)
act e names (event l t vs) s = answered e l s.answers (note e l (number_of names t) vs None s)
act e names (bind_names v) s = answered_binds e names.bound s.answers (note e BindOf (Some names.number) (Item v ∷ []) None s)
act e names self s = this_of e e.asks_this s
act e names turn s = take_turn s.turns s
act e names fuel s = ok s.turns s

abbrev pub Kids : (ℕ → Demand) → Type 0
Kids q = (i : ℕ) (r : Request (q i)) → State → Completion (Reply (q i) r)

-- the run of a command, given what its children do
abbrev pub run : {q : ℕ → Demand} {A : Type 0} → Environment → Naming → Kids q → Command q A → State → Completion A
run e names K (ret a) s = ok a s
run e names K (fails x) s = stop x s
run e names K stuck s = out
run e names K (op o k) s = either (act e names o s) (λ a. run e names K (k (done a))) (λ x. run e names K (k (ended x)))
run e names K (kid i r k) s = either (K i r s) (λ a. run e names K (k (done a))) (λ x. run e names K (k (ended x)))
