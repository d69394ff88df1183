-- Loops: what each does over its children. A turn is taken before each test of `while` and `for`,
-- each run of the body of a `do`, and each step of an iterator.
use Rattle.std.specs.Prelude.{ℕ, Bool, true, false, List, [], ◌∷◌, Option, Some, None}
use Rattle.mini_model.specs.Weight.{same_text}
use Rattle.mini_model.specs.declared.kind.VariableDeclarationKind.TheVariants.{Var, Let}
use Rattle.mini_laws.specs.Value.{Value, choose, is_nullish}
use Rattle.mini_laws.specs.State.{KeysOf, IteratorOf, NextOf, CloseOf, Item, Thrown, Broken, Continued, Ends, done, ended}
use Rattle.mini_laws.specs.Demand.{Test, LoopTail, Demand, As, Stat, Prepare, Put, LabelSet}
use Rattle.mini_laws.specs.Command.{copy, event, NoTag, Command, ret, fails, op, kid, then, attempt, bind, loop, emit}
use Rattle.mini_laws.specs.Naming.{Declared, Variables, AClass}
use Rattle.mini_laws.specs.Asking.{first_demand, do_demand, for_demand, each_demand}
use Rattle.mini_laws.specs.Statements.{scoped}

abbrev pub has_label : LabelSet → List ℕ → Bool
has_label [] l = false
has_label (m ∷ labels) l = choose (same_text m l) true (has_label labels l)

-- ECMA-262, "LoopContinues", and a `break` that ends the loop: whether it goes on after its body
abbrev pub after_body : {σ : ℕ → Demand} → LabelSet → Ends (Unit {0}) → Command σ Bool
after_body labels (done u) = ret true
after_body labels (ended (Broken None)) = ret false
after_body labels (ended (Continued None)) = ret true
after_body labels (ended (Continued (Some l))) = choose (has_label labels l) (ret true) (fails (Continued (Some l)))
after_body labels (ended e) = fails e

-- ECMA-262, "The while Statement"
abbrev pub while_step : LabelSet → Command (first_demand (As Test) (Stat (Some LoopTail))) (Unit {0})
while_step labels = loop (kid 0 tt (then (λ b. choose b (kid 1 [] (after_body labels)) (ret false))))

-- ECMA-262, "The do-while Statement"
abbrev pub do_step : LabelSet → Command do_demand (Unit {0})
do_step labels = loop (kid 0 [] (λ e. bind (after_body labels e) (λ b. choose b (kid 1 tt (then ret)) (ret false))))

-- ECMA-262, "CreatePerIterationEnvironment": the names of a `let` are copied for each turn
abbrev pub copied : {σ : ℕ → Demand} {A : Type 0} → Option Declared → Command σ A → Command σ A
copied (Some (Variables Let)) c = op copy (then (λ u. c))
copied d c = c

-- an absent test is true
abbrev pub for_test : (d : Option Declared) → Bool → Command (for_demand d) Bool
for_test d true = ret true
for_test d false = kid 1 tt (then ret)

-- ECMA-262, "ForBodyEvaluation"
abbrev pub for_turn : (d : Option Declared) → Bool → LabelSet → Command (for_demand d) Bool
for_turn d has_no_test labels =
    bind (for_test d has_no_test) (λ b. choose b (kid 3 [] (λ e. bind (after_body labels e) (λ c. choose c (copied d (kid 2 tt (then (λ u. ret true)))) (ret false)))) (ret false))

abbrev pub for_turns : (d : Option Declared) → Bool → LabelSet → Command (for_demand d) (Unit {0})
for_turns d has_no_test labels = copied d (loop (for_turn d has_no_test labels))

abbrev pub for_head : (d : Option Declared) → Command (for_demand d) (Unit {0}) → Command (for_demand d) (Unit {0})
for_head (Some (Variables k)) c = kid 0 [] (then (λ u. c))
for_head (Some AClass) c = kid 0 tt (then (λ u. c))
for_head None c = kid 0 tt (then (λ u. c))

-- ECMA-262, "The for Statement"
abbrev pub for_step : (d : Option Declared) → Bool → LabelSet → Command (for_demand d) (Unit {0})
for_step d has_no_test labels = scoped (for_head d (for_turns d has_no_test labels))

-- ECMA-262, "ForIn/OfBodyEvaluation": the left side takes a value
abbrev pub give_left : (d : Option Declared) → Value → Command (each_demand d) (Unit {0})
give_left (Some (Variables Var)) v = kid 0 (Some v) (then ret)
give_left (Some (Variables k)) v = kid 0 v (then ret)
give_left (Some AClass) v = kid 0 Prepare (then (λ reference. kid 0 (Put reference v) (then ret)))
give_left None v = kid 0 Prepare (then (λ reference. kid 0 (Put reference v) (then ret)))

abbrev pub each_turn : (d : Option Declared) → LabelSet → Value → Command (each_demand d) Bool
each_turn d labels v = bind (give_left d v) (λ u. kid 2 [] (after_body labels))

-- the names of the head are those of one turn
abbrev pub turn_of : (d : Option Declared) → LabelSet → Value → Command (each_demand d) Bool
turn_of d labels v = scoped (each_turn d labels v)

abbrev pub on_next : {σ : ℕ → Demand} → (Value → Command σ Bool) → Option Value → Command σ Bool
on_next turn None = ret false
on_next turn (Some v) = turn v

-- ECMA-262, "IteratorStepValue"
abbrev pub next_of : {σ : ℕ → Demand} → Value → (Value → Command σ Bool) → Command σ Bool
next_of iterator turn = bind (emit NextOf (Item iterator ∷ [])) (on_next turn)

-- ECMA-262, "EnumerateObjectProperties": over null and undefined nothing is run
abbrev pub keys_in : (d : Option Declared) → LabelSet → Value → Command (each_demand d) (Unit {0})
keys_in d labels v = choose (is_nullish v) (ret tt) (bind (emit KeysOf (Item v ∷ [])) (λ iterator. loop (next_of iterator (turn_of d labels))))

-- ECMA-262, "Initializers in ForIn Statement Heads": a `var` is initialised before the right side
-- is evaluated
abbrev pub begin_left : (d : Option Declared) → Command (each_demand d) (Unit {0}) → Command (each_demand d) (Unit {0})
begin_left (Some (Variables Var)) c = kid 0 None (then (λ u. c))
begin_left d c = c

-- ECMA-262, "ForIn/OfHeadEvaluation": lexical names of the head are uninitialised while the right
-- side is evaluated
abbrev pub for_in_step : (d : Option Declared) → LabelSet → Command (each_demand d) (Unit {0})
for_in_step d labels = scoped (begin_left d (kid 1 tt (then (keys_in d labels))))

-- ECMA-262, "IteratorClose": after a throw the answer isn't looked at
abbrev pub closing : {σ : ℕ → Demand} → Value → Ends Bool → Command σ Bool
closing iterator (done true) = ret true
closing iterator (done false) = bind (emit CloseOf (Item iterator ∷ [])) (λ v. ret false)
closing iterator (ended (Thrown v)) = op (event CloseOf NoTag (Item iterator ∷ [])) (λ u. fails (Thrown v))
closing iterator (ended e) = bind (emit CloseOf (Item iterator ∷ [])) (λ v. fails e)

abbrev pub values_of : (d : Option Declared) → LabelSet → Value → Command (each_demand d) (Unit {0})
values_of d labels v = bind (emit IteratorOf (Item v ∷ [])) (λ iterator. loop (next_of iterator (λ w. attempt (turn_of d labels w) (closing iterator))))

abbrev pub for_of_step : (d : Option Declared) → LabelSet → Command (each_demand d) (Unit {0})
for_of_step d labels = scoped (kid 1 tt (then (values_of d labels)))
