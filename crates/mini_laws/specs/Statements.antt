-- Statements other than loops: what each does over its children.
use Rattle.std.specs.Prelude.{ℕ, suc, Bool, true, List, [], ◌∷◌, Option, Some, None}
use Rattle.mini_model.specs.Weight.{same_text}
use Rattle.mini_laws.specs.Value.{Value, String, choose}
use Rattle.mini_laws.specs.State.{Create, ExportDefaultOf, Item, Thrown, Returned, Broken, Continued, Ends, ended}
use Rattle.mini_laws.specs.Demand.{Val, Test, Tail, Demand, As, Stat, Binds, Cases, ACase, Catches, AskTest, AskBody, LabelSet, Request, Reply}
use Rattle.mini_laws.specs.Command.{init_function, hide, event, OfFunction, Command, ret, fails, stuck, op, kid, then, attempt, bind, emit}
use Rattle.mini_laws.specs.Naming.{FunctionFact, Named, NamedDefault, BareDefault, Facts, function_facts}
use Rattle.mini_laws.specs.Asking.{first_demand, try_demand, tail_of}
use Rattle.mini_laws.specs.Replies.{as_ended, merged}

-- Scopes

-- ECMA-262, "Block": whatever the end, the names of the scope are gone after it
abbrev pub scoped : {σ : ℕ → Demand} {A : Type 0} → Command σ A → Command σ A
scoped c = op hide (then (λ u. attempt c (λ e. op hide (then (λ u. as_ended e)))))

-- ECMA-262, "InstantiateFunctionObject", and "Exports" of a function, which is exported where it is
-- created
abbrev pub create_function : {σ : ℕ → Demand} → Bool → FunctionFact → ℕ → Command σ (Unit {0})
create_function is_lexical Named i = op (event Create (OfFunction i) []) (then (λ v. op (init_function is_lexical i v) (then ret)))
create_function is_lexical NamedDefault i = op (event Create (OfFunction i) []) (then (λ v. op (init_function is_lexical i v) (then (λ u. bind (emit ExportDefaultOf (Item v ∷ [])) (λ w. ret tt)))))
create_function is_lexical BareDefault i = op (event Create (OfFunction i) []) (then (λ v. bind (emit ExportDefaultOf (Item v ∷ [])) (λ w. ret tt)))

-- ECMA-262, "BlockDeclarationInstantiation", "FunctionDeclarationInstantiation": the functions, in
-- order, from this one on
abbrev pub create_functions : {σ : ℕ → Demand} → Bool → List FunctionFact → ℕ → Command σ (Unit {0})
create_functions is_lexical [] i = ret tt
create_functions is_lexical (f ∷ fs) i = bind (create_function is_lexical f i) (λ u. create_functions is_lexical fs (suc i))

-- ECMA-262, "GlobalDeclarationInstantiation", "FunctionDeclarationInstantiation": the lexical names
-- are uninitialised, the functions are created, and the statements are run
abbrev pub body_step : Bool → (t : Option Tail) → List Facts → Command (λ i. Stat t) (Unit {0})
body_step has_lexical_functions t fs = op hide (then (λ u. bind (create_functions has_lexical_functions (function_facts fs) 0) (λ u. kid 0 [] (then ret))))

-- ECMA-262, "Block"
abbrev pub block_step : (t : Option Tail) → List Facts → Command (λ i. Stat t) (Unit {0})
block_step t fs = scoped (bind (create_functions true (function_facts fs) 0) (λ u. kid 0 [] (then ret)))

abbrev pub block_in : (fs : List Facts) (q : Demand) (r : Request q) → Command (λ i. tail_of q) (Reply q r)
block_in fs (Stat t) labels = attempt (block_step t fs) (merged t)
block_in fs q r = stuck

-- Branches

-- ECMA-262, "The if Statement": an `else` that is absent does nothing
abbrev pub if_step : (t : Option Tail) → Command (first_demand (As Test) (Stat t)) (Unit {0})
if_step t = kid 0 tt (then (λ b. choose b (kid 1 [] (then ret)) (kid 2 [] (then ret))))

abbrev pub if_in : (q : Demand) (r : Request q) → Command (first_demand (As Test) (tail_of q)) (Reply q r)
if_in (Stat t) labels = attempt (if_step t) (merged t)
if_in q r = stuck

abbrev pub unbroken : {σ : ℕ → Demand} → Ends (Unit {0}) → Command σ (Unit {0})
unbroken (ended (Broken None)) = ret tt
unbroken e = as_ended e

-- ECMA-262, "The switch Statement": the functions are created after the discriminant
abbrev pub switch_step : List Facts → Command (first_demand (As Val) Cases) (Unit {0})
switch_step fs = kid 0 tt (then (λ v. scoped (bind (create_functions true (function_facts fs) 0) (λ u. kid 1 v unbroken))))

abbrev pub case_step : Bool → (q : Demand) (r : Request q) → Command (first_demand (As Val) (Stat None)) (Reply q r)
case_step has_no_test ACase AskTest = kid 0 tt (then (λ v. ret (choose has_no_test None (Some v))))
case_step has_no_test ACase AskBody = kid 1 [] (then ret)
case_step has_no_test q r = stuck

-- Jumps

-- a label's text, if there is a label
abbrev pub label_of : Value → Option (List ℕ)
label_of (String s) = Some s
label_of v = None

-- ECMA-262, "The break Statement", "The continue Statement"
abbrev pub break_step : Command (λ i. As Val) (Unit {0})
break_step = kid 0 tt (then (λ v. fails (Broken (label_of v))))

abbrev pub continue_step : Command (λ i. As Val) (Unit {0})
continue_step = kid 0 tt (then (λ v. fails (Continued (label_of v))))

-- ECMA-262, "The return Statement", "The throw Statement"
abbrev pub return_step : Command (λ i. As Val) (Unit {0})
return_step = kid 0 tt (then (λ v. fails (Returned v)))

abbrev pub throw_step : Command (λ i. As Val) (Unit {0})
throw_step = kid 0 tt (then (λ v. fails (Thrown v)))

abbrev pub unlabelled : {σ : ℕ → Demand} → List ℕ → Ends (Unit {0}) → Command σ (Unit {0})
unlabelled l (ended (Broken (Some m))) = choose (same_text m l) (ret tt) (fails (Broken (Some m)))
unlabelled l e = as_ended e

abbrev pub labelled : Option (List ℕ) → LabelSet → Command (first_demand (As Val) (Stat None)) (Unit {0})
labelled (Some l) labels = kid 1 (l ∷ labels) (unlabelled l)
labelled None labels = stuck

-- ECMA-262, "Labelled Statements"
abbrev pub label_step : LabelSet → Command (first_demand (As Val) (Stat None)) (Unit {0})
label_step labels = kid 0 tt (then (λ v. labelled (label_of v) labels))

-- Exceptions

-- ECMA-262, "The try Statement": a finalizer that ends abruptly replaces the end
abbrev pub finalized : Ends (Unit {0}) → Command try_demand (Unit {0})
finalized e = kid 2 [] (then (λ u. as_ended e))

abbrev pub handled : Ends (Unit {0}) → Command try_demand (Unit {0})
handled (ended (Thrown v)) = kid 1 v finalized
handled e = finalized e

abbrev pub try_step : Command try_demand (Unit {0})
try_step = kid 0 [] handled

-- ECMA-262, "CatchClauseEvaluation"
abbrev pub catch_step : Value → Command (first_demand (Binds true) (Stat None)) (Unit {0})
catch_step v = scoped (kid 0 v (then (λ u. kid 1 [] (then ret))))

abbrev pub catch_in : (q : Demand) (r : Request q) → Command (first_demand (Binds true) (Stat None)) (Reply q r)
catch_in Catches v = catch_step v
catch_in q r = stuck
