-- Declarations, what binds names, and modules.
use Rattle.std.specs.Prelude.{ℕ, Bool, true, false, List, [], ◌∷◌, Option, Some, None}
use Rattle.mini_model.specs.declared.kind.VariableDeclarationKind.{VariableDeclarationKind}
use Rattle.mini_laws.specs.Value.{Value, Undefined}
use Rattle.mini_laws.specs.State.{NodeOf, AnObject, ExportDefaultOf, Item}
use Rattle.mini_laws.specs.Demand.{Val, Demand, As, Stat, Declares, Binds, Heads, ClassValue, Request, Reply}
use Rattle.mini_laws.specs.Command.{init, bind_names, Command, ret, stuck, op, kid, then, attempt, bind, emit, emit_mine}
use Rattle.mini_laws.specs.Naming.{Declared, Variables, AClass, FunctionFact}
use Rattle.mini_laws.specs.Asking.{first_demand, declaration_demand, lexically, exported_demand}
use Rattle.mini_laws.specs.Replies.{merged, put_own}
use Rattle.mini_laws.specs.Targets.{put_carried}

-- a name takes a value: a lexical one is initialised by it (ECMA-262,
-- "InitializeReferencedBinding"), and a `var` is written as an assignment does it (ECMA-262,
-- "Variable Statement", Evaluation: PutValue)
abbrev pub name_takes : {σ : ℕ → Demand} → Bool → Value → Command σ (Unit {0})
name_takes true v = op (init 0 v) (then ret)
name_takes false v = put_own v

abbrev pub binding_name : {σ : ℕ → Demand} → (q : Demand) (r : Request q) → Command σ (Reply q r)
binding_name (Binds lexical) v = name_takes lexical v
binding_name q r = stuck

-- a pattern takes a value (ECMA-262, "BindingInitialization"), by an event with its number
abbrev pub pattern_takes : {σ : ℕ → Demand} → Bool → Value → Command σ (Unit {0})
pattern_takes true v = op (bind_names v) (then ret)
pattern_takes false v = put_carried v

abbrev pub binding_pattern : {σ : ℕ → Demand} → (q : Demand) (r : Request q) → Command σ (Reply q r)
binding_pattern (Binds lexical) v = pattern_takes lexical v
binding_pattern q r = stuck

-- ECMA-262, "Let and Const Declarations", "Variable Statement"
abbrev pub declaration_step : (k : VariableDeclarationKind) (q : Demand) (r : Request q) → Command (λ i. declaration_demand k q) (Reply q r)
declaration_step k (Stat t) labels = attempt (kid 0 tt (then ret)) (merged t)
declaration_step k (Binds lexical) v = kid 0 v (then ret)
declaration_step k Heads r = kid 0 r (then ret)
declaration_step k q r = stuck

-- without an initializer a `let` is undefined, and a `var` keeps its value
abbrev pub uninitialised : (lexical : Bool) → Command (first_demand (Binds lexical) (As Val)) (Unit {0})
uninitialised true = kid 0 Undefined (then ret)
uninitialised false = ret tt

abbrev pub declares_by : (lexical : Bool) → Bool → Command (first_demand (Binds lexical) (As Val)) (Unit {0})
declares_by lexical true = uninitialised lexical
declares_by lexical false = kid 1 tt (then (λ v. kid 0 v (then ret)))

-- a `var` whose declarator has a name of its own writes that (ECMA-262, "VariableStatements in
-- Catch Clauses")
abbrev pub gives_by : (has_name : Bool) → Value → Command (first_demand (Binds false) (As Val)) (Unit {0})
gives_by true v = put_own v
gives_by false v = kid 0 v (then ret)

abbrev pub var_by : (has_name has_no_init : Bool) → Command (first_demand (Binds false) (As Val)) (Unit {0})
var_by has_name true = ret tt
var_by has_name false = kid 1 tt (then (gives_by has_name))

-- a lexical one in the head of a `for..in` or `for..of`, which has no initializer
abbrev pub takes_by : (lexical : Bool) → Bool → Value → Command (first_demand (Binds lexical) (As Val)) (Unit {0})
takes_by lexical true v = kid 0 v (then ret)
takes_by lexical false v = stuck

abbrev pub declarator_step : (has_name has_no_init : Bool) (q : Demand) (r : Request q) → Command (first_demand (Binds (lexically q)) (As Val)) (Reply q r)
declarator_step has_name has_no_init (Declares true) r = declares_by true has_no_init
declarator_step has_name has_no_init (Declares false) r = var_by has_name has_no_init
declarator_step has_name has_no_init (Binds lexical) v = takes_by lexical has_no_init v
declarator_step has_name has_no_init Heads (Some v) = gives_by has_name v
declarator_step has_name has_no_init Heads None = var_by has_name has_no_init
declarator_step has_name has_no_init q r = stuck

-- ECMA-262, "BindingClassDeclarationEvaluation": the world makes the class, and then its name is
-- initialised
abbrev pub class_step : Command (λ i. Binds true) Value
class_step = bind (emit_mine (NodeOf AnObject) []) (λ v. kid 0 v (then (λ u. ret v)))

abbrev pub class_declaration : (q : Demand) (r : Request q) → Command (λ i. Binds true) (Reply q r)
class_declaration (Stat t) labels = attempt (bind class_step (λ v. ret tt)) (merged t)
class_declaration ClassValue r = class_step
class_declaration q r = stuck

-- Modules (ECMA-262, "Exports")

abbrev pub exported : (d : Option Declared) → Command (λ i. exported_demand d) Value
exported (Some AClass) = kid 0 tt (then ret)
exported (Some (Variables k)) = kid 0 tt (then ret)
exported None = kid 0 tt (then ret)

abbrev pub export_value : (d : Option Declared) → Command (λ i. exported_demand d) (Unit {0})
export_value d = bind (exported d) (λ v. bind (emit ExportDefaultOf (Item v ∷ [])) (λ u. ret tt))

-- a function is exported where it is created
abbrev pub default_step : (d : Option Declared) → List FunctionFact → Command (λ i. exported_demand d) (Unit {0})
default_step (Some AClass) fs = export_value (Some AClass)
default_step d [] = export_value d
default_step d (f ∷ fs) = ret tt
