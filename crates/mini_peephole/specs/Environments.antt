-- What a run of a body of a program rests on: which variables its events show, which an answer may
-- change, and which a start has initialised.
use Rattle.std.specs.Prelude.{ℕ, nat_eq, Bool, true, false, ◌&&◌, not, [], Some}
use Rattle.std.specs.List.{list_any}
use Rattle.mini_model.specs.declared.name.Name.{Name}
use Rattle.mini_model.specs.Tree.{Tree, unresolved}
use Rattle.mini_laws.specs.Mentions.{is_among}
use Rattle.mini_laws.specs.Shared.{is_shared}
use Rattle.mini_laws.specs.Foreign.{is_declared_in, is_foreign, lexical_variables}
use Rattle.mini_laws.specs.Value.{Variable, Declared, Global, VariableSet}
use Rattle.mini_laws.specs.State.{Environment}
use Rattle.mini_laws.specs.Body.{environment_in}
use Rattle.mini_laws.specs.Bodies.{Body, bodies_in}
use Rattle.mini_kept.specs.Without.{BodySets}

-- a name of this variable: a declared one is told by its symbol
abbrev pub name_of : Variable → Name
name_of (Declared n) = record { spelling = []; symbol = Some (record { 0 = n }) }
name_of (Global s) = unresolved s

-- others may read it while the body runs
abbrev pub shared_by : Tree → Body → VariableSet
shared_by t b x = is_shared t b.number (name_of x)

-- others may change it while the body runs, or it may be uninitialised where the body reads it
abbrev pub foreign_to : Tree → Body → VariableSet
foreign_to t b x = is_foreign t b.number (name_of x)

-- its own lexical names are initialised by the body itself (ECMA-262,
-- "BlockDeclarationInstantiation")
abbrev pub is_lexical_in : Tree → ℕ → Name → Bool
is_lexical_in t b x = is_among x (lexical_variables false t) && is_declared_in t b x

abbrev pub is_declared : Variable → Bool
is_declared (Declared n) = true
is_declared (Global s) = false

-- a start leaves no declared name uninitialised, but foreign ones and lexical names of the body
abbrev pub initialised_at : Tree → ℕ → VariableSet
initialised_at t b x = is_declared x && (not (is_foreign t b (name_of x)) && not (is_lexical_in t b (name_of x)))

abbrev pub initialised_for : Tree → Body → VariableSet
initialised_for t b = initialised_at t b.number

-- a body with this number asks the world for `this`
abbrev pub asks_as : ℕ → Body → Bool
asks_as n b = nat_eq b.number n && b.asks_this

-- what is known of the body with a number: no answer changes the declared variables that aren't
-- foreign to it, its events show none of those that aren't shared, and it starts where those are
-- initialised that are so for it
abbrev pub steady_in : Tree → BodySets
steady_in t b = record {
  steady = λ x. is_declared x && not (is_foreign t b (name_of x));
  unshared = λ x. is_declared x && not (is_shared t b (name_of x));
  initial = initialised_at t b;
  has_this = not (list_any (asks_as b) (bodies_in t));
}

-- of a body in this program, with the variables that its events show and those that an answer may
-- change
abbrev pub environment_with : Tree → VariableSet → VariableSet → Body → Environment
environment_with t shared foreign b = environment_in t shared foreign b.strict b.asks_this
