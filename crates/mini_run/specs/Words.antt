-- The words of a command line, and the options that they name.
use Rattle.std.specs.Prelude.{◌≡◌, ◌≢◌, ◌⊎◌, ℕ, Bool, true, false, ◌<◌, ◌≤◌, ◌==◌, ◌^◌, List, [], ◌∷◌, ◌++◌, map, Option, Some, None, is_none, is_some, unwrap_or, if◌then◌else◌, codes}
use Rattle.std.specs.List.{AllByRecursion}
use Rattle.std.specs.Fmt.{decimal}
use Rattle.mini_tree.specs.Options.{default_options}
use Rattle.mini_tree.specs.declared.options.CompressOptions.{CompressOptions}
use Rattle.mini_run.specs.declared.choice.Choice.{Choice}
use Rattle.mini_run.specs.declared.choice.Choice.TheVariants.{NoSequences, NoJoinVars, KeepFunctionNames, KeepClassNames, PureCoercion, KnownCalls, Passes, MaxDepth, Generate, Edition}
use Rattle.mini_run.specs.declared.choice.Orders.{Orders}

-- how a choice is spelled: a number is decimal, without a sign, and without a zero in front
abbrev pub spelling : Choice → List ℕ
spelling NoSequences = codes "--no-sequences"
spelling NoJoinVars = codes "--no-join-vars"
spelling KeepFunctionNames = codes "--keep-function-names"
spelling KeepClassNames = codes "--keep-class-names"
spelling PureCoercion = codes "--pure-coercion"
spelling KnownCalls = codes "--known-calls"
spelling (Passes n) = codes "--passes=" ++ decimal n
spelling (MaxDepth n) = codes "--max-depth=" ++ decimal n
spelling (Generate n) = codes "--generate=" ++ decimal n
spelling (Edition n) = codes "--edition=" ++ decimal n

-- the numbers that may stand
abbrev pub IsAllowed : Choice → Type 0
IsAllowed (Passes n) = n < 2 ^ 32
IsAllowed (MaxDepth n) = (1 ≤ n) × (n ≤ 1000)
IsAllowed (Generate n) = n ≤ 2000
IsAllowed (Edition n) = (2015 ≤ n) × (n ≤ 2022)
IsAllowed _ = Unit {0}

abbrev pub HasNumber : Choice → Type 0
HasNumber (Passes n) = Unit {0}
HasNumber (MaxDepth n) = Unit {0}
HasNumber (Generate n) = Unit {0}
HasNumber (Edition n) = Unit {0}
HasNumber _ = ⊥

-- which option is chosen, whatever its number
abbrev pub option_of : Choice → ℕ
option_of NoSequences = 0
option_of NoJoinVars = 1
option_of KeepFunctionNames = 2
option_of KeepClassNames = 3
option_of PureCoercion = 4
option_of KnownCalls = 5
option_of (Passes n) = 6
option_of (MaxDepth n) = 7
option_of (Generate n) = 8
option_of (Edition n) = 9

-- the number that is chosen; 0 for an option without one
abbrev pub number_of : Choice → ℕ
number_of (Passes n) = n
number_of (MaxDepth n) = n
number_of (Generate n) = n
number_of (Edition n) = n
number_of _ = 0

-- the number that is chosen for an option, where it is chosen
abbrev pub named : ℕ → List Choice → Option ℕ
named k [] = None
named k (c ∷ cs) = if option_of c == k then Some (number_of c) else named k cs

-- no option is chosen twice
abbrev pub IsOnce : List Choice → Type 0
IsOnce [] = Unit {0}
IsOnce (c ∷ cs) = (named (option_of c) cs ≡ None) × IsOnce cs

-- the options of the choices; those not chosen are as they are without words
abbrev pub chosen : List Choice → CompressOptions
chosen cs = record {
  sequences = is_none (named (option_of NoSequences) cs);
  join_vars = is_none (named (option_of NoJoinVars) cs);
  keep_names = record {
    function = is_some (named (option_of KeepFunctionNames) cs);
    class = is_some (named (option_of KeepClassNames) cs);
  };
  passes = unwrap_or (named (option_of (Passes 0)) cs) default_options.passes;
  max_depth = unwrap_or (named (option_of (MaxDepth 0)) cs) default_options.max_depth;
  edition = unwrap_or (named (option_of (Edition 0)) cs) default_options.edition;
  pure_coercion = is_some (named (option_of PureCoercion) cs);
  known_calls = is_some (named (option_of KnownCalls) cs);
}

-- and how many statements are generated in place of what is read, where that is chosen
abbrev pub ordered : List Choice → Orders
ordered cs = record { options = chosen cs; generate = named (option_of (Generate 0)) cs }

-- each word spells a choice that may stand, and no option is chosen twice
pub record Spell (words : List (List ℕ)) (cs : List Choice) : Type 0 where
  pub spelled : words ≡ map spelling cs
  pub allowed : AllByRecursion IsAllowed cs
  pub once : IsOnce cs

-- the words are good, and name these options
abbrev pub NameOptions : List (List ℕ) → CompressOptions → Type 0
NameOptions words o = (cs : List Choice) × Spell words cs × (o ≡ chosen cs)

-- and order this
abbrev pub NameOrders : List (List ℕ) → Orders → Type 0
NameOrders words r = (cs : List Choice) × Spell words cs × (r ≡ ordered cs)

abbrev pub GoodWords : List (List ℕ) → Type 0
GoodWords words = (cs : List Choice) × Spell words cs

-- ---- words of a program's own

-- the second words are the first without the first of them that is this one, and the answer says
-- whether there is one
abbrev pub Taken : List ℕ → List (List ℕ) → List (List ℕ) → Bool → Type 0
Taken w [] rest b = (rest ≡ []) × (b ≡ false)
Taken w (v ∷ vs) rest b = ((v ≡ w) × (rest ≡ vs) × (b ≡ true)) ⊎ ((v ≢ w) × ((us : List (List ℕ)) × (rest ≡ v ∷ us) × Taken w vs us b))
