-- What a look at a program tells of its bodies, and what the tables of a context tell.
use Rattle.std.specs.Prelude.{ℕ, Bool, true, false, not, ◌&&◌, ◌||◌}
use Rattle.std.specs.List.{list_any}
use Rattle.mini_model.specs.Tree.{Tree}
use Rattle.mini_laws.specs.Bodies.{bodies_in}
use Rattle.mini_laws.specs.Foreign.{is_foreign, is_write, lexical_variables}
use Rattle.mini_laws.specs.Mentions.{is_among, program_mentions}
use Rattle.mini_laws.specs.Shared.{is_shared}
use Rattle.mini_laws.specs.Value.{Declared, Global, VariableSet}
use Rattle.mini_kept.specs.Without.{BodySets}
use Rattle.mini_tree.specs.declared.options.CompressOptions.{CompressOptions}
use Rattle.mini_tree.specs.Options.{default_options}
use Rattle.mini_context.specs.Asking.{asks_as}
use Rattle.mini_context.specs.Facts.{Facts}
use Rattle.mini_context.specs.Steady.{has_this, is_initial, is_past, is_steady, is_unshared}
use Rattle.mini_context.specs.Tables.{named}

-- ---- of a program

-- a reference writes the symbol: an assignment, an update, or the head of a loop that declares
-- nothing. What a `var` gives a value isn't counted
abbrev pub is_assigned : Tree → ℕ → Bool
is_assigned t s = list_any (is_write (named s)) (program_mentions t)

-- Steady: no reference writes the symbol, and it isn't foreign to the body with a number. A `var`
-- may give it a value in the body itself, between two of its statements
abbrev pub is_steady_in_body : Tree → ℕ → ℕ → Bool
is_steady_in_body t b s = not (is_assigned t s) && not (is_foreign t b (named s))

-- of declared names alone
abbrev pub of_symbols : (ℕ → Bool) → VariableSet
of_symbols p (Declared s) = p s
of_symbols p (Global s) = false

-- Of the body with a number: no answer changes what is steady in it; no event shows what it doesn't
-- share; what is steady and nowhere lexical is initialised as the body starts, to undefined where
-- it is a `var` of the body (ECMA-262, "FunctionDeclarationInstantiation",
-- "GlobalDeclarationInstantiation"); and it has a `this` if no body of that number asks the world
-- for it
abbrev pub told_in : Tree → BodySets
told_in t b = record {
  steady = of_symbols (is_steady_in_body t b);
  unshared = of_symbols (λ s. not (is_shared t b (named s)));
  initial = of_symbols (λ s. is_steady_in_body t b s && not (is_among (named s) (lexical_variables false t)));
  has_this = not (list_any (asks_as b) (bodies_in t));
}

-- ---- of tables

abbrev pub told_by : Facts → BodySets
told_by f b = record {
  steady = of_symbols (λ s. is_past f s || is_steady f s b);
  unshared = of_symbols (λ s. is_past f s || is_unshared f s b);
  initial = of_symbols (λ s. is_past f s || is_initial f s b);
  has_this = has_this f b;
}

-- ---- where no options are told

-- all names stay
abbrev pub all_names_stay : CompressOptions
all_names_stay = record default_options { keep_names = record { function = true; class = true } }
