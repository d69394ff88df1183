-- Which rewrites the options let happen.
use Rattle.std.specs.Prelude.{ℕ, Bool}
use Rattle.mini_model.specs.declared.shape.Shape.{Shape}
use Rattle.mini_laws.specs.Value.{VariableSet, nothing}
use Rattle.mini_kept.specs.ShownFrames.{loses_name}

pub record Switches : Type 0 where
  -- statements may be joined into sequences of expressions
  pub sequences : Bool
  -- neighbouring declarations may be joined
  pub join_vars : Bool
  -- the names of function expressions stay though nothing mentions them, and those of class
  -- expressions
  pub keep_function_names : Bool
  pub keep_class_names : Bool
  -- the edition of ECMA-262, as a year, of which no newer form is written
  pub edition : ℕ

-- where a form of every edition may be written
abbrev pub of_every_edition : Switches → Switches
of_every_edition o = record o { edition = 2022 }

-- which functions and classes may lose their own name
abbrev pub let_go : Switches → Shape → Bool
let_go o h = loses_name o.keep_function_names o.keep_class_names h

-- what a rewrite of names that go may do: the variables that can be written, whose `var` may go,
-- and what the options let happen
pub record Liberties : Type 0 where
  pub writable : VariableSet
  pub switches : Switches

abbrev pub liberties : Switches → VariableSet → Liberties
liberties o W = record { writable = W; switches = o }

-- where no `var` goes
abbrev pub without_vars : Switches → Liberties
without_vars o = liberties o nothing
