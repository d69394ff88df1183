-- Which variables a program mentions, and which of them can be written in it.
use Rattle.std.specs.Prelude.{Bool, true, false, ◌&&◌, ◌||◌}
use Rattle.mini_model.specs.Tree.{Tree, Trees, node, none, ◌▸◌}
use Rattle.mini_laws.specs.Value.{Declared, Global, VariableSet, variables, is_in}
use Rattle.mini_laws.specs.State.{Fixed, Writable}
use Rattle.mini_laws.specs.Fixity.{fixed_by}

-- a write writes (ECMA-262, "SetMutableBinding"), and neither raises nor keeps the old value
abbrev pub is_open : Fixed → Bool
is_open Writable = true
is_open f = false

-- the variables with a symbol that no declaration of a tree forbids to write; what a write of an
-- unresolved name does, the state says
abbrev pub writable_by : Tree → VariableSet
writable_by t (Declared k) = is_open (fixed_by t (Declared k))
writable_by t (Global s) = false

-- whether some node of a tree has a name of a variable
abbrev mutual
  pub mentions : Tree → VariableSet
  mentions (node h xs n ts) x = is_in x (variables xs) || any_mentions ts x

  pub any_mentions : Trees → VariableSet
  any_mentions none x = false
  any_mentions (t ▸ ts) x = mentions t x || any_mentions ts x

-- of those that have a symbol the ones that a program mentions and that can be written in it
abbrev pub writable_in : Tree → VariableSet
writable_in t (Declared k) = mentions t (Declared k) && writable_by t (Declared k)
writable_in t (Global s) = false
