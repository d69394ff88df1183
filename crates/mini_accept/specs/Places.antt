-- Where a node stands below another one, and what may stand there.
use Rattle.std.specs.Prelude.{ℕ, List, [], ◌∷◌, ◌++◌, decimal, Bool, Option, option_and_then}
use Rattle.serde_json.specs.Data.{Data}
use Rattle.serde_json.specs.Find.{get, get_item, as_array}
use Rattle.mini_accept.specs.WellShaped.{Class, Tagging}

-- ---- steps

-- from a node to one below it: to that of a field, or of a list field
pub data Step : Type 0 where
  field : List ℕ → Step
  place : List ℕ → ℕ → Step

abbrev pub step_text : Step → List ℕ
step_text (field key) = key
step_text (place key i) = key ++ 47 ∷ decimal i

-- the JSON pointer (RFC 6901) of steps from the root
abbrev pub pointer_of : List Step → List ℕ
pointer_of [] = []
pointer_of (s ∷ path) = 47 ∷ (step_text s ++ pointer_of path)

abbrev pub down : Step → Data → Option Data
down (field key) d = get key d
down (place key i) d = option_and_then (get_item i) (option_and_then as_array (get key d))

-- ---- places

pub data Place : Type 0 where
  -- what stands there is a node of the tree
  at : Class → Place
  -- a directive, and its text: these are nodes of ESTree alone
  a_directive : Place
  a_directive_text : Place
  -- a piece of a template; whether it is the last
  a_quasi : Tagging → Bool → Place
  -- an export specifier: of a name of this module (true), or of another one; and such a name of
  -- this module
  an_exported : Bool → Place
  a_local_name : Place
