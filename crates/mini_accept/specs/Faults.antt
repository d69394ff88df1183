-- A defect of a value, and the JSON pointer (RFC 6901) to the node that has it.
use Rattle.std.specs.Prelude.{ℕ, List, [], ◌∷◌, ◌++◌, Result, Ok, Err}

pub data Defect : Type 0 where
  -- no node of ESTree (ES5 to ES2022)
  bad_shape : Defect
  -- a form that is known, and isn't read
  unsupported : Defect
  -- a node past the greatest depth
  too_deep : Defect

pub record Fault : Type 0 where
  pub defect : Defect
  pub at : List ℕ

-- a defect of the node itself
abbrev pub fault : {A : Type 0} → Defect → Result A Fault
fault x = Err (record { defect = x; at = [] })

-- The same defect, seen from the node above, whose step leads here. RFC 6901 writes `~` and `/` in
-- a step as `~0` and `~1`: no key of the table has either.
abbrev pub fault_under : List ℕ → Fault → Fault
fault_under step f = record { defect = f.defect; at = 47 ∷ (step ++ f.at) }

abbrev pub under : {A : Type 0} → List ℕ → Result A Fault → Result A Fault
under step (Ok x) = Ok x
under step (Err f) = Err (fault_under step f)

infixl 10 ◌>>=◌
abbrev pub ◌>>=◌ : {A B : Type 0} → Result A Fault → (A → Result B Fault) → Result B Fault
(Ok x) >>= f = f x
(Err e) >>= f = Err e
