-- A defect of a value, and the JSON pointer (RFC 6901) to the node that has it.
use Rattle.std.specs.Prelude.{◌≡◌, ℕ, List, [], ◌∷◌, ◌++◌, codes, decimal, Option, Some, None, option_map, IfSome, Result, Ok, Err, string_bytes}
use Rattle.mini_model.specs.declared.error.Pointer.{Pointer}
use Rattle.mini_model.specs.declared.error.MinifyError.{MinifyError}
use Rattle.mini_model.specs.declared.error.MinifyError.TheVariants.{OutOfMemory, BadShape, Unsupported, TooDeep, EarlyName, EarlyJump}

pub data Defect : Type 0 where
  bad_shape : Defect
  unsupported : Defect
  too_deep : Defect
  early_name : Defect
  early_jump : Defect

pub record Fault : Type 0 where
  pub defect : Defect
  pub at : List ℕ

abbrev pub name_of_defect : Defect → List ℕ
name_of_defect bad_shape = codes "BadShape"
name_of_defect unsupported = codes "Unsupported"
name_of_defect too_deep = codes "TooDeep"
name_of_defect early_name = codes "EarlyName"
name_of_defect early_jump = codes "EarlyJump"

abbrev pub pointer_text : Pointer → List ℕ
pointer_text p = string_bytes p.text

-- the fault that an error tells; want of memory tells none
abbrev pub fault_of : MinifyError → Option Fault
fault_of OutOfMemory = None
fault_of (BadShape at) = Some (record { defect = bad_shape; at = pointer_text at })
fault_of (Unsupported at) = Some (record { defect = unsupported; at = pointer_text at })
fault_of (TooDeep at) = Some (record { defect = too_deep; at = pointer_text at })
fault_of (EarlyName at) = Some (record { defect = early_name; at = pointer_text at })
fault_of (EarlyJump at) = Some (record { defect = early_jump; at = pointer_text at })

-- The same defect, seen from the node above, whose step leads here. RFC 6901 writes `~` and `/` in
-- a step as `~0` and `~1`: no key of the table has either.
abbrev pub fault_under : List ℕ → Fault → Fault
fault_under step f = record { defect = f.defect; at = 47 ∷ (step ++ f.at) }

-- the step to an item of a list field
abbrev pub item_step : List ℕ → ℕ → List ℕ
item_step key i = key ++ 47 ∷ decimal i

-- new is old seen from the node above, unless memory ran out
abbrev pub IsUnder : List ℕ → Option Fault → Option Fault → Type 0
IsUnder step old new = IfSome new (λ f. option_map (fault_under step) old ≡ Some f)

abbrev pub under : {A : Type 0} → List ℕ → Result A Fault → Result A Fault
under step (Ok x) = Ok x
under step (Err f) = Err (fault_under step f)

-- a defect of the node itself
abbrev pub fault : {A : Type 0} → Defect → Result A Fault
fault d = Err (record { defect = d; at = [] })

infixl 10 ◌>>=◌
abbrev pub ◌>>=◌ : {A B : Type 0} → Result A Fault → (A → Result B Fault) → Result B Fault
(Ok x) >>= f = f x
(Err e) >>= f = Err e

-- the error tells what reading fails with, unless it is want of memory
abbrev pub Fails : {Y : Type 0} → MinifyError → Result Y Fault → Type 0
Fails e read = IfSome (fault_of e) (λ f. read ≡ Err f)

-- what was returned, as view sees it, is what reading gives, unless memory ran out
abbrev pub Gives : {X Y : Type 0} → (X → Y) → Result X MinifyError → Result Y Fault → Type 0
Gives view (Ok x) read = read ≡ Ok (view x)
Gives view (Err e) read = Fails e read
