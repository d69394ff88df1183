-- What the code that looks for faults says, in the words of the definitions.
use Rattle.std.specs.Prelude.{ℕ, ◌+◌, ◌≡◌, Bool, true, false, List, [], ◌∷◌, reverse, Option, Some}
use Rattle.mini_model.specs.declared.name.Name.{Name}
use Rattle.mini_model.specs.Tree.{Tree, Trees, node, none, ◌▸◌}
use Rattle.mini_model.specs.Paths.{width, standing, by_standing}
use Rattle.mini_print.specs.Grammar.{is_reserved}
use Rattle.mini_print.specs.Unprintable as unprintable
use Rattle.mini_faults.specs.declared.defects.Cause.{Cause}
use Rattle.mini_faults.specs.declared.defects.Cause.TheVariants as cause
use Rattle.mini_faults.specs.declared.defects.Fault.{Fault}
use Rattle.mini_faults.specs.declared.defects.Found.{Found}
use Rattle.mini_faults.specs.declared.defects.Sought.{Sought}
use Rattle.mini_faults.specs.declared.defects.Sought.TheVariants.{Past, At}
use Rattle.mini_faults.specs.declared.error.PrintError.{PrintError}
use Rattle.mini_faults.specs.declared.error.PrintError.TheVariants as error

-- ---- causes and faults

abbrev pub is_named_reserved : List Name → Bool
is_named_reserved (x ∷ []) = is_reserved x.spelling
is_named_reserved _ = false

abbrev pub cause_of : Cause → unprintable.Cause
cause_of cause.Reserved = unprintable.Reserved
cause_of cause.BadText = unprintable.BadText

abbrev pub own_cause : Bool → Tree → Option unprintable.Cause
own_cause l (node h xs n ts) = unprintable.cause_of l h xs ts

abbrev pub fault : Fault → unprintable.Fault
fault f = record { at = f.at; cause = cause_of f.cause }

abbrev pub found : Found → unprintable.Fault
found f = record { at = reverse f.back; cause = cause_of f.cause }

-- ---- the search

abbrev pub is_missing : Tree → Bool
is_missing (node h xs n ts) = by_standing (standing h) false false true

-- how many nodes of ESTree some trees are
abbrev pub widths : Trees → ℕ
widths none = 0
widths (t ▸ ts) = width t + widths ts

-- a search among nodes that have these faults, and behind which this place is
abbrev pub Seeks : Sought → List unprintable.Fault → ℕ → Type 0
Seeks (Past next) fs behind = (fs ≡ []) × (next ≡ behind)
Seeks (At f) fs behind = unprintable.head fs ≡ Some (found f)

-- the same from a node on that stands in this place, and that has these faults
abbrev pub SeeksNode : Sought → List unprintable.Fault → ℕ → Type 0
SeeksNode (Past next) fs at = (fs ≡ []) × (next ≡ at + 1)
SeeksNode (At f) [] at = ⊥
SeeksNode (At f) (g ∷ fs) at = unprintable.below at g ≡ found f

-- ---- errors

-- the error tells the first fault; want of memory tells nothing
abbrev pub Tells : PrintError → Option unprintable.Fault → Type 0
Tells error.OutOfMemory f = Unit {0}
Tells (error.Reserved at) f = f ≡ Some (record { at = at; cause = unprintable.Reserved })
Tells (error.BadText at) f = f ≡ Some (record { at = at; cause = unprintable.BadText })
Tells error.TooDeep f = ⊥
Tells error.Unprintable f = ⊥
