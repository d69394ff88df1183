-- What the first fault of a program says of the program.
use Rattle.std.specs.Prelude.{◌≡◌, Bool, true, false, ◌&&◌, Option, Some, None}
use Rattle.mini_model.specs.Tree.{Tree, Trees, node, none, ◌▸◌}
use Rattle.mini_model.specs.Paths.{standing, by_standing, node_at}
use Rattle.mini_print.specs.Unprintable.{Cause, Fault, cause_of, has_label}
use Rattle.mini_faults.specs.Faults.{own_cause}

-- the path leads to a node that has the cause, as a label or not
abbrev pub IsThere : Tree → Fault → Type 0
IsThere t f = (l : Bool) × ((u : Tree) × ((node_at f.at t ≡ Some u) × (own_cause l u ≡ Some f.cause)))

abbrev pub has_no_cause : Option Cause → Bool
has_no_cause None = true
has_no_cause (Some c) = false

-- no node has a cause, neither it, which may be a label, nor any below it
abbrev mutual
  pub is_faultless : Bool → Tree → Bool
  is_faultless l (node h xs n ts) = by_standing (standing h) (has_no_cause (cause_of l h xs ts) && are_faultless (has_label h) ts) (are_faultless false ts) true

  pub are_faultless : Bool → Trees → Bool
  are_faultless l none = true
  are_faultless l (t ▸ ts) = is_faultless l t && are_faultless l ts

-- the same of a node of ESTree
abbrev pub has_no_fault : Tree → Bool
has_no_fault (node h xs n ts) = has_no_cause (cause_of false h xs ts) && are_faultless (has_label h) ts
