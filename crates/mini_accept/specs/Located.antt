-- The node at a pointer, and its defect.
use Rattle.std.specs.Prelude.{◌≡◌, ◌⊎◌, ℕ, zero, suc, ◌+◌, Bool, List, [], ◌∷◌, length, Some, Ok, Err}
use Rattle.serde_json.specs.Data.{Data}
use Rattle.mini_accept.specs.WellShaped.{is_strict_in}
use Rattle.mini_accept.specs.Faults.{Defect, too_deep, Fault}
use Rattle.mini_accept.specs.Places.{Step, down, pointer_of, Place}
use Rattle.mini_accept.specs.Plans.{Part, hole, tree_at, inner_at, checked, Child, one, many, Plan}
use Rattle.mini_accept.specs.Accept.{plan}

-- the part is read of the node at the step, in the place
abbrev pub IsPart : Part → Step → Place → Type 0
IsPart hole s p = ⊥
IsPart (tree_at r q) s p = (s ≡ r) × (p ≡ q)
IsPart (inner_at r q) s p = (s ≡ r) × (p ≡ q)
IsPart (checked r q) s p = (s ≡ r) × (p ≡ q)

abbrev pub HasPart : List Part → Step → Place → Type 0
HasPart [] s p = ⊥
HasPart (x ∷ xs) s p = IsPart x s p ⊎ HasPart xs s p

abbrev pub IsBelow : Child → Step → Place → Type 0
IsBelow (one x) s p = IsPart x s p
IsBelow (many xs) s p = HasPart xs s p

abbrev pub HasChild : List Child → Step → Place → Type 0
HasChild [] s p = ⊥
HasChild (c ∷ cs) s p = IsBelow c s p ⊎ HasChild cs s p

-- by the plans of the nodes the steps lead from node d, in a place and in strict or sloppy code, to
-- node e in its own
abbrev pub Leads : List Step → Bool → Place → Data → Bool → Place → Data → Type 0
Leads [] strict p d strict_there q e = (strict ≡ strict_there) × (p ≡ q) × (d ≡ e)
Leads (s ∷ path) strict p d strict_there q e = (x : Plan) × (o : Place) × (c : Data) × (plan strict p d ≡ Ok x) × (HasChild x.children s o) × (down s d ≡ Some c) × Leads path (is_strict_in strict x.shape) o c strict_there q e

-- the defect of a node that may be so deep: it is past that, or has the defect itself
abbrev pub HasDefect : ℕ → Bool → Place → Data → Defect → Type 0
HasDefect zero strict p d x = x ≡ too_deep
HasDefect (suc k) strict p d x = plan strict p d ≡ Err x

-- the fault of a node that is at most k deep is the defect of the node at its pointer
pub record Located (k : ℕ) (strict : Bool) (p : Place) (d : Data) (f : Fault) : Type 0 where
  pub path : List Step
  pub text : f.at ≡ pointer_of path
  pub strict_there : Bool
  pub place_there : Place
  pub found : Data
  pub leads : Leads path strict p d strict_there place_there found
  -- how deep it may be
  pub left : ℕ
  pub depth : left + length path ≡ k
  pub defect : HasDefect left strict_there place_there found f.defect
  -- it is past the greatest depth only where nothing is left
  pub deep : f.defect ≡ too_deep → left ≡ 0
