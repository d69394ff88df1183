-- The places of the names with a spelling, by a number for each spelling.
use Rattle.std.specs.Prelude.{ℕ, suc, ◌<◌, ◌≡◌, Bool, false, ◌||◌, List, [], ◌∷◌, length, slice_index_or, Option, None, Some, if◌then◌else◌}
use Rattle.std.specs.declared.vec.Vec.{Vec}
use Rattle.std.specs.declared.alloc.Global.{Global}
use Rattle.std.specs.BTreeMap.{BTreeMap, get_by}
use Rattle.std.specs.declared.cmp.Ordering.{Ordering}
use Rattle.std.specs.Ordering.{nat_cmp}
use Rattle.std.specs.Cmp.Lexicographic.{slice_cmp}
use Rattle.mini_model.specs.Weight.{same_text}
use Rattle.mini_laws.specs.declared.names.Binding.{Binding}
use Rattle.mini_laws.specs.declared.names.Use.{Use}
use Rattle.mini_laws.specs.Resolved.{is_for}

-- the places of the names with a spelling, where the first name has this place
abbrev pub spelled : List ℕ → ℕ → List Binding → List ℕ
spelled s i [] = []
spelled s i (b ∷ bs) = if same_text b.name.spelling s then i ∷ spelled s (suc i) bs else spelled s (suc i) bs

-- the numbers of spellings
abbrev pub Numbers : Type 0
Numbers = BTreeMap (Vec ℕ Global) ℕ

-- spellings in order, by their units
abbrev pub by_items : Vec ℕ Global → Vec ℕ Global → Ordering
by_items x y = slice_cmp nat_cmp x.items y.items

-- the number of a spelling
unfoldable pub number_of : Numbers → List ℕ → Option ℕ
number_of m s = get_by (λ k. slice_cmp nat_cmp s k.items) m

-- the bucket with the number holds the places; where there is no number there are none
abbrev pub HasPlaces : List (Vec ℕ Global) → Option ℕ → List ℕ → Type 0
HasPlaces ks None ps = ps ≡ []
HasPlaces ks (Some k) ps = (k < length ks) × ((d : Vec ℕ Global) → (slice_index_or ks k d).items ≡ ps)

-- the bucket of each spelling holds the places of the names with it, and no two spellings share one
pub record Holds (m : Numbers) (ks : List (Vec ℕ Global)) (bs : List Binding) : Type 0 where
  pub places : (s : List ℕ) → HasPlaces ks (number_of m s) (spelled s 0 bs)
  pub apart : (s r : List ℕ) (k : ℕ) → number_of m s ≡ Some k → number_of m r ≡ Some k → s ≡ r

-- whether a name with this spelling is there that serves the use
abbrev pub has_name : Use → List ℕ → List Binding → Bool
has_name u s [] = false
has_name u s (b ∷ bs) = is_for u s b || has_name u s bs
