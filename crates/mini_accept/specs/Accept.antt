-- Which tree a value is, or its first defect. A node's own defects go before those of the nodes
-- below it, and these in the order of the table; each value has a tree or a defect at each depth.
use Rattle.std.specs.Prelude.{◌≡◌, ℕ, zero, suc, List, [], ◌∷◌, Bool, true, false, ◌&&◌, ◌||◌, not, Option, Some, None, Result, Ok, Err}
use Rattle.serde_json.specs.Data.{Data}
use Rattle.mini_model.specs.declared.name.Name.{Name}
use Rattle.mini_model.specs.declared.shape.Shape.{Shape}
use Rattle.mini_model.specs.declared.shape.Shape.TheVariants as shape
use Rattle.mini_model.specs.Paths.{append}
use Rattle.mini_model.specs.Tree.{Tree, node, Trees, none, ◌▸◌, absent, listed}
use Rattle.mini_accept.specs.WellShaped.{Class, a_program, is_numbered, is_strict_in}
use Rattle.mini_accept.specs.Faults.{Defect, bad_shape, unsupported, too_deep, Fault, fault, under, ◌>>=◌}
use Rattle.mini_accept.specs.Kind.{Kind}
use Rattle.mini_accept.specs.Places.{Step, step_text, down, Place, at}
use Rattle.mini_accept.specs.Fields.{kind_of}
use Rattle.mini_accept.specs.Standing.{may_stand, is_unread, is_misplaced}
use Rattle.mini_accept.specs.Plans.{Part, hole, tree_at, inner_at, checked, Child, one, many, Plan}
use Rattle.mini_accept.specs.Entries.{entry}

-- ---- the plan of a node

-- a node is below at the step, and its type is one that may stand there
abbrev pub is_placed_by : Bool → Place → Option Data → Bool
is_placed_by strict p None = false
is_placed_by strict p (Some x) = not (is_misplaced strict p x)

abbrev pub is_part_placed : Bool → Data → Part → Bool
is_part_placed strict d hole = true
is_part_placed strict d (tree_at s p) = is_placed_by strict p (down s d)
is_part_placed strict d (inner_at s p) = is_placed_by strict p (down s d)
is_part_placed strict d (checked s p) = is_placed_by strict p (down s d)

abbrev pub are_parts_placed : Bool → Data → List Part → Bool
are_parts_placed strict d [] = true
are_parts_placed strict d (x ∷ xs) = is_part_placed strict d x && are_parts_placed strict d xs

abbrev pub is_child_placed : Bool → Data → Child → Bool
is_child_placed strict d (one x) = is_part_placed strict d x
is_child_placed strict d (many xs) = are_parts_placed strict d xs

abbrev pub are_placed : Bool → Data → List Child → Bool
are_placed strict d [] = true
are_placed strict d (c ∷ cs) = is_child_placed strict d c && are_placed strict d cs

abbrev pub plan_if : {A : Type 0} → Bool → A → Result A Defect
plan_if true x = Ok x
plan_if false x = Err bad_shape

-- the nodes below stand where they may
abbrev pub placed_plan : Bool → Data → Option Plan → Result Plan Defect
placed_plan strict d None = Err bad_shape
placed_plan strict d (Some x) = plan_if (are_placed (is_strict_in strict x.shape) d x.children) x

abbrev pub plan_by : Bool → Place → Data → Option Kind → Result Plan Defect
plan_by strict p d None = Err bad_shape
plan_by strict p d (Some k) = placed_plan strict d (entry k p d)

abbrev pub plan_unless : Bool → Bool → Result Plan Defect → Result Plan Defect
plan_unless true stands x = Err unsupported
plan_unless false true x = x
plan_unless false false x = Err bad_shape

-- how a node in a place is read, or the defect that it has itself, in strict or sloppy code
abbrev pub plan : Bool → Place → Data → Result Plan Defect
plan strict p d = plan_unless (is_unread strict p d) (may_stand p d) (plan_by strict p d (kind_of d))

-- ---- nodes

-- what was read, and the next number
abbrev pub Read : Type 0 → Type 0
Read A = Result (A × ℕ) Fault

-- how a node is read: in strict or sloppy code, in a place, with the next number
abbrev pub Reader : Type 0
Reader = Bool → Place → ℕ → Data → Read Tree

abbrev pub is_root : Class → Bool
is_root a_program = true
is_root c = false

-- the nodes that have a number
abbrev pub takes_number : Place → Shape → Bool
takes_number (at c) h = is_root c || is_numbered c h
takes_number p h = false

abbrev pub below_by : Reader → Bool → Place → ℕ → Step → Option Data → Read Tree
below_by read strict p n s None = fault bad_shape
below_by read strict p n s (Some x) = under (step_text s) (read strict p n x)

abbrev pub read_below : Reader → Bool → ℕ → Data → Step → Place → Read Tree
read_below read strict n d s p = below_by read strict p n s (down s d)

-- a part is one tree at most; what is checked alone takes no number
abbrev pub read_part : Reader → Bool → Data → ℕ → Part → Read Trees
read_part read strict d n hole = Ok (absent ▸ none, n)
read_part read strict d n (tree_at s p) = read_below read strict n d s p >>= λ r. Ok (r.0 ▸ none, r.1)
read_part read strict d n (inner_at s p) = read_below read strict (suc n) d s p >>= λ r. Ok (node shape.InnerExpression [] n (r.0 ▸ none) ▸ none, r.1)
read_part read strict d n (checked s p) = read_below read strict n d s p >>= λ r. Ok (none, n)

abbrev pub read_parts : Reader → Bool → Data → ℕ → List Part → Read Trees
read_parts read strict d n [] = Ok (none, n)
read_parts read strict d n (x ∷ xs) = do
  r ← read_part read strict d n x
  q ← read_parts read strict d r.1 xs
  Ok (append r.0 q.0, q.1)

abbrev pub read_child : Reader → Bool → Data → ℕ → Child → Read Trees
read_child read strict d n (one x) = read_part read strict d n x
read_child read strict d n (many xs) = read_parts read strict d n xs >>= λ r. Ok (listed r.0 ▸ none, r.1)

abbrev pub read_children : Reader → Bool → Data → ℕ → List Child → Read Trees
read_children read strict d n [] = Ok (none, n)
read_children read strict d n (c ∷ cs) = do
  r ← read_child read strict d n c
  q ← read_children read strict d r.1 cs
  Ok (append r.0 q.0, q.1)

abbrev pub with_children : Shape → List Name → ℕ → Read Trees → Read Tree
with_children h xs m r = r >>= λ q. Ok (node h xs m q.0, q.1)

-- a node goes before its children
abbrev pub numbered : Bool → ℕ → Shape → List Name → (ℕ → Read Trees) → Read Tree
numbered true n h xs below = with_children h xs n (below (suc n))
numbered false n h xs below = with_children h xs 0 (below n)

abbrev pub read_plan : Reader → Bool → Place → ℕ → Data → Result Plan Defect → Read Tree
read_plan read strict p n d (Err x) = fault x
read_plan read strict p n d (Ok x) = numbered (takes_number p x.shape) n x.shape x.names (λ m. read_children read (is_strict_in strict x.shape) d m x.children)

-- A node, at most so deep. Each node of ESTree counts one.
abbrev pub reads : ℕ → Reader
reads zero strict p n d = fault too_deep
reads (suc k) strict p n d = read_plan (reads k) strict p n d (plan strict p d)

-- the program, which is at depth 1, and how many numbers it has
unfoldable pub program_at : ℕ → Data → Read Tree
program_at k d = reads k false (at a_program) 0 d

-- the value is this tree, within some depth
abbrev pub Accepts : Data → Tree → Type 0
Accepts d t = (k : ℕ) × (numbers : ℕ) × (program_at k d ≡ Ok (t, numbers))
