-- What is done to what has no effect where a body has its `this`: 21 and 22.
use Rattle.std.specs.Prelude.{◌≡◌, ℕ, Bool, true, false, ◌&&◌, nat_eq, nat_le, [], Option, Some, None, if◌then◌else◌}
use Rattle.mini_model.specs.declared.seat.Seat.{Seat}
use Rattle.mini_model.specs.declared.shape.Shape.{Shape}
use Rattle.mini_model.specs.declared.shape.Shape.TheVariants as shape
use Rattle.mini_model.specs.Tree.{Tree, Trees, node, absent, children, child_or_absent, count, empty_statement, shape_of}
use Rattle.mini_kept.specs.Without.{Assured}
use Rattle.mini_node.specs.Children.{is_bare, part, with_child}
use Rattle.mini_node.specs.Kinds.{is_expression_statement, is_sequence}
use Rattle.mini_held.specs.Parts.{idle_before_last}
use Rattle.mini_rows.specs.Idle.{IdleRow, is_still, is_still_part}
use Rattle.mini_rows.specs.Sequences.{takes_alone, stays_alone}
use Rattle.mini_steady.specs.Chains.{Several}

-- ---- 22

-- `this;`
abbrev pub does_nothing : Tree → Bool
does_nothing t = is_expression_statement t && is_still (part t 0)

abbrev pub is_for_shape : Shape → Bool
is_for_shape shape.ForStatement = true
is_for_shape h = false

abbrev pub is_for : Tree → Bool
is_for t = is_for_shape (shape_of t) && is_bare t 4

-- `for (this; a; b) c`
abbrev pub begins_still : Tree → Bool
begins_still t = is_for t && is_still_part (part t 0)

-- `for (; a; this) c`
abbrev pub turns_still : Tree → Bool
turns_still t = is_for t && is_still_part (part t 2)

-- without the part at a place
abbrev pub headless : ℕ → Tree → Tree
headless i t = node shape.ForStatement [] 0 (with_child (children t) i absent)

abbrev pub turn_written : Tree → Option Tree
turn_written t = if turns_still t then Some (headless 2 t) else None

abbrev pub head_written : Tree → Option Tree
head_written t = if begins_still t then Some (headless 0 t) else turn_written t

abbrev pub statement_written : Tree → Option Tree
statement_written t = if does_nothing t then Some empty_statement else head_written t

abbrev pub written_in : Assured → Tree → Option Tree
written_in V t = if V.has_this then statement_written t else None

-- ---- 21

-- of two the last one may stand alone
abbrev pub is_left : Seat → Trees → Bool
is_left s ts = nat_eq (count ts) 2 && (takes_alone s && (is_still (child_or_absent ts 0) && stays_alone s (child_or_absent ts 1)))

-- a part of a sequence goes, and is not the last, where there are three or more
abbrev pub loses_part : Seat → Tree → Bool
loses_part s t = is_sequence t && (if nat_le 3 (count (children (part t 0))) then idle_before_last is_still (children (part t 0)) else is_left s (children (part t 0)))

-- in any body that has its `this` rows lead from the one tree to the other; or in none a row reads
-- it
abbrev pub Loses : Seat → Tree → Tree → Bool → Type 0
Loses s t u true = (V : Assured) → V.has_this ≡ true → Several (IdleRow V s) t u
Loses s t u false = (u ≡ t) × ((V : Assured) (w : Tree) → IdleRow V s t w → ⊥)

-- so in a body of which this is known
abbrev pub LosesIn : Assured → Seat → Tree → Tree → Bool → Type 0
LosesIn V s t u true = Several (IdleRow V s) t u
LosesIn V s t u false = (u ≡ t) × ((w : Tree) → IdleRow V s t w → ⊥)
