-- `minimize_body`: the list of a function's body, with the rows at its end: 78, the last `return;`
-- goes, and 75, `if (a) return; b; c;` becomes `if (!a) { b; c; }`, and `if (a) { b; return; } c;`
-- becomes `if (a) { b; } else { c; }`.
use Rattle.std.specs.Prelude.{◌≡◌, ◌⊎◌, ◌<◌, ℕ, suc, Bool, true, false, not, ◌&&◌, ◌||◌, Option, Some, None}
use Rattle.mini_model.specs.declared.place.Position.{Position}
use Rattle.mini_model.specs.declared.place.Position.TheVariants.{BodyList}
use Rattle.mini_model.specs.declared.shape.Shape.{Shape}
use Rattle.mini_model.specs.declared.shape.Shape.TheVariants as shape
use Rattle.mini_model.specs.Tree.{Tree, Trees, none, ◌▸◌, count, child_or_absent, absent, listed, shape_of}
use Rattle.mini_model.specs.Paths.{append}
use Rattle.mini_node.specs.Children.{part, is_bare, first_children, rest_children}
use Rattle.mini_node.specs.Kinds.{is_if_alone, is_block, is_absent_part}
use Rattle.mini_tree.specs.Rule as rule
use Rattle.mini_rows.specs.Switches.{Switches}
use Rattle.mini_rows.specs.Branches.{bare_continue}
use Rattle.mini_rows.specs.Nesting.{may_all_sink}
use Rattle.mini_rows.specs.Lists.{are_unscoped, bare_return, Row75, Row75Block, AtEnd, EndRow, ListContracts}
use Rattle.mini_stmt.specs.JoinGuards.{last_after, is_apart}
use Rattle.mini_stmt.specs.JoinAssignments.{are_entered}
use Rattle.mini_stmt.specs.JoinJumps.{returns_nothing}
use Rattle.mini_stmt.specs.MinimizeStatements.{is_quiet, Rests}
use Rattle.mini_stmt.specs.SpreadBlock.{body_of}

-- the jump at the end of a function's body, `return;`, and that of a loop's, `continue;`
abbrev pub jump_at : Bool → Tree
jump_at true = bare_continue
jump_at false = bare_return

abbrev pub is_continue_shape : Shape → Bool
is_continue_shape shape.ContinueStatement = true
is_continue_shape _ = false

abbrev pub goes_on : Tree → Bool
goes_on t = is_continue_shape (shape_of t) && (is_bare t 1 && is_absent_part (part t 0))

-- it is this jump, of a loop's body or of a function's
abbrev pub is_jump : Bool → Tree → Bool
is_jump true t = goes_on t
is_jump false t = returns_nothing t

-- `if (a) return;`, and in a loop `if (a) continue;`
abbrev pub leaves : Bool → Tree → Bool
leaves x t = is_if_alone t && is_jump x (part t 1)

-- the last statement is the jump
abbrev pub ends_bare : Bool → Trees → Bool
ends_bare x ts = is_jump x (last_after absent ts)

-- `if (a) { b; return; }`, where b declares nothing in the block
abbrev pub leaves_by_block : Bool → Tree → Bool
leaves_by_block x t = is_if_alone t && (is_block (part t 1) && (ends_bare x (body_of (part t 1)) && are_unscoped (body_of (part t 1))))

abbrev pub is_guard : Bool → Tree → Bool
is_guard x t = leaves x t || leaves_by_block x t

-- what follows may go into a block
abbrev pub may_nest : Trees → Bool
may_nest ts = are_unscoped ts && may_all_sink ts

-- a guard after which all may
abbrev pub leaves_early : Bool → Trees → Bool
leaves_early x none = false
leaves_early x (t ▸ ts) = (is_guard x t && may_nest ts) || leaves_early x ts

-- no row reads what the list ends with
abbrev pub is_ended : Switches → Trees → Bool
is_ended o ts = not (ends_bare false ts) && (not o.sequences || not (leaves_early false ts))

-- the place of such a guard, or there is none
abbrev pub EarlyAt : Bool → Trees → Option ℕ → Type 0
EarlyAt x ts (Some i) = (i < count ts) × (is_guard x (child_or_absent ts i) ≡ true) × (may_nest (rest_children (suc i) ts) ≡ true)
EarlyAt x ts None = leaves_early x ts ≡ false

-- a guard and what follows, and what is written for both
abbrev pub Turned : Bool → Tree → Trees → Tree → Type 0
Turned x t ts made = Row75 (jump_at x) (t ▸ ts) (made ▸ none) ⊎ Row75Block (jump_at x) (t ▸ ts) (made ▸ none)

-- the guard at a place, with all that follows
pub record TurnedAt (x : Bool) (ts : Trees) (i : ℕ) (us : Trees) : Type 0 where
  pub made : Tree
  pub row : Turned x (child_or_absent ts i) (rest_children (suc i) ts) made
  pub is : us ≡ append (first_children i ts) (made ▸ none)

-- steps at the end of a body's list, and at least one
abbrev pub Turns : Switches → Trees → Trees → Bool → Type 0
Turns o ts us true = rule.Moves (ListContracts o) BodyList (listed ts) (listed us)
Turns o ts us false = us ≡ ts

-- all guards are turned, or there is none to turn
pub record AllTurned (ts us : Trees) (changed : Bool) : Type 0 where
  pub changes : (o : Switches) → o.sequences ≡ true → Turns o ts us changed
  pub rests : leaves_early false us ≡ false

-- the last statement, which is the jump, is gone
pub record DropsLast (x : Bool) (ts us : Trees) : Type 0 where
  pub last : Tree
  pub is : ts ≡ append us (last ▸ none)
  pub bare : is_jump x last ≡ true

-- no row reads its end
abbrev pub EndRests : Switches → Tree → Type 0
EndRests o t = (w : Tree) → AtEnd (EndRow o bare_return) t w → ⊥

-- the node of the list: its end changes, or no row reads it
abbrev pub EndsBody : Switches → Tree → Tree → Bool → Type 0
EndsBody o t u changed = rule.Applied (ListContracts o) (λ p. EndRests o) BodyList t u changed

-- or no row at all reads the list
abbrev pub MinimizesBody : Switches → Tree → Tree → Bool → Type 0
MinimizesBody o t u changed = rule.Applied (ListContracts o) (Rests o) BodyList t u changed

-- no row at all reads a list that is quiet, and in which no two neighbours are guards to join and
-- no assignment goes into a `var` before it; nor one of a function's body, if its end isn't read
abbrev pub QuietRests : Type 0
QuietRests = (o : Switches) (t : Trees) → is_quiet o t ≡ true → is_apart o t ≡ true → are_entered o t ≡ true → (p : Position) → (p ≡ BodyList → is_ended o t ≡ true) → Rests o p (listed t)
