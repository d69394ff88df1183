-- 77: what never runs after a jump goes, and its `var` names stay:
-- `return a; if (b) { var x = 1; }` becomes `return a; var x;`.
use Rattle.std.specs.Prelude.{◌≡◌, ◌<◌, nat_lt, ℕ, suc, Bool, true, false, not, ◌&&◌, ◌||◌, Option, Some, None, if◌then◌else◌}
use Rattle.mini_model.specs.declared.place.Position.TheVariants.{Stmt, StatementList}
use Rattle.mini_model.specs.declared.seat.StmtSeat.TheVariants as stmt_seat
use Rattle.mini_model.specs.Tree.{Tree, Trees, none, ◌▸◌, count, child_or_absent, listed}
use Rattle.mini_model.specs.Paths.{append}
use Rattle.mini_model.specs.Weight.{weight, capped}
use Rattle.mini_node.specs.Children.{rest_children}
use Rattle.mini_rows.specs.Switches.{Switches}
use Rattle.mini_rows.specs.Lists.{is_unscoped, is_terminated, encloses, left_behind}
use Rattle.mini_rows.specs.DeadLexicals.{may_fade, faded}
use Rattle.mini_stmt.specs.declared.rewrites.drop_unreached.Going.{Going}
use Rattle.mini_stmt.specs.declared.rewrites.drop_unreached.Going.TheVariants.{Statements, Lexicals}
use Rattle.mini_stmt.specs.MinimizeStatements.{Changes}

-- a statement that declares nothing else in its list, and takes along each name in it that can't be
-- written
abbrev pub is_loose : Tree → Bool
is_loose t = is_unscoped t && encloses false t

-- of these statements, or of what declares names in the list
abbrev pub may_go : Going → Tree → Bool
may_go Statements t = is_loose t
may_go Lexicals t = may_fade t

-- what is left of it
abbrev pub remains : Going → Tree → Trees
remains Statements t = left_behind t
remains Lexicals t = faded t

-- as a list
abbrev pub left_list : Going → Tree → Tree
left_list g t = listed (remains g t)

-- and that is lighter: it goes
abbrev pub is_lighter : Going → Tree → Bool
is_lighter g t = nat_lt (capped (weight StatementList (left_list g t))) (capped (weight (Stmt stmt_seat.List) t))

abbrev pub goes : Going → Tree → Bool
goes g t = may_go g t && is_lighter g t

-- what is left of it; any other statement stays
abbrev pub left_of : Going → Tree → Trees
left_of g t = if goes g t then remains g t else (t ▸ none)

abbrev pub all_left : Going → Trees → Trees
all_left g none = none
all_left g (t ▸ ts) = append (left_of g t) (all_left g ts)

abbrev pub some_go : Going → Trees → Bool
some_go g none = false
some_go g (t ▸ ts) = goes g t || some_go g ts

-- what comes after the first statement that ends in a jump
abbrev pub after_jump : Trees → Trees
after_jump none = none
after_jump (t ▸ ts) = if is_terminated t then ts else after_jump ts

-- none of that goes
abbrev pub stays_behind : Going → Trees → Bool
stays_behind g ts = not (some_go g (after_jump ts))

abbrev pub is_reached : Trees → Bool
is_reached = stays_behind Statements

-- a statement is put after the others, or what is left of it
pub record PutLeft (g : Going) (before : Trees) (t : Tree) (after : Trees) (went : Bool) : Type 0 where
  pub is : after ≡ append before (left_of g t)
  pub said : went ≡ goes g t

-- of each statement what is left
pub record Left (g : Going) (ts us : Trees) (changed : Bool) : Type 0 where
  pub is : us ≡ all_left g ts
  pub said : changed ≡ some_go g ts

-- the place of the first statement that ends in a jump, or there is none
abbrev pub EndsAt : Trees → Option ℕ → Type 0
EndsAt ts (Some i) = (i < count ts) × (is_terminated (child_or_absent ts i) ≡ true) × (after_jump ts ≡ rest_children (suc i) ts)
EndsAt ts None = after_jump ts ≡ none

-- up to the first statement that ends in a jump all of them, and of what comes after it what is
-- left
abbrev pub left_behind_all : Going → Trees → Trees
left_behind_all g none = none
left_behind_all g (t ▸ ts) = if is_terminated t then t ▸ all_left g ts else t ▸ left_behind_all g ts

pub record LeftBehind (g : Going) (ts us : Trees) (changed : Bool) : Type 0 where
  pub is : us ≡ left_behind_all g ts
  pub said : changed ≡ not (stays_behind g ts)

-- a list changes, or it is the same and nothing in it goes
pub record Dropped (t u : Trees) (changed : Bool) : Type 0 where
  pub changes : (o : Switches) → o.sequences ≡ true → Changes o t u changed
  pub same : changed ≡ false → u ≡ t
  pub reached : changed ≡ false → is_reached u ≡ true
