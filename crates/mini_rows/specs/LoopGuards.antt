-- The row of a guard in the body of a loop that goes on with the next turn.
use Rattle.std.specs.Prelude.{◌≡◌, ◌⊎◌, ◌<◌, true}
use Rattle.mini_model.specs.declared.place.Position.{Position}
use Rattle.mini_model.specs.declared.place.Position.TheVariants.{Stmt}
use Rattle.mini_model.specs.Tree.{Tree, Trees, none, ◌▸◌}
use Rattle.mini_model.specs.Paths.{append}
use Rattle.mini_model.specs.Weight.{weight}
use Rattle.mini_rows.specs.Switches.{Switches}
use Rattle.mini_rows.specs.Lists.{block, Row75, Row75Block}
use Rattle.mini_rows.specs.Branches.{Surrounding, around, is_loop, bare_continue}

-- the guard with all that follows it: `if (b) continue; c();` becomes `if (!b) { c(); }`, and
-- `if (b) { c(); continue; } d();` becomes `if (b) { c(); } else { d(); }`
abbrev pub TurnsGuard : Trees → Trees → Type 0
TurnsGuard a b = Row75 bare_continue a b ⊎ Row75Block bare_continue a b

-- ---- 75, of loops

-- `while (a) { if (b) continue; c(); }` becomes `while (a) { if (!b) { c(); } }`: where the body
-- ends the loop goes on by itself
pub record Row75Loop (n w : Tree) : Type 0 where
  pub place : Surrounding
  pub before : Trees
  pub read : Trees
  pub put : Trees
  pub loop : is_loop place ≡ true
  pub row : TurnsGuard read put
  pub shape : n ≡ around place (block (append before read))
  pub written : w ≡ around place (block (append before put))

-- `while (a) if (b) { c(); continue; }` becomes `while (a) if (b) { c(); }`, where the guard is the
-- whole body
pub record Row75Whole (n w : Tree) : Type 0 where
  pub place : Surrounding
  pub guard : Tree
  pub made : Tree
  pub loop : is_loop place ≡ true
  pub row : TurnsGuard (guard ▸ none) (made ▸ none)
  pub shape : n ≡ around place guard
  pub written : w ≡ around place made

-- either of them
abbrev pub TurnsRow : Tree → Tree → Type 0
TurnsRow n w = Row75Loop n w ⊎ Row75Whole n w

-- a row reads n as w at this place
abbrev pub LoopGuardRow : Switches → Position → Tree → Tree → Type 0
LoopGuardRow o (Stmt q) n w = (o.sequences ≡ true) × TurnsRow n w
LoopGuardRow o p n w = ⊥

-- what a row writes, where it weighs less
pub record LoopGuardContracts (o : Switches) (p : Position) (n w : Tree) : Type 0 where
  pub row : LoopGuardRow o p n w
  pub lighter : weight p w < weight p n

-- what the row writes is lighter wherever the statement stands
abbrev pub LoopGuardsLighter : Type 0
LoopGuardsLighter = (o : Switches) (p : Position) (n w : Tree) → LoopGuardRow o p n w → weight p w < weight p n
