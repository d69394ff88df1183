-- Branches and bodies of loops, `minimize_body`: 79, and where it does nothing 78 of loops, then of
-- a `do` that is run once, and then 84.
use Rattle.std.specs.Prelude.{◌<◌, Option, Some, None}
use Rattle.mini_model.specs.declared.place.Position.{Position}
use Rattle.mini_model.specs.declared.place.Position.TheVariants.{Stmt}
use Rattle.mini_model.specs.Tree.{Tree}
use Rattle.mini_model.specs.Weight.{weight}
use Rattle.mini_rows.specs.Branches.{BodyRow}
use Rattle.mini_logic.specs.LastContinue as last_continue
use Rattle.mini_logic.specs.LastBreak as last_break
use Rattle.mini_logic.specs.MinimizeForStatement as for_statement
use Rattle.mini_logic.specs.UnwrapBlock as unwrap_block

-- the first of two, where it is there
abbrev pub first_of : Option Tree → Option Tree → Option Tree
first_of (Some t) o = Some t
first_of None o = o

-- of a `do`, or of a `for`
abbrev pub once_written : Tree → Option Tree
once_written t = first_of (last_break.written t) (for_statement.written t)

-- of a loop
abbrev pub loop_written : Tree → Option Tree
loop_written t = first_of (last_continue.written t) (once_written t)

abbrev pub written : Tree → Option Tree
written t = first_of (unwrap_block.written t) (loop_written t)

-- what the rule makes
abbrev pub Gives : Position → Tree → Tree → Type 0
Gives (Stmt q) n w = BodyRow n w × (weight (Stmt q) w < weight (Stmt q) n)
Gives _ n w = ⊥

-- no row reads it as anything
abbrev pub Rests : Position → Tree → Type 0
Rests (Stmt q) n = (w : Tree) → BodyRow n w → ⊥
Rests _ n = Unit {0}
