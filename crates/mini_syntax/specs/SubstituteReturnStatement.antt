-- 60 of `return`, `substitute_return_statement`: `return undefined;`, `return void 0;` and
-- `return void a;` become `return;`.
use Rattle.std.specs.Prelude.{◌≡◌, ◌<◌, Bool, ◌&&◌, ◌||◌, Option, Some, None, if◌then◌else◌}
use Rattle.mini_model.specs.declared.place.Position.{Position}
use Rattle.mini_model.specs.declared.place.Position.TheVariants.{Stmt}
use Rattle.mini_model.specs.declared.seat.StmtSeat.{StmtSeat}
use Rattle.mini_model.specs.Tree.{Tree, absent}
use Rattle.mini_model.specs.Weight.{weight}
use Rattle.mini_node.specs.Children.{part}
use Rattle.mini_node.specs.Kinds.{is_return_statement, return_statement, unary_operator}
use Rattle.mini_terms.specs.Folds.{is_effect_free}
use Rattle.mini_terms.specs.Parts.{leaves_nothing}
use Rattle.mini_rows.specs.Branches.{Row60, BranchContracts}
use Rattle.mini_syntax.specs.Forms.{is_void, is_undefined}

-- `void a`, where a has no effect and nothing of it is left behind
abbrev pub is_idle_void : Tree → Bool
is_idle_void t = is_void (unary_operator t) && (is_effect_free (part t 0) && leaves_nothing (part t 0))

-- `return undefined;`, `return void 0;` or `return void a;`
abbrev pub returns_undefined : Tree → Bool
returns_undefined t = is_return_statement t && (is_undefined (part t 0) || is_idle_void (part t 0))

abbrev pub written : Tree → Option Tree
written t = if returns_undefined t then Some (return_statement absent) else None

-- what the rule makes
abbrev pub Gives : Position → Tree → Tree → Type 0
Gives (Stmt q) n w = Row60 n w × (weight (Stmt q) w < weight (Stmt q) n)
Gives _ n w = ⊥

-- the row reads it as nothing
abbrev pub Rests : Position → Tree → Type 0
Rests (Stmt q) n = (w : Tree) → Row60 n w → ⊥
Rests _ n = Unit {0}

-- what is written is what the row says
abbrev pub WrittenIsRow : Type 0
WrittenIsRow = (n w : Tree) → written n ≡ Some w → Row60 n w

-- and where nothing is written the row doesn't read the statement
abbrev pub UnwrittenRests : Type 0
UnwrittenRests = (q : StmtSeat) (n : Tree) → written n ≡ None → Rests (Stmt q) n

-- what the rule makes is what a row of branches contracts
abbrev pub GivesContracts : Type 0
GivesContracts = (p : Position) (n w : Tree) → Gives p n w → BranchContracts p n w
