-- The early errors of a program.
use Rattle.std.specs.Prelude.{◌≡◌, List, [], ◌∷◌, Option, Some, None}
use Rattle.mini_model.specs.Tree.{Tree}
use Rattle.mini_laws.specs.Early.{Path, early_names, early_jumps, no_targets}
use Rattle.mini_scope.specs.declared.check.EarlyError.{EarlyError}
use Rattle.mini_scope.specs.declared.check.EarlyError.TheVariants as error

-- no name is declared twice, and each jump has a target
abbrev pub IsFree : Tree → Type 0
IsFree t = (early_names [] t ≡ []) × (early_jumps no_targets [] t ≡ [])

abbrev pub first_path : List Path → Option Path
first_path [] = None
first_path (p ∷ ps) = Some p

-- the error stands in the program: the first name that is declared twice, or, where there is none,
-- the first such jump
abbrev pub Stands : Tree → EarlyError → Type 0
Stands t (error.Name p) = Some p ≡ first_path (early_names [] t)
Stands t (error.Jump p) = (early_names [] t ≡ []) × (Some p ≡ first_path (early_jumps no_targets [] t))
Stands t error.OutOfMemory = Unit {0}
