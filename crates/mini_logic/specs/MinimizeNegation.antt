-- 23, of what is read inside the operand too, `minimize_negation`: `!(a && typeof x < "u")` becomes
-- `!a || typeof x > "u"`, and `!(a, b == c)` becomes `a, b != c`, where that is lighter.
use Rattle.std.specs.Prelude.{◌≡◌, ◌+◌, ◌<◌, ◌^◌, ℕ, zero, suc, Bool, ◌&&◌, ◌||◌, nat_lt, Option, Some, None, if◌then◌else◌}
use Rattle.mini_model.specs.declared.operator.LogicalOperator.{LogicalOperator}
use Rattle.mini_model.specs.declared.operator.LogicalOperator.TheVariants.{Or, And}
use Rattle.mini_model.specs.declared.place.Position.{Position}
use Rattle.mini_model.specs.declared.place.Position.TheVariants.{Expr}
use Rattle.mini_model.specs.declared.seat.Seat.{Seat}
use Rattle.mini_model.specs.Tree.{Tree, Trees, none, ◌▸◌}
use Rattle.mini_model.specs.Position.{passed_part_seat}
use Rattle.mini_model.specs.Weight.{weight, capped}
use Rattle.mini_node.specs.Children.{part}
use Rattle.mini_node.specs.Kinds.{is_negation}
use Rattle.mini_rows.specs.Negations.{whole_by, last_by, reaches_in, NegationContracts}
use Rattle.mini_logic.specs.Negating.{lighter_negation, has_own_negation}

-- the operator that `&&` or `||` is turned into
abbrev pub junction_of : Option LogicalOperator → Option LogicalOperator
junction_of (Some And) = Some Or
junction_of (Some Or) = Some And
junction_of _ = None

-- the whole negation, in which the lighter one is written for each part as far as 64 bits tell it
abbrev pub told : Seat → Tree → Tree
told = whole_by lighter_negation

-- the parts of a sequence with that of the last one
abbrev pub last_told : Seat → Trees → Trees
last_told = last_by lighter_negation

-- what the first so many parts weigh, each with its comma
abbrev pub leading : ℕ → Trees → ℕ
leading zero ts = 0
leading (suc k) none = 0
leading (suc k) (t ▸ ts) = weight (Expr passed_part_seat) t + 2 + leading k ts

-- the lightest negation, as far as 64 bits tell it
abbrev pub told_lightest : Seat → Tree → Tree
told_lightest s a = if nat_lt (capped (weight (Expr s) (lighter_negation s a))) (capped (weight (Expr s) (told s a))) then lighter_negation s a else told s a

-- the whole negation is another form than a `!` before the expression
abbrev pub negates : Seat → Tree → Bool
negates s a = reaches_in a || has_own_negation s a

-- it is lighter than the expression with its `!`
abbrev pub minimizes : Seat → Tree → Bool
minimizes s t = is_negation t && (reaches_in (part t 0) && nat_lt (capped (weight (Expr s) (told s (part t 0)))) (capped (weight (Expr s) t)))

abbrev pub written : Seat → Tree → Option Tree
written s t = if minimizes s t then Some (told s (part t 0)) else None

-- what the rule makes
abbrev pub Gives : Position → Tree → Tree → Type 0
Gives = NegationContracts

-- the row makes nothing lighter of it, if its weight fits 64 bits
abbrev pub Rests : Position → Tree → Type 0
Rests p n = weight p n < 2 ^ 64 → (w : Tree) → NegationContracts p n w → ⊥

-- what is written is what the row says, and lighter
abbrev pub WrittenIsRow : Type 0
WrittenIsRow = (s : Seat) (n w : Tree) → written s n ≡ Some w → NegationContracts (Expr s) n w

-- and where nothing is written the rule rests
abbrev pub UnwrittenRests : Type 0
UnwrittenRests = (s : Seat) (n : Tree) → written s n ≡ None → Rests (Expr s) n
