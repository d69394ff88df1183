-- 23, `minimize_unary`: `!e` becomes the negation of e, where that is lighter.
use Rattle.std.specs.Prelude.{◌<◌, ◌^◌, Bool, ◌&&◌, nat_lt, if◌then◌else◌}
use Rattle.mini_model.specs.declared.place.Position.{Position}
use Rattle.mini_model.specs.declared.place.Position.TheVariants.{Expr}
use Rattle.mini_model.specs.declared.seat.Seat.{Seat}
use Rattle.mini_model.specs.Tree.{Tree, negation}
use Rattle.mini_model.specs.Weight.{weight, capped}
use Rattle.mini_model.specs.Terms.{neg}
use Rattle.mini_model.specs.Redex.{Row23}
use Rattle.mini_node.specs.Children.{part}
use Rattle.mini_node.specs.Kinds.{is_negation}
use Rattle.mini_logic.specs.Negating.{has_own_negation}

-- the negation is lighter than the expression with a `!` before it
abbrev pub has_lighter_negation : Seat → Tree → Bool
has_lighter_negation s e = has_own_negation s e && nat_lt (capped (weight (Expr s) (neg s e))) (capped (weight (Expr s) (negation e)))

abbrev pub minimizes_unary : Seat → Tree → Bool
minimizes_unary s t = is_negation t && has_lighter_negation s (part t 0)

abbrev pub minimized_unary : Seat → Tree → Tree
minimized_unary s t = if minimizes_unary s t then neg s (part t 0) else t

-- what the rule makes: the row's, where it is lighter
abbrev pub Gives : Position → Tree → Tree → Type 0
Gives (Expr s) n w = Row23 s n w × (weight (Expr s) w < weight (Expr s) n)
Gives _ n w = ⊥

-- nothing is to be made, if the weight fits 64 bits
abbrev pub Rests : Position → Tree → Type 0
Rests (Expr s) n = weight (Expr s) n < 2 ^ 64 → (w : Tree) → Gives (Expr s) n w → ⊥
Rests _ n = Unit {0}
