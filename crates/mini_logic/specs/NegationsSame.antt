-- That the negations that are written mean what `!` does.
use Rattle.mini_model.specs.declared.place.Position.TheVariants.{Expr}
use Rattle.mini_model.specs.declared.seat.Seat.{Seat}
use Rattle.mini_model.specs.Tree.{Tree, negation}
use Rattle.mini_laws.specs.Rows.{SameAt}
use Rattle.mini_logic.specs.Negating.{lighter_negation}
use Rattle.mini_logic.specs.MinimizeNegation.{told_lightest}

-- the lighter one, as far as 64 bits tell it, means what `!` over the expression does, in every
-- seat
abbrev pub LighterSame : Type 0
LighterSame = (s : Seat) (a : Tree) → SameAt (Expr s) (negation a) (lighter_negation s a)

-- and so does the lightest
abbrev pub LightestSame : Type 0
LightestSame = (s : Seat) (a : Tree) → SameAt (Expr s) (negation a) (told_lightest s a)
