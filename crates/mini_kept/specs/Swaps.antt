-- The branches of an `if` are swapped: what `var` hoists in them is declared in another order.
use Rattle.std.specs.Prelude.{◌≡◌, Bool, true}
use Rattle.mini_model.specs.declared.place.Position.TheVariants.{Expr, Stmt}
use Rattle.mini_model.specs.declared.seat.Seat.{Seat}
use Rattle.mini_model.specs.declared.seat.StmtSeat.{StmtSeat}
use Rattle.mini_model.specs.Tree.{Tree, negation, if_else}
use Rattle.mini_model.specs.Position.{if_test_seat}
use Rattle.mini_accept.specs.WellShaped.{an_expression, one, fits}
use Rattle.mini_kept.specs.KeepsLoosely.{KeepsLoosely}

-- `if (n) s; else u;` becomes `if (w) u; else s;`, where w keeps what n has
abbrev pub BranchesSwapped : Type 0
BranchesSwapped =
    (q : StmtSeat) (strict : Bool) (n w s u : Tree) → fits strict (one an_expression) n ≡ true → fits strict (one an_expression) w ≡ true → KeepsLoosely (Expr if_test_seat) n w → KeepsLoosely (Stmt q) (if_else n s u) (if_else w u s)

-- so may `!a` become `a`
abbrev pub NegationLeft : Type 0
NegationLeft = (s : Seat) (strict : Bool) (a : Tree) → fits strict (one an_expression) a ≡ true → KeepsLoosely (Expr s) (negation a) a
