-- The rows of two calls that have several: of what both branches of a conditional have, and of
-- optional chains.
use Rattle.std.specs.Prelude.{◌⊎◌}
use Rattle.mini_model.specs.declared.seat.Seat.{Seat}
use Rattle.mini_model.specs.Tree.{Tree}
use Rattle.mini_rows.specs.ChainEnds.{EndRow}
use Rattle.mini_rows.specs.ChainLinks.{ChainRow}
use Rattle.mini_rows.specs.Choices.{Row44, Row45, Row45Member, Row45Indexed, Row46Equal, Row46Unequal, OwnRow}

-- 41, 44 and 45, which write no form newer than the edition of 2015
abbrev pub OlderRow : Seat → Tree → Tree → Type 0
OlderRow s n w = OwnRow n w ⊎ ((Row45 s n w ⊎ (Row45Member s n w ⊎ Row45Indexed s n w)) ⊎ Row44 n w)

-- 41, 44, 45 and 46, `minimize_conditional_branches`
abbrev pub SharedRow : Seat → Tree → Tree → Type 0
SharedRow s n w = (Row46Equal n w ⊎ Row46Unequal n w) ⊎ OlderRow s n w

-- 10, 11 and 64, `fold_chain_expr`
abbrev pub FoldedRow : Seat → Tree → Tree → Type 0
FoldedRow s n w = EndRow n w ⊎ ChainRow s n w
