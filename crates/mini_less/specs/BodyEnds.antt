-- Rows on the jump that ends the body of a loop.
use Rattle.mini_model.specs.declared.place.Position.TheVariants.{Stmt}
use Rattle.mini_model.specs.declared.seat.StmtSeat.{StmtSeat}
use Rattle.mini_model.specs.Tree.{Tree}
use Rattle.mini_rows.specs.Branches.{Row78Block, Row78Once}
use Rattle.mini_less.specs.Families.{LessAt}

-- 78, where the body is a block
pub record BodyEndsLess : Type 0 where
  pub row_78_block : (q : StmtSeat) (n w : Tree) → Row78Block n w → LessAt (Stmt q) n w
  pub row_78_once : (q : StmtSeat) (n w : Tree) → Row78Once n w → LessAt (Stmt q) n w
