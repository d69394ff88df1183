-- Rows of lists of which each asks less, beside those on neighbours without loops.
use Rattle.std.specs.Prelude.{◌≡◌, true}
use Rattle.mini_model.specs.declared.place.Position.{Position}
use Rattle.mini_model.specs.Tree.{Tree}
use Rattle.mini_kept.specs.Placed.{is_statement_list}
use Rattle.mini_rows.specs.Lists.{Row67, Row67Absent, Row67In, Row68, Row68Free, Row68Init, Row74, Row75, Row75Block, Row77Leap, Row77Unreached, Each, Row69, Row70, bare_return, AtEnd, ListRow, ListContracts}
use Rattle.mini_rows.specs.Switches.{Switches}
use Rattle.mini_shrink.specs.Facts.{ReadsLess}
use Rattle.mini_less.specs.Families.{LessAt, NeighboursLess}

-- 67 with every head, 68, also into the head of a `for`, 74, 75 at the end of a body, and 77 of
-- `break` and `continue` and of what never runs
pub record HeadRowsLess : Type 0 where
  pub row_67 : NeighboursLess Row67
  pub row_67_absent : NeighboursLess Row67Absent
  pub row_67_in : NeighboursLess Row67In
  pub row_68 : NeighboursLess Row68
  pub row_68_free : NeighboursLess Row68Free
  pub row_68_init : NeighboursLess Row68Init
  pub row_74 : NeighboursLess Row74
  pub row_75 : (p : Position) → is_statement_list p ≡ true → (n w : Tree) → AtEnd (Row75 bare_return) n w → LessAt p n w
  pub row_75_block : (p : Position) → is_statement_list p ≡ true → (n w : Tree) → AtEnd (Row75Block bare_return) n w → LessAt p n w
  pub row_77_leap : NeighboursLess Row77Leap
  pub row_77_unreached : NeighboursLess Row77Unreached

-- 69 and 70, which write a declarator that gives a value for an assignment
pub record EnterRowsLess : Type 0 where
  pub row_69 : (k : Each) → NeighboursLess (Row69 k)
  pub row_70 : NeighboursLess Row70

-- all rows of lists, also where what they write doesn't weigh less
abbrev pub ListsReadLess : Type 0
ListsReadLess = (o : Switches) → ReadsLess (ListRow o) × ReadsLess (ListContracts o)
