-- Rows of `switch`, and all rows of branches.
use Rattle.mini_model.specs.declared.place.Position.TheVariants.{Stmt}
use Rattle.mini_model.specs.declared.seat.StmtSeat.{StmtSeat}
use Rattle.mini_model.specs.Tree.{Tree}
use Rattle.mini_kept.specs.Without.{Assured}
use Rattle.mini_laws.specs.Value.{VariableSet}
use Rattle.mini_shrink.specs.Facts.{ReadsLess}
use Rattle.mini_rows.specs.Branches.{BranchContracts}
use Rattle.mini_rows.specs.Cases.{OneCaseRow}
use Rattle.mini_rows.specs.DeadCases.{DeadCaseRow}
use Rattle.mini_rows.specs.Lexical.{Row80Lexical, Row84Lexical}
use Rattle.mini_rows.specs.Steady.{LexicalRows}
use Rattle.mini_less.specs.Families.{LessAt}

-- 80: `switch (a) { case 1: b(); break; }` becomes `if (a === 1) { b(); }`. 81:
-- `switch (2) { case 1: a(); case 2: b(); }` becomes `switch (2) { case 2: b(); }`
pub record SwitchRowsLess : Type 0 where
  pub row_80 : (q : StmtSeat) (n w : Tree) → OneCaseRow n w → LessAt (Stmt q) n w
  pub row_81 : (q : StmtSeat) (n w : Tree) → DeadCaseRow n w → LessAt (Stmt q) n w

-- 80: `switch (a) { case 1: let x = b(); c(x); }` becomes `if (a === 1) { let x = b(); c(x); }`.
-- 84: `for (i; t; u) { if (x) break; let y = a(); b(y); }` becomes
-- `for (i; t && !x; u) { let y = a(); b(y); }`. V has the variables that no event shows
pub record LexicalRowsLess : Type 0 where
  pub row_80 : (V : VariableSet) (q : StmtSeat) (n w : Tree) → Row80Lexical V n w → LessAt (Stmt q) n w
  pub row_84 : (V : VariableSet) (q : StmtSeat) (n w : Tree) → Row84Lexical V n w → LessAt (Stmt q) n w

-- all rows of `return` without a value, `switch`, branches, bodies of loops and `if`
abbrev pub BranchesReadLess : Type 0
BranchesReadLess = ReadsLess BranchContracts

-- 80 and 84 with names that are declared, whatever is known of the body
abbrev pub LexicalNamesReadLess : Type 0
LexicalNamesReadLess = (V : Assured) → ReadsLess (LexicalRows V)
