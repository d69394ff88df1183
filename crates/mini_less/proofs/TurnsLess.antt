-- Rows that turn a test ask less.
use Rattle.std.specs.Prelude.{refl, []}
use Rattle.mini_model.specs.declared.operator.UnaryOperator.TheVariants.{LogicalNot}
use Rattle.mini_model.specs.declared.place.Position.{Position}
use Rattle.mini_model.specs.declared.place.Position.TheVariants.{Expr, Stmt}
use Rattle.mini_model.specs.Tree.{Tree, none, ◌▸◌}
use Rattle.mini_shrink.proofs.Programs.{reads_less_shrinks}
use Rattle.mini_rows.specs.Sketches.{Unary, Binary, Conditional, If, Parts, part, under, end, ◌▹◌, still}
use Rattle.mini_rows.specs.Turns.{unequal, equal, TurnRow, TurnContracts}
use Rattle.mini_less.specs.Families.{TurnsReadLess, TurnsShrink}
use Rattle.mini_less.specs.Families.{LessAt}
use Rattle.mini_less.proofs.LessRows.{expression_less, statement_less, reads_less_by}

-- 40
abbrev four : Tree → Tree → Tree → Tree → Parts
four a b c d = record { trees = a ▸ b ▸ c ▸ d ▸ none; lists = [] }

-- 83
abbrev three : Tree → Tree → Tree → Parts
three a s u = record { trees = a ▸ s ▸ u ▸ none; lists = [] }

row_less : (p : Position) (n w : Tree) → TurnRow p n w → LessAt p n w
row_less (Expr q) n w r = expression_less still (four r.a r.b r.c r.d) (tt, tt) Conditional (under (Binary (unequal r.is_strict)) (part 0 ▹ part 1 ▹ end) ▹ part 2 ▹ part 3 ▹ end) Conditional (under (Binary (equal r.is_strict)) (part 0 ▹ part 1 ▹ end) ▹ part 3 ▹ part 2 ▹ end) refl refl q n w r.shape r.written
row_less (Stmt q) n w r = statement_less still (three r.a r.s r.u) (tt, tt) If (under (Unary LogicalNot) (part 0 ▹ end) ▹ part 1 ▹ part 2 ▹ end) If (part 0 ▹ part 2 ▹ part 1 ▹ end) refl refl q n w r.shape r.written
row_less p n w r = absurd r

pub turns_read_less : TurnsReadLess
turns_read_less = reads_less_by TurnContracts (λ p n w c. row_less p n w c.row)

pub turns_shrink : TurnsShrink
turns_shrink l t u r = reads_less_shrinks TurnContracts l.frames.names l.shapes turns_read_less t u r
