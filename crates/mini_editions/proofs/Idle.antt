-- Rows that rest on what is known of a body write no form that the node lacks, but what an edition
-- has.
use Rattle.std.proofs.Common.{◌<◌, ℕ, arith, false, refl, inl, inr}
use Rattle.std.specs.Prelude.{not}
use Rattle.mini_model.specs.declared.place.Position.{Position}
use Rattle.mini_model.specs.declared.place.Position.TheVariants.{Expr, Stmt}
use Rattle.mini_model.specs.declared.seat.Seat.{Seat}
use Rattle.mini_model.specs.Tree.{Tree, ◌▸◌}
use Rattle.mini_laws.specs.Value.{VariableSet}
use Rattle.mini_kept.specs.Without.{Assured}
use Rattle.mini_rows.specs.Editions.{SteadyIn}
use Rattle.mini_rows.specs.Forms.{Form, year}
use Rattle.mini_rows.specs.Idle.{IdleRow, IdleStatement}
use Rattle.mini_rows.specs.Lexical.{LexicalRow}
use Rattle.mini_rows.specs.Loops.{goes_by}
use Rattle.mini_rows.specs.Operators.{says_equal}
use Rattle.mini_rows.specs.Steady.{SteadyRow}
use Rattle.mini_rows.specs.Still.{StillRow}
use Rattle.mini_editions.proofs.Times.{Fewer, written, all_append}
use Rattle.mini_editions.proofs.Expressions.{digit_times, plain_times}
use Rattle.mini_editions.proofs.Chained.{chosen_fewer, call_fewer, zero_fewer, member_fewer}
use Rattle.mini_editions.proofs.Statements.{tested_sum, leaving_sum, goes_sum, ended_sum}

module _ (f : Form) where
  idle_row_fewer : (V : Assured) (s : Seat) (n w : Tree) → IdleRow V s n w → Fewer f n w
  idle_row_fewer V s n w (inl r) = written f r.shape r.written (λ z. omega (arith, z, all_append f r.before (r.idle ▸ (r.next ▸ r.after)), all_append f r.before (r.next ▸ r.after)))
  idle_row_fewer V s n w (inr r) = written f r.shape r.written (λ z. omega (arith, z))

  idle_statement_fewer : (V : Assured) (n w : Tree) → IdleStatement V n w → Fewer f n w
  idle_statement_fewer V n w (inl r) = written f r.shape r.written (λ z. refl)
  idle_statement_fewer V n w (inr (inl r)) = written f r.shape r.written (λ z. omega (arith, z))
  idle_statement_fewer V n w (inr (inr r)) = written f r.shape r.written (λ z. omega (arith, z))

  still_row_fewer : (V : Assured) (s : Seat) (n w : Tree) → StillRow V s n w → Fewer f n w
  still_row_fewer V s n w (inl r) = zero_fewer f false n w r.row
  still_row_fewer V s n w (inr (inl r)) = written f r.shape r.written (λ z. refl)
  still_row_fewer V s n w (inr (inr (inl r))) = call_fewer f false n w r.row
  still_row_fewer V s n w (inr (inr (inr (inl r)))) = written f r.row.shape r.row.written (λ z. digit_times f (not (says_equal r.row.operator)))
  still_row_fewer V s n w (inr (inr (inr (inr r)))) = chosen_fewer f false s n w r.row

  pub steady_fewer : (e : ℕ) → e < year f → (V : Assured) (p : Position) (n w : Tree) (r : SteadyRow V p n w) → SteadyIn e V p n w r → Fewer f n w
  steady_fewer e newer V (Expr s) n w (inl r) a = member_fewer f e newer V s n w r a
  steady_fewer e newer V (Expr s) n w (inr (inl r)) a = idle_row_fewer V s n w r
  steady_fewer e newer V (Expr s) n w (inr (inr r)) a = still_row_fewer V s n w r
  steady_fewer e newer V (Stmt q) n w r a = idle_statement_fewer V n w r
  steady_fewer e newer V p n w r a = absurd r

  pub lexical_fewer : (V : VariableSet) (p : Position) (n w : Tree) → LexicalRow V p n w → Fewer f n w
  lexical_fewer V (Stmt q) n w (inl r) = written f r.shape r.written (λ z. omega (arith, z, ended_sum f r.is_ended r.statements, plain_times f r.test))
  lexical_fewer V (Stmt q) n w (inr r) = written f r.shape r.written (λ z.
      omega (arith, z, leaving_sum f r.leaving r.x, goes_sum f r.leaving r.x, tested_sum f r.test (goes_by r.leaving r.x)))
  lexical_fewer V p n w r = absurd r
