-- Rows on negations and on `if` over expressions read a node that is read again.
use Rattle.mini_again.proofs.ModelTermsAgain.{has_negated_result_again, neg_again, not_of_again}
use Rattle.mini_again.specs.Again.{Renaming, again}
use Rattle.mini_model.specs.Position.{left_operand_seat, statement_expression_seat}
use Rattle.mini_model.specs.Redex.{Row, Row23, Row40, Row82And, Row82Else, Row82Or}
use Rattle.mini_model.specs.Tree.{Tree}
use Rattle.mini_model.specs.declared.operator.LogicalOperator.TheVariants.{Or}
use Rattle.mini_model.specs.declared.place.Position.{Position}
use Rattle.mini_model.specs.declared.place.Position.TheVariants.{Expr, Stmt}
use Rattle.mini_model.specs.declared.seat.Seat.{Seat}
use Rattle.std.proofs.Common.{ap, inl, inr}

pub row23_again : (ρ : Renaming) (s : Seat) (n w : Tree) → Row23 s n w → Row23 s (again ρ n) (again ρ w)
row23_again ρ s n w r = record {
  e = again ρ r.e;
  shape = ap (again ρ) r.shape;
  written = simp (← (neg_again ρ s r.e)) at (ap (again ρ) r.written);
}

pub row40_again : (ρ : Renaming) (n w : Tree) → Row40 n w → Row40 (again ρ n) (again ρ w)
row40_again ρ n w r = record {
  a = again ρ r.a;
  b = again ρ r.b;
  c = again ρ r.c;
  shape = ap (again ρ) r.shape;
  written = ap (again ρ) r.written;
}

pub row82_and_again : (ρ : Renaming) (n w : Tree) → Row82And n w → Row82And (again ρ n) (again ρ w)
row82_and_again ρ n w r = record {
  a = again ρ r.a;
  b = again ρ r.b;
  shape = ap (again ρ) r.shape;
  plain = simp (has_negated_result_again ρ r.a) r.plain;
  written = ap (again ρ) r.written;
}

pub row82_else_again : (ρ : Renaming) (n w : Tree) → Row82Else n w → Row82Else (again ρ n) (again ρ w)
row82_else_again ρ n w r = record {
  a = again ρ r.a;
  b = again ρ r.b;
  c = again ρ r.c;
  shape = ap (again ρ) r.shape;
  written = ap (again ρ) r.written;
}

pub row82_or_again : (ρ : Renaming) (n w : Tree) → Row82Or n w → Row82Or (again ρ n) (again ρ w)
row82_or_again ρ n w r = record {
  a = again ρ r.a;
  b = again ρ r.b;
  shape = ap (again ρ) r.shape;
  negated = simp (has_negated_result_again ρ r.a) r.negated;
  written = simp (← (not_of_again ρ (left_operand_seat Or statement_expression_seat) r.a)) at (ap (again ρ) r.written);
}

pub row_again : (ρ : Renaming) (p : Position) (n w : Tree) → Row p n w → Row p (again ρ n) (again ρ w)
row_again ρ (Expr s) n w (inl r) = inl (row23_again ρ s n w r)
row_again ρ (Expr s) n w (inr r) = inr (row40_again ρ n w r)
row_again ρ (Stmt q) n w (inl r) = inl (row82_else_again ρ n w r)
row_again ρ (Stmt q) n w (inr (inl r)) = inr (inl (row82_and_again ρ n w r))
row_again ρ (Stmt q) n w (inr (inr r)) = inr (inr (row82_or_again ρ n w r))
row_again ρ p0 n w r = absurd r
