-- Rows of constants read a node that is read again.
use Rattle.mini_again.proofs.ModelTreeAgain.{shape_of_again}
use Rattle.mini_again.proofs.ModelWeightAgain.{weight_again}
use Rattle.mini_again.proofs.OperandsAgain.{beside_again}
use Rattle.mini_again.proofs.TermCalculatedAgain.{calculated_again, value_within_again}
use Rattle.mini_again.proofs.TermEffectsAgain.{ef_again}
use Rattle.mini_again.proofs.TermPartsAgain.{is_number_again, leaves_nothing_again}
use Rattle.mini_again.proofs.TermPlainAgain.{lit_again}
use Rattle.mini_again.proofs.TermReadingAgain.{is_item_again, is_plain_part_again, stands_again}
use Rattle.mini_again.specs.Again.{Renaming, again, option_again}
use Rattle.mini_model.specs.Tree.{Tree}
use Rattle.mini_model.specs.declared.place.Position.{Position}
use Rattle.mini_model.specs.declared.place.Position.TheVariants.{Expr}
use Rattle.mini_model.specs.declared.seat.Seat.{Seat}
use Rattle.mini_rows.specs.Constants.{ConstantRow, RowConstant, RowJoined, RowLength}
use Rattle.mini_terms.specs.Calculated.{operand_depth}
use Rattle.std.proofs.Common.{ap, inl, inr}
use Rattle.std.specs.Prelude.{false, true}

pub row_constant_again : (ρ : Renaming) (s : Seat) (n w : Tree) → RowConstant s n w → RowConstant s (again ρ n) (again ρ w)
row_constant_again ρ s n w r = record {
  value = r.value;
  known = simp (calculated_again ρ n) r.known;
  literal = simp (lit_again ρ r.value) at (ap (option_again ρ) r.literal);
  dropped = simp (leaves_nothing_again ρ n) r.dropped;
  stays = simp (is_plain_part_again ρ w, is_item_again ρ w, stands_again ρ w, is_number_again ρ w) r.stays;
  gains = simp (weight_again ρ (Expr s) w, shape_of_again ρ w, weight_again ρ (Expr s) n) r.gains;
}

pub row_joined_again : (ρ : Renaming) (s : Seat) (n w : Tree) → RowJoined s n w → RowJoined s (again ρ n) (again ρ w)
row_joined_again ρ s n w r = record {
  operator = r.operator;
  on_right = r.on_right;
  operand = again ρ r.operand;
  first = again ρ r.first;
  second = again ρ r.second;
  literal = again ρ r.literal;
  before = r.before;
  after = r.after;
  value = r.value;
  known = simp (value_within_again ρ false operand_depth r.first) r.known;
  told = simp (value_within_again ρ false operand_depth r.second) r.told;
  joins = r.joins;
  joined = r.joined;
  written_out = simp (lit_again ρ r.value) at (ap (option_again ρ) r.written_out);
  dropped = simp (leaves_nothing_again ρ r.first, leaves_nothing_again ρ r.second) r.dropped;
  shape = simp (← (beside_again ρ r.operator r.on_right r.operand r.first)) at (ap (again ρ) r.shape);
  written = ap (again ρ) r.written;
  gains = simp (weight_again ρ (Expr s) w, weight_again ρ (Expr s) n) r.gains;
}

pub row_length_again : (ρ : Renaming) (s : Seat) (n w : Tree) → RowLength s n w → RowLength s (again ρ n) (again ρ w)
row_length_again ρ s n w r = record {
  text = again ρ r.text;
  units = r.units;
  known = simp (value_within_again ρ true operand_depth r.text) r.known;
  effect_free = simp (ef_again ρ true r.text) r.effect_free;
  dropped = simp (leaves_nothing_again ρ n) r.dropped;
  unguarded = r.unguarded;
  unsigned = r.unsigned;
  unchained = r.unchained;
  small = r.small;
  shape = ap (again ρ) r.shape;
  written = ap (again ρ) r.written;
  gains = simp (weight_again ρ (Expr s) w, shape_of_again ρ w, weight_again ρ (Expr s) n) r.gains;
}

pub constant_row_again : (ρ : Renaming) (p : Position) (n w : Tree) → ConstantRow p n w → ConstantRow p (again ρ n) (again ρ w)
constant_row_again ρ (Expr s) n w (inl r) = inl (row_constant_again ρ s n w r)
constant_row_again ρ (Expr s) n w (inr (inl r)) = inr (inl (row_joined_again ρ s n w r))
constant_row_again ρ (Expr s) n w (inr (inr r)) = inr (inr (row_length_again ρ s n w r))
constant_row_again ρ p0 n w r = absurd r
