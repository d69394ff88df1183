-- Rows of what has no effect where `this` has none read a node that is read again.
use Rattle.mini_again.proofs.ChoicesAgain.{call_row_again, chosen_indexed_row_again, chosen_member_row_again, chosen_row_again, zero_row_again}
use Rattle.mini_again.proofs.InListAgain.{of_either}
use Rattle.mini_again.proofs.ModelWeightAgain.{weight_again}
use Rattle.mini_again.proofs.OperatorsAgain.{type_row_again}
use Rattle.mini_again.proofs.TermEffectsAgain.{ef_again}
use Rattle.mini_again.proofs.TermPartsAgain.{leaves_nothing_again}
use Rattle.mini_again.specs.Again.{Renaming, again, assured_with_others}
use Rattle.mini_kept.specs.Without.{Assured}
use Rattle.mini_model.specs.Position.{passed_part_seat, unary_operand_seat}
use Rattle.mini_model.specs.Tree.{Tree}
use Rattle.mini_model.specs.declared.operator.UnaryOperator.TheVariants.{Void}
use Rattle.mini_model.specs.declared.place.Position.TheVariants.{Expr}
use Rattle.mini_model.specs.declared.seat.Seat.{Seat}
use Rattle.mini_rows.specs.Still.{Row17This, Row1This, Row21ZeroThis, Row44This, Row45This, StillRow}
use Rattle.std.proofs.Common.{ap, inl, inr}
use Rattle.std.specs.Prelude.{false}

pub row17_this_again : (ρ : Renaming) (V : Assured) (n w : Tree) → Row17This (assured_with_others ρ V) n w → Row17This V (again ρ n) (again ρ w)
row17_this_again ρ V n w r = record {
  kept = r.kept;
  row = type_row_again ρ false n w r.row;
}

pub row1_this_again : (ρ : Renaming) (V : Assured) (n w : Tree) → Row1This (assured_with_others ρ V) n w → Row1This V (again ρ n) (again ρ w)
row1_this_again ρ V n w r = record {
  operand = again ρ r.operand;
  kept = r.kept;
  effect_free = simp (ef_again ρ false r.operand) r.effect_free;
  dropped = simp (leaves_nothing_again ρ r.operand) r.dropped;
  heavy = simp (weight_again ρ (Expr (unary_operand_seat Void)) r.operand) r.heavy;
  shape = ap (again ρ) r.shape;
  written = ap (again ρ) r.written;
}

pub row21_zero_this_again : (ρ : Renaming) (V : Assured) (n w : Tree) → Row21ZeroThis (assured_with_others ρ V) n w → Row21ZeroThis V (again ρ n) (again ρ w)
unfolding zero_row_again
row21_zero_this_again ρ V n w r = record {
  kept = r.kept;
  row = zero_row_again ρ false n w r.row;
  heavy = simp (weight_again ρ (Expr passed_part_seat) r.row.idle) r.heavy;
}

pub row44_this_again : (ρ : Renaming) (V : Assured) (n w : Tree) → Row44This (assured_with_others ρ V) n w → Row44This V (again ρ n) (again ρ w)
row44_this_again ρ V n w r = record {
  kept = r.kept;
  row = call_row_again ρ false n w r.row;
}

pub row45_this_again : (ρ : Renaming) (V : Assured) (s : Seat) (n w : Tree) → Row45This (assured_with_others ρ V) s n w → Row45This V s (again ρ n) (again ρ w)
row45_this_again ρ V s n w r = record {
  kept = r.kept;
  row = of_either (λ x. chosen_row_again ρ false s n w x) (λ x. of_either (λ x1. chosen_member_row_again ρ false s n w x1) (λ x1. chosen_indexed_row_again ρ false s n w x1) x) r.row;
}

pub still_row_again : (ρ : Renaming) (V : Assured) (s : Seat) (n w : Tree) → StillRow (assured_with_others ρ V) s n w → StillRow V s (again ρ n) (again ρ w)
still_row_again ρ V s n w (inl r) = inl (row21_zero_this_again ρ V n w r)
still_row_again ρ V s n w (inr (inl r)) = inr (inl (row1_this_again ρ V n w r))
still_row_again ρ V s n w (inr (inr (inl r))) = inr (inr (inl (row44_this_again ρ V n w r)))
still_row_again ρ V s n w (inr (inr (inr (inl r)))) = inr (inr (inr (inl (row17_this_again ρ V n w r))))
still_row_again ρ V s n w (inr (inr (inr (inr r)))) = inr (inr (inr (inr (row45_this_again ρ V s n w r))))
