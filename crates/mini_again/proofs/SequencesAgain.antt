-- Rows of sequences read a node that is read again.
use Rattle.mini_again.proofs.FoldingAgain.{is_spelled_again}
use Rattle.mini_again.proofs.ModelPathsAgain.{append_again}
use Rattle.mini_again.proofs.ModelTreeAgain.{children_again, count_again, shape_of_again}
use Rattle.mini_again.proofs.ModelWeightAgain.{outlines_again}
use Rattle.mini_again.proofs.NodeChildrenAgain.{names_of_again}
use Rattle.mini_again.proofs.TermEffectsAgain.{ef_again}
use Rattle.mini_again.proofs.TermPartsAgain.{is_number_again, leaves_nothing_again, weighs_again}
use Rattle.mini_again.proofs.TermReadingAgain.{is_item_again, is_plain_part_again, is_typed_by_again, stands_again}
use Rattle.mini_again.specs.Again.{Renaming, again, all_again}
use Rattle.mini_model.specs.Paths.{append}
use Rattle.mini_model.specs.Position.{passed_part_seat}
use Rattle.mini_model.specs.Tree.{Tree, children, none, shape_of, ◌▸◌}
use Rattle.mini_model.specs.declared.place.Position.{Position}
use Rattle.mini_model.specs.declared.place.Position.TheVariants.{Expr}
use Rattle.mini_model.specs.declared.seat.Seat.{Seat}
use Rattle.mini_node.specs.Children.{names_of}
use Rattle.mini_rows.specs.Lists.{sequence}
use Rattle.mini_rows.specs.Sequences.{Chooses, Converts, Decides, Minus, Negates, Operates, Operation, Row20, Row21, Row21Alone, Row21Idle, SequenceRow, Yields, along, innermost, operand_seat, operation_shape, over, takes_along, takes_last}
use Rattle.std.proofs.Common.{ap, inl, inr}
use Rattle.std.specs.Prelude.{List, [], codes, map, refl, true, ◌∷◌, ◌≡◌}

abbrev pub again_operation : Renaming → Operation → Operation
again_operation ρ (Decides a0 a1) = Decides a0 (again ρ a1)
again_operation ρ (Chooses a0 a1) = Chooses (again ρ a0) (again ρ a1)
again_operation ρ Negates = Negates
again_operation ρ (Operates a0 a1) = Operates a0 (again ρ a1)
again_operation ρ (Converts a) = Converts a
again_operation ρ (Yields a) = Yields a

pub over_again : (ρ : Renaming) (o : Operation) (a : Tree) → over (again_operation ρ o) (again ρ a) ≡ again ρ (over o a)
over_again ρ (Decides o b) a = refl
over_again ρ (Chooses b c) a = refl
over_again ρ Negates a = refl
over_again ρ (Operates o b) a = refl
over_again ρ (Converts c) a = refl
over_again ρ (Yields is_delegate) a = refl

pub along_again : (ρ : Renaming) (o : List Operation) (a : Tree) → along (map (again_operation ρ) o) (again ρ a) ≡ again ρ (along o a)
along_again ρ [] a = refl
along_again ρ (r ∷ rs) a = simp (along_again ρ rs a, over_again ρ r (along rs a))

pub innermost_again : (ρ : Renaming) (r : Operation) (o : List Operation) → innermost (again_operation ρ r) (map (again_operation ρ) o) ≡ again_operation ρ (innermost r o)
innermost_again ρ r [] = refl
innermost_again ρ r (o ∷ rs) = simp (innermost_again ρ o rs)

pub operand_seat_again : (ρ : Renaming) (o : Operation) (s : Seat) → operand_seat (again_operation ρ o) s ≡ operand_seat o s
operand_seat_again ρ (Decides o b) s = refl
operand_seat_again ρ (Chooses b c) s = refl
operand_seat_again ρ Negates s = refl
operand_seat_again ρ (Operates o b) s = refl
operand_seat_again ρ (Converts c) s = refl
operand_seat_again ρ (Yields is_delegate) s = refl

pub operation_shape_again : (ρ : Renaming) (o : Operation) → operation_shape (again_operation ρ o) ≡ operation_shape o
operation_shape_again ρ (Decides o b) = refl
operation_shape_again ρ (Chooses b c) = refl
operation_shape_again ρ Negates = refl
operation_shape_again ρ (Operates o b) = refl
operation_shape_again ρ (Converts c) = refl
operation_shape_again ρ (Yields is_delegate) = refl

pub takes_last_again : (ρ : Renaming) (r : Operation) (q : Tree) → takes_last (again_operation ρ r) (again ρ q) ≡ takes_last r q
takes_last_again ρ (Converts Minus) q = simp (is_number_again ρ q)
takes_last_again ρ r q = refl

pub takes_along_again : (ρ : Renaming) (r : Operation) (o : List Operation) (q : Tree) → takes_along (again_operation ρ r) (map (again_operation ρ) o) (again ρ q) ≡ takes_along r o q
takes_along_again ρ r [] q = simp (takes_last_again ρ r q)
takes_along_again ρ r (o ∷ rs) q = simp (takes_along_again ρ o rs q)

pub row20_again : (ρ : Renaming) (s : Seat) (n w : Tree) → Row20 s n w → Row20 s (again ρ n) (again ρ w)
row20_again ρ s n w r = record {
  operation = again_operation ρ r.operation;
  operations = map (again_operation ρ) r.operations;
  first = again ρ r.first;
  others = all_again ρ r.others;
  last = again ρ r.last;
  seated = simp (operation_shape_again ρ r.operation, shape_of_again ρ r.last, innermost_again ρ r.operation r.operations, operand_seat_again ρ (innermost r.operation r.operations) passed_part_seat, children_again ρ r.last, outlines_again ρ (children r.last)) r.seated;
  takes = simp (takes_along_again ρ r.operation r.operations r.last) r.takes;
  shape = simp (← (append_again ρ r.others (r.last ▸ none)), ← (along_again ρ r.operations (sequence (r.first ▸ append r.others (r.last ▸ none)))), ← (over_again ρ r.operation (along r.operations (sequence (r.first ▸ append r.others (r.last ▸ none)))))) at (ap (again ρ) r.shape);
  written = simp (← (along_again ρ r.operations r.last), ← (over_again ρ r.operation (along r.operations r.last)), ← (append_again ρ r.others (over r.operation (along r.operations r.last) ▸ none))) at (ap (again ρ) r.written);
}

pub row21_again : (ρ : Renaming) (n w : Tree) → Row21 n w → Row21 (again ρ n) (again ρ w)
row21_again ρ n w r = record {
  before = all_again ρ r.before;
  first = again ρ r.first;
  second = again ρ r.second;
  others = all_again ρ r.others;
  after = all_again ρ r.after;
  shape = simp (← (append_again ρ r.before (sequence (r.first ▸ (r.second ▸ r.others)) ▸ r.after))) at (ap (again ρ) r.shape);
  written = simp (← (append_again ρ r.others r.after), ← (append_again ρ r.before (r.first ▸ (r.second ▸ append r.others r.after)))) at (ap (again ρ) r.written);
}

pub row21_alone_again : (ρ : Renaming) (s : Seat) (n w : Tree) → Row21Alone s n w → Row21Alone s (again ρ n) (again ρ w)
row21_alone_again ρ s n w r = record {
  idle = again ρ r.idle;
  last = again ρ r.last;
  effect_free = simp (ef_again ρ true r.idle) r.effect_free;
  dropped = simp (leaves_nothing_again ρ r.idle) r.dropped;
  heavy = simp (weighs_again ρ r.idle) r.heavy;
  seated = r.seated;
  stays = simp (is_plain_part_again ρ r.last, is_item_again ρ r.last, stands_again ρ r.last, is_number_again ρ r.last, shape_of_again ρ r.last, names_of_again ρ r.last, is_spelled_again ρ (names_of r.last) (codes "eval"), is_typed_by_again ρ (shape_of r.last) (names_of r.last)) r.stays;
  shape = ap (again ρ) r.shape;
  written = ap (again ρ) r.written;
}

pub row21_idle_again : (ρ : Renaming) (n w : Tree) → Row21Idle n w → Row21Idle (again ρ n) (again ρ w)
row21_idle_again ρ n w r = record {
  before = all_again ρ r.before;
  idle = again ρ r.idle;
  next = again ρ r.next;
  after = all_again ρ r.after;
  effect_free = simp (ef_again ρ true r.idle) r.effect_free;
  dropped = simp (leaves_nothing_again ρ r.idle) r.dropped;
  heavy = simp (weighs_again ρ r.idle) r.heavy;
  several = simp (append_again ρ r.before (r.next ▸ r.after), count_again ρ (append r.before (r.next ▸ r.after))) r.several;
  shape = simp (← (append_again ρ r.before (r.idle ▸ (r.next ▸ r.after)))) at (ap (again ρ) r.shape);
  written = simp (← (append_again ρ r.before (r.next ▸ r.after))) at (ap (again ρ) r.written);
}

pub sequence_row_again : (ρ : Renaming) (p : Position) (n w : Tree) → SequenceRow p n w → SequenceRow p (again ρ n) (again ρ w)
sequence_row_again ρ (Expr s) n w (inl r) = inl (row20_again ρ s n w r)
sequence_row_again ρ (Expr s) n w (inr (inl r)) = inr (inl (row21_again ρ n w r))
sequence_row_again ρ (Expr s) n w (inr (inr (inl r))) = inr (inr (inl (row21_idle_again ρ n w r)))
sequence_row_again ρ (Expr s) n w (inr (inr (inr r))) = inr (inr (inr (row21_alone_again ρ s n w r)))
sequence_row_again ρ p0 n w r = absurd r
