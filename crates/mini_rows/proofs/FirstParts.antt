-- A literal 0 in the place of the first part of a sequence, which has no effect: it means the same, and keeps all that a program has to keep.
use Rattle.std.proofs.Common.{◌≡◌, Bool, true, false, [], refl, sym, ap, subst, ◌∙◌}
use Rattle.std.specs.Prelude.{◌&&◌, ◌||◌}
use Rattle.std.proofs.lemmas.Bool.{and_parts}
use Rattle.mini_model.specs.declared.place.Position.TheVariants.{Expr}
use Rattle.mini_model.specs.declared.seat.Seat.{Seat}
use Rattle.mini_model.specs.Tree.{Tree, none, ◌▸◌}
use Rattle.mini_accept.specs.WellShaped.{Slot, fits}
use Rattle.mini_laws.specs.Naming.{summary}
use Rattle.mini_laws.specs.Rows.{SameAt}
use Rattle.mini_kept.specs.KeepsFrames.{is_body_slot}
use Rattle.mini_kept.specs.KeepsShapes.{AskedAlike}
use Rattle.mini_kept.proofs.Bools.{left}
use Rattle.mini_kept.proofs.Expressions.{expression, TakesExpression, expression_taken}
use Rattle.mini_kept.proofs.FrameRows.{expression_slot}
use Rattle.mini_terms.specs.Exact.{by_value as behind_zero}
use Rattle.mini_terms.specs.Reading.{is_item, is_unguarded}
use Rattle.mini_terms.proofs.Reading.{same_in_seat}
use Rattle.mini_rows.specs.Arranged.{KeptAt}
use Rattle.mini_rows.specs.Choices.{pair, ZeroRow, Row21Zero}
use Rattle.mini_rows.specs.Sketches.{Sequence, part, under, list, end, ◌▹◌, no_items, item}
use Rattle.mini_rows.proofs.ArrangedExpressions.{expressions_arranged_freely}
use Rattle.mini_rows.proofs.ChainGuards.{zero_number, behind_sketch, behind_fits}
use Rattle.mini_rows.proofs.SequenceIdle.{zero_same}
use Rattle.mini_rows.proofs.SequenceStands.{of_sequence, sequence_asked}
use Rattle.mini_rows.proofs.Vanishing.{vanishes, first_dropped}

either_way : (b : Bool) → b || true ≡ true
either_way true = refl
either_way false = refl

pub zero_row_same : (s : Seat) (n w : Tree) → Row21Zero n w → SameAt (Expr s) n w
zero_row_same s n w r =
    subst (λ t. SameAt (Expr s) t w) (sym r.shape)
    (subst (SameAt (Expr s) (pair r.idle r.last)) (sym r.written)
    (same_in_seat s (pair r.idle r.last) (behind_zero r.last) refl (either_way (is_unguarded s.guard && is_item (behind_zero r.last))) (zero_same r.idle r.last r.effect_free)))

module _ {asked : Bool} (s : Seat) (n w : Tree) (r : ZeroRow asked n w) where
  pub zero_row_read : summary n ≡ summary w
  zero_row_read = ap summary r.shape ∙ sym (ap summary r.written)

  stood : (strict : Bool) (x : Slot) → fits strict x n ≡ true → TakesExpression x × (fits strict expression (pair r.idle r.last) ≡ true)
  stood strict x e = of_sequence strict x (r.idle ▸ (r.last ▸ none)) (subst (λ t. fits strict x t ≡ true) r.shape e)

  pub zero_row_fits : (strict : Bool) (x : Slot) → fits strict x n ≡ true → fits strict x w ≡ true
  zero_row_fits strict x e =
      let (takes, fit) = stood strict x e in
      let both_fit = left (fits strict expression r.idle && (fits strict expression r.last && true)) true fit in
      let (first, rest) = and_parts (fits strict expression r.idle) (fits strict expression r.last && true) both_fit in
      subst (λ t. fits strict x t ≡ true) (sym r.written) (expression_taken strict x (behind_zero r.last) takes (behind_fits strict r.last (left (fits strict expression r.last) true rest)))

  pub zero_row_slot : (strict : Bool) (x : Slot) → fits strict x n ≡ true → is_body_slot (Expr s) x ≡ true
  zero_row_slot strict x e = expression_slot (Expr s) x (stood strict x e).0

  pub zero_row_asked : AskedAlike (Expr s) n w
  zero_row_asked = subst (λ t. AskedAlike (Expr s) t w) (sym r.shape) (subst (AskedAlike (Expr s) (pair r.idle r.last)) (sym r.written) (sequence_asked (Expr s) (r.idle ▸ (r.last ▸ none)) (zero_number ▸ (r.last ▸ none))))

  pub zero_row_kept : KeptAt (Expr s) n w
  zero_row_kept =
      expressions_arranged_freely first_dropped (record { trees = r.idle ▸ r.last ▸ none; lists = [] }) (tt, tt, (vanishes r.idle r.dropped, tt))
      (under Sequence (list (item (part 0) (item (part 1) no_items)) ▹ end)) (behind_sketch (part 1)) refl s n w r.shape r.written
