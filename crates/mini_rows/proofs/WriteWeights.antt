-- What each row of names that can be written writes weighs less wherever the expression stands.
use Rattle.std.proofs.Common.{◌≡◌, ◌<◌, Bool, true, false, refl, sym, ap, ◌∙◌, inl, inr, arith}
use Rattle.mini_model.specs.declared.name.Name.{Name}
use Rattle.mini_model.specs.declared.operator.AssignmentOperator.TheVariants as assigning
use Rattle.mini_model.specs.declared.operator.LogicalOperator.{LogicalOperator}
use Rattle.mini_model.specs.declared.operator.LogicalOperator.TheVariants.{Or, And, Coalesce}
use Rattle.mini_model.specs.declared.place.Position.{Position}
use Rattle.mini_model.specs.declared.place.Position.TheVariants.{Expr}
use Rattle.mini_model.specs.declared.seat.Seat.{Seat}
use Rattle.mini_model.specs.Tree.{Tree, none, ◌▸◌, identifier, logical}
use Rattle.mini_model.specs.Position.{right_operand_seat, argument_seat}
use Rattle.mini_model.specs.Weight.{outline, outlines, weight}
use Rattle.mini_laws.specs.Value.{VariableSet}
use Rattle.mini_rows.specs.Choices.{assign, deciding}
use Rattle.mini_rows.specs.Spellings.{assignment}
use Rattle.mini_rows.specs.Unused.{resolved}
use Rattle.mini_rows.specs.Writes.{if_null, WriteRow, WritesLighter, WritesLighten}
use Rattle.mini_rows.proofs.ChoiceWeights.{name_heavy, right_falls, same_marks, coalesced_falls, coalesce_at_most}
use Rattle.mini_rows.proofs.SpellWeights.{falls_by}
use Rattle.mini_rows.proofs.WriteChains.{chained_falls, chained_outline}
use Rattle.mini_rows.proofs.WriteNullish.{nullish_falls, nullish_outline}

-- 34: the name goes, and what stood on the right of it stands where parentheses are needed seldomer
combined_falls : (o : LogicalOperator) (s : Seat) (x : Name) (b : Tree) → weight (Expr s) (assignment (deciding o) (identifier x) b) < weight (Expr s) (assign x (logical o (identifier x) b))
combined_falls Or s x b = omega (arith, right_falls (right_operand_seat Or argument_seat) refl b, name_heavy x, same_marks s assigning.LogicalOr assigning.Assign (outlines (identifier x ▸ b ▸ none)) (outlines (identifier x ▸ logical Or (identifier x) b ▸ none)))
combined_falls And s x b = omega (arith, right_falls (right_operand_seat And argument_seat) refl b, name_heavy x, same_marks s assigning.LogicalAnd assigning.Assign (outlines (identifier x ▸ b ▸ none)) (outlines (identifier x ▸ logical And (identifier x) b ▸ none)))
combined_falls Coalesce s x b = omega (arith, right_falls (right_operand_seat Coalesce argument_seat) refl b, name_heavy x, same_marks s assigning.LogicalNullish assigning.Assign (outlines (identifier x ▸ b ▸ none)) (outlines (identifier x ▸ logical Coalesce (identifier x) b ▸ none)))

-- 46: the comparison and the second name weigh more than a pair of parentheses round each, and the assignment stands in parentheses as before
assigned_falls : (equal : Bool) (s : Seat) (x : Name) (a b : Tree) → weight (Expr s) (logical Coalesce (assign x a) b) < weight (Expr s) (if_null equal (assign x a) b (identifier x))
assigned_falls true s x a b = omega (arith, coalesced_falls s b, coalesce_at_most s (outlines (assign x a ▸ b ▸ none)), name_heavy x)
assigned_falls false s x a b = omega (arith, coalesced_falls s b, coalesce_at_most s (outlines (assign x a ▸ b ▸ none)), name_heavy x)

if_null_outline : (equal : Bool) (t b y u v : Tree) → outline (if_null equal t b y) ≡ outline (logical Coalesce u v)
if_null_outline true t b y u v = refl
if_null_outline false t b y u v = refl

pub writes_lighter : WritesLighter
writes_lighter W (Expr s) n w (inr (inl r)) = falls_by (Expr s) n w _ _ r.shape r.written (assigned_falls r.equal s (resolved r.spelling r.symbol) r.a r.b)
writes_lighter W (Expr s) n w (inr (inr (inl r))) = let x : Name = resolved r.spelling r.symbol in falls_by (Expr s) n w _ _ r.shape r.written (nullish_falls s r.equal r.before (assign x r.a) (identifier x) r.first r.second r.nullish)
writes_lighter W (Expr s) n w (inr (inr (inr r))) = falls_by (Expr s) n w _ _ r.shape r.written (chained_falls (resolved r.spelling r.symbol) r.a s r.equal r.missing r.last r.others)
writes_lighter W (Expr s) n w (inl r) = falls_by (Expr s) n w _ _ r.shape r.written (combined_falls r.operator s (resolved r.spelling r.symbol) r.b)
writes_lighter W p n w r = absurd r

-- a parent's weight reads of both no more than that they are there
outline_by_row : (W : VariableSet) (p : Position) (n w : Tree) → WriteRow W p n w → outline n ≡ outline w
outline_by_row W (Expr s) n w (inl r) = ap outline r.shape ∙ sym (ap outline r.written)
outline_by_row W (Expr s) n w (inr (inr (inl r))) = nullish_outline W n w r
outline_by_row W (Expr s) n w (inr (inr (inr r))) = chained_outline W s n w r
outline_by_row W (Expr s) n w (inr (inl r)) = let x : Name = resolved r.spelling r.symbol in ap outline r.shape ∙ if_null_outline r.equal (assign x r.a) r.b (identifier x) (assign x r.a) r.b ∙ sym (ap outline r.written)
outline_by_row W p n w r = absurd r

pub writes_lighten : WritesLighten
writes_lighten W = record {
  lighter = λ p n w c. c.lighter;
  absent = λ p n w c a. ap (λ o. o.absent) (outline_by_row W p n w c.row);
  items = λ p n w c a. ap (λ o. o.items) (outline_by_row W p n w c.row);
  is_zero = λ p n w c a. inl (ap (λ o. o.is_zero) (outline_by_row W p n w c.row));
  chooses = λ p n w c a. inl (λ h. sym (ap (λ o. o.chooses) (outline_by_row W p n w c.row)) ∙ h);
}
