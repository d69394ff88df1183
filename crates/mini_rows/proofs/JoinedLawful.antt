-- What a row on a constant writes keeps all that a program has to keep, also where two operands become one.
use Rattle.std.proofs.Common.{◌≡◌, Bool, true, false, [], Some, refl, ap, ◌∙◌, sym, subst, true≢false, inl, inr}
use Rattle.std.specs.Prelude.{pos}
use Rattle.std.proofs.lemmas.Bool.{and_parts}
use Rattle.mini_model.specs.declared.operator.BinaryOperator.{BinaryOperator}
use Rattle.mini_model.specs.declared.operator.UnaryOperator.TheVariants as unary_operator
use Rattle.mini_model.specs.declared.place.Position.{Position}
use Rattle.mini_model.specs.declared.place.Position.TheVariants.{Expr}
use Rattle.mini_model.specs.declared.seat.Seat.{Seat}
use Rattle.mini_model.specs.Tree.{Tree, none, ◌▸◌}
use Rattle.mini_accept.specs.WellShaped.{Slot, fits}
use Rattle.mini_laws.specs.Value.{Value, Undefined, Null, Boolean, Number, String}
use Rattle.mini_kept.specs.KeepsFrames.{is_body_slot}
use Rattle.mini_kept.specs.KeepsNames.{is_rewritten_place}
use Rattle.mini_kept.specs.KeepsShapes.{AskedAlike}
use Rattle.mini_kept.specs.Lawful.{Lawful}
use Rattle.mini_kept.specs.Placed.{fits_place}
use Rattle.mini_kept.proofs.Expressions.{expression, TakesExpression, expression_taken, two_fit}
use Rattle.mini_terms.specs.Parts.{leaves_nothing}
use Rattle.mini_terms.specs.Plain.{lit}
use Rattle.mini_rows.specs.Arranged.{KeptAt, Vanishes}
use Rattle.mini_rows.specs.Constants.{RowJoined, ConstantRow, ConstantContracts}
use Rattle.mini_rows.specs.Operands.{beside}
use Rattle.mini_rows.specs.Sketches.{Null as NullHead, Number as NumberHead, String as StringHead, Unary, Binary, part as hole, under, end, ◌▹◌}
use Rattle.mini_rows.specs.Spellings.{binary}
use Rattle.mini_rows.proofs.ArrangedExpressions.{expressions_arranged_freely}
use Rattle.mini_rows.proofs.ArrangedLawful.{kept_is_lawful}
use Rattle.mini_rows.proofs.ConstantLawful.{both_dropped, constant_kept, constant_fits, constant_takes, constant_asked, binary_written, operand_written, binary_at, lit_fits}
use Rattle.mini_rows.proofs.ConstantMeaning.{nothing, constants_same}
use Rattle.mini_rows.proofs.FoldLawful.{vanishes, expression_slot}
use Rattle.mini_rows.proofs.KnownLength.{known_length_kept, known_length_taken, known_length_fits, known_length_asked}

-- ---- both of them go, and a literal is made

module _ (q : Seat) (n w l : Tree) (o : BinaryOperator) (a i t : Tree) (put : w ≡ binary o a l) (goes : Vanishes i) (rest : Vanishes t) where
  in_place : (k : Tree) → Some k ≡ Some l → w ≡ binary o a k
  in_place k e = let same : l ≡ k = cc e in put ∙ ap (binary o a) same

  right_kept : n ≡ binary o (binary o a i) t → (v : Value) → lit v ≡ Some l → KeptAt (Expr q) n w
  right_kept is Undefined e = expressions_arranged_freely both_dropped (record { trees = i ▸ t ▸ a ▸ none; lists = [] }) (tt, tt, (goes, (rest, tt))) (under (Binary o) (under (Binary o) (hole 2 ▹ hole 0 ▹ end) ▹ hole 1 ▹ end)) (under (Binary o) (hole 2 ▹ under (Unary unary_operator.Void) (under (NumberHead (pos 0)) end ▹ end) ▹ end)) refl q n w is (in_place _ e)
  right_kept is Null e = expressions_arranged_freely both_dropped (record { trees = i ▸ t ▸ a ▸ none; lists = [] }) (tt, tt, (goes, (rest, tt))) (under (Binary o) (under (Binary o) (hole 2 ▹ hole 0 ▹ end) ▹ hole 1 ▹ end)) (under (Binary o) (hole 2 ▹ under NullHead end ▹ end)) refl q n w is (in_place _ e)
  right_kept is (Boolean true) e = expressions_arranged_freely both_dropped (record { trees = i ▸ t ▸ a ▸ none; lists = [] }) (tt, tt, (goes, (rest, tt))) (under (Binary o) (under (Binary o) (hole 2 ▹ hole 0 ▹ end) ▹ hole 1 ▹ end)) (under (Binary o) (hole 2 ▹ under (Unary unary_operator.LogicalNot) (under (NumberHead (pos 0)) end ▹ end) ▹ end)) refl q n w is (in_place _ e)
  right_kept is (Boolean false) e = expressions_arranged_freely both_dropped (record { trees = i ▸ t ▸ a ▸ none; lists = [] }) (tt, tt, (goes, (rest, tt))) (under (Binary o) (under (Binary o) (hole 2 ▹ hole 0 ▹ end) ▹ hole 1 ▹ end)) (under (Binary o) (hole 2 ▹ under (Unary unary_operator.LogicalNot) (under (NumberHead (pos 1)) end ▹ end) ▹ end)) refl q n w is (in_place _ e)
  right_kept is (Number m) e = expressions_arranged_freely both_dropped (record { trees = i ▸ t ▸ a ▸ none; lists = [] }) (tt, tt, (goes, (rest, tt))) (under (Binary o) (under (Binary o) (hole 2 ▹ hole 0 ▹ end) ▹ hole 1 ▹ end)) (under (Binary o) (hole 2 ▹ under (NumberHead m) end ▹ end)) refl q n w is (in_place _ e)
  right_kept is (String r) e = expressions_arranged_freely both_dropped (record { trees = i ▸ t ▸ a ▸ none; lists = [] }) (tt, tt, (goes, (rest, tt))) (under (Binary o) (under (Binary o) (hole 2 ▹ hole 0 ▹ end) ▹ hole 1 ▹ end)) (under (Binary o) (hole 2 ▹ under (StringHead r) end ▹ end)) refl q n w is (in_place _ e)
  right_kept is v e = nothing e

  left_kept : n ≡ binary o (binary o i a) t → (v : Value) → lit v ≡ Some l → KeptAt (Expr q) n w
  left_kept is Undefined e = expressions_arranged_freely both_dropped (record { trees = i ▸ t ▸ a ▸ none; lists = [] }) (tt, tt, (goes, (rest, tt))) (under (Binary o) (under (Binary o) (hole 0 ▹ hole 2 ▹ end) ▹ hole 1 ▹ end)) (under (Binary o) (hole 2 ▹ under (Unary unary_operator.Void) (under (NumberHead (pos 0)) end ▹ end) ▹ end)) refl q n w is (in_place _ e)
  left_kept is Null e = expressions_arranged_freely both_dropped (record { trees = i ▸ t ▸ a ▸ none; lists = [] }) (tt, tt, (goes, (rest, tt))) (under (Binary o) (under (Binary o) (hole 0 ▹ hole 2 ▹ end) ▹ hole 1 ▹ end)) (under (Binary o) (hole 2 ▹ under NullHead end ▹ end)) refl q n w is (in_place _ e)
  left_kept is (Boolean true) e = expressions_arranged_freely both_dropped (record { trees = i ▸ t ▸ a ▸ none; lists = [] }) (tt, tt, (goes, (rest, tt))) (under (Binary o) (under (Binary o) (hole 0 ▹ hole 2 ▹ end) ▹ hole 1 ▹ end)) (under (Binary o) (hole 2 ▹ under (Unary unary_operator.LogicalNot) (under (NumberHead (pos 0)) end ▹ end) ▹ end)) refl q n w is (in_place _ e)
  left_kept is (Boolean false) e = expressions_arranged_freely both_dropped (record { trees = i ▸ t ▸ a ▸ none; lists = [] }) (tt, tt, (goes, (rest, tt))) (under (Binary o) (under (Binary o) (hole 0 ▹ hole 2 ▹ end) ▹ hole 1 ▹ end)) (under (Binary o) (hole 2 ▹ under (Unary unary_operator.LogicalNot) (under (NumberHead (pos 1)) end ▹ end) ▹ end)) refl q n w is (in_place _ e)
  left_kept is (Number m) e = expressions_arranged_freely both_dropped (record { trees = i ▸ t ▸ a ▸ none; lists = [] }) (tt, tt, (goes, (rest, tt))) (under (Binary o) (under (Binary o) (hole 0 ▹ hole 2 ▹ end) ▹ hole 1 ▹ end)) (under (Binary o) (hole 2 ▹ under (NumberHead m) end ▹ end)) refl q n w is (in_place _ e)
  left_kept is (String r) e = expressions_arranged_freely both_dropped (record { trees = i ▸ t ▸ a ▸ none; lists = [] }) (tt, tt, (goes, (rest, tt))) (under (Binary o) (under (Binary o) (hole 0 ▹ hole 2 ▹ end) ▹ hole 1 ▹ end)) (under (Binary o) (hole 2 ▹ under (StringHead r) end ▹ end)) refl q n w is (in_place _ e)
  left_kept is v e = nothing e

  kept_by : (b : Bool) → n ≡ binary o (beside o b a i) t → (v : Value) → lit v ≡ Some l → KeptAt (Expr q) n w
  kept_by true is v e = right_kept is v e
  kept_by false is v e = left_kept is v e

joined_kept : (q : Seat) (n w : Tree) → RowJoined q n w → KeptAt (Expr q) n w
joined_kept q n w r =
    let (first, second) = and_parts (leaves_nothing r.first) (leaves_nothing r.second) r.dropped in
    kept_by q n w r.literal r.operator r.operand r.first r.second r.written (vanishes r.first first) (vanishes r.second second) r.on_right r.shape r.value r.written_out

kept : (p : Position) (n w : Tree) → ConstantRow p n w → KeptAt p n w
kept (Expr q) n w (inl r) = constant_kept q n w r
kept (Expr q) n w (inr (inl r)) = joined_kept q n w r
kept (Expr q) n w (inr (inr r)) = known_length_kept q n w r
kept p n w r = absurd r

places : (p : Position) (n w : Tree) → ConstantRow p n w → is_rewritten_place p ≡ true
places (Expr q) n w r = refl
places p n w r = absurd r

-- ---- where they stand

module _ (strict : Bool) (s : Slot) where
  abbrev Fits : Tree → Type 0
  Fits t = fits strict expression t ≡ true

  both_fit : (o : BinaryOperator) (b : Bool) (a k : Tree) → Fits (beside o b a k) → Fits a × Fits k
  both_fit o true a k e = (binary_at strict o a k expression e).1
  both_fit o false a k e = let (first, second) = (binary_at strict o k a expression e).1 in (second, first)

  joined_stood : (q : Seat) (n w : Tree) → RowJoined q n w → fits strict s n ≡ true → TakesExpression s × Fits w
  joined_stood q n w r e =
      let (takes, (inner, second)) = binary_at strict r.operator (beside r.operator r.on_right r.operand r.first) r.second s (subst (λ x. fits strict s x ≡ true) r.shape e) in
      let (operand, first) = both_fit r.operator r.on_right r.operand r.first inner in
      let written = binary_written r.operator r.before r.after r.value r.joined (operand_written strict r.first r.before r.known first) (operand_written strict r.second r.after r.told second) in
      let literal = lit_fits strict r.value r.literal r.written_out written in
      (takes, subst Fits (sym r.written) (two_fit strict r.operand r.literal operand literal))

  row_stood : (p : Position) (n w : Tree) → ConstantRow p n w → fits_place p s ≡ true → fits strict s n ≡ true → TakesExpression s × (fits strict s w ≡ true)
  row_stood (Expr q) n w (inl r) k e = (constant_takes q n w r strict s e, constant_fits q n w r strict s e)
  row_stood (Expr q) n w (inr (inl r)) k e = let (takes, fit) = joined_stood q n w r e in (takes, expression_taken strict s w takes fit)
  row_stood (Expr q) n w (inr (inr r)) k e = (known_length_taken q n w r strict s k e, known_length_fits q n w r strict s k e)
  row_stood p n w r k e = absurd r

row_slot : (p : Position) (n w : Tree) → ConstantRow p n w → (strict : Bool) (s : Slot) → fits_place p s ≡ true → fits strict s n ≡ true → is_body_slot p s ≡ true
row_slot p n w r strict s k e = expression_slot p s (row_stood strict s p n w r k e).0

-- ---- what a parent asks of them

joined_asked : (q : Seat) (n w : Tree) → RowJoined q n w → AskedAlike (Expr q) n w
joined_asked q n w r =
    subst (λ t. AskedAlike (Expr q) t w) (sym r.shape) (subst (AskedAlike (Expr q) (binary r.operator (beside r.operator r.on_right r.operand r.first) r.second)) (sym r.written) (record {
      absent = λ e. absurd (true≢false (sym e));
      body = λ e. absurd (true≢false (sym e));
      optional = λ e. absurd (true≢false (sym e));
      number = λ asks e. refl;
      spelled = λ s e. nothing e;
      plain = refl;
    }))

row_asked : (p : Position) (n w : Tree) → ConstantRow p n w → AskedAlike p n w
row_asked (Expr q) n w (inl r) = constant_asked q n w r
row_asked (Expr q) n w (inr (inl r)) = joined_asked q n w r
row_asked (Expr q) n w (inr (inr r)) = known_length_asked q n w r
row_asked p n w r = absurd r

pub constants_lawful : Lawful ConstantContracts
constants_lawful =
    kept_is_lawful ConstantContracts constants_same
    (record { fitting = λ p n w c strict s k e. (row_stood strict s p n w c.row k e).1; asked = λ p n w c. row_asked p n w c.row })
    (λ p n w c. places p n w c.row)
    (λ p n w c strict s k e. row_slot p n w c.row strict s k e)
    (λ p n w c. kept p n w c.row)
