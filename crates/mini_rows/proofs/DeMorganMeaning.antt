-- What a row of De Morgan's laws writes means the same.
use Rattle.std.proofs.Common.{◌≡◌, ℕ, zero, suc, ◌<◌, Bool, true, false, [], refl, sym, ap, ◌∙◌, subst, inr, true≢false, arith}
use Rattle.std.specs.Prelude.{not, nat_eq, Option, if◌then◌else◌}
use Rattle.std.proofs.lemmas.Bool.{eqb-true}
use Rattle.mini_model.specs.declared.operator.LogicalOperator.{LogicalOperator}
use Rattle.mini_model.specs.declared.operator.LogicalOperator.TheVariants.{Or, And, Coalesce}
use Rattle.mini_model.specs.declared.place.Position.{Position}
use Rattle.mini_model.specs.declared.place.Position.TheVariants.{Expr, Stmt, SequenceList}
use Rattle.mini_model.specs.declared.seat.Seat.{Seat}
use Rattle.mini_model.specs.declared.seat.StmtSeat.{StmtSeat}
use Rattle.mini_model.specs.declared.shape.Shape.TheVariants as shape
use Rattle.mini_model.specs.Paths.{append}
use Rattle.mini_model.specs.Tree.{Tree, Trees, none, ◌▸◌, count, listed, absent, negation, logical, expression_statement}
use Rattle.mini_model.specs.Position.{is_and_or, statement_expression_seat, left_operand_seat, passed_part_seat, part_seat, branch_seat, child_position}
use Rattle.mini_model.specs.Rewriting.{Step, StepIn, here, inside, first, later}
use Rattle.mini_model.specs.Terms.{turned}
use Rattle.mini_laws.specs.Value.{VariableSet, nothing, choose, truth}
use Rattle.mini_laws.specs.State.{State, ok, stop, either, Environment}
use Rattle.mini_laws.specs.Demand.{Want, Val, Unused, Tail, Demand, As, Stat, LabelSet}
use Rattle.mini_laws.specs.Naming.{summary}
use Rattle.mini_laws.specs.Fits.{Fits}
use Rattle.mini_laws.specs.Same.{Same}
use Rattle.mini_laws.specs.Step.{step, means}
use Rattle.mini_laws.specs.Rows.{SameAt}
use Rattle.mini_laws.specs.Rewritten.{MeansSame}
use Rattle.mini_laws.proofs.Rewritten.{any_step_same}
use Rattle.mini_laws.proofs.Rows.{by_equality}
use Rattle.mini_laws.proofs.Runs.{tail_stop, either_cong, either_eta}
use Rattle.mini_terms.proofs.Dropping.{after_cong}
use Rattle.mini_terms.proofs.Frame.{gives_any}
use Rattle.mini_terms.proofs.Opened.{and_opened, or_opened, statement_opened}
use Rattle.mini_rows.specs.DeMorgan.{turned_logical, VoidPlace, Alone, Begins, Turns, void_of, ended, DeMorganRow, DeMorganContracts}
use Rattle.mini_rows.specs.Lists.{sequence, for_loop}
use Rattle.mini_rows.specs.Negations.{lightest}
use Rattle.mini_rows.proofs.BooleanMeaning.{then_same}
use Rattle.mini_rows.proofs.ForPartMeaning.{update_weaker, begun_weaker, weaker_same}
use Rattle.mini_rows.proofs.NegationMeaning.{Stands, stands_means, left_stands, lightest_stands}
use Rattle.mini_rows.proofs.ListParts.{in_row, sequence_in_row}
use Rattle.mini_rows.proofs.PlainRead.{plain_summary, plain_read}
use Rattle.mini_rows.proofs.SequenceMeaning.{same_value}
use Rattle.mini_rows.proofs.SpellMeaning.{tree_same}
use Rattle.mini_rows.proofs.BooleanRuns.{value, negated_and, negated_or}

-- the left side under a `!`, and the other operator
abbrev negated_logical : LogicalOperator → Tree → Tree → Tree
negated_logical o a b = logical (turned o) (negation a) b

unequal : (n m : ℕ) → n < m → nat_eq n m ≡ false
unequal n m h = go (nat_eq n m) refl
  where
    go : (b : Bool) → nat_eq n m ≡ b → b ≡ false
    go false f = refl
    go true f = let same = eqb-true n m f in absurd (omega (arith, same, h))

picked : {A : Type 0} (t : Bool) (x y : A) → choose t x y ≡ choose (not t) y x
picked true x y = refl
picked false x y = refl

module _ (D : VariableSet) (e : Environment) where
  unused_alike : (o : LogicalOperator) (a b : Tree) → is_and_or o ≡ true → (s : State) → means e (logical o a b) (As Unused) tt s ≡ means e (negated_logical o a b) (As Unused) tt s
  unused_alike And a b h s =
      and_opened e a b Unused s
      ∙ after_cong (λ v. Unit {0}) (value D e a s) _ _ (gives_any (value D e a s)) (λ v p z. picked (truth v) (means e b (As Unused) tt z) (ok tt z))
      ∙ sym (negated_or D e a b Unused s)
  unused_alike Or a b h s =
      or_opened e a b Unused s
      ∙ after_cong (λ v. Unit {0}) (value D e a s) _ _ (gives_any (value D e a s)) (λ v p z. picked (truth v) (ok tt z) (means e b (As Unused) tt z))
      ∙ sym (negated_and D e a b Unused s)
  unused_alike Coalesce a b h s = absurd (true≢false (sym h))

-- ---- where nobody asks for its value

abbrev Place : Position
Place = Expr statement_expression_seat

-- two expressions that do the same where nobody asks for their values
module _ (x y : Tree) (alike : (e : Environment) (s : State) → means e x (As Unused) tt s ≡ means e y (As Unused) tt s) (read : summary x ≡ plain_summary) (other : summary y ≡ plain_summary) (q : StmtSeat) where
  statement_alike : (e : Environment) (t : Option Tail) (ls : LabelSet) (s : State) → means e (expression_statement x) (Stat t) ls s ≡ means e (expression_statement y) (Stat t) ls s
  statement_alike e t ls s = statement_opened e x t ls s ∙ ap (λ c. either c (λ u z. ok tt z) (λ y z. tail_stop t y z)) (alike e s) ∙ sym (statement_opened e y t ls s)

  alone_alike : (e : Environment) (D X : VariableSet) (d : Demand) → Fits (Stmt q) d → Same e D X d (expression_statement x) (expression_statement y)
  alone_alike e D X (Stat t) f = by_equality e D X (Stat t) (expression_statement x) (expression_statement y) (λ ls s. statement_alike e t ls s)
  alone_alike e D X d f = absurd f

  void_alike : (v : VoidPlace) → SameAt (Stmt q) (void_of v x) (void_of v y)
  void_alike Alone = record { by = alone_alike }
  void_alike (Begins t u c) = weaker_same q (for_loop x t u c) (for_loop y t u c) (λ e l r s. begun_weaker e x y t u c (λ z. inr (alike e z)) read l r s other)
  void_alike (Turns i t c) = weaker_same q (for_loop i t x c) (for_loop i t y c) (λ e l r s. update_weaker e i t x y c (λ z. inr (alike e z)) l r s)

void_step : (q : StmtSeat) (v : VoidPlace) (x y : Tree) → Stands Place x y → Step Stands (Stmt q) (void_of v x) (void_of v y)
void_step q Alone x y k = inside (Stmt q) shape.ExpressionStatement [] 0 (x ▸ none) (y ▸ none) (first (child_position shape.ExpressionStatement (Stmt q) 1) x y none (here Place x y k))
void_step q (Begins t u c) x y k =
    inside (Stmt q) shape.ForStatement [] 0 (x ▸ (t ▸ (u ▸ (c ▸ none)))) (y ▸ (t ▸ (u ▸ (c ▸ none))))
    (first (child_position shape.ForStatement (Stmt q) 4) x y (t ▸ (u ▸ (c ▸ none))) (here Place x y k))
void_step q (Turns i t c) x y k =
    inside (Stmt q) shape.ForStatement [] 0 (i ▸ (t ▸ (x ▸ (c ▸ none)))) (i ▸ (t ▸ (y ▸ (c ▸ none))))
    (later (child_position shape.ForStatement (Stmt q) 4) i (t ▸ (x ▸ (c ▸ none))) (t ▸ (y ▸ (c ▸ none)))
    (later (λ j. child_position shape.ForStatement (Stmt q) 4 (suc j)) t (x ▸ (c ▸ none)) (y ▸ (c ▸ none))
    (first (λ j. child_position shape.ForStatement (Stmt q) 4 (suc (suc j))) x y (c ▸ none) (here Place x y k))))

void_same : (q : StmtSeat) (v : VoidPlace) (x y : Tree) → Stands Place x y → SameAt (Stmt q) (void_of v x) (void_of v y)
void_same q v x y k = any_step_same Stands stands_means (Stmt q) (void_of v x) (void_of v y) (void_step q v x y k)

-- by itself

alone_same : (o : LogicalOperator) (a b : Tree) → is_and_or o ≡ true → (q : StmtSeat) (v : VoidPlace) → SameAt (Stmt q) (void_of v (logical o a b)) (void_of v (turned_logical o a b))
alone_same o a b h q v =
    let left = left_operand_seat (turned o) statement_expression_seat in
    then_same (Stmt q) (void_of v (logical o a b)) (void_of v (negated_logical o a b)) (void_of v (turned_logical o a b))
    (void_alike (logical o a b) (negated_logical o a b) (λ e s. unused_alike nothing e o a b h s) (plain_read (logical o a b) refl) (plain_read (negated_logical o a b) refl) q v)
    (void_same q v (negated_logical o a b) (turned_logical o a b) (left_stands (turned o) statement_expression_seat (negation a) (lightest left a) b (lightest_stands left a)))

-- ---- a part of a sequence but the last

module _ (o : LogicalOperator) (a b : Tree) (h : is_and_or o ≡ true) (next : Tree) (after : Trees) where
  abbrev before_turned : Trees
  before_turned = logical o a b ▸ (next ▸ after)

  abbrev negated_part : Trees
  negated_part = negated_logical o a b ▸ (next ▸ after)

  abbrev turned_part : Trees
  turned_part = turned_logical o a b ▸ (next ▸ after)

  module _ (D : VariableSet) (e : Environment) where
    first_alike : (w : Want) (s : State) → in_row e (logical o a b) (next ▸ after) w s ≡ in_row e (negated_logical o a b) (next ▸ after) w s
    unfolding in_row
    first_alike w s = ap (λ x. either x (λ u z. in_row e next after w z) (λ y z. stop y z)) (unused_alike D e o a b h s)

    later_alike : (p : Tree) (ps : Trees) (w : Want) (s : State) → in_row e p (append ps before_turned) w s ≡ in_row e p (append ps negated_part) w s
    unfolding in_row
    later_alike p none w s = either_cong (means e p (As Unused) tt s) _ _ _ _ (λ u z. first_alike w z) (λ y z. refl)
    later_alike p (q ▸ qs) w s = either_cong (means e p (As Unused) tt s) _ _ _ _ (λ u z. later_alike q qs w z) (λ y z. refl)

    parts_alike : (before : Trees) (s : State) → means e (sequence (append before before_turned)) (As Val) tt s ≡ means e (sequence (append before negated_part)) (As Val) tt s
    parts_alike none s = sequence_in_row e (logical o a b) (next ▸ after) Val s ∙ first_alike Val s ∙ sym (sequence_in_row e (negated_logical o a b) (next ▸ after) Val s)
    parts_alike (p ▸ ps) s = sequence_in_row e p (append ps before_turned) Val s ∙ later_alike p ps Val s ∙ sym (sequence_in_row e p (append ps negated_part) Val s)

  passed_step : (π : ℕ → Position) (ps : Trees) → Stands (π (count ps)) (negated_logical o a b) (turned_logical o a b) → StepIn Stands π (append ps negated_part) (append ps turned_part)
  passed_step π none k = first π (negated_logical o a b) (turned_logical o a b) (next ▸ after) (here (π zero) (negated_logical o a b) (turned_logical o a b) k)
  passed_step π (p ▸ ps) k = later π p (append ps negated_part) (append ps turned_part) (passed_step (λ i. π (suc i)) ps k)

  more_behind : (ps : Trees) → suc (count ps) < count (append ps negated_part)
  more_behind none = omega arith
  more_behind (p ▸ ps) = let rest = more_behind ps in omega (arith, rest)

  passed_seat : (s : Seat) (ps : Trees) → Expr passed_part_seat ≡ Expr (part_seat s (count (append ps negated_part)) (count ps))
  passed_seat s ps = sym (ap (λ c. Expr (if c then branch_seat s else passed_part_seat)) (unequal (suc (count ps)) (count (append ps negated_part)) (more_behind ps)))

  turned_stands : Stands (Expr passed_part_seat) (negated_logical o a b) (turned_logical o a b)
  turned_stands = let left = left_operand_seat (turned o) statement_expression_seat in left_stands (turned o) passed_part_seat (negation a) (lightest left a) b (lightest_stands left a)

  part_same : (s : Seat) (before : Trees) → SameAt (Expr s) (sequence (append before before_turned)) (sequence (append before turned_part))
  part_same s before =
      then_same (Expr s) (sequence (append before before_turned)) (sequence (append before negated_part)) (sequence (append before turned_part))
      (tree_same s (sequence (append before before_turned)) (sequence (append before negated_part)) (same_value (sequence (append before before_turned)) (sequence (append before negated_part)) refl refl refl (λ e z. parts_alike nothing e before z)))
      (any_step_same Stands stands_means (Expr s) (sequence (append before negated_part)) (sequence (append before turned_part))
      (inside (Expr s) shape.SequenceExpression [] 0 (listed (append before negated_part) ▸ none) (listed (append before turned_part) ▸ none)
      (first (child_position shape.SequenceExpression (Expr s) 1) (listed (append before negated_part)) (listed (append before turned_part)) none
      (inside (SequenceList s) shape.Listed [] 0 (append before negated_part) (append before turned_part)
      (passed_step (child_position shape.Listed (SequenceList s) (count (append before negated_part))) before (subst (λ x. Stands x (negated_logical o a b) (turned_logical o a b)) (passed_seat s before) turned_stands))))))

-- ---- the last part of a sequence: behind it nothing may be put, and then it is one that others follow

absent_unused : (e : Environment) (s : State) → means e absent (As Unused) tt s ≡ ok tt s
unfolding means step
absent_unused e s = refl

module _ (e : Environment) (x : Tree) where
  last_idle : (s : State) → in_row e x none Unused s ≡ in_row e x (absent ▸ none) Unused s
  unfolding in_row
  last_idle s = sym (either_eta (means e x (As Unused) tt s)) ∙ either_cong (means e x (As Unused) tt s) _ _ _ _ (λ u z. sym (absent_unused e z)) (λ y z. refl)

  row_idle : (p : Tree) (ps : Trees) (s : State) → in_row e p (append ps (x ▸ none)) Unused s ≡ in_row e p (append ps (x ▸ (absent ▸ none))) Unused s
  unfolding in_row
  row_idle p none s = either_cong (means e p (As Unused) tt s) _ _ _ _ (λ u z. last_idle z) (λ y z. refl)
  row_idle p (q ▸ qs) s = either_cong (means e p (As Unused) tt s) _ _ _ _ (λ u z. row_idle q qs z) (λ y z. refl)

  end_idle : (p : Tree) (ps : Trees) (s : State) → means e (sequence (p ▸ append ps (x ▸ none))) (As Unused) tt s ≡ means e (sequence (p ▸ append ps (x ▸ (absent ▸ none)))) (As Unused) tt s
  end_idle p ps s = sequence_in_row e p (append ps (x ▸ none)) Unused s ∙ row_idle p ps s ∙ sym (sequence_in_row e p (append ps (x ▸ (absent ▸ none))) Unused s)

module _ (p : Tree) (ps : Trees) (q : StmtSeat) (v : VoidPlace) where
  -- as it ends
  abbrev ends : Tree → Tree
  ends x = sequence (p ▸ append ps (x ▸ none))

  -- and with nothing behind it
  abbrev followed : Tree → Tree
  followed x = sequence (p ▸ append ps (x ▸ (absent ▸ none)))

  nothing_behind : (x : Tree) → SameAt (Stmt q) (void_of v (ends x)) (void_of v (followed x)) × SameAt (Stmt q) (void_of v (followed x)) (void_of v (ends x))
  nothing_behind x = (
    void_alike (ends x) (followed x) (λ e s. end_idle e x p ps s) (plain_read (ends x) refl) (plain_read (followed x) refl) q v,
    void_alike (followed x) (ends x) (λ e s. sym (end_idle e x p ps s)) (plain_read (followed x) refl) (plain_read (ends x) refl) q v,
  )

  end_same : (o : LogicalOperator) (a b : Tree) → is_and_or o ≡ true → SameAt (Stmt q) (void_of v (ends (logical o a b))) (void_of v (ends (turned_logical o a b)))
  end_same o a b h =
      let x = logical o a b in
      let y = turned_logical o a b in
      then_same (Stmt q) (void_of v (ends x)) (void_of v (followed x)) (void_of v (ends y)) (nothing_behind x).0
      (then_same (Stmt q) (void_of v (followed x)) (void_of v (followed y)) (void_of v (ends y))
      (void_same q v (followed x) (followed y) (part_same o a b h absent none statement_expression_seat (p ▸ ps), refl))
      (nothing_behind y).1)

void_turned : (o : LogicalOperator) (a b : Tree) → is_and_or o ≡ true → (before : Trees) (q : StmtSeat) (v : VoidPlace) → SameAt (Stmt q) (void_of v (ended before (logical o a b))) (void_of v (ended before (turned_logical o a b)))
void_turned o a b h none q v = alone_same o a b h q v
void_turned o a b h (p ▸ ps) q v = end_same p ps q v o a b h

place_read : (v : VoidPlace) (before : Trees) (o p : LogicalOperator) (a b c : Tree) → summary (void_of v (ended before (logical o a b))) ≡ summary (void_of v (ended before (logical p c b)))
place_read Alone none o p a b c = refl
place_read Alone (q ▸ qs) o p a b c = refl
place_read (Begins t u d) none o p a b c = refl
place_read (Begins t u d) (q ▸ qs) o p a b c = refl
place_read (Turns i t d) none o p a b c = refl
place_read (Turns i t d) (q ▸ qs) o p a b c = refl

row_same : (p : Position) (n w : Tree) → DeMorganRow p n w → SameAt p n w
row_same (Stmt q) n w r = subst (λ t. SameAt (Stmt q) t w) (sym r.shape) (subst (SameAt (Stmt q) (void_of r.place (ended r.before (logical r.operator r.a r.b)))) (sym r.written) (void_turned r.operator r.a r.b r.tells r.before q r.place))
row_same (Expr s) n w r = subst (λ t. SameAt (Expr s) t w) (sym r.shape) (subst (SameAt (Expr s) (sequence (append r.before (logical r.operator r.a r.b ▸ (r.next ▸ r.after))))) (sym r.written) (part_same r.operator r.a r.b r.tells r.next r.after s r.before))
row_same p n w r = absurd r

row_read : (p : Position) (n w : Tree) → DeMorganRow p n w → summary n ≡ summary w
row_read (Stmt q) n w r = ap summary r.shape ∙ place_read r.place r.before r.operator (turned r.operator) r.a r.b _ ∙ sym (ap summary r.written)
row_read (Expr s) n w r = ap summary r.shape ∙ sym (ap summary r.written)
row_read p n w r = absurd r

pub de_morgan_same : MeansSame DeMorganContracts
de_morgan_same = record { same = λ p n w c. row_same p n w c.row; reads = λ p n w c. row_read p n w c.row }
