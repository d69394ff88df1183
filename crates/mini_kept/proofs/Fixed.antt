-- A step at any place of a tree keeps what a write of each variable does.
use Rattle.std.specs.Prelude.{ℕ, zero, suc, ◌≡◌, refl, ◌||◌, Bool, true, false, List, [], ◌∷◌, nat_lt, if◌then◌else◌}
use Rattle.std.proofs.Common.{ap, ◌∙◌, sym, inl, inr}
use Rattle.mini_model.specs.declared.name.Name.{Name}
use Rattle.mini_model.specs.declared.operator.BinaryOperator.{BinaryOperator}
use Rattle.mini_model.specs.declared.operator.LogicalOperator.TheVariants.{Or, And}
use Rattle.mini_model.specs.declared.operator.UnaryOperator.TheVariants.{LogicalNot}
use Rattle.mini_model.specs.declared.place.Position.{Position}
use Rattle.mini_model.specs.declared.place.Position.TheVariants.{Expr, Stmt}
use Rattle.mini_model.specs.declared.seat.Seat.{Seat}
use Rattle.mini_model.specs.declared.shape.Shape.{Shape}
use Rattle.mini_model.specs.declared.shape.Shape.TheVariants as shape
use Rattle.mini_model.specs.Tree.{Tree, Trees, node, none, ◌▸◌, absent, negation, logical, conditional, if_else, if_alone, expression_statement}
use Rattle.mini_model.specs.Position.{is_equality, statement_expression_seat, left_operand_seat}
use Rattle.mini_model.specs.Weight.{weight}
use Rattle.mini_model.specs.Terms.{is_boolean, turned_seat, unwrapped, opposite, turned_equality, neg, neg_each, not_of}
use Rattle.mini_model.specs.Redex.{Row, Contracts}
use Rattle.mini_model.specs.Rewriting.{Step, here, inside, StepIn, first, later, Reaches, done, more}
use Rattle.mini_laws.specs.Value.{Variable, VariableSet, variables, choose, is_in, nothing}
use Rattle.mini_laws.specs.State.{Fixed, Writable, Constant, KeepsOld}
use Rattle.mini_laws.specs.Naming.{summary, summary_of, summaries}
use Rattle.mini_laws.specs.Fixity.{fixity_by, declared_by, stricter, fixed_by, fixed_by_any, written_in}
use Rattle.mini_laws.proofs.Rewritten.{rows_mean_same}
use Rattle.mini_kept.specs.Fixities.{KeepsFixitiesBut, ReachesKeepsFixities, RowsKeepFixities, ProgramKeepsFixities}

-- ---- steps

module _ (D : VariableSet) (R : Position → Tree → Tree → Type 0) (k : KeepsFixitiesBut D R) where
  mutual
    step_summary : {p : Position} {t u : Tree} → Step R p t u → summary t ≡ summary u
    step_summary (here p n w c) = k.reads p n w c
    step_summary (inside p h xs n ts us s) = ap (summary_of h (variables xs) n) (steps_summaries s)

    pub steps_summaries : {π : ℕ → Position} {ts us : Trees} → StepIn R π ts us → summaries ts ≡ summaries us
    steps_summaries (first π t u ts s) = ap (λ i. i ∷ summaries ts) (step_summary s)
    steps_summaries (later π t ts us s) = ap (λ is. summary t ∷ is) (steps_summaries s)

  mutual
    pub step_fixed : {p : Position} {t u : Tree} → Step R p t u → (x : Variable) → D x ≡ false → fixed_by t x ≡ fixed_by u x
    step_fixed (here p n w c) x d = k.fixed p n w c x d
    step_fixed (inside p h xs n ts us s) x d = λ i. stricter (choose (is_in x (declared_by h (steps_summaries s i))) (fixity_by h) Writable) (steps_fixed s x d i)

    steps_fixed : {π : ℕ → Position} {ts us : Trees} → StepIn R π ts us → (x : Variable) → D x ≡ false → fixed_by_any ts x ≡ fixed_by_any us x
    steps_fixed (first π t u ts s) x d = ap (λ f. stricter f (fixed_by_any ts x)) (step_fixed s x d)
    steps_fixed (later π t ts us s) x d = ap (stricter (fixed_by t x)) (steps_fixed s x d)

  reaches_fixed : {p : Position} {t u : Tree} → Reaches R p t u → (x : Variable) → D x ≡ false → fixed_by t x ≡ fixed_by u x
  reaches_fixed (done p t) x d = refl
  reaches_fixed (more p t u v s r) x d = step_fixed s x d ∙ reaches_fixed r x d

pub fixities_kept : (R : Position → Tree → Tree → Type 0) → ReachesKeepsFixities R
fixities_kept R k p t u r strict x = ap (written_in strict x) (reaches_fixed nothing R (record { reads = k.reads; fixed = λ p n w c x d. k.fixed p n w c x }) r x refl)

-- ---- nodes that declare nothing that can't be written

both_writable : (b : Bool) → choose b Writable Writable ≡ Writable
both_writable true = refl
both_writable false = refl

pub of_children : (h : Shape) (xs : List Name) (n : ℕ) (ts : Trees) (x : Variable) → fixity_by h ≡ Writable → fixed_by (node h xs n ts) x ≡ fixed_by_any ts x
of_children h xs n ts x e =
    let b = is_in x (declared_by h (summaries ts)) in
    ap (λ f. stricter (choose b f Writable) (fixed_by_any ts x)) e ∙ ap (λ f. stricter f (fixed_by_any ts x)) (both_writable b)

alone : (f : Fixed) → stricter f Writable ≡ f
alone Writable = refl
alone KeepsOld = refl
alone Constant = refl

pub of_one : (h : Shape) (xs : List Name) (n : ℕ) (a : Tree) (x : Variable) → fixity_by h ≡ Writable → fixed_by (node h xs n (a ▸ none)) x ≡ fixed_by a x
of_one h xs n a x e = of_children h xs n (a ▸ none) x e ∙ alone (fixed_by a x)

pub swapped : (f g : Fixed) → stricter f (stricter g Writable) ≡ stricter g (stricter f Writable)
swapped Writable Writable = refl
swapped Writable KeepsOld = refl
swapped Writable Constant = refl
swapped KeepsOld Writable = refl
swapped KeepsOld KeepsOld = refl
swapped KeepsOld Constant = refl
swapped Constant Writable = refl
swapped Constant KeepsOld = refl
swapped Constant Constant = refl

-- ---- negations

pub of_negation : (a : Tree) (x : Variable) → fixed_by (negation a) x ≡ fixed_by a x
of_negation a x = of_one (shape.UnaryExpression LogicalNot) [] 0 a x refl

of_unwrapped : (b : Bool) (a n : Tree) (x : Variable) → fixed_by a x ≡ fixed_by n x → fixed_by (unwrapped b a n) x ≡ fixed_by n x
of_unwrapped true a n x e = e
of_unwrapped false a n x e = of_negation n x

of_turned : (b : Bool) (o : BinaryOperator) (xs : List Name) (n : ℕ) (ts : Trees) (x : Variable) → fixed_by (turned_equality b o xs n ts) x ≡ fixed_by (node (shape.BinaryExpression o) xs n ts) x
of_turned true o xs n ts x = of_children (shape.BinaryExpression (opposite o)) xs n ts x refl ∙ sym (of_children (shape.BinaryExpression o) xs n ts x refl)
of_turned false o xs n ts x = of_negation (node (shape.BinaryExpression o) xs n ts) x

mutual
  of_neg : (s : Seat) (t : Tree) (x : Variable) → fixed_by (neg s t) x ≡ fixed_by t x
  of_neg s (node (shape.LogicalExpression And) xs n ts) x =
      of_children (shape.LogicalExpression Or) xs n (neg_each (turned_seat (shape.LogicalExpression And) s) ts) x refl ∙ of_neg_each (turned_seat (shape.LogicalExpression And) s) ts x ∙ sym (of_children (shape.LogicalExpression And) xs n ts x refl)
  of_neg s (node (shape.LogicalExpression Or) xs n ts) x =
      of_children (shape.LogicalExpression And) xs n (neg_each (turned_seat (shape.LogicalExpression Or) s) ts) x refl ∙ of_neg_each (turned_seat (shape.LogicalExpression Or) s) ts x ∙ sym (of_children (shape.LogicalExpression Or) xs n ts x refl)
  of_neg s (node (shape.UnaryExpression LogicalNot) xs n (a ▸ none)) x =
      of_unwrapped (s.boolean || is_boolean a) a (node (shape.UnaryExpression LogicalNot) xs n (a ▸ none)) x (sym (of_one (shape.UnaryExpression LogicalNot) xs n a x refl))
  of_neg s (node (shape.BinaryExpression o) xs n ts) x = of_turned (is_equality o) o xs n ts x
  of_neg s (node h xs n ts) x = of_negation (node h xs n ts) x

  of_neg_each : (σ : ℕ → Seat) (ts : Trees) (x : Variable) → fixed_by_any (neg_each σ ts) x ≡ fixed_by_any ts x
  of_neg_each σ none x = refl
  of_neg_each σ (t ▸ ts) x = λ i. stricter (of_neg (σ zero) t x i) (of_neg_each (λ j. σ (suc j)) ts x i)

pub of_not : (s : Seat) (a : Tree) (x : Variable) → fixed_by (not_of s a) x ≡ fixed_by a x
of_not s a x = go (nat_lt (weight (Expr s) (negation a)) (weight (Expr s) (neg s a)))
  where
    go : (b : Bool) → fixed_by (if b then negation a else neg s a) x ≡ fixed_by a x
    go true = of_negation a x
    go false = of_neg s a x

-- ---- rows

pub of_statement : (a : Tree) (x : Variable) → fixed_by (expression_statement a) x ≡ fixed_by a x
of_statement a x = of_one shape.ExpressionStatement [] 0 a x refl

of_conditional : (a b c : Tree) (x : Variable) → fixed_by (conditional a b c) x ≡ stricter (fixed_by a x) (stricter (fixed_by b x) (stricter (fixed_by c x) Writable))
of_conditional a b c x = of_children shape.ConditionalExpression [] 0 (a ▸ (b ▸ (c ▸ none))) x refl

pub of_if : (a b c : Tree) (x : Variable) → fixed_by (if_else a b c) x ≡ stricter (fixed_by a x) (stricter (fixed_by b x) (stricter (fixed_by c x) Writable))
of_if a b c x = of_children shape.IfStatement [] 0 (a ▸ (b ▸ (c ▸ none))) x refl

pub of_absent : (x : Variable) → fixed_by absent x ≡ Writable
of_absent x = of_children shape.Absent [] 0 none x refl

turned : (a b c : Tree) (x : Variable) → fixed_by (conditional (negation a) b c) x ≡ fixed_by (conditional a c b) x
turned a b c x =
    of_conditional (negation a) b c x
    ∙ (λ i. stricter (of_negation a x i) (swapped (fixed_by b x) (fixed_by c x) i))
    ∙ sym (of_conditional a c b x)

chosen : (a b c : Tree) (x : Variable) → fixed_by (if_else a (expression_statement b) (expression_statement c)) x ≡ fixed_by (expression_statement (conditional a b c)) x
chosen a b c x =
    of_if a (expression_statement b) (expression_statement c) x
    ∙ (λ i. stricter (fixed_by a x) (stricter (of_statement b x i) (stricter (of_statement c x i) Writable)))
    ∙ sym (of_conditional a b c x)
    ∙ sym (of_statement (conditional a b c) x)

joined : (a b w : Tree) (x : Variable) → fixed_by w x ≡ stricter (fixed_by a x) (stricter (fixed_by b x) Writable) → fixed_by (if_alone a (expression_statement b)) x ≡ fixed_by (expression_statement w) x
joined a b w x e =
    of_if a (expression_statement b) absent x
    ∙ (λ i. stricter (fixed_by a x) (stricter (of_statement b x i) (stricter (of_absent x i) Writable)))
    ∙ sym e
    ∙ sym (of_statement w x)

row_fixed : (p : Position) (n w : Tree) → Row p n w → (x : Variable) → fixed_by n x ≡ fixed_by w x
row_fixed (Expr s) n w (inl r) x = ap (λ t. fixed_by t x) r.shape ∙ of_negation r.e x ∙ sym (of_neg s r.e x) ∙ sym (ap (λ t. fixed_by t x) r.written)
row_fixed (Expr s) n w (inr r) x = ap (λ t. fixed_by t x) r.shape ∙ turned r.a r.b r.c x ∙ sym (ap (λ t. fixed_by t x) r.written)
row_fixed (Stmt q) n w (inl r) x = ap (λ t. fixed_by t x) r.shape ∙ chosen r.a r.b r.c x ∙ sym (ap (λ t. fixed_by t x) r.written)
row_fixed (Stmt q) n w (inr (inl r)) x =
    ap (λ t. fixed_by t x) r.shape
    ∙ joined r.a r.b (logical And r.a r.b) x (of_children (shape.LogicalExpression And) [] 0 (r.a ▸ (r.b ▸ none)) x refl)
    ∙ sym (ap (λ t. fixed_by t x) r.written)
row_fixed (Stmt q) n w (inr (inr r)) x =
    let a = not_of (left_operand_seat Or statement_expression_seat) r.a in
    ap (λ t. fixed_by t x) r.shape
    ∙ joined r.a r.b (logical Or a r.b) x (of_children (shape.LogicalExpression Or) [] 0 (a ▸ (r.b ▸ none)) x refl ∙ ap (λ f. stricter f (stricter (fixed_by r.b x) Writable)) (of_not (left_operand_seat Or statement_expression_seat) r.a x))
    ∙ sym (ap (λ t. fixed_by t x) r.written)
row_fixed p n w r x = absurd r

pub rows_keep_fixities : RowsKeepFixities
rows_keep_fixities = record { reads = rows_mean_same.reads; fixed = λ p n w c x. row_fixed p n w c.row x }

pub program_keeps_fixities : ProgramKeepsFixities
program_keeps_fixities t u r strict x = fixities_kept Contracts rows_keep_fixities _ t u r strict x
