-- What a row of booleans writes means the same.
use Rattle.std.proofs.Common.{◌≡◌, ℕ, Bool, true, false, List, [], refl, sym, ap, ◌∙◌, subst, inl, inr, true≢false}
use Rattle.std.specs.Prelude.{not, ◌||◌, nat_lt, if◌then◌else◌}
use Rattle.std.proofs.lemmas.Bool.{and_parts}
use Rattle.mini_model.specs.declared.name.Name.{Name}
use Rattle.mini_model.specs.declared.operator.BinaryOperator.{BinaryOperator}
use Rattle.mini_model.specs.declared.operator.LogicalOperator.{LogicalOperator}
use Rattle.mini_model.specs.declared.operator.LogicalOperator.TheVariants.{Or, And}
use Rattle.mini_model.specs.declared.operator.UnaryOperator.TheVariants.{LogicalNot, UnaryPlus}
use Rattle.mini_model.specs.declared.place.Position.{Position}
use Rattle.mini_model.specs.declared.place.Position.TheVariants.{Expr}
use Rattle.mini_model.specs.declared.seat.Seat.{Seat}
use Rattle.mini_model.specs.declared.shape.Shape.TheVariants as shape
use Rattle.mini_model.specs.Tree.{Tree, Trees, node, none, ◌▸◌, negation, logical, conditional}
use Rattle.mini_model.specs.Position.{is_equality, left_operand_seat, child_position}
use Rattle.mini_model.specs.Rewriting.{Step, here, inside, first}
use Rattle.mini_model.specs.Terms.{is_boolean, unwrapped, turned_equality, neg, not_of}
use Rattle.mini_model.specs.Weight.{weight}
use Rattle.mini_laws.specs.Value.{VariableSet}
use Rattle.mini_laws.specs.State.{State, either, Environment}
use Rattle.mini_laws.specs.Demand.{Val, Test, Demand, As, Target, Stat}
use Rattle.mini_laws.specs.Naming.{summary}
use Rattle.mini_laws.specs.Fits.{Fits}
use Rattle.mini_laws.specs.Same.{Same}
use Rattle.mini_laws.specs.Step.{step, means, meaning}
use Rattle.mini_laws.specs.Rows.{SameAt}
use Rattle.mini_laws.specs.Rewritten.{MeansSame}
use Rattle.mini_laws.proofs.Congruent.{transitive}
use Rattle.mini_laws.proofs.Rewritten.{any_step_same}
use Rattle.mini_laws.proofs.Rows.{by_equality, equal_same, not_equal}
use Rattle.mini_terms.specs.Kind.{kind}
use Rattle.mini_terms.specs.Folds.{is_effect_free}
use Rattle.mini_terms.specs.Reading.{stands, is_plain_part}
use Rattle.mini_terms.proofs.Reading.{same_by_value}
use Rattle.mini_rows.specs.Spellings.{negated_digit}
use Rattle.mini_rows.specs.Booleans.{digit, is_boolean_kind, chosen, giving, is_turned, tested, joined, Row24, Row25, KnownBranch, Row26, Row47, is_truth, truth_of, Row47Both, plus, plus_seat, as_boolean, Row48, BooleanRow, BooleanContracts}
use Rattle.mini_rows.proofs.BooleanRuns.{known_test, known_value, boolean_test, any_test, test_of, joined_near, right_known}
use Rattle.mini_rows.proofs.ConversionRuns.{both_near, digits_of_truth}
use Rattle.mini_rows.proofs.FoldMeaning.{plain_read, logical_read}

-- ---- seats

-- where only the truth is asked
module _ (s : Seat) (n w : Tree) (b : s.boolean ≡ true) (h : (e : Environment) (D X : VariableSet) → Same e D X (As Test) n w) where
  by_truth : (e : Environment) (D X : VariableSet) (q : Demand) → Fits (Expr s) q → Same e D X q n w
  by_truth e D X (As u) f = subst (λ v. Same e D X (As v) n w) (sym (f.0 b)) (h e D X)
  by_truth e D X (Stat t) f = absurd (true≢false (sym b ∙ f))
  by_truth e D X Target f = absurd f
  by_truth e D X q f = absurd (true≢false (sym b ∙ f.0))

  pub asked_truth : SameAt (Expr s) n w
  asked_truth = record { by = by_truth }

pub then_same : (p : Position) (n m w : Tree) → SameAt p n m → SameAt p m w → SameAt p n w
then_same p n m w a b = record { by = λ e D X q f. transitive e D X q n m w (a.by e D X q f) (b.by e D X q f) }

-- ---- the lighter negation for a `!`, as the left side of a logical expression

equality_read : (b : Bool) (o : BinaryOperator) (xs : List Name) (n : ℕ) (ts : Trees) → summary (negation (node (shape.BinaryExpression o) xs n ts)) ≡ summary (turned_equality b o xs n ts)
equality_read true o xs n ts = refl
equality_read false o xs n ts = refl

unwrapped_read : (b : Bool) (a : Tree) (xs : List Name) (n : ℕ) → summary a ≡ summary (unwrapped b a (node (shape.UnaryExpression LogicalNot) xs n (a ▸ none)))
unwrapped_read true a xs n = refl
unwrapped_read false a xs n = refl

pub neg_read : (s : Seat) (a : Tree) → summary (negation a) ≡ summary (neg s a)
neg_read s (node (shape.LogicalExpression And) xs n ts) = refl
neg_read s (node (shape.LogicalExpression Or) xs n ts) = refl
neg_read s (node (shape.UnaryExpression LogicalNot) xs n (a ▸ none)) = unwrapped_read (s.boolean || is_boolean a) a xs n
neg_read s (node (shape.BinaryExpression o) xs n ts) = equality_read (is_equality o) o xs n ts
neg_read s (node h xs n ts) = refl

pub not_read : (s : Seat) (a : Tree) → summary (negation a) ≡ summary (not_of s a)
not_read s a = go (nat_lt (weight (Expr s) (negation a)) (weight (Expr s) (neg s a)))
  where
    go : (b : Bool) → summary (negation a) ≡ summary (if b then negation a else neg s a)
    go true = refl
    go false = neg_read s a

-- one is written for the other
abbrev pub Negated : Position → Tree → Tree → Type 0
Negated (Expr s) n w = (x : Tree) × ((n ≡ negation x) × (w ≡ not_of s x))
Negated p n w = ⊥

negated_at : (p : Position) (n w : Tree) → Negated p n w → SameAt p n w
negated_at (Expr s) n w (x, (e, f)) = subst (λ t. SameAt (Expr s) t w) (sym e) (subst (SameAt (Expr s) (negation x)) (sym f) (equal_same (Expr s) (negation x) (not_of s x) (not_equal s x)))
negated_at p n w r = absurd r

negated_read : (p : Position) (n w : Tree) → Negated p n w → summary n ≡ summary w
negated_read (Expr s) n w (x, (e, f)) = ap summary e ∙ not_read s x ∙ sym (ap summary f)
negated_read p n w r = absurd r

pub left_step : (o : LogicalOperator) (s : Seat) (a b : Tree) → Step Negated (Expr s) (logical o (negation a) b) (logical o (not_of (left_operand_seat o s) a) b)
left_step o s a b =
    inside (Expr s) (shape.LogicalExpression o) [] 0 (negation a ▸ b ▸ none) (not_of (left_operand_seat o s) a ▸ b ▸ none)
    (first (child_position (shape.LogicalExpression o) (Expr s) 2) (negation a) (not_of (left_operand_seat o s) a) (b ▸ none) (here (Expr (left_operand_seat o s)) (negation a) (not_of (left_operand_seat o s) a) (a, (refl, refl))))

pub negated_means : MeansSame Negated
negated_means = record { same = negated_at; reads = negated_read }

left_same : (o : LogicalOperator) (s : Seat) (a b : Tree) → SameAt (Expr s) (logical o (negation a) b) (logical o (not_of (left_operand_seat o s) a) b)
left_same o s a b = any_step_same Negated negated_means (Expr s) (logical o (negation a) b) (logical o (not_of (left_operand_seat o s) a) b) (left_step o s a b)

itself : (p : Position) (n : Tree) → SameAt p n n
itself p n = record { by = λ e D X q f. by_equality e D X q n n (λ r s. refl) }

tested_same : (o : LogicalOperator) (t : Bool) (s : Seat) (a b : Tree) → SameAt (Expr s) (logical o (test_of t a) b) (logical o (tested (left_operand_seat o s) t a) b)
tested_same o true s a b = left_same o s a b
tested_same o false s a b = itself (Expr s) (logical o a b)

-- ---- rows

digit_does : (c : Bool) (e : Environment) (z : State) → means e (negated_digit c) (As Test) tt z ≡ means e (digit c) (As Test) tt z
unfolding means meaning step either
digit_does true e z = refl
digit_does false e z = refl

digit_same : (s : Seat) (n w : Tree) → Row24 s n w → SameAt (Expr s) n w
digit_same s n w r =
    subst (λ t. SameAt (Expr s) t w) (sym r.shape) (subst (SameAt (Expr s) (negated_digit r.truth)) (sym r.written)
    (asked_truth s (negated_digit r.truth) (digit r.truth) r.asked (λ e D X. by_equality e D X (As Test) (negated_digit r.truth) (digit r.truth) (λ u z. digit_does r.truth e z))))

right_same : (s : Seat) (n w : Tree) → Row25 s n w → SameAt (Expr s) n w
right_same s n w r =
    subst (λ t. SameAt (Expr s) t w) (sym r.shape) (subst (SameAt (Expr s) (logical r.operator r.left r.right)) (sym r.written)
    (asked_truth s (logical r.operator r.left r.right) r.left r.asked (λ e D X. record { by = λ u z i. right_known D e r.operator r.left r.right r.tells r.known r.effect_free z })))

module _ (s : Seat) (i c : Bool) (a k b : Tree) where
  abbrev made : Tree
  made = logical (giving c) (test_of (is_turned i c) a) b

  onto : (n w : Tree) → n ≡ chosen i a k b → w ≡ joined s i c a b → SameAt (Expr s) (chosen i a k b) made → SameAt (Expr s) n w
  onto n w e f h = subst (λ t. SameAt (Expr s) t w) (sym e) (subst (SameAt (Expr s) (chosen i a k b)) (sym f) (then_same (Expr s) (chosen i a k b) made (joined s i c a b) h (tested_same (giving c) (is_turned i c) s a b)))

branch_same : (s : Seat) (n w : Tree) → Row26 s n w → SameAt (Expr s) n w
branch_same s n w r =
    let f = r.form in
    onto s f.is_consequent f.truth f.test f.branch f.other n w f.shape f.written
    (asked_truth s (chosen f.is_consequent f.test f.branch f.other) (made s f.is_consequent f.truth f.test f.branch f.other) r.asked
    (λ e D X. record { by = λ u z j. joined_near D e Test f.is_consequent f.truth f.test f.branch f.other (known_test D e f.branch f.truth f.known f.effect_free) z (λ h. any_test D e f.test z) }))

chosen_stands : (i : Bool) (a k b : Tree) (e : Environment) (D X : VariableSet) (w : Tree) → Same e D X (As Val) (chosen i a k b) w → (o : LogicalOperator) (x y : Tree) → w ≡ logical o x y → (q : Demand) → Same e D X q (chosen i a k b) (logical o x y)
chosen_stands true a k b e D X w h o x y f q = same_by_value e D X (conditional a k b) (logical o x y) refl refl (subst (Same e D X (As Val) (conditional a k b)) f h) q
chosen_stands false a k b e D X w h o x y f q = same_by_value e D X (conditional a b k) (logical o x y) refl refl (subst (Same e D X (As Val) (conditional a b k)) f h) q

or_right : (b c : Bool) → b || c ≡ true → b ≡ false → c ≡ true
or_right false c h e = h
or_right true c h e = absurd (true≢false e)

boolean_same : (s : Seat) (n w : Tree) → Row47 s n w → SameAt (Expr s) n w
boolean_same s n w r =
    let f = r.form in
    let i = f.is_consequent in
    let c = f.truth in
    onto s i c f.test f.branch f.other n w f.shape f.written
    (record {
      by = λ e D X q p. chosen_stands i f.test f.branch f.other e D X (made s i c f.test f.branch f.other)
          (record { by = λ u z j. joined_near D e Val i c f.test f.branch f.other (known_value D e f.branch c f.known f.effect_free r.boolean) z (λ h. boolean_test D e f.test (or_right (is_turned i c) (is_boolean_kind (kind f.test)) r.told h) z) })
          (giving c) (test_of (is_turned i c) f.test) f.other refl q;
    })

-- ---- where both branches are known

both_known_same : (p : Position) (n w : Tree) → Row47Both n w → SameAt p n w
both_known_same p n w r =
    let (free_consequent, free_alternate) = and_parts (is_effect_free r.consequent) (is_effect_free r.alternate) r.effect_free in
    let (boolean_consequent, boolean_alternate) = and_parts (is_boolean_kind (kind r.consequent)) (is_boolean_kind (kind r.alternate)) r.boolean in
    subst (λ t. SameAt p t w) (sym r.shape) (subst (SameAt p (conditional r.test r.consequent r.alternate)) (sym r.written)
    (record {
      by = λ e D X q f. same_by_value e D X (conditional r.test r.consequent r.alternate) (truth_of r.truth r.test) refl (truth_stands r.truth r.test)
          (record { by = λ u z j. both_near D e r.truth r.test r.consequent r.alternate (known_value D e r.consequent r.truth r.known free_consequent boolean_consequent) (known_value D e r.alternate (not r.truth) r.otherwise free_alternate boolean_alternate) z }) q;
    }))
  where
    truth_stands : (c : Bool) (a : Tree) → stands (truth_of c a) ≡ true
    truth_stands true a = go (is_truth a) refl
      where
        go : (b : Bool) → is_truth a ≡ b → stands (if b then a else negation (negation a)) ≡ true
        go true h = (and_parts (is_boolean_kind (kind a)) (stands a) h).1
        go false h = refl
    truth_stands false a = refl

-- the lighter negation for a `!`, as the operand of a `+`
plus_step : (s : Seat) (a : Tree) → Step Negated (Expr s) (plus (negation a)) (plus (not_of plus_seat a))
plus_step s a =
    inside (Expr s) (shape.UnaryExpression UnaryPlus) [] 0 (negation a ▸ none) (not_of plus_seat a ▸ none)
    (first (child_position (shape.UnaryExpression UnaryPlus) (Expr s) 1) (negation a) (not_of plus_seat a) none (here (Expr plus_seat) (negation a) (not_of plus_seat a) (a, (refl, refl))))

-- what has the same value as the conditional of digits
digits_same : (p : Position) (c : Bool) (a x : Tree) → ((e : Environment) (z : State) → means e (conditional a (digit c) (digit (not c))) (As Val) tt z ≡ means e (plus x) (As Val) tt z) → SameAt p (conditional a (digit c) (digit (not c))) (plus x)
digits_same p c a x h = record { by = λ e D X q f. same_by_value e D X (conditional a (digit c) (digit (not c))) (plus x) refl refl (by_equality e D X (As Val) (conditional a (digit c) (digit (not c))) (plus x) (λ r z. h e z)) q }

converted_same : (s : Seat) (c : Bool) (a : Tree) → SameAt (Expr s) (conditional a (digit c) (digit (not c))) (plus (as_boolean c a))
converted_same s true a = digits_same (Expr s) true a (truth_of true a) (λ e z. digits_of_truth e true a z)
converted_same s false a =
    then_same (Expr s) (conditional a (digit false) (digit true)) (plus (negation a)) (plus (not_of plus_seat a))
    (digits_same (Expr s) false a (negation a) (λ e z. digits_of_truth e false a z))
    (any_step_same Negated negated_means (Expr s) (plus (negation a)) (plus (not_of plus_seat a)) (plus_step s a))

number_same : (s : Seat) (n w : Tree) → Row48 n w → SameAt (Expr s) n w
number_same s n w r = subst (λ t. SameAt (Expr s) t w) (sym r.shape) (subst (SameAt (Expr s) (conditional r.test (digit r.truth) (digit (not r.truth)))) (sym r.written) (converted_same s r.truth r.test))

-- ---- all

row_same : (p : Position) (n w : Tree) → BooleanRow p n w → SameAt p n w
row_same (Expr s) n w (inl (inl r)) = digit_same s n w r
row_same (Expr s) n w (inl (inr r)) = right_same s n w r
row_same (Expr s) n w (inr (inl (inl r))) = branch_same s n w r
row_same (Expr s) n w (inr (inl (inr r))) = boolean_same s n w r
row_same (Expr s) n w (inr (inr (inl r))) = both_known_same (Expr s) n w r
row_same (Expr s) n w (inr (inr (inr r))) = number_same s n w r
row_same p n w r = absurd r

digit_read : (c : Bool) → summary (negated_digit c) ≡ summary (digit c)
digit_read true = refl
digit_read false = refl

joined_read : (s : Seat) (i c : Bool) (a k b : Tree) → summary (chosen i a k b) ≡ summary (joined s i c a b)
joined_read s true c a k b = refl
joined_read s false c a k b = refl

form_read : (s : Seat) (n w : Tree) → KnownBranch s n w → summary n ≡ summary w
form_read s n w f = ap summary f.shape ∙ joined_read s f.is_consequent f.truth f.test f.branch f.other ∙ sym (ap summary f.written)

truth_read : (c : Bool) (a : Tree) → is_plain_part a ≡ true → summary (conditional a a a) ≡ summary (truth_of c a)
truth_read true a h = go (is_truth a)
  where
    go : (b : Bool) → summary (conditional a a a) ≡ summary (if b then a else negation (negation a))
    go true = sym (plain_read a h)
    go false = sym (plain_read a h)
truth_read false a h = sym (plain_read a h)

row_read : (p : Position) (n w : Tree) → BooleanRow p n w → summary n ≡ summary w
row_read (Expr s) n w (inl (inl r)) = ap summary r.shape ∙ digit_read r.truth ∙ sym (ap summary r.written)
row_read (Expr s) n w (inl (inr r)) = ap summary r.shape ∙ logical_read r.operator r.left r.right r.left r.plain ∙ sym (ap summary r.written)
row_read (Expr s) n w (inr (inl (inl r))) = form_read s n w r.form
row_read (Expr s) n w (inr (inl (inr r))) = form_read s n w r.form
row_read (Expr s) n w (inr (inr (inl r))) = ap summary r.shape ∙ truth_read r.truth r.test r.plain ∙ sym (ap summary r.written)
row_read (Expr s) n w (inr (inr (inr r))) = ap summary r.shape ∙ sym (ap summary r.written)
row_read p n w r = absurd r

pub booleans_same : MeansSame BooleanContracts
booleans_same = record { same = λ p n w c. row_same p n w c.row; reads = λ p n w c. row_read p n w c.row }
