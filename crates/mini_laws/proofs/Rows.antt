-- Each row writes what means the same.
use Rattle.std.proofs.Common.{◌≡◌, Bool, true, false, Option, refl, sym, ap, ◌∙◌, subst, inl, inr, true≢false}
use Rattle.std.specs.Prelude.{nat_lt, if◌then◌else◌}
use Rattle.mini_model.specs.declared.operator.LogicalOperator.TheVariants.{Or, And}
use Rattle.mini_model.specs.declared.seat.Seat.{Seat}
use Rattle.mini_model.specs.declared.seat.StmtSeat.{StmtSeat}
use Rattle.mini_model.specs.Tree.{Tree, negation, logical, conditional, if_else, if_alone, expression_statement}
use Rattle.mini_model.specs.declared.place.Position.{Position}
use Rattle.mini_model.specs.declared.place.Position.TheVariants.{Expr, Stmt}
use Rattle.mini_model.specs.Position.{left_operand_seat, statement_expression_seat}
use Rattle.mini_model.specs.Weight.{weight}
use Rattle.mini_model.specs.Terms.{neg, not_of}
use Rattle.mini_model.specs.Redex.{Row23, Row40, Row82Else, Row82And, Row82Or, Row}
use Rattle.mini_laws.specs.Value.{VariableSet}
use Rattle.mini_laws.specs.State.{State, Completion, ok, stop, halt, out, Environment}
use Rattle.mini_laws.specs.Demand.{Test, Tail, Demand, As, Callee, OfType, AnEntry, Stat, LabelSet, Request, Deleted}
use Rattle.mini_laws.specs.Step.{step, means, meaning}
use Rattle.mini_laws.specs.Fits.{Fits}
use Rattle.mini_laws.specs.Same.{Goes, Agree, Same}
use Rattle.mini_laws.specs.Rows.{SameAt}
use Rattle.mini_laws.proofs.Runs.{either_cong, runs, tails, each_bool}
use Rattle.mini_laws.proofs.Negation.{negation_same}

-- equal in every demand that fits
pub record Equal (p : Position) (n w : Tree) : Type 0 where
  pub by : (e : Environment) (q : Demand) → Fits p q → (r : Request q) (s : State) → means e n q r s ≡ means e w q r s

agree_refl : (D : VariableSet) (s : State) → Agree D s s
agree_refl D s = record { vars = λ x h. refl; self = refl; answers = refl; turns = refl; events = refl }

pub goes_refl : {A : Type 0} (D : VariableSet) (x : Completion A) → Goes true (λ a. Agree D) (Agree D) (Agree D) x x
unfolding Goes
goes_refl D (ok a s) = (refl, agree_refl D s)
goes_refl D (stop a s) = (refl, agree_refl D s)
goes_refl D (halt a s) = (refl, agree_refl D s)
goes_refl D out = tt

pub by_equality : (e : Environment) (D X : VariableSet) (q : Demand) (n w : Tree) → ((r : Request q) (s : State) → means e n q r s ≡ means e w q r s) → Same e D X q n w
by_equality e D X q n w h = record { by = λ r s i. subst (Goes true (λ a. Agree D) (Agree D) (Agree D) (means e n q r s)) (h r s) (goes_refl D (means e n q r s)) }

pub equal_same : (p : Position) (n w : Tree) → Equal p n w → SameAt p n w
equal_same p n w h = record { by = λ e D X q f. by_equality e D X q n w (h.by e q f) }

pub negation_equal : (s : Seat) (a : Tree) → Equal (Expr s) (negation a) (neg s a)
negation_equal s a = record { by = negation_same a s }

pub not_equal : (s : Seat) (a : Tree) → Equal (Expr s) (negation a) (not_of s a)
not_equal s a = go (nat_lt (weight (Expr s) (negation a)) (weight (Expr s) (neg s a)))
  where
    go : (b : Bool) → Equal (Expr s) (negation a) (if b then negation a else neg s a)
    go true = record { by = λ e q f r z. refl }
    go false = negation_equal s a

pub row_40 : (s : Seat) (a b c : Tree) → Equal (Expr s) (conditional (negation a) b c) (conditional a c b)
unfolding means meaning step
row_40 s a b c = record { by = λ e q f. go e q f }
  where
    go : (e : Environment) (q : Demand) → Fits (Expr s) q → (r : Request q) (z : State) → means e (conditional (negation a) b c) q r z ≡ means e (conditional a c b) q r z
    go e (As w) f r z = simp runs (either_cong _ _ _ _ _ (each_bool _ (λ y. simp runs) (λ y. simp runs)) (λ x y. refl))
    go e Callee f r z = simp runs (either_cong _ _ _ _ _ (each_bool _ (λ y. refl) (λ y. refl)) (λ x y. refl))
    go e OfType f r z = simp runs (either_cong _ _ _ _ _ (each_bool _ (λ y. refl) (λ y. refl)) (λ x y. refl))
    go e Deleted f r z = simp runs (either_cong _ _ _ _ _ (each_bool _ (λ y. refl) (λ y. refl)) (λ x y. refl))
    go e AnEntry f r z = simp runs (either_cong _ _ _ _ _ (each_bool _ (λ y. refl) (λ y. refl)) (λ x y. refl))
    go e q f r z = refl

module _ (e : Environment) (t : Option Tail) where
  else_same : (a b c : Tree) (ls : LabelSet) (z : State) → means e (if_else a (expression_statement b) (expression_statement c)) (Stat t) ls z ≡ means e (expression_statement (conditional a b c)) (Stat t) ls z
  unfolding means meaning step
  else_same a b c ls z = simp tails (either_cong _ _ _ _ _ (each_bool _ (λ y. simp tails) (λ y. simp tails)) (λ x y. refl))

  and_same : (a b : Tree) (ls : LabelSet) (z : State) → means e (if_alone a (expression_statement b)) (Stat t) ls z ≡ means e (expression_statement (logical And a b)) (Stat t) ls z
  unfolding means meaning step
  and_same a b ls z = simp tails (either_cong _ _ _ _ _ (each_bool _ (λ y. simp tails) (λ y. simp tails)) (λ x y. refl))

row_82_else : (q : StmtSeat) (a b c : Tree) → Equal (Stmt q) (if_else a (expression_statement b) (expression_statement c)) (expression_statement (conditional a b c))
row_82_else q a b c = record { by = λ e d f. go e d f }
  where
    go : (e : Environment) (d : Demand) → Fits (Stmt q) d → (r : Request d) (z : State) → means e (if_else a (expression_statement b) (expression_statement c)) d r z ≡ means e (expression_statement (conditional a b c)) d r z
    go e (Stat t) f r z = else_same e t a b c r z
    go e d f r z = elim f [ ]

row_82_and : (q : StmtSeat) (a b : Tree) → Equal (Stmt q) (if_alone a (expression_statement b)) (expression_statement (logical And a b))
row_82_and q a b = record { by = λ e d f. go e d f }
  where
    go : (e : Environment) (d : Demand) → Fits (Stmt q) d → (r : Request d) (z : State) → means e (if_alone a (expression_statement b)) d r z ≡ means e (expression_statement (logical And a b)) d r z
    go e (Stat t) f r z = and_same e t a b r z
    go e d f r z = elim f [ ]

-- the test of an `if` without `else`, turned
module _ (e : Environment) (t : Option Tail) where
  or_same : (a b : Tree) (ls : LabelSet) (z : State) → means e (if_alone a (expression_statement b)) (Stat t) ls z ≡ means e (expression_statement (logical Or (negation a) b)) (Stat t) ls z
  unfolding means meaning step
  or_same a b ls z = simp tails (either_cong _ _ _ _ _ (each_bool _ (λ y. simp tails) (λ y. simp tails)) (λ x y. refl))

  or_left : (a n b : Tree) (ls : LabelSet) (z : State) → ((s : State) → means e a (As Test) tt s ≡ means e n (As Test) tt s) → means e (expression_statement (logical Or a b)) (Stat t) ls z ≡ means e (expression_statement (logical Or n b)) (Stat t) ls z
  unfolding means meaning step
  or_left a n b ls z h = simp (tails, h) (either_cong _ _ _ _ _ (each_bool _ (λ y. refl) (λ y. refl)) (λ x y. refl))

row_82_or : (q : StmtSeat) (a b : Tree) → Equal (Stmt q) (if_alone a (expression_statement b)) (expression_statement (logical Or (not_of (left_operand_seat Or statement_expression_seat) a) b))
row_82_or q a b = record { by = λ e d f. go e d f }
  where
    go : (e : Environment) (d : Demand) → Fits (Stmt q) d → (r : Request d) (z : State) → means e (if_alone a (expression_statement b)) d r z ≡ means e (expression_statement (logical Or (not_of (left_operand_seat Or statement_expression_seat) a) b)) d r z
    go e (Stat t) f r z =
        or_same e t a b r z
        ∙ or_left e t (negation a) (not_of (left_operand_seat Or statement_expression_seat) a) b r z (λ s. (not_equal (left_operand_seat Or statement_expression_seat) a).by e (As Test) ((λ h. refl), (λ h. absurd (true≢false (sym h)))) tt s)
    go e d f r z = elim f [ ]

along : (p : Position) (n n' w w' : Tree) → n ≡ n' → w ≡ w' → Equal p n' w' → Equal p n w
along p n n' w w' u v h = record { by = λ e q f r z. ap (λ t. means e t q r z) u ∙ h.by e q f r z ∙ sym (ap (λ t. means e t q r z) v) }

pub row_23_equal : (s : Seat) (n w : Tree) → Row23 s n w → Equal (Expr s) n w
row_23_equal s n w r = along (Expr s) n (negation r.e) w (neg s r.e) r.shape r.written (negation_equal s r.e)

pub row_40_equal : (s : Seat) (n w : Tree) → Row40 n w → Equal (Expr s) n w
row_40_equal s n w r = along (Expr s) n (conditional (negation r.a) r.b r.c) w (conditional r.a r.c r.b) r.shape r.written (row_40 s r.a r.b r.c)

pub row_82_else_equal : (q : StmtSeat) (n w : Tree) → Row82Else n w → Equal (Stmt q) n w
row_82_else_equal q n w r = along (Stmt q) n _ w _ r.shape r.written (row_82_else q r.a r.b r.c)

pub row_82_and_equal : (q : StmtSeat) (n w : Tree) → Row82And n w → Equal (Stmt q) n w
row_82_and_equal q n w r = along (Stmt q) n _ w _ r.shape r.written (row_82_and q r.a r.b)

pub row_82_or_equal : (q : StmtSeat) (n w : Tree) → Row82Or n w → Equal (Stmt q) n w
row_82_or_equal q n w r = along (Stmt q) n _ w _ r.shape r.written (row_82_or q r.a r.b)

pub row_equal : (p : Position) (n w : Tree) → Row p n w → Equal p n w
row_equal (Expr s) n w (inl r) = row_23_equal s n w r
row_equal (Expr s) n w (inr r) = row_40_equal s n w r
row_equal (Stmt q) n w (inl r) = row_82_else_equal q n w r
row_equal (Stmt q) n w (inr (inl r)) = row_82_and_equal q n w r
row_equal (Stmt q) n w (inr (inr r)) = row_82_or_equal q n w r
row_equal p n w r = absurd r
