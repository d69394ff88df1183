-- The negation of an expression means what `!` over it does.
use Rattle.std.proofs.Common.{◌≡◌, ℕ, zero, suc, Bool, true, false, List, Option, refl, sym, ap, ◌∙◌, inl, inr, true≢false, ⊎_elim}
use Rattle.std.specs.Prelude.{◌⊎◌, ◌||◌, ◌&&◌, not}
use Rattle.mini_model.specs.declared.operator.BinaryOperator.{BinaryOperator}
use Rattle.mini_model.specs.declared.operator.BinaryOperator.TheVariants as binary
use Rattle.mini_model.specs.declared.operator.LogicalOperator.{LogicalOperator}
use Rattle.mini_model.specs.declared.operator.LogicalOperator.TheVariants.{Or, And, Coalesce}
use Rattle.mini_model.specs.declared.operator.UnaryOperator.TheVariants.{LogicalNot}
use Rattle.mini_model.specs.declared.name.Name.{Name}
use Rattle.mini_model.specs.declared.seat.Seat.{Seat}
use Rattle.mini_model.specs.declared.shape.Shape.TheVariants as shape
use Rattle.mini_model.specs.Tree.{Tree, Trees, node, none, ◌▸◌, negation}
use Rattle.mini_model.specs.declared.place.Position.TheVariants.{Expr}
use Rattle.mini_model.specs.Position.{is_equality, operand_seat}
use Rattle.mini_model.specs.Terms.{is_boolean, unwrapped, opposite, turned_equality, neg, neg_each}
use Rattle.mini_laws.specs.Value.{Value, Boolean, truth, variables}
use Rattle.mini_laws.specs.State.{Item, State, Completion, ok, stop, out, either, Environment}
use Rattle.mini_laws.specs.Demand.{Want, Val, Test, Unused, Tail, Demand, As, Callee, OfType, AnEntry, Stat, AValue, Request, Reply, Says, says, plain_call, Deleted, Target}
use Rattle.mini_laws.specs.Command.{Naming, Command, ret, bind, Kids, run}
use Rattle.mini_laws.specs.Naming.{summaries, naming}
use Rattle.mini_laws.specs.Asking.{and_or_demand, logical_demand, first_demand}
use Rattle.mini_laws.specs.Replies.{reply, passed, loosely}
use Rattle.mini_laws.specs.Expressions.{operate_by, binary_step, and_step, or_step, logical_step, conditional_step}
use Rattle.mini_laws.specs.Step.{step, means, meaning}
use Rattle.mini_laws.specs.Fits.{Fits}
use Rattle.mini_laws.specs.Truth.{told}
use Rattle.mini_laws.proofs.Runs.{either_cong, either_assoc, either_eta, either_out, runs, each_bool, run_bind}
use Rattle.mini_laws.proofs.Truth.{coherent}
use Rattle.mini_laws.proofs.Fitting.{fits_operand}

not_not : (b : Bool) → not (not b) ≡ b
not_not true = refl
not_not false = refl

-- a truth, replied as it is wanted
unfoldable told_truth : (w : Want) → Completion Bool → Completion (Says w)
told_truth w x = either x (λ b s. ok (says w (Boolean b)) s) (λ e s. stop e s)

-- what `!` makes of a truth
unfoldable flipped : (w : Want) → Completion Bool → Completion (Says w)
flipped w x = either x (λ b s. ok (says w (Boolean (not b))) s) (λ e s. stop e s)

-- a value, replied as it is asked where not the value, its truth or nothing is
unfoldable given : (q : Demand) (r : Request q) → Completion Value → Completion (Reply q r)
given Callee r x = either x (λ v s. ok (plain_call v) s) (λ e s. stop e s)
given OfType r x = either x (λ v s. ok v s) (λ e s. stop e s)
given Deleted r x = either x (λ v s. ok (AValue v) s) (λ e s. stop e s)
given AnEntry r x = either x (λ v s. ok (Item v) s) (λ e s. stop e s)
given q r x = out

abbrev NotAs : Demand → Type 0
NotAs (As w) = ⊥
NotAs q = Unit {0}

abbrev All : Type 0
All = (i : ℕ) (q : Demand) (r : Request q) → State → Completion (Reply q r)

module _ (e : Environment) where
  -- `!` over a node
  not_as : (w : Want) (n : Tree) (s : State) → means e (negation n) (As w) tt s ≡ flipped w (means e n (As Test) tt s)
  unfolding means meaning step flipped
  not_as w n s = refl

  not_given : (q : Demand) → NotAs q → (r : Request q) (n : Tree) (s : State) → means e (negation n) q r s ≡ given q r (flipped Val (means e n (As Test) tt s))
  unfolding means meaning step flipped given
  not_given Callee o r n s = simp runs
  not_given OfType o r n s = simp runs
  not_given Deleted o r n s = simp runs
  not_given AnEntry o r n s = simp runs
  not_given (As w) o r n s = absurd o
  not_given q o r n s = refl

  -- what is asked of a part that gives the value
  module _ (names : Naming) (σ : ℕ → Demand) (c : Command σ Value) (K : Kids σ) (s : State) where
    passes_callee : run e names K (bind c (passed Callee tt)) s ≡ given Callee tt (run e names K (bind c (passed (As Val) tt)) s)
    unfolding given
    passes_callee = run_bind e names c (passed Callee tt) K s ∙ sym (ap (given Callee tt) (run_bind e names c (passed (As Val) tt) K s ∙ either_eta (run e names K c s)))

    passes_type : run e names K (bind c (passed OfType tt)) s ≡ given OfType tt (run e names K (bind c (passed (As Val) tt)) s)
    unfolding given
    passes_type = run_bind e names c (passed OfType tt) K s ∙ sym (ap (given OfType tt) (run_bind e names c (passed (As Val) tt) K s ∙ either_eta (run e names K c s)))

    passes_deleted : run e names K (bind c (passed Deleted tt)) s ≡ given Deleted tt (run e names K (bind c (passed (As Val) tt)) s)
    unfolding given
    passes_deleted = run_bind e names c (passed Deleted tt) K s ∙ sym (ap (given Deleted tt) (run_bind e names c (passed (As Val) tt) K s ∙ either_eta (run e names K c s)))

    passes_entry : run e names K (bind c (passed AnEntry tt)) s ≡ given AnEntry tt (run e names K (bind c (passed (As Val) tt)) s)
    unfolding given
    passes_entry = run_bind e names c (passed AnEntry tt) K s ∙ sym (ap (given AnEntry tt) (run_bind e names c (passed (As Val) tt) K s ∙ either_eta (run e names K c s)))

  logical_given : (q : Demand) → NotAs q → (r : Request q) (o : LogicalOperator) (xs : List Name) (n : ℕ) (us : Trees) (s : State) → means e (node (shape.LogicalExpression o) xs n us) q r s ≡ given q r (means e (node (shape.LogicalExpression o) xs n us) (As Val) tt s)
  unfolding means step given
  logical_given Callee other r o xs n us s = passes_callee (naming (shape.LogicalExpression o) (As Val) (variables xs) n (summaries us)) (logical_demand o Val) (logical_step o Val) (λ i r z. meaning e us i (logical_demand o Val i) r z) s
  logical_given OfType other r o xs n us s = passes_type (naming (shape.LogicalExpression o) (As Val) (variables xs) n (summaries us)) (logical_demand o Val) (logical_step o Val) (λ i r z. meaning e us i (logical_demand o Val i) r z) s
  logical_given Deleted other r o xs n us s = passes_deleted (naming (shape.LogicalExpression o) (As Val) (variables xs) n (summaries us)) (logical_demand o Val) (logical_step o Val) (λ i r z. meaning e us i (logical_demand o Val i) r z) s
  logical_given AnEntry other r o xs n us s = passes_entry (naming (shape.LogicalExpression o) (As Val) (variables xs) n (summaries us)) (logical_demand o Val) (logical_step o Val) (λ i r z. meaning e us i (logical_demand o Val i) r z) s
  logical_given (As w) other r o xs n us s = absurd other
  logical_given q other r o xs n us s = refl

  conditional_given : (q : Demand) → NotAs q → (r : Request q) (xs : List Name) (n : ℕ) (us : Trees) (s : State) → means e (node shape.ConditionalExpression xs n us) q r s ≡ given q r (means e (node shape.ConditionalExpression xs n us) (As Val) tt s)
  unfolding means step given
  conditional_given Callee other r xs n us s = passes_callee (naming shape.ConditionalExpression (As Val) (variables xs) n (summaries us)) (first_demand (As Test) (As Val)) (conditional_step Val) (λ i r z. meaning e us i (first_demand (As Test) (As Val) i) r z) s
  conditional_given OfType other r xs n us s = passes_type (naming shape.ConditionalExpression (As Val) (variables xs) n (summaries us)) (first_demand (As Test) (As Val)) (conditional_step Val) (λ i r z. meaning e us i (first_demand (As Test) (As Val) i) r z) s
  conditional_given Deleted other r xs n us s = passes_deleted (naming shape.ConditionalExpression (As Val) (variables xs) n (summaries us)) (first_demand (As Test) (As Val)) (conditional_step Val) (λ i r z. meaning e us i (first_demand (As Test) (As Val) i) r z) s
  conditional_given AnEntry other r xs n us s = passes_entry (naming shape.ConditionalExpression (As Val) (variables xs) n (summaries us)) (first_demand (As Test) (As Val)) (conditional_step Val) (λ i r z. meaning e us i (first_demand (As Test) (As Val) i) r z) s
  conditional_given (As w) other r xs n us s = absurd other
  conditional_given q other r xs n us s = refl

  -- a node each of whose values is a boolean

  and_left : (a b : Bool) → a && b ≡ true → a ≡ true
  and_left true b h = refl
  and_left false b h = h

  and_right : (a b : Bool) → a && b ≡ true → b ≡ true
  and_right true b h = h
  and_right false b h = absurd (true≢false (sym h))

  unused_of : (a : Tree) (s : State) → means e a (As Unused) tt s ≡ told_truth Unused (means e a (As Test) tt s)
  unfolding told told_truth
  unused_of a s = coherent a Unused e s ∙ sym (ap (told_truth Unused) (coherent a Test e s) ∙ simp runs)

  value_of : (a : Tree) → is_boolean a ≡ true → (s : State) → means e a (As Val) tt s ≡ told_truth Val (means e a (As Test) tt s)
  unfolding means meaning step told_truth
  value_of (node (shape.UnaryExpression LogicalNot) xs n ts) h s = simp runs
  value_of (node (shape.LogicalExpression And) xs n (a ▸ (b ▸ none))) h s =
      simp (runs, value_of a (and_left (is_boolean a) (is_boolean b) h)) (either_cong _ _ _ _ _ (each_bool _ (λ z. simp (runs, value_of b (and_right (is_boolean a) (is_boolean b) h))) (λ z. simp runs)) (λ x z. refl))
  value_of (node (shape.LogicalExpression Or) xs n (a ▸ (b ▸ none))) h s =
      simp (runs, value_of a (and_left (is_boolean a) (is_boolean b) h)) (either_cong _ _ _ _ _ (each_bool _ (λ z. simp runs) (λ z. simp (runs, value_of b (and_right (is_boolean a) (is_boolean b) h)))) (λ x z. refl))
  value_of (node (shape.LogicalExpression Coalesce) xs n (a ▸ (b ▸ none))) h s = simp (runs, value_of a (and_left (is_boolean a) (is_boolean b) h))
  value_of (node shape.ConditionalExpression xs n (a ▸ (b ▸ (c ▸ none)))) h s =
      simp runs (either_cong _ _ _ _ _ (each_bool _ (λ z. simp (runs, value_of b (and_left (is_boolean b) (is_boolean c) h))) (λ z. simp (runs, value_of c (and_right (is_boolean b) (is_boolean c) h)))) (λ x z. refl))
  value_of (node g xs n ts) h s = absurd (true≢false (sym h))

  not_node_given : (q : Demand) → NotAs q → (r : Request q) (xs : List Name) (n : ℕ) (ts : Trees) (s : State) → means e (node (shape.UnaryExpression LogicalNot) xs n ts) q r s ≡ given q r (means e (node (shape.UnaryExpression LogicalNot) xs n ts) (As Val) tt s)
  unfolding means step given
  not_node_given Callee o r xs n ts s = simp runs
  not_node_given OfType o r xs n ts s = simp runs
  not_node_given Deleted o r xs n ts s = simp runs
  not_node_given AnEntry o r xs n ts s = simp runs
  not_node_given (As w) o r xs n ts s = absurd o
  not_node_given q o r xs n ts s = refl

  given_of : (a : Tree) → is_boolean a ≡ true → (q : Demand) → NotAs q → (r : Request q) (s : State) → means e a q r s ≡ given q r (means e a (As Val) tt s)
  unfolding means step
  given_of (node (shape.UnaryExpression LogicalNot) xs n ts) h q other r s = not_node_given q other r xs n ts s
  given_of (node (shape.LogicalExpression o) xs n ts) h q other r s = logical_given q other r o xs n ts s
  given_of (node shape.ConditionalExpression xs n ts) h q other r s = conditional_given q other r xs n ts s
  given_of (node g xs n ts) h q other r s = absurd (true≢false (sym h))

  -- `!!a` for a

  twice : (w : Want) (x : Completion Bool) → flipped w (flipped Test x) ≡ told_truth w x
  unfolding flipped told_truth
  twice w x = simp (runs, not_not)

  test_of : (x : Completion Bool) → told_truth Test x ≡ x
  unfolding told_truth
  test_of x = either_eta x

  inner_not : (xs : List Name) (n : ℕ) (a : Tree) (s : State) → means e (node (shape.UnaryExpression LogicalNot) xs n (a ▸ none)) (As Test) tt s ≡ flipped Test (means e a (As Test) tt s)
  unfolding means meaning step flipped
  inner_not xs n a s = refl

  boolean_off : (s : Seat) (q : Demand) → NotAs q → Fits (Expr s) q → s.boolean ≡ false
  boolean_off s (As w) o f = absurd o
  boolean_off s (Stat t) o f = f
  boolean_off s Target o f = absurd f
  boolean_off s q o f = f.0

  unwraps_given : (xs : List Name) (n : ℕ) (a : Tree) (s : Seat) → (s.boolean ≡ true) ⊎ (is_boolean a ≡ true) → (q : Demand) → NotAs q → s.boolean ≡ false → (r : Request q) (z : State) → means e (negation (node (shape.UnaryExpression LogicalNot) xs n (a ▸ none))) q r z ≡ means e a q r z
  unwraps_given xs n a s h q other b r z =
      not_given q other r _ z ∙ ap (given q r) (ap (flipped Val) (inner_not xs n a z) ∙ twice Val _)
      ∙ sym (⊎_elim (λ k. absurd (true≢false (sym k ∙ b))) (λ k. given_of a k q other r z ∙ ap (given q r) (value_of a k z)) h)

  unwraps : (xs : List Name) (n : ℕ) (a : Tree) (s : Seat) (b : Bool) → (b ≡ true → (s.boolean ≡ true) ⊎ (is_boolean a ≡ true)) → (q : Demand) → Fits (Expr s) q → (r : Request q) (z : State) → means e (negation (node (shape.UnaryExpression LogicalNot) xs n (a ▸ none))) q r z ≡ means e (unwrapped b a (node (shape.UnaryExpression LogicalNot) xs n (a ▸ none))) q r z
  unwraps xs n a s false h q f r z = refl
  unwraps xs n a s true h (As w) f r z = not_as w _ z ∙ ap (flipped w) (inner_not xs n a z) ∙ twice w _ ∙ sym (go w f)
    where
      go : (w : Want) → Fits (Expr s) (As w) → means e a (As w) tt z ≡ told_truth w (means e a (As Test) tt z)
      go Test f = sym (test_of _)
      go Unused f = unused_of a z
      go Val f = ⊎_elim (λ k. let v : Val ≡ Test = f.0 k in cc) (λ k. value_of a k z) (h refl)
  unwraps xs n a s true h q f r z = unwraps_given xs n a s (h refl) q tt (boolean_off s q tt f) r z

  unmarked_as : (s : Seat) → s.boolean ≡ false → s.unused ≡ false → Fits (Expr s) (As Val)
  unmarked_as s b u = ((λ h. absurd (true≢false (sym h ∙ b))), (λ h. absurd (true≢false (sym h ∙ u))))

  -- De Morgan

  flipped_out : (w : Want) → out ≡ flipped w out
  unfolding flipped
  flipped_out w = sym (either_out _ _)

  module _ (names names' : Naming) (K' K : All) where
    Flips : ℕ → Want → Type 0
    Flips i w = (s : State) → K' i (As w) tt s ≡ flipped w (K i (As Test) tt s)

    or_for_and : (w v : Want) → and_or_demand w 0 ≡ As v → Flips 0 v → Flips 1 w → (s : State) → run e names (λ i. K' i (and_or_demand w i)) (bind (or_step w) (passed (As w) tt)) s ≡ flipped w (run e names' (λ i. K i (and_or_demand Test i)) (bind (and_step Test) (passed (As Test) tt)) s)
    unfolding Flips flipped
    or_for_and Val Val u h0 h1 s = simp (runs, h0) (either_cong _ _ _ _ _ (each_bool _ (λ z. simp (runs, h1)) (λ z. simp runs)) (λ x z. refl))
    or_for_and Test Test u h0 h1 s = simp (runs, h0) (either_cong _ _ _ _ _ (each_bool _ (λ z. simp (runs, h1)) (λ z. simp runs)) (λ x z. refl))
    or_for_and Unused Test u h0 h1 s = simp (runs, h0) (either_cong _ _ _ _ _ (each_bool _ (λ z. simp (runs, h1)) (λ z. simp runs)) (λ x z. refl))
    or_for_and w v u h0 h1 s = absurd (cc)

    and_for_or : (w v : Want) → and_or_demand w 0 ≡ As v → Flips 0 v → Flips 1 w → (s : State) → run e names (λ i. K' i (and_or_demand w i)) (bind (and_step w) (passed (As w) tt)) s ≡ flipped w (run e names' (λ i. K i (and_or_demand Test i)) (bind (or_step Test) (passed (As Test) tt)) s)
    unfolding Flips flipped
    and_for_or Val Val u h0 h1 s = simp (runs, h0) (either_cong _ _ _ _ _ (each_bool _ (λ z. simp runs) (λ z. simp (runs, h1))) (λ x z. refl))
    and_for_or Test Test u h0 h1 s = simp (runs, h0) (either_cong _ _ _ _ _ (each_bool _ (λ z. simp runs) (λ z. simp (runs, h1))) (λ x z. refl))
    and_for_or Unused Test u h0 h1 s = simp (runs, h0) (either_cong _ _ _ _ _ (each_bool _ (λ z. simp runs) (λ z. simp (runs, h1))) (λ x z. refl))
    and_for_or w v u h0 h1 s = absurd (cc)

  flips_and : (xs : List Name) (n : ℕ) (ts us : Trees) (w v : Want) → and_or_demand w 0 ≡ As v → ((s : State) → meaning e us 0 (As v) tt s ≡ flipped v (meaning e ts 0 (As Test) tt s)) → ((s : State) → meaning e us 1 (As w) tt s ≡ flipped w (meaning e ts 1 (As Test) tt s)) → (s : State) → means e (node (shape.LogicalExpression Or) xs n us) (As w) tt s ≡ flipped w (means e (node (shape.LogicalExpression And) xs n ts) (As Test) tt s)
  unfolding means step Flips
  flips_and xs n ts us w v u h0 h1 s = or_for_and (naming (shape.LogicalExpression Or) (As w) (variables xs) n (summaries us)) (naming (shape.LogicalExpression And) (As Test) (variables xs) n (summaries ts)) (meaning e us) (meaning e ts) w v u h0 h1 s

  flips_or : (xs : List Name) (n : ℕ) (ts us : Trees) (w v : Want) → and_or_demand w 0 ≡ As v → ((s : State) → meaning e us 0 (As v) tt s ≡ flipped v (meaning e ts 0 (As Test) tt s)) → ((s : State) → meaning e us 1 (As w) tt s ≡ flipped w (meaning e ts 1 (As Test) tt s)) → (s : State) → means e (node (shape.LogicalExpression And) xs n us) (As w) tt s ≡ flipped w (means e (node (shape.LogicalExpression Or) xs n ts) (As Test) tt s)
  unfolding means step Flips
  flips_or xs n ts us w v u h0 h1 s = and_for_or (naming (shape.LogicalExpression And) (As w) (variables xs) n (summaries us)) (naming (shape.LogicalExpression Or) (As Test) (variables xs) n (summaries ts)) (meaning e us) (meaning e ts) w v u h0 h1 s

  left_out : (t : Option Tail) (r : Request (Stat t)) (x y : Completion Value) → given (Stat t) r x ≡ given (Stat t) r y
  unfolding given
  left_out t r x y = refl

  -- what is asked of the operands, of an `&&` or `||` that is turned
  abbrev TurnedAs : LogicalOperator → LogicalOperator → Type 0
  TurnedAs o p = (xs : List Name) (n : ℕ) (ts us : Trees) (w v : Want) → and_or_demand w 0 ≡ As v → ((s : State) → meaning e us 0 (As v) tt s ≡ flipped v (meaning e ts 0 (As Test) tt s)) → ((s : State) → meaning e us 1 (As w) tt s ≡ flipped w (meaning e ts 1 (As Test) tt s)) → (s : State) → means e (node (shape.LogicalExpression p) xs n us) (As w) tt s ≡ flipped w (means e (node (shape.LogicalExpression o) xs n ts) (As Test) tt s)

  -- a logical expression, from its operands
  module _ (o p : LogicalOperator) (turn : TurnedAs o p) (xs : List Name) (n : ℕ) (ts us : Trees) (s : Seat) (operand : (w : Want) → Fits (Expr s) (As w) → (i : ℕ) → Fits (Expr (operand_seat p s i)) (and_or_demand w i)) where
    turns : ((i : ℕ) (w : Want) → Fits (Expr (operand_seat p s i)) (As w) → (z : State) → meaning e us i (As w) tt z ≡ flipped w (meaning e ts i (As Test) tt z)) → (q : Demand) → Fits (Expr s) q → (r : Request q) (z : State) → means e (negation (node (shape.LogicalExpression o) xs n ts)) q r z ≡ means e (node (shape.LogicalExpression p) xs n us) q r z
    turns ih (As Val) f r z = not_as Val _ z ∙ sym (turn xs n ts us Val Val refl (ih 0 Val (operand Val f 0)) (ih 1 Val (operand Val f 1)) z)
    turns ih (As Test) f r z = not_as Test _ z ∙ sym (turn xs n ts us Test Test refl (ih 0 Test (operand Test f 0)) (ih 1 Test (operand Test f 1)) z)
    turns ih (As Unused) f r z = not_as Unused _ z ∙ sym (turn xs n ts us Unused Test refl (ih 0 Test (operand Unused f 0)) (ih 1 Unused (operand Unused f 1)) z)
    turns ih (Stat t) f r z = not_given (Stat t) tt r _ z ∙ left_out t r _ _ ∙ sym (logical_given (Stat t) tt r p xs n us z)
    turns ih Target f r z = absurd f
    turns ih q f r z =
        not_given q tt r _ z
        ∙ ap (given q r) (sym (turn xs n ts us Val Val refl (ih 0 Val (operand Val (unmarked_as s f.0 f.1) 0)) (ih 1 Val (operand Val (unmarked_as s f.0 f.1) 1)) z))
        ∙ sym (logical_given q tt r p xs n us z)

  -- an equality under the other operator

  binary_given : (q : Demand) → NotAs q → (r : Request q) (o : BinaryOperator) (xs : List Name) (n : ℕ) (ts : Trees) (s : State) → means e (node (shape.BinaryExpression o) xs n ts) q r s ≡ given q r (means e (node (shape.BinaryExpression o) xs n ts) (As Val) tt s)
  unfolding means step given
  binary_given Callee other r o xs n ts s = passes_callee (naming (shape.BinaryExpression o) (As Val) (variables xs) n (summaries ts)) (λ i. As Val) (binary_step o) (λ i r z. meaning e ts i (As Val) r z) s
  binary_given OfType other r o xs n ts s = passes_type (naming (shape.BinaryExpression o) (As Val) (variables xs) n (summaries ts)) (λ i. As Val) (binary_step o) (λ i r z. meaning e ts i (As Val) r z) s
  binary_given Deleted other r o xs n ts s = passes_deleted (naming (shape.BinaryExpression o) (As Val) (variables xs) n (summaries ts)) (λ i. As Val) (binary_step o) (λ i r z. meaning e ts i (As Val) r z) s
  binary_given AnEntry other r o xs n ts s = passes_entry (naming (shape.BinaryExpression o) (As Val) (variables xs) n (summaries ts)) (λ i. As Val) (binary_step o) (λ i r z. meaning e ts i (As Val) r z) s
  binary_given (As w) other r o xs n ts s = absurd other
  binary_given q other r o xs n ts s = refl

  -- the other truth
  unfoldable other_truth : Completion Value → Completion Value
  other_truth x = either x (λ v z. ok (Boolean (not (truth v))) z) (λ y z. stop y z)

  module _ (names : Naming) (K : Kids (λ i. As Val)) where
    abbrev Runs : {A : Type 0} → Command (λ i. As Val) A → State → Completion A
    Runs c z = run {q = λ i. As Val} e names K c z

    loosely_given : (f : Bool → Bool) (a b : Value) (z : State) → Runs (bind (loosely a b) (λ c. ret (Boolean (f c)))) z ≡ either (Runs (loosely a b) z) (λ c y. ok (Boolean (f c)) y) (λ x y. stop x y)
    loosely_given f a b z = run_bind e names (loosely a b) (λ c. ret (Boolean (f c))) K z

    operate_turns : (o : BinaryOperator) → is_equality o ≡ true → (a b : Value) (z : State) → Runs (operate_by (opposite o) a b) z ≡ other_truth (Runs (operate_by o a b) z)
    unfolding other_truth
    operate_turns binary.Equality h a b z =
        loosely_given not a b z ∙ sym (ap (λ x. either x (λ v y. ok (Boolean (not (truth v))) y) (λ x y. stop x y)) (loosely_given (λ c. c) a b z) ∙ simp runs)
    operate_turns binary.Inequality h a b z =
        loosely_given (λ c. c) a b z ∙ sym (ap (λ x. either x (λ v y. ok (Boolean (not (truth v))) y) (λ x y. stop x y)) (loosely_given not a b z) ∙ simp (runs, not_not))
    operate_turns binary.StrictEquality h a b z = simp runs
    operate_turns binary.StrictInequality h a b z = simp (runs, not_not)
    operate_turns o h a b z = absurd (true≢false (sym h))

    step_turns : (o : BinaryOperator) → is_equality o ≡ true → (z : State) → Runs (binary_step (opposite o)) z ≡ other_truth (Runs (binary_step o) z)
    unfolding other_truth
    step_turns o h z =
        either_cong (K 0 tt z) _ _ _ _ (λ a y. either_cong (K 1 tt y) _ _ _ _ (λ b x. operate_turns o h a b x) (λ x w. refl) ∙ sym (either_assoc (K 1 tt y) _ _ _ _ ∙ either_cong (K 1 tt y) _ _ _ _ (λ b x. refl) (λ x w. simp runs))) (λ x w. refl)
        ∙ sym (either_assoc (K 0 tt z) _ _ _ _ ∙ either_cong (K 0 tt z) _ _ _ _ (λ a y. refl) (λ x w. simp runs))

  other_flips : (w : Want) (x : Completion Value) → either (other_truth x) (λ v z. ok (says w v) z) (λ y z. stop y z) ≡ flipped w (either x (λ v z. ok (truth v) z) (λ y z. stop y z))
  unfolding other_truth flipped
  other_flips w x = simp runs

  equality_flips : (o : BinaryOperator) → is_equality o ≡ true → (xs : List Name) (n : ℕ) (ts : Trees) (w : Want) (s : State) → means e (node (shape.BinaryExpression (opposite o)) xs n ts) (As w) tt s ≡ flipped w (means e (node (shape.BinaryExpression o) xs n ts) (As Test) tt s)
  unfolding means step
  equality_flips o h xs n ts w s =
      let names : Naming = naming (shape.BinaryExpression o) (As w) (variables xs) n (summaries ts) in
      let kids : Kids (λ i. As Val) = λ i r z. meaning e ts i (As Val) r z in
      run_bind e names (binary_step (opposite o)) (reply (As w) tt) kids s
      ∙ ap (λ x. either x (λ v z. ok (says w v) z) (λ y z. stop y z)) (step_turns names kids o h s)
      ∙ other_flips w (run {q = λ i. As Val} e names kids (binary_step o) s)
      ∙ sym (ap (flipped w) (run_bind e names (binary_step o) (reply (As Test) tt) kids s))

  pub equality_turns : (b : Bool) (o : BinaryOperator) → is_equality o ≡ b → (xs : List Name) (n : ℕ) (ts : Trees) (q : Demand) (r : Request q) (z : State) → means e (negation (node (shape.BinaryExpression o) xs n ts)) q r z ≡ means e (turned_equality b o xs n ts) q r z
  equality_turns false o h xs n ts q r z = refl
  equality_turns true o h xs n ts (As w) r z = not_as w _ z ∙ sym (equality_flips o h xs n ts w z)
  equality_turns true o h xs n ts q r z = not_given q tt r _ z ∙ ap (given q r) (sym (equality_flips o h xs n ts Val z)) ∙ sym (binary_given q tt r (opposite o) xs n ts z)

  or_split : (a b : Bool) → a || b ≡ true → (a ≡ true) ⊎ (b ≡ true)
  or_split true b h = inl refl
  or_split false b h = inr h

  mutual
    unfolding meaning

    negated : (a : Tree) (s : Seat) (q : Demand) → Fits (Expr s) q → (r : Request q) (z : State) → means e (negation a) q r z ≡ means e (neg s a) q r z
    negated (node (shape.LogicalExpression And) xs n ts) s q f r z = turns And Or flips_and xs n ts (neg_each (λ i. operand_seat Or s i) ts) s (λ w. fits_operand Or s w) (λ i w g y. each_negated ts (λ i. operand_seat Or s i) i w g y) q f r z
    negated (node (shape.LogicalExpression Or) xs n ts) s q f r z = turns Or And flips_or xs n ts (neg_each (λ i. operand_seat And s i) ts) s (λ w. fits_operand And s w) (λ i w g y. each_negated ts (λ i. operand_seat And s i) i w g y) q f r z
    negated (node (shape.UnaryExpression LogicalNot) xs n (a ▸ none)) s q f r z = unwraps xs n a s (s.boolean || is_boolean a) (or_split s.boolean (is_boolean a)) q f r z
    negated (node (shape.BinaryExpression o) xs n ts) s q f r z = equality_turns (is_equality o) o refl xs n ts q r z
    negated (node h xs n ts) s q f r z = refl

    each_negated : (ts : Trees) (σ : ℕ → Seat) (i : ℕ) (w : Want) → Fits (Expr (σ i)) (As w) → (z : State) → meaning e (neg_each σ ts) i (As w) tt z ≡ flipped w (meaning e ts i (As Test) tt z)
    each_negated none σ i w f z = flipped_out w
    each_negated (t ▸ ts) σ zero w f z = sym (negated t (σ zero) (As w) f tt z) ∙ not_as w t z
    each_negated (t ▸ ts) σ (suc i) w f z = each_negated ts (λ i. σ (suc i)) i w f z

pub negation_same : (a : Tree) (s : Seat) (e : Environment) (q : Demand) → Fits (Expr s) q → (r : Request q) (z : State) → means e (negation a) q r z ≡ means e (neg s a) q r z
negation_same a s e q f r z = negated e a s q f r z
