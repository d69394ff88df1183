-- What conditionals, logical expressions and assignments of names do, by the values of their parts.
use Rattle.std.proofs.Common.{◌≡◌, ℕ, Bool, true, false, List, [], ◌∷◌, Option, refl, sym, ap, subst, ◌∙◌, inl, inr, true≢false}
use Rattle.std.specs.Prelude.{◌⊎◌, ◌&&◌, not, Some, None, is_none}
use Rattle.mini_model.specs.declared.name.Name.{Name}
use Rattle.mini_model.specs.declared.name.SymbolId.{SymbolId}
use Rattle.mini_model.specs.declared.operator.AssignmentOperator.{AssignmentOperator}
use Rattle.mini_model.specs.declared.operator.AssignmentOperator.TheVariants as assigning
use Rattle.mini_model.specs.declared.operator.BinaryOperator.{BinaryOperator}
use Rattle.mini_model.specs.declared.operator.BinaryOperator.TheVariants as binary_operator
use Rattle.mini_model.specs.declared.operator.LogicalOperator.{LogicalOperator}
use Rattle.mini_model.specs.declared.operator.LogicalOperator.TheVariants.{Or, And, Coalesce}
use Rattle.mini_model.specs.declared.shape.Shape.TheVariants as shape
use Rattle.mini_model.specs.Tree.{Tree, none, ◌▸◌, listed, identifier, logical, conditional, null_literal}
use Rattle.mini_laws.specs.Value.{Value, Undefined, Null, Boolean, Variable, Declared, Global, Slot, Holds, Missing, Uninitialised, choose, truth, is_nullish, variable_by, variable_of, variables}
use Rattle.mini_laws.specs.State.{Hint, ForNumber, ForDefault, Coerce, InOf, InstanceOf, Label, ReferenceError, Raise, Entry, Item, Given, Normal, Throws, Finished, Returning, Shortens, Answer, State, Completion, ok, stop, halt, out, either, Environment, news_of}
use Rattle.mini_laws.specs.Demand.{Val, Test, Unused, Demand, As, Parts, Callee, OfType, Deleted, Target, AnEntry, Stat, AName, AValue, Fetch, Put, Reference, Request, Reply, plain_call}
use Rattle.mini_laws.specs.Command.{read, Naming, Command, ret, kid, then, bind, emit, is_object, Kids, hear, heard, note, answered, read_slot, read_name, at_variable, act, run}
use Rattle.mini_laws.specs.Naming.{NameKind, UndefinedName, NumberName, summary, summaries, naming, kind_of}
use Rattle.mini_laws.specs.Asking.{first_demand, logical_demand}
use Rattle.mini_laws.specs.Replies.{reply, passed, raise, loosely, of_option, of_made, primitive, numeric, hint_of, is_of_primitives, operate}
use Rattle.mini_laws.specs.Conversion.{Made, makes, raises, outside, to_number, key_value}
use Rattle.mini_laws.specs.Operators.{of_numbers, of_primitives, loosely_equal}
use Rattle.mini_laws.specs.Expressions.{get_identifier, asks_object, binary_step, operate_by, logical_step, conditional_step, sequence_step}
use Rattle.mini_laws.specs.Targets.{assigns, AssignDemand, put_target, assignment_step}
use Rattle.mini_laws.specs.Step.{step, means, meaning}
use Rattle.mini_laws.specs.Truth.{told}
use Rattle.mini_laws.proofs.Runs.{either_cong, either_eta, either_ok, runs, run_bind}
use Rattle.mini_laws.proofs.Truth.{coherent}
use Rattle.mini_rows.specs.Spellings.{IsUndefined, binary, assignment}
use Rattle.mini_rows.specs.Choices.{assign, pair, deciding, computing}
use Rattle.mini_rows.proofs.SpellAlike.{SameTree}

-- ---- the value tells all that is asked

abbrev pub value : Environment → Tree → State → Completion Value
value e t s = means e t (As Val) tt s

-- what is replied, by the value
unfoldable pub asked : (q : Demand) (r : Request q) → Completion Value → Completion (Reply q r)
asked (As w) r x = told w x
asked Callee r x = either x (λ v s. ok (plain_call v) s) (λ e s. stop e s)
asked OfType r x = either x (λ v s. ok v s) (λ e s. stop e s)
asked Deleted r x = either x (λ v s. ok (AValue v) s) (λ e s. stop e s)
asked AnEntry r x = either x (λ v s. ok (Item v) s) (λ e s. stop e s)
asked q r x = out

pub record Tells (n : Tree) : Type 0 where
  pub by : (e : Environment) (q : Demand) (r : Request q) (s : State) → means e n q r s ≡ asked q r (value e n s)

-- so two nodes that have the same value do the same
pub by_value : (n w : Tree) → Tells n → Tells w → summary n ≡ summary w → ((e : Environment) (s : State) → value e n s ≡ value e w s) → SameTree n w
by_value n w t u alike h = record { by = λ e q r s. t.by e q r s ∙ ap (asked q r) (h e s) ∙ sym (u.by e q r s); read = alike }

-- a command, and what follows its value
pub after_value : {A : Type 0} (e : Environment) (names : Naming) (q : ℕ → Demand) (K : Kids q) (c : Command q Value) (f : Value → Command q A) (s : State) → run {q = q} e names K (bind c f) s ≡ either (run {q = q} e names K (bind c (λ v. ret v)) s) (λ v z. run {q = q} e names K (f v) z) (λ x z. stop x z)
after_value e names q K c f s = run_bind e names c f K s ∙ sym (ap (λ x. either x (λ v z. run {q = q} e names K (f v) z) (λ x z. stop x z)) (run_bind e names c (λ v. ret v) K s ∙ either_eta (run {q = q} e names K c s)))

conditional_told : (a b c : Tree) (e : Environment) (q : Demand) (r : Request q) (s : State) → means e (conditional a b c) q r s ≡ asked q r (value e (conditional a b c) s)
unfolding means meaning step asked
conditional_told a b c e (As w) r s = coherent (conditional a b c) w e s
conditional_told a b c e Callee r s = after_value e (naming shape.ConditionalExpression Callee [] 0 (summaries (a ▸ b ▸ c ▸ none))) (first_demand (As Test) (As Val)) (λ i r z. meaning e (a ▸ b ▸ c ▸ none) i (first_demand (As Test) (As Val) i) r z) (conditional_step Val) (λ v. ret (plain_call v)) s
conditional_told a b c e OfType r s = after_value e (naming shape.ConditionalExpression OfType [] 0 (summaries (a ▸ b ▸ c ▸ none))) (first_demand (As Test) (As Val)) (λ i r z. meaning e (a ▸ b ▸ c ▸ none) i (first_demand (As Test) (As Val) i) r z) (conditional_step Val) (λ v. ret v) s
conditional_told a b c e Deleted r s = after_value e (naming shape.ConditionalExpression Deleted [] 0 (summaries (a ▸ b ▸ c ▸ none))) (first_demand (As Test) (As Val)) (λ i r z. meaning e (a ▸ b ▸ c ▸ none) i (first_demand (As Test) (As Val) i) r z) (conditional_step Val) (λ v. ret (AValue v)) s
conditional_told a b c e AnEntry r s = after_value e (naming shape.ConditionalExpression AnEntry [] 0 (summaries (a ▸ b ▸ c ▸ none))) (first_demand (As Test) (As Val)) (λ i r z. meaning e (a ▸ b ▸ c ▸ none) i (first_demand (As Test) (As Val) i) r z) (conditional_step Val) (λ v. ret (Item v)) s
conditional_told a b c e q r s = refl

pub conditional_tells : (a b c : Tree) → Tells (conditional a b c)
conditional_tells a b c = record { by = conditional_told a b c }

logical_told : (o : LogicalOperator) (a b : Tree) (e : Environment) (q : Demand) (r : Request q) (s : State) → means e (logical o a b) q r s ≡ asked q r (value e (logical o a b) s)
unfolding means meaning step asked
logical_told o a b e (As w) r s = coherent (logical o a b) w e s
logical_told o a b e Callee r s = after_value e (naming (shape.LogicalExpression o) Callee [] 0 (summaries (a ▸ b ▸ none))) (logical_demand o Val) (λ i r z. meaning e (a ▸ b ▸ none) i (logical_demand o Val i) r z) (logical_step o Val) (λ v. ret (plain_call v)) s
logical_told o a b e OfType r s = after_value e (naming (shape.LogicalExpression o) OfType [] 0 (summaries (a ▸ b ▸ none))) (logical_demand o Val) (λ i r z. meaning e (a ▸ b ▸ none) i (logical_demand o Val i) r z) (logical_step o Val) (λ v. ret v) s
logical_told o a b e Deleted r s = after_value e (naming (shape.LogicalExpression o) Deleted [] 0 (summaries (a ▸ b ▸ none))) (logical_demand o Val) (λ i r z. meaning e (a ▸ b ▸ none) i (logical_demand o Val i) r z) (logical_step o Val) (λ v. ret (AValue v)) s
logical_told o a b e AnEntry r s = after_value e (naming (shape.LogicalExpression o) AnEntry [] 0 (summaries (a ▸ b ▸ none))) (logical_demand o Val) (λ i r z. meaning e (a ▸ b ▸ none) i (logical_demand o Val i) r z) (logical_step o Val) (λ v. ret (Item v)) s
logical_told o a b e q r s = refl

pub logical_tells : (o : LogicalOperator) (a b : Tree) → Tells (logical o a b)
logical_tells o a b = record { by = logical_told o a b }

assignment_told : (o : AssignmentOperator) (a b : Tree) (e : Environment) (q : Demand) (r : Request q) (s : State) → means e (assignment o a b) q r s ≡ asked q r (value e (assignment o a b) s)
unfolding means meaning step asked
assignment_told o a b e (As w) r s = coherent (assignment o a b) w e s
assignment_told o a b e Callee r s = after_value e (naming (shape.AssignmentExpression o) Callee [] 0 (summaries (a ▸ b ▸ none))) AssignDemand (λ i r z. meaning e (a ▸ b ▸ none) i (AssignDemand i) r z) (assignment_step o) (λ v. ret (plain_call v)) s
assignment_told o a b e OfType r s = after_value e (naming (shape.AssignmentExpression o) OfType [] 0 (summaries (a ▸ b ▸ none))) AssignDemand (λ i r z. meaning e (a ▸ b ▸ none) i (AssignDemand i) r z) (assignment_step o) (λ v. ret v) s
assignment_told o a b e Deleted r s = after_value e (naming (shape.AssignmentExpression o) Deleted [] 0 (summaries (a ▸ b ▸ none))) AssignDemand (λ i r z. meaning e (a ▸ b ▸ none) i (AssignDemand i) r z) (assignment_step o) (λ v. ret (AValue v)) s
assignment_told o a b e AnEntry r s = after_value e (naming (shape.AssignmentExpression o) AnEntry [] 0 (summaries (a ▸ b ▸ none))) AssignDemand (λ i r z. meaning e (a ▸ b ▸ none) i (AssignDemand i) r z) (assignment_step o) (λ v. ret (Item v)) s
assignment_told o a b e q r s = refl

pub assignment_tells : (o : AssignmentOperator) (a b : Tree) → Tells (assignment o a b)
assignment_tells o a b = record { by = assignment_told o a b }

-- ---- conditionals and logical expressions

test_told : (e : Environment) (a : Tree) (s : State) → means e a (As Test) tt s ≡ either (value e a s) (λ v z. ok (truth v) z) (λ x z. stop x z)
unfolding told
test_told e a s = coherent a Test e s

arms : (e : Environment) (names : Naming) (K : Kids (first_demand (As Test) (As Val))) (b : Bool) (z : State) → run {q = first_demand (As Test) (As Val)} e names K (bind (choose b (kid 1 tt (then ret)) (kid 2 tt (then ret))) (passed (As Val) tt)) z ≡ choose b (K 1 tt z) (K 2 tt z)
arms e names K true z = either_eta (K 1 tt z)
arms e names K false z = either_eta (K 2 tt z)

pub conditional_value : (e : Environment) (a b c : Tree) (s : State) → value e (conditional a b c) s ≡ either (value e a s) (λ v z. choose (truth v) (value e b z) (value e c z)) (λ x z. stop x z)
unfolding means meaning step
conditional_value e a b c s =
    rw (test_told e a s)
    (simp runs (either_cong (value e a s) _ _ _ _ (λ v z. arms e (naming shape.ConditionalExpression (As Val) [] 0 (summaries (a ▸ b ▸ c ▸ none))) (λ i r z. meaning e (a ▸ b ▸ c ▸ none) i (first_demand (As Test) (As Val) i) r z) (truth v) z) (λ x z. refl)))

module _ (e : Environment) (names : Naming) (K : Kids (λ i. As Val)) where
  goes_on : (b : Bool) (v : Value) (z : State) → run {q = λ i. As Val} e names K (bind (choose b (kid 1 tt (then ret)) (ret v)) (passed (As Val) tt)) z ≡ choose b (K 1 tt z) (ok v z)
  goes_on true v z = either_eta (K 1 tt z)
  goes_on false v z = refl

  ends_there : (b : Bool) (v : Value) (z : State) → run {q = λ i. As Val} e names K (bind (choose b (ret v) (kid 1 tt (then ret))) (passed (As Val) tt)) z ≡ choose (not b) (K 1 tt z) (ok v z)
  ends_there true v z = refl
  ends_there false v z = either_eta (K 1 tt z)

pub logical_value : (e : Environment) (o : LogicalOperator) (a b : Tree) (s : State) → value e (logical o a b) s ≡ either (value e a s) (λ v z. choose (assigns o v) (value e b z) (ok v z)) (λ x z. stop x z)
unfolding means meaning step
logical_value e And a b s = either_cong (value e a s) _ _ _ _ (λ v z. goes_on e (naming (shape.LogicalExpression And) (As Val) [] 0 (summaries (a ▸ b ▸ none))) (λ i r z. meaning e (a ▸ b ▸ none) i (As Val) r z) (truth v) v z) (λ x z. refl)
logical_value e Or a b s = either_cong (value e a s) _ _ _ _ (λ v z. ends_there e (naming (shape.LogicalExpression Or) (As Val) [] 0 (summaries (a ▸ b ▸ none))) (λ i r z. meaning e (a ▸ b ▸ none) i (As Val) r z) (truth v) v z) (λ x z. refl)
logical_value e Coalesce a b s = either_cong (value e a s) _ _ _ _ (λ v z. goes_on e (naming (shape.LogicalExpression Coalesce) (As Val) [] 0 (summaries (a ▸ b ▸ none))) (λ i r z. meaning e (a ▸ b ▸ none) i (As Val) r z) (is_nullish v) v z) (λ x z. refl)

-- ---- names

-- what is done where a value is put to a name
abbrev pub put : Environment → Name → Value → State → Completion (Unit {0})
put e x v s = means e (identifier x) Target (Put AName v) s

-- and what an assignment does with it: it is the value of the whole
abbrev pub puts : Environment → Name → Completion Value → Completion Value
puts e x y = either y (λ v z. either (put e x v z) (λ u k. ok v k) (λ x k. stop x k)) (λ x z. stop x z)

read_alike : (e : Environment) (m n : Naming) (σ τ : ℕ → Demand) (K : Kids σ) (L : Kids τ) (k : NameKind) → m.own ≡ n.own → (s : State) → run {q = σ} e m K (get_identifier k) s ≡ run {q = τ} e n L (bind (get_identifier k) (λ v. ret v)) s
unfolding act
read_alike e m n σ τ K L UndefinedName h s = refl
read_alike e m n σ τ K L NumberName h s = refl
read_alike e m n σ τ K L k h s = ap (λ ys. either (act e (record m { own = ys }) (read 0) s) (λ v z. ok v z) (λ x z. stop x z)) h

pub fetched : (e : Environment) (x : Name) (r : Reference) (s : State) → means e (identifier x) Target (Fetch r) s ≡ value e (identifier x) s
unfolding means step
fetched e x r s = read_alike e (naming shape.Identifier Target (variables (x ∷ [])) 0 []) (naming shape.Identifier (As Val) (variables (x ∷ [])) 0 []) (λ i. Stat None) (λ i. Stat None) (λ i r z. meaning e none i (Stat None) r z) (λ i r z. meaning e none i (Stat None) r z) (kind_of x) refl s

pub assign_value : (e : Environment) (x : Name) (b : Tree) (s : State) → value e (assign x b) s ≡ puts e x (value e b s)
unfolding means meaning step either
assign_value e x b s = refl

module _ (e : Environment) (names : Naming) (K : Kids AssignDemand) where
  -- what is put to the target of the assignment
  abbrev put_there : Completion Value → Completion Value
  put_there y = either y (λ v z. either (K 0 (Put AName v) z) (λ u k. ok v k) (λ x k. stop x k)) (λ x z. stop x z)

  decides : (b : Bool) (v : Value) (z : State) → run {q = AssignDemand} e names K (bind (choose b (kid 1 tt (then (put_target AName))) (ret v)) (reply (As Val) tt)) z ≡ choose b (put_there (K 1 tt z)) (ok v z)
  decides true v z = refl
  decides false v z = refl

  computes : (c : Command AssignDemand Value) (z : State) → run {q = AssignDemand} e names K (bind (bind c (put_target AName)) (reply (As Val) tt)) z ≡ put_there (run {q = AssignDemand} e names K c z)
  computes c z = run_bind e names (bind c (put_target AName)) (reply (As Val) tt) K z ∙ either_eta (run {q = AssignDemand} e names K (bind c (put_target AName)) z) ∙ run_bind e names c (put_target AName) K z

-- the parts of an assignment to a name
abbrev assigning_names : Environment → AssignmentOperator → Name → Tree → Naming
assigning_names e c x b = naming (shape.AssignmentExpression c) (As Val) [] 0 (summaries (identifier x ▸ b ▸ none))

abbrev assigning_kids : Environment → Name → Tree → Kids AssignDemand
assigning_kids e x b i r z = meaning e (identifier x ▸ b ▸ none) i (AssignDemand i) r z

decided : (e : Environment) (o : LogicalOperator) (c : AssignmentOperator) (x : Name) (b : Tree) (s : State) → either (means e (identifier x) Target (Fetch AName) s) (λ v z. run {q = AssignDemand} e (assigning_names e c x b) (assigning_kids e x b) (bind (choose (assigns o v) (kid 1 tt (then (put_target AName))) (ret v)) (reply (As Val) tt)) z) (λ x z. stop x z) ≡ either (value e (identifier x) s) (λ v z. choose (assigns o v) (puts e x (value e b z)) (ok v z)) (λ x z. stop x z)
unfolding meaning
decided e o c x b s =
    ap (λ y. either y (λ v z. run {q = AssignDemand} e (assigning_names e c x b) (assigning_kids e x b) (bind (choose (assigns o v) (kid 1 tt (then (put_target AName))) (ret v)) (reply (As Val) tt)) z) (λ x z. stop x z)) (fetched e x AName s)
    ∙ either_cong (value e (identifier x) s) _ _ _ _ (λ v z. decides e (assigning_names e c x b) (assigning_kids e x b) (assigns o v) v z) (λ x z. refl)

-- it reads the name, and decides by it whether to write
pub deciding_value : (e : Environment) (o : LogicalOperator) (x : Name) (b : Tree) (s : State) → value e (assignment (deciding o) (identifier x) b) s ≡ either (value e (identifier x) s) (λ v z. choose (assigns o v) (puts e x (value e b z)) (ok v z)) (λ x z. stop x z)
unfolding means meaning step either
deciding_value e Or x b s = decided e Or (deciding Or) x b s
deciding_value e And x b s = decided e And (deciding And) x b s
deciding_value e Coalesce x b s = decided e Coalesce (deciding Coalesce) x b s

-- ---- operators of numbers and texts do the same in any node

module _ (e : Environment) (m n : Naming) (σ τ : ℕ → Demand) (K : Kids σ) (L : Kids τ) where
  abbrev Free : {A : Type 0} → Command σ A → Command τ A → Type 0
  Free c d = (z : State) → run {q = σ} e m K c z ≡ run {q = τ} e n L d z

  pub bind_free : {A B : Type 0} (c : Command σ A) (d : Command τ A) (f : A → Command σ B) (g : A → Command τ B) → Free c d → ((a : A) → Free (f a) (g a)) → Free (bind c f) (bind d g)
  bind_free c d f g h k z =
      run_bind e m c f K z
      ∙ ap (λ x. either x (λ a z. run {q = σ} e m K (f a) z) (λ x z. stop x z)) (h z)
      ∙ either_cong (run {q = τ} e n L d z) _ _ _ _ (λ a y. k a y) (λ x y. refl)
      ∙ sym (run_bind e n d g L z)

  pub choose_free : {A : Type 0} (b : Bool) (c c' : Command σ A) (d d' : Command τ A) → Free c d → Free c' d' → Free (choose b c c') (choose b d d')
  choose_free true c c' d d' h k = h
  choose_free false c c' d d' h k = k

  pub raise_free : {A : Type 0} → Free {A = A} raise raise
  unfolding act
  raise_free z = refl

  pub made_free : {A : Type 0} (x : Made A) → Free (of_made x) (of_made x)
  made_free (makes a) z = refl
  made_free raises z = raise_free z
  made_free outside z = refl

  pub primitive_free : (h : Hint) (v : Value) → Free (primitive h v) (primitive h v)
  unfolding act
  primitive_free h v = choose_free (is_object v) (emit (Coerce h) (Item v ∷ [])) (ret v) (emit (Coerce h) (Item v ∷ [])) (ret v) (λ z. refl) (λ z. refl)

  pub numeric_free : (v : Value) → Free (numeric v) (numeric v)
  numeric_free v = bind_free (primitive ForNumber v) (primitive ForNumber v) (λ x. of_made (to_number x)) (λ x. of_made (to_number x)) (primitive_free ForNumber v) (λ x. made_free (to_number x))

  pub operate_free : (o : BinaryOperator) (a b : Value) → Free (operate o a b) (operate o a b)
  operate_free o a b =
      choose_free (is_of_primitives o) _ _ _ _
      (bind_free (primitive (hint_of o) a) (primitive (hint_of o) a) _ _ (primitive_free (hint_of o) a) (λ x. bind_free (primitive (hint_of o) b) (primitive (hint_of o) b) _ _ (primitive_free (hint_of o) b) (λ y. made_free (of_primitives o x y))))
      (bind_free (numeric a) (numeric a) _ _ (numeric_free a) (λ x. bind_free (numeric b) (numeric b) _ _ (numeric_free b) (λ y. made_free (of_numbers o x y))))

module _ (e : Environment) (m n : Naming) (K L : Kids (λ i. As Val)) where
  abbrev FreeOf : {A : Type 0} → Command (λ i. As Val) A → Type 0
  FreeOf c = (z : State) → run {q = λ i. As Val} e m K c z ≡ run {q = λ i. As Val} e n L c z

  option_free : (o : Option Bool) → FreeOf (of_option o)
  option_free (Some b) z = refl
  option_free None z = refl

  loosely_free : (v u : Value) → FreeOf (loosely v u)
  loosely_free v u =
      choose_free e m n (λ i. As Val) (λ i. As Val) K L (is_nullish v) _ _ _ _ (λ z. refl)
      (choose_free e m n (λ i. As Val) (λ i. As Val) K L (is_nullish u) _ _ _ _ (λ z. refl)
      (choose_free e m n (λ i. As Val) (λ i. As Val) K L (is_object v && is_object u) _ _ _ _ (λ z. refl)
      (bind_free e m n (λ i. As Val) (λ i. As Val) K L (primitive ForDefault v) (primitive ForDefault v) _ _ (primitive_free e m n (λ i. As Val) (λ i. As Val) K L ForDefault v)
      (λ x. bind_free e m n (λ i. As Val) (λ i. As Val) K L (primitive ForDefault u) (primitive ForDefault u) _ _ (primitive_free e m n (λ i. As Val) (λ i. As Val) K L ForDefault u) (λ y. option_free (loosely_equal x y))))))

  asked_free : (u : Value) (c : Command (λ i. As Val) Bool) → FreeOf c → FreeOf (asks_object u c)
  asked_free u c h = choose_free e m n (λ i. As Val) (λ i. As Val) K L (is_object u) _ _ _ _ (bind_free e m n (λ i. As Val) (λ i. As Val) K L c c (λ b. ret (Boolean b)) (λ b. ret (Boolean b)) h (λ b z. refl)) (λ z. raise_free e m n (λ i. As Val) (λ i. As Val) K L z)

  emitted_free : (l : Label) (es : List Entry) → FreeOf (emit l es)
  unfolding act
  emitted_free l es z = refl

  -- any operator does the same in any node
  pub operate_by_free : (o : BinaryOperator) (v u : Value) → FreeOf (operate_by o v u)
  operate_by_free binary_operator.Equality v u = bind_free e m n (λ i. As Val) (λ i. As Val) K L (loosely v u) (loosely v u) (λ c. ret (Boolean c)) (λ c. ret (Boolean c)) (loosely_free v u) (λ c z. refl)
  operate_by_free binary_operator.Inequality v u = bind_free e m n (λ i. As Val) (λ i. As Val) K L (loosely v u) (loosely v u) (λ c. ret (Boolean (not c))) (λ c. ret (Boolean (not c))) (loosely_free v u) (λ c z. refl)
  operate_by_free binary_operator.StrictEquality v u = λ z. refl
  operate_by_free binary_operator.StrictInequality v u = λ z. refl
  operate_by_free binary_operator.In v u = asked_free u (emit InOf (Item (key_value v) ∷ Item u ∷ [])) (emitted_free InOf (Item (key_value v) ∷ Item u ∷ []))
  operate_by_free binary_operator.Instanceof v u = asked_free u (emit InstanceOf (Item v ∷ Item u ∷ [])) (emitted_free InstanceOf (Item v ∷ Item u ∷ []))
  operate_by_free o v u = operate_free e m n (λ i. As Val) (λ i. As Val) K L o v u

-- ---- what an operator of numbers makes of the old value

abbrev pub sides : Environment → Tree → Tree → Kids (λ i. As Val)
sides e a b i r z = meaning e (a ▸ b ▸ none) i (As Val) r z

abbrev pub binary_names : BinaryOperator → Tree → Tree → Naming
binary_names o a b = naming (shape.BinaryExpression o) (As Val) [] 0 (summaries (a ▸ b ▸ none))

pub binary_value : (e : Environment) (o : BinaryOperator) (a b : Tree) (s : State) → value e (binary o a b) s ≡ either (value e a s) (λ v z. either (value e b z) (λ u y. run {q = λ i. As Val} e (binary_names o a b) (sides e a b) (operate_by o v u) y) (λ x y. stop x y)) (λ x z. stop x z)
unfolding means meaning step
binary_value e o a b s =
    either_cong (value e a s) _ _ _ _ (λ v z. either_cong (value e b z) _ _ _ _ (λ u y. run_bind e (binary_names o a b) (operate_by o v u) (reply (As Val) tt) (sides e a b) y ∙ either_eta (run {q = λ i. As Val} e (binary_names o a b) (sides e a b) (operate_by o v u) y)) (λ x y. refl)) (λ x z. refl)

computed : (e : Environment) (o : BinaryOperator) (c : AssignmentOperator) (x : Name) (b : Tree) (s : State) → either (means e (identifier x) Target (Fetch AName) s) (λ v z. either (value e b z) (λ u y. run {q = AssignDemand} e (assigning_names e c x b) (assigning_kids e x b) (bind (bind (operate o v u) (put_target AName)) (reply (As Val) tt)) y) (λ x y. stop x y)) (λ x z. stop x z) ≡ either (value e (identifier x) s) (λ v z. either (value e b z) (λ u y. puts e x (run {q = λ i. As Val} e (binary_names o (identifier x) b) (sides e (identifier x) b) (operate o v u) y)) (λ x y. stop x y)) (λ x z. stop x z)
unfolding meaning
computed e o c x b s =
    ap (λ y. either y (λ v z. either (value e b z) (λ u y. run {q = AssignDemand} e (assigning_names e c x b) (assigning_kids e x b) (bind (bind (operate o v u) (put_target AName)) (reply (As Val) tt)) y) (λ x y. stop x y)) (λ x z. stop x z)) (fetched e x AName s)
    ∙ either_cong (value e (identifier x) s) _ _ _ _ (λ v z. either_cong (value e b z) _ _ _ _ (λ u y. computes e (assigning_names e c x b) (assigning_kids e x b) (operate o v u) y ∙ ap (puts e x) (operate_free e (assigning_names e c x b) (binary_names o (identifier x) b) AssignDemand (λ i. As Val) (assigning_kids e x b) (sides e (identifier x) b) o v u y)) (λ x y. refl)) (λ x z. refl)

-- the same as what is assigned of the operator's value
pub written_out : (e : Environment) (o : BinaryOperator) (x : Name) (b : Tree) (s : State) → puts e x (value e (binary o (identifier x) b) s) ≡ either (value e (identifier x) s) (λ v z. either (value e b z) (λ u y. puts e x (run {q = λ i. As Val} e (binary_names o (identifier x) b) (sides e (identifier x) b) (operate_by o v u) y)) (λ x y. stop x y)) (λ x z. stop x z)
written_out e o x b s = ap (puts e x) (binary_value e o (identifier x) b s) ∙ simp runs

abbrev SameValue : Environment → BinaryOperator → Name → Tree → State → AssignmentOperator → Type 0
SameValue e o x b s c = puts e x (value e (binary o (identifier x) b) s) ≡ value e (assignment c (identifier x) b) s

pub computing_value : (e : Environment) (o : BinaryOperator) (c : AssignmentOperator) → computing o ≡ Some c → (x : Name) (b : Tree) (s : State) → SameValue e o x b s c
unfolding means meaning step either
computing_value e binary_operator.Addition c h x b s = subst (SameValue e binary_operator.Addition x b s) {x = assigning.Addition} {y = c} (cc h) (written_out e binary_operator.Addition x b s ∙ sym (computed e binary_operator.Addition assigning.Addition x b s))
computing_value e binary_operator.Subtraction c h x b s = subst (SameValue e binary_operator.Subtraction x b s) {x = assigning.Subtraction} {y = c} (cc h) (written_out e binary_operator.Subtraction x b s ∙ sym (computed e binary_operator.Subtraction assigning.Subtraction x b s))
computing_value e binary_operator.Multiplication c h x b s = subst (SameValue e binary_operator.Multiplication x b s) {x = assigning.Multiplication} {y = c} (cc h) (written_out e binary_operator.Multiplication x b s ∙ sym (computed e binary_operator.Multiplication assigning.Multiplication x b s))
computing_value e binary_operator.Division c h x b s = subst (SameValue e binary_operator.Division x b s) {x = assigning.Division} {y = c} (cc h) (written_out e binary_operator.Division x b s ∙ sym (computed e binary_operator.Division assigning.Division x b s))
computing_value e binary_operator.Remainder c h x b s = subst (SameValue e binary_operator.Remainder x b s) {x = assigning.Remainder} {y = c} (cc h) (written_out e binary_operator.Remainder x b s ∙ sym (computed e binary_operator.Remainder assigning.Remainder x b s))
computing_value e binary_operator.Exponential c h x b s = subst (SameValue e binary_operator.Exponential x b s) {x = assigning.Exponential} {y = c} (cc h) (written_out e binary_operator.Exponential x b s ∙ sym (computed e binary_operator.Exponential assigning.Exponential x b s))
computing_value e binary_operator.ShiftLeft c h x b s = subst (SameValue e binary_operator.ShiftLeft x b s) {x = assigning.ShiftLeft} {y = c} (cc h) (written_out e binary_operator.ShiftLeft x b s ∙ sym (computed e binary_operator.ShiftLeft assigning.ShiftLeft x b s))
computing_value e binary_operator.ShiftRight c h x b s = subst (SameValue e binary_operator.ShiftRight x b s) {x = assigning.ShiftRight} {y = c} (cc h) (written_out e binary_operator.ShiftRight x b s ∙ sym (computed e binary_operator.ShiftRight assigning.ShiftRight x b s))
computing_value e binary_operator.ShiftRightZeroFill c h x b s = subst (SameValue e binary_operator.ShiftRightZeroFill x b s) {x = assigning.ShiftRightZeroFill} {y = c} (cc h) (written_out e binary_operator.ShiftRightZeroFill x b s ∙ sym (computed e binary_operator.ShiftRightZeroFill assigning.ShiftRightZeroFill x b s))
computing_value e binary_operator.BitwiseAnd c h x b s = subst (SameValue e binary_operator.BitwiseAnd x b s) {x = assigning.BitwiseAnd} {y = c} (cc h) (written_out e binary_operator.BitwiseAnd x b s ∙ sym (computed e binary_operator.BitwiseAnd assigning.BitwiseAnd x b s))
computing_value e binary_operator.BitwiseXor c h x b s = subst (SameValue e binary_operator.BitwiseXor x b s) {x = assigning.BitwiseXor} {y = c} (cc h) (written_out e binary_operator.BitwiseXor x b s ∙ sym (computed e binary_operator.BitwiseXor assigning.BitwiseXor x b s))
computing_value e binary_operator.BitwiseOr c h x b s = subst (SameValue e binary_operator.BitwiseOr x b s) {x = assigning.BitwiseOr} {y = c} (cc h) (written_out e binary_operator.BitwiseOr x b s ∙ sym (computed e binary_operator.BitwiseOr assigning.BitwiseOr x b s))
computing_value e o c h x b s = absurd (cc h)

-- ---- two parts in order

pair_told : (a b : Tree) (e : Environment) (q : Demand) (r : Request q) (s : State) → means e (pair a b) q r s ≡ asked q r (value e (pair a b) s)
unfolding means meaning step asked
pair_told a b e (As w) r s = coherent (pair a b) w e s
pair_told a b e Callee r s = after_value e (naming shape.SequenceExpression Callee [] 0 (summaries (listed (a ▸ b ▸ none) ▸ none))) (λ i. Parts Val) (λ i r z. meaning e (listed (a ▸ b ▸ none) ▸ none) i (Parts Val) r z) (sequence_step Val) (λ v. ret (plain_call v)) s
pair_told a b e OfType r s = after_value e (naming shape.SequenceExpression OfType [] 0 (summaries (listed (a ▸ b ▸ none) ▸ none))) (λ i. Parts Val) (λ i r z. meaning e (listed (a ▸ b ▸ none) ▸ none) i (Parts Val) r z) (sequence_step Val) (λ v. ret v) s
pair_told a b e Deleted r s = after_value e (naming shape.SequenceExpression Deleted [] 0 (summaries (listed (a ▸ b ▸ none) ▸ none))) (λ i. Parts Val) (λ i r z. meaning e (listed (a ▸ b ▸ none) ▸ none) i (Parts Val) r z) (sequence_step Val) (λ v. ret (AValue v)) s
pair_told a b e AnEntry r s = after_value e (naming shape.SequenceExpression AnEntry [] 0 (summaries (listed (a ▸ b ▸ none) ▸ none))) (λ i. Parts Val) (λ i r z. meaning e (listed (a ▸ b ▸ none) ▸ none) i (Parts Val) r z) (sequence_step Val) (λ v. ret (Item v)) s
pair_told a b e q r s = refl

pub pair_tells : (a b : Tree) → Tells (pair a b)
pair_tells a b = record { by = pair_told a b }

unused_told : (e : Environment) (a : Tree) (s : State) → means e a (As Unused) tt s ≡ either (value e a s) (λ v z. ok tt z) (λ x z. stop x z)
unfolding told
unused_told e a s = coherent a Unused e s

pub pair_value : (e : Environment) (a b : Tree) (s : State) → value e (pair a b) s ≡ either (value e a s) (λ v z. value e b z) (λ x z. stop x z)
unfolding means meaning step
pair_value e a b s = rw (unused_told e a s) (simp runs refl)

-- ---- what is read of a name

-- it is outside the model, or gives a value and changes nothing
abbrev pub Reading : Completion Value → State → Type 0
Reading y s = (y ≡ out) ⊎ ((v : Value) × (y ≡ ok v s))

slot_read : (k : Slot) (s : State) → Reading (read_slot k s) s
unfolding read_slot
slot_read (Holds v) s = inr (v, refl)
slot_read Missing s = inl refl
slot_read Uninitialised s = inl refl

read_again : (y : Completion Value) (s : State) → Reading y s → Reading (either y (λ v z. ok v z) (λ x z. stop x z)) s
read_again y s r = subst (λ x. Reading x s) (sym (either_eta y)) r

name_read : (e : Environment) (n : Naming) (σ : ℕ → Demand) (K : Kids σ) (y : ℕ) → n.own ≡ Declared y ∷ [] → (k : NameKind) (s : State) → Reading (run {q = σ} e n K (bind (get_identifier k) (λ v. ret v)) s) s
unfolding act at_variable
name_read e n σ K y h UndefinedName s = inr (Undefined, refl)
name_read e n σ K y h NumberName s = inl refl
name_read e n σ K y h k s = subst (λ ys. Reading (either (act e (record n { own = ys }) (read 0) s) (λ v z. ok v z) (λ x z. stop x z)) s) (sym h) (read_again (read_slot (s.vars (Declared y)) s) s (slot_read (s.vars (Declared y)) s))

-- of a name that a scope declares
pub reading : (e : Environment) (x : Name) → is_none x.symbol ≡ false → (s : State) → Reading (value e (identifier x) s) s
unfolding means step
reading e x declared s = by x.symbol refl declared
  where
    by : (o : Option SymbolId) → x.symbol ≡ o → is_none o ≡ false → Reading (value e (identifier x) s) s
    by (Some k) p h = name_read e (naming shape.Identifier (As Val) (variables (x ∷ [])) 0 []) (λ i. Stat None) (λ i r z. meaning e none i (Stat None) r z) k.0 (ap (λ o. variable_by x.spelling o ∷ []) p) (kind_of x) s
    by None p h = absurd (true≢false h)

-- it gives no value, as of a name that is absent
abbrev pub Breaks : Completion Value → Type 0
Breaks (ok v s) = ⊥
Breaks y = Unit {0}

-- of any name: it gives none, or gives one and changes nothing
abbrev Reads : Completion Value → State → Type 0
Reads y s = Breaks y ⊎ ((v : Value) × (y ≡ ok v s))

pub raised_breaks : (e : Environment) (answers : List Answer) (s : State) → Breaks (answered e (Raise ReferenceError) answers s)
unfolding answered heard
raised_breaks e [] s = tt
raised_breaks e (a ∷ rest) s = by a.given
  where
    by : (g : Given) → Breaks (heard (hear (Raise ReferenceError) g) (record s { vars = news_of e.foreign s.vars a.news; answers = rest }))
    by (Normal v) = tt
    by (Throws v) = tt
    by Finished = tt
    by (Returning v) = tt
    by Shortens = tt

slot_reads : (e : Environment) (y : Variable) (k : Slot) (s : State) → Reads (read_name e y k s) s
unfolding read_slot
slot_reads e (Declared n) (Holds v) s = inr (v, refl)
slot_reads e (Declared n) Missing s = inl tt
slot_reads e (Declared n) Uninitialised s = inl tt
slot_reads e (Global t) (Holds v) s = inr (v, refl)
slot_reads e (Global t) Missing s = inl (raised_breaks e s.answers (note e (Raise ReferenceError) None [] None s))
slot_reads e (Global t) Uninitialised s = inl tt

name_reads : (e : Environment) (n : Naming) (σ : ℕ → Demand) (K : Kids σ) (y : Variable) → n.own ≡ y ∷ [] → (k : NameKind) (s : State) → Reads (run {q = σ} e n K (bind (get_identifier k) (λ v. ret v)) s) s
unfolding act at_variable
name_reads e n σ K y h UndefinedName s = inr (Undefined, refl)
name_reads e n σ K y h NumberName s = inl tt
name_reads e n σ K y h k s = subst (λ ys. Reads (either (act e (record n { own = ys }) (read 0) s) (λ v z. ok v z) (λ x z. stop x z)) s) (sym h) (subst (λ x. Reads x s) (sym (either_eta (read_name e y (s.vars y) s))) (slot_reads e y (s.vars y) s))

reads : (e : Environment) (x : Name) (s : State) → Reads (value e (identifier x) s) s
unfolding means step
reads e x s = name_reads e (naming shape.Identifier (As Val) (variables (x ∷ [])) 0 []) (λ i. Stat None) (λ i r z. meaning e none i (Stat None) r z) (variable_of x) refl (kind_of x) s

no_value : (y : Completion Value) → Breaks y → (f g : Value → State → Completion Value) → either y f (λ x z. stop x z) ≡ either y g (λ x z. stop x z)
unfolding either
no_value (ok v s) b f g = absurd b
no_value (stop x s) b f g = refl
no_value (halt x s) b f g = refl
no_value out b f g = refl

-- so what follows it may know the value
pub by_told : (y : Completion Value) (s : State) → Reading y s → (f g : Value → State → Completion Value) → ((v : Value) → y ≡ ok v s → f v s ≡ g v s) → either y f (λ x z. stop x z) ≡ either y g (λ x z. stop x z)
unfolding either
by_told y s (inl o) f g h = ap (λ y. either y f (λ x z. stop x z)) o ∙ sym (ap (λ y. either y g (λ x z. stop x z)) o)
by_told y s (inr (v, k)) f g h = ap (λ y. either y f (λ x z. stop x z)) k ∙ h v k ∙ sym (ap (λ y. either y g (λ x z. stop x z)) k)

pub by_reading : (e : Environment) (x : Name) (s : State) (f g : Value → State → Completion Value) → ((v : Value) → value e (identifier x) s ≡ ok v s → f v s ≡ g v s) → either (value e (identifier x) s) f (λ x z. stop x z) ≡ either (value e (identifier x) s) g (λ x z. stop x z)
by_reading e x s f g h = by (reads e x s)
  where
    by : Reads (value e (identifier x) s) s → either (value e (identifier x) s) f (λ x z. stop x z) ≡ either (value e (identifier x) s) g (λ x z. stop x z)
    by (inl b) = no_value (value e (identifier x) s) b f g
    by (inr r) = by_told (value e (identifier x) s) s (inr r) f g h

-- ---- what a strict comparison says of it

pub strict_told : (e : Environment) (o : BinaryOperator) (x : Name) (f : Tree) (u : Value) (p : Value → Bool) → ((v : Value) (z : State) → run {q = λ i. As Val} e (binary_names o (identifier x) f) (sides e (identifier x) f) (operate_by o v u) z ≡ ok (Boolean (p v)) z) → ((s : State) → value e f s ≡ ok u s) → (s : State) → value e (binary o (identifier x) f) s ≡ either (value e (identifier x) s) (λ v z. ok (Boolean (p v)) z) (λ x z. stop x z)
strict_told e o x f u p h g s =
    binary_value e o (identifier x) f s
    ∙ either_cong (value e (identifier x) s) _ _ _ _
    (λ v z.
    ap (λ y. either y (λ u k. run {q = λ i. As Val} e (binary_names o (identifier x) f) (sides e (identifier x) f) (operate_by o v u) k) (λ x k. stop x k)) (g z)
    ∙ either_ok u z _ _
    ∙ h v z)
    (λ x z. refl)

binary_told : (o : BinaryOperator) (a b : Tree) (e : Environment) (q : Demand) (r : Request q) (s : State) → means e (binary o a b) q r s ≡ asked q r (value e (binary o a b) s)
unfolding means meaning step asked
binary_told o a b e (As w) r s = coherent (binary o a b) w e s
binary_told o a b e Callee r s = after_value e (naming (shape.BinaryExpression o) Callee [] 0 (summaries (a ▸ b ▸ none))) (λ i. As Val) (λ i r z. meaning e (a ▸ b ▸ none) i (As Val) r z) (binary_step o) (λ v. ret (plain_call v)) s
binary_told o a b e OfType r s = after_value e (naming (shape.BinaryExpression o) OfType [] 0 (summaries (a ▸ b ▸ none))) (λ i. As Val) (λ i r z. meaning e (a ▸ b ▸ none) i (As Val) r z) (binary_step o) (λ v. ret v) s
binary_told o a b e Deleted r s = after_value e (naming (shape.BinaryExpression o) Deleted [] 0 (summaries (a ▸ b ▸ none))) (λ i. As Val) (λ i r z. meaning e (a ▸ b ▸ none) i (As Val) r z) (binary_step o) (λ v. ret (AValue v)) s
binary_told o a b e AnEntry r s = after_value e (naming (shape.BinaryExpression o) AnEntry [] 0 (summaries (a ▸ b ▸ none))) (λ i. As Val) (λ i r z. meaning e (a ▸ b ▸ none) i (As Val) r z) (binary_step o) (λ v. ret (Item v)) s
binary_told o a b e q r s = refl

pub binary_tells : (o : BinaryOperator) (a b : Tree) → Tells (binary o a b)
binary_tells o a b = record { by = binary_told o a b }

-- ---- whether it is null or undefined

pub null_value : (e : Environment) (s : State) → value e null_literal s ≡ ok Null s
unfolding means step
null_value e s = refl

pub undefined_value : (e : Environment) (v : Tree) → IsUndefined v → (s : State) → value e v s ≡ ok Undefined s
unfolding means meaning step either
undefined_value e v (inl h) s = subst (λ (x : Tree). value e x s ≡ ok Undefined s) (sym h) refl
undefined_value e v (inr h) s = subst (λ (x : Tree). value e x s ≡ ok Undefined s) (sym h) refl

compared : (e : Environment) (names : Naming) (K : Kids (λ i. As Val)) (b : Bool) (f : Bool → Bool) (s : State) → run {q = λ i. As Val} e names K (bind (choose b (ret true) (ret false)) (λ x. ret (Boolean (f x)))) s ≡ ok (Boolean (f b)) s
compared e names K true f s = refl
compared e names K false f s = refl

beside_null : (e : Environment) (o : BinaryOperator) (x : Name) (f : Bool → Bool) → ((v : Value) (z : State) → run {q = λ i. As Val} e (binary_names o (identifier x) null_literal) (sides e (identifier x) null_literal) (operate_by o v Null) z ≡ ok (Boolean (f (is_nullish v))) z) → (s : State) → value e (binary o (identifier x) null_literal) s ≡ either (value e (identifier x) s) (λ v z. ok (Boolean (f (is_nullish v))) z) (λ x z. stop x z)
beside_null e o x f h s =
    binary_value e o (identifier x) null_literal s
    ∙ either_cong (value e (identifier x) s) _ _ _ _
    (λ v z.
    ap (λ y. either y (λ u k. run {q = λ i. As Val} e (binary_names o (identifier x) null_literal) (sides e (identifier x) null_literal) (operate_by o v u) k) (λ x k. stop x k)) (null_value e z)
    ∙ either_ok Null z _ _
    ∙ h v z)
    (λ x z. refl)

pub equal_null : (e : Environment) (x : Name) (s : State) → value e (binary binary_operator.Equality (identifier x) null_literal) s ≡ either (value e (identifier x) s) (λ v z. ok (Boolean (is_nullish v)) z) (λ x z. stop x z)
equal_null e x = beside_null e binary_operator.Equality x (λ b. b) (λ v z. compared e (binary_names binary_operator.Equality (identifier x) null_literal) (sides e (identifier x) null_literal) (is_nullish v) (λ b. b) z)

pub unequal_null : (e : Environment) (x : Name) (s : State) → value e (binary binary_operator.Inequality (identifier x) null_literal) s ≡ either (value e (identifier x) s) (λ v z. ok (Boolean (not (is_nullish v))) z) (λ x z. stop x z)
unequal_null e x = beside_null e binary_operator.Inequality x not (λ v z. compared e (binary_names binary_operator.Inequality (identifier x) null_literal) (sides e (identifier x) null_literal) (is_nullish v) not z)
