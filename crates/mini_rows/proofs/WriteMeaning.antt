-- What each row of names that can be written writes means the same where they can.
use Rattle.std.proofs.Common.{◌≡◌, ℕ, List, [], ◌∷◌, Bool, true, false, refl, sym, ap, subst, ◌∙◌, true≢false}
use Rattle.std.specs.Prelude.{codes, nat_eq, not, if◌then◌else◌, None}
use Rattle.std.proofs.lemmas.Bool.{eqb-true, eq-eqb}
use Rattle.mini_model.specs.declared.name.Name.{Name}
use Rattle.mini_model.specs.declared.operator.AssignmentOperator.TheVariants.{Assign}
use Rattle.mini_model.specs.declared.operator.BinaryOperator.{BinaryOperator}
use Rattle.mini_model.specs.declared.operator.BinaryOperator.TheVariants.{Equality, Inequality}
use Rattle.mini_model.specs.declared.operator.LogicalOperator.{LogicalOperator}
use Rattle.mini_model.specs.declared.operator.LogicalOperator.TheVariants.{Coalesce}
use Rattle.mini_model.specs.declared.shape.Shape.TheVariants as shape
use Rattle.mini_model.specs.Tree.{Tree, none, identifier, logical, conditional, null_literal}
use Rattle.mini_model.specs.Weight.{same_text}
use Rattle.mini_laws.specs.Value.{Value, Null, Boolean, Variable, VariableSet, Declared, Global, Slot, Holds, Missing, Uninitialised, choose, truth, is_nullish, nothing}
use Rattle.mini_laws.specs.State.{State, Completion, ok, stop, halt, out, either, Environment, Writes, with_vars}
use Rattle.mini_laws.specs.Demand.{Demand, Stat, Target, As, Val}
use Rattle.mini_laws.specs.Command.{Naming, Kids, ret, bind, set_var, read_slot, write_slot, at_variable, act, run}
use Rattle.mini_laws.specs.Naming.{NameKind, PlainName, EvalName, UndefinedName, NumberName, kind_declared, kind_of, naming, summary}
use Rattle.mini_laws.specs.Expressions.{get_identifier, operate_by}
use Rattle.mini_laws.specs.Replies.{by_fixity}
use Rattle.mini_laws.specs.Same.{Goes, Agree, Same, Initialised}
use Rattle.mini_laws.specs.Targets.{assigns, put_identifier}
use Rattle.mini_laws.specs.Step.{step, means, meaning}
use Rattle.mini_laws.proofs.Congruent.{reflexive}
use Rattle.mini_laws.proofs.Rows.{by_equality}
use Rattle.mini_laws.proofs.Runs.{either_assoc, either_cong, either_eta, either_ok, either_stop, runs}
use Rattle.mini_rows.specs.Choices.{assign, deciding}
use Rattle.mini_rows.specs.Spellings.{assignment, binary}
use Rattle.mini_rows.specs.Unused.{resolved}
use Rattle.mini_rows.specs.Writes.{Row34, if_null, Row46Assigned}
use Rattle.mini_rows.proofs.ChoiceRuns.{value, put, puts, asked, Tells, assign_value, assignment_tells, conditional_value, conditional_tells, logical_value, logical_tells, deciding_value, by_reading, null_value, binary_value, binary_names, sides}

-- ---- what a comparison with null says of any expression

compared : (e : Environment) (names : Naming) (K : Kids (λ i. As Val)) (b : Bool) (f : Bool → Bool) (s : State) → run {q = λ i. As Val} e names K (bind (choose b (ret true) (ret false)) (λ x. ret (Boolean (f x)))) s ≡ ok (Boolean (f b)) s
compared e names K true f s = refl
compared e names K false f s = refl

beside_null : (e : Environment) (o : BinaryOperator) (a : Tree) (f : Bool → Bool) → ((v : Value) (z : State) → run {q = λ i. As Val} e (binary_names o a null_literal) (sides e a null_literal) (operate_by o v Null) z ≡ ok (Boolean (f (is_nullish v))) z) → (s : State) → value e (binary o a null_literal) s ≡ either (value e a s) (λ v z. ok (Boolean (f (is_nullish v))) z) (λ x z. stop x z)
beside_null e o a f h s =
    binary_value e o a null_literal s
    ∙ either_cong (value e a s) _ _ _ _
    (λ v z.
    ap (λ y. either y (λ u k. run {q = λ i. As Val} e (binary_names o a null_literal) (sides e a null_literal) (operate_by o v u) k) (λ x k. stop x k)) (null_value e z)
    ∙ either_ok Null z _ _
    ∙ h v z)
    (λ x z. refl)

pub equal_null : (e : Environment) (a : Tree) (s : State) → value e (binary Equality a null_literal) s ≡ either (value e a s) (λ v z. ok (Boolean (is_nullish v)) z) (λ x z. stop x z)
equal_null e a = beside_null e Equality a (λ b. b) (λ v z. compared e (binary_names Equality a null_literal) (sides e a null_literal) (is_nullish v) (λ b. b) z)

pub unequal_null : (e : Environment) (a : Tree) (s : State) → value e (binary Inequality a null_literal) s ≡ either (value e a s) (λ v z. ok (Boolean (not (is_nullish v))) z) (λ x z. stop x z)
unequal_null e a = beside_null e Inequality a not (λ v z. compared e (binary_names Inequality a null_literal) (sides e a null_literal) (is_nullish v) not z)

-- ---- names that a scope declares

abbrev is_plain : NameKind → Bool
is_plain PlainName = true
is_plain EvalName = true
is_plain k = false

declared_plain : (s : List ℕ) → is_plain (kind_declared s) ≡ true
declared_plain s = by (same_text s (codes "eval"))
  where
    by : (b : Bool) → is_plain (if b then EvalName else PlainName) ≡ true
    by true = refl
    by false = refl

pub holds_read : (k : Slot) (v : Value) (s : State) → read_slot k s ≡ ok v s → k ≡ Holds v
unfolding read_slot
holds_read (Holds w) v s e = cc e
holds_read Missing v s e = absurd (cc e)
holds_read Uninitialised v s e = absurd (cc e)

module _ (e : Environment) (spelling : List ℕ) (k : ℕ) where
  abbrev x : Name
  x = resolved spelling k

  read_by : (n : NameKind) → is_plain n ≡ true → (s : State) → run {q = λ i. Stat None} e (naming shape.Identifier (As Val) (Declared k ∷ []) 0 []) (λ i r z. meaning e none i (Stat None) r z) (bind (get_identifier n) (λ v. ret v)) s ≡ either (read_slot (s.vars (Declared k)) s) (λ v z. ok v z) (λ x z. stop x z)
  unfolding act at_variable
  read_by PlainName h s = refl
  read_by EvalName h s = refl
  read_by UndefinedName h s = absurd (true≢false (sym h))
  read_by NumberName h s = absurd (true≢false (sym h))

  -- a read of it gives what it holds
  pub read_value : (s : State) → value e (identifier x) s ≡ read_slot (s.vars (Declared k)) s
  unfolding means step
  read_value s = read_by (kind_of x) (declared_plain spelling) s ∙ either_eta (read_slot (s.vars (Declared k)) s)

  module _ (free : e.fixed (Declared k) ≡ Writes) where
    put_by : (n : NameKind) → is_plain n ≡ true → (v : Value) (s : State) → run {q = λ i. Stat None} e (naming shape.Identifier Target (Declared k ∷ []) 0 []) (λ i r z. meaning e none i (Stat None) r z) (put_identifier n v) s ≡ either (write_slot (Declared k) v (s.vars (Declared k)) s) (λ u z. ok u z) (λ x z. stop x z)
    unfolding act at_variable either
    put_by PlainName h v s = ap (λ f. run {q = λ i. Stat None} e (naming shape.Identifier Target (Declared k ∷ []) 0 []) (λ i r z. meaning e none i (Stat None) r z) (by_fixity v f) s) free
    put_by EvalName h v s = ap (λ f. run {q = λ i. Stat None} e (naming shape.Identifier Target (Declared k ∷ []) 0 []) (λ i r z. meaning e none i (Stat None) r z) (by_fixity v f) s) free
    put_by UndefinedName h v s = absurd (true≢false (sym h))
    put_by NumberName h v s = absurd (true≢false (sym h))

    -- a write of it writes
    pub put_value : (v : Value) (s : State) → put e x v s ≡ write_slot (Declared k) v (s.vars (Declared k)) s
    unfolding means step
    put_value v s = put_by (kind_of x) (declared_plain spelling) v s ∙ either_eta (write_slot (Declared k) v (s.vars (Declared k)) s)

    -- of what it holds that changes nothing
    held_var : (v : Value) (vars : Variable → Slot) → vars (Declared k) ≡ Holds v → (y : Variable) → set_var vars (Declared k) (Holds v) y ≡ vars y
    held_var v vars h (Declared m) = by (nat_eq k m) refl
      where
        by : (b : Bool) → nat_eq k m ≡ b → choose b (Holds v) (vars (Declared m)) ≡ vars (Declared m)
        by true q = sym h ∙ ap (λ j. vars (Declared j)) (eqb-true k m q)
        by false q = refl
    held_var v vars h (Global t) = refl

    held_state : (v : Value) (s : State) → s.vars (Declared k) ≡ Holds v → with_vars s (set_var s.vars (Declared k) (Holds v)) ≡ s
    held_state v s h = λ j. with_vars s (λ y. held_var v s.vars h y j)

    put_held : (v : Value) (s : State) → value e (identifier x) s ≡ ok v s → put e x v s ≡ ok tt s
    unfolding write_slot
    put_held v s r =
        let h = holds_read (s.vars (Declared k)) v s (sym (read_value s) ∙ r) in
        put_value v s ∙ ap (λ c. write_slot (Declared k) v c s) h ∙ ap (ok tt) (held_state v s h)

    puts_held : (v : Value) (s : State) → value e (identifier x) s ≡ ok v s → puts e x (ok v s) ≡ ok v s
    puts_held v s r = either_ok v s _ _ ∙ ap (λ y. either y (λ u z. ok v z) (λ x z. stop x z)) (put_held v s r) ∙ either_ok tt s _ _

    -- ---- 34

    decides : (b : Bool) (y : Completion Value) (v : Value) (s : State) → value e (identifier x) s ≡ ok v s → puts e x (choose b y (ok v s)) ≡ choose b (puts e x y) (ok v s)
    decides true y v s r = refl
    decides false y v s r = puts_held v s r

    put_after : (y : Completion Value) (f : Value → State → Completion Value) → puts e x (either y f (λ x z. stop x z)) ≡ either y (λ v z. puts e x (f v z)) (λ x z. stop x z)
    put_after y f = either_assoc y f (λ x z. stop x z) _ _ ∙ either_cong y _ _ _ _ (λ v z. refl) (λ x z. either_stop x z _ _)

    combined_value : (o : LogicalOperator) (b : Tree) (s : State) → value e (assign x (logical o (identifier x) b)) s ≡ value e (assignment (deciding o) (identifier x) b) s
    combined_value o b s =
        assign_value e x (logical o (identifier x) b) s
        ∙ ap (puts e x) (logical_value e o (identifier x) b s)
        ∙ put_after (value e (identifier x) s) (λ v z. choose (assigns o v) (value e b z) (ok v z))
        ∙ by_reading e x s (λ v z. puts e x (choose (assigns o v) (value e b z) (ok v z))) (λ v z. choose (assigns o v) (puts e x (value e b z)) (ok v z)) (λ v r. decides (assigns o v) (value e b s) v s r)
        ∙ sym (deciding_value e o x b s)

    -- ---- 46

    -- where an assignment ends with a value, the name holds it
    abbrev pub Wrote : Completion Value → Type 0
    Wrote (ok v z) = z.vars (Declared k) ≡ Holds v
    Wrote y = Unit {0}

    by_slot : (c : Slot) (v : Value) (z : State) → Wrote (either (write_slot (Declared k) v c z) (λ u j. ok v j) (λ x j. stop x j))
    unfolding write_slot either
    by_slot (Holds w) v z = ap (λ b. choose b (Holds v) (z.vars (Declared k))) (eq-eqb k k refl)
    by_slot Missing v z = tt
    by_slot Uninitialised v z = tt

    pub wrote : (y : Completion Value) → Wrote (puts e x y)
    unfolding either
    wrote (ok v z) = subst (λ c. Wrote (either c (λ u j. ok v j) (λ x j. stop x j))) (sym (put_value v z)) (by_slot (z.vars (Declared k)) v z)
    wrote (stop c z) = tt
    wrote (halt c z) = tt
    wrote out = tt

    pub by_writing : (y : Completion Value) → Wrote y → (f g : Value → State → Completion Value) → ((v : Value) (z : State) → z.vars (Declared k) ≡ Holds v → f v z ≡ g v z) → either y f (λ x z. stop x z) ≡ either y g (λ x z. stop x z)
    unfolding either
    by_writing (ok v z) w f g h = h v z w
    by_writing (stop c z) w f g h = refl
    by_writing (halt c z) w f g h = refl
    by_writing out w f g h = refl

    pub held_value : (v : Value) (z : State) → z.vars (Declared k) ≡ Holds v → value e (identifier x) z ≡ ok v z
    unfolding read_slot
    held_value v z h = read_value z ∙ ap (λ c. read_slot c z) h

    -- what a conditional does that asks whether what is assigned is null or undefined
    assigned_value : (a b t y n : Tree) (f : Bool → Bool) → ((s : State) → value e t s ≡ either (value e (assign x a) s) (λ v z. ok (Boolean (f (is_nullish v))) z) (λ x z. stop x z)) → ((v : Value) (z : State) → z.vars (Declared k) ≡ Holds v → choose (f (is_nullish v)) (value e y z) (value e n z) ≡ choose (is_nullish v) (value e b z) (ok v z)) → (s : State) → value e (conditional t y n) s ≡ value e (logical Coalesce (assign x a) b) s
    assigned_value a b t y n f told same s =
        conditional_value e t y n s
        ∙ ap (λ c. either c (λ v z. choose (truth v) (value e y z) (value e n z)) (λ x z. stop x z)) (told s)
        ∙ simp runs (by_writing (value e (assign x a) s) (subst Wrote (sym (assign_value e x a s)) (wrote (value e a s))) (λ v z. choose (f (is_nullish v)) (value e y z) (value e n z)) (λ v z. choose (is_nullish v) (value e b z) (ok v z)) same)
        ∙ sym (logical_value e Coalesce (assign x a) b s)

    otherwise : (b : Tree) (g : Bool) (v : Value) (z : State) → z.vars (Declared k) ≡ Holds v → choose g (value e b z) (value e (identifier x) z) ≡ choose g (value e b z) (ok v z)
    otherwise b g v z h = ap (λ y. choose g (value e b z) y) (held_value v z h)

    turned : (b : Tree) (g : Bool) (v : Value) (z : State) → z.vars (Declared k) ≡ Holds v → choose (not g) (value e (identifier x) z) (value e b z) ≡ choose g (value e b z) (ok v z)
    turned b true v z h = refl
    turned b false v z h = held_value v z h

    asked_value : (equal : Bool) (a b : Tree) (s : State) → value e (if_null equal (assign x a) b (identifier x)) s ≡ value e (logical Coalesce (assign x a) b) s
    asked_value true a b s = assigned_value a b (binary Equality (assign x a) null_literal) b (identifier x) (λ g. g) (equal_null e (assign x a)) (λ v z. otherwise b (is_nullish v) v z) s
    asked_value false a b s = assigned_value a b (binary Inequality (assign x a) null_literal) (identifier x) b not (unequal_null e (assign x a)) (λ v z. turned b (is_nullish v) v z) s

pub if_null_tells : (equal : Bool) (t b y : Tree) → Tells (if_null equal t b y)
if_null_tells true t b y = conditional_tells (binary Equality t null_literal) b y
if_null_tells false t b y = conditional_tells (binary Inequality t null_literal) y b

-- what has the same value there is the same
pub same_there : (e : Environment) (n w : Tree) → Tells n → Tells w → ((s : State) → value e n s ≡ value e w s) → (q : Demand) → Same e nothing nothing q n w
same_there e n w t u h q = by_equality e nothing nothing q n w (λ r s. t.by e q r s ∙ ap (asked q r) (h s) ∙ sym (u.by e q r s))

-- and so from where some variables have values
pub same_where : (e : Environment) (X : VariableSet) (n w : Tree) → Tells n → Tells w → ((s : State) → Initialised X s → value e n s ≡ value e w s) → (q : Demand) → Same e nothing X q n w
same_where e X n w t u h q =
    record { by = λ r s i. subst (Goes true (λ a. Agree nothing) (Agree nothing) (Agree nothing) (means e n q r s)) (t.by e q r s ∙ ap (asked q r) (h s i) ∙ sym (u.by e q r s)) ((reflexive e nothing X q n).by r s i) }

pub combined_same : (W : VariableSet) (n w : Tree) (r : Row34 W n w) (e : Environment) → ((y : Variable) → W y ≡ true → e.fixed y ≡ Writes) → (q : Demand) → Same e nothing nothing q n w
combined_same W n w r e z q =
    let x : Name = resolved r.spelling r.symbol in
    subst (λ t. Same e nothing nothing q t w) (sym r.shape)
    (subst (λ t. Same e nothing nothing q (assign x (logical r.operator (identifier x) r.b)) t) (sym r.written)
    (same_there e (assign x (logical r.operator (identifier x) r.b)) (assignment (deciding r.operator) (identifier x) r.b) (assignment_tells Assign (identifier x) (logical r.operator (identifier x) r.b)) (assignment_tells (deciding r.operator) (identifier x) r.b)
    (combined_value e r.spelling r.symbol (z (Declared r.symbol) r.writable) r.operator r.b) q))

pub assigned_same : (W : VariableSet) (n w : Tree) (r : Row46Assigned W n w) (e : Environment) → ((y : Variable) → W y ≡ true → e.fixed y ≡ Writes) → (q : Demand) → Same e nothing nothing q n w
assigned_same W n w r e z q =
    let x : Name = resolved r.spelling r.symbol in
    let before : Tree = if_null r.equal (assign x r.a) r.b (identifier x) in
    subst (λ t. Same e nothing nothing q t w) (sym r.shape)
    (subst (λ t. Same e nothing nothing q before t) (sym r.written)
    (same_there e before (logical Coalesce (assign x r.a) r.b) (if_null_tells r.equal (assign x r.a) r.b (identifier x)) (logical_tells Coalesce (assign x r.a) r.b)
    (asked_value e r.spelling r.symbol (z (Declared r.symbol) r.writable) r.equal r.a r.b) q))

pub if_null_read : (equal : Bool) (t b y u v : Tree) → summary (if_null equal t b y) ≡ summary (logical Coalesce u v)
if_null_read true t b y u v = refl
if_null_read false t b y u v = refl
