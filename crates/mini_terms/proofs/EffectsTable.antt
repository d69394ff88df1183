-- What is effect-free changes nothing.
use Rattle.std.proofs.Common.{◌≡◌, ℕ, zero, suc, Bool, true, false, List, length, refl, sym, subst, true≢false}
use Rattle.std.specs.Prelude.{not, ◌&&◌, ◌||◌, [], ◌∷◌, Option, Some, None, is_some}
use Rattle.mini_model.specs.declared.operator.BinaryOperator.{BinaryOperator}
use Rattle.mini_model.specs.declared.operator.BinaryOperator.TheVariants as binary
use Rattle.mini_model.specs.declared.operator.LogicalOperator.TheVariants.{Or, And, Coalesce}
use Rattle.mini_model.specs.declared.operator.UnaryOperator.{UnaryOperator}
use Rattle.mini_model.specs.declared.operator.UnaryOperator.TheVariants as unary
use Rattle.mini_model.specs.declared.shape.Shape.{Shape}
use Rattle.mini_model.specs.declared.shape.Shape.TheVariants as shape
use Rattle.mini_model.specs.declared.name.Name.{Name}
use Rattle.mini_model.specs.declared.name.SymbolId.{SymbolId}
use Rattle.mini_model.specs.Tree.{Tree, Trees, node, none, ◌▸◌}
use Rattle.mini_laws.specs.Value.{Variable, Declared, variable_by, Slot, Holds, Missing, Uninitialised, Value, Undefined, Null, Boolean, Number, String, Symbol, Object, choose, truth, is_nullish, variables, nth}
use Rattle.mini_laws.specs.Conversion.{Made, makes, raises, outside, to_number, to_text}
use Rattle.mini_laws.specs.Operators.{of_primitives, of_numbers, loosely_equal, of_number}
use Rattle.mini_laws.specs.State.{Hint, ForNumber, ForDefault, ForString, done, Completion, ok, stop, halt, out, either, State, Stop, Environment}
use Rattle.mini_laws.specs.Demand.{Want, Val, Test, Demand, As, OfType, Parts, Texts, Request, Reply}
use Rattle.mini_laws.specs.Command.{Naming, Op, read, read_typeof, self, Gets, Command, ret, fails, stuck, op, kid, bind, shift, Kids, act, run, at_variable, read_slot, read_any, read_type, this_of, is_object}
use Rattle.mini_laws.specs.Naming.{NameKind, PlainName, EvalName, UndefinedName, NumberName, kind_of, kinds, facts, summaries, naming}
use Rattle.mini_laws.specs.Asking.{demand, sequence_demand, operand_demand}
use Rattle.mini_laws.specs.Replies.{reply, valued, passed, passing, primitive, numeric, of_made, of_option, is_of_primitives, operate, hint_of, loosely}
use Rattle.mini_laws.specs.Expressions.{first_kind, unary_step, binary_step, operate_by, logical_step, conditional_step, number_step}
use Rattle.mini_laws.specs.Targets.{identifier_step}
use Rattle.mini_laws.specs.Lists.{parts, sequence, template_texts}
use Rattle.mini_laws.specs.Step.{step, means, meaning}
use Rattle.mini_laws.specs.Truth.{told}
use Rattle.mini_laws.proofs.Runs.{type_reads}
use Rattle.mini_laws.proofs.Truth.{coherent}
use Rattle.mini_terms.specs.Kind.{Kind, is_primitive, is_nullish_kind, IsUndefined, IsNull, nth_kind, kind, each_kind, OfKind}
use Rattle.mini_terms.specs.Effects.{ef, each_ef, ef_unary, ef_operands, ef_names, is_constant_name, is_identifier_shape, nth_true, all_true, all_primitive, primitive_items, each_primitive, is_identifier, each_identifier}
use Rattle.mini_terms.specs.Sound.{Gives, Quiet, EffectFreeSound}
use Rattle.mini_terms.proofs.Frame.{fact_at, Claims, trees_give}
use Rattle.mini_terms.proofs.KindTable.{kind_facts, kind_table, at_kind}
use Rattle.mini_terms.proofs.Made.{and_left, and_right}
use Rattle.mini_terms.proofs.Fine.{Fine, IsPrimitive, primitive_of, fine_to_number, fine_to_text, fine_numbers, fine_primitives, fine_of_number}

-- the actions that only read; of an absent name a read throws
abbrev Reads : Bool → Op → Type 0
Reads asked (read_typeof i) = Unit {0}
Reads asked self = asked ≡ false
Reads asked o = ⊥

-- a command that only reads, and asks only these children, of whose replies this is known
unfoldable Calm : {q : ℕ → Demand} {A : Type 0} → Bool → (ℕ → Type 0) → ((i : ℕ) (r : Request (q i)) → Reply (q i) r → Type 0) → Command q A → Type 0
Calm asked as' ks (ret a) = Unit {0}
Calm asked as' ks (fails x) = ⊥
Calm asked as' ks stuck = Unit {0}
Calm asked as' ks (op o k) = Reads asked o × ((a : Gets o) → Calm asked as' ks (k (done a)))
Calm asked as' ks (kid i r k) = as' i × ((a : Reply _ r) → ks i r a → Calm asked as' ks (k (done a)))

quiet_either : {A B : Type 0} (P : A → Type 0) (s : State) (x : Completion A) (f : A → State → Completion B) (h : Stop → State → Completion B) → Quiet s x → Gives P x → ((a : A) → P a → Quiet s (f a s)) → Quiet s (either x f h)
unfolding Quiet Gives either
quiet_either P s (ok a t) f h q p u = subst (λ z. Quiet s (f a z)) (sym q) (u a p)
quiet_either P s (stop x t) f h q p u = absurd q
quiet_either P s (halt x t) f h q p u = absurd q
quiet_either P s out f h q p u = tt

pub gives_unit : {A : Type 0} (x : Completion A) → Gives (λ a. Unit {0}) x
unfolding Gives
gives_unit (ok a s) = tt
gives_unit (stop x s) = tt
gives_unit (halt x s) = tt
gives_unit out = tt

module _ (e : Environment) (names : Naming) where
  slot_quiet : (v : Slot) (s : State) → Quiet s (read_slot v s)
  unfolding Quiet read_slot
  slot_quiet (Holds v) s = refl
  slot_quiet Missing s = tt
  slot_quiet Uninitialised s = tt

  any_quiet : (v : Slot) (s : State) → Quiet s (read_any v s)
  unfolding Quiet read_any
  any_quiet (Holds v) s = refl
  any_quiet Missing s = refl
  any_quiet Uninitialised s = tt

  type_quiet : (x : Variable) (v : Slot) (s : State) → Quiet s (read_type x v s)
  type_quiet x v s = type_reads (λ a b. Quiet s a) x v v s s (slot_quiet v s) (any_quiet v s)

  at_quiet : {A : Type 0} (x : Option Variable) (f : Variable → Completion A) (s : State) → ((y : Variable) → Quiet s (f y)) → Quiet s (at_variable x f)
  unfolding Quiet at_variable
  at_quiet (Some x) f s h = h x
  at_quiet None f s h = tt

  this_quiet : (b : Bool) (s : State) → b ≡ false → Quiet s (this_of e b s)
  unfolding Quiet this_of
  this_quiet true s h = absurd (true≢false h)
  this_quiet false s h = refl

  act_quiet : (asked : Bool) → (asked ≡ false → e.asks_this ≡ false) → (o : Op) (s : State) → Reads asked o → Quiet s (act e names o s)
  unfolding act
  act_quiet asked f (read_typeof i) s h = at_quiet (nth names.own i) _ s (λ y. type_quiet y (s.vars y) s)
  act_quiet asked f self s h = this_quiet e.asks_this s (f h)
  act_quiet asked f o s h = absurd h

  run_quiet : (asked : Bool) → (asked ≡ false → e.asks_this ≡ false) → {q : ℕ → Demand} {A : Type 0} (K : Kids q) (as' : ℕ → Type 0) (ks : (i : ℕ) (r : Request (q i)) → Reply (q i) r → Type 0) → ((i : ℕ) (r : Request (q i)) (s : State) → as' i → Quiet s (K i r s)) → ((i : ℕ) (r : Request (q i)) (s : State) → Gives (ks i r) (K i r s)) → (c : Command q A) → Calm asked as' ks c → (s : State) → Quiet s (run e names K c s)
  unfolding Calm Quiet
  run_quiet asked f K as' ks u g (ret a) y s = refl
  run_quiet asked f K as' ks u g (fails x) y s = absurd y
  run_quiet asked f K as' ks u g stuck y s = tt
  run_quiet asked f K as' ks u g (op o k) y s = quiet_either (λ a. Unit {0}) s (act e names o s) _ _ (act_quiet asked f o s y.0) (gives_unit _) (λ a t. run_quiet asked f K as' ks u g (k (done a)) (y.1 a) s)
  run_quiet asked f K as' ks u g (kid i r k) y s = quiet_either (ks i r) s (K i r s) _ _ (u i r s y.0) (g i r s) (λ a t. run_quiet asked f K as' ks u g (k (done a)) (y.1 a t) s)

-- commands

module _ (asked : Bool) where
  calm_bind : {q : ℕ → Demand} {A B : Type 0} (as' : ℕ → Type 0) (ks : (i : ℕ) (r : Request (q i)) → Reply (q i) r → Type 0) (c : Command q A) (f : A → Command q B) → Calm asked as' ks c → ((a : A) → Calm asked as' ks (f a)) → Calm asked as' ks (bind c f)
  unfolding Calm
  calm_bind as' ks (ret a) f y g = g a
  calm_bind as' ks (fails x) f y g = absurd y
  calm_bind as' ks stuck f y g = tt
  calm_bind as' ks (op o k) f y g = (y.0, λ a. calm_bind as' ks (k (done a)) f (y.1 a) g)
  calm_bind as' ks (kid i r k) f y g = (y.0, λ a t. calm_bind as' ks (k (done a)) f (y.1 a t) g)

  calm_shift : (q : ℕ → Demand) {A : Type 0} (as' : ℕ → Type 0) (ks : (i : ℕ) (r : Request (q i)) → Reply (q i) r → Type 0) (c : Command (λ i. q (suc i)) A) → Calm asked (λ i. as' (suc i)) (λ i. ks (suc i)) c → Calm asked as' ks (shift {q = q} c)
  unfolding Calm
  calm_shift q as' ks (ret a) y = tt
  calm_shift q as' ks (fails x) y = y
  calm_shift q as' ks stuck y = tt
  calm_shift q as' ks (op o k) y = (y.0, λ a. calm_shift q as' ks (k (done a)) (y.1 a))
  calm_shift q as' ks (kid i r k) y = (y.0, λ a t. calm_shift q as' ks (k (done a)) (y.1 a t))

  module _ (q : ℕ → Demand) (as' : ℕ → Type 0) (ks : (i : ℕ) (r : Request (q i)) → Reply (q i) r → Type 0) where
    replied : (c : Command q Value) → Calm asked as' ks c → Calm asked as' ks (valued (As Val) tt c)
    unfolding Calm
    replied c y = calm_bind as' ks c (reply (As Val) tt) y (λ v. tt)

    handed : (c : Command q Value) → Calm asked as' ks c → Calm asked as' ks (passing (As Val) tt c)
    unfolding Calm
    handed c y = calm_bind as' ks c (passed (As Val) tt) y (λ v. tt)

    choice : {A : Type 0} (b : Bool) (c d : Command q A) → Calm asked as' ks c → Calm asked as' ks d → Calm asked as' ks (choose b c d)
    choice true c d y z = y
    choice false c d y z = z

    calm_made : {A : Type 0} (m : Made A) → Fine m → Calm asked as' ks (of_made m)
    unfolding Calm Fine
    calm_made (makes a) p = tt
    calm_made raises p = absurd p
    calm_made outside p = tt

    calm_option : {A : Type 0} (m : Option A) → Calm asked as' ks (of_option m)
    unfolding Calm
    calm_option (Some a) = tt
    calm_option None = tt

    -- a primitive value is converted to itself
    prim_bind : {A : Type 0} (h : Hint) (v : Value) (f : Value → Command q A) → IsPrimitive v → Calm asked as' ks (f v) → Calm asked as' ks (bind (primitive h v) f)
    prim_bind h (Symbol n) f p y = absurd p
    prim_bind h (Object n g) f p y = absurd p
    prim_bind h Undefined f p y = y
    prim_bind h Null f p y = y
    prim_bind h (Boolean b) f p y = y
    prim_bind h (Number n) f p y = y
    prim_bind h (String s) f p y = y

    numeric_calm : (v : Value) → IsPrimitive v → Calm asked as' ks (numeric v)
    numeric_calm v p = prim_bind ForNumber v (λ x. of_made (to_number x)) p (calm_made (to_number v) (fine_to_number v p))

    operate_calm : (o : BinaryOperator) (a b : Value) → IsPrimitive a → IsPrimitive b → Calm asked as' ks (operate o a b)
    operate_calm o a b p r =
        choice (is_of_primitives o) _ _
        (prim_bind (hint_of o) a _ p (prim_bind (hint_of o) b _ r (calm_made (of_primitives o a b) (fine_primitives o a b p r))))
        (calm_bind as' ks (numeric a) _ (numeric_calm a p) (λ m. calm_bind as' ks (numeric b) _ (numeric_calm b r) (λ n. calm_made (of_numbers o m n) (fine_numbers o m n))))

    loosely_calm : (a b : Value) → IsPrimitive a → IsPrimitive b → Calm asked as' ks (loosely a b)
    unfolding Calm
    loosely_calm a b p r =
        choice (is_nullish a) _ _ tt (choice (is_nullish b) _ _ tt (choice (is_object a && is_object b) _ _ tt
        (prim_bind ForDefault a _ p (prim_bind ForDefault b _ r (calm_option (loosely_equal a b))))))

    nullish_left : (a b : Value) → is_nullish a ≡ true → Calm asked as' ks (loosely a b)
    unfolding Calm
    nullish_left Undefined b h = tt
    nullish_left Null b h = tt
    nullish_left a b h = absurd (true≢false (sym h))

    nullish_right : (a b : Value) → is_nullish b ≡ true → Calm asked as' ks (loosely a b)
    unfolding Calm
    nullish_right a Undefined h = choice (is_nullish a) _ _ tt tt
    nullish_right a Null h = choice (is_nullish a) _ _ tt tt
    nullish_right a b h = absurd (true≢false (sym h))

-- what may be asked of a child

abbrev Asks : Bool → Tree → Demand → Type 0
Asks asked t (As w) = ef asked t ≡ true
Asks asked t (Parts Val) = ef asked t ≡ true
Asks asked t Texts = (ef asked t ≡ true) × (primitive_items t ≡ true)
Asks asked t OfType = is_identifier t || ef asked t ≡ true
Asks asked t q = ⊥

abbrev AsksAt : Bool → Trees → ℕ → Demand → Type 0
AsksAt asked none i q = Unit {0}
AsksAt asked (t ▸ ts) zero q = Asks asked t q
AsksAt asked (t ▸ ts) (suc i) q = AsksAt asked ts i q

module _ (asked : Bool) where
  at_as : (ts : Trees) (i : ℕ) (w : Want) → nth_true (each_ef asked ts) i ≡ true → AsksAt asked ts i (As w)
  at_as none i w h = tt
  at_as (t ▸ ts) zero w h = h
  at_as (t ▸ ts) (suc i) w h = at_as ts i w h

  at_parts : (ts : Trees) (i : ℕ) → nth_true (each_ef asked ts) i ≡ true → AsksAt asked ts i (Parts Val)
  at_parts none i h = tt
  at_parts (t ▸ ts) zero h = h
  at_parts (t ▸ ts) (suc i) h = at_parts ts i h

  at_texts : (ts : Trees) (i : ℕ) → nth_true (each_ef asked ts) i ≡ true → nth_true (each_primitive ts) i ≡ true → AsksAt asked ts i Texts
  at_texts none i h k = tt
  at_texts (t ▸ ts) zero h k = (h, k)
  at_texts (t ▸ ts) (suc i) h k = at_texts ts i h k

  at_type : (ts : Trees) (i : ℕ) → nth_true (each_identifier ts) i || nth_true (each_ef asked ts) i ≡ true → AsksAt asked ts i OfType
  at_type none i h = tt
  at_type (t ▸ ts) zero h = h
  at_type (t ▸ ts) (suc i) h = at_type ts i h

  at_value : (ts : Trees) (i : ℕ) (v : Value) → OfKind (fact_at kind_facts ts i) v → OfKind (nth_kind (each_kind ts) i) v
  at_value ts i v p = subst (λ k. OfKind k v) (at_kind ts i) p

  at_primitive : (ts : Trees) (i : ℕ) (v : Value) → is_primitive (nth_kind (each_kind ts) i) ≡ true → OfKind (fact_at kind_facts ts i) v → IsPrimitive v
  at_primitive ts i v h p = primitive_of (nth_kind (each_kind ts) i) v h (at_value ts i v p)

  nullish_of : (k : Kind) (v : Value) → is_nullish_kind k ≡ true → OfKind k v → is_nullish v ≡ true
  nullish_of IsUndefined Undefined h p = refl
  nullish_of IsUndefined v h p = absurd p
  nullish_of IsNull Null h p = refl
  nullish_of IsNull v h p = absurd p
  nullish_of k v h p = absurd (true≢false (sym h))

  module _ (xs : List Name) (n : ℕ) (ts : Trees) where
    abbrev may : (σ : ℕ → Demand) → ℕ → Type 0
    may σ i = AsksAt asked ts i (σ i)

    abbrev NodeCalm : (q : Demand) (r : Request q) → Shape → Type 0
    NodeCalm q r h = Asks asked (node h xs n ts) q → Calm {q = demand h (facts ts) q} asked (may (demand h (facts ts) q)) (Claims kind_facts ts (demand h (facts ts) q)) (step h (kinds xs) (facts ts) q r)

    number_calm : (o : UnaryOperator) → nth_true (each_ef asked ts) 0 && is_primitive (nth_kind (each_kind ts) 0) ≡ true → Calm {q = λ i. As Val} asked (may (λ i. As Val)) (Claims kind_facts ts (λ i. As Val)) (number_step o)
    unfolding Calm
    number_calm o e = (
      at_as ts 0 Val (and_left _ _ e),
      λ v p. let pv : IsPrimitive v = at_primitive ts 0 v (and_right (nth_true (each_ef asked ts) 0) _ e) p in
          calm_bind asked (may (λ i. As Val)) (Claims kind_facts ts (λ i. As Val)) (numeric v) (λ n. of_made (of_number o n)) (numeric_calm asked (λ i. As Val) (may (λ i. As Val)) (Claims kind_facts ts (λ i. As Val)) v pv) (λ n. calm_made asked (λ i. As Val) (may (λ i. As Val)) (Claims kind_facts ts (λ i. As Val)) (of_number o n) (fine_of_number o n)),
    )

    unary_calm : (o : UnaryOperator) → ef_unary o (nth_kind (each_kind ts) 0) (nth_true (each_identifier ts) 0) (nth_true (each_ef asked ts) 0) ≡ true → Calm {q = λ i. operand_demand o} asked (may (λ i. operand_demand o)) (Claims kind_facts ts (λ i. operand_demand o)) (unary_step o)
    unfolding Calm
    unary_calm unary.LogicalNot e = (at_as ts 0 Test e, λ b p. tt)
    unary_calm unary.Void e = (at_as ts 0 Val e, λ b p. tt)
    unary_calm unary.Typeof e = (at_type ts 0 e, λ b p. tt)
    unary_calm unary.Delete e = absurd (true≢false (sym e))
    unary_calm unary.UnaryPlus e = number_calm unary.UnaryPlus e
    unary_calm unary.UnaryNegation e = number_calm unary.UnaryNegation e
    unary_calm unary.BitwiseNot e = number_calm unary.BitwiseNot e

    abbrev Vals : ℕ → Demand
    Vals i = As Val

    abbrev CalmVals : {A : Type 0} → Command Vals A → Type 0
    CalmVals c = Calm {q = Vals} asked (may Vals) (Claims kind_facts ts Vals) c

    abbrev left : Kind
    left = nth_kind (each_kind ts) 0

    abbrev right : Kind
    right = nth_kind (each_kind ts) 1

    equal_calm : (j k : Kind) → is_nullish_kind j || (is_nullish_kind k || (is_primitive j && is_primitive k)) ≡ true → (a b : Value) → OfKind j a → OfKind k b → CalmVals (loosely a b)
    equal_calm j k h a b p q = go (is_nullish_kind j) (is_nullish_kind k) refl refl h
      where
        go : (c d : Bool) → is_nullish_kind j ≡ c → is_nullish_kind k ≡ d → c || (d || (is_primitive j && is_primitive k)) ≡ true → CalmVals (loosely a b)
        go true d f g e = nullish_left asked Vals (may Vals) (Claims kind_facts ts Vals) a b (nullish_of j a f p)
        go false true f g e = nullish_right asked Vals (may Vals) (Claims kind_facts ts Vals) a b (nullish_of k b g q)
        go false false f g e = loosely_calm asked Vals (may Vals) (Claims kind_facts ts Vals) a b (primitive_of j a (and_left _ _ e) p) (primitive_of k b (and_right (is_primitive j) _ e) q)

    unequal_calm : (c : Command Vals Bool) (f : Bool → Value) → CalmVals c → CalmVals (bind c (λ b. ret (f b)))
    unfolding Calm
    unequal_calm c f y = calm_bind asked (may Vals) (Claims kind_facts ts Vals) c _ y (λ b. tt)

    operate_both : (o : BinaryOperator) (j k : Kind) → is_primitive j && is_primitive k ≡ true → (a b : Value) → OfKind j a → OfKind k b → CalmVals (operate o a b)
    operate_both o j k e a b p q = operate_calm asked Vals (may Vals) (Claims kind_facts ts Vals) o a b (primitive_of j a (and_left _ _ e) p) (primitive_of k b (and_right (is_primitive j) _ e) q)

    operator_calm : (o : BinaryOperator) (j k : Kind) → ef_operands o j k ≡ true → (a b : Value) → OfKind j a → OfKind k b → CalmVals (operate_by o a b)
    unfolding Calm
    operator_calm binary.StrictEquality j k e a b p q = tt
    operator_calm binary.StrictInequality j k e a b p q = tt
    operator_calm binary.Equality j k e a b p q = unequal_calm (loosely a b) Boolean (equal_calm j k e a b p q)
    operator_calm binary.Inequality j k e a b p q = unequal_calm (loosely a b) (λ c. Boolean (not c)) (equal_calm j k e a b p q)
    operator_calm binary.In j k e a b p q = absurd (true≢false (sym e))
    operator_calm binary.Instanceof j k e a b p q = absurd (true≢false (sym e))
    operator_calm o j k e a b p q = operate_both o j k e a b p q

  parts_calm : (ts : Trees) → all_true (each_ef asked ts) ≡ true → Calm {q = sequence_demand (length (facts ts)) Val} asked (λ i. AsksAt asked ts i (sequence_demand (length (facts ts)) Val i)) (Claims kind_facts ts (sequence_demand (length (facts ts)) Val)) (sequence (length (facts ts)) Val)
  unfolding Calm
  parts_calm none e = tt
  parts_calm (t ▸ none) e = (and_left _ _ e, λ v p. tt)
  parts_calm (t ▸ (u ▸ us)) e =
      (and_left _ _ e, λ a p. calm_shift asked (sequence_demand (length (facts (t ▸ (u ▸ us)))) Val) (λ i. AsksAt asked (t ▸ (u ▸ us)) i (sequence_demand (length (facts (t ▸ (u ▸ us)))) Val i)) (Claims kind_facts (t ▸ (u ▸ us)) (sequence_demand (length (facts (t ▸ (u ▸ us)))) Val)) (parts (length (facts us)) Val) (parts_calm (u ▸ us) (and_right (ef asked t) _ e)))

  text_bind : {A : Type 0} (q : ℕ → Demand) (as' : ℕ → Type 0) (ks : (i : ℕ) (r : Request (q i)) → Reply (q i) r → Type 0) (v : Value) (f : List ℕ → Command q A) → IsPrimitive v → ((s : List ℕ) → Calm asked as' ks (f s)) → Calm asked as' ks (bind (primitive ForString v) (λ x. bind (of_made (to_text x)) f))
  text_bind q as' ks v f p y = prim_bind asked q as' ks ForString v (λ x. bind (of_made (to_text x)) f) p (calm_bind asked as' ks (of_made (to_text v)) f (calm_made asked q as' ks (to_text v) (fine_to_text v p)) y)

  texts_calm : (ts : Trees) → all_true (each_ef asked ts) ≡ true → all_primitive (each_kind ts) ≡ true → Calm {q = λ i. As Val} asked (λ i. AsksAt asked ts i (As Val)) (Claims kind_facts ts (λ i. As Val)) (template_texts (length (facts ts)))
  unfolding Calm
  texts_calm none e h = tt
  texts_calm (t ▸ ts) e h = (
    and_left _ _ e,
    λ v p. text_bind (λ i. As Val) (λ i. AsksAt asked (t ▸ ts) i (As Val)) (Claims kind_facts (t ▸ ts) (λ i. As Val)) v _ (primitive_of (kind t) v (and_left _ _ h) p) (λ s.
        calm_bind asked (λ i. AsksAt asked (t ▸ ts) i (As Val)) (Claims kind_facts (t ▸ ts) (λ i. As Val)) (shift {q = λ i. As Val} (template_texts (length (facts ts)))) _
        (calm_shift asked (λ i. As Val) (λ i. AsksAt asked (t ▸ ts) i (As Val)) (Claims kind_facts (t ▸ ts) (λ i. As Val)) (template_texts (length (facts ts))) (texts_calm ts (and_right (ef asked t) _ e) (and_right (is_primitive (kind t)) _ h))) (λ ss. tt)),
  )

  type_calm : (q : ℕ → Demand) (as' : ℕ → Type 0) (ks : (i : ℕ) (r : Request (q i)) → Reply (q i) r → Type 0) (k : NameKind) → Calm asked as' ks (identifier_step k OfType tt)
  unfolding Calm
  type_calm q as' ks UndefinedName = tt
  type_calm q as' ks NumberName = tt
  type_calm q as' ks PlainName = (tt, λ v. tt)
  type_calm q as' ks EvalName = (tt, λ v. tt)

  not_true : (b : Bool) → not b ≡ true → b ≡ false
  not_true false h = refl
  not_true true h = absurd (true≢false (sym h))

  module _ (xs : List Name) (n : ℕ) (ts : Trees) where
    abbrev bs : List Bool
    bs = each_ef asked ts

    abbrev demands : Shape → ℕ → Demand
    demands h = demand h (facts ts) (As Val)

    -- the table, names aside
    value : (h : Shape) → is_identifier_shape h ≡ false → NodeCalm xs n ts (As Val) tt h
    unfolding Calm step
    value shape.Identifier k e = absurd (true≢false k)
    value shape.Listed k e = tt
    value (shape.NumericLiteral m) k e = tt
    value (shape.StringLiteral s) k e = tt
    value (shape.BooleanLiteral b) k e = tt
    value shape.NullLiteral k e = tt
    value (shape.BigIntLiteral m) k e = tt
    value shape.ThisExpression k e = (not_true asked e, λ v. tt)
    value (shape.UnaryExpression o) k e = replied asked _ _ _ (unary_step o) (unary_calm xs n ts o e)
    value (shape.BinaryExpression o) k e = replied asked _ (may xs n ts (λ i. As Val)) (Claims kind_facts ts (λ i. As Val)) (binary_step o) (at_as ts 0 Val (and_left _ _ (and_right (ef_operands o (nth_kind (each_kind ts) 0) (nth_kind (each_kind ts) 1)) _ e)), λ a p. (at_as ts 1 Val (and_right (nth_true bs 0) _ (and_right (ef_operands o (nth_kind (each_kind ts) 0) (nth_kind (each_kind ts) 1)) _ e)), λ b q. operator_calm xs n ts o (nth_kind (each_kind ts) 0) (nth_kind (each_kind ts) 1) (and_left _ _ e) a b (at_value ts 0 a p) (at_value ts 1 b q)))
    value (shape.LogicalExpression And) k e = handed asked _ (may xs n ts (demands (shape.LogicalExpression And))) (Claims kind_facts ts (demands (shape.LogicalExpression And))) (logical_step And Val) (at_as ts 0 Val (and_left _ _ e), λ a p. choice asked _ _ _ (truth a) _ _ (at_as ts 1 Val (and_right (nth_true bs 0) _ e), λ b q. tt) tt)
    value (shape.LogicalExpression Or) k e = handed asked _ (may xs n ts (demands (shape.LogicalExpression Or))) (Claims kind_facts ts (demands (shape.LogicalExpression Or))) (logical_step Or Val) (at_as ts 0 Val (and_left _ _ e), λ a p. choice asked _ _ _ (truth a) _ _ tt (at_as ts 1 Val (and_right (nth_true bs 0) _ e), λ b q. tt))
    value (shape.LogicalExpression Coalesce) k e = handed asked _ (may xs n ts (demands (shape.LogicalExpression Coalesce))) (Claims kind_facts ts (demands (shape.LogicalExpression Coalesce))) (logical_step Coalesce Val) (at_as ts 0 Val (and_left _ _ e), λ a p. choice asked _ _ _ (is_nullish a) _ _ (at_as ts 1 Val (and_right (nth_true bs 0) _ e), λ b q. tt) tt)
    value shape.ConditionalExpression k e = handed asked _ (may xs n ts (demands shape.ConditionalExpression)) (Claims kind_facts ts (demands shape.ConditionalExpression)) (conditional_step Val) (at_as ts 0 Test (and_left _ _ e), λ a p. choice asked _ _ _ a _ _ (at_as ts 1 Val (and_left _ _ (and_right (nth_true bs 0) _ e)), λ b q. tt) (at_as ts 2 Val (and_right (nth_true bs 1) _ (and_right (nth_true bs 0) _ e)), λ b q. tt))
    value shape.SequenceExpression k e = (at_parts ts 0 e, λ v p. tt)
    value shape.TemplateLiteral k e = (at_texts ts 1 (and_left _ _ e) (and_right (nth_true bs 1) _ e), λ ss p. tt)
    value h k e = absurd (true≢false (sym e))

    last : (h : Shape) → NodeCalm xs n ts (Parts Val) tt h
    unfolding Calm step
    last shape.Listed e = parts_calm ts e
    last shape.InnerExpression e = absurd (true≢false (sym e))
    last (shape.Function b is_generator directives) e = absurd (true≢false (sym e))
    last (shape.Class b) e = absurd (true≢false (sym e))
    last h e = tt

    texts : (h : Shape) → NodeCalm xs n ts Texts tt h
    unfolding Calm step
    texts shape.Listed e = texts_calm ts e.0 e.1
    texts shape.InnerExpression e = absurd (true≢false (sym e.0))
    texts (shape.Function b is_generator directives) e = absurd (true≢false (sym e.0))
    texts (shape.Class b) e = absurd (true≢false (sym e.0))
    texts h e = tt

    of_type : (h : Shape) → NodeCalm xs n ts OfType tt h
    unfolding Calm step
    of_type shape.Identifier e = type_calm _ _ _ (first_kind (kinds xs))
    of_type shape.Listed e = tt
    of_type shape.Absent e = tt
    of_type shape.InnerExpression e = absurd (true≢false (sym e))
    of_type shape.ChainExpression e = absurd (true≢false (sym e))
    of_type (shape.Function b is_generator directives) e = absurd (true≢false (sym e))
    of_type (shape.Class b) e = absurd (true≢false (sym e))
    of_type h e = value h refl e

-- the induction

quiet_told : (w : Want) (s : State) (x : Completion Value) → Quiet s x → Quiet s (told w x)
unfolding Quiet told either
quiet_told w s (ok v t) q = q
quiet_told w s (stop y t) q = q
quiet_told w s (halt y t) q = q
quiet_told w s out q = tt

module _ (e : Environment) (asked : Bool) (f : asked ≡ false → e.asks_this ≡ false) where
  abbrev AllQuiet : Trees → Type 0
  AllQuiet ts = (i : ℕ) (q : Demand) (r : Request q) (s : State) → AsksAt asked ts i q → Quiet s (meaning e ts i q r s)

  by_step : (q : Demand) (r : Request q) (h : Shape) (xs : List Name) (n : ℕ) (ts : Trees) → AllQuiet ts → Calm {q = demand h (facts ts) q} asked (may asked xs n ts (demand h (facts ts) q)) (Claims kind_facts ts (demand h (facts ts) q)) (step h (kinds xs) (facts ts) q r) → (s : State) → Quiet s (means e (node h xs n ts) q r s)
  unfolding means
  by_step q r h xs n ts all y s =
      run_quiet e (naming h q (variables xs) n (summaries ts)) asked f {q = demand h (facts ts) q} (λ i r' s'. meaning e ts i (demand h (facts ts) q i) r' s') (may asked xs n ts (demand h (facts ts) q)) (Claims kind_facts ts (demand h (facts ts) q)) (λ i r' z a. all i (demand h (facts ts) q i) r' z a) (λ i r' z. trees_give kind_facts kind_table e ts i (demand h (facts ts) q i) r' z) (step h (kinds xs) (facts ts) q r) y s

  abbrev read_names : List ℕ → List Name → ℕ → Trees → Option SymbolId → Naming
  read_names spelling xs n ts o = naming shape.Identifier (As Val) (variable_by spelling o ∷ variables xs) n (summaries ts)

  -- a name that has a symbol, or one that is not read
  name_quiet : (xs : List Name) (n : ℕ) (ts : Trees) (s : State) → ef_names xs ≡ true → Quiet s (means e (node shape.Identifier xs n ts) (As Val) tt s)
  unfolding means step act at_variable Quiet
  name_quiet [] n ts s a = absurd (true≢false (sym a))
  name_quiet (x ∷ xs) n ts s a = go (kind_of x) x.symbol a
    where
      declared : (k : SymbolId) → Quiet s (either (act e (read_names x.spelling xs n ts (Some k)) (read 0) s) (λ v t. ok v t) (λ y t. stop y t))
      declared k = quiet_either (λ v. Unit {0}) s (read_slot (s.vars (Declared k.0)) s) _ _ (slot_quiet e (read_names x.spelling xs n ts (Some k)) (s.vars (Declared k.0)) s) (gives_unit _) (λ v t. refl)

      go : (k : NameKind) (o : Option SymbolId) → is_some o || is_constant_name k ≡ true → Quiet s (run {q = demand shape.Identifier (facts ts) (As Val)} e (read_names x.spelling xs n ts o) (λ i r z. meaning e ts i (demand shape.Identifier (facts ts) (As Val) i) r z) (identifier_step k (As Val) tt) s)
      go UndefinedName o h = refl
      go NumberName o h = tt
      go PlainName (Some k) h = declared k
      go EvalName (Some k) h = declared k
      go PlainName None h = absurd (true≢false (sym h))
      go EvalName None h = absurd (true≢false (sym h))

  by_value : (h : Shape) (xs : List Name) (n : ℕ) (ts : Trees) → AllQuiet ts → (s : State) → Asks asked (node h xs n ts) (As Val) → Quiet s (means e (node h xs n ts) (As Val) tt s)
  by_value shape.Identifier xs n ts all s a = name_quiet xs n ts s a
  by_value h xs n ts all s a = by_step (As Val) tt h xs n ts all (value asked xs n ts h refl a) s

  by_node : (h : Shape) (xs : List Name) (n : ℕ) (ts : Trees) → AllQuiet ts → (q : Demand) (r : Request q) (s : State) → Asks asked (node h xs n ts) q → Quiet s (means e (node h xs n ts) q r s)
  by_node h xs n ts all (As Val) r s a = by_value h xs n ts all s a
  by_node h xs n ts all (As w) r s a = subst (Quiet s) (sym (coherent (node h xs n ts) w e s)) (quiet_told w s _ (by_value h xs n ts all s a))
  by_node h xs n ts all (Parts Val) r s a = by_step (Parts Val) tt h xs n ts all (last asked xs n ts h a) s
  by_node h xs n ts all Texts r s a = by_step Texts tt h xs n ts all (texts asked xs n ts h a) s
  by_node h xs n ts all OfType r s a = by_step OfType tt h xs n ts all (of_type asked xs n ts h a) s
  by_node h xs n ts all q r s a = absurd a

  mutual
    unfolding meaning Quiet

    tree_quiet : (t : Tree) (q : Demand) (r : Request q) (s : State) → Asks asked t q → Quiet s (means e t q r s)
    tree_quiet (node h xs n ts) q r s a = by_node h xs n ts (trees_quiet ts) q r s a

    trees_quiet : (ts : Trees) (i : ℕ) (q : Demand) (r : Request q) (s : State) → AsksAt asked ts i q → Quiet s (meaning e ts i q r s)
    trees_quiet none i q r s a = tt
    trees_quiet (t ▸ ts) zero q r s a = tree_quiet t q r s a
    trees_quiet (t ▸ ts) (suc i) q r s a = trees_quiet ts i q r s a

pub effect_free_sound : EffectFreeSound
effect_free_sound n e asked f h w s = tree_quiet e asked f n (As w) tt s h
