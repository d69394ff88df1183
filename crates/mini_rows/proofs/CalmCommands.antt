-- Commands that end abruptly in some ways alone, which throws and returns are among: those of expressions, where their children do.
use Rattle.std.proofs.Common.{◌≡◌, ℕ, zero, suc, Bool, true, false, List, [], ◌∷◌, refl, sym, subst, true≢false}
use Rattle.mini_laws.proofs.Runs.{name_reads, name_writes, type_reads}
use Rattle.std.specs.Prelude.{not, ◌&&◌, Option, Some, None, length}
use Rattle.mini_model.specs.declared.operator.BinaryOperator.{BinaryOperator}
use Rattle.mini_model.specs.declared.operator.BinaryOperator.TheVariants as binary
use Rattle.mini_model.specs.declared.operator.LogicalOperator.{LogicalOperator}
use Rattle.mini_model.specs.declared.operator.LogicalOperator.TheVariants.{Or, And, Coalesce}
use Rattle.mini_model.specs.declared.operator.UnaryOperator.{UnaryOperator}
use Rattle.mini_model.specs.declared.operator.UnaryOperator.TheVariants as unary
use Rattle.mini_model.specs.declared.operator.UpdateOperator.{UpdateOperator}
use Rattle.mini_model.specs.declared.shape.Shape.{Shape}
use Rattle.mini_model.specs.declared.shape.Shape.TheVariants as shape
use Rattle.mini_laws.specs.Value.{Value, Variable, Slot, Holds, Missing, Uninitialised, Undefined, Null, Boolean, Number, String, choose, truth, is_nullish}
use Rattle.mini_laws.specs.Conversion.{Made, makes, raises, outside, to_number, to_text, known_member, key_value}
use Rattle.mini_laws.specs.Operators.{strictly_equal, loosely_equal, of_numbers, of_number, of_primitives, safe_number}
use Rattle.mini_laws.specs.State.{ReferenceError, Raise, Hint, ForDefault, ForNumber, ForString, Carries, Anything, ABoolean, AnObject, InChain, Label, GetOf, SetOf, DeleteOf, CallOf, DirectEval, NewOf, Coerce, InOf, InstanceOf, ArrayOf, ObjectOf, Create, NodeOf, PlaceOf, BindOf, ThisOf, IteratorOf, KeysOf, NextOf, YieldOf, Entry, Item, Given, Normal, Throws, Finished, Returning, Shortens, Answer, State, Stop, Thrown, Returned, Short, Completion, ok, stop, halt, out, done, ended, either, Writing, Writes, WritesPresent, Refuses, Keeps, Environment, news_of}
use Rattle.mini_laws.specs.Demand.{Want, Val, Test, Unused, Demand, As, Callee, OfType, Deleted, Target, AnEntry, Items, Parts, Texts, Stat, Binds, Catches, Reference, AMember, AFetched, AValue, Prepare, Fetch, Put, Called, Request, Reply, Says}
use Rattle.mini_laws.specs.Command.{Naming, Op, read, read_typeof, fixity, write, init, init_function, hide, copy, event, bind_names, self, turn, fuel, Gets, Command, ret, fails, stuck, op, kid, then, bind, shift, emit, emit_mine, Heard, hears, breaks, nonsense, is_object, hear_value, hear, heard, answered, bound_if, answered_binds, note, read_slot, read_global, read_name, read_any, read_type, write_slot, write_global, write_name, at_variable, this_of, take_turn, act, Kids, run}
use Rattle.mini_laws.specs.Naming.{NameKind, PlainName, EvalName, UndefinedName, NumberName, Facts, first_facts}
use Rattle.mini_laws.specs.Asking.{pass, chained, parts_demand}
use Rattle.mini_laws.specs.Replies.{reply, valued, passed, passing, raise, of_made, of_option, primitive, hint_of, numeric, is_of_primitives, operate, loosely, or_event, get_member, put_member, by_fixity, put_own}
use Rattle.mini_laws.specs.Expressions.{get_identifier, type_identifier, is_eval, first_kind, delete_of, unary_step, operate_by, binary_step, logical_step, conditional_step, sequence_step, call_event, call_step, new_step, member_step, got, called_member, chain_step, array_step, object_step, property_key, property_step, template_step, yield_step}
use Rattle.mini_laws.specs.Targets.{put_identifier, identifier_step, fetched, stored, as_member, carried_target, super_member, private_member, chained_carries, pattern_target, AssignmentKind, Plainly, Computing, Deciding, assignment_kind, assigns, AssignDemand, put_target, after_read, assign_by, assignment_step, changed, update_step}
use Rattle.mini_laws.specs.Lists.{entries, spread_step, parts, sequence, template_texts, list_step}
use Rattle.mini_laws.specs.Step.{absent_step, entry, step}
use Rattle.mini_rows.specs.Chains.{is_closed_shape, is_open_shape}

-- what an expression, a target or a list of expressions is asked
abbrev pub Asks : Demand → Type 0
Asks (As w) = Unit {0}
Asks Callee = Unit {0}
Asks OfType = Unit {0}
Asks Deleted = Unit {0}
Asks Target = Unit {0}
Asks AnEntry = Unit {0}
Asks Items = Unit {0}
Asks (Parts w) = Unit {0}
Asks Texts = Unit {0}
Asks q = ⊥

module _ (P : Stop → Type 0) (thrown : (v : Value) → P (Thrown v)) (returned : (v : Value) → P (Returned v)) where
  -- ---- ends

  abbrev pub Calm : {A : Type 0} → Completion A → Type 0
  Calm (stop y s) = P y
  Calm x = Unit {0}

  -- whether the ends of the children end none, or may
  abbrev Heeds : Bool → Stop → Type 0
  Heeds true y = P y
  Heeds false y = Unit {0}

  calm_either : {A B : Type 0} (b : Bool) (x : Completion A) (f : A → State → Completion B) (h : Stop → State → Completion B) → (b ≡ true → Calm x) → ((a : A) (z : State) → Calm (f a z)) → ((y : Stop) (z : State) → Heeds b y → Calm (h y z)) → Calm (either x f h)
  unfolding either
  calm_either b (ok a s) f h c k l = k a s
  calm_either true (stop y s) f h c k l = l y s (c refl)
  calm_either false (stop y s) f h c k l = l y s tt
  calm_either b (halt y s) f h c k l = tt
  calm_either b out f h c k l = tt

  pub calm_next : {A B : Type 0} (x : Completion A) (f : A → State → Completion B) → Calm x → ((a : A) (z : State) → Calm (f a z)) → Calm (either x f (λ y z. stop y z))
  calm_next x f h k = calm_either true x f (λ y z. stop y z) (λ p. h) k (λ y z p. p)

  -- ---- what the world answers

  abbrev CalmHeard : {A : Type 0} → Heard A → Type 0
  CalmHeard (breaks y) = P y
  CalmHeard h = Unit {0}

  heard_calm : {A : Type 0} (h : Heard A) (s : State) → CalmHeard h → Calm (heard h s)
  unfolding heard
  heard_calm (hears a) s c = tt
  heard_calm (breaks y) s c = c
  heard_calm nonsense s c = tt

  -- all but what it says of a node in a chain
  abbrev FirmLabel : Label → Type 0
  FirmLabel (NodeOf InChain) = P Short
  FirmLabel (PlaceOf InChain) = P Short
  FirmLabel l = Unit {0}

  either_heard : {A : Type 0} (b : Bool) (g h : Heard A) → CalmHeard g → CalmHeard h → CalmHeard (choose b g h)
  either_heard true g h c d = c
  either_heard false g h c d = d

  value_heard : (l : Label) (v : Value) → CalmHeard (hear_value l v)
  value_heard DeleteOf (Boolean b) = tt
  value_heard DeleteOf v = tt
  value_heard InOf (Boolean b) = tt
  value_heard InOf v = tt
  value_heard InstanceOf (Boolean b) = tt
  value_heard InstanceOf v = tt
  value_heard (Coerce hint) v = either_heard (is_object v) nonsense (hears v) tt tt
  value_heard Create v = either_heard (is_object v) (hears v) nonsense tt tt
  value_heard NewOf v = either_heard (is_object v) (hears v) nonsense tt tt
  value_heard ArrayOf v = either_heard (is_object v) (hears v) nonsense tt tt
  value_heard ObjectOf v = either_heard (is_object v) (hears v) nonsense tt tt
  value_heard IteratorOf v = either_heard (is_object v) (hears v) nonsense tt tt
  value_heard KeysOf v = either_heard (is_object v) (hears v) nonsense tt tt
  value_heard (NodeOf ABoolean) (Boolean b) = tt
  value_heard (NodeOf ABoolean) v = tt
  value_heard (NodeOf AnObject) v = either_heard (is_object v) (hears v) nonsense tt tt
  value_heard l v = tt

  finished_heard : (l : Label) → CalmHeard (hear l Finished)
  finished_heard NextOf = tt
  finished_heard l = tt

  returning_heard : (l : Label) (v : Value) → CalmHeard (hear l (Returning v))
  returning_heard (YieldOf delegate) v = returned v
  returning_heard l v = tt

  shortens_heard : (l : Label) → FirmLabel l → CalmHeard (hear l Shortens)
  shortens_heard (NodeOf InChain) p = p
  shortens_heard (PlaceOf InChain) p = p
  shortens_heard l p = tt

  hear_calm : (l : Label) → FirmLabel l → (g : Given) → CalmHeard (hear l g)
  hear_calm l p (Normal v) = value_heard l v
  hear_calm l p (Throws v) = thrown v
  hear_calm l p Finished = finished_heard l
  hear_calm l p (Returning v) = returning_heard l v
  hear_calm l p Shortens = shortens_heard l p

  answered_calm : (e : Environment) (l : Label) (answers : List Answer) (s : State) → FirmLabel l → Calm (answered e l answers s)
  unfolding answered
  answered_calm e l [] s p = tt
  answered_calm e l (a ∷ answers) s p = heard_calm (hear l a.given) (record s { vars = news_of e.foreign s.vars a.news; answers = answers }) (hear_calm l p a.given)

  -- ---- actions

  abbrev FirmOp : Op → Type 0
  FirmOp (event l t vs) = FirmLabel l
  FirmOp o = Unit {0}

  at_calm : {A : Type 0} (o : Option Variable) (f : Variable → Completion A) → ((x : Variable) → Calm (f x)) → Calm (at_variable o f)
  unfolding at_variable
  at_calm (Some x) f h = h x
  at_calm None f h = tt

  slot_calm : (k : Slot) (s : State) → Calm (read_slot k s)
  unfolding read_slot
  slot_calm (Holds v) s = tt
  slot_calm Missing s = tt
  slot_calm Uninitialised s = tt

  global_calm : (e : Environment) (k : Slot) (s : State) → Calm (read_global e k s)
  global_calm e (Holds v) s = tt
  global_calm e Missing s = answered_calm e (Raise ReferenceError) s.answers (note e (Raise ReferenceError) None [] None s) tt
  global_calm e Uninitialised s = tt

  name_calm : (e : Environment) (x : Variable) (v : Slot) (s : State) → Calm (read_name e x v s)
  name_calm e x v s = name_reads (λ a b. Calm a) e e x v v s s (slot_calm v s) (global_calm e v s)

  any_calm : (k : Slot) (s : State) → Calm (read_any k s)
  unfolding read_any
  any_calm (Holds v) s = tt
  any_calm Missing s = tt
  any_calm Uninitialised s = tt

  type_calm : (x : Variable) (v : Slot) (s : State) → Calm (read_type x v s)
  type_calm x v s = type_reads (λ a b. Calm a) x v v s s (slot_calm v s) (any_calm v s)

  write_calm : (x : Variable) (v : Value) (k : Slot) (s : State) → Calm (write_slot x v k s)
  unfolding write_slot
  write_calm x v (Holds w) s = tt
  write_calm x v Missing s = tt
  write_calm x v Uninitialised s = tt

  write_global_calm : (x : Variable) (v : Value) (k : Slot) (s : State) → Calm (write_global x v k s)
  write_global_calm x v (Holds w) s = tt
  write_global_calm x v Missing s = tt
  write_global_calm x v Uninitialised s = tt

  write_name_calm : (x : Variable) (v : Value) (k : Slot) (s : State) → Calm (write_name x v k s)
  write_name_calm x v k s = name_writes (λ a b. Calm a) x v k k s s (write_calm x v k s) (write_global_calm x v k s)

  this_calm : (e : Environment) (b : Bool) (s : State) → Calm (this_of e b s)
  unfolding this_of
  this_calm e true s = answered_calm e ThisOf s.answers (note e ThisOf None [] None s) tt
  this_calm e false s = tt

  turn_calm : (n : ℕ) (s : State) → Calm (take_turn n s)
  unfolding take_turn
  turn_calm zero s = tt
  turn_calm (suc n) s = tt

  bound_calm : (h : Heard Value) (xs : List Variable) (f : Variable → Value) (s : State) → CalmHeard h → Calm (bound_if h xs f s)
  bound_calm (hears v) xs f s c = tt
  bound_calm (breaks y) xs f s c = c
  bound_calm nonsense xs f s c = tt

  binds_calm : (e : Environment) (xs : List Variable) (answers : List Answer) (s : State) → Calm (answered_binds e xs answers s)
  unfolding answered_binds
  binds_calm e xs [] s = tt
  binds_calm e xs (a ∷ answers) s = bound_calm (hear BindOf a.given) xs a.binds (record s { vars = news_of e.foreign s.vars a.news; answers = answers }) (hear_calm BindOf tt a.given)

  act_calm : (e : Environment) (names : Naming) (o : Op) (s : State) → FirmOp o → Calm (act e names o s)
  unfolding act
  act_calm e names (read i) s p = at_calm _ _ (λ x. name_calm e x (s.vars x) s)
  act_calm e names (read_typeof i) s p = at_calm _ _ (λ x. type_calm x (s.vars x) s)
  act_calm e names (fixity i) s p = at_calm _ _ (λ x. tt)
  act_calm e names (write i v) s p = at_calm _ _ (λ x. write_name_calm x v (s.vars x) s)
  act_calm e names (init i v) s p = at_calm _ _ (λ x. tt)
  act_calm e names (init_function is_lexical i v) s p = at_calm _ _ (λ x. tt)
  act_calm e names hide s p = tt
  act_calm e names copy s p = tt
  act_calm e names (event l t vs) s p = answered_calm e l s.answers _ p
  act_calm e names (bind_names v) s p = binds_calm e names.bound s.answers _
  act_calm e names self s p = this_calm e e.asks_this s
  act_calm e names turn s p = turn_calm s.turns s
  act_calm e names fuel s p = tt

  -- ---- commands

  abbrev Asked : Bool → Demand → Type 0
  Asked true q = Asks q
  Asked false q = Unit {0}

  -- it ends no chain, where its children end none, or whatever they do
  abbrev pub Tidy : {σ : ℕ → Demand} {A : Type 0} → Bool → Command σ A → Type 0
  Tidy {σ} b (ret a) = Unit {0}
  Tidy {σ} b (fails y) = P y
  Tidy {σ} b stuck = Unit {0}
  Tidy {σ} b (op o k) = FirmOp o × (((a : Gets o) → Tidy b (k (done a))) × ((y : Stop) → P y → Tidy b (k (ended y))))
  Tidy {σ} b (kid i r k) = Asked b (σ i) × (((a : Reply (σ i) r) → Tidy b (k (done a))) × ((y : Stop) → Heeds b y → Tidy b (k (ended y))))

  pub run_calm : {σ : ℕ → Demand} {A : Type 0} (e : Environment) (b : Bool) (names : Naming) (K : Kids σ) → (b ≡ true → (i : ℕ) (r : Request (σ i)) (s : State) → Asks (σ i) → Calm (K i r s)) → (c : Command σ A) → Tidy b c → (s : State) → Calm (run e names K c s)
  run_calm e b names K h (ret a) t s = tt
  run_calm e b names K h (fails y) t s = t
  run_calm e b names K h stuck t s = tt
  run_calm e b names K h (op o k) t s = calm_either true (act e names o s) _ _ (λ p. act_calm e names o s t.0) (λ a z. run_calm e b names K h (k (done a)) (t.1.0 a) z) (λ y z p. run_calm e b names K h (k (ended y)) (t.1.1 y p) z)
  run_calm {σ} e b names K h (kid i r k) t s = calm_either b (K i r s) _ _ (λ p. h p i r s (subst (λ b. Asked b (σ i)) p t.0)) (λ a z. run_calm e b names K h (k (done a)) (t.1.0 a) z) (λ y z p. run_calm e b names K h (k (ended y)) (t.1.1 y p) z)

  pub tidy_bind : {σ : ℕ → Demand} {A B : Type 0} (b : Bool) (c : Command σ A) (f : A → Command σ B) → Tidy b c → ((a : A) → Tidy b (f a)) → Tidy b (bind c f)
  tidy_bind b (ret a) f t g = g a
  tidy_bind b (fails y) f t g = t
  tidy_bind b stuck f t g = tt
  tidy_bind b (op o k) f t g = (t.0, (λ a. tidy_bind b (k (done a)) f (t.1.0 a) g, λ y p. tidy_bind b (k (ended y)) f (t.1.1 y p) g))
  tidy_bind b (kid i r k) f t g = (t.0, (λ a. tidy_bind b (k (done a)) f (t.1.0 a) g, λ y p. tidy_bind b (k (ended y)) f (t.1.1 y p) g))

  tidy_shift : (q : ℕ → Demand) {A : Type 0} (b : Bool) (c : Command (λ i. q (suc i)) A) → Tidy b c → Tidy b (shift {q = q} c)
  tidy_shift q b (ret a) t = tt
  tidy_shift q b (fails y) t = t
  tidy_shift q b stuck t = tt
  tidy_shift q b (op o k) t = (t.0, (λ a. tidy_shift q b (k (done a)) (t.1.0 a), λ y p. tidy_shift q b (k (ended y)) (t.1.1 y p)))
  tidy_shift q b (kid i r k) t = (t.0, (λ a. tidy_shift q b (k (done a)) (t.1.0 a), λ y p. tidy_shift q b (k (ended y)) (t.1.1 y p)))

  pub tidy_choose : {σ : ℕ → Demand} {A : Type 0} (b c : Bool) (x y : Command σ A) → Tidy b x → Tidy b y → Tidy b (choose c x y)
  tidy_choose b true x y t u = t
  tidy_choose b false x y t u = u

  module _ (σ : ℕ → Demand) (b : Bool) where
    abbrev Neat : {A : Type 0} → Command σ A → Type 0
    Neat c = Tidy {σ = σ} b c

    -- ---- what several shapes do

    pub reply_tidy : (q : Demand) (r : Request q) (v : Value) → Neat (reply q r v)
    reply_tidy (As w) r v = tt
    reply_tidy Callee r v = tt
    reply_tidy OfType r v = tt
    reply_tidy Deleted r v = tt
    reply_tidy AnEntry r v = tt
    reply_tidy q r v = tt

    pub valued_tidy : (q : Demand) (r : Request q) (c : Command σ Value) → Neat c → Neat (valued q r c)
    valued_tidy (As w) r c t = tidy_bind b c (reply (As w) r) t (λ v. tt)
    valued_tidy Callee r c t = tidy_bind b c (reply Callee r) t (λ v. tt)
    valued_tidy OfType r c t = tidy_bind b c (reply OfType r) t (λ v. tt)
    valued_tidy Deleted r c t = tidy_bind b c (reply Deleted r) t (λ v. tt)
    valued_tidy AnEntry r c t = tidy_bind b c (reply AnEntry r) t (λ v. tt)
    valued_tidy q r c t = tt

    passing_tidy : (q : Demand) (r : Request q) (c : Command σ (Says (pass q))) → Neat c → Neat (passing q r c)
    passing_tidy (As w) r c t = tidy_bind b c (passed (As w) r) t (λ v. tt)
    passing_tidy Callee r c t = tidy_bind b c (passed Callee r) t (λ v. tt)
    passing_tidy OfType r c t = tidy_bind b c (passed OfType r) t (λ v. tt)
    passing_tidy Deleted r c t = tidy_bind b c (passed Deleted r) t (λ v. tt)
    passing_tidy AnEntry r c t = tidy_bind b c (passed AnEntry r) t (λ v. tt)
    passing_tidy q r c t = tt

    raise_tidy : (A : Type 0) → Neat {A = A} raise
    raise_tidy A = (tt, (λ v. tt, λ y p. p))

    made_tidy : {A : Type 0} (m : Made A) → Neat (of_made m)
    made_tidy {A} (makes a) = tt
    made_tidy {A} raises = raise_tidy A
    made_tidy {A} outside = tt

    option_tidy : {A : Type 0} (o : Option A) → Neat (of_option o)
    option_tidy (Some a) = tt
    option_tidy None = tt

    primitive_tidy : (hint : Hint) (v : Value) → Neat (primitive hint v)
    primitive_tidy hint v = tidy_choose b (is_object v) (emit (Coerce hint) (Item v ∷ [])) (ret v) (tt, (λ v. tt, λ y p. p)) tt

    numeric_tidy : (v : Value) → Neat (numeric v)
    numeric_tidy v = tidy_bind b (primitive ForNumber v) (λ x. of_made (to_number x)) (primitive_tidy ForNumber v) (λ x. made_tidy (to_number x))

    operate_tidy : (o : BinaryOperator) (v w : Value) → Neat (operate o v w)
    operate_tidy o v w =
        tidy_choose b (is_of_primitives o) (bind (primitive (hint_of o) v) (λ x. bind (primitive (hint_of o) w) (λ y. of_made (of_primitives o x y)))) (bind (numeric v) (λ m. bind (numeric w) (λ n. of_made (of_numbers o m n))))
        (tidy_bind b (primitive (hint_of o) v) (λ x. bind (primitive (hint_of o) w) (λ y. of_made (of_primitives o x y))) (primitive_tidy (hint_of o) v) (λ x. tidy_bind b (primitive (hint_of o) w) (λ y. of_made (of_primitives o x y)) (primitive_tidy (hint_of o) w) (λ y. made_tidy (of_primitives o x y))))
        (tidy_bind b (numeric v) (λ m. bind (numeric w) (λ n. of_made (of_numbers o m n))) (numeric_tidy v) (λ m. tidy_bind b (numeric w) (λ n. of_made (of_numbers o m n)) (numeric_tidy w) (λ n. made_tidy (of_numbers o m n))))

    loosely_tidy : (v w : Value) → Neat (loosely v w)
    loosely_tidy v w =
        tidy_choose b (is_nullish v) (ret (is_nullish w)) _ tt
        (tidy_choose b (is_nullish w) (ret false) _ tt
        (tidy_choose b (is_object v && is_object w) (ret (strictly_equal v w)) _ tt
        (tidy_bind b (primitive ForDefault v) (λ x. bind (primitive ForDefault w) (λ y. of_option (loosely_equal x y))) (primitive_tidy ForDefault v)
        (λ x. tidy_bind b (primitive ForDefault w) (λ y. of_option (loosely_equal x y)) (primitive_tidy ForDefault w) (λ y. option_tidy (loosely_equal x y))))))

    known_tidy : (m : Option Value) (c : Command σ Value) → Neat c → Neat (or_event m c)
    known_tidy (Some v) c t = tt
    known_tidy None c t = t

    pub get_tidy : (object key : Value) → Neat (get_member object key)
    get_tidy object key = tidy_choose b (is_nullish object) raise (or_event (known_member object key) (emit GetOf (Item object ∷ Item key ∷ []))) (raise_tidy Value) (known_tidy (known_member object key) (emit GetOf (Item object ∷ Item key ∷ [])) (tt, (λ v. tt, λ y p. p)))

    put_tidy : (object : Value) (key : Entry) (v : Value) → Neat (put_member object key v)
    put_tidy object key v = tidy_choose b (is_nullish object) raise (bind (emit SetOf (Item object ∷ key ∷ Item v ∷ [])) (λ u. ret tt)) (raise_tidy (Unit {0})) (tt, (λ v. tt, λ y p. p))

    fixed_tidy : (v : Value) (f : Writing) → Neat (by_fixity v f)
    fixed_tidy v Writes = (tt, (λ v. tt, λ y p. p))
    fixed_tidy v WritesPresent = (tt, (λ old. (tt, (λ v. tt, λ y p. p)), λ y p. p))
    fixed_tidy v Refuses = raise_tidy (Unit {0})
    fixed_tidy v Keeps = tt

    own_tidy : (v : Value) → Neat (put_own v)
    own_tidy v = (tt, (λ f. fixed_tidy v f, λ y p. p))

    -- ---- names and members

    name_tidy : (k : NameKind) → Neat (get_identifier k)
    name_tidy UndefinedName = tt
    name_tidy NumberName = tt
    name_tidy k = (tt, (λ v. tt, λ y p. p))

    type_tidy : (k : NameKind) → Neat (type_identifier k)
    type_tidy PlainName = (tt, (λ v. tt, λ y p. p))
    type_tidy EvalName = (tt, (λ v. tt, λ y p. p))
    type_tidy k = name_tidy k

    put_name_tidy : (k : NameKind) (v : Value) → Neat (put_identifier k v)
    put_name_tidy UndefinedName v = tt
    put_name_tidy NumberName v = tt
    put_name_tidy k v = own_tidy v

    identifier_tidy : (k : NameKind) (q : Demand) (r : Request q) → Neat (identifier_step k q r)
    identifier_tidy k Callee r = tidy_bind b (get_identifier k) (λ v. ret (record { value = v; this_value = Undefined; direct = is_eval k })) (name_tidy k) (λ v. tt)
    identifier_tidy k OfType r = tidy_bind b (type_identifier k) (λ v. ret v) (type_tidy k) (λ v. tt)
    identifier_tidy k Deleted r = tt
    identifier_tidy k Target Prepare = tt
    identifier_tidy k Target (Fetch reference) = name_tidy k
    identifier_tidy k Target (Put reference v) = put_name_tidy k v
    identifier_tidy k q r = valued_tidy q r (get_identifier k) (name_tidy k)

    fetched_tidy : (reference : Reference) → Neat (fetched reference)
    fetched_tidy (AMember object key) = get_tidy object key
    fetched_tidy reference = tt

    stored_tidy : (reference : Reference) (v : Value) → Neat (stored reference v)
    stored_tidy (AMember object key) v = put_tidy object (Item key) v
    stored_tidy (AFetched object key) v = put_tidy object _ v
    stored_tidy reference v = tt

    pub got_tidy : (reference : Reference) → Neat (got reference)
    got_tidy (AMember object key) = get_tidy object key
    got_tidy reference = tt

    pub called_tidy : (reference : Reference) → Neat (called_member reference)
    called_tidy (AMember object key) = tidy_bind b (get_member object key) (λ v. ret (record { value = v; this_value = object; direct = false })) (get_tidy object key) (λ v. tt)
    called_tidy reference = tt

    pub member_tidy : (c : Command σ Reference) → Neat c → (q : Demand) (r : Request q) → Neat (as_member c q r)
    member_tidy c t Deleted r = t
    member_tidy c t Target Prepare = t
    member_tidy c t Target (Fetch reference) = fetched_tidy reference
    member_tidy c t Target (Put reference v) = stored_tidy reference v
    member_tidy c t Callee r = tidy_bind b c called_member t called_tidy
    member_tidy c t q r = valued_tidy q r (bind c got) (tidy_bind b c got t got_tidy)

    -- ---- what the world evaluates

    carried_tidy : (what : Carries) → FirmLabel (NodeOf what) → (q : Demand) (r : Request q) → Neat (carried_target what q r)
    carried_tidy what f Deleted r = tt
    carried_tidy what f Target Prepare = (tt, (λ v. tt, λ y p. p))
    carried_tidy what f Target (Fetch reference) = (tt, (λ v. tt, λ y p. p))
    carried_tidy what f Target (Put reference v) = (tt, (λ v. tt, λ y p. p))
    carried_tidy what f q r = valued_tidy q r (emit_mine (NodeOf what) []) (f, (λ v. tt, λ y p. p))

    super_tidy : (q : Demand) (r : Request q) → Neat (super_member q r)
    super_tidy Callee r = (tt, (λ v. (tt, (λ v. tt, λ y p. p)), λ y p. p))
    super_tidy Deleted r = (tt, (λ v. (tt, (λ v. tt, λ y p. p)), λ y p. p))
    super_tidy q r = carried_tidy Anything tt q r

    pub private_tidy : (what : Carries) → FirmLabel (NodeOf what) → FirmLabel (PlaceOf what) → (q : Demand) (r : Request q) → Neat (private_member what q r)
    private_tidy what f g Callee r = (g, (λ v. (tt, (λ v. tt, λ y p. p)), λ y p. p))
    private_tidy what f g q r = carried_tidy what f q r

    pattern_tidy : (q : Demand) (r : Request q) → Neat (pattern_target q r)
    pattern_tidy Target Prepare = tt
    pattern_tidy Target (Put reference v) = (tt, (λ u. tt, λ y p. p))
    pattern_tidy q r = tt

    absent_tidy : (q : Demand) (r : Request q) → Neat (absent_step q r)
    absent_tidy (As w) r = tt
    absent_tidy AnEntry r = tt
    absent_tidy Items r = tt
    absent_tidy (Stat t) r = tt
    absent_tidy (Binds lexical) r = tt
    absent_tidy Catches r = thrown r
    absent_tidy q r = tt

  -- ---- each shape

  pub closed_tidy : (b : Bool) (h : Shape) → is_closed_shape h ≡ true → (ks : List NameKind) (fs : List Facts) (q : Demand) (r : Request q) → Tidy {σ = λ i. chained q} b (chain_step q r) → Tidy b (step h ks fs q r)
  unfolding step
  closed_tidy b shape.Absent p ks fs q r c = absent_tidy _ b q r
  closed_tidy b shape.Identifier p ks fs q r c = identifier_tidy _ b (first_kind ks) q r
  closed_tidy b (shape.IdentifierName s) p ks fs q r c = valued_tidy _ b q r (ret (String s)) tt
  closed_tidy b (shape.PrivateIdentifier s) p ks fs q r c = tt
  closed_tidy b (shape.NumericLiteral n) p ks fs q r c = valued_tidy _ b q r (ret (Number n)) tt
  closed_tidy b (shape.StringLiteral s) p ks fs q r c = valued_tidy _ b q r (ret (String s)) tt
  closed_tidy b (shape.BooleanLiteral v) p ks fs q r c = valued_tidy _ b q r (ret (Boolean v)) tt
  closed_tidy b shape.NullLiteral p ks fs q r c = valued_tidy _ b q r (ret Null) tt
  closed_tidy b (shape.RegExpLiteral pattern flags) p ks fs q r c = valued_tidy _ b q r (emit_mine (NodeOf AnObject) []) (tt, (λ v. tt, λ y p. p))
  closed_tidy b (shape.BigIntLiteral n) p ks fs q r c = tt
  closed_tidy b shape.ThisExpression p ks fs q r c = valued_tidy _ b q r (op self (then (λ v. ret v))) (tt, (λ v. tt, λ y p. p))
  closed_tidy b (shape.Function false is_generator directives) p ks fs q r c = valued_tidy _ b q r (emit_mine Create []) (tt, (λ v. tt, λ y p. p))
  closed_tidy b (shape.ArrowFunctionExpression directives) p ks fs q r c = valued_tidy _ b q r (emit_mine Create []) (tt, (λ v. tt, λ y p. p))
  closed_tidy b (shape.Class false) p ks fs q r c = valued_tidy _ b q r (emit_mine (NodeOf AnObject) []) (tt, (λ v. tt, λ y p. p))
  closed_tidy b shape.SuperCallExpression p ks fs q r c = valued_tidy _ b q r (emit_mine (NodeOf Anything) []) (tt, (λ v. tt, λ y p. p))
  closed_tidy b shape.SuperStaticMemberExpression p ks fs q r c = super_tidy _ b q r
  closed_tidy b shape.SuperComputedMemberExpression p ks fs q r c = super_tidy _ b q r
  closed_tidy b shape.PrivateInExpression p ks fs q r c = valued_tidy _ b q r (emit_mine (NodeOf ABoolean) []) (tt, (λ v. tt, λ y p. p))
  closed_tidy b shape.TaggedTemplateExpression p ks fs q r c = valued_tidy _ b q r (emit_mine (NodeOf Anything) []) (tt, (λ v. tt, λ y p. p))
  closed_tidy b (shape.TemplateElement is_tail raw cooked) p ks fs q r c = tt
  closed_tidy b (shape.MetaProperty k) p ks fs q r c = valued_tidy _ b q r (emit_mine (NodeOf Anything) []) (tt, (λ v. tt, λ y p. p))
  closed_tidy b shape.ImportExpression p ks fs q r c = valued_tidy _ b q r (emit_mine (NodeOf Anything) []) (tt, (λ v. tt, λ y p. p))
  closed_tidy b shape.ChainExpression p ks fs q r c = c
  closed_tidy b shape.ObjectAssignmentTarget p ks fs q r c = pattern_tidy _ b q r
  closed_tidy b shape.ArrayAssignmentTarget p ks fs q r c = pattern_tidy _ b q r
  closed_tidy b h p ks fs q r c = absurd (true≢false (sym p))

  -- lists

  entries_tidy : (n : ℕ) → Tidy true (entries n)
  entries_tidy zero = tt
  entries_tidy (suc n) = (tt, (λ e. tidy_bind true (shift {q = λ i. AnEntry} (entries n)) (λ es. ret (e ∷ es)) (tidy_shift (λ i. AnEntry) true (entries n) (entries_tidy n)) (λ es. tt), λ y p. p))

  parts_tidy : (n : ℕ) (w : Want) → Tidy true (parts n w)
  parts_tidy zero w = (tt, (λ a. tt, λ y p. p))
  parts_tidy (suc n) w = (tt, (λ a. tidy_shift (parts_demand (suc n) w) true (parts n w) (parts_tidy n w), λ y p. p))

  sequence_tidy : (n : ℕ) (w : Want) → Tidy true (sequence n w)
  sequence_tidy zero w = tt
  sequence_tidy (suc n) w = parts_tidy n w

  texts_tidy : (n : ℕ) → Tidy true (template_texts n)
  texts_tidy zero = tt
  texts_tidy (suc n) = (
    tt,
    (
      λ v. tidy_bind true (primitive ForString v) (λ x. bind (of_made (to_text x)) (λ s. bind (shift {q = λ i. As Val} (template_texts n)) (λ ss. ret (s ∷ ss)))) (primitive_tidy (λ i. As Val) true ForString v)
          (λ x. tidy_bind true (of_made (to_text x)) (λ s. bind (shift {q = λ i. As Val} (template_texts n)) (λ ss. ret (s ∷ ss))) (made_tidy (λ i. As Val) true (to_text x))
          (λ s. tidy_bind true (shift {q = λ i. As Val} (template_texts n)) (λ ss. ret (s ∷ ss)) (tidy_shift (λ i. As Val) true (template_texts n) (texts_tidy n)) (λ ss. tt))),
      λ y p. p,
    ),
  )

  list_tidy : (fs : List Facts) (q : Demand) (r : Request q) → Asks q → Tidy true (list_step fs q r)
  list_tidy fs (As w) r a = tt
  list_tidy fs Callee r a = tt
  list_tidy fs OfType r a = tt
  list_tidy fs Deleted r a = tt
  list_tidy fs Target r a = tt
  list_tidy fs AnEntry r a = tt
  list_tidy fs Items r a = entries_tidy (length fs)
  list_tidy fs (Parts w) r a = sequence_tidy (length fs) w
  list_tidy fs Texts r a = texts_tidy (length fs)
  list_tidy fs q r a = absurd a

  -- operators

  delete_tidy : (reference : Reference) → Tidy {σ = λ i. Deleted} true (delete_of reference)
  delete_tidy (AMember object key) = tidy_choose true (is_nullish object) raise (bind (emit DeleteOf (Item object ∷ Item key ∷ [])) (λ b. ret (Boolean b))) (raise_tidy (λ i. Deleted) true Value) (tt, (λ v. tt, λ y p. p))
  delete_tidy (AValue v) = tt
  delete_tidy reference = tt

  number_tidy : (o : UnaryOperator) (v : Value) → Tidy {σ = λ i. As Val} true (bind (numeric v) (λ n. of_made (of_number o n)))
  number_tidy o v = tidy_bind true (numeric v) (λ n. of_made (of_number o n)) (numeric_tidy (λ i. As Val) true v) (λ n. made_tidy (λ i. As Val) true (of_number o n))

  unary_tidy : (o : UnaryOperator) → Tidy true (unary_step o)
  unary_tidy unary.LogicalNot = (tt, (λ v. tt, λ y p. p))
  unary_tidy unary.Typeof = (tt, (λ v. tt, λ y p. p))
  unary_tidy unary.Delete = (tt, (delete_tidy, λ y p. p))
  unary_tidy unary.Void = (tt, (λ v. tt, λ y p. p))
  unary_tidy unary.UnaryPlus = (tt, (number_tidy unary.UnaryPlus, λ y p. p))
  unary_tidy unary.UnaryNegation = (tt, (number_tidy unary.UnaryNegation, λ y p. p))
  unary_tidy unary.BitwiseNot = (tt, (number_tidy unary.BitwiseNot, λ y p. p))

  by_tidy : (o : BinaryOperator) (v w : Value) → Tidy {σ = λ i. As Val} true (operate_by o v w)
  by_tidy binary.Equality v w = tidy_bind true (loosely v w) (λ c. ret (Boolean c)) (loosely_tidy (λ i. As Val) true v w) (λ c. tt)
  by_tidy binary.Inequality v w = tidy_bind true (loosely v w) (λ c. ret (Boolean (not c))) (loosely_tidy (λ i. As Val) true v w) (λ c. tt)
  by_tidy binary.StrictEquality v w = tt
  by_tidy binary.StrictInequality v w = tt
  by_tidy binary.In v w = tidy_choose true (is_object w) _ raise (tt, (λ b. tt, λ y p. p)) (raise_tidy (λ i. As Val) true Value)
  by_tidy binary.Instanceof v w = tidy_choose true (is_object w) _ raise (tt, (λ b. tt, λ y p. p)) (raise_tidy (λ i. As Val) true Value)
  by_tidy o v w = operate_tidy (λ i. As Val) true o v w

  binary_tidy : (o : BinaryOperator) → Tidy true (binary_step o)
  binary_tidy o = (tt, (λ v. (tt, (λ w. by_tidy o v w, λ y p. p)), λ y p. p))

  logical_tidy : (o : LogicalOperator) (w : Want) → Tidy true (logical_step o w)
  logical_tidy And Val = (tt, (λ v. tidy_choose true (truth v) (kid 1 tt (then (λ v. ret v))) (ret v) (tt, (λ v. tt, λ y p. p)) tt, λ y p. p))
  logical_tidy And Test = (tt, (λ c. tidy_choose true c (kid 1 tt (then (λ v. ret v))) (ret false) (tt, (λ v. tt, λ y p. p)) tt, λ y p. p))
  logical_tidy And Unused = (tt, (λ c. tidy_choose true c (kid 1 tt (then (λ v. ret v))) (ret tt) (tt, (λ v. tt, λ y p. p)) tt, λ y p. p))
  logical_tidy Or Val = (tt, (λ v. tidy_choose true (truth v) (ret v) (kid 1 tt (then (λ v. ret v))) tt (tt, (λ v. tt, λ y p. p)), λ y p. p))
  logical_tidy Or Test = (tt, (λ c. tidy_choose true c (ret true) (kid 1 tt (then (λ v. ret v))) tt (tt, (λ v. tt, λ y p. p)), λ y p. p))
  logical_tidy Or Unused = (tt, (λ c. tidy_choose true c (ret tt) (kid 1 tt (then (λ v. ret v))) tt (tt, (λ v. tt, λ y p. p)), λ y p. p))
  logical_tidy Coalesce w = (tt, (λ v. tidy_choose true (is_nullish v) _ _ (tt, (λ v. tt, λ y p. p)) tt, λ y p. p))

  conditional_tidy : (w : Want) → Tidy true (conditional_step w)
  conditional_tidy w = (tt, (λ c. tidy_choose true c (kid 1 tt (then (λ v. ret v))) (kid 2 tt (then (λ v. ret v))) (tt, (λ v. tt, λ y p. p)) (tt, (λ v. tt, λ y p. p)), λ y p. p))

  pub call_tidy : (σ : ℕ → Demand) (b o : Bool) (f : Called) (vs : List Entry) → Tidy {σ = σ} b (call_event o f vs)
  call_tidy σ b o f vs = tidy_choose b (f.direct && not o) (emit DirectEval (Item f.value ∷ vs)) (emit CallOf (Item f.value ∷ Item f.this_value ∷ vs)) (tt, (λ v. tt, λ y p. p)) (tt, (λ v. tt, λ y p. p))

  key_tidy : (b : Bool) (v : Value) → Tidy {σ = λ i. As Val} true (property_key b v)
  key_tidy true v = tidy_bind true (primitive ForString v) (λ key. ret (key_value key)) (primitive_tidy (λ i. As Val) true ForString v) (λ key. tt)
  key_tidy false v = tt

  entry_tidy : (σ : ℕ → Demand) (q : Demand) (r : Request q) (c : Command σ Entry) → Tidy true c → Tidy true (entry q r c)
  entry_tidy σ AnEntry r c t = tidy_bind true c (λ v. ret v) t (λ v. tt)
  entry_tidy σ q r c t = tt

  -- assignments

  assign_tidy : (k : AssignmentKind) (reference : Reference) → Tidy true (assign_by k reference)
  assign_tidy Plainly reference = (tt, (λ v. (tt, (λ u. tt, λ y p. p)), λ y p. p))
  assign_tidy (Computing o) reference = (tt, (λ v. (tt, (λ w. tidy_bind true (operate o v w) (put_target (after_read reference)) (operate_tidy AssignDemand true o v w) (λ x. (tt, (λ u. tt, λ y p. p))), λ y p. p)), λ y p. p))
  assign_tidy (Deciding o) reference = (tt, (λ v. tidy_choose true (assigns o v) (kid 1 tt (then (put_target (after_read reference)))) (ret v) (tt, (λ w. (tt, (λ u. tt, λ y p. p)), λ y p. p)) tt, λ y p. p))

  update_tidy : (o : UpdateOperator) (is_prefix : Bool) → Tidy true (update_step o is_prefix)
  update_tidy o is_prefix = (
    tt,
    (
      λ reference. (
        tt,
        (
          λ v. tidy_bind true (numeric v) _ (numeric_tidy (λ i. Target) true v)
              (λ n. tidy_bind true (of_made (safe_number (changed o n))) _ (made_tidy (λ i. Target) true (safe_number (changed o n)))
              (λ w. (tt, (λ u. tt, λ y p. p)))),
          λ y p. p,
        ),
      ),
      λ y p. p,
    ),
  )

  pub open_tidy : (h : Shape) → is_open_shape h ≡ true → (ks : List NameKind) (fs : List Facts) (q : Demand) (r : Request q) → Asks q → Tidy {σ = λ i. Stat None} true (private_member (chained_carries false (first_facts fs).shortens) q r) → Tidy true (step h ks fs q r)
  unfolding step
  open_tidy shape.Listed p ks fs q r a u = list_tidy fs q r a
  open_tidy shape.InnerExpression p ks fs q r a u = (a, (λ v. tt, λ y p. p))
  open_tidy shape.ArrayExpression p ks fs q r a u = valued_tidy _ true q r array_step (tt, (λ es. (tt, (λ v. tt, λ y p. p)), λ y p. p))
  open_tidy shape.ObjectExpression p ks fs q r a u = valued_tidy _ true q r object_step (tt, (λ es. (tt, (λ v. tt, λ y p. p)), λ y p. p))
  open_tidy (shape.ObjectProperty k is_method is_shorthand is_computed) p ks fs q r a u =
      entry_tidy _ q r (property_step k is_method is_shorthand is_computed) (tt, (λ v. tidy_bind true (property_key is_computed v) _ (key_tidy is_computed v) (λ key. (tt, (λ v. tt, λ y p. p))), λ y p. p))
  open_tidy shape.SpreadElement p ks fs q r a u = entry_tidy _ q r spread_step (tt, (λ v. (tt, (λ v. tt, λ y p. p)), λ y p. p))
  open_tidy (shape.UnaryExpression o) p ks fs q r a u = valued_tidy _ true q r (unary_step o) (unary_tidy o)
  open_tidy (shape.UpdateExpression o is_prefix) p ks fs q r a u = valued_tidy _ true q r (update_step o is_prefix) (update_tidy o is_prefix)
  open_tidy (shape.BinaryExpression o) p ks fs q r a u = valued_tidy _ true q r (binary_step o) (binary_tidy o)
  open_tidy (shape.LogicalExpression o) p ks fs q r a u = passing_tidy _ true q r (logical_step o (pass q)) (logical_tidy o (pass q))
  open_tidy (shape.AssignmentExpression o) p ks fs q r a u = valued_tidy _ true q r (assignment_step o) (tt, (λ reference. assign_tidy (assignment_kind o) reference, λ y p. p))
  open_tidy shape.ConditionalExpression p ks fs q r a u = passing_tidy _ true q r (conditional_step (pass q)) (conditional_tidy (pass q))
  open_tidy shape.SequenceExpression p ks fs q r a u = passing_tidy _ true q r (sequence_step (pass q)) (tt, (λ v. tt, λ y p. p))
  open_tidy (shape.CallExpression false) p ks fs q r a u = valued_tidy _ true q r (call_step false) (tt, (λ f. (tt, (λ vs. call_tidy _ true false f vs, λ y p. p)), λ y p. p))
  open_tidy shape.NewExpression p ks fs q r a u = valued_tidy _ true q r new_step (tt, (λ f. (tt, (λ vs. (tt, (λ v. tt, λ y p. p)), λ y p. p)), λ y p. p))
  open_tidy (shape.StaticMemberExpression false) p ks fs q r a u = member_tidy _ true (member_step false) (tt, (λ v. (tt, (λ u. tt, λ y p. p)), λ y p. p)) q r
  open_tidy (shape.ComputedMemberExpression false) p ks fs q r a u = member_tidy _ true (member_step false) (tt, (λ v. (tt, (λ u. tt, λ y p. p)), λ y p. p)) q r
  open_tidy (shape.PrivateFieldExpression false) p ks fs q r a u = u
  open_tidy (shape.YieldExpression is_delegate) p ks fs q r a u = valued_tidy _ true q r (yield_step is_delegate) (tt, (λ v. (tt, (λ v. tt, λ y p. p)), λ y p. p))
  open_tidy shape.TemplateLiteral p ks fs q r a u = valued_tidy _ true q r (template_step _) (tt, (λ ss. tt, λ y p. p))
  open_tidy h p ks fs q r a u = absurd (true≢false (sym p))
