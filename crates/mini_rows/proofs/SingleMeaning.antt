-- What a tree reads may be put there: a variable that holds a value, or the expression that gives the value, where the parts that are
-- evaluated before pass it.
use Rattle.std.specs.Prelude.{◌&&◌, ◌||◌, not, Bool, Option, length, codes, if◌then◌else◌, ◌⊎◌}
use Rattle.std.specs.Fmt.{signed_decimal}
use Rattle.std.proofs.lemmas.Bool.{and_parts, eq-eqb}
use Rattle.std.proofs.Common.{◌≡◌, ℕ, zero, suc, true, false, List, [], ◌∷◌, None, Some, refl, sym, ap, ◌∙◌, subst, subst₂, true≢false, inl, inr}
use Rattle.mini_model.specs.declared.name.Name.{Name}
use Rattle.mini_model.specs.declared.kind.PropertyKind.TheVariants.{Init}
use Rattle.mini_model.specs.declared.operator.AssignmentOperator.{AssignmentOperator}
use Rattle.mini_model.specs.declared.operator.AssignmentOperator.TheVariants.{Assign}
use Rattle.mini_model.specs.declared.operator.BinaryOperator.{BinaryOperator}
use Rattle.mini_model.specs.declared.operator.BinaryOperator.TheVariants as binary
use Rattle.mini_model.specs.declared.operator.LogicalOperator.{LogicalOperator}
use Rattle.mini_model.specs.declared.operator.LogicalOperator.TheVariants.{Or, And, Coalesce}
use Rattle.mini_model.specs.declared.operator.UnaryOperator.{UnaryOperator}
use Rattle.mini_model.specs.declared.operator.UpdateOperator.{UpdateOperator}
use Rattle.mini_model.specs.declared.operator.UnaryOperator.TheVariants.{UnaryPlus, UnaryNegation, BitwiseNot}
use Rattle.mini_model.specs.declared.shape.Shape.{Shape}
use Rattle.mini_model.specs.declared.shape.Shape.TheVariants as shape
use Rattle.mini_model.specs.Tree.{Tree, Trees, node, none, ◌▸◌, count, identifier, shape_of}
use Rattle.mini_model.specs.Paths.{append}
use Rattle.mini_model.specs.Weight.{same_text}
use Rattle.mini_laws.specs.Value.{Value, Undefined, Null, Boolean, Number, String, Declared, VariableSet, Slot, Holds, choose, truth, is_nullish, variable_eq}
use Rattle.mini_laws.specs.Conversion.{Made, makes, raises, outside, text_of_boolean, to_number, to_text, key_value, known_member}
use Rattle.mini_laws.specs.Operators.{safe_number, of_number, strictly_equal, loosely_equal, of_numbers, of_primitives}
use Rattle.mini_laws.specs.State.{Hint, ForDefault, ForNumber, ForString, GetOf, CallOf, DirectEval, Coerce, Entry, Item, Converted, Stop, Short, State, Completion, ok, stop, halt, out, Ends, done, ended, either, Environment, with_vars}
use Rattle.mini_laws.specs.Demand.{Want, Val, Test, Unused, Demand, As, Callee, OfType, Target, AnEntry, Parts, Items, Texts, Stat, Reference, AMember, AFetched, TargetRequest, Prepare, Fetch, Put, Called, Request, Reply, Says, says}
use Rattle.mini_laws.specs.Command.{set_var, Command, ret, fails, stuck, op, kid, then, attempt, bind, shift, emit, act, Gets, run, read_slot, at_variable, is_object}
use Rattle.mini_laws.specs.Naming.{EvalName, PlainName, Facts, Summary, summary, summaries, facts_all, texts_all, naming}
use Rattle.mini_laws.specs.Asking.{pass, demand, first_demand, parts_demand, logical_demand, chained}
use Rattle.mini_laws.specs.Replies.{reply, valued, passed, passing, merged, raise, of_made, of_option, primitive, hint_of, numeric, is_of_primitives, operate, loosely, or_event, get_member, put_member}
use Rattle.mini_laws.specs.Expressions.{get_identifier, operate_by, binary_step, and_step, or_step, logical_step, conditional_step, sequence_step, not_step, typeof_step, property_key, property_step, number_step, void_step, call_event, call_step, new_step, array_step, object_step, yield_step, chain_end, chain_value, chain_step, member_step, got, called_member, template_step}
use Rattle.mini_laws.specs.Lists.{entries, parts, spread_step, template_texts}
use Rattle.mini_laws.specs.Targets.{fetched, stored, changed, update_step, as_member, AssignmentKind, Plainly, Computing, Deciding as DecidingKind, assignment_kind, assigns, AssignDemand, put_target, after_read, assign_by, assignment_step}
use Rattle.mini_laws.specs.Statements.{if_step, return_step, throw_step}
use Rattle.mini_laws.specs.Step.{entry, step, means, meaning}
use Rattle.mini_laws.specs.Same.{Goes, Agree}
use Rattle.mini_laws.specs.Substitution.{alone}
use Rattle.mini_laws.specs.Truth.{told}
use Rattle.mini_laws.specs.Congruence.{Avoids, AllAvoid}
use Rattle.mini_laws.proofs.Congruent.{insensitive}
use Rattle.mini_laws.proofs.Dead.{dead_sound, alive_self}
use Rattle.mini_laws.proofs.Runs.{either_cong, either_ok}
use Rattle.mini_laws.proofs.Simulation.{goes_either}
use Rattle.mini_laws.proofs.Truth.{coherent}
use Rattle.mini_kept.specs.Without.{Unseen}
use Rattle.mini_node.specs.Children.{part}
use Rattle.mini_node.specs.Kinds.{is_identifier}
use Rattle.mini_terms.specs.Folds.{is_effect_free}
use Rattle.mini_terms.specs.declared.kinds.Kind.{Kind}
use Rattle.mini_terms.specs.declared.kinds.Kind.TheVariants.{Undefined as IsUndefined, Null as IsNull, Boolean as IsBoolean, Number as IsNumber, String as IsString}
use Rattle.mini_terms.specs.Kind.{OfKind, is_primitive, kind}
use Rattle.mini_terms.specs.Reading.{is_item, by_value, is_typed_by_value}
use Rattle.mini_terms.specs.Sound.{Quiet, Gives}
use Rattle.mini_terms.proofs.Dropping.{weak}
use Rattle.mini_terms.proofs.KindTable.{kind_sound}
use Rattle.mini_terms.proofs.Reading.{typed_by_value}
use Rattle.mini_rows.specs.Sketches.{shape_by, Asked, AsWholeItem, AsValue, AsValues, AsTarget, AsUpdated, target_asked, asked_below}
use Rattle.mini_rows.specs.Unused.{any_names, resolved, is_constant, is_plain_assignment, is_word, is_member, is_field, passes, passes_word, passes_member, passes_target, passes_item, Gathered, OfValues, OfEntries, OfTexts, of_entries, of_texts, gathered_below, is_called_by_value}
use Rattle.mini_rows.specs.Chains.{is_calm}
use Rattle.mini_rows.proofs.CalledReads.{called_read, name_called_read}
use Rattle.mini_rows.proofs.ChainCalm.{Calm as Calmly, tree_calm}
use Rattle.mini_rows.proofs.ItemReads.{item_read}
use Rattle.mini_rows.proofs.Passing.{Replies, Does, Mild, Replying, Quietly, constant_replies, word_replies, target_replies, member_replies, quiet_replying, member_quietly, field_replies, field_quietly, quiet_there, quietly, fetched_quietly, passes_by}
use Rattle.mini_rows.proofs.SingleUse.{target_stands, Lead, Not, Plus, Minus, Tilde, Typing, Emptying, Beside, Deciding, Choosing, Passing, Called as CalledLead, Making, Waiting, Member, Keyed, Linking, Holding, Against, Given as GivenLead, Filling, Keying, Interpolating, Following, Branching, Failing, Storing, Gathering, Fielding, Spreading, Bracketing, Targeted, Changing, Listing, Doing, Giving, Raising, Testing, head_of, before, place, Step, led, is_end, surely, Stands, Well, Spared, AllPass, whole, End, free, end_of, Allows, PassedIn, summaries_led}
use Rattle.mini_rows.proofs.UnusedNames.{all_avoided}

-- ---- a command that doesn't ask a child any more

-- what is assigned to is read and written without its parts
abbrev pub Settled : (q : Demand) → Request q → Type 0
Settled Target (Fetch reference) = Unit {0}
Settled Target (Put reference v) = Unit {0}
Settled q r = ⊥

-- and before that its parts are evaluated, as those of what is asked for anything else
abbrev pub Opens : (q : Demand) → Request q → Type 0
Opens Target Prepare = Unit {0}
Opens Target (Fetch reference) = ⊥
Opens Target (Put reference v) = ⊥
Opens q r = Unit {0}

abbrev Away : ℕ → ℕ → (q : Demand) → Request q → Type 0
Away zero zero q r = Settled q r
Away (suc i) (suc j) q r = Away i j q r
Away i j q r = Unit {0}

abbrev pub Later : ℕ → {σ : ℕ → Demand} {A : Type 0} → Command σ A → Type 0
Later i {σ} (ret a) = Unit {0}
Later i {σ} (fails y) = Unit {0}
Later i {σ} stuck = Unit {0}
Later i {σ} (op o k) = ((a : Gets o) → Later i (k (done a))) × ((y : Stop) → Later i (k (ended y)))
Later i {σ} (kid j r k) = Away j i (σ j) r × (((a : Reply (σ j) r) → Later i (k (done a))) × ((y : Stop) → Later i (k (ended y))))

pub later_bind : (i : ℕ) {σ : ℕ → Demand} {A B : Type 0} (c : Command σ A) (f : A → Command σ B) → Later i c → ((a : A) → Later i (f a)) → Later i (bind c f)
later_bind i (ret a) f t g = g a
later_bind i (fails y) f t g = tt
later_bind i stuck f t g = tt
later_bind i (op o k) f t g = (λ a. later_bind i (k (done a)) f (t.0 a) g, λ y. later_bind i (k (ended y)) f (t.1 y) g)
later_bind i (kid j r k) f t g = (t.0, (λ a. later_bind i (k (done a)) f (t.1.0 a) g, λ y. later_bind i (k (ended y)) f (t.1.1 y) g))

pub later_attempt : (i : ℕ) {σ : ℕ → Demand} {A B : Type 0} (c : Command σ A) (f : Ends A → Command σ B) → Later i c → ((a : A) → Later i (f (done a))) → ((y : Stop) → Later i (f (ended y))) → Later i (attempt c f)
later_attempt i (ret a) f t g h = g a
later_attempt i (fails y) f t g h = h y
later_attempt i stuck f t g h = tt
later_attempt i (op o k) f t g h = (λ a. later_attempt i (k (done a)) f (t.0 a) g h, λ y. later_attempt i (k (ended y)) f (t.1 y) g h)
later_attempt i (kid j r k) f t g h = (t.0, (λ a. later_attempt i (k (done a)) f (t.1.0 a) g h, λ y. later_attempt i (k (ended y)) f (t.1.1 y) g h))

later_shift : (q : ℕ → Demand) {A : Type 0} (c : Command (λ i. q (suc i)) A) → Later 0 (shift {q = q} c)
later_shift q (ret a) = tt
later_shift q (fails y) = tt
later_shift q stuck = tt
later_shift q (op o k) = (λ a. later_shift q (k (done a)), λ y. later_shift q (k (ended y)))
later_shift q (kid i r k) = (tt, (λ a. later_shift q (k (done a)), λ y. later_shift q (k (ended y))))

later_shifted : (i : ℕ) (q : ℕ → Demand) {A : Type 0} (c : Command (λ i. q (suc i)) A) → Later i c → Later (suc i) (shift {q = q} c)
later_shifted i q (ret a) t = tt
later_shifted i q (fails y) t = tt
later_shifted i q stuck t = tt
later_shifted i q (op o k) t = (λ a. later_shifted i q (k (done a)) (t.0 a), λ y. later_shifted i q (k (ended y)) (t.1 y))
later_shifted i q (kid j r k) t = (t.0, (λ a. later_shifted i q (k (done a)) (t.1.0 a), λ y. later_shifted i q (k (ended y)) (t.1.1 y)))

pub later_choose : (i : ℕ) {σ : ℕ → Demand} {A : Type 0} (b : Bool) (x y : Command σ A) → Later i x → Later i y → Later i (choose b x y)
later_choose i true x y t u = t
later_choose i false x y t u = u

module _ (i : ℕ) (σ : ℕ → Demand) where
  abbrev Rest : {A : Type 0} → Command σ A → Type 0
  Rest c = Later i {σ = σ} c

  raise_later : (A : Type 0) → Rest {A = A} raise
  raise_later A = (λ v. tt, λ y. tt)

  made_later : {A : Type 0} (m : Made A) → Rest (of_made m)
  made_later {A} (makes a) = tt
  made_later {A} raises = raise_later A
  made_later {A} outside = tt

  option_later : {A : Type 0} (o : Option A) → Rest (of_option o)
  option_later (Some a) = tt
  option_later None = tt

  primitive_later : (hint : Hint) (v : Value) → Rest (primitive hint v)
  primitive_later hint v = later_choose i (is_object v) (emit (Coerce hint) (Item v ∷ [])) (ret v) (λ v. tt, λ y. tt) tt

  numeric_later : (v : Value) → Rest (numeric v)
  numeric_later v = later_bind i (primitive ForNumber v) (λ x. of_made (to_number x)) (primitive_later ForNumber v) (λ x. made_later (to_number x))

  operate_later : (o : BinaryOperator) (v w : Value) → Rest (operate o v w)
  operate_later o v w =
      later_choose i (is_of_primitives o) (bind (primitive (hint_of o) v) (λ x. bind (primitive (hint_of o) w) (λ y. of_made (of_primitives o x y)))) (bind (numeric v) (λ m. bind (numeric w) (λ n. of_made (of_numbers o m n))))
      (later_bind i (primitive (hint_of o) v) (λ x. bind (primitive (hint_of o) w) (λ y. of_made (of_primitives o x y))) (primitive_later (hint_of o) v) (λ x. later_bind i (primitive (hint_of o) w) (λ y. of_made (of_primitives o x y)) (primitive_later (hint_of o) w) (λ y. made_later (of_primitives o x y))))
      (later_bind i (numeric v) (λ m. bind (numeric w) (λ n. of_made (of_numbers o m n))) (numeric_later v) (λ m. later_bind i (numeric w) (λ n. of_made (of_numbers o m n)) (numeric_later w) (λ n. made_later (of_numbers o m n))))

  loosely_later : (v w : Value) → Rest (loosely v w)
  loosely_later v w =
      later_choose i (is_nullish v) (ret (is_nullish w)) _ tt
      (later_choose i (is_nullish w) (ret false) _ tt
      (later_choose i (is_object v && is_object w) (ret (strictly_equal v w)) _ tt
      (later_bind i (primitive ForDefault v) (λ x. bind (primitive ForDefault w) (λ y. of_option (loosely_equal x y))) (primitive_later ForDefault v)
      (λ x. later_bind i (primitive ForDefault w) (λ y. of_option (loosely_equal x y)) (primitive_later ForDefault w) (λ y. option_later (loosely_equal x y))))))

  by_later : (o : BinaryOperator) (v w : Value) → Rest (operate_by o v w)
  by_later binary.Equality v w = later_bind i (loosely v w) (λ c. ret (Boolean c)) (loosely_later v w) (λ c. tt)
  by_later binary.Inequality v w = later_bind i (loosely v w) (λ c. ret (Boolean (not c))) (loosely_later v w) (λ c. tt)
  by_later binary.StrictEquality v w = tt
  by_later binary.StrictInequality v w = tt
  by_later binary.In v w = later_choose i (is_object w) _ raise (λ b. tt, λ y. tt) (raise_later Value)
  by_later binary.Instanceof v w = later_choose i (is_object w) _ raise (λ b. tt, λ y. tt) (raise_later Value)
  by_later o v w = operate_later o v w

  known_later : (m : Option Value) (c : Command σ Value) → Rest c → Rest (or_event m c)
  known_later (Some v) c t = tt
  known_later None c t = t

  get_later : (object key : Value) → Rest (get_member object key)
  get_later object key = later_choose i (is_nullish object) raise (or_event (known_member object key) (emit GetOf (Item object ∷ Item key ∷ []))) (raise_later Value) (known_later (known_member object key) (emit GetOf (Item object ∷ Item key ∷ [])) (λ v. tt, λ y. tt))

  got_later : (reference : Reference) → Rest (got reference)
  got_later (AMember object key) = get_later object key
  got_later reference = tt

  fetched_later : (reference : Reference) → Rest (fetched reference)
  fetched_later (AMember object key) = get_later object key
  fetched_later reference = tt

  put_later_on : (object : Value) (key : Entry) (v : Value) → Rest (put_member object key v)
  put_later_on object key v = later_choose i (is_nullish object) raise _ (raise_later (Unit {0})) (λ a. tt, λ y. tt)

  stored_later : (reference : Reference) (v : Value) → Rest (stored reference v)
  stored_later (AMember object key) v = put_later_on object (Item key) v
  stored_later (AFetched object key) v = put_later_on object (choose (is_object key) (Converted key) (Item key)) v
  stored_later reference v = tt

  called_later : (reference : Reference) → Rest (called_member reference)
  called_later (AMember object key) = later_bind i (get_member object key) (λ v. ret (record { value = v; this_value = object; direct = false })) (get_later object key) (λ v. tt)
  called_later reference = tt

  call_later : (o : Bool) (f : Called) (vs : List Entry) → Rest (call_event o f vs)
  call_later o f vs = later_choose i (f.direct && not o) (emit DirectEval (Item f.value ∷ vs)) (emit CallOf (Item f.value ∷ Item f.this_value ∷ vs)) (λ v. tt, λ y. tt) (λ v. tt, λ y. tt)

-- ---- a command that asks the children before the place, each at most once, and then the one there, and ends where that ends

abbrev pub Before : ℕ → ℕ → Type 0
Before zero (suc j) = Unit {0}
Before (suc i) (suc j) = Before i j
Before i j = ⊥

-- an end that an initializer may have: one that ends no chain around it doesn't end short
abbrev pub May : Bool → Stop → Type 0
May true Short = ⊥
May d y = Unit {0}

pub record Hits (d : Bool) (i : ℕ) (σ : ℕ → Demand) (A : Type 0) (j : ℕ) (r : Request (σ j)) (k : Ends (Reply (σ j) r) → Command σ A) : Type 0 where
  pub here : j ≡ i
  pub opens : Opens (σ j) r
  pub stops : (y : Stop) → May d y → k (ended y) ≡ fails y
  pub stopped_later : (y : Stop) → Later i (k (ended y))
  pub later : (a : Reply (σ j) r) → Later i (k (done a))

-- a value that is converted to a text without an effect
pub record Textual (v : Value) : Type 0 where
  pub primitive_value : is_object v ≡ false
  pub text : List ℕ
  pub converted : to_text v ≡ makes text

-- so is each value that is replied, where texts are gathered
abbrev pub Fine : Bool → (q : Demand) (r : Request q) → Reply q r → Type 0
Fine true (As Val) r v = Textual v
Fine text q r a = Unit {0}

-- so many of those before may be asked, with such replies; where nothing is lost, it may end without asking the one at the place
abbrev pub Reaches : Bool → Bool → Bool → ℕ → ℕ → {σ : ℕ → Demand} {A : Type 0} → Command σ A → Type 0
Reaches text f d m i {σ} {A} (kid j r k) = ((Before j m × Mild f (σ j) r) × ((a : Reply (σ j) r) → Fine text (σ j) r a → Reaches text f d m i (k (done a)))) ⊎ (Hits d i σ A j r k ⊎ ((f ≡ true) × Later i {σ = σ} (kid j r k)))
Reaches text f d m i {σ} {A} c = (f ≡ true) × Later i {σ = σ} c

missed : (text f d : Bool) (m i : ℕ) {σ : ℕ → Demand} {A : Type 0} (c : Command σ A) → f ≡ true → Later i c → Reaches text f d m i c
missed text f d m i (kid j r k) e l = inr (inr (e, l))
missed text f d m i (ret a) e l = (e, l)
missed text f d m i (fails y) e l = (e, l)
missed text f d m i stuck e l = (e, l)
missed text f d m i (op o k) e l = (e, l)

reach_choose : (text f d : Bool) (m i : ℕ) {σ : ℕ → Demand} {A : Type 0} (b : Bool) (x y : Command σ A) → Reaches text f d m i x → Reaches text f d m i y → Reaches text f d m i (choose b x y)
reach_choose text f d m i true x y t u = t
reach_choose text f d m i false x y t u = u

reach_bind : (text f d : Bool) (m i : ℕ) {σ : ℕ → Demand} {A B : Type 0} (c : Command σ A) (g : A → Command σ B) → Reaches text f d m i c → ((a : A) → Later i (g a)) → Reaches text f d m i (bind c g)
reach_bind text f d m i (kid j r k) g (inl t) h = inl (t.0, λ a p. reach_bind text f d m i (k (done a)) g (t.1 a p) h)
reach_bind text f d m i (kid j r k) g (inr (inl t)) h = inr (inl (record { here = t.here; opens = t.opens; stops = λ y n. ap (λ d. bind d g) (t.stops y n); stopped_later = λ y. later_bind i (k (ended y)) g (t.stopped_later y) h; later = λ a. later_bind i (k (done a)) g (t.later a) h }))
reach_bind text f d m i (kid j r k) g (inr (inr t)) h = inr (inr (t.0, later_bind i (kid j r k) g t.1 h))
reach_bind text f d m i (ret a) g t h = missed text f d m i (g a) t.0 (h a)
reach_bind text f d m i (fails y) g t h = (t.0, tt)
reach_bind text f d m i stuck g t h = (t.0, tt)
reach_bind text f d m i (op o k) g t h = (t.0, later_bind i (op o k) g t.1 h)

pub reach_statement : (text f d : Bool) (m i : ℕ) {σ : ℕ → Demand} (c : Command σ (Unit {0})) → Reaches text f d m i c → Reaches text f d m i (attempt c (merged None))
reach_statement text f d m i (kid j r k) (inl t) = inl (t.0, λ a p. reach_statement text f d m i (k (done a)) (t.1 a p))
reach_statement text f d m i (kid j r k) (inr (inl t)) = inr (inl (record { here = t.here; opens = t.opens; stops = λ y n. ap (λ d. attempt d (merged None)) (t.stops y n); stopped_later = λ y. later_attempt i (k (ended y)) (merged None) (t.stopped_later y) (λ u. tt) (λ y. tt); later = λ a. later_attempt i (k (done a)) (merged None) (t.later a) (λ u. tt) (λ y. tt) }))
reach_statement text f d m i (kid j r k) (inr (inr t)) = inr (inr (t.0, later_attempt i (kid j r k) (merged None) t.1 (λ u. tt) (λ y. tt)))
reach_statement text f d m i (ret a) t = (t.0, tt)
reach_statement text f d m i (fails y) t = (t.0, tt)
reach_statement text f d m i stuck t = (t.0, tt)
reach_statement text f d m i (op o k) t = (t.0, later_attempt i (op o k) (merged None) t.1 (λ u. tt) (λ y. tt))

reach_shift : (text f d : Bool) (m i : ℕ) (q : ℕ → Demand) {A : Type 0} (c : Command (λ i. q (suc i)) A) → Reaches text f d m i c → Reaches text f d (suc m) (suc i) (shift {q = q} c)
reach_shift text f d m i q (kid j r k) (inl t) = inl (t.0, λ a p. reach_shift text f d m i q (k (done a)) (t.1 a p))
reach_shift text f d m i q (kid j r k) (inr (inl t)) = inr (inl (record { here = ap suc t.here; opens = t.opens; stops = λ y n. ap (shift {q = q}) (t.stops y n); stopped_later = λ y. later_shifted i q (k (ended y)) (t.stopped_later y); later = λ a. later_shifted i q (k (done a)) (t.later a) }))
reach_shift text f d m i q (kid j r k) (inr (inr t)) = inr (inr (t.0, later_shifted i q (kid j r k) t.1))
reach_shift text f d m i q (ret a) t = (t.0, tt)
reach_shift text f d m i q (fails y) t = (t.0, tt)
reach_shift text f d m i q stuck t = (t.0, tt)
reach_shift text f d m i q (op o k) t = (t.0, later_shifted i q (op o k) t.1)

-- an expression is asked for what it gives
abbrev pub Valued : Demand → Type 0
Valued (As w) = Unit {0}
Valued Callee = Unit {0}
Valued OfType = Unit {0}
Valued AnEntry = Unit {0}
Valued q = ⊥

reach_valued : (text f d : Bool) (m i : ℕ) (σ : ℕ → Demand) (q : Demand) → Valued q → (r : Request q) (c : Command σ Value) → Reaches text f d m i c → Reaches text f d m i (valued q r c)
reach_valued text f d m i σ (As w) u r c b = reach_bind text f d m i c (reply (As w) r) b (λ v. tt)
reach_valued text f d m i σ Callee u r c b = reach_bind text f d m i c (reply Callee r) b (λ v. tt)
reach_valued text f d m i σ OfType u r c b = reach_bind text f d m i c (reply OfType r) b (λ v. tt)
reach_valued text f d m i σ AnEntry u r c b = reach_bind text f d m i c (reply AnEntry r) b (λ v. tt)
reach_valued text f d m i σ q u r c b = absurd u

reach_passing : (text f d : Bool) (m i : ℕ) (σ : ℕ → Demand) (q : Demand) → Valued q → (r : Request q) (c : Command σ (Says (pass q))) → Reaches text f d m i c → Reaches text f d m i (passing q r c)
reach_passing text f d m i σ (As w) u r c b = reach_bind text f d m i c (passed (As w) r) b (λ v. tt)
reach_passing text f d m i σ Callee u r c b = reach_bind text f d m i c (passed Callee r) b (λ v. tt)
reach_passing text f d m i σ OfType u r c b = reach_bind text f d m i c (passed OfType r) b (λ v. tt)
reach_passing text f d m i σ AnEntry u r c b = reach_bind text f d m i c (passed AnEntry r) b (λ v. tt)
reach_passing text f d m i σ q u r c b = absurd u

-- ---- each shape

-- a command that goes on with nothing else of a child
pub one : (text f d : Bool) (m i : ℕ) (σ : ℕ → Demand) (A : Type 0) (r : Request (σ i)) → Opens (σ i) r → (g : Reply (σ i) r → Command σ A) → ((a : Reply (σ i) r) → Later i (g a)) → Reaches text f d m i {σ = σ} (kid i r ((then) g))
one text f d m i σ A r o g h = inr (inl (record { here = refl; opens = o; stops = λ y n. refl; stopped_later = λ y. tt; later = h }))

-- an entry, or a list of entries; a text, or a list of texts; or anything but a list of texts
abbrev pub Gathers : Gathered → Demand → Type 0
Gathers OfValues Texts = ⊥
Gathers OfValues q = Unit {0}
Gathers OfEntries Items = Unit {0}
Gathers OfEntries AnEntry = Unit {0}
Gathers OfEntries q = ⊥
Gathers OfTexts Texts = Unit {0}
Gathers OfTexts (As w) = Unit {0}
Gathers OfTexts q = ⊥

-- of texts each value is converted before the next part is asked
abbrev as_primitive : Value → Bool → Command (λ i. As Val) Value
as_primitive v b = choose b (emit (Coerce ForString) (Item v ∷ [])) (ret v)

abbrev with_text : ℕ → Made (List ℕ) → Command (λ i. As Val) (List (List ℕ))
with_text n m = bind (of_made m) (λ s. bind (shift {q = λ i. As Val} (template_texts n)) (λ ss. ret (s ∷ ss)))

abbrev with_primitive : ℕ → Command (λ i. As Val) Value → Command (λ i. As Val) (List (List ℕ))
with_primitive n c = bind c (λ x. with_text n (to_text x))

abbrev converted : ℕ → Value → Command (λ i. As Val) (List (List ℕ))
converted n v = with_primitive n (primitive ForString v)

converted_later : (n : ℕ) (v : Value) → Later 0 (converted n v)
converted_later n v =
    later_bind 0 (primitive ForString v) (λ x. with_text n (to_text x)) (primitive_later 0 (λ i. As Val) ForString v)
    (λ x. later_bind 0 (of_made (to_text x)) (λ s. bind (shift {q = λ i. As Val} (template_texts n)) (λ ss. ret (s ∷ ss))) (made_later 0 (λ i. As Val) (to_text x))
    (λ s. later_bind 0 (shift {q = λ i. As Val} (template_texts n)) (λ ss. ret (s ∷ ss)) (later_shift (λ i. As Val) (template_texts n)) (λ ss. tt)))

-- which does nothing where it is textual
text_goes_on : (n : ℕ) (v : Value) (t : Textual v) → converted n v ≡ with_text n (makes t.text)
text_goes_on n v t = ap (λ b. with_primitive n (as_primitive v b)) t.primitive_value ∙ ap (with_text n) t.converted

module _ (text f d : Bool) where
  number_begins : (o : UnaryOperator) → Reaches text f d 0 0 (number_step o)
  number_begins o = one text f d 0 0 (λ i. As Val) Value tt tt _ (λ v. later_bind 0 (numeric v) (λ n. of_made (of_number o n)) (numeric_later 0 (λ i. As Val) v) (λ n. made_later 0 (λ i. As Val) (of_number o n)))

  binary_begins : (o : BinaryOperator) → Reaches text f d 0 0 (binary_step o)
  binary_begins o = one text f d 0 0 (λ i. As Val) Value tt tt _ (λ v. (tt, (λ w. by_later 0 (λ i. As Val) o v w, λ y. tt)))

  binary_goes_on : (o : BinaryOperator) → Reaches text f d 1 1 (binary_step o)
  binary_goes_on o = inl ((tt, tt), λ v p. one text f d 1 1 (λ i. As Val) Value tt tt _ (λ w. by_later 1 (λ i. As Val) o v w))

  logical_begins : (o : LogicalOperator) (w : Want) → Reaches text f d 0 0 (logical_step o w)
  logical_begins And Val = one text f d 0 0 (λ i. As Val) Value tt tt _ (λ v. later_choose 0 (truth v) (kid 1 tt ((then) ret)) (ret v) (tt, (λ v. tt, λ y. tt)) tt)
  logical_begins And Test = one text f d 0 0 (λ i. As Test) Bool tt tt _ (λ c. later_choose 0 c (kid 1 tt ((then) ret)) (ret false) (tt, (λ v. tt, λ y. tt)) tt)
  logical_begins And Unused = one text f d 0 0 (logical_demand And Unused) (Unit {0}) tt tt _ (λ c. later_choose 0 {σ = logical_demand And Unused} c (kid 1 tt ((then) ret)) (ret tt) (tt, (λ v. tt, λ y. tt)) tt)
  logical_begins Or Val = one text f d 0 0 (λ i. As Val) Value tt tt _ (λ v. later_choose 0 (truth v) (ret v) (kid 1 tt ((then) ret)) tt (tt, (λ v. tt, λ y. tt)))
  logical_begins Or Test = one text f d 0 0 (λ i. As Test) Bool tt tt _ (λ c. later_choose 0 c (ret true) (kid 1 tt ((then) ret)) tt (tt, (λ v. tt, λ y. tt)))
  logical_begins Or Unused = one text f d 0 0 (logical_demand Or Unused) (Unit {0}) tt tt _ (λ c. later_choose 0 {σ = logical_demand Or Unused} c (ret tt) (kid 1 tt ((then) ret)) tt (tt, (λ v. tt, λ y. tt)))
  logical_begins Coalesce w = one text f d 0 0 (λ i. As Val) (Says w) tt tt _ (λ v. later_choose 0 (is_nullish v) _ _ (tt, (λ v. tt, λ y. tt)) tt)

  conditional_begins : (w : Want) → Reaches text f d 0 0 (conditional_step w)
  conditional_begins w = one text f d 0 0 (first_demand (As Test) (As w)) (Says w) tt tt _ (λ c. later_choose 0 {σ = first_demand (As Test) (As w)} c (kid 1 tt ((then) ret)) (kid 2 tt ((then) ret)) (tt, (λ v. tt, λ y. tt)) (tt, (λ v. tt, λ y. tt)))

  member_begins : (o : Bool) → Reaches text f d 0 0 (member_step o)
  member_begins o = one text f d 0 0 (λ i. As Val) Reference tt tt _ (λ v. later_choose 0 (o && is_nullish v) (fails Short) _ tt (tt, (λ u. tt, λ y. tt)))

  -- behind `?.` it may be left out
  member_goes_on : (o : Bool) → (not o || f) ≡ true → Reaches text f d 1 1 (member_step o)
  member_goes_on false e = inl ((tt, tt), λ v p. one text f d 1 1 (λ i. As Val) Reference tt tt _ (λ u. tt))
  member_goes_on true e = inl ((tt, tt), λ v p. reach_choose text f d 1 1 (is_nullish v) (fails Short) _ (e, tt) (one text f d 1 1 (λ i. As Val) Reference tt tt _ (λ u. tt)))

  as_member_reaches : (o : Bool) (i : ℕ) → Reaches text f d i i (member_step o) → (q : Demand) → Valued q → (r : Request q) → Reaches text f d i i (as_member (member_step o) q r)
  as_member_reaches o i m (As w) u r = reach_valued text f d i i (λ i. As Val) (As w) tt r (bind (member_step o) got) (reach_bind text f d i i (member_step o) got m (got_later i (λ i. As Val)))
  as_member_reaches o i m AnEntry u r = reach_valued text f d i i (λ i. As Val) AnEntry tt r (bind (member_step o) got) (reach_bind text f d i i (member_step o) got m (got_later i (λ i. As Val)))
  as_member_reaches o i m OfType u r = reach_valued text f d i i (λ i. As Val) OfType tt r (bind (member_step o) got) (reach_bind text f d i i (member_step o) got m (got_later i (λ i. As Val)))
  as_member_reaches o i m Callee u r = reach_bind text f d i i (member_step o) called_member m (called_later i (λ i. As Val))
  as_member_reaches o i m q u r = absurd u

  call_begins : (o : Bool) → Reaches text f d 0 0 (call_step o)
  call_begins o = one text f d 0 0 (first_demand Callee Items) Value tt tt _ (λ g. later_choose 0 {σ = first_demand Callee Items} (o && is_nullish g.value) (fails Short) _ tt (tt, (λ vs. call_later 0 (first_demand Callee Items) o g vs, λ y. tt)))

  call_goes_on : (o : Bool) → (not o || f) ≡ true → Reaches text f d 1 1 (call_step o)
  call_goes_on false e = inl ((tt, tt), λ g p. one text f d 1 1 (first_demand Callee Items) Value tt tt _ (λ vs. call_later 1 (first_demand Callee Items) false g vs))
  call_goes_on true e = inl ((tt, tt), λ g p. reach_choose text f d 1 1 {σ = first_demand Callee Items} (is_nullish g.value) (fails Short) _ (e, tt) (one text f d 1 1 (first_demand Callee Items) Value tt tt _ (λ vs. call_later 1 (first_demand Callee Items) true g vs)))

  new_goes_on : Reaches text f d 1 1 new_step
  new_goes_on = inl ((tt, tt), λ g p. one text f d 1 1 (first_demand (As Val) Items) Value tt tt _ (λ vs. (λ v. tt, λ y. tt)))

  parts_reach : (i n : ℕ) (w : Want) → Before i (suc n) → Reaches text f d i i (parts n w)
  parts_reach zero zero w h = one text f d 0 0 (parts_demand zero w) (Says w) tt tt _ (λ a. tt)
  parts_reach zero (suc n) w h = one text f d 0 0 (parts_demand (suc n) w) (Says w) tt tt _ (λ a. later_shift (parts_demand (suc n) w) (parts n w))
  parts_reach (suc i) zero w h = absurd (no_less i h)
    where
      no_less : (i : ℕ) → Before i 0 → ⊥
      no_less zero h = h
      no_less (suc i) h = h
  parts_reach (suc i) (suc n) w h = inl ((tt, tt), λ u p. reach_shift text f d i i (parts_demand (suc n) w) (parts n w) (parts_reach i n w h))

  entries_reach : (i n : ℕ) → Before i n → Reaches text f d i i (entries n)
  entries_reach zero zero h = absurd h
  entries_reach (suc i) zero h = absurd h
  entries_reach zero (suc n) h = one text f d 0 0 (λ i. AnEntry) (List Entry) tt tt _ (λ e. later_bind 0 (shift {q = λ i. AnEntry} (entries n)) (λ es. ret (e ∷ es)) (later_shift (λ i. AnEntry) (entries n)) (λ es. tt))
  entries_reach (suc i) (suc n) h = inl ((tt, tt), λ e p. reach_bind text f d (suc i) (suc i) (shift {q = λ i. AnEntry} (entries n)) (λ es. ret (e ∷ es)) (reach_shift text f d i i (λ i. AnEntry) (entries n) (entries_reach i n h)) (λ es. tt))

  -- one that may be left out
  and_follows : (w : Want) → f ≡ true → Reaches text f d 1 1 (and_step w)
  and_follows Val e = inl ((tt, tt), λ v p. reach_choose text f d 1 1 (truth v) (kid 1 tt ((then) ret)) (ret v) (one text f d 1 1 (λ i. As Val) Value tt tt ret (λ v. tt)) (e, tt))
  and_follows Test e = inl ((tt, tt), λ c p. reach_choose text f d 1 1 c (kid 1 tt ((then) ret)) (ret false) (one text f d 1 1 (λ i. As Test) Bool tt tt ret (λ v. tt)) (e, tt))
  and_follows Unused e = inl ((tt, tt), λ c p. reach_choose text f d 1 1 {σ = logical_demand And Unused} c (kid 1 tt ((then) ret)) (ret tt) (one text f d 1 1 (logical_demand And Unused) (Unit {0}) tt tt ret (λ v. tt)) (e, tt))

  or_follows : (w : Want) → f ≡ true → Reaches text f d 1 1 (or_step w)
  or_follows Val e = inl ((tt, tt), λ v p. reach_choose text f d 1 1 (truth v) (ret v) (kid 1 tt ((then) ret)) (e, tt) (one text f d 1 1 (λ i. As Val) Value tt tt ret (λ v. tt)))
  or_follows Test e = inl ((tt, tt), λ c p. reach_choose text f d 1 1 c (ret true) (kid 1 tt ((then) ret)) (e, tt) (one text f d 1 1 (λ i. As Test) Bool tt tt ret (λ v. tt)))
  or_follows Unused e = inl ((tt, tt), λ c p. reach_choose text f d 1 1 {σ = logical_demand Or Unused} c (ret tt) (kid 1 tt ((then) ret)) (e, tt) (one text f d 1 1 (logical_demand Or Unused) (Unit {0}) tt tt ret (λ v. tt)))

  logical_follows : (o : LogicalOperator) (w : Want) → f ≡ true → Reaches text f d 1 1 (logical_step o w)
  logical_follows And w e = and_follows w e
  logical_follows Or w e = or_follows w e
  logical_follows Coalesce w e = inl ((tt, tt), λ v p. reach_choose text f d 1 1 (is_nullish v) _ (ret (says w v)) (one text f d 1 1 (λ i. As Val) (Says w) tt tt _ (λ u. tt)) (e, tt))

  branch_follows : (w : Want) → f ≡ true → Reaches text f d 1 1 (conditional_step w)
  branch_follows w e = inl ((tt, tt), λ c p. reach_choose text f d 1 1 {σ = first_demand (As Test) (As w)} c (kid 1 tt ((then) ret)) (kid 2 tt ((then) ret)) (one text f d 1 1 (first_demand (As Test) (As w)) (Says w) tt tt ret (λ v. tt)) (inr (inr (e, (tt, (λ v. tt, λ y. tt))))))

  other_follows : (w : Want) → f ≡ true → Reaches text f d 1 2 (conditional_step w)
  other_follows w e = inl ((tt, tt), λ c p. reach_choose text f d 1 2 {σ = first_demand (As Test) (As w)} c (kid 1 tt ((then) ret)) (kid 2 tt ((then) ret)) (inr (inr (e, (tt, (λ v. tt, λ y. tt))))) (one text f d 1 2 (first_demand (As Test) (As w)) (Says w) tt tt ret (λ v. tt)))

  -- the right side of an assignment, behind what is assigned to
  put_later : (reference : Reference) (v : Value) → Later 1 (put_target reference v)
  put_later reference v = (tt, (λ u. tt, λ y. tt))

  stored_plainly : (reference : Reference) → Reaches text f d 1 1 (assign_by Plainly reference)
  stored_plainly reference = one text f d 1 1 AssignDemand Value tt tt (put_target reference) (put_later reference)

  stored_by : (k : AssignmentKind) → f ≡ true → (reference : Reference) → Reaches text f d 1 1 (assign_by k reference)
  stored_by Plainly e reference = stored_plainly reference
  stored_by (Computing o) e reference = inl ((tt, e), λ a p. one text f d 1 1 AssignDemand Value tt tt _ (λ b. later_bind 1 {σ = AssignDemand} (operate o a b) (put_target (after_read reference)) (operate_later 1 AssignDemand o a b) (put_later (after_read reference))))
  stored_by (DecidingKind o) e reference = inl ((tt, e), λ a p. reach_choose text f d 1 1 {σ = AssignDemand} (assigns o a) (kid 1 tt ((then) (put_target (after_read reference)))) (ret a) (one text f d 1 1 AssignDemand Value tt tt (put_target (after_read reference)) (put_later (after_read reference))) (e, tt))

  stores : (o : AssignmentOperator) → (is_plain_assignment o || f) ≡ true → Reaches text f d 1 1 (assignment_step o)
  stores Assign e = inl ((tt, tt), λ reference p. stored_plainly reference)
  stores o e = inl ((tt, tt), λ reference p. stored_by (assignment_kind o) e reference)

  -- what is assigned to, which is read and written besides
  assigned_later : (k : AssignmentKind) (reference : Reference) → Later 0 (assign_by k reference)
  assigned_later Plainly reference = (tt, (λ v. (tt, (λ u. tt, λ y. tt)), λ y. tt))
  assigned_later (Computing o) reference = (tt, (λ a. (tt, (λ b. later_bind 0 {σ = AssignDemand} (operate o a b) (put_target (after_read reference)) (operate_later 0 AssignDemand o a b) (λ v. (tt, (λ u. tt, λ y. tt))), λ y. tt)), λ y. tt))
  assigned_later (DecidingKind o) reference = (tt, (λ a. later_choose 0 {σ = AssignDemand} (assigns o a) (kid 1 tt ((then) (put_target (after_read reference)))) (ret a) (tt, (λ v. (tt, (λ u. tt, λ y. tt)), λ y. tt)) tt, λ y. tt))

  assigning_begins : (o : AssignmentOperator) → Reaches text f d 0 0 (assignment_step o)
  assigning_begins o = one text f d 0 0 AssignDemand Value Prepare tt (assign_by (assignment_kind o)) (assigned_later (assignment_kind o))

  updating_begins : (o : UpdateOperator) (p : Bool) → Reaches text f d 0 0 (update_step o p)
  updating_begins o p =
      one text f d 0 0 (λ i. Target) Value Prepare tt _
      (λ reference. (tt, (λ a. later_bind 0 {σ = λ i. Target} (numeric a) _ (numeric_later 0 (λ i. Target) a) (λ n. later_bind 0 {σ = λ i. Target} (of_made (safe_number (changed o n))) _ (made_later 0 (λ i. Target) (safe_number (changed o n))) (λ v. (tt, (λ u. tt, λ y. tt)))), λ y. tt)))

  -- the value of a property, behind a key that is written out
  fields : (m : Gathered) (q : Demand) → Valued q → Gathers m q → (r : Request q) → (of_entries m || f) ≡ true → Reaches text f d 1 1 (entry q r (property_step Init false false false))
  fields m AnEntry u n r e = reach_bind text f d 1 1 {σ = λ i. As Val} (property_step Init false false false) ret (inl ((tt, tt), λ key p. one text f d 1 1 (λ i. As Val) Entry tt tt _ (λ v. tt))) (λ v. tt)
  fields OfValues (As w) u n r e = (e, tt)
  fields OfValues Callee u n r e = (e, tt)
  fields OfValues OfType u n r e = (e, tt)
  fields OfValues q u n r e = absurd u
  fields OfTexts (As w) u n r e = (e, tt)
  fields OfTexts Texts u n r e = absurd u
  fields OfTexts q u n r e = absurd n
  fields OfEntries Items u n r e = absurd u
  fields OfEntries q u n r e = absurd n

  -- a chain
  end_later : (σ : ℕ → Demand) (q : Demand) → Valued q → (r : Request q) (y : Stop) → Later 0 {σ = σ} (chain_end q r (ended y))
  end_later σ (As w) u r Short = tt
  end_later σ (As w) u r y = tt
  end_later σ Callee u r Short = tt
  end_later σ Callee u r y = tt
  end_later σ OfType u r Short = tt
  end_later σ OfType u r y = tt
  end_later σ AnEntry u r Short = tt
  end_later σ AnEntry u r y = tt
  end_later σ q u r y = absurd u

  value_later : (σ : ℕ → Demand) (y : Stop) → Later 0 {σ = σ} (chain_value (ended y))
  value_later σ Short = tt
  value_later σ y = tt

  whole_end : (σ : ℕ → Demand) (q : Demand) (r : Request q) (y : Stop) → May true y → chain_end {σ = σ} q r (ended y) ≡ fails y
  whole_end σ q r Short n = absurd n
  whole_end σ q r y n = refl

  whole_value : (σ : ℕ → Demand) (y : Stop) → May true y → chain_value {σ = σ} (ended y) ≡ fails y
  whole_value σ Short n = absurd n
  whole_value σ y n = refl

  chain_read : d ≡ true → Reaches text f d 0 0 {σ = λ i. As Val} (kid 0 tt chain_value)
  chain_read e = inr (inl (record { here = refl; opens = tt; stops = λ y n. whole_value (λ i. As Val) y (subst (λ d. May d y) e n); stopped_later = value_later (λ i. As Val); later = λ a. tt }))

  chains : d ≡ true → (q : Demand) → Valued q → (r : Request q) → Reaches text f d 0 0 (chain_step q r)
  chains e (As w) u r = inr (inl (record { here = refl; opens = tt; stops = λ y n. whole_end (λ i. As w) (As w) r y (subst (λ d. May d y) e n); stopped_later = end_later (λ i. As w) (As w) tt r; later = λ a. tt }))
  chains e Callee u r = inr (inl (record { here = refl; opens = tt; stops = λ y n. whole_end (λ i. Callee) Callee r y (subst (λ d. May d y) e n); stopped_later = end_later (λ i. Callee) Callee tt r; later = λ a. tt }))
  chains e OfType u r = reach_bind text f d 0 0 {σ = λ i. As Val} (kid 0 tt chain_value) (reply OfType r) (chain_read e) (λ v. tt)
  chains e AnEntry u r = reach_bind text f d 0 0 {σ = λ i. As Val} (kid 0 tt chain_value) (reply AnEntry r) (chain_read e) (λ v. tt)
  chains e q u r = absurd u

  -- the key in brackets of one
  key_later : (v : Value) → Later 0 {σ = λ i. As Val} (property_key true v)
  key_later v = later_bind 0 (primitive ForString v) (λ key. ret (key_value key)) (primitive_later 0 (λ i. As Val) ForString v) (λ x. tt)

  brackets : (m : Gathered) (q : Demand) → Valued q → Gathers m q → (r : Request q) → (of_entries m || f) ≡ true → Reaches text f d 0 0 (entry q r (property_step Init false false true))
  brackets m AnEntry u n r e = reach_bind text f d 0 0 {σ = λ i. As Val} (property_step Init false false true) ret (one text f d 0 0 (λ i. As Val) Entry tt tt _ (λ v. later_bind 0 (property_key true v) _ (key_later v) (λ key. (tt, (λ w. tt, λ y. tt))))) (λ v. tt)
  brackets OfValues (As w) u n r e = (e, tt)
  brackets OfValues Callee u n r e = (e, tt)
  brackets OfValues OfType u n r e = (e, tt)
  brackets OfValues q u n r e = absurd u
  brackets OfTexts (As w) u n r e = (e, tt)
  brackets OfTexts Texts u n r e = absurd u
  brackets OfTexts q u n r e = absurd n
  brackets OfEntries Items u n r e = absurd u
  brackets OfEntries q u n r e = absurd n

  -- what is spread
  spreads : (m : Gathered) (q : Demand) → Valued q → Gathers m q → (r : Request q) → (of_entries m || f) ≡ true → Reaches text f d 0 0 (entry q r spread_step)
  spreads m AnEntry u n r e = reach_bind text f d 0 0 {σ = λ i. As Val} spread_step ret (one text f d 0 0 (λ i. As Val) Entry tt tt _ (λ v. (λ w. tt, λ y. tt))) (λ v. tt)
  spreads OfValues (As w) u n r e = (e, tt)
  spreads OfValues Callee u n r e = (e, tt)
  spreads OfValues OfType u n r e = (e, tt)
  spreads OfValues q u n r e = absurd u
  spreads OfTexts (As w) u n r e = (e, tt)
  spreads OfTexts Texts u n r e = absurd u
  spreads OfTexts q u n r e = absurd n
  spreads OfEntries Items u n r e = absurd u
  spreads OfEntries q u n r e = absurd n

texts_reach : (f d : Bool) (i n : ℕ) → Before i n → Reaches true f d i i (template_texts n)
texts_reach f d zero zero h = absurd h
texts_reach f d (suc i) zero h = absurd h
texts_reach f d zero (suc n) h = one true f d 0 0 (λ i. As Val) (List (List ℕ)) tt tt _ (λ v. converted_later n v)
texts_reach f d (suc i) (suc n) h =
    inl ((tt, tt), λ v p. subst (λ c. Reaches true f d (suc i) (suc i) {σ = λ i. As Val} c) (sym (text_goes_on n v p)) (reach_bind true f d (suc i) (suc i) (shift {q = λ i. As Val} (template_texts n)) (λ ss. ret (p.text ∷ ss)) (reach_shift true f d i i (λ i. As Val) (template_texts n) (texts_reach f d i n h)) (λ ss. tt)))

-- what is asked where a step stands, of what allows so much
abbrev pub Suits : Asked → Demand → End → Type 0
Suits AsWholeItem (Stat None) b = Unit {0}
Suits AsValue (As w) b = Unit {0}
Suits AsValue AnEntry b = Unit {0}
Suits AsValue Callee b = b.called ≡ true
Suits AsValue OfType b = b.typed ≡ true
Suits AsTarget Target b = Unit {0}
Suits AsUpdated Target b = Unit {0}
Suits AsValues (Parts w) b = Unit {0}
Suits AsValues Items b = Unit {0}
Suits AsValues Texts b = Unit {0}
Suits c q b = ⊥

values : (q : Demand) (b : End) → Suits AsValue q b → Valued q
values (As w) b u = tt
values AnEntry b u = tt
values Callee b u = tt
values OfType b u = tt
values q b u = absurd u

-- the parts before that are evaluated before the one there
abbrev pub earlier : Lead → Trees
earlier (Failing a b) = a ▸ none
earlier (Interpolating a) = none
earlier l = before l

-- those of them that are asked for values
abbrev pub valued_before : Lead → Trees
valued_before (Storing o a) = none
valued_before l = earlier l

abbrev pub AllReply : (ℕ → Demand) → Trees → Type 0
AllReply σ none = Unit {0}
AllReply σ (t ▸ ts) = Replies (σ 0) × AllReply (λ i. σ (suc i)) ts

-- of a chain the initializer ends none
abbrev pub Chains : Bool → Lead → Type 0
Chains d Linking = d ≡ true
Chains d l = Unit {0}

pub whole_chains : (r : Tree) (l : Lead) → whole r l ≡ true → Chains (is_calm r) l
whole_chains r Linking e = e
whole_chains r l e = tt

always_chains : (l : Lead) → Chains true l
always_chains Linking = refl
always_chains l = tt

-- texts are gathered from what stands in a list
abbrev pub texts_in : Gathered → Lead → Bool
texts_in m (Listing ts) = of_texts m
texts_in m l = false

pub record Asks (f d : Bool) (m : Gathered) (c : Asked) (l : Lead) (fs : List Facts) (q : Demand) (r : Request q) (b : End) : Type 0 where
  pub reaches : surely m f l ≡ true → Reaches (texts_in m l) f d (count (earlier l)) (count (before l)) (step (shape_by (head_of l)) [] fs q r)
  pub below : Suits (asked_below (head_of l) c (place 0 (before l))) (demand (shape_by (head_of l)) fs q (count (before l))) b
  pub first : AllReply (demand (shape_by (head_of l)) fs q) (valued_before l)

target_suits : (o : AssignmentOperator) (b : End) → Suits (target_asked o) Target b
target_suits Assign b = tt
target_suits o b = tt

value_asks : (f d : Bool) (m : Gathered) (l : Lead) (o : Bool) → Stands AsValue l o → (b : End) → Allows l b → Chains d l → (fs : List Facts) (q : Demand) → Valued q → Gathers m q → (r : Request q) → Asks f d m AsValue l fs q r b
unfolding step
value_asks f d m Not v s b g w fs q u n r = record { reaches = λ y. reach_valued false f d 0 0 (λ i. As Test) q u r not_step (one false f d 0 0 (λ i. As Test) Value tt tt _ (λ v. tt)); below = tt; first = tt }
value_asks f d m Plus v s b g w fs q u n r = record { reaches = λ y. reach_valued false f d 0 0 (λ i. As Val) q u r (number_step UnaryPlus) (number_begins false f d UnaryPlus); below = tt; first = tt }
value_asks f d m Minus v s b g w fs q u n r = record { reaches = λ y. reach_valued false f d 0 0 (λ i. As Val) q u r (number_step UnaryNegation) (number_begins false f d UnaryNegation); below = tt; first = tt }
value_asks f d m Tilde v s b g w fs q u n r = record { reaches = λ y. reach_valued false f d 0 0 (λ i. As Val) q u r (number_step BitwiseNot) (number_begins false f d BitwiseNot); below = tt; first = tt }
value_asks f d m Typing v s b g w fs q u n r = record { reaches = λ y. reach_valued false f d 0 0 (λ i. OfType) q u r typeof_step (one false f d 0 0 (λ i. OfType) Value tt tt _ (λ v. tt)); below = g; first = tt }
value_asks f d m Emptying v s b g w fs q u n r = record { reaches = λ y. reach_valued false f d 0 0 (λ i. As Val) q u r void_step (one false f d 0 0 (λ i. As Val) Value tt tt _ (λ v. tt)); below = tt; first = tt }
value_asks f d m (Beside o) v s b g w fs q u n r = record { reaches = λ y. reach_valued false f d 0 0 (λ i. As Val) q u r (binary_step o) (binary_begins false f d o); below = tt; first = tt }
value_asks f d m (Deciding o) v s b g w fs q u n r = record { reaches = λ y. reach_passing false f d 0 0 (logical_demand o (pass q)) q u r (logical_step o (pass q)) (logical_begins false f d o (pass q)); below = left o (pass q); first = tt }
  where
    left : (o : LogicalOperator) (w : Want) → Suits AsValue (logical_demand o w 0) b
    left And Val = tt
    left And Test = tt
    left And Unused = tt
    left Or Val = tt
    left Or Test = tt
    left Or Unused = tt
    left Coalesce w = tt
value_asks f d m Choosing v s b g w fs q u n r = record { reaches = λ y. reach_passing false f d 0 0 (first_demand (As Test) (As (pass q))) q u r (conditional_step (pass q)) (conditional_begins false f d (pass q)); below = tt; first = tt }
value_asks f d m Passing v s b g w fs q u n r = record { reaches = λ y. reach_passing false f d 0 0 (λ i. Parts (pass q)) q u r (sequence_step (pass q)) (one false f d 0 0 (λ i. Parts (pass q)) (Says (pass q)) tt tt _ (λ v. tt)); below = tt; first = tt }
value_asks f d m (CalledLead o) v s b g w fs q u n r = record { reaches = λ y. reach_valued false f d 0 0 (first_demand Callee Items) q u r (call_step o) (call_begins false f d o); below = g; first = tt }
value_asks f d m Making v s b g w fs q u n r = record { reaches = λ y. reach_valued false f d 0 0 (first_demand (As Val) Items) q u r new_step (one false f d 0 0 (first_demand (As Val) Items) Value tt tt _ (λ f. (tt, (λ vs. (λ v. tt, λ y. tt), λ y. tt)))); below = tt; first = tt }
value_asks f d m (Waiting i) v s b g w fs q u n r = record { reaches = λ y. reach_valued false f d 0 0 (λ i. As Val) q u r (yield_step i) (one false f d 0 0 (λ i. As Val) Value tt tt _ (λ v. (λ a. tt, λ y. tt))); below = tt; first = tt }
value_asks f d m (Member o) v s b g w fs q u n r = record { reaches = λ y. as_member_reaches false f d o 0 (member_begins false f d o) q u r; below = tt; first = tt }
value_asks f d m (Keyed o) v s b g w fs q u n r = record { reaches = λ y. as_member_reaches false f d o 0 (member_begins false f d o) q u r; below = tt; first = tt }
value_asks f d m Holding v s b g w fs q u n r = record { reaches = λ y. reach_valued false f d 0 0 (λ i. Items) q u r array_step (one false f d 0 0 (λ i. Items) Value tt tt _ (λ vs. (λ v. tt, λ y. tt))); below = tt; first = tt }
value_asks f d m Gathering v s b g w fs q u n r = record { reaches = λ y. reach_valued false f d 0 0 (λ i. Items) q u r object_step (one false f d 0 0 (λ i. Items) Value tt tt _ (λ vs. (λ v. tt, λ y. tt))); below = tt; first = tt }
value_asks f d m (Against o a) v s b g w fs q u n r = record { reaches = λ y. reach_valued false f d 1 1 (λ i. As Val) q u r (binary_step o) (binary_goes_on false f d o); below = tt; first = (tt, tt) }
value_asks f d m (GivenLead o a) v s b g w fs q u n r = record { reaches = λ y. reach_valued false f d 1 1 (first_demand Callee Items) q u r (call_step o) (call_goes_on false f d o y); below = tt; first = (tt, tt) }
value_asks f d m (Filling a) v s b g w fs q u n r = record { reaches = λ y. reach_valued false f d 1 1 (first_demand (As Val) Items) q u r new_step (new_goes_on false f d); below = tt; first = (tt, tt) }
value_asks f d m (Keying o a) v s b g w fs q u n r = record { reaches = λ y. as_member_reaches false f d o 1 (member_goes_on false f d o y) q u r; below = tt; first = (tt, tt) }
value_asks f d m (Interpolating a) v s b g w fs q u n r = record { reaches = λ y. reach_valued false f d 0 1 (λ i. Texts) q u r (template_step (texts_all fs)) (one false f d 0 1 (λ i. Texts) Value tt tt _ (λ parts. tt)); below = tt; first = tt }
value_asks f d m (Following o a) v s b g w fs q u n r = record { reaches = λ y. reach_passing false f d 1 1 (logical_demand o (pass q)) q u r (logical_step o (pass q)) (logical_follows false f d o (pass q) y); below = behind o (pass q); first = (ahead o (pass q), tt) }
  where
    behind : (o : LogicalOperator) (w : Want) → Suits AsValue (logical_demand o w 1) b
    behind And Val = tt
    behind And Test = tt
    behind And Unused = tt
    behind Or Val = tt
    behind Or Test = tt
    behind Or Unused = tt
    behind Coalesce w = tt

    ahead : (o : LogicalOperator) (w : Want) → Replies (logical_demand o w 0)
    ahead And Val = tt
    ahead And Test = tt
    ahead And Unused = tt
    ahead Or Val = tt
    ahead Or Test = tt
    ahead Or Unused = tt
    ahead Coalesce w = tt
value_asks f d m (Branching a) v s b g w fs q u n r = record { reaches = λ y. reach_passing false f d 1 1 (first_demand (As Test) (As (pass q))) q u r (conditional_step (pass q)) (branch_follows false f d (pass q) y); below = tt; first = (tt, tt) }
value_asks f d m (Failing a t) v s b g w fs q u n r = record { reaches = λ y. reach_passing false f d 1 2 (first_demand (As Test) (As (pass q))) q u r (conditional_step (pass q)) (other_follows false f d (pass q) y); below = tt; first = (tt, tt) }
value_asks f d m (Storing o a) v s b g w fs q u n r = record { reaches = λ y. reach_valued false f d 1 1 AssignDemand q u r (assignment_step o) (stores false f d o y); below = tt; first = tt }
value_asks f d m (Fielding false a) v s b g w fs q u n r = record { reaches = λ y. fields false f d m q u n r y; below = tt; first = (tt, tt) }
value_asks f d m (Fielding true a) v s b g w fs q u n r = record { reaches = λ y. absurd (true≢false (sym y)); below = tt; first = (tt, tt) }
value_asks f d m Bracketing v s b g w fs q u n r = record { reaches = λ y. brackets false f d m q u n r y; below = tt; first = tt }
value_asks f d m (Targeted o) v s b g w fs q u n r = record { reaches = λ y. reach_valued false f d 0 0 AssignDemand q u r (assignment_step o) (assigning_begins false f d o); below = target_suits o b; first = tt }
value_asks f d m (Changing o p) v s b g w fs q u n r = record { reaches = λ y. reach_valued false f d 0 0 (λ i. Target) q u r (update_step o p) (updating_begins false f d o p); below = tt; first = tt }
value_asks f d m Spreading v s b g w fs q u n r = record { reaches = λ y. spreads false f d m q u n r y; below = tt; first = tt }
value_asks f d m Linking v s b g w fs q u n r = record { reaches = λ y. chains false f d w q u r; below = held q u g; first = tt }
  where
    held : (q : Demand) → Valued q → b.called ≡ true → Suits AsValue (chained q) b
    held (As w) u g = tt
    held Callee u g = g
    held OfType u g = tt
    held AnEntry u g = tt
    held q u g = absurd u
value_asks f d m l v s b g w fs q u n r = absurd s

-- a member that is assigned to
target_asks : (f d : Bool) (m : Gathered) (l : Lead) (o : Bool) → Stands AsTarget l o → (b : End) → (fs : List Facts) → Asks f d m AsTarget l fs Target Prepare b × Asks f d m AsUpdated l fs Target Prepare b
unfolding step
target_asks f d m (Member false) v s b fs = (record { reaches = λ y. member_begins false f d false; below = tt; first = tt }, record { reaches = λ y. member_begins false f d false; below = tt; first = tt })
target_asks f d m (Keyed false) v s b fs = (record { reaches = λ y. member_begins false f d false; below = tt; first = tt }, record { reaches = λ y. member_begins false f d false; below = tt; first = tt })
target_asks f d m (Keying false a) v s b fs = (record { reaches = λ y. member_goes_on false f d false refl; below = tt; first = (tt, tt) }, record { reaches = λ y. member_goes_on false f d false refl; below = tt; first = (tt, tt) })
target_asks f d m l v s b fs = absurd s

statement_asks : (f d : Bool) (m : Gathered) (l : Lead) (o : Bool) → Stands AsWholeItem l o → (b : End) → (fs : List Facts) (r : Request (Stat None)) → Asks f d m AsWholeItem l fs (Stat None) r b
unfolding step
statement_asks f d m Doing v s b fs r = record { reaches = λ y. reach_statement false f d 0 0 {σ = λ i. As Unused} (kid 0 tt ((then) ret)) (one false f d 0 0 (λ i. As Unused) (Unit {0}) tt tt ret (λ v. tt)); below = tt; first = tt }
statement_asks f d m Giving v s b fs r = record { reaches = λ y. reach_statement false f d 0 0 return_step (one false f d 0 0 (λ i. As Val) (Unit {0}) tt tt _ (λ v. tt)); below = tt; first = tt }
statement_asks f d m Raising v s b fs r = record { reaches = λ y. reach_statement false f d 0 0 throw_step (one false f d 0 0 (λ i. As Val) (Unit {0}) tt tt _ (λ v. tt)); below = tt; first = tt }
statement_asks f d m Testing v s b fs r = record { reaches = λ y. reach_statement false f d 0 0 (if_step None) (one false f d 0 0 (first_demand (As Test) (Stat None)) (Unit {0}) tt tt _ (λ c. later_choose 0 {σ = first_demand (As Test) (Stat None)} c (kid 1 [] ((then) ret)) (kid 2 [] ((then) ret)) (tt, (λ u. tt, λ y. tt)) (tt, (λ u. tt, λ y. tt)))); below = tt; first = tt }
statement_asks f d m l v s b fs r = absurd s

-- the parts of a sequence are asked nothing but the last, and items each for the item
parts_asked : (i n : ℕ) (w : Want) (b : End) → Before i (suc n) → Suits AsValue (parts_demand n w i) b
parts_asked zero zero w b h = tt
parts_asked zero (suc n) w b h = tt
parts_asked (suc i) zero w b h = tt
parts_asked (suc i) (suc n) w b h = parts_asked i n w b h

parts_reply : (n : ℕ) (w : Want) (ts : Trees) → AllReply (parts_demand n w) ts
parts_reply n w none = tt
parts_reply zero w (t ▸ ts) = (tt, unused ts)
  where
    unused : (ts : Trees) → AllReply (λ i. As Unused) ts
    unused none = tt
    unused (t ▸ ts) = (tt, unused ts)
parts_reply (suc n) w (t ▸ ts) = (tt, parts_reply n w ts)

entries_reply : (ts : Trees) → AllReply (λ i. AnEntry) ts
entries_reply none = tt
entries_reply (t ▸ ts) = (tt, entries_reply ts)

values_reply : (ts : Trees) → AllReply (λ i. As Val) ts
values_reply none = tt
values_reply (t ▸ ts) = (tt, values_reply ts)

list_asks : (f d : Bool) (m : Gathered) (l : Lead) (o : Bool) → Stands AsValues l o → (b : End) → (fs : List Facts) → Before (count (before l)) (length fs) → (q : Demand) → Suits AsValues q free → Gathers m q → (r : Request q) → Asks f d m AsValues l fs q r b
unfolding step
list_asks f d m (Listing ts) v s b [] h q u n r = absurd (none_less (count ts) h)
  where
    none_less : (i : ℕ) → Before i 0 → ⊥
    none_less zero h = h
    none_less (suc i) h = h
list_asks f d m (Listing ts) v s b (g ∷ fs) h (Parts w) u n r = record { reaches = λ y. parts_reach (of_texts m) f d (count ts) (length fs) w h; below = parts_asked (count ts) (length fs) w b h; first = parts_reply (length fs) w ts }
list_asks f d m (Listing ts) v s b (g ∷ fs) h Items u n r = record { reaches = λ y. entries_reach (of_texts m) f d (count ts) (suc (length fs)) h; below = tt; first = entries_reply ts }
list_asks f d OfTexts (Listing ts) v s b (g ∷ fs) h Texts u n r = record { reaches = λ y. texts_reach f d (count ts) (suc (length fs)) h; below = tt; first = values_reply ts }
list_asks f d OfValues (Listing ts) v s b (g ∷ fs) h Texts u n r = absurd n
list_asks f d OfEntries (Listing ts) v s b (g ∷ fs) h Texts u n r = absurd n
list_asks f d m (Listing ts) v s b (g ∷ fs) h q u n r = absurd u
list_asks f d m l v s b fs h q u n r = absurd s

pub asks : (f d : Bool) (m : Gathered) (c : Asked) (l : Lead) (o : Bool) → Stands c l o → (b : End) → Allows l b → Chains d l → (fs : List Facts) → Before (count (before l)) (length fs) → (q : Demand) → Suits c q free → Gathers m q → (r : Request q) → Opens q r → Asks f d m c l fs q r b
asks f d m AsWholeItem l v s b g w fs h (Stat None) u n r o = statement_asks f d m l v s b fs r
asks f d m AsValue l v s b g w fs h q u n r o = value_asks f d m l v s b g w fs q (values q free u) n r
asks f d m AsValues l v s b g w fs h q u n r o = list_asks f d m l v s b fs h q u n r
asks f d m AsTarget l v s b g w fs h Target u n Prepare o = (target_asks f d m l v s b fs).0
asks f d m AsTarget l v s b g w fs h Target u n (Fetch reference) o = absurd o
asks f d m AsTarget l v s b g w fs h Target u n (Put reference a) o = absurd o
asks f d m AsUpdated l v s b g w fs h Target u n Prepare o = (target_asks f d m l v (target_stands l v s) b fs).1
asks f d m AsUpdated l v s b g w fs h Target u n (Fetch reference) o = absurd o
asks f d m AsUpdated l v s b g w fs h Target u n (Put reference a) o = absurd o
asks f d m c l v s b g w fs h q u n r o = absurd u

-- what is asked of the part there
pub suits_below : (c : Asked) (l : Lead) (o : Bool) → Stands c l o → (b : End) → Allows l b → (fs : List Facts) → Before (count (before l)) (length fs) → (q : Demand) → Suits c q free → (r : Request q) → Suits (asked_below (head_of l) c (place 0 (before l))) (demand (shape_by (head_of l)) fs q (count (before l))) b
suits_below AsTarget l v s b g fs h Target u r = (asks true true OfValues AsTarget l v s b g (always_chains l) fs h Target u tt Prepare tt).below
suits_below AsUpdated l v s b g fs h Target u r = (asks true true OfValues AsUpdated l v s b g (always_chains l) fs h Target u tt Prepare tt).below
suits_below AsWholeItem l v s b g fs h (Stat None) u r = (asks true true OfValues AsWholeItem l v s b g (always_chains l) fs h (Stat None) u tt r tt).below
suits_below AsValue l v s b g fs h (As w) u r = (asks true true OfValues AsValue l v s b g (always_chains l) fs h (As w) u tt r tt).below
suits_below AsValue l v s b g fs h AnEntry u r = (asks true true OfValues AsValue l v s b g (always_chains l) fs h AnEntry u tt r tt).below
suits_below AsValue l v s b g fs h Callee u r = (asks true true OfValues AsValue l v s b g (always_chains l) fs h Callee u tt r tt).below
suits_below AsValue l v s b g fs h OfType u r = (asks true true OfValues AsValue l v s b g (always_chains l) fs h OfType u tt r tt).below
suits_below AsValues l v s b g fs h (Parts w) u r = (asks true true OfValues AsValues l v s b g (always_chains l) fs h (Parts w) u tt r tt).below
suits_below AsValues l v s b g fs h Items u r = (asks true true OfValues AsValues l v s b g (always_chains l) fs h Items u tt r tt).below
suits_below AsValues l v s b g fs h Texts u r = (asks true true OfTexts AsValues l v s b g (always_chains l) fs h Texts u tt r tt).below
suits_below c l v s b g fs h q u r = absurd u

-- what is evaluated before stands before
pub earlier_within : (l : Lead) (j : ℕ) → Before j (count (earlier l)) → Before j (count (before l))
earlier_within (Failing t d) zero b = tt
earlier_within (Failing t d) (suc zero) b = absurd b
earlier_within (Failing t d) (suc (suc j)) b = absurd b
earlier_within (Interpolating t) zero b = absurd b
earlier_within (Interpolating t) (suc j) b = absurd b
earlier_within l j b = b

-- what is gathered below
value_gathers : (q : Demand) (b : End) → Suits AsValue q b → Gathers OfValues q
value_gathers (As w) b u = tt
value_gathers AnEntry b u = tt
value_gathers Callee b u = tt
value_gathers OfType b u = tt
value_gathers q b u = absurd u

pub gathered_there : (m : Gathered) (c : Asked) (l : Lead) (o : Bool) → Stands c l o → (fs : List Facts) (q : Demand) → Suits c q free → Gathers m q → (b : End) → Suits (asked_below (head_of l) c (place 0 (before l))) (demand (shape_by (head_of l)) fs q (count (before l))) b → Gathers (gathered_below m (shape_by (head_of l)) (place 0 (before l))) (demand (shape_by (head_of l)) fs q (count (before l)))
gathered_there OfValues AsValues (Listing ts) v s fs q u n b w = value_gathers (demand shape.Listed fs q (count ts)) b w
gathered_there OfEntries AsValues (Listing ts) v s fs Items u n b w = tt
gathered_there OfEntries AsValues (Listing ts) v s fs AnEntry u n b w = absurd u
gathered_there OfEntries AsValues (Listing ts) v s fs q u n b w = absurd n
gathered_there OfTexts AsValues (Listing ts) v s fs Texts u n b w = tt
gathered_there OfTexts AsValues (Listing ts) v s fs (As x) u n b w = absurd u
gathered_there OfTexts AsValues (Listing ts) v s fs q u n b w = absurd n
gathered_there m c (Listing ts) v s fs q u n b w = absurd s
gathered_there m c (Deciding o) v s fs q u n b w = value_gathers (demand (shape.LogicalExpression o) fs q 0) b w
gathered_there m c (Following o a) v s fs q u n b w = value_gathers (demand (shape.LogicalExpression o) fs q 1) b w
gathered_there m c Linking v s fs q u n b w = value_gathers (chained q) b w
gathered_there m c l v s fs q u n b w = tt

-- what `=` assigns to is never read
abbrev pub fetching : Lead → Bool → Bool
fetching (Storing o a) f = not (is_plain_assignment o) && f
fetching l f = f

fetching_sure : (m : Gathered) (f : Bool) (l : Lead) → surely m f l ≡ true → surely m (fetching l f) l ≡ true
fetching_sure m f (Storing o a) e = by (is_plain_assignment o) e
  where
    by : (b : Bool) → (b || f) ≡ true → (b || (not b && f)) ≡ true
    by true e = refl
    by false e = e
fetching_sure m f l e = e

fetching_free : (f : Bool) (l : Lead) → fetching l f ≡ true → f ≡ true
fetching_free f (Storing o a) e = (and_parts (not (is_plain_assignment o)) f e).1
fetching_free f l e = e

-- ---- runs

abbrev pub Ending : Bool → {A : Type 0} → Completion A → Type 0
Ending d (stop y s) = May d y
Ending d x = Unit {0}

pub any_end : {A : Type 0} (x : Completion A) → Ending false x
any_end (ok a s) = tt
any_end (stop y s) = tt
any_end (halt y s) = tt
any_end out = tt

calm_end : {A : Type 0} (x : Completion A) → Calmly x → Ending true x
calm_end (ok a s) c = tt
calm_end (stop Short s) c = c
calm_end (stop y s) c = tt
calm_end (halt y s) c = tt
calm_end out c = tt

pub init_ends : (e : Environment) (init : Tree) (s : State) → Ending (is_calm init) (means e init (As Val) tt s)
init_ends e init s = by (is_calm init) refl
  where
    by : (b : Bool) → is_calm init ≡ b → Ending b (means e init (As Val) tt s)
    by true c = calm_end (means e init (As Val) tt s) (tree_calm e init c (As Val) tt tt s)
    by false c = any_end (means e init (As Val) tt s)

-- what goes on after both
pub joined : {R A : Type 0} (d : Bool) (v : Completion Value) → Ending d v → (B : Value → State → Completion R) (F : R → State → Completion A) (G : Stop → State → Completion A) → ((y : Stop) → May d y → (z : State) → G y z ≡ stop y z) → either v (λ p y. either (B p y) F G) (λ y z. stop y z) ≡ either (either v B (λ y z. stop y z)) F G
unfolding either
joined d (ok p y) n B F G h = refl
joined d (stop y z) n B F G h = sym (h y n z)
joined d (halt y z) n B F G h = refl
joined d out n B F G h = refl

abbrev pub next : {A B : Type 0} → Completion A → (A → State → Completion B) → Completion B
next x f = either x f (λ y z. stop y z)

-- each value of a primitive Kind is textual
textual : (k : Kind) (v : Value) → is_primitive k ≡ true → OfKind k v → Textual v
textual IsUndefined Undefined p o = record { primitive_value = refl; text = codes "undefined"; converted = refl }
textual IsNull Null p o = record { primitive_value = refl; text = codes "null"; converted = refl }
textual IsBoolean (Boolean b) p o = record { primitive_value = refl; text = text_of_boolean b; converted = refl }
textual IsNumber (Number n) p o = record { primitive_value = refl; text = signed_decimal n; converted = refl }
textual IsString (String s) p o = record { primitive_value = refl; text = s; converted = refl }
textual IsUndefined v p o = absurd o
textual IsNull v p o = absurd o
textual IsBoolean v p o = absurd o
textual IsNumber v p o = absurd o
textual IsString v p o = absurd o
textual k v p o = absurd (true≢false (sym p))

pub textual_part : (e : Environment) (t : Tree) → is_primitive (kind t) ≡ true → (v : Value) (s y : State) → means e t (As Val) tt s ≡ ok v y → Textual v
unfolding Gives
textual_part e t p v s y g = textual (kind t) v p (subst (λ x. Gives (OfKind (kind t)) x) g (kind_sound t e s))

-- of some parts each of so many replies what is textual, where texts are gathered
abbrev pub AllFine : Environment → Bool → ℕ → Trees → (ℕ → Demand) → Type 0
AllFine e text m ps σ = (j : ℕ) → Before j m → (r : Request (σ j)) (a : Reply (σ j) r) (s t : State) → meaning e ps j (σ j) r s ≡ ok a t → Fine text (σ j) r a

module _ (e : Environment) (k : ℕ) (z : Unseen (alone (Declared k)) e) where
  abbrev D : VariableSet
  D = alone (Declared k)

  abbrev Go : {A : Type 0} → Completion A → Completion A → Type 0
  Go x y = Goes true (λ a. Agree D) (Agree D) (Agree D) x y

  abbrev after : Value → State → State
  after v s = with_vars s (set_var s.vars (Declared k) (Holds v))

  rest_goes : (ts : Trees) → AllAvoid D ts → (i : ℕ) (q : Demand) (r : Request q) (s t : State) → Agree D s t → Go (meaning e ts i q r s) (meaning e ts i q r t)
  unfolding meaning Goes
  rest_goes none a i q r s t g = tt
  rest_goes (u ▸ ts) a zero q r s t g = insensitive e D z.shared u a.0 q r s t g
  rest_goes (u ▸ ts) a (suc i) q r s t g = rest_goes ts a.1 i q r s t g

  -- the children but one do the same
  -- where a part is read or written without its parts, two do the same
  abbrev pub Alike : (q : Demand) → Tree → Tree → Type 0
  Alike q t u = (r : Request q) → Settled q r → (s y : State) → Agree D s y → Go (means e t q r s) (means e u q r y)

  others_go : (σ : ℕ → Demand) (ps : Trees) (t u : Tree) (ts : Trees) → AllAvoid D ps → AllAvoid D ts → Alike (σ (count ps)) t u → (j : ℕ) (r : Request (σ j)) → Away j (count ps) (σ j) r → (s y : State) → Agree D s y → Go (meaning e (append ps (t ▸ ts)) j (σ j) r s) (meaning e (append ps (u ▸ ts)) j (σ j) r y)
  unfolding meaning
  others_go σ none t u ts a b h zero r p s y g = h r p s y g
  others_go σ none t u ts a b h (suc j) r p s y g = rest_goes ts b j (σ (suc j)) r s y g
  others_go σ (v ▸ ps) t u ts a b h zero r p s y g = insensitive e D z.shared v a.0 (σ 0) r s y g
  others_go σ (v ▸ ps) t u ts a b h (suc j) r p s y g = others_go (λ i. σ (suc i)) ps t u ts a.1 b h j r p s y g

  pub later_goes : {σ : ℕ → Demand} {A : Type 0} (h : Shape) (q : Demand) (is : List Summary) (ps : Trees) (t u : Tree) (ts : Trees) → AllAvoid D ps → AllAvoid D ts → Alike (σ (count ps)) t u → (c : Command σ A) → Later (count ps) c → (x y : State) → Agree D x y → Go (run e (naming h q [] 0 is) (λ i r w. meaning e (append ps (t ▸ ts)) i (σ i) r w) c x) (run e (naming h q [] 0 is) (λ i r w. meaning e (append ps (u ▸ ts)) i (σ i) r w) c y)
  unfolding Goes
  later_goes h q is ps t u ts a b d (ret v) l x y g = (refl, g)
  later_goes h q is ps t u ts a b d (fails v) l x y g = (refl, g)
  later_goes h q is ps t u ts a b d stuck l x y g = tt
  later_goes h q is ps t u ts a b d (op o c) l x y g =
      goes_either true (λ v. Agree D) (Agree D) (Agree D) (λ v. Agree D) (Agree D) (act e (naming h q [] 0 is) o x) (act e (naming h q [] 0 is) o y) _ _ _ _
      ((dead_sound D e z.shared).acts (naming h q [] 0 is) (naming h q [] 0 is) (alive_self D e h q [] 0 is tt) o x y g) (λ v x y g. later_goes h q is ps t u ts a b d (c (done v)) (l.0 v) x y g) (λ v x y g. later_goes h q is ps t u ts a b d (c (ended v)) (l.1 v) x y g)
  later_goes {σ} h q is ps t u ts a b d (kid j r c) l x y g =
      goes_either true (λ v. Agree D) (Agree D) (Agree D) (λ v. Agree D) (Agree D) (meaning e (append ps (t ▸ ts)) j (σ j) r x) (meaning e (append ps (u ▸ ts)) j (σ j) r y) _ _ _ _ (others_go σ ps t u ts a b d j r l.0 x y g) (λ v x y g. later_goes h q is ps t u ts a b d (c (done v)) (l.1.0 v) x y g) (λ v x y g. later_goes h q is ps t u ts a b d (c (ended v)) (l.1.1 v) x y g)

  -- a node, by what it reads of its children
  abbrev pub by_summaries : Shape → (q : Demand) (r : Request q) → List Summary → Trees → State → Completion (Reply q r)
  by_summaries h q r is ts s = run e (naming h q [] 0 is) (λ i r' s'. meaning e ts i (demand h (facts_all is) q i) r' s') (step h [] (facts_all is) q r) s

  pub node_is : (h : Shape) (q : Demand) (r : Request q) (ts : Trees) (s : State) → means e (node h [] 0 ts) q r s ≡ by_summaries h q r (summaries ts) ts s
  unfolding means
  node_is h q r ts s = refl

  -- ---- the read

  read_is : (spelling : List ℕ) (v : Value) (s : State) → means e (identifier (resolved spelling k)) (As Val) tt (after v s) ≡ ok v (after v s)
  unfolding means step act at_variable read_slot either
  read_is spelling v s = go (same_text spelling (codes "eval"))
    where
      own : variable_eq (Declared k) (Declared k) ≡ true
      own = eq-eqb k k refl

      at_slot : (o : Slot) → o ≡ Holds v → either (read_slot o (after v s)) (λ a t. ok a t) (λ y t. stop y t) ≡ ok v (after v s)
      at_slot o q = subst (λ o. either (read_slot o (after v s)) (λ a t. ok a t) (λ y t. stop y t) ≡ ok v (after v s)) (sym q) refl

      holds : (after v s).vars (Declared k) ≡ Holds v
      holds = ap (λ b. choose b (Holds v) (s.vars (Declared k))) own

      go : (b : Bool) → run {q = λ i. Stat None} e (naming shape.Identifier (As Val) (Declared k ∷ []) 0 []) (λ i r z. out) (valued (As Val) tt (get_identifier (if b then EvalName else PlainName))) (after v s) ≡ ok v (after v s)
      go true = at_slot ((after v s).vars (Declared k)) holds
      go false = at_slot ((after v s).vars (Declared k)) holds

  agrees : (v : Value) (s : State) → Agree D (after v s) s
  agrees v s = record { vars = λ y d. ap (λ c. choose c (Holds v) (s.vars y)) d; self = refl; answers = refl; turns = refl; events = refl }

  itself : (s : State) → Agree D s s
  itself s = record { vars = λ y d. refl; self = refl; answers = refl; turns = refl; events = refl }

  told_goes : (w : Want) (x : Completion Value) → Go (next x (λ v s. told w (ok v (after v s)))) (told w x)
  unfolding Goes either told
  told_goes w (ok v s) = (refl, agrees v s)
  told_goes w (stop y s) = (refl, itself s)
  told_goes w (halt y s) = (refl, itself s)
  told_goes w out = tt

  pub read_goes : (spelling : List ℕ) (init : Tree) (w : Want) (s : State) → Go (next (means e init (As Val) tt s) (λ v t. means e (identifier (resolved spelling k)) (As w) tt (after v t))) (means e init (As w) tt s)
  read_goes spelling init w s =
      subst₂ Go
      (either_cong (means e init (As Val) tt s) _ _ _ _ (λ v t. sym (coherent (identifier (resolved spelling k)) w e (after v t) ∙ ap (told w) (read_is spelling v t))) (λ y t. refl))
      (sym (coherent init w e s)) (told_goes w (means e init (As Val) tt s))

  -- as an item
  item_goes : (x : Completion Value) → Go (next x (λ v s. by_value AnEntry tt (ok v (after v s)))) (by_value AnEntry tt x)
  unfolding Goes either by_value
  item_goes (ok v s) = (refl, agrees v s)
  item_goes (stop y s) = (refl, itself s)
  item_goes (halt y s) = (refl, itself s)
  item_goes out = tt

  pub entry_goes : (spelling : List ℕ) (init : Tree) → is_item init ≡ true → (s : State) → Go (next (means e init (As Val) tt s) (λ v t. means e (identifier (resolved spelling k)) AnEntry tt (after v t))) (means e init AnEntry tt s)
  entry_goes spelling init i s =
      subst₂ Go
      (either_cong (means e init (As Val) tt s) _ _ _ _ (λ v t. sym (item_read (identifier (resolved spelling k)) refl e (after v t) ∙ ap (by_value AnEntry tt) (read_is spelling v t))) (λ y t. refl))
      (sym (item_read init i e s)) (item_goes (means e init (As Val) tt s))

  -- as a callee
  call_goes : (x : Completion Value) → Go (next x (λ v s. by_value Callee tt (ok v (after v s)))) (by_value Callee tt x)
  unfolding Goes either by_value
  call_goes (ok v s) = (refl, agrees v s)
  call_goes (stop y s) = (refl, itself s)
  call_goes (halt y s) = (refl, itself s)
  call_goes out = tt

  pub callee_goes : (spelling : List ℕ) (init : Tree) → not (same_text spelling (codes "eval")) && is_called_by_value init ≡ true → (s : State) → Go (next (means e init (As Val) tt s) (λ v t. means e (identifier (resolved spelling k)) Callee tt (after v t))) (means e init Callee tt s)
  callee_goes spelling init c s =
      let (plain, called) = and_parts (not (same_text spelling (codes "eval"))) (is_called_by_value init) c in
      subst₂ Go
      (either_cong (means e init (As Val) tt s) _ _ _ _ (λ v t. sym (name_called_read (resolved spelling k) plain e (after v t) ∙ ap (by_value Callee tt) (read_is spelling v t))) (λ y t. refl))
      (sym (called_read init called e s)) (call_goes (means e init (As Val) tt s))

  -- under `typeof`
  pub type_goes : (spelling : List ℕ) (init : Tree) → is_typed_by_value init ≡ true → (s : State) → Go (next (means e init (As Val) tt s) (λ v t. means e (identifier (resolved spelling k)) OfType tt (after v t))) (means e init OfType tt s)
  type_goes spelling init c s =
      subst₂ Go
      (either_cong (means e init (As Val) tt s) _ _ _ _ (λ v t. sym (typed_by_value (identifier (resolved spelling k)) refl e (after v t))) (λ y t. refl))
      (sym (typed_by_value init c e s)) (read_goes spelling init Val s)

  either_stopped : {A B : Type 0} (y : Stop) (p : State) (f : A → State → Completion B) → either (stop y p) f (λ y p. stop y p) ≡ stop y p
  unfolding either
  either_stopped y p f = refl

  pub stopped : (A : Type 0) (p : Stop) (x y : State) → Agree D x y → Go {A = A} (stop p x) (stop p y)
  unfolding Goes
  stopped A p x y g = (refl, g)

  -- ---- the parts before

  abbrev front : Trees → (σ : ℕ → Demand) → (j : ℕ) → Does (σ j)
  front ps σ j r s = meaning e ps j (σ j) r s

  pub front_is : (ps : Trees) (t : Tree) (ts : Trees) (j : ℕ) → Before j (count ps) → (q : Demand) (r : Request q) (s : State) → meaning e (append ps (t ▸ ts)) j q r s ≡ meaning e ps j q r s
  unfolding meaning
  front_is none t ts zero b q r s = absurd b
  front_is none t ts (suc j) b q r s = absurd b
  front_is (p ▸ ps) t ts zero b q r s = refl
  front_is (p ▸ ps) t ts (suc j) b q r s = front_is ps t ts j b q r s

  pub there_is : (ps : Trees) (t : Tree) (ts : Trees) (q : Demand) (r : Request q) (s : State) → meaning e (append ps (t ▸ ts)) (count ps) q r s ≡ means e t q r s
  unfolding meaning
  there_is none t ts q r s = refl
  there_is (p ▸ ps) t ts q r s = there_is ps t ts q r s

  -- what each of them does
  abbrev Calm : Tree → (q : Demand) → Does q → Request q → Type 0
  Calm init q m r = Replying q m r ⊎ ((is_effect_free init ≡ true) × Quietly D q m r)

  -- where it is asked no more than the way to the read asks
  abbrev AllCalm : Bool → Tree → ℕ → Trees → (ℕ → Demand) → Type 0
  AllCalm f init m ps σ = (j : ℕ) → Before j m → (r : Request (σ j)) → Mild f (σ j) r → Calm init (σ j) (front ps σ j) r

  module _ (f : Bool) (init : Tree) (varies : is_constant init ≡ false) where
    calm_part : (t : Tree) → passes init t ≡ true → Avoids D t → (q : Demand) → Replies q → (r : Request q) → Calm init q (means e t q) r
    calm_part t p a q u r = by (passes_by init t varies p)
      where
        by : (is_constant t ≡ true) ⊎ ((is_effect_free init ≡ true) × (is_effect_free t ≡ true) × (is_item t ≡ true)) → Calm init q (means e t q) r
        by (inl c) = inl (constant_replies e t c q u r)
        by (inr (f, g, i)) = inr (f, quietly e D z.shared t a g i q u r)

    first_or : (b : Bool) → (b || false) ≡ true → b ≡ true
    first_or true e = refl
    first_or false e = e

    calm_list : (i : ℕ) (ps : Trees) → AllPass OfValues init shape.Listed i ps → AllAvoid D ps → (σ : ℕ → Demand) → AllReply σ ps → AllCalm f init (count ps) ps σ
    unfolding meaning
    calm_list i none p a σ u zero b r m = absurd b
    calm_list i none p a σ u (suc j) b r m = absurd b
    calm_list i (t ▸ ps) p a σ u (suc j) b r m = calm_list (suc i) ps p.1 a.1 (λ i. σ (suc i)) u.1 j b r m
    calm_list i (t ▸ ps) p a σ u zero b r m = calm_part t (first_or (passes init t) p.0) a.0 (σ 0) u.0 r

    -- a property, of an object, by its value
    calm_field : (t : Tree) → is_field t ≡ true → passes init (part t 1) ≡ true → Avoids D t → Calm init AnEntry (means e t AnEntry) tt
    calm_field t f p a = by (passes_by init (part t 1) varies p)
      where
        by : (is_constant (part t 1) ≡ true) ⊎ ((is_effect_free init ≡ true) × (is_effect_free (part t 1) ≡ true) × (is_item (part t 1) ≡ true)) → Calm init AnEntry (means e t AnEntry) tt
        by (inl c) = inl (field_replies e t f (constant_replies e (part t 1) c (As Val) tt tt))
        by (inr (g, h, i)) = inr (g, field_quietly e D z.shared t a f (λ s. quiet_there e (part t 1) h s))

    calm_item : (t : Tree) → passes_item OfEntries init t ≡ true → Avoids D t → Calm init AnEntry (means e t AnEntry) tt
    calm_item t p a = by (passes init t) refl p
      where
        by : (b : Bool) → passes init t ≡ b → (b || (is_field t && passes init (part t 1))) ≡ true → Calm init AnEntry (means e t AnEntry) tt
        by true c p = calm_part t c a AnEntry tt tt
        by false c p = let (f, g) = and_parts (is_field t) (passes init (part t 1)) p in calm_field t f g a

    calm_items : (i : ℕ) (ps : Trees) → AllPass OfEntries init shape.Listed i ps → AllAvoid D ps → AllCalm f init (count ps) ps (λ i. AnEntry)
    unfolding meaning
    calm_items i none p a zero b r m = absurd b
    calm_items i none p a (suc j) b r m = absurd b
    calm_items i (t ▸ ps) p a (suc j) b r m = calm_items (suc i) ps p.1 a.1 j b r m
    calm_items i (t ▸ ps) p a zero b r m = calm_item t p.0 a.0

    -- what is asked for nothing
    calm_unasked : (ps : Trees) (σ : ℕ → Demand) → (Replies (σ 0) → ⊥) → AllReply σ ps → AllCalm f init (count ps) ps σ
    calm_unasked none σ n u zero b r m = absurd b
    calm_unasked none σ n u (suc j) b r m = absurd b
    calm_unasked (t ▸ ps) σ n u j b r m = absurd (n u.0)

    calm_one : (t : Tree) (ps : Trees) → passes init t ≡ true → Avoids D t → (σ : ℕ → Demand) → Replies (σ 0) → AllCalm f init 1 (t ▸ ps) σ
    unfolding meaning
    calm_one t ps p a σ u zero b r m = calm_part t p a (σ 0) u r
    calm_one t ps p a σ u (suc zero) b r m = absurd b
    calm_one t ps p a σ u (suc (suc j)) b r m = absurd b

    varied : (b : Bool) → (is_constant init || b) ≡ true → b ≡ true
    varied b p = sym (ap (λ c. c || b) varies) ∙ p

    -- a part of a member
    abbrev Steady : Tree → Type 0
    Steady t = Replying (As Val) (means e t (As Val)) tt ⊎ ((is_effect_free init ≡ true) × ((s : State) → Quiet s (means e t (As Val) tt s)))

    steady_value : (t : Tree) → passes init t ≡ true → Steady t
    steady_value t p = by (passes_by init t varies p)
      where
        by : (is_constant t ≡ true) ⊎ ((is_effect_free init ≡ true) × (is_effect_free t ≡ true) × (is_item t ≡ true)) → Steady t
        by (inl c) = inl (constant_replies e t c (As Val) tt tt)
        by (inr (g, h, i)) = inr (g, λ s. quiet_there e t h s)

    steady_word : (t : Tree) → passes_word init t ≡ true → Steady t
    steady_word t p = by (is_word (shape_of t)) refl p
      where
        by : (b : Bool) → is_word (shape_of t) ≡ b → (b || passes init t) ≡ true → Steady t
        by true w p = inl (word_replies e t w)
        by false w p = steady_value t p

    steady_quiet : (t : Tree) → Steady t → (s : State) → Quiet s (means e t (As Val) tt s)
    steady_quiet t (inl a) s = quiet_replying (As Val) (means e t (As Val)) tt a s
    steady_quiet t (inr q) s = q.1 s

    steady_member : (t : Tree) → is_member t ≡ true → Avoids D t → Steady (part t 0) → Steady (part t 1) → Calm init Target (means e t Target) Prepare
    steady_member t m a (inl v) (inl u) = inl (AMember v.0 (key_value u.0), λ s. member_replies e t m v.0 u.0 s (v.1 s) (u.1 s))
    steady_member t m a (inl v) (inr u) = inr (u.0, member_quietly e D z.shared t a m (steady_quiet (part t 0) (inl v)) u.1)
    steady_member t m a (inr v) u = inr (v.0, member_quietly e D z.shared t a m v.1 (steady_quiet (part t 1) u))

    calm_member : (o : AssignmentOperator) (t : Tree) → passes_member init o t ≡ true → Avoids D t → Calm init Target (means e t Target) Prepare
    calm_member o t p a =
        let (m, n) = and_parts (is_member t) (is_plain_assignment o && (passes init (part t 0) && passes_word init (part t 1))) p in
        let (b, c) = and_parts (passes init (part t 0)) (passes_word init (part t 1)) (and_parts (is_plain_assignment o) (passes init (part t 0) && passes_word init (part t 1)) n).1 in
        steady_member t m a (steady_value (part t 0) b) (steady_word (part t 1) c)

    -- a name
    named_target : (o : AssignmentOperator) (t : Tree) → (is_identifier t && is_effect_free t) && (is_plain_assignment o || is_effect_free init) ≡ true → (is_identifier t ≡ true) × (is_effect_free t ≡ true)
    named_target o t p = and_parts (is_identifier t) (is_effect_free t) (and_parts (is_identifier t && is_effect_free t) (is_plain_assignment o || is_effect_free init) p).0

    prepared : (o : AssignmentOperator) (t : Tree) → passes_target init o t ≡ true → Avoids D t → Calm init Target (means e t Target) Prepare
    prepared o t p a = by (passes_member init o t) refl (varied _ p)
      where
        by : (b : Bool) → passes_member init o t ≡ b → (b || ((is_identifier t && is_effect_free t) && (is_plain_assignment o || is_effect_free init))) ≡ true → Calm init Target (means e t Target) Prepare
        by true m p = calm_member o t m a
        by false m p = inl (target_replies e t (named_target o t p).0)

    -- its value is read by another operator than `=` alone
    no_member : (o : AssignmentOperator) (t : Tree) → is_plain_assignment o ≡ false → passes_member init o t ≡ false
    no_member o t p = ap (λ b. is_member t && (b && (passes init (part t 0) && passes_word init (part t 1)))) p ∙ none_of (is_member t)
      where
        none_of : (b : Bool) → b && false ≡ false
        none_of true = refl
        none_of false = refl

    fetched_name : (o : AssignmentOperator) (t : Tree) → is_plain_assignment o ≡ false → is_effect_free init ≡ true → passes_target init o t ≡ true → Avoids D t → (reference : Reference) → Calm init Target (means e t Target) (Fetch reference)
    fetched_name o t n g p a reference =
        let (i, h) = named_target o t (sym (ap (λ b. b || ((is_identifier t && is_effect_free t) && (is_plain_assignment o || is_effect_free init))) (no_member o t n)) ∙ varied _ p) in
        inr (g, fetched_quietly e D z.shared t a i h reference)

    calm_assigned : (o : AssignmentOperator) (t : Tree) → (f ≡ true → (is_plain_assignment o ≡ false) × (is_effect_free init ≡ true)) → passes_target init o t ≡ true → Avoids D t → AllCalm f init 1 (t ▸ none) AssignDemand
    unfolding meaning
    calm_assigned o t h p a zero b Prepare m = prepared o t p a
    calm_assigned o t h p a zero b (Fetch reference) m = fetched_name o t (h m).0 (h m).1 p a reference
    calm_assigned o t h p a zero b (Put reference v) m = absurd m
    calm_assigned o t h p a (suc zero) b r m = absurd b
    calm_assigned o t h p a (suc (suc j)) b r m = absurd b

    calm_key : (t : Tree) → is_word (shape_of t) ≡ true → AllCalm f init 1 (t ▸ none) (λ i. As Val)
    unfolding meaning
    calm_key t p zero b r m = inl (word_replies e t p)
    calm_key t p (suc zero) b r m = absurd b
    calm_key t p (suc (suc j)) b r m = absurd b

    none_calm : (ps : Trees) (σ : ℕ → Demand) → AllCalm f init 0 ps σ
    none_calm ps σ zero b r m = absurd b
    none_calm ps σ (suc j) b r m = absurd b

    -- what is converted to a text
    calm_texts : (i : ℕ) (ps : Trees) → AllPass OfTexts init shape.Listed i ps → AllAvoid D ps → AllCalm f init (count ps) ps (λ i. As Val)
    unfolding meaning
    calm_texts i none p a zero b r m = absurd b
    calm_texts i none p a (suc j) b r m = absurd b
    calm_texts i (t ▸ ps) p a (suc j) b r m = calm_texts (suc i) ps p.1 a.1 j b r m
    calm_texts i (t ▸ ps) p a zero b r m = calm_part t (and_parts (passes init t) (is_primitive (kind t)) (varied (passes init t && is_primitive (kind t)) p.0)).0 a.0 (As Val) tt r

    -- what is assigned to is asked for its value by another operator than `=` alone
    abbrev Fetches : Lead → Type 0
    Fetches (Storing o a) = f ≡ true → (is_plain_assignment o ≡ false) × (is_effect_free init ≡ true)
    Fetches l = Unit {0}

    calm_before : (m : Gathered) (l : Lead) → Fetches l → AllPass m init (shape_by (head_of l)) 0 (before l) → AllAvoid D (before l) → (fs : List Facts) (q : Demand) → Gathers m q → AllReply (demand (shape_by (head_of l)) fs q) (valued_before l) → AllCalm f init (count (earlier l)) (before l) (demand (shape_by (head_of l)) fs q)
    calm_before m (Against o t) w p a fs q n u = calm_one t none p.0 a.0 (λ i. As Val) u.0
    calm_before m (GivenLead o t) w p a fs q n u = calm_one t none p.0 a.0 (first_demand Callee Items) u.0
    calm_before m (Filling t) w p a fs q n u = calm_one t none p.0 a.0 (first_demand (As Val) Items) u.0
    calm_before m (Keying o t) w p a fs q n u = calm_one t none p.0 a.0 (λ i. As Val) u.0
    calm_before m (Following o t) w p a fs q n u = calm_one t none p.0 a.0 (logical_demand o (pass q)) u.0
    calm_before m (Branching t) w p a fs q n u = calm_one t none p.0 a.0 (first_demand (As Test) (As (pass q))) u.0
    calm_before m (Failing t d) w p a fs q n u = calm_one t (d ▸ none) p.0 a.0 (first_demand (As Test) (As (pass q))) u.0
    calm_before m (Storing o t) w p a fs q n u = calm_assigned o t w p.0 a.0
    calm_before m (Fielding false t) w p a fs q n u = calm_key t (varied (is_word (shape_of t)) p.0)
    calm_before m (Fielding true t) w p a fs q n u = absurd (true≢false (sym (varied false p.0)))
    calm_before OfValues (Listing ts) w p a fs q n u = calm_list 0 ts p a (demand shape.Listed fs q) u
    calm_before OfEntries (Listing ts) w p a fs Items n u = calm_items 0 ts p a
    calm_before OfEntries (Listing ts) w p a fs AnEntry n u = calm_unasked ts (demand shape.Listed fs AnEntry) (λ r. r) u
    calm_before OfEntries (Listing ts) w p a fs q n u = absurd n
    calm_before OfTexts (Listing ts) w p a fs Texts n u = calm_texts 0 ts p a
    calm_before OfTexts (Listing ts) w p a fs (As v) n u = calm_unasked ts (demand shape.Listed fs (As v)) (λ r. r) u
    calm_before OfTexts (Listing ts) w p a fs q n u = absurd n
    calm_before m l w p a fs q n u = none_calm (before l) (demand (shape_by (head_of l)) fs q)

    -- what is replied where texts are gathered is textual
    fine_texts : (i : ℕ) (ps : Trees) → AllPass OfTexts init shape.Listed i ps → AllFine e true (count ps) ps (λ i. As Val)
    unfolding meaning
    fine_texts i none p zero b r v s t g = absurd b
    fine_texts i none p (suc j) b r v s t g = absurd b
    fine_texts i (u ▸ ps) p (suc j) b r v s t g = fine_texts (suc i) ps p.1 j b r v s t g
    fine_texts i (u ▸ ps) p zero b r v s t g = textual_part e u (and_parts (passes init u) (is_primitive (kind u)) (varied (passes init u && is_primitive (kind u)) p.0)).1 v s t g

    fine_before : (m : Gathered) (l : Lead) → AllPass m init (shape_by (head_of l)) 0 (before l) → (fs : List Facts) (q : Demand) → Gathers m q → AllFine e (texts_in m l) (count (earlier l)) (before l) (demand (shape_by (head_of l)) fs q)
    fine_before OfTexts (Listing ts) p fs Texts n = fine_texts 0 ts p
    fine_before OfTexts (Listing ts) p fs (As w) n = λ j b r a s t g. tt
    fine_before OfTexts (Listing ts) p fs q n = absurd n
    fine_before OfValues (Listing ts) p fs q n = λ j b r a s t g. tt
    fine_before OfEntries (Listing ts) p fs q n = λ j b r a s t g. tt
    fine_before m l p fs q n = λ j b r a s t g. tt

  module _ {A : Type 0} (init : Tree) (s : State) where
    abbrev Started : (Value → State → Completion A) → Completion A
    Started f = next (means e init (As Val) tt s) (λ v t. f v (after v t))

    -- the value is there, or the run is outside the model
    with_value : (x : Completion Value) → Quiet s x → (f : Value → State → Completion A) (y : Completion A) → ((v : Value) → x ≡ ok v s → Go (f v (after v s)) y) → Go (next x (λ v t. f v (after v t))) y
    unfolding Quiet either
    with_value (ok v t) h f y g = subst (λ z. Go (f v (after v z)) y) (sym h) (g v (ap (ok v) h))
    with_value (stop x t) h f y g = absurd h
    with_value (halt x t) h f y g = absurd h
    with_value out h f y g = weak D y

    -- two that do nothing but reply
    quiet_both : {R : Type 0} (z : State) (x y : Completion R) → Quiet z x → Quiet s y → Go x y → (F G : R → State → Completion A) (f g : Stop → State → Completion A) → ((a : R) → x ≡ ok a z → Go (F a z) (G a s)) → Go (either x F f) (either y G g)
    unfolding Quiet either Goes
    quiet_both z (ok a v) (ok b w) m n o F G f g h = subst₂ Go (λ i. F a (sym m i)) (λ i. G (o.0 i) (sym n i)) (h a (ap (ok a) m))
    quiet_both z (ok a v) (stop b w) m n o F G f g h = absurd n
    quiet_both z (ok a v) (halt b w) m n o F G f g h = absurd n
    quiet_both z (ok a v) out m n o F G f g h = absurd o
    quiet_both z (stop a v) y m n o F G f g h = absurd m
    quiet_both z (halt a v) y m n o F G f g h = absurd m
    quiet_both z out y m n o F G f g h = weak D (either y G g)

    passed_goes : (q : Demand) (m : Does q) (r : Request q) → Calm init q m r → (F G : Reply q r → State → Completion A) (f g : Stop → State → Completion A) → ((a : Reply q r) (z : State) → m r z ≡ ok a z → Go (Started (λ v t. F a t)) (G a s)) → Go (Started (λ v t. either (m r t) F f)) (either (m r s) G g)
    passed_goes q m r (inl c) F G f g h =
        let (a, is) = c in
        subst₂ Go (either_cong (means e init (As Val) tt s) _ _ _ _ (λ v t. sym (ap (λ x. either x F f) (is (after v t)) ∙ either_ok a (after v t) F f)) (λ y t. refl)) (sym (ap (λ x. either x G g) (is s) ∙ either_ok a s G g)) (h a s (is s))
    passed_goes q m r (inr (free, n)) F G f g h =
        with_value (means e init (As Val) tt s) (quiet_there e init free s) (λ v t. either (m r t) F f) (either (m r s) G g)
        (λ v is. quiet_both (after v s) (m r (after v s)) (m r s) (n.quiet (after v s)) (n.quiet s) (n.same (after v s) s (agrees v s)) F G f g
        (λ a g. subst (λ c. Go c (G a s)) (ap (λ x. next x (λ v t. F a (after v t))) is ∙ either_ok v s (λ v t. F a (after v t)) (λ y z. stop y z)) (h a (after v s) g)))

  -- ---- a node, with the expression in the place of the read

  module _ (h : Shape) (q : Demand) (is : List Summary) (σ : ℕ → Demand) (ps : Trees) (t u : Tree) (ts : Trees) (init : Tree) (first : AllAvoid D ps) (last : AllAvoid D ts) (f : Bool) (idle : f ≡ true → is_effect_free init ≡ true) (m : ℕ) (within : (j : ℕ) → Before j m → Before j (count ps)) (calm : AllCalm f init m ps σ) (text : Bool) (fine : AllFine e text m ps σ)
      (d : Bool) (ends : (s : State) → Ending d (means e init (As Val) tt s)) (alike : Alike (σ (count ps)) t u) (inner : (r : Request (σ (count ps))) → Opens (σ (count ps)) r → (s : State) → Go (next (means e init (As Val) tt s) (λ v z. means e t (σ (count ps)) r (after v z))) (means e u (σ (count ps)) r s)) where
    abbrev runs : {A : Type 0} → Tree → Command σ A → State → Completion A
    runs w c y = run e (naming h q [] 0 is) (λ i r z. meaning e (append ps (w ▸ ts)) i (σ i) r z) c y

    abbrev Reached : {A : Type 0} → Command σ A → Type 0
    Reached c = (s : State) → Go (next (means e init (As Val) tt s) (λ v y. runs t c (after v y))) (runs u c s)

    module _ {A : Type 0} (r : Request (σ (count ps))) (opens : Opens (σ (count ps)) r) (c : Ends (Reply (σ (count ps)) r) → Command σ A) (stops : (y : Stop) → May d y → c (ended y) ≡ fails y) (stopped_later : (y : Stop) → Later (count ps) (c (ended y))) (later : (a : Reply (σ (count ps)) r) → Later (count ps) (c (done a))) where
      abbrev goes_on_with : Tree → Reply (σ (count ps)) r → State → Completion A
      goes_on_with w a y = runs w (c (done a)) y

      abbrev ends_with : Tree → Stop → State → Completion A
      ends_with w y z = runs w (c (ended y)) z

      asked_there : (w : Tree) (z : State) → runs w (kid (count ps) r c) z ≡ either (means e w (σ (count ps)) r z) (goes_on_with w) (ends_with w)
      asked_there w z = ap (λ x. either x (goes_on_with w) (ends_with w)) (there_is ps w ts (σ (count ps)) r z)

      hit_here : Reached (kid (count ps) r c)
      hit_here s =
          let v = means e init (As Val) tt s in
          subst₂ Go
          (sym (either_cong v _ _ _ _ (λ p y. asked_there t (after p y)) (λ y p. refl) ∙ joined d v (ends s) (λ p y. means e t (σ (count ps)) r (after p y)) (goes_on_with t) (ends_with t) (λ y n p. ap (λ d. runs t d p) (stops y n))))
          (sym (asked_there u s))
          (goes_either true (λ p. Agree D) (Agree D) (Agree D) (λ p. Agree D) (Agree D) (next v (λ p y. means e t (σ (count ps)) r (after p y))) (means e u (σ (count ps)) r s) _ _ _ _
          (inner r opens s)
          (λ p x y g. later_goes h q is ps t u ts first last alike (c (done p)) (later p) x y g) (λ p x y g. later_goes h q is ps t u ts first last alike (c (ended p)) (stopped_later p) x y g))

    hit_there : {A : Type 0} (j : ℕ) → j ≡ count ps → (r : Request (σ j)) → Opens (σ j) r → (c : Ends (Reply (σ j) r) → Command σ A) → ((y : Stop) → May d y → c (ended y) ≡ fails y) → ((y : Stop) → Later (count ps) (c (ended y))) → ((a : Reply (σ j) r) → Later (count ps) (c (done a))) → Reached (kid j r c)
    hit_there {A} j p =
        subst (λ j. (r : Request (σ j)) → Opens (σ j) r → (c : Ends (Reply (σ j) r) → Command σ A) → ((y : Stop) → May d y → c (ended y) ≡ fails y) → ((y : Stop) → Later (count ps) (c (ended y))) → ((a : Reply (σ j) r) → Later (count ps) (c (done a))) → Reached (kid j r c)) (sym p)
        (λ r o c stops stopped_later later. hit_here r o c stops stopped_later later)

    -- where it isn't asked: the initializer does nothing but give a value, which nothing reads
    gone : {A : Type 0} (c : Command σ A) → is_effect_free init ≡ true → Later (count ps) c → Reached c
    gone c free l s = with_value init s (means e init (As Val) tt s) (quiet_there e init free s) (λ v y. runs t c y) (runs u c s) (λ v known. later_goes h q is ps t u ts first last alike c l (after v s) s (agrees v s))

    pub reach_goes : {A : Type 0} (c : Command σ A) → Reaches text f d m (count ps) c → Reached c
    reach_goes {A} (kid j r c) (inl l) s =
        let F = λ (a : Reply (σ j) r) (y : State). runs t (c (done a)) y in
        let G = λ (a : Reply (σ j) r) (y : State). runs u (c (done a)) y in
        let stopped = λ (x : Stop) (y : State). runs t (c (ended x)) y in
        let others_stopped = λ (x : Stop) (y : State). runs u (c (ended x)) y in
        let b = within j l.0.0 in
        subst₂ Go (either_cong (means e init (As Val) tt s) _ _ _ _ (λ v y. ap (λ x. either x F stopped) (sym (front_is ps t ts j b (σ j) r (after v y)))) (λ x y. refl)) (ap (λ x. either x G others_stopped) (sym (front_is ps u ts j b (σ j) r s)))
        (passed_goes init s (σ j) (front ps σ j) r (calm j l.0.0 r l.0.1) F G stopped others_stopped (λ a y g. reach_goes (c (done a)) (l.1 a (fine j l.0.0 r a y y g)) s))
    reach_goes (kid j r c) (inr (inl l)) s = hit_there j l.here r l.opens c l.stops l.stopped_later l.later s
    reach_goes (kid j r c) (inr (inr l)) s = gone (kid j r c) (idle l.0) l.1 s
    reach_goes (ret a) l s = gone (ret a) (idle l.0) l.1 s
    reach_goes (fails y) l s = gone (fails y) (idle l.0) l.1 s
    reach_goes stuck l s = gone stuck (idle l.0) l.1 s
    reach_goes (op o c) l s = gone (op o c) (idle l.0) l.1 s

  -- ---- the path

  pub all_spared : (x : Name) → x.symbol ≡ Some (record { 0 = k }) → (ts : Trees) → any_names x ts ≡ false → AllAvoid D ts
  all_spared x h ts f = all_avoided x k h ts f

  pub there_before : (ps : Trees) (t : Tree) (ts : Trees) → Before (count ps) (length (facts_all (summaries (append ps (t ▸ ts)))))
  there_before none t ts = tt
  there_before (p ▸ ps) t ts = there_before ps t ts

  module _ (x : Name) (named : x.symbol ≡ Some (record { 0 = k })) (spelling : List ℕ) (init : Tree) (plain : summary (identifier (resolved spelling k)) ≡ summary init) where
    abbrev spot : Tree
    spot = identifier (resolved spelling k)

    -- a member that is read or written without its parts
    settled_later : (i : ℕ) (l : Lead) (v : Bool) → Stands AsTarget l v → (fs : List Facts) (r : TargetRequest) → Settled Target r → Later i {σ = demand (shape_by (head_of l)) fs Target} (step (shape_by (head_of l)) [] fs Target r)
    unfolding step
    settled_later i (Member false) v w fs (Fetch reference) h = fetched_later i (λ i. As Val) reference
    settled_later i (Member false) v w fs (Put reference a) h = stored_later i (λ i. As Val) reference a
    settled_later i (Keyed false) v w fs (Fetch reference) h = fetched_later i (λ i. As Val) reference
    settled_later i (Keyed false) v w fs (Put reference a) h = stored_later i (λ i. As Val) reference a
    settled_later i (Keying false t) v w fs (Fetch reference) h = fetched_later i (λ i. As Val) reference
    settled_later i (Keying false t) v w fs (Put reference a) h = stored_later i (λ i. As Val) reference a
    settled_later i l v w fs Prepare h = absurd h
    settled_later i l v w fs r h = absurd w

    -- whose parts are asked for values
    parts_alike : (l : Lead) (v : Bool) → Stands AsTarget l v → (fs : List Facts) (t u : Tree) → Alike (demand (shape_by (head_of l)) fs Target (count (before l))) t u
    parts_alike (Member false) v w fs t u r h s y g = absurd h
    parts_alike (Keyed false) v w fs t u r h s y g = absurd h
    parts_alike (Keying false a) v w fs t u r h s y g = absurd h
    parts_alike l v w fs t u r h s y g = absurd w

    member_alike : (l : Lead) (ss : List Step) (ts : Trees) → Stands AsTarget l (is_end ss) → AllAvoid D (before l) → AllAvoid D ts → Alike Target (node (shape_by (head_of l)) [] 0 (append (before l) (led ss spot ▸ ts))) (node (shape_by (head_of l)) [] 0 (append (before l) (led ss init ▸ ts)))
    member_alike l ss ts w a b r h s y g =
        let shape = shape_by (head_of l) in
        let kids = λ (t : Tree). append (before l) (led ss t ▸ ts) in
        let is = summaries (kids spot) in
        let put : means e (node shape [] 0 (kids init)) Target r y ≡ by_summaries shape Target r is (kids init) y = node_is shape Target r (kids init) y ∙ ap (λ i. by_summaries shape Target r i (kids init) y) (sym (summaries_led (record { lead = l; rest = ts; is_short = false }) ss spot init plain)) in
        subst₂ Go (sym (node_is shape Target r (kids spot) s)) (sym put)
        (later_goes shape Target is (before l) (led ss spot) (led ss init) ts a b (parts_alike l (is_end ss) w (facts_all is) (led ss spot) (led ss init)) (step shape [] (facts_all is) Target r) (settled_later (count (before l)) l (is_end ss) w (facts_all is) r h) s y g)

    pub settled_goes : (c : Asked) (ss : List Step) → Well c ss → Spared x ss → (q : Demand) (b : End) → Suits c q b → Alike q (led ss spot) (led ss init)
    settled_goes AsTarget (l ∷ ss) w f Target b u = member_alike l.lead ss l.rest w.0 (all_spared x named (before l.lead) f.0.0) (all_spared x named l.rest f.0.1)
    settled_goes AsUpdated (l ∷ ss) w f Target b u = member_alike l.lead ss l.rest (target_stands l.lead (is_end ss) w.0) (all_spared x named (before l.lead) f.0.0) (all_spared x named l.rest f.0.1)
    settled_goes AsTarget [] w f q b u = absurd w
    settled_goes AsUpdated [] w f q b u = absurd w
    settled_goes AsValue ss w f (As v) b u = λ r h s y g. absurd h
    settled_goes AsValue ss w f AnEntry b u = λ r h s y g. absurd h
    settled_goes AsValue ss w f Callee b u = λ r h s y g. absurd h
    settled_goes AsValue ss w f OfType b u = λ r h s y g. absurd h
    settled_goes AsValues ss w f (Parts v) b u = λ r h s y g. absurd h
    settled_goes AsValues ss w f Items b u = λ r h s y g. absurd h
    settled_goes AsValues ss w f Texts b u = λ r h s y g. absurd h
    settled_goes AsWholeItem ss w f (Stat None) b u = λ r h s y g. absurd h
    settled_goes c ss w f q b u = absurd u

  module _ (x : Name) (named : x.symbol ≡ Some (record { 0 = k })) (spelling : List ℕ) (init : Tree) (plain : summary (identifier (resolved spelling k)) ≡ summary init) (item : is_item init ≡ true) (varies : is_constant init ≡ false) where
    abbrev read : Tree
    read = identifier (resolved spelling k)

    fetches_by : (b c : Bool) → (not b && c) ≡ true → (b ≡ false) × (c ≡ true)
    fetches_by true c e = absurd (true≢false (sym e))
    fetches_by false c e = (refl, e)

    fetches : (l : Lead) → Fetches (fetching l (is_effect_free init)) init varies l
    fetches (Storing o a) = λ m. fetches_by (is_plain_assignment o) (is_effect_free init) m
    fetches l = tt

    pub first_goes : (m : Gathered) (c : Asked) (ss : List Step) → Well c ss → Spared x ss → PassedIn m init spelling ss → (q : Demand) → Suits c q (end_of spelling init ss) → Gathers m q → (r : Request q) → Opens q r → (s : State) → Go (next (means e init (As Val) tt s) (λ v t. means e (led ss read) q r (after v t))) (means e (led ss init) q r s)
    first_goes m AsValue [] w f p (As v) u n r o s = read_goes spelling init v s
    first_goes m AsValue [] w f p AnEntry u n r o s = entry_goes spelling init item s
    first_goes m AsValue [] w f p Callee u n r o s = callee_goes spelling init u s
    first_goes m AsValue [] w f p OfType u n r o s = type_goes spelling init u s
    first_goes m AsValue [] w f p q u n r o s = absurd u
    first_goes m c [] w f p q u n r o s = absurd w
    first_goes m c (s ∷ ss) w f p q u n r o z =
        let h = shape_by (head_of s.lead) in
        let ps = before s.lead in
        let kids = λ (t : Tree). append ps (led ss t ▸ s.rest) in
        let is = summaries (kids read) in
        let σ = demand h (facts_all is) q in
        let g = fetching s.lead (is_effect_free init) in
        let a = asks g (is_calm init) m c s.lead (is_end ss) w.0 (end_of spelling init ss) p.0.2 (whole_chains init s.lead p.0.3) (facts_all is) (there_before ps (led ss read) s.rest) q u n r o in
        let sure = varied g init varies (surely m (is_effect_free init) s.lead) p.0.1 in
        let first = all_spared x named ps f.0.0 in
        let last = all_spared x named s.rest f.0.1 in
        let there = λ (y : State). node_is h q r (kids read) y in
        let put : means e (led (s ∷ ss) init) q r z ≡ by_summaries h q r is (kids init) z = node_is h q r (kids init) z ∙ ap (λ i. by_summaries h q r i (kids init) z) (sym (summaries_led s ss read init plain)) in
        subst₂ Go (sym (either_cong (means e init (As Val) tt z) _ _ _ _ (λ v y. there (after v y)) (λ y p. refl))) (sym put)
        (reach_goes h q is σ ps (led ss read) (led ss init) s.rest init first last g (fetching_free (is_effect_free init) s.lead) (count (earlier s.lead)) (earlier_within s.lead) (calm_before g init varies m s.lead (fetches s.lead) p.0.0 first (facts_all is) q n a.first) (texts_in m s.lead) (fine_before g init varies m s.lead p.0.0 (facts_all is) q n) (is_calm init) (λ s'. init_ends e init s') (settled_goes x named spelling init plain (asked_below (head_of s.lead) c (place 0 ps)) ss w.1 f.1 (σ (count ps)) (end_of spelling init ss) a.below)
        (λ r' o' s'. first_goes (gathered_below m h (place 0 ps)) (asked_below (head_of s.lead) c (place 0 ps)) ss w.1 f.1 p.1 (σ (count ps)) a.below (gathered_there m c s.lead (is_end ss) w.0 (facts_all is) q u n (end_of spelling init ss) a.below) r' o' s') (step h [] (facts_all is) q r) (a.reaches (fetching_sure m (is_effect_free init) s.lead sure)) z)
