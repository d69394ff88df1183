-- A tree in which no `break` without a label ends what is around it never ends with one.
use Rattle.std.specs.Prelude.{ℕ, zero, suc, Bool, true, false, not, ◌||◌, ◌&&◌, List, [], ◌∷◌, length, Option, Some, None}
use Rattle.std.proofs.Common.{◌+◌, ◌≡◌, refl, sym, subst, arith, true≢false}
use Rattle.mini_laws.proofs.Runs.{name_reads, name_writes, type_reads}
use Rattle.mini_model.specs.declared.kind.VariableDeclarationKind.{VariableDeclarationKind}
use Rattle.mini_model.specs.declared.kind.VariableDeclarationKind.TheVariants.{Var, Let}
use Rattle.mini_model.specs.declared.kind.PropertyKind.{PropertyKind}
use Rattle.mini_model.specs.declared.name.Name.{Name}
use Rattle.mini_model.specs.declared.operator.AssignmentOperator.{AssignmentOperator}
use Rattle.mini_model.specs.declared.operator.BinaryOperator.{BinaryOperator}
use Rattle.mini_model.specs.declared.operator.BinaryOperator.TheVariants as binary
use Rattle.mini_model.specs.declared.operator.LogicalOperator.{LogicalOperator}
use Rattle.mini_model.specs.declared.operator.LogicalOperator.TheVariants.{Or, And, Coalesce}
use Rattle.mini_model.specs.declared.operator.UnaryOperator.{UnaryOperator}
use Rattle.mini_model.specs.declared.operator.UnaryOperator.TheVariants as unary
use Rattle.mini_model.specs.declared.operator.UpdateOperator.{UpdateOperator}
use Rattle.mini_model.specs.declared.shape.Shape.{Shape}
use Rattle.mini_model.specs.declared.shape.Shape.TheVariants as shape
use Rattle.mini_model.specs.Tree.{Tree, Trees, node, none, ◌▸◌}
use Rattle.mini_model.specs.Weight.{same_text}
use Rattle.mini_laws.specs.Value.{Value, Undefined, Boolean, Variable, Slot, Holds, Missing, Uninitialised, choose, truth, is_nullish, variables, nth}
use Rattle.mini_laws.specs.Conversion.{Made, makes, raises, outside, to_number, to_text, known_member}
use Rattle.mini_laws.specs.Operators.{loosely_equal, of_numbers, of_primitives, of_number, safe_number}
use Rattle.mini_laws.specs.State as state
use Rattle.mini_laws.specs.State.{Label, Given, Normal, Throws, Finished, Returning, Shortens, Hint, ForString, ForNumber, ForDefault, Carries, Answer, Entry, Item, State, Stop, Thrown, Returned, Broken, Continued, Short, Completion, ok, stop, halt, out, Ends, done, ended, either, Environment}
use Rattle.mini_laws.specs.Demand.{Want, Val, Test, Unused, Tail, LoopTail, FunctionTail, Demand, As, Callee, OfType, Deleted, Target, AnEntry, Items, Parts, Texts, Stat, Declares, Binds, Heads, ClassValue, Cases, ACase, Catches, AskTest, AskBody, LabelSet, Reference, AMember, AFetched, AValue, Prepare, Fetch, Put, Called, Request, Reply, Says}
use Rattle.mini_laws.specs.Command.{Naming, Op, read, read_typeof, fixity, write, init, init_function, hide, copy, event, bind_names, self, turn, fuel, Gets, Command, ret, fails, stuck, op, kid, then, attempt, bind, shift, repeat, loop, emit, emit_mine, is_object, act, Kids, run, Heard, hears, breaks, nonsense, hear, hear_value, only_object, only_primitive, only_boolean, boolean_value, heard, answered, bound_if, answered_binds, read_slot, read_global, read_name, read_any, read_type, write_slot, write_global, write_name, at_variable, this_of, take_turn}
use Rattle.mini_laws.specs.Naming.{NameKind, has_kind, PlainName, EvalName, UndefinedName, NumberName, Declared, Variables, AClass, FunctionFact, Named, NamedDefault, BareDefault, Facts, function_facts, first_facts, nth_absent, texts_all, kinds, summaries, facts, naming}
use Rattle.mini_laws.specs.Asking.{pass, first_demand, parts_demand, tail_demand, do_demand, for_demand, each_demand, demand, chained}
use Rattle.mini_laws.specs.Replies as reply
use Rattle.mini_laws.specs.Replies.{valued, passed, passing, as_ended, merged, statement, of_made, of_option, primitive, numeric, hint_of, is_of_primitives, operate, loosely, or_event, get_member, put_member, by_fixity, put_own}
use Rattle.mini_laws.specs.Expressions.{get_identifier, type_identifier, first_kind, delete_of, number_step, unary_step, operate_by, binary_step, logical_step, conditional_step, sequence_step, call_event, call_step, new_step, member_step, got, called_member, chain_end, chain_value, chain_step, array_step, object_step, property_key, property_step, template_step, yield_step}
use Rattle.mini_laws.specs.Targets.{put_identifier, identifier_step, fetched, stored, as_member, carried, carried_target, private_member, super_member, chained_carries, pattern_target, AssignmentKind, Plainly, Computing, Deciding, assignment_kind, assigns, put_target, after_read, assign_by, assignment_step, update_step, changed}
use Rattle.mini_laws.specs.Lists.{entries, spread_step, parts, sequence, template_texts, each, declarators, the_declarator, the_head, is_case, test_cases, default_case, or_default, case_bodies, enter_case, cases, list_step}
use Rattle.mini_laws.specs.Statements.{scoped, create_function, create_functions, body_step, block_step, block_in, if_step, if_in, unbroken, switch_step, case_step, label_of, continue_step, return_step, throw_step, unlabelled, labelled, label_step, finalized, handled, try_step, catch_in}
use Rattle.mini_laws.specs.Loops.{has_label, after_body, while_step, do_step, copied, for_test, for_turn, for_turns, for_head, for_step, give_left, begin_left, each_turn, turn_of as turn_in, on_next, next_of, keys_in, for_in_step, closing, values_of, for_of_step}
use Rattle.mini_laws.specs.Declarations.{binding_name, binding_pattern, declaration_step, gives_by, var_by, declarator_step, class_step, class_declaration, exported, export_value, default_step}
use Rattle.mini_laws.specs.Step.{absent_step, entry, step, means, meaning}
use Rattle.mini_laws.specs.Early.{jump_of, label_in, turn_of}
use Rattle.mini_rows.specs.Cases.{lets_out, is_bare, breaks_out, any_breaks_out, NeverBreaksOut}

-- ---- ends that are no `break` without a label

abbrev pub NotBroken : Stop → Type 0
NotBroken (Broken None) = ⊥
NotBroken x = Unit {0}

-- an end of a child: where its `break` would end what is around, it is none
abbrev Ended : Bool → Stop → Type 0
Ended true x = NotBroken x
Ended false x = Unit {0}

abbrev pub Unbroken : {A : Type 0} → Completion A → Type 0
Unbroken (ok a s) = Unit {0}
Unbroken (stop x s) = NotBroken x
Unbroken (halt x s) = Unit {0}
Unbroken out = Unit {0}

-- a command that ends with none where its children do
unfoldable Tame : {q : ℕ → Demand} {A : Type 0} → (ℕ → Bool) → Command q A → Type 0
Tame σ (ret a) = Unit {0}
Tame σ (fails x) = NotBroken x
Tame σ stuck = Unit {0}
Tame σ (op o k) = ((a : Gets o) → Tame σ (k (done a))) × ((x : Stop) → NotBroken x → Tame σ (k (ended x)))
Tame {q} σ (kid i r k) = ((a : Reply (q i) r) → Tame σ (k (done a))) × ((x : Stop) → Ended (σ i) x → Tame σ (k (ended x)))

abbrev every : ℕ → Bool
every i = true

-- ---- commands of commands

tame_bind : {q : ℕ → Demand} {A B : Type 0} (σ : ℕ → Bool) (c : Command q A) (f : A → Command q B) → Tame σ c → ((a : A) → Tame σ (f a)) → Tame σ (bind c f)
unfolding Tame
tame_bind σ (ret a) f h g = g a
tame_bind σ (fails x) f h g = h
tame_bind σ stuck f h g = tt
tame_bind σ (op o k) f h g = ((λ a. tame_bind σ (k (done a)) f (h.0 a) g), (λ x n. tame_bind σ (k (ended x)) f (h.1 x n) g))
tame_bind σ (kid i r k) f h g = ((λ a. tame_bind σ (k (done a)) f (h.0 a) g), (λ x n. tame_bind σ (k (ended x)) f (h.1 x n) g))

tame_attempt : {q : ℕ → Demand} {A B : Type 0} (σ : ℕ → Bool) (c : Command q A) (f : Ends A → Command q B) → Tame σ c → ((a : A) → Tame σ (f (done a))) → ((x : Stop) → NotBroken x → Tame σ (f (ended x))) → Tame σ (attempt c f)
unfolding Tame
tame_attempt σ (ret a) f h g k = g a
tame_attempt σ (fails x) f h g k = k x h
tame_attempt σ stuck f h g k = tt
tame_attempt σ (op o c) f h g k = ((λ a. tame_attempt σ (c (done a)) f (h.0 a) g k), (λ x n. tame_attempt σ (c (ended x)) f (h.1 x n) g k))
tame_attempt σ (kid i r c) f h g k = ((λ a. tame_attempt σ (c (done a)) f (h.0 a) g k), (λ x n. tame_attempt σ (c (ended x)) f (h.1 x n) g k))

tame_choose : {q : ℕ → Demand} {A : Type 0} (σ : ℕ → Bool) (b : Bool) (c d : Command q A) → Tame σ c → Tame σ d → Tame σ (choose b c d)
unfolding Tame
tame_choose σ true c d h k = h
tame_choose σ false c d h k = k

tame_shift : {A : Type 0} (q : ℕ → Demand) (σ : ℕ → Bool) (c : Command (λ i. q (suc i)) A) → Tame (λ i. σ (suc i)) c → Tame σ (shift {q = q} c)
unfolding Tame
tame_shift q σ (ret a) h = tt
tame_shift q σ (fails x) h = h
tame_shift q σ stuck h = tt
tame_shift q σ (op o k) h = ((λ a. tame_shift q σ (k (done a)) (h.0 a)), (λ x n. tame_shift q σ (k (ended x)) (h.1 x n)))
tame_shift q σ (kid i r k) h = ((λ a. tame_shift q σ (k (done a)) (h.0 a)), (λ x n. tame_shift q σ (k (ended x)) (h.1 x n)))

tame_repeat : {q : ℕ → Demand} (σ : ℕ → Bool) (n : ℕ) (c : Command q Bool) → Tame σ c → Tame σ (repeat n c)
unfolding Tame
tame_repeat σ zero c h = tt
tame_repeat σ (suc n) c h = tame_bind σ c (λ b. choose b (repeat n c) (ret tt)) h (λ b. tame_choose σ b (repeat n c) (ret tt) (tame_repeat σ n c h) tt)

tame_loop : {q : ℕ → Demand} (σ : ℕ → Bool) (c : Command q Bool) → Tame σ c → Tame σ (loop c)
unfolding Tame
tame_loop σ c h = ((λ n. tame_repeat σ (suc n) (op turn (then (λ u. c))) ((λ u. h), (λ x n. n))), (λ x n. n))

-- ---- what several shapes do

module _ (q : ℕ → Demand) (σ : ℕ → Bool) where
  tame_made : {A : Type 0} (m : Made A) → Tame {q = q} σ (of_made m)
  unfolding Tame
  tame_made (makes a) = tt
  tame_made raises = ((λ v. tt), (λ x n. n))
  tame_made outside = tt

  tame_option : {A : Type 0} (o : Option A) → Tame {q = q} σ (of_option o)
  unfolding Tame
  tame_option (Some a) = tt
  tame_option None = tt

  tame_primitive : (h : Hint) (v : Value) → Tame {q = q} σ (primitive h v)
  unfolding Tame
  tame_primitive h v = tame_choose σ (is_object v) _ _ ((λ a. tt), (λ x n. n)) tt

  tame_numeric : (v : Value) → Tame {q = q} σ (numeric v)
  unfolding Tame
  tame_numeric v = tame_bind σ (primitive ForNumber v) _ (tame_primitive ForNumber v) (λ x. tame_made (to_number x))

  tame_operate : (o : BinaryOperator) (a b : Value) → Tame {q = q} σ (operate o a b)
  unfolding Tame
  tame_operate o a b =
      tame_choose σ (is_of_primitives o) _ _
      (tame_bind σ (primitive (hint_of o) a) _ (tame_primitive (hint_of o) a) (λ x. tame_bind σ (primitive (hint_of o) b) _ (tame_primitive (hint_of o) b) (λ y. tame_made (of_primitives o x y))))
      (tame_bind σ (numeric a) _ (tame_numeric a) (λ m. tame_bind σ (numeric b) _ (tame_numeric b) (λ n. tame_made (of_numbers o m n))))

  tame_loosely : (a b : Value) → Tame {q = q} σ (loosely a b)
  unfolding Tame
  tame_loosely a b =
      tame_choose σ (is_nullish a) _ _ tt (tame_choose σ (is_nullish b) _ _ tt (tame_choose σ (is_object a && is_object b) _ _ tt
      (tame_bind σ (primitive ForDefault a) _ (tame_primitive ForDefault a) (λ x. tame_bind σ (primitive ForDefault b) _ (tame_primitive ForDefault b) (λ y. tame_option (loosely_equal x y))))))

  tame_or_event : (o : Option Value) (c : Command q Value) → Tame σ c → Tame σ (or_event o c)
  unfolding Tame
  tame_or_event (Some v) c h = tt
  tame_or_event None c h = h

  tame_get_member : (a k : Value) → Tame {q = q} σ (get_member a k)
  unfolding Tame
  tame_get_member a k = tame_choose σ (is_nullish a) _ _ ((λ v. tt), (λ x n. n)) (tame_or_event (known_member a k) _ ((λ v. tt), (λ x n. n)))

  tame_put_member : (a : Value) (k : Entry) (v : Value) → Tame {q = q} σ (put_member a k v)
  unfolding Tame
  tame_put_member a k v = tame_choose σ (is_nullish a) _ _ ((λ v. tt), (λ x n. n)) ((λ v. tt), (λ x n. n))

  tame_fixity : (v : Value) (f : state.Writing) → Tame {q = q} σ (by_fixity v f)
  unfolding Tame
  tame_fixity v state.Writes = ((λ u. tt), (λ x n. n))
  tame_fixity v state.WritesPresent = ((λ old. ((λ u. tt), (λ x n. n))), (λ x n. n))
  tame_fixity v state.Refuses = ((λ u. tt), (λ x n. n))
  tame_fixity v state.Keeps = tt

  tame_put_own : (v : Value) → Tame {q = q} σ (put_own v)
  unfolding Tame
  tame_put_own v = ((λ f. tame_fixity v f), (λ x n. n))

  -- ---- how a node is asked

  tame_valued : (d : Demand) (r : Request d) (c : Command q Value) → Tame σ c → Tame σ (valued d r c)
  unfolding Tame
  tame_valued (As w) r c h = tame_bind σ c (reply.reply (As w) r) h (λ v. tt)
  tame_valued Callee r c h = tame_bind σ c (reply.reply Callee r) h (λ v. tt)
  tame_valued OfType r c h = tame_bind σ c (reply.reply OfType r) h (λ v. tt)
  tame_valued Deleted r c h = tame_bind σ c (reply.reply Deleted r) h (λ v. tt)
  tame_valued AnEntry r c h = tame_bind σ c (reply.reply AnEntry r) h (λ v. tt)
  tame_valued d r c h = tt

  tame_passing : (d : Demand) (r : Request d) (c : Command q (Says (pass d))) → Tame σ c → Tame σ (passing d r c)
  unfolding Tame
  tame_passing (As w) r c h = tame_bind σ c (passed (As w) r) h (λ v. tt)
  tame_passing Callee r c h = tame_bind σ c (passed Callee r) h (λ v. tt)
  tame_passing OfType r c h = tame_bind σ c (passed OfType r) h (λ v. tt)
  tame_passing Deleted r c h = tame_bind σ c (passed Deleted r) h (λ v. tt)
  tame_passing AnEntry r c h = tame_bind σ c (passed AnEntry r) h (λ v. tt)
  tame_passing d r c h = tt

  tame_entry : (d : Demand) (r : Request d) (c : Command q Entry) → Tame σ c → Tame σ (entry d r c)
  unfolding Tame
  tame_entry AnEntry r c h = tame_bind σ c ret h (λ v. tt)
  tame_entry d r c h = tt

  tame_merged : (t : Option Tail) (x : Stop) → NotBroken x → Tame {q = q} σ (merged t (ended x))
  unfolding Tame
  tame_merged (Some LoopTail) (Continued None) n = tt
  tame_merged (Some FunctionTail) (Returned Undefined) n = tt
  tame_merged t x n = n

  tame_statement : (d : Demand) (r : Request d) (c : LabelSet → Command q (Unit {0})) → ((labels : LabelSet) → Tame σ (c labels)) → Tame σ (statement d r c)
  unfolding Tame
  tame_statement (Stat t) r c h = tame_attempt σ (c r) (merged t) (h r) (λ a. tt) (λ x n. tame_merged t x n)
  tame_statement d r c h = tt

  -- ---- names, members and carried nodes

  tame_get : (k : NameKind) → Tame {q = q} σ (get_identifier k)
  unfolding Tame
  tame_get UndefinedName = tt
  tame_get NumberName = tt
  tame_get PlainName = ((λ v. tt), (λ x n. n))
  tame_get EvalName = ((λ v. tt), (λ x n. n))

  tame_type : (k : NameKind) → Tame {q = q} σ (type_identifier k)
  unfolding Tame
  tame_type PlainName = ((λ v. tt), (λ x n. n))
  tame_type EvalName = ((λ v. tt), (λ x n. n))
  tame_type UndefinedName = tt
  tame_type NumberName = tt

  tame_put_identifier : (k : NameKind) (v : Value) → Tame {q = q} σ (put_identifier k v)
  unfolding Tame
  tame_put_identifier UndefinedName v = tt
  tame_put_identifier NumberName v = tt
  tame_put_identifier PlainName v = tame_put_own v
  tame_put_identifier EvalName v = tame_put_own v

  tame_identifier : (k : NameKind) (d : Demand) (r : Request d) → Tame {q = q} σ (identifier_step k d r)
  unfolding Tame
  tame_identifier k Callee r = tame_bind σ (get_identifier k) _ (tame_get k) (λ v. tt)
  tame_identifier k OfType r = tame_bind σ (type_identifier k) ret (tame_type k) (λ v. tt)
  tame_identifier k Deleted r = tt
  tame_identifier k Target Prepare = tt
  tame_identifier k Target (Fetch reference) = tame_get k
  tame_identifier k Target (Put reference v) = tame_put_identifier k v
  tame_identifier k d r = tame_valued d r (get_identifier k) (tame_get k)

  tame_fetched : (f : Reference) → Tame {q = q} σ (fetched f)
  unfolding Tame
  tame_fetched (AMember a k) = tame_get_member a k
  tame_fetched f = tt

  tame_stored : (f : Reference) (v : Value) → Tame {q = q} σ (stored f v)
  unfolding Tame
  tame_stored (AMember a k) v = tame_put_member a (Item k) v
  tame_stored (AFetched a k) v = tame_put_member a (choose (is_object k) (state.Converted k) (Item k)) v
  tame_stored f v = tt

  tame_got : (f : Reference) → Tame {q = q} σ (got f)
  unfolding Tame
  tame_got (AMember a k) = tame_get_member a k
  tame_got f = tt

  tame_called : (f : Reference) → Tame {q = q} σ (called_member f)
  unfolding Tame
  tame_called (AMember a k) = tame_bind σ (get_member a k) _ (tame_get_member a k) (λ v. tt)
  tame_called f = tt

  tame_member : (c : Command q Reference) → Tame σ c → (d : Demand) (r : Request d) → Tame σ (as_member c d r)
  unfolding Tame
  tame_member c h Deleted r = h
  tame_member c h Target Prepare = h
  tame_member c h Target (Fetch reference) = tame_fetched reference
  tame_member c h Target (Put reference v) = tame_stored reference v
  tame_member c h Callee r = tame_bind σ c called_member h tame_called
  tame_member c h d r = tame_valued d r (bind c got) (tame_bind σ c got h tame_got)

  tame_carried : (what : Carries) (d : Demand) (r : Request d) → Tame {q = q} σ (carried what d r)
  unfolding Tame
  tame_carried what d r = tame_valued d r (emit_mine (state.NodeOf what) []) ((λ v. tt), (λ x n. n))

  tame_carried_target : (what : Carries) (d : Demand) (r : Request d) → Tame {q = q} σ (carried_target what d r)
  unfolding Tame
  tame_carried_target what Deleted r = tt
  tame_carried_target what Target Prepare = ((λ v. tt), (λ x n. n))
  tame_carried_target what Target (Fetch reference) = ((λ v. tt), (λ x n. n))
  tame_carried_target what Target (Put reference v) = ((λ v. tt), (λ x n. n))
  tame_carried_target what d r = tame_carried what d r

  tame_private : (what : Carries) (d : Demand) (r : Request d) → Tame {q = q} σ (private_member what d r)
  unfolding Tame
  tame_private what Callee r = ((λ v. ((λ u. tt), (λ x n. n))), (λ x n. n))
  tame_private what d r = tame_carried_target what d r

  tame_super : (d : Demand) (r : Request d) → Tame {q = q} σ (super_member d r)
  unfolding Tame
  tame_super Callee r = ((λ v. ((λ u. tt), (λ x n. n))), (λ x n. n))
  tame_super Deleted r = ((λ v. ((λ u. tt), (λ x n. n))), (λ x n. n))
  tame_super d r = tame_carried_target state.Anything d r

  tame_pattern_target : (d : Demand) (r : Request d) → Tame {q = q} σ (pattern_target d r)
  unfolding Tame
  tame_pattern_target Target Prepare = tt
  tame_pattern_target Target (Put reference v) = ((λ v. tt), (λ x n. n))
  tame_pattern_target d r = tt

  -- ---- scopes

  tame_scoped : {A : Type 0} (c : Command q A) → Tame σ c → Tame σ (scoped c)
  unfolding Tame
  tame_scoped c h = ((λ u. tame_attempt σ c (λ e. op hide (then (λ u. as_ended e))) h (λ a. ((λ u. tt), (λ x n. n))) (λ x n. ((λ u. n), (λ y m. m)))), (λ x n. n))

  tame_create : (b : Bool) (f : FunctionFact) (i : ℕ) → Tame {q = q} σ (create_function b f i)
  unfolding Tame
  tame_create b Named i = ((λ v. ((λ u. tt), (λ x n. n))), (λ x n. n))
  tame_create b NamedDefault i = ((λ v. ((λ u. ((λ w. tt), (λ x n. n))), (λ x n. n))), (λ x n. n))
  tame_create b BareDefault i = ((λ v. ((λ w. tt), (λ x n. n))), (λ x n. n))

  tame_creates : (b : Bool) (fs : List FunctionFact) (i : ℕ) → Tame {q = q} σ (create_functions b fs i)
  unfolding Tame
  tame_creates b [] i = tt
  tame_creates b (f ∷ fs) i = tame_bind σ (create_function b f i) _ (tame_create b f i) (λ u. tame_creates b fs (suc i))

  tame_after : (labels : LabelSet) (x : Stop) → Tame {q = q} σ (after_body labels (ended x))
  unfolding Tame
  tame_after labels (Broken None) = tt
  tame_after labels (Continued None) = tt
  tame_after labels (Continued (Some l)) = tame_choose σ (has_label labels l) _ _ tt tt
  tame_after labels (Broken (Some l)) = tt
  tame_after labels (Thrown v) = tt
  tame_after labels (Returned v) = tt
  tame_after labels Short = tt

-- ---- expressions

tame_delete : (f : Reference) → Tame {q = λ i. Deleted} every (delete_of f)
unfolding Tame
tame_delete (AMember a k) = tame_choose every (is_nullish a) _ _ ((λ v. tt), (λ x n. n)) ((λ v. tt), (λ x n. n))
tame_delete (AValue v) = tt
tame_delete f = tt

tame_number : (o : UnaryOperator) → Tame every (number_step o)
unfolding Tame
tame_number o = ((λ v. tame_bind every (numeric v) _ (tame_numeric _ every v) (λ n. tame_made _ every (of_number o n))), (λ x n. n))

tame_unary : (o : UnaryOperator) → Tame every (unary_step o)
unfolding Tame
tame_unary unary.LogicalNot = ((λ v. tt), (λ x n. n))
tame_unary unary.Typeof = ((λ v. tt), (λ x n. n))
tame_unary unary.Delete = ((λ f. tame_delete f), (λ x n. n))
tame_unary unary.Void = ((λ v. tt), (λ x n. n))
tame_unary unary.UnaryPlus = tame_number unary.UnaryPlus
tame_unary unary.UnaryNegation = tame_number unary.UnaryNegation
tame_unary unary.BitwiseNot = tame_number unary.BitwiseNot

tame_operates : (q : ℕ → Demand) (o : BinaryOperator) (a b : Value) → Tame {q = q} every (operate_by o a b)
unfolding Tame
tame_operates q binary.Equality a b = tame_bind every (loosely a b) _ (tame_loosely _ every a b) (λ c. tt)
tame_operates q binary.Inequality a b = tame_bind every (loosely a b) _ (tame_loosely _ every a b) (λ c. tt)
tame_operates q binary.StrictEquality a b = tt
tame_operates q binary.StrictInequality a b = tt
tame_operates q binary.In a b = tame_choose every (is_object b) _ _ ((λ v. tt), (λ x n. n)) ((λ v. tt), (λ x n. n))
tame_operates q binary.Instanceof a b = tame_choose every (is_object b) _ _ ((λ v. tt), (λ x n. n)) ((λ v. tt), (λ x n. n))
tame_operates q o a b = tame_operate _ every o a b

tame_binary : (o : BinaryOperator) → Tame every (binary_step o)
unfolding Tame
tame_binary o = ((λ a. ((λ b. tame_operates _ o a b), (λ x n. n))), (λ x n. n))

tame_logical : (o : LogicalOperator) (w : Want) → Tame every (logical_step o w)
unfolding Tame
tame_logical And Val = ((λ v. tame_choose every (truth v) _ _ ((λ u. tt), (λ x n. n)) tt), (λ x n. n))
tame_logical And Test = ((λ b. tame_choose every b _ _ ((λ u. tt), (λ x n. n)) tt), (λ x n. n))
tame_logical And Unused = ((λ b. tame_choose every b _ _ ((λ u. tt), (λ x n. n)) tt), (λ x n. n))
tame_logical Or Val = ((λ v. tame_choose every (truth v) _ _ tt ((λ u. tt), (λ x n. n))), (λ x n. n))
tame_logical Or Test = ((λ b. tame_choose every b _ _ tt ((λ u. tt), (λ x n. n))), (λ x n. n))
tame_logical Or Unused = ((λ b. tame_choose every b _ _ tt ((λ u. tt), (λ x n. n))), (λ x n. n))
tame_logical Coalesce w = ((λ v. tame_choose every (is_nullish v) _ _ ((λ u. tt), (λ x n. n)) tt), (λ x n. n))

tame_conditional : (w : Want) → Tame every (conditional_step w)
unfolding Tame
tame_conditional w = ((λ b. tame_choose every b _ _ ((λ u. tt), (λ x n. n)) ((λ u. tt), (λ x n. n))), (λ x n. n))

tame_call_event : (q : ℕ → Demand) (b : Bool) (f : Called) (vs : List Entry) → Tame {q = q} every (call_event b f vs)
unfolding Tame
tame_call_event q b f vs = tame_choose every (f.direct && not b) _ _ ((λ v. tt), (λ x n. n)) ((λ v. tt), (λ x n. n))

tame_call : (b : Bool) → Tame every (call_step b)
unfolding Tame
tame_call b = ((λ f. tame_choose every (b && is_nullish f.value) _ _ tt ((λ vs. tame_call_event _ b f vs), (λ x n. n))), (λ x n. n))

tame_new : Tame every new_step
unfolding Tame
tame_new = ((λ f. ((λ vs. ((λ v. tt), (λ x n. n))), (λ x n. n))), (λ x n. n))

tame_member_step : (b : Bool) → Tame every (member_step b)
unfolding Tame
tame_member_step b = ((λ a. tame_choose every (b && is_nullish a) _ _ tt ((λ k. tt), (λ x n. n))), (λ x n. n))

tame_chain_end : (q : ℕ → Demand) (w : Want) (x : Stop) → NotBroken x → Tame {q = q} every (chain_end (As w) tt (ended x))
unfolding Tame
tame_chain_end q w Short n = tt
tame_chain_end q w (Thrown v) n = tt
tame_chain_end q w (Returned v) n = tt
tame_chain_end q w (Broken l) n = n
tame_chain_end q w (Continued l) n = tt

tame_chain_callee : (q : ℕ → Demand) (x : Stop) → NotBroken x → Tame {q = q} every (chain_end Callee tt (ended x))
unfolding Tame
tame_chain_callee q Short n = tt
tame_chain_callee q (Thrown v) n = tt
tame_chain_callee q (Returned v) n = tt
tame_chain_callee q (Broken l) n = n
tame_chain_callee q (Continued l) n = tt

tame_chain_deleted : (q : ℕ → Demand) (x : Stop) → NotBroken x → Tame {q = q} every (chain_end Deleted tt (ended x))
unfolding Tame
tame_chain_deleted q Short n = tt
tame_chain_deleted q (Thrown v) n = tt
tame_chain_deleted q (Returned v) n = tt
tame_chain_deleted q (Broken l) n = n
tame_chain_deleted q (Continued l) n = tt

tame_chain_value : (q : ℕ → Demand) (x : Stop) → NotBroken x → Tame {q = q} every (chain_value (ended x))
unfolding Tame
tame_chain_value q Short n = tt
tame_chain_value q (Thrown v) n = tt
tame_chain_value q (Returned v) n = tt
tame_chain_value q (Broken l) n = n
tame_chain_value q (Continued l) n = tt

tame_chain : (d : Demand) (r : Request d) → Tame every (chain_step d r)
unfolding Tame
tame_chain (As w) r = ((λ a. tt), (λ x n. tame_chain_end _ w x n))
tame_chain Callee r = ((λ a. tt), (λ x n. tame_chain_callee _ x n))
tame_chain Deleted r = ((λ a. tt), (λ x n. tame_chain_deleted _ x n))
tame_chain OfType r = ((λ a. tt), (λ x n. tame_bind {q = λ i. chained OfType} every (chain_value (ended x)) (reply.reply OfType r) (tame_chain_value (λ i. chained OfType) x n) (λ v. tt)))
tame_chain AnEntry r = ((λ a. tt), (λ x n. tame_bind {q = λ i. chained AnEntry} every (chain_value (ended x)) (reply.reply AnEntry r) (tame_chain_value (λ i. chained AnEntry) x n) (λ v. tt)))
tame_chain d r = tt

tame_property_key : (q : ℕ → Demand) (b : Bool) (v : Value) → Tame {q = q} every (property_key b v)
unfolding Tame
tame_property_key q true v = tame_bind every (primitive ForString v) _ (tame_primitive _ every ForString v) (λ k. tt)
tame_property_key q false v = tt

tame_property : (k : PropertyKind) (a b c : Bool) → Tame every (property_step k a b c)
unfolding Tame
tame_property k a b c = ((λ v. tame_bind every (property_key c v) _ (tame_property_key _ c v) (λ u. ((λ w. tt), (λ x n. n)))), (λ x n. n))

tame_put : (f : Reference) (v : Value) → Tame every (put_target f v)
unfolding Tame
tame_put f v = ((λ u. tt), (λ x n. n))

tame_assign : (k : AssignmentKind) (f : Reference) → Tame every (assign_by k f)
unfolding Tame
tame_assign Plainly f = ((λ v. tame_put f v), (λ x n. n))
tame_assign (Computing o) f = ((λ a. ((λ b. tame_bind every (operate o a b) _ (tame_operate _ every o a b) (λ v. tame_put (after_read f) v)), (λ x n. n))), (λ x n. n))
tame_assign (Deciding o) f = ((λ a. tame_choose every (assigns o a) _ _ ((λ v. tame_put (after_read f) v), (λ x n. n)) tt), (λ x n. n))

tame_assignment : (o : AssignmentOperator) → Tame every (assignment_step o)
unfolding Tame
tame_assignment o = ((λ f. tame_assign (assignment_kind o) f), (λ x n. n))

tame_update : (o : UpdateOperator) (b : Bool) → Tame every (update_step o b)
unfolding Tame
tame_update o b =
    ((λ f. ((λ a. tame_bind every (numeric a) _ (tame_numeric _ every a) (λ n. tame_bind every (of_made (safe_number (changed o n))) _ (tame_made _ every (safe_number (changed o n))) (λ v. ((λ u. tt), (λ x n. n))))), (λ x n. n))), (λ x n. n))

-- ---- lists

tame_entries : (n : ℕ) → Tame every (entries n)
unfolding Tame
tame_entries zero = tt
tame_entries (suc n) = ((λ e. tame_bind every (shift {q = λ i. AnEntry} (entries n)) _ (tame_shift (λ i. AnEntry) every (entries n) (tame_entries n)) (λ es. tt)), (λ x n. n))

tame_parts : (n : ℕ) (w : Want) → Tame every (parts n w)
unfolding Tame
tame_parts zero w = ((λ v. tt), (λ x n. n))
tame_parts (suc n) w = ((λ u. tame_shift (parts_demand (suc n) w) every (parts n w) (tame_parts n w)), (λ x n. n))

tame_sequence : (n : ℕ) (w : Want) → Tame every (sequence n w)
unfolding Tame
tame_sequence zero w = tt
tame_sequence (suc n) w = tame_parts n w

tame_texts : (n : ℕ) → Tame every (template_texts n)
unfolding Tame
tame_texts zero = tt
tame_texts (suc n) =
    ((λ v. tame_bind every (primitive ForString v) _ (tame_primitive _ every ForString v) (λ p. tame_bind every (of_made (to_text p)) _ (tame_made _ every (to_text p)) (λ s. tame_bind every (shift {q = λ i. As Val} (template_texts n)) _ (tame_shift (λ i. As Val) every (template_texts n) (tame_texts n)) (λ ss. tt)))), (λ x n. n))

tame_each : (n : ℕ) (t : Option Tail) → Tame every (each n t)
unfolding Tame
tame_each zero t = tt
tame_each (suc n) t = ((λ u. tame_shift (tail_demand (suc n) t) every (each n t) (tame_each n t)), (λ x n. n))

tame_declarators : (n : ℕ) (l : Bool) → Tame every (declarators n l)
unfolding Tame
tame_declarators zero l = tt
tame_declarators (suc n) l = ((λ u. tame_shift (λ i. Declares l) every (declarators n l) (tame_declarators n l)), (λ x n. n))

tame_the_declarator : (n : ℕ) (l : Bool) (v : Value) → Tame every (the_declarator n l v)
unfolding Tame
tame_the_declarator (suc zero) l v = ((λ u. tt), (λ x n. n))
tame_the_declarator zero l v = tt
tame_the_declarator (suc (suc n)) l v = tt

tame_the_head : (n : ℕ) (r : Option Value) → Tame every (the_head n r)
unfolding Tame
tame_the_head (suc zero) r = ((λ u. tt), (λ x n. n))
tame_the_head zero r = tt
tame_the_head (suc (suc n)) r = tt

tame_tests : (v : Value) (fs : List Facts) (i : ℕ) → Tame every (test_cases v fs i)
unfolding Tame
tame_tests v [] i = tt
tame_tests v (f ∷ fs) i = tame_choose every f.absent _ _ (tame_tests v fs (suc i)) ((λ w. tame_choose every (is_case v w) _ _ tt (tame_tests v fs (suc i))), (λ x n. n))

tame_bodies : (n k i : ℕ) → Tame every (case_bodies n k i)
unfolding Tame
tame_bodies zero k i = tt
tame_bodies (suc n) zero i = ((λ u. tame_bodies n zero (suc i)), (λ x n. n))
tame_bodies (suc n) (suc k) i = tame_bodies n k (suc i)

tame_enter : (n : ℕ) (o : Option ℕ) → Tame every (enter_case n o)
unfolding Tame
tame_enter n None = tt
tame_enter n (Some i) = tame_bodies n i 0

tame_cases : (fs : List Facts) (v : Value) → Tame every (cases fs v)
unfolding Tame
tame_cases fs v = tame_bind every (test_cases v fs 0) _ (tame_tests v fs 0) (λ found. tame_enter (length fs) (or_default found (default_case fs 0)))

tame_list : (fs : List Facts) (d : Demand) (r : Request d) → Tame every (list_step fs d r)
unfolding Tame
tame_list fs (Stat t) r = tame_attempt every (each (length fs) t) (merged t) (tame_each (length fs) t) (λ a. tt) (λ x n. tame_merged _ every t x n)
tame_list fs Items r = tame_entries (length fs)
tame_list fs (Parts w) r = tame_sequence (length fs) w
tame_list fs Texts r = tame_texts (length fs)
tame_list fs (Declares l) r = tame_declarators (length fs) l
tame_list fs (Binds l) v = tame_the_declarator (length fs) l v
tame_list fs Heads r = tame_the_head (length fs) r
tame_list fs Cases v = tame_cases fs v
tame_list fs d r = tt

-- ---- declarations

tame_name : (q : ℕ → Demand) (d : Demand) (r : Request d) → Tame {q = q} every (binding_name d r)
unfolding Tame
tame_name q (Binds true) v = ((λ u. tt), (λ x n. n))
tame_name q (Binds false) v = tame_put_own q every v
tame_name q d r = tt

tame_pattern : (q : ℕ → Demand) (d : Demand) (r : Request d) → Tame {q = q} every (binding_pattern d r)
unfolding Tame
tame_pattern q (Binds true) v = ((λ u. tt), (λ x n. n))
tame_pattern q (Binds false) v = ((λ u. tt), (λ x n. n))
tame_pattern q d r = tt

tame_declaration : (k : VariableDeclarationKind) (d : Demand) (r : Request d) → Tame every (declaration_step k d r)
unfolding Tame
tame_declaration k (Stat t) r = ((λ u. tt), (λ x n. tame_merged _ every t x n))
tame_declaration k (Binds l) v = ((λ u. tt), (λ x n. n))
tame_declaration k Heads r = ((λ u. tt), (λ x n. n))
tame_declaration k d r = tt

tame_given : (a : Bool) (v : Value) → Tame every (gives_by a v)
unfolding Tame
tame_given true v = tame_put_own (first_demand (Binds false) (As Val)) every v
tame_given false v = ((λ u. tt), (λ x n. n))

tame_var : (a b : Bool) → Tame every (var_by a b)
unfolding Tame
tame_var a true = tt
tame_var a false = ((λ v. tame_given a v), (λ x n. n))

tame_declarator : (a b : Bool) (d : Demand) (r : Request d) → Tame every (declarator_step a b d r)
unfolding Tame
tame_declarator a true (Declares true) r = ((λ u. tt), (λ x n. n))
tame_declarator a false (Declares true) r = ((λ v. ((λ u. tt), (λ x n. n))), (λ x n. n))
tame_declarator a b (Declares false) r = tame_var a b
tame_declarator a true (Binds l) v = ((λ u. tt), (λ x n. n))
tame_declarator a false (Binds l) v = tt
tame_declarator a b Heads (Some v) = tame_given a v
tame_declarator a b Heads None = tame_var a b
tame_declarator a b d r = tt

tame_class : Tame every class_step
unfolding Tame
tame_class = ((λ v. ((λ u. tt), (λ x n. n))), (λ x n. n))

tame_class_declaration : (d : Demand) (r : Request d) → Tame every (class_declaration d r)
unfolding Tame
tame_class_declaration (Stat t) r = tame_attempt every (bind class_step (λ v. ret tt)) (merged t) ((λ v. ((λ u. tt), (λ x n. n))), (λ x n. n)) (λ a. tt) (λ x n. tame_merged _ every t x n)
tame_class_declaration ClassValue r = tame_class
tame_class_declaration d r = tt

tame_exported : (d : Option Declared) → Tame every (exported d)
unfolding Tame
tame_exported (Some AClass) = ((λ v. tt), (λ x n. n))
tame_exported (Some (Variables k)) = ((λ v. tt), (λ x n. n))
tame_exported None = ((λ v. tt), (λ x n. n))

tame_export : (d : Option Declared) → Tame every (export_value d)
unfolding Tame
tame_export d = tame_bind every (exported d) _ (tame_exported d) (λ v. ((λ u. tt), (λ x n. n)))

tame_default : (d : Option Declared) (fs : List FunctionFact) → Tame every (default_step d fs)
unfolding Tame
tame_default (Some AClass) fs = tame_export (Some AClass)
tame_default (Some (Variables k)) [] = tame_export (Some (Variables k))
tame_default None [] = tame_export None
tame_default (Some (Variables k)) (f ∷ fs) = tt
tame_default None (f ∷ fs) = tt

-- ---- statements

tame_body : (b : Bool) (t : Option Tail) (fs : List Facts) → Tame every (body_step b t fs)
unfolding Tame
tame_body b t fs = ((λ u. tame_bind every (create_functions b (function_facts fs) 0) _ (tame_creates _ every b (function_facts fs) 0) (λ u. ((λ v. tt), (λ x n. n)))), (λ x n. n))

tame_block : (t : Option Tail) (fs : List Facts) → Tame every (block_step t fs)
unfolding Tame
tame_block t fs = tame_scoped _ every (bind (create_functions true (function_facts fs) 0) (λ u. kid 0 [] (then ret))) (tame_bind every (create_functions true (function_facts fs) 0) _ (tame_creates _ every true (function_facts fs) 0) (λ u. ((λ v. tt), (λ x n. n))))

tame_block_in : (fs : List Facts) (d : Demand) (r : Request d) → Tame every (block_in fs d r)
unfolding Tame
tame_block_in fs (Stat t) r = tame_attempt every (block_step t fs) (merged t) (tame_block t fs) (λ a. tt) (λ x n. tame_merged _ every t x n)
tame_block_in fs d r = tt

tame_if : (t : Option Tail) → Tame every (if_step t)
unfolding Tame
tame_if t = ((λ b. tame_choose every b _ _ ((λ u. tt), (λ x n. n)) ((λ u. tt), (λ x n. n))), (λ x n. n))

tame_if_in : (d : Demand) (r : Request d) → Tame every (if_in d r)
unfolding Tame
tame_if_in (Stat t) r = tame_attempt every (if_step t) (merged t) (tame_if t) (λ a. tt) (λ x n. tame_merged _ every t x n)
tame_if_in d r = tt

-- a loop and a `switch` look at the `break`s of their bodies
abbrev looked : Shape → ℕ → Bool
looked h i = lets_out (turn_of h i)

tame_unbroken : (x : Stop) → Tame {q = first_demand (As Val) Cases} (looked shape.SwitchStatement) (unbroken (ended x))
unfolding Tame
tame_unbroken (Broken None) = tt
tame_unbroken (Broken (Some l)) = tt
tame_unbroken (Thrown v) = tt
tame_unbroken (Returned v) = tt
tame_unbroken (Continued l) = tt
tame_unbroken Short = tt

tame_switch : (fs : List Facts) → Tame (looked shape.SwitchStatement) (switch_step fs)
unfolding Tame
tame_switch fs =
    let σ = looked shape.SwitchStatement in
    ((λ v. tame_scoped _ σ (bind (create_functions true (function_facts fs) 0) (λ u. kid 1 v unbroken)) (tame_bind σ (create_functions true (function_facts fs) 0) _ (tame_creates _ σ true (function_facts fs) 0) (λ u. ((λ a. tt), (λ x n. tame_unbroken x))))), (λ x n. n))

tame_case : (b : Bool) (d : Demand) (r : Request d) → Tame every (case_step b d r)
unfolding Tame
tame_case b ACase AskTest = ((λ v. tt), (λ x n. n))
tame_case b ACase AskBody = ((λ v. tt), (λ x n. n))
tame_case b d r = tt

tame_unlabelled : (l : List ℕ) (x : Stop) → NotBroken x → Tame {q = first_demand (As Val) (Stat None)} every (unlabelled l (ended x))
unfolding Tame
tame_unlabelled l (Broken (Some m)) n = tame_choose every (same_text m l) _ _ tt tt
tame_unlabelled l (Broken None) n = n
tame_unlabelled l (Thrown v) n = tt
tame_unlabelled l (Returned v) n = tt
tame_unlabelled l (Continued m) n = tt
tame_unlabelled l Short n = tt

tame_labelled : (o : Option (List ℕ)) (labels : LabelSet) → Tame every (labelled o labels)
unfolding Tame
tame_labelled (Some l) labels = ((λ u. tt), (λ x n. tame_unlabelled l x n))
tame_labelled None labels = tt

tame_label : (labels : LabelSet) → Tame every (label_step labels)
unfolding Tame
tame_label labels = ((λ v. tame_labelled (label_of v) labels), (λ x n. n))

tame_finalized : (x : Stop) → NotBroken x → Tame every (finalized (ended x))
unfolding Tame
tame_finalized x n = ((λ u. n), (λ y m. m))

tame_finally : Tame every (finalized (done tt))
unfolding Tame
tame_finally = ((λ u. tt), (λ x n. n))

tame_handled : (x : Stop) → NotBroken x → Tame every (handled (ended x))
unfolding Tame
tame_handled (Thrown v) n = ((λ u. tame_finally), (λ y m. tame_finalized y m))
tame_handled (Returned v) n = tame_finalized (Returned v) n
tame_handled (Broken l) n = tame_finalized (Broken l) n
tame_handled (Continued l) n = tame_finalized (Continued l) n
tame_handled Short n = tame_finalized Short n

tame_try : Tame every try_step
unfolding Tame
tame_try = ((λ u. tame_finally), (λ x n. tame_handled x n))

tame_catch : (d : Demand) (r : Request d) → Tame every (catch_in d r)
unfolding Tame
tame_catch Catches v = tame_scoped (first_demand (Binds true) (Stat None)) every (kid 0 v (then (λ u. kid 1 [] (then ret)))) ((λ u. ((λ w. tt), (λ x n. n))), (λ x n. n))
tame_catch d r = tt

-- ---- loops

tame_while : (labels : LabelSet) → Tame (looked shape.WhileStatement) (while_step labels)
unfolding Tame
tame_while labels = let σ = looked shape.WhileStatement in tame_loop {q = first_demand (As Test) (Stat (Some LoopTail))} σ (kid 0 tt (then (λ b. choose b (kid 1 [] (after_body labels)) (ret false)))) ((λ b. tame_choose σ b _ _ ((λ a. tt), (λ x n. tame_after _ σ labels x)) tt), (λ x n. n))

tame_do : (labels : LabelSet) → Tame (looked shape.DoWhileStatement) (do_step labels)
unfolding Tame
tame_do labels =
    let σ = looked shape.DoWhileStatement in
    tame_loop {q = do_demand} σ (kid 0 [] (λ e. bind (after_body labels e) (λ b. choose b (kid 1 tt (then ret)) (ret false)))) ((λ a. ((λ b. tt), (λ x n. n))), (λ x n. tame_bind σ (after_body labels (ended x)) _ (tame_after _ σ labels x) (λ b. tame_choose σ b _ _ ((λ c. tt), (λ x n. n)) tt)))

module _ (q : ℕ → Demand) (σ : ℕ → Bool) where
  tame_copied : {A : Type 0} (d : Option Declared) (c : Command q A) → Tame σ c → Tame σ (copied d c)
  unfolding Tame
  tame_copied (Some (Variables Let)) c h = ((λ u. h), (λ x n. n))
  tame_copied d c h = h

abbrev for_looked : ℕ → Bool
for_looked = looked shape.ForStatement

tame_for_test : (d : Option Declared) (b : Bool) → Tame for_looked (for_test d b)
unfolding Tame
tame_for_test d true = tt
tame_for_test d false = ((λ v. tt), (λ x n. n))

tame_update_of : (d : Option Declared) (c : Bool) → Tame {q = for_demand d} for_looked (choose c (copied d (kid 2 tt (then (λ u. ret true)))) (ret false))
unfolding Tame
tame_update_of d c = tame_choose {q = for_demand d} for_looked c _ _ (tame_copied _ for_looked d (kid 2 tt (then (λ u. ret true))) ((λ u. tt), (λ x n. n))) tt

tame_for_turn : (d : Option Declared) (b : Bool) (labels : LabelSet) → Tame for_looked (for_turn d b labels)
unfolding Tame
tame_for_turn d b labels =
    tame_bind for_looked (for_test d b) _ (tame_for_test d b) (λ c. tame_choose for_looked c _ _ ((λ a. tame_update_of d true), (λ x n. tame_bind for_looked (after_body labels (ended x)) _ (tame_after _ for_looked labels x) (λ c. tame_update_of d c))) tt)

tame_for_turns : (d : Option Declared) (b : Bool) (labels : LabelSet) → Tame for_looked (for_turns d b labels)
unfolding Tame
tame_for_turns d b labels = tame_copied _ for_looked d (loop (for_turn d b labels)) (tame_loop for_looked (for_turn d b labels) (tame_for_turn d b labels))

tame_for_head : (d : Option Declared) (c : Command (for_demand d) (Unit {0})) → Tame for_looked c → Tame for_looked (for_head d c)
unfolding Tame
tame_for_head (Some (Variables k)) c h = ((λ u. h), (λ x n. n))
tame_for_head (Some AClass) c h = ((λ u. h), (λ x n. n))
tame_for_head None c h = ((λ u. h), (λ x n. n))

tame_for : (d : Option Declared) (b : Bool) (labels : LabelSet) → Tame for_looked (for_step d b labels)
unfolding Tame
tame_for d b labels = tame_scoped _ for_looked (for_head d (for_turns d b labels)) (tame_for_head d (for_turns d b labels) (tame_for_turns d b labels))

-- `for..in` and `for..of`
abbrev each_looked : ℕ → Bool
each_looked = looked shape.ForInStatement

tame_left : (d : Option Declared) (v : Value) → Tame each_looked (give_left d v)
unfolding Tame
tame_left (Some (Variables Var)) v = ((λ u. tt), (λ x n. n))
tame_left (Some (Variables k)) v = ((λ u. tt), (λ x n. n))
tame_left (Some AClass) v = ((λ f. ((λ u. tt), (λ x n. n))), (λ x n. n))
tame_left None v = ((λ f. ((λ u. tt), (λ x n. n))), (λ x n. n))

tame_turn : (d : Option Declared) (labels : LabelSet) (v : Value) → Tame each_looked (turn_in d labels v)
unfolding Tame
tame_turn d labels v = tame_scoped _ each_looked (each_turn d labels v) (tame_bind each_looked (give_left d v) _ (tame_left d v) (λ u. ((λ a. tt), (λ x n. tame_after _ each_looked labels x))))

tame_next : {q : ℕ → Demand} (f : Value → Command q Bool) → ((v : Value) → Tame each_looked (f v)) → (o : Option Value) → Tame each_looked (on_next f o)
unfolding Tame
tame_next f h None = tt
tame_next f h (Some v) = h v

tame_keys : (d : Option Declared) (labels : LabelSet) (v : Value) → Tame each_looked (keys_in d labels v)
unfolding Tame
tame_keys d labels v = tame_choose each_looked (is_nullish v) _ _ tt ((λ iterator. tame_loop each_looked (next_of iterator (turn_in d labels)) ((λ o. tame_next (turn_in d labels) (tame_turn d labels) o), (λ x n. n))), (λ x n. n))

tame_begin : (d : Option Declared) (c : Command (each_demand d) (Unit {0})) → Tame each_looked c → Tame each_looked (begin_left d c)
unfolding Tame
tame_begin (Some (Variables Var)) c h = ((λ u. h), (λ x n. n))
tame_begin d c h = h

tame_for_in : (d : Option Declared) (labels : LabelSet) → Tame each_looked (for_in_step d labels)
unfolding Tame
tame_for_in d labels = tame_scoped _ each_looked (begin_left d (kid 1 tt (then (keys_in d labels)))) (tame_begin d (kid 1 tt (then (keys_in d labels))) ((λ v. tame_keys d labels v), (λ x n. n)))

tame_closed : (q : ℕ → Demand) (iterator : Value) (b : Bool) → Tame {q = q} each_looked (closing iterator (done b))
unfolding Tame
tame_closed q iterator true = tt
tame_closed q iterator false = ((λ v. tt), (λ x n. n))

tame_closing : (q : ℕ → Demand) (iterator : Value) (x : Stop) → NotBroken x → Tame {q = q} each_looked (closing iterator (ended x))
unfolding Tame
tame_closing q iterator (Thrown v) n = ((λ u. tt), (λ x m. tt))
tame_closing q iterator (Returned v) n = ((λ u. tt), (λ x m. m))
tame_closing q iterator (Broken l) n = ((λ u. n), (λ x m. m))
tame_closing q iterator (Continued l) n = ((λ u. tt), (λ x m. m))
tame_closing q iterator Short n = ((λ u. tt), (λ x m. m))

tame_values : (d : Option Declared) (labels : LabelSet) (v : Value) → Tame each_looked (values_of d labels v)
unfolding Tame
tame_values d labels v =
    ((λ iterator. tame_loop each_looked (next_of iterator (λ w. attempt (turn_in d labels w) (closing iterator))) ((λ o. tame_next (λ w. attempt (turn_in d labels w) (closing iterator)) (λ w. tame_attempt each_looked (turn_in d labels w) (closing iterator) (tame_turn d labels w) (tame_closed _ iterator) (tame_closing _ iterator)) o), (λ x n. n))), (λ x n. n))

tame_for_of : (d : Option Declared) (labels : LabelSet) → Tame each_looked (for_of_step d labels)
unfolding Tame
tame_for_of d labels = tame_scoped _ each_looked (kid 1 tt (then (values_of d labels))) ((λ v. tame_values d labels v), (λ x n. n))

-- ---- each shape but a `break`

tame_absent : (q : ℕ → Demand) (d : Demand) (r : Request d) → Tame {q = q} every (absent_step d r)
unfolding Tame
tame_absent q (As w) r = tt
tame_absent q AnEntry r = tt
tame_absent q Items r = tt
tame_absent q (Stat t) r = tt
tame_absent q (Binds l) v = tt
tame_absent q Catches v = tt
tame_absent q d r = tt

step_tame : (h : Shape) (ks : List NameKind) (fs : List Facts) (d : Demand) (r : Request d) → is_bare (jump_of h) None ≡ false → Tame (looked h) (step h ks fs d r)
unfolding step Tame
step_tame shape.Absent ks fs d r b = tame_absent _ d r
step_tame shape.Listed ks fs d r b = tame_list fs d r
step_tame shape.InnerExpression ks fs d r b = ((λ a. tt), (λ x n. n))
step_tame (shape.Program m ds) ks fs d r b = tame_statement _ every d r _ (λ labels. tame_body m None fs)
step_tame shape.FunctionBody ks fs d r b = tame_statement _ every d r _ (λ labels. tame_body false (Some FunctionTail) fs)
step_tame shape.StaticBlock ks fs d r b = tame_statement _ every d r _ (λ labels. tame_body false None fs)
step_tame shape.ExpressionStatement ks fs d r b = tame_statement _ every d r (λ labels. kid 0 tt (then ret)) (λ labels. ((λ a. tt), (λ x n. n)))
step_tame shape.EmptyStatement ks fs d r b = tame_statement _ every d r (λ labels. ret tt) (λ labels. tt)
step_tame shape.DebuggerStatement ks fs d r b = tame_statement _ every d r (λ labels. bind (emit state.DebuggerOf []) (λ v. ret tt)) (λ labels. ((λ a. tt), (λ x n. n)))
step_tame shape.BlockStatement ks fs d r b = tame_block_in fs d r
step_tame shape.LabeledStatement ks fs d r b = tame_statement _ every d r label_step (λ labels. tame_label labels)
step_tame shape.BreakStatement ks fs d r b = absurd (true≢false b)
step_tame shape.ContinueStatement ks fs d r b = tame_statement _ every d r (λ labels. continue_step) (λ labels. ((λ v. tt), (λ x n. n)))
step_tame shape.ReturnStatement ks fs d r b = tame_statement _ every d r (λ labels. return_step) (λ labels. ((λ v. tt), (λ x n. n)))
step_tame shape.ThrowStatement ks fs d r b = tame_statement _ every d r (λ labels. throw_step) (λ labels. ((λ v. tt), (λ x n. n)))
step_tame shape.IfStatement ks fs d r b = tame_if_in d r
step_tame shape.SwitchStatement ks fs d r b = tame_statement _ (looked shape.SwitchStatement) d r (λ labels. switch_step fs) (λ labels. tame_switch fs)
step_tame shape.SwitchCase ks fs d r b = tame_case (nth_absent fs 0) d r
step_tame shape.TryStatement ks fs d r b = tame_statement _ every d r (λ labels. try_step) (λ labels. tame_try)
step_tame shape.CatchClause ks fs d r b = tame_catch d r
step_tame shape.WhileStatement ks fs d r b = tame_statement _ (looked shape.WhileStatement) d r while_step tame_while
step_tame shape.DoWhileStatement ks fs d r b = tame_statement _ (looked shape.DoWhileStatement) d r do_step tame_do
step_tame shape.ForStatement ks fs d r b = tame_statement _ for_looked d r (for_step (first_facts fs).declared (nth_absent fs 1)) (tame_for (first_facts fs).declared (nth_absent fs 1))
step_tame shape.ForInStatement ks fs d r b = tame_statement _ each_looked d r (for_in_step (first_facts fs).declared) (tame_for_in (first_facts fs).declared)
step_tame shape.ForOfStatement ks fs d r b = tame_statement _ each_looked d r (for_of_step (first_facts fs).declared) (tame_for_of (first_facts fs).declared)
step_tame (shape.VariableDeclaration k) ks fs d r b = tame_declaration k d r
step_tame shape.VariableDeclarator ks fs d r b = tame_declarator (has_kind ks) (nth_absent fs 1) d r
step_tame (shape.Function true g ds) ks fs d r b = tame_statement _ (looked (shape.Function true g ds)) d r (λ labels. ret tt) (λ labels. tt)
step_tame (shape.Class true) ks fs d r b = tame_class_declaration d r
step_tame shape.BindingIdentifier ks fs d r b = tame_name _ d r
step_tame shape.ObjectPattern ks fs d r b = tame_pattern _ d r
step_tame shape.ArrayPattern ks fs d r b = tame_pattern _ d r
step_tame shape.ImportDeclaration ks fs d r b = tame_statement _ every d r (λ labels. ret tt) (λ labels. tt)
step_tame shape.ExportNamedDeclaration ks fs d r b = tame_statement _ every d r (λ labels. kid 0 [] (then ret)) (λ labels. ((λ a. tt), (λ x n. n)))
step_tame shape.ExportDefaultDeclaration ks fs d r b = tame_statement _ every d r (λ labels. default_step (first_facts fs).declared (first_facts fs).functions) (λ labels. tame_default (first_facts fs).declared (first_facts fs).functions)
step_tame shape.ExportAllDeclaration ks fs d r b = tame_statement _ every d r (λ labels. ret tt) (λ labels. tt)
step_tame shape.Identifier ks fs d r b = tame_identifier _ every (first_kind ks) d r
step_tame (shape.IdentifierName s) ks fs d r b = tame_valued _ every d r _ tt
step_tame (shape.NumericLiteral n) ks fs d r b = tame_valued _ every d r _ tt
step_tame (shape.StringLiteral s) ks fs d r b = tame_valued _ every d r _ tt
step_tame (shape.BooleanLiteral c) ks fs d r b = tame_valued _ every d r _ tt
step_tame shape.NullLiteral ks fs d r b = tame_valued _ every d r _ tt
step_tame (shape.RegExpLiteral p f) ks fs d r b = tame_carried _ every state.AnObject d r
step_tame shape.ThisExpression ks fs d r b = tame_valued _ every d r (op self (then ret)) ((λ v. tt), (λ x n. n))
step_tame shape.ArrayExpression ks fs d r b = tame_valued _ every d r array_step ((λ es. ((λ v. tt), (λ x n. n))), (λ x n. n))
step_tame shape.ObjectExpression ks fs d r b = tame_valued _ every d r object_step ((λ es. ((λ v. tt), (λ x n. n))), (λ x n. n))
step_tame (shape.ObjectProperty k m s c) ks fs d r b = tame_entry _ every d r (property_step k m s c) (tame_property k m s c)
step_tame shape.SpreadElement ks fs d r b = tame_entry _ every d r spread_step ((λ v. ((λ w. tt), (λ x n. n))), (λ x n. n))
step_tame (shape.UnaryExpression o) ks fs d r b = tame_valued _ every d r (unary_step o) (tame_unary o)
step_tame (shape.UpdateExpression o p) ks fs d r b = tame_valued _ every d r (update_step o p) (tame_update o p)
step_tame (shape.BinaryExpression o) ks fs d r b = tame_valued _ every d r (binary_step o) (tame_binary o)
step_tame shape.PrivateInExpression ks fs d r b = tame_carried _ every state.ABoolean d r
step_tame (shape.LogicalExpression o) ks fs d r b = tame_passing _ every d r (logical_step o (pass d)) (tame_logical o (pass d))
step_tame (shape.AssignmentExpression o) ks fs d r b = tame_valued _ every d r (assignment_step o) (tame_assignment o)
step_tame shape.ConditionalExpression ks fs d r b = tame_passing _ every d r (conditional_step (pass d)) (tame_conditional (pass d))
step_tame shape.SequenceExpression ks fs d r b = tame_passing _ every d r (sequence_step (pass d)) ((λ v. tt), (λ x n. n))
step_tame (shape.CallExpression o) ks fs d r b = tame_valued _ every d r (call_step o) (tame_call o)
step_tame shape.SuperCallExpression ks fs d r b = tame_carried _ every state.Anything d r
step_tame shape.NewExpression ks fs d r b = tame_valued _ every d r new_step tame_new
step_tame (shape.StaticMemberExpression o) ks fs d r b = tame_member _ every (member_step o) (tame_member_step o) d r
step_tame (shape.ComputedMemberExpression o) ks fs d r b = tame_member _ every (member_step o) (tame_member_step o) d r
step_tame (shape.PrivateFieldExpression o) ks fs d r b = tame_private _ every (chained_carries o (first_facts fs).shortens) d r
step_tame shape.SuperStaticMemberExpression ks fs d r b = tame_super _ every d r
step_tame shape.SuperComputedMemberExpression ks fs d r b = tame_super _ every d r
step_tame shape.ChainExpression ks fs d r b = tame_chain d r
step_tame (shape.YieldExpression g) ks fs d r b = tame_valued _ every d r (yield_step g) ((λ v. ((λ w. tt), (λ x n. n))), (λ x n. n))
step_tame shape.TemplateLiteral ks fs d r b = tame_valued _ every d r (template_step (texts_all fs)) ((λ v. tt), (λ x n. n))
step_tame shape.TaggedTemplateExpression ks fs d r b = tame_carried _ every state.Anything d r
step_tame (shape.MetaProperty k) ks fs d r b = tame_carried _ every state.Anything d r
step_tame shape.ImportExpression ks fs d r b = tame_carried _ every state.Anything d r
step_tame shape.ObjectAssignmentTarget ks fs d r b = tame_pattern_target _ every d r
step_tame shape.ArrayAssignmentTarget ks fs d r b = tame_pattern_target _ every d r
step_tame (shape.Function false g ds) ks fs d r b = tame_valued _ (looked (shape.Function false g ds)) d r (emit_mine state.Create []) ((λ v. tt), (λ x n. n))
step_tame (shape.ArrowFunctionExpression ds) ks fs d r b = tame_valued _ (looked (shape.ArrowFunctionExpression ds)) d r (emit_mine state.Create []) ((λ v. tt), (λ x n. n))
step_tame (shape.Class false) ks fs d r b = tame_carried _ every state.AnObject d r
step_tame h ks fs d r b = tt

-- ---- what actions do

-- what follows a run
unbroken_after : {A B : Type 0} (y : Completion B) (f : B → State → Completion A) (g : Stop → State → Completion A) → Unbroken y → ((b : B) (z : State) → Unbroken (f b z)) → ((x : Stop) (z : State) → NotBroken x → Unbroken (g x z)) → Unbroken (either y f g)
unfolding either
unbroken_after (ok b z) f g h k l = k b z
unbroken_after (stop x z) f g h k l = l x z h
unbroken_after (halt x z) f g h k l = tt
unbroken_after out f g h k l = tt

unbroken_any : {A B : Type 0} (y : Completion B) (f : B → State → Completion A) (g : Stop → State → Completion A) → ((b : B) (z : State) → Unbroken (f b z)) → ((x : Stop) (z : State) → Unbroken (g x z)) → Unbroken (either y f g)
unfolding either
unbroken_any (ok b z) f g k l = k b z
unbroken_any (stop x z) f g k l = l x z
unbroken_any (halt x z) f g k l = tt
unbroken_any out f g k l = tt

unbroken_kid : {A B : Type 0} (c : Bool) (y : Completion B) (f : B → State → Completion A) (g : Stop → State → Completion A) → (c ≡ true → Unbroken y) → ((b : B) (z : State) → Unbroken (f b z)) → ((x : Stop) (z : State) → Ended c x → Unbroken (g x z)) → Unbroken (either y f g)
unbroken_kid true y f g h k l = unbroken_after y f g (h refl) k l
unbroken_kid false y f g h k l = unbroken_any y f g k (λ x z. l x z tt)

abbrev Told : {A : Type 0} → Heard A → Type 0
Told (hears a) = Unit {0}
Told (breaks x) = NotBroken x
Told nonsense = Unit {0}

told_choice : {A : Type 0} (b : Bool) (h k : Heard A) → Told h → Told k → Told (choose b h k)
told_choice true h k a c = a
told_choice false h k a c = c

told_boolean : (v : Value) → Told (only_boolean v)
told_boolean (Boolean b) = tt
told_boolean v = tt

told_boolean_value : (v : Value) → Told (boolean_value v)
told_boolean_value (Boolean b) = tt
told_boolean_value v = tt

told_object : (v : Value) → Told (only_object v)
told_object v = told_choice (is_object v) (hears v) nonsense tt tt

told_primitive : (v : Value) → Told (only_primitive v)
told_primitive v = told_choice (is_object v) nonsense (hears v) tt tt

told_value : (l : Label) (v : Value) → Told (hear_value l v)
told_value state.NextOf v = tt
told_value state.DeleteOf v = told_boolean v
told_value state.InOf v = told_boolean v
told_value state.InstanceOf v = told_boolean v
told_value (state.Coerce h) v = told_primitive v
told_value state.Create v = told_object v
told_value state.NewOf v = told_object v
told_value state.ArrayOf v = told_object v
told_value state.ObjectOf v = told_object v
told_value state.IteratorOf v = told_object v
told_value state.KeysOf v = told_object v
told_value (state.NodeOf state.ABoolean) v = told_boolean_value v
told_value (state.NodeOf state.AnObject) v = told_object v
told_value (state.Raise error) v = tt
told_value state.FreshOf v = tt
told_value l v = tt

told : (l : Label) (g : Given) → Told (hear l g)
told l (Normal v) = told_value l v
told l (Throws v) = tt
told state.NextOf Finished = tt
told (state.YieldOf delegate) (Returning v) = tt
told (state.NodeOf state.InChain) Shortens = tt
told (state.PlaceOf state.InChain) Shortens = tt
told l g = tt

unbroken_heard : {A : Type 0} (h : Heard A) (s : State) → Told h → Unbroken (heard h s)
unfolding heard
unbroken_heard (hears a) s t = tt
unbroken_heard (breaks x) s t = t
unbroken_heard nonsense s t = tt

module _ (e : Environment) (names : Naming) where
  unbroken_answer : (l : Label) (as' : List Answer) (s : State) → Unbroken (answered e l as' s)
  unfolding answered
  unbroken_answer l [] s = tt
  unbroken_answer l (a ∷ rest) s = unbroken_heard (hear l a.given) _ (told l a.given)

  unbroken_bound : (h : Heard Value) (xs : List Variable) (values : Variable → Value) (s : State) → Told h → Unbroken (bound_if h xs values s)
  unbroken_bound (hears v) xs values s t = tt
  unbroken_bound (breaks x) xs values s t = t
  unbroken_bound nonsense xs values s t = tt

  unbroken_binds : (xs : List Variable) (as' : List Answer) (s : State) → Unbroken (answered_binds e xs as' s)
  unfolding answered_binds
  unbroken_binds xs [] s = tt
  unbroken_binds xs (a ∷ rest) s = unbroken_bound (hear state.BindOf a.given) xs a.binds _ (told state.BindOf a.given)

  unbroken_at : {A : Type 0} (o : Option Variable) (f : Variable → Completion A) → ((x : Variable) → Unbroken (f x)) → Unbroken (at_variable o f)
  unfolding at_variable
  unbroken_at (Some x) f h = h x
  unbroken_at None f h = tt

  unbroken_read : (v : Slot) (s : State) → Unbroken (read_slot v s)
  unfolding read_slot
  unbroken_read (Holds v) s = tt
  unbroken_read Missing s = tt
  unbroken_read Uninitialised s = tt

  unbroken_global : (v : Slot) (s : State) → Unbroken (read_global e v s)
  unbroken_global (Holds v) s = tt
  unbroken_global Missing s = unbroken_answer (state.Raise state.ReferenceError) s.answers _
  unbroken_global Uninitialised s = tt

  unbroken_name : (x : Variable) (v : Slot) (s : State) → Unbroken (read_name e x v s)
  unbroken_name x v s = name_reads (λ a b. Unbroken a) e e x v v s s (unbroken_read v s) (unbroken_global v s)

  unbroken_read_any : (v : Slot) (s : State) → Unbroken (read_any v s)
  unfolding read_any
  unbroken_read_any (Holds v) s = tt
  unbroken_read_any Missing s = tt
  unbroken_read_any Uninitialised s = tt

  unbroken_type : (x : Variable) (v : Slot) (s : State) → Unbroken (read_type x v s)
  unbroken_type x v s = type_reads (λ a b. Unbroken a) x v v s s (unbroken_read v s) (unbroken_read_any v s)

  unbroken_write : (x : Variable) (v : Value) (o : Slot) (s : State) → Unbroken (write_slot x v o s)
  unfolding write_slot
  unbroken_write x v (Holds w) s = tt
  unbroken_write x v Missing s = tt
  unbroken_write x v Uninitialised s = tt

  unbroken_write_global : (x : Variable) (v : Value) (o : Slot) (s : State) → Unbroken (write_global x v o s)
  unbroken_write_global x v (Holds w) s = tt
  unbroken_write_global x v Missing s = tt
  unbroken_write_global x v Uninitialised s = tt

  unbroken_write_name : (x : Variable) (v : Value) (o : Slot) (s : State) → Unbroken (write_name x v o s)
  unbroken_write_name x v o s = name_writes (λ a b. Unbroken a) x v o o s s (unbroken_write x v o s) (unbroken_write_global x v o s)

  unbroken_this : (b : Bool) (s : State) → Unbroken (this_of e b s)
  unfolding this_of
  unbroken_this true s = unbroken_answer state.ThisOf s.answers _
  unbroken_this false s = tt

  unbroken_turn : (n : ℕ) (s : State) → Unbroken (take_turn n s)
  unfolding take_turn
  unbroken_turn zero s = tt
  unbroken_turn (suc n) s = tt

  unbroken_act : (o : Op) (s : State) → Unbroken (act e names o s)
  unfolding act
  unbroken_act (read i) s = unbroken_at (nth names.own i) _ (λ x. unbroken_name x (s.vars x) s)
  unbroken_act (read_typeof i) s = unbroken_at (nth names.own i) _ (λ x. unbroken_type x (s.vars x) s)
  unbroken_act (fixity i) s = unbroken_at (nth names.written i) _ (λ x. tt)
  unbroken_act (write i v) s = unbroken_at (nth names.written i) _ (λ x. unbroken_write_name x v (s.vars x) s)
  unbroken_act (init i v) s = unbroken_at (nth names.written i) _ (λ x. tt)
  unbroken_act (init_function b i v) s = unbroken_at _ _ (λ x. tt)
  unbroken_act hide s = tt
  unbroken_act copy s = tt
  unbroken_act (event l t vs) s = unbroken_answer l s.answers _
  unbroken_act (bind_names v) s = unbroken_binds names.bound s.answers _
  unbroken_act self s = unbroken_this e.asks_this s
  unbroken_act turn s = unbroken_turn s.turns s
  unbroken_act fuel s = tt

  run_unbroken : {q : ℕ → Demand} {A : Type 0} (σ : ℕ → Bool) (c : Command q A) (K : Kids q) → Tame σ c → ((i : ℕ) → σ i ≡ true → (r : Request (q i)) (s : State) → Unbroken (K i r s)) → (s : State) → Unbroken (run e names K c s)
  unfolding Tame
  run_unbroken σ (ret a) K h k s = tt
  run_unbroken σ (fails x) K h k s = h
  run_unbroken σ stuck K h k s = tt
  run_unbroken σ (op o c) K h k s = unbroken_after (act e names o s) _ _ (unbroken_act o s) (λ a z. run_unbroken σ (c (done a)) K (h.0 a) k z) (λ x z n. run_unbroken σ (c (ended x)) K (h.1 x n) k z)
  run_unbroken σ (kid i r c) K h k s = unbroken_kid (σ i) (K i r s) _ _ (λ p. k i p r s) (λ a z. run_unbroken σ (c (done a)) K (h.0 a) k z) (λ x z n. run_unbroken σ (c (ended x)) K (h.1 x n) k z)

-- ---- trees

pub or_first : (a b : Bool) → (a || b) ≡ false → a ≡ false
or_first false b h = refl
or_first true b h = absurd (true≢false h)

pub or_second : (a b : Bool) → (a || b) ≡ false → b ≡ false
or_second false b h = h
or_second true b h = absurd (true≢false h)

pub and_then : (a b : Bool) → (a && b) ≡ false → a ≡ true → b ≡ false
and_then true b h k = h
and_then false b h k = absurd (true≢false (sym k))

module _ (e : Environment) where
  -- `break l;`
  labelled_break : (xs : List Name) (n : ℕ) (l : List ℕ) (ys : List Name) (m : ℕ) (us ts : Trees) (d : Demand) (r : Request d) (s : State) → Unbroken (means e (node shape.BreakStatement xs n (node (shape.IdentifierName l) ys m us ▸ ts)) d r s)
  unfolding means meaning step either
  labelled_break xs n l ys m us ts (Stat None) r s = tt
  labelled_break xs n l ys m us ts (Stat (Some LoopTail)) r s = tt
  labelled_break xs n l ys m us ts (Stat (Some FunctionTail)) r s = tt
  labelled_break xs n l ys m us ts d r s = tt

  a_break : (xs : List Name) (n : ℕ) (ts : Trees) → is_bare (jump_of shape.BreakStatement) (label_in ts) ≡ false → (d : Demand) (r : Request d) (s : State) → Unbroken (means e (node shape.BreakStatement xs n ts) d r s)
  a_break xs n (node (shape.IdentifierName l) ys m us ▸ ts) h d r s = labelled_break xs n l ys m us ts d r s
  a_break xs n ts h d r s = absurd (true≢false h)

  abbrev Stays : (h : Shape) → Trees → Type 0
  Stays h ts = (i : ℕ) → looked h i ≡ true → (d : Demand) (r : Request d) (s : State) → Unbroken (meaning e ts i d r s)

  node_unbroken : (h : Shape) (xs : List Name) (n : ℕ) (ts : Trees) → is_bare (jump_of h) (label_in ts) ≡ false → Stays h ts → (d : Demand) (r : Request d) (s : State) → Unbroken (means e (node h xs n ts) d r s)
  unfolding means
  node_unbroken shape.BreakStatement xs n ts b k d r s = a_break xs n ts b d r s
  node_unbroken h xs n ts b k d r s = run_unbroken e (naming h d (variables xs) n (summaries ts)) (looked h) (step h (kinds xs) (facts ts) d r) (λ i r' s'. meaning e ts i (demand h (facts ts) d i) r' s') (step_tame h (kinds xs) (facts ts) d r refl) (λ i p r' z. k i p (demand h (facts ts) d i) r' z) s

  mutual
    unfolding meaning

    pub never_broken : (t : Tree) → breaks_out t ≡ false → (d : Demand) (r : Request d) (s : State) → Unbroken (means e t d r s)
    never_broken (node h xs n ts) b d r s =
        node_unbroken h xs n ts (or_first (is_bare (jump_of h) (label_in ts)) (any_breaks_out h 0 ts) b) (λ i p d r s. all_unbroken h 0 ts (or_second (is_bare (jump_of h) (label_in ts)) (any_breaks_out h 0 ts) b) i i (omega arith) p d r s) d r s

    all_unbroken : (h : Shape) (k : ℕ) (ts : Trees) → any_breaks_out h k ts ≡ false → (i j : ℕ) → j ≡ k + i → looked h j ≡ true → (d : Demand) (r : Request d) (s : State) → Unbroken (meaning e ts i d r s)
    all_unbroken h k none b i j q p d r s = tt
    all_unbroken h k (t ▸ ts) b zero j q p d r s =
        let at : j ≡ k = omega (arith, q) in
        never_broken t (and_then (looked h k) (breaks_out t) (or_first (looked h k && breaks_out t) (any_breaks_out h (suc k) ts) b) (subst (λ i. looked h i ≡ true) at p)) d r s
    all_unbroken h k (t ▸ ts) b (suc i) j q p d r s = all_unbroken h (suc k) ts (or_second (looked h k && breaks_out t) (any_breaks_out h (suc k) ts) b) i j (omega (arith, q)) p d r s

pub never_breaks_out : NeverBreaksOut
never_breaks_out t b e d r s z k = subst Unbroken k (never_broken e t b d r s)
