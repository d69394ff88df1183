-- What each row on a spelling writes means the same.
use Rattle.std.proofs.Common.{◌≡◌, ℕ, zero, suc, Bool, true, false, List, [], ◌∷◌, Option, Some, None, refl, sym, ap, subst, ◌∙◌, inl, inr, true≢false}
use Rattle.std.specs.Prelude.{◌&&◌, not, codes, ℤ}
use Rattle.std.specs.Fmt.{signed_decimal}
use Rattle.mini_model.specs.declared.operator.BinaryOperator.{BinaryOperator}
use Rattle.mini_model.specs.declared.operator.BinaryOperator.TheVariants.{Equality, Inequality, StrictEquality, StrictInequality}
use Rattle.mini_model.specs.declared.operator.UnaryOperator.TheVariants.{Typeof}
use Rattle.mini_model.specs.declared.seat.Seat.{Seat}
use Rattle.mini_model.specs.declared.shape.Shape.TheVariants as shape
use Rattle.mini_model.specs.Tree.{Tree, none, ◌▸◌, absent, unary, identifier, unresolved, null_literal}
use Rattle.mini_model.specs.declared.place.Position.{Position}
use Rattle.mini_model.specs.declared.place.Position.TheVariants.{Expr}
use Rattle.mini_model.specs.Position.{is_equality}
use Rattle.mini_laws.specs.Value.{Value, Undefined, Null, Boolean, Number, String, Symbol, Object, VariableSet, choose, is_nullish}
use Rattle.mini_laws.specs.Conversion.{known_member}
use Rattle.mini_laws.specs.Operators.{strictly_equal, loosely_equal, type_text}
use Rattle.mini_laws.specs.State.{Entry, Item, Converted, GetOf, SetOf, ForDefault, State, Completion, ok, stop, halt, out, either, Environment}
use Rattle.mini_laws.specs.Demand.{Val, Demand, As, Callee, OfType, Deleted, Target, AnEntry, Prepare, Fetch, Put, Reference, AMember, AFetched, Request}
use Rattle.mini_laws.specs.Command.{is_object, Naming, Command, ret, bind, emit, Kids, run}
use Rattle.mini_laws.specs.Naming.{summary, summaries, naming}
use Rattle.mini_laws.specs.Replies.{valued, primitive, loosely, of_option, raise, or_event, get_member, put_member}
use Rattle.mini_laws.specs.Expressions.{operate_by, binary_step, member_step, got, called_member, yield_step}
use Rattle.mini_laws.specs.Targets.{as_member, fetched, stored}
use Rattle.mini_laws.specs.Step.{step, means, meaning}
use Rattle.mini_laws.specs.Same.{Goes, Agree}
use Rattle.mini_laws.specs.Rows.{SameAt}
use Rattle.mini_laws.specs.Rewritten.{MeansSame}
use Rattle.mini_laws.proofs.Rows.{equal_same}
use Rattle.mini_laws.proofs.Runs.{either_cong, either_ok}
use Rattle.mini_rows.specs.Spellings.{numeral, text, key, boolean, big_int, template, void_zero, binary, computed_member, static_member, yields, IsUndefined, IsLoose, PlainForm, a_number, a_text, a_boolean, a_null, a_big_int, a_template, a_void, plain, negated_digit, Row33, Row33Assigned, Row33Updated, ordered, SpellingRow, SpellingContracts, ShortBoolean, DottedMember, DottedTarget, DottedUpdate, LooseLeft, LooseRight, SwappedEquality, BareYield, OrderedTypeof, PlainTemplate, ComparedWithVoid, Stepped}
use Rattle.mini_rows.proofs.SpellAlike.{SameTree, Alike, bind_alike, choose_alike, valued_alike, run_kids, first_same}
use Rattle.mini_rows.proofs.SpellSymmetry.{strictly_sym, loosely_sym}
use Rattle.mini_rows.proofs.TemplateTexts.{text_same}
use Rattle.mini_rows.proofs.TypeofMeaning.{typed_same}
use Rattle.mini_rows.proofs.DecrementMeaning.{step_same}

pub tree_same : (s : Seat) (n w : Tree) → SameTree n w → SameAt (Expr s) n w
tree_same s n w h = equal_same (Expr s) n w (record { by = λ e q f r z. h.by e q r z })

-- 65

boolean_does : (b : Bool) (e : Environment) (q : Demand) (r : Request q) (s : State) → means e (boolean b) q r s ≡ means e (negated_digit b) q r s
unfolding means meaning step either
boolean_does true e (As w) r s = refl
boolean_does true e Callee r s = refl
boolean_does true e OfType r s = refl
boolean_does true e Deleted r s = refl
boolean_does true e AnEntry r s = refl
boolean_does true e q r s = refl
boolean_does false e (As w) r s = refl
boolean_does false e Callee r s = refl
boolean_does false e OfType r s = refl
boolean_does false e Deleted r s = refl
boolean_does false e AnEntry r s = refl
boolean_does false e q r s = refl

boolean_same : (b : Bool) → SameTree (boolean b) (negated_digit b)
boolean_same true = record { by = boolean_does true; read = refl }
boolean_same false = record { by = boolean_does false; read = refl }

-- 33, of a name

key_kids : (e : Environment) (o : Tree) (s : List ℕ) (i : ℕ) (q : Demand) (r : Request q) (z : State) → meaning e (o ▸ text s ▸ none) i q r z ≡ meaning e (o ▸ key s ▸ none) i q r z
unfolding means meaning step
key_kids e o s zero q r z = refl
key_kids e o s (suc zero) q r z = refl
key_kids e o s (suc (suc i)) q r z = refl

name_does : (b : Bool) (o : Tree) (s : List ℕ) (e : Environment) (q : Demand) (r : Request q) (z : State) → means e (computed_member b o (text s)) q r z ≡ means e (static_member b o (key s)) q r z
unfolding means step
name_does b o s e q r z = run_kids e (naming (shape.StaticMemberExpression b) q [] 0 (summaries (o ▸ key s ▸ none))) {q = λ i. As Val} (as_member (member_step b) q r) (λ i r z. meaning e (o ▸ text s ▸ none) i (As Val) r z) (λ i r z. meaning e (o ▸ key s ▸ none) i (As Val) r z) (λ i r z. key_kids e o s i (As Val) r z) z

name_same : (b : Bool) (o : Tree) (s : List ℕ) → SameTree (computed_member b o (text s)) (static_member b o (key s))
name_same b o s = record { by = name_does b o s; read = refl }

-- 33, of a number

module _ (e : Environment) (names : Naming) (K L : Kids (λ i. As Val)) where
  abbrev Both : {A : Type 0} → Command (λ i. As Val) A → Type 0
  Both c = Alike e names (λ i. As Val) K L c c

  known : (m : Option Value) (object key : Value) → Both (or_event m (emit GetOf (Item object ∷ Item key ∷ [])))
  known (Some v) object key = λ z. refl
  known None object key = λ z. refl

  gets : (object key : Value) → Both (get_member object key)
  gets object key = choose_alike e names (λ i. As Val) K L (is_nullish object) raise (or_event (known_member object key) (emit GetOf (Item object ∷ Item key ∷ []))) raise (or_event (known_member object key) (emit GetOf (Item object ∷ Item key ∷ []))) (λ z. refl) (known (known_member object key) object key)

  puts : (object : Value) (key : Entry) (v : Value) → Both (put_member object key v)
  puts object key v = choose_alike e names (λ i. As Val) K L (is_nullish object) raise (bind (emit SetOf (Item object ∷ key ∷ Item v ∷ [])) (λ u. ret tt)) raise (bind (emit SetOf (Item object ∷ key ∷ Item v ∷ [])) (λ u. ret tt)) (λ z. refl) (λ z. refl)

  gots : (x : Reference) → Both (got x)
  gots (AMember object key) = gets object key
  gots x = λ z. refl

  calls : (x : Reference) → Both (called_member x)
  calls (AMember object key) = bind_alike e names (λ i. As Val) K L (get_member object key) (get_member object key) (λ v. ret (record { value = v; this_value = object; direct = false })) (λ v. ret (record { value = v; this_value = object; direct = false })) (gets object key) (λ v z. refl)
  calls x = λ z. refl

  fetches : (x : Reference) → Both (fetched x)
  fetches (AMember object key) = gets object key
  fetches x = λ z. refl

  stores : (x : Reference) (v : Value) → Both (stored x v)
  stores (AMember object key) v = puts object (Item key) v
  stores (AFetched object key) v = puts object (choose (is_object key) (Converted key) (Item key)) v
  stores x v = λ z. refl

  members : (c : Command (λ i. As Val) Reference) → Both c → (q : Demand) (r : Request q) → Both (as_member c q r)
  members c h Deleted r = h
  members c h Target Prepare = h
  members c h Target (Fetch x) = fetches x
  members c h Target (Put x v) = stores x v
  members c h Callee r = bind_alike e names (λ i. As Val) K L c c called_member called_member h calls
  members c h q r = valued_alike e names (λ i. As Val) K L q r (bind c got) (bind c got) (bind_alike e names (λ i. As Val) K L c c got got h gots)

module _ (o : Tree) (n : ℤ) where
  abbrev with_key : Environment → Tree → Kids (λ i. As Val)
  with_key e k i r z = meaning e (o ▸ k ▸ none) i (As Val) r z

  number_step : (e : Environment) (names : Naming) → Both e names (with_key e (text (signed_decimal n))) (with_key e (numeral n)) (member_step false)
  unfolding means meaning step either
  number_step e names z = either_cong (means e o (As Val) tt z) _ _ _ _ (λ object y. refl) (λ x y. refl)

  number_does : (e : Environment) (q : Demand) (r : Request q) (z : State) → means e (computed_member false o (text (signed_decimal n))) q r z ≡ means e (computed_member false o (numeral n)) q r z
  unfolding means step
  number_does e q r z = members e (naming (shape.ComputedMemberExpression false) q [] 0 (summaries (o ▸ numeral n ▸ none))) (with_key e (text (signed_decimal n))) (with_key e (numeral n)) (member_step false) (number_step e (naming (shape.ComputedMemberExpression false) q [] 0 (summaries (o ▸ numeral n ▸ none)))) q r z

  number_same : SameTree (computed_member false o (text (signed_decimal n))) (computed_member false o (numeral n))
  number_same = record { by = number_does; read = refl }

pub same_by : (n w a b : Tree) → n ≡ a → w ≡ b → SameTree a b → SameTree n w
same_by n w a b e f h = subst (λ x. SameTree x w) (sym e) (subst (λ x. SameTree a x) (sym f) h)

member_same : (n w : Tree) → Row33 n w → SameTree n w
member_same n w (inl r) = same_by n w _ _ r.shape r.written (name_same r.is_optional r.object r.name)
member_same n w (inr r) = same_by n w _ _ r.shape r.written (number_same r.object r.number)

assigned_same : (n w : Tree) → Row33Assigned n w → SameTree n w
assigned_same n w r = same_by n w _ _ r.shape r.written (first_same (shape.AssignmentExpression r.operator) [] 0 r.target r.turned (r.value ▸ none) (member_same r.target r.turned r.member))

updated_same : (n w : Tree) → Row33Updated n w → SameTree n w
updated_same n w r = same_by n w _ _ r.shape r.written (first_same (shape.UpdateExpression r.operator r.is_prefix) [] 0 r.target r.turned none (member_same r.target r.turned r.member))

-- An equality whose sides give a value each

-- an expression that has this value and does nothing
record Gives (p : Tree) (v : Value) : Type 0 where
  by : (e : Environment) (s : State) → means e p (As Val) tt s ≡ ok v s

undefined_gives : (v : Tree) → IsUndefined v → Gives v Undefined
unfolding means meaning step either
undefined_gives v (inl h) = subst (λ x. Gives x Undefined) (sym h) (record { by = λ e s. refl })
undefined_gives v (inr h) = subst (λ x. Gives x Undefined) (sym h) (record { by = λ e s. refl })

null_gives : Gives null_literal Null
unfolding means meaning step either
null_gives = record { by = λ e s. refl }

undefined_reads : (v : Tree) → IsUndefined v → summary v ≡ summary null_literal
undefined_reads v (inl h) = ap summary h
undefined_reads v (inr h) = ap summary h

module _ (e : Environment) (o : BinaryOperator) where
  abbrev sides : Tree → Tree → Kids (λ i. As Val)
  sides a b i r z = meaning e (a ▸ b ▸ none) i (As Val) r z

  abbrev names_of : Demand → Tree → Tree → Naming
  names_of q a b = naming (shape.BinaryExpression o) q [] 0 (summaries (a ▸ b ▸ none))

  -- over other sides that do the same
  operands : (q : Demand) (a b c d : Tree) → Alike e (names_of q a b) (λ i. As Val) (sides a b) (sides c d) (binary_step o) (binary_step o) → summaries (c ▸ d ▸ none) ≡ summaries (a ▸ b ▸ none) → (r : Request q) (z : State) → means e (binary o a b) q r z ≡ means e (binary o c d) q r z
  unfolding means step
  operands q a b c d h read r z = valued_alike e (names_of q a b) (λ i. As Val) (sides a b) (sides c d) q r (binary_step o) (binary_step o) h z

-- 58

-- what a loose equality with a null gives
nullish_alike : (e : Environment) (names : Naming) (K L : Kids (λ i. As Val)) (f : Bool → Bool) (c : Bool) → Alike e names (λ i. As Val) K L (bind (choose c (ret true) (ret false)) (λ b. ret (Boolean (f b)))) (bind (choose c (ret true) (ret false)) (λ b. ret (Boolean (f b))))
nullish_alike e names K L f true z = refl
nullish_alike e names K L f false z = refl

loose_left : (e : Environment) (names : Naming) (K L : Kids (λ i. As Val)) (o : BinaryOperator) → IsLoose o → (b : Value) → Alike e names (λ i. As Val) K L (operate_by o Undefined b) (operate_by o Null b)
loose_left e names K L o (inl h) b = subst (λ p. Alike e names (λ i. As Val) K L (operate_by p Undefined b) (operate_by p Null b)) (sym h) (λ z. refl)
loose_left e names K L o (inr h) b = subst (λ p. Alike e names (λ i. As Val) K L (operate_by p Undefined b) (operate_by p Null b)) (sym h) (λ z. refl)

loose_right : (e : Environment) (names : Naming) (K L : Kids (λ i. As Val)) (o : BinaryOperator) → IsLoose o → (a : Value) → Alike e names (λ i. As Val) K L (operate_by o a Undefined) (operate_by o a Null)
loose_right e names K L o (inl h) a = subst (λ p. Alike e names (λ i. As Val) K L (operate_by p a Undefined) (operate_by p a Null)) (sym h) (nullish_alike e names K L (λ b. b) (is_nullish a))
loose_right e names K L o (inr h) a = subst (λ p. Alike e names (λ i. As Val) K L (operate_by p a Undefined) (operate_by p a Null)) (sym h) (nullish_alike e names K L not (is_nullish a))

left_step : (e : Environment) (names : Naming) (o : BinaryOperator) → IsLoose o → (u b : Tree) → Gives u Undefined → Alike e names (λ i. As Val) (sides e o u b) (sides e o null_literal b) (binary_step o) (binary_step o)
unfolding meaning
left_step e names o l u b g z =
    ap (λ x. either x (λ a y. either (means e b (As Val) tt y) (λ c w. run {q = λ i. As Val} e names (sides e o u b) (operate_by o a c) w) (λ x w. stop x w)) (λ x y. stop x y)) (g.by e z)
    ∙ either_ok Undefined z _ _
    ∙ either_cong (means e b (As Val) tt z) _ _ _ _ (λ c y. loose_left e names (sides e o u b) (sides e o null_literal b) o l c y) (λ x y. refl)
    ∙ sym (ap (λ x. either x (λ a y. either (means e b (As Val) tt y) (λ c w. run {q = λ i. As Val} e names (sides e o null_literal b) (operate_by o a c) w) (λ x w. stop x w)) (λ x y. stop x y)) (null_gives.by e z) ∙ either_ok Null z _ _)

right_step : (e : Environment) (names : Naming) (o : BinaryOperator) → IsLoose o → (a u : Tree) → Gives u Undefined → Alike e names (λ i. As Val) (sides e o a u) (sides e o a null_literal) (binary_step o) (binary_step o)
unfolding meaning
right_step e names o l a u g z =
    either_cong (means e a (As Val) tt z) _ _ _ _
    (λ v y.
    ap (λ x. either x (λ c w. run {q = λ i. As Val} e names (sides e o a u) (operate_by o v c) w) (λ x w. stop x w)) (g.by e y)
    ∙ either_ok Undefined y _ _
    ∙ loose_right e names (sides e o a u) (sides e o a null_literal) o l v y
    ∙ sym (ap (λ x. either x (λ c w. run {q = λ i. As Val} e names (sides e o a null_literal) (operate_by o v c) w) (λ x w. stop x w)) (null_gives.by e y) ∙ either_ok Null y _ _))
    (λ x y. refl)

left_same : (o : BinaryOperator) → IsLoose o → (u b : Tree) → IsUndefined u → SameTree (binary o u b) (binary o null_literal b)
left_same o l u b h = record {
  by = λ e q r z. operands e o q u b null_literal b (left_step e (names_of e o q u b) o l u b (undefined_gives u h)) (ap (λ x. x ∷ summaries (b ▸ none)) (sym (undefined_reads u h))) r z;
  read = refl;
}

right_same : (o : BinaryOperator) → IsLoose o → (a u : Tree) → IsUndefined u → SameTree (binary o a u) (binary o a null_literal)
right_same o l a u h = record {
  by = λ e q r z. operands e o q a u a null_literal (right_step e (names_of e o q a u) o l a u (undefined_gives u h)) (ap (λ x. summary a ∷ x ∷ []) (sym (undefined_reads u h))) r z;
  read = refl;
}

-- 54

module _ (e : Environment) (names : Naming) (K L : Kids (λ i. As Val)) where
  abbrev Swap : {A : Type 0} → Command (λ i. As Val) A → Command (λ i. As Val) A → Type 0
  Swap c d = Alike e names (λ i. As Val) K L c d

  -- of two objects it is no question where one side is none
  skips : (c : Bool) (s x y : Command (λ i. As Val) Bool) → Swap x y → Swap x (choose (c && false) s y)
  skips true s x y h = h
  skips false s x y h = h

  told : (o o' : Option Bool) → o ≡ o' → Swap (of_option o) (of_option o')
  told o o' h z = ap (λ x. run {q = λ i. As Val} e names K (of_option x) z) h ∙ same o' z
    where
      same : (o : Option Bool) (z : State) → run {q = λ i. As Val} e names K (of_option o) z ≡ run {q = λ i. As Val} e names L (of_option o) z
      same (Some b) z = refl
      same None z = refl

  made_primitive : (b : Value) → Swap (primitive ForDefault b) (primitive ForDefault b)
  made_primitive b = choose_alike e names (λ i. As Val) K L (is_object b) _ _ _ _ (λ z. refl) (λ z. refl)

  compared : (v b : Value) → Swap (bind (primitive ForDefault b) (λ y. of_option (loosely_equal v y))) (bind (primitive ForDefault b) (λ x. of_option (loosely_equal x v)))
  compared v b = bind_alike e names (λ i. As Val) K L (primitive ForDefault b) (primitive ForDefault b) (λ y. of_option (loosely_equal v y)) (λ x. of_option (loosely_equal x v)) (made_primitive b) (λ y. told (loosely_equal v y) (loosely_equal y v) (loosely_sym v y))

  null_swap : (m : Bool) (c : Command (λ i. As Val) Bool) → Swap (ret m) (choose m (ret true) (ret false))
  null_swap true c z = refl
  null_swap false c z = refl

  value_swap : (m : Bool) (x y : Command (λ i. As Val) Bool) → Swap x y → Swap (choose m (ret false) x) (choose m (ret false) y)
  value_swap true x y h z = refl
  value_swap false x y h z = h z

  loosely_swap : (v b : Value) → is_object v ≡ false → Swap (loosely v b) (loosely b v)
  loosely_swap Undefined b h = null_swap (is_nullish b) (ret true)
  loosely_swap Null b h = null_swap (is_nullish b) (ret true)
  loosely_swap (Object n f) b h = absurd (true≢false h)
  loosely_swap v b h = value_swap (is_nullish b) _ _ (skips (is_object b) (ret (strictly_equal b v)) _ _ (compared v b))

  operate_swap : (o : BinaryOperator) → is_equality o ≡ true → (v b : Value) → is_object v ≡ false → Swap (operate_by o v b) (operate_by o b v)
  operate_swap Equality u v b h = bind_alike e names (λ i. As Val) K L (loosely v b) (loosely b v) (λ c. ret (Boolean c)) (λ c. ret (Boolean c)) (loosely_swap v b h) (λ c z. refl)
  operate_swap Inequality u v b h = bind_alike e names (λ i. As Val) K L (loosely v b) (loosely b v) (λ c. ret (Boolean (not c))) (λ c. ret (Boolean (not c))) (loosely_swap v b h) (λ c z. refl)
  operate_swap StrictEquality u v b h = λ z. ap (λ c. ok (Boolean c) z) (strictly_sym v b)
  operate_swap StrictInequality u v b h = λ z. ap (λ c. ok (Boolean (not c)) z) (strictly_sym v b)
  operate_swap o u v b h = absurd (true≢false (sym u))

module _ (o : BinaryOperator) (u : is_equality o ≡ true) (p b : Tree) (v : Value) (g : Gives p v) (primitive : is_object v ≡ false) where
  swap_step : (e : Environment) (names : Naming) → Alike e names (λ i. As Val) (sides e o p b) (sides e o b p) (binary_step o) (binary_step o)
  unfolding meaning
  swap_step e names z =
      ap (λ x. either x (λ a y. either (means e b (As Val) tt y) (λ c w. run {q = λ i. As Val} e names (sides e o p b) (operate_by o a c) w) (λ x w. stop x w)) (λ x y. stop x y)) (g.by e z)
      ∙ either_ok v z _ _
      ∙ either_cong (means e b (As Val) tt z) _ _ _ _ (λ c y. operate_swap e names (sides e o p b) (sides e o b p) o u v c primitive y ∙ sym (ap (λ x. either x (λ a w. run {q = λ i. As Val} e names (sides e o b p) (operate_by o c a) w) (λ x w. stop x w)) (g.by e y) ∙ either_ok v y _ _)) (λ x y. refl)

  swap_does : (e : Environment) (q : Demand) (r : Request q) (z : State) → means e (binary o p b) q r z ≡ means e (binary o b p) q r z
  unfolding means step
  swap_does e q r z = valued_alike e (names_of e o q p b) (λ i. As Val) (sides e o p b) (sides e o b p) q r (binary_step o) (binary_step o) (swap_step e (names_of e o q p b)) z

  swap_same : SameTree (binary o p b) (binary o b p)
  swap_same = record { by = swap_does; read = refl }

-- a BigInt is outside the model, and so is all that comes after it
big_int_out : (o : BinaryOperator) (n : ℕ) (b : Tree) (e : Environment) (q : Demand) (r : Request q) (z : State) → means e (binary o (big_int n) b) q r z ≡ out
unfolding means meaning step either
big_int_out o n b e (As w) r z = refl
big_int_out o n b e Callee r z = refl
big_int_out o n b e OfType r z = refl
big_int_out o n b e Deleted r z = refl
big_int_out o n b e AnEntry r z = refl
big_int_out o n b e q r z = refl

out_goes : {A : Type 0} (D : VariableSet) (y : Completion A) → Goes true (λ a. Agree D) (Agree D) (Agree D) out y
unfolding Goes
out_goes D (ok a s) = tt
out_goes D (stop x s) = tt
out_goes D (halt h s) = tt
out_goes D out = tt

big_int_same : (o : BinaryOperator) (n : ℕ) (b : Tree) (s : Seat) → SameAt (Expr s) (binary o (big_int n) b) (binary o b (big_int n))
big_int_same o n b s = record { by = λ e D X q f. record { by = λ r z i. subst (λ x. Goes true (λ a. Agree D) (Agree D) (Agree D) x (means e (binary o b (big_int n)) q r z)) (sym (big_int_out o n b e q r z)) (out_goes D (means e (binary o b (big_int n)) q r z)) } }

text_gives : (s : List ℕ) → Gives (text s) (String s)
unfolding means meaning step either
text_gives s = record { by = λ e z. refl }

number_gives : (n : ℤ) → Gives (numeral n) (Number n)
unfolding means meaning step either
number_gives n = record { by = λ e z. refl }

boolean_gives : (b : Bool) → Gives (boolean b) (Boolean b)
unfolding means meaning step either
boolean_gives b = record { by = λ e z. refl }

template_gives : (l : Bool) (raw s : List ℕ) → Gives (template l raw s) (String s)
unfolding means meaning step either
template_gives l raw s = record { by = λ e z. refl }

swapped_same : (o : BinaryOperator) → is_equality o ≡ true → (f : PlainForm) (b : Tree) (s : Seat) → SameAt (Expr s) (binary o (plain f) b) (binary o b (plain f))
swapped_same o u (a_number n) b s = tree_same s _ _ (swap_same o u (numeral n) b (Number n) (number_gives n) refl)
swapped_same o u (a_text t) b s = tree_same s _ _ (swap_same o u (text t) b (String t) (text_gives t) refl)
swapped_same o u (a_boolean c) b s = tree_same s _ _ (swap_same o u (boolean c) b (Boolean c) (boolean_gives c) refl)
swapped_same o u a_null b s = tree_same s _ _ (swap_same o u null_literal b Null null_gives refl)
swapped_same o u (a_big_int n) b s = big_int_same o n b s
swapped_same o u (a_template l raw t) b s = tree_same s _ _ (swap_same o u (template l raw t) b (String t) (template_gives l raw t) refl)
swapped_same o u a_void b s = tree_same s _ _ (swap_same o u void_zero b Undefined (undefined_gives void_zero (inr refl)) refl)

-- 55

-- what the two operators make of a text that `typeof` gives
module _ (e : Environment) (names : Naming) (K L : Kids (λ i. As Val)) where
  abbrev Ordered : BinaryOperator → Value → Type 0
  Ordered o v = (z : State) → run {q = λ i. As Val} e names K (operate_by o (String (type_text v)) (String (codes "undefined"))) z ≡ run {q = λ i. As Val} e names L (operate_by (ordered o) (String (type_text v)) (String (codes "u"))) z

  equal_ordered : (v : Value) → Ordered Equality v
  equal_ordered Undefined z = refl
  equal_ordered Null z = refl
  equal_ordered (Boolean b) z = refl
  equal_ordered (Number n) z = refl
  equal_ordered (String s) z = refl
  equal_ordered (Symbol n) z = refl
  equal_ordered (Object n true) z = refl
  equal_ordered (Object n false) z = refl

  unequal_ordered : (v : Value) → Ordered Inequality v
  unequal_ordered Undefined z = refl
  unequal_ordered Null z = refl
  unequal_ordered (Boolean b) z = refl
  unequal_ordered (Number n) z = refl
  unequal_ordered (String s) z = refl
  unequal_ordered (Symbol n) z = refl
  unequal_ordered (Object n true) z = refl
  unequal_ordered (Object n false) z = refl

  strict_ordered : (v : Value) → Ordered StrictEquality v
  strict_ordered Undefined z = refl
  strict_ordered Null z = refl
  strict_ordered (Boolean b) z = refl
  strict_ordered (Number n) z = refl
  strict_ordered (String s) z = refl
  strict_ordered (Symbol n) z = refl
  strict_ordered (Object n true) z = refl
  strict_ordered (Object n false) z = refl

  different_ordered : (v : Value) → Ordered StrictInequality v
  different_ordered Undefined z = refl
  different_ordered Null z = refl
  different_ordered (Boolean b) z = refl
  different_ordered (Number n) z = refl
  different_ordered (String s) z = refl
  different_ordered (Symbol n) z = refl
  different_ordered (Object n true) z = refl
  different_ordered (Object n false) z = refl

  texts_ordered : (o : BinaryOperator) → is_equality o ≡ true → (v : Value) → Ordered o v
  texts_ordered Equality u = equal_ordered
  texts_ordered Inequality u = unequal_ordered
  texts_ordered StrictEquality u = strict_ordered
  texts_ordered StrictInequality u = different_ordered
  texts_ordered o u = absurd (true≢false (sym u))

-- a `typeof` gives the text of its operand's value
typeof_gives : (a : Tree) (e : Environment) (z : State) → means e (unary Typeof a) (As Val) tt z ≡ either (means e a OfType tt z) (λ v y. ok (String (type_text v)) y) (λ x y. stop x y)
unfolding means meaning step
typeof_gives a e z = refl

-- what does the same beside each text that `typeof` gives
typeof_then : (m : Completion Value) (f g : Value → State → Completion Value) → ((v : Value) (y : State) → f (String (type_text v)) y ≡ g (String (type_text v)) y)
    → either (either m (λ v y. ok (String (type_text v)) y) (λ x y. stop x y)) f (λ x y. stop x y) ≡ either (either m (λ v y. ok (String (type_text v)) y) (λ x y. stop x y)) g (λ x y. stop x y)
unfolding either
typeof_then (ok v z) f g h = h v z
typeof_then (stop x z) f g h = refl
typeof_then (halt x z) f g h = refl
typeof_then out f g h = refl

module _ (o : BinaryOperator) (equality : is_equality o ≡ true) (a : Tree) where
  abbrev operand : Tree
  operand = unary Typeof a

  abbrev long : Tree
  long = text (codes "undefined")

  abbrev short : Tree
  short = text (codes "u")

  -- the comparison once the left side has its value
  abbrev compared_long : Environment → Naming → Value → State → Completion Value
  compared_long e names b y = either (means e long (As Val) tt y) (λ c w. run {q = λ i. As Val} e names (sides e o operand long) (operate_by o b c) w) (λ x w. stop x w)

  abbrev compared_short : Environment → Naming → Value → State → Completion Value
  compared_short e names b y = either (means e short (As Val) tt y) (λ c w. run {q = λ i. As Val} e names (sides e (ordered o) operand short) (operate_by (ordered o) b c) w) (λ x w. stop x w)

  compared_same : (e : Environment) (names : Naming) (v : Value) (y : State) → compared_long e names (String (type_text v)) y ≡ compared_short e names (String (type_text v)) y
  compared_same e names v y =
      ap (λ x. either x (λ c w. run {q = λ i. As Val} e names (sides e o operand long) (operate_by o (String (type_text v)) c) w) (λ x w. stop x w)) ((text_gives (codes "undefined")).by e y)
      ∙ either_ok (String (codes "undefined")) y _ _
      ∙ texts_ordered e names (sides e o operand long) (sides e (ordered o) operand short) o equality v y
      ∙ sym (ap (λ x. either x (λ c w. run {q = λ i. As Val} e names (sides e (ordered o) operand short) (operate_by (ordered o) (String (type_text v)) c) w) (λ x w. stop x w)) ((text_gives (codes "u")).by e y) ∙ either_ok (String (codes "u")) y _ _)

  ordered_step : (e : Environment) (names : Naming) → Alike e names (λ i. As Val) (sides e o operand long) (sides e (ordered o) operand short) (binary_step o) (binary_step (ordered o))
  unfolding meaning
  ordered_step e names z =
      ap (λ x. either x (compared_long e names) (λ x y. stop x y)) (typeof_gives a e z)
      ∙ typeof_then (means e a OfType tt z) (compared_long e names) (compared_short e names) (compared_same e names)
      ∙ sym (ap (λ x. either x (compared_short e names) (λ x y. stop x y)) (typeof_gives a e z))

  ordered_does : (e : Environment) (q : Demand) (r : Request q) (z : State) → means e (binary o operand long) q r z ≡ means e (binary (ordered o) operand short) q r z
  unfolding means step
  ordered_does e q r z = valued_alike e (names_of e o q operand long) (λ i. As Val) (sides e o operand long) (sides e (ordered o) operand short) q r (binary_step o) (binary_step (ordered o)) (ordered_step e (names_of e o q operand long)) z

  pub ordered_same : SameTree (binary o operand long) (binary (ordered o) operand short)
  ordered_same = record { by = ordered_does; read = refl }

-- 60

absent_gives : Gives absent Undefined
unfolding means meaning step either
absent_gives = record { by = λ e s. refl }

argument_kids : (e : Environment) (i : ℕ) (z : State) → meaning e (void_zero ▸ none) i (As Val) tt z ≡ meaning e (absent ▸ none) i (As Val) tt z
unfolding meaning
argument_kids e zero z = (undefined_gives void_zero (inr refl)).by e z ∙ sym (absent_gives.by e z)
argument_kids e (suc i) z = refl

yield_does : (e : Environment) (q : Demand) (r : Request q) (z : State) → means e (yields void_zero) q r z ≡ means e (yields absent) q r z
unfolding means step
yield_does e q r z = run_kids e (naming (shape.YieldExpression false) q [] 0 (summaries (absent ▸ none))) {q = λ i. As Val} (valued q r (yield_step false)) (λ i r z. meaning e (void_zero ▸ none) i (As Val) r z) (λ i r z. meaning e (absent ▸ none) i (As Val) r z) (λ i r z. argument_kids e i z) z

yield_same : SameTree (yields void_zero) (yields absent)
yield_same = record { by = yield_does; read = refl }

-- all

expression_same : (s : Seat) (n w : Tree) → SpellingRow (Expr s) n w → SameAt (Expr s) n w
expression_same s n w (ShortBoolean r) = tree_same s n w (same_by n w _ _ r.shape r.written (boolean_same r.value))
expression_same s n w (DottedMember r) = tree_same s n w (member_same n w r)
expression_same s n w (DottedTarget r) = tree_same s n w (assigned_same n w r)
expression_same s n w (DottedUpdate r) = tree_same s n w (updated_same n w r)
expression_same s n w (LooseLeft r) = tree_same s n w (same_by n w _ _ r.shape r.written (left_same r.operator r.loose r.left r.right r.undefined))
expression_same s n w (LooseRight r) = tree_same s n w (same_by n w _ _ r.shape r.written (right_same r.operator r.loose r.left r.right r.undefined))
expression_same s n w (SwappedEquality r) = subst (λ x. SameAt (Expr s) x w) (sym r.shape) (subst (λ x. SameAt (Expr s) (binary r.operator (plain r.left) r.right) x) (sym r.written) (swapped_same r.operator r.equality r.left r.right s))
expression_same s n w (BareYield r) = tree_same s n w (same_by n w _ _ r.shape r.written yield_same)
expression_same s n w (OrderedTypeof r) = tree_same s n w (same_by n w _ _ r.shape r.written (ordered_same r.operator r.equality (identifier (unresolved r.name))))
expression_same s n w (PlainTemplate r) = tree_same s n w (same_by n w _ _ r.shape r.written (text_same r.is_tail r.raw r.content))
expression_same s n w (ComparedWithVoid r) = tree_same s n w (same_by n w _ _ r.shape r.written (typed_same r.operator r.equality r.operand r.value))
expression_same s n w (Stepped r) = tree_same s n w (same_by n w _ _ r.shape r.written (step_same r.operator r.target))

-- a parent reads no more of an expression than these nodes tell of themselves
row_reads : (s : Seat) (n w : Tree) → SpellingRow (Expr s) n w → summary n ≡ summary w
row_reads s n w (ShortBoolean r) = ap summary r.shape ∙ (boolean_same r.value).read ∙ sym (ap summary r.written)
row_reads s n w (DottedMember r) = (member_same n w r).read
row_reads s n w (DottedTarget r) = (assigned_same n w r).read
row_reads s n w (DottedUpdate r) = (updated_same n w r).read
row_reads s n w (LooseLeft r) = ap summary r.shape ∙ sym (ap summary r.written)
row_reads s n w (LooseRight r) = ap summary r.shape ∙ sym (ap summary r.written)
row_reads s n w (SwappedEquality r) = ap summary r.shape ∙ sym (ap summary r.written)
row_reads s n w (BareYield r) = ap summary r.shape ∙ sym (ap summary r.written)
row_reads s n w (OrderedTypeof r) = ap summary r.shape ∙ sym (ap summary r.written)
row_reads s n w (PlainTemplate r) = ap summary r.shape ∙ sym (ap summary r.written)
row_reads s n w (ComparedWithVoid r) = ap summary r.shape ∙ sym (ap summary r.written)
row_reads s n w (Stepped r) = ap summary r.shape ∙ sym (ap summary r.written)

means_same : (p : Position) (n w : Tree) → SpellingRow p n w → SameAt p n w
means_same (Expr s) n w r = expression_same s n w r
means_same p n w r = absurd r

reads : (p : Position) (n w : Tree) → SpellingRow p n w → summary n ≡ summary w
reads (Expr s) n w r = row_reads s n w r
reads p n w r = absurd r

pub spellings_same : MeansSame SpellingContracts
spellings_same = record { same = λ p n w c. means_same p n w c.row; reads = λ p n w c. reads p n w c.row }
