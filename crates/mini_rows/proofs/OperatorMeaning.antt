-- What a row on operators writes means the same.
use Rattle.std.proofs.Common.{◌≡◌, ℕ, ℤ, Bool, true, false, List, [], Option, Some, None, refl, sym, ap, subst, ◌∙◌, inl, inr, true≢false}
use Rattle.std.specs.Prelude.{◌&&◌, ◌||◌, not, pos, if◌then◌else◌}
use Rattle.std.proofs.lemmas.Bool.{and_parts}
use Rattle.mini_model.specs.declared.name.Name.{Name}
use Rattle.mini_model.specs.declared.operator.BinaryOperator.{BinaryOperator}
use Rattle.mini_model.specs.declared.operator.BinaryOperator.TheVariants as binary_operator
use Rattle.mini_model.specs.declared.operator.UnaryOperator.TheVariants.{Typeof, Delete, UnaryPlus}
use Rattle.mini_model.specs.declared.place.Position.TheVariants.{Expr}
use Rattle.mini_model.specs.declared.seat.Seat.{Seat}
use Rattle.mini_model.specs.declared.shape.Shape.TheVariants as shape
use Rattle.mini_model.specs.Tree.{Tree, none, ◌▸◌, unary, identifier}
use Rattle.mini_model.specs.Position.{is_equality}
use Rattle.mini_model.specs.Weight.{same_text}
use Rattle.mini_node.specs.Kinds.{string}
use Rattle.mini_node.specs.Made.{string_is}
use Rattle.mini_laws.specs.Value.{VariableSet, nothing, Value, Undefined, Null, Boolean, Number, String, Symbol, Object}
use Rattle.mini_laws.specs.State.{Completion, ok, stop, halt, out, either, State, Environment}
use Rattle.mini_laws.specs.Demand.{Want, Val, As, OfType, Deleted, Reference}
use Rattle.mini_laws.specs.Command.{Naming, ret, bind, Kids, run}
use Rattle.mini_laws.specs.Naming.{summary, summaries, naming}
use Rattle.mini_laws.specs.Conversion.{Made, outside, to_number}
use Rattle.mini_laws.specs.Operators.{same_boolean, of_number, of_numbers, type_text, equals_number}
use Rattle.mini_laws.specs.Replies.{reply, numeric, of_made, of_option}
use Rattle.mini_laws.specs.Expressions.{delete_of, operate_by}
use Rattle.mini_laws.specs.Step.{step, means, meaning}
use Rattle.mini_laws.specs.Same.{Goes, Agree}
use Rattle.mini_laws.specs.Rows.{SameAt}
use Rattle.mini_laws.specs.Truth.{told}
use Rattle.mini_laws.proofs.Rows.{goes_refl}
use Rattle.mini_laws.proofs.Runs.{either_cong, either_assoc, either_eta, either_ok, either_stop, run_bind}
use Rattle.mini_laws.proofs.Truth.{coherent}
use Rattle.mini_kept.proofs.SameScopes.{same_texts, text_itself}
use Rattle.mini_terms.specs.declared.kinds.Kind.{Kind}
use Rattle.mini_terms.specs.declared.kinds.Kind.TheVariants.{Undefined as IsUndefined, Null as IsNull, Boolean as IsBoolean, Number as IsNumber, BigInt as IsBigInt}
use Rattle.mini_terms.specs.Calculated.{calculated_numbers, operand_value}
use Rattle.mini_rows.specs.ChainLinks.{is_lone}
use Rattle.mini_rows.proofs.ConstantRuns.{operand_done}
use Rattle.mini_rows.proofs.LoneReads.{deleted_alone}
use Rattle.mini_terms.specs.Folds.{is_effect_free}
use Rattle.mini_terms.specs.Kind.{kind, OfKind}
use Rattle.mini_terms.specs.Parts.{leaves_nothing}
use Rattle.mini_terms.specs.Reading.{SameWanted, stands, by_value, is_item, is_unguarded, is_plain_part, is_read_by_value}
use Rattle.mini_terms.specs.Sound.{Gives, Quiet}
use Rattle.mini_terms.proofs.Dropping.{after_cong, weak}
use Rattle.mini_terms.proofs.EffectsTable.{effect_free_sound}
use Rattle.mini_terms.proofs.Frame.{gives_any, gives_map}
use Rattle.mini_terms.proofs.KindTable.{kind_sound}
use Rattle.mini_terms.proofs.Opened.{after}
use Rattle.mini_terms.proofs.Reading.{same_in_seat}
use Rattle.mini_rows.specs.Booleans.{plus}
use Rattle.mini_rows.specs.Choices.{pair}
use Rattle.mini_rows.specs.Operators.{deleted, says_equal, is_type_text, is_other_kind, is_no_type_by, is_no_type, makes_numbers, is_bitwise, with_number, OperatorRow, Deleted, SameTypes, NeverType, LeftPlus, RightPlus, JoinedMasks}
use Rattle.mini_rows.specs.Spellings.{binary, negated_digit, numeral, text}
use Rattle.mini_rows.proofs.ChoiceRuns.{value, binary_value, binary_names, sides, pair_value, bind_free, numeric_free, made_free}
use Rattle.mini_rows.proofs.FoldMeaning.{plain_read}
use Rattle.mini_rows.proofs.OperatorBits.{masked_by, sides_free}
use Rattle.mini_rows.proofs.SequenceMeaning.{same_value}
use Rattle.mini_rows.proofs.SpellAlike.{SameTree}
use Rattle.mini_rows.proofs.SpellMeaning.{tree_same, same_by}

-- ---- what is quiet and gives one value means its literal

told_near : (D : VariableSet) (w : Want) (v : Value) (s : State) (x : Completion Value) → Quiet s x → Gives (λ u. u ≡ v) x → Goes true (λ a. Agree D) (Agree D) (Agree D) (told w x) (told w (ok v s))
unfolding Gives Quiet told either
told_near D w v s (ok u t) q p = subst (λ y. Goes true (λ a. Agree D) (Agree D) (Agree D) (told w y) (told w (ok v s))) (sym (ap (λ y. ok y t) p ∙ ap (λ y. ok v y) q)) (goes_refl D (told w (ok v s)))
told_near D w v s (stop u t) q p = absurd q
told_near D w v s (halt u t) q p = absurd q
told_near D w v s out q p = weak D (told w (ok v s))

known_same : (n w : Tree) (v : Value) → ((e : Environment) (s : State) → Quiet s (value e n s)) → ((e : Environment) (s : State) → Gives (λ u. u ≡ v) (value e n s)) → ((e : Environment) (s : State) → value e w s ≡ ok v s) → SameWanted n w
known_same n w v q g l e D X u = record { by = λ r s i. subst (λ y. Goes true (λ a. Agree D) (Agree D) (Agree D) y (means e w (As u) tt s)) (sym (coherent n u e s)) (subst (λ y. Goes true (λ a. Agree D) (Agree D) (Agree D) (told u (value e n s)) y) (sym (coherent w u e s ∙ ap (told u) (l e s))) (told_near D u v s (value e n s) (q e s) (g e s))) }

gives_either : {A B : Type 0} (P : A → Type 0) (Q : B → Type 0) (x : Completion A) (f : A → State → Completion B) → Gives P x → ((a : A) → P a → (s : State) → Gives Q (f a s)) → Gives Q (either x f (λ y z. stop y z))
unfolding Gives either
gives_either P Q (ok a s) f p u = u a p s
gives_either P Q (stop y s) f p u = tt
gives_either P Q (halt y s) f p u = tt
gives_either P Q out f p u = tt

quiet : (n : Tree) → is_effect_free n ≡ true → (e : Environment) (s : State) → Quiet s (value e n s)
quiet n h e s = effect_free_sound n e true (λ f. absurd (true≢false f)) h Val s

boolean_value : (c : Bool) (e : Environment) (z : State) → value e (negated_digit c) z ≡ ok (Boolean c) z
unfolding means meaning step either
boolean_value true e z = refl
boolean_value false e z = refl

or_right : (b c : Bool) → c ≡ true → b || c ≡ true
or_right true c e = refl
or_right false c e = e

-- what stands by its value is read by it in any seat
read_of : (s : Seat) (w : Tree) → stands w ≡ true → is_read_by_value s w ≡ true
read_of s w h = or_right (is_unguarded s.guard && is_item w) (stands w) h

boolean_same : (s : Seat) (n : Tree) (c : Bool) → stands n ≡ true → SameWanted n (negated_digit c) → SameAt (Expr s) n (negated_digit c)
boolean_same s n true h k = same_in_seat s n (negated_digit true) h (read_of s (negated_digit true) refl) k
boolean_same s n false h k = same_in_seat s n (negated_digit false) h (read_of s (negated_digit false) refl) k

boolean_read : (c : Bool) → is_plain_part (negated_digit c) ≡ true
boolean_read true = refl
boolean_read false = refl

-- ---- 2

-- what `delete` does after its operand
abbrev delete_then : Environment → Tree → Reference → State → Completion Value
delete_then e a r z = run {q = λ i. Deleted} e (naming (shape.UnaryExpression Delete) (As Val) [] 0 (summaries (a ▸ none))) (λ i r z. meaning e (a ▸ none) i Deleted r z) (bind (delete_of r) (reply (As Val) tt)) z

delete_opened : (e : Environment) (a : Tree) (s : State) → value e (unary Delete a) s ≡ either (means e a Deleted tt s) (λ r z. delete_then e a r z) (λ y z. stop y z)
unfolding means meaning step
delete_opened e a s = refl

after_deleted : (e : Environment) (a : Tree) (x : Completion Value) → either (by_value Deleted tt x) (λ r z. delete_then e a r z) (λ y z. stop y z) ≡ after x (λ v z. ok (Boolean true) z)
unfolding by_value either
after_deleted e a (ok v z) = refl
after_deleted e a (stop y z) = refl
after_deleted e a (halt y z) = refl
after_deleted e a out = refl

delete_value : (a : Tree) → is_lone a ≡ true → (e : Environment) (s : State) → value e (unary Delete a) s ≡ after (value e a s) (λ v z. ok (Boolean true) z)
delete_value a h e s = delete_opened e a s ∙ ap (λ y. either y (λ r z. delete_then e a r z) (λ y z. stop y z)) (deleted_alone e a h s) ∙ after_deleted e a (value e a s)

pair_true : (a : Tree) (e : Environment) (s : State) → value e (pair a (negated_digit true)) s ≡ after (value e a s) (λ v z. ok (Boolean true) z)
pair_true a e s = pair_value e a (negated_digit true) s ∙ either_cong (value e a s) _ _ _ _ (λ v z. boolean_value true e z) (λ x z. refl)

delete_pair : (a : Tree) → is_lone a ≡ true → SameTree (unary Delete a) (pair a (negated_digit true))
delete_pair a h = same_value _ _ refl refl refl (λ e s. delete_value a h e s ∙ sym (pair_true a e s))

quiet_after : (s : State) (c : Value) (x : Completion Value) → Quiet s x → Quiet s (after x (λ v z. ok c z))
unfolding Quiet either
quiet_after s c (ok v z) q = q
quiet_after s c (stop y z) q = absurd q
quiet_after s c (halt y z) q = absurd q
quiet_after s c out q = tt

gives_after : (c : Value) (x : Completion Value) → Gives (λ u. u ≡ c) (after x (λ v z. ok c z))
unfolding Gives either
gives_after c (ok v z) = refl
gives_after c (stop y z) = tt
gives_after c (halt y z) = tt
gives_after c out = tt

delete_known : (a : Tree) → is_lone a ≡ true → is_effect_free a ≡ true → SameWanted (unary Delete a) (negated_digit true)
delete_known a h free =
    known_same (unary Delete a) (negated_digit true) (Boolean true)
    (λ e s. subst (Quiet s) (sym (delete_value a h e s)) (quiet_after s (Boolean true) (value e a s) (quiet a free e s)))
    (λ e s. subst (Gives (λ u. u ≡ Boolean true)) (sym (delete_value a h e s)) (gives_after (Boolean true) (value e a s)))
    (boolean_value true)

delete_same : (s : Seat) (a : Tree) → is_lone a ≡ true → SameAt (Expr s) (unary Delete a) (deleted a)
delete_same s a h = go (is_effect_free a && leaves_nothing a) refl
  where
    go : (b : Bool) → is_effect_free a && leaves_nothing a ≡ b → SameAt (Expr s) (unary Delete a) (if b then negated_digit true else pair a (negated_digit true))
    go true e = boolean_same s (unary Delete a) true refl (delete_known a h (and_parts (is_effect_free a) (leaves_nothing a) e).0)
    go false e = tree_same s (unary Delete a) (pair a (negated_digit true)) (delete_pair a h)

deleted_plain : (a : Tree) → is_plain_part (deleted a) ≡ true
deleted_plain a = go (is_effect_free a && leaves_nothing a)
  where
    go : (b : Bool) → is_plain_part (if b then negated_digit true else pair a (negated_digit true)) ≡ true
    go true = refl
    go false = refl

delete_read : (a : Tree) → summary (unary Delete a) ≡ summary (deleted a)
delete_read a = sym (plain_read (deleted a) (deleted_plain a))

-- ---- equalities of texts

-- what an operator does after both operands
abbrev ends_with : Environment → BinaryOperator → Tree → Tree → Value → Value → State → Completion Value
ends_with e o a b v u y = run {q = λ i. As Val} e (binary_names o a b) (sides e a b) (operate_by o v u) y

texts_compared : (e : Environment) (o : BinaryOperator) → is_equality o ≡ true → (a b : Tree) (t u : List ℕ) (z : State) → ends_with e o a b (String t) (String u) z ≡ ok (Boolean (same_boolean (says_equal o) (same_text t u))) z
texts_compared e binary_operator.Equality h a b t u z = refl
texts_compared e binary_operator.Inequality h a b t u z = refl
texts_compared e binary_operator.StrictEquality h a b t u z = refl
texts_compared e binary_operator.StrictInequality h a b t u z = refl
texts_compared e o h a b t u z = absurd (true≢false (sym h))

same_true : (b : Bool) → same_boolean b true ≡ b
same_true true = refl
same_true false = refl

same_false : (b : Bool) → same_boolean b false ≡ not b
same_false true = refl
same_false false = refl

-- what `typeof` gives
abbrev TypeText : Value → Type 0
TypeText v = (u : Value) × (v ≡ String (type_text u))

typeof_opened : (e : Environment) (a : Tree) (s : State) → value e (unary Typeof a) s ≡ either (means e a OfType tt s) (λ v y. ok (String (type_text v)) y) (λ y z. stop y z)
unfolding means meaning step
typeof_opened e a s = refl

typeof_gives : (e : Environment) (a : Tree) (s : State) → Gives TypeText (value e (unary Typeof a) s)
unfolding Gives
typeof_gives e a s = subst (Gives TypeText) (sym (typeof_opened e a s)) (gives_either (λ v. Unit {0}) TypeText (means e a OfType tt s) (λ v y. ok (String (type_text v)) y) (gives_any (means e a OfType tt s)) (λ v p y. (v, refl)))

-- ---- 16

types_free : (o : BinaryOperator) → is_equality o ≡ true → (x : Name) → is_effect_free (binary o (unary Typeof (identifier x)) (unary Typeof (identifier x))) ≡ true
types_free binary_operator.Equality h x = refl
types_free binary_operator.Inequality h x = refl
types_free binary_operator.StrictEquality h x = refl
types_free binary_operator.StrictInequality h x = refl
types_free o h x = absurd (true≢false (sym h))

module _ (e : Environment) (o : BinaryOperator) (h : is_equality o ≡ true) (t : Tree) where
  abbrev Says : Value → Type 0
  Says r = r ≡ Boolean (says_equal o)

  said_itself : (v : Value) → TypeText v → (z : State) → ends_with e o t t v v z ≡ ok (Boolean (says_equal o)) z
  said_itself v (u, k) z =
      ap (λ w. ends_with e o t t w w z) k
      ∙ texts_compared e o h t t (type_text u) (type_text u) z
      ∙ ap (λ b. ok (Boolean (same_boolean (says_equal o) b)) z) (text_itself (type_text u))
      ∙ ap (λ b. ok (Boolean b) z) (same_true (says_equal o))

  -- a quiet operand gives the same value again
  twice : (s : State) (x : Completion Value) → value e t s ≡ x → Quiet s x → Gives TypeText x → Gives Says (either x (λ v z. either (value e t z) (λ u y. ends_with e o t t v u y) (λ x y. stop x y)) (λ x z. stop x z))
  unfolding Gives Quiet either
  twice s (ok v z) k q p =
      let again : value e t z ≡ ok v z = ap (λ y. value e t y) q ∙ k in
      subst (λ y. Gives Says (either y (λ u y. ends_with e o t t v u y) (λ x y. stop x y))) (sym again) (subst (Gives Says) (sym (said_itself v p z)) refl)
  twice s (stop y z) k q p = absurd q
  twice s (halt y z) k q p = absurd q
  twice s out k q p = tt

types_same : (o : BinaryOperator) → is_equality o ≡ true → (x : Name) → SameWanted (binary o (unary Typeof (identifier x)) (unary Typeof (identifier x))) (negated_digit (says_equal o))
types_same o h x =
    let t : Tree = unary Typeof (identifier x) in
    known_same (binary o t t) (negated_digit (says_equal o)) (Boolean (says_equal o))
    (quiet (binary o t t) (types_free o h x))
    (λ e s. subst (Gives (λ r. r ≡ Boolean (says_equal o))) (sym (binary_value e o t t s)) (twice e o h t s (value e t s) refl (quiet t refl e s) (typeof_gives e (identifier x) s)))
    (boolean_value (says_equal o))

-- ---- 17

-- a value that no text of `typeof` equals
abbrev Apart : Value → Type 0
Apart Undefined = Unit {0}
Apart Null = Unit {0}
Apart (Boolean b) = Unit {0}
Apart (Number n) = Unit {0}
Apart (String r) = is_type_text r ≡ false
Apart v = ⊥

other_apart : (k : Kind) (v : Value) → is_other_kind k ≡ true → OfKind k v → Apart v
other_apart IsUndefined Undefined h p = tt
other_apart IsUndefined v h p = absurd p
other_apart IsNull Null h p = tt
other_apart IsNull v h p = absurd p
other_apart IsBoolean (Boolean b) h p = tt
other_apart IsBoolean v h p = absurd p
other_apart IsNumber (Number n) h p = tt
other_apart IsNumber v h p = absurd p
other_apart IsBigInt v h p = absurd p
other_apart k v h p = absurd (true≢false (sym h))

not_true : (b : Bool) → not b ≡ true → b ≡ false
not_true false h = refl
not_true true h = absurd (true≢false (sym h))

text_value : (t : List ℕ) (e : Environment) (z : State) → value e (text t) z ≡ ok (String t) z
unfolding means step
text_value t e z = refl

right_gives : (b : Tree) → is_no_type b ≡ true → (e : Environment) (z : State) → Gives Apart (value e b z)
unfolding Gives
right_gives b h e z = go (string b) refl h
  where
    go : (c : Option (List ℕ)) → string b ≡ c → is_no_type_by c (kind b) ≡ true → Gives Apart (value e b z)
    go (Some r) k h = subst (Gives Apart) (sym (ap (λ t. value e t z) (string_is b r k) ∙ text_value r e z)) (not_true (is_type_text r) h)
    go None k h = gives_map (OfKind (kind b)) Apart (λ v p. other_apart (kind b) v h p) (value e b z) (kind_sound b e z)

known_type : (v : Value) → is_type_text (type_text v) ≡ true
known_type Undefined = refl
known_type Null = refl
known_type (Boolean b) = refl
known_type (Number n) = refl
known_type (String s) = refl
known_type (Symbol n) = refl
known_type (Object n true) = refl
known_type (Object n false) = refl

other_text : (v : Value) (r : List ℕ) → is_type_text r ≡ false → same_text (type_text v) r ≡ false
other_text v r h = go (same_text (type_text v) r) refl
  where
    go : (b : Bool) → same_text (type_text v) r ≡ b → b ≡ false
    go false e = refl
    go true e = absurd (true≢false (sym (known_type v) ∙ ap is_type_text (same_texts (type_text v) r e) ∙ h))

no_number : (v : Value) → to_number (String (type_text v)) ≡ outside
no_number Undefined = refl
no_number Null = refl
no_number (Boolean b) = refl
no_number (Number n) = refl
no_number (String s) = refl
no_number (Symbol n) = refl
no_number (Object n true) = refl
no_number (Object n false) = refl

-- a comparison with a number is outside the model where the text is none
no_comparison : (e : Environment) (names : Naming) (K : Kids (λ i. As Val)) (P : Value → Type 0) (f : Bool → Bool) (m : ℤ) (r : Made ℤ) → r ≡ outside → (z : State) → Gives P (run {q = λ i. As Val} e names K (bind (of_option (equals_number r m)) (λ c. ret (Boolean (f c)))) z)
unfolding Gives
no_comparison e names K P f m r h z = subst (λ (r : Made ℤ). Gives P (run {q = λ i. As Val} e names K (bind (of_option (equals_number r m)) (λ c. ret (Boolean (f c)))) z)) (sym h) tt

module _ (e : Environment) (a b : Tree) (w : Value) (z : State) where
  abbrev Differs : BinaryOperator → Value → Type 0
  Differs o u = Gives (λ r. r ≡ Boolean (not (says_equal o))) (ends_with e o a b (String (type_text w)) u z)

  beside_number : (o : BinaryOperator) → is_equality o ≡ true → (m : ℤ) → Differs o (Number m)
  unfolding Gives
  beside_number binary_operator.Equality h m = no_comparison e (binary_names binary_operator.Equality a b) (sides e a b) (λ r. r ≡ Boolean false) (λ c. c) m (to_number (String (type_text w))) (no_number w) z
  beside_number binary_operator.Inequality h m = no_comparison e (binary_names binary_operator.Inequality a b) (sides e a b) (λ r. r ≡ Boolean true) not m (to_number (String (type_text w))) (no_number w) z
  beside_number binary_operator.StrictEquality h m = refl
  beside_number binary_operator.StrictInequality h m = refl
  beside_number o h m = absurd (true≢false (sym h))

  beside_boolean : (o : BinaryOperator) → is_equality o ≡ true → (c : Bool) → Differs o (Boolean c)
  unfolding Gives
  beside_boolean binary_operator.Equality h true = no_comparison e (binary_names binary_operator.Equality a b) (sides e a b) (λ r. r ≡ Boolean false) (λ c. c) (pos 1) (to_number (String (type_text w))) (no_number w) z
  beside_boolean binary_operator.Equality h false = no_comparison e (binary_names binary_operator.Equality a b) (sides e a b) (λ r. r ≡ Boolean false) (λ c. c) (pos 0) (to_number (String (type_text w))) (no_number w) z
  beside_boolean binary_operator.Inequality h true = no_comparison e (binary_names binary_operator.Inequality a b) (sides e a b) (λ r. r ≡ Boolean true) not (pos 1) (to_number (String (type_text w))) (no_number w) z
  beside_boolean binary_operator.Inequality h false = no_comparison e (binary_names binary_operator.Inequality a b) (sides e a b) (λ r. r ≡ Boolean true) not (pos 0) (to_number (String (type_text w))) (no_number w) z
  beside_boolean binary_operator.StrictEquality h c = refl
  beside_boolean binary_operator.StrictInequality h c = refl
  beside_boolean o h c = absurd (true≢false (sym h))

  beside_undefined : (o : BinaryOperator) → is_equality o ≡ true → Differs o Undefined
  unfolding Gives
  beside_undefined binary_operator.Equality h = refl
  beside_undefined binary_operator.Inequality h = refl
  beside_undefined binary_operator.StrictEquality h = refl
  beside_undefined binary_operator.StrictInequality h = refl
  beside_undefined o h = absurd (true≢false (sym h))

  beside_null : (o : BinaryOperator) → is_equality o ≡ true → Differs o Null
  unfolding Gives
  beside_null binary_operator.Equality h = refl
  beside_null binary_operator.Inequality h = refl
  beside_null binary_operator.StrictEquality h = refl
  beside_null binary_operator.StrictInequality h = refl
  beside_null o h = absurd (true≢false (sym h))

  beside_text : (o : BinaryOperator) → is_equality o ≡ true → (r : List ℕ) → is_type_text r ≡ false → Differs o (String r)
  unfolding Gives
  beside_text o h r k =
      subst (Gives (λ r. r ≡ Boolean (not (says_equal o))))
      (sym (texts_compared e o h a b (type_text w) r z ∙ ap (λ c. ok (Boolean (same_boolean (says_equal o) c)) z) (other_text w r k) ∙ ap (λ c. ok (Boolean c) z) (same_false (says_equal o))))
      refl

  differs : (o : BinaryOperator) → is_equality o ≡ true → (u : Value) → Apart u → Differs o u
  differs o h Undefined p = beside_undefined o h
  differs o h Null p = beside_null o h
  differs o h (Boolean c) p = beside_boolean o h c
  differs o h (Number m) p = beside_number o h m
  differs o h (String r) p = beside_text o h r p
  differs o h u p = absurd p

module _ (o : BinaryOperator) (h : is_equality o ≡ true) (a b : Tree) (k : is_no_type b ≡ true) where
  abbrev compared : Tree
  compared = binary o (unary Typeof a) b

  abbrev Unlike : Value → Type 0
  Unlike r = r ≡ Boolean (not (says_equal o))

  differ_after : (e : Environment) (v : Value) → TypeText v → (z : State) → Gives Unlike (either (value e b z) (λ u y. ends_with e o (unary Typeof a) b v u y) (λ x y. stop x y))
  unfolding Gives
  differ_after e v (w, p) z =
      gives_either Apart Unlike (value e b z) (λ u y. ends_with e o (unary Typeof a) b v u y) (right_gives b k e z)
      (λ u q y. subst (λ t. Gives Unlike (ends_with e o (unary Typeof a) b t u y)) (sym p) (differs e (unary Typeof a) b w y o h u q))

  differ_all : (e : Environment) (s : State) → Gives Unlike (value e compared s)
  unfolding Gives
  differ_all e s =
      subst (Gives Unlike) (sym (binary_value e o (unary Typeof a) b s))
      (gives_either TypeText Unlike (value e (unary Typeof a) s) (λ v z. either (value e b z) (λ u y. ends_with e o (unary Typeof a) b v u y) (λ x y. stop x y)) (typeof_gives e a s) (λ v p z. differ_after e v p z))

  type_differs : is_effect_free compared ≡ true → SameWanted compared (negated_digit (not (says_equal o)))
  type_differs free = known_same compared (negated_digit (not (says_equal o))) (Boolean (not (says_equal o))) (quiet compared free) differ_all (boolean_value (not (says_equal o)))

value_near : (v : Value) (s : State) (x : Completion Value) → Quiet s x → Gives (λ u. u ≡ v) x → Goes true (λ a. Agree nothing) (Agree nothing) (Agree nothing) x (ok v s)
unfolding Gives Quiet
value_near v s (ok u t) q p = subst (λ y. Goes true (λ a. Agree nothing) (Agree nothing) (Agree nothing) y (ok v s)) (sym (ap (λ y. ok y t) p ∙ ap (λ y. ok v y) q)) (goes_refl nothing (ok v s))
value_near v s (stop u t) q p = absurd q
value_near v s (halt u t) q p = absurd q
value_near v s out q p = weak nothing (ok v s)

-- and so in one environment, where the comparison does nothing
pub type_near : (e : Environment) (o : BinaryOperator) → is_equality o ≡ true → (a b : Tree) → is_no_type b ≡ true → (s : State) → Quiet s (value e (binary o (unary Typeof a) b) s) → Goes true (λ v. Agree nothing) (Agree nothing) (Agree nothing) (value e (binary o (unary Typeof a) b) s) (value e (negated_digit (not (says_equal o))) s)
type_near e o h a b k s q =
    let says : Value = Boolean (not (says_equal o)) in
    subst (Goes true (λ v. Agree nothing) (Agree nothing) (Agree nothing) (value e (binary o (unary Typeof a) b) s)) (sym (boolean_value (not (says_equal o)) e s))
    (value_near says s (value e (binary o (unary Typeof a) b) s) q (differ_all o h a b k e s))

-- ---- 56

number_value : (m : ℤ) (e : Environment) (z : State) → value e (numeral m) z ≡ ok (Number m) z
unfolding means step
number_value m e z = refl

abbrev plus_names : Tree → Naming
plus_names a = naming (shape.UnaryExpression UnaryPlus) (As Val) [] 0 (summaries (a ▸ none))

abbrev under_plus : Environment → Tree → Kids (λ i. As Val)
under_plus e a i r z = meaning e (a ▸ none) i (As Val) r z

-- the number that is made of a value
abbrev numbered : Environment → Tree → Value → State → Completion Value
numbered e a v z = either (run {q = λ i. As Val} e (plus_names a) (under_plus e a) (numeric v) z) (λ x y. ok (Number x) y) (λ x y. stop x y)

plus_opened : (e : Environment) (a : Tree) (s : State) → value e (plus a) s ≡ either (value e a s) (λ v z. numbered e a v z) (λ x z. stop x z)
unfolding means meaning step
plus_opened e a s =
    let number = λ (n : ℤ). of_made {σ = λ i. As Val} (of_number UnaryPlus n) in
    either_cong (value e a s) _ _ _ _
    (λ v z. run_bind e (plus_names a) (bind (numeric v) number) (reply (As Val) tt) (under_plus e a) z ∙ either_eta (run {q = λ i. As Val} e (plus_names a) (under_plus e a) (bind (numeric v) number) z) ∙ run_bind e (plus_names a) (numeric v) number (under_plus e a) z) (λ x z. refl)

operates : (o : BinaryOperator) → makes_numbers o ≡ true → (v u : Value) → operate_by {σ = λ i. As Val} o v u ≡ bind (numeric v) (λ x. bind (numeric u) (λ y. of_made (of_numbers o x y)))
operates binary_operator.Subtraction h v u = refl
operates binary_operator.Multiplication h v u = refl
operates binary_operator.Division h v u = refl
operates binary_operator.Remainder h v u = refl
operates binary_operator.Exponential h v u = refl
operates binary_operator.BitwiseAnd h v u = refl
operates binary_operator.BitwiseXor h v u = refl
operates binary_operator.BitwiseOr h v u = refl
operates binary_operator.ShiftLeft h v u = refl
operates binary_operator.ShiftRight h v u = refl
operates binary_operator.ShiftRightZeroFill h v u = refl
operates o h v u = absurd (true≢false (sym h))

-- a number that is made is not made one again
module _ (e : Environment) (t : Tree) (names : Naming) (K : Kids (λ i. As Val)) (g : ℤ → Made Value) (then_number : Value → State → Completion Value) (known : (x : ℤ) (y : State) → then_number (Number x) y ≡ run {q = λ i. As Val} e names K (of_made (g x)) y) where
  made_once : (v : Value) (z : State) → either (numbered e t v z) then_number (λ x y. stop x y) ≡ run {q = λ i. As Val} e names K (bind (numeric v) (λ x. of_made (g x))) z
  made_once v z =
      either_assoc (run {q = λ i. As Val} e (plus_names t) (under_plus e t) (numeric v) z) _ _ _ _
      ∙ either_cong (run {q = λ i. As Val} e (plus_names t) (under_plus e t) (numeric v) z) _ (λ x y. run {q = λ i. As Val} e names K (of_made (g x)) y) _ (λ x y. stop x y) (λ x y. either_ok (Number x) y _ _ ∙ known x y) (λ x y. either_stop x y _ _)
      ∙ ap (λ c. either c (λ x y. run {q = λ i. As Val} e names K (of_made (g x)) y) (λ x y. stop x y)) (numeric_free e (plus_names t) names (λ i. As Val) (λ i. As Val) (under_plus e t) K v z)
      ∙ sym (run_bind e names (numeric v) (λ x. of_made (g x)) K z)

  plus_once : (s : State) → either (value e (plus t) s) then_number (λ x y. stop x y) ≡ either (value e t s) (λ v z. run {q = λ i. As Val} e names K (bind (numeric v) (λ x. of_made (g x))) z) (λ x z. stop x z)
  plus_once s =
      ap (λ c. either c then_number (λ x y. stop x y)) (plus_opened e t s)
      ∙ either_assoc (value e t s) _ _ _ _
      ∙ either_cong (value e t s) _ (λ v z. run {q = λ i. As Val} e names K (bind (numeric v) (λ x. of_made (g x))) z) _ (λ x y. stop x y) made_once (λ x y. either_stop x y _ _)

module _ (e : Environment) (o : BinaryOperator) (h : makes_numbers o ≡ true) where
  -- an operator of two numbers, in any node
  of_two : (a b c d : Tree) (x y : ℤ) (z : State) → ends_with e o a b (Number x) (Number y) z ≡ run {q = λ i. As Val} e (binary_names o c d) (sides e c d) (of_made (of_numbers o x y)) z
  of_two a b c d x y z =
      ap (λ k. run {q = λ i. As Val} e (binary_names o a b) (sides e a b) k z) (operates o h (Number x) (Number y))
      ∙ made_free e (binary_names o a b) (binary_names o c d) (λ i. As Val) (λ i. As Val) (sides e a b) (sides e c d) (of_numbers o x y) z

  -- of a value and what does nothing but give a number
  module _ (k : Tree) (m : ℤ) (known : (z : State) → value e k z ≡ ok (Number m) z) where
    number_last : (a : Tree) (s : State) → value e (binary o a k) s ≡ either (value e a s) (λ v z. ends_with e o a k v (Number m) z) (λ x z. stop x z)
    number_last a s =
        binary_value e o a k s
        ∙ either_cong (value e a s) _ _ _ _ (λ v z. ap (λ c. either c (λ w y. ends_with e o a k v w y) (λ x y. stop x y)) (known z) ∙ either_ok (Number m) z _ _) (λ x z. refl)

    left_value : (a : Tree) (s : State) → value e (binary o (plus a) k) s ≡ value e (binary o a k) s
    left_value a s =
        number_last (plus a) s
        ∙ plus_once e a (binary_names o a k) (sides e a k) (λ x. of_numbers o x m) (λ v y. ends_with e o (plus a) k v (Number m) y) (λ x y. of_two (plus a) k a k x m y) s
        ∙ either_cong (value e a s) _ _ _ _ (λ v z. ap (λ c. run {q = λ i. As Val} e (binary_names o a k) (sides e a k) c z) (sym (operates o h v (Number m)))) (λ x z. refl)
        ∙ sym (number_last a s)

  literal_last : (a : Tree) (m : ℤ) (s : State) → value e (binary o a (numeral m)) s ≡ either (value e a s) (λ v z. ends_with e o a (numeral m) v (Number m) z) (λ x z. stop x z)
  literal_last a m s = number_last (numeral m) m (number_value m e) a s

  -- after a number the right side is made one
  after_number : (a b : Tree) (v : Value) → OfKind IsNumber v → (z : State) → either (value e (plus b) z) (λ u y. ends_with e o a (plus b) v u y) (λ x y. stop x y) ≡ either (value e b z) (λ u y. ends_with e o a b v u y) (λ x y. stop x y)
  after_number a b (Number x) p z =
      plus_once e b (binary_names o a b) (sides e a b) (λ y. of_numbers o x y) (λ u y. ends_with e o a (plus b) (Number x) u y) (λ n y. of_two a (plus b) a b x n y) z
      ∙ either_cong (value e b z) _ _ _ _ (λ u y. ap (λ k. run {q = λ i. As Val} e (binary_names o a b) (sides e a b) k y) (sym (operates o h (Number x) u))) (λ x y. refl)
  after_number a b v p z = absurd p

  right_value : (a b : Tree) → kind a ≡ IsNumber → (s : State) → value e (binary o a (plus b)) s ≡ value e (binary o a b) s
  right_value a b k s =
      binary_value e o a (plus b) s
      ∙ after_cong (OfKind IsNumber) (value e a s) _ (λ v z. either (value e b z) (λ u y. ends_with e o a b v u y) (λ x y. stop x y)) (subst (λ j. Gives (OfKind j) (value e a s)) k (kind_sound a e s)) (λ v p z. after_number a b v p z)
      ∙ sym (binary_value e o a b s)

left_alike : (o : BinaryOperator) → makes_numbers o ≡ true → (a k : Tree) (m : ℤ) → operand_value k ≡ Some (Number m) → SameTree (binary o (plus a) k) (binary o a k)
left_alike o h a k m known = same_value _ _ refl refl refl (λ e s. left_value e o h k m (λ z. operand_done e k (Number m) known z) a s)

right_alike : (o : BinaryOperator) → makes_numbers o ≡ true → (a b : Tree) → kind a ≡ IsNumber → SameTree (binary o a (plus b)) (binary o a b)
right_alike o h a b k = same_value _ _ refl refl refl (λ e s. right_value e o h a b k s)

-- ---- 8

bitwise_numbers : (o : BinaryOperator) → is_bitwise o ≡ true → makes_numbers o ≡ true
bitwise_numbers binary_operator.BitwiseAnd h = refl
bitwise_numbers binary_operator.BitwiseXor h = refl
bitwise_numbers binary_operator.BitwiseOr h = refl
bitwise_numbers o h = absurd (true≢false (sym h))

module _ (e : Environment) (o : BinaryOperator) (h : is_bitwise o ≡ true) (a : Tree) (d r : ℤ) where
  abbrev numeric_operator : makes_numbers o ≡ true
  numeric_operator = bitwise_numbers o h

  -- of an operand and a number
  abbrev over_number : ℤ → Value → State → Completion Value
  over_number c v z = run {q = λ i. As Val} e (binary_names o a (numeral c)) (sides e a (numeral c)) (bind (numeric v) (λ x. of_made (of_numbers o x c))) z

  right_opened : (c : ℤ) (s : State) → value e (with_number o true a c) s ≡ either (value e a s) (λ v z. over_number c v z) (λ x z. stop x z)
  right_opened c s = literal_last e o numeric_operator a c s ∙ either_cong (value e a s) _ _ _ _ (λ v z. ap (λ k. run {q = λ i. As Val} e (binary_names o a (numeral c)) (sides e a (numeral c)) k z) (operates o numeric_operator v (Number c))) (λ x z. refl)

  -- with the number on the left the same
  turned_around : (c : ℤ) (v : Value) (z : State) → ends_with e o (numeral c) a (Number c) v z ≡ over_number c v z
  turned_around c v z =
      ap (λ k. run {q = λ i. As Val} e (binary_names o (numeral c) a) (sides e (numeral c) a) k z) (operates o numeric_operator (Number c) v)
      ∙ bind_free e (binary_names o (numeral c) a) (binary_names o a (numeral c)) (λ i. As Val) (λ i. As Val) (sides e (numeral c) a) (sides e a (numeral c)) (numeric v) (numeric v) (λ x. of_made (of_numbers o c x)) (λ x. of_made (of_numbers o x c))
      (numeric_free e (binary_names o (numeral c) a) (binary_names o a (numeral c)) (λ i. As Val) (λ i. As Val) (sides e (numeral c) a) (sides e a (numeral c)) v)
      (λ x y. made_free e (binary_names o (numeral c) a) (binary_names o a (numeral c)) (λ i. As Val) (λ i. As Val) (sides e (numeral c) a) (sides e a (numeral c)) (of_numbers o c x) y ∙ ap (λ k. run {q = λ i. As Val} e (binary_names o a (numeral c)) (sides e a (numeral c)) (of_made k) y) (sides_free o h c x)) z

  left_opened : (c : ℤ) (s : State) → value e (with_number o false a c) s ≡ either (value e a s) (λ v z. over_number c v z) (λ x z. stop x z)
  left_opened c s =
      binary_value e o (numeral c) a s
      ∙ ap (λ k. either k (λ v z. either (value e a z) (λ u y. ends_with e o (numeral c) a v u y) (λ x y. stop x y)) (λ x z. stop x z)) (number_value c e s)
      ∙ either_ok (Number c) s _ _
      ∙ either_cong (value e a s) _ _ _ _ (λ u y. turned_around c u y) (λ x y. refl)

  opened : (on_right : Bool) (c : ℤ) (s : State) → value e (with_number o on_right a c) s ≡ either (value e a s) (λ v z. over_number c v z) (λ x z. stop x z)
  opened true c s = right_opened c s
  opened false c s = left_opened c s

  module _ (on_right : Bool) (c : ℤ) (known : calculated_numbers o c d ≡ Some (Number r)) where
    abbrev inner : Tree
    inner = with_number o on_right a c

    -- the operator once more
    abbrev again : Value → State → Completion Value
    again v z = ends_with e o inner (numeral d) v (Number d) z

    number_again : (x : ℤ) (z : State) → either (run {q = λ i. As Val} e (binary_names o a (numeral c)) (sides e a (numeral c)) (of_made (of_numbers o x c)) z) again (λ x y. stop x y) ≡ run {q = λ i. As Val} e (binary_names o a (numeral r)) (sides e a (numeral r)) (of_made (of_numbers o x r)) z
    number_again x z =
        let m = masked_by o h x c d r known in
        ap (λ k. either (run {q = λ i. As Val} e (binary_names o a (numeral c)) (sides e a (numeral c)) (of_made k) z) again (λ x y. stop x y)) m.first
        ∙ either_ok (Number m.number) z _ _
        ∙ of_two e o numeric_operator inner (numeral d) a (numeral r) m.number d z
        ∙ ap (λ k. run {q = λ i. As Val} e (binary_names o a (numeral r)) (sides e a (numeral r)) (of_made k) z) m.second

    value_again : (v : Value) (z : State) → either (over_number c v z) again (λ x y. stop x y) ≡ over_number r v z
    value_again v z =
        ap (λ k. either k again (λ x y. stop x y)) (run_bind e (binary_names o a (numeral c)) (numeric v) (λ x. of_made (of_numbers o x c)) (sides e a (numeral c)) z)
        ∙ either_assoc (run {q = λ i. As Val} e (binary_names o a (numeral c)) (sides e a (numeral c)) (numeric v) z) _ _ _ _
        ∙ either_cong (run {q = λ i. As Val} e (binary_names o a (numeral c)) (sides e a (numeral c)) (numeric v) z) _ (λ x y. run {q = λ i. As Val} e (binary_names o a (numeral r)) (sides e a (numeral r)) (of_made (of_numbers o x r)) y) _ (λ x y. stop x y) number_again (λ x y. either_stop x y _ _)
        ∙ ap (λ k. either k (λ x y. run {q = λ i. As Val} e (binary_names o a (numeral r)) (sides e a (numeral r)) (of_made (of_numbers o x r)) y) (λ x y. stop x y)) (numeric_free e (binary_names o a (numeral c)) (binary_names o a (numeral r)) (λ i. As Val) (λ i. As Val) (sides e a (numeral c)) (sides e a (numeral r)) v z)
        ∙ sym (run_bind e (binary_names o a (numeral r)) (numeric v) (λ x. of_made (of_numbers o x r)) (sides e a (numeral r)) z)

    pub masked_value : (s : State) → value e (binary o inner (numeral d)) s ≡ value e (binary o a (numeral r)) s
    masked_value s =
        literal_last e o numeric_operator inner d s
        ∙ ap (λ k. either k again (λ x z. stop x z)) (opened on_right c s)
        ∙ either_assoc (value e a s) _ _ _ _
        ∙ either_cong (value e a s) _ (λ v z. over_number r v z) _ (λ x z. stop x z) value_again (λ x z. either_stop x z _ _)
        ∙ sym (right_opened r s)

-- an operator of bits doesn't ask on which side the number stands
pub turned_alike : (o : BinaryOperator) → is_bitwise o ≡ true → (a : Tree) (c : ℤ) → SameTree (binary o (numeral c) a) (binary o a (numeral c))
turned_alike o h a c = same_value _ _ refl refl refl (λ e s. opened e o h a c c false c s ∙ sym (opened e o h a c c true c s))

masked_alike : (o : BinaryOperator) → is_bitwise o ≡ true → (b : Bool) (a : Tree) (c d r : ℤ) → calculated_numbers o c d ≡ Some (Number r) → SameTree (binary o (with_number o b a c) (numeral d)) (binary o a (numeral r))
masked_alike o h b a c d r k = same_value _ _ refl refl refl (λ e s. masked_value e o h a d r b c k s)

-- ---- all

same_by_parts : (s : Seat) (n w t u : Tree) → n ≡ t → w ≡ u → SameAt (Expr s) t u → SameAt (Expr s) n w
same_by_parts s n w t u e f h = subst (λ x. SameAt (Expr s) x w) (sym e) (subst (SameAt (Expr s) t) (sym f) h)

pub operator_same : (s : Seat) (n w : Tree) → OperatorRow s n w → SameAt (Expr s) n w
operator_same s n w (Deleted r) = same_by_parts s n w _ _ r.shape r.written (delete_same s r.operand r.value)
operator_same s n w (SameTypes r) = same_by_parts s n w _ _ r.shape r.written (boolean_same s _ (says_equal r.operator) refl (types_same r.operator r.equality r.name))
operator_same s n w (NeverType r) = same_by_parts s n w _ _ r.shape r.written (boolean_same s _ (not (says_equal r.operator)) refl (type_differs r.operator r.equality r.operand r.right r.known r.effect_free))
operator_same s n w (LeftPlus r) = tree_same s n w (same_by n w _ _ r.shape r.written (left_alike r.operator r.numeric r.operand r.right r.number r.known))
operator_same s n w (RightPlus r) = tree_same s n w (same_by n w _ _ r.shape r.written (right_alike r.operator r.numeric r.left r.operand r.known))
operator_same s n w (JoinedMasks r) = tree_same s n w (same_by n w _ _ r.shape r.written (masked_alike r.operator r.bitwise r.on_right r.operand r.first r.second r.joined r.known))

pub operator_read : (s : Seat) (n w : Tree) → OperatorRow s n w → summary n ≡ summary w
operator_read s n w (Deleted r) = ap summary r.shape ∙ delete_read r.operand ∙ sym (ap summary r.written)
operator_read s n w (SameTypes r) = ap summary r.shape ∙ sym (ap summary r.written ∙ plain_read (negated_digit (says_equal r.operator)) (boolean_read (says_equal r.operator)))
operator_read s n w (NeverType r) = ap summary r.shape ∙ sym (ap summary r.written ∙ plain_read (negated_digit (not (says_equal r.operator))) (boolean_read (not (says_equal r.operator))))
operator_read s n w (LeftPlus r) = ap summary r.shape ∙ (left_alike r.operator r.numeric r.operand r.right r.number r.known).read ∙ sym (ap summary r.written)
operator_read s n w (RightPlus r) = ap summary r.shape ∙ (right_alike r.operator r.numeric r.left r.operand r.known).read ∙ sym (ap summary r.written)
operator_read s n w (JoinedMasks r) = ap summary r.shape ∙ (masked_alike r.operator r.bitwise r.on_right r.operand r.first r.second r.joined r.known).read ∙ sym (ap summary r.written)
