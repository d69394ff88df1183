-- What is calculated does nothing but give its value.
use Rattle.std.proofs.Common.{◌≡◌, ℕ, ℤ, List, [], ◌∷◌, ◌++◌, Option, Some, None, refl, sym, ap, subst, ◌∙◌, true≢false}
use Rattle.std.specs.Prelude.{not, Bool, true, false}
use Rattle.mini_model.specs.declared.name.Name.{Name}
use Rattle.mini_model.specs.declared.operator.BinaryOperator.{BinaryOperator}
use Rattle.mini_model.specs.declared.operator.BinaryOperator.TheVariants as binary_operator
use Rattle.mini_model.specs.declared.operator.LogicalOperator.{LogicalOperator}
use Rattle.mini_model.specs.declared.operator.LogicalOperator.TheVariants.{Or, And, Coalesce}
use Rattle.mini_model.specs.declared.operator.UnaryOperator.{UnaryOperator}
use Rattle.mini_model.specs.declared.operator.UnaryOperator.TheVariants as unary_operator
use Rattle.mini_model.specs.declared.shape.Shape.{Shape}
use Rattle.mini_model.specs.declared.shape.Shape.TheVariants as shape
use Rattle.mini_model.specs.Tree.{Tree, Trees, node, none, ◌▸◌, children, unary, logical, conditional}
use Rattle.mini_node.specs.Children.{part}
use Rattle.mini_node.specs.Kinds.{binary}
use Rattle.mini_laws.specs.Value.{Value, Undefined, Null, Boolean, Number, String, Symbol, Object, choose, truth, is_nullish}
use Rattle.mini_laws.specs.State.{State, Hint, Completion, ok, stop, either, Environment}
use Rattle.mini_laws.specs.Command.{Naming, Command, Kids, ret, bind, run}
use Rattle.mini_laws.specs.Conversion.{Made, makes, raises, outside, both, to_number, is_safe}
use Rattle.mini_laws.specs.Demand.{Val, As, OfType}
use Rattle.mini_laws.specs.Expressions.{first_kind, interleaved, operate_by}
use Rattle.mini_laws.specs.Naming.{NameKind, UndefinedName, naming, summaries, kinds, facts, texts_all}
use Rattle.mini_laws.specs.Operators.{of_number, of_numbers, by_numbers, of_primitives, loosely_equal, type_text}
use Rattle.mini_laws.specs.Replies.{reply, numeric, primitive, hint_of, loosely, of_made, of_option}
use Rattle.mini_laws.specs.Step.{step, means, meaning}
use Rattle.mini_laws.specs.Truth.{told}
use Rattle.mini_laws.proofs.Runs.{either_cong, either_eta, either_ok, run_bind}
use Rattle.mini_terms.specs.Calculated.{undefined_if, leaf_value, as_number, over_number, calculated_unary, unary_value, operand_depth, operand_value}
use Rattle.mini_terms.specs.Const.{made, mapped, decided, binary_value, binary_const, logical_const, conditional_const, cons_text, text_of}
use Rattle.mini_terms.specs.Kind.{is_undefined_name}
use Rattle.mini_terms.specs.Reading.{stands, by_value}
use Rattle.mini_terms.proofs.Calculated.{Form, of_unary, of_binary, Choice, of_logical, of_conditional, of_sequence, of_template, within}
use Rattle.mini_terms.specs.Templates.{template, text_between, text_value}
use Rattle.mini_terms.proofs.Fine.{IsPrimitive}
use Rattle.mini_terms.proofs.Joined.{texts_by, Told, told as told_by, text_is}
use Rattle.mini_terms.proofs.Opened.{negation_opened, and_opened, or_opened, coalesce_opened}
use Rattle.mini_terms.proofs.Primitive.{leaf_primitive, unary_primitive, binary_primitive, decided_primitive, branch_primitive}
use Rattle.mini_terms.proofs.Reading.{read_by_value}
use Rattle.mini_rows.proofs.ChoiceRuns.{value, sides, binary_names, binary_value as binary_opened, conditional_value}
use Rattle.mini_rows.proofs.TemplateRuns.{next, next_ok, known_text, in_turn, none_turn, one_turn, template_all}

nothing : {A : Type 0} {a : A} {B : Type 0} → None ≡ Some a → B
nothing e = cc e

abbrev value_in : Option Value → Value
value_in (Some w) = w
value_in None = Undefined

-- ---- what operators make of primitive values

module _ (e : Environment) (names : Naming) (K : Kids (λ i. As Val)) where
  -- a primitive value is made a number without an event
  numeric_is : {A : Type 0} (u : Value) → IsPrimitive u → (f : ℤ → Command (λ i. As Val) A) → (s : State) → run {q = λ i. As Val} e names K (bind (numeric u) f) s ≡ run {q = λ i. As Val} e names K (bind (of_made (to_number u)) f) s
  numeric_is (Symbol n) p f s = absurd p
  numeric_is (Object n g) p f s = absurd p
  numeric_is Undefined p f s = refl
  numeric_is Null p f s = refl
  numeric_is (Boolean b) p f s = refl
  numeric_is (Number n) p f s = refl
  numeric_is (String t) p f s = refl

  primitive_is : {A : Type 0} (h : Hint) (u : Value) → IsPrimitive u → (f : Value → Command (λ i. As Val) A) → (s : State) → run {q = λ i. As Val} e names K (bind (primitive h u) f) s ≡ run {q = λ i. As Val} e names K (f u) s
  primitive_is h (Symbol n) p f s = absurd p
  primitive_is h (Object n g) p f s = absurd p
  primitive_is h Undefined p f s = refl
  primitive_is h Null p f s = refl
  primitive_is h (Boolean b) p f s = refl
  primitive_is h (Number n) p f s = refl
  primitive_is h (String t) p f s = refl

  module _ (v : Value) where
    made_done : (m : Made Value) → made m ≡ Some v → (s : State) → run {q = λ i. As Val} e names K (of_made m) s ≡ ok v s
    made_done (makes x) k s = ap (λ o. ok (value_in o) s) k
    made_done raises k s = nothing k
    made_done outside k s = nothing k

    -- `+`, `-` and `~`
    number_made : (o : UnaryOperator) (m : Made ℤ) → over_number o (made m) ≡ Some v → (s : State) → run {q = λ i. As Val} e names K (bind (of_made m) (λ n. of_made (of_number o n))) s ≡ ok v s
    number_made o (makes n) k s = safely (is_safe n) k
      where
        safely : (b : Bool) → choose b (made (of_number o n)) None ≡ Some v → run {q = λ i. As Val} e names K (of_made (of_number o n)) s ≡ ok v s
        safely true k = made_done (of_number o n) k s
        safely false k = nothing k
    number_made o raises k s = nothing k
    number_made o outside k s = nothing k

    number_done : (o : UnaryOperator) (u : Value) → IsPrimitive u → over_number o (as_number u) ≡ Some v → (s : State) → run {q = λ i. As Val} e names K (bind (numeric u) (λ n. of_made (of_number o n))) s ≡ ok v s
    number_done o u p k s = numeric_is u p (λ n. of_made (of_number o n)) s ∙ number_made o (to_number u) k s

    abbrev Operates : BinaryOperator → Value → Value → Type 0
    Operates o x y = (s : State) → run {q = λ i. As Val} e names K (operate_by o x y) s ≡ ok v s

    -- both are made numbers
    second_made : (o : BinaryOperator) (m : ℤ) (n : Made ℤ) → made (both (makes m) n (of_numbers o)) ≡ Some v → (s : State) → run {q = λ i. As Val} e names K (bind (of_made n) (λ n. of_made (of_numbers o m n))) s ≡ ok v s
    second_made o m (makes n) k s = made_done (of_numbers o m n) k s
    second_made o m raises k s = nothing k
    second_made o m outside k s = nothing k

    first_made : (o : BinaryOperator) (m : Made ℤ) (y : Value) → IsPrimitive y → made (both m (to_number y) (of_numbers o)) ≡ Some v → (s : State) → run {q = λ i. As Val} e names K (bind (of_made m) (λ m. bind (numeric y) (λ n. of_made (of_numbers o m n)))) s ≡ ok v s
    first_made o (makes m) y p k s = numeric_is y p (λ n. of_made (of_numbers o m n)) s ∙ second_made o m (to_number y) k s
    first_made o raises y p k s = nothing k
    first_made o outside y p k s = nothing k

    numbers_done : (o : BinaryOperator) (x y : Value) → IsPrimitive x → IsPrimitive y → made (by_numbers o x y) ≡ Some v → (s : State) → run {q = λ i. As Val} e names K (bind (numeric x) (λ m. bind (numeric y) (λ n. of_made (of_numbers o m n)))) s ≡ ok v s
    numbers_done o x y p r k s = numeric_is x p (λ m. bind (numeric y) (λ n. of_made (of_numbers o m n))) s ∙ first_made o (to_number x) y r k s

    -- both are made primitive, which they are
    primitives_done : (o : BinaryOperator) (x y : Value) → IsPrimitive x → IsPrimitive y → made (of_primitives o x y) ≡ Some v → (s : State) → run {q = λ i. As Val} e names K (bind (primitive (hint_of o) x) (λ x. bind (primitive (hint_of o) y) (λ y. of_made (of_primitives o x y)))) s ≡ ok v s
    primitives_done o x y p r k s =
        primitive_is (hint_of o) x p (λ x. bind (primitive (hint_of o) y) (λ y. of_made (of_primitives o x y))) s
        ∙ primitive_is (hint_of o) y r (λ y. of_made (of_primitives o x y)) s
        ∙ made_done (of_primitives o x y) k s

    option_done : (f : Bool → Bool) (m : Option Bool) → mapped f m ≡ Some v → (s : State) → run {q = λ i. As Val} e names K (bind (of_option m) (λ c. ret (Boolean (f c)))) s ≡ ok v s
    option_done f (Some c) k s = ap (λ o. ok (value_in o) s) k
    option_done f None k s = nothing k

    loosely_done : (f : Bool → Bool) (x y : Value) → IsPrimitive x → IsPrimitive y → mapped f (loosely_equal x y) ≡ Some v → (s : State) → run {q = λ i. As Val} e names K (bind (loosely x y) (λ c. ret (Boolean (f c)))) s ≡ ok v s
    loosely_done f (Symbol n) y p r k s = absurd p
    loosely_done f (Object n g) y p r k s = absurd p
    loosely_done f x (Symbol n) p r k s = absurd r
    loosely_done f x (Object n g) p r k s = absurd r
    loosely_done f Undefined y p r k s = ap (λ o. ok (value_in o) s) k
    loosely_done f Null y p r k s = ap (λ o. ok (value_in o) s) k
    loosely_done f x Undefined p r k s = ap (λ o. ok (value_in o) s) k
    loosely_done f x Null p r k s = ap (λ o. ok (value_in o) s) k
    loosely_done f x y p r k s = option_done f (loosely_equal x y) k s

    values_done : (o : BinaryOperator) (x y : Value) → IsPrimitive x → IsPrimitive y → binary_value o x y ≡ Some v → Operates o x y
    values_done binary_operator.Equality x y p r k s = loosely_done (λ c. c) x y p r k s
    values_done binary_operator.Inequality x y p r k s = loosely_done not x y p r k s
    values_done binary_operator.StrictEquality x y p r k s = ap (λ o. ok (value_in o) s) k
    values_done binary_operator.StrictInequality x y p r k s = ap (λ o. ok (value_in o) s) k
    values_done binary_operator.In x y p r k s = nothing k
    values_done binary_operator.Instanceof x y p r k s = nothing k
    values_done binary_operator.Addition x y p r k s = primitives_done binary_operator.Addition x y p r k s
    values_done binary_operator.LessThan x y p r k s = primitives_done binary_operator.LessThan x y p r k s
    values_done binary_operator.GreaterThan x y p r k s = primitives_done binary_operator.GreaterThan x y p r k s
    values_done binary_operator.LessEqualThan x y p r k s = primitives_done binary_operator.LessEqualThan x y p r k s
    values_done binary_operator.GreaterEqualThan x y p r k s = primitives_done binary_operator.GreaterEqualThan x y p r k s
    values_done o x y p r k s = numbers_done o x y p r k s

-- ---- what operators do with the values of their operands

module _ (e : Environment) where
  -- what does nothing but give this value, under `typeof` too
  record Settled (t : Tree) (v : Value) : Type 0 where
    typed : (s : State) → means e t OfType tt s ≡ ok v s
    gives : (s : State) → value e t s ≡ ok v s
    primitive : IsPrimitive v

  standing_type : (t : Tree) (v : Value) → stands t ≡ true → ((s : State) → value e t s ≡ ok v s) → (s : State) → means e t OfType tt s ≡ ok v s
  unfolding by_value
  standing_type t v h g s = read_by_value t h e OfType tt s ∙ g s

  stays : (t : Tree) (v : Value) → stands t ≡ true → ((s : State) → value e t s ≡ ok v s) → IsPrimitive v → Settled t v
  stays t v h g p = record { typed = standing_type t v h g; gives = g; primitive = p }

  -- the name `undefined`
  module _ (xs : List Name) (n : ℕ) (ts : Trees) (v : Value) (s : State) where
    name_gives : (k : NameKind) → first_kind (kinds xs) ≡ k → undefined_if (is_undefined_name k) ≡ Some v → value e (node shape.Identifier xs n ts) s ≡ ok v s
    unfolding means step
    name_gives UndefinedName h k = rw h (ap (λ o. ok (value_in o) s) k)
    name_gives j h k = nothing k

    name_typed : (k : NameKind) → first_kind (kinds xs) ≡ k → undefined_if (is_undefined_name k) ≡ Some v → means e (node shape.Identifier xs n ts) OfType tt s ≡ ok v s
    unfolding means step
    name_typed UndefinedName h k = rw h (ap (λ o. ok (value_in o) s) k)
    name_typed j h k = nothing k

  leaf_gives : (h : Shape) (xs : List Name) (n : ℕ) (ts : Trees) (v : Value) → leaf_value (node h xs n ts) ≡ Some v → (s : State) → value e (node h xs n ts) s ≡ ok v s
  unfolding means step
  leaf_gives shape.Identifier xs n ts v k s = name_gives xs n ts v s (first_kind (kinds xs)) refl k
  leaf_gives (shape.NumericLiteral m) xs n ts v k s = ap (λ o. ok (value_in o) s) k
  leaf_gives (shape.StringLiteral t) xs n ts v k s = ap (λ o. ok (value_in o) s) k
  leaf_gives (shape.BooleanLiteral b) xs n ts v k s = ap (λ o. ok (value_in o) s) k
  leaf_gives shape.NullLiteral xs n ts v k s = ap (λ o. ok (value_in o) s) k
  leaf_gives h xs n ts v k s = nothing k

  leaf_done : (t : Tree) (v : Value) → leaf_value t ≡ Some v → Settled t v
  leaf_done (node shape.Identifier xs n ts) v k = record { typed = λ s. name_typed xs n ts v s (first_kind (kinds xs)) refl k; gives = leaf_gives shape.Identifier xs n ts v k; primitive = leaf_primitive (node shape.Identifier xs n ts) v k }
  leaf_done (node (shape.NumericLiteral m) xs n ts) v k = stays (node (shape.NumericLiteral m) xs n ts) v refl (leaf_gives (shape.NumericLiteral m) xs n ts v k) (leaf_primitive (node (shape.NumericLiteral m) xs n ts) v k)
  leaf_done (node (shape.StringLiteral t) xs n ts) v k = stays (node (shape.StringLiteral t) xs n ts) v refl (leaf_gives (shape.StringLiteral t) xs n ts v k) (leaf_primitive (node (shape.StringLiteral t) xs n ts) v k)
  leaf_done (node (shape.BooleanLiteral b) xs n ts) v k = stays (node (shape.BooleanLiteral b) xs n ts) v refl (leaf_gives (shape.BooleanLiteral b) xs n ts v k) (leaf_primitive (node (shape.BooleanLiteral b) xs n ts) v k)
  leaf_done (node shape.NullLiteral xs n ts) v k = stays (node shape.NullLiteral xs n ts) v refl (leaf_gives shape.NullLiteral xs n ts v k) (leaf_primitive (node shape.NullLiteral xs n ts) v k)
  leaf_done t v k = nothing k

  module _ (a : Tree) where
    abbrev under : Kids (λ i. As Val)
    under i r z = meaning e (a ▸ none) i (As Val) r z

    abbrev its_names : UnaryOperator → Naming
    its_names o = naming (shape.UnaryExpression o) (As Val) [] 0 (summaries (a ▸ none))

    after_void : (u : Value) (s : State) → value e a s ≡ ok u s → value e (unary unary_operator.Void a) s ≡ ok Undefined s
    unfolding means meaning step either
    after_void u s h = ap (λ c. either c (λ v z. ok Undefined z) (λ x z. stop x z)) h

    after_type : (u : Value) (s : State) → means e a OfType tt s ≡ ok u s → value e (unary unary_operator.Typeof a) s ≡ ok (String (type_text u)) s
    unfolding means meaning step either
    after_type u s h = ap (λ c. either c (λ v z. ok (String (type_text v)) z) (λ x z. stop x z)) h

    abbrev NumberOpened : UnaryOperator → Type 0
    NumberOpened o = (s : State) → value e (unary o a) s ≡ either (value e a s) (λ v z. run {q = λ i. As Val} e (its_names o) under (bind (numeric v) (λ n. of_made (of_number o n))) z) (λ x z. stop x z)

    plus_opened : NumberOpened unary_operator.UnaryPlus
    unfolding means meaning step
    plus_opened s = either_cong (value e a s) _ _ _ _ (λ v z. run_bind e (its_names unary_operator.UnaryPlus) (bind (numeric v) (λ n. of_made (of_number unary_operator.UnaryPlus n))) (reply (As Val) tt) under z ∙ either_eta (run {q = λ i. As Val} e (its_names unary_operator.UnaryPlus) under (bind (numeric v) (λ n. of_made (of_number unary_operator.UnaryPlus n))) z)) (λ x z. refl)

    minus_opened : NumberOpened unary_operator.UnaryNegation
    unfolding means meaning step
    minus_opened s = either_cong (value e a s) _ _ _ _ (λ v z. run_bind e (its_names unary_operator.UnaryNegation) (bind (numeric v) (λ n. of_made (of_number unary_operator.UnaryNegation n))) (reply (As Val) tt) under z ∙ either_eta (run {q = λ i. As Val} e (its_names unary_operator.UnaryNegation) under (bind (numeric v) (λ n. of_made (of_number unary_operator.UnaryNegation n))) z)) (λ x z. refl)

    inverse_opened : NumberOpened unary_operator.BitwiseNot
    unfolding means meaning step
    inverse_opened s = either_cong (value e a s) _ _ _ _ (λ v z. run_bind e (its_names unary_operator.BitwiseNot) (bind (numeric v) (λ n. of_made (of_number unary_operator.BitwiseNot n))) (reply (As Val) tt) under z ∙ either_eta (run {q = λ i. As Val} e (its_names unary_operator.BitwiseNot) under (bind (numeric v) (λ n. of_made (of_number unary_operator.BitwiseNot n))) z)) (λ x z. refl)

    numbered : (o : UnaryOperator) → NumberOpened o → (u v : Value) → Settled a u → over_number o (as_number u) ≡ Some v → (s : State) → value e (unary o a) s ≡ ok v s
    numbered o opened u v h k s =
        opened s
        ∙ ap (λ c. either c (λ v z. run {q = λ i. As Val} e (its_names o) under (bind (numeric v) (λ n. of_made (of_number o n))) z) (λ x z. stop x z)) (h.gives s)
        ∙ either_ok u s _ _
        ∙ number_done e (its_names o) under v o u h.primitive k s

    over_done : (o : UnaryOperator) (u v : Value) → Settled a u → calculated_unary o u ≡ Some v → (s : State) → value e (unary o a) s ≡ ok v s
    over_done unary_operator.Void u v h k s = after_void u s (h.gives s) ∙ ap (λ o. ok (value_in o) s) k
    over_done unary_operator.LogicalNot u v h k s = negation_opened e a s ∙ ap (λ c. either c (λ w z. ok (Boolean (not (truth w))) z) (λ x z. stop x z)) (h.gives s) ∙ either_ok u s _ _ ∙ ap (λ o. ok (value_in o) s) k
    over_done unary_operator.Typeof u v h k s = after_type u s (h.typed s) ∙ ap (λ o. ok (value_in o) s) k
    over_done unary_operator.UnaryPlus u v h k s = numbered unary_operator.UnaryPlus plus_opened u v h k s
    over_done unary_operator.UnaryNegation u v h k s = numbered unary_operator.UnaryNegation minus_opened u v h k s
    over_done unary_operator.BitwiseNot u v h k s = numbered unary_operator.BitwiseNot inverse_opened u v h k s
    over_done unary_operator.Delete u v h k s = nothing (undeleted (as_number u) k)
      where
        undeleted : (c : Option ℤ) → over_number unary_operator.Delete c ≡ Some v → None ≡ Some v
        undeleted (Some n) k = unsafe (is_safe n) k
          where
            unsafe : (b : Bool) → choose b None None ≡ Some v → None ≡ Some v
            unsafe true k = k
            unsafe false k = k
        undeleted None k = k

    by_operand : (o : UnaryOperator) (v : Value) (c : Option Value) → ((u : Value) → c ≡ Some u → Settled a u) → unary_value false o c ≡ Some v → Settled (unary o a) v
    by_operand o v (Some u) h k = stays (unary o a) v refl (over_done o u v (h u refl) k) (unary_primitive o u v k)
    by_operand o v None h k = nothing k

  module _ (o : BinaryOperator) (a b : Tree) (v : Value) where
    two_done : (x y : Value) → Settled a x → Settled b y → binary_value o x y ≡ Some v → (s : State) → value e (binary o a b) s ≡ ok v s
    two_done x y h l k s =
        binary_opened e o a b s
        ∙ ap (λ c. either c (λ w z. either (value e b z) (λ u y. run {q = λ i. As Val} e (binary_names o a b) (sides e a b) (operate_by o w u) y) (λ x y. stop x y)) (λ x z. stop x z)) (h.gives s)
        ∙ either_ok x s _ _
        ∙ ap (λ c. either c (λ u z. run {q = λ i. As Val} e (binary_names o a b) (sides e a b) (operate_by o x u) z) (λ x y. stop x y)) (l.gives s)
        ∙ either_ok y s _ _
        ∙ values_done e (binary_names o a b) (sides e a b) v o x y h.primitive l.primitive k s

    by_operands : (c d : Option Value) → ((u : Value) → c ≡ Some u → Settled a u) → ((u : Value) → d ≡ Some u → Settled b u) → binary_const o c d ≡ Some v → Settled (binary o a b) v
    by_operands (Some x) (Some y) h l k = stays (binary o a b) v refl (two_done x y (h x refl) (l y refl) k) (binary_primitive o x y v k)
    by_operands (Some x) None h l k = nothing k
    by_operands None d h l k = nothing k

  -- ---- choices

  either_way : (c : Bool) (x y : Value) (m n : Completion Value) (s : State) → m ≡ ok x s → n ≡ ok y s → choose c m n ≡ ok (choose c x y) s
  either_way true x y m n s h k = h
  either_way false x y m n s h k = k

  told_value : (x : Value) (s : State) → told Val (ok x s) ≡ ok x s
  unfolding told either
  told_value x s = refl

  module _ (a b : Tree) (x y : Value) (h : Settled a x) (l : Settled b y) (s : State) where
    decided_done : (o : LogicalOperator) → value e (logical o a b) s ≡ ok (decided o x y) s
    decided_done And = and_opened e a b Val s ∙ ap (λ c. either c (λ v z. choose (truth v) (value e b z) (ok v z)) (λ x z. stop x z)) (h.gives s) ∙ either_ok x s _ _ ∙ either_way (truth x) y x (value e b s) (ok x s) s (l.gives s) refl
    decided_done Or = or_opened e a b Val s ∙ ap (λ c. either c (λ v z. choose (truth v) (ok v z) (value e b z)) (λ x z. stop x z)) (h.gives s) ∙ either_ok x s _ _ ∙ either_way (truth x) x y (ok x s) (value e b s) s refl (l.gives s)
    decided_done Coalesce = coalesce_opened e a b Val s ∙ ap (λ c. either c (λ v z. choose (is_nullish v) (told Val (value e b z)) (ok v z)) (λ x z. stop x z)) (h.gives s) ∙ either_ok x s _ _ ∙ either_way (is_nullish x) y x (told Val (value e b s)) (ok x s) s (ap (told Val) (l.gives s) ∙ told_value y s) refl

  by_sides : (o : LogicalOperator) (a b : Tree) (v : Value) (c d : Option Value) → ((u : Value) → c ≡ Some u → Settled a u) → ((u : Value) → d ≡ Some u → Settled b u) → logical_const o c d ≡ Some v → Settled (logical o a b) v
  by_sides o a b v (Some x) (Some y) h l k =
      let first : Settled a x = h x refl in
      let second : Settled b y = l y refl in
      subst (Settled (logical o a b)) {x = decided o x y} {y = v} (cc k) (stays (logical o a b) (decided o x y) refl (λ s. decided_done a b x y first second s o) (decided_primitive o x y first.primitive second.primitive))
  by_sides o a b v (Some x) None h l k = nothing k
  by_sides o a b v None d h l k = nothing k

  branch_done : (a b c : Tree) (x y z : Value) → Settled a x → Settled b y → Settled c z → (s : State) → value e (conditional a b c) s ≡ ok (choose (truth x) y z) s
  branch_done a b c x y z h l m s =
      conditional_value e a b c s
      ∙ ap (λ r. either r (λ v z. choose (truth v) (value e b z) (value e c z)) (λ x z. stop x z)) (h.gives s)
      ∙ either_ok x s _ _
      ∙ either_way (truth x) y z (value e b s) (value e c s) s (l.gives s) (m.gives s)

  by_branches : (a b c : Tree) (v : Value) (x y z : Option Value) → ((u : Value) → x ≡ Some u → Settled a u) → ((u : Value) → y ≡ Some u → Settled b u) → ((u : Value) → z ≡ Some u → Settled c u) → conditional_const x y z ≡ Some v → Settled (conditional a b c) v
  by_branches a b c v (Some x) (Some y) (Some z) h l m k =
      let first : Settled a x = h x refl in
      let second : Settled b y = l y refl in
      let third : Settled c z = m z refl in
      subst (Settled (conditional a b c)) {x = choose (truth x) y z} {y = v} (cc k) (stays (conditional a b c) (choose (truth x) y z) refl (branch_done a b c x y z first second third) (branch_primitive x y z second.primitive third.primitive))
  by_branches a b c v (Some x) (Some y) None h l m k = nothing k
  by_branches a b c v (Some x) None z h l m k = nothing k
  by_branches a b c v None y z h l m k = nothing k

  -- ---- templates

  module _ (f : Tree → Option Value) (h : (a : Tree) (u : Value) → f a ≡ Some u → Settled a u) where
    -- a part whose text is known
    part_turn : (t : Tree) (ts : Trees) (x : List ℕ) (xs : List (List ℕ)) (s : State) → text_of (f t) ≡ Some x → in_turn e ts s ≡ ok xs s → in_turn e (t ▸ ts) s ≡ ok (x ∷ xs) s
    part_turn t ts x xs s k l = go (f t) refl k
      where
        go : (c : Option Value) → f t ≡ c → text_of c ≡ Some x → in_turn e (t ▸ ts) s ≡ ok (x ∷ xs) s
        go (Some u) m k = one_turn e t ts u x xs s ((h t u m).gives s) (known_text e u x k s) l
        go None m k = nothing k

    turns : (ts : Trees) (xs : List (List ℕ)) → texts_by f ts ≡ Some xs → (s : State) → in_turn e ts s ≡ ok xs s
    turns none xs k s = none_turn e s ∙ ap (λ ys. ok ys s) {x = []} {y = xs} (cc k)
    turns (t ▸ ts) xs k s = go (text_of (f t)) (texts_by f ts) refl (λ ys l. turns ts ys l s) k
      where
        go : (a : Option (List ℕ)) (b : Option (List (List ℕ))) → text_of (f t) ≡ a → ((ys : List (List ℕ)) → b ≡ Some ys → in_turn e ts s ≡ ok ys s) → cons_text a b ≡ Some xs → in_turn e (t ▸ ts) s ≡ ok xs s
        go (Some y) (Some ys) m l k = part_turn t ts y ys s m (l ys refl) ∙ ap (λ zs. ok zs s) {x = y ∷ ys} {y = xs} (cc k)
        go (Some y) None m l k = nothing k
        go None b m l k = nothing k

    template_done : (ps ts : Trees) (text : List ℕ) → Told f ps ts text → (s : State) → value e (template ps ts) s ≡ ok (String text) s
    template_done ps ts text r s =
        let texts : List (List ℕ) = texts_all (facts ps) ++ (texts_all (facts ts) ++ []) in
        template_all e ps ts s
        ∙ ap (λ c. next (next c (λ xs z. ok (interleaved texts xs) z)) (λ x z. ok (String x) z)) (turns ts r.parts r.known s)
        ∙ ap (λ c. next c (λ x z. ok (String x) z)) (next_ok r.parts s (λ xs z. ok (interleaved texts xs) z))
        ∙ next_ok (interleaved texts r.parts) s (λ x z. ok (String x) z)
        ∙ ap (λ x. ok (String x) s) (r.joined (texts_all (facts ts) ++ []))

    by_parts : (ps ts : Trees) (v : Value) → text_value (text_between f ps ts) ≡ Some v → Settled (template ps ts) v
    by_parts ps ts v k =
        let (text, (known, same)) = text_is (text_between f ps ts) v k in
        subst (Settled (template ps ts)) same (stays (template ps ts) (String text) refl (template_done ps ts text (told_by f ps ts text known)) tt)

  -- ---- all

  module _ (f : Tree → Option Value) (h : (a : Tree) (u : Value) → f a ≡ Some u → Settled a u) (t : Tree) (v : Value) where
    operated : Form false f t v → Settled t v
    operated (of_unary o is k) = subst (λ x. Settled x v) (sym is) (by_operand (part t 0) o v (f (part t 0)) (h (part t 0)) k)
    operated (of_binary o is k) = subst (λ x. Settled x v) (sym is) (by_operands o (part t 0) (part t 1) v (f (part t 0)) (f (part t 1)) (h (part t 0)) (h (part t 1)) k)

    chosen : Choice false f t v → Settled t v
    chosen (of_logical o is k) = subst (λ x. Settled x v) (sym is) (by_sides o (part t 0) (part t 1) v (f (part t 0)) (f (part t 1)) (h (part t 0)) (h (part t 1)) k)
    chosen (of_template is k) = subst (λ x. Settled x v) (sym is) (by_parts f h (children (part t 0)) (children (part t 1)) v k)
    chosen (of_sequence free is k) = absurd (true≢false (sym free))
    chosen (of_conditional is k) = subst (λ x. Settled x v) (sym is) (by_branches (part t 0) (part t 1) (part t 2) v (f (part t 0)) (f (part t 1)) (f (part t 2)) (h (part t 0)) (h (part t 1)) (h (part t 2)) k)

  pub operand_done : (t : Tree) (v : Value) → operand_value t ≡ Some v → (s : State) → value e t s ≡ ok v s
  operand_done t v k s = (within Settled false leaf_done operated chosen operand_depth t v k).gives s
