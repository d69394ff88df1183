-- The kind of each shape is that of its value.
use Rattle.std.proofs.Common.{◌≡◌, ℕ, ℤ, zero, suc, Bool, true, false, List, length, refl, sym, subst, true≢false}
use Rattle.mini_model.specs.declared.operator.AssignmentOperator.TheVariants.{Assign}
use Rattle.mini_model.specs.declared.operator.BinaryOperator.{BinaryOperator}
use Rattle.mini_model.specs.declared.operator.BinaryOperator.TheVariants as binary
use Rattle.mini_model.specs.declared.operator.LogicalOperator.TheVariants.{Or, And, Coalesce}
use Rattle.mini_model.specs.declared.operator.UnaryOperator.{UnaryOperator}
use Rattle.mini_model.specs.declared.operator.UnaryOperator.TheVariants as unary
use Rattle.mini_model.specs.declared.shape.Shape.{Shape}
use Rattle.mini_model.specs.declared.shape.Shape.TheVariants as shape
use Rattle.mini_model.specs.declared.name.Name.{Name}
use Rattle.mini_model.specs.Tree.{Trees, node, none, ◌▸◌}
use Rattle.mini_laws.specs.Value.{Value, Boolean, Object, choose, truth, is_nullish}
use Rattle.mini_laws.specs.Conversion.{Made, makes, raises, outside}
use Rattle.mini_laws.specs.Operators.{of_primitives, of_numbers, of_number}
use Rattle.mini_laws.specs.State.{Hint, NewOf, ArrayOf, ObjectOf, Create, NodeOf, AnObject, ABoolean, Given, Normal}
use Rattle.mini_laws.specs.Demand.{Val, Demand, As, OfType, Deleted, Parts, Texts, Reference, AName, AMember, AFetched, ACarried, AValue, Request, Reply}
use Rattle.mini_laws.specs.Command.{Command, ret, bind, hear, hears, only_object, boolean_value, is_object}
use Rattle.mini_laws.specs.Naming.{NameKind, PlainName, EvalName, UndefinedName, NumberName, kinds, facts}
use Rattle.mini_laws.specs.Asking.{demand, sequence_demand, operand_demand}
use Rattle.mini_laws.specs.Replies.{reply, valued, passed, passing, primitive, numeric, of_made, raise, hint_of}
use Rattle.mini_laws.specs.Expressions.{first_kind, unary_step, binary_step, operate_by, logical_step, conditional_step, delete_of, number_step}
use Rattle.mini_laws.specs.Targets.{identifier_step}
use Rattle.mini_laws.specs.Lists.{parts, sequence}
use Rattle.mini_laws.specs.Step.{step}
use Rattle.mini_terms.specs.Kind.{Kind, IsUndefined, IsNull, IsBoolean, IsNumber, IsBigInt, IsString, IsObject, Undetermined, is_primitive, number_if, common, unary_kind, binary_kind, nth_kind, last_kind, name_kind, kind, each_kind, OfKind}
use Rattle.mini_terms.specs.Sound.{KindSound}
use Rattle.mini_terms.proofs.Frame.{Yields, yields_all, yields_bind, yields_shift, yields_choose, Facts', fact_at, Claims, NodeYields, Table, tree_gives}
use Rattle.mini_terms.proofs.Made.{MadeIs, Is, made_all, Primitive, of_numbers_is, of_primitives_is, added_is, of_number_is}

abbrev pub kind_facts : Facts'
kind_facts = record { Fact = Kind; top = Undetermined; fact = kind; Is = OfKind; any = λ v. tt; AreTexts = λ t ss. Unit {0} }

abbrev pub Kids : (ℕ → Demand) → Type 1
Kids q = (i : ℕ) (r : Request (q i)) → Reply (q i) r → Type 0

pub at_kind : (ts : Trees) (i : ℕ) → fact_at kind_facts ts i ≡ nth_kind (each_kind ts) i
at_kind none i = refl
at_kind (t ▸ ts) zero = refl
at_kind (t ▸ ts) (suc i) = at_kind ts i

at_value : (ts : Trees) (i : ℕ) (v : Value) → OfKind (fact_at kind_facts ts i) v → OfKind (nth_kind (each_kind ts) i) v
at_value ts i v p = subst (λ k. OfKind k v) (at_kind ts i) p

-- commands

pub made_yields : (q : ℕ → Demand) {A : Type 0} (ks : Kids q) (P : A → Type 0) (m : Made A) → MadeIs P m → Yields ks P (of_made m)
unfolding Yields MadeIs
made_yields q ks P (makes a) p = p
made_yields q ks P raises p = (λ a t. tt, λ x. tt)
made_yields q ks P outside p = tt

prim_yields : (q : ℕ → Demand) (ks : Kids q) (k : Kind) (h : Hint) (v : Value) → OfKind k v → Yields ks (Primitive k) (primitive h v)
unfolding Yields
prim_yields q ks IsObject h (Object n f) p = (λ a t e. absurd (true≢false (sym e)), λ x. tt)
prim_yields q ks Undetermined h (Object n f) p = (λ a t e. absurd (true≢false (sym e)), λ x. tt)
prim_yields q ks k h (Object n f) p = absurd p
prim_yields q ks k h v p = λ e. p

number_if_is : (b : Bool) (v : Value) → OfKind IsNumber v → OfKind (number_if b) v
number_if_is true v p = p
number_if_is false v p = tt

abbrev Numeric : Value → Type 0
Numeric v = OfKind IsNumber v

number_yields : (ks : Kids (λ i. As Val)) (o : UnaryOperator) → Yields ks Numeric (number_step o)
unfolding Yields
number_yields ks o = (λ v t. yields_bind ks (λ n. Unit {0}) Numeric (numeric v) _ (yields_all ks _ (λ n. tt) _) (λ n u. made_yields _ ks Numeric (of_number o n) (of_number_is o n)), λ x. tt)

unary_yields : (o : UnaryOperator) (k : Kind) (ks : Kids (λ i. operand_demand o)) → Yields ks (OfKind (unary_kind o k)) (unary_step o)
unfolding Yields
unary_yields unary.LogicalNot k ks = (λ b t. tt, λ x. tt)
unary_yields unary.Typeof k ks = (λ b t. tt, λ x. tt)
unary_yields unary.Void k ks = (λ b t. tt, λ x. tt)
unary_yields unary.Delete k ks = (λ reference t. go reference, λ x. tt)
  where
    go : (reference : Reference) → Yields {q = λ i. Deleted} ks (OfKind IsBoolean) (delete_of reference)
    go AName = tt
    go (AMember object key) = yields_choose ks (OfKind IsBoolean) (is_nullish object) raise _ (λ u. (λ a t. tt, λ x. tt)) (λ u. (λ b t. tt, λ x. tt))
    go ACarried = tt
    go (AFetched object key) = tt
    go (AValue v) = tt
unary_yields unary.UnaryPlus k ks = number_yields ks unary.UnaryPlus
unary_yields unary.UnaryNegation k ks = (λ v t. yields_bind ks (λ n. Unit {0}) _ (numeric v) _ (yields_all ks _ (λ n. tt) _) (λ n u. made_yields _ ks _ (of_number unary.UnaryNegation n) (wider (is_primitive k) _ (of_number_is unary.UnaryNegation n))), λ x. tt)
  where
    wider : (b : Bool) (m : Made Value) → Is IsNumber m → Is (number_if b) m
    wider true m p = p
    wider false m p = made_all _ (λ v. tt) m
unary_yields unary.BitwiseNot k ks = (λ v t. yields_bind ks (λ n. Unit {0}) _ (numeric v) _ (yields_all ks _ (λ n. tt) _) (λ n u. made_yields _ ks _ (of_number unary.BitwiseNot n) (wider (is_primitive k) _ (of_number_is unary.BitwiseNot n))), λ x. tt)
  where
    wider : (b : Bool) (m : Made Value) → Is IsNumber m → Is (number_if b) m
    wider true m p = p
    wider false m p = made_all _ (λ v. tt) m

-- the binary operators

operated : (o : BinaryOperator) (j k : Kind) (r : Kind) (ks : Kids (λ i. As Val)) → ((x y : Value) → Primitive j x → Primitive k y → Is r (of_primitives o x y)) → (a b : Value) → OfKind j a → OfKind k b
    → Yields {q = λ i. As Val} ks (OfKind r) (bind (primitive (hint_of o) a) (λ x. bind (primitive (hint_of o) b) (λ y. of_made (of_primitives o x y))))
operated o j k r ks h a b p q =
    yields_bind ks (Primitive j) (OfKind r) (primitive (hint_of o) a) _ (prim_yields _ ks j (hint_of o) a p) (λ x u.
    yields_bind ks (Primitive k) (OfKind r) (primitive (hint_of o) b) _ (prim_yields _ ks k (hint_of o) b q) (λ y w.
    made_yields _ ks (OfKind r) (of_primitives o x y) (h x y u w)))

calculated : (o : BinaryOperator) (r : Kind) (ks : Kids (λ i. As Val)) → ((m n : ℤ) → Is r (of_numbers o m n)) → (a b : Value) → Yields {q = λ i. As Val} ks (OfKind r) (bind (numeric a) (λ m. bind (numeric b) (λ n. of_made (of_numbers o m n))))
calculated o r ks h a b =
    yields_bind ks (λ m. Unit {0}) (OfKind r) (numeric a) _ (yields_all ks _ (λ m. tt) _) (λ m u.
    yields_bind ks (λ n. Unit {0}) (OfKind r) (numeric b) _ (yields_all ks _ (λ n. tt) _) (λ n w.
    made_yields _ ks (OfKind r) (of_numbers o m n) (h m n)))

narrowed : (b : Bool) (m : Made Value) → Is IsNumber m → Is (number_if b) m
narrowed true m p = p
narrowed false m p = made_all _ (λ v. tt) m

boolean_bind : {A : Type 0} (q : ℕ → Demand) (ks : Kids q) (c : Command q A) (f : A → Bool) → Yields ks (OfKind IsBoolean) (bind c (λ a. ret (Boolean (f a))))
unfolding Yields
boolean_bind q ks c f = yields_bind ks (λ a. Unit {0}) (OfKind IsBoolean) c _ (yields_all ks _ (λ a. tt) c) (λ a u. tt)

asked : (q : ℕ → Demand) (ks : Kids q) (b : Bool) (c : Command q Value) → Yields ks (OfKind IsBoolean) c → Yields ks (OfKind IsBoolean) (choose b c raise)
unfolding Yields
asked q ks true c y = y
asked q ks false c y = (λ a t. tt, λ x. tt)

operate_yields : (o : BinaryOperator) (j k : Kind) (ks : Kids (λ i. As Val)) (a b : Value) → OfKind j a → OfKind k b → Yields {q = λ i. As Val} ks (OfKind (binary_kind o j k)) (operate_by o a b)
unfolding Yields
operate_yields binary.Equality j k ks a b p q = boolean_bind _ ks (Rattle.mini_laws.specs.Replies.loosely a b) (λ c. c)
operate_yields binary.Inequality j k ks a b p q = boolean_bind _ ks (Rattle.mini_laws.specs.Replies.loosely a b) Rattle.std.specs.Prelude.not
operate_yields binary.StrictEquality j k ks a b p q = tt
operate_yields binary.StrictInequality j k ks a b p q = tt
operate_yields binary.In j k ks a b p q = asked _ ks (is_object b) _ (λ c t. tt, λ x. tt)
operate_yields binary.Instanceof j k ks a b p q = asked _ ks (is_object b) _ (λ c t. tt, λ x. tt)
operate_yields binary.Addition j k ks a b p q = operated binary.Addition j k _ ks (added_is j k) a b p q
operate_yields binary.LessThan j k ks a b p q = operated binary.LessThan j k IsBoolean ks (λ x y u w. of_primitives_is binary.LessThan x y (λ e. cc)) a b p q
operate_yields binary.LessEqualThan j k ks a b p q = operated binary.LessEqualThan j k IsBoolean ks (λ x y u w. of_primitives_is binary.LessEqualThan x y (λ e. cc)) a b p q
operate_yields binary.GreaterThan j k ks a b p q = operated binary.GreaterThan j k IsBoolean ks (λ x y u w. of_primitives_is binary.GreaterThan x y (λ e. cc)) a b p q
operate_yields binary.GreaterEqualThan j k ks a b p q = operated binary.GreaterEqualThan j k IsBoolean ks (λ x y u w. of_primitives_is binary.GreaterEqualThan x y (λ e. cc)) a b p q
operate_yields binary.ShiftRightZeroFill j k ks a b p q = calculated binary.ShiftRightZeroFill IsNumber ks (of_numbers_is binary.ShiftRightZeroFill) a b
operate_yields o j k ks a b p q = calculated o _ ks (λ m n. narrowed _ _ (of_numbers_is o m n)) a b

-- logical operators and conditionals

common_left : (j k : Kind) (v : Value) → OfKind j v → OfKind (common j k) v
common_left IsUndefined IsUndefined v p = p
common_left IsNull IsNull v p = p
common_left IsBoolean IsBoolean v p = p
common_left IsNumber IsNumber v p = p
common_left IsBigInt IsBigInt v p = p
common_left IsString IsString v p = p
common_left IsObject IsObject v p = p
common_left j k v p = tt

common_right : (j k : Kind) (v : Value) → OfKind k v → OfKind (common j k) v
common_right IsUndefined IsUndefined v p = p
common_right IsNull IsNull v p = p
common_right IsBoolean IsBoolean v p = p
common_right IsNumber IsNumber v p = p
common_right IsBigInt IsBigInt v p = p
common_right IsString IsString v p = p
common_right IsObject IsObject v p = p
common_right j k v p = tt

choice : (q : ℕ → Demand) (ks : Kids q) (P : Value → Type 0) (b : Bool) (c d : Command q Value) → Yields ks P c → Yields ks P d → Yields ks P (choose b c d)
choice q ks P true c d y z = y
choice q ks P false c d y z = z

-- what an event tells

told_object : (v a : Value) → only_object v ≡ hears a → OfKind IsObject a
told_object (Object n f) a h = let e : Object n f ≡ a = cc in subst (OfKind IsObject) e tt
told_object v a h = cc

heard_new : (a : Value) (g : Given) → hear NewOf g ≡ hears a → OfKind IsObject a
heard_new a (Normal v) h = told_object v a h
heard_new a g h = cc

heard_array : (a : Value) (g : Given) → hear ArrayOf g ≡ hears a → OfKind IsObject a
heard_array a (Normal v) h = told_object v a h
heard_array a g h = cc

heard_made : (a : Value) (g : Given) → hear ObjectOf g ≡ hears a → OfKind IsObject a
heard_made a (Normal v) h = told_object v a h
heard_made a g h = cc

heard_created : (a : Value) (g : Given) → hear Create g ≡ hears a → OfKind IsObject a
heard_created a (Normal v) h = told_object v a h
heard_created a g h = cc

heard_carried : (a : Value) (g : Given) → hear (NodeOf AnObject) g ≡ hears a → OfKind IsObject a
heard_carried a (Normal v) h = told_object v a h
heard_carried a g h = cc

told_boolean : (v a : Value) → boolean_value v ≡ hears a → OfKind IsBoolean a
told_boolean (Boolean b) a h = let e : Boolean b ≡ a = cc in subst (OfKind IsBoolean) e tt
told_boolean v a h = cc

heard_boolean : (a : Value) (g : Given) → hear (NodeOf ABoolean) g ≡ hears a → OfKind IsBoolean a
heard_boolean a (Normal v) h = told_boolean v a h
heard_boolean a g h = cc

-- sequences

parts_yield : (ts : Trees) → Yields {q = sequence_demand (length (facts ts)) Val} (Claims kind_facts ts (sequence_demand (length (facts ts)) Val)) (OfKind (last_kind (each_kind ts))) (sequence (length (facts ts)) Val)
unfolding Yields
parts_yield none = tt
parts_yield (t ▸ none) = (λ v p. p, λ x. tt)
parts_yield (t ▸ (u ▸ us)) = (λ a p. yields_shift (sequence_demand (length (facts (t ▸ (u ▸ us)))) Val) (Claims kind_facts (t ▸ (u ▸ us)) (sequence_demand (length (facts (t ▸ (u ▸ us)))) Val)) (OfKind (last_kind (each_kind (u ▸ us)))) (parts (length (facts us)) Val) (parts_yield (u ▸ us)), λ x. tt)

name_yields : (q : ℕ → Demand) (ks : Kids q) (k : NameKind) → Yields ks (OfKind (name_kind k)) (identifier_step k (As Val) tt)
unfolding Yields
name_yields q ks UndefinedName = tt
name_yields q ks NumberName = tt
name_yields q ks PlainName = (λ v t. tt, λ x. tt)
name_yields q ks EvalName = (λ v t. tt, λ x. tt)

type_yields : (q : ℕ → Demand) (ks : Kids q) (k : NameKind) → Yields ks (OfKind (name_kind k)) (identifier_step k OfType tt)
unfolding Yields
type_yields q ks UndefinedName = tt
type_yields q ks NumberName = tt
type_yields q ks PlainName = (λ v t. tt, λ x. tt)
type_yields q ks EvalName = (λ v t. tt, λ x. tt)

pub replied : (q : ℕ → Demand) (ks : Kids q) (P : Value → Type 0) (c : Command q Value) → Yields ks P c → Yields ks P (valued (As Val) tt c)
unfolding Yields
replied q ks P c y = yields_bind ks P P c (reply (As Val) tt) y (λ v p. p)

pub handed : (q : ℕ → Demand) (ks : Kids q) (P : Value → Type 0) (c : Command q Value) → Yields ks P c → Yields ks P (passing (As Val) tt c)
unfolding Yields
handed q ks P c y = yields_bind ks P P c (passed (As Val) tt) y (λ v p. p)

-- the table

module _ (xs : List Name) (n : ℕ) (ts : Trees) where
  abbrev of_kids : (h : Shape) (q : Demand) → Kids (demand h (facts ts) q)
  of_kids h q = Claims kind_facts ts (demand h (facts ts) q)

  abbrev left : Kind
  left = nth_kind (each_kind ts) 0

  abbrev right : Kind
  right = nth_kind (each_kind ts) 1

  value : (h : Shape) → NodeYields kind_facts (As Val) tt h xs n ts
  unfolding Yields step
  value shape.Listed = tt
  value shape.InnerExpression = (λ v p. at_value ts 0 v p, λ x. tt)
  value shape.Identifier = name_yields _ _ (first_kind (kinds xs))
  value (shape.NumericLiteral m) = tt
  value (shape.StringLiteral s) = tt
  value (shape.BooleanLiteral b) = tt
  value shape.NullLiteral = tt
  value (shape.BigIntLiteral m) = tt
  value (shape.RegExpLiteral pattern flags) = (λ a t. heard_carried a t.0 t.1, λ x. tt)
  value (shape.UnaryExpression o) = replied _ _ _ (unary_step o) (unary_yields o left _)
  value (shape.BinaryExpression o) = replied _ (of_kids (shape.BinaryExpression o) (As Val)) (OfKind (binary_kind o left right)) (binary_step o) (λ a p. (λ b q. operate_yields o left right _ a b (at_value ts 0 a p) (at_value ts 1 b q), λ x. tt), λ x. tt)
  value shape.PrivateInExpression = (λ a t. heard_boolean a t.0 t.1, λ x. tt)
  value (shape.LogicalExpression And) = handed _ (of_kids (shape.LogicalExpression And) (As Val)) (OfKind (common left right)) (logical_step And Val) (λ a p. choice _ _ _ (truth a) _ _ (λ b q. common_right left right b (at_value ts 1 b q), λ x. tt) (common_left left right a (at_value ts 0 a p)), λ x. tt)
  value (shape.LogicalExpression Or) = handed _ (of_kids (shape.LogicalExpression Or) (As Val)) (OfKind (common left right)) (logical_step Or Val) (λ a p. choice _ _ _ (truth a) _ _ (common_left left right a (at_value ts 0 a p)) (λ b q. common_right left right b (at_value ts 1 b q), λ x. tt), λ x. tt)
  value (shape.LogicalExpression Coalesce) = handed _ (of_kids (shape.LogicalExpression Coalesce) (As Val)) (OfKind (common left right)) (logical_step Coalesce Val) (λ a p. choice _ _ _ (is_nullish a) _ _ (λ b q. common_right left right b (at_value ts 1 b q), λ x. tt) (common_left left right a (at_value ts 0 a p)), λ x. tt)
  value shape.ConditionalExpression = handed _ (of_kids shape.ConditionalExpression (As Val)) (OfKind (common right (nth_kind (each_kind ts) 2))) (conditional_step Val) (λ a p. choice _ _ _ a _ _ (λ b q. common_left right (nth_kind (each_kind ts) 2) b (at_value ts 1 b q), λ x. tt) (λ b q. common_right right (nth_kind (each_kind ts) 2) b (at_value ts 2 b q), λ x. tt), λ x. tt)
  value shape.SequenceExpression = (λ v p. at_value ts 0 v p, λ x. tt)
  value (shape.AssignmentExpression Assign) = (λ reference p. (λ v q. (λ u w. at_value ts 1 v q, λ x. tt), λ x. tt), λ x. tt)
  value shape.TemplateLiteral = (λ ss p. tt, λ x. tt)
  value shape.ArrayExpression = (λ es p. (λ a t. heard_array a t.0 t.1, λ x. tt), λ x. tt)
  value shape.ObjectExpression = (λ es p. (λ a t. heard_made a t.0 t.1, λ x. tt), λ x. tt)
  value (shape.Function false is_generator directives) = (λ a t. heard_created a t.0 t.1, λ x. tt)
  value (shape.ArrowFunctionExpression directives) = (λ a t. heard_created a t.0 t.1, λ x. tt)
  value (shape.Class false) = (λ a t. heard_carried a t.0 t.1, λ x. tt)
  value shape.NewExpression = (λ f p. (λ es q. (λ a t. heard_new a t.0 t.1, λ x. tt), λ x. tt), λ x. tt)
  value h = yields_all {q = demand h (facts ts) (As Val)} (of_kids h (As Val)) (OfKind (kind (node h xs n ts))) (λ v. tt) (step h (kinds xs) (facts ts) (As Val) tt)

  last : (h : Shape) → NodeYields kind_facts (Parts Val) tt h xs n ts
  unfolding Yields step
  last shape.Listed = parts_yield ts
  last shape.InnerExpression = (λ v p. at_value ts 0 v p, λ x. tt)
  last (shape.Function true is_generator directives) = tt
  last (shape.Function false is_generator directives) = tt
  last (shape.Class true) = tt
  last (shape.Class false) = tt
  last h = tt

  texts : (h : Shape) → NodeYields kind_facts Texts tt h xs n ts
  texts h = yields_all {q = demand h (facts ts) Texts} (of_kids h Texts) (λ ss. Unit {0}) (λ ss. tt) (step h (kinds xs) (facts ts) Texts tt)

  of_type : (h : Shape) → NodeYields kind_facts OfType tt h xs n ts
  unfolding Yields step
  of_type shape.Absent = tt
  of_type shape.Identifier = type_yields _ _ (first_kind (kinds xs))
  of_type shape.InnerExpression = (λ v p. at_value ts 0 v p, λ x. tt)
  of_type shape.ChainExpression = yields_all {q = demand shape.ChainExpression (facts ts) OfType} (of_kids shape.ChainExpression OfType) (λ v. Unit {0}) (λ v. tt) (step shape.ChainExpression (kinds xs) (facts ts) OfType tt)
  of_type (shape.Function true is_generator directives) = tt
  of_type (shape.Class true) = tt
  of_type (shape.Function false is_generator directives) = value (shape.Function false is_generator directives)
  of_type (shape.Class false) = value (shape.Class false)
  of_type h = value h

pub kind_table : Table kind_facts
kind_table = record { value = λ h xs n ts. value xs n ts h; last = λ h xs n ts. last xs n ts h; texts = λ h xs n ts. texts xs n ts h; of_type = λ h xs n ts. of_type xs n ts h }

pub kind_sound : KindSound
kind_sound n e s = tree_gives kind_facts kind_table e n (As Val) tt s
