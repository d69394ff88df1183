-- The constant of each shape is its value.
use Rattle.std.proofs.Common.{◌≡◌, ℕ, ℤ, zero, suc, Bool, true, false, List, ◌∷◌, length, Option, Some, None, refl, sym, ap, ◌∙◌, subst}
use Rattle.std.specs.Prelude.{not, ◌&&◌, codes, pos}
use Rattle.mini_model.specs.declared.operator.BinaryOperator.{BinaryOperator}
use Rattle.mini_model.specs.declared.operator.BinaryOperator.TheVariants as binary
use Rattle.mini_model.specs.declared.operator.LogicalOperator.TheVariants.{Or, And, Coalesce}
use Rattle.mini_model.specs.declared.operator.UnaryOperator.{UnaryOperator}
use Rattle.mini_model.specs.declared.operator.UnaryOperator.TheVariants as unary
use Rattle.mini_model.specs.declared.shape.Shape.{Shape}
use Rattle.mini_model.specs.declared.shape.Shape.TheVariants as shape
use Rattle.mini_model.specs.declared.name.Name.{Name}
use Rattle.mini_model.specs.Tree.{Trees, node, none, ◌▸◌}
use Rattle.mini_model.specs.Weight.{same_text}
use Rattle.mini_laws.specs.Value.{Value, Undefined, Null, Boolean, Number, String, Symbol, Object, choose, truth, is_nullish}
use Rattle.mini_laws.specs.Conversion.{Made, makes, raises, outside, both, key_value, to_number, to_text}
use Rattle.mini_laws.specs.Operators.{of_primitives, of_numbers, by_numbers, loosely_equal, type_text, of_number}
use Rattle.mini_laws.specs.State.{Hint, ForString}
use Rattle.mini_laws.specs.Demand.{Val, Demand, As, OfType, Deleted, Parts, Texts, Reference, AName, AMember, AFetched, ACarried, AValue}
use Rattle.mini_laws.specs.Command.{Command, ret, kid, then, bind, shift}
use Rattle.mini_laws.specs.Naming.{NameKind, PlainName, EvalName, UndefinedName, NumberName, kinds, facts, texts_all}
use Rattle.mini_laws.specs.Asking.{demand, sequence_demand, operand_demand}
use Rattle.mini_laws.specs.Replies.{primitive, numeric, of_made, of_option, hint_of, loosely, or_event}
use Rattle.mini_laws.specs.Expressions.{first_kind, unary_step, binary_step, operate_by, logical_step, conditional_step, member_step, got, interleaved}
use Rattle.mini_laws.specs.Targets.{identifier_step}
use Rattle.mini_laws.specs.Lists.{parts, sequence, template_texts}
use Rattle.mini_laws.specs.Step.{step}
use Rattle.mini_terms.specs.Kind.{IsBoolean, IsNumber, IsString, OfKind}
use Rattle.mini_terms.specs.Const.{of_operand, made, name_const, unary_const, mapped, binary_value, binary_const, logical_const, conditional_const, member_const, cons_text, text_of, all_texts, template_const, nth_const, last_const, nth_texts, const, each_const, texts_in, each_texts, Agrees}
use Rattle.mini_terms.specs.Sound.{ConstSound}
use Rattle.mini_terms.proofs.Frame.{Yields, gives_map, yields_all, yields_bind, yields_shift, Facts', fact_at, texts_at, Claims, NodeYields, Table, tree_gives}
use Rattle.mini_terms.proofs.KindTable.{Kids, replied, handed}
use Rattle.mini_terms.proofs.Made.{MadeIs, Is, of_numbers_is, of_primitives_is, text_added, added_text, added_number, of_number_is}
use Rattle.mini_terms.proofs.Fine.{IsPrimitive, primitive_of}

-- a constant is primitive
abbrev pub Known : Option Value → Value → Type 0
Known (Some c) v = (v ≡ c) × IsPrimitive c
Known None v = Unit {0}

abbrev pub const_facts : Facts'
const_facts = record { Fact = Option Value; top = None; fact = const; Is = Known; any = λ v. tt; AreTexts = λ t ss. Agrees (texts_in t) ss }

at_const : (ts : Trees) (i : ℕ) → fact_at const_facts ts i ≡ nth_const (each_const ts) i
at_const none i = refl
at_const (t ▸ ts) zero = refl
at_const (t ▸ ts) (suc i) = at_const ts i

at_value : (ts : Trees) (i : ℕ) (v : Value) → Known (fact_at const_facts ts i) v → Known (nth_const (each_const ts) i) v
at_value ts i v p = subst (λ c. Known c v) (at_const ts i) p

at_texts : (ts : Trees) (i : ℕ) (ss : List (List ℕ)) → texts_at const_facts ts i ss → Agrees (nth_texts (each_texts ts) i) ss
at_texts none i ss p = tt
at_texts (t ▸ ts) zero ss p = p
at_texts (t ▸ ts) (suc i) ss p = at_texts ts i ss p

-- what operators make of constants is primitive

made_map : {A : Type 0} (P Q : A → Type 0) → ((a : A) → P a → Q a) → (m : Made A) → MadeIs P m → MadeIs Q m
unfolding MadeIs
made_map P Q f (makes a) p = f a p
made_map P Q f raises p = tt
made_map P Q f outside p = tt

pub number_primitive : (m : Made Value) → Is IsNumber m → MadeIs IsPrimitive m
number_primitive m p = made_map (OfKind IsNumber) IsPrimitive (λ v q. primitive_of IsNumber v refl q) m p

pub boolean_primitive : (m : Made Value) → Is IsBoolean m → MadeIs IsPrimitive m
boolean_primitive m p = made_map (OfKind IsBoolean) IsPrimitive (λ v q. primitive_of IsBoolean v refl q) m p

string_primitive : (m : Made Value) → Is IsString m → MadeIs IsPrimitive m
string_primitive m p = made_map (OfKind IsString) IsPrimitive (λ v q. primitive_of IsString v refl q) m p

pub added_primitive : (x y : Value) → MadeIs IsPrimitive (of_primitives binary.Addition x y)
added_primitive (String s) y = string_primitive (of_primitives binary.Addition (String s) y) (text_added s y)
added_primitive x (String t) = string_primitive (of_primitives binary.Addition x (String t)) (added_text x t)
added_primitive x y = number_primitive (of_primitives binary.Addition x y) (added_number x y tt tt)

pub related_primitive : (o : BinaryOperator) (x y : Value) → Is IsBoolean (of_primitives o x y) → MadeIs IsPrimitive (of_primitives o x y)
related_primitive o x y p = boolean_primitive (of_primitives o x y) p

-- commands

module _ (q : ℕ → Demand) (ks : Kids q) where
  unknown : (c : Command q Value) → Yields ks (Known None) c
  unknown c = yields_all ks (Known None) (λ v. tt) c

  prim_bind : {A : Type 0} (P : A → Type 0) (h : Hint) (v : Value) (f : Value → Command q A) → IsPrimitive v → Yields ks P (f v) → Yields ks P (bind (primitive h v) f)
  prim_bind P h (Symbol n) f p y = absurd p
  prim_bind P h (Object n g) f p y = absurd p
  prim_bind P h Undefined f p y = y
  prim_bind P h Null f p y = y
  prim_bind P h (Boolean b) f p y = y
  prim_bind P h (Number n) f p y = y
  prim_bind P h (String s) f p y = y

  made_known : (m : Made Value) → MadeIs IsPrimitive m → Yields ks (Known (made m)) (of_made m)
  unfolding Yields MadeIs
  made_known (makes a) p = (refl, p)
  made_known raises p = (λ a t. tt, λ x. tt)
  made_known outside p = tt

  -- both operands made primitive, and then both made numbers one after another
  primitives_known : (o : BinaryOperator) (a b : Value) → IsPrimitive a → IsPrimitive b → MadeIs IsPrimitive (of_primitives o a b) → Yields ks (Known (made (of_primitives o a b))) (bind (primitive (hint_of o) a) (λ x. bind (primitive (hint_of o) b) (λ y. of_made (of_primitives o x y))))
  primitives_known o a b p r h = prim_bind (Known (made (of_primitives o a b))) (hint_of o) a _ p (prim_bind (Known (made (of_primitives o a b))) (hint_of o) b _ r (made_known (of_primitives o a b) h))

  numeric_bind : {A : Type 0} (P : A → Type 0) (v : Value) (f : ℤ → Command q A) → IsPrimitive v → Yields ks P (bind (of_made (to_number v)) f) → Yields ks P (bind (numeric v) f)
  numeric_bind P (Symbol n) f p y = absurd p
  numeric_bind P (Object n g) f p y = absurd p
  numeric_bind P Undefined f p y = y
  numeric_bind P Null f p y = y
  numeric_bind P (Boolean b) f p y = y
  numeric_bind P (Number n) f p y = y
  numeric_bind P (String s) f p y = y

  -- where no number is made nothing is known
  both_known : (m n : Made ℤ) (f : ℤ → ℤ → Made Value) → ((x y : ℤ) → MadeIs IsPrimitive (f x y)) → Yields ks (Known (made (both m n f))) (bind (of_made m) (λ x. bind (of_made n) (λ y. of_made (f x y))))
  unfolding Yields
  both_known (makes x) (makes y) f h = made_known (f x y) (h x y)
  both_known (makes x) raises f h = (λ a t. tt, λ y. tt)
  both_known (makes x) outside f h = tt
  both_known raises n f h = (λ a t. tt, λ y. tt)
  both_known outside n f h = tt

  second_known : (o : BinaryOperator) (b : Value) → IsPrimitive b → ((x y : ℤ) → MadeIs IsPrimitive (of_numbers o x y)) → (m : Made ℤ) → Yields ks (Known (made (both m (to_number b) (of_numbers o)))) (bind (of_made m) (λ x. bind (numeric b) (λ y. of_made (of_numbers o x y))))
  unfolding Yields
  second_known o b r h (makes x) = numeric_bind (Known (made (both (makes x) (to_number b) (of_numbers o)))) b _ r (both_known (makes x) (to_number b) (of_numbers o) h)
  second_known o b r h raises = (λ a t. tt, λ y. tt)
  second_known o b r h outside = tt

  numbers_known : (o : BinaryOperator) (a b : Value) → IsPrimitive a → IsPrimitive b → ((x y : ℤ) → MadeIs IsPrimitive (of_numbers o x y)) → Yields ks (Known (made (by_numbers o a b))) (bind (numeric a) (λ x. bind (numeric b) (λ y. of_made (of_numbers o x y))))
  numbers_known o a b p r h =
      numeric_bind (Known (made (by_numbers o a b))) a _ p (second_known o b r h (to_number a))

  unary_made : (o : UnaryOperator) (m : Made ℤ) → Yields ks (Known (made (of_operand o m))) (bind (of_made m) (λ n. of_made (of_number o n)))
  unfolding Yields
  unary_made o (makes n) = made_known (of_number o n) (number_primitive (of_number o n) (of_number_is o n))
  unary_made o raises = (λ a t. tt, λ y. tt)
  unary_made o outside = tt

  option_known : (m : Option Bool) → Yields ks (λ c. m ≡ Some c) (of_option m)
  unfolding Yields
  option_known (Some c) = refl
  option_known None = tt

  loosely_known : (a b : Value) → IsPrimitive a → IsPrimitive b → Yields ks (λ c. loosely_equal a b ≡ Some c) (loosely a b)
  unfolding Yields
  loosely_known (Symbol n) b p r = absurd p
  loosely_known (Object n f) b p r = absurd p
  loosely_known a (Symbol n) p r = absurd r
  loosely_known a (Object n f) p r = absurd r
  loosely_known Undefined b p r = refl
  loosely_known Null b p r = refl
  loosely_known a Undefined p r = refl
  loosely_known a Null p r = refl
  loosely_known a b p r = option_known (loosely_equal a b)

  equal_known : (f : Bool → Bool) (a b : Value) → IsPrimitive a → IsPrimitive b → Yields ks (Known (mapped f (loosely_equal a b))) (bind (loosely a b) (λ c. ret (Boolean (f c))))
  unfolding Yields
  equal_known f a b p r = yields_bind ks (λ c. loosely_equal a b ≡ Some c) (Known (mapped f (loosely_equal a b))) (loosely a b) (λ c. ret (Boolean (f c))) (loosely_known a b p r) (λ c e. subst (λ m. Known (mapped f m) (Boolean (f c))) (sym e) (refl, tt))

  by_known : (o : BinaryOperator) (a b : Value) → IsPrimitive a → IsPrimitive b → Yields ks (Known (binary_value o a b)) (operate_by o a b)
  unfolding Yields
  by_known binary.Equality a b p r = equal_known (λ c. c) a b p r
  by_known binary.Inequality a b p r = equal_known not a b p r
  by_known binary.StrictEquality a b p r = (refl, tt)
  by_known binary.StrictInequality a b p r = (refl, tt)
  by_known binary.In a b p r = unknown (operate_by binary.In a b)
  by_known binary.Instanceof a b p r = unknown (operate_by binary.Instanceof a b)
  by_known binary.Addition a b p r = primitives_known binary.Addition a b p r (added_primitive a b)
  by_known binary.LessThan a b p r = primitives_known binary.LessThan a b p r (related_primitive binary.LessThan a b (of_primitives_is binary.LessThan a b (λ e. cc)))
  by_known binary.GreaterThan a b p r = primitives_known binary.GreaterThan a b p r (related_primitive binary.GreaterThan a b (of_primitives_is binary.GreaterThan a b (λ e. cc)))
  by_known binary.LessEqualThan a b p r = primitives_known binary.LessEqualThan a b p r (related_primitive binary.LessEqualThan a b (of_primitives_is binary.LessEqualThan a b (λ e. cc)))
  by_known binary.GreaterEqualThan a b p r = primitives_known binary.GreaterEqualThan a b p r (related_primitive binary.GreaterEqualThan a b (of_primitives_is binary.GreaterEqualThan a b (λ e. cc)))
  by_known o a b p r = numbers_known o a b p r (λ x y. number_primitive (of_numbers o x y) (of_numbers_is o x y))

  -- of operands that are known, or not
  binary_known : (o : BinaryOperator) (c d : Option Value) (a b : Value) → Known c a → Known d b → Yields ks (Known (binary_const o c d)) (operate_by o a b)
  binary_known o (Some c) (Some d) a b p r = subst (λ x. Yields ks (Known (binary_value o c d)) (operate_by o x b)) (sym p.0) (subst (λ y. Yields ks (Known (binary_value o c d)) (operate_by o c y)) (sym r.0) (by_known o c d p.1 r.1))
  binary_known o None d a b p r = unknown (operate_by o a b)
  binary_known o (Some c) None a b p r = unknown (operate_by o a b)

  number_known : (o : UnaryOperator) (c : Value) (v : Value) → Known (Some c) v → Yields ks (Known (made (of_operand o (to_number c)))) (bind (numeric v) (λ n. of_made (of_number o n)))
  number_known o c v p = subst (λ x. Yields ks (Known (made (of_operand o (to_number c)))) (bind (numeric x) (λ n. of_made (of_number o n)))) (sym p.0) (numeric_bind (Known (made (of_operand o (to_number c)))) c _ p.1 (unary_made o (to_number c)))

  choose_known : (b : Bool) (x y : Value) (c d : Command q Value) → Yields ks (Known (Some x)) c → Yields ks (Known (Some y)) d → Yields ks (Known (Some (choose b x y))) (choose b c d)
  choose_known true x y c d p r = p
  choose_known false x y c d p r = r

  -- logical operators and conditionals

  and_known : (c d : Option Value) (a : Value) → Known c a → (rest : Command q Value) → Yields ks (Known d) rest → Yields ks (Known (logical_const And c d)) (choose (truth a) rest (ret a))
  unfolding Yields
  and_known (Some c) (Some d) a p rest y = subst (λ x. Yields ks (Known (Some (choose (truth c) d c))) (choose (truth x) rest (ret x))) (sym p.0) (choose_known (truth c) d c rest (ret c) y (refl, p.1))
  and_known None d a p rest y = unknown (choose (truth a) rest (ret a))
  and_known (Some c) None a p rest y = unknown (choose (truth a) rest (ret a))

  or_known : (c d : Option Value) (a : Value) → Known c a → (rest : Command q Value) → Yields ks (Known d) rest → Yields ks (Known (logical_const Or c d)) (choose (truth a) (ret a) rest)
  unfolding Yields
  or_known (Some c) (Some d) a p rest y = subst (λ x. Yields ks (Known (Some (choose (truth c) c d))) (choose (truth x) (ret x) rest)) (sym p.0) (choose_known (truth c) c d (ret c) rest (refl, p.1) y)
  or_known None d a p rest y = unknown (choose (truth a) (ret a) rest)
  or_known (Some c) None a p rest y = unknown (choose (truth a) (ret a) rest)

  coalesce_known : (c d : Option Value) (a : Value) → Known c a → (rest : Command q Value) → Yields ks (Known d) rest → Yields ks (Known (logical_const Coalesce c d)) (choose (is_nullish a) rest (ret a))
  unfolding Yields
  coalesce_known (Some c) (Some d) a p rest y = subst (λ x. Yields ks (Known (Some (choose (is_nullish c) d c))) (choose (is_nullish x) rest (ret x))) (sym p.0) (choose_known (is_nullish c) d c rest (ret c) y (refl, p.1))
  coalesce_known None d a p rest y = unknown (choose (is_nullish a) rest (ret a))
  coalesce_known (Some c) None a p rest y = unknown (choose (is_nullish a) rest (ret a))

  conditional_known : (c d f : Option Value) (b : Bool) → ((v : Value) × (Known c v × (truth v ≡ b))) → (l r : Command q Value) → Yields ks (Known d) l → Yields ks (Known f) r → Yields ks (Known (conditional_const c d f)) (choose b l r)
  conditional_known (Some c) (Some d) (Some f) b p l r y z = subst (λ x. Yields ks (Known (Some (choose x d f))) (choose b l r)) (sym p.1.1 ∙ ap truth p.1.0.0) (choose_known b d f l r y z)
  conditional_known None d f b p l r y z = unknown (choose b l r)
  conditional_known (Some c) None f b p l r y z = unknown (choose b l r)
  conditional_known (Some c) (Some d) None b p l r y z = unknown (choose b l r)

  -- members

  length_known : (b : Bool) (n : Value) → IsPrimitive n → (m : Option Value) (c : Command q Value) → Yields ks (Known (choose b (Some n) None)) (or_event (choose b (Some n) m) c)
  unfolding Yields
  length_known true n p m c = (refl, p)
  length_known false n p m c = unknown (or_event m c)

  -- a text stays one as a key
  abbrev KeyKnown : Option Value → Value → Type 0
  KeyKnown (Some (String t)) k = k ≡ String t
  KeyKnown d k = Unit {0}

  key_known : (d : Option Value) (v : Value) → Known d v → KeyKnown d (key_value v)
  key_known (Some (String t)) v p = ap key_value p.0
  key_known (Some Undefined) v p = tt
  key_known (Some Null) v p = tt
  key_known (Some (Boolean b)) v p = tt
  key_known (Some (Number n)) v p = tt
  key_known (Some (Symbol n)) v p = tt
  key_known (Some (Object n f)) v p = tt
  key_known None v p = tt

  abbrev RefKnown : Option Value → Option Value → Reference → Type 0
  RefKnown c d (AMember o k) = Known c o × KeyKnown d k
  RefKnown c d reference = ⊥

  got_known : (c d : Option Value) (o k : Value) → Known c o → KeyKnown d k → Yields ks (Known (member_const c d)) (got (AMember o k))
  got_known (Some (String s)) (Some (String t)) o k p r =
      subst (λ x. Yields ks (Known (member_const (Some (String s)) (Some (String t)))) (got (AMember x k))) (sym p.0) (subst (λ y. Yields ks (Known (member_const (Some (String s)) (Some (String t)))) (got (AMember (String s) y))) (sym r) (length_known (same_text t (codes "length")) (Number (pos (length s))) tt _ _))
  got_known c d o k p r = unknown (got (AMember o k))

  got_by : (c d : Option Value) (reference : Reference) → RefKnown c d reference → Yields ks (Known (member_const c d)) (got reference)
  got_by c d (AMember o k) p = got_known c d o k p.0 p.1
  got_by c d AName p = absurd p
  got_by c d (AFetched o k) p = absurd p
  got_by c d ACarried p = absurd p
  got_by c d (AValue v) p = absurd p

  either_yields : {A : Type 0} (P : A → Type 0) (b : Bool) (c d : Command q A) → Yields ks P c → Yields ks P d → Yields ks P (choose b c d)
  either_yields P true c d y z = y
  either_yields P false c d y z = z

-- operators of one operand

not_known : (d : Option Value) (b : Bool) → ((v : Value) × (Known d v × (truth v ≡ b))) → Known (unary_const unary.LogicalNot d) (Boolean (not b))
not_known (Some c) b p = (ap (λ x. Boolean (not x)) (sym p.1.1 ∙ ap truth p.1.0.0), tt)
not_known None b p = tt

typeof_known : (d : Option Value) (v : Value) → Known d v → Known (unary_const unary.Typeof d) (String (type_text v))
typeof_known (Some c) v p = (ap (λ x. String (type_text x)) p.0, tt)
typeof_known None v p = tt

template_known : (texts : List (List ℕ)) (m : Option (List (List ℕ))) (ss : List (List ℕ)) → Agrees m ss → Known (template_const texts m) (String (interleaved texts ss))
template_known texts (Some parts) ss p = (ap (λ x. String (interleaved texts x)) p, tt)
template_known texts None ss p = tt

plus_known : (d : Option Value) (ks : Kids (λ i. As Val)) (v : Value) → Known d v → Yields {q = λ i. As Val} ks (Known (unary_const unary.UnaryPlus d)) (bind (numeric v) (λ n. of_made (of_number unary.UnaryPlus n)))
plus_known (Some c) ks v p = number_known _ ks unary.UnaryPlus c v p
plus_known None ks v p = unknown _ ks _

minus_known : (d : Option Value) (ks : Kids (λ i. As Val)) (v : Value) → Known d v → Yields {q = λ i. As Val} ks (Known (unary_const unary.UnaryNegation d)) (bind (numeric v) (λ n. of_made (of_number unary.UnaryNegation n)))
minus_known (Some c) ks v p = number_known _ ks unary.UnaryNegation c v p
minus_known None ks v p = unknown _ ks _

turned_known : (d : Option Value) (ks : Kids (λ i. As Val)) (v : Value) → Known d v → Yields {q = λ i. As Val} ks (Known (unary_const unary.BitwiseNot d)) (bind (numeric v) (λ n. of_made (of_number unary.BitwiseNot n)))
turned_known (Some c) ks v p = number_known _ ks unary.BitwiseNot c v p
turned_known None ks v p = unknown _ ks _

-- lists

parts_known : (ts : Trees) → Yields {q = sequence_demand (length (facts ts)) Val} (Claims const_facts ts (sequence_demand (length (facts ts)) Val)) (Known (last_const (each_const ts))) (sequence (length (facts ts)) Val)
unfolding Yields
parts_known none = tt
parts_known (t ▸ none) = (λ v p. p, λ x. tt)
parts_known (t ▸ (u ▸ us)) = (λ a p. yields_shift (sequence_demand (length (facts (t ▸ (u ▸ us)))) Val) (Claims const_facts (t ▸ (u ▸ us)) (sequence_demand (length (facts (t ▸ (u ▸ us)))) Val)) (Known (last_const (each_const (u ▸ us)))) (parts (length (facts us)) Val) (parts_known (u ▸ us)), λ x. tt)

cons_agrees : (s : List ℕ) (m : Option (List (List ℕ))) (ss : List (List ℕ)) → Agrees m ss → Agrees (cons_text (Some s) m) (s ∷ ss)
cons_agrees s (Some x) ss p = ap (λ y. s ∷ y) p
cons_agrees s None ss p = tt

module _ (q : ℕ → Demand) (ks : Kids q) where
  text_made : (t : Made (List ℕ)) (m : Option (List (List ℕ))) (c : Command q (List (List ℕ))) → Yields ks (Agrees m) c → Yields ks (Agrees (cons_text (made t) m)) (bind (of_made t) (λ s. bind c (λ ss. ret (s ∷ ss))))
  unfolding Yields
  text_made (makes s) m c y = yields_bind ks (Agrees m) (Agrees (cons_text (Some s) m)) c (λ ss. ret (s ∷ ss)) y (λ ss p. cons_agrees s m ss p)
  text_made raises m c y = (λ a t. tt, λ x. tt)
  text_made outside m c y = tt

  text_known : (d : Option Value) (v : Value) → Known d v → (m : Option (List (List ℕ))) (c : Command q (List (List ℕ))) → Yields ks (Agrees m) c → Yields ks (Agrees (cons_text (text_of d) m)) (bind (primitive ForString v) (λ x. bind (of_made (to_text x)) (λ s. bind c (λ ss. ret (s ∷ ss)))))
  text_known (Some w) v p m c y =
      subst (λ z. Yields ks (Agrees (cons_text (made (to_text w)) m)) (bind (primitive ForString z) (λ x. bind (of_made (to_text x)) (λ s. bind c (λ ss. ret (s ∷ ss)))))) (sym p.0)
      (prim_bind q ks (Agrees (cons_text (made (to_text w)) m)) ForString w (λ x. bind (of_made (to_text x)) (λ s. bind c (λ ss. ret (s ∷ ss)))) p.1 (text_made (to_text w) m c y))
  text_known None v p m c y = yields_all ks (Agrees (cons_text None m)) (λ ss. tt) (bind (primitive ForString v) (λ x. bind (of_made (to_text x)) (λ s. bind c (λ ss. ret (s ∷ ss)))))

texts_known : (ts : Trees) → Yields {q = λ i. As Val} (Claims const_facts ts (λ i. As Val)) (Agrees (all_texts (each_const ts))) (template_texts (length (facts ts)))
unfolding Yields
texts_known none = refl
texts_known (t ▸ ts) = (
  λ v p. text_known (λ i. As Val) (Claims const_facts (t ▸ ts) (λ i. As Val)) (const t) v p (all_texts (each_const ts)) (shift {q = λ i. As Val} (template_texts (length (facts ts))))
      (yields_shift (λ i. As Val) (Claims const_facts (t ▸ ts) (λ i. As Val)) (Agrees (all_texts (each_const ts))) (template_texts (length (facts ts))) (texts_known ts)),
  λ x. tt,
)

name_known : (q : ℕ → Demand) (ks : Kids q) (k : NameKind) → Yields ks (Known (name_const k)) (identifier_step k (As Val) tt)
unfolding Yields
name_known q ks UndefinedName = (refl, tt)
name_known q ks NumberName = tt
name_known q ks PlainName = (λ v t. tt, λ x. tt)
name_known q ks EvalName = (λ v t. tt, λ x. tt)

type_known : (q : ℕ → Demand) (ks : Kids q) (k : NameKind) → Yields ks (Known (name_const k)) (identifier_step k OfType tt)
unfolding Yields
type_known q ks UndefinedName = (refl, tt)
type_known q ks NumberName = tt
type_known q ks PlainName = (λ v t. tt, λ x. tt)
type_known q ks EvalName = (λ v t. tt, λ x. tt)

-- the table

module _ (xs : List Name) (n : ℕ) (ts : Trees) where
  abbrev kids : (h : Shape) (q : Demand) → Kids (demand h (facts ts) q)
  kids h q = Claims const_facts ts (demand h (facts ts) q)

  abbrev at : ℕ → Option Value
  at i = nth_const (each_const ts) i

  here : (i : ℕ) (v : Value) → Known (fact_at const_facts ts i) v → Known (at i) v
  here i v p = at_value ts i v p

  tested : (i : ℕ) (b : Bool) → ((v : Value) × (Known (fact_at const_facts ts i) v × (truth v ≡ b))) → (v : Value) × (Known (at i) v × (truth v ≡ b))
  tested i b p = (p.0, (here i p.0 p.1.0, p.1.1))

  unary_known : (o : UnaryOperator) → Yields {q = λ i. operand_demand o} (Claims const_facts ts (λ i. operand_demand o)) (Known (unary_const o (at 0))) (unary_step o)
  unfolding Yields
  unary_known unary.LogicalNot = (λ b p. not_known (at 0) b (tested 0 b p), λ x. tt)
  unary_known unary.Typeof = (λ v p. typeof_known (at 0) v (here 0 v p), λ x. tt)
  unary_known unary.Void = (λ v p. (refl, tt), λ x. tt)
  unary_known unary.Delete = yields_all {q = λ i. Deleted} (Claims const_facts ts (λ i. Deleted)) (λ v. Unit {0}) (λ v. tt) (unary_step unary.Delete)
  unary_known unary.UnaryPlus = (λ v p. plus_known (at 0) (Claims const_facts ts (λ i. As Val)) v (here 0 v p), λ x. tt)
  unary_known unary.UnaryNegation = (λ v p. minus_known (at 0) (Claims const_facts ts (λ i. As Val)) v (here 0 v p), λ x. tt)
  unary_known unary.BitwiseNot = (λ v p. turned_known (at 0) (Claims const_facts ts (λ i. As Val)) v (here 0 v p), λ x. tt)

  member_known : (b : Bool) → Yields {q = λ i. As Val} (Claims const_facts ts (λ i. As Val)) (Known (member_const (at 0) (at 1))) (bind (member_step b) got)
  unfolding Yields
  member_known b = yields_bind (Claims const_facts ts (λ i. As Val)) (RefKnown (λ i. As Val) (Claims const_facts ts (λ i. As Val)) (at 0) (at 1)) (Known (member_const (at 0) (at 1))) (member_step b) got
      (λ o p. either_yields (λ i. As Val) (Claims const_facts ts (λ i. As Val)) (RefKnown (λ i. As Val) (Claims const_facts ts (λ i. As Val)) (at 0) (at 1)) (b && is_nullish o) _ _ tt (λ k r. (here 0 o p, key_known (λ i. As Val) (Claims const_facts ts (λ i. As Val)) (at 1) k (here 1 k r)), λ x. tt), λ x. tt)
      (λ reference p. got_by (λ i. As Val) (Claims const_facts ts (λ i. As Val)) (at 0) (at 1) reference p)

  value : (h : Shape) → NodeYields const_facts (As Val) tt h xs n ts
  unfolding Yields step
  value shape.Listed = tt
  value shape.InnerExpression = (λ v p. here 0 v p, λ x. tt)
  value shape.Identifier = name_known _ _ (first_kind (kinds xs))
  value (shape.IdentifierName s) = (refl, tt)
  value (shape.NumericLiteral m) = (refl, tt)
  value (shape.StringLiteral s) = (refl, tt)
  value (shape.BooleanLiteral b) = (refl, tt)
  value shape.NullLiteral = (refl, tt)
  value (shape.UnaryExpression o) = replied _ _ _ (unary_step o) (unary_known o)
  value (shape.BinaryExpression o) = replied _ (kids (shape.BinaryExpression o) (As Val)) (Known (binary_const o (at 0) (at 1))) (binary_step o) (λ a p. (λ b r. binary_known (λ i. As Val) (Claims const_facts ts (λ i. As Val)) o (at 0) (at 1) a b (here 0 a p) (here 1 b r), λ x. tt), λ x. tt)
  value (shape.LogicalExpression And) = handed _ (kids (shape.LogicalExpression And) (As Val)) (Known (logical_const And (at 0) (at 1))) (logical_step And Val) (λ a p. and_known _ (kids (shape.LogicalExpression And) (As Val)) (at 0) (at 1) a (here 0 a p) (kid 1 tt (then ret)) (λ b r. here 1 b r, λ x. tt), λ x. tt)
  value (shape.LogicalExpression Or) = handed _ (kids (shape.LogicalExpression Or) (As Val)) (Known (logical_const Or (at 0) (at 1))) (logical_step Or Val) (λ a p. or_known _ (kids (shape.LogicalExpression Or) (As Val)) (at 0) (at 1) a (here 0 a p) (kid 1 tt (then ret)) (λ b r. here 1 b r, λ x. tt), λ x. tt)
  value (shape.LogicalExpression Coalesce) = handed _ (kids (shape.LogicalExpression Coalesce) (As Val)) (Known (logical_const Coalesce (at 0) (at 1))) (logical_step Coalesce Val) (λ a p. coalesce_known _ (kids (shape.LogicalExpression Coalesce) (As Val)) (at 0) (at 1) a (here 0 a p) (kid 1 tt (then (λ u. ret u))) (λ b r. here 1 b r, λ x. tt), λ x. tt)
  value shape.ConditionalExpression = handed _ (kids shape.ConditionalExpression (As Val)) (Known (conditional_const (at 0) (at 1) (at 2))) (conditional_step Val) (λ b p. conditional_known _ (kids shape.ConditionalExpression (As Val)) (at 0) (at 1) (at 2) b (tested 0 b p) (kid 1 tt (then ret)) (kid 2 tt (then ret)) (λ b r. here 1 b r, λ x. tt) (λ b r. here 2 b r, λ x. tt), λ x. tt)
  value shape.SequenceExpression = (λ v p. here 0 v p, λ x. tt)
  value (shape.StaticMemberExpression b) = replied _ _ _ (bind (member_step b) got) (member_known b)
  value (shape.ComputedMemberExpression b) = replied _ _ _ (bind (member_step b) got) (member_known b)
  value shape.TemplateLiteral = (λ ss p. template_known (texts_all (facts ts)) (nth_texts (each_texts ts) 1) ss (at_texts ts 1 ss p), λ x. tt)
  value h = yields_all {q = demand h (facts ts) (As Val)} (kids h (As Val)) (Known (const (node h xs n ts))) (λ v. tt) (step h (kinds xs) (facts ts) (As Val) tt)

  last : (h : Shape) → NodeYields const_facts (Parts Val) tt h xs n ts
  unfolding Yields step
  last shape.Listed = parts_known ts
  last shape.InnerExpression = (λ v p. here 0 v p, λ x. tt)
  last (shape.Function true is_generator directives) = tt
  last (shape.Function false is_generator directives) = tt
  last (shape.Class true) = tt
  last (shape.Class false) = tt
  last h = tt

  texts : (h : Shape) → NodeYields const_facts Texts tt h xs n ts
  unfolding Yields step
  texts shape.Listed = texts_known ts
  texts h = yields_all {q = demand h (facts ts) Texts} (kids h Texts) (Agrees (texts_in (node h xs n ts))) (λ ss. tt) (step h (kinds xs) (facts ts) Texts tt)

  of_type : (h : Shape) → NodeYields const_facts OfType tt h xs n ts
  unfolding Yields step
  of_type shape.Absent = tt
  of_type shape.Identifier = type_known _ _ (first_kind (kinds xs))
  of_type shape.InnerExpression = (λ v p. here 0 v p, λ x. tt)
  of_type shape.ChainExpression = yields_all {q = demand shape.ChainExpression (facts ts) OfType} (kids shape.ChainExpression OfType) (λ v. Unit {0}) (λ v. tt) (step shape.ChainExpression (kinds xs) (facts ts) OfType tt)
  of_type (shape.Function true is_generator directives) = tt
  of_type (shape.Class true) = tt
  of_type (shape.Function false is_generator directives) = value (shape.Function false is_generator directives)
  of_type (shape.Class false) = value (shape.Class false)
  of_type h = value h

pub const_table : Table const_facts
const_table = record { value = λ h xs n ts. value xs n ts h; last = λ h xs n ts. last xs n ts h; texts = λ h xs n ts. texts xs n ts h; of_type = λ h xs n ts. of_type xs n ts h }

agrees : (c : Option Value) (v : Value) → Known c v → Agrees c v
agrees (Some c) v p = p.0
agrees None v p = tt

pub const_sound : ConstSound
const_sound n e s = gives_map (Known (const n)) (Agrees (const n)) (agrees (const n)) _ (tree_gives const_facts const_table e n (As Val) tt s)
