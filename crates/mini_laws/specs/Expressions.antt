-- Expressions: what each does over its children.
use Rattle.std.specs.Prelude.{ℕ, Bool, true, false, not, ◌&&◌, ◌||◌, List, [], ◌∷◌, ◌++◌, codes}
use Rattle.mini_model.specs.declared.kind.PropertyKind.{PropertyKind}
use Rattle.mini_model.specs.declared.kind.PropertyKind.TheVariants as property
use Rattle.mini_model.specs.declared.operator.BinaryOperator.{BinaryOperator}
use Rattle.mini_model.specs.declared.operator.BinaryOperator.TheVariants as binary
use Rattle.mini_model.specs.declared.operator.LogicalOperator.{LogicalOperator}
use Rattle.mini_model.specs.declared.operator.LogicalOperator.TheVariants.{Or, And, Coalesce}
use Rattle.mini_model.specs.declared.operator.UnaryOperator.{UnaryOperator}
use Rattle.mini_model.specs.declared.operator.UnaryOperator.TheVariants as unary
use Rattle.mini_model.specs.Weight.{same_text}
use Rattle.mini_laws.specs.Value.{Value, Undefined, Boolean, String, choose, truth, is_nullish}
use Rattle.mini_laws.specs.Conversion.{key_value}
use Rattle.mini_laws.specs.Operators.{of_number, strictly_equal, type_text}
use Rattle.mini_laws.specs.State.{ForString, CallOf, DirectEval, NewOf, InOf, InstanceOf, ArrayOf, ObjectOf, DeleteOf, YieldOf, Entry, Item, Field, Prototype, Getter, Setter, Short, Ends, done, ended}
use Rattle.mini_laws.specs.Demand.{Want, Val, Test, Unused, Demand, As, Callee, OfType, Deleted, AnEntry, Items, Parts, Texts, Reference, AMember, AValue, Called, Request, Reply, Says, says}
use Rattle.mini_laws.specs.Command.{read, read_typeof, is_object, Command, ret, fails, stuck, op, kid, then, bind, emit}
use Rattle.mini_laws.specs.Naming.{NameKind, PlainName, EvalName, UndefinedName, NumberName}
use Rattle.mini_laws.specs.Asking.{first_demand, and_or_demand, logical_demand, operand_demand, chained}
use Rattle.mini_laws.specs.Replies.{reply, raise, of_made, primitive, numeric, operate, loosely, get_member}

-- Names

-- ECMA-262, "Identifiers": `undefined` is not read where it is unresolved, and numbers that are not
-- whole are outside the model
abbrev pub get_identifier : {σ : ℕ → Demand} → NameKind → Command σ Value
get_identifier UndefinedName = ret Undefined
get_identifier NumberName = stuck
get_identifier k = op (read 0) (then ret)

-- ECMA-262, "The typeof Operator": an absent name is undefined
abbrev pub type_identifier : {σ : ℕ → Demand} → NameKind → Command σ Value
type_identifier PlainName = op (read_typeof 0) (then ret)
type_identifier EvalName = op (read_typeof 0) (then ret)
type_identifier k = get_identifier k

abbrev pub is_eval : NameKind → Bool
is_eval EvalName = true
is_eval k = false

abbrev pub first_kind : List NameKind → NameKind
first_kind [] = PlainName
first_kind (k ∷ ks) = k

-- Operators

-- ECMA-262, "Logical NOT Operator"
abbrev pub not_step : Command (λ i. As Test) Value
not_step = kid 0 tt (then (λ b. ret (Boolean (not b))))

-- ECMA-262, "The typeof Operator"
abbrev pub typeof_step : Command (λ i. OfType) Value
typeof_step = kid 0 tt (then (λ v. ret (String (type_text v))))

-- ECMA-262, "The delete Operator": what is no reference gives true. Of a name it is outside the
-- model; of a private member it is an early error ("Static Semantics: Early Errors" there), and so
-- has no meaning
abbrev pub delete_of : {σ : ℕ → Demand} → Reference → Command σ Value
delete_of (AMember object key) = choose (is_nullish object) raise (bind (emit DeleteOf (Item object ∷ Item key ∷ [])) (λ b. ret (Boolean b)))
delete_of (AValue v) = ret (Boolean true)
delete_of reference = stuck

abbrev pub delete_step : Command (λ i. Deleted) Value
delete_step = kid 0 tt (then delete_of)

-- ECMA-262, "The void Operator"
abbrev pub void_step : Command (λ i. As Val) Value
void_step = kid 0 tt (then (λ v. ret Undefined))

-- ECMA-262, "Unary + Operator", "Unary - Operator", "Bitwise NOT Operator"
abbrev pub number_step : UnaryOperator → Command (λ i. As Val) Value
number_step o = kid 0 tt (then (λ v. bind (numeric v) (λ n. of_made (of_number o n))))

abbrev pub unary_step : (o : UnaryOperator) → Command (λ i. operand_demand o) Value
unary_step unary.LogicalNot = not_step
unary_step unary.Typeof = typeof_step
unary_step unary.Delete = delete_step
unary_step unary.Void = void_step
unary_step unary.UnaryPlus = number_step unary.UnaryPlus
unary_step unary.UnaryNegation = number_step unary.UnaryNegation
unary_step unary.BitwiseNot = number_step unary.BitwiseNot

-- ECMA-262, "Relational Operators": the right side of `in` and of `instanceof` is an object
abbrev pub asks_object : {σ : ℕ → Demand} → Value → Command σ Bool → Command σ Value
asks_object v c = choose (is_object v) (bind c (λ b. ret (Boolean b))) raise

-- ECMA-262, "Equality Operators", "Relational Operators", "Additive Operators" and on
abbrev pub operate_by : {σ : ℕ → Demand} → BinaryOperator → Value → Value → Command σ Value
operate_by binary.Equality a b = bind (loosely a b) (λ c. ret (Boolean c))
operate_by binary.Inequality a b = bind (loosely a b) (λ c. ret (Boolean (not c)))
operate_by binary.StrictEquality a b = ret (Boolean (strictly_equal a b))
operate_by binary.StrictInequality a b = ret (Boolean (not (strictly_equal a b)))
operate_by binary.In a b = asks_object b (emit InOf (Item (key_value a) ∷ Item b ∷ []))
operate_by binary.Instanceof a b = asks_object b (emit InstanceOf (Item a ∷ Item b ∷ []))
operate_by o a b = operate o a b

abbrev pub binary_step : BinaryOperator → Command (λ i. As Val) Value
binary_step o = kid 0 tt (then (λ a. kid 1 tt (then (λ b. operate_by o a b))))

-- ECMA-262, "Binary Logical Operators"
abbrev pub and_step : (w : Want) → Command (and_or_demand w) (Says w)
and_step Val = kid 0 tt (then (λ v. choose (truth v) (kid 1 tt (then ret)) (ret v)))
and_step Test = kid 0 tt (then (λ b. choose b (kid 1 tt (then ret)) (ret false)))
and_step Unused = kid 0 tt (then (λ b. choose b (kid 1 tt (then ret)) (ret tt)))

abbrev pub or_step : (w : Want) → Command (and_or_demand w) (Says w)
or_step Val = kid 0 tt (then (λ v. choose (truth v) (ret v) (kid 1 tt (then ret))))
or_step Test = kid 0 tt (then (λ b. choose b (ret true) (kid 1 tt (then ret))))
or_step Unused = kid 0 tt (then (λ b. choose b (ret tt) (kid 1 tt (then ret))))

abbrev pub coalesce_step : (w : Want) → Command (λ i. As Val) (Says w)
coalesce_step w = kid 0 tt (then (λ v. choose (is_nullish v) (kid 1 tt (then (λ u. ret (says w u)))) (ret (says w v))))

abbrev pub logical_step : (o : LogicalOperator) (w : Want) → Command (logical_demand o w) (Says w)
logical_step And w = and_step w
logical_step Or w = or_step w
logical_step Coalesce w = coalesce_step w

-- ECMA-262, "Conditional Operator"
abbrev pub conditional_step : (w : Want) → Command (first_demand (As Test) (As w)) (Says w)
conditional_step w = kid 0 tt (then (λ b. choose b (kid 1 tt (then ret)) (kid 2 tt (then ret))))

-- ECMA-262, "Comma Operator"
abbrev pub sequence_step : (w : Want) → Command (λ i. Parts w) (Says w)
sequence_step w = kid 0 tt (then ret)

-- Calls and members

-- ECMA-262, "Function Calls": the callee is read before the arguments are, and a call whose callee
-- is spelled `eval` is a direct eval, but not an optional one
abbrev pub call_event : {σ : ℕ → Demand} → Bool → Called → List Entry → Command σ Value
call_event is_optional f vs = choose (f.direct && not is_optional) (emit DirectEval (Item f.value ∷ vs)) (emit CallOf (Item f.value ∷ Item f.this_value ∷ vs))

-- ECMA-262, "Optional Chains"
abbrev pub call_step : Bool → Command (first_demand Callee Items) Value
call_step is_optional = kid 0 tt (then (λ f. choose (is_optional && is_nullish f.value) (fails Short) (kid 1 tt (then (call_event is_optional f)))))

-- ECMA-262, "The new Operator"
abbrev pub new_step : Command (first_demand (As Val) Items) Value
new_step = kid 0 tt (then (λ f. kid 1 tt (then (λ vs. emit NewOf (Item f ∷ vs)))))

-- ECMA-262, "Property Accessors" and "Optional Chains": the object, then the key. A key that is an
-- object is converted where the member is read or written, and so by the event
abbrev pub member_step : Bool → Command (λ i. As Val) Reference
member_step is_optional = kid 0 tt (then (λ object. choose (is_optional && is_nullish object) (fails Short) (kid 1 tt (then (λ key. ret (AMember object (key_value key)))))))

abbrev pub got : {σ : ℕ → Demand} → Reference → Command σ Value
got (AMember object key) = get_member object key
got reference = stuck

-- its object is the `this` of a call
abbrev pub called_member : {σ : ℕ → Demand} → Reference → Command σ Called
called_member (AMember object key) = bind (get_member object key) (λ v. ret (record { value = v; this_value = object; direct = false }))
called_member reference = stuck

-- ECMA-262, "Optional Chains": one that ends in its midst is undefined
abbrev pub chain_end : {σ : ℕ → Demand} (q : Demand) (r : Request q) → Ends (Reply q r) → Command σ (Reply q r)
chain_end q r (done a) = ret a
chain_end q r (ended Short) = reply q r Undefined
chain_end q r (ended e) = fails e

abbrev pub chain_value : {σ : ℕ → Demand} → Ends Value → Command σ Value
chain_value (done v) = ret v
chain_value (ended Short) = ret Undefined
chain_value (ended e) = fails e

abbrev pub chain_step : (q : Demand) (r : Request q) → Command (λ i. chained q) (Reply q r)
chain_step (As w) r = kid 0 tt (chain_end (As w) r)
chain_step Callee r = kid 0 tt (chain_end Callee r)
chain_step Deleted r = kid 0 tt (chain_end Deleted r)
chain_step OfType r = bind (kid 0 tt chain_value) (reply OfType r)
chain_step AnEntry r = bind (kid 0 tt chain_value) (reply AnEntry r)
chain_step q r = stuck

-- Literals

-- ECMA-262, "Array Initializer" and "Object Initializer"
abbrev pub array_step : Command (λ i. Items) Value
array_step = kid 0 tt (then (λ es. emit ArrayOf es))

abbrev pub object_step : Command (λ i. Items) Value
object_step = kid 0 tt (then (λ es. emit ObjectOf es))

abbrev pub is_proto : Value → Bool
is_proto (String s) = same_text s (codes "__proto__")
is_proto _ = false

-- ECMA-262, "__proto__ Property Names in Object Initializers"
abbrev pub init_entry : Bool → Value → Value → Entry
init_entry sets_prototype key v = choose (sets_prototype && is_proto key) (Prototype v) (Field key v)

abbrev pub property_entry : PropertyKind → Bool → Value → Value → Entry
property_entry property.Init sets_prototype key v = init_entry sets_prototype key v
property_entry property.Get sets_prototype key v = Getter key v
property_entry property.Set sets_prototype key v = Setter key v

-- ECMA-262, "PropertyDefinitionEvaluation": a computed key is converted before the value is
-- evaluated
abbrev pub property_key : {σ : ℕ → Demand} → Bool → Value → Command σ Value
property_key true v = bind (primitive ForString v) (λ key. ret (key_value key))
property_key false v = ret (key_value v)

abbrev pub property_step : PropertyKind → Bool → Bool → Bool → Command (λ i. As Val) Entry
property_step k is_method is_shorthand is_computed =
    kid 0 tt (then (λ key. bind (property_key is_computed key) (λ key. kid 1 tt (then (λ v. ret (property_entry k (not (is_method || is_shorthand || is_computed)) key v))))))

-- ECMA-262, "Template Literals": the texts with the parts between them
abbrev pub interleaved : List (List ℕ) → List (List ℕ) → List ℕ
interleaved [] parts = []
interleaved (s ∷ texts) [] = s
interleaved (s ∷ texts) (p ∷ parts) = s ++ (p ++ interleaved texts parts)

abbrev pub template_step : List (List ℕ) → Command (λ i. Texts) Value
template_step texts = kid 1 tt (then (λ parts. ret (String (interleaved texts parts))))

-- ECMA-262, "Generator Function Definitions", evaluation of a YieldExpression
abbrev pub yield_step : Bool → Command (λ i. As Val) Value
yield_step is_delegate = kid 0 tt (then (λ v. emit (YieldOf is_delegate) (Item v ∷ [])))
