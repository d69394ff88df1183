-- What several shapes do: replies, conversions, references and ends of statements.
use Rattle.std.specs.Prelude.{ℕ, Bool, true, false, [], ◌∷◌, Option, Some, None, ◌&&◌, ℤ}
use Rattle.mini_model.specs.declared.operator.BinaryOperator.{BinaryOperator}
use Rattle.mini_model.specs.declared.operator.BinaryOperator.TheVariants as binary
use Rattle.mini_laws.specs.Value.{Value, Undefined, choose, is_nullish}
use Rattle.mini_laws.specs.Conversion.{Made, makes, raises, outside, to_number, known_member}
use Rattle.mini_laws.specs.Operators.{strictly_equal, loosely_equal, of_numbers, of_primitives}
use Rattle.mini_laws.specs.State.{Hint, ForDefault, ForNumber, Coerce, GetOf, SetOf, TypeError, ReferenceError, Raise, Entry, Item, Returned, Continued, Ends, done, ended, Writing, Writes, WritesPresent, Refuses, Keeps}
use Rattle.mini_laws.specs.Demand.{Tail, LoopTail, FunctionTail, Demand, As, Callee, OfType, Deleted, AnEntry, Stat, LabelSet, AValue, Request, Reply, Says, says, plain_call}
use Rattle.mini_laws.specs.Command.{read, fixity, write, event, NoTag, is_object, Command, ret, fails, stuck, op, then, attempt, bind, emit}
use Rattle.mini_laws.specs.Asking.{pass}

-- Replies

-- a value, as it is asked; what is no expression's place takes none
abbrev pub reply : {σ : ℕ → Demand} (q : Demand) (r : Request q) → Value → Command σ (Reply q r)
reply (As w) r v = ret (says w v)
reply Callee r v = ret (plain_call v)
reply OfType r v = ret v
reply Deleted r v = ret (AValue v)
reply AnEntry r v = ret (Item v)
reply q r v = stuck

-- a node that gives a value
abbrev pub valued : {σ : ℕ → Demand} (q : Demand) (r : Request q) → Command σ Value → Command σ (Reply q r)
valued (As w) r c = bind c (reply (As w) r)
valued Callee r c = bind c (reply Callee r)
valued OfType r c = bind c (reply OfType r)
valued Deleted r c = bind c (reply Deleted r)
valued AnEntry r c = bind c (reply AnEntry r)
valued q r c = stuck

-- from what is asked of a part to what is asked of the node
abbrev pub passed : {σ : ℕ → Demand} (q : Demand) (r : Request q) → Says (pass q) → Command σ (Reply q r)
passed (As w) r v = ret v
passed Callee r v = ret (plain_call v)
passed OfType r v = ret v
passed Deleted r v = ret (AValue v)
passed AnEntry r v = ret (Item v)
passed q r v = stuck

-- a node that gives the value of a part
abbrev pub passing : {σ : ℕ → Demand} (q : Demand) (r : Request q) → Command σ (Says (pass q)) → Command σ (Reply q r)
passing (As w) r c = bind c (passed (As w) r)
passing Callee r c = bind c (passed Callee r)
passing OfType r c = bind c (passed OfType r)
passing Deleted r c = bind c (passed Deleted r)
passing AnEntry r c = bind c (passed AnEntry r)
passing q r c = stuck

abbrev pub as_ended : {σ : ℕ → Demand} {A : Type 0} → Ends A → Command σ A
as_ended (done a) = ret a
as_ended (ended e) = fails e

-- in a tail the jump that ends the turn of the loop, or the function, is a normal end
abbrev pub merged : {σ : ℕ → Demand} → Option Tail → Ends (Unit {0}) → Command σ (Unit {0})
merged t (done u) = ret tt
merged (Some LoopTail) (ended (Continued None)) = ret tt
merged (Some FunctionTail) (ended (Returned Undefined)) = ret tt
merged t (ended e) = fails e

abbrev pub statement : {σ : ℕ → Demand} (q : Demand) (r : Request q) → (LabelSet → Command σ (Unit {0})) → Command σ (Reply q r)
statement (Stat t) labels c = attempt (c labels) (merged t)
statement q r c = stuck

-- Errors and conversions

-- ECMA-262, "ThrowCompletion" of a new TypeError
abbrev pub raise : {σ : ℕ → Demand} {A : Type 0} → Command σ A
raise = op (event (Raise TypeError) NoTag []) (then (λ v. stuck))

-- the same of a new ReferenceError
abbrev pub raise_reference : {σ : ℕ → Demand} {A : Type 0} → Command σ A
raise_reference = op (event (Raise ReferenceError) NoTag []) (then (λ v. stuck))

abbrev pub of_made : {σ : ℕ → Demand} {A : Type 0} → Made A → Command σ A
of_made (makes a) = ret a
of_made raises = raise
of_made outside = stuck

abbrev pub of_option : {σ : ℕ → Demand} {A : Type 0} → Option A → Command σ A
of_option (Some a) = ret a
of_option None = stuck

-- ECMA-262, "ToPrimitive"
abbrev pub primitive : {σ : ℕ → Demand} → Hint → Value → Command σ Value
primitive hint v = choose (is_object v) (emit (Coerce hint) (Item v ∷ [])) (ret v)

abbrev pub hint_of : BinaryOperator → Hint
hint_of binary.Addition = ForDefault
hint_of o = ForNumber

-- ECMA-262, "ToNumeric"
abbrev pub numeric : {σ : ℕ → Demand} → Value → Command σ ℤ
numeric v = bind (primitive ForNumber v) (λ x. of_made (to_number x))

-- whether both sides are made primitive before either is made a text or a number
abbrev pub is_of_primitives : BinaryOperator → Bool
is_of_primitives binary.Addition = true
is_of_primitives binary.LessThan = true
is_of_primitives binary.GreaterThan = true
is_of_primitives binary.LessEqualThan = true
is_of_primitives binary.GreaterEqualThan = true
is_of_primitives o = false

-- ECMA-262, "ApplyStringOrNumericBinaryOperator" and "IsLessThan": the left side is made primitive
-- and then the right one, or, of any operator but `+` and those that compare, the left one a number
-- and then the right one
abbrev pub operate : {σ : ℕ → Demand} → BinaryOperator → Value → Value → Command σ Value
operate o a b =
    choose (is_of_primitives o) (bind (primitive (hint_of o) a) (λ x. bind (primitive (hint_of o) b) (λ y. of_made (of_primitives o x y))))
    (bind (numeric a) (λ m. bind (numeric b) (λ n. of_made (of_numbers o m n))))

-- ECMA-262, "IsLooselyEqual": nothing is converted beside null or undefined, and of two objects
abbrev pub loosely : {σ : ℕ → Demand} → Value → Value → Command σ Bool
loosely a b =
    choose (is_nullish a) (ret (is_nullish b)) (choose (is_nullish b) (ret false) (choose (is_object a && is_object b) (ret (strictly_equal a b))
    (bind (primitive ForDefault a) (λ x. bind (primitive ForDefault b) (λ y. of_option (loosely_equal x y))))))

-- References (ECMA-262, "The Reference Record Specification Type")

abbrev pub or_event : {σ : ℕ → Demand} → Option Value → Command σ Value → Command σ Value
or_event (Some v) c = ret v
or_event None c = c

-- ECMA-262, "GetValue" of a property
abbrev pub get_member : {σ : ℕ → Demand} → Value → Value → Command σ Value
get_member object key = choose (is_nullish object) raise (or_event (known_member object key) (emit GetOf (Item object ∷ Item key ∷ [])))

-- ECMA-262, "PutValue" of a property
abbrev pub put_member : {σ : ℕ → Demand} → Value → Entry → Value → Command σ (Unit {0})
put_member object key v = choose (is_nullish object) raise (bind (emit SetOf (Item object ∷ key ∷ Item v ∷ [])) (λ u. ret tt))

-- in strict code an unresolved name is read first, which raises where it is absent
abbrev pub by_fixity : {σ : ℕ → Demand} → Value → Writing → Command σ (Unit {0})
by_fixity v Writes = op (write 0 v) (then ret)
by_fixity v WritesPresent = op (read 0) (then (λ old. op (write 0 v) (then ret)))
by_fixity v Refuses = raise
by_fixity v Keeps = ret tt

-- ECMA-262, "PutValue" of the node's own name
abbrev pub put_own : {σ : ℕ → Demand} → Value → Command σ (Unit {0})
put_own v = op (fixity 0) (then (by_fixity v))
