-- What is read, called, assigned to or deleted by reference: names, members and carried nodes.
use Rattle.std.specs.Prelude.{ℕ, Bool, false, not, ◌||◌, [], ◌∷◌, ℤ, pos, negsuc, ◌+ℤ◌}
use Rattle.mini_model.specs.declared.operator.AssignmentOperator.{AssignmentOperator}
use Rattle.mini_model.specs.declared.operator.AssignmentOperator.TheVariants as assignment
use Rattle.mini_model.specs.declared.operator.BinaryOperator.{BinaryOperator}
use Rattle.mini_model.specs.declared.operator.BinaryOperator.TheVariants as binary
use Rattle.mini_model.specs.declared.operator.LogicalOperator.{LogicalOperator}
use Rattle.mini_model.specs.declared.operator.LogicalOperator.TheVariants.{Or, And, Coalesce}
use Rattle.mini_model.specs.declared.operator.UpdateOperator.{UpdateOperator}
use Rattle.mini_model.specs.declared.operator.UpdateOperator.TheVariants.{Increment, Decrement}
use Rattle.mini_laws.specs.Value.{Value, Undefined, Number, choose, truth, is_nullish}
use Rattle.mini_laws.specs.Operators.{safe_number}
use Rattle.mini_laws.specs.State.{Carries, Anything, InChain, NodeOf, PlaceOf, BindOf, Item, Converted}
use Rattle.mini_laws.specs.Demand.{Val, Demand, As, Callee, OfType, Deleted, Target, Reference, AName, AMember, AFetched, ACarried, Prepare, Fetch, Put, Called, Request, Reply}
use Rattle.mini_laws.specs.Command.{event, self, Mine, is_object, Command, ret, stuck, op, kid, then, bind, emit_mine}
use Rattle.mini_laws.specs.Naming.{NameKind, UndefinedName, NumberName}
use Rattle.mini_laws.specs.Asking.{first_demand}
use Rattle.mini_laws.specs.Replies.{valued, raise_reference, of_made, numeric, operate, get_member, put_member, put_own}
use Rattle.mini_laws.specs.Expressions.{get_identifier, type_identifier, is_eval, got, called_member}

-- Names (ECMA-262, "Identifiers")

-- unresolved `undefined`, NaN and Infinity are not written in the model
abbrev pub put_identifier : {σ : ℕ → Demand} → NameKind → Value → Command σ (Unit {0})
put_identifier UndefinedName v = stuck
put_identifier NumberName v = stuck
put_identifier k v = put_own v

abbrev pub identifier_step : {σ : ℕ → Demand} → NameKind → (q : Demand) (r : Request q) → Command σ (Reply q r)
identifier_step k Callee r = bind (get_identifier k) (λ v. ret (record { value = v; this_value = Undefined; direct = is_eval k }))
identifier_step k OfType r = bind (type_identifier k) ret
identifier_step k Deleted r = ret AName
identifier_step k Target Prepare = ret AName
identifier_step k Target (Fetch reference) = get_identifier k
identifier_step k Target (Put reference v) = put_identifier k v
identifier_step k q r = valued q r (get_identifier k)

-- Members (ECMA-262, "Property Accessors")

abbrev pub fetched : {σ : ℕ → Demand} → Reference → Command σ Value
fetched (AMember object key) = get_member object key
fetched reference = stuck

abbrev pub stored : {σ : ℕ → Demand} → Reference → Value → Command σ (Unit {0})
stored (AMember object key) v = put_member object (Item key) v
stored (AFetched object key) v = put_member object (choose (is_object key) (Converted key) (Item key)) v
stored reference v = stuck

abbrev pub as_member : {σ : ℕ → Demand} → Command σ Reference → (q : Demand) (r : Request q) → Command σ (Reply q r)
as_member c Deleted r = c
as_member c Target Prepare = c
as_member c Target (Fetch reference) = fetched reference
as_member c Target (Put reference v) = stored reference v
as_member c Callee r = bind c called_member
as_member c q r = valued q r (bind c got)

-- Carried nodes, which the world evaluates: an event with the node's number

abbrev pub carried : {σ : ℕ → Demand} → Carries → (q : Demand) (r : Request q) → Command σ (Reply q r)
carried what q r = valued q r (emit_mine (NodeOf what) [])

abbrev pub put_carried : {σ : ℕ → Demand} → Value → Command σ (Unit {0})
put_carried v = op (event BindOf Mine (Item v ∷ [])) (then (λ u. ret tt))

abbrev pub called_with : {σ : ℕ → Demand} → Value → Value → Command σ Called
called_with this v = ret (record { value = v; this_value = this; direct = false })

-- as a target: its parts are evaluated first (ECMA-262, "Assignment Operators"), and it is written
-- last
abbrev pub carried_target : {σ : ℕ → Demand} → Carries → (q : Demand) (r : Request q) → Command σ (Reply q r)
carried_target what Deleted r = ret ACarried
carried_target what Target Prepare = bind (emit_mine (PlaceOf Anything) []) (λ v. ret ACarried)
carried_target what Target (Fetch reference) = emit_mine (NodeOf Anything) []
carried_target what Target (Put reference v) = put_carried v
carried_target what q r = carried what q r

-- a private member: where it is called, its object is `this` (ECMA-262, "EvaluateCall")
abbrev pub private_member : {σ : ℕ → Demand} → Carries → (q : Demand) (r : Request q) → Command σ (Reply q r)
private_member what Callee r = bind (emit_mine (PlaceOf what) []) (λ this. bind (emit_mine (NodeOf Anything) []) (called_with this))
private_member what q r = carried_target what q r

-- ECMA-262, "The delete Operator": of a `super` member it raises, once the parts of that are
-- evaluated
abbrev pub deleted_super : {σ : ℕ → Demand} → Command σ Reference
deleted_super = bind (emit_mine (PlaceOf Anything) []) (λ v. raise_reference)

-- a `super` member: where it is called, the `this` of the code around is (ECMA-262, "The super
-- Keyword")
abbrev pub super_member : {σ : ℕ → Demand} → (q : Demand) (r : Request q) → Command σ (Reply q r)
super_member Callee r = op self (then (λ this. bind (emit_mine (NodeOf Anything) []) (called_with this)))
super_member Deleted r = deleted_super
super_member q r = carried_target Anything q r

-- a private member ends the chain that it stands in where it or a link in its object is optional
abbrev pub chained_carries : Bool → Bool → Carries
chained_carries is_optional shortens = choose (is_optional || shortens) InChain Anything

-- a pattern that assigns (ECMA-262, "Destructuring Assignment")
abbrev pub pattern_target : {σ : ℕ → Demand} → (q : Demand) (r : Request q) → Command σ (Reply q r)
pattern_target Target Prepare = ret ACarried
pattern_target Target (Put reference v) = put_carried v
pattern_target q r = stuck

-- Assignments

-- what an assignment's operator does with the old value
pub data AssignmentKind : Type 0 where
  Plainly : AssignmentKind
  Computing : BinaryOperator → AssignmentKind
  Deciding : LogicalOperator → AssignmentKind

abbrev pub assignment_kind : AssignmentOperator → AssignmentKind
assignment_kind assignment.Assign = Plainly
assignment_kind assignment.Addition = Computing binary.Addition
assignment_kind assignment.Subtraction = Computing binary.Subtraction
assignment_kind assignment.Multiplication = Computing binary.Multiplication
assignment_kind assignment.Division = Computing binary.Division
assignment_kind assignment.Remainder = Computing binary.Remainder
assignment_kind assignment.Exponential = Computing binary.Exponential
assignment_kind assignment.ShiftLeft = Computing binary.ShiftLeft
assignment_kind assignment.ShiftRight = Computing binary.ShiftRight
assignment_kind assignment.ShiftRightZeroFill = Computing binary.ShiftRightZeroFill
assignment_kind assignment.BitwiseAnd = Computing binary.BitwiseAnd
assignment_kind assignment.BitwiseXor = Computing binary.BitwiseXor
assignment_kind assignment.BitwiseOr = Computing binary.BitwiseOr
assignment_kind assignment.LogicalOr = Deciding Or
assignment_kind assignment.LogicalAnd = Deciding And
assignment_kind assignment.LogicalNullish = Deciding Coalesce

abbrev pub assigns : LogicalOperator → Value → Bool
assigns And v = truth v
assigns Or v = not (truth v)
assigns Coalesce v = is_nullish v

abbrev pub AssignDemand : ℕ → Demand
AssignDemand = first_demand Target (As Val)

abbrev pub put_target : Reference → Value → Command AssignDemand Value
put_target reference v = kid 0 (Put reference v) (then (λ u. ret v))

-- a member that was read has a property key since then (ECMA-262, "GetValue"), so that its key is
-- converted once
abbrev pub after_read : Reference → Reference
after_read (AMember object key) = AFetched object key
after_read reference = reference

-- ECMA-262, "Assignment Operators": the target, its value if the operator reads it, the right side,
-- and the write. A logical one may leave out the two last
abbrev pub assign_by : AssignmentKind → Reference → Command AssignDemand Value
assign_by Plainly reference = kid 1 tt (then (put_target reference))
assign_by (Computing o) reference = kid 0 (Fetch reference) (then (λ a. kid 1 tt (then (λ b. bind (operate o a b) (put_target (after_read reference))))))
assign_by (Deciding o) reference = kid 0 (Fetch reference) (then (λ a. choose (assigns o a) (kid 1 tt (then (put_target (after_read reference)))) (ret a)))

abbrev pub assignment_step : AssignmentOperator → Command AssignDemand Value
assignment_step o = kid 0 Prepare (then (assign_by (assignment_kind o)))

abbrev pub changed : UpdateOperator → ℤ → ℤ
changed Increment n = n +ℤ pos 1
changed Decrement n = n +ℤ negsuc 0

-- ECMA-262, "Update Expressions"
abbrev pub update_step : UpdateOperator → Bool → Command (λ i. Target) Value
update_step o is_prefix =
    kid 0 Prepare (then (λ reference. kid 0 (Fetch reference) (then (λ a. bind (numeric a) (λ n. bind (of_made (safe_number (changed o n))) (λ v.
    kid 0 (Put (after_read reference) v) (then (λ u. ret (choose is_prefix v (Number n))))))))))
