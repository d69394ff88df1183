-- What is done to members of `this` and of steady names, of which V says what is known of the body
-- around: 35, 38 and 45.
use Rattle.std.specs.Prelude.{◌≡◌, ℕ, nat_le, Bool, true, false, ◌&&◌, ◌||◌, List, [], ◌∷◌, Option, Some, None, is_some, unwrap_or, if◌then◌else◌, ◌⊎◌}
use Rattle.std.proofs.Common.{ap, inl, inr}
use Rattle.mini_model.specs.declared.name.Name.{Name}
use Rattle.mini_model.specs.declared.name.SymbolId.{SymbolId}
use Rattle.mini_model.specs.declared.operator.AssignmentOperator.{AssignmentOperator}
use Rattle.mini_model.specs.declared.operator.AssignmentOperator.TheVariants.{Assign}
use Rattle.mini_model.specs.declared.operator.LogicalOperator.{LogicalOperator}
use Rattle.mini_model.specs.declared.operator.LogicalOperator.TheVariants.{Or}
use Rattle.mini_model.specs.declared.place.Position.TheVariants.{Expr, Stmt}
use Rattle.mini_model.specs.declared.seat.Seat.{Seat}
use Rattle.mini_model.specs.Tree.{Tree, Trees, child_or_absent}
use Rattle.mini_laws.specs.Value.{Declared, VariableSet}
use Rattle.mini_kept.specs.Without.{Assured}
use Rattle.mini_node.specs.Children.{part, names_of, first_children}
use Rattle.mini_node.specs.Equal.{same_tree}
use Rattle.mini_node.specs.Kinds.{assignment_operator, binary_operator, is_computed_member, is_conditional, is_identifier, is_sequence, logical_operator}
use Rattle.mini_rows.specs.Choices.{keeps_parentheses, ChosenRow, ChosenMemberRow, ChosenIndexedRow}
use Rattle.mini_rows.specs.Members.{begins_at, MemberRow}
use Rattle.mini_rows.specs.Editions.{SteadyIn, SteadyRowsIn}
use Rattle.mini_rows.specs.Steady.{SteadyRow}
use Rattle.mini_choices.specs.Assigning.{is_plain, has_written_key}
use Rattle.mini_choices.specs.MinimizeConditionalBranches.{is_seated, assigned}
use Rattle.mini_choices.specs.MinimizeLogicalExpression as decide
use Rattle.mini_choices.specs.MinimizeLogicalSequence as decide_last
use Rattle.mini_choices.specs.MinimizeNormalAssignmentToCombinedAssignment.{computing_in, combined}
use Rattle.mini_steady.specs.Leaving.{all_leave, is_this, leaves_object}
use Rattle.mini_steady.specs.Own.{is_open, ReadsOpen}

-- ---- members of what keeps its value

-- a name of one of these variables, if a scope declares it
abbrev pub is_steady_symbol : VariableSet → Option SymbolId → Bool
is_steady_symbol S (Some s) = S (Declared s.0)
is_steady_symbol S None = false

abbrev pub is_steady_in : VariableSet → List Name → Bool
is_steady_in S (x ∷ []) = is_steady_symbol S x.symbol
is_steady_in S xs = false

-- `this` for which the world isn't asked, or a name that is steady
abbrev pub is_kept_object : Assured → Tree → Bool
is_kept_object V t = (is_this t && V.has_this) || (is_identifier t && is_steady_in V.steady (names_of t))

-- a member of one, with a key that is written out
abbrev pub is_kept_member : Assured → Tree → Bool
is_kept_member V t = has_written_key t && is_kept_object V (part t 0)

-- of `this`
abbrev pub is_this_member : Assured → Tree → Bool
is_this_member V t = has_written_key t && (is_this (part t 0) && V.has_this)

-- ---- 38

-- `x.k = b`, where the member is this one
abbrev pub assigns_kept : Assured → Tree → Tree → Bool
assigns_kept V m t = is_plain (assignment_operator t) && (same_tree m (part t 0) && is_kept_member V m)

-- `x.k || (x.k = b)`
abbrev pub decides_member : Assured → Tree → Bool
decides_member V t = is_some (logical_operator t) && assigns_kept V (part t 0) (part t 1)

abbrev pub operator_of : Tree → LogicalOperator
operator_of t = unwrap_or (logical_operator t) Or

-- `x.k ||= b`
abbrev pub member_decided : Tree → Tree
member_decided t = decide.decided (operator_of t) (part t 1)

-- the last of the parts assigns to this member, and those before it leave its object as it is
abbrev pub assigns_last : Assured → Tree → Trees → Bool
assigns_last V m ts = decide_last.are_several ts && (assigns_kept V m (child_or_absent ts (decide_last.last_place ts)) && all_leave (part m 0) (first_children (decide_last.last_place ts) ts))

-- `x.k || (a, x.k = b)`, where an assignment has no parentheses that the operator hasn't
abbrev pub decides_last : Assured → Seat → Tree → Bool
decides_last V s t = is_some (logical_operator t) && (keeps_parentheses (operator_of t) s && (is_sequence (part t 1) && assigns_last V (part t 0) (decide_last.parts_of t)))

-- `x.k ||= (a, b)`
abbrev pub last_decided : Tree → Tree
last_decided t = decide_last.decided (operator_of t) t

-- ---- 35

-- the operator of the assignment of what a node makes of an old value, if there is one
abbrev pub computing_operator : Tree → Option AssignmentOperator
computing_operator t = computing_in (binary_operator t)

-- `this.k = this.k + b`, and so of the other operators of numbers
abbrev pub computes_this : Assured → Tree → Bool
computes_this V t = is_plain (assignment_operator t) && (is_some (computing_operator (part t 1)) && (same_tree (part t 0) (part (part t 1) 0) && is_this_member V (part t 0)))

-- `this.k += b`
abbrev pub member_combined : Tree → Tree
member_combined t = combined (unwrap_or (computing_operator (part t 1)) Assign) t

-- ---- 45

-- it may be evaluated before this: it is `this`, or a name that is left, and that has a value there
-- or is read first
abbrev pub is_ready_before : Assured → Tree → Tree → Bool
is_ready_before V o t = is_this o || ((is_steady_in V.initial (names_of o) || begins_at o t) && leaves_object o t)

-- `x[i]`, where both keep their values
abbrev pub is_held_member : Assured → Tree → Bool
is_held_member V t = is_computed_member t && (is_kept_object V (part t 0) && is_kept_object V (part t 1))

-- a member whose parts may be evaluated before this
abbrev pub is_ready_member : Assured → Tree → Tree → Bool
is_ready_member V a t = (is_kept_member V t && is_ready_before V (part t 0) a) || (is_held_member V t && (is_ready_before V (part t 0) a && is_ready_before V (part t 1) a))

-- both are assignments to one member, whose parts may be evaluated before the test
abbrev pub assigns_either : Assured → Tree → Tree → Tree → Bool
assigns_either V a t u = is_plain (assignment_operator t) && (is_plain (assignment_operator u) && (same_tree (part t 0) (part u 0) && is_ready_member V a (part t 0)))

-- `a ? this.k = b : this.k = c`, or `a ? x.k = b : x.k = c`, where an assignment stands as a
-- conditional does
abbrev pub chooses_member : Assured → Seat → Tree → Bool
chooses_member V s t = is_seated s && (is_conditional t && assigns_either V (part t 0) (part t 1) (part t 2))

-- ---- one after another

abbrev pub chosen_written : Assured → Seat → Tree → Option Tree
chosen_written V s t = if chooses_member V s t then Some (assigned t) else None

abbrev pub combined_written : Assured → Seat → Tree → Option Tree
combined_written V s t = if computes_this V t then Some (member_combined t) else chosen_written V s t

abbrev pub last_written : Bool → Assured → Seat → Tree → Option Tree
last_written late V s t = if late && decides_last V s t then Some (last_decided t) else combined_written V s t

-- told whether the edition has `||=` and its like
abbrev pub written_by : Bool → Assured → Seat → Tree → Option Tree
written_by late V s t = if late && decides_member V t then Some (member_decided t) else last_written late V s t

-- which came with that of 2021
abbrev pub written : ℕ → Assured → Seat → Tree → Option Tree
written e V s t = written_by (nat_le 2021 e) V s t

-- a row of members that an edition has
abbrev pub MemberIn : ℕ → Assured → Seat → Tree → Tree → Type 0
MemberIn e V s n w = (r : MemberRow V s n w) × SteadyIn e V (Expr s) n w (inl r)

-- what is written is what a row says, and where nothing is no row reads the expression
abbrev pub MembersAreRows : Type 0
MembersAreRows = (e : ℕ) (V : Assured) (s : Seat) (n w : Tree) → written e V s n ≡ Some w → MemberIn e V s n w

abbrev pub UnwrittenMembersRest : Type 0
UnwrittenMembersRest = (e : ℕ) (V : Assured) (s : Seat) (n : Tree) → written e V s n ≡ None → (w : Tree) → MemberIn e V s n w → ⊥

-- ---- as rows of the own code of a body

members_are_open : ReadsOpen SteadyRow
members_are_open V (Expr s) n w (inl (inl r)) = ap is_open r.shape
members_are_open V (Expr s) n w (inl (inr (inl r))) = ap is_open r.shape
members_are_open V (Expr s) n w (inl (inr (inr (inl r)))) = ap is_open r.shape
members_are_open V (Expr s) n w (inl (inr (inr (inr r)))) = ap is_open r.shape
members_are_open V (Expr s) n w (inr (inl (inl r))) = ap is_open r.shape
members_are_open V (Expr s) n w (inr (inl (inr r))) = ap is_open r.shape
members_are_open V (Expr s) n w (inr (inr (inl r))) = ap is_open r.row.shape
members_are_open V (Expr s) n w (inr (inr (inr (inl r)))) = ap is_open r.shape
members_are_open V (Expr s) n w (inr (inr (inr (inr (inl r))))) = ap is_open r.row.shape
members_are_open V (Expr s) n w (inr (inr (inr (inr (inr (inl r)))))) = ap is_open r.row.shape
members_are_open V (Expr s) n w (inr (inr (inr (inr (inr (inr r)))))) = chosen_open r.row
  where
    chosen_open : ChosenRow false s n w ⊎ (ChosenMemberRow false s n w ⊎ ChosenIndexedRow false s n w) → is_open n ≡ true
    chosen_open (inl c) = ap is_open c.shape
    chosen_open (inr (inl c)) = ap is_open c.shape
    chosen_open (inr (inr c)) = ap is_open c.shape
members_are_open V (Stmt q) n w (inl r) = ap is_open r.shape
members_are_open V (Stmt q) n w (inr (inl r)) = ap is_open r.shape
members_are_open V (Stmt q) n w (inr (inr r)) = ap is_open r.shape
members_are_open V p n w r = absurd r

-- whichever edition has them
pub members_open : (e : ℕ) → ReadsOpen (SteadyRowsIn e)
members_open e V p n w r = members_are_open V p n w r.0
