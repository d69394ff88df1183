-- What the calls of choices write is what their own rows say, and where they write nothing none of these makes the expression lighter.
use Rattle.std.proofs.Common.{◌≡◌, ◌<◌, ◌^◌, true, false, ap, ◌∙◌, inl, inr, true≢false, arith}
use Rattle.std.specs.Prelude.{◌&&◌, is_some}
use Rattle.mini_model.specs.declared.operator.AssignmentOperator.TheVariants.{Assign}
use Rattle.mini_model.specs.declared.operator.BinaryOperator.TheVariants.{Equality, Inequality}
use Rattle.mini_model.specs.declared.operator.LogicalOperator.TheVariants.{Or, And}
use Rattle.mini_model.specs.declared.place.Position.TheVariants.{Expr}
use Rattle.mini_model.specs.declared.seat.Seat.{Seat}
use Rattle.mini_model.specs.Position.{new_callee_seat}
use Rattle.mini_model.specs.Tree.{Tree, ◌▸◌, identifier, logical, conditional, call, null_literal}
use Rattle.mini_model.specs.Weight.{weight}
use Rattle.mini_node.specs.Equal.{same_tree}
use Rattle.mini_node.specs.Kinds.{binary, assignment, computed_member}
use Rattle.mini_node.proofs.Equality.{tree_itself}
use Rattle.mini_laws.specs.Value.{VariableSet}
use Rattle.mini_rows.specs.Chains.{Row46Chain}
use Rattle.mini_rows.specs.ChainLinks.{Row64, ChainRow}
use Rattle.mini_rows.specs.Choices.{argument, member_of, Row38, Row38Last, Row39, OrTest, AndTest}
use Rattle.mini_rows.specs.Writes.{Row34, Row37Assigned, Row46Assigned, Row46AssignedChain}
use Rattle.mini_choices.specs.ChainLinks.{folded_written}
use Rattle.mini_choices.specs.EvaluateBothSides as both
use Rattle.mini_choices.specs.FoldChainExpr as folded
use Rattle.mini_choices.specs.InjectAssignedChaining as injected
use Rattle.mini_choices.specs.InjectOptionalChaining as chains
use Rattle.mini_choices.specs.MinimizeAssignedComparison as assigned
use Rattle.mini_choices.specs.MinimizeAssignedNullishComparison as nullish_assigned
use Rattle.mini_choices.specs.MinimizeConditionalBranches as branches
use Rattle.mini_choices.specs.MinimizeFirstPart as behind
use Rattle.mini_choices.specs.MinimizeHeldBranches as held
use Rattle.mini_choices.specs.MinimizeLogicalExpression as decide
use Rattle.mini_choices.specs.MinimizeLogicalSequence as last
use Rattle.mini_choices.specs.MinimizeNormalAssignmentToCombinedAssignment as combine
use Rattle.mini_choices.specs.MinimizeNormalAssignmentToCombinedLogicalAssignment as combine_logical
use Rattle.mini_choices.specs.MinimizeNullishComparison as nullish
use Rattle.mini_choices.specs.MinimizeObjectTest as object_test
use Rattle.mini_choices.specs.Names.{chain_written}
use Rattle.mini_choices.specs.OwnRows.{SharedRow, FoldedRow}
use Rattle.mini_choices.specs.SubstituteRotateLogicalExpression as rotate
use Rattle.mini_choices.proofs.AssignedChains as assigned_chains
use Rattle.mini_choices.proofs.AssignedComparison.{assigned_row, assigned_passes}
use Rattle.mini_choices.proofs.AssignedIndexed.{indexed_passes}
use Rattle.mini_choices.proofs.AssignedNullishComparison.{nullish_row, nullish_passes_for}
use Rattle.mini_choices.proofs.BothSides.{both_falls, both_passes}
use Rattle.mini_choices.proofs.Calls.{called_passes}
use Rattle.mini_choices.proofs.ChainEnds.{folded_falls, folded_passes, end_passes}
use Rattle.mini_choices.proofs.ChainLinks.{links_are_row, links_pass}
use Rattle.mini_choices.proofs.Choices.{rotated_row, rotated_passes, decided_row, decided_passes, declared_passes, chosen_passes, chosen_member_passes, branch_falls, by_equal, by_unequal, by_consequent, by_alternate, by_assignment, by_indexed, by_called}
use Rattle.mini_choices.proofs.CombinedAssignment.{combined_row, combined_passes, combined_member_passes}
use Rattle.mini_choices.proofs.CombinedLogicalAssignment as logical_assignment
use Rattle.mini_choices.proofs.FirstParts.{zero_falls, zero_passes}
use Rattle.mini_choices.proofs.HeldBranches.{held_falls, held_passes}
use Rattle.mini_choices.proofs.LogicalSequence.{last_row, last_passes}
use Rattle.mini_choices.proofs.NullishComparison.{comparison_row, alone_passes, after_passes}
use Rattle.mini_choices.proofs.ObjectTest.{object_row, object_passes, before_passes}
use Rattle.mini_choices.proofs.OptionalChains.{chain_is_row, chain_passes}
use Rattle.mini_choices.proofs.Trials.{both_true, lighter_test}
use Rattle.mini_calls.proofs.OwnOperators.{none_there}
use Rattle.mini_calls.specs.OwnRows.{Own, OwnIn, Weighed, ComparisonRow, ObjectRow, CombinedRow, HeldIn, BothIn, ZeroIn}

-- ---- of logical expressions

pub rotated_own : Own rotate.written Row39
rotated_own = record { written = rotated_row; unwritten = λ n e w r. none_there (rotate.written n) (ap (λ t. is_some (rotate.written t)) r.shape ∙ rotated_passes r.operator r.a r.b r.last r.others r.ungrouped) e }

pub decided_own : Own decide.written Row38
decided_own = record { written = decided_row; unwritten = λ n e w r. none_there (decide.written n) (ap (λ t. is_some (decide.written t)) r.shape ∙ ap is_some (decided_passes r.operator r.name r.b)) e }

pub last_own : OwnIn last.written Row38Last
last_own s = record { written = last_row s; unwritten = λ n e w r. none_there (last.written s n) (ap (λ t. is_some (last.written s t)) r.shape ∙ last_passes s r.operator r.name r.first r.others r.b r.seated) e }

comparison_there : (n w : Tree) → ComparisonRow n w → is_some (nullish.written n) ≡ true
comparison_there n w (inl r) = ap (λ t. is_some (nullish.written t)) r.shape ∙ alone_passes r.equal r.name r.first r.second r.nullish
comparison_there n w (inr r) = ap (λ t. is_some (nullish.written t)) r.shape ∙ after_passes r.equal r.before r.name r.first r.second r.nullish

pub comparison_own : Own nullish.written ComparisonRow
comparison_own = record {
  written = λ n w e. comparison_row ComparisonRow (λ n w r. inl r) (λ n w r. inr r) n w e;
  unwritten = λ n e w r. none_there (nullish.written n) (comparison_there n w r) e;
}

object_there : (n w : Tree) → ObjectRow n w → is_some (object_test.written n) ≡ true
object_there n w (inl r) = ap (λ t. is_some (object_test.written t)) r.shape ∙ object_passes r.there r.strict r.before r.name r.declared
object_there n w (inr r) = ap (λ t. is_some (object_test.written t)) r.shape ∙ before_passes r.there r.strict r.before r.name r.declared

pub object_own : Own object_test.written ObjectRow
object_own = record {
  written = λ n w e. object_row ObjectRow (λ n w r. inl r) (λ n w r. inr r) n w e;
  unwritten = λ n e w r. none_there (object_test.written n) (object_there n w r) e;
}

pub both_own : Weighed both.written BothIn
both_own = record {
  written = λ s n w e. (both_falls s n w e).0;
  lighter = λ s n w e. (both_falls s n w e).1;
  unwritten = λ s n e small w r less. none_there (both.written s n) (both_passes s n w r small less) e;
}

-- ---- of assignments and sequences

combined_there : (n w : Tree) → CombinedRow n w → is_some (combine.written n) ≡ true
combined_there n w (inl r) = ap (λ t. is_some (combine.written t)) r.shape ∙ ap is_some (combined_passes r.operator r.combined r.computes r.name r.b)
combined_there n w (inr r) = ap (λ t. is_some (combine.written t)) r.shape ∙ ap is_some (combined_member_passes r.operator r.combined r.computes r.name r.declared r.key r.b)

pub combined_own : Own combine.written CombinedRow
combined_own = record { written = combined_row; unwritten = λ n e w r. none_there (combine.written n) (combined_there n w r) e }

pub zero_own : Weighed behind.written ZeroIn
zero_own = record {
  written = λ s n w e. (zero_falls s n w e).0;
  lighter = λ s n w e. (zero_falls s n w e).1;
  unwritten = λ s n e small w r less. none_there (behind.written s n) (zero_passes s n w r small less) e;
}

-- ---- of conditionals

-- a name beside a branch that is the name, where the row makes it lighter
own_there : (s : Seat) (n w t u x : Tree) → n ≡ t → w ≡ u → weight (Expr s) n < 2 ^ 64 → weight (Expr s) w < weight (Expr s) n → same_tree x x && branches.is_lighter s u t ≡ true
own_there s n w t u x e f small less =
    let same = ap (weight (Expr s)) e in
    let made = ap (weight (Expr s)) f in
    both_true (same_tree x x) (branches.is_lighter s u t) (tree_itself x) (lighter_test s u t (omega (arith, small, same)) (omega (arith, less, same, made)))

shared_there : (s : Seat) (n w : Tree) → SharedRow s n w → weight (Expr s) n < 2 ^ 64 → weight (Expr s) w < weight (Expr s) n → is_some (branches.written s n) ≡ true
shared_there s n w (inl (inl r)) small less = ap (λ t. is_some (branches.written s t)) r.shape ∙ by_equal s (conditional (binary Equality (identifier r.name) null_literal) r.b (identifier r.name)) (declared_passes r.name r.declared)
shared_there s n w (inl (inr r)) small less = ap (λ t. is_some (branches.written s t)) r.shape ∙ by_unequal s (conditional (binary Inequality (identifier r.name) null_literal) (identifier r.name) r.b) (declared_passes r.name r.declared)
shared_there s n w (inr (inl (OrTest r))) small less =
    let x : Tree = identifier r.name in
    ap (λ t. is_some (branches.written s t)) r.shape ∙ by_consequent s (conditional x x r.b) (own_there s n w (conditional x x r.b) (logical Or x r.b) x r.shape r.written small less)
shared_there s n w (inr (inl (AndTest r))) small less =
    let x : Tree = identifier r.name in
    ap (λ t. is_some (branches.written s t)) r.shape ∙ by_alternate s (conditional x r.b x) (own_there s n w (conditional x r.b x) (logical And x r.b) x r.shape r.written small less)
shared_there s n w (inr (inr (inl (inl r)))) small less =
    ap (λ t. is_some (branches.written s t)) r.shape
    ∙ by_assignment s (conditional r.a (assignment r.operator (identifier r.name) r.b) (assignment r.operator (identifier r.name) r.c)) (chosen_passes true s r.seated r.operator r.a r.name r.b r.c r.chosen)
shared_there s n w (inr (inr (inl (inr (inl r))))) small less =
    ap (λ t. is_some (branches.written s t)) r.shape
    ∙ by_assignment s (conditional r.a (assignment Assign (member_of r.name r.key) r.b) (assignment Assign (member_of r.name r.key) r.c)) (chosen_member_passes true s r.seated r.a r.name r.key r.b r.c r.declared r.effect_free)
shared_there s n w (inr (inr (inl (inr (inr r))))) small less =
    let t : Tree = computed_member (identifier r.name) r.key in
    ap (λ t. is_some (branches.written s t)) r.shape ∙ by_indexed s (conditional r.a (assignment Assign t r.b) (assignment Assign t r.c)) (indexed_passes true s n w r)
shared_there s n w (inr (inr (inr r))) small less =
    ap (λ t. is_some (branches.written s t)) r.shape
    ∙ by_called s (conditional r.a (call false r.callee (argument r.is_spread r.p ▸ r.others)) (call false r.callee (argument r.is_spread r.q ▸ r.others))) (called_passes true n w r)

pub shared_own : Weighed branches.written SharedRow
shared_own = record {
  written = λ s n w e. (branch_falls s n w e).0;
  lighter = λ s n w e. (branch_falls s n w e).1;
  unwritten = λ s n e small w r less. none_there (branches.written s n) (shared_there s n w r small less) e;
}

pub held_own : Weighed held.written HeldIn
held_own = record {
  written = λ s n w e. (held_falls s n w e).0;
  lighter = λ s n w e. (held_falls s n w e).1;
  unwritten = λ s n e small w r less. none_there (held.written s n) (held_passes s n w small less r) e;
}

pub chains_own : OwnIn chains.written Row46Chain
chains_own s = record { written = chain_is_row s; unwritten = λ n e w r. none_there (chains.written s n) (chain_passes s n w r) e }

-- ---- of chains

folded_there : (s : Seat) (n w : Tree) → FoldedRow s n w → weight (Expr s) n < 2 ^ 64 → weight (Expr s) w < weight (Expr s) n → is_some (folded.written s n) ≡ true
folded_there s n w (inl r) small less = end_passes s n w r small less
folded_there s n w (inr r) small less = folded_passes s n w r

pub folded_own : Weighed folded.written FoldedRow
folded_own = record {
  written = λ s n w e. (folded_falls s n w e).0;
  lighter = λ s n w e. (folded_falls s n w e).1;
  unwritten = λ s n e small w r less. none_there (folded.written s n) (folded_there s n w r small less) e;
}

-- as the callee of `new` no mark goes
pub link_own : Own chain_written Row64
link_own = record {
  written = λ n w e. joined n w (links_are_row new_callee_seat n w e);
  unwritten = λ n e w r. none_there (folded_written new_callee_seat n) (links_pass new_callee_seat n w (inl r)) e;
}
  where
    joined : (n w : Tree) → ChainRow new_callee_seat n w → Row64 n w
    joined n w (inl r) = r
    joined n w (inr r) = absurd (true≢false r.called)

-- ---- of names that can be written

module _ (W : VariableSet) where
  pub logical_assignment_own : Own (combine_logical.written W) (Row34 W)
  logical_assignment_own = record {
    written = logical_assignment.combined_row W;
    unwritten = λ n e w r. none_there (combine_logical.written W n) (ap (λ t. is_some (combine_logical.written W t)) r.shape ∙ logical_assignment.combined_passes W r.operator r.spelling r.symbol r.b r.writable) e;
  }

  pub nullish_assigned_own : Own (nullish_assigned.written W) (Row37Assigned W)
  nullish_assigned_own = record {
    written = λ n w e. nullish_row W n w e;
    unwritten = λ n e w r. none_there (nullish_assigned.written W n) (ap (λ t. is_some (nullish_assigned.written W t)) r.shape ∙ nullish_passes_for W r.spelling r.symbol r.a r.first r.second r.writable r.nullish r.equal r.before) e;
  }

  pub assigned_own : Own (assigned.written W) (Row46Assigned W)
  assigned_own = record {
    written = λ n w e. assigned_row W n w e;
    unwritten = λ n e w r. none_there (assigned.written W n) (ap (λ t. is_some (assigned.written W t)) r.shape ∙ assigned_passes W r.equal r.spelling r.symbol r.a r.b r.writable) e;
  }

  pub assigned_chain_own : OwnIn (injected.written W) (Row46AssignedChain W)
  assigned_chain_own s = record {
    written = λ n w e. assigned_chains.chain_row W s n w e;
    unwritten = λ n e w r. none_there (injected.written W s n) (assigned_chains.chain_passes W s n w r) e;
  }
