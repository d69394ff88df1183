-- What the calls of logical expressions, of conditionals and of statements that do nothing write is what their own rows say, and where
-- they write nothing none of these reads the node.
use Rattle.std.proofs.Common.{◌≡◌, Bool, true, false, Option, Some, None, refl, sym, ap, ◌∙◌, inl, inr, true≢false}
use Rattle.std.specs.Prelude.{is_some, if◌then◌else◌}
use Rattle.mini_model.specs.declared.operator.LogicalOperator.{LogicalOperator}
use Rattle.mini_model.specs.declared.operator.LogicalOperator.TheVariants.{Or, And, Coalesce}
use Rattle.mini_model.specs.declared.seat.Seat.{Seat}
use Rattle.mini_model.specs.Position.{is_and_or}
use Rattle.mini_model.specs.Tree.{Tree, logical, conditional}
use Rattle.mini_node.specs.Kinds.{logical_operator, unary_operator}
use Rattle.mini_terms.specs.Folds.{has_one_kind}
use Rattle.mini_rows.specs.ChainLinks.{is_lone}
use Rattle.mini_rows.specs.Folding.{loosened, Row22, Row28, Row49Idle}
use Rattle.mini_rows.specs.Operands.{Row14}
use Rattle.mini_rows.specs.Operators.{deleted, Row2}
use Rattle.mini_rows.specs.Spellings.{binary}
use Rattle.mini_fold.specs.FoldKnown.{is_passed, is_stopped, folded, chooses_nothing, branch_written, expression_written}
use Rattle.mini_fold.specs.FoldOperands.{or_else, is_redundant, logical_written}
use Rattle.mini_fold.specs.FoldStaticMember as member
use Rattle.mini_fold.specs.MinimizeBinary as equality
use Rattle.mini_fold.specs.Names.{logical_written_by, and_or_in, and_or_written, coalesce_in, coalesce_written, either_in, either_written}
use Rattle.mini_fold.proofs.KnownSides.{passes, stopped, unpassed, unstopped, folded_is_row, equality_is_row, equality_never, branch_is_row, idle_chooses, expression_row, expression_rests}
use Rattle.mini_fold.proofs.Lengths.{length_is_row, length_rests}
use Rattle.mini_fold.proofs.Operands.{there, logical_row, redundant}
use Rattle.mini_fold.proofs.Operators.{delete_row}
use Rattle.mini_rows.specs.Folding.{Row9}
use Rattle.mini_calls.proofs.OwnOperators.{nothing, none_there}
use Rattle.mini_calls.specs.OwnRows.{Own, OwnIn, deletes, is_of, SideRow, LogicalRow, AndOrRow, is_coalesce, CoalesceRow}

-- ---- 12, 13 and 15

sides_rest : (s : Seat) (n w : Tree) → SideRow s n w → folded s n ≡ None → ⊥
sides_rest s n w (inl r) e = unpassed (is_passed s r.operator r.left r.right) (is_stopped s r.operator r.left r.right) r.left r.right (passes s r.operator r.left r.right r.known r.effect_free r.dropped r.heavy r.stays) (sym (ap (folded s) r.shape) ∙ e)
sides_rest s n w (inr r) e = unstopped (is_passed s r.operator r.left r.right) (is_stopped s r.operator r.left r.right) r.left r.right (stopped s r.operator r.left r.right r.known r.nameless r.dropped r.heavy r.stays) (sym (ap (folded s) r.shape) ∙ e)

pub side_own : OwnIn folded SideRow
side_own s = record { written = folded_is_row s; unwritten = λ n e w r. sides_rest s n w r e }

-- ---- and 14

pub none_first : (o p : Option Tree) → or_else o p ≡ None → o ≡ None
none_first None p e = refl
none_first (Some w) p e = nothing (sym e)

pub none_second : (o p : Option Tree) → or_else o p ≡ None → p ≡ None
none_second None p e = e
none_second (Some w) p e = nothing (sym e)

abbrev middle : Seat → Tree → Option Tree
middle s n = logical_written s (logical_operator n) n

middle_there : (s : Seat) (n w : Tree) → Row14 s n w → is_some (middle s n) ≡ true
middle_there s n w r =
    ap (λ t. is_some (middle s t)) r.shape
    ∙ there (is_redundant s r.operator (logical r.operator r.left r.middle) r.right) (logical r.operator r.left r.right) (redundant s r.operator r.left r.middle r.right r.tells r.known r.effect_free r.dropped r.heavy r.stays)

logical_said : (s : Seat) (n w : Tree) → logical_written_by s n ≡ Some w → LogicalRow s n w
logical_said s n w e = go (folded s n) refl e
  where
    go : (o : Option Tree) → folded s n ≡ o → or_else o (middle s n) ≡ Some w → LogicalRow s n w
    go (Some t) h f = inl (folded_is_row s n w (h ∙ f))
    go None h f = inr (logical_row s n w (logical_operator n) refl f)

logical_rest : (s : Seat) (n w : Tree) → LogicalRow s n w → logical_written_by s n ≡ None → ⊥
logical_rest s n w (inl r) e = sides_rest s n w r (none_first (folded s n) (middle s n) e)
logical_rest s n w (inr r) e = none_there (middle s n) (middle_there s n w r) (none_second (folded s n) (middle s n) e)

-- ---- of `&&` and `||`

and_or_said : (s : Seat) (n w : Tree) → and_or_written s n ≡ Some w → AndOrRow s n w
and_or_said s n w e = go (logical_operator n) refl e
  where
    go : (o : Option LogicalOperator) → logical_operator n ≡ o → and_or_in s o n ≡ Some w → AndOrRow s n w
    go (Some Or) h f = (logical_said s n w f, ap (is_of is_and_or) h)
    go (Some And) h f = (logical_said s n w f, ap (is_of is_and_or) h)
    go (Some Coalesce) h f = nothing f
    go None h f = nothing f

and_or_rest : (s : Seat) (n w : Tree) → AndOrRow s n w → and_or_written s n ≡ None → ⊥
and_or_rest s n w (r, of) e = go (logical_operator n) refl e
  where
    go : (o : Option LogicalOperator) → logical_operator n ≡ o → and_or_in s o n ≡ None → ⊥
    go (Some Or) h f = logical_rest s n w r f
    go (Some And) h f = logical_rest s n w r f
    go (Some Coalesce) h f = true≢false (sym of ∙ ap (is_of is_and_or) h)
    go None h f = true≢false (sym of ∙ ap (is_of is_and_or) h)

pub and_or_own : OwnIn and_or_written AndOrRow
and_or_own s = record { written = and_or_said s; unwritten = λ n e w r. and_or_rest s n w r e }

-- ---- of `??`

coalesce_said : (s : Seat) (n w : Tree) → coalesce_written s n ≡ Some w → CoalesceRow s n w
coalesce_said s n w e = go (logical_operator n) refl e
  where
    go : (o : Option LogicalOperator) → logical_operator n ≡ o → coalesce_in s o n ≡ Some w → CoalesceRow s n w
    go (Some Coalesce) h f = (folded_is_row s n w f, ap (is_of is_coalesce) h)
    go (Some o) h f = nothing f
    go None h f = nothing f

coalesce_rest : (s : Seat) (n w : Tree) → CoalesceRow s n w → coalesce_written s n ≡ None → ⊥
coalesce_rest s n w (r, of) e = go (logical_operator n) refl e
  where
    go : (o : Option LogicalOperator) → logical_operator n ≡ o → coalesce_in s o n ≡ None → ⊥
    go (Some Coalesce) h f = sides_rest s n w r f
    go (Some Or) h f = true≢false (sym of ∙ ap (is_of is_coalesce) h)
    go (Some And) h f = true≢false (sym of ∙ ap (is_of is_coalesce) h)
    go None h f = true≢false (sym of ∙ ap (is_of is_coalesce) h)

pub coalesce_own : OwnIn coalesce_written CoalesceRow
coalesce_own s = record { written = coalesce_said s; unwritten = λ n e w r. coalesce_rest s n w r e }

-- ---- of all three

either_said : (s : Seat) (n w : Tree) → either_written s n ≡ Some w → LogicalRow s n w
either_said s n w e = go (logical_operator n) refl e
  where
    go : (o : Option LogicalOperator) → logical_operator n ≡ o → either_in s o n ≡ Some w → LogicalRow s n w
    go (Some Coalesce) h f = inl (folded_is_row s n w f)
    go (Some Or) h f = logical_said s n w f
    go (Some And) h f = logical_said s n w f
    go None h f = nothing f

either_rest : (s : Seat) (n w : Tree) → LogicalRow s n w → either_written s n ≡ None → ⊥
either_rest s n w r e = go (logical_operator n) refl e r
  where
    operator_of : (m : Tree) → LogicalRow s m w → is_some (logical_operator m) ≡ true
    operator_of m (inl (inl r)) = ap (λ t. is_some (logical_operator t)) r.shape
    operator_of m (inl (inr r)) = ap (λ t. is_some (logical_operator t)) r.shape
    operator_of m (inr r) = ap (λ t. is_some (logical_operator t)) r.shape

    tells : (r : Row14 s n w) → is_of is_and_or (logical_operator n) ≡ true
    tells r = ap (λ t. is_of is_and_or (logical_operator t)) r.shape ∙ r.tells

    go : (o : Option LogicalOperator) → logical_operator n ≡ o → either_in s o n ≡ None → LogicalRow s n w → ⊥
    go (Some Coalesce) h f (inl r) = sides_rest s n w r f
    go (Some Coalesce) h f (inr r) = true≢false (sym (tells r) ∙ ap (is_of is_and_or) h)
    go (Some Or) h f r = logical_rest s n w r f
    go (Some And) h f r = logical_rest s n w r f
    go None h f r = true≢false (sym (operator_of n r) ∙ ap is_some h)

pub logical_own : OwnIn either_written LogicalRow
logical_own s = record { written = either_said s; unwritten = λ n e w r. either_rest s n w r e }

-- ---- 49, 28, 22, 9 and 2

never : (c : Bool) (t : Tree) → c ≡ true → (if c then Some t else None) ≡ None → ⊥
never true t h e = nothing (sym e)
never false t h e = true≢false (sym h)

pub branch_own : OwnIn branch_written Row49Idle
branch_own s = record {
  written = branch_is_row s;
  unwritten = λ n e w r. never (chooses_nothing s (conditional r.test r.branch r.branch)) r.branch (idle_chooses s r.test r.branch r.effect_free r.dropped r.heavy r.stays) (sym (ap (branch_written s) r.shape) ∙ e);
}

pub equality_own : Own equality.written Row28
equality_own = record {
  written = equality_is_row;
  unwritten = λ n e w r. equality_never (loosened r.operator) (has_one_kind r.left r.right) r.loose (binary r.operator r.left r.right) r.loosens r.alike (sym (ap equality.written r.shape) ∙ e);
}

pub statement_own : Own expression_written Row22
statement_own = record { written = expression_row; unwritten = λ n e w r. expression_rests n w e r }

pub length_own : OwnIn member.written Row9
length_own s = record { written = length_is_row s; unwritten = length_rests s }

pub delete_own : Own deletes Row2
delete_own = record {
  written = λ n w e. delete_row n w (unary_operator n) refl e;
  unwritten = λ n e w r. never (is_lone r.operand) (deleted r.operand) r.value (sym (ap deletes r.shape) ∙ e);
}
