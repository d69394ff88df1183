-- What the two calls that join those of several crates write is what a row of theirs says, and where they write nothing none of these makes
-- the expression lighter.
use Rattle.std.proofs.Common.{◌≡◌, ◌<◌, ◌^◌, Bool, true, false, Option, Some, None, refl, sym, ap, subst, ◌∙◌, inl, inr}
use Rattle.std.specs.Prelude.{◌⊎◌, option_map, if◌then◌else◌}
use Rattle.mini_model.specs.declared.operator.BinaryOperator.{BinaryOperator}
use Rattle.mini_model.specs.declared.place.Position.TheVariants.{Expr}
use Rattle.mini_model.specs.declared.seat.Seat.{Seat}
use Rattle.mini_model.specs.Tree.{Tree, identifier}
use Rattle.mini_model.specs.declared.name.Name.{Name}
use Rattle.mini_model.specs.Weight.{weight}
use Rattle.mini_node.specs.Kinds.{is_conditional}
use Rattle.mini_laws.specs.Value.{VariableSet}
use Rattle.mini_rows.specs.Chains.{if_nullish, spine}
use Rattle.mini_rows.specs.Choices.{assign, HeldRow, AndBoth, OrEither, LastAfterOr, LastAfterAnd, AndThenOr, OrThenAnd, Alike, OrTest, AndTest}
use Rattle.mini_rows.specs.Lists.{resolved}
use Rattle.mini_rows.specs.Writes.{if_null}
use Rattle.mini_rows.proofs.ChainLawful.{chain_row_lighter}
use Rattle.mini_rows.proofs.FoldWeights as fold_weights
use Rattle.mini_rows.proofs.WriteWeights.{writes_lighter}
use Rattle.mini_choices.specs.InjectAssignedChaining as injected
use Rattle.mini_choices.specs.InjectOptionalChaining as chaining
use Rattle.mini_choices.specs.MinimizeAssignedComparison as comparison
use Rattle.mini_choices.specs.MinimizeAssignedNullishComparison as nullish_assigned
use Rattle.mini_choices.specs.MinimizeConditionalBranches as branches
use Rattle.mini_choices.specs.MinimizeHeldBranches as held
use Rattle.mini_choices.specs.MinimizeLogicalExpression as deciding
use Rattle.mini_choices.specs.MinimizeLogicalSequence as sequence
use Rattle.mini_choices.specs.MinimizeNullishComparison as nullish
use Rattle.mini_choices.specs.OwnRows.{SharedRow}
use Rattle.mini_fold.specs.FoldKnown.{branch_written}
use Rattle.mini_logic.specs.MinimizeConditionalExpression as turn
use Rattle.mini_logic.specs.MinimizeExpressionInBooleanContext as boolean
use Rattle.mini_logic.proofs.MinimizeConditionalExpression.{follows, follows_turned, misses, row_lighter}
use Rattle.mini_logic.proofs.MinimizeExpressionInBooleanContext as boolean_law
use Rattle.mini_calls.proofs.OwnChoices.{comparison_own, decided_own, last_own, shared_own, held_own, chains_own, nullish_assigned_own, assigned_own, assigned_chain_own}
use Rattle.mini_calls.proofs.OwnLogical.{branch_own}
use Rattle.mini_calls.proofs.OwnOperators.{some_is, nothing}
use Rattle.mini_calls.specs.Joined.{or_else, assigned_written, chained_written, held_written, branched_written, idle_written, told_written, turned_written, conditional_written, decided_written, nullish_written, logical_written}
use Rattle.mini_calls.specs.OwnRows.{OwnIn, Weighed, CoalescedRow, ConditionalRow, DecisionRow}

either_is : (o p : Option Tree) (w : Tree) → or_else o p ≡ Some w → (o ≡ Some w) ⊎ (p ≡ Some w)
either_is (Some t) p w e = inl e
either_is None p w e = inr e

none_first : (o p : Option Tree) → or_else o p ≡ None → o ≡ None
none_first None p e = refl
none_first (Some w) p e = nothing (sym e)

none_second : (o p : Option Tree) → or_else o p ≡ None → p ≡ None
none_second None p e = e
none_second (Some w) p e = nothing (sym e)

-- ---- 37 and 38

decision_said : (W : VariableSet) (s : Seat) (n w : Tree) → logical_written W s n ≡ Some w → DecisionRow W s n w
decision_said W s n w e = go (either_is (nullish.written n) (nullish_written W s n) w e)
  where
    last : (deciding.written n ≡ Some w) ⊎ (sequence.written s n ≡ Some w) → DecisionRow W s n w
    last (inl f) = inr (inr (inl (decided_own.written n w f)))
    last (inr f) = inr (inr (inr ((last_own s).written n w f)))

    next : (nullish_assigned.written W n ≡ Some w) ⊎ (decided_written s n ≡ Some w) → DecisionRow W s n w
    next (inl f) = inr (inl ((nullish_assigned_own W).written n w f))
    next (inr f) = last (either_is (deciding.written n) (sequence.written s n) w f)

    go : (nullish.written n ≡ Some w) ⊎ (nullish_written W s n ≡ Some w) → DecisionRow W s n w
    go (inl f) = inl (comparison_own.written n w f)
    go (inr f) = next (either_is (nullish_assigned.written W n) (decided_written s n) w f)

decision_rest : (W : VariableSet) (s : Seat) (n : Tree) → logical_written W s n ≡ None → (w : Tree) → DecisionRow W s n w → ⊥
decision_rest W s n e w r = go r
  where
    others : nullish_written W s n ≡ None
    others = none_second (nullish.written n) (nullish_written W s n) e

    last : decided_written s n ≡ None
    last = none_second (nullish_assigned.written W n) (decided_written s n) others

    go : DecisionRow W s n w → ⊥
    go (inl r) = comparison_own.unwritten n (none_first (nullish.written n) (nullish_written W s n) e) w r
    go (inr (inl r)) = (nullish_assigned_own W).unwritten n (none_first (nullish_assigned.written W n) (decided_written s n) others) w r
    go (inr (inr (inl r))) = decided_own.unwritten n (none_first (deciding.written n) (sequence.written s n) last) w r
    go (inr (inr (inr r))) = (last_own s).unwritten n (none_second (deciding.written n) (sequence.written s n) last) w r

pub decision_own : (W : VariableSet) → OwnIn (logical_written W) (DecisionRow W)
decision_own W s = record { written = decision_said W s; unwritten = decision_rest W s }

-- ---- 40

turned_said : (n w : Tree) → turn.written n ≡ Some w → turn.IsRow n w
turned_said n w e = go (turn.has_negated_test n) (turn.equal_operator n) refl refl e
  where
    go : (c : Bool) (o : Option BinaryOperator) → turn.has_negated_test n ≡ c → turn.equal_operator n ≡ o → (if c then Some (turn.swapped n) else option_map (turn.turned n) o) ≡ Some w → turn.IsRow n w
    go true o h k f = subst (turn.IsRow n) (some_is (turn.swapped n) w f) (inl (follows n h))
    go false (Some o) h k f = subst (turn.IsRow n) (some_is (turn.turned n o) w f) (inr (follows_turned n o k))
    go false None h k f = nothing f

turned_rest : (n : Tree) → turn.written n ≡ None → (w : Tree) → turn.IsRow n w → ⊥
turned_rest n e w r = go (turn.has_negated_test n) (turn.equal_operator n) refl refl e
  where
    go : (c : Bool) (o : Option BinaryOperator) → turn.has_negated_test n ≡ c → turn.equal_operator n ≡ o → (if c then Some (turn.swapped n) else option_map (turn.turned n) o) ≡ None → ⊥
    go true o h k f = nothing (sym f)
    go false (Some o) h k f = nothing (sym f)
    go false None h k f = misses n w h k r

-- ---- each such row reads a conditional

held_chooses : (n w : Tree) → HeldRow n w → is_conditional n ≡ true
held_chooses n w (AndBoth r) = ap is_conditional r.shape
held_chooses n w (OrEither r) = ap is_conditional r.shape
held_chooses n w (LastAfterOr r) = ap is_conditional r.shape
held_chooses n w (LastAfterAnd r) = ap is_conditional r.shape
held_chooses n w (AndThenOr r) = ap is_conditional r.shape
held_chooses n w (OrThenAnd r) = ap is_conditional r.shape
held_chooses n w (Alike r) = ap is_conditional r.shape

shared_chooses : (s : Seat) (n w : Tree) → SharedRow s n w → is_conditional n ≡ true
shared_chooses s n w (inl (inl r)) = ap is_conditional r.shape
shared_chooses s n w (inl (inr r)) = ap is_conditional r.shape
shared_chooses s n w (inr (inl (OrTest r))) = ap is_conditional r.shape
shared_chooses s n w (inr (inl (AndTest r))) = ap is_conditional r.shape
shared_chooses s n w (inr (inr (inl (inl r)))) = ap is_conditional r.shape
shared_chooses s n w (inr (inr (inl (inr (inl r))))) = ap is_conditional r.shape
shared_chooses s n w (inr (inr (inl (inr (inr r))))) = ap is_conditional r.shape
shared_chooses s n w (inr (inr (inr r))) = ap is_conditional r.shape

null_chooses : (equal : Bool) (t b y : Tree) → is_conditional (if_null equal t b y) ≡ true
null_chooses true t b y = refl
null_chooses false t b y = refl

nullish_chooses : (equal : Bool) (x : Name) (a b : Tree) → is_conditional (if_nullish equal x a b) ≡ true
nullish_chooses true x a b = refl
nullish_chooses false x a b = refl

coalesced_chooses : (W : VariableSet) (s : Seat) (n w : Tree) → CoalescedRow W s n w → is_conditional n ≡ true
coalesced_chooses W s n w (inl r) = ap is_conditional r.shape ∙ nullish_chooses r.equal r.name r.missing (spine false (identifier r.name) r.last r.others)
coalesced_chooses W s n w (inr (inl r)) =
    let x : Name = resolved r.spelling r.symbol in
    ap is_conditional r.shape ∙ null_chooses r.equal (assign x r.a) r.b (identifier x)
coalesced_chooses W s n w (inr (inr r)) =
    let x : Name = resolved r.spelling r.symbol in
    ap is_conditional r.shape ∙ null_chooses r.equal (assign x r.a) r.missing (spine false (identifier x) r.last r.others)

row_chooses : (W : VariableSet) (s : Seat) (n w : Tree) → ConditionalRow W s n w → is_conditional n ≡ true
row_chooses W s n w (inl (inl r)) = ap is_conditional r.shape
row_chooses W s n w (inl (inr r)) = ap is_conditional r.shape
row_chooses W s n w (inr (inl (r, h))) = h
row_chooses W s n w (inr (inr (inl r))) = ap is_conditional r.shape
row_chooses W s n w (inr (inr (inr (inl r)))) = shared_chooses s n w r
row_chooses W s n w (inr (inr (inr (inr (inl r))))) = held_chooses n w r
row_chooses W s n w (inr (inr (inr (inr (inr r))))) = coalesced_chooses W s n w r

-- ---- 40 to 49

module _ (W : VariableSet) (s : Seat) (n w : Tree) where
  abbrev Falls : Type 0
  Falls = ConditionalRow W s n w × (weight (Expr s) w < weight (Expr s) n)

  coalesced_said : chained_written W s n ≡ Some w → Falls
  coalesced_said e = go (either_is (chaining.written s n) (assigned_written W s n) w e)
    where
      of : CoalescedRow W s n w → weight (Expr s) w < weight (Expr s) n → Falls
      of r less = (inr (inr (inr (inr (inr r)))), less)

      assigned : (comparison.written W n ≡ Some w) ⊎ (injected.written W s n ≡ Some w) → Falls
      assigned (inl f) = let r = (assigned_own W).written n w f in of (inr (inl r)) (writes_lighter W (Expr s) n w (inr (inl r)))
      assigned (inr f) = let r = (assigned_chain_own W s).written n w f in of (inr (inr r)) (writes_lighter W (Expr s) n w (inr (inr (inr r))))

      go : (chaining.written s n ≡ Some w) ⊎ (assigned_written W s n ≡ Some w) → Falls
      go (inl f) = let r = (chains_own s).written n w f in of (inl r) (chain_row_lighter s n w r)
      go (inr f) = assigned (either_is (comparison.written W n) (injected.written W s n) w f)

  branches_said : idle_written W s n ≡ Some w → Falls
  branches_said e = go (either_is (branch_written s n) (branched_written W s n) w e)
    where
      twice : (held.written s n ≡ Some w) ⊎ (chained_written W s n ≡ Some w) → Falls
      twice (inl f) = (inr (inr (inr (inr (inl (held_own.written s n w f))))), held_own.lighter s n w f)
      twice (inr f) = coalesced_said f

      shared : (branches.written s n ≡ Some w) ⊎ (held_written W s n ≡ Some w) → Falls
      shared (inl f) = (inr (inr (inr (inl (shared_own.written s n w f)))), shared_own.lighter s n w f)
      shared (inr f) = twice (either_is (held.written s n) (chained_written W s n) w f)

      go : (branch_written s n ≡ Some w) ⊎ (branched_written W s n ≡ Some w) → Falls
      go (inl f) = let r = (branch_own s).written n w f in (inr (inr (inl r)), fold_weights.lighter (Expr s) n w (inr (inr (inr (inl r)))))
      go (inr f) = shared (either_is (branches.written s n) (held_written W s n) w f)

  conditional_said : is_conditional n ≡ true → turned_written W s n ≡ Some w → Falls
  conditional_said h e = go (either_is (turn.written n) (told_written W s n) w e)
    where
      told : (boolean.written s n ≡ Some w) ⊎ (idle_written W s n ≡ Some w) → Falls
      told (inl f) = let c = boolean_law.written_is_row s n w f in (inr (inl (c.row, h)), c.lighter)
      told (inr f) = branches_said f

      go : (turn.written n ≡ Some w) ⊎ (told_written W s n ≡ Some w) → Falls
      go (inl f) = let r = turned_said n w f in (inl r, row_lighter s n w r)
      go (inr f) = told (either_is (boolean.written s n) (idle_written W s n) w f)

  row_said : conditional_written W s n ≡ Some w → Falls
  row_said e = go (is_conditional n) refl e
    where
      go : (b : Bool) → is_conditional n ≡ b → (if b then turned_written W s n else None) ≡ Some w → Falls
      go true h f = conditional_said h f
      go false h f = nothing f

module _ (W : VariableSet) (s : Seat) (n : Tree) (e : turned_written W s n ≡ None) (small : weight (Expr s) n < 2 ^ 64) (w : Tree) (less : weight (Expr s) w < weight (Expr s) n) where
  told_none : told_written W s n ≡ None
  told_none = none_second (turn.written n) (told_written W s n) e

  idle_none : idle_written W s n ≡ None
  idle_none = none_second (boolean.written s n) (idle_written W s n) told_none

  branched_none : branched_written W s n ≡ None
  branched_none = none_second (branch_written s n) (branched_written W s n) idle_none

  held_none : held_written W s n ≡ None
  held_none = none_second (branches.written s n) (held_written W s n) branched_none

  chained_none : chained_written W s n ≡ None
  chained_none = none_second (held.written s n) (chained_written W s n) held_none

  assigned_none : assigned_written W s n ≡ None
  assigned_none = none_second (chaining.written s n) (assigned_written W s n) chained_none

  row_rest : ConditionalRow W s n w → ⊥
  row_rest (inl r) = turned_rest n (none_first (turn.written n) (told_written W s n) e) w r
  row_rest (inr (inl (r, h))) = boolean_law.unwritten_rests s n (none_first (boolean.written s n) (idle_written W s n) told_none) small w (record { row = r; lighter = less })
  row_rest (inr (inr (inl r))) = (branch_own s).unwritten n (none_first (branch_written s n) (branched_written W s n) idle_none) w r
  row_rest (inr (inr (inr (inl r)))) = shared_own.unwritten s n (none_first (branches.written s n) (held_written W s n) branched_none) small w r less
  row_rest (inr (inr (inr (inr (inl r))))) = held_own.unwritten s n (none_first (held.written s n) (chained_written W s n) held_none) small w r less
  row_rest (inr (inr (inr (inr (inr (inl r)))))) = (chains_own s).unwritten n (none_first (chaining.written s n) (assigned_written W s n) chained_none) w r
  row_rest (inr (inr (inr (inr (inr (inr (inl r))))))) = (assigned_own W).unwritten n (none_first (comparison.written W n) (injected.written W s n) assigned_none) w r
  row_rest (inr (inr (inr (inr (inr (inr (inr r))))))) = (assigned_chain_own W s).unwritten n (none_second (comparison.written W n) (injected.written W s n) assigned_none) w r

-- of a conditional all are tried
all_tried : (W : VariableSet) (s : Seat) (n : Tree) → is_conditional n ≡ true → conditional_written W s n ≡ None → turned_written W s n ≡ None
all_tried W s n h e = sym (ap (λ b. if b then turned_written W s n else None) h) ∙ e

pub conditional_own : (W : VariableSet) → Weighed (conditional_written W) (ConditionalRow W)
conditional_own W = record {
  written = λ s n w e. (row_said W s n w e).0;
  lighter = λ s n w e. (row_said W s n w e).1;
  unwritten = λ s n e small w r less. row_rest W s n (all_tried W s n (row_chooses W s n w r) e) small w less r;
}
