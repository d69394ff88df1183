-- What the rewrites of choices write is what a row says, and where they write nothing no row reads the expression.
use borrow.Author.Tests.{ltb-true}
use Rattle.std.proofs.Common.{◌≡◌, ℕ, ◌<◌, ◌≤◌, ◌^◌, arith, true≢false, Bool, true, false, Option, Some, None, refl, sym, ap, subst, ◌∙◌, inl, inr}
use Rattle.std.specs.Prelude.{◌⊎◌, ◌&&◌, ◌||◌, not, nat_eq, is_none, is_some, unwrap_or, if◌then◌else◌}
use Rattle.std.proofs.lemmas.Bool.{and_parts}
use Rattle.mini_model.specs.declared.name.Name.{Name}
use Rattle.mini_model.specs.declared.operator.AssignmentOperator.{AssignmentOperator}
use Rattle.mini_model.specs.declared.operator.AssignmentOperator.TheVariants.{Assign}
use Rattle.mini_model.specs.declared.operator.BinaryOperator.{BinaryOperator}
use Rattle.mini_model.specs.declared.operator.BinaryOperator.TheVariants.{Equality, Inequality}
use Rattle.mini_model.specs.declared.operator.LogicalOperator.{LogicalOperator}
use Rattle.mini_model.specs.declared.operator.LogicalOperator.TheVariants.{Or, And, Coalesce}
use Rattle.mini_model.specs.declared.place.Position.TheVariants.{Expr}
use Rattle.mini_model.specs.declared.seat.Seat.{Seat}
use Rattle.mini_model.specs.declared.shape.Shape.TheVariants as shape
use Rattle.mini_model.specs.Tree.{Tree, Trees, node, leaf, none, ◌▸◌, identifier, logical, conditional, call, null_literal}
use Rattle.mini_model.specs.Position.{conditional_level}
use Rattle.mini_model.specs.Paths.{append}
use Rattle.mini_model.specs.Weight.{weight}
use Rattle.mini_node.specs.Children.{part}
use Rattle.mini_node.specs.Equal.{same_tree}
use Rattle.mini_node.specs.Kinds.{binary, assignment, computed_member, is_logical, is_conditional, is_null, logical_operator, binary_operator, assignment_operator}
use Rattle.mini_node.specs.Made.{assignment_is, logical_is, binary_is, conditional_is, null_is}
use Rattle.mini_node.proofs.Equality.{tree_same, tree_itself}
use Rattle.mini_terms.specs.Exact.{kept_by_value}
use Rattle.mini_rows.specs.Lists.{sequence}
use Rattle.mini_rows.specs.Editions.{LighterIn, ChoiceIn, ChoicesIn}
use Rattle.mini_tree.specs.declared.options.CompressOptions.{CompressOptions}
use Rattle.mini_rows.specs.Choices.{argument, assign, is_grouped, joined, strictly, joining, asks_object, null_compared, ended, deciding, may_choose, Row39, Row38, Row35, Row35Member, Row45, Row45Member, Key, member_of, Row46Equal, Row46Unequal, Row13Both, Row21Zero, Row41Or, Row41And, LighterRow, OwnRow, ChoiceRow, ChosenRow, ChosenMemberRow, Shorter, TestedBranch, SharedBranch, OptionalChain, JoinedCall, ChainLink, ChainEnd, BothSides, ChosenIndexed, ZeroFirst, Rotated, Decided, Combined, NullishIfEqual, NullishIfUnequal, Chosen, LooseNull, LooseNullAfter, ObjectTest, ObjectTestAfter, CombinedMember, ChosenMember, DecidedLast, OrTest, AndTest}
use Rattle.mini_rows.proofs.ChoiceCalls.{calls_lighter}
use Rattle.mini_rows.proofs.ChoiceIndexed.{indexed_lighter}
use Rattle.mini_rows.proofs.ChoiceWeights as choice_weights
use Rattle.mini_tree.specs.Rule.{Applied}
use Rattle.mini_tree.proofs.Reaching.{moves_once}
use Rattle.mini_choices.specs.Assigning.{is_plain, assigns_name, is_same_operator, is_operator, is_same_name, is_same_member, is_member_of_name, is_declared}
use Rattle.mini_choices.specs.Calling.{calls_either, called}
use Rattle.mini_choices.specs.SubstituteRotateLogicalExpression as rotate
use Rattle.mini_choices.specs.MinimizeLogicalExpression as decide
use Rattle.mini_choices.specs.MinimizeLogicalSequence as decide_last
use Rattle.mini_choices.specs.MinimizeConditionalBranches as branches
use Rattle.mini_choices.specs.MinimizeHeldBranches as held
use Rattle.mini_choices.specs.InjectOptionalChaining as chains
use Rattle.mini_choices.specs.FoldChainExpr as folded
use Rattle.mini_choices.specs.EvaluateBothSides as both
use Rattle.mini_choices.specs.MinimizeFirstPart as behind
use Rattle.mini_choices.proofs.CombinedAssignment.{one_member, member_there, combined_row, combined_passes, combined_member_passes}
use Rattle.mini_choices.proofs.LogicalSequence.{last_row, last_passes}
use Rattle.mini_choices.proofs.BothSides.{both_row, both_passes}
use Rattle.mini_choices.proofs.FirstParts.{zero_row, zero_passes}
use Rattle.mini_choices.proofs.ChainLinks.{chain_is}
use Rattle.mini_choices.proofs.ChainEnds.{of_chain, end_passes, folded_row, folded_passes}
use Rattle.mini_choices.proofs.OptionalChains.{chain_row, chain_passes}
use Rattle.mini_choices.proofs.Trials.{Falls, some_is, not_true, both_true, tries, first_true, later_true, first_there, second_there, lighter_test}
use Rattle.mini_choices.specs.SubstituteRotateLogicalExpression.{leftmost}
use Rattle.mini_choices.specs.MinimizeNullishComparison as nullish
use Rattle.mini_choices.specs.MinimizeObjectTest as object_test
use Rattle.mini_choices.proofs.Names.{assigns_is, operator_is, one_name}
use Rattle.mini_choices.proofs.NullishComparison.{comparison_row, alone_passes, after_passes}
use Rattle.mini_choices.proofs.ObjectTest.{object_row, object_passes, before_passes}
use Rattle.mini_choices.proofs.Spines.{logical_kind_is, spine_of, leftmost_joined}
use Rattle.mini_choices.proofs.HeldBranches.{held_row, held_passes}
use Rattle.mini_choices.proofs.Calls.{called_row, called_passes}
use Rattle.mini_choices.proofs.AssignedIndexed.{indexed_row, indexed_passes}
use Rattle.mini_choices.specs.OwnRows.{SharedRow, OlderRow}
use Rattle.mini_choices.proofs.Since.{since_is, since_passes, in_edition, newer_passes, either_passes}
use Rattle.mini_choices.specs.Choices.{first_of, decided_in, decided_last_in, chains_in, branches_in, operands_written, written, Gives, Rests, WrittenIsRow, UnwrittenRests}
use Rattle.mini_terms.specs.Effects.{ef}

-- ---- 39

pub rotated_row : (n w : Tree) → rotate.written n ≡ Some w → Row39 n w
rotated_row n w e = go (logical_operator n) refl e
  where
    by : (o : LogicalOperator) → logical_operator n ≡ Some o → (b : Bool) → is_logical o (part n 1) && not (is_grouped o (leftmost o (part (part n 1) 0))) ≡ b → rotate.written_by (if b then Some o else None) n ≡ Some w → Row39 n w
    by o h true k e =
        let right : Tree = part n 1 in
        let (kind, first) = and_parts (is_logical o right) (not (is_grouped o (leftmost o (part right 0)))) k in
        let spine = spine_of o (part right 0) in
        record {
          operator = o;
          a = part n 0;
          b = leftmost o (part right 0);
          last = part right 1;
          others = spine.others;
          ungrouped = not_true (is_grouped o (leftmost o (part right 0))) first;
          shape = logical_is n o h ∙ ap (logical o (part n 0)) (logical_kind_is o right kind ∙ ap (λ x. logical o x (part right 1)) spine.is);
          written = sym (some_is (rotate.rotated o n) w e) ∙ ap (λ x. logical o x (part right 1)) (spine.over (part n 0));
        }
    by o h false k e = absurd (cc e)

    go : (o : Option LogicalOperator) → logical_operator n ≡ o → rotate.written_by (rotate.rotated_in o (part n 1)) n ≡ Some w → Row39 n w
    go (Some o) h e = by o h (is_logical o (part n 1) && not (is_grouped o (leftmost o (part (part n 1) 0)))) refl e
    go None h e = absurd (cc e)

pub rotated_passes : (o : LogicalOperator) (a b c : Tree) (cs : Trees) → is_grouped o b ≡ false → is_some (rotate.written (logical o a (joined o b (c ▸ cs)))) ≡ true
rotated_passes Or a b c cs e =
    ap (λ x. is_some (rotate.written_by (if not (is_grouped Or x) then Some Or else None) (logical Or a (joined Or b (c ▸ cs))))) (leftmost_joined Or b cs e)
    ∙ ap (λ g. is_some (rotate.written_by (if not g then Some Or else None) (logical Or a (joined Or b (c ▸ cs))))) e
rotated_passes And a b c cs e =
    ap (λ x. is_some (rotate.written_by (if not (is_grouped And x) then Some And else None) (logical And a (joined And b (c ▸ cs))))) (leftmost_joined And b cs e)
    ∙ ap (λ g. is_some (rotate.written_by (if not g then Some And else None) (logical And a (joined And b (c ▸ cs))))) e
rotated_passes Coalesce a b c cs e =
    ap (λ x. is_some (rotate.written_by (if not (is_grouped Coalesce x) then Some Coalesce else None) (logical Coalesce a (joined Coalesce b (c ▸ cs))))) (leftmost_joined Coalesce b cs e)
    ∙ ap (λ g. is_some (rotate.written_by (if not g then Some Coalesce else None) (logical Coalesce a (joined Coalesce b (c ▸ cs))))) e

-- ---- 38

pub decided_row : (n w : Tree) → decide.written n ≡ Some w → Row38 n w
decided_row n w e = go (logical_operator n) refl e
  where
    by : (o : LogicalOperator) → logical_operator n ≡ Some o → (b : Bool) → assigns_name (part n 1) && is_same_name (part n 0) (part (part n 1) 0) ≡ b → decide.written_by (if b then Some o else None) (part n 1) ≡ Some w → Row38 n w
    by o h true k e =
        let (right, same) = and_parts (assigns_name (part n 1)) (is_same_name (part n 0) (part (part n 1) 0)) k in
        let one = one_name (part n 0) (part (part n 1) 0) same in
        let value = part (part n 1) 1 in
        record {
          operator = o;
          name = one.name;
          b = value;
          shape = logical_is n o h ∙ ap (λ t. logical o t (part n 1)) one.first ∙ ap (logical o (identifier one.name)) (assigns_is (part n 1) right ∙ ap (λ t. assignment Assign t value) one.second);
          written = sym (some_is (decide.decided o (part n 1)) w e) ∙ ap (λ t. assignment (deciding o) t value) one.second;
        }
    by o h false k e = absurd (cc e)

    go : (o : Option LogicalOperator) → logical_operator n ≡ o → decide.written_by (decide.deciding_in o (part n 0) (part n 1)) (part n 1) ≡ Some w → Row38 n w
    go (Some o) h e = by o h (assigns_name (part n 1) && is_same_name (part n 0) (part (part n 1) 0)) refl e
    go None h e = absurd (cc e)

pub decided_passes : (o : LogicalOperator) (x : Name) (b : Tree) → decide.written (logical o (identifier x) (assign x b)) ≡ Some (assignment (deciding o) (identifier x) b)
decided_passes o x b = ap (λ g. decide.written_by (if g then Some o else None) (assign x b)) (tree_itself (identifier x))

-- ---- 45

pub chosen_row : (asked : Bool) (s : Seat) (n : Tree) → branches.is_seated s && branches.assigns_either asked n ≡ true → ChosenRow asked s n (branches.assigned n) ⊎ ChosenMemberRow asked s n (branches.assigned n)
chosen_row asked s n k =
    let (seated, either) = and_parts (branches.is_seated s) (branches.assigns_either asked n) k in
    let (chooses, alike) = and_parts (is_conditional n) (branches.assigns_alike asked (assignment_operator yes) test yes no) either in
    go seated chooses (assignment_operator yes) refl alike
  where
    test : Tree
    test = part n 0

    yes : Tree
    yes = part n 1

    no : Tree
    no = part n 2

    x : Tree
    x = part yes 0

    y : Tree
    y = part no 0

    value : Tree
    value = conditional test (part yes 1) (part no 1)

    of_name : not (nat_eq s.level conditional_level) ≡ true → is_conditional n ≡ true → (o : AssignmentOperator) → assignment_operator yes ≡ Some o → is_operator o (assignment_operator no) ≡ true → is_same_name x y && may_choose o (is_declared x) (ef asked test) ≡ true → ChosenRow asked s n (branches.assigned n)
    of_name seated chooses o h by rest =
        let (same, may) = and_parts (is_same_name x y) (may_choose o (is_declared x) (ef asked test)) rest in
        let one = one_name x y same in
        record {
          operator = o;
          a = test;
          name = one.name;
          b = part yes 1;
          c = part no 1;
          chosen = sym (ap (λ t. may_choose o (is_declared t) (ef asked test)) one.first) ∙ may;
          seated = not_true (nat_eq s.level conditional_level) seated;
          shape = conditional_is n chooses ∙ (λ i. conditional test ((assignment_is yes o h ∙ ap (λ t. assignment o t (part yes 1)) one.first) i) ((operator_is o no by ∙ ap (λ t. assignment o t (part no 1)) one.second) i));
          written = ap (λ p. assignment (unwrap_or p Assign) x value) h ∙ ap (λ t. assignment o t value) one.first;
        }

    of_member : not (nat_eq s.level conditional_level) ≡ true → is_conditional n ≡ true → assignment_operator yes ≡ Some Assign → is_operator Assign (assignment_operator no) ≡ true → is_same_member x y && ef asked test ≡ true → ChosenMemberRow asked s n (branches.assigned n)
    of_member seated chooses h by rest =
        let (same, free) = and_parts (is_same_member x y) (ef asked test) rest in
        let (member, alike) = and_parts (is_member_of_name x) (same_tree x y) same in
        let one = one_member x member in
        record {
          a = test;
          name = one.name;
          key = one.key;
          b = part yes 1;
          c = part no 1;
          declared = one.declared;
          effect_free = free;
          seated = not_true (nat_eq s.level conditional_level) seated;
          shape = conditional_is n chooses ∙ (λ i. conditional test ((assignment_is yes Assign h ∙ ap (λ t. assignment Assign t (part yes 1)) one.is) i) ((operator_is Assign no by ∙ ap (λ t. assignment Assign t (part no 1)) (sym (tree_same x y alike) ∙ one.is)) i));
          written = ap (λ p. assignment (unwrap_or p Assign) x value) h ∙ ap (λ t. assignment Assign t value) one.is;
        }

    either_of : not (nat_eq s.level conditional_level) ≡ true → is_conditional n ≡ true → (o : AssignmentOperator) → assignment_operator yes ≡ Some o → is_operator o (assignment_operator no) ≡ true → (b : Bool) → is_same_name x y && may_choose o (is_declared x) (ef asked test) ≡ b → (b || (is_plain (Some o) && (is_same_member x y && ef asked test))) ≡ true → ChosenRow asked s n (branches.assigned n) ⊎ ChosenMemberRow asked s n (branches.assigned n)
    either_of seated chooses o h by true k e = inl (of_name seated chooses o h by k)
    either_of seated chooses Assign h by false k e = inr (of_member seated chooses h by e)
    either_of seated chooses o h by false k e = absurd (cc e)

    go : not (nat_eq s.level conditional_level) ≡ true → is_conditional n ≡ true → (o : Option AssignmentOperator) → assignment_operator yes ≡ o → branches.assigns_alike asked o test yes no ≡ true → ChosenRow asked s n (branches.assigned n) ⊎ ChosenMemberRow asked s n (branches.assigned n)
    go seated chooses (Some o) h e =
        let (by, may) = and_parts (is_operator o (assignment_operator no)) (branches.may_take asked o test x y) e in
        either_of seated chooses o h by (is_same_name x y && may_choose o (is_declared x) (ef asked test)) refl may
    go seated chooses None h e = absurd (true≢false (sym e))

-- ---- 46

pub equal_operator : (o : Option BinaryOperator) → branches.is_equal_in o ≡ true → o ≡ Some Equality
equal_operator (Some Equality) e = refl
equal_operator o e = absurd (true≢false (sym e))

pub unequal_operator : (o : Option BinaryOperator) → branches.is_unequal_in o ≡ true → o ≡ Some Inequality
unequal_operator (Some Inequality) e = refl
unequal_operator o e = absurd (true≢false (sym e))

-- a comparison of a name with null
record BesideNull (o : BinaryOperator) (t x : Tree) : Type 0 where
  name : Name
  compares : t ≡ binary o (identifier name) null_literal
  is : x ≡ identifier name
  declared : is_none name.symbol ≡ false

beside_null : (o : BinaryOperator) (t x : Tree) → binary_operator t ≡ Some o → branches.is_beside_null t x ≡ true → BesideNull o t x
beside_null o t x h e =
    let (null, rest) = and_parts (is_null (part t 1)) (is_same_name (part t 0) x && is_declared x) e in
    let (same, declared) = and_parts (is_same_name (part t 0) x) (is_declared x) rest in
    let one = one_name (part t 0) x same in
    record {
      name = one.name;
      compares = binary_is t o h ∙ (λ i. binary o (one.first i) (null_is (part t 1) null i));
      is = one.second;
      declared = not_true (is_none one.name.symbol) (sym (ap is_declared one.second) ∙ declared);
    }

equal_row : (n : Tree) → branches.is_own_if_equal n ≡ true → Row46Equal n (logical Coalesce (part n 2) (part n 1))
equal_row n k =
    let (chooses, rest) = and_parts (is_conditional n) (branches.is_equal_in (binary_operator (part n 0)) && branches.is_beside_null (part n 0) (part n 2)) k in
    let (equal, beside) = and_parts (branches.is_equal_in (binary_operator (part n 0))) (branches.is_beside_null (part n 0) (part n 2)) rest in
    let r = beside_null Equality (part n 0) (part n 2) (equal_operator (binary_operator (part n 0)) equal) beside in
    record {
      name = r.name;
      b = part n 1;
      declared = r.declared;
      shape = conditional_is n chooses ∙ (λ i. conditional (r.compares i) (part n 1) (r.is i));
      written = ap (λ t. logical Coalesce t (part n 1)) r.is;
    }

unequal_row : (n : Tree) → branches.is_own_if_unequal n ≡ true → Row46Unequal n (logical Coalesce (part n 1) (part n 2))
unequal_row n k =
    let (chooses, rest) = and_parts (is_conditional n) (branches.is_unequal_in (binary_operator (part n 0)) && branches.is_beside_null (part n 0) (part n 1)) k in
    let (unequal, beside) = and_parts (branches.is_unequal_in (binary_operator (part n 0))) (branches.is_beside_null (part n 0) (part n 1)) rest in
    let r = beside_null Inequality (part n 0) (part n 1) (unequal_operator (binary_operator (part n 0)) unequal) beside in
    record {
      name = r.name;
      b = part n 2;
      declared = r.declared;
      shape = conditional_is n chooses ∙ (λ i. conditional (r.compares i) (r.is i) (part n 2));
      written = ap (λ t. logical Coalesce t (part n 2)) r.is;
    }

-- ---- 41

own_or_row : (s : Seat) (n : Tree) → branches.is_own_consequent s n ≡ true → Falls OlderRow s n (logical Or (part n 0) (part n 2))
own_or_row s n k =
    let (chooses, rest) = and_parts (is_conditional n) (is_same_name (part n 0) (part n 1) && branches.is_lighter s (logical Or (part n 0) (part n 2)) n) k in
    let (same, less) = and_parts (is_same_name (part n 0) (part n 1)) (branches.is_lighter s (logical Or (part n 0) (part n 2)) n) rest in
    let one = one_name (part n 0) (part n 1) same in
    let row : Row41Or n (logical Or (part n 0) (part n 2)) = record {
      name = one.name;
      b = part n 2;
      shape = conditional_is n chooses ∙ (λ i. conditional (one.first i) (one.second i) (part n 2));
      written = ap (λ t. logical Or t (part n 2)) one.first;
    } in
    (inl (OrTest row), omega (arith, ltb-true _ _ less))

own_and_row : (s : Seat) (n : Tree) → branches.is_own_alternate s n ≡ true → Falls OlderRow s n (logical And (part n 0) (part n 1))
own_and_row s n k =
    let (chooses, rest) = and_parts (is_conditional n) (is_same_name (part n 0) (part n 2) && branches.is_lighter s (logical And (part n 0) (part n 1)) n) k in
    let (same, less) = and_parts (is_same_name (part n 0) (part n 2)) (branches.is_lighter s (logical And (part n 0) (part n 1)) n) rest in
    let one = one_name (part n 0) (part n 2) same in
    let row : Row41And n (logical And (part n 0) (part n 1)) = record {
      name = one.name;
      b = part n 1;
      shape = conditional_is n chooses ∙ (λ i. conditional (one.first i) (part n 1) (one.second i));
      written = ap (λ t. logical And t (part n 1)) one.first;
    } in
    (inl (AndTest row), omega (arith, ltb-true _ _ less))

-- ---- a conditional

-- one that is lighter in every seat, and that the edition has
abbrev Found : ℕ → Seat → Tree → Tree → Type 0
Found e s n w = (r : LighterRow s n w) × LighterIn e s n w r

sure : (e : ℕ) (s : Seat) (n w : Tree) → Found e s n w → ChoicesIn e (Expr s) n w
sure e s n w (r, a) = (record { row = Shorter r; lighter = choice_weights.lighter s n w r }, a)

-- where it is one of these

of_older : (e : ℕ) (s : Seat) (n w : Tree) → OlderRow s n w → weight (Expr s) w < weight (Expr s) n → ChoicesIn e (Expr s) n w
of_older e s n w (inl r) less = (record { row = TestedBranch r; lighter = less }, tt)
of_older e s n w (inr (inl (inl r))) less = (record { row = Shorter (Chosen r); lighter = less }, tt)
of_older e s n w (inr (inl (inr (inl r)))) less = (record { row = Shorter (ChosenMember r); lighter = less }, tt)
of_older e s n w (inr (inl (inr (inr r)))) less = (record { row = ChosenIndexed r; lighter = less }, tt)
of_older e s n w (inr (inr r)) less = (record { row = JoinedCall r; lighter = less }, tt)

of_shared : (e : ℕ) → 2020 ≤ e → (s : Seat) (n w : Tree) → SharedRow s n w → weight (Expr s) w < weight (Expr s) n → ChoicesIn e (Expr s) n w
of_shared e late s n w (inl (inl r)) less = (record { row = Shorter (NullishIfEqual r); lighter = less }, late)
of_shared e late s n w (inl (inr r)) less = (record { row = Shorter (NullishIfUnequal r); lighter = less }, late)
of_shared e late s n w (inr r) less = of_older e s n w r less

module _ (s : Seat) (n w : Tree) where
  -- one that is lighter in every seat, as all are but those of `OwnRow`
  surely : (u : Tree) → Row45 s n u ⊎ Row45Member s n u → Falls OlderRow s n u
  surely u (inl r) = (inr (inl (inl r)), choice_weights.lighter s n u (Chosen r))
  surely u (inr r) = (inr (inl (inr (inl r))), choice_weights.lighter s n u (ChosenMember r))

  older_falls : branches.consequent_written s n ≡ Some w → Falls OlderRow s n w
  older_falls =
      tries (Falls OlderRow s n) w (branches.is_own_consequent s n) (logical Or (part n 0) (part n 2)) (branches.alternate_written s n) (own_or_row s n)
      (tries (Falls OlderRow s n) w (branches.is_own_alternate s n) (logical And (part n 0) (part n 1)) (branches.assignment_written s n) (own_and_row s n)
      (tries (Falls OlderRow s n) w (branches.is_seated s && branches.assigns_either true n) (branches.assigned n) (branches.indexed_written s n) (λ h. surely (branches.assigned n) (chosen_row true s n h))
      (tries (Falls OlderRow s n) w (branches.is_seated s && branches.indexes_either true n) (branches.assigned n) (branches.called_written n) index_row
      (tries (Falls OlderRow s n) w (calls_either true n) (called n) None call_row (λ e. absurd (cc e))))))
    where
      index_row : branches.is_seated s && branches.indexes_either true n ≡ true → Falls OlderRow s n (branches.assigned n)
      index_row h = let r = indexed_row true s n h in (inr (inl (inr (inr r))), indexed_lighter s n (branches.assigned n) r)

      call_row : calls_either true n ≡ true → Falls OlderRow s n (called n)
      call_row h = let r = called_row true n h in (inr (inr r), calls_lighter s n (called n) r)

  pub branch_falls : branches.written s n ≡ Some w → Falls SharedRow s n w
  branch_falls =
      tries (Falls SharedRow s n) w (branches.is_own_if_equal n) (logical Coalesce (part n 2) (part n 1)) (branches.unequal_written s n) if_equal
      (tries (Falls SharedRow s n) w (branches.is_own_if_unequal n) (logical Coalesce (part n 1) (part n 2)) (branches.consequent_written s n) if_unequal older)
    where
      if_equal : branches.is_own_if_equal n ≡ true → Falls SharedRow s n (logical Coalesce (part n 2) (part n 1))
      if_equal h = let r = equal_row n h in (inl (inl r), choice_weights.lighter s n (logical Coalesce (part n 2) (part n 1)) (NullishIfEqual r))

      if_unequal : branches.is_own_if_unequal n ≡ true → Falls SharedRow s n (logical Coalesce (part n 1) (part n 2))
      if_unequal h = let r = unequal_row n h in (inl (inr r), choice_weights.lighter s n (logical Coalesce (part n 1) (part n 2)) (NullishIfUnequal r))

      older : branches.consequent_written s n ≡ Some w → Falls SharedRow s n w
      older h = let (r, less) = older_falls h in (inr r, less)

  branch_row : (e : ℕ) → branches_in e s n ≡ Some w → ChoicesIn e (Expr s) n w
  branch_row e = in_edition 2020 e (branches.written s n) (branches.consequent_written s n) w newer older
    where
      newer : 2020 ≤ e → branches.written s n ≡ Some w → ChoicesIn e (Expr s) n w
      newer late h = let (r, less) = branch_falls h in of_shared e late s n w r less

      older : branches.consequent_written s n ≡ Some w → ChoicesIn e (Expr s) n w
      older h = let (r, less) = older_falls h in of_older e s n w r less

module _ (s : Seat) (t : Tree) where
  pub by_equal : branches.is_own_if_equal t ≡ true → is_some (branches.written s t) ≡ true
  by_equal h = first_true (branches.is_own_if_equal t) (logical Coalesce (part t 2) (part t 1)) (branches.unequal_written s t) h

  after_equal : is_some (branches.unequal_written s t) ≡ true → is_some (branches.written s t) ≡ true
  after_equal h = later_true (branches.is_own_if_equal t) (logical Coalesce (part t 2) (part t 1)) (branches.unequal_written s t) h

  pub by_unequal : branches.is_own_if_unequal t ≡ true → is_some (branches.written s t) ≡ true
  by_unequal h = after_equal (first_true (branches.is_own_if_unequal t) (logical Coalesce (part t 1) (part t 2)) (branches.consequent_written s t) h)

  after_unequal : is_some (branches.consequent_written s t) ≡ true → is_some (branches.written s t) ≡ true
  after_unequal h = after_equal (later_true (branches.is_own_if_unequal t) (logical Coalesce (part t 1) (part t 2)) (branches.consequent_written s t) h)

  -- where what is written is no `??`
  older_consequent : branches.is_own_consequent s t ≡ true → is_some (branches.consequent_written s t) ≡ true
  older_consequent h = first_true (branches.is_own_consequent s t) (logical Or (part t 0) (part t 2)) (branches.alternate_written s t) h

  after_consequent : is_some (branches.alternate_written s t) ≡ true → is_some (branches.consequent_written s t) ≡ true
  after_consequent h = later_true (branches.is_own_consequent s t) (logical Or (part t 0) (part t 2)) (branches.alternate_written s t) h

  older_alternate : branches.is_own_alternate s t ≡ true → is_some (branches.consequent_written s t) ≡ true
  older_alternate h = after_consequent (first_true (branches.is_own_alternate s t) (logical And (part t 0) (part t 1)) (branches.assignment_written s t) h)

  older_assignment : branches.is_seated s && branches.assigns_either true t ≡ true → is_some (branches.consequent_written s t) ≡ true
  older_assignment h = after_consequent (later_true (branches.is_own_alternate s t) (logical And (part t 0) (part t 1)) (branches.assignment_written s t) (first_true (branches.is_seated s && branches.assigns_either true t) (branches.assigned t) (branches.indexed_written s t) h))

  after_assignment : is_some (branches.indexed_written s t) ≡ true → is_some (branches.consequent_written s t) ≡ true
  after_assignment h = after_consequent (later_true (branches.is_own_alternate s t) (logical And (part t 0) (part t 1)) (branches.assignment_written s t) (later_true (branches.is_seated s && branches.assigns_either true t) (branches.assigned t) (branches.indexed_written s t) h))

  older_indexed : branches.is_seated s && branches.indexes_either true t ≡ true → is_some (branches.consequent_written s t) ≡ true
  older_indexed h = after_assignment (first_true (branches.is_seated s && branches.indexes_either true t) (branches.assigned t) (branches.called_written t) h)

  older_called : calls_either true t ≡ true → is_some (branches.consequent_written s t) ≡ true
  older_called h = after_assignment (later_true (branches.is_seated s && branches.indexes_either true t) (branches.assigned t) (branches.called_written t) (first_true (calls_either true t) (called t) None h))

  pub by_consequent : branches.is_own_consequent s t ≡ true → is_some (branches.written s t) ≡ true
  by_consequent h = after_unequal (older_consequent h)

  pub by_alternate : branches.is_own_alternate s t ≡ true → is_some (branches.written s t) ≡ true
  by_alternate h = after_unequal (older_alternate h)

  pub by_assignment : branches.is_seated s && branches.assigns_either true t ≡ true → is_some (branches.written s t) ≡ true
  by_assignment h = after_unequal (older_assignment h)

  pub by_indexed : branches.is_seated s && branches.indexes_either true t ≡ true → is_some (branches.written s t) ≡ true
  by_indexed h = after_unequal (older_indexed h)

  pub by_called : calls_either true t ≡ true → is_some (branches.written s t) ≡ true
  by_called h = after_unequal (older_called h)

or_true : (a b : Bool) → b ≡ true → (a || b) ≡ true
or_true true b e = refl
or_true false b e = e

pub declared_passes : (x : Name) → is_none x.symbol ≡ false → same_tree (identifier x) (identifier x) && is_declared (identifier x) ≡ true
declared_passes x d = both_true (same_tree (identifier x) (identifier x)) (is_declared (identifier x)) (tree_itself (identifier x)) (ap not d)

pub chosen_passes : (asked : Bool) (s : Seat) → nat_eq s.level conditional_level ≡ false → (o : AssignmentOperator) (a : Tree) (x : Name) (b c : Tree) → may_choose o (not (is_none x.symbol)) (ef asked a) ≡ true → branches.is_seated s && branches.assigns_either asked (conditional a (assignment o (identifier x) b) (assignment o (identifier x) c)) ≡ true
chosen_passes asked s seated o a x b c d =
    both_true (branches.is_seated s) (branches.assigns_either asked (conditional a (assignment o (identifier x) b) (assignment o (identifier x) c))) (ap not seated)
    (both_true (is_same_operator o o) _ (tree_itself (leaf (shape.AssignmentExpression o))) (ap (λ g. g || (is_plain (Some o) && (is_same_member (identifier x) (identifier x) && ef asked a))) (both_true (same_tree (identifier x) (identifier x)) _ (tree_itself (identifier x)) d)))

pub chosen_member_passes : (asked : Bool) (s : Seat) → nat_eq s.level conditional_level ≡ false → (a : Tree) (x : Name) (k : Key) (b c : Tree) → is_none x.symbol ≡ false → ef asked a ≡ true → branches.is_seated s && branches.assigns_either asked (conditional a (assignment Assign (member_of x k) b) (assignment Assign (member_of x k) c)) ≡ true
chosen_member_passes asked s seated a x k b c d free =
    let m : Tree = member_of x k in
    both_true (branches.is_seated s) (branches.assigns_either asked (conditional a (assignment Assign m b) (assignment Assign m c))) (ap not seated)
    (both_true (is_same_operator Assign Assign) _ (tree_itself (leaf (shape.AssignmentExpression Assign))) (or_true (is_same_name m m && may_choose Assign (is_declared m) (ef asked a)) _ (both_true (is_same_member m m) _ (both_true (is_member_of_name m) _ (member_there x d k) (tree_itself m)) free)))

-- ---- all

either_some : (a b : Option Tree) (w : Tree) → first_of a b ≡ Some w → (a ≡ Some w) ⊎ (b ≡ Some w)
either_some (Some a) b w e = inl e
either_some None b w e = inr e

row_of : (e : ℕ) (s : Seat) (n w : Tree) → written e s n ≡ Some w → ChoicesIn e (Expr s) n w
row_of e s (node (shape.LogicalExpression o) xs m ts) w h = side_row (either_some (both.written s (node (shape.LogicalExpression o) xs m ts)) (first_of (decided_last_in e s (node (shape.LogicalExpression o) xs m ts)) (operands_written e (node (shape.LogicalExpression o) xs m ts))) w h)
  where
    comparisons_row : (nullish.written (node (shape.LogicalExpression o) xs m ts) ≡ Some w) ⊎ (object_test.written (node (shape.LogicalExpression o) xs m ts) ≡ Some w) → Found e s (node (shape.LogicalExpression o) xs m ts) w
    comparisons_row (inl h) = comparison_row (Found e s) (λ n w r. (LooseNull r, tt)) (λ n w r. (LooseNullAfter r, tt)) _ w h
    comparisons_row (inr h) = object_row (Found e s) (λ n w r. (ObjectTest r, tt)) (λ n w r. (ObjectTestAfter r, tt)) _ w h

    others_row : (decided_in e (node (shape.LogicalExpression o) xs m ts) ≡ Some w) ⊎ (first_of (nullish.written (node (shape.LogicalExpression o) xs m ts)) (object_test.written (node (shape.LogicalExpression o) xs m ts)) ≡ Some w) → Found e s (node (shape.LogicalExpression o) xs m ts) w
    others_row (inl h) = let (late, is) = since_is 2021 e (decide.written (node (shape.LogicalExpression o) xs m ts)) w h in (Decided (decided_row _ w is), late)
    others_row (inr h) = comparisons_row (either_some (nullish.written (node (shape.LogicalExpression o) xs m ts)) (object_test.written (node (shape.LogicalExpression o) xs m ts)) w h)

    logical_row : (rotate.written (node (shape.LogicalExpression o) xs m ts) ≡ Some w) ⊎ (first_of (decided_in e (node (shape.LogicalExpression o) xs m ts)) (first_of (nullish.written (node (shape.LogicalExpression o) xs m ts)) (object_test.written (node (shape.LogicalExpression o) xs m ts))) ≡ Some w) → Found e s (node (shape.LogicalExpression o) xs m ts) w
    logical_row (inl h) = (Rotated (rotated_row _ w h), tt)
    logical_row (inr h) = others_row (either_some (decided_in e (node (shape.LogicalExpression o) xs m ts)) (first_of (nullish.written (node (shape.LogicalExpression o) xs m ts)) (object_test.written (node (shape.LogicalExpression o) xs m ts))) w h)

    operands_row : operands_written e (node (shape.LogicalExpression o) xs m ts) ≡ Some w → Found e s (node (shape.LogicalExpression o) xs m ts) w
    operands_row h = logical_row (either_some (rotate.written (node (shape.LogicalExpression o) xs m ts)) (first_of (decided_in e (node (shape.LogicalExpression o) xs m ts)) (first_of (nullish.written (node (shape.LogicalExpression o) xs m ts)) (object_test.written (node (shape.LogicalExpression o) xs m ts)))) w h)

    last_or_row : (decided_last_in e s (node (shape.LogicalExpression o) xs m ts) ≡ Some w) ⊎ (operands_written e (node (shape.LogicalExpression o) xs m ts) ≡ Some w) → Found e s (node (shape.LogicalExpression o) xs m ts) w
    last_or_row (inl h) = let (late, is) = since_is 2021 e (decide_last.written s (node (shape.LogicalExpression o) xs m ts)) w h in (DecidedLast (last_row s _ w is), late)
    last_or_row (inr h) = operands_row h

    side_row : (both.written s (node (shape.LogicalExpression o) xs m ts) ≡ Some w) ⊎ (first_of (decided_last_in e s (node (shape.LogicalExpression o) xs m ts)) (operands_written e (node (shape.LogicalExpression o) xs m ts)) ≡ Some w) → ChoicesIn e (Expr s) (node (shape.LogicalExpression o) xs m ts) w
    side_row (inl h) = both_row e s _ w h
    side_row (inr h) = sure e s _ w (last_or_row (either_some (decided_last_in e s (node (shape.LogicalExpression o) xs m ts)) (operands_written e (node (shape.LogicalExpression o) xs m ts)) w h))
row_of e s (node (shape.AssignmentExpression o) xs m ts) w h = assigned_row (combined_row _ w h)
  where
    assigned_row : Row35 (node (shape.AssignmentExpression o) xs m ts) w ⊎ Row35Member (node (shape.AssignmentExpression o) xs m ts) w → ChoicesIn e (Expr s) (node (shape.AssignmentExpression o) xs m ts) w
    assigned_row (inl r) = sure e s _ w (Combined r, tt)
    assigned_row (inr r) = sure e s _ w (CombinedMember r, tt)
row_of e s (node shape.ConditionalExpression xs m ts) w h = any_row (either_some (chains_in e s (node shape.ConditionalExpression xs m ts)) (first_of (held.written s (node shape.ConditionalExpression xs m ts)) (branches_in e s (node shape.ConditionalExpression xs m ts))) w h)
  where
    conditional_row : (held.written s (node shape.ConditionalExpression xs m ts) ≡ Some w) ⊎ (branches_in e s (node shape.ConditionalExpression xs m ts) ≡ Some w) → ChoicesIn e (Expr s) (node shape.ConditionalExpression xs m ts) w
    conditional_row (inl h) = held_row e s _ w h
    conditional_row (inr h) = branch_row s _ w e h

    any_row : (chains_in e s (node shape.ConditionalExpression xs m ts) ≡ Some w) ⊎ (first_of (held.written s (node shape.ConditionalExpression xs m ts)) (branches_in e s (node shape.ConditionalExpression xs m ts)) ≡ Some w) → ChoicesIn e (Expr s) (node shape.ConditionalExpression xs m ts) w
    any_row (inl h) = let (late, is) = since_is 2020 e (chains.written s (node shape.ConditionalExpression xs m ts)) w h in chain_row e late s _ w is
    any_row (inr h) = conditional_row (either_some (held.written s (node shape.ConditionalExpression xs m ts)) (branches_in e s (node shape.ConditionalExpression xs m ts)) w h)
row_of e s (node shape.ChainExpression xs m ts) w h = folded_row e s (node shape.ChainExpression xs m ts) w h
row_of e s (node shape.SequenceExpression xs m ts) w h = zero_row e s (node shape.SequenceExpression xs m ts) w h
row_of e s (node h xs m ts) w k = absurd (cc k)

pub written_is_row : WrittenIsRow
written_is_row e s n w h = row_of e s n w h

in_branches : (e : ℕ) (s : Seat) (t : Tree) → is_some (branches_in e s t) ≡ true → is_some (first_of (chains_in e s t) (first_of (held.written s t) (branches_in e s t))) ≡ true
in_branches e s t h = second_there (chains_in e s t) (first_of (held.written s t) (branches_in e s t)) (second_there (held.written s t) (branches_in e s t) h)

-- of what is no `??`
in_older : (e : ℕ) (s : Seat) (t : Tree) → is_some (branches.consequent_written s t) ≡ true → is_some (first_of (chains_in e s t) (first_of (held.written s t) (branches_in e s t))) ≡ true
in_older e s t h = in_branches e s t (either_passes 2020 e (branches.written s t) (branches.consequent_written s t) (after_unequal s t h) h)

-- and of what is
in_newer : (e : ℕ) (s : Seat) (t : Tree) → 2020 ≤ e → is_some (branches.written s t) ≡ true → is_some (first_of (chains_in e s t) (first_of (held.written s t) (branches_in e s t))) ≡ true
in_newer e s t late h = in_branches e s t (newer_passes 2020 e (branches.written s t) (branches.consequent_written s t) late h)

held_there : (e : ℕ) (s : Seat) (n : Tree) → is_some (held.written s n) ≡ true → is_some (written e s n) ≡ true
held_there e s n h =
    let is = conditional_is n (chooses (is_conditional n) h) in
    let t : Tree = conditional (part n 0) (part n 1) (part n 2) in
    ap (λ t. is_some (written e s t)) is ∙ second_there (chains_in e s t) (first_of (held.written s t) (branches_in e s t)) (first_there (held.written s t) (branches_in e s t) (sym (ap (λ t. is_some (held.written s t)) is) ∙ h))
  where
    chooses : (b : Bool) → is_some (if b then held.chosen_written s n else None) ≡ true → b ≡ true
    chooses true e = refl
    chooses false e = e

chain_there : (e : ℕ) (s : Seat) (n : Tree) → 2020 ≤ e → is_some (chains.written s n) ≡ true → is_some (written e s n) ≡ true
chain_there e s n late h =
    let is = conditional_is n (chooses n h) in
    let t : Tree = conditional (part n 0) (part n 1) (part n 2) in
    ap (λ t. is_some (written e s t)) is ∙ first_there (chains_in e s t) (first_of (held.written s t) (branches_in e s t)) (since_passes 2020 e (chains.written s t) late (sym (ap (λ t. is_some (chains.written s t)) is) ∙ h))
  where
    first_of_both : (b c d : Bool) (x y : Tree) → is_some (if b && c then Some x else (if b && d then Some y else None)) ≡ true → b ≡ true
    first_of_both true c d x y e = refl
    first_of_both false c d x y e = e

    chooses : (t : Tree) → is_some (chains.written s t) ≡ true → is_conditional t ≡ true
    chooses t e = first_of_both (is_conditional t) _ _ (kept_by_value s.guard (chains.chained t (part t 2))) (kept_by_value s.guard (chains.chained t (part t 1))) e

folded_there : (e : ℕ) (s : Seat) (n : Tree) → is_some (folded.written s n) ≡ true → is_some (written e s n) ≡ true
folded_there e s n h = ap (λ t. is_some (written e s t)) (chain_is n (of_chain s n h)) ∙ sym (ap (λ t. is_some (folded.written s t)) (chain_is n (of_chain s n h))) ∙ h

in_comparisons : (e : ℕ) (t : Tree) → is_some (first_of (nullish.written t) (object_test.written t)) ≡ true → is_some (first_of (rotate.written t) (first_of (decided_in e t) (first_of (nullish.written t) (object_test.written t)))) ≡ true
in_comparisons e t h = second_there (rotate.written t) (first_of (decided_in e t) (first_of (nullish.written t) (object_test.written t))) (second_there (decided_in e t) (first_of (nullish.written t) (object_test.written t)) h)

by_nullish : (e : ℕ) (t : Tree) → is_some (nullish.written t) ≡ true → is_some (first_of (rotate.written t) (first_of (decided_in e t) (first_of (nullish.written t) (object_test.written t)))) ≡ true
by_nullish e t h = in_comparisons e t (first_there (nullish.written t) (object_test.written t) h)

by_object : (e : ℕ) (t : Tree) → is_some (object_test.written t) ≡ true → is_some (first_of (rotate.written t) (first_of (decided_in e t) (first_of (nullish.written t) (object_test.written t)))) ≡ true
by_object e t h = in_comparisons e t (second_there (nullish.written t) (object_test.written t) h)

in_operands : (e : ℕ) (s : Seat) (t : Tree) → is_some (operands_written e t) ≡ true → is_some (first_of (both.written s t) (first_of (decided_last_in e s t) (operands_written e t))) ≡ true
in_operands e s t h = second_there (both.written s t) (first_of (decided_last_in e s t) (operands_written e t)) (second_there (decided_last_in e s t) (operands_written e t) h)

both_there : (e : ℕ) (s : Seat) (n w : Tree) → Row13Both n w → is_some (both.written s n) ≡ true → is_some (written e s n) ≡ true
both_there e s n w r h =
    let t : Tree = logical r.operator r.left r.right in
    ap (λ t. is_some (written e s t)) r.shape ∙ first_there (both.written s t) (first_of (decided_last_in e s t) (operands_written e t)) (sym (ap (λ t. is_some (both.written s t)) r.shape) ∙ h)

zero_there : (e : ℕ) (s : Seat) (n w : Tree) → Row21Zero n w → is_some (behind.written s n) ≡ true → is_some (written e s n) ≡ true
zero_there e s n w r h = ap (λ t. is_some (written e s t)) r.shape ∙ sym (ap (λ t. is_some (behind.written s t)) r.shape) ∙ h

sure_passes : (e : ℕ) (s : Seat) (n w : Tree) (r : LighterRow s n w) → LighterIn e s n w r → is_some (written e s n) ≡ true
sure_passes e s n w (Rotated r) a =
    let t : Tree = logical r.operator r.a (joined r.operator r.b (r.last ▸ r.others)) in
    ap (λ t. is_some (written e s t)) r.shape ∙ in_operands e s t (first_there (rotate.written t) (first_of (decided_in e t) (first_of (nullish.written t) (object_test.written t))) (rotated_passes r.operator r.a r.b r.last r.others r.ungrouped))
sure_passes e s n w (Decided r) a =
    let t : Tree = logical r.operator (identifier r.name) (assign r.name r.b) in
    ap (λ t. is_some (written e s t)) r.shape ∙ in_operands e s t (first_there (decided_in e t) (first_of (nullish.written t) (object_test.written t)) (since_passes 2021 e (decide.written t) a (ap is_some (decided_passes r.operator r.name r.b))))
sure_passes e s n w (Combined r) a = ap (λ t. is_some (written e s t)) r.shape ∙ ap is_some (combined_passes r.operator r.combined r.computes r.name r.b)
sure_passes e s n w (NullishIfEqual r) a = ap (λ t. is_some (written e s t)) r.shape ∙ in_newer e s (conditional (binary Equality (identifier r.name) null_literal) r.b (identifier r.name)) a (by_equal s (conditional (binary Equality (identifier r.name) null_literal) r.b (identifier r.name)) (declared_passes r.name r.declared))
sure_passes e s n w (NullishIfUnequal r) a = ap (λ t. is_some (written e s t)) r.shape ∙ in_newer e s (conditional (binary Inequality (identifier r.name) null_literal) (identifier r.name) r.b) a (by_unequal s (conditional (binary Inequality (identifier r.name) null_literal) (identifier r.name) r.b) (declared_passes r.name r.declared))
sure_passes e s n w (Chosen r) a = ap (λ t. is_some (written e s t)) r.shape ∙ in_older e s (conditional r.a (assignment r.operator (identifier r.name) r.b) (assignment r.operator (identifier r.name) r.c)) (older_assignment s (conditional r.a (assignment r.operator (identifier r.name) r.b) (assignment r.operator (identifier r.name) r.c)) (chosen_passes true s r.seated r.operator r.a r.name r.b r.c r.chosen))
sure_passes e s n w (LooseNull r) a =
    let t : Tree = logical (joining r.equal) (binary (strictly r.equal) (identifier r.name) r.first) (binary (strictly r.equal) (identifier r.name) r.second) in
    ap (λ t. is_some (written e s t)) r.shape ∙ in_operands e s t (by_nullish e t (alone_passes r.equal r.name r.first r.second r.nullish))
sure_passes e s n w (LooseNullAfter r) a =
    let t : Tree = logical (joining r.equal) (logical (joining r.equal) r.before (binary (strictly r.equal) (identifier r.name) r.first)) (binary (strictly r.equal) (identifier r.name) r.second) in
    ap (λ t. is_some (written e s t)) r.shape ∙ in_operands e s t (by_nullish e t (after_passes r.equal r.before r.name r.first r.second r.nullish))
sure_passes e s n w (ObjectTest r) a =
    let t : Tree = logical (joining (not r.there)) (ended (joining (not r.there)) r.before (asks_object r.there r.name)) (null_compared r.strict (not r.there) r.name) in
    ap (λ t. is_some (written e s t)) r.shape ∙ in_operands e s t (by_object e t (object_passes r.there r.strict r.before r.name r.declared))
sure_passes e s n w (DecidedLast r) a =
    let t : Tree = logical r.operator (identifier r.name) (sequence (r.first ▸ append r.others (assign r.name r.b ▸ none))) in
    ap (λ t. is_some (written e s t)) r.shape ∙ second_there (both.written s t) (first_of (decided_last_in e s t) (operands_written e t)) (first_there (decided_last_in e s t) (operands_written e t) (since_passes 2021 e (decide_last.written s t) a (last_passes s r.operator r.name r.first r.others r.b r.seated)))
sure_passes e s n w (ChosenMember r) a =
    let t : Tree = conditional r.a (assignment Assign (member_of r.name r.key) r.b) (assignment Assign (member_of r.name r.key) r.c) in
    ap (λ t. is_some (written e s t)) r.shape ∙ in_older e s t (older_assignment s t (chosen_member_passes true s r.seated r.a r.name r.key r.b r.c r.declared r.effect_free))
sure_passes e s n w (CombinedMember r) a = ap (λ t. is_some (written e s t)) r.shape ∙ ap is_some (combined_member_passes r.operator r.combined r.computes r.name r.declared r.key r.b)
sure_passes e s n w (ObjectTestAfter r) a =
    let t : Tree = logical (joining (not r.there)) (ended (joining (not r.there)) r.before (null_compared r.strict (not r.there) r.name)) (asks_object r.there r.name) in
    ap (λ t. is_some (written e s t)) r.shape ∙ in_operands e s t (by_object e t (before_passes r.there r.strict r.before r.name r.declared))

own_passes : (e : ℕ) (s : Seat) (n w : Tree) → OwnRow n w → weight (Expr s) n < 2 ^ 64 → weight (Expr s) w < weight (Expr s) n → is_some (written e s n) ≡ true
own_passes e s n w (OrTest r) small less =
    let t : Tree = conditional (identifier r.name) (identifier r.name) r.b in
    let u : Tree = logical Or (identifier r.name) r.b in
    let same = ap (weight (Expr s)) r.shape in
    let made = ap (weight (Expr s)) r.written in
    ap (λ t. is_some (written e s t)) r.shape ∙ in_older e s t (older_consequent s t (both_true (same_tree (identifier r.name) (identifier r.name)) (branches.is_lighter s u t) (tree_itself (identifier r.name)) (lighter_test s u t (omega (arith, small, same)) (omega (arith, less, same, made)))))
own_passes e s n w (AndTest r) small less =
    let t : Tree = conditional (identifier r.name) r.b (identifier r.name) in
    let u : Tree = logical And (identifier r.name) r.b in
    let same = ap (weight (Expr s)) r.shape in
    let made = ap (weight (Expr s)) r.written in
    ap (λ t. is_some (written e s t)) r.shape ∙ in_older e s t (older_alternate s t (both_true (same_tree (identifier r.name) (identifier r.name)) (branches.is_lighter s u t) (tree_itself (identifier r.name)) (lighter_test s u t (omega (arith, small, same)) (omega (arith, less, same, made)))))

passes : (e : ℕ) (s : Seat) (n w : Tree) (r : ChoiceRow (Expr s) n w) → ChoiceIn e (Expr s) n w r → weight (Expr s) n < 2 ^ 64 → weight (Expr s) w < weight (Expr s) n → is_some (written e s n) ≡ true
passes e s n w (Shorter r) a small less = sure_passes e s n w r a
passes e s n w (TestedBranch r) a small less = own_passes e s n w r small less
passes e s n w (SharedBranch r) a small less = held_there e s n (held_passes s n w small less r)
passes e s n w (OptionalChain r) a small less = chain_there e s n a (chain_passes s n w r)
passes e s n w (ChainLink r) a small less = folded_there e s n (folded_passes s n w r)
passes e s n w (ChainEnd r) a small less = folded_there e s n (end_passes s n w r small less)
passes e s n w (BothSides r) a small less = both_there e s n w r (both_passes s n w r small less)
passes e s n w (ZeroFirst r) a small less = zero_there e s n w r (zero_passes s n w r small less)
passes e s n w (ChosenIndexed r) a small less =
    let t : Tree = computed_member (identifier r.name) r.key in
    let u : Tree = conditional r.a (assignment Assign t r.b) (assignment Assign t r.c) in
    ap (λ t. is_some (written e s t)) r.shape ∙ in_older e s u (older_indexed s u (indexed_passes true s n w r))
passes e s n w (JoinedCall r) a small less =
    let t : Tree = conditional r.a (call false r.callee (argument r.is_spread r.p ▸ r.others)) (call false r.callee (argument r.is_spread r.q ▸ r.others)) in
    ap (λ t. is_some (written e s t)) r.shape ∙ in_older e s t (older_called s t (called_passes true n w r))

pub unwritten_rests : UnwrittenRests
unwritten_rests e s n h small w c = absurd (cc (sym (passes e s n w c.0.row c.1 small c.0.lighter) ∙ ap is_some h))

pub applied : (o : CompressOptions) (s : Seat) (t u : Tree) (b : Bool) → u ≡ unwrap_or (written o.edition s t) t → b ≡ is_some (written o.edition s t) → Applied (Gives o) (Rests o) (Expr s) t u b
applied o s t u b e f = subst (λ v. Applied (Gives o) (Rests o) (Expr s) t v b) (sym e) (subst (Applied (Gives o) (Rests o) (Expr s) t (unwrap_or (written o.edition s t) t)) (sym f) (go (written o.edition s t) refl))
  where
    go : (made : Option Tree) → written o.edition s t ≡ made → Applied (Gives o) (Rests o) (Expr s) t (unwrap_or made t) (is_some made)
    go None h = (refl, unwritten_rests o.edition s t h)
    go (Some w) h = moves_once (Gives o) (Expr s) t w (written_is_row o.edition s t w h)

-- where the first of two rewrites writes something, that is all

first_stands : (a b : Option Tree) → true ≡ is_some a → first_of a b ≡ a
first_stands (Some w) b e = refl
first_stands None b e = absurd (cc e)

module _ (first second : Tree → Option Tree) (t u : Tree) (e : u ≡ unwrap_or (first t) t) (f : true ≡ is_some (first t)) where
  pub first_made : u ≡ unwrap_or (first_of (first t) (second t)) t
  first_made = e ∙ sym (ap (λ o. unwrap_or o t) (first_stands (first t) (second t) f))

  pub first_said : true ≡ is_some (first_of (first t) (second t))
  first_said = f ∙ sym (ap is_some (first_stands (first t) (second t) f))

-- where the first of two rewrites writes nothing, the second is tried on the same expression

none_written : (o : Option Tree) → false ≡ is_some o → o ≡ None
none_written None e = refl
none_written (Some w) e = absurd (cc e)

module _ (first second : Tree → Option Tree) (t u : Tree) (e : u ≡ unwrap_or (first t) t) (f : false ≡ is_some (first t)) where
  left_as_it_was : u ≡ t
  left_as_it_was = e ∙ ap (λ o. unwrap_or o t) (none_written (first t) f)

  pub second_written : second u ≡ first_of (first t) (second t)
  second_written = ap second left_as_it_was ∙ sym (ap (λ o. first_of o (second t)) (none_written (first t) f))

  pub second_made : unwrap_or (second u) u ≡ unwrap_or (first_of (first t) (second t)) t
  second_made = ap (λ o. unwrap_or o u) second_written ∙ ap (unwrap_or (first_of (first t) (second t))) left_as_it_was
