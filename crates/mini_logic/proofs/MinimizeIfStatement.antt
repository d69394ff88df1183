-- The rewrite is that of rows 82 and 83, and always lighter.
use Rattle.std.proofs.Common.{◌≡◌, ℕ, zero, ◌<◌, ◌≤◌, ◌^◌, Bool, true, false, refl, sym, ap, subst, ◌∙◌, inl, inr, arith, true≢false}
use borrow.Author.Tests.{ltb-true, ltb-false}
use Rattle.std.specs.Prelude.{◌⊎◌, ◌&&◌, ◌||◌, ◌==◌, not, nat_lt, Option, Some, None, is_some, unwrap_or, if◌then◌else◌}
use Rattle.std.proofs.lemmas.Bool.{and_parts, false≢true}
use Rattle.std.proofs.Math.Dec.{eqb-suc-zero}
use Rattle.mini_model.specs.declared.operator.LogicalOperator.TheVariants.{Or, And}
use Rattle.mini_model.specs.declared.operator.UnaryOperator.TheVariants.{LogicalNot}
use Rattle.mini_model.specs.declared.place.Position.TheVariants.{Expr, Stmt}
use Rattle.mini_model.specs.declared.seat.Seat.{Seat}
use Rattle.mini_model.specs.declared.seat.StmtSeat.{StmtSeat}
use Rattle.mini_model.specs.declared.shape.Shape.TheVariants as shape
use Rattle.mini_model.specs.Tree.{Tree, Trees, node, none, ◌▸◌, shape_of, count, children, negation, logical, expression_statement, if_else, if_alone}
use Rattle.mini_model.specs.Paths.{append}
use Rattle.mini_model.specs.Position.{statement_expression_seat, left_operand_seat, if_test_seat, not_operand_seat}
use Rattle.mini_model.specs.Weight.{weight, capped}
use Rattle.mini_model.specs.Terms.{neg, not_of, has_negated_result}
use Rattle.mini_model.specs.Redex.{Row82Else}
use Rattle.mini_node.specs.Children.{part}
use Rattle.mini_node.specs.Kinds.{is_empty_statement, is_block, is_absent_part, is_if_statement, is_if_alone, is_expression_statement, is_negation, sequence, is_sequence}
use Rattle.mini_node.specs.Made.{absent_is, empty_statement_is, block_is, if_statement_is, if_alone_is, expression_statement_is, negation_is, sequence_is}
use Rattle.mini_laws.proofs.Seats.{else_falls, moved}
use Rattle.mini_rows.specs.Lists.{block}
use Rattle.mini_rows.specs.Branches.{IsEmpty, is_other_branch, as_consequent, conjunct_seat, Row82Empty, Ending, not_of_all, after, with_not, without_not, Row83Alone, Row83Else, Row83Nested, Row83Block, IfRow}
use Rattle.mini_rows.specs.Turns.{is_unchained, is_block_shape, one_chooses, KeepsBraces, Row83Swapped}
use Rattle.mini_rows.proofs.BranchWeights.{branch_lighter}
use Rattle.mini_rows.proofs.TurnWeights.{turns_lighter}
use Rattle.mini_tree.specs.Rule.{Applied}
use Rattle.mini_tree.proofs.Reaching.{moves_once}
use Rattle.mini_logic.specs.Negating.{lighter_negation}
use Rattle.mini_logic.specs.Sequences.{ends_in_not, last_ends, end_bared, last_bared}
use Rattle.mini_logic.proofs.SequenceEnds.{bared_here}
use Rattle.mini_logic.specs.MinimizeIfStatement.{chooses, guards, is_empty, has_empty_consequent, skips, only_tests, is_weighed, turns, nests, is_bare, holds_choice, keeps_braces, swaps, choice, conjunction, disjunction, disjunct_seat, guard, skipped, turned, nested, in_block, swapped, written, IsRow, Gives, Rests}
use Rattle.mini_logic.proofs.Seats.{left_or_falls, left_and_falls, right_and_falls, right_or_falls}

-- ---- the negation of a `!` is never heavier there than another `!` before it, so it is the lighter one of both

disjunct_falls : (a : Tree) → has_negated_result a ≡ true → weight (Expr disjunct_seat) (neg disjunct_seat a) ≤ weight (Expr disjunct_seat) (negation a)
disjunct_falls (node (shape.UnaryExpression LogicalNot) xs n none) e = omega arith
disjunct_falls (node (shape.UnaryExpression LogicalNot) xs n (a ▸ none)) e = let falls = left_or_falls a in omega (arith, falls)
disjunct_falls (node (shape.UnaryExpression LogicalNot) xs n (a ▸ b ▸ ts)) e = omega arith
disjunct_falls t e = absurd (false≢true e)

conjunct_falls : (a : Tree) → has_negated_result a ≡ true → weight (Expr conjunct_seat) (neg conjunct_seat a) ≤ weight (Expr conjunct_seat) (negation a)
conjunct_falls (node (shape.UnaryExpression LogicalNot) xs n none) e = omega arith
conjunct_falls (node (shape.UnaryExpression LogicalNot) xs n (a ▸ none)) e = let falls = left_and_falls a in omega (arith, falls)
conjunct_falls (node (shape.UnaryExpression LogicalNot) xs n (a ▸ b ▸ ts)) e = omega arith
conjunct_falls t e = absurd (false≢true e)

lighter_one : (m n : Tree) (a b : ℕ) → b ≤ a → (if nat_lt a b then m else n) ≡ n
lighter_one m n a b h = go (nat_lt a b) refl
  where
    go : (c : Bool) → nat_lt a b ≡ c → (if c then m else n) ≡ n
    go true e = absurd (omega (arith, h, ltb-true a b e))
    go false e = refl

not_is : (s : Seat) (a : Tree) → weight (Expr s) (neg s a) ≤ weight (Expr s) (negation a) → not_of s a ≡ neg s a
not_is s a h = lighter_one (negation a) (neg s a) (weight (Expr s) (negation a)) (weight (Expr s) (neg s a)) h

-- and where the weight of `!a` fits 64 bits, that of its negation is as heavy as it seems
lighter_is : (s : Seat) (a : Tree) → capped (weight (Expr s) (negation a)) < 18446744073709551615 → lighter_negation s a ≡ not_of s a
lighter_is s a h = ap (λ c. if c then negation a else neg s a) (same (weight (Expr s) (negation a)) (weight (Expr s) (neg s a)) h)
  where
    same : (m n : ℕ) → capped m < 18446744073709551615 → nat_lt (capped m) (capped n) ≡ nat_lt m n
    same m n h = go (nat_lt (capped m) (capped n)) (nat_lt m n) refl refl
      where
        go : (b c : Bool) → nat_lt (capped m) (capped n) ≡ b → nat_lt m n ≡ c → b ≡ c
        go true true e f = refl
        go false false e f = refl
        go true false e f = absurd (omega (arith, h, ltb-true (capped m) (capped n) e, ltb-false m n f))
        go false true e f = absurd (omega (arith, h, ltb-false (capped m) (capped n) e, ltb-true m n f))

-- ---- what a test says

alone : (t : Tree) → guards t ≡ true → t ≡ if_alone (part t 0) (expression_statement (part (part t 1) 0))
alone t e =
    let (is, first) = and_parts (is_if_alone t) (is_expression_statement (part t 1)) e in
    if_alone_is t is ∙ ap (if_alone (part t 0)) (expression_statement_is (part t 1) first)

no_statement : (ts : Trees) → (count ts == zero) ≡ true → ts ≡ none
no_statement none e = refl
no_statement (t ▸ ts) e = absurd (true≢false (sym e ∙ eqb-suc-zero (count ts)))

either_one : (a b : Bool) → (a || b) ≡ true → (a ≡ true) ⊎ (b ≡ true)
either_one true b e = inl refl
either_one false b e = inr e

empty_is : (t : Tree) → is_empty t ≡ true → IsEmpty t
empty_is t e = go (either_one (is_empty_statement t) (is_block t && (count (children (part t 0)) == zero)) e)
  where
    go : (is_empty_statement t ≡ true) ⊎ ((is_block t && (count (children (part t 0)) == zero)) ≡ true) → IsEmpty t
    go (inl f) = inl (empty_statement_is t f)
    go (inr f) = let (is, nothing) = and_parts (is_block t) (count (children (part t 0)) == zero) f in inr (block_is t is ∙ ap block (no_statement (children (part t 0)) nothing))

emptied : (t : Tree) → has_empty_consequent t ≡ true → (t ≡ if_else (part t 0) (part t 1) (part t 2)) × IsEmpty (part t 1)
emptied t e = let (is, nothing) = and_parts (is_if_statement t) (is_empty (part t 1)) e in (if_statement_is t is, empty_is (part t 1) nothing)

-- ---- what is written is what a row writes

follows_else : (t : Tree) → chooses t ≡ true → Row82Else t (choice t)
follows_else t e =
    let (is, branches) = and_parts (is_if_statement t) (is_expression_statement (part t 1) && is_expression_statement (part t 2)) e in
    let (first, second) = and_parts (is_expression_statement (part t 1)) (is_expression_statement (part t 2)) branches in
    record {
      a = part t 0;
      b = part (part t 1) 0;
      c = part (part t 2) 0;
      shape = if_statement_is t is ∙ ap (λ b. if_else (part t 0) b (part t 2)) (expression_statement_is (part t 1) first) ∙ ap (if_else (part t 0) (expression_statement (part (part t 1) 0))) (expression_statement_is (part t 2) second);
      written = refl;
    }

-- a test that ends in a `!`, without it
record Found (t : Tree) : Type 0 where
  end : Ending
  is : t ≡ with_not end
  without : end_bared t ≡ without_not end

record FoundLast (us : Trees) : Type 0 where
  before : Trees
  end : Ending
  is : us ≡ append before (with_not end ▸ none)
  without : last_bared us ≡ append before (without_not end ▸ none)

never : (ts : Trees) (t : Tree) → none ≡ append ts (t ▸ none) → ⊥
never none t e = cc e
never (u ▸ ts) t e = cc e

bared_in : (u : Tree) (us : Trees) (f : FoundLast us) → end_bared (sequence (u ▸ us)) ≡ without_not (after u f.before f.end)
bared_in u none f = absurd (never f.before (with_not f.end) f.is)
bared_in u (v ▸ us) f = ap (λ x. sequence (u ▸ x)) f.without

found_in : (t u : Tree) (us : Trees) → is_sequence t ≡ true → children (part t 0) ≡ (u ▸ us) → FoundLast us → Found t
found_in t u us k h f =
    let whole : t ≡ sequence (u ▸ us) = sequence_is t k ∙ ap sequence h in
    record { end = after u f.before f.end; is = whole ∙ ap (λ x. sequence (u ▸ x)) f.is; without = ap end_bared whole ∙ bared_in u us f }

found_not : (t : Tree) → is_sequence t ≡ false → is_negation t ≡ true → Found t
found_not t k f = record { end = not_of_all (part t 0); is = negation_is t f; without = bared_here t k }

by_kind : (t : Tree) (x : Bool) → (is_sequence t ≡ true → x ≡ true → Found t) → (b : Bool) → is_sequence t ≡ b → (if b then x else is_negation t) ≡ true → Found t
by_kind t x h true k f = h k f
by_kind t x h false k f = found_not t k f

mutual
  found : (t : Tree) → ends_in_not t ≡ true → Found t
  found (node h xs n none) e = by_kind (node h xs n none) false (λ k f. absurd (true≢false (sym f))) (is_sequence (node h xs n none)) refl e
  found (node h xs n (node g ys m none ▸ ts)) e =
      by_kind (node h xs n (node g ys m none ▸ ts)) false (λ k f. absurd (true≢false (sym f))) (is_sequence (node h xs n (node g ys m none ▸ ts))) refl e
  found (node h xs n (node g ys m (u ▸ us) ▸ ts)) e =
      by_kind (node h xs n (node g ys m (u ▸ us) ▸ ts)) (last_ends us) (λ k f. found_in (node h xs n (node g ys m (u ▸ us) ▸ ts)) u us k refl (found_last us f)) (is_sequence (node h xs n (node g ys m (u ▸ us) ▸ ts))) refl e

  found_last : (us : Trees) → last_ends us ≡ true → FoundLast us
  found_last none e = absurd (true≢false (sym e))
  found_last (u ▸ none) e = let f = found u e in record { before = none; end = f.end; is = ap (λ x. x ▸ none) f.is; without = ap (λ x. x ▸ none) f.without }
  found_last (u ▸ (v ▸ us)) e = let f = found_last (v ▸ us) e in record { before = u ▸ f.before; end = f.end; is = ap (λ x. u ▸ x) f.is; without = ap (λ x. u ▸ x) f.without }

-- a sequence, where it is no `!` itself
record FoundAfter (t : Tree) : Type 0 where
  first : Tree
  others : Trees
  last : Ending
  is : t ≡ with_not (after first others last)
  without : end_bared t ≡ without_not (after first others last)

found_after : (t : Tree) → has_negated_result t ≡ false → ends_in_not t ≡ true → FoundAfter t
found_after t h e = by (found t e)
  where
    by_end : (c : Ending) → t ≡ with_not c → end_bared t ≡ without_not c → FoundAfter t
    by_end (not_of_all a) f g = absurd (true≢false (sym (ap has_negated_result f) ∙ h))
    by_end (after p ps c) f g = record { first = p; others = ps; last = c; is = f; without = g }

    by : Found t → FoundAfter t
    by f = by_end f.end f.is f.without

follows_guard : (t : Tree) → guards t ≡ true → IsRow t (guard t)
follows_guard t e = go (has_negated_result (part t 0)) refl
  where
    more : has_negated_result (part t 0) ≡ false → (d : Bool) → ends_in_not (part t 0) ≡ d → IsRow t (if d then disjunction (end_bared (part t 0)) (part t 1) else conjunction (part t 0) (part t 1))
    more h true k = let f = found_after (part t 0) h k in
        inr (inl (inr (inr (inl (record { first = f.first; others = f.others; last = f.last; b = part (part t 1) 0; shape = alone t e ∙ ap (λ a. if_alone a (expression_statement (part (part t 1) 0))) f.is; written = ap (λ a. expression_statement (logical Or a (part (part t 1) 0))) f.without })))))
    more h false k = inl (inr (inl (record { a = part t 0; b = part (part t 1) 0; shape = alone t e; plain = h; written = refl })))

    go : (c : Bool) → has_negated_result (part t 0) ≡ c → IsRow t (if c then disjunction (neg disjunct_seat (part t 0)) (part t 1) else (if ends_in_not (part t 0) then disjunction (end_bared (part t 0)) (part t 1) else conjunction (part t 0) (part t 1)))
    go true h = inl (inr (inr (record { a = part t 0; b = part (part t 1) 0; shape = alone t e; negated = h; written = ap (λ a. expression_statement (logical Or a (part (part t 1) 0))) (sym (not_is disjunct_seat (part t 0) (disjunct_falls (part t 0) h))) })))
    go false h = more h (ends_in_not (part t 0)) refl

follows_skip : (t : Tree) → skips t ≡ true → IsRow t (skipped t)
follows_skip t e = go (has_negated_result (part t 0)) refl
  where
    tests : (has_empty_consequent t ≡ true) × (is_expression_statement (part t 2) ≡ true)
    tests = and_parts (has_empty_consequent t) (is_expression_statement (part t 2)) e

    is : t ≡ if_else (part t 0) (part t 1) (expression_statement (part (part t 2) 0))
    is = (emptied t tests.0).0 ∙ ap (if_else (part t 0) (part t 1)) (expression_statement_is (part t 2) tests.1)

    more : has_negated_result (part t 0) ≡ false → (d : Bool) → ends_in_not (part t 0) ≡ d → IsRow t (if d then conjunction (end_bared (part t 0)) (part t 2) else disjunction (part t 0) (part t 2))
    more h true k = let f = found_after (part t 0) h k in
        inr (inl (inr (inr (inr (record { first = f.first; others = f.others; last = f.last; empty = part t 1; b = part (part t 2) 0; is_empty = (emptied t tests.0).1; shape = is ∙ ap (λ a. if_else a (part t 1) (expression_statement (part (part t 2) 0))) f.is; written = ap (λ a. expression_statement (logical And a (part (part t 2) 0))) f.without })))))
    more h false k = inr (inl (inl (inl (record { a = part t 0; empty = part t 1; b = part (part t 2) 0; is_empty = (emptied t tests.0).1; plain = h; shape = is; written = refl }))))

    go : (c : Bool) → has_negated_result (part t 0) ≡ c → IsRow t (if c then conjunction (neg conjunct_seat (part t 0)) (part t 2) else (if ends_in_not (part t 0) then conjunction (end_bared (part t 0)) (part t 2) else disjunction (part t 0) (part t 2)))
    go true h = inr (inl (inl (inr (record { a = part t 0; empty = part t 1; b = part (part t 2) 0; is_empty = (emptied t tests.0).1; negated = h; shape = is; written = ap (λ a. expression_statement (logical And a (part (part t 2) 0))) (sym (not_is conjunct_seat (part t 0) (conjunct_falls (part t 0) h))) }))))
    go false h = more h (ends_in_not (part t 0)) refl

follows_test : (t : Tree) → only_tests t ≡ true → Row83Alone t (expression_statement (part t 0))
follows_test t e =
    let (empty, nothing) = and_parts (has_empty_consequent t) (is_absent_part (part t 2)) e in
    record { a = part t 0; empty = part t 1; is_empty = (emptied t empty).1; shape = (emptied t empty).0 ∙ ap (if_else (part t 0) (part t 1)) (absent_is (part t 2) nothing); written = refl }

follows_turn : (t : Tree) → turns t ≡ true → Row83Else t (turned t)
follows_turn t e =
    let (empty, rest) = and_parts (has_empty_consequent t) (is_other_branch (part t 2) && is_weighed (part t 0)) e in
    let (other, weighed) = and_parts (is_other_branch (part t 2)) (is_weighed (part t 0)) rest in
    record {
      a = part t 0;
      empty = part t 1;
      u = part t 2;
      is_empty = (emptied t empty).1;
      other = other;
      shape = (emptied t empty).0;
      written = ap (λ a. if_alone a (as_consequent (part t 2))) (lighter_is if_test_seat (part t 0) (ltb-true _ _ weighed));
    }

follows_nest : (t : Tree) → nests t ≡ true → Row83Nested t (nested t)
follows_nest t e =
    let (outer, inner) = and_parts (is_if_alone t) (is_if_alone (part t 1)) e in
    record { a = part t 0; b = part (part t 1) 0; s = part (part t 1) 1; shape = if_alone_is t outer ∙ ap (if_alone (part t 0)) (if_alone_is (part t 1) inner); written = refl }

follows_bare : (t : Tree) → is_bare t ≡ true → Row83Block t (in_block t)
follows_bare t e =
    let (is, has) = and_parts (is_if_statement t) _ e in
    record { a = part t 0; c = part t 1; u = part t 2; chooses = has; shape = if_statement_is t is; written = refl }

-- the braces of what becomes the alternate

not_true : (b : Bool) → not b ≡ true → b ≡ false
not_true true e = absurd (true≢false (sym e))
not_true false e = refl

one_is : (ts : Trees) → holds_choice (block ts) ≡ one_chooses ts
one_is none = refl
one_is (t ▸ none) = refl
one_is (t ▸ (u ▸ ts)) = refl

braces_are : (t : Tree) → keeps_braces t ≡ true → KeepsBraces t
braces_are t e = go (either_one (not (is_block_shape (shape_of t))) (is_block t && not (holds_choice t)) e)
  where
    go : (not (is_block_shape (shape_of t)) ≡ true) ⊎ ((is_block t && not (holds_choice t)) ≡ true) → KeepsBraces t
    go (inl f) = inl (not_true (is_block_shape (shape_of t)) f)
    go (inr f) =
        let (block, other) = and_parts (is_block t) (not (holds_choice t)) f in
        let is = block_is t block in
        inr (record { statements = children (part t 0); is = is; other = sym (one_is (children (part t 0))) ∙ sym (ap holds_choice is) ∙ not_true (holds_choice t) other })

read_braces : (t : Tree) → KeepsBraces t → keeps_braces t ≡ true
read_braces t (inl e) = ap (λ b. not b || (is_block t && not (holds_choice t))) e
read_braces t (inr r) = ap keeps_braces r.is ∙ ap not (one_is r.statements ∙ r.other)

follows_swap : (t : Tree) → swaps t ≡ true → Row83Swapped t (swapped t)
follows_swap t e =
    let (is, rest) = and_parts (is_if_statement t) (is_negation (part t 0) && (is_other_branch (part t 1) && (keeps_braces (part t 1) && is_unchained (part t 2)))) e in
    let (negated, branches) = and_parts (is_negation (part t 0)) (is_other_branch (part t 1) && (keeps_braces (part t 1) && is_unchained (part t 2))) rest in
    let (other, last) = and_parts (is_other_branch (part t 1)) (keeps_braces (part t 1) && is_unchained (part t 2)) branches in
    let (braces, unchained) = and_parts (keeps_braces (part t 1)) (is_unchained (part t 2)) last in
    record {
      a = part (part t 0) 0;
      s = part t 1;
      u = part t 2;
      other = other;
      braces = braces_are (part t 1) braces;
      unchained = unchained;
      shape = if_statement_is t is ∙ ap (λ a. if_else a (part t 1) (part t 2)) (negation_is (part t 0) negated);
      written = refl;
    }

-- ---- one of some choices

taken : (b : Bool) (x w : Tree) (o : Option Tree) → (if b then Some x else o) ≡ Some w → ((b ≡ true) × (x ≡ w)) ⊎ (o ≡ Some w)
taken true x w o e = inl (refl, cc e)
taken false x w o e = inr e

passed : (b : Bool) (x : Tree) (o : Option Tree) → (if b then Some x else o) ≡ None → (b ≡ false) × (o ≡ None)
passed true x o e = absurd (cc e)
passed false x o e = (refl, e)

abbrev swap_or : Tree → Option Tree
swap_or t = if swaps t then Some (swapped t) else None

abbrev bare_or : Tree → Option Tree
bare_or t = if is_bare t then Some (in_block t) else swap_or t

abbrev nest_or : Tree → Option Tree
nest_or t = if nests t then Some (nested t) else bare_or t

abbrev turn_or : Tree → Option Tree
turn_or t = if turns t then Some (turned t) else nest_or t

abbrev test_or : Tree → Option Tree
test_or t = if only_tests t then Some (expression_statement (part t 0)) else turn_or t

abbrev skip_or : Tree → Option Tree
skip_or t = if skips t then Some (skipped t) else test_or t

abbrev guard_or : Tree → Option Tree
guard_or t = if guards t then Some (guard t) else skip_or t

module _ (t w : Tree) where
  as_is : (x : Tree) (R : Tree → Tree → Type 0) → R t x → x ≡ w → R t w
  as_is x R r e = subst (R t) e r

  swap_follows : swap_or t ≡ Some w → IsRow t w
  swap_follows e = go (taken (swaps t) (swapped t) w None e)
    where
      go : ((swaps t ≡ true) × (swapped t ≡ w)) ⊎ (None ≡ Some w) → IsRow t w
      go (inl x) = inr (inr (as_is (swapped t) Row83Swapped (follows_swap t x.0) x.1))
      go (inr x) = absurd (cc x)

  bare_follows : bare_or t ≡ Some w → IsRow t w
  bare_follows e = go (taken (is_bare t) (in_block t) w (swap_or t) e)
    where
      go : ((is_bare t ≡ true) × (in_block t ≡ w)) ⊎ (swap_or t ≡ Some w) → IsRow t w
      go (inl x) = inr (inl (inr (inl (inr (inr (inr (as_is (in_block t) Row83Block (follows_bare t x.0) x.1)))))))
      go (inr x) = swap_follows x

  nest_follows : nest_or t ≡ Some w → IsRow t w
  nest_follows e = go (taken (nests t) (nested t) w (bare_or t) e)
    where
      go : ((nests t ≡ true) × (nested t ≡ w)) ⊎ (bare_or t ≡ Some w) → IsRow t w
      go (inl x) = inr (inl (inr (inl (inr (inr (inl (as_is (nested t) Row83Nested (follows_nest t x.0) x.1)))))))
      go (inr x) = bare_follows x

  turn_follows : turn_or t ≡ Some w → IsRow t w
  turn_follows e = go (taken (turns t) (turned t) w (nest_or t) e)
    where
      go : ((turns t ≡ true) × (turned t ≡ w)) ⊎ (nest_or t ≡ Some w) → IsRow t w
      go (inl x) = inr (inl (inr (inl (inr (inl (as_is (turned t) Row83Else (follows_turn t x.0) x.1))))))
      go (inr x) = nest_follows x

  test_follows : test_or t ≡ Some w → IsRow t w
  test_follows e = go (taken (only_tests t) (expression_statement (part t 0)) w (turn_or t) e)
    where
      go : ((only_tests t ≡ true) × (expression_statement (part t 0) ≡ w)) ⊎ (turn_or t ≡ Some w) → IsRow t w
      go (inl x) = inr (inl (inr (inl (inl (as_is (expression_statement (part t 0)) Row83Alone (follows_test t x.0) x.1)))))
      go (inr x) = turn_follows x

  skip_follows : skip_or t ≡ Some w → IsRow t w
  skip_follows e = go (taken (skips t) (skipped t) w (test_or t) e)
    where
      go : ((skips t ≡ true) × (skipped t ≡ w)) ⊎ (test_or t ≡ Some w) → IsRow t w
      go (inl x) = as_is (skipped t) IsRow (follows_skip t x.0) x.1
      go (inr x) = test_follows x

  guard_follows : guard_or t ≡ Some w → IsRow t w
  guard_follows e = go (taken (guards t) (guard t) w (skip_or t) e)
    where
      go : ((guards t ≡ true) × (guard t ≡ w)) ⊎ (skip_or t ≡ Some w) → IsRow t w
      go (inl x) = as_is (guard t) IsRow (follows_guard t x.0) x.1
      go (inr x) = skip_follows x

  pub follows : written t ≡ Some w → IsRow t w
  follows e = go (taken (chooses t) (choice t) w (guard_or t) e)
    where
      go : ((chooses t ≡ true) × (choice t ≡ w)) ⊎ (guard_or t ≡ Some w) → IsRow t w
      go (inl x) = inl (inl (as_is (choice t) Row82Else (follows_else t x.0) x.1))
      go (inr x) = guard_follows x

-- ---- where nothing is written no row reads it

-- no test says yes
record Passed (t : Tree) : Type 0 where
  chooses : chooses t ≡ false
  guards : guards t ≡ false
  skips : skips t ≡ false
  only_tests : only_tests t ≡ false
  turns : turns t ≡ false
  nests : nests t ≡ false
  is_bare : is_bare t ≡ false
  swaps : swaps t ≡ false

all_passed : (t : Tree) → written t ≡ None → Passed t
all_passed t e =
    let (a, f) = passed (chooses t) (choice t) (guard_or t) e in
    let (b, g) = passed (guards t) (guard t) (skip_or t) f in
    let (c, h) = passed (skips t) (skipped t) (test_or t) g in
    let (d, i) = passed (only_tests t) (expression_statement (part t 0)) (turn_or t) h in
    let (k, j) = passed (turns t) (turned t) (nest_or t) i in
    let (l, m) = passed (nests t) (nested t) (bare_or t) j in
    let (n, o) = passed (is_bare t) (in_block t) (swap_or t) m in
    let (r, s) = passed (swaps t) (swapped t) None o in
    record { chooses = a; guards = b; skips = c; only_tests = d; turns = k; nests = l; is_bare = n; swaps = r }

read_empty : (c : Tree) → IsEmpty c → is_empty c ≡ true
read_empty c (inl e) = ap is_empty e
read_empty c (inr e) = ap is_empty e

not_both : (t : Tree) (f : Tree → Bool) (n : Tree) → f t ≡ false → t ≡ n → f n ≡ true → ⊥
not_both t f n e s g = true≢false (sym g ∙ sym (ap f s) ∙ e)

empty_missed : (t w : Tree) → Passed t → Row82Empty t w → ⊥
empty_missed t w e (inl r) = not_both t skips _ e.skips r.shape (ap (λ b. b && true) (read_empty r.empty r.is_empty))
empty_missed t w e (inr r) = not_both t skips _ e.skips r.shape (ap (λ b. b && true) (read_empty r.empty r.is_empty))

-- where the whole fits 64 bits, so does the weight of `!a`
fits_below : (q : StmtSeat) (a c u : Tree) → IsEmpty c → weight (Stmt q) (if_else a c u) < 2 ^ 64 → is_other_branch u ≡ true → is_weighed a ≡ true
fits_below q a c u h small o = go (is_weighed a) refl
  where
    go : (b : Bool) → is_weighed a ≡ b → b ≡ true
    go true e = refl
    go false e =
        let heavy = ltb-false (capped (weight (Expr if_test_seat) (negation a))) 18446744073709551615 e in
        let test = moved not_operand_seat if_test_seat refl a in
        absurd (omega (arith, heavy, test, small))

branch_missed : (q : StmtSeat) (t w : Tree) → Passed t → weight (Stmt q) t < 2 ^ 64 → IfRow t w → ⊥
branch_missed q t w e small (inl r) = empty_missed t w e r
branch_missed q t w e small (inr (inl (inl r))) = not_both t only_tests _ e.only_tests r.shape (ap (λ b. b && true) (read_empty r.empty r.is_empty))
branch_missed q t w e small (inr (inl (inr (inl r)))) =
    let fit = fits_below q r.a r.empty r.u r.is_empty (subst (λ n. weight (Stmt q) n < 2 ^ 64) r.shape small) r.other in
    not_both t turns _ e.turns r.shape (ap (λ b. b && (is_other_branch r.u && is_weighed r.a)) (read_empty r.empty r.is_empty) ∙ ap (λ b. b && is_weighed r.a) r.other ∙ fit)
branch_missed q t w e small (inr (inl (inr (inr (inl r))))) = not_both t nests _ e.nests r.shape refl
branch_missed q t w e small (inr (inl (inr (inr (inr r))))) = not_both t is_bare _ e.is_bare r.shape r.chooses
branch_missed q t w e small (inr (inr (inl r))) = not_both t guards _ e.guards r.shape refl
branch_missed q t w e small (inr (inr (inr r))) = not_both t skips _ e.skips r.shape (ap (λ b. b && true) (read_empty r.empty r.is_empty))

swap_missed : (t w : Tree) → Passed t → Row83Swapped t w → ⊥
swap_missed t w e r =
    not_both t swaps _ e.swaps r.shape
    (ap (λ b. b && (keeps_braces r.s && is_unchained r.u)) r.other ∙ ap (λ b. b && is_unchained r.u) (read_braces r.s r.braces) ∙ r.unchained)

pub misses : (q : StmtSeat) (t w : Tree) → written t ≡ None → weight (Stmt q) t < 2 ^ 64 → IsRow t w → ⊥
misses q t w e small (inl (inl r)) = not_both t chooses _ (all_passed t e).chooses r.shape refl
misses q t w e small (inl (inr (inl r))) = not_both t guards _ (all_passed t e).guards r.shape refl
misses q t w e small (inl (inr (inr r))) = not_both t guards _ (all_passed t e).guards r.shape refl
misses q t w e small (inr (inl r)) = branch_missed q t w (all_passed t e) small r
misses q t w e small (inr (inr r)) = swap_missed t w (all_passed t e) r

-- ---- lighter

and_lighter : (q : StmtSeat) (a b : Tree) → weight (Stmt q) (expression_statement (logical And a b)) < weight (Stmt q) (if_alone a (expression_statement b))
and_lighter q a b =
    let left = moved (left_operand_seat And statement_expression_seat) if_test_seat refl a in
    let right = right_and_falls b in
    omega (arith, left, right)

same_negation : (a : Tree) → has_negated_result a ≡ true → weight (Expr not_operand_seat) a ≡ weight (Expr if_test_seat) a
same_negation (node (shape.UnaryExpression LogicalNot) xs n ts) e = omega arith
same_negation t e = absurd (false≢true e)

or_lighter : (q : StmtSeat) (a b : Tree) → has_negated_result a ≡ true → weight (Stmt q) (expression_statement (logical Or (neg disjunct_seat a) b)) < weight (Stmt q) (if_alone a (expression_statement b))
or_lighter q a b e =
    let left = disjunct_falls a e in
    let negated = same_negation a e in
    let right = right_or_falls b in
    omega (arith, left, negated, right)

pub row_lighter : (q : StmtSeat) (t w : Tree) → IsRow t w → weight (Stmt q) w < weight (Stmt q) t
row_lighter q t w (inl (inl r)) = omega (arith, else_falls q r.a r.b r.c, ap (weight (Stmt q)) r.shape, ap (weight (Stmt q)) r.written)
row_lighter q t w (inl (inr (inl r))) = omega (arith, and_lighter q r.a r.b, ap (weight (Stmt q)) r.shape, ap (weight (Stmt q)) r.written)
row_lighter q t w (inl (inr (inr r))) =
    let made = r.written ∙ ap (λ a. expression_statement (logical Or a r.b)) (not_is disjunct_seat r.a (disjunct_falls r.a r.negated)) in
    omega (arith, or_lighter q r.a r.b r.negated, ap (weight (Stmt q)) r.shape, ap (weight (Stmt q)) made)
row_lighter q t w (inr (inl r)) = branch_lighter (Stmt q) t w (inr (inr r))
row_lighter q t w (inr (inr r)) = turns_lighter (Stmt q) t w r

pub applied : (q : StmtSeat) (t u : Tree) (b : Bool) → u ≡ unwrap_or (written t) t → b ≡ is_some (written t) → Applied Gives Rests (Stmt q) t u b
applied q t u b e f = subst (λ v. Applied Gives Rests (Stmt q) t v b) (sym e) (subst (Applied Gives Rests (Stmt q) t (unwrap_or (written t) t)) (sym f) (go (written t) refl))
  where
    go : (o : Option Tree) → written t ≡ o → Applied Gives Rests (Stmt q) t (unwrap_or o t) (is_some o)
    go None h = (refl, λ small w r. misses q t w h small r)
    go (Some w) h = let is = follows t w h in moves_once Gives (Stmt q) t w (is, row_lighter q t w is)
