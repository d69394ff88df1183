-- A part of a sequence that is turned by De Morgan's laws is what a row says, and where none is no row makes the sequence lighter.
use Rattle.std.proofs.Common.{◌≡◌, ℕ, zero, suc, ◌<◌, ◌≤◌, Bool, true, false, refl, sym, ap, ◌∙◌, true≢false, arith}
use Rattle.std.specs.Prelude.{◌+◌, not, ◌&&◌, ◌||◌, nat_lt, Option, Some, None}
use Rattle.std.proofs.lemmas.Bool.{and_parts}
use borrow.Author.Tests.{ltb-true, ltb-false}
use Rattle.mini_model.specs.declared.operator.LogicalOperator.{LogicalOperator}
use Rattle.mini_model.specs.declared.place.Position.TheVariants.{Expr}
use Rattle.mini_model.specs.declared.seat.Seat.{Seat}
use Rattle.mini_model.specs.Paths.{append}
use Rattle.mini_model.specs.Tree.{Tree, Trees, none, ◌▸◌, count, children, child_or_absent, logical}
use Rattle.mini_model.specs.Position.{is_and_or, statement_expression_seat, passed_part_seat}
use Rattle.mini_model.specs.Terms.{turned}
use Rattle.mini_model.specs.Weight.{weight, capped}
use Rattle.mini_node.specs.Children.{part, with_child, rest_children}
use Rattle.mini_node.specs.Kinds.{logical_operator, is_logical, is_sequence, sequence}
use Rattle.mini_node.specs.Made.{logical_is, sequence_is}
use Rattle.mini_node.specs.Walks.{next_child}
use Rattle.mini_rows.specs.DeMorgan.{turned_logical, DeMorganContracts}
use Rattle.mini_rows.proofs.SequenceWeights.{part_changes, part_within}
use Rattle.mini_tree.specs.Rule.{Applied}
use Rattle.mini_tree.proofs.Reaching.{moves_once}
use Rattle.mini_logic.specs.DeMorganForVoidExpr.{turned_over, turns, turns_by, is_turned, turned_by, turns_before_last, with_turned, Gives, Rests}
use Rattle.mini_logic.proofs.DeMorganForVoidExpr.{made, made_same, row_same, not_so, asked, same_in_part, or_true}

pub put_twice : (ts : Trees) (i : ℕ) (x y : Tree) → with_child (with_child ts i x) i y ≡ with_child ts i y
put_twice none i x y = refl
put_twice (t ▸ ts) zero x y = refl
put_twice (t ▸ ts) (suc i) x y = ap (λ us. t ▸ us) (put_twice ts i x y)

pub still_within : (ts : Trees) (i : ℕ) (x : Tree) → i < count ts → i < count (with_child ts i x)
still_within none i x h = absurd (omega (arith, h))
still_within (t ▸ ts) zero x h = omega arith
still_within (t ▸ ts) (suc i) x h = let rest = still_within ts i x (omega (arith, h)) in omega (arith, rest)

-- ---- a part at a place, and what stands round it

record Split (ts : Trees) (i : ℕ) (y : Tree) : Type 0 where
  before : Trees
  next : Tree
  after : Trees
  is : ts ≡ append before (child_or_absent ts i ▸ (next ▸ after))
  put : with_child ts i y ≡ append before (y ▸ (next ▸ after))

split : (ts : Trees) (i : ℕ) (y : Tree) → i + 1 < count ts → Split ts i y
split none i y h = absurd (omega (arith, h))
split (t ▸ none) zero y h = absurd (omega (arith, h))
split (t ▸ none) (suc i) y h = absurd (omega (arith, h))
split (t ▸ (u ▸ us)) zero y h = record { before = none; next = u; after = us; is = refl; put = refl }
split (t ▸ (u ▸ us)) (suc i) y h = let r = split (u ▸ us) i y (omega (arith, h)) in record { before = t ▸ r.before; next = r.next; after = r.after; is = ap (λ vs. t ▸ vs) r.is; put = ap (λ vs. t ▸ vs) r.put }

-- ---- what turns

record Turned (o : LogicalOperator) (x : Tree) : Type 0 where
  tells : is_and_or o ≡ true
  apart : is_logical o (part x 1) ≡ false
  written : turned_over o x ≡ turned_logical o (part x 0) (part x 1)
  falls : weight (Expr passed_part_seat) (turned_over o x) < weight (Expr passed_part_seat) x

turned_is : (o : LogicalOperator) (x : Tree) → x ≡ logical o (part x 0) (part x 1) → turns o x ≡ true → Turned o x
turned_is o x is h =
    let (told, less) = and_parts (is_and_or o && not (is_logical o (part x 1))) _ h in
    let (tells, apart) = and_parts (is_and_or o) _ told in
    let falls = ltb-true _ _ less in
    let here = ap (weight (Expr passed_part_seat)) is in
    let there = ap (weight (Expr statement_expression_seat)) is in
    let same = same_in_part o (part x 0) (part x 1) in
    let other : weight (Expr passed_part_seat) (turned_over o x) ≡ weight (Expr statement_expression_seat) (turned_over o x) = same_in_part (turned o) _ _ in
    record {
      tells = tells;
      apart = not_so (is_logical o (part x 1)) apart;
      written = made_same o (part x 0) (part x 1) (omega (arith, falls));
      falls = omega (arith, falls, here, there, same, other);
    }

part_contracts : (s : Seat) (t : Tree) (i : ℕ) (o : LogicalOperator) → is_sequence t ≡ true → i + 1 < count (children (part t 0)) → logical_operator (child_or_absent (children (part t 0)) i) ≡ Some o → turns o (child_or_absent (children (part t 0)) i) ≡ true → DeMorganContracts (Expr s) t (sequence (with_turned i (children (part t 0))))
part_contracts s t i o is h k e =
    let ts : Trees = children (part t 0) in
    let x : Tree = child_or_absent ts i in
    let shaped = logical_is x o k in
    let u = turned_is o x shaped e in
    let r = split ts i (turned_over o x) h in
    let read : t ≡ sequence (append r.before (x ▸ (r.next ▸ r.after))) = sequence_is t is ∙ ap sequence r.is in
    let made : sequence (with_turned i ts) ≡ sequence (append r.before (turned_over o x ▸ (r.next ▸ r.after))) = ap (λ p. sequence (with_child ts i (turned_by p x))) k ∙ ap sequence r.put in
    let whole = ap (weight (Expr s)) read in
    let other = ap (weight (Expr s)) made in
    let change = part_changes s r.before x (turned_over o x) r.next r.after in
    let falls = u.falls in
    record {
      row = record {
        before = r.before;
        operator = o;
        a = part x 0;
        b = part x 1;
        next = r.next;
        after = r.after;
        tells = u.tells;
        apart = u.apart;
        shape = read ∙ ap (λ v. sequence (append r.before (v ▸ (r.next ▸ r.after)))) shaped;
        written = made ∙ ap (λ v. sequence (append r.before (v ▸ (r.next ▸ r.after)))) u.written;
      };
      lighter = omega (arith, whole, other, change, falls);
    }

pub part_applied : (s : Seat) (t : Tree) (i : ℕ) → is_sequence t ≡ true → i + 1 < count (children (part t 0)) → is_turned (child_or_absent (children (part t 0)) i) ≡ true → Applied Gives Rests (Expr s) t (sequence (with_turned i (children (part t 0)))) true
part_applied s t i is h e = go (logical_operator (child_or_absent (children (part t 0)) i)) refl e
  where
    go : (p : Option LogicalOperator) → logical_operator (child_or_absent (children (part t 0)) i) ≡ p → turns_by p (child_or_absent (children (part t 0)) i) ≡ true → Applied Gives Rests (Expr s) t (sequence (with_turned i (children (part t 0)))) true
    go (Some o) k e = moves_once Gives (Expr s) t (sequence (with_turned i (children (part t 0)))) (part_contracts s t i o is h k e)
    go None k e = absurd (true≢false (sym e))

-- ---- where no row makes it lighter

found : (before : Trees) (x q : Tree) (qs : Trees) → is_turned x ≡ true → turns_before_last (append before (x ▸ (q ▸ qs))) ≡ true
found none x q qs e = ap (λ b. b || turns_before_last (q ▸ qs)) e
found (u ▸ none) x q qs e = or_true (is_turned u) (turns_before_last (x ▸ (q ▸ qs))) (found none x q qs e)
found (u ▸ (v ▸ vs)) x q qs e = or_true (is_turned u) (turns_before_last (v ▸ append vs (x ▸ (q ▸ qs)))) (found (v ▸ vs) x q qs e)

lighter_turns : (o : LogicalOperator) (a b : Tree) → is_and_or o ≡ true → is_logical o b ≡ false → weight (Expr passed_part_seat) (turned_logical o a b) < weight (Expr passed_part_seat) (logical o a b) → weight (Expr passed_part_seat) (logical o a b) < 18446744073709551616 → is_turned (logical o a b) ≡ true
lighter_turns o a b h k less small =
    ap (λ c. c && nat_lt (capped (weight (Expr statement_expression_seat) (made o a b))) (capped (weight (Expr statement_expression_seat) (logical o a b)))) (asked o b h k)
    ∙ go (nat_lt (capped (weight (Expr statement_expression_seat) (made o a b))) (capped (weight (Expr statement_expression_seat) (logical o a b)))) refl
  where
    go : (c : Bool) → nat_lt (capped (weight (Expr statement_expression_seat) (made o a b))) (capped (weight (Expr statement_expression_seat) (logical o a b))) ≡ c → c ≡ true
    go true f = refl
    go false f =
        let here = same_in_part o a b in
        let there : weight (Expr passed_part_seat) (turned_logical o a b) ≡ weight (Expr statement_expression_seat) (turned_logical o a b) = same_in_part (turned o) _ _ in
        let same = ap (weight (Expr statement_expression_seat)) (row_same o a b (omega (arith, less, small, there))) in
        let heavy = ltb-false _ _ f in
        absurd (omega (arith, less, small, here, there, same, heavy))

pub not_sequence : (s : Seat) (t : Tree) → is_sequence t ≡ false → Rests (Expr s) t
not_sequence s t e small w c = true≢false (sym (ap is_sequence c.row.shape) ∙ e)

pub none_turns : (s : Seat) (t : Tree) → turns_before_last (children (part t 0)) ≡ false → Rests (Expr s) t
none_turns s t e small w c =
    let r = c.row in
    let x : Tree = logical r.operator r.a r.b in
    let y : Tree = turned_logical r.operator r.a r.b in
    let whole = ap (weight (Expr s)) r.shape in
    let other = ap (weight (Expr s)) r.written in
    let change = part_changes s r.before x y r.next r.after in
    let within = part_within s r.before x r.next r.after in
    let lighter = c.lighter in
    let turns_there = lighter_turns r.operator r.a r.b r.tells r.apart (omega (arith, whole, other, change, lighter)) (omega (arith, whole, within, small)) in
    true≢false (sym (found r.before x r.next r.after turns_there) ∙ sym (ap (λ u. turns_before_last (children (part u 0))) r.shape) ∙ e)

-- ---- a look for such a part

pub turn_stops : (ts : Trees) (i : ℕ) → i + 1 < count ts → is_turned (child_or_absent ts i) ≡ true → turns_before_last (rest_children i ts) ≡ turns_before_last ts → true ≡ turns_before_last ts
turn_stops ts i h e inv =
    sym (ap (λ b. b || turns_before_last (child_or_absent ts (suc i) ▸ rest_children (suc (suc i)) ts)) e)
    ∙ sym (ap turns_before_last (next_child ts i (omega (arith, h)) ∙ ap (λ us. child_or_absent ts i ▸ us) (next_child ts (suc i) (omega (arith, h)))))
    ∙ inv

pub turn_goes_on : (ts : Trees) (i : ℕ) → i + 1 < count ts → is_turned (child_or_absent ts i) ≡ false → turns_before_last (rest_children i ts) ≡ turns_before_last ts → turns_before_last (rest_children (i + 1) ts) ≡ turns_before_last ts
turn_goes_on ts i h e inv =
    let next : i + 1 ≡ suc i = omega arith in
    let second = next_child ts (suc i) (omega (arith, h)) in
    ap (λ k. turns_before_last (rest_children k ts)) next
    ∙ ap turns_before_last second
    ∙ sym (ap (λ b. b || turns_before_last (child_or_absent ts (suc i) ▸ rest_children (suc (suc i)) ts)) e)
    ∙ sym (ap turns_before_last (next_child ts i (omega (arith, h)) ∙ ap (λ us. child_or_absent ts i ▸ us) second))
    ∙ inv

pub turn_ends : (ts : Trees) (i : ℕ) → count ts ≤ i + 1 → turns_before_last (rest_children i ts) ≡ turns_before_last ts → false ≡ turns_before_last ts
turn_ends ts i h inv = sym (few (rest_children i ts) (at_most ts i h)) ∙ inv
  where
    few : (us : Trees) → count us ≤ 1 → turns_before_last us ≡ false
    few none k = refl
    few (u ▸ none) k = refl
    few (u ▸ (v ▸ vs)) k = absurd (omega (arith, k))

    at_most : (ts : Trees) (i : ℕ) → count ts ≤ i + 1 → count (rest_children i ts) ≤ 1
    at_most none i h = omega arith
    at_most (t ▸ ts) zero h = omega (arith, h)
    at_most (t ▸ ts) (suc i) h = at_most ts i (omega (arith, h))
