-- What is written for booleans is what a row says, and where nothing is written no row makes the expression lighter.
use Rattle.std.proofs.Common.{◌≡◌, ◌<◌, ◌≤◌, ◌^◌, ℤ, pos, Bool, true, false, refl, sym, ap, subst, ◌∙◌, inl, inr, arith}
use Rattle.std.specs.Prelude.{zero, suc, ◌&&◌, ◌||◌, not, nat_lt, Option, Some, None, is_some, unwrap_or, Result, OnOk, IfOk, if◌then◌else◌}
use Rattle.std.proofs.lemmas.Bool.{and_parts}
use Rattle.std.proofs.lemmas.Option.{none-some}
use borrow.Author.Tests.{ltb-true, ltb-false}
use Rattle.mini_model.specs.declared.memory.OutOfMemory.{OutOfMemory}
use Rattle.mini_model.specs.declared.operator.LogicalOperator.{LogicalOperator}
use Rattle.mini_model.specs.declared.operator.UnaryOperator.TheVariants.{LogicalNot}
use Rattle.mini_model.specs.declared.place.Position.TheVariants.{Expr}
use Rattle.mini_model.specs.declared.seat.Seat.{Seat}
use Rattle.mini_model.specs.declared.shape.Shape.{Shape}
use Rattle.mini_model.specs.declared.shape.Shape.TheVariants as shape
use Rattle.mini_model.specs.Tree.{Tree, shape_of, negation, logical, conditional}
use Rattle.mini_model.specs.Position.{is_and_or, left_operand_seat}
use Rattle.mini_model.specs.Terms.{neg}
use Rattle.mini_model.specs.Weight.{weight, capped}
use Rattle.mini_node.specs.Children.{part}
use Rattle.mini_node.specs.Kinds.{number, logical_operator, is_negation, is_conditional}
use Rattle.mini_node.specs.Made.{negation_is, number_is, logical_is, conditional_is}
use Rattle.mini_terms.specs.Evident.{evident_truth}
use Rattle.mini_terms.specs.Folds.{is_effect_free, goes_on}
use Rattle.mini_terms.specs.Kind.{kind}
use Rattle.mini_terms.specs.Parts.{leaves_nothing, weighs}
use Rattle.mini_terms.specs.Reading.{is_plain_part}
use Rattle.mini_rows.specs.Spellings.{negated_digit}
use Rattle.mini_rows.specs.Booleans as row
use Rattle.mini_rows.specs.Booleans.{digit, is_boolean_kind, chosen, giving, is_turned, plus, plus_seat, Row24, Row25, KnownBranch, BooleanRow, BooleanContracts}
use Rattle.mini_rows.proofs.BooleanWeights.{lighter}
use Rattle.mini_tree.specs.Rule.{Applied}
use Rattle.mini_tree.proofs.Reaching.{moves_once}
use Rattle.mini_logic.specs.MinimizeExpressionInBooleanContext.{negated_truth, digit_of, digit_written, is_told, left_written, known_truth, branch_at, may_join, tested, joined, joined_of, joins, branch_by, branch_written, branches_written, boolean_truth, opposite, told_truth, digit_truth, counted_truth, as_boolean, is_lighter, truth_by, truth_written, number_by, number_written, either, conditional_written, written_by, written, Gives, Rests, WrittenIsRow, UnwrittenRests}
use Rattle.mini_logic.proofs.Weights.{weight_logical}

some_is : {A : Type 0} (x y : A) → Some x ≡ Some y → x ≡ y
some_is x y e = cc e

both_true : (c d : Bool) → c ≡ true → d ≡ true → c && d ≡ true
both_true true d e f = f
both_true false d e f = e

-- ---- the lighter negation is that of the rows, as far as 64 bits go

module _ (s : Seat) (a : Tree) where
  abbrev by_capped : Bool
  by_capped = nat_lt (capped (weight (Expr s) (negation a))) (capped (weight (Expr s) (neg s a)))

  abbrev by_weight : Bool
  by_weight = nat_lt (weight (Expr s) (negation a)) (weight (Expr s) (neg s a))

  abbrev picked : Bool → Tree
  picked b = if b then negation a else neg s a

  same_not : (b c : Bool) → by_capped ≡ b → by_weight ≡ c → (weight (Expr s) (picked b) < 18446744073709551615 → picked b ≡ picked c) × (weight (Expr s) (picked c) < 18446744073709551615 → picked b ≡ picked c)
  same_not true true e f = ((λ h. refl), (λ h. refl))
  same_not false false e f = ((λ h. refl), (λ h. refl))
  same_not true false e f = absurd (omega (arith, ltb-true _ _ e, ltb-false _ _ f))
  same_not false true e f = ((λ h. absurd (omega (arith, h, ltb-false _ _ e, ltb-true _ _ f))), (λ h. absurd (omega (arith, h, ltb-false _ _ e, ltb-true _ _ f))))

pub tested_same : (s : Seat) (t : Bool) (a : Tree) → (weight (Expr s) (tested s t a) < 18446744073709551615 → tested s t a ≡ row.tested s t a) × (weight (Expr s) (row.tested s t a) < 18446744073709551615 → tested s t a ≡ row.tested s t a)
tested_same s true a = same_not s a (by_capped s a) (by_weight s a) refl refl
tested_same s false a = ((λ h. refl), (λ h. refl))

module _ (s : Seat) (i c : Bool) (a b : Tree) where
  abbrev left_seat : Seat
  left_seat = left_operand_seat (giving c) s

  joined_by : tested left_seat (is_turned i c) a ≡ row.tested left_seat (is_turned i c) a → joined s i c a b ≡ row.joined s i c a b
  joined_by e = ap (λ x. logical (giving c) x b) e

  joined_same : weight (Expr s) (joined s i c a b) < 18446744073709551615 → joined s i c a b ≡ row.joined s i c a b
  joined_same h = let whole = weight_logical (giving c) s (tested left_seat (is_turned i c) a) b in joined_by ((tested_same left_seat (is_turned i c) a).0 (omega (arith, h, whole)))

  row_same : weight (Expr s) (row.joined s i c a b) < 18446744073709551615 → joined s i c a b ≡ row.joined s i c a b
  row_same h = let whole = weight_logical (giving c) s (row.tested left_seat (is_turned i c) a) b in joined_by ((tested_same left_seat (is_turned i c) a).1 (omega (arith, h, whole)))

-- ---- 24

digit_row : (s : Seat) (n w : Tree) → digit_written s n ≡ Some w → Row24 s n w
digit_row s n w e = go (s.boolean && is_negation n) refl e
  where
    by : s.boolean ≡ true → is_negation n ≡ true → (x : Option ℤ) → number (part n 0) ≡ x → digit_of (negated_truth x) ≡ Some w → Row24 s n w
    by a h (Some (pos zero)) k e = record { truth = true; asked = a; shape = negation_is n h ∙ ap negation (number_is (part n 0) (pos 0) k); written = sym (some_is (digit true) w e) }
    by a h (Some (pos (suc zero))) k e = record { truth = false; asked = a; shape = negation_is n h ∙ ap negation (number_is (part n 0) (pos 1) k); written = sym (some_is (digit false) w e) }
    by a h x k e = absurd (none-some w e)

    go : (c : Bool) → s.boolean && is_negation n ≡ c → (if c then digit_of (negated_truth (number (part n 0))) else None) ≡ Some w → Row24 s n w
    go true h e = let (a, k) = and_parts s.boolean (is_negation n) h in by a k (number (part n 0)) refl e
    go false h e = absurd (cc e)

digit_passes : (s : Seat) (b : Bool) → s.boolean ≡ true → written s (negated_digit b) ≡ Some (digit b)
digit_passes s true a = ap (λ c. if c && true then Some (digit true) else None) a
digit_passes s false a = ap (λ c. if c && true then Some (digit false) else None) a

-- ---- 25

module _ (s : Seat) (o : LogicalOperator) (a b : Tree) where
  left_row : is_told s o a b ≡ true → Row25 s (logical o a b) a
  left_row h =
      let (asked, h1) = and_parts s.boolean _ h in
      let (tells, h2) = and_parts (is_and_or o) _ h1 in
      let (known, h3) = and_parts (goes_on o b) _ h2 in
      let (free, h4) = and_parts (is_effect_free b) _ h3 in
      let (dropped, h5) = and_parts (leaves_nothing b) _ h4 in
      let (heavy, plain) = and_parts (weighs b) _ h5 in
      record { operator = o; left = a; right = b; asked = asked; tells = tells; known = known; effect_free = free; dropped = dropped; heavy = heavy; plain = plain; shape = refl; written = refl }

logical_row : (s : Seat) (n w : Tree) → left_written s (logical_operator n) (part n 0) (part n 1) ≡ Some w → Row25 s n w
logical_row s n w e = go (logical_operator n) refl e
  where
    by : (o : LogicalOperator) (c : Bool) → is_told s o (part n 0) (part n 1) ≡ c → (if c then Some (part n 0) else None) ≡ Some w → Row25 s (logical o (part n 0) (part n 1)) w
    by o true h e = subst (Row25 s (logical o (part n 0) (part n 1))) (some_is (part n 0) w e) (left_row s o (part n 0) (part n 1) h)
    by o false h e = absurd (cc e)

    go : (x : Option LogicalOperator) → logical_operator n ≡ x → left_written s x (part n 0) (part n 1) ≡ Some w → Row25 s n w
    go (Some o) h e = subst (λ t. Row25 s t w) (sym (logical_is n o h)) (by o (is_told s o (part n 0) (part n 1)) refl e)
    go None h e = absurd (cc e)

left_passes : (s : Seat) (n w : Tree) (r : Row25 s n w) → written s (logical r.operator r.left r.right) ≡ Some r.left
left_passes s n w r =
    ap (λ c. if c then Some r.left else None)
    (both_true s.boolean _ r.asked (both_true (is_and_or r.operator) _ r.tells (both_true (goes_on r.operator r.right) _ r.known (both_true (is_effect_free r.right) _ r.effect_free (both_true (leaves_nothing r.right) _ r.dropped (both_true (weighs r.right) (is_plain_part r.left) r.heavy r.plain))))))

-- ---- 26 and 47

record Known (t : Tree) (c : Bool) : Type 0 where
  effect_free : is_effect_free t ≡ true
  dropped : leaves_nothing t ≡ true
  known : evident_truth t ≡ Some c

known_is : (t : Tree) (c : Bool) → known_truth t ≡ Some c → Known t c
known_is t c e = go (is_effect_free t && leaves_nothing t) refl e
  where
    go : (b : Bool) → is_effect_free t && leaves_nothing t ≡ b → (if b then evident_truth t else None) ≡ Some c → Known t c
    go true h e = let (free, dropped) = and_parts (is_effect_free t) (leaves_nothing t) h in record { effect_free = free; dropped = dropped; known = e }
    go false h e = absurd (cc e)

is_known : (t : Tree) (c : Bool) → is_effect_free t ≡ true → leaves_nothing t ≡ true → evident_truth t ≡ Some c → known_truth t ≡ Some c
is_known t c f d k = ap (λ b. if b then evident_truth t else None) (both_true (is_effect_free t) (leaves_nothing t) f d) ∙ k

chosen_is : (i : Bool) (n : Tree) → is_conditional n ≡ true → n ≡ chosen i (part n 0) (branch_at i n) (branch_at (not i) n)
chosen_is true n h = conditional_is n h
chosen_is false n h = conditional_is n h

joined_row : (s : Seat) (n w : Tree) (f : KnownBranch s n w) → may_join s f.is_consequent f.truth f.test f.branch ≡ true → row.JoinedRow s n w
joined_row s n w f h = go s.boolean refl h
  where
    go : (b : Bool) → s.boolean ≡ b → b || (is_boolean_kind (kind f.branch) && (is_turned f.is_consequent f.truth || is_boolean_kind (kind f.test))) ≡ true → row.JoinedRow s n w
    go true e h = inl (record { form = f; asked = e })
    go false e h = let (boolean, told) = and_parts (is_boolean_kind (kind f.branch)) _ h in inr (record { form = f; boolean = boolean; told = told })

branch_row : (s : Seat) (i : Bool) (n w : Tree) → is_conditional n ≡ true → branch_written s i n ≡ Some w → BooleanContracts (Expr s) n w
branch_row s i n w h e = go (known_truth (branch_at i n)) refl e
  where
    by : (c : Bool) → Known (branch_at i n) c → (b : Bool) → joins s i c n ≡ b → (if b then Some (joined_of s i c n) else None) ≡ Some w → BooleanContracts (Expr s) n w
    by c k true j e =
        let (may, less) = and_parts (may_join s i c (part n 0) (branch_at i n)) _ j in
        let falls = ltb-true _ _ less in
        let is : joined_of s i c n ≡ w = some_is (joined_of s i c n) w e in
        let same = joined_same s i c (part n 0) (branch_at (not i) n) (omega (arith, falls)) in
        let heavy = ap (weight (Expr s)) is in
        let form : KnownBranch s n w = record { is_consequent = i; truth = c; test = part n 0; branch = branch_at i n; other = branch_at (not i) n; known = k.known; effect_free = k.effect_free; dropped = k.dropped; shape = chosen_is i n h; written = sym is ∙ same } in
        record { row = inr (inl (joined_row s n w form may)); lighter = omega (arith, falls, heavy) }
    by c k false j e = absurd (cc e)

    go : (x : Option Bool) → known_truth (branch_at i n) ≡ x → branch_by s i x n ≡ Some w → BooleanContracts (Expr s) n w
    go (Some c) k e = by c (known_is (branch_at i n) c k) (joins s i c n) refl e
    go None k e = absurd (cc e)

branches_row : (s : Seat) (n w : Tree) → is_conditional n ≡ true → branches_written s n ≡ Some w → BooleanContracts (Expr s) n w
branches_row s n w h e = by (branch_written s true n) refl e
  where
    by : (x : Option Tree) → branch_written s true n ≡ x → either x (branch_written s false n) ≡ Some w → BooleanContracts (Expr s) n w
    by (Some v) k e = branch_row s true n w h (k ∙ e)
    by None k e = branch_row s false n w h e

-- ---- 47 and 48, where both branches are known

record Opposite (x y : Option Bool) (c : Bool) : Type 0 where
  first : x ≡ Some c
  second : y ≡ Some (not c)

opposite_is : (x y : Option Bool) (c : Bool) → opposite x y ≡ Some c → Opposite x y c
opposite_is (Some true) (Some false) c e = subst (Opposite (Some true) (Some false)) (some_is true c e) (record { first = refl; second = refl })
opposite_is (Some false) (Some true) c e = subst (Opposite (Some false) (Some true)) (some_is false c e) (record { first = refl; second = refl })
opposite_is (Some true) (Some true) c e = absurd (cc e)
opposite_is (Some false) (Some false) c e = absurd (cc e)
opposite_is (Some b) None c e = absurd (none_is b c e)
  where
    none_is : (b c : Bool) → opposite (Some b) None ≡ Some c → ⊥
    none_is true c e = cc e
    none_is false c e = cc e
opposite_is None y c e = absurd (cc e)

opposites : (c : Bool) → opposite (Some c) (Some (not c)) ≡ Some c
opposites true = refl
opposites false = refl

record BooleanKnown (t : Tree) (c : Bool) : Type 0 where
  boolean : is_boolean_kind (kind t) ≡ true
  known : Known t c

boolean_known : (t : Tree) (c : Bool) → boolean_truth t ≡ Some c → BooleanKnown t c
boolean_known t c e = go (is_boolean_kind (kind t)) refl e
  where
    go : (b : Bool) → is_boolean_kind (kind t) ≡ b → (if b then known_truth t else None) ≡ Some c → BooleanKnown t c
    go true h e = record { boolean = h; known = known_is t c e }
    go false h e = absurd (cc e)

truth_told : (n : Tree) (c : Bool) → is_conditional n ≡ true → told_truth n ≡ Some c → row.Row47Both n (row.truth_of c (part n 0))
truth_told n c h e = go (is_plain_part (part n 0)) refl e
  where
    go : (b : Bool) → is_plain_part (part n 0) ≡ b → (if b then opposite (boolean_truth (part n 1)) (boolean_truth (part n 2)) else None) ≡ Some c → row.Row47Both n (row.truth_of c (part n 0))
    go true p e =
        let both = opposite_is (boolean_truth (part n 1)) (boolean_truth (part n 2)) c e in
        let x = boolean_known (part n 1) c both.first in
        let y = boolean_known (part n 2) (not c) both.second in
        record {
          truth = c;
          test = part n 0;
          consequent = part n 1;
          alternate = part n 2;
          known = x.known.known;
          otherwise = y.known.known;
          effect_free = both_true (is_effect_free (part n 1)) (is_effect_free (part n 2)) x.known.effect_free y.known.effect_free;
          dropped = both_true (leaves_nothing (part n 1)) (leaves_nothing (part n 2)) x.known.dropped y.known.dropped;
          boolean = both_true (is_boolean_kind (kind (part n 1))) (is_boolean_kind (kind (part n 2))) x.boolean y.boolean;
          plain = p;
          shape = conditional_is n h;
          written = refl;
        }
    go false p e = absurd (cc e)

truth_row : (s : Seat) (n w : Tree) → is_conditional n ≡ true → truth_written s n ≡ Some w → BooleanContracts (Expr s) n w
truth_row s n w h e = go (told_truth n) refl e
  where
    by : (c : Bool) → told_truth n ≡ Some c → (b : Bool) → is_lighter s (row.truth_of c (part n 0)) n ≡ b → (if b then Some (row.truth_of c (part n 0)) else None) ≡ Some w → BooleanContracts (Expr s) n w
    by c k true l e =
        let falls = ltb-true _ _ l in
        subst (BooleanContracts (Expr s) n) (some_is (row.truth_of c (part n 0)) w e) (record { row = inr (inr (inl (truth_told n c h k))); lighter = omega (arith, falls) })
    by c k false l e = absurd (cc e)

    go : (x : Option Bool) → told_truth n ≡ x → truth_by s x n ≡ Some w → BooleanContracts (Expr s) n w
    go (Some c) k e = by c k (is_lighter s (row.truth_of c (part n 0)) n) refl e
    go None k e = absurd (cc e)

digit_is : (t : Tree) (c : Bool) → digit_truth (number t) ≡ Some c → t ≡ digit c
digit_is t c e = go (number t) refl e
  where
    go : (x : Option ℤ) → number t ≡ x → digit_truth x ≡ Some c → t ≡ digit c
    go (Some (pos zero)) k e = number_is t (pos 0) k ∙ ap digit (some_is false c e)
    go (Some (pos (suc zero))) k e = number_is t (pos 1) k ∙ ap digit (some_is true c e)
    go x k e = absurd (none-some c e)

-- `+` adds its own weight to its operand's
plus_weighs : (s : Seat) (a : Tree) → weight (Expr plus_seat) a ≤ weight (Expr s) (plus a)
plus_weighs s a = omega arith

-- what is made is what the row says, as far as 64 bits go
number_made : (s : Seat) (c : Bool) (a : Tree) → weight (Expr s) (plus (as_boolean c a)) < 18446744073709551615 → plus (as_boolean c a) ≡ plus (row.as_boolean c a)
number_made s true a h = refl
number_made s false a h = let own = plus_weighs s (as_boolean false a) in ap plus ((tested_same plus_seat true a).0 (omega (arith, h, own)))

number_same : (s : Seat) (c : Bool) (a : Tree) → weight (Expr s) (plus (row.as_boolean c a)) < 18446744073709551615 → plus (as_boolean c a) ≡ plus (row.as_boolean c a)
number_same s true a h = refl
number_same s false a h = let own = plus_weighs s (row.as_boolean false a) in ap plus ((tested_same plus_seat true a).1 (omega (arith, h, own)))

counted : (s : Seat) (n : Tree) (c : Bool) → is_conditional n ≡ true → counted_truth n ≡ Some c → is_lighter s (plus (as_boolean c (part n 0))) n ≡ true → BooleanContracts (Expr s) n (plus (as_boolean c (part n 0)))
counted s n c h e l =
    let both = opposite_is (digit_truth (number (part n 1))) (digit_truth (number (part n 2))) c e in
    let falls = ltb-true _ _ l in
    record {
      row = inr (inr (inr (record {
        truth = c;
        test = part n 0;
        shape = conditional_is n h ∙ ap (λ t. conditional (part n 0) t (part n 2)) (digit_is (part n 1) c both.first) ∙ ap (conditional (part n 0) (digit c)) (digit_is (part n 2) (not c) both.second);
        written = number_made s c (part n 0) (omega (arith, falls));
      })));
      lighter = omega (arith, falls);
    }

number_row : (s : Seat) (n w : Tree) → is_conditional n ≡ true → number_written s n ≡ Some w → BooleanContracts (Expr s) n w
number_row s n w h e = go (counted_truth n) refl e
  where
    by : (c : Bool) → counted_truth n ≡ Some c → (b : Bool) → is_lighter s (plus (as_boolean c (part n 0))) n ≡ b → (if b then Some (plus (as_boolean c (part n 0))) else None) ≡ Some w → BooleanContracts (Expr s) n w
    by c k true l e = subst (BooleanContracts (Expr s) n) (some_is (plus (as_boolean c (part n 0))) w e) (counted s n c h k l)
    by c k false l e = absurd (cc e)

    go : (x : Option Bool) → counted_truth n ≡ x → number_by s x n ≡ Some w → BooleanContracts (Expr s) n w
    go (Some c) k e = by c k (is_lighter s (plus (as_boolean c (part n 0))) n) refl e
    go None k e = absurd (cc e)

conditional_row : (s : Seat) (n w : Tree) → conditional_written s n ≡ Some w → BooleanContracts (Expr s) n w
conditional_row s n w e = go (is_conditional n) refl e
  where
    last : is_conditional n ≡ true → (x : Option Tree) → branches_written s n ≡ x → either x (number_written s n) ≡ Some w → BooleanContracts (Expr s) n w
    last h (Some v) k e = branches_row s n w h (k ∙ e)
    last h None k e = number_row s n w h e

    by : is_conditional n ≡ true → (x : Option Tree) → truth_written s n ≡ x → either x (either (branches_written s n) (number_written s n)) ≡ Some w → BooleanContracts (Expr s) n w
    by h (Some v) k e = truth_row s n w h (k ∙ e)
    by h None k e = last h (branches_written s n) refl e

    go : (b : Bool) → is_conditional n ≡ b → (if b then either (truth_written s n) (either (branches_written s n) (number_written s n)) else None) ≡ Some w → BooleanContracts (Expr s) n w
    go true h e = by h (truth_written s n) refl e
    go false h e = absurd (cc e)

-- where the first of two is there, it is that one, and where it isn't, the second
second_is : (x y : Option Tree) → is_some x ≡ false → either x y ≡ y
second_is (Some t) y e = absurd (cc e)
second_is None y e = refl

unchanged : (x : Option Tree) (t : Tree) → is_some x ≡ false → unwrap_or x t ≡ t
unchanged (Some u) t e = absurd (cc e)
unchanged None t e = refl

-- what a second rewrite says, where the first one gave nothing

pub tree_after : (r : Result Bool OutOfMemory) (x : Option Tree) (y : Tree → Option Tree) (t m v : Tree) → is_some x ≡ false → m ≡ unwrap_or x t → OnOk r (v ≡ unwrap_or (y m) m) → OnOk r (v ≡ unwrap_or (either x (y t)) t)
tree_after r x y t m v f e h =
    subst (λ u. OnOk r (v ≡ unwrap_or u t)) (sym (second_is x (y t) f)) (subst (λ n. OnOk r (v ≡ unwrap_or (y n) n)) (e ∙ unchanged x t f) h)

pub said_after : (r : Result Bool OutOfMemory) (x : Option Tree) (y : Tree → Option Tree) (t m : Tree) → is_some x ≡ false → m ≡ unwrap_or x t → IfOk r (λ b. b ≡ is_some (y m)) → IfOk r (λ b. b ≡ is_some (either x (y t)))
said_after r x y t m f e h =
    subst (λ u. IfOk r (λ b. b ≡ is_some u)) (sym (second_is x (y t) f)) (subst (λ n. IfOk r (λ b. b ≡ is_some (y n))) (e ∙ unchanged x t f) h)

-- and where the first does something that stands

pub tree_first : (x y : Option Tree) (t m : Tree) → is_some x ≡ true → m ≡ unwrap_or x t → m ≡ unwrap_or (either x y) t
tree_first (Some u) y t m e f = f
tree_first None y t m e f = absurd (cc e)

pub said_first : (x y : Option Tree) → is_some x ≡ true → true ≡ is_some (either x y)
said_first (Some u) y e = refl
said_first None y e = absurd (cc e)

-- where neither branch gives anything, no row makes it lighter

neither : (x y : Option Tree) → either x y ≡ None → (x ≡ None) × (y ≡ None)
neither (Some t) y e = absurd (cc e)
neither None y e = (refl, e)

-- of three
record NoneOf (s : Seat) (t : Tree) : Type 0 where
  truth : truth_written s t ≡ None
  first : branch_written s true t ≡ None
  second : branch_written s false t ≡ None
  number : number_written s t ≡ None

none_of : (s : Seat) (a b c : Tree) → written s (conditional a b c) ≡ None → NoneOf s (conditional a b c)
none_of s a b c e =
    let t = conditional a b c in
    let (truth, rest) = neither (truth_written s t) (either (branches_written s t) (number_written s t)) e in
    let (branches, number) = neither (branches_written s t) (number_written s t) rest in
    let (first, second) = neither (branch_written s true t) (branch_written s false t) branches in
    record { truth = truth; first = first; second = second; number = number }

unwritten_branch : (s : Seat) (i : Bool) (a k b : Tree) → written s (chosen i a k b) ≡ None → branch_written s i (chosen i a k b) ≡ None
unwritten_branch s true a k b e = (none_of s a k b e).first
unwritten_branch s false a k b e = (none_of s a b k e).second

heavy_branch : (s : Seat) (i c : Bool) (a k b : Tree) → may_join s i c a k ≡ true → known_truth k ≡ Some c → branch_written s i (chosen i a k b) ≡ None → nat_lt (capped (weight (Expr s) (joined s i c a b))) (capped (weight (Expr s) (chosen i a k b))) ≡ false
heavy_branch s true c a k b m h e = go (nat_lt (capped (weight (Expr s) (joined s true c a b))) (capped (weight (Expr s) (conditional a k b)))) (sym (ap (λ x. branch_by s true x (conditional a k b)) h ∙ ap (λ d. if d && nat_lt (capped (weight (Expr s) (joined s true c a b))) (capped (weight (Expr s) (conditional a k b))) then Some (joined s true c a b) else None) m) ∙ e)
  where
    go : (d : Bool) → (if d then Some (joined s true c a b) else None) ≡ None → d ≡ false
    go true e = absurd (cc e)
    go false e = refl
heavy_branch s false c a k b m h e = go (nat_lt (capped (weight (Expr s) (joined s false c a b))) (capped (weight (Expr s) (conditional a b k)))) (sym (ap (λ x. branch_by s false x (conditional a b k)) h ∙ ap (λ d. if d && nat_lt (capped (weight (Expr s) (joined s false c a b))) (capped (weight (Expr s) (conditional a b k))) then Some (joined s false c a b) else None) m) ∙ e)
  where
    go : (d : Bool) → (if d then Some (joined s false c a b) else None) ≡ None → d ≡ false
    go true e = absurd (cc e)
    go false e = refl

form_missed : (s : Seat) (n w : Tree) (f : KnownBranch s n w) → may_join s f.is_consequent f.truth f.test f.branch ≡ true → written s n ≡ None → weight (Expr s) n < 2 ^ 64 → weight (Expr s) w < weight (Expr s) n → ⊥
form_missed s n w f m e small less =
    let i = f.is_consequent in
    let whole = ap (weight (Expr s)) f.shape in
    let made = ap (weight (Expr s)) f.written in
    let same = ap (weight (Expr s)) (row_same s i f.truth f.test f.other (omega (arith, small, less, made))) in
    let heavy = ltb-false _ _ (heavy_branch s i f.truth f.test f.branch f.other m (is_known f.branch f.truth f.effect_free f.dropped f.known) (unwritten_branch s i f.test f.branch f.other (sym (ap (written s) f.shape) ∙ e))) in
    omega (arith, small, less, whole, made, same, heavy)

-- of a test alone

not_lighter : (s : Seat) (w t : Tree) → (if is_lighter s w t then Some w else None) ≡ None → is_lighter s w t ≡ false
not_lighter s w t e = go (is_lighter s w t) e
  where
    go : (d : Bool) → (if d then Some w else None) ≡ None → d ≡ false
    go true e = absurd (cc e)
    go false e = refl

both_truths : (s : Seat) (n w : Tree) (r : row.Row47Both n w) → told_truth (conditional r.test r.consequent r.alternate) ≡ Some r.truth
both_truths s n w r =
    let (free, free') = and_parts (is_effect_free r.consequent) (is_effect_free r.alternate) r.effect_free in
    let (dropped, dropped') = and_parts (leaves_nothing r.consequent) (leaves_nothing r.alternate) r.dropped in
    let (boolean, boolean') = and_parts (is_boolean_kind (kind r.consequent)) (is_boolean_kind (kind r.alternate)) r.boolean in
    ap (λ b. if b then opposite (boolean_truth r.consequent) (boolean_truth r.alternate) else None) r.plain
    ∙ ap (λ x. opposite x (boolean_truth r.alternate)) (is_boolean_known r.consequent r.truth boolean free dropped r.known)
    ∙ ap (opposite (Some r.truth)) (is_boolean_known r.alternate (not r.truth) boolean' free' dropped' r.otherwise)
    ∙ opposites r.truth
  where
    is_boolean_known : (t : Tree) (c : Bool) → is_boolean_kind (kind t) ≡ true → is_effect_free t ≡ true → leaves_nothing t ≡ true → evident_truth t ≡ Some c → boolean_truth t ≡ Some c
    is_boolean_known t c b f d k = ap (λ x. if x then known_truth t else None) b ∙ is_known t c f d k

truth_missed : (s : Seat) (n w : Tree) → row.Row47Both n w → written s n ≡ None → weight (Expr s) n < 2 ^ 64 → weight (Expr s) w < weight (Expr s) n → ⊥
truth_missed s n w r e small less =
    let t = conditional r.test r.consequent r.alternate in
    let whole = ap (weight (Expr s)) r.shape in
    let made = ap (weight (Expr s)) r.written in
    let none = (none_of s r.test r.consequent r.alternate (sym (ap (written s) r.shape) ∙ e)).truth in
    let heavy = ltb-false _ _ (not_lighter s (row.truth_of r.truth r.test) t (sym (ap (λ x. truth_by s x t) (both_truths s n w r)) ∙ none)) in
    omega (arith, small, less, whole, made, heavy)

digits_counted : (c : Bool) (a : Tree) → counted_truth (conditional a (digit c) (digit (not c))) ≡ Some c
digits_counted true a = refl
digits_counted false a = refl

number_missed : (s : Seat) (n w : Tree) → row.Row48 n w → written s n ≡ None → weight (Expr s) n < 2 ^ 64 → weight (Expr s) w < weight (Expr s) n → ⊥
number_missed s n w r e small less =
    let t = conditional r.test (digit r.truth) (digit (not r.truth)) in
    let whole = ap (weight (Expr s)) r.shape in
    let made = ap (weight (Expr s)) r.written in
    let same = ap (weight (Expr s)) (number_same s r.truth r.test (omega (arith, small, less, made))) in
    let none = (none_of s r.test (digit r.truth) (digit (not r.truth)) (sym (ap (written s) r.shape) ∙ e)).number in
    let heavy = ltb-false _ _ (not_lighter s (plus (as_boolean r.truth r.test)) t (sym (ap (λ x. number_by s x t) (digits_counted r.truth r.test)) ∙ none)) in
    omega (arith, small, less, whole, made, same, heavy)

-- ---- all

pub written_is_row : WrittenIsRow
written_is_row s n w e = go (shape_of n) e
  where
    light : row.LighterRow s n w → BooleanContracts (Expr s) n w
    light r = record { row = inl r; lighter = lighter s n w r }

    go : (h : Shape) → written_by h s n ≡ Some w → BooleanContracts (Expr s) n w
    go (shape.UnaryExpression LogicalNot) e = light (inl (digit_row s n w e))
    go (shape.LogicalExpression o) e = light (inr (logical_row s n w e))
    go shape.ConditionalExpression e = conditional_row s n w e
    go h e = absurd (none-some w e)

never : (s : Seat) (n m v : Tree) → n ≡ m → written s n ≡ None → written s m ≡ Some v → ⊥
never s n m v h e f = cc (sym e ∙ ap (written s) h ∙ f)

pub unwritten_rests : UnwrittenRests
unwritten_rests s n e small w c = go c.row
  where
    go : BooleanRow (Expr s) n w → ⊥
    go (inl (inl r)) = never s n (negated_digit r.truth) (digit r.truth) r.shape e (digit_passes s r.truth r.asked)
    go (inl (inr r)) = never s n (logical r.operator r.left r.right) r.left r.shape e (left_passes s n w r)
    go (inr (inr (inl r))) = truth_missed s n w r e small c.lighter
    go (inr (inr (inr r))) = number_missed s n w r e small c.lighter
    go (inr (inl (inl r))) = form_missed s n w r.form (ap (λ b. b || (is_boolean_kind (kind r.form.branch) && (is_turned r.form.is_consequent r.form.truth || is_boolean_kind (kind r.form.test)))) r.asked) e small c.lighter
    go (inr (inl (inr r))) = form_missed s n w r.form (or_true s.boolean _ (both_true (is_boolean_kind (kind r.form.branch)) _ r.boolean r.told)) e small c.lighter
      where
        or_true : (b d : Bool) → d ≡ true → b || d ≡ true
        or_true true d f = refl
        or_true false d f = f

-- ---- the rule

pub applied : (s : Seat) (t u : Tree) (b : Bool) → u ≡ unwrap_or (written s t) t → b ≡ is_some (written s t) → Applied Gives Rests (Expr s) t u b
applied s t u b e f = subst (λ v. Applied Gives Rests (Expr s) t v b) (sym e) (subst (Applied Gives Rests (Expr s) t (unwrap_or (written s t) t)) (sym f) (go (written s t) refl))
  where
    go : (o : Option Tree) → written s t ≡ o → Applied Gives Rests (Expr s) t (unwrap_or o t) (is_some o)
    go None h = (refl, unwritten_rests s t h)
    go (Some w) h = moves_once Gives (Expr s) t w (written_is_row s t w h)
