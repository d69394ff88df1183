-- The rewrite is that of row 84.
use Rattle.std.proofs.Common.{◌≡◌, ◌+◌, ◌<◌, ◌≤◌, add-one, ℕ, zero, suc, Bool, true, false, List, [], refl, sym, ap, ◌∙◌, arith}
use Rattle.std.specs.Prelude.{◌&&◌, ◌||◌, if◌then◌else◌}
use Rattle.std.proofs.lemmas.Bool.{and_parts, false≢true}
use Rattle.mini_model.specs.declared.operator.LogicalOperator.TheVariants.{And}
use Rattle.mini_model.specs.declared.operator.UnaryOperator.TheVariants.{LogicalNot}
use Rattle.mini_model.specs.declared.shape.Shape.TheVariants as shape
use Rattle.mini_model.specs.Tree.{Tree, Trees, node, none, ◌▸◌, count, shape_of, children, child_or_absent, absent, empty_statement, if_else, negation, logical}
use Rattle.mini_node.specs.Children.{part, with_child, rest_children}
use Rattle.mini_node.specs.Kinds.{is_absent_part, is_block, is_if_statement}
use Rattle.mini_node.specs.Made.{absent_is, block_is, if_statement_is}
use Rattle.mini_node.specs.Walks.{count_with, next_child, no_rest}
use Rattle.mini_rows.specs.Lists.{block, for_loop, is_unscoped, are_unscoped}
use Rattle.mini_rows.specs.Loops.{bare_break, may_leap, any_may_leap, is_there, is_test, Tested, always, while_true, test_of, is_tested, Leaving, alone, or_else, unless, leaves_by, goes_by, runs_on, is_loose, Leading, whole, before, led, others_of, Row84}
use Rattle.mini_rows.specs.Loops as loops
use Rattle.mini_logic.specs.MinimizeForStatement.{leaves_now, leaves_first, leaves_last, leaves, leads, body_leads, begins_leaving, body_leaves, is_for, may_test, is_leading_for, is_leaving_for, goes, or_empty, runs, body_goes, body_runs, also, with_test}

-- ---- what the tests say

pub operand_there : (t : Tree) → shape_of t ≡ shape.UnaryExpression LogicalNot → 0 < count (children t) → is_there t ≡ is_there (part t 0)
operand_there (node (shape.UnaryExpression LogicalNot) xs n none) s e = absurd (omega (arith, e))
operand_there (node (shape.UnaryExpression LogicalNot) xs n (a ▸ ts)) s e = refl
operand_there t s e = absurd (cc s)

pub no_operand : (t : Tree) → shape_of t ≡ shape.UnaryExpression LogicalNot → count (children t) ≤ 0 → is_there t ≡ false
no_operand (node (shape.UnaryExpression LogicalNot) xs n none) s e = refl
no_operand (node (shape.UnaryExpression LogicalNot) xs n (a ▸ ts)) s e = absurd (omega (arith, e))
no_operand t s e = absurd (cc s)

-- of a node that is neither a jump nor a body
pub leaps_below : (t : Tree) → (shape_of t ≡ shape.BreakStatement → ⊥) → (shape_of t ≡ shape.ContinueStatement → ⊥) → ((d g : Bool) (ds : List (List ℕ)) → shape_of t ≡ shape.Function d g ds → ⊥) → ((ds : List (List ℕ)) → shape_of t ≡ shape.ArrowFunctionExpression ds → ⊥) → (shape_of t ≡ shape.StaticBlock → ⊥) → may_leap t ≡ any_may_leap (children t)
leaps_below (node shape.BreakStatement xs n ts) b c f a s = absurd (b refl)
leaps_below (node shape.ContinueStatement xs n ts) b c f a s = absurd (c refl)
leaps_below (node (shape.Function d g ds) xs n ts) b c f a s = absurd (f d g ds refl)
leaps_below (node (shape.ArrowFunctionExpression ds) xs n ts) b c f a s = absurd (a ds refl)
leaps_below (node shape.StaticBlock xs n ts) b c f a s = absurd (s refl)
leaps_below (node h xs n ts) b c f a s = refl

pub leaps_step : (ts : Trees) (i : ℕ) (c : Tree) → i < count ts → c ≡ child_or_absent ts i → any_may_leap (rest_children i ts) ≡ (may_leap c || any_may_leap (rest_children (i + 1) ts))
leaps_step ts i c h e = ap any_may_leap (next_child ts i h) ∙ ap (λ t. may_leap t || any_may_leap (rest_children (suc i) ts)) (sym e) ∙ ap (λ k. may_leap c || any_may_leap (rest_children k ts)) (sym (add-one i))

pub leaps_end : (ts : Trees) (i : ℕ) → count ts ≤ i → any_may_leap (rest_children i ts) ≡ false
leaps_end ts i h = ap any_may_leap (no_rest ts i h)

pub none_leaves : (ts : Trees) → count ts ≤ 0 → leaves (child_or_absent ts 0) ≡ false
none_leaves none e = refl
none_leaves (t ▸ ts) e = absurd (omega (arith, e))

pub first_there : (ts : Trees) → leaves (child_or_absent ts 0) ≡ true → 0 < count ts
first_there none e = absurd (false≢true e)
first_there (t ▸ ts) e = omega arith

pub leaves_three : (t : Tree) → leaves t ≡ true → count (children t) ≡ 3
leaves_three t e = let is = if_statement_is t (and_parts (is_if_statement t) ((leaves_first t || leaves_last t) && is_test (part t 0)) e).0 in ap (λ u. count (children u)) is

pub leads_first : (b : Tree) → leads b ≡ true → leaves (child_or_absent (children (part b 0)) 0) ≡ true
leads_first b e = (and_parts (is_block b) (leaves (child_or_absent (children (part b 0)) 0)) e).1

block_no_if : (b : Tree) → is_block b ≡ true → leaves b ≡ false
block_no_if b h = ap leaves (block_is b h)

block_begins : (b : Tree) → body_leaves b ≡ true → is_block b ≡ true → begins_leaving b ≡ true
block_begins b e h = sym (ap (λ a. a || begins_leaving b) (block_no_if b h)) ∙ e

pub block_leads : (b : Tree) → body_leads b ≡ true → is_block b ≡ true → leads b ≡ true
block_leads b e h = sym (ap (λ a. a || leads b) (block_no_if b h)) ∙ e

either_true : (a b : Bool) → (a || b) ≡ true → b ≡ false → a ≡ true
either_true true b e f = refl
either_true false b e f = absurd (false≢true (sym f ∙ e))

pub plain_leaves : (b : Tree) → body_leads b ≡ true → is_block b ≡ false → leaves b ≡ true
plain_leaves b e h = either_true (leaves b) (leads b) e (ap (λ a. a && leaves (child_or_absent (children (part b 0)) 0)) h)

-- what leaves a loop where nothing is scoped leaves it
unless_first : (a b c : Bool) → (b ≡ true → c ≡ true) → (a || b) ≡ true → (a || c) ≡ true
unless_first true b c f e = refl
unless_first false b c f e = f e

body_so : (b : Tree) → body_leaves b ≡ true → body_leads b ≡ true
body_so b e = unless_first (leaves b) (begins_leaving b) (leads b) (λ h. (and_parts (leads b) (are_unscoped (children (part b 0))) h).0) e

pub leaving_leads : (t : Tree) → is_leaving_for t ≡ true → is_leading_for t ≡ true
leaving_leads t e =
    let (is, rest) = and_parts (is_for t) (may_test (part t 1) && body_leaves (part t 3)) e in
    let (tested, left) = and_parts (may_test (part t 1)) (body_leaves (part t 3)) rest in
    ap (λ b. b && (may_test (part t 1) && body_leads (part t 3))) is ∙ ap (λ b. b && body_leads (part t 3)) tested ∙ body_so (part t 3) left

pub tests_and : (a b c : Bool) → ((a && b) && c) ≡ (a && (b && c))
tests_and true b c = refl
tests_and false b c = refl

pub for_is : (t : Tree) → is_for t ≡ true → t ≡ for_loop (part t 0) (part t 1) (part t 2) (part t 3)
for_is (node shape.ForStatement [] zero (a ▸ (b ▸ (c ▸ (d ▸ none))))) e = refl
for_is t e = absurd (false≢true e)

pub leading_four : (t : Tree) → is_leading_for t ≡ true → count (children t) ≡ 4
leading_four t e = ap (λ u. count (children u)) (for_is t (and_parts (is_for t) (may_test (part t 1) && body_leads (part t 3)) e).0)

pub leading_body : (t : Tree) → is_leading_for t ≡ true → body_leads (child_or_absent (children t) 3) ≡ true
leading_body t e = (and_parts (may_test (part t 1)) (body_leads (part t 3)) (and_parts (is_for t) (may_test (part t 1) && body_leads (part t 3)) e).1).1

-- of the four children of a `for`
pub four_left : (ts us : Trees) (i : ℕ) (x : Tree) → count ts ≡ 4 → us ≡ with_child ts i x → count us ≡ 4
four_left ts us i x e f = ap count f ∙ count_with ts i x ∙ e

pub other_left : (ts : Trees) → count ts ≡ 4 → child_or_absent (with_child ts 3 absent) 1 ≡ child_or_absent ts 1
other_left none e = absurd (omega (arith, e))
other_left (a ▸ none) e = absurd (omega (arith, e))
other_left (a ▸ (b ▸ ts)) e = refl

-- two children are put in their places
put_both : (ts : Trees) (x y : Tree) → count ts ≡ 4 → with_child (with_child (with_child (with_child ts 3 absent) 1 absent) 3 x) 1 y ≡ with_child (with_child ts 3 x) 1 y
put_both none x y e = absurd (omega (arith, e))
put_both (a ▸ none) x y e = absurd (omega (arith, e))
put_both (a ▸ (b ▸ none)) x y e = absurd (omega (arith, e))
put_both (a ▸ (b ▸ (c ▸ none))) x y e = absurd (omega (arith, e))
put_both (a ▸ (b ▸ (c ▸ (d ▸ ts)))) x y e = refl

pub put_all : (ts a b c d : Trees) (x y : Tree) → count ts ≡ 4 → a ≡ with_child ts 3 absent → b ≡ with_child a 1 absent → c ≡ with_child b 3 x → d ≡ with_child c 1 y → d ≡ with_child (with_child ts 3 x) 1 y
put_all ts a b c d x y e f g h i = i ∙ ap (λ us. with_child us 1 y) (h ∙ ap (λ us. with_child us 3 x) (g ∙ ap (λ us. with_child us 1 absent) f)) ∙ put_both ts x y e

-- the first of a list, and what is put in its place
pub put_first : (ts us vs : Trees) (x y : Tree) → us ≡ with_child ts 0 absent → vs ≡ with_child us 0 x → x ≡ y → vs ≡ with_child ts 0 y
put_first ts us vs x y e f g = f ∙ ap (λ ws. with_child ws 0 x) e ∙ go ts ∙ ap (with_child ts 0) g
  where
    go : (ts : Trees) → with_child (with_child ts 0 absent) 0 x ≡ with_child ts 0 x
    go none = refl
    go (t ▸ ts) = refl

pub runs_block : (b : Tree) → leads b ≡ true → body_runs b ≡ block (with_child (children (part b 0)) 0 (runs (child_or_absent (children (part b 0)) 0)))
runs_block b e = ap (λ a. if a then block (with_child (children (part b 0)) 0 (runs (child_or_absent (children (part b 0)) 0))) else runs b) (and_parts (is_block b) (leaves (child_or_absent (children (part b 0)) 0)) e).0

-- ---- what is written is what the row writes

leaves_now_is : (t : Tree) → leaves_now t ≡ true → t ≡ bare_break
leaves_now_is (node shape.BreakStatement [] zero (a ▸ none)) e = ap (λ u. node shape.BreakStatement [] 0 (u ▸ none)) (absent_is a e)
leaves_now_is t e = absurd (false≢true e)

-- an `if` that leaves the loop
record Left (i x : Tree) : Type 0 where
  leaving : Leaving
  loose : is_loose leaving ≡ true
  is : i ≡ leaves_by leaving x
  goes_so : goes i ≡ goes_by leaving x
  runs_so : runs i ≡ runs_on leaving

left_if : (x b c : Tree) → (leaves_first (if_else x b c) || leaves_last (if_else x b c)) ≡ true → Left (if_else x b c) x
left_if x b c e = go (leaves_first (if_else x b c)) refl e
  where
    found : (f : Bool) → is_absent_part c ≡ f → (f || is_unscoped c) ≡ true → leaves_now b ≡ true → leaves_first (if_else x b c) ≡ true → Left (if_else x b c) x
    found true g h l k = record {
      leaving = alone;
      loose = refl;
      is = ap (λ u. if_else x u c) (leaves_now_is b l) ∙ ap (if_else x bare_break) (absent_is c g);
      goes_so = ap (λ a. if a then negation x else x) k;
      runs_so = ap (λ a. if a then or_empty c else b) k ∙ ap (λ a. if a then empty_statement else c) g;
    }
    found false g h l k = record {
      leaving = or_else c;
      loose = h;
      is = ap (λ u. if_else x u c) (leaves_now_is b l);
      goes_so = ap (λ a. if a then negation x else x) k;
      runs_so = ap (λ a. if a then or_empty c else b) k ∙ ap (λ a. if a then empty_statement else c) g;
    }

    go : (f : Bool) → leaves_first (if_else x b c) ≡ f → (f || leaves_last (if_else x b c)) ≡ true → Left (if_else x b c) x
    go true g h = let (l, k) = and_parts (leaves_now b) (is_absent_part c || is_unscoped c) g in found (is_absent_part c) refl k l g
    go false g h =
        let (l, k) = and_parts (leaves_now c) (is_unscoped b) h in
        record {
          leaving = unless b;
          loose = k;
          is = ap (if_else x b) (leaves_now_is c l);
          goes_so = ap (λ a. if a then negation x else x) g;
          runs_so = ap (λ a. if a then or_empty c else b) g;
        }

-- a body that begins so
record LeftBody (b : Tree) : Type 0 where
  leading : Leading
  leaving : Leaving
  x : Tree
  asked : is_test x ≡ true
  loose : is_loose leaving ≡ true
  unscoped : are_unscoped (others_of leading) ≡ true
  is : b ≡ led leading (leaves_by leaving x)
  goes_so : body_goes b ≡ goes_by leaving x
  runs_so : body_runs b ≡ led leading (runs_on leaving)

leaves_is : (i : Tree) → leaves i ≡ true → (x : Tree) × Left i x × (is_test x ≡ true)
leaves_is i e =
    let (statement, rest) = and_parts (is_if_statement i) ((leaves_first i || leaves_last i) && is_test (part i 0)) e in
    let (l, t) = and_parts (leaves_first i || leaves_last i) (is_test (part i 0)) rest in
    (part i 0, if_left i (if_statement_is i statement) l, t)
  where
    if_left : (i : Tree) → i ≡ if_else (part i 0) (part i 1) (part i 2) → (leaves_first i || leaves_last i) ≡ true → Left i (part i 0)
    if_left i s l =
        let m = left_if (part i 0) (part i 1) (part i 2) l in
        record { leaving = m.leaving; loose = m.loose; is = s ∙ m.is; goes_so = m.goes_so; runs_so = m.runs_so }

whole_left : (b : Tree) → leaves b ≡ true → is_block b ≡ false → LeftBody b
whole_left b e h =
    let (x, m, t) = leaves_is b e in
    record {
      leading = whole;
      leaving = m.leaving;
      x = x;
      asked = t;
      loose = m.loose;
      unscoped = refl;
      is = m.is;
      goes_so = ap (λ a. if a then goes (child_or_absent (children (part b 0)) 0) else goes b) h ∙ m.goes_so;
      runs_so = ap (λ a. if a then block (with_child (children (part b 0)) 0 (runs (child_or_absent (children (part b 0)) 0))) else runs b) h ∙ m.runs_so;
    }

-- a block that does
pub record LedBlock (b : Tree) : Type 0 where
  pub others : Trees
  pub leaving : Leaving
  pub x : Tree
  pub asked : is_test x ≡ true
  pub loose : is_loose leaving ≡ true
  pub all : children (part b 0) ≡ leaves_by leaving x ▸ others
  pub is : b ≡ block (leaves_by leaving x ▸ others)
  pub goes_so : body_goes b ≡ goes_by leaving x
  pub runs_so : body_runs b ≡ block (runs_on leaving ▸ others)

list_left : (b : Tree) (ts : Trees) → is_block b ≡ true → children (part b 0) ≡ ts → leaves (child_or_absent ts 0) ≡ true → LedBlock b
list_left b none h k e = absurd (false≢true e)
list_left b (t ▸ ts) h k e =
    let (x, m, a) = leaves_is t e in
    record {
      others = ts;
      leaving = m.leaving;
      x = x;
      asked = a;
      loose = m.loose;
      all = k ∙ ap (λ c. c ▸ ts) m.is;
      is = block_is b h ∙ ap block (k ∙ ap (λ c. c ▸ ts) m.is);
      goes_so = ap (λ a. if a then goes (child_or_absent (children (part b 0)) 0) else goes b) h ∙ ap (λ us. goes (child_or_absent us 0)) k ∙ m.goes_so;
      runs_so = ap (λ a. if a then block (with_child (children (part b 0)) 0 (runs (child_or_absent (children (part b 0)) 0))) else runs b) h ∙ ap (λ us. block (with_child us 0 (runs (child_or_absent us 0)))) k ∙ ap (λ c. block (c ▸ ts)) m.runs_so;
    }

pub led_block : (b : Tree) → leads b ≡ true → LedBlock b
led_block b e = let (h, l) = and_parts (is_block b) (leaves (child_or_absent (children (part b 0)) 0)) e in list_left b (children (part b 0)) h refl l

body_left : (b : Tree) → body_leaves b ≡ true → LeftBody b
body_left b e = go (is_block b) refl
  where
    go : (f : Bool) → is_block b ≡ f → LeftBody b
    go false h = whole_left b (plain_leaves b (body_so b e) h) h
    go true h =
        let (l, u) = and_parts (leads b) (are_unscoped (children (part b 0))) (block_begins b e h) in
        let m = led_block b l in
        record {
          leading = before m.others;
          leaving = m.leaving;
          x = m.x;
          asked = m.asked;
          loose = m.loose;
          unscoped = (and_parts (is_unscoped (leaves_by m.leaving m.x)) (are_unscoped m.others) (sym (ap are_unscoped m.all) ∙ u)).1;
          is = m.is;
          goes_so = m.goes_so;
          runs_so = m.runs_so;
        }

-- its test
pub record TestedBy (t : Tree) : Type 0 where
  pub tested : Tested
  pub may : is_tested tested ≡ true
  pub is : t ≡ test_of tested
  pub also_so : (x : Tree) → also t x ≡ loops.also tested x

pub tested_by : (t : Tree) → may_test t ≡ true → TestedBy t
tested_by t e = go (is_absent_part t) refl e
  where
    go : (f : Bool) → is_absent_part t ≡ f → (f || is_there t) ≡ true → TestedBy t
    go true h k = record { tested = always; may = refl; is = absent_is t h; also_so = λ x. ap (λ a. if a then x else logical And t x) h }
    go false h k = record { tested = while_true t; may = k; is = refl; also_so = λ x. ap (λ a. if a then x else logical And t x) h }

pub four_put : (t : Tree) (x y : Tree) → is_for t ≡ true → node shape.ForStatement [] 0 (with_child (with_child (children t) 3 x) 1 y) ≡ for_loop (part t 0) y (part t 2) x
four_put (node shape.ForStatement [] zero (a ▸ (b ▸ (c ▸ (d ▸ none))))) x y e = refl
four_put t x y e = absurd (false≢true e)

pub row_of : (t : Tree) → is_leaving_for t ≡ true → Row84 t (with_test t)
row_of t e =
    let (is, rest) = and_parts (is_for t) (may_test (part t 1) && body_leaves (part t 3)) e in
    let (m, l) = and_parts (may_test (part t 1)) (body_leaves (part t 3)) rest in
    let test = tested_by (part t 1) m in
    let body = body_left (part t 3) l in
    record {
      init = part t 0;
      test = test.tested;
      update = part t 2;
      leading = body.leading;
      leaving = body.leaving;
      x = body.x;
      asked = body.asked;
      tested = test.may;
      loose = body.loose;
      unscoped = body.unscoped;
      shape = for_is t is ∙ (λ k. for_loop (part t 0) (test.is k) (part t 2) (body.is k));
      written = four_put t (body_runs (part t 3)) (also (part t 1) (body_goes (part t 3))) is ∙ (λ k. for_loop (part t 0) (also (part t 1) (body.goes_so k)) (part t 2) (body.runs_so k)) ∙ ap (λ u. for_loop (part t 0) u (part t 2) (led body.leading (runs_on body.leaving))) (test.also_so (goes_by body.leaving body.x));
    }

-- ---- where nothing is written the row doesn't read it

or_true : (a b : Bool) → b ≡ true → (a || b) ≡ true
or_true true b e = refl
or_true false b e = e

pub and_true : (a b : Bool) → a ≡ true → b ≡ true → (a && b) ≡ true
and_true true b e f = f
and_true false b e f = absurd (false≢true e)

pub by_leaves : (l : Leaving) (x : Tree) → is_test x ≡ true → is_loose l ≡ true → leaves (leaves_by l x) ≡ true
by_leaves alone x t h = t
by_leaves (or_else s) x t h = and_true (((is_absent_part s || is_unscoped s)) || leaves_last (if_else x bare_break s)) (is_test x) (ap (λ b. b || leaves_last (if_else x bare_break s)) (or_true (is_absent_part s) (is_unscoped s) h)) t
by_leaves (unless s) x t h = and_true (leaves_first (if_else x s bare_break) || is_unscoped s) (is_test x) (or_true (leaves_first (if_else x s bare_break)) (is_unscoped s) h) t

pub loose_if : (l : Leaving) (x : Tree) → is_unscoped (leaves_by l x) ≡ true
loose_if alone x = refl
loose_if (or_else s) x = refl
loose_if (unless s) x = refl

led_leaves : (d : Leading) (l : Leaving) (x : Tree) → is_test x ≡ true → is_loose l ≡ true → are_unscoped (others_of d) ≡ true → body_leaves (led d (leaves_by l x)) ≡ true
led_leaves whole l x t h u = ap (λ b. b || begins_leaving (leaves_by l x)) (by_leaves l x t h)
led_leaves (before ts) l x t h u = and_true (leaves (leaves_by l x)) (are_unscoped (leaves_by l x ▸ ts)) (by_leaves l x t h) (and_true (is_unscoped (leaves_by l x)) (are_unscoped ts) (loose_if l x) u)

pub of_tested : (t : Tested) → is_tested t ≡ true → may_test (test_of t) ≡ true
of_tested always h = refl
of_tested (while_true t) h = or_true (is_absent_part t) (is_there t) h

pub misses : (t w : Tree) → is_leaving_for t ≡ false → Row84 t w → ⊥
misses t w e r =
    false≢true (sym e ∙ ap is_leaving_for r.shape
    ∙ and_true (may_test (test_of r.test)) (body_leaves (led r.leading (leaves_by r.leaving r.x))) (of_tested r.test r.tested) (led_leaves r.leading r.leaving r.x r.asked r.loose r.unscoped))
