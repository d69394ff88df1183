-- The rewrite of a `switch` of one case is that of the row 80, and always lighter.
use Rattle.std.proofs.Common.{◌≡◌, ℕ, zero, suc, ◌+◌, ◌-◌, ◌<◌, ◌≤◌, Bool, true, false, [], refl, sym, ap, ◌∙◌, inl, inr, arith}
use Rattle.std.specs.Prelude.{◌&&◌, ◌||◌, not, if◌then◌else◌}
use Rattle.std.proofs.lemmas.Bool.{and_parts, false≢true}
use Rattle.mini_model.specs.declared.operator.BinaryOperator.TheVariants.{StrictEquality}
use Rattle.mini_model.specs.declared.shape.Shape.{Shape}
use Rattle.mini_model.specs.declared.shape.Shape.TheVariants as shape
use Rattle.mini_model.specs.Paths.{append}
use Rattle.mini_model.specs.Tree.{Tree, Trees, node, none, ◌▸◌, shape_of, children, child_or_absent, count, absent, listed, expression_statement, if_alone, node_count, node_counts}
use Rattle.mini_laws.specs.Early.{jump_of, label_by, label_in, turn_of}
use Rattle.mini_node.specs.Children.{part, with_inserted, first_children, rest_children, without}
use Rattle.mini_node.specs.Kinds.{is_absent_part, is_listed}
use Rattle.mini_node.specs.Walks.{next_child, no_rest, all_first}
use Rattle.mini_rows.specs.Cases.{switch_case, one_case, bare_break, ended, lets_out, is_bare, breaks_out, any_breaks_out, OneCaseRow}
use Rattle.mini_rows.specs.Lists.{block, is_unscoped, are_unscoped, declares_nothing}
use Rattle.mini_rows.specs.Spellings.{plain, binary}
use Rattle.mini_syntax.specs.Forms.{is_plain}
use Rattle.mini_switch.specs.MinimizeSwitchStatements.{is_label_shape, has_label, is_bare_break, ends_in_break, unbroken_count, before_break, some_breaks, is_case, stay_inside, may_be_tested, can_be_inlined, enclosed, holds_one_case, the_case, inlines, inlined}
use Rattle.mini_syntax.proofs.FormsAre.{one_item, plain_is, plain_passes}

-- ---- what the tests of the code say

pub not_true : (b : Bool) → not b ≡ true → b ≡ false
not_true true e = absurd (false≢true e)
not_true false e = refl

pub below : (t : Tree) → node_counts (children t) + 1 ≡ node_count t
below (node h xs n ts) = omega arith

-- a `break` among children, from one on

pub breaks_here : (h : Shape) (ts : Trees) (i : ℕ) → i < count ts → (lets_out (turn_of h i) && breaks_out (child_or_absent ts i)) ≡ true → any_breaks_out h i (rest_children i ts) ≡ any_breaks_out h 0 ts → true ≡ any_breaks_out h 0 ts
breaks_here h ts i k e inv = sym (ap (λ b. b || any_breaks_out h (suc i) (rest_children (suc i) ts)) e) ∙ sym (ap (any_breaks_out h i) (next_child ts i k)) ∙ inv

pub breaks_later : (h : Shape) (ts : Trees) (i : ℕ) → i < count ts → (lets_out (turn_of h i) && breaks_out (child_or_absent ts i)) ≡ false → any_breaks_out h i (rest_children i ts) ≡ any_breaks_out h 0 ts → any_breaks_out h (i + 1) (rest_children (i + 1) ts) ≡ any_breaks_out h 0 ts
breaks_later h ts i k e inv =
    let next : i + 1 ≡ suc i = omega arith in
    ap (λ k. any_breaks_out h k (rest_children k ts)) next ∙ sym (ap (λ b. b || any_breaks_out h (suc i) (rest_children (suc i) ts)) e) ∙ sym (ap (any_breaks_out h i) (next_child ts i k)) ∙ inv

pub breaks_nowhere : (h : Shape) (ts : Trees) (i : ℕ) → count ts ≤ i → any_breaks_out h i (rest_children i ts) ≡ any_breaks_out h 0 ts → false ≡ any_breaks_out h 0 ts
breaks_nowhere h ts i k inv = sym (ap (any_breaks_out h i) (no_rest ts i k)) ∙ inv

-- and among the first statements

pub none_first : (ts : Trees) → some_breaks (first_children 0 ts) ≡ false
none_first none = refl
none_first (t ▸ ts) = refl

or_second : (a b : Bool) → b ≡ true → (a || b) ≡ true
or_second true b e = refl
or_second false b e = e

pub found_first : (ts : Trees) (i k : ℕ) → i < k → i < count ts → breaks_out (child_or_absent ts i) ≡ true → some_breaks (first_children k ts) ≡ true
found_first none i k h c e = absurd (omega (arith, c))
found_first (t ▸ ts) i zero h c e = absurd (omega (arith, h))
found_first (t ▸ ts) zero (suc k) h c e = ap (λ b. b || some_breaks (first_children k ts)) e
found_first (t ▸ ts) (suc i) (suc k) h c e = or_second (breaks_out t) (some_breaks (first_children k ts)) (found_first ts i k (omega (arith, h)) (omega (arith, c)) e)

or_parts : (a b : Bool) → (a || b) ≡ false → (a ≡ false) × (b ≡ false)
or_parts true b e = absurd (false≢true (sym e))
or_parts false b e = (refl, e)

pub step_first : (ts : Trees) (i : ℕ) → i < count ts → breaks_out (child_or_absent ts i) ≡ false → some_breaks (first_children i ts) ≡ false → some_breaks (first_children (i + 1) ts) ≡ false
step_first ts i c e f = let next : i + 1 ≡ suc i = omega arith in ap (λ k. some_breaks (first_children k ts)) next ∙ go ts i c e f
  where
    go : (ts : Trees) (i : ℕ) → i < count ts → breaks_out (child_or_absent ts i) ≡ false → some_breaks (first_children i ts) ≡ false → some_breaks (first_children (suc i) ts) ≡ false
    go none i c e f = refl
    go (t ▸ none) zero c e f = ap (λ b. b || false) e
    go (t ▸ (u ▸ ts)) zero c e f = ap (λ b. b || false) e
    go (t ▸ ts) (suc i) c e f =
        let (own, rest) = or_parts (breaks_out t) (some_breaks (first_children i ts)) f in
        ap (λ b. b || some_breaks (first_children (suc i) ts)) own ∙ go ts i (omega (arith, c)) e rest

-- the last of some statements

pub nothing_last : (ts : Trees) → count ts ≤ 0 → ends_in_break ts ≡ false
nothing_last none e = refl
nothing_last (t ▸ ts) e = absurd (omega (arith, e))

pub without_last : (ts : Trees) → 0 < count ts → without ts (count ts - 1) ≡ first_children (count ts - 1) ts
without_last ts h = go (count ts - 1) ts (omega (arith, h))
  where
    go : (k : ℕ) (ts : Trees) → count ts ≡ suc k → without ts k ≡ first_children k ts
    go k none e = absurd (omega (arith, e))
    go zero (t ▸ none) e = refl
    go zero (t ▸ (u ▸ ts)) e = absurd (omega (arith, e))
    go (suc k) (t ▸ ts) e = ap (λ us. t ▸ us) (go k ts (omega (arith, e)))

pub inserted_first : (ts : Trees) (x : Tree) → with_inserted ts 0 x ≡ x ▸ ts
inserted_first none x = refl
inserted_first (t ▸ ts) x = refl

-- a `break` itself

label_is : (h : Shape) → is_bare (jump_of shape.BreakStatement) (label_by h) ≡ not (is_label_shape h)
label_is (shape.IdentifierName s) = refl
label_is h = refl

pub break_is_bare : (t : Tree) → shape_of t ≡ shape.BreakStatement → not (has_label (children t)) ≡ is_bare (jump_of (shape_of t)) (label_in (children t))
break_is_bare t e = sym (ap (λ h. is_bare (jump_of h) (label_in (children t))) e ∙ label_is (shape_of (child_or_absent (children t) 0)))

pub no_label : (ts : Trees) → count ts ≤ 0 → has_label ts ≡ false
no_label none e = refl
no_label (t ▸ ts) e = absurd (omega (arith, e))

pub all_there : (ts : Trees) → ends_in_break ts ≡ false → ts ≡ before_break ts
all_there ts e = sym (ap (λ b. first_children (if b then count ts - 1 else count ts) ts) e ∙ all_first ts (count ts) (omega arith))

-- ---- what the forms are

pub listed_is : (t : Tree) → is_listed t ≡ true → t ≡ listed (children t)
listed_is (node shape.Listed [] zero ts) e = refl
listed_is t e = absurd (false≢true e)

pub case_is : (c : Tree) → is_case c ≡ true → c ≡ switch_case (part c 0) (children (part c 1))
case_is (node shape.SwitchCase [] zero (x ▸ (b ▸ none))) e = ap (λ y. node shape.SwitchCase [] 0 (x ▸ (y ▸ none))) (listed_is b e)
case_is t e = absurd (false≢true e)

pub switch_is : (t : Tree) → holds_one_case t ≡ true → is_case (the_case t) ≡ true → t ≡ one_case (part t 0) (part (the_case t) 0) (children (part (the_case t) 1))
switch_is (node shape.SwitchStatement [] zero (d ▸ (cs ▸ none))) e f =
    ap (λ y. node shape.SwitchStatement [] 0 (d ▸ (y ▸ none))) (one_item cs e ∙ ap (λ c. listed (c ▸ none)) (case_is (part cs 0) f))
switch_is t e f = absurd (false≢true e)

pub absent_is : (x : Tree) → is_absent_part x ≡ true → x ≡ absent
absent_is (node shape.Absent [] zero none) e = refl
absent_is t e = absurd (false≢true e)

break_is : (t : Tree) → is_bare_break t ≡ true → t ≡ bare_break
break_is (node shape.BreakStatement [] zero (a ▸ none)) e = ap (λ y. node shape.BreakStatement [] 0 (y ▸ none)) (absent_is a e)
break_is t e = absurd (false≢true e)

-- ---- a last `break;`

last_is : (k : ℕ) (ts : Trees) → count ts ≡ suc k → is_bare_break (child_or_absent ts k) ≡ true → ts ≡ append (first_children k ts) (bare_break ▸ none)
last_is k none c e = absurd (omega (arith, c))
last_is zero (t ▸ none) c e = ap (λ y. y ▸ none) (break_is t e)
last_is zero (t ▸ (u ▸ ts)) c e = absurd (omega (arith, c))
last_is (suc k) (t ▸ ts) c e = ap (λ us. t ▸ us) (last_is k ts (omega (arith, c)) e)

pub statements_are : (ts : Trees) → ts ≡ ended (ends_in_break ts) (before_break ts)
statements_are ts = go (ends_in_break ts) refl
  where
    there : (ts : Trees) → ends_in_break ts ≡ true → 0 < count ts
    there none e = absurd (false≢true e)
    there (t ▸ ts) e = omega arith

    go : (b : Bool) → ends_in_break ts ≡ b → ts ≡ ended b (first_children (if b then count ts - 1 else count ts) ts)
    go true e = let some = there ts e in last_is (count ts - 1) ts (omega (arith, some)) e
    go false e = sym (all_first ts (count ts) (omega arith))

pub listed_breaks : (i : ℕ) (ts : Trees) → any_breaks_out shape.Listed i ts ≡ some_breaks ts
listed_breaks i none = refl
listed_breaks i (t ▸ ts) = ap (λ b. breaks_out t || b) (listed_breaks (suc i) ts)

child_stays : (ts : Trees) (i : ℕ) → some_breaks ts ≡ false → breaks_out (child_or_absent ts i) ≡ false
child_stays none i e = refl
child_stays (t ▸ ts) zero e = (or_parts (breaks_out t) (some_breaks ts) e).0
child_stays (t ▸ ts) (suc i) e = child_stays ts i (or_parts (breaks_out t) (some_breaks ts) e).1

no_break_last : (ts : Trees) → some_breaks ts ≡ false → ends_in_break ts ≡ false
no_break_last ts e = go (ends_in_break ts) refl
  where
    go : (b : Bool) → ends_in_break ts ≡ b → b ≡ false
    go true h = absurd (false≢true (sym (child_stays ts (count ts - 1) e) ∙ ap breaks_out (break_is (child_or_absent ts (count ts - 1)) h)))
    go false h = refl

count_longer : (ss : Trees) → count (append ss (bare_break ▸ none)) ≡ suc (count ss)
count_longer none = refl
count_longer (t ▸ ss) = ap suc (count_longer ss)

child_longer : (ss : Trees) → child_or_absent (append ss (bare_break ▸ none)) (count ss) ≡ bare_break
child_longer none = refl
child_longer (t ▸ ss) = child_longer ss

first_longer : (ss : Trees) → first_children (count ss) (append ss (bare_break ▸ none)) ≡ ss
first_longer none = refl
first_longer (t ▸ ss) = ap (λ us. t ▸ us) (first_longer ss)

pub before_is : (b : Bool) (ss : Trees) → some_breaks ss ≡ false → before_break (ended b ss) ≡ ss
before_is false ss e = ap (λ b. first_children (if b then count ss - 1 else count ss) ss) (no_break_last ss e) ∙ all_first ss (count ss) (omega arith)
before_is true ss e =
    let more = count_longer ss in
    let one : count (append ss (bare_break ▸ none)) - 1 ≡ count ss = omega (arith, more) in
    ap (λ b. first_children (if b then count (append ss (bare_break ▸ none)) - 1 else count (append ss (bare_break ▸ none))) (append ss (bare_break ▸ none))) (ap (λ i. is_bare_break (child_or_absent (append ss (bare_break ▸ none)) i)) one ∙ ap is_bare_break (child_longer ss))
    ∙ ap (λ i. first_children i (append ss (bare_break ▸ none))) one ∙ first_longer ss

-- ---- what is written is what the row writes

unscoped_ended : (b : Bool) (ss : Trees) → are_unscoped (ended b ss) ≡ are_unscoped ss
unscoped_ended false ss = refl
unscoped_ended true none = refl
unscoped_ended true (t ▸ ss) = ap (λ b. is_unscoped t && b) (unscoped_ended true ss)

module _ (t : Tree) (h : inlines t ≡ true) where
  abbrev statements : Trees
  statements = children (part (the_case t) 1)

  abbrev test : Tree
  test = part (the_case t) 0

  abbrev left : Trees
  left = before_break statements

  unscoped_left : are_unscoped statements ≡ are_unscoped left
  unscoped_left = ap are_unscoped (statements_are statements) ∙ unscoped_ended (ends_in_break statements) left

  abbrev chosen : Bool → Tree
  chosen b = if b then block (expression_statement (part t 0) ▸ enclosed left) else if_alone (binary StrictEquality (part t 0) test) (block left)

  abbrev by_default : Bool → Tree
  by_default b = block (expression_statement (part t 0) ▸ (if b then left else (block left ▸ none)))

  pub row_of : OneCaseRow t (inlined t)
  row_of =
      let (one, rest) = and_parts (holds_one_case t) (declares_nothing (part t 0) && can_be_inlined (the_case t)) h in
      let (value, inlinable) = and_parts (declares_nothing (part t 0)) (can_be_inlined (the_case t)) rest in
      let (case, more) = and_parts (is_case (the_case t)) (may_be_tested test statements && stay_inside statements) inlinable in
      let (tested, stays) = and_parts (may_be_tested test statements) (stay_inside statements) more in
      let is = switch_is t one case ∙ ap (one_case (part t 0) test) (statements_are statements) in
      go (is_absent_part test) refl value (listed_breaks 0 left ∙ not_true (some_breaks left) stays) is tested
    where
      default_by : (b : Bool) → are_unscoped left ≡ b → declares_nothing (part t 0) ≡ true → breaks_out (listed left) ≡ false → t ≡ one_case (part t 0) absent (ended (ends_in_break statements) left) → inlined t ≡ by_default b → OneCaseRow t (inlined t)
      default_by true u value stays is w = inr (inl (record { discriminant = part t 0; statements = left; is_ended = ends_in_break statements; value = value; unscoped = u; stays = stays; shape = is; written = w }))
      default_by false u value stays is w = inr (inr (record { discriminant = part t 0; statements = left; is_ended = ends_in_break statements; value = value; scoped = u; stays = stays; shape = is; written = w }))

      go : (b : Bool) → is_absent_part test ≡ b → declares_nothing (part t 0) ≡ true → breaks_out (listed left) ≡ false → t ≡ one_case (part t 0) test (ended (ends_in_break statements) left) → (b || (is_plain test && are_unscoped statements)) ≡ true → OneCaseRow t (inlined t)
      go true e value stays is f =
          default_by (are_unscoped left) refl value stays (is ∙ ap (λ x. one_case (part t 0) x (ended (ends_in_break statements) left)) (absent_is test e)) (ap chosen e)
      go false e value stays is f =
          let (written_out, unscoped) = and_parts (is_plain test) (are_unscoped statements) f in
          let form = plain_is test written_out in
          inl (record { discriminant = part t 0; test = form.0; statements = left; is_ended = ends_in_break statements; value = value; unscoped = sym unscoped_left ∙ unscoped; stays = stays; shape = is ∙ ap (λ x. one_case (part t 0) x (ended (ends_in_break statements) left)) form.1; written = ap chosen e ∙ ap (λ x. if_alone (binary StrictEquality (part t 0) x) (block left)) form.1 })

-- ---- where nothing is written the row doesn't read it

both_true : (a b : Bool) → a ≡ true → b ≡ true → (a && b) ≡ true
both_true a b e f = ap (λ c. c && b) e ∙ f

stays_so : (b : Bool) (ss : Trees) → breaks_out (listed ss) ≡ false → stay_inside (ended b ss) ≡ true
stays_so b ss s = let calm = sym (listed_breaks 0 ss) ∙ s in ap not (ap some_breaks (before_is b ss calm) ∙ calm)

default_passes : (d : Tree) (b : Bool) (ss : Trees) → declares_nothing d ≡ true → breaks_out (listed ss) ≡ false → inlines (one_case d absent (ended b ss)) ≡ true
default_passes d b ss v s = both_true (declares_nothing d) (can_be_inlined (switch_case absent (ended b ss))) v (stays_so b ss s)

passes : (n w : Tree) → OneCaseRow n w → inlines n ≡ true
passes n w (inl r) =
    let left = ended r.is_ended r.statements in
    ap inlines r.shape
    ∙ both_true (declares_nothing r.discriminant) (can_be_inlined (switch_case (plain r.test) left)) r.value
    (both_true (may_be_tested (plain r.test) left) (stay_inside left)
    (or_second (is_absent_part (plain r.test)) (is_plain (plain r.test) && are_unscoped left) (both_true (is_plain (plain r.test)) (are_unscoped left) (plain_passes r.test) (unscoped_ended r.is_ended r.statements ∙ r.unscoped)))
    (stays_so r.is_ended r.statements r.stays))
passes n w (inr (inl r)) = ap inlines r.shape ∙ default_passes r.discriminant r.is_ended r.statements r.value r.stays
passes n w (inr (inr r)) = ap inlines r.shape ∙ default_passes r.discriminant r.is_ended r.statements r.value r.stays

pub never : (n w : Tree) → inlines n ≡ false → OneCaseRow n w → ⊥
never n w e r = false≢true (sym e ∙ passes n w r)
