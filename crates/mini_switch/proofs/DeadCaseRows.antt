-- The rewrite of a `switch` over a value that is known is that of the rows 81, and always lighter.
use Rattle.std.proofs.Common.{◌≡◌, ℕ, zero, suc, ◌+◌, ◌-◌, ◌<◌, Bool, true, false, Some, None, Option, refl, sym, ap, subst, ◌∙◌, inl, inr, arith}
use Rattle.std.specs.Prelude.{◌⊎◌, ◌&&◌, ◌||◌, nat_lt, List, [], is_some, unwrap_or, if◌then◌else◌}
use Rattle.std.proofs.lemmas.Bool.{and_parts, false≢true}
use Rattle.mini_model.specs.declared.place.Position.TheVariants.{Stmt}
use Rattle.mini_model.specs.declared.seat.StmtSeat.{StmtSeat}
use Rattle.mini_model.specs.declared.shape.Shape.TheVariants as shape
use Rattle.mini_model.specs.Tree.{Tree, Trees, node, none, ◌▸◌, shape_of, children, count, absent, listed}
use Rattle.mini_laws.specs.Value.{Value}
use Rattle.mini_laws.specs.Operators.{strictly_equal}
use Rattle.mini_node.specs.Children.{part, first_children, rest_children}
use Rattle.mini_node.specs.Kinds.{is_absent_part}
use Rattle.mini_rows.specs.Branches.{SwitchRow}
use Rattle.mini_rows.specs.Cases.{switch_case}
use Rattle.mini_model.specs.Paths.{append}
use Rattle.mini_rows.specs.DeadCases.{asked, tested, Choices, no_choices, choice, cases_of, before_others, switch_over, are_loose, left_cases, cases_go, running, rest_goes, Missed, AllMissed, AllPassed, Taken, are_several, DeadCaseRow}
use Rattle.mini_rows.specs.Lists.{switch}
use Rattle.mini_rows.proofs.BranchWeights.{branch_lighter}
use Rattle.mini_tree.specs.Rule.{Applied}
use Rattle.mini_tree.proofs.Reaching.{moves_once}
use Rattle.mini_syntax.specs.Forms.{first_of}
use Rattle.mini_switch.specs.MinimizeSwitchStatements.{is_case, inlines, inlined, Gives, Rests}
use Rattle.mini_switch.specs.DropUnreachableSwitchCases.{are_cases, choices_of, verdict_by, verdict, selected_by, selected, any_default, two_defaults, default_left, only_default, or_default, entry, later_go, others_go, place_by, holds_cases, is_read, place_over, place, left_by, left_at, dropped_at, written_by, either_written}
use Rattle.mini_switch.proofs.Switches.{listed_is, case_is, absent_is, row_of, never}

-- ---- what the verdict says of a test

record Told (k : Value) (t : Tree) (b : Bool) : Type 0 where
  value : Value
  is : tested t ≡ Some value
  equal : strictly_equal k value ≡ b

told : (k : Value) (t : Tree) (b : Bool) → verdict k t ≡ Some b → Told k t b
told k t b e = go (tested t) refl e
  where
    go : (o : Option Value) → tested t ≡ o → verdict_by k o ≡ Some b → Told k t b
    go (Some w) h e = record { value = w; is = h; equal = ap (λ o. unwrap_or o false) e }
    go None h e = absurd (cc e)

-- it is no `default`
tested_there : (t : Tree) (w : Value) → tested t ≡ Some w → is_absent_part t ≡ false
tested_there t w e = go (is_absent_part t) refl
  where
    nothing : None ≡ Some w → ⊥
    nothing e = cc e

    go : (b : Bool) → is_absent_part t ≡ b → b ≡ false
    go true h = absurd (nothing (sym (ap tested (absent_is t h)) ∙ e))
    go false h = refl

-- ---- cases

cases_are : (ts : Trees) → are_cases ts ≡ true → ts ≡ cases_of (choices_of ts)
cases_are none e = refl
cases_are (c ▸ ts) e = let (own, rest) = and_parts (is_case c) (are_cases ts) e in λ i. case_is c own i ▸ cases_are ts rest i

choices_are : (cs : Choices) → choices_of (cases_of cs) ≡ cs
choices_are no_choices = refl
choices_are (choice t ss cs) = ap (choice t ss) (choices_are cs)

each_case : (cs : Choices) → are_cases (cases_of cs) ≡ true
each_case no_choices = refl
each_case (choice t ss cs) = each_case cs

size : Choices → ℕ
size no_choices = 0
size (choice t ss cs) = suc (size cs)

size_is : (ts : Trees) → size (choices_of ts) ≡ count ts
unfolding size
size_is none = refl
size_is (c ▸ ts) = ap suc (size_is ts)

count_is : (cs : Choices) → count (cases_of cs) ≡ size cs
unfolding size
count_is no_choices = refl
count_is (choice t ss cs) = ap suc (count_is cs)

size_before : (bs cs : Choices) → size (before_others bs cs) ≡ size bs + size cs
unfolding size
size_before no_choices cs = omega arith
size_before (choice t ss bs) cs = let rest = size_before bs cs in omega (arith, rest)

take : ℕ → Choices → Choices
take zero cs = no_choices
take (suc i) no_choices = no_choices
take (suc i) (choice t ss cs) = choice t ss (take i cs)

drop : ℕ → Choices → Choices
drop zero cs = cs
drop (suc i) no_choices = no_choices
drop (suc i) (choice t ss cs) = drop i cs

first_taken : (i : ℕ) (ts : Trees) → choices_of (first_children i ts) ≡ take i (choices_of ts)
unfolding take
first_taken zero none = refl
first_taken (suc i) none = refl
first_taken zero (c ▸ ts) = refl
first_taken (suc i) (c ▸ ts) = ap (choice (part c 0) (children (part c 1))) (first_taken i ts)

rest_dropped : (i : ℕ) (ts : Trees) → choices_of (rest_children i ts) ≡ drop i (choices_of ts)
unfolding drop
rest_dropped zero none = refl
rest_dropped (suc i) none = refl
rest_dropped zero (c ▸ ts) = refl
rest_dropped (suc i) (c ▸ ts) = rest_dropped i ts

take_before : (bs cs : Choices) → take (size bs) (before_others bs cs) ≡ bs
unfolding take size
take_before no_choices cs = refl
take_before (choice t ss bs) cs = ap (choice t ss) (take_before bs cs)

drop_before : (bs cs : Choices) → drop (size bs) (before_others bs cs) ≡ cs
unfolding drop size
drop_before no_choices cs = refl
drop_before (choice t ss bs) cs = drop_before bs cs

take_all : (cs : Choices) → take (size cs) cs ≡ cs
unfolding take size
take_all no_choices = refl
take_all (choice t ss cs) = ap (choice t ss) (take_all cs)

drop_all : (cs : Choices) → drop (size cs) cs ≡ no_choices
unfolding drop size
drop_all no_choices = refl
drop_all (choice t ss cs) = drop_all cs

-- ---- which case is taken, as the code finds it

-- some cases with one among them, from which on so many stand
record Split (ts : Trees) (r : ℕ) : Type 0 where
  before : Choices
  test : Tree
  statements : Trees
  after : Choices
  is : choices_of ts ≡ before_others before (choice test statements after)
  left : size (choice test statements after) ≡ r

split_more : (c : Tree) (cs : Trees) (r : ℕ) → Split cs r → Split (c ▸ cs) r
split_more c cs r s = record { before = choice (part c 0) (children (part c 1)) s.before; test = s.test; statements = s.statements; after = s.after; is = ap (choice (part c 0) (children (part c 1))) s.is; left = s.left }

split_here : (c : Tree) (cs : Trees) → Split (c ▸ cs) (count (c ▸ cs))
unfolding size
split_here c cs = record { before = no_choices; test = part c 0; statements = children (part c 1); after = choices_of cs; is = refl; left = ap suc (size_is cs) }

module _ (k : Value) where
  some_is : {a b : ℕ} → Some a ≡ Some b → a ≡ b
  some_is e = ap (λ o. unwrap_or o 0) e

  -- from a case on, or from a later one on
  Step : Tree → Trees → ℕ → Type 0
  Step c cs r = ((verdict k (part c 0) ≡ Some true) × (count (c ▸ cs) ≡ r)) ⊎ ((Missed k (part c 0) ⊎ (part c 0 ≡ absent)) × (selected k cs ≡ Some r))

  stepped : (c : Tree) (cs : Trees) (r : ℕ) → selected k (c ▸ cs) ≡ Some r → Step c cs r
  unfolding Step
  stepped c cs r e = go (verdict k (part c 0)) (is_absent_part (part c 0)) refl refl e
    where
      go : (o : Option Bool) (a : Bool) → verdict k (part c 0) ≡ o → is_absent_part (part c 0) ≡ a → selected_by o a (count (c ▸ cs)) (selected k cs) ≡ Some r → Step c cs r
      go (Some true) a h f e = inl (h, some_is e)
      go (Some false) a h f e = let s = told k (part c 0) false h in inr (inl (record { value = s.value; is = s.is; other = s.equal }), e)
      go None true h f e = inr (inr (absent_is (part c 0) f), e)
      go None false h f e = absurd (cc e)

  record Found (ts : Trees) (r : ℕ) : Type 0 where
    split : Split ts r
    passed : AllPassed k split.before
    same : verdict k split.test ≡ Some true

  found : (ts : Trees) (r : ℕ) → selected k ts ≡ Some (suc r) → Found ts (suc r)
  unfolding split_more split_here Step
  found none r e = let no : 0 ≡ suc r = some_is e in absurd (omega (arith, no))
  found (c ▸ cs) r e = by (stepped c cs (suc r) e) (λ h. found cs r h)
    where
      by : Step c cs (suc r) → (selected k cs ≡ Some (suc r) → Found cs (suc r)) → Found (c ▸ cs) (suc r)
      by (inl (s, n)) rec = subst (Found (c ▸ cs)) n (record { split = split_here c cs; passed = tt; same = s })
      by (inr (p, h)) rec = let later = rec h in record { split = split_more c cs (suc r) later.split; passed = (p, later.passed); same = later.same }

  all_passed : (ts : Trees) → selected k ts ≡ Some 0 → AllPassed k (choices_of ts)
  unfolding Step
  all_passed none e = tt
  all_passed (c ▸ cs) e = by (stepped c cs 0 e) (λ h. all_passed cs h)
    where
      by : Step c cs 0 → (selected k cs ≡ Some 0 → AllPassed k (choices_of cs)) → AllPassed k (choices_of (c ▸ cs))
      by (inl (s, n)) rec = absurd (omega (arith, n))
      by (inr (p, h)) rec = (p, rec h)

  passed_missed : (t : Tree) → Missed k t ⊎ (t ≡ absent) → is_absent_part t ≡ false → Missed k t
  passed_missed t (inl m) e = m
  passed_missed t (inr a) e = absurd (false≢true (sym e ∙ ap is_absent_part a))

  or_both : (a b : Bool) → (a || b) ≡ false → (a ≡ false) × (b ≡ false)
  or_both true b e = absurd (false≢true (sym e))
  or_both false b e = (refl, e)

  all_missed : (ts : Trees) → AllPassed k (choices_of ts) → any_default ts ≡ false → AllMissed k (choices_of ts)
  all_missed none p e = tt
  all_missed (c ▸ cs) p e = let (own, rest) = or_both (is_absent_part (part c 0)) (any_default cs) e in (passed_missed (part c 0) p.0 own, all_missed cs p.1 rest)

  record Fallen (ts : Trees) (r : ℕ) : Type 0 where
    split : Split ts r
    missed : AllMissed k split.before
    default : split.test ≡ absent
    later : AllMissed k split.after

  fallen_at : (ts : Trees) (r : ℕ) → AllPassed k (choices_of ts) → two_defaults ts ≡ false → default_left ts ≡ suc r → Fallen ts (suc r)
  unfolding split_more split_here
  fallen_at none r p d e = absurd (omega (arith, e))
  fallen_at (c ▸ cs) r p d e = go (is_absent_part (part c 0)) refl d e (λ f h. fallen_at cs r p.1 f h)
    where
      go : (b : Bool) → is_absent_part (part c 0) ≡ b → (if b then any_default cs else two_defaults cs) ≡ false → (if b then count (c ▸ cs) else default_left cs) ≡ suc r → (two_defaults cs ≡ false → default_left cs ≡ suc r → Fallen cs (suc r)) → Fallen (c ▸ cs) (suc r)
      go true s d e rec = subst (Fallen (c ▸ cs)) e (record { split = split_here c cs; missed = tt; default = absent_is (part c 0) s; later = all_missed cs p.1 d })
      go false s d e rec = let later = rec d e in record { split = split_more c cs (suc r) later.split; missed = (passed_missed (part c 0) p.0 s, later.missed); default = later.default; later = later.later }

  one_default : (ts : Trees) (r : ℕ) → only_default ts ≡ Some r → (two_defaults ts ≡ false) × (default_left ts ≡ r)
  one_default ts r e = go (two_defaults ts) e
    where
      go : (b : Bool) → (if b then None else Some (default_left ts)) ≡ Some r → (b ≡ false) × (default_left ts ≡ r)
      go true e = absurd (cc e)
      go false e = (refl, some_is e)

  fallen : (ts : Trees) (r : ℕ) → AllPassed k (choices_of ts) → only_default ts ≡ Some (suc r) → Fallen ts (suc r)
  fallen ts r p e = let d = one_default ts (suc r) e in fallen_at ts r p d.0 d.1

  none_left : (ts : Trees) → AllPassed k (choices_of ts) → default_left ts ≡ 0 → AllMissed k (choices_of ts)
  none_left none p e = tt
  none_left (c ▸ cs) p e = go (is_absent_part (part c 0)) refl e (λ h. none_left cs p.1 h)
    where
      go : (b : Bool) → is_absent_part (part c 0) ≡ b → (if b then count (c ▸ cs) else default_left cs) ≡ 0 → (default_left cs ≡ 0 → AllMissed k (choices_of cs)) → AllMissed k (choices_of (c ▸ cs))
      go true s e rec = absurd (omega (arith, e))
      go false s e rec = (passed_missed (part c 0) p.0 s, rec e)

  none_fallen : (ts : Trees) → AllPassed k (choices_of ts) → only_default ts ≡ Some 0 → AllMissed k (choices_of ts)
  none_fallen ts p e = none_left ts p (one_default ts 0 e).1

-- ---- what is written is what a row writes

several_is : (bs : Choices) (t : Tree) (ss : Trees) (cs : Choices) → 1 < size (before_others bs (choice t ss cs)) → are_several bs cs ≡ true
unfolding size
several_is no_choices t ss no_choices h = absurd (omega (arith, h))
several_is no_choices t ss (choice u us cs) h = refl
several_is (choice u us bs) t ss cs h = refl

more_than_one : (n : ℕ) → nat_lt 1 n ≡ true → 1 < n
more_than_one n e = grind arith

module _ (t : Tree) (k : Value) (asks : asked (part t 0) ≡ Some k) (is : t ≡ switch (part t 0) (listed (children (part t 1)))) (shaped : are_cases (children (part t 1)) ≡ true) (several : 1 < count (children (part t 1))) (loose : are_loose (choices_of (children (part t 1))) ≡ true) where
  abbrev ts : Trees
  ts = children (part t 1)

  shape_is : (cs : Choices) → choices_of ts ≡ cs → t ≡ switch_over (part t 0) cs
  shape_is cs e = is ∙ ap (λ us. switch (part t 0) (listed us)) (cases_are ts shaped ∙ ap cases_of e)

  made_is : (i : ℕ) (x : Tree) → left_at i ts ≡ x → dropped_at t i ≡ switch (part t 0) (listed (x ▸ none))
  made_is i x e = ap (λ y. switch (part t 0) (listed (y ▸ none))) e

  taken_row : (r : ℕ) (s : Split ts r) → Taken k s.before s.test s.after → others_go (count ts - r) ts ≡ true → DeadCaseRow t (dropped_at t (count ts - r))
  unfolding size
  taken_row r s taken go =
      let at : count ts - r ≡ size s.before = omega (arith, s.left, size_is ts, ap size s.is, size_before s.before (choice s.test s.statements s.after)) in
      let earlier : choices_of (first_children (count ts - r) ts) ≡ s.before = first_taken (count ts - r) ts ∙ (λ i. take (at i) (s.is i)) ∙ take_before s.before (choice s.test s.statements s.after) in
      let later : choices_of (rest_children (count ts - r) ts) ≡ choice s.test s.statements s.after = rest_dropped (count ts - r) ts ∙ (λ i. drop (at i) (s.is i)) ∙ drop_before s.before (choice s.test s.statements s.after) in
      let (gone, rest) = and_parts (cases_go (choices_of (first_children (count ts - r) ts))) (later_go (choices_of (rest_children (count ts - r) ts))) go in
      inl (record {
        discriminant = part t 0;
        value = k;
        asks = asks;
        before = s.before;
        test = s.test;
        statements = s.statements;
        after = s.after;
        taken = taken;
        several = several_is s.before s.test s.statements s.after (omega (arith, several, size_is ts, ap size s.is));
        loose = sym (ap are_loose s.is) ∙ loose;
        dropped = sym (ap cases_go earlier) ∙ gone;
        rest_dropped = sym (ap later_go later) ∙ rest;
        shape = shape_is (before_others s.before (choice s.test s.statements s.after)) s.is;
        written = made_is (count ts - r) (switch_case s.test (append (left_cases s.before) (running s.statements s.after))) (λ i. left_by (choices_of ts) (earlier i) (later i));
      })

  none_row : AllMissed k (choices_of ts) → others_go (count ts - 0) ts ≡ true → DeadCaseRow t (dropped_at t (count ts - 0))
  unfolding size
  none_row missed go =
      let at : count ts - 0 ≡ size (choices_of ts) = omega (arith, size_is ts) in
      let (gone, rest) = and_parts (cases_go (choices_of (first_children (count ts - 0) ts))) (later_go (choices_of (rest_children (count ts - 0) ts))) go in
      let earlier : choices_of (first_children (count ts - 0) ts) ≡ choices_of ts = first_taken (count ts - 0) ts ∙ ap (λ i. take i (choices_of ts)) at ∙ take_all (choices_of ts) in
      let later : choices_of (rest_children (count ts - 0) ts) ≡ no_choices = rest_dropped (count ts - 0) ts ∙ ap (λ i. drop i (choices_of ts)) at ∙ drop_all (choices_of ts) in
      by (choices_of ts) refl missed (sym (ap cases_go earlier) ∙ gone) (ap (left_by (choices_of ts) (choices_of (first_children (count ts - 0) ts))) later) (omega (arith, several, size_is ts)) loose
    where
      by : (cs : Choices) → choices_of ts ≡ cs → AllMissed k cs → cases_go cs ≡ true → left_at (count ts - 0) ts ≡ left_by (choices_of ts) (choices_of (first_children (count ts - 0) ts)) no_choices → 1 < size cs → are_loose cs ≡ true → DeadCaseRow t (dropped_at t (count ts - 0))
      by no_choices e m g l h u = absurd (omega (arith, h))
      by (choice x ss cs) e m g l h u = inr (record {
        discriminant = part t 0;
        value = k;
        asks = asks;
        test = x;
        statements = ss;
        after = cs;
        missed = m;
        several = several_is no_choices x ss cs h;
        loose = u;
        dropped = g;
        shape = shape_is (choice x ss cs) e;
        written = made_is (count ts - 0) (switch_case x (left_cases (choice x ss cs))) (l ∙ ap (λ c. left_by c (choices_of (first_children (count ts - 0) ts)) no_choices) e);
      })

  entered_row : (i : ℕ) → place_by ts (entry k ts) ≡ Some i → DeadCaseRow t (dropped_at t i)
  entered_row i e = by_selected (selected k ts) refl e
    where
      some_place : {a b : ℕ} → Some a ≡ Some b → a ≡ b
      some_place e = ap (λ o. unwrap_or o 0) e

      placed : (r : ℕ) → place_by ts (Some r) ≡ Some i → (others_go (count ts - r) ts ≡ true) × (count ts - r ≡ i)
      placed r e = go (others_go (count ts - r) ts) e
        where
          go : (b : Bool) → (if b then Some (count ts - r) else None) ≡ Some i → (b ≡ true) × (count ts - r ≡ i)
          go true e = (refl, some_place e)
          go false e = absurd (cc e)

      row_at : (r : ℕ) → count ts - r ≡ i → DeadCaseRow t (dropped_at t (count ts - r)) → DeadCaseRow t (dropped_at t i)
      row_at r e row = subst (λ j. DeadCaseRow t (dropped_at t j)) e row

      by_default : AllPassed k (choices_of ts) → (o : Option ℕ) → only_default ts ≡ o → place_by ts o ≡ Some i → DeadCaseRow t (dropped_at t i)
      by_default p None f e = absurd (cc e)
      by_default p (Some zero) f e = let (go, at) = placed 0 e in row_at 0 at (none_row (none_fallen k ts p f) go)
      by_default p (Some (suc r)) f e =
          let (go, at) = placed (suc r) e in
          let d = fallen k ts r p f in
          row_at (suc r) at (taken_row (suc r) d.split (inr (record { is = d.default; missed = d.missed; missed_later = d.later })) go)

      by_selected : (o : Option ℕ) → selected k ts ≡ o → place_by ts (or_default ts o) ≡ Some i → DeadCaseRow t (dropped_at t i)
      by_selected None f e = absurd (cc e)
      by_selected (Some zero) f e = by_default (all_passed k ts f) (only_default ts) refl e
      by_selected (Some (suc r)) f e =
          let (go, at) = placed (suc r) e in
          let d = found k ts r f in
          let s = told k d.split.test true d.same in
          row_at (suc r) at (taken_row (suc r) d.split (inl (record { value = s.value; is = s.is; equal = s.equal; passed = d.passed })) go)

switch_is : (t : Tree) → holds_cases t ≡ true → t ≡ switch (part t 0) (listed (children (part t 1)))
switch_is (node shape.SwitchStatement [] zero (d ▸ (cs ▸ none))) e = ap (λ y. node shape.SwitchStatement [] 0 (d ▸ (y ▸ none))) (listed_is cs e)
switch_is t e = absurd (false≢true e)

pub row_at : (t : Tree) (i : ℕ) → place t ≡ Some i → DeadCaseRow t (dropped_at t i)
row_at t i e = go (is_read t) refl e
  where
    read : is_read t ≡ true → (o : Option Value) → asked (part t 0) ≡ o → place_over (children (part t 1)) o ≡ Some i → DeadCaseRow t (dropped_at t i)
    read h None a e = absurd (cc e)
    read h (Some v) a e =
        let ts = children (part t 1) in
        let (holds, more) = and_parts (holds_cases t) (nat_lt 1 (count ts) && (are_cases ts && are_loose (choices_of ts))) h in
        let (several, all) = and_parts (nat_lt 1 (count ts)) (are_cases ts && are_loose (choices_of ts)) more in
        let (shaped, loose) = and_parts (are_cases ts) (are_loose (choices_of ts)) all in
        entered_row t v a (switch_is t holds) shaped (more_than_one (count ts) several) loose i e

    go : (b : Bool) → is_read t ≡ b → (if b then place_over (children (part t 1)) (asked (part t 0)) else None) ≡ Some i → DeadCaseRow t (dropped_at t i)
    go true h e = read h (asked (part t 0)) refl e
    go false h e = absurd (cc e)

-- ---- where nothing is written no row reads it

module _ (k : Value) where
  missed_verdict : (t : Tree) → Missed k t → verdict k t ≡ Some false
  missed_verdict t m = ap (verdict_by k) m.is ∙ ap Some m.other

  missed_there : (t : Tree) → Missed k t → is_absent_part t ≡ false
  missed_there t m = tested_there t m.value m.is

  selected_later : (t : Tree) (ss : Trees) (cs : Choices) → Missed k t ⊎ (t ≡ absent) → selected k (cases_of (choice t ss cs)) ≡ selected k (cases_of cs)
  selected_later t ss cs (inl m) = ap (λ o. selected_by o (is_absent_part t) (count (cases_of (choice t ss cs))) (selected k (cases_of cs))) (missed_verdict t m)
  selected_later t ss cs (inr a) = ap (λ x. selected_by (verdict k x) (is_absent_part x) (count (cases_of (choice t ss cs))) (selected k (cases_of cs))) a

  selected_before : (bs cs : Choices) → AllPassed k bs → selected k (cases_of (before_others bs cs)) ≡ selected k (cases_of cs)
  selected_before no_choices cs p = refl
  selected_before (choice t ss bs) cs p = selected_later t ss (before_others bs cs) p.0 ∙ selected_before bs cs p.1

  none_selected : (cs : Choices) → AllMissed k cs → selected k (cases_of cs) ≡ Some 0
  none_selected no_choices p = refl
  none_selected (choice t ss cs) p = selected_later t ss cs (inl p.0) ∙ none_selected cs p.1

  no_default : (cs : Choices) → AllMissed k cs → any_default (cases_of cs) ≡ false
  no_default no_choices p = refl
  no_default (choice t ss cs) p = ap (λ b. b || any_default (cases_of cs)) (missed_there t p.0) ∙ no_default cs p.1

  only_later : (t : Tree) (ss : Trees) (cs : Choices) → Missed k t → only_default (cases_of (choice t ss cs)) ≡ only_default (cases_of cs)
  only_later t ss cs m = ap (λ b. if (if b then any_default (cases_of cs) else two_defaults (cases_of cs)) then None else Some (if b then count (cases_of (choice t ss cs)) else default_left (cases_of cs))) (missed_there t m)

  only_before : (bs cs : Choices) → AllMissed k bs → only_default (cases_of (before_others bs cs)) ≡ only_default (cases_of cs)
  only_before no_choices cs p = refl
  only_before (choice t ss bs) cs p = only_later t ss (before_others bs cs) p.0 ∙ only_before bs cs p.1

  none_only : (cs : Choices) → AllMissed k cs → only_default (cases_of cs) ≡ Some 0
  none_only no_choices p = refl
  none_only (choice t ss cs) p = only_later t ss cs p.0 ∙ none_only cs p.1

  missed_passed : (cs : Choices) → AllMissed k cs → AllPassed k cs
  missed_passed no_choices p = tt
  missed_passed (choice t ss cs) p = (inl p.0, missed_passed cs p.1)

  taken_entry : (bs : Choices) (t : Tree) (ss : Trees) (cs : Choices) → Taken k bs t cs → entry k (cases_of (before_others bs (choice t ss cs))) ≡ Some (count (cases_of (choice t ss cs)))
  taken_entry bs t ss cs (inl h) =
      ap (or_default (cases_of (before_others bs (choice t ss cs))))
      (selected_before bs (choice t ss cs) h.passed
      ∙ ap (λ o. selected_by o (is_absent_part t) (count (cases_of (choice t ss cs))) (selected k (cases_of cs))) (ap (verdict_by k) h.is ∙ ap Some h.equal))
  taken_entry bs t ss cs (inr h) =
      ap (or_default (cases_of (before_others bs (choice t ss cs)))) (selected_before bs (choice t ss cs) (missed_passed bs h.missed) ∙ selected_later t ss cs (inr h.is) ∙ none_selected cs h.missed_later)
      ∙ only_before bs (choice t ss cs) h.missed
      ∙ ap (λ b. if (if b then any_default (cases_of cs) else two_defaults (cases_of cs)) then None else Some (if b then count (cases_of (choice t ss cs)) else default_left (cases_of cs))) (ap is_absent_part h.is)
      ∙ ap (λ b. if b then None else Some (count (cases_of (choice t ss cs)))) (no_default cs h.missed_later)

  none_entry : (cs : Choices) → AllMissed k cs → entry k (cases_of cs) ≡ Some 0
  none_entry cs p = ap (or_default (cases_of cs)) (none_selected cs p) ∙ none_only cs p

  less_than : (n : ℕ) → 1 < n → nat_lt 1 n ≡ true
  less_than n h = grind arith

  both_true : (a b : Bool) → a ≡ true → b ≡ true → (a && b) ≡ true
  both_true a b e f = ap (λ c. c && b) e ∙ f

  reads : (d : Tree) (cs : Choices) → are_loose cs ≡ true → 1 < size cs → is_read (switch_over d cs) ≡ true
  reads d cs l s =
      both_true (nat_lt 1 (count (cases_of cs))) (are_cases (cases_of cs) && are_loose (choices_of (cases_of cs))) (less_than (count (cases_of cs)) (omega (arith, s, count_is cs)))
      (both_true (are_cases (cases_of cs)) (are_loose (choices_of (cases_of cs))) (each_case cs) (ap are_loose (choices_are cs) ∙ l))

  some_several : (bs : Choices) (t : Tree) (ss : Trees) (cs : Choices) → are_several bs cs ≡ true → 1 < size (before_others bs (choice t ss cs))
  unfolding size
  some_several no_choices t ss no_choices e = absurd (false≢true e)
  some_several no_choices t ss (choice u us cs) e = omega arith
  some_several (choice u us bs) t ss cs e = let all = size_before bs (choice t ss cs) in omega (arith, all)

  read_place : (d : Tree) → asked d ≡ Some k → (cs : Choices) (r : ℕ) → is_read (switch_over d cs) ≡ true → entry k (cases_of cs) ≡ Some r → others_go (count (cases_of cs) - r) (cases_of cs) ≡ true → place (switch_over d cs) ≡ Some (count (cases_of cs) - r)
  read_place d a cs r e f g =
      ap (λ b. if b then place_over (cases_of cs) (asked d) else None) e ∙ ap (place_over (cases_of cs)) a ∙ ap (place_by (cases_of cs)) f
      ∙ ap (λ b. if b then Some (count (cases_of cs) - r) else None) g

  taken_place : (d : Tree) → asked d ≡ Some k → (bs : Choices) (t : Tree) (ss : Trees) (cs : Choices) → Taken k bs t cs → are_several bs cs ≡ true → are_loose (before_others bs (choice t ss cs)) ≡ true → cases_go bs ≡ true → rest_goes ss cs ≡ true → (i : ℕ) × (place (switch_over d (before_others bs (choice t ss cs))) ≡ Some i)
  unfolding size
  taken_place d a bs t ss cs h s l g r =
      let all = before_others bs (choice t ss cs) in
      let ts = cases_of all in
      let i = count ts - count (cases_of (choice t ss cs)) in
      let at : i ≡ size bs = omega (arith, count_is all, count_is cs, size_before bs (choice t ss cs)) in
      let earlier : choices_of (first_children i ts) ≡ bs = first_taken i ts ∙ (λ j. take (at j) (choices_are all j)) ∙ take_before bs (choice t ss cs) in
      let later : choices_of (rest_children i ts) ≡ choice t ss cs = rest_dropped i ts ∙ (λ j. drop (at j) (choices_are all j)) ∙ drop_before bs (choice t ss cs) in
      (i, read_place d a all (count (cases_of (choice t ss cs))) (reads d all l (some_several bs t ss cs s)) (taken_entry bs t ss cs h) (both_true (cases_go (choices_of (first_children i ts))) (later_go (choices_of (rest_children i ts))) (ap cases_go earlier ∙ g) (ap later_go later ∙ r)))

  none_place : (d : Tree) → asked d ≡ Some k → (t : Tree) (ss : Trees) (cs : Choices) → AllMissed k (choice t ss cs) → are_several no_choices cs ≡ true → are_loose (choice t ss cs) ≡ true → cases_go (choice t ss cs) ≡ true → (i : ℕ) × (place (switch_over d (choice t ss cs)) ≡ Some i)
  unfolding size
  none_place d a t ss cs h s l g =
      let all = choice t ss cs in
      let ts = cases_of all in
      let i = count ts - 0 in
      let at : i ≡ size all = omega (arith, count_is all) in
      let earlier : choices_of (first_children i ts) ≡ all = first_taken i ts ∙ (λ j. take (at j) (choices_are all j)) ∙ take_all all in
      let later : choices_of (rest_children i ts) ≡ no_choices = rest_dropped i ts ∙ (λ j. drop (at j) (choices_are all j)) ∙ drop_all all in
      (i, read_place d a all 0 (reads d all l (some_several no_choices t ss cs s)) (none_entry all h) (both_true (cases_go (choices_of (first_children i ts))) (later_go (choices_of (rest_children i ts))) (ap cases_go earlier ∙ g) (ap later_go later)))

row_place : (n w : Tree) → DeadCaseRow n w → (i : ℕ) × (place n ≡ Some i)
row_place n w (inl r) = let p = taken_place r.value r.discriminant r.asks r.before r.test r.statements r.after r.taken r.several r.loose r.dropped r.rest_dropped in (p.0, ap place r.shape ∙ p.1)
row_place n w (inr r) = let p = none_place r.value r.discriminant r.asks r.test r.statements r.after r.missed r.several r.loose r.dropped in (p.0, ap place r.shape ∙ p.1)

pub never_dropped : (n w : Tree) → place n ≡ None → DeadCaseRow n w → ⊥
never_dropped n w e r = let p = row_place n w r in cc (sym e ∙ p.1)

-- ---- both rewrites

pub applied : (q : StmtSeat) (t u : Tree) (b : Bool) → u ≡ unwrap_or (either_written t) t → b ≡ is_some (either_written t) → Applied Gives Rests (Stmt q) t u b
applied q t u b e f = subst (λ v. Applied Gives Rests (Stmt q) t v b) (sym e) (subst (Applied Gives Rests (Stmt q) t (unwrap_or (either_written t) t)) (sym f) (go (inlines t) refl (place t) refl))
  where
    neither : inlines t ≡ false → place t ≡ None → (w : Tree) → SwitchRow t w → ⊥
    neither h p w (inl r) = never t w h r
    neither h p w (inr r) = never_dropped t w p r

    go : (c : Bool) → inlines t ≡ c → (o : Option ℕ) → place t ≡ o → Applied Gives Rests (Stmt q) t (unwrap_or (first_of (if c then Some (inlined t) else None) (written_by t o)) t) (is_some (first_of (if c then Some (inlined t) else None) (written_by t o)))
    go true h o p = let is : SwitchRow t (inlined t) = inl (row_of t h) in moves_once Gives (Stmt q) t (inlined t) (is, branch_lighter (Stmt q) t (inlined t) (inl (inr is)))
    go false h (Some i) p = let is : SwitchRow t (dropped_at t i) = inr (row_at t i p) in moves_once Gives (Stmt q) t (dropped_at t i) (is, branch_lighter (Stmt q) t (dropped_at t i) (inl (inr is)))
    go false h None p = (refl, λ w r. neither h p w r)
