-- What holds of the parts of some cases, sums over them and lists of what they have, where statements run on and cases go.
use Rattle.std.specs.Prelude.{ℕ, ◌+◌, ◌≤◌, ◌≡◌, refl, ◌&&◌, ◌||◌, Bool, true, false, List, [], ◌++◌, if◌then◌else◌}
use Rattle.std.proofs.Common.{ap, ◌∙◌, sym, arith, append_assoc}
use Rattle.std.proofs.lemmas.Bool.{and_parts}
use Rattle.std.proofs.lemmas.List.{append-nil}
use Rattle.mini_model.specs.Paths.{append}
use Rattle.mini_model.specs.Tree.{Tree, Trees, none, ◌▸◌, listed, is_absent}
use Rattle.mini_rows.specs.Cases.{switch_case}
use Rattle.mini_rows.specs.DeadCases.{Choices, no_choices, choice, cases_of, before_others, are_loose, leaves_little, all_go, left_all, left_cases, test_goes, cases_go, are_ended, running, rest_goes}
use Rattle.mini_rows.specs.Lists.{is_unscoped, are_unscoped, declares_nothing, encloses, left_behind}

-- ---- what is said of parts that go

pub test_left : (t : Tree) → test_goes t ≡ true → encloses false t ≡ true
test_left t h = (and_parts (encloses false t) (is_absent t || declares_nothing t) h).0

pub record CaseGoes (t : Tree) (ss : Trees) (cs : Choices) : Type 0 where
  pub test : encloses false t ≡ true
  pub statements : all_go ss ≡ true
  pub others : cases_go cs ≡ true

pub case_goes : (t : Tree) (ss : Trees) (cs : Choices) → cases_go (choice t ss cs) ≡ true → CaseGoes t ss cs
case_goes t ss cs h =
    let (test, more) = and_parts (test_goes t) (all_go ss && cases_go cs) h in
    let (statements, others) = and_parts (all_go ss) (cases_go cs) more in
    record { test = test_left t test; statements = statements; others = others }

-- ---- what holds of each

module _ (Q : Tree → Type 0) where
  abbrev pub AllQ : Trees → Type 0
  AllQ none = Unit {0}
  AllQ (t ▸ ts) = Q t × AllQ ts

  abbrev pub EachQ : Choices → Type 0
  EachQ no_choices = Unit {0}
  EachQ (choice t ss cs) = (Q t × AllQ ss) × EachQ cs

  -- it holds of a list, and of a case, where it does of what is below
  pub record Parted : Type 0 where
    pub list_down : (ts : Trees) → Q (listed ts) → AllQ ts
    pub list_up : (ts : Trees) → AllQ ts → Q (listed ts)
    pub case_down : (t : Tree) (ss : Trees) → Q (switch_case t ss) → Q t × Q (listed ss)
    pub case_up : (t : Tree) (ss : Trees) → Q t → Q (listed ss) → Q (switch_case t ss)

  module _ (p : Parted) where
    each_down : (cs : Choices) → AllQ (cases_of cs) → EachQ cs
    each_down no_choices a = tt
    each_down (choice t ss cs) (c, a) = let (x, y) = p.case_down t ss c in ((x, p.list_down ss y), each_down cs a)

    each_up : (cs : Choices) → EachQ cs → AllQ (cases_of cs)
    each_up no_choices a = tt
    each_up (choice t ss cs) ((x, y), a) = (p.case_up t ss x (p.list_up ss y), each_up cs a)

    pub cases_down : (cs : Choices) → Q (listed (cases_of cs)) → EachQ cs
    cases_down cs q = each_down cs (p.list_down (cases_of cs) q)

    pub cases_up : (cs : Choices) → EachQ cs → Q (listed (cases_of cs))
    cases_up cs a = p.list_up (cases_of cs) (each_up cs a)

  -- what runs, and what stays of the cases

  pub append_all : (a b : Trees) → AllQ a → AllQ b → AllQ (append a b)
  append_all none b x y = y
  append_all (t ▸ a) b x y = (x.0, append_all a b x.1 y)

  pub first_all : (a b : Trees) → AllQ (append a b) → AllQ a
  first_all none b x = tt
  first_all (t ▸ a) b x = (x.0, first_all a b x.1)

  pub second_all : (a b : Trees) → AllQ (append a b) → AllQ b
  second_all none b x = x
  second_all (t ▸ a) b x = second_all a b x.1

  module _ (left : (t : Tree) → Q t → AllQ (left_behind t)) where
    left_statements : (ss : Trees) → AllQ ss → AllQ (left_all ss)
    left_statements none x = tt
    left_statements (t ▸ ss) x = append_all (left_behind t) (left_all ss) (left t x.0) (left_statements ss x.1)

    pub left_each : (cs : Choices) → EachQ cs → AllQ (left_cases cs)
    left_each no_choices x = tt
    left_each (choice t ss cs) x = append_all (left_all ss) (left_cases cs) (left_statements ss x.0.1) (left_each cs x.1)

    pub run_all : (ss : Trees) (cs : Choices) → AllQ ss → EachQ cs → AllQ (running ss cs)
    run_all ss no_choices x y = x
    run_all ss (choice t us cs) x y = go (are_ended ss) (run_all us cs y.0.1 y.1)
      where
        go : (b : Bool) → AllQ (running us cs) → AllQ (if b then append ss (left_cases (choice t us cs)) else append ss (running us cs))
        go true z = append_all ss (left_cases (choice t us cs)) x (left_each (choice t us cs) y)
        go false z = append_all ss (running us cs) x z

  pub earlier_each : (bs cs : Choices) → EachQ (before_others bs cs) → EachQ bs
  earlier_each no_choices cs x = tt
  earlier_each (choice t ss bs) cs x = (x.0, earlier_each bs cs x.1)

  pub later_each : (bs cs : Choices) → EachQ (before_others bs cs) → EachQ cs
  later_each no_choices cs x = x
  later_each (choice t ss bs) cs x = later_each bs cs x.1

-- ---- sums

module _ (m : Tree → ℕ) where
  abbrev pub sum : Trees → ℕ
  sum none = 0
  sum (t ▸ ts) = m t + sum ts

  abbrev pub each_sum : Choices → ℕ
  each_sum no_choices = 0
  each_sum (choice t ss cs) = m t + sum ss + each_sum cs

  pub record Summing : Type 0 where
    pub list : (ts : Trees) → m (listed ts) ≡ sum ts
    pub case : (t : Tree) (ss : Trees) → m (switch_case t ss) ≡ m t + m (listed ss)

  cases_each : Summing → (cs : Choices) → sum (cases_of cs) ≡ each_sum cs
  cases_each p no_choices = refl
  cases_each p (choice t ss cs) = omega (arith, p.case t ss, p.list ss, cases_each p cs)

  pub cases_sum : Summing → (cs : Choices) → m (listed (cases_of cs)) ≡ each_sum cs
  cases_sum p cs = p.list (cases_of cs) ∙ cases_each p cs

  pub append_sum : (a b : Trees) → sum (append a b) ≡ sum a + sum b
  append_sum none b = omega arith
  append_sum (t ▸ a) b = let rest = append_sum a b in omega (arith, rest)

  module _ (left : (t : Tree) → sum (left_behind t) ≤ m t) where
    pub left_sum : (ss : Trees) → sum (left_all ss) ≤ sum ss
    left_sum none = omega arith
    left_sum (t ▸ ss) = omega (arith, left t, left_sum ss, append_sum (left_behind t) (left_all ss))

    pub left_each_sum : (cs : Choices) → sum (left_cases cs) ≤ each_sum cs
    left_each_sum no_choices = omega arith
    left_each_sum (choice t ss cs) = omega (arith, left_sum ss, left_each_sum cs, append_sum (left_all ss) (left_cases cs))

    pub run_sum : (ss : Trees) (cs : Choices) → sum (running ss cs) ≤ sum ss + each_sum cs
    run_sum ss no_choices = omega arith
    run_sum ss (choice t us cs) = go (are_ended ss) (run_sum us cs) (left_each_sum (choice t us cs))
      where
        go : (b : Bool) → sum (running us cs) ≤ sum us + each_sum cs → sum (left_cases (choice t us cs)) ≤ each_sum (choice t us cs) → sum (if b then append ss (left_cases (choice t us cs)) else append ss (running us cs)) ≤ sum ss + each_sum (choice t us cs)
        go true e f = omega (arith, append_sum ss (left_cases (choice t us cs)), f)
        go false e f = omega (arith, append_sum ss (running us cs), e)

  pub before_sum : (bs cs : Choices) → each_sum (before_others bs cs) ≡ each_sum bs + each_sum cs
  before_sum no_choices cs = omega arith
  before_sum (choice t ss bs) cs = let rest = before_sum bs cs in omega (arith, rest)

-- ---- and back

-- it holds of what goes that none of a sum is of, where that is as great afterwards
module _ (Q : Tree → Type 0) (m : Tree → ℕ) (none_left : (t : Tree) → sum m (left_behind t) ≡ 0) (free : (t : Tree) → encloses false t ≡ true → m t ≤ 0 → Q t) where
  no_more : (t : Tree) → sum m (left_behind t) ≤ m t
  no_more t = omega (arith, none_left t)

  none_of : (ss : Trees) → sum m (left_all ss) ≡ 0
  none_of none = refl
  none_of (t ▸ ss) = omega (arith, none_left t, none_of ss, append_sum m (left_behind t) (left_all ss))

  pub none_each : (cs : Choices) → sum m (left_cases cs) ≡ 0
  none_each no_choices = refl
  none_each (choice t ss cs) = omega (arith, none_of ss, none_each cs, append_sum m (left_all ss) (left_cases cs))

  pub runs_less : (ss : Trees) (cs : Choices) → sum m (running ss cs) ≤ sum m ss + each_sum m cs
  runs_less ss cs = run_sum m no_more ss cs

  pub gone_all : (ss : Trees) → all_go ss ≡ true → sum m ss ≤ 0 → AllQ Q ss
  gone_all none h z = tt
  gone_all (t ▸ ss) h z =
      let (own, rest) = and_parts (encloses false t && leaves_little t) (all_go ss) h in
      (free t (and_parts (encloses false t) (leaves_little t) own).0 (omega (arith, z)), gone_all ss rest (omega (arith, z)))

  pub gone_each : (cs : Choices) → cases_go cs ≡ true → each_sum m cs ≤ 0 → EachQ Q cs
  gone_each no_choices h z = tt
  gone_each (choice t ss cs) h z = let c = case_goes t ss cs h in ((free t c.test (omega (arith, z)), gone_all ss c.statements (omega (arith, z))), gone_each cs c.others (omega (arith, z)))

  pub run_back : (ss : Trees) (cs : Choices) → rest_goes ss cs ≡ true → sum m ss + each_sum m cs ≤ sum m (running ss cs) → AllQ Q (running ss cs) → AllQ Q ss × EachQ Q cs
  run_back ss no_choices h z x = (x, tt)
  run_back ss (choice t us cs) h z x = go (are_ended ss) h z x (λ k y w. run_back us cs k y w)
    where
      go : (b : Bool) → (if b then cases_go (choice t us cs) else test_goes t && rest_goes us cs) ≡ true
          → sum m ss + each_sum m (choice t us cs) ≤ sum m (if b then append ss (left_cases (choice t us cs)) else append ss (running us cs))
          → AllQ Q (if b then append ss (left_cases (choice t us cs)) else append ss (running us cs)) → (rest_goes us cs ≡ true → sum m us + each_sum m cs ≤ sum m (running us cs) → AllQ Q (running us cs) → AllQ Q us × EachQ Q cs) → AllQ Q ss × EachQ Q (choice t us cs)
      go true h z x f = (first_all Q ss (left_cases (choice t us cs)) x, gone_each (choice t us cs) h (omega (arith, z, append_sum m ss (left_cases (choice t us cs)), none_each (choice t us cs))))
      go false h z x f =
          let (test, rest) = and_parts (test_goes t) (rest_goes us cs) h in
          let parts = append_sum m ss (running us cs) in
          let fewer = runs_less us cs in
          let (own, others) = f rest (omega (arith, z, parts)) (second_all Q ss (running us cs) x) in
          (first_all Q ss (running us cs) x, ((free t (test_left t test) (omega (arith, z, parts, fewer)), own), others))

  pub before_back : (bs cs : Choices) → cases_go bs ≡ true → each_sum m bs ≤ 0 → EachQ Q cs → EachQ Q (before_others bs cs)
  before_back no_choices cs h z x = x
  before_back (choice t ss bs) cs h z x = let c = case_goes t ss bs h in ((free t c.test (omega (arith, z)), gone_all ss c.statements (omega (arith, z))), before_back bs cs c.others (omega (arith, z)) x)

-- two sums at once
module _ (m k : Tree → ℕ) where
  sum_two : (ts : Trees) → sum (λ t. m t + k t) ts ≡ sum m ts + sum k ts
  sum_two none = refl
  sum_two (t ▸ ts) = let rest = sum_two ts in omega (arith, rest)

  pub each_two : (cs : Choices) → each_sum (λ t. m t + k t) cs ≡ each_sum m cs + each_sum k cs
  each_two no_choices = refl
  each_two (choice t ss cs) = omega (arith, sum_two ss, each_two cs)

-- one thing of each part where another is said
module _ (P Q : Tree → Type 0) where
  all_apply : (ts : Trees) → AllQ (λ t. P t → Q t) ts → AllQ P ts → AllQ Q ts
  all_apply none f a = tt
  all_apply (t ▸ ts) f a = (f.0 a.0, all_apply ts f.1 a.1)

  pub each_apply : (cs : Choices) → EachQ (λ t. P t → Q t) cs → EachQ P cs → EachQ Q cs
  each_apply no_choices f a = tt
  each_apply (choice t ss cs) f a = ((f.0.0 a.0.0, all_apply ss f.0.1 a.0.1), each_apply cs f.1 a.1)

  all_given : (ts : Trees) → AllQ Q ts → AllQ (λ t. P t → Q t) ts
  all_given none a = tt
  all_given (t ▸ ts) a = (λ p. a.0, all_given ts a.1)

  pub each_given : (cs : Choices) → EachQ Q cs → EachQ (λ t. P t → Q t) cs
  each_given no_choices a = tt
  each_given (choice t ss cs) a = ((λ p. a.0.0, all_given ss a.0.1), each_given cs a.1)

-- ---- lists of what statements have

module _ {A : Type 0} (F : Tree → List A) where
  abbrev pub all_of : Trees → List A
  all_of none = []
  all_of (t ▸ ts) = F t ++ all_of ts

  abbrev pub each_of : Choices → List A
  each_of no_choices = []
  each_of (choice t ss cs) = all_of ss ++ each_of cs

  pub append_of : (a b : Trees) → all_of (append a b) ≡ all_of a ++ all_of b
  append_of none b = refl
  append_of (t ▸ a) b = ap (λ r. F t ++ r) (append_of a b) ∙ sym (append_assoc (F t) (all_of a) (all_of b))

  -- what is left of statements has it, too
  module _ (same : (t : Tree) → is_unscoped t ≡ true → all_of (left_behind t) ≡ F t) where
    left_of : (ss : Trees) → are_unscoped ss ≡ true → all_of (left_all ss) ≡ all_of ss
    left_of none u = refl
    left_of (t ▸ ss) u =
        let (own, rest) = and_parts (is_unscoped t) (are_unscoped ss) u in
        append_of (left_behind t) (left_all ss) ∙ (λ k. same t own k ++ left_of ss rest k)

    pub left_each_of : (cs : Choices) → are_loose cs ≡ true → all_of (left_cases cs) ≡ each_of cs
    left_each_of no_choices u = refl
    left_each_of (choice t ss cs) u =
        let (own, others) = and_parts (are_unscoped ss) (are_loose cs) u in
        append_of (left_all ss) (left_cases cs) ∙ (λ k. left_of ss own k ++ left_each_of cs others k)

    pub run_of : (ss : Trees) (cs : Choices) → are_loose cs ≡ true → all_of (running ss cs) ≡ all_of ss ++ each_of cs
    run_of ss no_choices u = sym (append-nil (all_of ss))
    run_of ss (choice t us cs) u = go (are_ended ss) (run_of us cs (and_parts (are_unscoped us) (are_loose cs) u).1) (left_each_of (choice t us cs) u)
      where
        go : (b : Bool) → all_of (running us cs) ≡ all_of us ++ each_of cs → all_of (left_cases (choice t us cs)) ≡ each_of (choice t us cs) → all_of (if b then append ss (left_cases (choice t us cs)) else append ss (running us cs)) ≡ all_of ss ++ each_of (choice t us cs)
        go true f g = append_of ss (left_cases (choice t us cs)) ∙ ap (λ r. all_of ss ++ r) g
        go false f g = append_of ss (running us cs) ∙ ap (λ r. all_of ss ++ r) f

  pub before_of : (bs cs : Choices) → each_of (before_others bs cs) ≡ each_of bs ++ each_of cs
  before_of no_choices cs = refl
  before_of (choice t ss bs) cs = ap (λ r. all_of ss ++ r) (before_of bs cs) ∙ sym (append_assoc (all_of ss) (each_of bs) (each_of cs))
