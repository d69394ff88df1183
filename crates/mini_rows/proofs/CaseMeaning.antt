-- What a `switch` of one case does, and what the rows write for it.
use Rattle.std.proofs.Common.{◌≡◌, Bool, true, false, List, [], ◌++◌, Some, None, refl, sym, ap, ◌∙◌, inl, inr}
use Rattle.std.proofs.lemmas.Bool.{and_parts}
use Rattle.std.proofs.lemmas.List.{append-nil}
use Rattle.std.specs.Prelude.{◌&&◌}
use Rattle.mini_model.specs.declared.operator.BinaryOperator.TheVariants.{StrictEquality}
use Rattle.mini_model.specs.declared.shape.Shape.TheVariants as shape
use Rattle.mini_model.specs.Tree.{Tree, Trees, none, ◌▸◌, absent, listed, expression_statement, if_alone}
use Rattle.mini_model.specs.Paths.{append}
use Rattle.mini_laws.specs.Value.{Value, choose}
use Rattle.mini_laws.specs.Operators.{strictly_equal}
use Rattle.mini_laws.specs.State.{State, Stop, Thrown, Returned, Broken, Continued, Short, Completion, ok, stop, halt, out, either, Environment}
use Rattle.mini_laws.specs.Demand.{Val, Test, Unused, As, Stat, Cases, ACase, AskTest, AskBody, LabelSet}
use Rattle.mini_laws.specs.Command.{Naming, Command, ret, kid, then, bind, run}
use Rattle.mini_laws.specs.Naming.{summary, summaries, facts, lets_all, functions_all, function_facts, function_names, naming}
use Rattle.mini_laws.specs.Lists.{is_case, or_default, enter_case}
use Rattle.mini_laws.specs.Statements.{create_functions, block_step}
use Rattle.mini_laws.specs.Step.{step, means, meaning}
use Rattle.mini_laws.specs.Truth.{told}
use Rattle.mini_laws.proofs.Runs.{either_cong, either_assoc, either_eta, either_ok, either_stop}
use Rattle.mini_laws.proofs.Stretching.{exec}
use Rattle.mini_laws.proofs.Tailing.{finished, finish_none, creates_alone, closed, hidden, block_runs}
use Rattle.mini_laws.proofs.Truth.{coherent}
use Rattle.mini_rows.specs.Lists.{block, switch, is_unscoped, are_unscoped}
use Rattle.mini_rows.specs.Spellings.{PlainForm, a_number, a_text, a_boolean, a_null, a_big_int, a_template, a_void, plain, binary}
use Rattle.mini_rows.specs.Cases.{switch_case, one_case, bare_break, ended, breaks_out, Row80Case, Row80Default, Row80Scoped, OneCaseRow}
use Rattle.mini_rows.proofs.BranchMeaning.{SameStatement, equal_statement, replaced}
use Rattle.mini_rows.proofs.ListHeads.{Nothing, nothing_by, leave, leaving, leave_nothing, leaving_nothing, unbroke, switch_names, no_kids, switch_rest, switch_is}
use Rattle.mini_rows.proofs.ListStatements.{expression_is, if_is, absent_is, read_nothing, block_is}
use Rattle.mini_rows.proofs.ListStretches.{ReadSame, exec_more, exec_one, exec_append, listed_is}
use Rattle.mini_rows.proofs.UnbrokenRuns.{NotBroken, Unbroken, never_broken}

-- ---- ends

-- what a `switch` makes of an end of its case
abbrev pub caught : Completion (Unit {0}) → Completion (Unit {0})
caught x = either x (λ u z. ok tt z) (λ y z. unbroke y z)

goes_on : (x : Stop) (z : State) → NotBroken x → unbroke x z ≡ stop x z
unfolding unbroke
goes_on (Broken None) z n = absurd n
goes_on (Broken (Some l)) z n = refl
goes_on (Thrown v) z n = refl
goes_on (Returned v) z n = refl
goes_on (Continued l) z n = refl
goes_on Short z n = refl

break_caught : (z : State) → unbroke (Broken None) z ≡ ok tt z
unfolding unbroke
break_caught z = refl

-- after what ends with no `break`
unbroken_cong : {A : Type 0} (y : Completion A) (f g : A → State → Completion (Unit {0})) → Unbroken y → ((a : A) (z : State) → f a z ≡ g a z) → either y f (λ x z. unbroke x z) ≡ either y g (λ x z. stop x z)
unfolding either
unbroken_cong (ok a z) f g h k = k a z
unbroken_cong (stop x z) f g h k = goes_on x z h
unbroken_cong (halt x z) f g h k = refl
unbroken_cong out f g h k = refl

nothing_caught : (x : Completion (Unit {0})) → Unbroken x → caught x ≡ x
nothing_caught x h = unbroken_cong x (λ u z. ok tt z) (λ u z. ok u z) h (λ u z. refl) ∙ either_eta x

-- ---- the statements of the case, and a `break` after them

unscoped_ended : (b : Bool) (ss : Trees) → are_unscoped ss ≡ true → are_unscoped (ended b ss) ≡ true
unscoped_ended false ss h = h
unscoped_ended true none h = refl
unscoped_ended true (t ▸ ss) h =
    let (first, rest) = and_parts (is_unscoped t) (are_unscoped ss) h in
    ap (λ b. b && are_unscoped (ended true ss)) first ∙ unscoped_ended true ss rest

module _ (e : Environment) (ss : Trees) (stays : breaks_out (listed ss) ≡ false) where
  breaks_is : (z : State) → means e bare_break (Stat None) [] z ≡ stop (Broken None) z
  unfolding means meaning step either
  breaks_is z = refl

  body_ends : (b : Bool) (z : State) → caught (means e (listed (ended b ss)) (Stat None) [] z) ≡ means e (listed ss) (Stat None) [] z
  body_ends false z = nothing_caught (means e (listed ss) (Stat None) [] z) (never_broken e (listed ss) stays (Stat None) [] z)
  body_ends true z =
      ap caught (listed_is e (append ss (bare_break ▸ none)) [] z ∙ exec_append e ss (bare_break ▸ none) z ∙ ap (λ x. either x (λ u z. exec e (bare_break ▸ none) None z) (λ y z. stop y z)) (sym (listed_is e ss [] z)) ∙ either_cong (means e (listed ss) (Stat None) [] z) _ _ _ _ (λ u z. exec_one e bare_break z ∙ breaks_is z) (λ y z. refl))
      ∙ either_assoc (means e (listed ss) (Stat None) [] z) _ _ _ _
      ∙ either_cong (means e (listed ss) (Stat None) [] z) _ _ _ _ (λ u z. either_stop (Broken None) z _ _ ∙ break_caught z) (λ y z. either_stop y z _ _)
      ∙ nothing_caught (means e (listed ss) (Stat None) [] z) (never_broken e (listed ss) stays (Stat None) [] z)

-- ---- one case

module _ (e : Environment) (t : Tree) (ts : Trees) where
  pub case_body : (z : State) → means e (switch_case t ts) ACase AskBody z ≡ means e (listed ts) (Stat None) [] z
  unfolding means meaning step
  case_body z = either_eta (means e (listed ts) (Stat None) [] z)

  pub case_test : (summary t).facts.absent ≡ false → (z : State) → means e (switch_case t ts) ACase AskTest z ≡ either (means e t (As Val) tt z) (λ v z. ok (Some v) z) (λ x z. stop x z)
  unfolding means meaning step
  case_test h z = ap (λ b. either (means e t (As Val) tt z) (λ v z. ok (choose b None (Some v)) z) (λ x z. stop x z)) h

  -- the command of the list, where its test is absent or not
  abbrev chosen : Bool → Value → Command (λ i. ACase) (Unit {0})
  chosen a v = bind (choose a (ret None) (kid 0 AskTest (then (λ w. choose (is_case v w) (ret (Some 0)) (ret None))))) (λ found. enter_case 1 (or_default found (choose a (Some 0) None)))

  abbrev names : Naming
  names = naming shape.Listed Cases [] 0 (summaries (switch_case t ts ▸ none))

  chooses : Bool → Value → State → Completion (Unit {0})
  chooses a v z = run {q = λ i. ACase} e names (λ i r z. meaning e (switch_case t ts ▸ none) i ACase r z) (chosen a v) z

  cases_choose : (v : Value) (z : State) → means e (listed (switch_case t ts ▸ none)) Cases v z ≡ chooses (summary t).facts.absent v z
  unfolding means step chooses
  cases_choose v z = refl

  entered : (z : State) → either (means e (switch_case t ts) ACase AskBody z) (λ u z. ok tt z) (λ x z. stop x z) ≡ means e (listed ts) (Stat None) [] z
  entered z = either_eta (means e (switch_case t ts) ACase AskBody z) ∙ case_body z

  chooses_default : (v : Value) (z : State) → chooses true v z ≡ means e (listed ts) (Stat None) [] z
  unfolding chooses meaning
  chooses_default v z = entered z

  chosen_case : (b : Bool) (z : State) → run {q = λ i. ACase} e names (λ i r z. meaning e (switch_case t ts ▸ none) i ACase r z) (bind (choose b (ret (Some 0)) (ret None)) (λ found. enter_case 1 (or_default found None))) z ≡ choose b (means e (listed ts) (Stat None) [] z) (ok tt z)
  unfolding meaning
  chosen_case true z = entered z
  chosen_case false z = refl

  chooses_case : (summary t).facts.absent ≡ false → (v : Value) (z : State) → chooses false v z ≡ either (means e t (As Val) tt z) (λ w z. choose (strictly_equal v w) (means e (listed ts) (Stat None) [] z) (ok tt z)) (λ x z. stop x z)
  unfolding chooses meaning
  chooses_case h v z =
      ap (λ x. either x (λ w z. run {q = λ i. ACase} e names (λ i r z. meaning e (switch_case t ts ▸ none) i ACase r z) (bind (choose (is_case v w) (ret (Some 0)) (ret None)) (λ found. enter_case 1 (or_default found None))) z) (λ x z. stop x z)) (case_test h z)
      ∙ either_assoc (means e t (As Val) tt z) _ _ _ _
      ∙ either_cong (means e t (As Val) tt z) _ _ _ _ (λ w z. either_ok (Some w) z _ _ ∙ chosen_case (strictly_equal v w) z) (λ x z. either_stop x z _ _)

-- ---- a `switch` in which nothing is scoped

pub record Idle (t : Tree) : Type 0 where
  pub lets : (summary t).lets ≡ []
  pub functions : (summary t).functions ≡ []
  pub facts : (summary t).facts.functions ≡ []

idle_case : (t : Tree) (ts : Trees) → Idle t → ReadSame ts none → Idle (listed (switch_case t ts ▸ none))
idle_case t ts i r = record {
  lets = (λ k. (i.lets k ++ (r.lets k ++ [])) ++ []);
  functions = (λ k. (i.functions k ++ (r.functions k ++ [])) ++ []);
  facts = (λ k. (i.facts k ++ (r.facts k ++ [])) ++ []);
}

module _ (e : Environment) (cases : Tree) (i : Idle cases) where
  abbrev here : Naming
  here = switch_names [] [] cases

  unscoped : here.scope ≡ []
  unscoped = λ k. (i.lets k ++ []) ++ function_names (i.functions k ++ [])

  rest_is : (v : Value) (z : State) → switch_rest e [] [] [] cases v z ≡ caught (means e cases Cases v z)
  unfolding switch_rest
  rest_is v z =
      leaving_nothing here unscoped _
      ∙ ap (λ l. either (run {q = λ i. Stat None} e here no_kids (create_functions true (l ++ []) 0) (leave here z)) (λ u y. caught (means e cases Cases v y)) (λ x y. stop x y)) i.facts
      ∙ either_ok tt (leave here z) _ _
      ∙ ap (λ y. caught (means e cases Cases v y)) (leave_nothing here unscoped z)

  pub switch_caught : (d : Tree) → Nothing d → (r : LabelSet) (s : State) → means e (switch d cases) (Stat None) r s ≡ either (means e d (As Val) tt s) (λ v z. caught (means e cases Cases v z)) (λ x z. stop x z)
  switch_caught d u r s =
      switch_is e d cases r s
      ∙ ap (λ l. either (means e d (As Val) tt s) (λ v z. switch_rest e l (summary d).functions (summary d).facts.functions cases v z) (λ x z. stop x z)) u.lets
      ∙ ap (λ l. either (means e d (As Val) tt s) (λ v z. switch_rest e [] l (summary d).facts.functions cases v z) (λ x z. stop x z)) u.functions
      ∙ ap (λ l. either (means e d (As Val) tt s) (λ v z. switch_rest e [] [] l cases v z) (λ x z. stop x z)) u.facts
      ∙ either_cong (means e d (As Val) tt s) _ _ _ _ rest_is (λ x z. refl)

-- ---- 80

-- a value that is written out
pub record Written (t : Tree) : Type 0 where
  pub idle : Idle t
  pub there : (summary t).facts.absent ≡ false
  pub stays : breaks_out t ≡ false

pub plain_written : (f : PlainForm) → Written (plain f)
plain_written (a_number n) = record { idle = record { lets = refl; functions = refl; facts = refl }; there = refl; stays = refl }
plain_written (a_text s) = record { idle = record { lets = refl; functions = refl; facts = refl }; there = refl; stays = refl }
plain_written (a_boolean b) = record { idle = record { lets = refl; functions = refl; facts = refl }; there = refl; stays = refl }
plain_written a_null = record { idle = record { lets = refl; functions = refl; facts = refl }; there = refl; stays = refl }
plain_written (a_big_int n) = record { idle = record { lets = refl; functions = refl; facts = refl }; there = refl; stays = refl }
plain_written (a_template l raw s) = record { idle = record { lets = refl; functions = refl; facts = refl }; there = refl; stays = refl }
plain_written a_void = record { idle = record { lets = refl; functions = refl; facts = refl }; there = refl; stays = refl }

pub equal_test : (e : Environment) (d t : Tree) (s : State) → means e (binary StrictEquality d t) (As Test) tt s ≡ either (means e d (As Val) tt s) (λ v z. either (means e t (As Val) tt z) (λ w z. ok (strictly_equal v w) z) (λ x z. stop x z)) (λ x z. stop x z)
unfolding means meaning step
equal_test e d t s = refl

choose_caught : (b : Bool) (x y : Completion (Unit {0})) → caught (choose b x y) ≡ choose b (caught x) (caught y)
choose_caught true x y = refl
choose_caught false x y = refl

module _ (e : Environment) (ss : Trees) (b : Bool) (stays : breaks_out (listed ss) ≡ false) where
  -- the statements are run where the test is the value
  abbrev pub does : Tree → Value → State → Completion (Unit {0})
  does t v z = either (means e t (As Val) tt z) (λ w z. choose (strictly_equal v w) (means e (listed ss) (Stat None) [] z) (ok tt z)) (λ x z. stop x z)

  branch : (c : Bool) (z : State) → caught (choose c (means e (listed (ended b ss)) (Stat None) [] z) (ok tt z)) ≡ choose c (means e (listed ss) (Stat None) [] z) (ok tt z)
  branch true z = body_ends e ss stays b z
  branch false z = either_ok tt z _ _

  pub case_does : (t : Tree) → Written t → (v : Value) (z : State) → caught (means e (listed (switch_case t (ended b ss) ▸ none)) Cases v z) ≡ does t v z
  case_does t w v z =
      ap caught (cases_choose e t (ended b ss) v z ∙ ap (λ a. chooses e t (ended b ss) a v z) w.there ∙ chooses_case e t (ended b ss) w.there v z)
      ∙ either_assoc (means e t (As Val) tt z) _ _ _ _
      ∙ either_cong (means e t (As Val) tt z) _ _ _ _ (λ y z. branch (strictly_equal v y) z) (λ x z. either_stop x z _ _)
      ∙ unbroken_cong (means e t (As Val) tt z) _ _ (never_broken e t w.stays (As Val) tt z) (λ y z. refl)

module _ (e : Environment) (d : Tree) (u : Nothing d) (ss : Trees) (b : Bool) (unscoped : are_unscoped ss ≡ true) (stays : breaks_out (listed ss) ≡ false) (r : LabelSet) where
  case_means : (t : Tree) → Written t → (s : State) → means e (one_case d t (ended b ss)) (Stat None) r s ≡ means e (if_alone (binary StrictEquality d t) (block ss)) (Stat None) r s
  case_means t w s =
      switch_caught e (listed (switch_case t (ended b ss) ▸ none)) (idle_case t (ended b ss) w.idle (read_nothing (ended b ss) (unscoped_ended b ss unscoped))) d u r s
      ∙ either_cong (means e d (As Val) tt s) _ _ _ _ (λ v z. case_does e ss b stays t w v z) (λ x z. refl)
      ∙ sym (
      if_is e (binary StrictEquality d t) (block ss) absent r s
      ∙ ap (λ x. either x (λ c z. choose c (means e (block ss) (Stat None) [] z) (means e absent (Stat None) [] z)) (λ x z. stop x z)) (equal_test e d t s)
      ∙ either_assoc (means e d (As Val) tt s) _ _ _ _
      ∙ either_cong (means e d (As Val) tt s) _ _ _ _ (λ v z. outer v z) (λ x z. either_stop x z _ _)
      )
    where
      taken : (c : Bool) (z : State) → choose c (means e (block ss) (Stat None) [] z) (means e absent (Stat None) [] z) ≡ choose c (means e (listed ss) (Stat None) [] z) (ok tt z)
      taken true z = block_is e ss (read_nothing ss unscoped) [] z
      taken false z = absent_is e [] z

      outer : (v : Value) (z : State) → either (either (means e t (As Val) tt z) (λ w z. ok (strictly_equal v w) z) (λ x z. stop x z)) (λ c z. choose c (means e (block ss) (Stat None) [] z) (means e absent (Stat None) [] z)) (λ x z. stop x z) ≡ does e ss b stays t v z
      outer v z =
          either_assoc (means e t (As Val) tt z) _ _ _ _
          ∙ either_cong (means e t (As Val) tt z) _ _ _ _ (λ y z. either_ok (strictly_equal v y) z _ _ ∙ taken (strictly_equal v y) z) (λ x z. either_stop x z _ _)

  default_means : (s : State) → means e (one_case d absent (ended b ss)) (Stat None) r s ≡ means e (block (expression_statement d ▸ ss)) (Stat None) r s
  unfolding told
  default_means s =
      switch_caught e (listed (switch_case absent (ended b ss) ▸ none)) (idle_case absent (ended b ss) (record { lets = refl; functions = refl; facts = refl }) (read_nothing (ended b ss) (unscoped_ended b ss unscoped))) d u r s
      ∙ either_cong (means e d (As Val) tt s) _ _ _ _ (λ v z. ap caught (cases_choose e absent (ended b ss) v z ∙ chooses_default e absent (ended b ss) v z) ∙ body_ends e ss stays b z) (λ x z. refl)
      ∙ sym (
      block_is e (expression_statement d ▸ ss) (read_nothing (expression_statement d ▸ ss) unscoped) r s
      ∙ listed_is e (expression_statement d ▸ ss) [] s
      ∙ exec_more e (expression_statement d) ss s
      ∙ ap (λ x. either x (λ u z. exec e ss None z) (λ x z. stop x z)) (expression_is e d [] s ∙ coherent d Unused e s)
      ∙ either_assoc (means e d (As Val) tt s) _ _ _ _
      ∙ either_cong (means e d (As Val) tt s) _ _ _ _ (λ v z. either_ok tt z _ _ ∙ sym (listed_is e ss [] z)) (λ x z. either_stop x z _ _)
      )

case_same : (n w : Tree) → Row80Case n w → SameStatement n w
case_same n w r =
    replaced n _ w _ r.shape r.written
    (equal_statement _ _ (λ e ls s. case_means e r.discriminant (nothing_by r.discriminant r.value) r.statements r.is_ended r.unscoped r.stays ls (plain r.test) (plain_written r.test) s) refl)

default_same : (n w : Tree) → Row80Default n w → SameStatement n w
default_same n w r =
    replaced n _ w _ r.shape r.written
    (equal_statement _ _ (λ e ls s. default_means e r.discriminant (nothing_by r.discriminant r.value) r.statements r.is_ended r.unscoped r.stays ls s) refl)

-- ---- 80 of `default` with lexical names: the scope of the cases is that of the block

module _ (e : Environment) (ts : Trees) where
  abbrev cases : Tree
  cases = listed (switch_case absent ts ▸ none)

  abbrev block_names : Naming
  block_names = naming shape.BlockStatement (Stat None) [] 0 (summaries (listed ts ▸ none))

  around : {A : Type 0} (xs : List A) → ([] ++ (xs ++ [])) ++ [] ≡ xs
  around xs = append-nil (xs ++ []) ∙ append-nil xs

  same_names : switch_names [] [] cases ≡ block_names
  same_names = λ i. record { own = []; written = []; bound = []; number = 0; scope = (around (lets_all (summaries ts)) i ++ []) ++ function_names (around (functions_all (summaries ts)) i ++ []); functions = around (functions_all (summaries ts)) i ++ [] }

  same_facts : function_facts (facts (cases ▸ none)) ≡ function_facts (facts (listed ts ▸ none))
  same_facts = λ i. around (function_facts (facts ts)) i ++ []

  abbrev creates : State → Completion (Unit {0})
  creates z = run {q = λ i. Stat None} e block_names no_kids (create_functions true (function_facts (facts (listed ts ▸ none))) 0) (leave block_names z)

  -- the functions are created, and the statements are run
  abbrev runs : State → Completion (Unit {0})
  runs z = leaving block_names (either (creates z) (λ u y. means e (listed ts) (Stat None) [] y) (λ x y. stop x y))

  block_runs_so : (r : LabelSet) (z : State) → means e (block ts) (Stat None) r z ≡ runs z
  unfolding means meaning step closed hidden
  block_runs_so r z =
      finished e block_names (λ i. Stat None) (λ i r z. meaning e (listed ts ▸ none) i (Stat None) r z) None (block_step None (facts (listed ts ▸ none))) z ∙ finish_none _
      ∙ block_runs e block_names (meaning e (listed ts ▸ none)) None (facts (listed ts ▸ none)) z
      ∙ ap (λ C. leaving block_names (either C (λ u y. means e (listed ts) (Stat None) [] y) (λ x y. stop x y))) (creates_alone e block_names (λ i. Stat None) (λ i. Stat None) (λ i. meaning e (listed ts ▸ none) i (Stat None)) no_kids true (function_facts (facts (listed ts ▸ none))) 0 (leave block_names z))

  scoped_rest : (v : Value) (z : State) → switch_rest e [] [] [] cases v z ≡ leaving block_names (either (creates z) (λ u y. caught (means e cases Cases v y)) (λ x y. stop x y))
  unfolding switch_rest
  scoped_rest v z = λ i. leaving (same_names i) (either (run {q = λ j. Stat None} e (same_names i) no_kids (create_functions true (same_facts i) 0) (leave (same_names i) z)) (λ u y. caught (means e cases Cases v y)) (λ x y. stop x y))

module _ (e : Environment) (d : Tree) (u : Nothing d) (ss : Trees) (b : Bool) (stays : breaks_out (listed ss) ≡ false) where
  -- without its `break;` it declares the same
  ended_names : block_names e (ended b ss) ≡ block_names e ss
  ended_names = by b
    where
      longer_lets : (ts : Trees) → lets_all (summaries (append ts (bare_break ▸ none))) ≡ lets_all (summaries ts)
      longer_lets none = refl
      longer_lets (t ▸ ts) = ap (λ r. (summary t).lets ++ r) (longer_lets ts)

      longer_functions : (ts : Trees) → functions_all (summaries (append ts (bare_break ▸ none))) ≡ functions_all (summaries ts)
      longer_functions none = refl
      longer_functions (t ▸ ts) = ap (λ r. (summary t).functions ++ r) (longer_functions ts)

      by : (c : Bool) → block_names e (ended c ss) ≡ block_names e ss
      by false = refl
      by true = λ i. record { own = []; written = []; bound = []; number = 0; scope = (longer_lets ss i ++ []) ++ function_names (longer_functions ss i ++ []); functions = longer_functions ss i ++ [] }

  ended_facts : function_facts (facts (listed (ended b ss) ▸ none)) ≡ function_facts (facts (listed ss ▸ none))
  ended_facts = by b
    where
      longer : (ts : Trees) → function_facts (facts (append ts (bare_break ▸ none))) ≡ function_facts (facts ts)
      longer none = refl
      longer (t ▸ ts) = ap (λ r. (summary t).facts.functions ++ r) (longer ts)

      by : (c : Bool) → function_facts (facts (listed (ended c ss) ▸ none)) ≡ function_facts (facts (listed ss ▸ none))
      by false = refl
      by true = ap (λ r. r ++ []) (longer ss)

  ended_creates : (z : State) → creates e (ended b ss) z ≡ creates e ss z
  ended_creates z = λ i. run {q = λ j. Stat None} e (ended_names i) no_kids (create_functions true (ended_facts i) 0) (leave (ended_names i) z)

  case_runs : (v : Value) (z : State) → switch_rest e [] [] [] (cases e (ended b ss)) v z ≡ runs e ss z
  case_runs v z =
      scoped_rest e (ended b ss) v z
      ∙ (λ i. leaving (ended_names i) (either (ended_creates z i) (λ u y. caught (means e (cases e (ended b ss)) Cases v y)) (λ x y. stop x y)))
      ∙ ap (leaving (block_names e ss)) (either_cong (creates e ss z) _ _ _ _ (λ u y. ap caught (cases_choose e absent (ended b ss) v y ∙ chooses_default e absent (ended b ss) v y) ∙ body_ends e ss stays b y) (λ x y. refl))

  scoped_means : (r : LabelSet) (s : State) → means e (one_case d absent (ended b ss)) (Stat None) r s ≡ means e (block (expression_statement d ▸ (block ss ▸ none))) (Stat None) r s
  unfolding told
  scoped_means r s =
      switch_is e d (cases e (ended b ss)) r s
      ∙ ap (λ l. either (means e d (As Val) tt s) (λ v z. switch_rest e l (summary d).functions (summary d).facts.functions (cases e (ended b ss)) v z) (λ x z. stop x z)) u.lets
      ∙ ap (λ l. either (means e d (As Val) tt s) (λ v z. switch_rest e [] l (summary d).facts.functions (cases e (ended b ss)) v z) (λ x z. stop x z)) u.functions
      ∙ ap (λ l. either (means e d (As Val) tt s) (λ v z. switch_rest e [] [] l (cases e (ended b ss)) v z) (λ x z. stop x z)) u.facts
      ∙ either_cong (means e d (As Val) tt s) _ _ _ _ (λ v z. case_runs v z) (λ x z. refl)
      ∙ sym (
      block_is e (expression_statement d ▸ (block ss ▸ none)) (read_nothing (expression_statement d ▸ (block ss ▸ none)) refl) r s
      ∙ listed_is e (expression_statement d ▸ (block ss ▸ none)) [] s
      ∙ exec_more e (expression_statement d) (block ss ▸ none) s
      ∙ ap (λ x. either x (λ u z. exec e (block ss ▸ none) None z) (λ x z. stop x z)) (expression_is e d [] s ∙ coherent d Unused e s)
      ∙ either_assoc (means e d (As Val) tt s) _ _ _ _
      ∙ either_cong (means e d (As Val) tt s) _ _ _ _ (λ v z. either_ok tt z _ _ ∙ exec_one e (block ss) z ∙ block_runs_so e ss [] z) (λ x z. either_stop x z _ _)
      )

scoped_same : (n w : Tree) → Row80Scoped n w → SameStatement n w
scoped_same n w r =
    replaced n _ w _ r.shape r.written
    (equal_statement _ _ (λ e ls s. scoped_means e r.discriminant (nothing_by r.discriminant r.value) r.statements r.is_ended r.stays ls s) refl)

pub one_case_same : (n w : Tree) → OneCaseRow n w → SameStatement n w
one_case_same n w (inl r) = case_same n w r
one_case_same n w (inr (inl r)) = default_same n w r
one_case_same n w (inr (inr r)) = scoped_same n w r
