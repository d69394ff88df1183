-- What a `switch` and a `for` do after the expression in their heads.
use Rattle.std.proofs.Common.{◌≡◌, ℕ, zero, suc, Bool, true, false, List, [], ◌++◌, Option, Some, None, refl, sym, ap, ◌∙◌, true≢false}
use Rattle.mini_model.specs.declared.operator.UnaryOperator.TheVariants.{LogicalNot}
use Rattle.mini_model.specs.declared.shape.Shape.TheVariants as shape
use Rattle.mini_model.specs.Tree.{Tree, node, none, ◌▸◌, absent}
use Rattle.mini_laws.specs.Value.{Value, Variable, choose}
use Rattle.mini_laws.specs.State.{State, Stop, Thrown, Returned, Broken, Continued, Short, Completion, ok, stop, out, Ends, done, ended, either, Environment, with_vars}
use Rattle.mini_laws.specs.Demand.{Val, Unused, Demand, As, Stat, Cases, LabelSet}
use Rattle.mini_laws.specs.Command.{Hoisted, Naming, Command, ret, fails, op, kid, turn, fuel, hide, hide_all, then, bind, repeat, loop, Kids, act, run}
use Rattle.mini_laws.specs.Naming.{Declared, FunctionFact, summary, summaries, facts, lets_all, functions_all, function_facts, function_names, naming}
use Rattle.mini_laws.specs.Asking.{first_demand, for_demand}
use Rattle.mini_laws.specs.Replies.{as_ended}
use Rattle.mini_laws.specs.Statements.{scoped, create_functions, switch_step, unbroken}
use Rattle.mini_laws.specs.Loops.{after_body, has_label, for_test, for_turn, for_turns, for_step}
use Rattle.mini_laws.specs.Step.{step, means, meaning}
use Rattle.mini_laws.proofs.Runs.{either_cong, either_eta, either_ok, run_bind}
use Rattle.mini_laws.proofs.Stretching.{run_attempt}
use Rattle.mini_laws.proofs.Tailing.{finished, finish_none, creates_alone}
use Rattle.mini_rows.specs.Lists.{switch, for_loop, declares_nothing}

-- ---- what an expression declares

pub record Nothing (t : Tree) : Type 0 where
  pub lets : (summary t).lets ≡ []
  pub functions : (summary t).functions ≡ []
  pub facts : (summary t).facts.functions ≡ []
  pub declared : (summary t).facts.declared ≡ None

pub nothing_by : (t : Tree) → declares_nothing t ≡ true → Nothing t
nothing_by (node shape.Absent xs n ts) e = absurd (true≢false (sym e))
nothing_by (node shape.Listed xs n ts) e = absurd (true≢false (sym e))
nothing_by (node (shape.UnaryExpression LogicalNot) xs n none) e = absurd (true≢false (sym e))
nothing_by (node (shape.UnaryExpression LogicalNot) xs n (t ▸ ts)) e = let inner = nothing_by t e in record { lets = inner.lets; functions = inner.functions; facts = inner.facts; declared = inner.declared }
nothing_by (node shape.BindingIdentifier xs n ts) e = absurd (true≢false (sym e))
nothing_by (node shape.ObjectPattern xs n ts) e = absurd (true≢false (sym e))
nothing_by (node shape.ArrayPattern xs n ts) e = absurd (true≢false (sym e))
nothing_by (node (shape.BindingProperty is_shorthand is_computed) xs n ts) e = absurd (true≢false (sym e))
nothing_by (node shape.RestElement xs n ts) e = absurd (true≢false (sym e))
nothing_by (node shape.AssignmentPattern xs n ts) e = absurd (true≢false (sym e))
nothing_by (node shape.VariableDeclarator xs n ts) e = absurd (true≢false (sym e))
nothing_by (node (shape.VariableDeclaration k) xs n ts) e = absurd (true≢false (sym e))
nothing_by (node (shape.Function true g ds) xs n ts) e = absurd (true≢false (sym e))
nothing_by (node (shape.Class true) xs n ts) e = absurd (true≢false (sym e))
nothing_by (node shape.SwitchCase xs n ts) e = absurd (true≢false (sym e))
nothing_by (node shape.ExportNamedDeclaration xs n ts) e = absurd (true≢false (sym e))
nothing_by (node shape.ExportDefaultDeclaration xs n ts) e = absurd (true≢false (sym e))
nothing_by (node h xs n ts) e = record { lets = refl; functions = refl; facts = refl; declared = refl }

-- ---- a scope round a command

abbrev pub leave : Naming → State → State
leave names s = with_vars s (hide_all names.scope s.vars)

abbrev pub leaving : {A : Type 0} → Naming → Completion A → Completion A
leaving names x = either x (λ a z. ok a (leave names z)) (λ y z. stop y (leave names z))

pub scoped_is : (e : Environment) (names : Naming) {q : ℕ → Demand} {A : Type 0} (c : Command q A) (K : Kids q) (s : State) → run e names K (scoped c) s ≡ leaving names (run e names K c (leave names s))
unfolding either act
scoped_is e names c K s = run_attempt e names c (λ x. op hide (then (λ u. as_ended x))) K (leave names s) ∙ either_cong (run e names K c (leave names s)) _ _ _ _ (λ a z. refl) (λ x z. refl)

pub leave_nothing : (names : Naming) → names.scope ≡ [] → (s : State) → leave names s ≡ s
leave_nothing names h s = ap (λ l. with_vars s (hide_all l s.vars)) h

pub leaving_nothing : {A : Type 0} (names : Naming) → names.scope ≡ [] → (x : Completion A) → leaving names x ≡ x
leaving_nothing names h x = either_cong x _ _ _ _ (λ a z. ap (λ y. ok a y) (leave_nothing names h z)) (λ y z. ap (λ w. stop y w) (leave_nothing names h z)) ∙ either_eta x

-- ---- `switch`

unfoldable pub unbroke : Stop → State → Completion (Unit {0})
unbroke (Broken None) z = ok tt z
unbroke x z = stop x z

unbroken_is : (e : Environment) (names : Naming) (q : ℕ → Demand) (K : Kids q) (x : Stop) (z : State) → run {q = q} e names K (unbroken (ended x)) z ≡ unbroke x z
unfolding unbroke
unbroken_is e names q K (Broken None) z = refl
unbroken_is e names q K x z = refl

abbrev pub no_kids : Kids (λ i. Stat None)
no_kids i r s = out

abbrev pub switch_names : List Variable → List Hoisted → Tree → Naming
switch_names l hs cases = record { own = []; written = []; bound = []; number = 0; scope = (l ++ lets_all (summaries (cases ▸ none))) ++ function_names (hs ++ functions_all (summaries (cases ▸ none))); functions = hs ++ functions_all (summaries (cases ▸ none)) }

unfoldable pub switch_rest : Environment → List Variable → List Hoisted → List FunctionFact → Tree → Value → State → Completion (Unit {0})
switch_rest e l hs fs cases v z = leaving (switch_names l hs cases) (either (run {q = λ i. Stat None} e (switch_names l hs cases) no_kids (create_functions true (fs ++ function_facts (facts (cases ▸ none))) 0) (leave (switch_names l hs cases) z)) (λ u y. either (means e cases Cases v y) (λ u x. ok tt x) (λ x w. unbroke x w)) (λ x y. stop x y))

module _ (e : Environment) (d : Tree) (cases : Tree) where
  abbrev switch_kids : Kids (first_demand (As Val) Cases)
  switch_kids i r z = meaning e (d ▸ (cases ▸ none)) i (first_demand (As Val) Cases i) r z

  pub switch_is : (r : LabelSet) (s : State) → means e (switch d cases) (Stat None) r s ≡ either (means e d (As Val) tt s) (λ v z. switch_rest e (summary d).lets (summary d).functions (summary d).facts.functions cases v z) (λ x z. stop x z)
  unfolding means meaning step switch_rest
  switch_is r s =
      finished e (naming shape.SwitchStatement (Stat None) [] 0 (summaries (d ▸ (cases ▸ none)))) (first_demand (As Val) Cases) switch_kids None (switch_step (facts (d ▸ (cases ▸ none)))) s ∙ finish_none _
      ∙ either_cong (means e d (As Val) tt s) _ _ _ _ (λ v z. inner v z) (λ x z. refl)
    where
      inner : (v : Value) (z : State) → run {q = first_demand (As Val) Cases} e (naming shape.SwitchStatement (Stat None) [] 0 (summaries (d ▸ (cases ▸ none)))) switch_kids (scoped (bind (create_functions true (function_facts (facts (d ▸ (cases ▸ none)))) 0) (λ u. kid 1 v unbroken))) z ≡ switch_rest e (summary d).lets (summary d).functions (summary d).facts.functions cases v z
      inner v z =
          scoped_is e (switch_names (summary d).lets (summary d).functions cases) {q = first_demand (As Val) Cases} (bind (create_functions true (function_facts (facts (d ▸ (cases ▸ none)))) 0) (λ u. kid 1 v unbroken)) switch_kids z
          ∙ ap (leaving (switch_names (summary d).lets (summary d).functions cases)) (run_bind e (switch_names (summary d).lets (summary d).functions cases) {q = first_demand (As Val) Cases} (create_functions true (function_facts (facts (d ▸ (cases ▸ none)))) 0) (λ u. kid 1 v unbroken) switch_kids (leave (switch_names (summary d).lets (summary d).functions cases) z)
          ∙ ap (λ x. either x (λ a z. either (means e cases Cases v z) (λ u y. ok tt y) (λ x y. run {q = first_demand (As Val) Cases} e (switch_names (summary d).lets (summary d).functions cases) switch_kids (unbroken (ended x)) y)) (λ x z. stop x z)) (creates_alone e (switch_names (summary d).lets (summary d).functions cases) (first_demand (As Val) Cases) (λ i. Stat None) switch_kids no_kids true (function_facts (facts (d ▸ (cases ▸ none)))) 0 (leave (switch_names (summary d).lets (summary d).functions cases) z))
          ∙ either_cong (run {q = λ i. Stat None} e (switch_names (summary d).lets (summary d).functions cases) no_kids (create_functions true (function_facts (facts (d ▸ (cases ▸ none)))) 0) (leave (switch_names (summary d).lets (summary d).functions cases) z)) _ _ _ _ (λ u y. either_cong (means e cases Cases v y) _ _ _ _ (λ a w. refl) (λ x w. unbroken_is e (switch_names (summary d).lets (summary d).functions cases) (first_demand (As Val) Cases) switch_kids x w)) (λ x y. refl))

  pub switch_plain : Nothing d → (s : State) → means e (switch d cases) (Stat None) [] s ≡ either (means e d (As Val) tt s) (λ v z. switch_rest e [] [] [] cases v z) (λ x z. stop x z)
  switch_plain u s =
      switch_is [] s
      ∙ ap (λ l. either (means e d (As Val) tt s) (λ v z. switch_rest e l (summary d).functions (summary d).facts.functions cases v z) (λ x z. stop x z)) u.lets
      ∙ ap (λ l. either (means e d (As Val) tt s) (λ v z. switch_rest e [] l (summary d).facts.functions cases v z) (λ x z. stop x z)) u.functions
      ∙ ap (λ l. either (means e d (As Val) tt s) (λ v z. switch_rest e [] [] l cases v z) (λ x z. stop x z)) u.facts

-- ---- `for`

-- commands that do the same over two families of children
module _ (e : Environment) (names : Naming) (q : ℕ → Demand) (K : Kids q) (L : Kids q) where
  abbrev Alike : {A : Type 0} → Command q A → Type 0
  Alike c = (z : State) → run {q = q} e names K c z ≡ run {q = q} e names L c z

  bind_alike : {A B : Type 0} (c : Command q A) (f : A → Command q B) → Alike c → ((a : A) → Alike (f a)) → Alike (bind c f)
  bind_alike c f h k z =
      run_bind e names c f K z
      ∙ ap (λ x. either x (λ a z. run {q = q} e names K (f a) z) (λ x z. stop x z)) (h z)
      ∙ either_cong (run {q = q} e names L c z) _ _ _ _ (λ a y. k a y) (λ x y. refl)
      ∙ sym (run_bind e names c f L z)

  choose_alike : {A : Type 0} (b : Bool) (c c' : Command q A) → Alike c → Alike c' → Alike (choose b c c')
  choose_alike true c c' h k = h
  choose_alike false c c' h k = k

  after_alike : (labels : LabelSet) (x : Ends (Unit {0})) → Alike (after_body labels x)
  after_alike labels (done u) z = refl
  after_alike labels (ended (Broken None)) z = refl
  after_alike labels (ended (Continued None)) z = refl
  after_alike labels (ended (Continued (Some l))) z = choose_alike (has_label labels l) (ret true) (fails (Continued (Some l))) (λ z. refl) (λ z. refl) z
  after_alike labels (ended (Broken (Some l))) z = refl
  after_alike labels (ended (Thrown v)) z = refl
  after_alike labels (ended (Returned v)) z = refl
  after_alike labels (ended Short) z = refl

  repeat_alike : (n : ℕ) (c : Command q Bool) → Alike c → Alike (repeat n c)
  repeat_alike zero c h z = refl
  repeat_alike (suc n) c h z = bind_alike c (λ b. choose b (repeat n c) (ret tt)) h (λ b. choose_alike b (repeat n c) (ret tt) (repeat_alike n c h) (λ z. refl)) z

  loop_alike : (c : Command q Bool) → Alike c → Alike (loop c)
  loop_alike c h z = either_cong (act e names fuel z) _ _ _ _ (λ n y. repeat_alike (suc n) (op turn (then (λ u. c))) (λ x. either_cong (act e names turn x) _ _ _ _ (λ u w. h w) (λ s w. refl)) y) (λ x y. refl)

module _ (e : Environment) (names : Naming) (has_no_test : Bool) (labels : LabelSet) (K : Kids (for_demand None)) (L : Kids (for_demand None)) where
  test_alike : ((z : State) → K 1 tt z ≡ L 1 tt z) → (b : Bool) → Alike e names (for_demand None) K L (for_test None b)
  test_alike h true z = refl
  test_alike h false z = ap (λ x. either x (λ a y. ok a y) (λ y w. stop y w)) (h z)

  abbrev again : Bool → Command (for_demand None) Bool
  again c = choose c (kid 2 tt (then (λ u. ret true))) (ret false)

  ended_alike : ((z : State) → K 2 tt z ≡ L 2 tt z) → (x : Ends (Unit {0})) → Alike e names (for_demand None) K L (bind (after_body labels x) again)
  ended_alike h2 x = bind_alike e names (for_demand None) K L (after_body labels x) again (after_alike e names (for_demand None) K L labels x) (λ c. choose_alike e names (for_demand None) K L c (kid 2 tt (then (λ u. ret true))) (ret false) (λ z. ap (λ x. either x (λ a y. ok true y) (λ y w. stop y w)) (h2 z)) (λ z. refl))

  turns_alike : ((z : State) → K 1 tt z ≡ L 1 tt z) → ((z : State) → K 2 tt z ≡ L 2 tt z) → ((z : State) → K 3 [] z ≡ L 3 [] z) → Alike e names (for_demand None) K L (for_turns None has_no_test labels)
  turns_alike h1 h2 h3 =
      loop_alike e names (for_demand None) K L (for_turn None has_no_test labels)
      (bind_alike e names (for_demand None) K L (for_test None has_no_test) _ (test_alike h1 has_no_test)
      (λ b. choose_alike e names (for_demand None) K L b _ _ (λ z. ap (λ x. either x (λ a y. run {q = for_demand None} e names K (bind (after_body labels (done a)) again) y) (λ x y. run {q = for_demand None} e names K (bind (after_body labels (ended x)) again) y)) (h3 z) ∙ either_cong (L 3 [] z) _ _ _ _ (λ a y. ended_alike h2 (done a) y) (λ x y. ended_alike h2 (ended x) y)) (λ z. refl)))

abbrev pub for_names : List Variable → Naming
for_names l = record { own = []; written = []; bound = []; number = 0; scope = l; functions = [] }

module _ (e : Environment) (test update body : Tree) where
  abbrev pub for_kids : Tree → (d : Option Declared) → Kids (for_demand d)
  for_kids i d j r z = meaning e (i ▸ (test ▸ (update ▸ (body ▸ none)))) j (for_demand d j) r z

  unfoldable pub for_rest : LabelSet → State → Completion (Unit {0})
  for_rest r z = run {q = for_demand None} e (for_names []) (for_kids absent None) (for_turns None (summary test).facts.absent r) z

  pub for_is : (i : Tree) → Nothing i → (r : LabelSet) (s : State) → means e (for_loop i test update body) (Stat None) r s ≡ either (means e i (As Unused) tt s) (λ u z. for_rest r z) (λ x z. stop x z)
  unfolding means meaning step for_rest
  for_is i u r s =
      finished e (for_names (summary i).lets) (for_demand (summary i).facts.declared) (for_kids i (summary i).facts.declared) None (for_step (summary i).facts.declared (summary test).facts.absent r) s ∙ finish_none _
      ∙ ap (λ d. run {q = for_demand d} e (for_names (summary i).lets) (for_kids i d) (for_step d (summary test).facts.absent r) s) u.declared
      ∙ ap (λ l. run {q = for_demand None} e (for_names l) (for_kids i None) (for_step None (summary test).facts.absent r) s) u.lets
      ∙ scoped_is e (for_names []) {q = for_demand None} (kid 0 tt (then (λ u. for_turns None (summary test).facts.absent r))) (for_kids i None) s
      ∙ leaving_nothing (for_names []) refl _
      ∙ either_cong (means e i (As Unused) tt s) _ _ _ _ (λ u z. turns_alike e (for_names []) (summary test).facts.absent r (for_kids i None) (for_kids absent None) (λ z. refl) (λ z. refl) (λ z. refl) z) (λ x z. refl)

  absent_unused : (s : State) → means e absent (As Unused) tt s ≡ ok tt s
  unfolding means step
  absent_unused s = refl

  pub for_absent_is : (r : LabelSet) (s : State) → means e (for_loop absent test update body) (Stat None) r s ≡ for_rest r s
  for_absent_is r s = for_is absent (record { lets = refl; functions = refl; facts = refl; declared = refl }) r s ∙ ap (λ x. either x (λ u z. for_rest r z) (λ x z. stop x z)) (absent_unused s) ∙ either_ok tt s _ _
