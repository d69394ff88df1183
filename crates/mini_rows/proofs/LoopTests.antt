-- A `for` whose body begins by leaving the loop does what it does with that in its test.
use Rattle.std.proofs.Common.{◌≡◌, ℕ, Bool, true, false, [], Option, Some, None, refl, sym, ap, ◌∙◌, true≢false}
use Rattle.std.specs.Prelude.{not, ◌&&◌}
use Rattle.mini_model.specs.declared.kind.VariableDeclarationKind.TheVariants.{Var, Let, Const}
use Rattle.mini_model.specs.declared.operator.LogicalOperator.TheVariants.{And}
use Rattle.mini_model.specs.declared.operator.UnaryOperator.TheVariants.{LogicalNot}
use Rattle.mini_model.specs.declared.shape.Shape.TheVariants as shape
use Rattle.mini_model.specs.Tree.{Tree, Trees, node, none, ◌▸◌, absent, logical}
use Rattle.mini_laws.specs.Value.{choose}
use Rattle.mini_laws.specs.State.{State, Stop, Thrown, Returned, Broken, Continued, Short, Completion, ok, stop, Ends, done, ended, either, Environment}
use Rattle.mini_laws.specs.Demand.{Test, LoopTail, Demand, As, Stat, LabelSet}
use Rattle.mini_laws.specs.Command.{Naming, copy, Command, ret, kid, then, bind, loop, Kids, act, run}
use Rattle.mini_laws.specs.Naming.{Declared, Variables, AClass, summary}
use Rattle.mini_laws.specs.Asking.{for_demand}
use Rattle.mini_laws.specs.Loops.{after_body, copied, for_test, for_turn, for_turns, for_head, for_step}
use Rattle.mini_laws.specs.Step.{step, means, meaning}
use Rattle.mini_laws.specs.Tails.{ends_in}
use Rattle.mini_laws.proofs.Runs.{either_cong, either_assoc, either_eta, either_ok, either_stop, each_bool, run_bind}
use Rattle.mini_laws.proofs.Stretching.{exec}
use Rattle.mini_laws.proofs.Tailing.{finished, finish_none, tail_same}
use Rattle.mini_rows.specs.Lists.{block, for_loop, is_unscoped, are_unscoped}
use Rattle.mini_rows.specs.Loops.{bare_break, is_there, Tested, always, while_true, test_of, is_tested, also, Leaving, alone, or_else, unless, leaves_by, goes_by, runs_on, is_loose, Leading, whole, before, led, others_of}
use Rattle.mini_rows.proofs.BranchMeaning.{SameStatement, equal_statement, and_test, not_test}
use Rattle.mini_rows.proofs.JumpFree.{NoJump, tree_free, calm_stops}
use Rattle.mini_rows.proofs.ListHeads.{for_names}
use Rattle.mini_rows.proofs.ListLoops.{bind_alike, choose_alike, after_alike, loop_alike, scoped_alike}
use Rattle.mini_rows.proofs.ListStatements.{if_is, absent_is, empty_is, block_is, read_nothing}
use Rattle.mini_rows.proofs.ListStretches.{exec_more, listed_is}

-- ---- the body

-- whether the loop goes on where the test gives this
abbrev pub stays : Leaving → Bool → Bool
stays alone v = not v
stays (or_else s) v = not v
stays (unless s) v = v

leaves_unscoped : (l : Leaving) (x : Tree) → is_unscoped (leaves_by l x) ≡ true
leaves_unscoped alone x = refl
leaves_unscoped (or_else s) x = refl
leaves_unscoped (unless s) x = refl

module _ (e : Environment) (x : Tree) where
  pub break_is : (z : State) → means e bare_break (Stat None) [] z ≡ stop (Broken None) z
  unfolding means meaning step either
  break_is z = refl

  leaves_is : (l : Leaving) (z : State) → means e (leaves_by l x) (Stat None) [] z ≡ either (means e x (As Test) tt z) (λ v y. choose (stays l v) (means e (runs_on l) (Stat None) [] y) (stop (Broken None) y)) (λ y w. stop y w)
  leaves_is alone z = if_is e x bare_break absent [] z ∙ either_cong (means e x (As Test) tt z) _ _ _ _ (each_bool _ (λ y. break_is y) (λ y. absent_is e [] y ∙ sym (empty_is e [] y))) (λ y w. refl)
  leaves_is (or_else s) z = if_is e x bare_break s [] z ∙ either_cong (means e x (As Test) tt z) _ _ _ _ (each_bool _ (λ y. break_is y) (λ y. refl)) (λ y w. refl)
  leaves_is (unless s) z = if_is e x s bare_break [] z ∙ either_cong (means e x (As Test) tt z) _ _ _ _ (each_bool _ (λ y. refl) (λ y. break_is y)) (λ y w. refl)

  first_of : (t : Tree) (ts : Trees) → is_unscoped t ≡ true → are_unscoped ts ≡ true → (z : State) → means e (block (t ▸ ts)) (Stat None) [] z ≡ either (means e t (Stat None) [] z) (λ u y. exec e ts None y) (λ y w. stop y w)
  first_of t ts h k z = block_is e (t ▸ ts) (read_nothing (t ▸ ts) (ap (λ b. b && are_unscoped ts) h ∙ k)) [] z ∙ listed_is e (t ▸ ts) [] z ∙ exec_more e t ts z

  body_is : (d : Leading) (l : Leaving) → are_unscoped (others_of d) ≡ true → is_loose l ≡ true → (z : State) → means e (led d (leaves_by l x)) (Stat None) [] z ≡ either (means e x (As Test) tt z) (λ v y. choose (stays l v) (means e (led d (runs_on l)) (Stat None) [] y) (stop (Broken None) y)) (λ y w. stop y w)
  body_is whole l h k z = leaves_is l z
  body_is (before ts) l h k z =
      first_of (leaves_by l x) ts (leaves_unscoped l x) h z
      ∙ ap (λ c. either c (λ u y. exec e ts None y) (λ y w. stop y w)) (leaves_is l z)
      ∙ either_assoc (means e x (As Test) tt z) _ _ _ _
      ∙ either_cong (means e x (As Test) tt z) _ _ _ _ (λ v y. on (stays l v) y) (λ y w. either_stop y w _ _)
    where
      on : (b : Bool) (y : State) → either (choose b (means e (runs_on l) (Stat None) [] y) (stop (Broken None) y)) (λ u y. exec e ts None y) (λ y w. stop y w) ≡ choose b (means e (block (runs_on l ▸ ts)) (Stat None) [] y) (stop (Broken None) y)
      on true y = sym (first_of (runs_on l) ts k h y)
      on false y = either_stop (Broken None) y _ _

  goes_is : (l : Leaving) (y : State) → means e (goes_by l x) (As Test) tt y ≡ either (means e x (As Test) tt y) (λ v w. ok (stays l v) w) (λ y w. stop y w)
  goes_is alone y = not_test e x y
  goes_is (or_else s) y = not_test e x y
  goes_is (unless s) y = sym (either_eta (means e x (As Test) tt y))

-- ---- a turn

module _ (e : Environment) (names : Naming) (q : ℕ → Demand) (K L : Kids q) where
  copied_alike : {A : Type 0} (d : Option Declared) (c : Command q A) (c' : Command q A) → ((z : State) → run {q = q} e names K c z ≡ run {q = q} e names L c' z) → (z : State) → run {q = q} e names K (copied d c) z ≡ run {q = q} e names L (copied d c') z
  copied_alike None c c' h = h
  copied_alike (Some AClass) c c' h = h
  copied_alike (Some (Variables Var)) c c' h = h
  copied_alike (Some (Variables Const)) c c' h = h
  copied_alike (Some (Variables Let)) c c' h = λ z. either_cong (act e names copy z) _ _ _ _ (λ u y. h y) (λ x y. refl)

module _ (e : Environment) (init update : Tree) (k : Option Declared) (names : Naming) (r : LabelSet) where
  abbrev F : Tree → Tree → Kids (for_demand k)
  F t b i q z = meaning e (init ▸ (t ▸ (update ▸ (b ▸ none)))) i (for_demand k i) q z

  abbrev again : Bool → Command (for_demand k) Bool
  again c = choose c (copied k (kid 2 tt (then (λ u. ret true)))) (ret false)

  -- after the body nothing is asked of it, nor of the test
  abbrev after : Ends (Unit {0}) → Command (for_demand k) Bool
  after x = bind (after_body r x) again

  ends_alike : (t b t' b' : Tree) (x : Ends (Unit {0})) (z : State) → run {q = for_demand k} e names (F t b) (after x) z ≡ run {q = for_demand k} e names (F t' b') (after x) z
  unfolding meaning
  ends_alike t b t' b' x = bind_alike e names (for_demand k) (for_demand k) (F t b) (F t' b') (after_body r x) (after_body r x) again again (after_alike e names (for_demand k) (for_demand k) (F t b) (F t' b') r x)
      (λ c. choose_alike e names (for_demand k) (for_demand k) (F t b) (F t' b') c _ _ _ _ (copied_alike e names (for_demand k) (F t b) (F t' b') k (kid 2 tt (then (λ u. ret true))) (kid 2 tt (then (λ u. ret true))) (λ z. refl)) (λ z. refl))

  abbrev runs : Tree → Tree → State → Completion Bool
  runs t b y = run {q = for_demand k} e names (F t b) (kid 3 [] after) y

  abbrev ends : Tree → Tree → Stop → State → Completion Bool
  ends t b s w = run {q = for_demand k} e names (F t b) (after (ended s)) w

  abbrev normally : Tree → Tree → Unit {0} → State → Completion Bool
  normally t b u w = run {q = for_demand k} e names (F t b) (after (done u)) w

  runs_is : (t b : Tree) (y : State) → runs t b y ≡ either (means e b (Stat (Some LoopTail)) [] y) (normally t b) (ends t b)
  unfolding meaning
  runs_is t b y = refl

  turn_is : (t b : Tree) (n : Bool) (z : State) → run {q = for_demand k} e names (F t b) (for_turn k n r) z ≡ either (run {q = for_demand k} e names (F t b) (for_test k n) z) (λ c y. choose c (runs t b y) (ok false y)) (λ y w. stop y w)
  turn_is t b n z = run_bind e names (for_test k n) (λ c. choose c (kid 3 [] after) (ret false)) (F t b) z ∙ either_cong (run {q = for_demand k} e names (F t b) (for_test k n) z) _ _ _ _ (each_bool _ (λ y. refl) (λ y. refl)) (λ y w. refl)

  -- a test that is there
  test_is : (t b : Tree) (z : State) → run {q = for_demand k} e names (F t b) (for_test k false) z ≡ means e t (As Test) tt z
  unfolding meaning
  test_is t b z = either_eta (means e t (As Test) tt z)

  -- ends of an expression end the loop
  ends_as : (t b : Tree) (s : Stop) (w : State) → NoJump s → either (ends_in (Some LoopTail) s w) (normally t b) (ends t b) ≡ stop s w
  unfolding either
  ends_as t b (Thrown v) w p = refl
  ends_as t b (Returned v) w p = refl
  ends_as t b Short w p = refl
  ends_as t b (Broken l) w p = absurd p
  ends_as t b (Continued l) w p = absurd p

  broken : (t b : Tree) (w : State) → either (either {A = Unit {0}} (stop (Broken None) w) (λ u z. ok tt z) (ends_in (Some LoopTail))) (normally t b) (ends t b) ≡ ok false w
  unfolding either
  broken t b w = refl

  -- a body that begins by leaving the loop
  leaving_is : (x : Tree) (d : Leading) (l : Leaving) → are_unscoped (others_of d) ≡ true → is_loose l ≡ true → (t t' : Tree) (y : State) → runs t (led d (leaves_by l x)) y ≡ either (means e x (As Test) tt y) (λ v w. choose (stays l v) (runs t' (led d (runs_on l)) w) (ok false w)) (λ s w. stop s w)
  leaving_is x d l h m t t' y =
      let b = led d (leaves_by l x) in
      let c = led d (runs_on l) in
      runs_is t b y
      ∙ ap (λ a. either a (normally t b) (ends t b)) (tail_same e b (Some LoopTail) [] y ∙ ap (λ a. either a (λ u z. ok tt z) (ends_in (Some LoopTail))) (body_is e x d l h m y) ∙ either_assoc (means e x (As Test) tt y) _ _ _ _)
      ∙ either_assoc (means e x (As Test) tt y) _ _ _ _
      ∙ either_cong (means e x (As Test) tt y) _ _ _ _ (λ v w. on (stays l v) w) (λ s w. ap (λ a. either a (normally t b) (ends t b)) (either_stop s w _ _))
      ∙ calm_stops (means e x (As Test) tt y) _ _ (λ s w. stop s w) (tree_free e x (As Test) tt tt y) (λ s w p. ends_as t b s w p)
    where
      on : (a : Bool) (w : State) → either (either (choose a (means e (led d (runs_on l)) (Stat None) [] w) (stop (Broken None) w)) (λ u z. ok tt z) (ends_in (Some LoopTail))) (normally t (led d (leaves_by l x))) (ends t (led d (leaves_by l x))) ≡ choose a (runs t' (led d (runs_on l)) w) (ok false w)
      on true w =
          ap (λ a. either a (normally t (led d (leaves_by l x))) (ends t (led d (leaves_by l x)))) (sym (tail_same e (led d (runs_on l)) (Some LoopTail) [] w))
          ∙ either_cong (means e (led d (runs_on l)) (Stat (Some LoopTail)) [] w) _ _ _ _ (λ u z. ends_alike t (led d (leaves_by l x)) t' (led d (runs_on l)) (done u) z) (λ s z. ends_alike t (led d (leaves_by l x)) t' (led d (runs_on l)) (ended s) z)
          ∙ sym (runs_is t' (led d (runs_on l)) w)
      on false w = broken t (led d (leaves_by l x)) w

  -- the two tests
  there : (t : Tree) → is_there t ≡ true → (summary t).facts.absent ≡ false
  there (node shape.Absent xs n ts) h = absurd (true≢false (sym h))
  there (node shape.SwitchCase xs n ts) h = absurd (true≢false (sym h))
  there (node (shape.UnaryExpression LogicalNot) xs n none) h = absurd (true≢false (sym h))
  there (node (shape.UnaryExpression LogicalNot) xs n (t ▸ ts)) h = there t h
  there (node (shape.Function true g ds) xs n ts) h = refl
  there (node (shape.Function false g ds) xs n ts) h = refl
  there (node (shape.Class true) xs n ts) h = refl
  there (node (shape.Class false) xs n ts) h = refl
  there (node h xs n ts) e = refl

  goes_there : (l : Leaving) (x : Tree) → is_there x ≡ true → (summary (goes_by l x)).facts.absent ≡ false
  goes_there alone x h = there x h
  goes_there (or_else s) x h = there x h
  goes_there (unless s) x h = there x h

  abbrev tests : Tree → Tree → State → Completion Bool
  tests t b z = run {q = for_demand k} e names (F t b) (for_test k (summary t).facts.absent) z

  tests_is : (t b : Tree) → (summary t).facts.absent ≡ false → (z : State) → tests t b z ≡ means e t (As Test) tt z
  tests_is t b h z = ap (λ n. run {q = for_demand k} e names (F t b) (for_test k n) z) h ∙ test_is t b z

  also_is : (x : Tree) (l : Leaving) (t : Tested) (b c : Tree) → is_there x ≡ true → is_tested t ≡ true → (z : State) → tests (also t (goes_by l x)) c z ≡ either (tests (test_of t) b z) (λ a y. choose a (either (means e x (As Test) tt y) (λ v w. ok (stays l v) w) (λ s w. stop s w)) (ok false y)) (λ s w. stop s w)
  also_is x l always b c h m z = tests_is (goes_by l x) c (goes_there l x h) z ∙ goes_is e x l z ∙ sym (either_ok true z _ _)
  also_is x l (while_true t) b c h m z =
      tests_is (logical And t (goes_by l x)) c refl z
      ∙ and_test e t (goes_by l x) z
      ∙ ap (λ a. either a (λ a y. choose a (means e (goes_by l x) (As Test) tt y) (ok false y)) (λ s w. stop s w)) (sym (tests_is t b (there t m) z))
      ∙ either_cong (tests t b z) _ _ _ _ (each_bool _ (λ y. goes_is e x l y) (λ y. refl)) (λ s w. refl)

  turns_same : (x : Tree) (d : Leading) (l : Leaving) (t : Tested) → is_there x ≡ true → is_tested t ≡ true → are_unscoped (others_of d) ≡ true → is_loose l ≡ true → (z : State)
      → run {q = for_demand k} e names (F (test_of t) (led d (leaves_by l x))) (for_turn k (summary (test_of t)).facts.absent r) z ≡ run {q = for_demand k} e names (F (also t (goes_by l x)) (led d (runs_on l))) (for_turn k (summary (also t (goes_by l x))).facts.absent r) z
  turns_same x d l t h m u o z =
      let b = led d (leaves_by l x) in
      let c = led d (runs_on l) in
      let t' = also t (goes_by l x) in
      turn_is (test_of t) b (summary (test_of t)).facts.absent z
      ∙ either_cong (tests (test_of t) b z) _ _ _ _ (each_bool _
      (λ y. leaving_is x d l u o (test_of t) t' y ∙ either_cong (means e x (As Test) tt y) _ _ _ _ (λ v w. sym (either_ok (stays l v) w _ _)) (λ s w. sym (either_stop s w _ _)) ∙ sym (either_assoc (means e x (As Test) tt y) _ _ _ _))
      (λ y. sym (either_ok false y _ _)))
      (λ s w. sym (either_stop s w _ _))
      ∙ sym (either_assoc (tests (test_of t) b z) _ _ (λ a y. choose a (runs t' c y) (ok false y)) (λ s w. stop s w))
      ∙ ap (λ a. either a (λ a y. choose a (runs t' c y) (ok false y)) (λ s w. stop s w)) (sym (also_is x l t b c h m z))
      ∙ sym (turn_is t' c (summary t').facts.absent z)

-- ---- the loop

loop_of : (e : Environment) (init update : Tree) (k : Option Declared) (names : Naming) (r : LabelSet) (t b t' b' : Tree) (n n' : Bool)
    → ((z : State) → run {q = for_demand k} e names (F e init update k names r t b) (for_turn k n r) z ≡ run {q = for_demand k} e names (F e init update k names r t' b') (for_turn k n' r) z)
    → (s : State) → run {q = for_demand k} e names (F e init update k names r t b) (for_step k n r) s ≡ run {q = for_demand k} e names (F e init update k names r t' b') (for_step k n' r) s
unfolding meaning
loop_of e init update k names r t b t' b' n n' h =
    scoped_alike e names (for_demand k) (for_demand k) (F e init update k names r t b) (F e init update k names r t' b') (for_head k (for_turns k n r)) (for_head k (for_turns k n' r)) (go k h)
  where
    turns : (k : Option Declared) → ((z : State) → run {q = for_demand k} e names (F e init update k names r t b) (for_turn k n r) z ≡ run {q = for_demand k} e names (F e init update k names r t' b') (for_turn k n' r) z) → (z : State) → run {q = for_demand k} e names (F e init update k names r t b) (for_turns k n r) z ≡ run {q = for_demand k} e names (F e init update k names r t' b') (for_turns k n' r) z
    turns k h = copied_alike e names (for_demand k) (F e init update k names r t b) (F e init update k names r t' b') k (loop (for_turn k n r)) (loop (for_turn k n' r)) (loop_alike e names (for_demand k) (for_demand k) (F e init update k names r t b) (F e init update k names r t' b') (for_turn k n r) (for_turn k n' r) h)

    go : (k : Option Declared) → ((z : State) → run {q = for_demand k} e names (F e init update k names r t b) (for_turn k n r) z ≡ run {q = for_demand k} e names (F e init update k names r t' b') (for_turn k n' r) z) → (z : State) → run {q = for_demand k} e names (F e init update k names r t b) (for_head k (for_turns k n r)) z ≡ run {q = for_demand k} e names (F e init update k names r t' b') (for_head k (for_turns k n' r)) z
    go (Some (Variables v)) h z = either_cong (meaning e (init ▸ (t ▸ (update ▸ (b ▸ none)))) 0 (Stat None) [] z) _ _ _ _ (λ u y. turns (Some (Variables v)) h y) (λ x y. refl)
    go (Some AClass) h z = either_cong (meaning e (init ▸ (t ▸ (update ▸ (b ▸ none)))) 0 (for_demand (Some AClass) 0) tt z) _ _ _ _ (λ u y. turns (Some AClass) h y) (λ x y. refl)
    go None h z = either_cong (meaning e (init ▸ (t ▸ (update ▸ (b ▸ none)))) 0 (for_demand None 0) tt z) _ _ _ _ (λ u y. turns None h y) (λ x y. refl)

for_is : (e : Environment) (init t update b : Tree) (r : LabelSet) (s : State) → means e (for_loop init t update b) (Stat None) r s ≡ run {q = for_demand (summary init).facts.declared} e (for_names (summary init).lets) (F e init update (summary init).facts.declared (for_names (summary init).lets) r t b) (for_step (summary init).facts.declared (summary t).facts.absent r) s
unfolding means step
for_is e init t update b r s =
    finished e (for_names (summary init).lets) (for_demand (summary init).facts.declared) (F e init update (summary init).facts.declared (for_names (summary init).lets) r t b) None (for_step (summary init).facts.declared (summary t).facts.absent r) s ∙ finish_none _

-- 84
pub row_84 : (init update x : Tree) (t : Tested) (d : Leading) (l : Leaving) → is_there x ≡ true → is_tested t ≡ true → are_unscoped (others_of d) ≡ true → is_loose l ≡ true → SameStatement (for_loop init (test_of t) update (led d (leaves_by l x))) (for_loop init (also t (goes_by l x)) update (led d (runs_on l)))
row_84 init update x t d l h m u o =
    equal_statement _ _
    (λ e r s. for_is e init (test_of t) update (led d (leaves_by l x)) r s
    ∙ loop_of e init update (summary init).facts.declared (for_names (summary init).lets) r (test_of t) (led d (leaves_by l x)) (also t (goes_by l x)) (led d (runs_on l)) (summary (test_of t)).facts.absent (summary (also t (goes_by l x))).facts.absent
    (turns_same e init update (summary init).facts.declared (for_names (summary init).lets) r x d l t h m u o) s
    ∙ sym (for_is e init (also t (goes_by l x)) update (led d (runs_on l)) r s))
    refl
