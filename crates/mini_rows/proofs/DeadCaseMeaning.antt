-- What a `switch` over a value that is known does, and what the rows write for it.
use Rattle.std.proofs.Common.{◌≡◌, ℕ, suc, ◌+◌, Bool, true, false, [], ◌∷◌, ◌++◌, length, Option, Some, None, refl, sym, ap, subst, ◌∙◌, inl, inr, arith, true≢false}
use Rattle.std.proofs.lemmas.Bool.{and_parts}
use Rattle.std.specs.Prelude.{◌⊎◌, ◌&&◌, ◌||◌, List, if◌then◌else◌}
use Rattle.mini_model.specs.declared.place.Position.TheVariants.{Stmt}
use Rattle.mini_model.specs.declared.seat.StmtSeat.{StmtSeat}
use Rattle.mini_model.specs.declared.shape.Shape.TheVariants as shape
use Rattle.mini_model.specs.Tree.{Tree, Trees, node, none, ◌▸◌, absent, listed, is_absent}
use Rattle.mini_model.specs.Paths.{append}
use Rattle.mini_laws.specs.Value.{Value, Undefined, Null, Boolean, Number, String, VariableSet, choose}
use Rattle.mini_laws.specs.State.{State, Completion, ok, stop, halt, out, either, Environment}
use Rattle.mini_laws.specs.Demand.{Val, Demand, As, Stat, Cases, ACase, AskTest, AskBody, LabelSet, Request}
use Rattle.mini_laws.specs.Command.{Naming, Command, ret, kid, then as next, bind, Kids, run}
use Rattle.mini_laws.specs.Naming.{Facts, summary, summaries, facts, naming}
use Rattle.mini_laws.specs.Lists.{is_case, test_cases, default_case, or_default, case_bodies, enter_case}
use Rattle.mini_laws.specs.Step.{step, means, meaning}
use Rattle.mini_laws.specs.Fits.{Fits}
use Rattle.mini_laws.specs.Rows.{SameAt}
use Rattle.mini_laws.specs.Same.{Goes, Agree}
use Rattle.mini_laws.specs.Tails.{ends_in}
use Rattle.mini_laws.proofs.Runs.{either_cong, either_assoc, either_eta, either_ok, either_stop, either_out}
use Rattle.mini_laws.proofs.Stretching.{exec}
use Rattle.mini_laws.proofs.Tailing.{tail_same}
use Rattle.mini_terms.specs.Calculated.{free_value}
use Rattle.mini_terms.specs.Folds.{is_effect_free}
use Rattle.mini_terms.specs.Const.{Agrees}
use Rattle.mini_terms.specs.Sound.{Gives, Quiet}
use Rattle.mini_terms.proofs.Calculated.{free_is_constant}
use Rattle.mini_terms.proofs.ConstTable.{const_sound}
use Rattle.mini_terms.proofs.EffectsTable.{effect_free_sound}
use Rattle.mini_terms.proofs.Truths.{lit_sound}
use Rattle.mini_model.specs.declared.kind.VariableDeclarationKind.TheVariants.{Var}
use Rattle.mini_model.specs.declared.name.Name.{Name}
use Rattle.mini_laws.specs.declared.names.Declared.TheVariants as declared
use Rattle.mini_laws.specs.DeclaredNames.{names_of}
use Rattle.mini_rows.specs.Lists.{are_unscoped, declares_nothing, declaration, are_bare_declarators, encloses, bare_declarators, declared_bare, left_behind}
use Rattle.mini_rows.specs.Cases.{switch_case}
use Rattle.mini_rows.specs.DeadCases.{Known, a_number, a_text, a_truth, a_null, undefined, known, value_of, asked, tested, Choices, no_choices, choice, cases_of, before_others, switch_over, are_loose, all_go, left_all, left_cases, test_goes, cases_go, are_ended, running, rest_goes, AllMissed, AllPassed, Taken, DeadCaseRow}
use Rattle.mini_rows.proofs.CaseMeaning.{caught, Idle, case_body, case_test, switch_caught}
use Rattle.mini_rows.proofs.ListBegun.{bare_all, present}
use Rattle.mini_rows.proofs.ListEnds.{Never, never_goes, ended_tree}
use Rattle.mini_rows.proofs.ListHeads.{nothing_by}
use Rattle.mini_rows.proofs.ListStatements.{read_nothing, declaration_is}
use Rattle.mini_rows.proofs.ListStretches.{exec_append, exec_one, listed_is}

-- ---- a value that is written out

pub known_means : (e : Environment) (k : Known) (s : State) → means e (known k) (As Val) tt s ≡ ok (value_of k) s
known_means e (a_number n) s = lit_sound (Number n) e s
known_means e (a_text t) s = lit_sound (String t) e s
known_means e (a_truth true) s = lit_sound (Boolean true) e s
known_means e (a_truth false) s = lit_sound (Boolean false) e s
known_means e a_null s = lit_sound Null e s
known_means e undefined s = lit_sound Undefined e s

pub known_declares : (k : Known) → declares_nothing (known k) ≡ true
known_declares (a_number n) = refl
known_declares (a_text t) = refl
known_declares (a_truth true) = refl
known_declares (a_truth false) = refl
known_declares a_null = refl
known_declares undefined = refl

-- ---- a value that is known

-- a run that leaves the model, or is another
abbrev Less : {A : Type 0} → Completion A → Completion A → Type 0
Less x y = (x ≡ out) ⊎ (x ≡ y)

less_then : {A : Type 0} {x y z : Completion A} → Less x y → Less y z → Less x z
less_then (inl o) k = inl o
less_then (inr e) (inl o) = inl (e ∙ o)
less_then (inr e) (inr f) = inr (e ∙ f)

-- in what leaves the model where it does
over : {A B : Type 0} (c : Completion A → Completion B) → c out ≡ out → {x y : Completion A} → Less x y → Less (c x) (c y)
over c o (inl e) = inl (ap c e ∙ o)
over c o (inr e) = inr (ap c e)

-- where a value is given, this one
given_less : (v : Value) (x : Completion Value) → Gives (λ w. w ≡ v) x → (f g : Value → State → Completion (Unit {0})) → ((z : State) → Less (f v z) (g v z)) → Less (either x f (λ y z. stop y z)) (either x g (λ y z. stop y z))
unfolding Gives either
given_less v (ok w z) h f g k = subst (λ u. Less (f u z) (g u z)) (sym h) (k z)
given_less v (stop y z) h f g k = inr refl
given_less v (halt y z) h f g k = inr refl
given_less v out h f g k = inr refl

given_alike : (v : Value) (x : Completion Value) → Gives (λ w. w ≡ v) x → (f g : Value → State → Completion (Unit {0})) → ((z : State) → f v z ≡ g v z) → either x f (λ y z. stop y z) ≡ either x g (λ y z. stop y z)
unfolding Gives either
given_alike v (ok w z) h f g k = ap (λ u. f u z) h ∙ k z ∙ sym (ap (λ u. g u z) h)
given_alike v (stop y z) h f g k = refl
given_alike v (halt y z) h f g k = refl
given_alike v out h f g k = refl

quiet_less : (s : State) (v : Value) (x : Completion Value) → Quiet s x → Gives (λ w. w ≡ v) x → Less x (ok v s)
unfolding Quiet Gives
quiet_less s v (ok w z) q g = inr (λ i. ok (g i) (q i))
quiet_less s v (stop y z) q g = absurd q
quiet_less s v (halt y z) q g = absurd q
quiet_less s v out q g = inl refl

record Declaring (t : Tree) (v : Value) : Type 0 where
  declares : declares_nothing t ≡ true
  given : free_value t ≡ Some v

declaring : (t : Tree) (v : Value) → asked t ≡ Some v → Declaring t v
declaring t v e = go (declares_nothing t) refl e
  where
    go : (b : Bool) → declares_nothing t ≡ b → choose b (free_value t) None ≡ Some v → Declaring t v
    go true h e = record { declares = h; given = e }
    go false h e = absurd (cc e)

-- a discriminant
asked_gives : (e : Environment) (d : Tree) (v : Value) → free_value d ≡ Some v → (s : State) → Gives (λ w. w ≡ v) (means e d (As Val) tt s)
asked_gives e d v h s = subst (λ o. Gives (Agrees o) (means e d (As Val) tt s)) (free_is_constant d v h).constant (const_sound d e s)

-- a test
record Testing (t : Tree) (v : Value) : Type 0 where
  free : is_effect_free t ≡ true
  asks : Declaring t v

testing : (t : Tree) (v : Value) → tested t ≡ Some v → Testing t v
testing t v e = go (is_effect_free t) refl e
  where
    go : (b : Bool) → is_effect_free t ≡ b → choose b (asked t) None ≡ Some v → Testing t v
    go true h e = record { free = h; asks = declaring t v e }
    go false h e = absurd (cc e)

module _ (t : Tree) (v : Value) (h : tested t ≡ Some v) where
  abbrev its : Testing t v
  its = testing t v h

  test_there : (summary t).facts.absent ≡ false
  test_there = present t its.asks.declares

  test_idle : Idle t
  test_idle = let u = nothing_by t its.asks.declares in record { lets = u.lets; functions = u.functions; facts = u.facts }

  test_gives : (e : Environment) (s : State) → Gives (λ w. w ≡ v) (means e t (As Val) tt s)
  test_gives e s = asked_gives e t v its.asks.given s

  test_less : (e : Environment) (s : State) → Less (means e t (As Val) tt s) (ok v s)
  test_less e s = quiet_less s v (means e t (As Val) tt s) (effect_free_sound t e true (λ x. absurd (true≢false x)) its.free Val s) (test_gives e s)

-- ---- the cases of a list, from an index on

size : Choices → ℕ
size no_choices = 0
size (choice t ss cs) = suc (size cs)

skip : Choices → ℕ → ℕ
skip no_choices i = i
skip (choice t ss cs) i = skip cs (suc i)

skip_is : (bs : Choices) (i : ℕ) → skip bs i ≡ size bs + i
unfolding skip size
skip_is no_choices i = omega arith
skip_is (choice t ss bs) i = let rest = skip_is bs (suc i) in omega (arith, rest)

module _ (e : Environment) (names : Naming) (K : Kids (λ i. ACase)) where
  abbrev Runs : {A : Type 0} → Command (λ i. ACase) A → State → Completion A
  Runs c z = run {q = λ i. ACase} e names K c z

  abbrev Stands : ℕ → Choices → Type 0
  Stands i no_choices = Unit {0}
  Stands i (choice t ss cs) = (((z : State) → K i AskTest z ≡ means e (switch_case t ss) ACase AskTest z) × ((z : State) → K i AskBody z ≡ means e (switch_case t ss) ACase AskBody z)) × Stands (suc i) cs

  test_is : (i : ℕ) (t : Tree) (ss : Trees) (l : Value) → tested t ≡ Some l → ((z : State) → K i AskTest z ≡ means e (switch_case t ss) ACase AskTest z) → (z : State) → K i AskTest z ≡ either (means e t (As Val) tt z) (λ w y. ok (Some w) y) (λ x y. stop x y)
  test_is i t ss l is k z = k z ∙ case_test e t ss (test_there t l is) z

  module _ {A : Type 0} (v : Value) (f : Option ℕ → Command (λ i. ACase) A) where
    abbrev Tests : List Facts → ℕ → State → Completion A
    Tests fs i z = Runs (bind (test_cases v fs i) f) z

    abbrev asking : Bool → List Facts → ℕ → State → Completion A
    asking a fs i z = Runs (bind (choose a (test_cases v fs (suc i)) (kid i AskTest (next (λ w. choose (is_case v w) (ret (Some i)) (test_cases v fs (suc i)))))) f) z

    -- after its test
    abbrev after_test : Choices → ℕ → Value → State → Completion A
    after_test cs i w y = Runs (bind (choose (is_case v (Some w)) (ret (Some i)) (test_cases v (facts (cases_of cs)) (suc i))) f) y

    asks_test : (i : ℕ) (t : Tree) (ss : Trees) (cs : Choices) (l : Value) → tested t ≡ Some l → ((z : State) → K i AskTest z ≡ means e (switch_case t ss) ACase AskTest z) → (z : State) → Tests (facts (cases_of (choice t ss cs))) i z ≡ either (means e t (As Val) tt z) (λ w y. after_test cs i w y) (λ x y. stop x y)
    asks_test i t ss cs l is k z =
        ap (λ a. asking a (facts (cases_of cs)) i z) (test_there t l is)
        ∙ ap (λ x. either x (λ w y. Runs (bind (choose (is_case v w) (ret (Some i)) (test_cases v (facts (cases_of cs)) (suc i))) f) y) (λ x y. stop x y)) (test_is i t ss l is k z)
        ∙ either_assoc (means e t (As Val) tt z) _ _ _ _
        ∙ either_cong (means e t (As Val) tt z) _ _ _ _ (λ w y. either_ok (Some w) y _ _) (λ x y. either_stop x y _ _)

    told : (i : ℕ) (t : Tree) (ss : Trees) (cs : Choices) (l : Value) → tested t ≡ Some l → ((z : State) → K i AskTest z ≡ means e (switch_case t ss) ACase AskTest z) → (b : Bool) → is_case v (Some l) ≡ b → (z : State) → Less (Tests (facts (cases_of (choice t ss cs))) i z) (Runs (bind (choose b (ret (Some i)) (test_cases v (facts (cases_of cs)) (suc i))) f) z)
    told i t ss cs l is k b h z =
        less_then (inr (asks_test i t ss cs l is k z))
        (less_then (over (λ x. either x (λ w y. after_test cs i w y) (λ x y. stop x y)) (either_out _ _) (test_less t l is e z))
        (inr (either_ok l z _ _ ∙ ap (λ c. Runs (bind (choose c (ret (Some i)) (test_cases v (facts (cases_of cs)) (suc i))) f) z) h)))

    skipped : (i : ℕ) (t : Tree) (ss : Trees) (cs : Choices) → t ≡ absent → (z : State) → Tests (facts (cases_of (choice t ss cs))) i z ≡ Tests (facts (cases_of cs)) (suc i) z
    skipped i t ss cs is z = ap (λ u. asking (summary u).facts.absent (facts (cases_of cs)) i z) is

  module _ {A : Type 0} (k : Value) (f : Option ℕ → Command (λ i. ACase) A) where
    passed : (bs cs : Choices) (i : ℕ) → AllPassed k bs → Stands i (before_others bs cs) → (z : State) → Less (Tests k f (facts (cases_of (before_others bs cs))) i z) (Tests k f (facts (cases_of cs)) (skip bs i) z)
    unfolding skip
    passed no_choices cs i p s z = inr refl
    passed (choice t ss bs) cs i (inl m, p) s z = less_then (told k f i t ss (before_others bs cs) m.value m.is s.0.0 false m.other z) (passed bs cs (suc i) p s.1 z)
    passed (choice t ss bs) cs i (inr d, p) s z = less_then (inr (skipped k f i t ss (before_others bs cs) d z)) (passed bs cs (suc i) p s.1 z)

    none_selected : (cs : Choices) (i : ℕ) → AllMissed k cs → Stands i cs → (z : State) → Less (Tests k f (facts (cases_of cs)) i z) (Runs (f None) z)
    none_selected no_choices i p s z = inr refl
    none_selected (choice t ss cs) i (m, p) s z = less_then (told k f i t ss cs m.value m.is s.0.0 false m.other z) (none_selected cs (suc i) p s.1 z)

  -- the statements from a case on
  abbrev run_from : Choices → State → Completion (Unit {0})
  run_from no_choices z = ok tt z
  run_from (choice t ss cs) z = either (exec e ss None z) (λ u z. run_from cs z) (λ x z. stop x z)

  bodies_run : (cs : Choices) (i : ℕ) → Stands i cs → (z : State) → Runs (case_bodies (length (facts (cases_of cs))) 0 i) z ≡ run_from cs z
  bodies_run no_choices i s z = refl
  bodies_run (choice t ss cs) i s z =
      ap (λ x. either x (λ u z. Runs (case_bodies (length (facts (cases_of cs))) 0 (suc i)) z) (λ x z. stop x z)) (s.0.1 z ∙ case_body e t ss z ∙ listed_is e ss [] z)
      ∙ either_cong (exec e ss None z) _ _ _ _ (λ u z. bodies_run cs (suc i) s.1 z) (λ x z. refl)

  stands_later : (bs cs : Choices) (i : ℕ) → Stands i (before_others bs cs) → Stands (skip bs i) cs
  unfolding skip
  stands_later no_choices cs i s = s
  stands_later (choice t ss bs) cs i s = stands_later bs cs (suc i) s.1

  bodies_skip : (bs cs : Choices) (i : ℕ) → (z : State) → Runs (case_bodies (length (facts (cases_of (before_others bs cs)))) (size bs) i) z ≡ Runs (case_bodies (length (facts (cases_of cs))) 0 (skip bs i)) z
  unfolding skip size
  bodies_skip no_choices cs i z = refl
  bodies_skip (choice t ss bs) cs i z = bodies_skip bs cs (suc i) z

  entered : (bs cs : Choices) → Stands 0 (before_others bs cs) → (z : State) → Runs (enter_case (length (facts (cases_of (before_others bs cs)))) (Some (skip bs 0))) z ≡ run_from cs z
  entered bs cs s z =
      ap (λ n. Runs (case_bodies (length (facts (cases_of (before_others bs cs)))) n 0) z) (let h = skip_is bs 0 in omega (arith, h))
      ∙ bodies_skip bs cs 0 z
      ∙ bodies_run cs (skip bs 0) (stands_later bs cs 0 s) z

stands_shift : (e : Environment) (names : Naming) (K : Kids (λ i. ACase)) (cs : Choices) (i : ℕ) → Stands e names (λ j r z. K (suc j) r z) i cs → Stands e names K (suc i) cs
stands_shift e names K no_choices i s = tt
stands_shift e names K (choice t ss cs) i s = (s.0, stands_shift e names K cs (suc i) s.1)

abbrev kids_of : Environment → Choices → Kids (λ i. ACase)
kids_of e cs = λ i r z. meaning e (cases_of cs) i ACase r z

stands : (e : Environment) (names : Naming) (cs : Choices) → Stands e names (kids_of e cs) 0 cs
unfolding meaning
stands e names no_choices = tt
stands e names (choice t ss cs) = ((λ z. refl, λ z. refl), stands_shift e names (kids_of e (choice t ss cs)) cs 0 (stands e names cs))

-- ---- `default`

default_none : (k : Value) (cs : Choices) (i : ℕ) → AllMissed k cs → default_case (facts (cases_of cs)) i ≡ None
default_none k no_choices i p = refl
default_none k (choice t ss cs) i (m, p) =
    ap (λ a. choose a (Some i) (default_case (facts (cases_of cs)) (suc i))) (test_there t m.value m.is)
    ∙ default_none k cs (suc i) p

default_there : (k : Value) (bs : Choices) (t : Tree) (ss : Trees) (cs : Choices) (i : ℕ) → t ≡ absent → AllMissed k bs → default_case (facts (cases_of (before_others bs (choice t ss cs)))) i ≡ Some (skip bs i)
unfolding skip
default_there k no_choices t ss cs i is p = ap (λ u. choose (summary u).facts.absent (Some i) (default_case (facts (cases_of cs)) (suc i))) is
default_there k (choice u us bs) t ss cs i is (m, p) =
    ap (λ a. choose a (Some i) (default_case (facts (cases_of (before_others bs (choice t ss cs)))) (suc i))) (test_there u m.value m.is)
    ∙ default_there k bs t ss cs (suc i) is p

missed_passed : (k : Value) (cs : Choices) → AllMissed k cs → AllPassed k cs
missed_passed k no_choices p = tt
missed_passed k (choice t ss cs) (m, p) = (inl m, missed_passed k cs p)

-- ---- a `var` without initializers does nothing

bare_are : (xs : List Name) → are_bare_declarators (bare_declarators xs) ≡ true
bare_are [] = refl
bare_are (x ∷ xs) = bare_are xs

module _ (e : Environment) where
  names_nothing : (xs : List Name) (z : State) → exec e (declared_bare xs) None z ≡ ok tt z
  names_nothing [] z = refl
  names_nothing (x ∷ xs) z = let ds = bare_declarators (x ∷ xs) in exec_one e (declaration Var ds) z ∙ declaration_is e Var ds [] z ∙ bare_all e ds (bare_are (x ∷ xs)) z

  -- before other statements
  nothing_before : (ts us : Trees) → ((z : State) → exec e ts None z ≡ ok tt z) → (z : State) → exec e (append ts us) None z ≡ exec e us None z
  nothing_before ts us k z = exec_append e ts us z ∙ ap (λ x. either x (λ u y. exec e us None y) (λ x y. stop x y)) (k z) ∙ either_ok tt z _ _

  all_nothing : (ss : Trees) (z : State) → exec e (left_all ss) None z ≡ ok tt z
  all_nothing none z = refl
  all_nothing (t ▸ ss) z = nothing_before (left_behind t) (left_all ss) (names_nothing (names_of declared.Hoisted t)) z ∙ all_nothing ss z

  cases_nothing : (cs : Choices) (z : State) → exec e (left_cases cs) None z ≡ ok tt z
  cases_nothing no_choices z = refl
  cases_nothing (choice t ss cs) z = nothing_before (left_all ss) (left_cases cs) (all_nothing ss) z ∙ cases_nothing cs z

-- ---- which case is entered

module _ (e : Environment) (k : Value) where
  abbrev names_at : Choices → Naming
  names_at cs = naming shape.Listed Cases [] 0 (summaries (cases_of cs))

  abbrev found : Choices → Option ℕ → Command (λ i. ACase) (Unit {0})
  found cs d = enter_case (length (facts (cases_of cs))) (or_default d (default_case (facts (cases_of cs)) 0))

  cases_are : (cs : Choices) (z : State) → means e (listed (cases_of cs)) Cases k z ≡ Tests e (names_at cs) (kids_of e cs) k (found cs) (facts (cases_of cs)) 0 z
  unfolding means step
  cases_are cs z = refl

  abbrev from : Choices → State → Completion (Unit {0})
  from cs z = run_from e (names_at no_choices) (kids_of e no_choices) cs z

  -- a case is entered behind its test, and `default` at once
  starts : (bs : Choices) (t : Tree) (cs : Choices) → Taken k bs t cs → (State → Completion (Unit {0})) → State → Completion (Unit {0})
  starts bs t cs (inl h) go z = either (means e t (As Val) tt z) (λ w y. go y) (λ x y. stop x y)
  starts bs t cs (inr h) go z = go z

  taken_runs : (bs : Choices) (t : Tree) (ss : Trees) (cs : Choices) (h : Taken k bs t cs) (z : State) → Less (means e (listed (cases_of (before_others bs (choice t ss cs)))) Cases k z) (starts bs t cs h (from (choice t ss cs)) z)
  unfolding starts
  taken_runs bs t ss cs (inl h) z =
      let all = before_others bs (choice t ss cs) in
      let s = stands e (names_at all) all in
      less_then (inr (cases_are all z))
      (less_then (passed e (names_at all) (kids_of e all) k (found all) bs (choice t ss cs) 0 h.passed s z)
      (inr (
      asks_test e (names_at all) (kids_of e all) k (found all) (skip bs 0) t ss cs h.value h.is (stands_later e (names_at all) (kids_of e all) bs (choice t ss cs) 0 s).0.0 z
      ∙ given_alike h.value (means e t (As Val) tt z) (test_gives t h.value h.is e z) _ _ (λ y.
      ap (λ c. Runs e (names_at all) (kids_of e all) (bind (choose c (ret (Some (skip bs 0))) (test_cases k (facts (cases_of cs)) (suc (skip bs 0)))) (found all)) y) h.equal
      ∙ entered e (names_at all) (kids_of e all) bs (choice t ss cs) s y)
      )))
  taken_runs bs t ss cs (inr h) z =
      let all = before_others bs (choice t ss cs) in
      let s = stands e (names_at all) all in
      let later = stands_later e (names_at all) (kids_of e all) bs (choice t ss cs) 0 s in
      less_then (inr (cases_are all z))
      (less_then (passed e (names_at all) (kids_of e all) k (found all) bs (choice t ss cs) 0 (missed_passed k bs h.missed) s z)
      (less_then (inr (skipped e (names_at all) (kids_of e all) k (found all) (skip bs 0) t ss cs h.is z))
      (less_then (none_selected e (names_at all) (kids_of e all) k (found all) cs (suc (skip bs 0)) h.missed_later later.1 z)
      (inr (
      ap (λ d. run {q = λ i. ACase} e (names_at all) (kids_of e all) (enter_case (length (facts (cases_of all))) (or_default None d)) z) (default_there k bs t ss cs 0 h.is h.missed)
      ∙ entered e (names_at all) (kids_of e all) bs (choice t ss cs) s z
      )))))

  -- alone
  alone_runs : (bs : Choices) (t : Tree) (ss : Trees) (cs : Choices) (h : Taken k bs t cs) (z : State) → means e (listed (cases_of (choice t ss no_choices))) Cases k z ≡ starts bs t cs h (from (choice t ss no_choices)) z
  unfolding starts skip
  alone_runs bs t ss cs (inl h) z =
      let all = choice t ss no_choices in
      let s = stands e (names_at all) all in
      cases_are all z
      ∙ asks_test e (names_at all) (kids_of e all) k (found all) 0 t ss no_choices h.value h.is s.0.0 z
      ∙ given_alike h.value (means e t (As Val) tt z) (test_gives t h.value h.is e z) _ _ (λ y.
      ap (λ c. Runs e (names_at all) (kids_of e all) (bind (choose c (ret (Some 0)) (test_cases k (facts (cases_of no_choices)) 1)) (found all)) y) h.equal
      ∙ entered e (names_at all) (kids_of e all) no_choices all s y)
  alone_runs bs t ss cs (inr h) z =
      let all = choice t ss no_choices in
      let s = stands e (names_at all) all in
      cases_are all z
      ∙ skipped e (names_at all) (kids_of e all) k (found all) 0 t ss no_choices h.is z
      ∙ ap (λ d. run {q = λ i. ACase} e (names_at all) (kids_of e all) (enter_case (length (facts (cases_of all))) (or_default None d)) z) (default_there k no_choices t ss no_choices 0 h.is tt)
      ∙ entered e (names_at all) (kids_of e all) no_choices all s z

  starts_alike : (bs : Choices) (t : Tree) (cs : Choices) (h : Taken k bs t cs) (f g : State → Completion (Unit {0})) → ((z : State) → f z ≡ g z) → (z : State) → starts bs t cs h f z ≡ starts bs t cs h g z
  unfolding starts
  starts_alike bs t cs (inl h) f g k z = either_cong (means e t (As Val) tt z) _ _ _ _ (λ w y. k y) (λ x y. refl)
  starts_alike bs t cs (inr h) f g k z = k z

  -- none is entered behind the first test
  none_runs : (t : Tree) (ss us : Trees) (cs : Choices) → AllMissed k (choice t ss cs) → (z : State) → Less (means e (listed (cases_of (choice t ss cs))) Cases k z) (means e (listed (cases_of (choice t us no_choices))) Cases k z)
  none_runs t ss us cs (m, p) z =
      let all = choice t ss cs in
      let one = choice t us no_choices in
      let s = stands e (names_at all) all in
      let o = stands e (names_at one) one in
      less_then (inr (cases_are all z ∙ asks_test e (names_at all) (kids_of e all) k (found all) 0 t ss cs m.value m.is s.0.0 z))
      (less_then (given_less m.value (means e t (As Val) tt z) (test_gives t m.value m.is e z) _ (λ w y. ok tt y) (λ y.
      less_then (inr (ap (λ c. Runs e (names_at all) (kids_of e all) (bind (choose c (ret (Some 0)) (test_cases k (facts (cases_of cs)) 1)) (found all)) y) m.other))
      (less_then (none_selected e (names_at all) (kids_of e all) k (found all) cs 1 p s.1 y)
      (inr (ap (λ d. run {q = λ i. ACase} e (names_at all) (kids_of e all) (enter_case (length (facts (cases_of all))) (or_default None d)) y) (default_none k all 0 (m, p)))))))
      (inr (sym (
      cases_are one z
      ∙ asks_test e (names_at one) (kids_of e one) k (found one) 0 t us no_choices m.value m.is o.0.0 z
      ∙ given_alike m.value (means e t (As Val) tt z) (test_gives t m.value m.is e z) _ (λ w y. ok tt y) (λ y.
      ap (λ c. Runs e (names_at one) (kids_of e one) (bind (choose c (ret (Some 0)) (test_cases k (facts (cases_of no_choices)) 1)) (found one)) y) m.other
      ∙ ap (λ d. run {q = λ i. ACase} e (names_at one) (kids_of e one) (enter_case (length (facts (cases_of one))) (or_default None d)) y) (default_none k one 0 (m, tt)))
      ))))

  -- its statements run, up to the first that end in a jump
  runs_on : (t : Tree) (ss : Trees) (cs : Choices) (z : State) → from (choice t ss cs) z ≡ exec e (running ss cs) None z
  runs_on t ss no_choices z = either_eta (exec e ss None z)
  runs_on t ss (choice u us cs) z = go (are_ended ss) refl (λ y. runs_on u us cs y)
    where
      go : (b : Bool) → are_ended ss ≡ b → ((y : State) → from (choice u us cs) y ≡ exec e (running us cs) None y) → from (choice t ss (choice u us cs)) z ≡ exec e (if b then append ss (left_cases (choice u us cs)) else append ss (running us cs)) None z
      go true h f =
          let never = subst Never (listed_is e ss [] z) (ended_tree e (listed ss) h [] z) in
          never_goes (exec e ss None z) never _ ∙ sym (exec_append e ss (left_cases (choice u us cs)) z ∙ never_goes (exec e ss None z) never _)
      go false h f = either_cong (exec e ss None z) _ _ _ _ (λ v z. f z) (λ x z. refl) ∙ sym (exec_append e ss (running us cs) z)

-- ---- the `switch` round the cases

absent_idle : (t : Tree) → is_absent t ≡ true → Idle t
absent_idle (node shape.Absent xs n ts) h = record { lets = refl; functions = refl; facts = refl }
absent_idle t h = absurd (true≢false (sym h))

idle_test : (t : Tree) → test_goes t ≡ true → Idle t
idle_test t h = go (is_absent t) refl (and_parts (encloses false t) (is_absent t || declares_nothing t) h).1
  where
    go : (b : Bool) → is_absent t ≡ b → (b || declares_nothing t) ≡ true → Idle t
    go true a k = absent_idle t a
    go false a k = let u = nothing_by t k in record { lets = u.lets; functions = u.functions; facts = u.facts }

abbrev AllIdle : Choices → Type 0
AllIdle no_choices = Unit {0}
AllIdle (choice t ss cs) = Idle t × AllIdle cs

idle_cases : (cs : Choices) → AllIdle cs → are_loose cs ≡ true → Idle (listed (cases_of cs))
idle_cases no_choices a h = record { lets = refl; functions = refl; facts = refl }
idle_cases (choice t ss cs) (i, a) h =
    let (own, others) = and_parts (are_unscoped ss) (are_loose cs) h in
    let r = read_nothing ss own in
    let rest = idle_cases cs a others in
    record {
      lets = (λ k. (i.lets k ++ (r.lets k ++ [])) ++ rest.lets k);
      functions = (λ k. (i.functions k ++ (r.functions k ++ [])) ++ rest.functions k);
      facts = (λ k. (i.facts k ++ (r.facts k ++ [])) ++ rest.facts k);
    }

idle_gone : (cs : Choices) → cases_go cs ≡ true → AllIdle cs
idle_gone no_choices h = tt
idle_gone (choice t ss cs) h =
    let (test, more) = and_parts (test_goes t) (all_go ss && cases_go cs) h in
    let (own, others) = and_parts (all_go ss) (cases_go cs) more in
    (idle_test t test, idle_gone cs others)

idle_rest : (ss : Trees) (cs : Choices) → rest_goes ss cs ≡ true → AllIdle cs
idle_rest ss no_choices h = tt
idle_rest ss (choice t us cs) h = go (are_ended ss) h (λ k. idle_rest us cs k)
  where
    go : (b : Bool) → (if b then cases_go (choice t us cs) else test_goes t && rest_goes us cs) ≡ true → (rest_goes us cs ≡ true → AllIdle cs) → AllIdle (choice t us cs)
    go true h f = idle_gone (choice t us cs) h
    go false h f = let (test, others) = and_parts (test_goes t) (rest_goes us cs) h in (idle_test t test, f others)

idle_before : (bs cs : Choices) → AllIdle bs → AllIdle cs → AllIdle (before_others bs cs)
idle_before no_choices cs a b = b
idle_before (choice t ss bs) cs a b = (a.0, idle_before bs cs a.1 b)

taken_idle : (k : Value) (bs : Choices) (t : Tree) (cs : Choices) → Taken k bs t cs → Idle t
taken_idle k bs t cs (inl h) = test_idle t h.value h.is
taken_idle k bs t cs (inr h) = subst Idle (sym h.is) (record { lets = refl; functions = refl; facts = refl })

-- over one value, cases that do the same, or leave the model
switch_less : (e : Environment) (d : Tree) (k : Value) → asked d ≡ Some k → (cs ds : Choices) → Idle (listed (cases_of cs)) → Idle (listed (cases_of ds)) → ((z : State) → Less (means e (listed (cases_of cs)) Cases k z) (means e (listed (cases_of ds)) Cases k z)) → (r : LabelSet) (s : State)
    → Less (means e (switch_over d cs) (Stat None) r s) (means e (switch_over d ds) (Stat None) r s)
switch_less e d k a cs ds i j h r s =
    let its = declaring d k a in
    let u = nothing_by d its.declares in
    less_then (inr (switch_caught e (listed (cases_of cs)) i d u r s))
    (less_then (given_less k (means e d (As Val) tt s) (asked_gives e d k its.given s) (λ v z. caught (means e (listed (cases_of cs)) Cases v z)) (λ v z. caught (means e (listed (cases_of ds)) Cases v z)) (λ z. over caught (either_out _ _) (h z)))
    (inr (sym (switch_caught e (listed (cases_of ds)) j d u r s))))

loose_later : (bs cs : Choices) → are_loose (before_others bs cs) ≡ true → are_loose cs ≡ true
loose_later no_choices cs h = h
loose_later (choice t ss bs) cs h = loose_later bs cs (and_parts (are_unscoped ss) (are_loose (before_others bs cs)) h).1

unscoped_append : (a b : Trees) → are_unscoped a ≡ true → are_unscoped b ≡ true → are_unscoped (append a b) ≡ true
unscoped_append none b h k = k
unscoped_append (t ▸ a) b h k =
    let (own, rest) = and_parts _ (are_unscoped a) h in
    ap (λ c. c && are_unscoped (append a b)) own ∙ unscoped_append a b rest k

names_unscoped : (xs : List Name) → are_unscoped (declared_bare xs) ≡ true
names_unscoped [] = refl
names_unscoped (x ∷ xs) = refl

all_loose : (ss : Trees) → are_unscoped (left_all ss) ≡ true
all_loose none = refl
all_loose (t ▸ ss) = unscoped_append (left_behind t) (left_all ss) (names_unscoped (names_of declared.Hoisted t)) (all_loose ss)

pub left_loose : (cs : Choices) → are_unscoped (left_cases cs) ≡ true
left_loose no_choices = refl
left_loose (choice t ss cs) = unscoped_append (left_all ss) (left_cases cs) (all_loose ss) (left_loose cs)

pub running_loose : (t : Tree) (ss : Trees) (cs : Choices) → are_loose (choice t ss cs) ≡ true → are_unscoped (running ss cs) ≡ true
running_loose t ss no_choices h = (and_parts (are_unscoped ss) true h).0
running_loose t ss (choice u us cs) h =
    let (own, others) = and_parts (are_unscoped ss) (are_loose (choice u us cs)) h in
    go (are_ended ss) own (running_loose u us cs others)
  where
    go : (b : Bool) → are_unscoped ss ≡ true → are_unscoped (running us cs) ≡ true → are_unscoped (if b then append ss (left_cases (choice u us cs)) else append ss (running us cs)) ≡ true
    go true x y = unscoped_append ss (left_cases (choice u us cs)) x (left_loose (choice u us cs))
    go false x y = unscoped_append ss (running us cs) x y

pub later_loose : (bs : Choices) (t : Tree) (ss : Trees) (cs : Choices) → are_loose (before_others bs (choice t ss cs)) ≡ true → are_loose (choice t (append (left_cases bs) (running ss cs)) no_choices) ≡ true
later_loose bs t ss cs h = ap (λ c. c && true) (unscoped_append (left_cases bs) (running ss cs) (left_loose bs) (running_loose t ss cs (loose_later bs (choice t ss cs) h)))

-- ---- statements of which the first leaves the model, or both do the same

module _ (D : VariableSet) where
  abbrev Go : {A : Type 0} → Completion A → Completion A → Type 0
  Go x y = Goes true (λ a. Agree D) (Agree D) (Agree D) x y

  agree_itself : (s : State) → Agree D s s
  agree_itself s = record { vars = λ x e. refl; self = refl; answers = refl; turns = refl; events = refl }

  out_goes : (y : Completion (Unit {0})) → Go out y
  unfolding Goes
  out_goes (ok a s) = tt
  out_goes (stop x s) = tt
  out_goes (halt x s) = tt
  out_goes out = tt

  goes_itself : (x : Completion (Unit {0})) → Go x x
  unfolding Goes
  goes_itself (ok a s) = (refl, agree_itself s)
  goes_itself (stop x s) = (refl, agree_itself s)
  goes_itself (halt x s) = (refl, agree_itself s)
  goes_itself out = tt

  less_goes : (x y : Completion (Unit {0})) → Less x y → Go x y
  less_goes x y (inl o) = subst (λ c. Go c y) (sym o) (out_goes y)
  less_goes x y (inr e) = subst (Go x) e (goes_itself x)

less_at : (n w : Tree) → ((e : Environment) (r : LabelSet) (s : State) → Less (means e n (Stat None) r s) (means e w (Stat None) r s)) → (q : StmtSeat) → SameAt (Stmt q) n w
less_at n w h q = record { by = λ e D X d f. record { by = λ r s i. go e D d f r s } }
  where
    go : (e : Environment) (D : VariableSet) (d : Demand) → Fits (Stmt q) d → (r : Request d) (s : State) → Goes true (λ a. Agree D) (Agree D) (Agree D) (means e n d r s) (means e w d r s)
    go e D (Stat t) f r s =
        less_goes D (means e n (Stat t) r s) (means e w (Stat t) r s)
        (less_then (inr (tail_same e n t r s)) (less_then (over (λ x. either x (λ u z. ok tt z) (ends_in t)) (either_out _ _) (h e r s)) (inr (sym (tail_same e w t r s)))))
    go e D d f r s = elim f [ ]

taken_less : (d : Tree) (k : Value) → asked d ≡ Some k → (bs : Choices) (t : Tree) (ss : Trees) (cs : Choices) → Taken k bs t cs → are_loose (before_others bs (choice t ss cs)) ≡ true → cases_go bs ≡ true → rest_goes ss cs ≡ true → (e : Environment) (r : LabelSet) (s : State)
    → Less (means e (switch_over d (before_others bs (choice t ss cs))) (Stat None) r s) (means e (switch_over d (choice t (append (left_cases bs) (running ss cs)) no_choices)) (Stat None) r s)
taken_less d k a bs t ss cs h loose goes rest e =
    let i = taken_idle k bs t cs h in
    let left = append (left_cases bs) (running ss cs) in
    switch_less e d k a (before_others bs (choice t ss cs)) (choice t left no_choices) (idle_cases (before_others bs (choice t ss cs)) (idle_before bs (choice t ss cs) (idle_gone bs goes) (i, idle_rest ss cs rest)) loose) (idle_cases (choice t left no_choices) (i, tt) (later_loose bs t ss cs loose))
    (λ z. less_then (taken_runs e k bs t ss cs h z) (inr (
    starts_alike e k bs t cs h _ _ (λ y. runs_on e k t ss cs y ∙ sym (runs_on e k t left no_choices y ∙ nothing_before e (left_cases bs) (running ss cs) (cases_nothing e bs) y)) z
    ∙ sym (alone_runs e k bs t left cs h z)
    )))

none_less : (d : Tree) (k : Value) → asked d ≡ Some k → (t : Tree) (ss : Trees) (cs : Choices) → AllMissed k (choice t ss cs) → are_loose (choice t ss cs) ≡ true → cases_go (choice t ss cs) ≡ true → (e : Environment) (r : LabelSet) (s : State)
    → Less (means e (switch_over d (choice t ss cs)) (Stat None) r s) (means e (switch_over d (choice t (left_cases (choice t ss cs)) no_choices)) (Stat None) r s)
none_less d k a t ss cs h loose goes e =
    let i = idle_gone (choice t ss cs) goes in
    let left = left_cases (choice t ss cs) in
    switch_less e d k a (choice t ss cs) (choice t left no_choices) (idle_cases (choice t ss cs) i loose) (idle_cases (choice t left no_choices) (i.0, tt) (ap (λ c. c && true) (left_loose (choice t ss cs))))
    (λ z. none_runs e k t ss left cs h z)

replaced_at : (q : StmtSeat) (n n' w w' : Tree) → n ≡ n' → w ≡ w' → SameAt (Stmt q) n' w' → SameAt (Stmt q) n w
replaced_at q n n' w w' u v h = subst (λ x. SameAt (Stmt q) x w) (sym u) (subst (λ y. SameAt (Stmt q) n' y) (sym v) h)

pub dead_case_same : (q : StmtSeat) (n w : Tree) → DeadCaseRow n w → SameAt (Stmt q) n w
dead_case_same q n w (inl r) = replaced_at q n _ w _ r.shape r.written (less_at _ _ (taken_less r.discriminant r.value r.asks r.before r.test r.statements r.after r.taken r.loose r.dropped r.rest_dropped) q)
dead_case_same q n w (inr r) = replaced_at q n _ w _ r.shape r.written (less_at _ _ (none_less r.discriminant r.value r.asks r.test r.statements r.after r.missed r.loose r.dropped) q)

pub dead_case_reads : (n w : Tree) → DeadCaseRow n w → summary n ≡ summary w
dead_case_reads n w (inl r) = ap summary r.shape ∙ sym (ap summary r.written)
dead_case_reads n w (inr r) = ap summary r.shape ∙ sym (ap summary r.written)
