-- What a `switch` or a `for` reads before all else may be put there: it is outside of the scope that the statement opens.
use Rattle.std.proofs.Common.{◌≡◌, ℕ, zero, suc, Bool, true, false, List, [], ◌∷◌, None, Some, refl, sym, ap, ◌∙◌, subst, subst₂}
use Rattle.mini_model.specs.declared.kind.VariableDeclarationKind.TheVariants.{Var}
use Rattle.mini_model.specs.declared.name.Name.{Name}
use Rattle.mini_model.specs.declared.shape.Shape.TheVariants as shape
use Rattle.mini_model.specs.Tree.{Tree, Trees, node, none, ◌▸◌, absent, identifier}
use Rattle.mini_model.specs.Paths.{append}
use Rattle.mini_laws.specs.Value.{Value, Declared, VariableSet, Holds}
use Rattle.mini_laws.specs.State.{Stop, Broken, State, Completion, ended, Environment, with_vars}
use Rattle.mini_laws.specs.Demand.{Want, Val, Unused, As, Cases, Stat, Request}
use Rattle.mini_laws.specs.Command.{set_var, kid, bind}
use Rattle.mini_laws.specs.Naming.{Facts, FunctionFact, Named, NamedDefault, BareDefault, function_facts, summary, summaries, facts_all}
use Rattle.mini_laws.specs.Asking.{demand, first_demand}
use Rattle.mini_laws.specs.Statements.{scoped, create_function, create_functions, switch_step, unbroken}
use Rattle.mini_laws.specs.Step.{step, means}
use Rattle.mini_laws.specs.Same.{Goes, Agree}
use Rattle.mini_laws.specs.Substitution.{alone}
use Rattle.mini_laws.proofs.Congruent.{insensitive}
use Rattle.mini_laws.proofs.Runs.{either_cong, either_assoc, either_stop}
use Rattle.mini_laws.proofs.Simulation.{goes_either}
use Rattle.mini_kept.specs.Without.{Unseen}
use Rattle.mini_rows.specs.Lists.{switch, for_loop, declaration}
use Rattle.mini_rows.specs.Chains.{is_calm}
use Rattle.mini_rows.specs.Sketches.{shape_by, AsValue, asked_below}
use Rattle.mini_rows.specs.Unused.{any_names, resolved}
use Rattle.mini_rows.proofs.ListHeads.{Nothing, for_rest, for_is, for_absent_is}
use Rattle.mini_rows.proofs.ListKeptHeads.{Seat, Loop, Choice, seated, rest}
use Rattle.mini_rows.proofs.SingleUse.{Lead, Not, Plus, Minus, Tilde, Typing, Emptying, Beside, Deciding, Choosing, Passing, Called, Making, Waiting, Member, Keyed, Linking, Holding, Against, Given, Filling, Keying, Interpolating, Following, Branching, Failing, Storing, Targeted, Changing, Gathering, Fielding, Spreading, Bracketing, head_of, before, place, Step, led, is_end, Stands, Well, summary_led}
use Rattle.mini_rows.proofs.ListLoops.{for_var_is}
use Rattle.mini_rows.proofs.PastRuns.{reach_goes}
use Rattle.mini_rows.proofs.SingleMeaning.{Before, Later, later_bind, later_attempt, Reaches, reach_statement, one, next, by_summaries, node_is, stopped}
use Rattle.mini_rows.proofs.UnusedMeaning.{GoesWith}
use Rattle.mini_rows.proofs.UnusedNames.{all_avoided}

-- ---- behind what it asks a `switch` asks nothing of that any more

create_later : (f : FunctionFact) (i : ℕ) → Later 0 {σ = first_demand (As Val) Cases} (create_function true f i)
create_later Named i = (λ v. (λ u. tt, λ y. tt), λ y. tt)
create_later NamedDefault i = (λ v. (λ u. (λ w. tt, λ y. tt), λ y. tt), λ y. tt)
create_later BareDefault i = (λ v. (λ w. tt, λ y. tt), λ y. tt)

creates_later : (fs : List FunctionFact) (i : ℕ) → Later 0 {σ = first_demand (As Val) Cases} (create_functions true fs i)
creates_later [] i = tt
creates_later (f ∷ fs) i = later_bind 0 (create_function true f i) (λ u. create_functions true fs (suc i)) (create_later f i) (λ u. creates_later fs (suc i))

unbroken_later : (y : Stop) → Later 0 {σ = first_demand (As Val) Cases} (unbroken (ended y))
unbroken_later (Broken None) = tt
unbroken_later y = tt

switch_later : (fs : List FunctionFact) (v : Value) → Later 0 {σ = first_demand (As Val) Cases} (scoped (bind (create_functions true fs 0) (λ u. kid 1 v unbroken)))
switch_later fs v = (
  λ u. later_attempt 0 (bind (create_functions true fs 0) (λ u. kid 1 v unbroken)) _ (later_bind 0 (create_functions true fs 0) (λ u. kid 1 v unbroken) (creates_later fs 0) (λ u. (tt, (λ a. tt, λ y. unbroken_later y)))) (λ a. (λ u. tt, λ y. tt)) (λ y. (λ u. tt, λ y. tt)),
  λ y. tt,
)

switch_reaches : (d : Bool) (fs : List Facts) → Reaches false false d 0 0 (step shape.SwitchStatement [] fs (Stat None) [])
unfolding step
switch_reaches d fs = reach_statement false false d 0 0 (switch_step fs) (one false false d 0 0 (first_demand (As Val) Cases) (Unit {0}) tt tt _ (λ v. switch_later (function_facts fs) v))

-- nothing stands before
none_before : (j : ℕ) → Before j 0 → ⊥
none_before zero b = b
none_before (suc j) b = b

-- ---- what an expression declares: nothing

nothing_led : (ss : List Step) → Well AsValue ss → (t : Tree) → Nothing t → Nothing (led ss t)
nothing_led [] w t n = n
nothing_led (s ∷ ss) w t n = by s.lead w.0 (λ q. nothing_led ss (subst (λ c. Well c ss) q w.1) t n)
  where
    by : (l : Lead) → Stands AsValue l (is_end ss) → (asked_below (head_of l) AsValue (place 0 (before l)) ≡ AsValue → Nothing (led ss t)) → Nothing (node (shape_by (head_of l)) [] 0 (append (before l) (led ss t ▸ s.rest)))
    by Not s m = let inner = m refl in record { lets = inner.lets; functions = inner.functions; facts = inner.facts; declared = inner.declared }
    by Plus s m = record { lets = refl; functions = refl; facts = refl; declared = refl }
    by Minus s m = record { lets = refl; functions = refl; facts = refl; declared = refl }
    by Tilde s m = record { lets = refl; functions = refl; facts = refl; declared = refl }
    by Typing s m = record { lets = refl; functions = refl; facts = refl; declared = refl }
    by Emptying s m = record { lets = refl; functions = refl; facts = refl; declared = refl }
    by (Beside o) s m = record { lets = refl; functions = refl; facts = refl; declared = refl }
    by (Deciding o) s m = record { lets = refl; functions = refl; facts = refl; declared = refl }
    by Choosing s m = record { lets = refl; functions = refl; facts = refl; declared = refl }
    by Passing s m = record { lets = refl; functions = refl; facts = refl; declared = refl }
    by (Called o) s m = record { lets = refl; functions = refl; facts = refl; declared = refl }
    by Making s m = record { lets = refl; functions = refl; facts = refl; declared = refl }
    by (Waiting d) s m = record { lets = refl; functions = refl; facts = refl; declared = refl }
    by (Member o) s m = record { lets = refl; functions = refl; facts = refl; declared = refl }
    by (Keyed o) s m = record { lets = refl; functions = refl; facts = refl; declared = refl }
    by Linking s m = record { lets = refl; functions = refl; facts = refl; declared = refl }
    by Holding s m = record { lets = refl; functions = refl; facts = refl; declared = refl }
    by Gathering s m = record { lets = refl; functions = refl; facts = refl; declared = refl }
    by Spreading s m = record { lets = refl; functions = refl; facts = refl; declared = refl }
    by Bracketing s m = record { lets = refl; functions = refl; facts = refl; declared = refl }
    by (Against o a) s m = record { lets = refl; functions = refl; facts = refl; declared = refl }
    by (Given o a) s m = record { lets = refl; functions = refl; facts = refl; declared = refl }
    by (Filling a) s m = record { lets = refl; functions = refl; facts = refl; declared = refl }
    by (Keying o a) s m = record { lets = refl; functions = refl; facts = refl; declared = refl }
    by (Interpolating a) s m = record { lets = refl; functions = refl; facts = refl; declared = refl }
    by (Following o a) s m = record { lets = refl; functions = refl; facts = refl; declared = refl }
    by (Branching a) s m = record { lets = refl; functions = refl; facts = refl; declared = refl }
    by (Failing a d) s m = record { lets = refl; functions = refl; facts = refl; declared = refl }
    by (Storing o a) s m = record { lets = refl; functions = refl; facts = refl; declared = refl }
    by (Targeted o) s m = record { lets = refl; functions = refl; facts = refl; declared = refl }
    by (Changing o p) s m = record { lets = refl; functions = refl; facts = refl; declared = refl }
    by (Fielding g a) s m = record { lets = refl; functions = refl; facts = refl; declared = refl }
    by l s m = absurd s

-- ---- the turns of a `for`, where it has begun

module _ (e : Environment) (k : ℕ) (z : Unseen (alone (Declared k)) e) (x : Name) (named : x.symbol ≡ Some (record { 0 = k })) where
  abbrev Alike : Completion (Unit {0}) → Completion (Unit {0}) → Type 0
  Alike a b = Goes true (λ u. Agree (alone (Declared k))) (Agree (alone (Declared k))) (Agree (alone (Declared k))) a b

  turns_go : (test update body : Tree) → any_names x (test ▸ (update ▸ (body ▸ none))) ≡ false → (y y' : State) → Agree (alone (Declared k)) y y' → Alike (for_rest e test update body [] y) (for_rest e test update body [] y')
  turns_go test update body g y y' a =
      subst₂ Alike (for_absent_is e test update body [] y) (for_absent_is e test update body [] y')
      (insensitive e (alone (Declared k)) z.shared (for_loop absent test update body) (tt, ((tt, tt), all_avoided x k named (test ▸ (update ▸ (body ▸ none))) g)) (Stat None) [] y y' a)

  -- one that begins with a `var` does what that does, and then its turns
  pub looped_goes : (init test update body : Tree) → any_names x (test ▸ (update ▸ (body ▸ none))) ≡ false → (ds es : Trees) (s : State) → GoesWith e k init (declaration Var ds) (declaration Var es) s → GoesWith e k init (for_loop (declaration Var ds) test update body) (for_loop (declaration Var es) test update body) s
  looped_goes init test update body g ds es s go =
      let v = means e init (As Val) tt s in
      let after = λ (p : Value) (y : State). with_vars y (set_var y.vars (Declared k) (Holds p)) in
      let begun = next v (λ p y. means e (declaration Var ds) (Stat None) [] (after p y)) in
      subst₂ Alike
      (sym (either_cong v _ _ _ _ (λ p y. for_var_is e test update body ds [] (after p y)) (λ y p. refl) ∙ sym (either_assoc v _ _ _ _ ∙ either_cong v _ _ _ _ (λ p y. refl) (λ y p. either_stop y p _ _))))
      (sym (for_var_is e test update body es [] s))
      (goes_either true (λ p. Agree (alone (Declared k))) (Agree (alone (Declared k))) (Agree (alone (Declared k))) (λ p. Agree (alone (Declared k))) (Agree (alone (Declared k))) begun (means e (declaration Var es) (Stat None) [] s) _ _ _ _ go
      (λ u y y' a. turns_go test update body g y y' a) (λ c y y' a. stopped e k z (Unit {0}) c y y' a))

-- ---- the statements

module _ (e : Environment) (k : ℕ) (z : Unseen (alone (Declared k)) e) (x : Name) (named : x.symbol ≡ Some (record { 0 = k })) (spelling : List ℕ) (init : Tree) (plain : summary (identifier (resolved spelling k)) ≡ summary init) (ss : List Step) (w : Well AsValue ss) where
  abbrev D : VariableSet
  D = alone (Declared k)

  abbrev Go : {A : Type 0} → Completion A → Completion A → Type 0
  Go a b = Goes true (λ u. Agree D) (Agree D) (Agree D) a b

  abbrev after : Value → State → State
  after v s = with_vars s (set_var s.vars (Declared k) (Holds v))

  abbrev value : Tree
  value = led ss (identifier (resolved spelling k))

  abbrev put : Tree
  put = led ss init

  -- what is read may be put there from some states, whatever is asked for
  abbrev pub ValueMoves : (State → Type 0) → Type 0
  ValueMoves R = (v : Want) (r : Request (As v)) (s : State) → R s → Go (next (means e init (As Val) tt s) (λ p t. means e value (As v) r (after p t))) (means e put (As v) r s)

  nothing_value : Nothing value
  nothing_value = nothing_led ss w (identifier (resolved spelling k)) (record { lets = refl; functions = refl; facts = refl; declared = refl })

  nothing_put : Nothing put
  nothing_put = nothing_led ss w init (record { lets = sym (ap (λ i. i.lets) plain); functions = sym (ap (λ i. i.functions) plain); facts = sym (ap (λ i. i.facts.functions) plain); declared = sym (ap (λ i. i.facts.declared) plain) })

  module _ (R : State → Type 0) (moves : ValueMoves R) where
    -- what follows, where the statement is run
    abbrev Moves : Tree → Tree → Type 0
    Moves head there = (s : State) → R s → Go (next (means e init (As Val) tt s) (λ v t. means e head (Stat None) [] (after v t))) (means e there (Stat None) [] s)

    switch_goes : (cases : Tree) → any_names x (cases ▸ none) ≡ false → Moves (switch value cases) (switch put cases)
    switch_goes cases g t ready =
        let h = shape.SwitchStatement in
        let ts : Trees = cases ▸ none in
        let is = summaries (value ▸ ts) in
        let σ = demand h (facts_all is) (Stat None) in
        let there = λ (y : State). node_is e k z h (Stat None) [] (value ▸ ts) y in
        let put_is : means e (switch put cases) (Stat None) [] t ≡ by_summaries e k z h (Stat None) [] is (put ▸ ts) t =
        node_is e k z h (Stat None) [] (put ▸ ts) t ∙ ap (λ i. by_summaries e k z h (Stat None) [] (i ∷ summaries ts) (put ▸ ts) t) (sym (summary_led ss (identifier (resolved spelling k)) init plain)) in
        subst₂ Go (sym (either_cong (means e init (As Val) tt t) _ _ _ _ (λ v y. there (after v y)) (λ y p. refl))) (sym put_is)
        (reach_goes e k z init t h (Stat None) is σ none value put ts tt (all_avoided x k named ts g) 0 (λ j b. b) (λ j b. absurd (none_before j b)) false (λ j b r a y v g. tt) (λ r h. absurd h) (λ r o. moves Val r t ready) (step h [] (facts_all is) (Stat None) []) (switch_reaches (is_calm init) (facts_all is)))

    module _ (test update body : Tree) (g : any_names x (test ▸ (update ▸ (body ▸ none))) ≡ false) where
      for_goes : Moves (for_loop value test update body) (for_loop put test update body)
      for_goes t ready =
          let v = means e init (As Val) tt t in
          let begun = next v (λ p y. means e value (As Unused) tt (after p y)) in
          subst₂ Go
          (sym (either_cong v _ _ _ _ (λ p y. for_is e test update body value nothing_value [] (after p y)) (λ y p. refl) ∙ sym (either_assoc v _ _ _ _ ∙ either_cong v _ _ _ _ (λ p y. refl) (λ y p. either_stop y p _ _))))
          (sym (for_is e test update body put nothing_put [] t))
          (goes_either true (λ p. Agree D) (Agree D) (Agree D) (λ p. Agree D) (Agree D) begun (means e put (As Unused) tt t) _ _ _ _
          (moves Unused tt t ready)
          (λ u y y' a. turns_go e k z x named test update body g y y' a) (λ c y y' a. stopped e k z (Unit {0}) c y y' a))

    pub outside_goes : (c : Seat) → any_names x (rest c) ≡ false → Moves (seated c value) (seated c put)
    outside_goes (Choice cases) g = switch_goes cases g
    outside_goes (Loop test update body) g = for_goes test update body g
