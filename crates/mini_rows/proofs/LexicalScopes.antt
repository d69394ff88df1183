-- A scope with names that no event shows, from a state to one that it is but for those.
use Rattle.std.proofs.Common.{◌≡◌, Bool, true, false, List, [], ◌++◌, Option, Some, None, refl, sym, ap, ◌∙◌, subst₂, inl, inr}
use Rattle.std.proofs.lemmas.List.{append-nil}
use Rattle.std.specs.Prelude.{◌⊎◌}
use Rattle.mini_model.specs.declared.place.Position.TheVariants.{Stmt}
use Rattle.mini_model.specs.declared.seat.StmtSeat.{StmtSeat}
use Rattle.mini_model.specs.declared.shape.Shape.TheVariants as shape
use Rattle.mini_model.specs.Tree.{Tree, Trees, none, ◌▸◌, listed}
use Rattle.mini_laws.specs.Value.{Undefined, Variable, VariableSet, Uninitialised, choose, is_in}
use Rattle.mini_laws.specs.State.{State, Stop, Returned, Continued, Completion, ok, stop, either, Environment, with_vars}
use Rattle.mini_laws.specs.Demand.{Demand, Tail, LoopTail, FunctionTail, Stat, LabelSet}
use Rattle.mini_laws.specs.Command.{Naming, hide_all, run}
use Rattle.mini_laws.specs.Naming.{summaries, facts, functions_all, function_facts, function_names, naming}
use Rattle.mini_laws.specs.Statements.{block_step, create_functions}
use Rattle.mini_laws.specs.Step.{step, means, meaning}
use Rattle.mini_laws.specs.Fits.{Fits}
use Rattle.mini_laws.specs.Same.{Goes}
use Rattle.mini_laws.specs.Congruence.{Apart}
use Rattle.mini_laws.specs.Tails.{ends_in}
use Rattle.mini_laws.proofs.Runs.{either_ok}
use Rattle.mini_laws.proofs.Simulation.{goes_either}
use Rattle.mini_laws.proofs.Tailing.{finished, finish_none, hidden, closed, block_runs, tail_same}
use Rattle.mini_rows.specs.Lists.{block}
use Rattle.mini_rows.specs.Fading.{Fades, Fading}
use Rattle.mini_rows.proofs.HeldNames.{names_in, Covered}

-- ---- a scope with these names

abbrev pub gone : List Variable → State → State
gone xs z = with_vars z (hide_all xs z.vars)

-- what is run in it
abbrev pub within : List Variable → Completion (Unit {0}) → Completion (Unit {0})
within xs x = either x (λ u z. ok tt (gone xs z)) (λ y z. stop y (gone xs z))

module _ (e : Environment) where
  abbrev block_names : Trees → Naming
  block_names ts = naming shape.BlockStatement (Stat None) [] 0 (summaries (listed ts ▸ none))

  block_scope : (ts : Trees) → functions_all (summaries ts) ≡ [] → (block_names ts).scope ≡ names_in ts
  block_scope ts h = ap (λ fs. (names_in ts ++ []) ++ function_names (fs ++ [])) h ∙ append-nil (names_in ts ++ []) ∙ append-nil (names_in ts)

  pub scoped_block : (ts : Trees) → functions_all (summaries ts) ≡ [] → function_facts (facts ts) ≡ [] → (r : LabelSet) (s : State) → means e (block ts) (Stat None) r s ≡ within (names_in ts) (means e (listed ts) (Stat None) [] (gone (names_in ts) s))
  unfolding means meaning step closed hidden
  scoped_block ts h k r s =
      finished e (block_names ts) (λ i. Stat None) (λ i r z. meaning e (listed ts ▸ none) i (Stat None) r z) None (block_step None (facts (listed ts ▸ none))) s ∙ finish_none _
      ∙ block_runs e (block_names ts) (meaning e (listed ts ▸ none)) None (facts (listed ts ▸ none)) s
      ∙ ap (λ l. closed e (block_names ts) (either (run {q = λ i. Stat None} e (block_names ts) (λ i. meaning e (listed ts ▸ none) i (Stat None)) (create_functions true (l ++ []) 0) (hidden e (block_names ts) s)) (λ u z. means e (listed ts) (Stat None) [] z) (λ x z. stop x z))) k
      ∙ ap (closed e (block_names ts)) (either_ok tt (hidden e (block_names ts) s) _ _)
      ∙ ap (λ xs. within xs (means e (listed ts) (Stat None) [] (gone xs s))) (block_scope ts h)

-- ---- from a state to one that it is but for some names

module _ (V : VariableSet) (e : Environment) (apart : Apart e V) where
  abbrev Go : Completion (Unit {0}) → Completion (Unit {0}) → Type 0
  Go x y = Goes true (λ a. Fades V) (Fades V) (Fades V) x y

  pub goes_on : {A : Type 0} (x y : Completion A) (f g : A → State → Completion (Unit {0})) (h k : Stop → State → Completion (Unit {0})) → Goes true (λ a. Fades V) (Fades V) (Fades V) x y → ((a : A) (s t : State) → Fades V s t → Go (f a s) (g a t)) → ((a : Stop) (s t : State) → Fades V s t → Go (h a s) (k a t)) → Go (either x f h) (either y g k)
  goes_on x y f g h k r u v = goes_either true (λ a. Fades V) (Fades V) (Fades V) (λ a. Fades V) (Fades V) x y f g h k r u v

  pub ends : (s t : State) → Fades V s t → Go (ok tt s) (ok tt t)
  unfolding Goes
  ends s t f = (refl, f)

  pub stops : (x : Stop) (s t : State) → Fades V s t → Go (stop x s) (stop x t)
  unfolding Goes
  stops x s t f = (refl, f)

  abbrev AtSlots : State → State → Variable → Type 0
  AtSlots s t x = (s.vars x ≡ t.vars x) ⊎ ((V x ≡ true) × (s.vars x ≡ Uninitialised))

  -- names are hidden in both, or in the first alone
  pub both_gone : (xs : List Variable) (s t : State) → Fades V s t → Fades V (gone xs s) (gone xs t)
  both_gone xs s t f = record { vars = λ x. by x (is_in x xs) (f.vars x); self = f.self; answers = f.answers; turns = f.turns; events = f.events }
    where
      by : (x : Variable) (b : Bool) → AtSlots s t x → (choose b Uninitialised (s.vars x) ≡ choose b Uninitialised (t.vars x)) ⊎ ((V x ≡ true) × (choose b Uninitialised (s.vars x) ≡ Uninitialised))
      by x true h = inl refl
      by x false h = h

  pub first_gone : (xs : List Variable) → Covered V xs → (s t : State) → Fades V s t → Fades V (gone xs s) t
  first_gone xs c s t f = record { vars = λ x. by x (is_in x xs) refl (f.vars x); self = f.self; answers = f.answers; turns = f.turns; events = f.events }
    where
      by : (x : Variable) (b : Bool) → is_in x xs ≡ b → AtSlots s t x → (choose b Uninitialised (s.vars x) ≡ t.vars x) ⊎ ((V x ≡ true) × (choose b Uninitialised (s.vars x) ≡ Uninitialised))
      by x true u h = inr (c x u, refl)
      by x false u h = h

  pub within_goes : (xs : List Variable) (x y : Completion (Unit {0})) → Go x y → Go (within xs x) (within xs y)
  within_goes xs x y g = goes_on x y _ _ _ _ g (λ u s t f. ends (gone xs s) (gone xs t) (both_gone xs s t f)) (λ a s t f. stops a (gone xs s) (gone xs t) (both_gone xs s t f))

-- ---- in each tail

module _ (V : VariableSet) (e : Environment) (apart : Apart e V) where
  tail_ends : (t : Option Tail) (x : Stop) (s z : State) → Fades V s z → Go V e apart (ends_in t x s) (ends_in t x z)
  unfolding Goes
  tail_ends (Some LoopTail) (Continued None) s z f = (refl, f)
  tail_ends (Some FunctionTail) (Returned Undefined) s z f = (refl, f)
  tail_ends t x s z f = (refl, f)

  pub in_each_tail : (n w : Tree) → Fading V e (Stat None) n w → (t : Option Tail) → Fading V e (Stat t) n w
  in_each_tail n w h t r s z f =
      subst₂ (Go V e apart) (sym (tail_same e n t r s)) (sym (tail_same e w t r z))
      (goes_on V e apart (means e n (Stat None) r s) (means e w (Stat None) r z) _ _ _ _ (h r s z f) (λ u s z f. ends V e apart s z f) (λ x s z f. tail_ends t x s z f))

  pub at_statement : (n w : Tree) → Fading V e (Stat None) n w → (k : StmtSeat) (q : Demand) → Fits (Stmt k) q → Fading V e q n w
  at_statement n w h k (Stat t) f = in_each_tail n w h t
  at_statement n w h k q f = elim f [ ]
