-- What a `for` does whose body declares names and begins by leaving the loop, and the `for` with that in its test, where no event shows those
-- names.
use Rattle.std.proofs.Common.{◌≡◌, ℕ, suc, Bool, true, false, List, [], ◌∷◌, ◌++◌, Option, Some, None, refl, sym, ap, ◌∙◌, subst, subst₂, inl, true≢false}
use Rattle.std.proofs.lemmas.Bool.{and_parts}
use Rattle.std.specs.Prelude.{◌⊎◌, not}
use Rattle.mini_model.specs.declared.name.Name.{Name}
use Rattle.mini_model.specs.declared.name.SymbolId.{SymbolId}
use Rattle.mini_model.specs.declared.place.Position.TheVariants.{Stmt}
use Rattle.mini_model.specs.declared.seat.StmtSeat.TheVariants as stmt_seat
use Rattle.mini_model.specs.declared.shape.Shape.TheVariants as shape
use Rattle.mini_model.specs.Tree.{Tree, Trees, none, ◌▸◌, listed, empty_statement, absent}
use Rattle.mini_laws.specs.Value.{Variable, Declared, Global, VariableSet, Uninitialised, choose, is_in, variable_by, variable_of, nothing}
use Rattle.mini_laws.specs.State.{State, Broken, Completion, ok, stop, halt, out, either, Environment}
use Rattle.mini_laws.specs.Demand.{Test, Demand, As, Stat, LabelSet}
use Rattle.mini_laws.specs.Naming.{summary, summaries, facts, facts_all, functions_all, function_facts, naming}
use Rattle.mini_laws.specs.Asking.{demand}
use Rattle.mini_laws.specs.Step.{means}
use Rattle.mini_laws.specs.Same.{Goes}
use Rattle.mini_laws.specs.Skeleton.{needs}
use Rattle.mini_laws.specs.Steady.{KeepsSlot}
use Rattle.mini_laws.specs.Substitution.{alone as only_this}
use Rattle.mini_laws.specs.Congruence.{Apart, Avoids}
use Rattle.mini_laws.proofs.Congruent.{plain_goes}
use Rattle.mini_laws.proofs.Fitting.{fits_children}
use Rattle.mini_laws.proofs.Fundamental.{one_node, place_none, place_cons}
use Rattle.mini_laws.proofs.Runs.{either_cong, either_assoc, either_stop, each_bool}
use Rattle.mini_laws.proofs.Simulation.{goes_either}
use Rattle.mini_laws.proofs.Stretching.{exec}
use Rattle.mini_rows.specs.Fading.{Fades, Fading}
use Rattle.mini_rows.specs.Lexical.{is_of, is_of_by, is_of_outside, Row84Lexical}
use Rattle.mini_rows.specs.Lists.{block, for_loop, is_unscoped}
use Rattle.mini_rows.specs.Loops.{bare_break, is_there, may_leap, test_of, also, Leaving, alone, or_else, unless, leaves_by, goes_by, runs_on, is_loose, whole}
use Rattle.mini_rows.specs.Unused.{names}
use Rattle.mini_rows.proofs.Avoiding.{spares}
use Rattle.mini_rows.proofs.Fading.{fading_rules, fading_sound, fades_itself}
use Rattle.mini_rows.proofs.FadingSteps.{trees_fade, tree_itself}
use Rattle.mini_rows.proofs.HeldNames.{HeldNames, held_names, names_in, in_all, Covered}
use Rattle.mini_rows.proofs.LexicalScopes.{gone, within, scoped_block, stops, first_gone, within_goes, at_statement}
use Rattle.mini_rows.proofs.ListStatements.{if_is, absent_is, empty_is, one_unscoped}
use Rattle.mini_rows.proofs.ListStretches.{exec_more, listed_is, lets_append, functions_append, facts_append}
use Rattle.mini_rows.proofs.LoopTests.{stays, break_is, row_84}
use Rattle.mini_rows.proofs.Unfilled.{unfilled_goes}
use Rattle.mini_rows.proofs.UnusedNames.{avoided}

-- ---- names that don't stand in the test

abbrev pub Outside : VariableSet → Tree → Variable → Type 0
Outside V x (Declared k) = (V (Declared k) ≡ true) × Avoids (only_this (Declared k)) x
Outside V x (Global s) = ⊥

pub is_none : (b : Bool) → not b ≡ true → b ≡ false
is_none true e = absurd (true≢false (sym e))
is_none false e = refl

pub is_outside : (V : VariableSet) (x : Tree) (y : Name) → is_of_outside V x y ≡ true → Outside V x (variable_of y)
is_outside V x y e = let (of, free) = and_parts (is_of V y) (not (names y x)) e in by y.symbol refl of (is_none (names y x) free)
  where
    by : (s : Option SymbolId) → y.symbol ≡ s → is_of_by V s ≡ true → names y x ≡ false → Outside V x (variable_by y.spelling s)
    by None u e f = absurd (true≢false (sym e))
    by (Some s) u e f = (e, avoided y s.0 u x f)

outside_covered : (V : VariableSet) (x : Tree) (ts : Trees) → HeldNames (Outside V x) ts → Covered V (names_in ts)
outside_covered V x ts h y u = by y (in_all (Outside V x) (λ s f. f) (names_in ts) h.all y u)
  where
    by : (y : Variable) → Outside V x y → V y ≡ true
    by (Declared k) a = a.0
    by (Global s) a = absurd a

-- ---- a statement before others that opens no name

with_names : (t : Tree) (ts : Trees) → is_unscoped t ≡ true → names_in (t ▸ ts) ≡ names_in ts
with_names t ts u = lets_append (t ▸ none) ts ∙ ap (λ l. l ++ names_in ts) (one_unscoped t u).lets

with_functions : (t : Tree) (ts : Trees) → is_unscoped t ≡ true → functions_all (summaries (t ▸ ts)) ≡ functions_all (summaries ts)
with_functions t ts u = functions_append (t ▸ none) ts ∙ ap (λ l. l ++ functions_all (summaries ts)) (one_unscoped t u).functions

with_facts : (t : Tree) (ts : Trees) → is_unscoped t ≡ true → function_facts (facts (t ▸ ts)) ≡ function_facts (facts ts)
with_facts t ts u = facts_append (t ▸ none) ts ∙ ap (λ l. l ++ function_facts (facts ts)) (one_unscoped t u).facts

leaves_unscoped : (l : Leaving) (x : Tree) → is_unscoped (leaves_by l x) ≡ true
leaves_unscoped alone x = refl
leaves_unscoped (or_else s) x = refl
leaves_unscoped (unless s) x = refl

-- ---- the same `if`, with the block as what is run then

abbrev pub nested : Leaving → Trees → Leaving
nested alone ts = or_else (block (empty_statement ▸ ts))
nested (or_else s) ts = or_else (block (s ▸ ts))
nested (unless s) ts = unless (block (s ▸ ts))

nested_goes : (l : Leaving) (ts : Trees) (x : Tree) → goes_by (nested l ts) x ≡ goes_by l x
nested_goes alone ts x = refl
nested_goes (or_else s) ts x = refl
nested_goes (unless s) ts x = refl

nested_runs : (l : Leaving) (ts : Trees) → runs_on (nested l ts) ≡ block (runs_on l ▸ ts)
nested_runs alone ts = refl
nested_runs (or_else s) ts = refl
nested_runs (unless s) ts = refl

nested_loose : (l : Leaving) (ts : Trees) → is_loose (nested l ts) ≡ true
nested_loose alone ts = refl
nested_loose (or_else s) ts = refl
nested_loose (unless s) ts = refl

nested_read : (l : Leaving) (ts : Trees) (x : Tree) → summary (block (leaves_by l x ▸ ts)) ≡ summary (leaves_by (nested l ts) x)
nested_read alone ts x = refl
nested_read (or_else s) ts x = refl
nested_read (unless s) ts x = refl

module _ (e : Environment) (x : Tree) where
  leaves_does : (l : Leaving) (r : LabelSet) (z : State) → means e (leaves_by l x) (Stat None) r z ≡ either (means e x (As Test) tt z) (λ v y. choose (stays l v) (means e (runs_on l) (Stat None) [] y) (stop (Broken None) y)) (λ y w. stop y w)
  leaves_does alone r z = if_is e x bare_break absent r z ∙ either_cong (means e x (As Test) tt z) _ _ _ _ (each_bool _ (λ y. break_is e x y) (λ y. absent_is e [] y ∙ sym (empty_is e [] y))) (λ y w. refl)
  leaves_does (or_else s) r z = if_is e x bare_break s r z ∙ either_cong (means e x (As Test) tt z) _ _ _ _ (each_bool _ (λ y. break_is e x y) (λ y. refl)) (λ y w. refl)
  leaves_does (unless s) r z = if_is e x s bare_break r z ∙ either_cong (means e x (As Test) tt z) _ _ _ _ (each_bool _ (λ y. refl) (λ y. break_is e x y)) (λ y w. refl)

  abbrev then_runs : Leaving → Tree → State → Completion (Unit {0})
  then_runs l b z = either (means e x (As Test) tt z) (λ v y. choose (stays l v) (means e b (Stat None) [] y) (stop (Broken None) y)) (λ y w. stop y w)

  list_does : (l : Leaving) (ts : Trees) (z : State) → means e (listed (leaves_by l x ▸ ts)) (Stat None) [] z ≡ then_runs l (listed (runs_on l ▸ ts)) z
  list_does l ts z =
      listed_is e (leaves_by l x ▸ ts) [] z ∙ exec_more e (leaves_by l x) ts z
      ∙ ap (λ c. either c (λ u y. exec e ts None y) (λ y w. stop y w)) (leaves_does l [] z)
      ∙ either_assoc (means e x (As Test) tt z) _ _ _ _
      ∙ either_cong (means e x (As Test) tt z) _ _ _ _ (λ v y. on (stays l v) y) (λ y w. either_stop y w _ _)
    where
      on : (b : Bool) (y : State) → either (choose b (means e (runs_on l) (Stat None) [] y) (stop (Broken None) y)) (λ u y. exec e ts None y) (λ y w. stop y w) ≡ choose b (means e (listed (runs_on l ▸ ts)) (Stat None) [] y) (stop (Broken None) y)
      on true y = sym (listed_is e (runs_on l ▸ ts) [] y ∙ exec_more e (runs_on l) ts y)
      on false y = either_stop (Broken None) y _ _

  nested_does : (l : Leaving) (ts : Trees) (r : LabelSet) (z : State) → means e (leaves_by (nested l ts) x) (Stat None) r z ≡ then_runs l (block (runs_on l ▸ ts)) z
  nested_does alone ts r z = leaves_does (or_else (block (empty_statement ▸ ts))) r z
  nested_does (or_else s) ts r z = leaves_does (or_else (block (s ▸ ts))) r z
  nested_does (unless s) ts r z = leaves_does (unless (block (s ▸ ts))) r z

-- ---- from a state to one that it is but for the names

abbrev Hidden : List Variable → State → Type 0
Hidden xs s = (y : Variable) → is_in y xs ≡ true → s.vars y ≡ Uninitialised

gone_hides : (xs : List Variable) (s : State) → Hidden xs (gone xs s)
gone_hides xs s y u = ap (λ b. choose b Uninitialised (s.vars y)) u

with_hidden : {A : Type 0} (V : VariableSet) (xs : List Variable) (x y : Completion A) → Goes true (λ a. Fades V) (Fades V) (Fades V) x y → ((v : Variable) → is_in v xs ≡ true → KeepsSlot v Uninitialised x) → Goes true (λ a s t. Fades V s t × Hidden xs s) (Fades V) (Fades V) x y
unfolding Goes
with_hidden V xs (ok a s) (ok b t) g k = (g.0, (g.1, k))
with_hidden V xs (stop a s) (stop b t) g k = g
with_hidden V xs (halt a s) (halt b t) g k = g
with_hidden V xs out (ok b t) g k = tt
with_hidden V xs out (stop b t) g k = tt
with_hidden V xs out (halt b t) g k = tt
with_hidden V xs out out g k = tt
with_hidden V xs x y g k = absurd g

second_gone : (V : VariableSet) (xs : List Variable) (s t : State) → Fades V s t → Hidden xs s → Fades V s (gone xs t)
second_gone V xs s t f h = record { vars = λ x. by x (is_in x xs) refl (f.vars x); self = f.self; answers = f.answers; turns = f.turns; events = f.events }
  where
    by : (x : Variable) (b : Bool) → is_in x xs ≡ b → (s.vars x ≡ t.vars x) ⊎ ((V x ≡ true) × (s.vars x ≡ Uninitialised)) → (s.vars x ≡ choose b Uninitialised (t.vars x)) ⊎ ((V x ≡ true) × (s.vars x ≡ Uninitialised))
    by x true u k = inl (h x u)
    by x false u k = k

module _ (V : VariableSet) (e : Environment) (apart : Apart e V) (x : Tree) (l : Leaving) (ts : Trees) (loose : is_loose l ≡ true) (h : HeldNames (Outside V x) ts) where
  abbrev L : List Variable
  L = names_in ts

  abbrev Go : {A : Type 0} → Completion A → Completion A → Type 0
  Go y z = Goes true (λ a. Fades V) (Fades V) (Fades V) y z

  hides : Covered V L
  hides = outside_covered V x ts h

  stays_hidden : (s : State) (v : Variable) → is_in v L ≡ true → KeepsSlot v Uninitialised (means e x (As Test) tt (gone L s))
  stays_hidden s v u = by v (in_all (Outside V x) (λ s f. f) L h.all v u) (gone_hides L s v u)
    where
      by : (v : Variable) → Outside V x v → (gone L s).vars v ≡ Uninitialised → KeepsSlot v Uninitialised (means e x (As Test) tt (gone L s))
      by (Declared k) a g = unfilled_goes e (Declared k) x (As Test) (spares k x a.1 (As Test)) tt (gone L s) g
      by (Global s) a g = absurd a

  abbrev rest : Trees
  rest = runs_on l ▸ ts

  taken : (b : Bool) (s t : State) → Fades V s t → Hidden L s → Go (within L (choose b (means e (listed rest) (Stat None) [] s) (stop (Broken None) s))) (choose b (means e (block rest) (Stat None) [] t) (stop (Broken None) t))
  taken true s t f k =
      subst (Go (within L (means e (listed rest) (Stat None) [] s)))
      (sym (scoped_block e rest (with_functions (runs_on l) ts loose ∙ h.functions) (with_facts (runs_on l) ts loose ∙ h.facts) [] t ∙ ap (λ xs. within xs (means e (listed rest) (Stat None) [] (gone xs t))) (with_names (runs_on l) ts loose)))
      (within_goes V e apart L _ _ (fades_itself V e apart (Stat None) (listed rest) [] s (gone L t) (second_gone V L s t f k)))
  taken false s t f k = subst (λ y. Go y (stop (Broken None) t)) (sym (either_stop (Broken None) s _ _)) (stops V e apart (Broken None) (gone L s) t (first_gone V e apart L hides s t f))

  body_fades : Fading V e (Stat None) (block (leaves_by l x ▸ ts)) (leaves_by (nested l ts) x)
  body_fades r s t f =
      subst₂ Go (sym earlier) (sym (nested_does e x l ts r t))
      (goes_either true (λ a s t. Fades V s t × Hidden L s) (Fades V) (Fades V) (λ a. Fades V) (Fades V) (means e x (As Test) tt (gone L s)) (means e x (As Test) tt t) _ _ _ _
      (with_hidden V L (means e x (As Test) tt (gone L s)) (means e x (As Test) tt t) (fades_itself V e apart (As Test) x tt (gone L s) t (first_gone V e apart L hides s t f)) (stays_hidden s))
      (λ v s t k. taken (stays l v) s t k.0 k.1)
      (λ y s t f. subst (λ z. Go z (stop y t)) (sym (either_stop y s _ _)) (stops V e apart y (gone L s) t (first_gone V e apart L hides s t f))))
    where
      first : Tree
      first = leaves_by l x

      u : is_unscoped (leaves_by l x) ≡ true
      u = leaves_unscoped l x

      earlier : means e (block (leaves_by l x ▸ ts)) (Stat None) r s ≡ either (means e x (As Test) tt (gone L s)) (λ v y. within L (choose (stays l v) (means e (listed rest) (Stat None) [] y) (stop (Broken None) y))) (λ y w. within L (stop y w))
      earlier =
          scoped_block e (leaves_by l x ▸ ts) (with_functions (leaves_by l x) ts u ∙ h.functions) (with_facts (leaves_by l x) ts u ∙ h.facts) r s
          ∙ ap (λ xs. within xs (means e (listed (leaves_by l x ▸ ts)) (Stat None) [] (gone xs s))) (with_names (leaves_by l x) ts u)
          ∙ ap (within L) (list_does e x l ts (gone L s))
          ∙ either_assoc (means e x (As Test) tt (gone L s)) _ _ _ _

  -- ---- the loop

  module _ (init t update : Tree) where
    abbrev Old : Tree
    Old = for_loop init t update (block (leaves_by l x ▸ ts))

    abbrev Middle : Tree
    Middle = for_loop init t update (leaves_by (nested l ts) x)

    abbrev parts : Tree → Trees
    parts b = init ▸ (t ▸ (update ▸ (b ▸ none)))

    loop_fades : Fading V e (Stat None) Old Middle
    loop_fades r s z f =
        plain_goes (fading_rules V e) (Stat None) Old Middle
        (one_node (fading_rules V e) (fading_sound V e apart) shape.ForStatement [] [] 0 0 (parts (block (leaves_by l x ▸ ts))) (parts (leaves_by (nested l ts) x)) nothing (Stat None)
        (ap (λ i. naming shape.ForStatement (Stat None) [] 0 (summary init ∷ (summary t ∷ (summary update ∷ (i ∷ []))))) (nested_read l ts x)) refl
        (ap (λ i. facts_all (summary init ∷ (summary t ∷ (summary update ∷ (i ∷ []))))) (nested_read l ts x))
        (place_cons (fading_rules V e) (fading_sound V e apart) init init (t ▸ (update ▸ (block (leaves_by l x ▸ ts) ▸ none))) (t ▸ (update ▸ (leaves_by (nested l ts) x ▸ none))) X σ (tree_itself V e apart (X 0) (σ 0) init)
        (place_cons (fading_rules V e) (fading_sound V e apart) t t (update ▸ (block (leaves_by l x ▸ ts) ▸ none)) (update ▸ (leaves_by (nested l ts) x ▸ none)) (λ i. X (suc i)) (λ i. σ (suc i)) (tree_itself V e apart (X 1) (σ 1) t)
        (place_cons (fading_rules V e) (fading_sound V e apart) update update (block (leaves_by l x ▸ ts) ▸ none) (leaves_by (nested l ts) x ▸ none) (λ i. X (suc (suc i))) (λ i. σ (suc (suc i))) (tree_itself V e apart (X 2) (σ 2) update)
        (place_cons (fading_rules V e) (fading_sound V e apart) (block (leaves_by l x ▸ ts)) (leaves_by (nested l ts) x) none none (λ i. X (suc (suc (suc i)))) (λ i. σ (suc (suc (suc i))))
        (trees_fade V e apart (X 3) (σ 3) _ _ (at_statement V e apart _ _ body_fades stmt_seat.Body (σ 3) (fits_children shape.ForStatement (facts (parts (block (leaves_by l x ▸ ts)))) (Stmt stmt_seat.List) (Stat None) tt 3)))
        (place_none (fading_rules V e) (fading_sound V e apart) _ _))))))
        r s z f
      where
        X : ℕ → VariableSet
        X = needs shape.ForStatement (Stat None) nothing (parts (block (leaves_by l x ▸ ts)))

        σ : ℕ → Demand
        σ = demand shape.ForStatement (facts (parts (block (leaves_by l x ▸ ts)))) (Stat None)

pub row_84_fades : (V : VariableSet) (n w : Tree) → Row84Lexical V n w → (e : Environment) → Apart e V → Fading V e (Stat None) n w
row_84_fades V n w c e apart =
    subst₂ (Fading V e (Stat None)) (sym c.shape) (sym c.written)
    (λ r s t f.
    subst (Goes true (λ a. Fades V) (Fades V) (Fades V) (means e (for_loop c.init (test_of c.test) c.update (block (leaves_by c.leaving c.x ▸ c.others))) (Stat None) r s))
    ((row_84 c.init c.update c.x c.test whole (nested c.leaving c.others) (and_parts (is_there c.x) (not (may_leap c.x)) c.asked).0 c.tested refl (nested_loose c.leaving c.others)).by e None r t
    ∙ (λ i. means e (for_loop c.init (also c.test (nested_goes c.leaving c.others c.x i)) c.update (nested_runs c.leaving c.others i)) (Stat None) r t))
    (loop_fades V e apart c.x c.leaving c.others c.loose (held_names (is_of_outside V c.x) (Outside V c.x) (is_outside V c.x) c.others c.held) c.init (test_of c.test) c.update r s t f))
