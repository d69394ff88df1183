-- A block without a name that nothing mentions means the same, but for what that variable holds afterwards.
use Rattle.std.specs.Prelude.{◌⊎◌, ◌&&◌, ◌||◌, not, Bool, Option}
use Rattle.std.proofs.lemmas.Bool.{eq-eqb, eqb-true, and_parts}
use Rattle.std.proofs.lemmas.List.{append-nil}
use Rattle.std.proofs.Common.{◌≡◌, ℕ, true, false, List, [], ◌∷◌, ◌++◌, None, Some, refl, sym, ap, ◌∙◌, subst, subst₂, inl, inr, true≢false, append_assoc}
use Rattle.mini_model.specs.declared.kind.VariableDeclarationKind.{VariableDeclarationKind}
use Rattle.mini_model.specs.declared.kind.VariableDeclarationKind.TheVariants.{Var, Let, Const}
use Rattle.mini_model.specs.declared.name.Name.{Name}
use Rattle.mini_model.specs.declared.name.SymbolId.{SymbolId}
use Rattle.mini_model.specs.declared.operator.UnaryOperator.TheVariants.{LogicalNot}
use Rattle.mini_model.specs.declared.shape.Shape.TheVariants as shape
use Rattle.mini_model.specs.Tree.{Tree, Trees, node, none, ◌▸◌, absent, listed, shape_of, program, empty_statement, expression_statement}
use Rattle.mini_model.specs.Paths.{append}
use Rattle.mini_laws.specs.Value.{Value, Undefined, Variable, Declared, VariableSet, Slot, Holds, Missing, Uninitialised, choose, variable_eq, is_in, nothing}
use Rattle.mini_laws.specs.State.{State, Completion, ok, stop, halt, out, either, Writes, Environment, with_vars}
use Rattle.mini_laws.specs.Demand.{Val, Unused, Tail, FunctionTail, Demand, As, Stat, Declares, Binds, LabelSet}
use Rattle.mini_laws.specs.Command.{set_var, run, note, act, at_variable, write_slot}
use Rattle.mini_laws.specs.State.{FreshOf}
use Rattle.mini_laws.specs.Naming.{summary, summaries, facts_all, lets_all, functions_all, function_facts, texts_all, naming, is_lexical}
use Rattle.mini_laws.specs.Asking.{demand}
use Rattle.mini_laws.specs.Replies.{by_fixity}
use Rattle.mini_laws.specs.Skeleton.{hidden_all}
use Rattle.mini_laws.specs.Path.{here, inside, join}
use Rattle.mini_laws.specs.Same.{Goes, Agree, Same}
use Rattle.mini_laws.specs.Step.{step, means, meaning}
use Rattle.mini_laws.specs.Stretches as first
use Rattle.mini_laws.specs.Substitution.{alone}
use Rattle.mini_laws.specs.Symbols.{is_same}
use Rattle.mini_laws.specs.Truth.{told}
use Rattle.mini_laws.specs.Congruence.{Avoids, AllAvoid, ReadAlike, only}
use Rattle.mini_laws.proofs.Anywhere.{stretch_anywhere}
use Rattle.mini_laws.proofs.Congruent.{congruent_same, insensitive, transitive, no_init, weaker, no_within, no_off}
use Rattle.mini_laws.proofs.Runs.{either_cong, either_eta, either_assoc, either_stop}
use Rattle.mini_laws.proofs.Simulation.{within_refl}
use Rattle.mini_laws.proofs.Truth.{coherent}
use Rattle.mini_kept.specs.Without.{Unseen, Permits}
use Rattle.mini_node.specs.Kinds.{is_absent_part}
use Rattle.mini_node.specs.Made.{absent_is}
use Rattle.mini_node.specs.Children.{part}
use Rattle.mini_terms.specs.Folds.{is_effect_free}
use Rattle.mini_terms.specs.Parts.{leaves_nothing}
use Rattle.mini_terms.specs.Reading.{is_plain_part}
use Rattle.mini_terms.proofs.Dropping.{does_nothing, weak}
use Rattle.mini_rows.specs.Cases.{switch_case}
use Rattle.mini_rows.specs.Lists.{block, switch, declaration, declares_nothing}
use Rattle.mini_rows.specs.Declarations.{binding, declarator}
use Rattle.mini_rows.specs.Unused.{resolved, declared_among, declared_one, is_idle, declared_left, takes_name, may_move, statements, static_block, lets_go, Row72, Row72Idle}
use Rattle.mini_rows.specs.Switches.{Switches, without_vars}
use Rattle.mini_rows.proofs.UnusedNames.{avoided, all_avoided}
use Rattle.mini_rows.proofs.ListStretches.{lets_append, functions_append, facts_append, texts_append, exec_one, exec_two, listed_is}
use Rattle.mini_rows.proofs.ListBegun.{given_value}
use Rattle.mini_rows.proofs.ListStatements.{declaration_is, declare_more, declare_none, expression_is, empty_is, declarations_join}

-- an expression is there
there : (t : Tree) → declares_nothing t ≡ true → (summary t).facts.absent ≡ false
there (node shape.Absent xs n ts) e = absurd (true≢false (sym e))
there (node (shape.UnaryExpression LogicalNot) xs n none) e = absurd (true≢false (sym e))
there (node (shape.UnaryExpression LogicalNot) xs n (t ▸ ts)) e = there t e
there (node shape.SwitchCase xs n ts) e = absurd (true≢false (sym e))
there (node (shape.Function true g ds) xs n ts) e = absurd (true≢false (sym e))
there (node (shape.Function false g ds) xs n ts) e = refl
there (node (shape.Class true) xs n ts) e = absurd (true≢false (sym e))
there (node (shape.Class false) xs n ts) e = refl
there (node h xs n ts) e = refl

pub same_append : (a b : Trees) → first.append a b ≡ append a b
same_append none b = refl
same_append (t ▸ a) b = ap (λ ts. t ▸ ts) (same_append a b)

pub all_join : (D : VariableSet) (a b : Trees) → AllAvoid D a → AllAvoid D b → AllAvoid D (append a b)
all_join D none b p q = q
all_join D (t ▸ a) b p q = (p.0, all_join D a b p.1 q)

pub join_is : (pre : Trees) (c : Tree) (post : Trees) → join pre c post ≡ append pre (c ▸ post)
join_is none c post = refl
join_is (t ▸ pre) c post = ap (λ ts. t ▸ ts) (join_is pre c post)

-- the later variables lack one of the earlier, or they are the same
abbrev OneLess : ℕ → List Variable → List Variable → Type 0
OneLess k xs ys = ((first : List Variable) × (last : List Variable) × (xs ≡ first ++ Declared k ∷ last) × (ys ≡ first ++ last)) ⊎ (xs ≡ ys)

-- what a write does to what the variable holds
abbrev writes : Variable → Value → Slot → State → Completion (Unit {0})
writes x v o s = either (write_slot x v o s) (λ u z. ok tt z) (λ y z. stop y z)

written : (x : Variable) (w v : Value) (s : State) → writes x v (Holds w) s ≡ ok tt (with_vars s (set_var s.vars x (Holds v)))
unfolding write_slot either
written x w v s = refl

missing : (x : Variable) (v : Value) (s : State) → writes x v Missing s ≡ out
unfolding write_slot either
missing x v s = refl

unset : (x : Variable) (v : Value) (s : State) → writes x v Uninitialised s ≡ out
unfolding write_slot either
unset x v s = refl

module _ (e : Environment) (spelling : List ℕ) (k : ℕ) (z : Unseen (alone (Declared k)) e) where
  abbrev D : VariableSet
  D = alone (Declared k)

  abbrev x : Name
  x = resolved spelling k

  apart : (y : Variable) → D y ≡ true → e.shared y ≡ false
  apart = z.shared

  own : D (Declared k) ≡ true
  own = eq-eqb k k refl

  unshared : e.shared (Declared k) ≡ false
  unshared = z.shared (Declared k) own

  -- ---- the declaration

  abbrev after : Value → State → State
  after v s = with_vars s (set_var s.vars (Declared k) (Holds v))

  -- a lexical name is initialised by a value, and a `var` that may be written and holds one is written (ECMA-262, "PutValue")
  lexical_binds : (v : Value) (s : State) → means e (binding x) (Binds true) v s ≡ ok tt (after v s)
  unfolding means meaning step either act at_variable
  lexical_binds v s = ap (λ b. let t = choose b (note e FreshOf None [] (Some (Declared k)) s) s in ok tt (with_vars t (set_var t.vars (Declared k) (Holds v)))) unshared

  var_writes : e.fixed (Declared k) ≡ Writes → (v : Value) (s : State) → means e (binding x) (Binds false) v s ≡ writes (Declared k) v (s.vars (Declared k)) s
  unfolding means meaning step either act at_variable
  var_writes h v s =
      ap (λ f. run {q = demand shape.BindingIdentifier [] (Binds false)} e (naming shape.BindingIdentifier (Binds false) (Declared k ∷ []) 0 []) (λ i r z. meaning e none i (demand shape.BindingIdentifier [] (Binds false) i) r z) (by_fixity v f) s) h

  var_binds : e.fixed (Declared k) ≡ Writes → (v : Value) (s : State) → (means e (binding x) (Binds false) v s ≡ ok tt (after v s)) ⊎ (means e (binding x) (Binds false) v s ≡ out)
  var_binds h v s = by (s.vars (Declared k)) refl
    where
      wrote : (o : Slot) → s.vars (Declared k) ≡ o → means e (binding x) (Binds false) v s ≡ writes (Declared k) v o s
      wrote o q = var_writes h v s ∙ ap (λ o. writes (Declared k) v o s) q

      by : (o : Slot) → s.vars (Declared k) ≡ o → (means e (binding x) (Binds false) v s ≡ ok tt (after v s)) ⊎ (means e (binding x) (Binds false) v s ≡ out)
      by (Holds w) q = inl (wrote (Holds w) q ∙ written (Declared k) w v s)
      by Missing q = inr (wrote Missing q ∙ missing (Declared k) v s)
      by Uninitialised q = inr (wrote Uninitialised q ∙ unset (Declared k) v s)

  binds : (l : Bool) → (l ≡ false → e.fixed (Declared k) ≡ Writes) → (v : Value) (s : State) → (means e (binding x) (Binds l) v s ≡ ok tt (after v s)) ⊎ (means e (binding x) (Binds l) v s ≡ out)
  binds true p v s = inl (lexical_binds v s)
  binds false p v s = var_binds (p refl) v s

  initialised : (l : Bool) (v : Tree) → (summary v).facts.absent ≡ false → (s : State) → means e (declarator (binding x) v) (Declares l) tt s ≡ either (means e v (As Val) tt s) (λ a z. means e (binding x) (Binds l) a z) (λ x z. stop x z)
  initialised l v h s = given_value e (binding x) l v h s

  bare : (s : State) → means e (declarator (binding x) absent) (Declares true) tt s ≡ means e (binding x) (Binds true) Undefined s
  unfolding means meaning step
  bare s = either_eta (means e (binding x) (Binds true) Undefined s)

  -- a `var` keeps its value
  bare_var : (s : State) → means e (declarator (binding x) absent) (Declares false) tt s ≡ ok tt s
  unfolding means meaning step
  bare_var s = refl

  agrees : (v : Value) (s : State) → Agree D (after v s) s
  agrees v s = record { vars = λ y d. ap (λ c. choose c (Holds v) (s.vars y)) d; self = refl; answers = refl; turns = refl; events = refl }

  itself : (s : State) → Agree D s s
  itself s = record { vars = λ y d. refl; self = refl; answers = refl; turns = refl; events = refl }

  abbrev Go : Completion (Unit {0}) → Completion (Unit {0}) → Type 0
  Go a b = Goes true (λ u. Agree D) (Agree D) (Agree D) a b

  goes : (c : Completion Value) → Go (either c (λ v s. ok tt (after v s)) (λ y s. stop y s)) (told Unused c)
  unfolding Goes either told
  goes (ok v s) = (refl, agrees v s)
  goes (stop y s) = (refl, itself s)
  goes (halt y s) = (refl, itself s)
  goes out = tt

  -- where a run is outside the model nothing is asked
  without_out : (c : Completion Value) (f g : Value → State → Completion (Unit {0})) (y : Completion (Unit {0})) → ((v : Value) (s : State) → (f v s ≡ g v s) ⊎ (f v s ≡ out)) → Go (either c g (λ y z. stop y z)) y → Go (either c f (λ y z. stop y z)) y
  unfolding either
  without_out (ok v s) f g y h go = by (h v s)
    where
      by : (f v s ≡ g v s) ⊎ (f v s ≡ out) → Go (f v s) y
      by (inl q) = subst (λ a. Go a y) (sym q) go
      by (inr q) = subst (λ a. Go a y) (sym q) (weak D y)
  without_out (stop x s) f g y h go = go
  without_out (halt x s) f g y h go = go
  without_out out f g y h go = go

  pub one_same : (d w : Tree) → ((s : State) → Go (means e d (Stat None) [] s) (means e w (Stat None) [] s)) → Same e D nothing (Stat None) (listed (d ▸ none)) (listed (w ▸ none))
  one_same d w g = record { by = λ r s i. subst₂ Go (sym (listed_is e (d ▸ none) r s ∙ exec_one e d s)) (sym (listed_is e (w ▸ none) r s ∙ exec_one e w s)) (g s) }

  -- as a list
  abbrev SameAlone : Tree → Tree → Type 0
  SameAlone d w = Same e D nothing (Stat None) (listed (d ▸ none)) (listed (w ▸ none))

  abbrev Then : Completion (Unit {0}) → (State → Completion (Unit {0})) → Completion (Unit {0})
  Then c f = either c (λ u z. f z) (λ y z. stop y z)

  then_go : (c : Completion (Unit {0})) (s : State) (f : State → Completion (Unit {0})) → Go c (ok tt s) → ((z : State) → Agree D z s → Go (f z) (f s)) → Go (Then c f) (f s)
  unfolding Goes either
  then_go (ok u z) s f g h = h z g.1
  then_go (stop y z) s f g h = absurd g
  then_go (halt y z) s f g h = absurd g
  then_go out s f g h = weak D (f s)

  pub both_go : (c : Completion (Unit {0})) (f g : State → Completion (Unit {0})) → ((z : State) → Go (f z) (g z)) → Go (Then c f) (Then c g)
  unfolding Goes either
  both_go (ok u z) f g h = h z
  both_go (stop y z) f g h = (refl, itself z)
  both_go (halt y z) f g h = (refl, itself z)
  both_go out f g h = tt

  bare_one : (l : Bool) (s : State) → Go (means e (declarator (binding x) absent) (Declares l) tt s) (ok tt s)
  unfolding Goes
  bare_one true s = subst (λ c. Go c (ok tt s)) (sym (bare s ∙ lexical_binds Undefined s)) (refl, agrees Undefined s)
  bare_one false s = subst (λ c. Go c (ok tt s)) (sym (bare_var s)) (refl, itself s)

  -- of a kind of declaration: a `var` is one that may be written
  module _ (K : VariableDeclarationKind) (permit : is_lexical K ≡ false → e.fixed (Declared k) ≡ Writes) where
    declared_is : (init : Tree) (s : State) → means e (declared_one K x init) (Stat None) [] s ≡ means e (declarator (binding x) init) (Declares (is_lexical K)) tt s
    declared_is init s =
        declaration_is e K (declarator (binding x) init ▸ none) [] s ∙ declare_more e (declarator (binding x) init) none (is_lexical K) s
        ∙ either_cong (means e (declarator (binding x) init) (Declares (is_lexical K)) tt s) _ _ _ _ (λ u y. declare_none e (is_lexical K) y) (λ y r. refl) ∙ either_eta (means e (declarator (binding x) init) (Declares (is_lexical K)) tt s)

    -- what goes on after it
    pub declared_then : (init : Tree) → (summary init).facts.absent ≡ false → (f : State → Completion (Unit {0})) (s : State) (y : Completion (Unit {0})) → Go (either (means e init (As Val) tt s) (λ v z. f (after v z)) (λ y z. stop y z)) y → Go (Then (means e (declared_one K x init) (Stat None) [] s) f) y
    unfolding either
    declared_then init h f s y go =
        subst (λ c. Go c y) (sym (ap (λ c. Then c f) (declared_is init s ∙ initialised (is_lexical K) init h s) ∙ either_assoc (means e init (As Val) tt s) _ _ _ _))
        (without_out (means e init (As Val) tt s) (λ v z. Then (means e (binding x) (Binds (is_lexical K)) v z) f) (λ v z. f (after v z)) y (λ v z. by v z (binds (is_lexical K) permit v z)) go)
      where
        by : (v : Value) (z : State) → (means e (binding x) (Binds (is_lexical K)) v z ≡ ok tt (after v z)) ⊎ (means e (binding x) (Binds (is_lexical K)) v z ≡ out) → (Then (means e (binding x) (Binds (is_lexical K)) v z) f ≡ f (after v z)) ⊎ (Then (means e (binding x) (Binds (is_lexical K)) v z) f ≡ out)
        by v z (inl q) = inl (ap (λ c. Then c f) q)
        by v z (inr q) = inr (ap (λ c. Then c f) q)

    value_goes : (init : Tree) → (summary init).facts.absent ≡ false → (s : State) → Go (means e (declared_one K x init) (Stat None) [] s) (means e (expression_statement init) (Stat None) [] s)
    value_goes init h s =
        subst₂ Go (either_eta (means e (declared_one K x init) (Stat None) [] s)) (sym (expression_is e init [] s ∙ coherent init Unused e s)) (declared_then init h (λ z. ok tt z) s (told Unused (means e init (As Val) tt s)) (goes (means e init (As Val) tt s)))

    bare_goes : (s : State) → Go (means e (declared_one K x absent) (Stat None) [] s) (means e empty_statement (Stat None) [] s)
    bare_goes s = subst₂ Go (sym (declared_is absent s)) (sym (empty_is e [] s)) (bare_one (is_lexical K) s)

    pub value_same : (init : Tree) → declares_nothing init ≡ true → SameAlone (declared_one K x init) (expression_statement init)
    value_same init h = one_same (declared_one K x init) (expression_statement init) (value_goes init (there init h))

    idle_same : (init : Tree) → is_idle init ≡ true → SameAlone (declared_one K x init) empty_statement
    idle_same init h = by (is_absent_part init) refl
      where
        by : (b : Bool) → is_absent_part init ≡ b → SameAlone (declared_one K x init) empty_statement
        by true a = subst (λ t. SameAlone (declared_one K x t) empty_statement) (sym (absent_is init a)) (one_same (declared_one K x absent) empty_statement bare_goes)
        by false a =
            let (present, quiet) = and_parts (declares_nothing init) (is_effect_free init && leaves_nothing init) (sym (ap (λ b. b || (declares_nothing init && (is_effect_free init && leaves_nothing init))) a) ∙ h) in
            let (free, dropped) = and_parts (is_effect_free init) (leaves_nothing init) quiet in
            transitive e D nothing (Stat None) (listed (declared_one K x init ▸ none)) (listed (expression_statement init ▸ none)) (listed (empty_statement ▸ none)) (value_same init present)
            (one_same (expression_statement init) empty_statement (λ s. (does_nothing init free e D nothing None).by [] s (no_init s)))

    -- ---- among other declarators

    idle_ends : (init : Tree) → is_idle init ≡ true → (s : State) → Go (means e (declared_one K x init) (Stat None) [] s) (ok tt s)
    idle_ends init h s =
        let alone_is = λ (t : Tree). listed_is e (t ▸ none) [] s ∙ exec_one e t s in
        subst₂ Go (alone_is (declared_one K x init)) (alone_is empty_statement ∙ empty_is e [] s) ((idle_same init h).by [] s (no_init s))

    module _ (first last : Trees) (init : Tree) (h : is_idle init ≡ true) (a : AllAvoid D last) where
      abbrev these : Trees → State → Completion (Unit {0})
      these ds z = means e (declaration K ds) (Stat None) [] z

      last_go : (s : State) → Go (these (declarator (binding x) init ▸ last) s) (these last s)
      last_go s = subst (λ c. Go c (these last s)) (sym (declarations_join e K (declarator (binding x) init ▸ none) last s)) (then_go (means e (declared_one K x init) (Stat None) [] s) s (these last) (idle_ends init h s) (λ z g. insensitive e D apart (declaration K last) (tt, ((tt, a), tt)) (Stat None) [] z s g))

      among_go : (s : State) → Go (these (append first (declarator (binding x) init ▸ last)) s) (these (append first last) s)
      among_go s = subst₂ Go (sym (declarations_join e K first (declarator (binding x) init ▸ last) s)) (sym (declarations_join e K first last s)) (both_go (these first s) (these (declarator (binding x) init ▸ last)) (these last) last_go)

      among_same : SameAlone (declared_among K x first init last) (declaration K (append first last))
      among_same = one_same (declared_among K x first init last) (declaration K (append first last)) among_go

    pub left_same : (first last : Trees) (init : Tree) → is_idle init ≡ true → AllAvoid D last → SameAlone (declared_among K x first init last) (declared_left K (append first last))
    left_same none none init h a = idle_same init h
    left_same none (t ▸ last) init h a = among_same none (t ▸ last) init h a
    left_same (t ▸ first) last init h a = among_same (t ▸ first) last init h a

  -- ---- the list, and the block

  module _ (before after d w : Trees) (avoids : AllAvoid D after) (same : Same e D nothing (Stat None) (listed d) (listed w)) where
    abbrev A : Trees
    A = append before (append d after)

    abbrev B : Trees
    B = append before (append w after)

    joined : (ts : Trees) → first.append before (first.append ts after) ≡ append before (append ts after)
    joined ts = same_append before (first.append ts after) ∙ ap (append before) (same_append ts after)

    pub list_same : (t : Option Tail) → Same e D nothing (Stat t) (listed A) (listed B)
    list_same t = subst₂ (λ first_list second_list. Same e D nothing (Stat t) (listed first_list) (listed second_list)) (joined d) (joined w) (stretch_anywhere e D z.shared before d w after t nothing nothing avoids (no_off (hidden_all before)) (no_within _) same)

  only_both : (xs ys : List Variable) → only e.shared (xs ++ ys) ≡ only e.shared xs ++ only e.shared ys
  only_both [] ys = refl
  only_both (y ∷ xs) ys = by (e.shared y) (only_both xs ys)
    where
      by : (b : Bool) → only e.shared (xs ++ ys) ≡ only e.shared xs ++ only e.shared ys → choose b (y ∷ only e.shared (xs ++ ys)) (only e.shared (xs ++ ys)) ≡ choose b (y ∷ only e.shared xs) (only e.shared xs) ++ only e.shared ys
      by true rest = ap (λ l. y ∷ l) rest
      by false rest = rest

  is_in_both : (y : Variable) (xs ys : List Variable) → is_in y (xs ++ ys) ≡ choose (is_in y xs) true (is_in y ys)
  is_in_both y [] ys = refl
  is_in_both y (v ∷ xs) ys = ap (choose (variable_eq v y) true) (is_in_both y xs ys) ∙ by (variable_eq v y) (is_in y xs) (is_in y ys)
    where
      by : (a b c : Bool) → choose a true (choose b true c) ≡ choose (choose a true b) true c
      by true b c = refl
      by false b c = refl

  -- of a list that declares it and one that doesn't
  one_less : (y : Variable) (xs ys : List Variable) → D y ≡ false → is_in y (xs ++ Declared k ∷ ys) ≡ is_in y (xs ++ ys)
  one_less y xs ys h = is_in_both y xs (Declared k ∷ ys) ∙ ap (λ c. choose (is_in y xs) true (choose c true (is_in y ys))) h ∙ sym (is_in_both y xs ys)

  one_less_shared : (xs ys : List Variable) → only e.shared (xs ++ Declared k ∷ ys) ≡ only e.shared (xs ++ ys)
  one_less_shared xs ys = only_both xs (Declared k ∷ ys) ∙ ap (λ c. only e.shared xs ++ choose c (Declared k ∷ only e.shared ys) (only e.shared ys)) unshared ∙ sym (only_both xs ys)

  lets_around : (before after ts : Trees) (xs ys : List Variable) → lets_all (summaries ts) ≡ xs ++ ys → lets_all (summaries (append before (append ts after))) ≡ (lets_all (summaries before) ++ xs) ++ (ys ++ lets_all (summaries after))
  lets_around before after ts xs ys f =
      let rest = lets_all (summaries after) in
      let first_lets = lets_all (summaries before) in
      lets_append before (append ts after) ∙ ap (λ l. first_lets ++ l) (lets_append ts after) ∙ ap (λ l. first_lets ++ (l ++ rest)) f ∙ ap (λ l. first_lets ++ l) (append_assoc xs ys rest) ∙ sym (append_assoc first_lets xs (ys ++ rest))

  module _ (before after d w : Trees) where
    abbrev around : Trees → List Variable
    around ts = lets_all (summaries (append before (append ts after)))

    lets_alike : OneLess k (lets_all (summaries d)) (lets_all (summaries w)) → (y : Variable) → D y ≡ false → is_in y (around d) ≡ is_in y (around w)
    lets_alike (inl (xs, ys, f, g)) y h =
        ap (is_in y) (lets_around before after d xs (Declared k ∷ ys) f) ∙ one_less y (lets_all (summaries before) ++ xs) (ys ++ lets_all (summaries after)) h ∙ sym (ap (is_in y) (lets_around before after w xs ys g))
    lets_alike (inr f) y h = ap (is_in y) (lets_around before after d [] (lets_all (summaries d)) refl ∙ ap (λ l. (lets_all (summaries before) ++ []) ++ (l ++ lets_all (summaries after))) f ∙ sym (lets_around before after w [] (lets_all (summaries w)) refl))

    shared_alike : OneLess k (lets_all (summaries d)) (lets_all (summaries w)) → only e.shared (around d) ≡ only e.shared (around w)
    shared_alike (inl (xs, ys, f, g)) =
        ap (only e.shared) (lets_around before after d xs (Declared k ∷ ys) f) ∙ one_less_shared (lets_all (summaries before) ++ xs) (ys ++ lets_all (summaries after)) ∙ sym (ap (only e.shared) (lets_around before after w xs ys g))
    shared_alike (inr f) = ap (only e.shared) (lets_around before after d [] (lets_all (summaries d)) refl ∙ ap (λ l. (lets_all (summaries before) ++ []) ++ (l ++ lets_all (summaries after))) f ∙ sym (lets_around before after w [] (lets_all (summaries w)) refl))

-- what is read of a declaration, and of what is written for it
pub record ReadAs (k : ℕ) (d w : Tree) : Type 0 where
  pub lets : OneLess k (summary d).lets (summary w).lets
  pub functions : (summary d).functions ≡ (summary w).functions
  pub facts : (summary d).facts.functions ≡ (summary w).facts.functions
  pub texts : (summary d).facts.texts ≡ (summary w).facts.texts

-- and of some neighbours
pub record ReadThere (k : ℕ) (d w : Trees) : Type 0 where
  pub lets : OneLess k (lets_all (summaries d)) (lets_all (summaries w))
  pub functions : functions_all (summaries d) ≡ functions_all (summaries w)
  pub facts : function_facts (facts_all (summaries d)) ≡ function_facts (facts_all (summaries w))
  pub texts : texts_all (facts_all (summaries d)) ≡ texts_all (facts_all (summaries w))

alone_less : (k : ℕ) (xs ys : List Variable) → OneLess k xs ys → OneLess k (xs ++ []) (ys ++ [])
alone_less k xs ys (inl (first, last, f, g)) = inl (first, last, append-nil xs ∙ f, append-nil ys ∙ g)
alone_less k xs ys (inr f) = inr (ap (λ l. l ++ []) f)

pub read_alone : (k : ℕ) (d w : Tree) → ReadAs k d w → ReadThere k (d ▸ none) (w ▸ none)
read_alone k d w r = record {
  lets = alone_less k (summary d).lets (summary w).lets r.lets;
  functions = ap (λ l. l ++ []) r.functions;
  facts = ap (λ l. l ++ []) r.facts;
  texts = ap (λ l. l ++ []) r.texts;
}

module _ (e : Environment) (spelling : List ℕ) (k : ℕ) (z : Unseen (alone (Declared k)) e) (before after d w : Trees) (r : ReadThere k d w) where
  functions_around : (ts : Trees) → functions_all (summaries (append before (append ts after))) ≡ functions_all (summaries before) ++ (functions_all (summaries ts) ++ functions_all (summaries after))
  functions_around ts = functions_append before (append ts after) ∙ ap (λ l. functions_all (summaries before) ++ l) (functions_append ts after)

  facts_around : (ts : Trees) → function_facts (facts_all (summaries (append before (append ts after)))) ≡ function_facts (facts_all (summaries before)) ++ (function_facts (facts_all (summaries ts)) ++ function_facts (facts_all (summaries after)))
  facts_around ts = facts_append before (append ts after) ∙ ap (λ l. function_facts (facts_all (summaries before)) ++ l) (facts_append ts after)

  texts_around : (ts : Trees) → texts_all (facts_all (summaries (append before (append ts after)))) ≡ texts_all (facts_all (summaries before)) ++ (texts_all (facts_all (summaries ts)) ++ texts_all (facts_all (summaries after)))
  texts_around ts = texts_append before (append ts after) ∙ ap (λ l. texts_all (facts_all (summaries before)) ++ l) (texts_append ts after)

  pub list_read : ReadAlike (alone (Declared k)) e (summary (listed (append before (append d after)))) (summary (listed (append before (append w after))))
  list_read = record {
    facts = λ j. record {
      absent = false;
      shortens = false;
      declared = None;
      functions = (facts_around d ∙ ap (λ l. function_facts (facts_all (summaries before)) ++ (l ++ function_facts (facts_all (summaries after)))) r.facts ∙ sym (facts_around w)) j;
      texts = (texts_around d ∙ ap (λ l. texts_all (facts_all (summaries before)) ++ (l ++ texts_all (facts_all (summaries after)))) r.texts ∙ sym (texts_around w)) j;
    };
    lets = lets_alike e spelling k z before after d w r.lets;
    shared_lets = shared_alike e spelling k z before after d w r.lets;
    name = refl;
    functions = functions_around d ∙ ap (λ l. functions_all (summaries before) ++ (l ++ functions_all (summaries after))) r.functions ∙ sym (functions_around w);
  }

  pub block_same : AllAvoid (alone (Declared k)) before → AllAvoid (alone (Declared k)) w → AllAvoid (alone (Declared k)) after → Same e (alone (Declared k)) nothing (Stat None) (listed d) (listed w)
      → (t : Option Tail) → Same e (alone (Declared k)) nothing (Stat t) (block (append before (append d after))) (block (append before (append w after)))
  block_same ab aw aa one t =
      let D = alone (Declared k) in
      let same = list_same e spelling k z before after d w aa one t in
      congruent_same e D z.shared (inside shape.BlockStatement [] 0 none here none) (listed (append before (append d after))) (listed (append before (append w after))) (tt, tt, tt, tt) (tt, all_join D before (append w after) ab (all_join D w after aw aa)) list_read nothing (Stat t) (no_off _)
      (weaker e D D nothing _ (within_refl D) (no_within _) (Stat t) (listed (append before (append d after))) (listed (append before (append w after))) same)

  -- and so does the body of a function
  pub statements_same : AllAvoid (alone (Declared k)) before → AllAvoid (alone (Declared k)) w → AllAvoid (alone (Declared k)) after → Same e (alone (Declared k)) nothing (Stat None) (listed d) (listed w)
      → Same e (alone (Declared k)) nothing (Stat None) (statements (append before (append d after))) (statements (append before (append w after)))
  statements_same ab aw aa one =
      let D = alone (Declared k) in
      let same = list_same e spelling k z before after d w aa one (Some FunctionTail) in
      congruent_same e D z.shared (inside shape.FunctionBody [] 0 none here none) (listed (append before (append d after))) (listed (append before (append w after))) (tt, tt, tt, tt) (tt, all_join D before (append w after) ab (all_join D w after aw aa)) list_read nothing (Stat None) (no_off _)
      (weaker e D D nothing _ (within_refl D) (no_within _) (Stat (Some FunctionTail)) (listed (append before (append d after))) (listed (append before (append w after))) same)

  -- and so does a module, whatever is asked of it
  pub module_same : AllAvoid (alone (Declared k)) before → AllAvoid (alone (Declared k)) w → AllAvoid (alone (Declared k)) after → Same e (alone (Declared k)) nothing (Stat None) (listed d) (listed w)
      → (directives : List (List ℕ)) (q : Demand) → Same e (alone (Declared k)) nothing q (program true directives (append before (append d after))) (program true directives (append before (append w after)))
  module_same ab aw aa one directives q =
      let D = alone (Declared k) in
      let same = list_same e spelling k z before after d w aa one None in
      congruent_same e D z.shared (inside (shape.Program true directives) [] 0 none here none) (listed (append before (append d after))) (listed (append before (append w after))) (tt, tt, tt, tt) (tt, all_join D before (append w after) ab (all_join D w after aw aa)) list_read nothing q (no_off _)
      (weaker e D D nothing _ (within_refl D) (no_within _) (Stat None) (listed (append before (append d after))) (listed (append before (append w after))) same)

  -- and so does a static block
  pub static_same : AllAvoid (alone (Declared k)) before → AllAvoid (alone (Declared k)) w → AllAvoid (alone (Declared k)) after → Same e (alone (Declared k)) nothing (Stat None) (listed d) (listed w)
      → (n : ℕ) (q : Demand) → Same e (alone (Declared k)) nothing q (static_block n (append before (append d after))) (static_block n (append before (append w after)))
  static_same ab aw aa one n q =
      let D = alone (Declared k) in
      let same = list_same e spelling k z before after d w aa one None in
      congruent_same e D z.shared (inside shape.StaticBlock [] n none here none) (listed (append before (append d after))) (listed (append before (append w after))) (tt, tt, tt, tt) (tt, all_join D before (append w after) ab (all_join D w after aw aa)) list_read nothing q (no_off _)
      (weaker e D D nothing _ (within_refl D) (no_within _) (Stat None) (listed (append before (append d after))) (listed (append before (append w after))) same)

  -- and so does a switch with such a case
  pub switch_same : AllAvoid (alone (Declared k)) before → AllAvoid (alone (Declared k)) w → AllAvoid (alone (Declared k)) after → Same e (alone (Declared k)) nothing (Stat None) (listed d) (listed w)
      → (discriminant : Tree) → Avoids (alone (Declared k)) discriminant → (first : Trees) → AllAvoid (alone (Declared k)) first → (test : Tree) → Avoids (alone (Declared k)) test → (last : Trees) → AllAvoid (alone (Declared k)) last
      → (t : Option Tail) → Same e (alone (Declared k)) nothing (Stat t) (switch discriminant (listed (append first (switch_case test (append before (append d after)) ▸ last)))) (switch discriminant (listed (append first (switch_case test (append before (append w after)) ▸ last))))
  switch_same ab aw aa one discriminant asked first earlier test tested last later t =
      let D = alone (Declared k) in
      let same = list_same e spelling k z before after d w aa one None in
      let there = inside shape.SwitchStatement [] 0 (discriminant ▸ none) (inside shape.Listed [] 0 first (inside shape.SwitchCase [] 0 (test ▸ none) here none) last) none in
      subst₂ (λ a b. Same e D nothing (Stat t) (switch discriminant (listed a)) (switch discriminant (listed b))) (join_is first (switch_case test (append before (append d after))) last) (join_is first (switch_case test (append before (append w after))) last)
      (congruent_same e D z.shared there (listed (append before (append d after))) (listed (append before (append w after))) (tt, (asked, tt), (tt, earlier, (tt, (tested, tt), tt, tt), later), tt) (tt, all_join D before (append w after) ab (all_join D w after aw aa)) list_read nothing (Stat t) (no_off _)
      (weaker e D D nothing _ (within_refl D) (no_within _) (Stat None) (listed (append before (append d after))) (listed (append before (append w after))) same))

-- ---- the rows

pub declared_lets : (K : VariableDeclarationKind) (k : ℕ) (ds : Trees) (first last ys : List Variable) → lets_all (summaries ds) ≡ first ++ Declared k ∷ last → ys ≡ choose (is_lexical K) (first ++ last) [] → OneLess k (summary (declaration K ds)).lets ys
declared_lets Let k ds first last ys f g = inl (first, last, f, g)
declared_lets Const k ds first last ys f g = inl (first, last, f, g)
declared_lets Var k ds first last ys f g = inr (sym g)

-- ---- the head of a `for`

module _ (e : Environment) (spelling : List ℕ) (k : ℕ) (z : Unseen (alone (Declared k)) e) (K : VariableDeclarationKind) (permit : is_lexical K ≡ false → e.fixed (Declared k) ≡ Writes) (first last : Trees) (init : Tree) (h : is_idle init ≡ true) where
  abbrev with_it : Tree
  with_it = declared_among K (resolved spelling k) first init last

  abbrev without_it : Tree
  without_it = declaration K (append first last)

  -- labels before a declaration do nothing
  unlabeled : (ds : Trees) (r : LabelSet) (s : State) → means e (declaration K ds) (Stat None) [] s ≡ means e (declaration K ds) (Stat None) r s
  unlabeled ds r s = declaration_is e K ds [] s ∙ sym (declaration_is e K ds r s)

  head_same : AllAvoid (alone (Declared k)) last → Same e (alone (Declared k)) nothing (Stat None) with_it without_it
  head_same a = record {
    by = λ r s i. subst₂ (Goes true (λ u. Agree (alone (Declared k))) (Agree (alone (Declared k))) (Agree (alone (Declared k)))) (unlabeled (append first (declarator (binding (resolved spelling k)) init ▸ last)) r s) (unlabeled (append first last) r s)
        (among_go e spelling k z K permit first last init h a s);
  }

  head_lets : OneLess k (summary with_it).lets (summary without_it).lets
  head_lets = declared_lets K k (append first (declarator (binding (resolved spelling k)) init ▸ last)) (lets_all (summaries first)) (lets_all (summaries last)) (summary without_it).lets (lets_append first (declarator (binding (resolved spelling k)) init ▸ last)) (ap (λ l. choose (is_lexical K) l []) (lets_append first last))

  alone_lets : OneLess k (lets_all (summaries (with_it ▸ none))) (lets_all (summaries (without_it ▸ none)))
  alone_lets = alone_less k (summary with_it).lets (summary without_it).lets head_lets

  head_read : ReadAlike (alone (Declared k)) e (summary with_it) (summary without_it)
  head_read = record {
    facts = refl;
    lets = λ y f. ap (is_in y) (sym (append-nil (summary with_it).lets)) ∙ lets_alike e spelling k z none none (with_it ▸ none) (without_it ▸ none) alone_lets y f ∙ ap (is_in y) (append-nil (summary without_it).lets);
    shared_lets = ap (only e.shared) (sym (append-nil (summary with_it).lets)) ∙ shared_alike e spelling k z none none (with_it ▸ none) (without_it ▸ none) alone_lets ∙ ap (only e.shared) (append-nil (summary without_it).lets);
    name = refl;
    functions = refl;
  }

  -- and so does a `for` with such a head
  pub for_same : AllAvoid (alone (Declared k)) first → AllAvoid (alone (Declared k)) last → (rest : Trees) → AllAvoid (alone (Declared k)) rest → (t : Option Tail) → Same e (alone (Declared k)) nothing (Stat t) (node shape.ForStatement [] 0 (with_it ▸ rest)) (node shape.ForStatement [] 0 (without_it ▸ rest))
  for_same f l rest r t =
      let D = alone (Declared k) in
      congruent_same e D z.shared (inside shape.ForStatement [] 0 none here rest) with_it without_it (tt, tt, tt, r) (tt, ((tt, all_join D first last f l), tt)) head_read nothing (Stat t) (no_off _) (weaker e D D nothing _ (within_refl D) (no_within _) (Stat None) with_it without_it (head_same l))

abbrev no_variables : List Variable
no_variables = []

no_lets : (l : Bool) → no_variables ≡ choose l no_variables no_variables
no_lets true = refl
no_lets false = refl

pub one_read : (K : VariableDeclarationKind) (spelling : List ℕ) (k : ℕ) (init w : Tree) → summary w ≡ summary empty_statement → ReadAs k (declared_one K (resolved spelling k) init) w
one_read K spelling k init w h = record {
  lets = declared_lets K k (declarator (binding (resolved spelling k)) init ▸ none) [] [] (summary w).lets refl (ap (λ i. i.lets) h ∙ no_lets (is_lexical K));
  functions = sym (ap (λ i. i.functions) h);
  facts = sym (ap (λ i. i.facts.functions) h);
  texts = sym (ap (λ i. i.facts.texts) h);
}

among_read : (K : VariableDeclarationKind) (spelling : List ℕ) (k : ℕ) (first last : Trees) (init : Tree) → ReadAs k (declared_among K (resolved spelling k) first init last) (declaration K (append first last))
among_read K spelling k first last init = record {
  lets = declared_lets K k (append first (declarator (binding (resolved spelling k)) init ▸ last)) (lets_all (summaries first)) (lets_all (summaries last)) (summary (declaration K (append first last))).lets (lets_append first (declarator (binding (resolved spelling k)) init ▸ last)) (ap (λ l. choose (is_lexical K) l []) (lets_append first last));
  functions = refl;
  facts = refl;
  texts = refl;
}

pub idle_read : (K : VariableDeclarationKind) (spelling : List ℕ) (k : ℕ) (first last : Trees) (init : Tree) → ReadAs k (declared_among K (resolved spelling k) first init last) (declared_left K (append first last))
idle_read K spelling k none none init = one_read K spelling k init empty_statement refl
idle_read K spelling k none (t ▸ last) init = among_read K spelling k none (t ▸ last) init
idle_read K spelling k (t ▸ first) last init = among_read K spelling k (t ▸ first) last init

pub left_avoids : (D : VariableSet) (K : VariableDeclarationKind) (first last : Trees) → AllAvoid D first → AllAvoid D last → Avoids D (declared_left K (append first last))
left_avoids D K none none a b = (tt, tt)
left_avoids D K none (t ▸ last) a b = (tt, ((tt, b), tt))
left_avoids D K (t ▸ first) last a b = (tt, ((tt, all_join D (t ▸ first) last a b), tt))

-- where no `var` goes
pub lexical_alone : (K : VariableDeclarationKind) → (is_lexical K || false) ≡ true → is_lexical K ≡ true
lexical_alone Var h = absurd (true≢false (sym h))
lexical_alone K h = refl

-- a `var` that goes writes
pub may_write : (W : VariableSet) (K : VariableDeclarationKind) (e : Environment) (k : ℕ) → lets_go W K k ≡ true → Permits W (alone (Declared k)) e → is_lexical K ≡ false → e.fixed (Declared k) ≡ Writes
may_write W K e k h u f = u.writable (Declared k) (sym (ap (λ b. b || W (Declared k)) f) ∙ h)

-- a lexical name is not written
pub never_written : (K : VariableDeclarationKind) (e : Environment) (k : ℕ) → is_lexical K ≡ true → is_lexical K ≡ false → e.fixed (Declared k) ≡ Writes
never_written K e k l f = absurd (true≢false (sym l ∙ f))

-- the block means the same in each tail
pub row_72 : {o : Switches} (e : Environment) (k : ℕ) → Unseen (alone (Declared k)) e → (n w : Tree) (r : Row72 (without_vars o) n w) → k ≡ r.symbol → (t : Option Tail) → Same e (alone (Declared k)) nothing (Stat t) n w
row_72 e k z n w r h t =
    let x = resolved r.spelling r.symbol in
    let u : Unseen (alone (Declared r.symbol)) e = subst (λ j. Unseen (alone (Declared j)) e) h z in
    let D = alone (Declared r.symbol) in
    let same = block_same e r.spelling r.symbol u r.before r.after (declared_one r.kind x r.init ▸ none) (expression_statement r.init ▸ none) (read_alone r.symbol (declared_one r.kind x r.init) (expression_statement r.init) (one_read r.kind r.spelling r.symbol r.init (expression_statement r.init) refl)) (all_avoided x r.symbol refl r.before r.unused.earlier) ((tt, (avoided x r.symbol refl r.init r.unused.initial, tt)), tt) (all_avoided x r.symbol refl r.after r.unused.later) (value_same e r.spelling r.symbol u r.kind (never_written r.kind e r.symbol (lexical_alone r.kind r.goes)) r.init r.present) t in
    subst (λ j. Same e (alone (Declared j)) nothing (Stat t) n w) (sym h) (subst₂ (Same e D nothing (Stat t)) (sym r.shape) (sym r.written) same)

pub row_72_idle : {o : Switches} (e : Environment) (k : ℕ) → Unseen (alone (Declared k)) e → (n w : Tree) (r : Row72Idle (without_vars o) n w) → k ≡ r.symbol → (t : Option Tail) → Same e (alone (Declared k)) nothing (Stat t) n w
row_72_idle e k z n w r h t =
    let x = resolved r.spelling r.symbol in
    let u : Unseen (alone (Declared r.symbol)) e = subst (λ j. Unseen (alone (Declared j)) e) h z in
    let D = alone (Declared r.symbol) in
    let beside = all_avoided x r.symbol refl r.last r.unused.declared_later in
    let same = block_same e r.spelling r.symbol u r.before r.after (declared_among r.kind x r.first r.init r.last ▸ none) (declared_left r.kind (append r.first r.last) ▸ none) (read_alone r.symbol (declared_among r.kind x r.first r.init r.last) (declared_left r.kind (append r.first r.last)) (idle_read r.kind r.spelling r.symbol r.first r.last r.init)) (all_avoided x r.symbol refl r.before r.unused.earlier) (left_avoids D r.kind r.first r.last (all_avoided x r.symbol refl r.first r.unused.declared_earlier) beside, tt) (all_avoided x r.symbol refl r.after r.unused.later) (left_same e r.spelling r.symbol u r.kind (never_written r.kind e r.symbol (lexical_alone r.kind r.goes)) r.first r.last r.init r.idle beside) t in
    subst (λ j. Same e (alone (Declared j)) nothing (Stat t) n w) (sym h) (subst₂ (Same e D nothing (Stat t)) (sym r.shape) (sym r.written) same)

-- ---- a name that is read once

-- an initializer that may move, and what is read of it
pub movable : (o : Switches) (init : Tree) → may_move o init ≡ true → is_plain_part init ≡ true
movable o init h = (and_parts (is_plain_part init) (not (takes_name o (shape_of init) (part init 0))) h).0

left_read : (K : VariableDeclarationKind) (first : Trees) → (summary (declared_left K first)).lets ≡ choose (is_lexical K) (lets_all (summaries first)) []
left_read K none = no_lets (is_lexical K)
left_read K (t ▸ first) = refl

left_plain : (K : VariableDeclarationKind) (first : Trees) → ((summary (declared_left K first)).functions ≡ []) × ((summary (declared_left K first)).facts.functions ≡ []) × ((summary (declared_left K first)).facts.texts ≡ [])
left_plain K none = (refl, refl, refl)
left_plain K (t ▸ first) = (refl, refl, refl)

-- of two statements the same is read
pub record SameRead (t u : Tree) : Type 0 where
  pub lets : (summary t).lets ≡ (summary u).lets
  pub functions : (summary t).functions ≡ (summary u).functions
  pub facts : (summary t).facts.functions ≡ (summary u).facts.functions
  pub texts : (summary t).facts.texts ≡ (summary u).facts.texts

less_beside : (k : ℕ) (xs ys zs ws : List Variable) → OneLess k xs ys → zs ≡ ws → OneLess k (xs ++ (zs ++ [])) (ys ++ (ws ++ []))
less_beside k xs ys zs ws (inl (first, last, f, g)) a = inl (first, last ++ (ws ++ []), (λ i. f i ++ (a i ++ [])) ∙ append_assoc first (Declared k ∷ last) (ws ++ []), ap (λ l. l ++ (ws ++ [])) g ∙ append_assoc first last (ws ++ []))
less_beside k xs ys zs ws (inr f) a = inr (λ i. f i ++ (a i ++ []))

pub single_read : (spelling : List ℕ) (k : ℕ) (K : VariableDeclarationKind) (first : Trees) (init head w : Tree) → SameRead head w → ReadThere k (declared_among K (resolved spelling k) first init none ▸ (head ▸ none)) (declared_left K first ▸ (w ▸ none))
single_read spelling k K first init head w r =
    let x = resolved spelling k in
    let d = declared_among K x first init none in
    let left = declared_left K first in
    let nothing_left = left_plain K first in
    record {
      lets = less_beside k (summary d).lets (summary left).lets (summary head).lets (summary w).lets (declared_lets K k (append first (declarator (binding x) init ▸ none)) (lets_all (summaries first)) [] (summary left).lets (lets_append first (declarator (binding x) init ▸ none)) (left_read K first ∙ ap (λ l. choose (is_lexical K) l []) (sym (append-nil (lets_all (summaries first)))))) r.lets;
      functions = ap (λ l. l ++ []) r.functions ∙ sym (ap (λ l. l ++ ((summary w).functions ++ [])) nothing_left.0);
      facts = ap (λ l. l ++ []) r.facts ∙ sym (ap (λ l. l ++ ((summary w).facts.functions ++ [])) nothing_left.1);
      texts = ap (λ l. l ++ []) r.texts ∙ sym (ap (λ l. l ++ ((summary w).facts.texts ++ [])) nothing_left.2);
    }

-- the name that is read has the symbol
pub same_symbol : (k : ℕ) (y : Option SymbolId) → is_same (Some (record { 0 = k })) y ≡ true → y ≡ Some (record { 0 = k })
same_symbol k (Some y) e = ap (λ m. Some (record { 0 = m })) (sym (eqb-true k y.0 e))
same_symbol k None e = absurd (true≢false (sym e))

pub first_avoids : (D : VariableSet) (K : VariableDeclarationKind) (first : Trees) → AllAvoid D first → Avoids D (declared_left K first)
first_avoids D K none a = (tt, tt)
first_avoids D K (t ▸ first) a = (tt, ((tt, a), tt))

-- what holds the variable's value, where its declaration has been run, and what has the initializer in its place
abbrev pub GoesWith : Environment → ℕ → Tree → Tree → Tree → State → Type 0
GoesWith e k init head put s = Goes true (λ u. Agree (alone (Declared k))) (Agree (alone (Declared k))) (Agree (alone (Declared k))) (either (means e init (As Val) tt s) (λ v t. means e head (Stat None) [] (with_vars t (set_var t.vars (Declared k) (Holds v)))) (λ y t. stop y t)) (means e put (Stat None) [] s)

module _ (e : Environment) (spelling : List ℕ) (k : ℕ) (z : Unseen (alone (Declared k)) e) (first : Trees) (init head put : Tree) (present : (summary init).facts.absent ≡ false) (K : VariableDeclarationKind) (permit : is_lexical K ≡ false → e.fixed (Declared k) ≡ Writes) (goes_with : (s : State) → GoesWith e k init head put s) where
  abbrev single_name : Name
  single_name = resolved spelling k

  abbrev single_set : VariableSet
  single_set = alone (Declared k)

  -- the declaration and the statement, run
  abbrev Run : Completion (Unit {0}) → Completion (Unit {0}) → Type 0
  Run a b = Goes true (λ u. Agree single_set) (Agree single_set) (Agree single_set) a b

  -- what stands before the declarator, and the declarator alone

  abbrev others : Trees → State → Completion (Unit {0})
  others ds s = means e (declared_left K ds) (Stat None) [] s

  both_parts : (first : Trees) (s : State) → means e (declared_among K single_name first init none) (Stat None) [] s ≡ either (others first s) (λ u t. means e (declared_one K single_name init) (Stat None) [] t) (λ y t. stop y t)
  unfolding either
  both_parts none s = sym (ap (λ c. either c (λ u t. means e (declared_one K single_name init) (Stat None) [] t) (λ y t. stop y t)) (empty_is e [] s))
  both_parts (t ▸ first) s = declarations_join e K (t ▸ first) (declarator (binding single_name) init ▸ none) s

  abbrev head_then : Completion (Unit {0}) → Completion (Unit {0})
  head_then c = either c (λ u t. means e head (Stat None) [] t) (λ y t. stop y t)

  single_goes : (s : State) → Run (head_then (means e (declared_among K single_name first init none) (Stat None) [] s)) (either (others first s) (λ u t. means e put (Stat None) [] t) (λ y t. stop y t))
  single_goes s =
      subst (λ c. Run c (either (others first s) (λ u t. means e put (Stat None) [] t) (λ y t. stop y t)))
      (sym (ap head_then (both_parts first s) ∙ either_assoc (others first s) _ _ _ _ ∙ either_cong (others first s) _ _ _ _ (λ u t. refl) (λ y t. either_stop y t _ _)))
      (both_go e spelling k z (others first s) (λ t. head_then (means e (declared_one K single_name init) (Stat None) [] t)) (λ t. means e put (Stat None) [] t)
      (λ t. declared_then e spelling k z K permit init present (λ t. means e head (Stat None) [] t) t (means e put (Stat None) [] t) (goes_with t)))

  pub single_same : Same e single_set nothing (Stat None) (listed (declared_among K single_name first init none ▸ (head ▸ none))) (listed (declared_left K first ▸ (put ▸ none)))
  single_same = record {
    by = λ r s i. subst₂ Run (sym (listed_is e (declared_among K single_name first init none ▸ (head ▸ none)) r s ∙ exec_two e (declared_among K single_name first init none) head s)) (sym (listed_is e (declared_left K first ▸ (put ▸ none)) r s ∙ exec_two e (declared_left K first) put s)) (single_goes s);
  }
