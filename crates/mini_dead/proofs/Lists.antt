-- Items that go from lists: the first run does them alone.
use Rattle.std.proofs.Common.{◌≡◌, ℕ, zero, suc, Bool, true, false, List, [], ◌∷◌, length, Some, None, refl, sym, ◌∙◌, subst}
use Rattle.mini_model.specs.declared.name.Name.{Name}
use Rattle.mini_model.specs.declared.shape.Shape.TheVariants as shape
use Rattle.mini_model.specs.Tree.{Tree, Trees, node, none, ◌▸◌}
use Rattle.mini_laws.specs.Value.{Variable, Declared, Global, VariableSet, Value, Undefined, Slot, Holds, Missing, Uninitialised, variable_of, variables, choose, nth}
use Rattle.mini_laws.specs.State.{Create, FreshOf, Event, State, Completion, ok, stop, halt, out, either, Environment, Writing, Writes, WritesPresent, Refuses, Keeps}
use Rattle.mini_laws.specs.Demand.{Want, Val, Unused, Demand, As, Stat, Declares, Binds, Request}
use Rattle.mini_laws.specs.Command.{Naming, ret, kid, then, Kids, act, run, at_variable, start, fresh_note, note, answered, write_slot, write_name}
use Rattle.mini_laws.specs.Naming.{summary, summaries, facts, naming, is_lexical}
use Rattle.mini_laws.specs.Replies.{by_fixity}
use Rattle.mini_laws.specs.Lists.{declarators}
use Rattle.mini_laws.specs.Declarations.{declarator_step}
use Rattle.mini_laws.specs.Asking.{first_demand, demand}
use Rattle.mini_laws.specs.Step.{step, means, meaning}
use Rattle.mini_laws.specs.Congruence.{Apart}
use Rattle.mini_laws.proofs.Runs.{either_cong, run_shift}
use Rattle.mini_laws.proofs.Stretching.{no_names}
use Rattle.mini_terms.specs.Sound.{Quiet}
use Rattle.mini_dead.specs.Creations.{FunctionSet}
use Rattle.mini_dead.specs.Pruned.{Lone, a_function, an_arrow, lone_tree, lone_number, Initializer, without_effect, of_function, initializer_tree, own_name, Declarator, declarator, declarator_tree, declarator_trees, Item, function_item, declaration_item, lone_item, item_tree, InitializerGoes, TakesValue, DeclaratorGoes, DeclaratorsGo, ItemGoes}
use Rattle.mini_dead.proofs.Lean as l
use Rattle.mini_dead.proofs.Lean.{Ahead, Reaches, Follows, Silent, Silently, Grows}

module _ (d : FunctionSet) (D : VariableSet) (E : List Event) (e : Environment) (apart : Apart e D) where
  abbrev Lean : State → State → Type 0
  Lean s t = l.Lean d D E s t

  abbrev R : {A : Type 0} → Completion A → Type 0
  R x = Reaches d D E x

  abbrev F : {A : Type 0} → Completion A → Completion A → Type 0
  F x y = Follows d D E x y

  abbrev Alone : {A : Type 0} → Completion A → State → Type 0
  Alone x t = Silently d D E e apart x t

  abbrev Coming : State → Type 0
  Coming s = Ahead d D E s.events

  abbrev reaches : (n : Tree) (q : Demand) (r : Request q) (s : State) → R (means e n q r s) → Coming s
  reaches n q r s p = l.means_reaches d D E e apart n q r s p

  pub ok_alone : {A : Type 0} (a : A) (s t : State) → Lean s t → Alone (ok a s) t
  unfolding Silently Silent Reaches
  ok_alone a s t h r = h

  out_alone : {A : Type 0} (x : Completion A) (t : State) → x ≡ out → Alone x t
  unfolding Silently Silent Reaches
  out_alone out t p r = tt
  out_alone (ok a s) t p r = cc
  out_alone (stop a s) t p r = cc
  out_alone (halt a s) t p r = cc

  -- a name that is dead takes a value
  pub start_alone : (b : Bool) (x : Variable) (v : Value) (s t : State) → D x ≡ true → Lean s t → Lean (start e b x v s) t
  start_alone true x v s t p h = l.dead_lean d D E x (Holds v) (fresh_note e x s) t p (subst (λ b. Lean (choose b (note e FreshOf None [] (Some x) s) s) t) (sym (apart x p)) h)
  start_alone false x v s t p h = l.dead_lean d D E x (Holds v) s t p h

  write_alone : (x : Variable) (v : Value) (w : Slot) (s t : State) → D x ≡ true → Lean s t → Alone (write_slot x v w s) t
  unfolding write_slot
  write_alone x v (Holds w) s t p h = ok_alone tt _ t (l.dead_lean d D E x (Holds v) s t p h)
  write_alone x v Missing s t p h = out_alone out t refl
  write_alone x v Uninitialised s t p h = out_alone out t refl

  write_name_alone : (x : Variable) (v : Value) (w : Slot) (s t : State) → D x ≡ true → Lean s t → Alone (write_name x v w s) t
  write_name_alone (Declared n) v w s t p h = write_alone (Declared n) v w s t p h
  write_name_alone (Global y) v (Holds w) s t p h = ok_alone tt _ t (l.dead_lean d D E (Global y) (Holds v) s t p h)
  write_name_alone (Global y) v Missing s t p h = ok_alone tt _ t (l.dead_lean d D E (Global y) (Holds v) s t p h)
  write_name_alone (Global y) v Uninitialised s t p h = out_alone out t refl

  at_some : (x : Variable) (v : Value) (s t : State) → D x ≡ true → Lean s t → Alone (at_variable (Some x) (λ x. write_name x v (s.vars x) s)) t
  unfolding at_variable
  at_some x v s t p h = write_name_alone x v (s.vars x) s t p h

  fixed_alone : (names : Naming) (q : ℕ → Demand) (K : Kids q) (x : Variable) (v : Value) (w : Writing) → nth names.written 0 ≡ Some x → w ≡ Writes → (s t : State) → D x ≡ true → Lean s t → Alone (run {q = q} e names K (by_fixity v w) s) t
  unfolding act Reaches
  fixed_alone names q K x v Writes u k s t p h =
      l.silently_either d D E e apart (at_variable (nth names.written 0) (λ x. write_name x v (s.vars x) s)) t _ _ (subst (λ o. Alone (at_variable o (λ x. write_name x v (s.vars x) s)) t) (sym u) (at_some x v s t p h)) (λ b s r. r) (λ b s r. r) (λ b s h. ok_alone tt s t h)
  fixed_alone names q K x v WritesPresent u k s t p h = cc
  fixed_alone names q K x v Refuses u k s t p h = cc
  fixed_alone names q K x v Keeps u k s t p h = ok_alone tt s t h

  name_alone : (lexical : Bool) (x : Name) (n : ℕ) → D (variable_of x) ≡ true → TakesValue d D e lexical (variable_of x) → (v : Value) (s t : State) → Lean s t → Alone (means e (own_name x n) (Binds lexical) v s) t
  unfolding means step act at_variable either
  name_alone true x n p k v s t h = ok_alone tt _ t (start_alone true (variable_of x) v s t p h)
  name_alone false x n p k v s t h = fixed_alone (naming shape.BindingIdentifier (Binds false) (variable_of x ∷ []) n []) (demand shape.BindingIdentifier [] (Binds false)) (λ i r z. meaning e none i (demand shape.BindingIdentifier [] (Binds false) i) r z) (variable_of x) v (e.fixed (variable_of x)) refl k s t p h

  value_alone : (w : Want) (f : Lone) → d (lone_number f) ≡ true → (s t : State) → Lean s t → Alone (means e (lone_tree f) (As w) tt s) t
  unfolding means step act Reaches
  value_alone w (a_function g ds xs n ts) k s t h =
      l.silently_either d D E e apart (answered e Create s.answers (note e Create (Some n) [] None s)) t _ _ (l.creation_silent d D E e apart n k s.answers s t refl h) (λ b s r. r) (λ b s r. r) (λ b s h. ok_alone _ s t h)
  value_alone w (an_arrow ds xs n ts) k s t h =
      l.silently_either d D E e apart (answered e Create s.answers (note e Create (Some n) [] None s)) t _ _ (l.creation_silent d D E e apart n k s.answers s t refl h) (λ b s r. r) (λ b s r. r) (λ b s h. ok_alone _ s t h)

  still_alone : {A : Type 0} (x : Completion A) (s t : State) → Quiet s x → Lean s t → Alone x t
  unfolding Quiet Silently Silent Reaches
  still_alone (ok a z) s t p h r = subst (λ z. Lean z t) (sym p) h
  still_alone (stop a z) s t p h r = absurd p
  still_alone (halt a z) s t p h r = absurd p
  still_alone out s t p h r = tt

  initializer_alone : (i : Initializer) → InitializerGoes d D e i → (s t : State) → Lean s t → Alone (means e (initializer_tree i) (As Val) tt s) t
  initializer_alone (without_effect n) k s t h = still_alone (means e n (As Val) tt s) s t (k s) h
  initializer_alone (of_function f) k s t h = value_alone Val f k s t h

  -- what a declarator does without a name of its own
  gives_alone : (lexical : Bool) (names : Naming) (x : Name) (m : ℕ) (init : Initializer) → D (variable_of x) ≡ true → TakesValue d D e lexical (variable_of x) → InitializerGoes d D e init → (s t : State) → Lean s t → Alone (run {q = first_demand (Binds lexical) (As Val)} e names (λ i r z. meaning e (own_name x m ▸ initializer_tree init ▸ none) i (first_demand (Binds lexical) (As Val) i) r z) (kid 1 tt (then (λ v. kid 0 v (then ret)))) s) t
  unfolding meaning Reaches
  gives_alone lexical names x m init p k g s t h =
      l.silently_either d D E e apart (means e (initializer_tree init) (As Val) tt s) t _ _ (initializer_alone init g s t h) (λ v s r. reaches (own_name x m) (Binds lexical) v s (l.reaches_either d D E (means e (own_name x m) (Binds lexical) v s) _ _ (λ b s r. r) (λ b s r. r) r)) (λ b s r. r)
      (λ v s h. l.silently_either d D E e apart (means e (own_name x m) (Binds lexical) v s) t _ _ (name_alone lexical x m p k v s t h) (λ b s r. r) (λ b s r. r) (λ b s h. ok_alone tt s t h))

  declares_alone : (lexical has_no_init : Bool) (names : Naming) (x : Name) (m : ℕ) (init : Initializer) → D (variable_of x) ≡ true → TakesValue d D e lexical (variable_of x) → InitializerGoes d D e init → (s t : State) → Lean s t → Alone (run {q = first_demand (Binds lexical) (As Val)} e names (λ i r z. meaning e (own_name x m ▸ initializer_tree init ▸ none) i (first_demand (Binds lexical) (As Val) i) r z) (declarator_step false has_no_init (Declares lexical) tt) s) t
  unfolding meaning Reaches
  declares_alone true true names x m init p k g s t h = l.silently_either d D E e apart (means e (own_name x m) (Binds true) Undefined s) t _ _ (name_alone true x m p k Undefined s t h) (λ b s r. r) (λ b s r. r) (λ b s h. ok_alone tt s t h)
  declares_alone false true names x m init p k g s t h = ok_alone tt s t h
  declares_alone true false names x m init p k g s t h = gives_alone true names x m init p k g s t h
  declares_alone false false names x m init p k g s t h = gives_alone false names x m init p k g s t h

  pub declarator_alone : (lexical : Bool) (c : Declarator) → DeclaratorGoes d D e lexical c → (s t : State) → Lean s t → Alone (means e (declarator_tree c) (Declares lexical) tt s) t
  unfolding means step
  declarator_alone true (declarator n x m init) k s t h =
      declares_alone true (summary (initializer_tree init)).facts.absent (naming shape.VariableDeclarator (Declares true) [] n (summaries (own_name x m ▸ initializer_tree init ▸ none))) x m init k.0 k.1 k.2 s t h
  declarator_alone false (declarator n x m init) k s t h =
      declares_alone false (summary (initializer_tree init)).facts.absent (naming shape.VariableDeclarator (Declares false) [] n (summaries (own_name x m ▸ initializer_tree init ▸ none))) x m init k.0 k.1 k.2 s t h

  -- the declarators in a row
  abbrev pub declare : Trees → Bool → State → Completion (Unit {0})
  declare ts lexical s = run {q = λ i. Declares lexical} e no_names (λ i r z. meaning e ts i (Declares lexical) r z) (declarators (length (facts ts)) lexical) s

  run_declarators : (names names' : Naming) (n : ℕ) (lexical : Bool) (K : Kids (λ i. Declares lexical)) (s : State) → run e names K (declarators n lexical) s ≡ run e names' K (declarators n lexical) s
  run_declarators names names' zero lexical K s = refl
  run_declarators names names' (suc n) lexical K s =
      either_cong (K 0 tt s) _ _ _ _ (λ a z. run_shift e names (λ i. Declares lexical) (declarators n lexical) K z ∙ run_declarators names names' n lexical (λ i. K (suc i)) z ∙ sym (run_shift e names' (λ i. Declares lexical) (declarators n lexical) K z)) (λ x z. refl)

  pub declare_cons : (c : Tree) (ts : Trees) (lexical : Bool) (s : State) → declare (c ▸ ts) lexical s ≡ either (means e c (Declares lexical) tt s) (λ u z. declare ts lexical z) (λ x z. stop x z)
  unfolding meaning
  declare_cons c ts lexical s =
      either_cong (means e c (Declares lexical) tt s) _ _ _ _ (λ u z. run_shift e no_names (λ i. Declares lexical) (declarators (length (facts ts)) lexical) (λ i r z. meaning e (c ▸ ts) i (Declares lexical) r z) z) (λ x z. refl)

  pub declared_by : (ys : List Name) (m : ℕ) (ts : Trees) (lexical : Bool) (s : State) → means e (node shape.Listed ys m ts) (Declares lexical) tt s ≡ declare ts lexical s
  unfolding means step
  declared_by ys m ts lexical s = run_declarators (naming shape.Listed (Declares lexical) (variables ys) m (summaries ts)) no_names (length (facts ts)) lexical (λ i r z. meaning e ts i (Declares lexical) r z) s

  declare_alone : (lexical : Bool) (cs : List Declarator) → DeclaratorsGo d D e lexical cs → (s t : State) → Lean s t → Alone (declare (declarator_trees cs) lexical s) t
  unfolding Reaches
  declare_alone lexical [] k s t h = ok_alone tt s t h
  declare_alone lexical (c ∷ cs) k s t h =
      subst (λ x. Alone x t) (sym (declare_cons (declarator_tree c) (declarator_trees cs) lexical s))
      (l.silently_either d D E e apart (means e (declarator_tree c) (Declares lexical) tt s) t _ _ (declarator_alone lexical c k.0 s t h)
      (λ u z r. reaches (node shape.Listed [] 0 (declarator_trees cs)) (Declares lexical) tt z (subst R (sym (declared_by [] 0 (declarator_trees cs) lexical z)) r)) (λ x z r. r) (λ u z h. declare_alone lexical cs k.1 z t h))

  pub item_alone : (i : Item) → ItemGoes d D e i → (s t : State) → Lean s t → Alone (means e (item_tree i) (Stat None) [] s) t
  unfolding means step meaning Reaches
  item_alone (function_item g ds xs n x m ts) k s t h = ok_alone tt s t h
  item_alone (declaration_item kind xs n ys m c cs) k s t h =
      l.silently_either d D E e apart (means e (node shape.Listed ys m (declarator_trees (c ∷ cs))) (Declares (is_lexical kind)) tt s) t _ _ (subst (λ x. Alone x t) (sym (declared_by ys m (declarator_trees (c ∷ cs)) (is_lexical kind) s)) (declare_alone (is_lexical kind) (c ∷ cs) k s t h)) (λ b s r. r) (λ b s r. r) (λ b s h. ok_alone tt s t h)
  item_alone (lone_item xs n f) k s t h =
      l.silently_either d D E e apart (means e (lone_tree f) (As Unused) tt s) t _ _ (value_alone Unused f k s t h) (λ b s r. r) (λ b s r. r) (λ b s h. ok_alone tt s t h)
