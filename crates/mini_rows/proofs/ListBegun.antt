-- An assignment after a `var` does what an initializer in it does.
use Rattle.std.proofs.Common.{◌≡◌, ℕ, Bool, true, false, List, [], ◌∷◌, None, refl, sym, ap, ◌∙◌, true≢false, arith}
use Rattle.std.specs.Prelude.{nat_eq, codes, if◌then◌else◌}
use Rattle.std.proofs.lemmas.Bool.{and_parts, eqb-true}
use Rattle.mini_model.specs.declared.kind.VariableDeclarationKind.TheVariants.{Var}
use Rattle.mini_model.specs.declared.operator.UnaryOperator.TheVariants.{LogicalNot}
use Rattle.mini_model.specs.declared.shape.Shape.TheVariants as shape
use Rattle.mini_model.specs.Tree.{Tree, Trees, node, none, ◌▸◌, count, absent, is_absent, expression_statement, identifier}
use Rattle.mini_model.specs.Paths.{append}
use Rattle.mini_model.specs.Weight.{same_text}
use Rattle.mini_laws.specs.Value.{Value, variables}
use Rattle.mini_laws.specs.State.{State, Writes, WritesPresent, Refuses, Keeps, Writing, Completion, ok, stop, either, Environment}
use Rattle.mini_laws.specs.Demand.{Val, Unused, Demand, As, Target, AName, Prepare, Put, Stat, Declares, Binds}
use Rattle.mini_laws.specs.Command.{Naming, Kids, fixity, act, run}
use Rattle.mini_laws.specs.Naming.{EvalName, PlainName, summary, summaries, naming}
use Rattle.mini_laws.specs.Asking.{first_demand}
use Rattle.mini_laws.specs.Replies.{by_fixity, put_own}
use Rattle.mini_laws.specs.Targets.{put_identifier}
use Rattle.mini_laws.specs.Declarations.{declares_by, var_by}
use Rattle.mini_laws.specs.Step.{step, means, meaning}
use Rattle.mini_laws.proofs.Runs.{either_cong, either_assoc, either_eta, either_ok, either_stop}
use Rattle.mini_rows.specs.Lists.{declaration, resolved, binding, declarator, assigned, declares_nothing, is_bare_declarator, are_bare_declarators}
use Rattle.mini_rows.proofs.ListStretches.{SameStretch, exec_one, exec_two}
use Rattle.mini_rows.proofs.ListStatements.{expression_is, declare, declare_none, declare_more, declare_append, declaration_is}

-- ---- a write, whoever asks for it

module _ (e : Environment) (names : Naming) (q p : ℕ → Demand) (K : Kids q) (L : Kids p) (v : Value) where
  by_alike : (f : Writing) (s : State) → run {q = q} e names K (by_fixity v f) s ≡ run {q = p} e names L (by_fixity v f) s
  by_alike Writes s = refl
  by_alike WritesPresent s = refl
  by_alike Refuses s = refl
  by_alike Keeps s = refl

  put_alike : (s : State) → run {q = q} e names K (put_own v) s ≡ run {q = p} e names L (put_own v) s
  put_alike s = either_cong (act e names (fixity 0) s) _ _ _ _ (λ f z. by_alike f z) (λ x z. refl)

  -- of a name that is declared, whatever its spelling
  spelled_alike : (b : Bool) (s : State) → run {q = q} e names K (put_identifier (if b then EvalName else PlainName) v) s ≡ run {q = p} e names L (put_own v) s
  spelled_alike true s = put_alike s
  spelled_alike false s = put_alike s

-- ---- an assignment, and a declarator

module _ (e : Environment) (spelling target : List ℕ) (k : ℕ) where
  abbrev id : Tree
  id = binding (resolved spelling k)

  abbrev takes : Value → State → Completion (Unit {0})
  takes v s = means e id (Binds false) v s

  pub put_is : (v : Value) (s : State) → means e (identifier (resolved target k)) Target (Put AName v) s ≡ takes v s
  unfolding means meaning step
  put_is v s =
      spelled_alike e (naming shape.Identifier Target (variables (resolved target k ∷ [])) 0 []) (λ i. Stat None) (λ i. Stat None) (λ i r z. meaning e none i (Stat None) r z) (λ i r z. meaning e none i (Stat None) r z) v (same_text target (codes "eval")) s

  pub prepared : (s : State) → means e (identifier (resolved target k)) Target Prepare s ≡ ok AName s
  unfolding means meaning step
  prepared s = refl

  pub assigned_is : (b : Tree) (s : State) → means e (assigned (resolved target k) b) (As Unused) tt s ≡ either (means e b (As Val) tt s) takes (λ x z. stop x z)
  unfolding means meaning step
  assigned_is b s =
      ap (λ y. either y (λ r z. either (means e b (As Val) tt z) (λ v w. either (means e (identifier (resolved target k)) Target (Put r v) w) (λ u x. ok tt x) (λ x t. stop x t)) (λ x t. stop x t)) (λ x t. stop x t)) (prepared s)
      ∙ either_ok AName s _ _
      ∙ either_cong (means e b (As Val) tt s) _ _ _ _ (λ v z. either_eta (means e (identifier (resolved target k)) Target (Put AName v) z) ∙ put_is v z) (λ x z. refl)

-- an expression is there
pub present : (t : Tree) → declares_nothing t ≡ true → (summary t).facts.absent ≡ false
present (node shape.Absent xs n ts) h = absurd (true≢false (sym h))
present (node shape.SwitchCase xs n ts) h = absurd (true≢false (sym h))
present (node (shape.Function true g ds) xs n ts) h = absurd (true≢false (sym h))
present (node (shape.Function false g ds) xs n ts) h = refl
present (node (shape.Class true) xs n ts) h = absurd (true≢false (sym h))
present (node (shape.Class false) xs n ts) h = refl
present (node (shape.UnaryExpression LogicalNot) xs n none) h = absurd (true≢false (sym h))
present (node (shape.UnaryExpression LogicalNot) xs n (t ▸ ts)) h = present t h
present (node h xs n ts) e = refl

-- what has an initializer
pub given_value : (e : Environment) (id : Tree) (lexical : Bool) (b : Tree) → (summary b).facts.absent ≡ false → (s : State) → means e (declarator id b) (Declares lexical) tt s ≡ either (means e b (As Val) tt s) (λ v z. means e id (Binds lexical) v z) (λ x z. stop x z)
unfolding means meaning step
given_value e id true b h s =
    ap (λ c. run {q = first_demand (Binds true) (As Val)} e (naming shape.VariableDeclarator (Declares true) [] 0 (summaries (id ▸ (b ▸ none)))) (λ i r z. meaning e (id ▸ (b ▸ none)) i (first_demand (Binds true) (As Val) i) r z) (declares_by true c) s) h
    ∙ either_cong (means e b (As Val) tt s) _ _ _ _ (λ v z. either_eta (means e id (Binds true) v z)) (λ x z. refl)
given_value e id false b h s =
    ap (λ c. run {q = first_demand (Binds false) (As Val)} e (naming shape.VariableDeclarator (Declares false) [] 0 (summaries (id ▸ (b ▸ none)))) (λ i r z. meaning e (id ▸ (b ▸ none)) i (first_demand (Binds false) (As Val) i) r z) (var_by false c) s) h
    ∙ either_cong (means e b (As Val) tt s) _ _ _ _ (λ v z. either_eta (means e id (Binds false) v z)) (λ x z. refl)

pub initialised : (e : Environment) (id : Tree) (lexical : Bool) (b : Tree) → declares_nothing b ≡ true → (s : State) → means e (declarator id b) (Declares lexical) tt s ≡ either (means e b (As Val) tt s) (λ v z. means e id (Binds lexical) v z) (λ x z. stop x z)
initialised e id lexical b h s = given_value e id lexical b (present b h) s

-- ---- one without an initializer does nothing

bare_one : (e : Environment) (d : Tree) → is_bare_declarator d ≡ true → (s : State) → means e d (Declares false) tt s ≡ ok tt s
unfolding means step
bare_one e (node shape.VariableDeclarator xs n (a ▸ (node shape.Absent ys m ts ▸ none))) h s = refl
bare_one e (node shape.VariableDeclarator xs n (a ▸ (b ▸ (c ▸ ts)))) h s =
    let ds : Trees = a ▸ (b ▸ (c ▸ ts)) in
    let two = eqb-true (count ds) 2 (and_parts (nat_eq (count ds) 2) (is_absent b) h).0 in
    absurd (omega (arith, two))
bare_one e d h s = absurd (true≢false (sym h))

pub bare_all : (e : Environment) (ds : Trees) → are_bare_declarators ds ≡ true → (s : State) → declare e ds false s ≡ ok tt s
bare_all e none h s = declare_none e false s
bare_all e (d ▸ ds) h s =
    let (x, y) = and_parts (is_bare_declarator d) (are_bare_declarators ds) h in
    declare_more e d ds false s ∙ ap (λ c. either c (λ u z. declare e ds false z) (λ x z. stop x z)) (bare_one e d x s) ∙ either_ok tt s _ _ ∙ bare_all e ds y s

-- a declarator, before such
before_bare : (e : Environment) (d : Tree) (es : Trees) → are_bare_declarators es ≡ true → (s : State) → declare e (d ▸ es) false s ≡ means e d (Declares false) tt s
before_bare e d es h s = declare_more e d es false s ∙ either_cong (means e d (Declares false) tt s) _ _ _ _ (λ u z. bare_all e es h z) (λ x z. refl) ∙ either_eta (means e d (Declares false) tt s)

module _ (ds : Trees) (spelling target : List ℕ) (k : ℕ) (es : Trees) (value : Tree) where
  abbrev pub without_value : Tree
  without_value = declaration Var (append ds (declarator (binding (resolved spelling k)) absent ▸ es))

  abbrev pub with_value : Tree
  with_value = declaration Var (append ds (declarator (binding (resolved spelling k)) value ▸ es))

  declared_by : (e : Environment) (init : Tree) → are_bare_declarators es ≡ true → (s : State) → means e (declaration Var (append ds (declarator (binding (resolved spelling k)) init ▸ es))) (Stat None) [] s ≡ either (declare e ds false s) (λ u z. means e (declarator (binding (resolved spelling k)) init) (Declares false) tt z) (λ x z. stop x z)
  declared_by e init h s =
      declaration_is e Var (append ds (declarator (binding (resolved spelling k)) init ▸ es)) [] s
      ∙ declare_append e ds (declarator (binding (resolved spelling k)) init ▸ es) false s
      ∙ either_cong (declare e ds false s) _ _ _ _ (λ u z. before_bare e (declarator (binding (resolved spelling k)) init) es h z) (λ x z. refl)

  pub assignment_enters : are_bare_declarators es ≡ true → declares_nothing value ≡ true → SameStretch (without_value ▸ (expression_statement (assigned (resolved target k) value) ▸ none)) (with_value ▸ none)
  assignment_enters h g = record {
    by = λ e s.
        exec_two e without_value (expression_statement (assigned (resolved target k) value)) s
        ∙ ap (λ c. either c (λ u z. means e (expression_statement (assigned (resolved target k) value)) (Stat None) [] z) (λ x z. stop x z)) (declared_by e absent h s)
        ∙ either_assoc (declare e ds false s) _ _ _ _
        ∙ either_cong (declare e ds false s) _ _ _ _
        (λ u z.
        ap (λ c. either c (λ u z. means e (expression_statement (assigned (resolved target k) value)) (Stat None) [] z) (λ x z. stop x z)) (bare_one e (declarator (binding (resolved spelling k)) absent) refl z)
        ∙ either_ok tt z _ _
        ∙ expression_is e (assigned (resolved target k) value) [] z
        ∙ assigned_is e spelling target k value z
        ∙ sym (initialised e (binding (resolved spelling k)) false value g z))
        (λ x z. either_stop x z _ _)
        ∙ sym (exec_one e with_value s ∙ declared_by e value h s);
    read = record { lets = refl; functions = refl; facts = refl; texts = refl };
  }
