-- What is written for a `let` and the assignment of a value after it means the same where the name can be written, and so does what is
-- written for a lexical declaration that never runs.
use Rattle.std.proofs.Common.{◌≡◌, ℕ, Bool, true, false, List, [], ◌++◌, None, refl, inl, inr, sym, ap, subst, ◌∙◌}
use Rattle.std.proofs.lemmas.Bool.{eq-eqb}
use Rattle.mini_model.specs.declared.kind.VariableDeclarationKind.TheVariants.{Let}
use Rattle.mini_model.specs.declared.place.Position.{Position}
use Rattle.mini_model.specs.declared.place.Position.TheVariants.{StatementList, BodyList}
use Rattle.mini_model.specs.Tree.{Tree, Trees, none, ◌▸◌, absent, expression_statement}
use Rattle.mini_model.specs.Paths.{append}
use Rattle.mini_laws.specs.Value.{Value, Undefined, Variable, VariableSet, Declared, Slot, Holds, choose, variable_eq, nothing}
use Rattle.mini_laws.specs.State.{State, stop, ok, either, Environment, Writes, with_vars}
use Rattle.mini_laws.specs.Demand.{Unused, Demand, As, Stat, Declares, Binds}
use Rattle.mini_laws.specs.Command.{set_var, start, fresh_note, write_slot, at_variable, act}
use Rattle.mini_laws.specs.Fits.{Fits}
use Rattle.mini_laws.specs.Naming.{summary, summaries, lets_all}
use Rattle.mini_laws.specs.Same.{Same}
use Rattle.mini_laws.specs.Step.{step, means, meaning}
use Rattle.mini_laws.proofs.Rows.{by_equality}
use Rattle.mini_laws.proofs.Runs.{either_assoc, either_cong, either_eta, either_ok, either_stop}
use Rattle.mini_laws.proofs.Stretching.{exec}
use Rattle.mini_kept.specs.Loosely.{SameWith}
use Rattle.mini_kept.specs.Without.{Permits}
use Rattle.mini_rows.specs.DeadCases.{Known, known, value_of}
use Rattle.mini_rows.specs.Lists.{declaration, declarator, binding, resolved, assigned, begun, begun_without, InList}
use Rattle.mini_rows.specs.Lets.{Row70Let, LetsRow, LetRow}
use Rattle.mini_rows.proofs.DeadCaseMeaning.{known_means, known_declares}
use Rattle.mini_rows.proofs.DeadLexicalMeaning.{lexical_does, lexical_read}
use Rattle.mini_rows.proofs.ListBegun.{put_is, assigned_is, initialised}
use Rattle.mini_rows.proofs.ListMeanings.{back_same, begun_same, stretch_after}
use Rattle.mini_rows.proofs.ListStatements.{expression_is, declare, declare_none, declare_more, declare_append, declaration_is}
use Rattle.mini_rows.proofs.ListStretches.{ReadSame, SameStretch, exec_one, exec_two, in_list_by, lets_append, list_does_by, read_alike, read_in_list}
use Rattle.mini_rows.proofs.WriteMeaning.{put_value}

-- ---- a variable that is written twice

written_twice : (b : Bool) (v w u : Slot) → choose b w (choose b v u) ≡ choose b w u
written_twice true v w u = refl
written_twice false v w u = refl

module _ (e : Environment) (spelling target : List ℕ) (k : ℕ) where
  abbrev x : Variable
  x = Declared k

  abbrev id : Tree
  id = binding (resolved spelling k)

  abbrev started : Value → State → State
  started v s = start e true x v s

  -- the declaration initialises it, with undefined or with the value
  starts : (v : Value) (s : State) → means e id (Binds true) v s ≡ ok tt (started v s)
  unfolding means meaning step act at_variable either
  starts v s = refl

  bare_starts : (s : State) → means e (declarator id absent) (Declares true) tt s ≡ ok tt (started Undefined s)
  unfolding means meaning step
  bare_starts s = either_eta (means e id (Binds true) Undefined s) ∙ starts Undefined s

  given_starts : (l : Known) (s : State) → means e (declarator id (known l)) (Declares true) tt s ≡ ok tt (started (value_of l) s)
  given_starts l s =
      initialised e id true (known l) (known_declares l) s
      ∙ ap (λ c. either c (λ v z. means e id (Binds true) v z) (λ y z. stop y z)) (known_means e l s)
      ∙ either_ok (value_of l) s _ _
      ∙ starts (value_of l) s

  -- where it can be written, an assignment after it leaves what the value would have
  module _ (free : e.fixed x ≡ Writes) where
    held : (v : Value) (s : State) → (started v s).vars x ≡ Holds v
    held v s = ap (λ b. choose b (Holds v) ((fresh_note e x s).vars x)) (eq-eqb k k refl)

    both_written : (v w : Value) (s : State) → with_vars (started v s) (set_var (started v s).vars x (Holds w)) ≡ started w s
    both_written v w s = λ i. with_vars (fresh_note e x s) (λ y. written_twice (variable_eq x y) (Holds v) (Holds w) ((fresh_note e x s).vars y) i)

    assigns : (l : Known) (s : State) → means e (assigned (resolved target k) (known l)) (As Unused) tt (started Undefined s) ≡ ok tt (started (value_of l) s)
    unfolding write_slot
    assigns l s =
        let z = started Undefined s in
        let v = value_of l in
        assigned_is e spelling target k (known l) z
        ∙ ap (λ c. either c (λ v z. means e id (Binds false) v z) (λ y z. stop y z)) (known_means e l z)
        ∙ either_ok v z _ _
        ∙ sym (put_is e spelling target k v z)
        ∙ put_value e target k free v z
        ∙ ap (λ c. write_slot x v c z) (held Undefined s)
        ∙ ap (ok tt) (both_written Undefined v s)

    module _ (ds : Trees) (l : Known) where
      abbrev without_value : Tree
      without_value = declaration Let (append ds (declarator id absent ▸ none))

      abbrev with_value : Tree
      with_value = declaration Let (append ds (declarator id (known l) ▸ none))

      declared_by : (init : Tree) (s : State) → means e (declaration Let (append ds (declarator id init ▸ none))) (Stat None) [] s ≡ either (declare e ds true s) (λ u z. means e (declarator id init) (Declares true) tt z) (λ y z. stop y z)
      declared_by init s =
          declaration_is e Let (append ds (declarator id init ▸ none)) [] s
          ∙ declare_append e ds (declarator id init ▸ none) true s
          ∙ either_cong (declare e ds true s) _ _ _ _
          (λ u z.
          declare_more e (declarator id init) none true z
          ∙ either_cong (means e (declarator id init) (Declares true) tt z) _ _ _ _ (λ u w. declare_none e true w) (λ y w. refl)
          ∙ either_eta (means e (declarator id init) (Declares true) tt z))
          (λ y z. refl)

      value_enters : (s : State) → exec e (without_value ▸ (expression_statement (assigned (resolved target k) (known l)) ▸ none)) None s ≡ exec e (with_value ▸ none) None s
      value_enters s =
          exec_two e without_value (expression_statement (assigned (resolved target k) (known l))) s
          ∙ ap (λ c. either c (λ u z. means e (expression_statement (assigned (resolved target k) (known l))) (Stat None) [] z) (λ y z. stop y z)) (declared_by absent s)
          ∙ either_assoc (declare e ds true s) _ _ _ _
          ∙ either_cong (declare e ds true s) _ _ _ _
          (λ u z.
          ap (λ c. either c (λ u w. means e (expression_statement (assigned (resolved target k) (known l))) (Stat None) [] w) (λ y w. stop y w)) (bare_starts z)
          ∙ either_ok tt (started Undefined z) _ _
          ∙ expression_is e (assigned (resolved target k) (known l)) [] (started Undefined z)
          ∙ assigns l z
          ∙ sym (given_starts l z))
          (λ y z. either_stop y z _ _)
          ∙ sym (exec_one e with_value s ∙ declared_by (known l) s)

-- ---- the row

module _ (W : VariableSet) (a b : Trees) (r : Row70Let W a b) where
  abbrev old : Tree
  old = declaration Let (append r.ds (declarator (binding (resolved r.spelling r.symbol)) absent ▸ none))

  abbrev new : Tree
  new = declaration Let (append r.ds (declarator (binding (resolved r.spelling r.symbol)) (known r.value) ▸ none))

  abbrev whole : Tree
  whole = begun r.beginning (assigned (resolved r.spelling r.symbol) (known r.value))

  abbrev alone : Tree
  alone = expression_statement (assigned (resolved r.spelling r.symbol) (known r.value))

  abbrev left : Trees
  left = begun_without r.beginning

  apart : SameStretch (old ▸ (whole ▸ none)) (old ▸ (alone ▸ left))
  apart = stretch_after old _ _ (back_same (alone ▸ left) (whole ▸ none) (begun_same r.beginning (resolved r.spelling r.symbol) (known r.value) r.parts))

  row_does : (e : Environment) → e.fixed (Declared r.symbol) ≡ Writes → (s : State) → exec e a None s ≡ exec e b None s
  row_does e free s =
      ap (λ ts. exec e ts None s) r.shape
      ∙ apart.by e s
      ∙ in_list_by e none (old ▸ (alone ▸ none)) (new ▸ none) left (value_enters e r.spelling r.spelling r.symbol free r.ds r.value) s
      ∙ sym (ap (λ ts. exec e ts None s) r.written)

  names_same : lets_all (summaries (old ▸ (alone ▸ none))) ≡ lets_all (summaries (new ▸ none))
  names_same = ap (λ l. l ++ []) (lets_append r.ds (declarator (binding (resolved r.spelling r.symbol)) absent ▸ none) ∙ sym (lets_append r.ds (declarator (binding (resolved r.spelling r.symbol)) (known r.value) ▸ none)))

  enters_read : ReadSame (old ▸ (alone ▸ left)) (new ▸ left)
  enters_read = read_in_list none (old ▸ (alone ▸ none)) (new ▸ none) left (record { lets = names_same; functions = refl; facts = refl; texts = refl })

  row_reads : ReadSame a b
  row_reads =
      subst (λ ts. ReadSame ts b) (sym r.shape) (subst (ReadSame (old ▸ (whole ▸ none))) (sym r.written)
      (record { lets = apart.read.lets ∙ enters_read.lets; functions = apart.read.functions ∙ enters_read.functions; facts = apart.read.facts ∙ enters_read.facts; texts = apart.read.texts ∙ enters_read.texts }))

-- either row

row_means : (W : VariableSet) (a b : Trees) → LetsRow W a b → (e : Environment) → Permits W nothing e → (s : State) → exec e a None s ≡ exec e b None s
row_means W a b (inl r) e z s = row_does W a b r e (z.writable (Declared r.symbol) r.writable) s
row_means W a b (inr r) e z s = lexical_does a b r e s

row_read : (W : VariableSet) (a b : Trees) → LetsRow W a b → ReadSame a b
row_read W a b (inl r) = row_reads W a b r
row_read W a b (inr r) = lexical_read a b r

module _ (W : VariableSet) (n w : Tree) (r : InList (LetsRow W) n w) where
  list_does : (e : Environment) → Permits W nothing e → (q : Demand) → Fits StatementList q → Same e nothing nothing q n w
  list_does e z (Stat t) f =
      by_equality e nothing nothing (Stat t) n w
      (λ c s.
      ap (λ x. means e x (Stat t) c s) r.shape
      ∙ list_does_by e _ _ (in_list_by e r.before r.read r.put r.after (row_means W r.read r.put r.row e z)) t c s
      ∙ sym (ap (λ x. means e x (Stat t) c s) r.written))
  list_does e z q f = elim f [ ]

  list_reads : summary n ≡ summary w
  list_reads = ap summary r.shape ∙ read_alike _ _ (read_in_list r.before r.read r.put r.after (row_read W r.read r.put r.row)) ∙ sym (ap summary r.written)

body_asked : (q : Demand) → Fits BodyList q → Fits StatementList q
body_asked (Stat t) f = tt
body_asked q f = absurd f

pub lets_same : (W : VariableSet) (p : Position) (n w : Tree) → LetRow W p n w → SameWith W p n w
lets_same W StatementList n w r = record { by = list_does W n w r }
lets_same W BodyList n w r = record { by = λ e z q f. list_does W n w r e z q (body_asked q f) }
lets_same W p n w r = absurd r

pub lets_read : (W : VariableSet) (p : Position) (n w : Tree) → LetRow W p n w → summary n ≡ summary w
lets_read W StatementList n w r = list_reads W n w r
lets_read W BodyList n w r = list_reads W n w r
lets_read W p n w r = absurd r
