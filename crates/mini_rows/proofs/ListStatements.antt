-- What each statement does where no tail is.
use Rattle.std.proofs.Common.{◌≡◌, Bool, true, List, [], ◌∷◌, ◌++◌, length, None, refl, sym, ap, ◌∙◌, true≢false}
use Rattle.std.proofs.lemmas.Bool.{and_parts}
use Rattle.mini_model.specs.declared.kind.VariableDeclarationKind.{VariableDeclarationKind}
use Rattle.mini_model.specs.declared.kind.VariableDeclarationKind.TheVariants.{Var}
use Rattle.mini_model.specs.declared.shape.Shape.TheVariants as shape
use Rattle.mini_model.specs.Tree.{Tree, Trees, node, none, ◌▸◌, absent, listed, empty_statement, expression_statement, if_else, conditional}
use Rattle.mini_model.specs.Paths.{append}
use Rattle.mini_laws.specs.Value.{choose}
use Rattle.mini_laws.specs.State.{State, Thrown, Returned, Completion, ok, stop, either, Environment, with_vars}
use Rattle.mini_laws.specs.Demand.{Val, Test, Unused, As, Stat, Declares, LabelSet}
use Rattle.mini_laws.specs.Command.{Naming, ret, kid, then, run, hide_all}
use Rattle.mini_laws.specs.Naming.{summaries, facts, lets_all, functions_all, function_facts, function_names, texts_all, naming, is_lexical, facts_all}
use Rattle.mini_laws.specs.Asking.{first_demand}
use Rattle.mini_laws.specs.Lists.{declarators}
use Rattle.mini_laws.specs.Statements.{create_functions, block_step, if_step, return_step, throw_step}
use Rattle.mini_laws.specs.Step.{step, means, meaning}
use Rattle.mini_laws.proofs.Runs.{either_cong, either_assoc, either_eta, either_ok, either_stop, each_bool, runs, run_shift}
use Rattle.mini_laws.proofs.Tailing.{finished, finish_none, hidden, closed, block_runs}
use Rattle.mini_rows.specs.Lists.{block, return_statement, throw_statement, declaration, or_void, is_unscoped, are_unscoped}
use Rattle.mini_rows.proofs.ListStretches.{ReadSame, lets_append, functions_append, facts_append, texts_append}

pub expression_is : (e : Environment) (a : Tree) (r : LabelSet) (s : State) → means e (expression_statement a) (Stat None) r s ≡ means e a (As Unused) tt s
unfolding means meaning step
expression_is e a r s = finished e (naming shape.ExpressionStatement (Stat None) [] 0 (summaries (a ▸ none))) (λ i. As Unused) (λ i r z. meaning e (a ▸ none) i (As Unused) r z) None (kid 0 tt (then ret)) s ∙ finish_none _ ∙ either_eta (means e a (As Unused) tt s)

pub if_is : (e : Environment) (a b c : Tree) (r : LabelSet) (s : State) → means e (if_else a b c) (Stat None) r s ≡ either (means e a (As Test) tt s) (λ t z. choose t (means e b (Stat None) [] z) (means e c (Stat None) [] z)) (λ x z. stop x z)
unfolding means meaning step
if_is e a b c r s =
    finished e (naming shape.IfStatement (Stat None) [] 0 (summaries (a ▸ (b ▸ (c ▸ none))))) (first_demand (As Test) (Stat None)) (λ i r z. meaning e (a ▸ (b ▸ (c ▸ none))) i (first_demand (As Test) (Stat None) i) r z) None (if_step None) s ∙ finish_none _
    ∙ either_cong (means e a (As Test) tt s) _ _ _ _ (each_bool _ (λ z. either_eta (means e b (Stat None) [] z)) (λ z. either_eta (means e c (Stat None) [] z))) (λ x z. refl)

pub absent_is : (e : Environment) (r : LabelSet) (s : State) → means e absent (Stat None) r s ≡ ok tt s
unfolding means step
absent_is e r s = refl

pub empty_is : (e : Environment) (r : LabelSet) (s : State) → means e empty_statement (Stat None) r s ≡ ok tt s
unfolding means step
empty_is e r s = refl

pub return_is : (e : Environment) (a : Tree) (r : LabelSet) (s : State) → means e (return_statement a) (Stat None) r s ≡ either (means e a (As Val) tt s) (λ v z. stop (Returned v) z) (λ x z. stop x z)
unfolding means meaning step
return_is e a r s = finished e (naming shape.ReturnStatement (Stat None) [] 0 (summaries (a ▸ none))) (λ i. As Val) (λ i r z. meaning e (a ▸ none) i (As Val) r z) None return_step s ∙ finish_none _

pub throw_is : (e : Environment) (a : Tree) (r : LabelSet) (s : State) → means e (throw_statement a) (Stat None) r s ≡ either (means e a (As Val) tt s) (λ v z. stop (Thrown v) z) (λ x z. stop x z)
unfolding means meaning step
throw_is e a r s = finished e (naming shape.ThrowStatement (Stat None) [] 0 (summaries (a ▸ none))) (λ i. As Val) (λ i r z. meaning e (a ▸ none) i (As Val) r z) None throw_step s ∙ finish_none _

pub conditional_is : (e : Environment) (a b c : Tree) (s : State) → means e (conditional a b c) (As Val) tt s ≡ either (means e a (As Test) tt s) (λ t z. choose t (means e b (As Val) tt z) (means e c (As Val) tt z)) (λ x z. stop x z)
unfolding means meaning step
conditional_is e a b c s = either_cong (means e a (As Test) tt s) _ _ _ _ (each_bool _ (λ z. either_eta (means e b (As Val) tt z)) (λ z. either_eta (means e c (As Val) tt z))) (λ x z. refl)

-- an absent argument is undefined
pub or_void_is : (e : Environment) (a : Tree) (s : State) → means e (or_void a) (As Val) tt s ≡ means e a (As Val) tt s
unfolding means meaning step
or_void_is e (node shape.Absent xs n ts) s = simp runs
or_void_is e (node h xs n ts) s = refl

-- ---- declarations

-- the declarators, in order
pub declare : Environment → Trees → Bool → State → Completion (Unit {0})
declare e none l s = ok tt s
declare e (d ▸ ds) l s = either (means e d (Declares l) tt s) (λ u z. declare e ds l z) (λ x z. stop x z)

declarators_run : (e : Environment) (names : Naming) (ds : Trees) (l : Bool) (s : State) → run {q = λ i. Declares l} e names (λ i r z. meaning e ds i (Declares l) r z) (declarators (length (facts ds)) l) s ≡ declare e ds l s
unfolding meaning declare
declarators_run e names none l s = refl
declarators_run e names (d ▸ ds) l s = either_cong (means e d (Declares l) tt s) _ _ _ _ (λ u z. run_shift e names (λ i. Declares l) (declarators (length (facts ds)) l) (λ i r z. meaning e (d ▸ ds) i (Declares l) r z) z ∙ declarators_run e names ds l z) (λ x z. refl)

declares_is : (e : Environment) (ds : Trees) (l : Bool) (s : State) → means e (listed ds) (Declares l) tt s ≡ declare e ds l s
unfolding means step
declares_is e ds l s = declarators_run e (naming shape.Listed (Declares l) [] 0 (summaries ds)) ds l s

pub declaration_is : (e : Environment) (k : VariableDeclarationKind) (ds : Trees) (r : LabelSet) (s : State) → means e (declaration k ds) (Stat None) r s ≡ declare e ds (is_lexical k) s
unfolding means meaning step
declaration_is e k ds r s = finished e (naming (shape.VariableDeclaration k) (Stat None) [] 0 (summaries (listed ds ▸ none))) (λ i. Declares (is_lexical k)) (λ i r z. meaning e (listed ds ▸ none) i (Declares (is_lexical k)) r z) None (kid 0 tt (then ret)) s ∙ finish_none _ ∙ either_eta (means e (listed ds) (Declares (is_lexical k)) tt s) ∙ declares_is e ds (is_lexical k) s

pub declare_none : (e : Environment) (l : Bool) (s : State) → declare e none l s ≡ ok tt s
unfolding declare
declare_none e l s = refl

pub declare_more : (e : Environment) (d : Tree) (ds : Trees) (l : Bool) (s : State) → declare e (d ▸ ds) l s ≡ either (means e d (Declares l) tt s) (λ u z. declare e ds l z) (λ x z. stop x z)
unfolding declare
declare_more e d ds l s = refl

pub declare_append : (e : Environment) (a b : Trees) (l : Bool) (s : State) → declare e (append a b) l s ≡ either (declare e a l s) (λ u z. declare e b l z) (λ x z. stop x z)
unfolding declare
declare_append e none b l s = sym (either_ok tt s _ _)
declare_append e (d ▸ a) b l s = either_cong (means e d (Declares l) tt s) _ _ _ _ (λ u z. declare_append e a b l z) (λ x z. sym (either_stop x z _ _)) ∙ sym (either_assoc (means e d (Declares l) tt s) _ _ _ _)

-- one declaration of the declarators of two does what they do
pub declarations_join : (e : Environment) (k : VariableDeclarationKind) (ds es : Trees) (s : State) → means e (declaration k (append ds es)) (Stat None) [] s ≡ either (means e (declaration k ds) (Stat None) [] s) (λ u z. means e (declaration k es) (Stat None) [] z) (λ x z. stop x z)
declarations_join e k ds es s =
    declaration_is e k (append ds es) [] s ∙ declare_append e ds es (is_lexical k) s
    ∙ sym (ap (λ x. either x (λ u z. means e (declaration k es) (Stat None) [] z) (λ x z. stop x z)) (declaration_is e k ds [] s)
    ∙ either_cong (declare e ds (is_lexical k) s) _ _ _ _ (λ u z. declaration_is e k es [] z) (λ x z. refl))

plus_none : {A : Type 0} (a : List A) → a ++ [] ≡ a
plus_none [] = refl
plus_none (x ∷ a) = ap (λ l. x ∷ l) (plus_none a)

declared_lets : (k : VariableDeclarationKind) (ds es : Trees) → lets_all (summaries (declaration k ds ▸ (declaration k es ▸ none))) ≡ lets_all (summaries (declaration k (append ds es) ▸ none))
declared_lets Var ds es = refl
declared_lets k ds es = ap (λ l. lets_all (summaries ds) ++ l) (plus_none (lets_all (summaries es))) ∙ sym (plus_none _ ∙ lets_append ds es)

pub declarations_read : (k : VariableDeclarationKind) (ds es : Trees) → ReadSame (declaration k ds ▸ (declaration k es ▸ none)) (declaration k (append ds es) ▸ none)
declarations_read k ds es = record { lets = declared_lets k ds es; functions = refl; facts = refl; texts = refl }

-- ---- blocks without scoped statements

pub one_unscoped : (t : Tree) → is_unscoped t ≡ true → ReadSame (t ▸ none) none
one_unscoped (node shape.ExpressionStatement xs n ts) h = record { lets = refl; functions = refl; facts = refl; texts = refl }
one_unscoped (node shape.EmptyStatement xs n ts) h = record { lets = refl; functions = refl; facts = refl; texts = refl }
one_unscoped (node shape.DebuggerStatement xs n ts) h = record { lets = refl; functions = refl; facts = refl; texts = refl }
one_unscoped (node shape.BlockStatement xs n ts) h = record { lets = refl; functions = refl; facts = refl; texts = refl }
one_unscoped (node shape.LabeledStatement xs n ts) h = record { lets = refl; functions = refl; facts = refl; texts = refl }
one_unscoped (node shape.BreakStatement xs n ts) h = record { lets = refl; functions = refl; facts = refl; texts = refl }
one_unscoped (node shape.ContinueStatement xs n ts) h = record { lets = refl; functions = refl; facts = refl; texts = refl }
one_unscoped (node shape.ReturnStatement xs n ts) h = record { lets = refl; functions = refl; facts = refl; texts = refl }
one_unscoped (node shape.ThrowStatement xs n ts) h = record { lets = refl; functions = refl; facts = refl; texts = refl }
one_unscoped (node shape.IfStatement xs n ts) h = record { lets = refl; functions = refl; facts = refl; texts = refl }
one_unscoped (node shape.SwitchStatement xs n ts) h = record { lets = refl; functions = refl; facts = refl; texts = refl }
one_unscoped (node shape.TryStatement xs n ts) h = record { lets = refl; functions = refl; facts = refl; texts = refl }
one_unscoped (node shape.WhileStatement xs n ts) h = record { lets = refl; functions = refl; facts = refl; texts = refl }
one_unscoped (node shape.DoWhileStatement xs n ts) h = record { lets = refl; functions = refl; facts = refl; texts = refl }
one_unscoped (node shape.ForStatement xs n ts) h = record { lets = refl; functions = refl; facts = refl; texts = refl }
one_unscoped (node shape.ForInStatement xs n ts) h = record { lets = refl; functions = refl; facts = refl; texts = refl }
one_unscoped (node shape.ForOfStatement xs n ts) h = record { lets = refl; functions = refl; facts = refl; texts = refl }
one_unscoped (node (shape.VariableDeclaration Var) xs n ts) h = record { lets = refl; functions = refl; facts = refl; texts = refl }
one_unscoped t h = absurd (true≢false (sym h))

pub read_nothing : (ts : Trees) → are_unscoped ts ≡ true → ReadSame ts none
read_nothing none h = record { lets = refl; functions = refl; facts = refl; texts = refl }
read_nothing (t ▸ ts) h =
    let (first, rest) = and_parts (is_unscoped t) (are_unscoped ts) h in
    let one = one_unscoped t first in
    let others = read_nothing ts rest in
    record {
      lets = lets_append (t ▸ none) ts ∙ ap (λ l. l ++ lets_all (summaries ts)) one.lets ∙ others.lets;
      functions = functions_append (t ▸ none) ts ∙ ap (λ l. l ++ functions_all (summaries ts)) one.functions ∙ others.functions;
      facts = facts_append (t ▸ none) ts ∙ ap (λ l. l ++ function_facts (facts_all (summaries ts))) one.facts ∙ others.facts;
      texts = texts_append (t ▸ none) ts ∙ ap (λ l. l ++ texts_all (facts_all (summaries ts))) one.texts ∙ others.texts;
    }

hides_nothing : (e : Environment) (names : Naming) → names.scope ≡ [] → (s : State) → hidden e names s ≡ s
unfolding hidden
hides_nothing e names h s = ap (λ l. with_vars s (hide_all l s.vars)) h

closes_nothing : (e : Environment) (names : Naming) → names.scope ≡ [] → (x : Completion (Unit {0})) → closed e names x ≡ x
unfolding closed
closes_nothing e names h x = either_cong x _ _ _ _ (λ a z. ap (λ y. ok a y) (hides_nothing e names h z)) (λ y z. ap (λ w. stop y w) (hides_nothing e names h z)) ∙ either_eta x

abbrev names_of : Trees → Naming
names_of ts = naming shape.BlockStatement (Stat None) [] 0 (summaries (listed ts ▸ none))

block_scope : (ts : Trees) → ReadSame ts none → (names_of ts).scope ≡ []
block_scope ts u = ap (λ l. (l ++ []) ++ function_names (functions_all (summaries ts) ++ [])) u.lets ∙ ap (λ l. function_names (l ++ [])) u.functions

pub block_is : (e : Environment) (ts : Trees) → ReadSame ts none → (r : LabelSet) (s : State) → means e (block ts) (Stat None) r s ≡ means e (listed ts) (Stat None) [] s
unfolding means meaning step
block_is e ts u r s =
    finished e (names_of ts) (λ i. Stat None) (λ i r z. meaning e (listed ts ▸ none) i (Stat None) r z) None (block_step None (facts (listed ts ▸ none))) s ∙ finish_none _
    ∙ block_runs e (names_of ts) (meaning e (listed ts ▸ none)) None (facts (listed ts ▸ none)) s
    ∙ closes_nothing e (names_of ts) (block_scope ts u) _
    ∙ ap (λ l. either (run {q = λ i. Stat None} e (names_of ts) (λ i. meaning e (listed ts ▸ none) i (Stat None)) (create_functions true l 0) (hidden e (names_of ts) s)) (λ u z. means e (listed ts) (Stat None) [] z) (λ x z. stop x z)) (ap (λ l. l ++ []) u.facts)
    ∙ either_ok tt (hidden e (names_of ts) s) _ _
    ∙ ap (λ z. means e (listed ts) (Stat None) [] z) (hides_nothing e (names_of ts) (block_scope ts u) s)
