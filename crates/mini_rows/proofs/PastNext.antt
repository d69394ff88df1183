-- A name that the next declarator reads behind names that are held: the initializer may stand there.
use Rattle.std.proofs.Common.{◌≡◌, ℕ, true, false, List, [], None, refl, sym, ap, ◌∙◌, subst, subst₂}
use Rattle.mini_model.specs.declared.kind.VariableDeclarationKind.{VariableDeclarationKind}
use Rattle.mini_model.specs.declared.name.Name.{Name}
use Rattle.mini_model.specs.Tree.{Tree, Trees, none, ◌▸◌, listed, identifier}
use Rattle.mini_laws.specs.Value.{Value, Declared, VariableSet, Holds}
use Rattle.mini_laws.specs.State.{State, Completion, stop, either, Writes, Environment, with_vars}
use Rattle.mini_laws.specs.Demand.{Val, As, Stat, Binds}
use Rattle.mini_laws.specs.Command.{set_var}
use Rattle.mini_laws.specs.Naming.{summary, is_lexical}
use Rattle.mini_laws.specs.Same.{Goes, Agree, Same, Initialised}
use Rattle.mini_laws.specs.Step.{means}
use Rattle.mini_laws.specs.Substitution.{alone}
use Rattle.mini_laws.specs.Congruence.{Avoids, AllAvoid}
use Rattle.mini_laws.proofs.Congruent.{insensitive}
use Rattle.mini_laws.proofs.Runs.{either_cong, either_assoc, either_stop}
use Rattle.mini_laws.proofs.Simulation.{goes_either}
use Rattle.mini_kept.specs.Without.{Unseen}
use Rattle.mini_rows.specs.Lists.{declaration}
use Rattle.mini_rows.specs.Declarations.{binding, declarator}
use Rattle.mini_rows.specs.Past.{Kept, are_past_by_value}
use Rattle.mini_rows.specs.Sketches.{AsValue}
use Rattle.mini_rows.specs.Unused.{resolved, is_first, OfValues, put_first}
use Rattle.mini_rows.proofs.FoldMeaning.{plain_read}
use Rattle.mini_rows.proofs.ItemReads.{plain_item}
use Rattle.mini_rows.proofs.ListStretches.{exec_one, listed_is}
use Rattle.mini_rows.proofs.ListStatements.{declarations_join}
use Rattle.mini_rows.proofs.NextMeaning.{led_there, stopped, rest, with_others}
use Rattle.mini_rows.proofs.PastMeaning.{read_named}
use Rattle.mini_rows.proofs.PastParts.{Still, path_held}
use Rattle.mini_rows.proofs.PastRuns.{past_goes}
use Rattle.mini_rows.proofs.FoundReads.{path_as, path_same, read_there}
use Rattle.mini_rows.proofs.SingleUse.{Path, path, led, Indirect}
use Rattle.mini_rows.proofs.SpellAlike.{SameTree}
use Rattle.mini_rows.proofs.UnusedMeaning.{declared_then, same_symbol}
use Rattle.mini_terms.specs.Reading.{is_plain_part}

module _ (e : Environment) (spelling : List ℕ) (k : ℕ) (z : Unseen (alone (Declared k)) e) (H : Kept) (still : Still H e) (K : VariableDeclarationKind) (init id value : Tree) (last : Trees) (moves : is_plain_part init ≡ true) (once : is_first (resolved spelling k) false value ≡ true) (passed : are_past_by_value H (resolved spelling k) init value ≡ true) where
  abbrev x : Name
  x = resolved spelling k

  abbrev D : VariableSet
  D = alone (Declared k)

  abbrev Go : {A : Type 0} → Completion A → Completion A → Type 0
  Go a b = Goes true (λ u. Agree D) (Agree D) (Agree D) a b

  abbrev after : Value → State → State
  after v s = with_vars s (set_var s.vars (Declared k) (Holds v))

  plain : summary (identifier x) ≡ summary init
  plain = sym (plain_read init moves)

  reading : Path x AsValue value
  reading = path x false value once

  abbrev there : Tree
  there = led reading.steps (identifier (resolved reading.read.spelling k))

  same_there : SameTree value there
  same_there = path_same x k refl AsValue value reading

  value_goes : (s : State) → Initialised H.variables s → Go (either (means e init (As Val) tt s) (λ v t. means e value (As Val) tt (after v t)) (λ y t. stop y t)) (means e (put_first x init value) (As Val) tt s)
  value_goes s ready =
      subst₂ Go (read_there e k init value there same_there (As Val) tt s) (ap (λ w. means e w (As Val) tt s) (sym (reading.puts init)))
      (past_goes e k z init s x refl reading.read.spelling plain (plain_item init moves) OfValues AsValue reading.steps reading.well reading.spared
      (path_held e k z init s H still ready x refl OfValues reading.steps (resolved reading.read.spelling k) (read_named spelling k reading.read.spelling) (subst (λ y. Indirect (identifier (record { spelling = reading.read.spelling; symbol = y })) reading.steps) (same_symbol k reading.read.symbol reading.same) reading.direct) reading.spared (sym (ap (are_past_by_value H x init) (path_as x k refl AsValue value reading)) ∙ passed)) (As Val) tt tt tt tt)

  value_there : (summary value).facts.absent ≡ false
  value_there = ap (λ i. i.facts.absent) same_there.read ∙ led_there reading.steps (identifier (resolved reading.read.spelling k)) refl

  put_there : (summary (put_first x init value)).facts.absent ≡ false
  put_there = ap (λ t. (summary t).facts.absent) (reading.puts init) ∙ led_there reading.steps init (sym (ap (λ i. i.facts.absent) plain))

  module _ (avoids_id : Avoids D id) (avoids_last : AllAvoid D last) where
    abbrev run_of : Trees → State → Completion (Unit {0})
    run_of ds s = means e (declaration K ds) (Stat None) [] s

    abbrev goes_on : Value → State → Completion (Unit {0})
    goes_on a s = rest e id K last a s

    on_goes : (a : Value) (s t : State) → Agree D s t → Go (goes_on a s) (goes_on a t)
    on_goes a s t g =
        goes_either true (λ u. Agree D) (Agree D) (Agree D) (λ u. Agree D) (Agree D) (means e id (Binds (is_lexical K)) a s) (means e id (Binds (is_lexical K)) a t) _ _ _ _ (insensitive e D z.shared id avoids_id (Binds (is_lexical K)) a s t g)
        (λ u s t g. insensitive e D z.shared (declaration K last) (tt, ((tt, avoids_last), tt)) (Stat None) [] s t g) (λ y s t g. stopped (Unit {0}) D y s t g)

    abbrev valued : State → Completion Value
    valued s = either (means e init (As Val) tt s) (λ v t. means e value (As Val) tt (after v t)) (λ y t. stop y t)

    earlier : (s : State) → either (means e init (As Val) tt s) (λ v t. run_of (declarator id value ▸ last) (after v t)) (λ y t. stop y t) ≡ either (valued s) goes_on (λ y t. stop y t)
    earlier s = either_cong (means e init (As Val) tt s) _ _ _ _ (λ v t. with_others e id value value_there K last (after v t)) (λ y t. refl) ∙ sym (either_assoc (means e init (As Val) tt s) _ _ _ _ ∙ either_cong (means e init (As Val) tt s) _ _ _ _ (λ v t. refl) (λ y t. either_stop y t _ _))

    -- x holds the value where the next is run, or the next is run with the initializer in it
    pub initial_goes : (s : State) → Initialised H.variables s → Go (either (means e init (As Val) tt s) (λ v t. run_of (declarator id value ▸ last) (after v t)) (λ y t. stop y t)) (run_of (declarator id (put_first x init value) ▸ last) s)
    initial_goes s ready =
        subst₂ Go (sym (earlier s)) (sym (with_others e id (put_first x init value) put_there K last s))
        (goes_either true (λ v. Agree D) (Agree D) (Agree D) (λ u. Agree D) (Agree D) (valued s) (means e (put_first x init value) (As Val) tt s) _ _ _ _ (value_goes s ready) on_goes (λ y s t g. stopped (Unit {0}) D y s t g))

    -- in one declaration
    module _ (permit : is_lexical K ≡ false → e.fixed (Declared k) ≡ Writes) where
      abbrev these : Trees
      these = declarator (binding x) init ▸ (declarator id value ▸ last)

      abbrev those : Trees
      those = declarator id (put_first x init value) ▸ last

      next_goes : (s : State) → Initialised H.variables s → Go (run_of these s) (run_of those s)
      next_goes s ready =
          subst (λ c. Go c (run_of those s)) (sym (declarations_join e K (declarator (binding x) init ▸ none) (declarator id value ▸ last) s))
          (declared_then e spelling k z K permit init (ap (λ i. i.facts.absent) (sym plain)) (run_of (declarator id value ▸ last)) s (run_of those s) (initial_goes s ready))

      pub next_past : Same e D H.variables (Stat None) (listed (declaration K these ▸ none)) (listed (declaration K those ▸ none))
      next_past = record { by = λ r s i. subst₂ Go (sym (listed_is e (declaration K these ▸ none) r s ∙ exec_one e (declaration K these) s)) (sym (listed_is e (declaration K those ▸ none) r s ∙ exec_one e (declaration K those) s)) (next_goes s i) }
