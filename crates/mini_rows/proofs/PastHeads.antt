-- A name that what stands right after its declaration reads behind names that are held: its initializer may stand there.
use Rattle.std.proofs.Common.{◌≡◌, ℕ, true, false, List, refl, sym, ap, ◌∙◌, subst, subst₂, inl, inr}
use Rattle.std.specs.Prelude.{◌&&◌, if◌then◌else◌}
use Rattle.std.proofs.lemmas.Bool.{and_parts}
use Rattle.mini_model.specs.declared.kind.VariableDeclarationKind.TheVariants.{Var}
use Rattle.mini_model.specs.declared.name.Name.{Name}
use Rattle.mini_model.specs.declared.shape.Shape.TheVariants as shape
use Rattle.mini_model.specs.Tree.{Tree, Trees, none, ◌▸◌, identifier}
use Rattle.mini_laws.specs.Value.{Value, Declared, VariableSet, Holds}
use Rattle.mini_laws.specs.State.{State, Completion, stop, either, Environment, with_vars}
use Rattle.mini_laws.specs.Demand.{Want, Val, As, Request}
use Rattle.mini_laws.specs.Command.{set_var}
use Rattle.mini_laws.specs.Same.{Goes, Agree, Initialised}
use Rattle.mini_laws.specs.Step.{means}
use Rattle.mini_laws.specs.Substitution.{alone}
use Rattle.mini_kept.specs.Without.{Unseen}
use Rattle.mini_rows.specs.Declarations.{declarator}
use Rattle.mini_rows.specs.Lists.{each_loop}
use Rattle.mini_rows.specs.Past.{Kept, passes_any, is_certain, are_past_by_value, all_past}
use Rattle.mini_rows.specs.Sketches.{AsValue}
use Rattle.mini_rows.specs.Unused.{resolved, names, any_names, is_first, OfValues, put_first, reads_head, evaluated}
use Rattle.mini_rows.proofs.FoldMeaning.{plain_read}
use Rattle.mini_rows.proofs.ItemReads.{plain_item}
use Rattle.mini_rows.proofs.ListKeptHeads.{Seat, Loop, Choice, seated, rest}
use Rattle.mini_rows.proofs.OpeningMeaning.{outside_goes, looped_goes}
use Rattle.mini_rows.proofs.OverMeaning.{each_goes}
use Rattle.mini_rows.proofs.PastMeaning.{read_named, statement_goes}
use Rattle.mini_rows.proofs.PastNext.{initial_goes}
use Rattle.mini_rows.proofs.PastParts.{Still, path_held}
use Rattle.mini_rows.proofs.PastRuns.{past_goes}
use Rattle.mini_rows.proofs.FoundReads.{path_as, path_same, seated_same, loop_same, goes_as}
use Rattle.mini_rows.proofs.SingleUse.{Path, path, led, Indirect, mentioned, Over, Heads, heads}
use Rattle.mini_rows.proofs.SpellAlike.{SameTree}
use Rattle.mini_rows.proofs.UnusedMeaning.{GoesWith, same_symbol}
use Rattle.mini_rows.proofs.UnusedNames.{avoided, all_avoided}
use Rattle.mini_terms.specs.Reading.{is_plain_part}

module _ (e : Environment) (spelling : List ℕ) (k : ℕ) (z : Unseen (alone (Declared k)) e) (H : Kept) (still : Still H e) (init head : Tree) (moves : is_plain_part init ≡ true) where
  abbrev x : Name
  x = resolved spelling k

  abbrev D : VariableSet
  D = alone (Declared k)

  abbrev Go : {A : Type 0} → Completion A → Completion A → Type 0
  Go a b = Goes true (λ u. Agree D) (Agree D) (Agree D) a b

  abbrev after : Value → State → State
  after v s = with_vars s (set_var s.vars (Declared k) (Holds v))

  module _ (value : Tree) (once : is_first x false value ≡ true) (passed : are_past_by_value H x init value ≡ true) where
    reading : Path x AsValue value
    reading = path x false value once

    abbrev there : Tree
    there = led reading.steps (identifier (resolved reading.read.spelling k))

    same_there : SameTree value there
    same_there = path_same x k refl AsValue value reading

    value_goes : (v : Want) (r : Request (As v)) (s : State) → Initialised H.variables s → Go (either (means e init (As Val) tt s) (λ p t. means e (led reading.steps (identifier (resolved reading.read.spelling k))) (As v) r (after p t)) (λ y t. stop y t)) (means e (led reading.steps init) (As v) r s)
    value_goes v r s ready =
        past_goes e k z init s x refl reading.read.spelling (sym (plain_read init moves)) (plain_item init moves) OfValues AsValue reading.steps reading.well reading.spared
        (path_held e k z init s H still ready x refl OfValues reading.steps (resolved reading.read.spelling k) (read_named spelling k reading.read.spelling) (subst (λ y. Indirect (identifier (record { spelling = reading.read.spelling; symbol = y })) reading.steps) (same_symbol k reading.read.symbol reading.same) reading.direct) reading.spared (sym (ap (are_past_by_value H x init) (path_as x k refl AsValue value reading)) ∙ passed)) (As v) tt tt r tt

    scope_goes : (c : Seat) → any_names x (rest c) ≡ false → (s : State) → Initialised H.variables s → GoesWith e k init (seated c value) (seated c (put_first x init value)) s
    scope_goes c beside s ready =
        subst (λ w. GoesWith e k init (seated c value) w s) (ap (seated c) (sym (reading.puts init)))
        (goes_as e k init (seated c value) (seated c there) (seated_same c value there same_there) (seated c (led reading.steps init)) s
        (outside_goes e k z x refl reading.read.spelling init (sym (plain_read init moves)) reading.steps reading.well (Initialised H.variables) value_goes c beside s ready))

    loop_goes : (t : Over x head) → t.value ≡ value → (s : State) → Initialised H.variables s → GoesWith e k init (each_loop t.kind t.left value t.body) (each_loop t.kind t.left (put_first x init value) t.body) s
    loop_goes t same s ready =
        let loops = λ (u : Tree). each_loop t.kind t.left u t.body in
        subst (λ w. GoesWith e k init (loops value) w s) (ap loops (sym (reading.puts init)))
        (goes_as e k init (loops value) (loops there) (loop_same t.kind t.left value there t.body same_there) (loops (led reading.steps init)) s
        (each_goes e k z x refl reading.read.spelling init reading.steps (Initialised H.variables) (value_goes Val tt) t.kind t.left t.body t.plain t.other t.later s ready))

  -- what a statement that opens a scope evaluates before all else
  seated_past : (c : Seat) (value : Tree) → names x value ≡ true → are_past_by_value H x init (seated c value) ≡ true → are_past_by_value H x init value ≡ true
  seated_past (Choice cases) value n p =
      let ts : Trees = value ▸ (cases ▸ none) in
      sym (ap (λ b. if b then are_past_by_value H x init value else (passes_any H init value && all_past H x OfValues init shape.SwitchStatement 1 (cases ▸ none))) n) ∙ (and_parts (is_certain x OfValues init shape.SwitchStatement ts) (all_past H x OfValues init shape.SwitchStatement 0 ts) p).1
  seated_past (Loop u v w) value n p =
      let ts : Trees = value ▸ (u ▸ (v ▸ (w ▸ none))) in
      sym (ap (λ b. if b then are_past_by_value H x init value else (passes_any H init value && all_past H x OfValues init shape.ForStatement 1 (u ▸ (v ▸ (w ▸ none))))) n) ∙ (and_parts (is_certain x OfValues init shape.ForStatement ts) (all_past H x OfValues init shape.ForStatement 0 ts) p).1

  pub head_goes : reads_head x head ≡ true → are_past_by_value H x init (evaluated head) ≡ true → (s : State) → Initialised H.variables s → GoesWith e k init head (put_first x init head) s
  head_goes once passed s ready = by (heads x head once)
    where
      by : Heads x head → GoesWith e k init head (put_first x init head) s
      by (inl (f, p)) = statement_goes e spelling k z H still init head moves f (sym (ap (are_past_by_value H x init) p) ∙ passed) s ready
      by (inr (inr (inl t))) =
          let there = sym (ap (are_past_by_value H x init) (t.evaluates ∙ t.is)) ∙ passed in
          subst₂ (λ h w. GoesWith e k init h w s) (sym t.is) (sym (t.puts init)) (scope_goes t.value t.once (seated_past t.seat t.value (mentioned x false t.value t.once) there) t.seat t.beside s ready)
      by (inr (inr (inr (inl t)))) = subst₂ (λ h w. GoesWith e k init h w s) (sym t.is) (sym (t.puts init)) (loop_goes t.value t.once (sym (ap (are_past_by_value H x init) t.evaluates) ∙ passed) t refl s ready)
      by (inr (inr (inr (inr t)))) =
          subst₂ (λ h w. GoesWith e k init h w s) (sym t.is) (sym (t.puts init))
          (looped_goes e k z x refl init t.test t.update t.body t.beside (declarator t.binds t.value ▸ t.last) (declarator t.binds (put_first x init t.value) ▸ t.last) s
          (initial_goes e spelling k z H still Var init t.binds t.value t.last moves t.once (sym (ap (are_past_by_value H x init) t.evaluates) ∙ passed) (avoided x k refl t.binds t.other) (all_avoided x k refl t.last t.later) s ready))
      by (inr (inl t)) =
          subst₂ (λ h w. GoesWith e k init h w s) (sym t.is) (sym (t.puts init))
          (initial_goes e spelling k z H still t.kind init t.binds t.value t.last moves t.once (sym (ap (are_past_by_value H x init) t.evaluates) ∙ passed) (avoided x k refl t.binds t.other) (all_avoided x k refl t.last t.later) s ready)
