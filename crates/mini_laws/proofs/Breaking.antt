-- Where a body ends with `break`.
use Rattle.std.proofs.Common.{◌≡◌, ℕ, zero, suc, Bool, true, false, List, [], ◌∷◌, ◌++◌, Some, None, refl, sym, ap, ◌∙◌, inl}
use Rattle.mini_model.specs.declared.shape.Shape.TheVariants as shape
use Rattle.mini_model.specs.Tree.{Tree, Trees, none, ◌▸◌, listed}
use Rattle.mini_laws.specs.Value.{choose}
use Rattle.mini_laws.specs.State.{State, Stop, Broken, Continued, Completion, ok, stop, Ends, done, ended, either, Environment}
use Rattle.mini_laws.specs.Demand.{LoopTail, Demand, Stat, LabelSet}
use Rattle.mini_laws.specs.Command.{Naming, turn, fuel, Command, ret, fails, op, kid, then, attempt, bind, repeat, loop, Kids, act, run}
use Rattle.mini_laws.specs.Naming.{Summary, summary, summaries, facts, facts_all, function_facts, functions_all, lets_all, texts_all, naming}
use Rattle.mini_laws.specs.Asking.{do_demand}
use Rattle.mini_laws.specs.Replies.{merged}
use Rattle.mini_laws.specs.Statements.{create_functions, block_step}
use Rattle.mini_laws.specs.Loops.{has_label, after_body, do_step}
use Rattle.mini_laws.specs.Step.{step, means, meaning}
use Rattle.mini_laws.specs.Stretches.{append}
use Rattle.mini_laws.specs.Tails as law
use Rattle.mini_laws.specs.Tails.{ends_in, breaks, block, do_while, GivesFalse}
use Rattle.mini_laws.proofs.Runs.{either_cong, either_assoc, either_ok, either_stop, runs, each_bool, run_bind, tail_stop}
use Rattle.mini_laws.proofs.Rows.{by_equality}
use Rattle.mini_laws.proofs.Stretching.{listed_append}
use Rattle.mini_laws.proofs.Anywhere.{in_each_tail}
use Rattle.mini_laws.proofs.Tailing.{finished, finish_none, hidden, closed, creates_alone, block_runs, tail_same}

-- what a block reads of its list

lets_same : (ts : Trees) → lets_all (summaries (append ts (breaks ▸ none))) ≡ lets_all (summaries ts)
lets_same none = refl
lets_same (t ▸ ts) = ap (λ x. (summary t).lets ++ x) (lets_same ts)

functions_same : (ts : Trees) → functions_all (summaries (append ts (breaks ▸ none))) ≡ functions_all (summaries ts)
functions_same none = refl
functions_same (t ▸ ts) = ap (λ x. (summary t).functions ++ x) (functions_same ts)

facts_same : (ts : Trees) → function_facts (facts (append ts (breaks ▸ none))) ≡ function_facts (facts ts)
facts_same none = refl
facts_same (t ▸ ts) = ap (λ x. (summary t).facts.functions ++ x) (facts_same ts)

texts_same : (ts : Trees) → texts_all (facts (append ts (breaks ▸ none))) ≡ texts_all (facts ts)
texts_same none = refl
texts_same (t ▸ ts) = ap (λ x. (summary t).facts.texts ++ x) (texts_same ts)

read_same : (ts : Trees) → summary (listed (append ts (breaks ▸ none))) ≡ summary (listed ts)
read_same ts =
    ap (λ x. record { facts = record { absent = false; shortens = false; declared = None; functions = x; texts = texts_all (facts (append ts (breaks ▸ none))) }; lets = lets_all (summaries (append ts (breaks ▸ none))); name = None; functions = functions_all (summaries (append ts (breaks ▸ none))) }) (facts_same ts)
    ∙ ap (λ x. record { facts = record { absent = false; shortens = false; declared = None; functions = function_facts (facts ts); texts = x }; lets = lets_all (summaries (append ts (breaks ▸ none))); name = None; functions = functions_all (summaries (append ts (breaks ▸ none))) }) (texts_same ts)
    ∙ ap (λ x. record { facts = record { absent = false; shortens = false; declared = None; functions = function_facts (facts ts); texts = texts_all (facts ts) }; lets = x; name = None; functions = functions_all (summaries (append ts (breaks ▸ none))) }) (lets_same ts)
    ∙ ap (λ x. record { facts = record { absent = false; shortens = false; declared = None; functions = function_facts (facts ts); texts = texts_all (facts ts) }; lets = lets_all (summaries ts); name = None; functions = x }) (functions_same ts)

module _ (e : Environment) where
  breaks_is : (z : State) → means e (listed (breaks ▸ none)) (Stat None) [] z ≡ stop (Broken None) z
  unfolding means meaning step either
  breaks_is z = refl

  list_breaks : (ts : Trees) (z : State) → means e (listed (append ts (breaks ▸ none))) (Stat None) [] z ≡ either (means e (listed ts) (Stat None) [] z) (λ u z. stop (Broken None) z) (λ x z. stop x z)
  unfolding tail_stop
  list_breaks ts z = listed_append e ts (breaks ▸ none) None [] z (inl refl) ∙ either_cong (means e (listed ts) (Stat None) [] z) _ _ _ _ (λ u z. breaks_is z) (λ x z. refl)

  -- a list in a block
  abbrev named : List Summary → Naming
  named is = naming shape.BlockStatement (Stat None) [] 0 is

  in_block : List Summary → Tree → State → Completion (Unit {0})
  in_block is l s = run {q = λ i. Stat None} e (named is) (λ i r z. meaning e (l ▸ none) i (Stat None) r z) (attempt (block_step None (facts_all is)) (merged None)) s

  abbrev created : List Summary → Tree → State → Completion (Unit {0})
  created is l s = run {q = λ i. Stat None} e (named is) (λ i r z. meaning e (l ▸ none) i (Stat None) r z) (create_functions true (function_facts (facts_all is)) 0) s

  in_block_is : (is : List Summary) (l : Tree) (s : State) → in_block is l s ≡ closed e (named is) (either (created is l (hidden e (named is) s)) (λ u z. means e l (Stat None) [] z) (λ x z. stop x z))
  unfolding in_block meaning
  in_block_is is l s =
      finished e (named is) (λ i. Stat None) (λ i r z. meaning e (l ▸ none) i (Stat None) r z) None (block_step None (facts_all is)) s
      ∙ finish_none _
      ∙ block_runs e (named is) (λ i q r z. meaning e (l ▸ none) i q r z) None (facts_all is) s

  scope_breaks : (names : Naming) (c : Completion (Unit {0})) (y : State → Completion (Unit {0})) → closed e names (either c (λ u z. either (y z) (λ u z. stop (Broken None) z) (λ x z. stop x z)) (λ x z. stop x z)) ≡ either (closed e names (either c (λ u z. y z) (λ x z. stop x z))) (λ u z. stop (Broken None) z) (λ x z. stop x z)
  unfolding closed
  scope_breaks names c y = simp runs

  pub block_breaks : (ts : Trees) (s : State) → means e (block (append ts (breaks ▸ none))) (Stat None) [] s ≡ either (means e (block ts) (Stat None) [] s) (λ u z. stop (Broken None) z) (λ x z. stop x z)
  unfolding means step in_block
  block_breaks ts s =
      ap (λ i. in_block (i ∷ []) (listed (append ts (breaks ▸ none))) s) (read_same ts)
      ∙ in_block_is (summary (listed ts) ∷ []) (listed (append ts (breaks ▸ none))) s
      ∙ ap (λ c. closed e (named (summary (listed ts) ∷ [])) (either c (λ u z. means e (listed (append ts (breaks ▸ none))) (Stat None) [] z) (λ x z. stop x z))) (creates_alone e (named (summary (listed ts) ∷ [])) (λ i. Stat None) (λ i. Stat None) _ _ true (function_facts (facts_all (summary (listed ts) ∷ []))) 0 (hidden e (named (summary (listed ts) ∷ [])) s))
      ∙ ap (closed e (named (summary (listed ts) ∷ []))) (either_cong (created (summary (listed ts) ∷ []) (listed ts) (hidden e (named (summary (listed ts) ∷ [])) s)) _ _ _ _ (λ u z. list_breaks ts z) (λ x z. refl))
      ∙ scope_breaks (named (summary (listed ts) ∷ [])) (created (summary (listed ts) ∷ []) (listed ts) (hidden e (named (summary (listed ts) ∷ [])) s)) (λ z. means e (listed ts) (Stat None) [] z)
      ∙ ap (λ x. either x (λ u z. stop (Broken None) z) (λ x z. stop x z)) (sym (in_block_is (summary (listed ts) ∷ []) (listed ts) s))

  -- the same turns
  repeat_alike : (names : Naming) {q : ℕ → Demand} (K K' : Kids q) (c : Command q Bool) → ((s : State) → run e names K c s ≡ run e names K' c s) → (n : ℕ) (s : State) → run e names K (repeat n c) s ≡ run e names K' (repeat n c) s
  repeat_alike names K K' c h zero s = refl
  repeat_alike names K K' c h (suc n) s =
      run_bind e names c (λ b. choose b (repeat n c) (ret tt)) K s
      ∙ ap (λ x. either x (λ b z. run e names K (choose b (repeat n c) (ret tt)) z) (λ x z. stop x z)) (h s)
      ∙ either_cong (run e names K' c s) _ _ _ _ (each_bool _ (λ z. repeat_alike names K K' c h n z) (λ z. refl)) (λ x z. refl)
      ∙ sym (run_bind e names c (λ b. choose b (repeat n c) (ret tt)) K' s)

  loop_alike : (names : Naming) {q : ℕ → Demand} (K K' : Kids q) (c : Command q Bool) → ((s : State) → run e names K c s ≡ run e names K' c s) → (s : State) → run e names K (loop c) s ≡ run e names K' (loop c) s
  loop_alike names K K' c h s =
      either_cong (act e names fuel s) _ _ _ _ (λ n z. repeat_alike names K K' (op turn (then (λ u. c))) (λ z. either_cong (act e names turn z) _ _ _ _ (λ u z. h z) (λ x z. refl)) (suc n) z) (λ x z. refl)

  -- what a `do` makes of the end of its body
  module _ (k : Tree) (gives : GivesFalse e k) (labels : LabelSet) where
    abbrev names : Tree → Naming
    names b = naming shape.DoWhileStatement (Stat None) [] 0 (summary b ∷ (summary k ∷ []))

    abbrev kids : Tree → Kids do_demand
    kids b i r z = meaning e (b ▸ (k ▸ none)) i (do_demand i) r z

    abbrev tested : Bool → Command do_demand Bool
    tested c = choose c (kid 1 tt (then ret)) (ret false)

    abbrev turn_end : Ends (Unit {0}) → Command do_demand Bool
    turn_end x = bind (after_body labels x) tested

    ends_normally : (b : Tree) (u : Unit {0}) (z : State) → run e (names b) (kids b) (turn_end (done u)) z ≡ ok false z
    unfolding meaning
    ends_normally b u z = ap (λ x. either x (λ c z. ok c z) (λ x z. stop x z)) (gives z) ∙ either_ok false z _ _

    -- no child but the test is asked there
    after_alike : (b b' : Tree) (x : Ends (Unit {0})) (z : State) → run e (names b) (kids b) (after_body labels x) z ≡ run e (names b) (kids b') (after_body labels x) z
    after_alike b b' (done u) z = refl
    after_alike b b' (ended (Broken None)) z = refl
    after_alike b b' (ended (Continued None)) z = refl
    after_alike b b' (ended (Continued (Some l))) z = go (has_label labels l)
      where
        go : (c : Bool) → run {q = do_demand} e (names b) (kids b) (choose c (ret true) (fails (Continued (Some l)))) z ≡ run {q = do_demand} e (names b) (kids b') (choose c (ret true) (fails (Continued (Some l)))) z
        go true = refl
        go false = refl
    after_alike b b' (ended x) z = refl

    tested_alike : (b b' : Tree) (c : Bool) (z : State) → run e (names b) (kids b) (tested c) z ≡ run e (names b) (kids b') (tested c) z
    unfolding meaning
    tested_alike b b' true z = refl
    tested_alike b b' false z = refl

    turn_alike : (b b' : Tree) (x : Ends (Unit {0})) (z : State) → run e (names b) (kids b) (turn_end x) z ≡ run e (names b) (kids b') (turn_end x) z
    turn_alike b b' x z =
        run_bind e (names b) (after_body labels x) tested (kids b) z
        ∙ ap (λ y. either y (λ c z. run e (names b) (kids b) (tested c) z) (λ y z. stop y z)) (after_alike b b' x z)
        ∙ either_cong (run e (names b) (kids b') (after_body labels x) z) _ _ _ _ (λ c z. tested_alike b b' c z) (λ y z. refl)
        ∙ sym (run_bind e (names b) (after_body labels x) tested (kids b') z)

    abbrev at_end : Tree → Stop → State → Completion Bool
    at_end b y z = either (ends_in (Some LoopTail) y z) (λ u z. ok false z) (λ y z. run e (names b) (kids b) (turn_end (ended y)) z)

    -- of a body in the tail of the turn
    body_ends : (b : Tree) (z : State) → run e (names b) (kids b) (kid 0 [] turn_end) z ≡ either (means e b (Stat None) [] z) (λ u z. ok false z) (at_end b)
    unfolding meaning
    body_ends b z =
        ap (λ x. either x (λ u z. run e (names b) (kids b) (turn_end (done u)) z) (λ y z. run e (names b) (kids b) (turn_end (ended y)) z)) (tail_same e b (Some LoopTail) [] z)
        ∙ either_assoc (means e b (Stat None) [] z) _ _ _ _
        ∙ either_cong (means e b (Stat None) [] z) _ _ _ _ (λ u z. either_ok tt z _ _ ∙ ends_normally b tt z) (λ y z. either_cong (ends_in (Some LoopTail) y z) _ _ _ _ (λ u z. ends_normally b u z) (λ y z. refl))

    at_end_alike : (b b' : Tree) (y : Stop) (z : State) → at_end b y z ≡ at_end b' y z
    at_end_alike b b' y z = either_cong (ends_in (Some LoopTail) y z) _ _ _ _ (λ u z. refl) (λ y z. turn_alike b b' (ended y) z)

    broken : (b : Tree) (z : State) → at_end b (Broken None) z ≡ ok false z
    broken b z = either_stop (Broken None) z _ _

    turn_same : (ts : Trees) (z : State) → run e (names (block ts)) (kids (block (append ts (breaks ▸ none)))) (kid 0 [] turn_end) z ≡ run e (names (block ts)) (kids (block ts)) (kid 0 [] turn_end) z
    turn_same ts z =
        body_ends (block (append ts (breaks ▸ none))) z
        ∙ ap (λ x. either x (λ u z. ok false z) (at_end (block (append ts (breaks ▸ none))))) (block_breaks ts z)
        ∙ either_assoc (means e (block ts) (Stat None) [] z) _ _ _ _
        ∙ either_cong (means e (block ts) (Stat None) [] z) _ _ _ _ (λ u z. either_stop (Broken None) z _ _ ∙ broken (block (append ts (breaks ▸ none))) z) (λ y z. either_stop y z _ _ ∙ at_end_alike (block (append ts (breaks ▸ none))) (block ts) y z)
        ∙ sym (body_ends (block ts) z)

    do_is : (b : Tree) (s : State) → means e (do_while b k) (Stat None) labels s ≡ run e (names b) (kids b) (do_step labels) s
    unfolding means step
    do_is b s = finished e (names b) do_demand (kids b) None (do_step labels) s ∙ finish_none _

    pub do_same : (ts : Trees) (s : State) → means e (do_while (block (append ts (breaks ▸ none))) k) (Stat None) labels s ≡ means e (do_while (block ts) k) (Stat None) labels s
    do_same ts s =
        do_is (block (append ts (breaks ▸ none))) s
        ∙ loop_alike (names (block ts)) (kids (block (append ts (breaks ▸ none)))) (kids (block ts)) (kid 0 [] turn_end) (turn_same ts) s
        ∙ sym (do_is (block ts) s)

pub last_break_same : law.LastBreakSame
last_break_same e D X t ts k gives = in_each_tail e D X _ _ (by_equality e D X (Stat None) (do_while (block (append ts (breaks ▸ none))) k) (do_while (block ts) k) (λ r s. do_same e k gives r ts s)) t
