-- Statements that never end normally.
use Rattle.std.proofs.Common.{◌≡◌, ℕ, Bool, true, false, List, [], None, refl, sym, ◌∙◌, subst, inl, inr, true≢false}
use Rattle.std.specs.Prelude.{◌⊎◌, ◌||◌, ◌&&◌}
use Rattle.std.proofs.lemmas.Bool.{and_parts}
use Rattle.mini_model.specs.declared.name.Name.{Name}
use Rattle.mini_model.specs.declared.shape.Shape.{Shape}
use Rattle.mini_model.specs.declared.shape.Shape.TheVariants as shape
use Rattle.mini_model.specs.Tree.{Tree, Trees, node, none, ◌▸◌}
use Rattle.mini_laws.specs.Value.{Value, variables}
use Rattle.mini_laws.specs.State as command
use Rattle.mini_laws.specs.State.{State, Stop, Thrown, Completion, ok, stop, halt, out, done, ended, either, Environment}
use Rattle.mini_laws.specs.Demand.{Val, Test, As, Stat, Binds, Catches, LabelSet}
use Rattle.mini_laws.specs.Command.{Naming, Command, run}
use Rattle.mini_laws.specs.Naming.{summaries, facts, naming, function_facts}
use Rattle.mini_laws.specs.Asking.{first_demand, try_demand}
use Rattle.mini_laws.specs.Statements.{block_step, if_step, break_step, continue_step, return_step, throw_step, finalized, handled, try_step, create_functions}
use Rattle.mini_laws.specs.Step.{step, means, meaning}
use Rattle.mini_laws.proofs.Runs.{either_eta, each_bool, tail_stop}
use Rattle.mini_laws.proofs.Stretching.{exec, listed_by}
use Rattle.mini_laws.proofs.Tailing.{finished, finish_none, hidden, closed, block_runs}
use Rattle.mini_rows.specs.Lists.{any, is_terminated, are_terminated}
use Rattle.mini_rows.specs.ListLaws.{TerminatedNeverEnds}
use Rattle.mini_rows.proofs.ListStretches.{exec_more}

abbrev pub Never : Completion (Unit {0}) → Type 0
Never (ok u s) = ⊥
Never (stop x s) = Unit {0}
Never (halt h s) = Unit {0}
Never out = Unit {0}

never_then : {B : Type 0} (x : Completion B) (f : B → State → Completion (Unit {0})) → ((b : B) (z : State) → Never (f b z)) → Never (either x f (λ y z. stop y z))
unfolding either
never_then (ok b z) f h = h b z
never_then (stop y z) f h = tt
never_then (halt y z) f h = tt
never_then out f h = tt

never_first : (x : Completion (Unit {0})) (f : Unit {0} → State → Completion (Unit {0})) → Never x → Never (either x f (λ y z. stop y z))
unfolding either
never_first (ok b z) f h = absurd h
never_first (stop y z) f h = tt
never_first (halt y z) f h = tt
never_first out f h = tt

never_closed : (e : Environment) (names : Naming) (x : Completion (Unit {0})) → Never x → Never (closed e names x)
unfolding either closed
never_closed e names (ok b z) h = absurd h
never_closed e names (stop y z) h = tt
never_closed e names (halt y z) h = tt
never_closed e names out h = tt

never_after : {B : Type 0} (x : Completion B) (f : B → State → Completion (Unit {0})) (g : Stop → State → Completion (Unit {0})) → ((b : B) (z : State) → Never (f b z)) → ((y : Stop) (z : State) → Never (g y z)) → Never (either x f g)
unfolding either
never_after (ok b z) f g h k = h b z
never_after (stop y z) f g h k = k y z
never_after (halt y z) f g h k = tt
never_after out f g h k = tt

never_before : (x : Completion (Unit {0})) (f : Unit {0} → State → Completion (Unit {0})) (g : Stop → State → Completion (Unit {0})) → Never x → ((y : Stop) (z : State) → Never (g y z)) → Never (either x f g)
unfolding either
never_before (ok b z) f g h k = absurd h
never_before (stop y z) f g h k = k y z
never_before (halt y z) f g h k = tt
never_before out f g h k = tt

-- what comes after it is never reached
pub never_goes : (x : Completion (Unit {0})) → Never x → (f : Unit {0} → State → Completion (Unit {0})) → either x f (λ y z. stop y z) ≡ x
unfolding either
never_goes (ok u s) h f = absurd h
never_goes (stop y s) h f = refl
never_goes (halt y s) h f = refl
never_goes out h f = refl

list_finish : (x : Completion (Unit {0})) → either x (λ u z. ok tt z) (λ y z. tail_stop None y z) ≡ x
unfolding tail_stop
list_finish x = either_eta x

or_split : (a b : Bool) → a || b ≡ true → (a ≡ true) ⊎ (b ≡ true)
or_split true b h = inl refl
or_split false b h = inr h

module _ (e : Environment) where
  abbrev Ends : Tree → Type 0
  Ends t = is_terminated t ≡ true → (r : LabelSet) (s : State) → Never (means e t (Stat None) r s)

  -- and as the handler of a `try`
  abbrev HandlerEnds : Tree → Type 0
  HandlerEnds t = is_terminated t ≡ true → (v : Value) (s : State) → Never (means e t Catches v s)

  abbrev AllEnd : Trees → Type 0
  AllEnd none = Unit {0}
  AllEnd (t ▸ ts) = (Ends t × HandlerEnds t) × AllEnd ts

  list_ends : (ts : Trees) → AllEnd ts → any (are_terminated ts) ≡ true → (s : State) → Never (exec e ts None s)
  list_ends none a h s = absurd (true≢false (sym h))
  list_ends (t ▸ ts) a h s = subst Never (sym (exec_more e t ts s)) (pick (or_split (is_terminated t) (any (are_terminated ts)) h) (λ k z. list_ends ts a.1 k z))
    where
      pick : (is_terminated t ≡ true) ⊎ (any (are_terminated ts) ≡ true) → (any (are_terminated ts) ≡ true → (z : State) → Never (exec e ts None z)) → Never (either (means e t (Stat None) [] s) (λ u z. exec e ts None z) (λ x z. stop x z))
      pick (inl k) l = never_first (means e t (Stat None) [] s) (λ u z. exec e ts None z) (a.0.0 k [] s)
      pick (inr k) l = never_then (means e t (Stat None) [] s) (λ u z. exec e ts None z) (λ u z. l k z)

  block_part : (t : Tree) → AllEnd (t ▸ none) → is_terminated t ≡ true → (z : State) → Never (meaning e (t ▸ none) 0 (Stat None) [] z)
  unfolding meaning
  block_part t a h z = a.0.0 h [] z

  abbrev named : Shape → List Name → ℕ → Trees → Naming
  named h xs n ts = naming h (Stat None) (variables xs) n (summaries ts)

  -- a `try` (ECMA-262, "The try Statement")
  module _ (xs : List Name) (n : ℕ) (b c f : Tree) where
    abbrev Run : Command try_demand (Unit {0}) → State → Completion (Unit {0})
    Run d z = run {q = try_demand} e (named shape.TryStatement xs n (b ▸ (c ▸ (f ▸ none)))) (λ i r z. meaning e (b ▸ (c ▸ (f ▸ none))) i (try_demand i) r z) d z

    -- whose finalizer never ends normally
    at_last : (is_terminated f ≡ true → (r : LabelSet) (s : State) → Never (means e f (Stat None) r s)) → is_terminated f ≡ true → (x : command.Ends (Unit {0})) (z : State) → Never (Run (finalized x) z)
    unfolding meaning
    at_last k h x z = never_before (means e f (Stat None) [] z) _ _ (k h [] z) (λ y z. tt)

    -- or that ended abruptly before
    abruptly : (x : Stop) (z : State) → Never (Run (finalized (ended x)) z)
    unfolding meaning
    abruptly x z = never_after (means e f (Stat None) [] z) _ _ (λ u z. tt) (λ y z. tt)

    try_ends : Ends b → HandlerEnds c → Ends f → (is_terminated f ≡ true) ⊎ ((is_terminated b && is_terminated c) ≡ true) → (s : State) → Never (Run try_step s)
    unfolding meaning
    try_ends i j k (inl h) s = never_after (means e b (Stat None) [] s) _ _ (λ u z. at_last k h (done u) z) by
      where
        by : (x : Stop) (z : State) → Never (Run (handled (ended x)) z)
        by (Thrown v) z = never_after (means e c Catches v z) _ _ (λ u z. at_last k h (done u) z) (λ y z. at_last k h (ended y) z)
        by x z = at_last k h (ended x) z
    try_ends i j k (inr h) s =
        let (first, second) = and_parts (is_terminated b) (is_terminated c) h in
        never_before (means e b (Stat None) [] s) _ _ (i first [] s) (by second)
      where
        by : is_terminated c ≡ true → (x : Stop) (z : State) → Never (Run (handled (ended x)) z)
        by g (Thrown v) z = never_before (means e c Catches v z) _ _ (j g v z) (λ y z. abruptly y z)
        by g x z = abruptly x z

  -- a handler (ECMA-262, "CatchClauseEvaluation")
  catch_ends : (xs : List Name) (n : ℕ) (p b : Tree) → ((r : LabelSet) (s : State) → Never (means e b (Stat None) r s)) → (v : Value) (s : State) → Never (means e (node shape.CatchClause xs n (p ▸ (b ▸ none))) Catches v s)
  unfolding means meaning step
  catch_ends xs n p b k v s =
      never_after _ _ _ (λ u z. never_after (means e p (Binds true) v z) _ _ (λ u z. never_before (means e b (Stat None) [] z) _ _ (k [] z) (λ y z. never_after _ _ _ (λ u z. tt) (λ y z. tt))) (λ y z. never_after _ _ _ (λ u z. tt) (λ y z. tt))) (λ y z. tt)

  node_ends : (h : Shape) (xs : List Name) (n : ℕ) (ts : Trees) → AllEnd ts → Ends (node h xs n ts)
  unfolding means step
  node_ends shape.ReturnStatement xs n ts a h r s = subst Never (sym (finished e (named shape.ReturnStatement xs n ts) (λ i. As Val) (λ i r z. meaning e ts i (As Val) r z) None return_step s ∙ finish_none _)) (never_then (meaning e ts 0 (As Val) tt s) _ (λ v z. tt))
  node_ends shape.ThrowStatement xs n ts a h r s = subst Never (sym (finished e (named shape.ThrowStatement xs n ts) (λ i. As Val) (λ i r z. meaning e ts i (As Val) r z) None throw_step s ∙ finish_none _)) (never_then (meaning e ts 0 (As Val) tt s) _ (λ v z. tt))
  node_ends shape.BreakStatement xs n ts a h r s = subst Never (sym (finished e (named shape.BreakStatement xs n ts) (λ i. As Val) (λ i r z. meaning e ts i (As Val) r z) None break_step s ∙ finish_none _)) (never_then (meaning e ts 0 (As Val) tt s) _ (λ v z. tt))
  node_ends shape.ContinueStatement xs n ts a h r s = subst Never (sym (finished e (named shape.ContinueStatement xs n ts) (λ i. As Val) (λ i r z. meaning e ts i (As Val) r z) None continue_step s ∙ finish_none _)) (never_then (meaning e ts 0 (As Val) tt s) _ (λ v z. tt))
  node_ends shape.Listed xs n ts a h r s = subst Never (sym (listed_by e xs n ts None r s ∙ list_finish _)) (list_ends ts a h s)
  node_ends shape.BlockStatement xs n (t ▸ none) a h r s = subst Never (sym (finished e (named shape.BlockStatement xs n (t ▸ none)) (λ i. Stat None) (λ i r z. meaning e (t ▸ none) i (Stat None) r z) None (block_step None (facts (t ▸ none))) s ∙ finish_none _ ∙ block_runs e (named shape.BlockStatement xs n (t ▸ none)) (meaning e (t ▸ none)) None (facts (t ▸ none)) s)) (never_closed e (named shape.BlockStatement xs n (t ▸ none)) _ (never_then (run {q = λ i. Stat None} e (named shape.BlockStatement xs n (t ▸ none)) (λ i. meaning e (t ▸ none) i (Stat None)) (create_functions true (function_facts (facts (t ▸ none))) 0) (hidden e (named shape.BlockStatement xs n (t ▸ none)) s)) _ (λ u z. block_part t a h z)))
  node_ends shape.IfStatement xs n (c ▸ (x ▸ (y ▸ none))) a h r s =
      let (first, second) = and_parts (is_terminated x) (is_terminated y) h in
      subst Never (sym (finished e (named shape.IfStatement xs n (c ▸ (x ▸ (y ▸ none)))) (first_demand (As Test) (Stat None)) (λ i r z. meaning e (c ▸ (x ▸ (y ▸ none))) i (first_demand (As Test) (Stat None) i) r z) None (if_step None) s ∙ finish_none _)) (never_then (means e c (As Test) tt s) _ (each_bool _ (λ z. subst Never (sym (either_eta (means e x (Stat None) [] z))) (a.1.0.0 first [] z)) (λ z. subst Never (sym (either_eta (means e y (Stat None) [] z))) (a.1.1.0.0 second [] z))))
  node_ends shape.TryStatement xs n (b ▸ (c ▸ (f ▸ none))) a h r s =
      subst Never (sym (finished e (named shape.TryStatement xs n (b ▸ (c ▸ (f ▸ none)))) try_demand (λ i r z. meaning e (b ▸ (c ▸ (f ▸ none))) i (try_demand i) r z) None try_step s ∙ finish_none _))
      (try_ends xs n b c f a.0.0 a.1.0.1 a.1.1.0.0 (or_split (is_terminated f) (is_terminated b && is_terminated c) h) s)
  node_ends shape.CatchClause xs n ts a h r s = tt
  node_ends k xs n ts a h r s = absurd (true≢false (sym h))

  handler_ends : (h : Shape) (xs : List Name) (n : ℕ) (ts : Trees) → AllEnd ts → HandlerEnds (node h xs n ts)
  unfolding means step
  handler_ends shape.ReturnStatement xs n ts a h v s = tt
  handler_ends shape.ThrowStatement xs n ts a h v s = tt
  handler_ends shape.BreakStatement xs n ts a h v s = tt
  handler_ends shape.ContinueStatement xs n ts a h v s = tt
  handler_ends shape.Listed xs n ts a h v s = tt
  handler_ends shape.BlockStatement xs n ts a h v s = tt
  handler_ends shape.IfStatement xs n ts a h v s = tt
  handler_ends shape.TryStatement xs n ts a h v s = tt
  handler_ends shape.CatchClause xs n (p ▸ (b ▸ none)) a h v s = catch_ends xs n p b (a.1.0.0 h) v s
  handler_ends k xs n ts a h v s = absurd (true≢false (sym h))

  mutual
    pub ended_tree : (t : Tree) → Ends t
    ended_tree (node h xs n ts) = node_ends h xs n ts (ended_trees ts)

    ended_handler : (t : Tree) → HandlerEnds t
    ended_handler (node h xs n ts) = handler_ends h xs n ts (ended_trees ts)

    ended_trees : (ts : Trees) → AllEnd ts
    ended_trees none = tt
    ended_trees (t ▸ ts) = ((ended_tree t, ended_handler t), ended_trees ts)

pub terminated_never_ends : TerminatedNeverEnds
terminated_never_ends t h e r s z k = subst Never k (ended_tree e t h r s)
