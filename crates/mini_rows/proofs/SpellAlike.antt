-- Trees that do the same whatever is asked of them, commands that do the same over two families of children, and nodes over
-- children that do the same.
use Rattle.std.proofs.Common.{◌≡◌, ℕ, zero, suc, Bool, true, false, List, ◌∷◌, refl, sym, ap, ◌∙◌}
use Rattle.mini_model.specs.declared.name.Name.{Name}
use Rattle.mini_model.specs.declared.shape.Shape.{Shape}
use Rattle.mini_model.specs.Tree.{Tree, Trees, node, ◌▸◌}
use Rattle.mini_laws.specs.Value.{Value, choose, variables}
use Rattle.mini_laws.specs.State.{State, Completion, stop, done, ended, either, Environment}
use Rattle.mini_laws.specs.Demand.{Demand, As, Callee, OfType, Deleted, AnEntry, Request, Reply}
use Rattle.mini_laws.specs.Command.{Naming, Command, ret, fails, stuck, op, kid, bind, Kids, act, run}
use Rattle.mini_laws.specs.Naming.{Summary, summary, summaries, summary_of, facts_all, kinds, naming}
use Rattle.mini_laws.specs.Replies.{reply, valued}
use Rattle.mini_laws.specs.Asking.{demand}
use Rattle.mini_laws.specs.Step.{step, means, meaning}
use Rattle.mini_laws.proofs.Runs.{either_cong, run_bind}

-- in any environment
pub record SameTree (n w : Tree) : Type 0 where
  pub by : (e : Environment) (q : Demand) (r : Request q) (s : State) → means e n q r s ≡ means e w q r s
  pub read : summary n ≡ summary w

-- Commands over two families of children

module _ (e : Environment) (names : Naming) (q : ℕ → Demand) (K L : Kids q) where
  abbrev pub Alike : {A : Type 0} → Command q A → Command q A → Type 0
  Alike c d = (z : State) → run {q = q} e names K c z ≡ run {q = q} e names L d z

  pub bind_alike : {A B : Type 0} (c d : Command q A) (f g : A → Command q B) → Alike c d → ((a : A) → Alike (f a) (g a)) → Alike (bind c f) (bind d g)
  bind_alike c d f g h k z =
      run_bind e names c f K z
      ∙ ap (λ x. either x (λ a z. run {q = q} e names K (f a) z) (λ x z. stop x z)) (h z)
      ∙ either_cong (run {q = q} e names L d z) _ _ _ _ (λ a y. k a y) (λ x y. refl)
      ∙ sym (run_bind e names d g L z)

  pub choose_alike : {A : Type 0} (b : Bool) (c c' d d' : Command q A) → Alike c d → Alike c' d' → Alike (choose b c c') (choose b d d')
  choose_alike true c c' d d' h k = h
  choose_alike false c c' d d' h k = k

  pub valued_alike : (p : Demand) (r : Request p) (c d : Command q Value) → Alike c d → Alike (valued p r c) (valued p r d)
  valued_alike (As w) r c d h = bind_alike c d (reply (As w) r) (reply (As w) r) h (λ v z. refl)
  valued_alike Callee r c d h = bind_alike c d (reply Callee r) (reply Callee r) h (λ v z. refl)
  valued_alike OfType r c d h = bind_alike c d (reply OfType r) (reply OfType r) h (λ v z. refl)
  valued_alike Deleted r c d h = bind_alike c d (reply Deleted r) (reply Deleted r) h (λ v z. refl)
  valued_alike AnEntry r c d h = bind_alike c d (reply AnEntry r) (reply AnEntry r) h (λ v z. refl)
  valued_alike p r c d h = λ z. refl

-- Nodes over children that do the same

-- a command over them
pub run_kids : (e : Environment) (names : Naming) {q : ℕ → Demand} {A : Type 0} (c : Command q A) (K L : Kids q) → ((i : ℕ) (r : Request (q i)) (s : State) → K i r s ≡ L i r s) → (s : State) → run e names K c s ≡ run e names L c s
run_kids e names (ret a) K L h s = refl
run_kids e names (fails x) K L h s = refl
run_kids e names stuck K L h s = refl
run_kids e names (op o k) K L h s = either_cong (act e names o s) _ _ _ _ (λ a z. run_kids e names (k (done a)) K L h z) (λ x z. run_kids e names (k (ended x)) K L h z)
run_kids e names (kid i r k) K L h s =
    ap (λ y. either y (λ a z. run e names K (k (done a)) z) (λ x z. run e names K (k (ended x)) z)) (h i r s)
    ∙ either_cong (L i r s) _ _ _ _ (λ a z. run_kids e names (k (done a)) K L h z) (λ x z. run_kids e names (k (ended x)) K L h z)

by_summaries : (e : Environment) (h : Shape) (xs : List Name) (n : ℕ) (K : (i : ℕ) (q : Demand) (r : Request q) → State → Completion (Reply q r)) (q : Demand) (r : Request q) (s : State) → List Summary → Completion (Reply q r)
by_summaries e h xs n K q r s is = run e (naming h q (variables xs) n is) (λ i r' z. K i (demand h (facts_all is) q i) r' z) (step h (kinds xs) (facts_all is) q r) s

pub kids_same : (h : Shape) (xs : List Name) (n : ℕ) (ts us : Trees) → summaries ts ≡ summaries us → ((e : Environment) (i : ℕ) (q : Demand) (r : Request q) (s : State) → meaning e ts i q r s ≡ meaning e us i q r s) → SameTree (node h xs n ts) (node h xs n us)
unfolding means by_summaries
kids_same h xs n ts us u k = record {
  by = λ e q r s. ap (by_summaries e h xs n (meaning e ts) q r s) u ∙ run_kids e (naming h q (variables xs) n (summaries us)) (step h (kinds xs) (facts_all (summaries us)) q r) _ _ (λ i r' z. k e i (demand h (facts_all (summaries us)) q i) r' z) s;
  read = ap (summary_of h (variables xs) n) u;
}

first_does : (t u : Tree) (post : Trees) → SameTree t u → (e : Environment) (i : ℕ) (q : Demand) (r : Request q) (s : State) → meaning e (t ▸ post) i q r s ≡ meaning e (u ▸ post) i q r s
unfolding meaning
first_does t u post h e zero q r s = h.by e q r s
first_does t u post h e (suc i) q r s = refl

-- a node whose first child does the same
pub first_same : (h : Shape) (xs : List Name) (n : ℕ) (t u : Tree) (post : Trees) → SameTree t u → SameTree (node h xs n (t ▸ post)) (node h xs n (u ▸ post))
first_same h xs n t u post same = kids_same h xs n (t ▸ post) (u ▸ post) (ap (λ x. x ∷ summaries post) same.read) (first_does t u post same)
