-- What each node does of what its children do, and so of the whole tree: one induction for all the terms.
use Rattle.std.proofs.Common.{◌≡◌, ℕ, zero, suc, Bool, true, false, List, [], ◌∷◌, refl, sym, subst}
use Rattle.mini_model.specs.declared.shape.Shape.{Shape}
use Rattle.mini_model.specs.declared.name.Name.{Name}
use Rattle.mini_model.specs.Tree.{Tree, Trees, node, none, ◌▸◌}
use Rattle.mini_laws.specs.Value.{Value, truth, choose, variables}
use Rattle.mini_laws.specs.State.{Label, Given, Answer, State, Stop, Completion, ok, stop, halt, out, done, ended, either, Environment}
use Rattle.mini_laws.specs.Demand.{Val, Test, Demand, As, OfType, Parts, Texts, Request, Reply}
use Rattle.mini_laws.specs.Command.{Naming, Op, event, Got, Gets, Command, ret, fails, stuck, op, kid, bind, shift, Kids, act, run, hear, Heard, hears, breaks, nonsense, heard, answered}
use Rattle.mini_laws.specs.Naming.{kinds, summaries, facts, naming}
use Rattle.mini_laws.specs.Asking.{demand}
use Rattle.mini_laws.specs.Step.{step, means, meaning}
use Rattle.mini_laws.specs.Truth.{told}
use Rattle.mini_laws.proofs.Truth.{coherent}
use Rattle.mini_terms.specs.Sound.{Gives}

pub gives_any : {A : Type 0} (x : Completion A) → Gives (λ a. Unit {0}) x
unfolding Gives
gives_any (ok a s) = tt
gives_any (stop x s) = tt
gives_any (halt x s) = tt
gives_any out = tt

pub gives_map : {A : Type 0} (P Q : A → Type 0) → ((a : A) → P a → Q a) → (x : Completion A) → Gives P x → Gives Q x
unfolding Gives
gives_map P Q f (ok a s) p = f a p
gives_map P Q f (stop x s) p = tt
gives_map P Q f (halt x s) p = tt
gives_map P Q f out p = tt

gives_either : {A B : Type 0} (P : A → Type 0) (Q : B → Type 0) (x : Completion A) (f : A → State → Completion B) (h : Stop → State → Completion B) → Gives P x → ((a : A) → P a → (s : State) → Gives Q (f a s)) → ((y : Stop) (s : State) → Gives Q (h y s)) → Gives Q (either x f h)
unfolding Gives either
gives_either P Q (ok a s) f h p u v = u a p s
gives_either P Q (stop y s) f h p u v = v y s
gives_either P Q (halt y s) f h p u v = tt
gives_either P Q out f h p u v = tt

-- what is known of what an action gives: of an event, that an answer can tell it
abbrev pub Told : (o : Op) → Gets o → Type 0
Told (event l t vs) a = (g : Given) × (hear l g ≡ hears a)
Told o a = Unit {0}

-- what a command replies, where this is known of the replies of the children
unfoldable pub Yields : {q : ℕ → Demand} {A : Type 0} → ((i : ℕ) (r : Request (q i)) → Reply (q i) r → Type 0) → (A → Type 0) → Command q A → Type 0
Yields ks P (ret a) = P a
Yields ks P (fails x) = Unit {0}
Yields ks P stuck = Unit {0}
Yields ks P (op o k) = ((a : Gets o) → Told o a → Yields ks P (k (done a))) × ((x : Stop) → Yields ks P (k (ended x)))
Yields ks P (kid i r k) = ((a : Reply _ r) → ks i r a → Yields ks P (k (done a))) × ((x : Stop) → Yields ks P (k (ended x)))

module _ (e : Environment) (names : Naming) where
  gives_heard : (l : Label) (g : Given) (s : State) → Gives (λ a. (g : Given) × (hear l g ≡ hears a)) (heard (hear l g) s)
  unfolding Gives heard
  gives_heard l g s = go (hear l g) refl
    where
      go : (k : Heard (Got l)) → hear l g ≡ k → Gives (λ a. (g : Given) × (hear l g ≡ hears a)) (heard k s)
      go (hears a) h = (g, h)
      go (breaks x) h = tt
      go nonsense h = tt

  gives_answered : (l : Label) (as' : List Answer) (s : State) → Gives (λ a. (g : Given) × (hear l g ≡ hears a)) (answered e l as' s)
  unfolding Gives answered
  gives_answered l [] s = tt
  gives_answered l (a ∷ rest) s = gives_heard l a.given _

  gives_act : (o : Op) (s : State) → Gives (Told o) (act e names o s)
  unfolding act
  gives_act (event l t vs) s = gives_answered l s.answers _
  gives_act o s = gives_any (act e names o s)

  pub gives_run : {q : ℕ → Demand} {A : Type 0} (K : Kids q) (ks : (i : ℕ) (r : Request (q i)) → Reply (q i) r → Type 0) (P : A → Type 0) → ((i : ℕ) (r : Request (q i)) (s : State) → Gives (ks i r) (K i r s)) → (c : Command q A) → Yields ks P c → (s : State) → Gives P (run e names K c s)
  unfolding Gives Yields
  gives_run K ks P g (ret a) y s = y
  gives_run K ks P g (fails x) y s = tt
  gives_run K ks P g stuck y s = tt
  gives_run K ks P g (op o k) y s = gives_either (Told o) P (act e names o s) _ _ (gives_act o s) (λ a t z. gives_run K ks P g (k (done a)) (y.0 a t) z) (λ x z. gives_run K ks P g (k (ended x)) (y.1 x) z)
  gives_run K ks P g (kid i r k) y s = gives_either (ks i r) P (K i r s) _ _ (g i r s) (λ a t z. gives_run K ks P g (k (done a)) (y.0 a t) z) (λ x z. gives_run K ks P g (k (ended x)) (y.1 x) z)

yields_any : {q : ℕ → Demand} {A : Type 0} (ks : (i : ℕ) (r : Request (q i)) → Reply (q i) r → Type 0) (c : Command q A) → Yields ks (λ a. Unit {0}) c
unfolding Yields
yields_any ks (ret a) = tt
yields_any ks (fails x) = tt
yields_any ks stuck = tt
yields_any ks (op o k) = (λ a t. yields_any ks (k (done a)), λ x. yields_any ks (k (ended x)))
yields_any ks (kid i r k) = (λ a t. yields_any ks (k (done a)), λ x. yields_any ks (k (ended x)))

pub yields_all : {q : ℕ → Demand} {A : Type 0} (ks : (i : ℕ) (r : Request (q i)) → Reply (q i) r → Type 0) (P : A → Type 0) → ((a : A) → P a) → (c : Command q A) → Yields ks P c
unfolding Yields
yields_all ks P f (ret a) = f a
yields_all ks P f (fails x) = tt
yields_all ks P f stuck = tt
yields_all ks P f (op o k) = (λ a t. yields_all ks P f (k (done a)), λ x. yields_all ks P f (k (ended x)))
yields_all ks P f (kid i r k) = (λ a t. yields_all ks P f (k (done a)), λ x. yields_all ks P f (k (ended x)))

pub yields_bind : {q : ℕ → Demand} {A B : Type 0} (ks : (i : ℕ) (r : Request (q i)) → Reply (q i) r → Type 0) (P : A → Type 0) (Q : B → Type 0) (c : Command q A) (f : A → Command q B) → Yields ks P c → ((a : A) → P a → Yields ks Q (f a)) → Yields ks Q (bind c f)
unfolding Yields
yields_bind ks P Q (ret a) f y g = g a y
yields_bind ks P Q (fails x) f y g = tt
yields_bind ks P Q stuck f y g = tt
yields_bind ks P Q (op o k) f y g = (λ a t. yields_bind ks P Q (k (done a)) f (y.0 a t) g, λ x. yields_bind ks P Q (k (ended x)) f (y.1 x) g)
yields_bind ks P Q (kid i r k) f y g = (λ a t. yields_bind ks P Q (k (done a)) f (y.0 a t) g, λ x. yields_bind ks P Q (k (ended x)) f (y.1 x) g)

pub yields_shift : (q : ℕ → Demand) {A : Type 0} (ks : (i : ℕ) (r : Request (q i)) → Reply (q i) r → Type 0) (P : A → Type 0) (c : Command (λ i. q (suc i)) A) → Yields (λ i. ks (suc i)) P c → Yields ks P (shift {q = q} c)
unfolding Yields
yields_shift q ks P (ret a) y = y
yields_shift q ks P (fails x) y = tt
yields_shift q ks P stuck y = tt
yields_shift q ks P (op o k) y = (λ a t. yields_shift q ks P (k (done a)) (y.0 a t), λ x. yields_shift q ks P (k (ended x)) (y.1 x))
yields_shift q ks P (kid i r k) y = (λ a t. yields_shift q ks P (k (done a)) (y.0 a t), λ x. yields_shift q ks P (k (ended x)) (y.1 x))

pub yields_choose : {q : ℕ → Demand} {A : Type 0} (ks : (i : ℕ) (r : Request (q i)) → Reply (q i) r → Type 0) (P : A → Type 0) (b : Bool) (c d : Command q A) → (b ≡ true → Yields ks P c) → (b ≡ false → Yields ks P d) → Yields ks P (choose b c d)
yields_choose ks P true c d y z = y refl
yields_choose ks P false c d y z = z refl

-- facts of values: each tree has one, and each says something of the value
pub record Facts' : Type 1 where
  pub Fact : Type 0
  pub top : Fact
  pub fact : Tree → Fact
  pub Is : Fact → Value → Type 0
  pub any : (v : Value) → Is top v
  -- and of the texts of a template's parts
  pub AreTexts : Tree → List (List ℕ) → Type 0

module _ (F : Facts') where
  -- of what is replied where this is asked
  abbrev pub Claim : F.Fact → (List (List ℕ) → Type 0) → (q : Demand) (r : Request q) → Reply q r → Type 0
  Claim d t (As Val) r v = F.Is d v
  Claim d t (As Test) r b = (v : Value) × (F.Is d v × (truth v ≡ b))
  Claim d t (Parts Val) r v = F.Is d v
  Claim d t Texts r ss = t ss
  Claim d t OfType r v = F.Is d v
  Claim d t q r a = Unit {0}

  abbrev pub fact_at : Trees → ℕ → F.Fact
  fact_at none i = F.top
  fact_at (t ▸ ts) zero = F.fact t
  fact_at (t ▸ ts) (suc i) = fact_at ts i

  abbrev pub texts_at : Trees → ℕ → List (List ℕ) → Type 0
  texts_at none i ss = Unit {0}
  texts_at (t ▸ ts) zero ss = F.AreTexts t ss
  texts_at (t ▸ ts) (suc i) ss = texts_at ts i ss

  abbrev pub Claims : Trees → (σ : ℕ → Demand) (i : ℕ) (r : Request (σ i)) → Reply (σ i) r → Type 0
  Claims ts σ i r a = Claim (fact_at ts i) (texts_at ts i) (σ i) r a

  abbrev pub NodeYields : (q : Demand) (r : Request q) (h : Shape) → List Name → ℕ → Trees → Type 0
  NodeYields q r h xs n ts = Yields {q = demand h (facts ts) q} (Claims ts (demand h (facts ts) q)) (Claim (F.fact (node h xs n ts)) (F.AreTexts (node h xs n ts)) q r) (step h (kinds xs) (facts ts) q r)

  -- the table of the shapes
  pub record Table : Type 0 where
    pub value : (h : Shape) (xs : List Name) (n : ℕ) (ts : Trees) → NodeYields (As Val) tt h xs n ts
    pub last : (h : Shape) (xs : List Name) (n : ℕ) (ts : Trees) → NodeYields (Parts Val) tt h xs n ts
    pub texts : (h : Shape) (xs : List Name) (n : ℕ) (ts : Trees) → NodeYields Texts tt h xs n ts
    pub of_type : (h : Shape) (xs : List Name) (n : ℕ) (ts : Trees) → NodeYields OfType tt h xs n ts

  module _ (T : Table) (e : Environment) where
    abbrev pub AllGive : Trees → Type 0
    AllGive ts = (i : ℕ) (q : Demand) (r : Request q) (s : State) → Gives (Claim (fact_at ts i) (texts_at ts i) q r) (meaning e ts i q r s)

    told_gives : (d : F.Fact) (x : Completion Value) → Gives (F.Is d) x → Gives (λ b. (v : Value) × (F.Is d v × (truth v ≡ b))) (told Test x)
    unfolding Gives told either
    told_gives d (ok v s) p = (v, (p, refl))
    told_gives d (stop y s) p = tt
    told_gives d (halt y s) p = tt
    told_gives d out p = tt

    by_step : (q : Demand) (r : Request q) (h : Shape) (xs : List Name) (n : ℕ) (ts : Trees) → AllGive ts → NodeYields q r h xs n ts → (s : State) → Gives (Claim (F.fact (node h xs n ts)) (F.AreTexts (node h xs n ts)) q r) (means e (node h xs n ts) q r s)
    unfolding means
    by_step q r h xs n ts all y s =
        gives_run e (naming h q (variables xs) n (summaries ts)) {q = demand h (facts ts) q} (λ i r' s'. meaning e ts i (demand h (facts ts) q i) r' s') (Claims ts (demand h (facts ts) q)) (Claim (F.fact (node h xs n ts)) (F.AreTexts (node h xs n ts)) q r) (λ i r' z. all i (demand h (facts ts) q i) r' z) (step h (kinds xs) (facts ts) q r) y s

    by_node : (h : Shape) (xs : List Name) (n : ℕ) (ts : Trees) → AllGive ts → (q : Demand) (r : Request q) (s : State) → Gives (Claim (F.fact (node h xs n ts)) (F.AreTexts (node h xs n ts)) q r) (means e (node h xs n ts) q r s)
    by_node h xs n ts all (As Val) r s = by_step (As Val) tt h xs n ts all (T.value h xs n ts) s
    by_node h xs n ts all (As Test) r s = subst (Gives (λ b. (v : Value) × (F.Is (F.fact (node h xs n ts)) v × (truth v ≡ b)))) (sym (coherent (node h xs n ts) Test e s)) (told_gives (F.fact (node h xs n ts)) _ (by_step (As Val) tt h xs n ts all (T.value h xs n ts) s))
    by_node h xs n ts all (Parts Val) r s = by_step (Parts Val) tt h xs n ts all (T.last h xs n ts) s
    by_node h xs n ts all Texts r s = by_step Texts tt h xs n ts all (T.texts h xs n ts) s
    by_node h xs n ts all OfType r s = by_step OfType tt h xs n ts all (T.of_type h xs n ts) s
    by_node h xs n ts all q r s = gives_any (means e (node h xs n ts) q r s)

    mutual
      unfolding meaning Gives

      pub tree_gives : (t : Tree) (q : Demand) (r : Request q) (s : State) → Gives (Claim (F.fact t) (F.AreTexts t) q r) (means e t q r s)
      tree_gives (node h xs n ts) q r s = by_node h xs n ts (trees_give ts) q r s

      pub trees_give : (ts : Trees) → AllGive ts
      trees_give none i q r s = tt
      trees_give (t ▸ ts) zero q r s = tree_gives t q r s
      trees_give (t ▸ ts) (suc i) q r s = trees_give ts i q r s
