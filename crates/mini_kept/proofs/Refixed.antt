-- A body does the same whatever a write of a variable does that it doesn't mention.
use Rattle.std.specs.Prelude.{ℕ, zero, suc, ◌≡◌, refl, ◌⊎◌, Bool, true, false, List, [], ◌∷◌, ◌++◌, Some, None, Contains}
use Rattle.std.proofs.Common.{◌∙◌, sym, subst, inl, inr, arith, true≢false}
use Rattle.std.proofs.lemmas.Bool.{eq-eqb}
use Rattle.std.proofs.lemmas.List.Elements.{Contains-append_cases}
use Rattle.mini_model.specs.declared.shape.Shape.{Shape}
use Rattle.mini_model.specs.declared.shape.Shape.TheVariants as shape
use Rattle.mini_model.specs.Tree.{Tree, Trees, node, none, ◌▸◌, child_or_absent}
use Rattle.mini_laws.specs.Value.{Variable, Declared, Global, VariableSet, Value, Slot, Holds, Missing, Uninitialised, variables, variable_eq, nth, nothing}
use Rattle.mini_laws.specs.State.{Label, ReferenceError, Raise, ThisOf, BindOf, Item, Answer, State, Completion, ok, stop, halt, out, Writing, Environment}
use Rattle.mini_laws.specs.Demand.{Demand, Target, Binds, Request, Declares, Heads}
use Rattle.mini_laws.specs.Command.{Naming, Op, read, read_typeof, fixity, write, init, init_function, hide, copy, event, bind_names, self, turn, fuel, act, answered, answered_binds, note, number_of, copies, fresh_note, read_name, this_of}
use Rattle.mini_laws.specs.Naming.{written_of}
use Rattle.mini_laws.specs.Step.{means}
use Rattle.mini_laws.specs.Body.{BodyKind, Outcome, body_demand, body_request, outcome_of_reply, ran, ends_as, start_of, Run}
use Rattle.mini_laws.specs.Same.{Relation, Goes}
use Rattle.mini_laws.specs.Skeleton.{Rules, Sound}
use Rattle.mini_laws.specs.Congruence.{NoneIn, Avoids, AllAvoid}
use Rattle.mini_laws.specs.Substitution.{alone}
use Rattle.mini_laws.specs.Bodies.{Around, below, Body, body_of, bodies, bodies_from}
use Rattle.mini_kept.proofs.SameScopes.{text_itself}
use Rattle.mini_laws.proofs.Congruent.{plain_goes}
use Rattle.mini_laws.proofs.Dead.{at_goes, self_goes}

-- ---- a set of variables that a tree avoids one by one

itself : (x : Variable) → variable_eq x x ≡ true
itself (Declared k) = eq-eqb k k refl
itself (Global s) = text_itself s

none_all : (D : VariableSet) (xs : List Variable) → ((x : Variable) → D x ≡ true → NoneIn (alone x) xs) → NoneIn D xs
none_all D [] f = tt
none_all D (y ∷ ys) f = (by (D y) refl, none_all D ys (λ x d. (f x d).1))
  where
    by : (b : Bool) → D y ≡ b → D y ≡ false
    by true q = absurd (true≢false (sym (itself y) ∙ (f y q).0))
    by false q = q

mutual
  pub avoids_all : (D : VariableSet) (t : Tree) → ((x : Variable) → D x ≡ true → Avoids (alone x) t) → Avoids D t
  avoids_all D (node h xs n ts) f = (none_all D (variables xs) (λ x d. (f x d).0), all_avoid_all D ts (λ x d. (f x d).1))

  all_avoid_all : (D : VariableSet) (ts : Trees) → ((x : Variable) → D x ≡ true → AllAvoid (alone x) ts) → AllAvoid D ts
  all_avoid_all D none f = tt
  all_avoid_all D (t ▸ ts) f = (avoids_all D t (λ x d. (f x d).0), all_avoid_all D ts (λ x d. (f x d).1))

-- ---- bodies of a tree that avoids them

module _ (D : VariableSet) where
  child_avoids : (ts : Trees) → AllAvoid D ts → (i : ℕ) → Avoids D (child_or_absent ts i)
  child_avoids none v i = (tt, tt)
  child_avoids (t ▸ ts) v zero = v.0
  child_avoids (t ▸ ts) v (suc i) = child_avoids ts v.1 i

  abbrev pub RootsAvoid : List Body → Type 0
  RootsAvoid bs = (c : Body) → Contains bs c → Avoids D c.root

  one_root : (b : Body) → Avoids D b.root → RootsAvoid (b ∷ [])
  one_root b v c (zero, less, at) = subst (λ x. Avoids D x.root) at v
  one_root b v c (suc i, less, at) = absurd (omega (arith, less))

  no_root : RootsAvoid []
  no_root c (i, less, at) = absurd (omega (arith, less))

  both_roots : (bs cs : List Body) → RootsAvoid bs → RootsAvoid cs → RootsAvoid (bs ++ cs)
  both_roots bs cs f g c x = by (Contains-append_cases bs cs c x)
    where
      by : Contains bs c ⊎ Contains cs c → Avoids D c.root
      by (inl y) = f c y
      by (inr y) = g c y

  own_root : (a : Around) (h : Shape) (n : ℕ) (t : Tree) (ts : Trees) → Avoids D t → AllAvoid D ts → RootsAvoid (body_of a h n t ts)
  own_root a (shape.Program m ds) n t ts v w = one_root _ v
  own_root a (shape.Function d g ds) n t ts v w = one_root _ (child_avoids ts w 2)
  own_root a (shape.ArrowFunctionExpression ds) n t ts v w = one_root _ (child_avoids ts w 1)
  own_root a shape.StaticBlock n t ts v w = one_root _ v
  own_root a shape.InnerExpression n t ts v w = one_root _ v
  own_root a h n t ts v w = no_root

  mutual
    pub roots_avoid : (a : Around) (t : Tree) → Avoids D t → RootsAvoid (bodies a t)
    roots_avoid a (node h xs n ts) v = both_roots (body_of a h n (node h xs n ts) ts) (bodies_from (below a h ts) 0 ts) (own_root a h n (node h xs n ts) ts v v.1) (all_roots_avoid (below a h ts) 0 ts v.1)

    all_roots_avoid : (α : ℕ → Around) (i : ℕ) (ts : Trees) → AllAvoid D ts → RootsAvoid (bodies_from α i ts)
    all_roots_avoid α i none v = no_root
    all_roots_avoid α i (t ▸ ts) v = both_roots (bodies (α i) t) (bodies_from α (suc i) ts) (roots_avoid (α i) t v.0) (all_roots_avoid α (suc i) ts v.1)

-- ---- two environments in which other variables are written alike

module _ (e : Environment) (f : Variable → Writing) (D : VariableSet) (alike : (x : Variable) → D x ≡ false → e.fixed x ≡ f x) where
  abbrev e' : Environment
  e' = record { shared = e.shared; foreign = e.foreign; fixed = f; asks_this = e.asks_this }

  abbrev Equal : Relation
  Equal s t = s ≡ t

  abbrev Go : {A : Type 0} → Completion A → Completion A → Type 0
  Go x y = Goes false (λ a. Equal) Equal Equal x y

  go_itself : {A : Type 0} (x : Completion A) → Go x x
  unfolding Goes
  go_itself (ok a s) = (refl, refl)
  go_itself (stop a s) = (refl, refl)
  go_itself (halt a s) = (refl, refl)
  go_itself out = tt

  go_same : {A : Type 0} (x y : Completion A) → x ≡ y → Go x y
  go_same x y p = subst (Go x) p (go_itself x)

  answered_same : (l : Label) (rest : List Answer) (s : State) → answered e l rest s ≡ answered e' l rest s
  unfolding answered
  answered_same l [] s = refl
  answered_same l (a ∷ rest) s = refl

  binds_same : (xs : List Variable) (rest : List Answer) (s : State) → answered_binds e xs rest s ≡ answered_binds e' xs rest s
  unfolding answered_binds
  binds_same xs [] s = refl
  binds_same xs (a ∷ rest) s = refl

  name_same : (x : Variable) (v : Slot) (s : State) → read_name e x v s ≡ read_name e' x v s
  name_same (Declared n) v s = refl
  name_same (Global y) (Holds v) s = refl
  name_same (Global y) Missing s = answered_same (Raise ReferenceError) s.answers (note e (Raise ReferenceError) None [] None s)
  name_same (Global y) Uninitialised s = refl

  this_same : (b : Bool) (s : State) → this_of e b s ≡ this_of e' b s
  unfolding this_of
  this_same true s = answered_same ThisOf s.answers (note e ThisOf None [] None s)
  this_same false s = refl

  copies_same : (xs : List Variable) (s : State) → copies e xs s ≡ copies e' xs s
  copies_same [] s = refl
  copies_same (x ∷ xs) s = copies_same xs (fresh_note e x s)

  record Alike (names names' : Naming) : Type 0 where
    equal : names ≡ names'
    live : NoneIn D names.written

  none_nth : (xs : List Variable) (i : ℕ) (x : Variable) → NoneIn D xs → nth xs i ≡ Some x → D x ≡ false
  none_nth [] i x h e = cc
  none_nth (y ∷ ys) zero x h e = let p : y ≡ x = cc in subst (λ z. D z ≡ false) p h.0
  none_nth (y ∷ ys) (suc i) x h e = none_nth ys i x h.1 e

  refixed_rules : Rules
  refixed_rules = record { weak = false; left = e; right = e'; A = Equal; N = Alike }

  acts_same : (names : Naming) → NoneIn D names.written → (o : Op) (s : State) → Go (act e names o s) (act e' names o s)
  unfolding act Goes
  acts_same names live (read i) s = at_goes false Equal (nth names.own i) (λ x. read_name e x (s.vars x) s) (λ x. read_name e' x (s.vars x) s) (λ x u. go_same _ _ (name_same x (s.vars x) s))
  acts_same names live (read_typeof i) s = go_itself (act e names (read_typeof i) s)
  acts_same names live (fixity i) s = at_goes false Equal (nth names.written i) (λ x. ok (e.fixed x) s) (λ x. ok (f x) s) (λ x u. (alike x (none_nth names.written i x live u), refl))
  acts_same names live (write i v) s = go_itself (act e names (write i v) s)
  acts_same names live (init i v) s = go_itself (act e names (init i v) s)
  acts_same names live (init_function b i v) s = go_itself (act e names (init_function b i v) s)
  acts_same names live hide s = go_itself (act e names hide s)
  acts_same names live copy s = (refl, copies_same names.scope s)
  acts_same names live (event l tag vs) s = go_same (act e names (event l tag vs) s) (act e' names (event l tag vs) s) (answered_same l s.answers (note e l (number_of names tag) vs None s))
  acts_same names live (bind_names v) s = go_same (act e names (bind_names v) s) (act e' names (bind_names v) s) (binds_same names.bound s.answers (note e BindOf (Some names.number) (Item v ∷ []) None s))
  acts_same names live self s = go_same (act e names self s) (act e' names self s) (this_same e.asks_this s)
  acts_same names live turn s = go_itself (act e names turn s)
  acts_same names live fuel s = go_itself (act e names fuel s)

  sound : Sound refixed_rules
  unfolding refixed_rules
  sound = record { acts = λ names names' nr o s t h. subst (λ t. Go (act e names o s) (act e' names' o t)) h (subst (λ m. Go (act e names o s) (act e' m o s)) nr.equal (acts_same names nr.live o s)) }

  written_none : (h : Shape) (q : Demand) (xs : List Variable) → NoneIn D xs → NoneIn D (written_of h q xs)
  written_none shape.Identifier Target xs v = v
  written_none shape.BindingIdentifier (Binds lexical) xs v = v
  written_none shape.VariableDeclarator (Declares true) xs v = tt
  written_none shape.VariableDeclarator (Declares false) xs v = v
  written_none shape.VariableDeclarator Heads xs v = v
  written_none h q xs v = tt

  means_same : (n : Tree) → Avoids D n → (q : Demand) (r : Request q) (s : State) → Go (means e n q r s) (means e' n q r s)
  unfolding refixed_rules
  means_same n v q r s =
      plain_goes refixed_rules q n n
      (self_goes refixed_rules sound (λ q n. Avoids D n) (λ σ ts. AllAvoid D ts) (λ h q xs n ts a. record { equal = refl; live = written_none h q (variables xs) a.0 }) (λ h q xs n ts a. a.1) (λ σ t ts a. a.0) (λ σ t ts a. a.1) n nothing q v)
      r s s refl

  ends_same : {A : Type 0} (g : A → Outcome) (x y : Completion A) → Go x y → ends_as e g x ≡ ends_as e' g y
  unfolding Goes
  ends_same g (ok a s) (ok b t) p = λ i. ran e (g (p.0 i)) (p.1 i)
  ends_same g (stop a s) (stop b t) p = λ i. ends_as e g (stop (p.0 i) (p.1 i))
  ends_same g (halt a s) (halt b t) p = λ i. ends_as e g (halt (p.0 i) (p.1 i))
  ends_same g out out p = refl
  ends_same g x y p = absurd p

  -- a run is the same in both
  pub refixed : (k : BodyKind) (n : Tree) → Avoids D n → (vars : Variable → Slot) (this : Value) (answers : List Answer) (turns : ℕ) → Run e k n vars this answers turns ≡ Run e' k n vars this answers turns
  refixed k n v vars this answers turns = ends_same (outcome_of_reply k) _ _ (means_same n v (body_demand k) (body_request k) (start_of vars this answers turns))
