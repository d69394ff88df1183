-- A node may be replaced at a place.
use Rattle.std.proofs.Common.{◌≡◌, ℕ, suc, Bool, true, false, List, [], ◌∷◌, Option, Some, None, refl, sym, ap, ◌∙◌, inl, inr, true≢false}
use Rattle.std.specs.Prelude.{◌⊎◌, reverse}
use Rattle.mini_model.specs.Tree.{Tree, Trees, node, none, ◌▸◌, count}
use Rattle.mini_laws.specs.Value.{Variable, VariableSet, variables, nothing}
use Rattle.mini_laws.specs.State.{State, Completion, ok, stop, halt, out, Environment, seen}
use Rattle.mini_laws.specs.Demand.{Demand, Request}
use Rattle.mini_laws.specs.Naming.{summary, summaries, facts}
use Rattle.mini_laws.specs.Asking.{demand}
use Rattle.mini_laws.specs.Step.{means}
use Rattle.mini_laws.specs.Body.{Outcome, body_demand, body_request, outcome_of_reply, outcome_of_stop, outcome_of_halt, ran, ends_as, start_of}
use Rattle.mini_laws.specs.Same.{Goes, Initialised, Agree, Same}
use Rattle.mini_laws.specs.Skeleton.{Within, Off, hidden, hidden_all, needs, Rules, Both, TreesGo}
use Rattle.mini_laws.specs.Path.{Path, join, plug}
use Rattle.mini_laws.specs.Congruence as law
use Rattle.mini_laws.specs.Congruence.{NoneIn, dead_rules, Avoids, AllAvoid, PathAvoids, demand_at, known_at, ReadAlike, Apart}
use Rattle.mini_laws.specs.Sameness as order
use Rattle.mini_laws.proofs.Simulation.{goes_map, within_refl, init_less}
use Rattle.mini_laws.proofs.Fundamental.{one_node, PlaceGo, place_none, place_cons}
use Rattle.mini_laws.proofs.Dead.{seen_agree, dead_sound, dead_self, AllAlike, alike_self, all_alike_self, alike_cons, summary_alike, alive_alike}

-- what a parent reads of its children

module _ (D : VariableSet) (e : Environment) where
  pub summaries_join : (pre post : Trees) (n w : Tree) → ReadAlike D e (summary n) (summary w) → AllAlike D e (summaries (join pre n post)) (summaries (join pre w post))
  summaries_join none post n w a = alike_cons D e (summary n) (summary w) (summaries post) (summaries post) a (all_alike_self D e (summaries post))
  summaries_join (t ▸ pre) post n w a = alike_cons D e (summary t) (summary t) _ _ (alike_self D e (summary t)) (summaries_join pre post n w a)

  pub summary_plug : (k : Path) (n w : Tree) → ReadAlike D e (summary n) (summary w) → ReadAlike D e (summary (plug k n)) (summary (plug k w))
  summary_plug Path.here n w a = a
  summary_plug (Path.inside h xs m pre k post) n w a = summary_alike D e h (variables xs) m _ _ (summaries_join pre post (plug k n) (plug k w) (summary_plug k n w a))

module _ (D : VariableSet) (e : Environment) (apart : Apart e D) where
  pub kids_self : (ts : Trees) → AllAvoid D ts → (X : ℕ → VariableSet) (σ : ℕ → Demand) → PlaceGo (dead_rules D e) (dead_sound D e apart) X σ (hidden_all ts) ts ts
  kids_self none a X σ = place_none (dead_rules D e) (dead_sound D e apart) X σ
  kids_self (t ▸ ts) a X σ = place_cons (dead_rules D e) (dead_sound D e apart) t t ts ts X σ (dead_self D e apart t a.0 (X 0) (σ 0)) (kids_self ts a.1 (λ i. X (suc i)) (λ i. σ (suc i)))

  kids_join : (pre post : Trees) (n w : Tree) → AllAvoid D pre → AllAvoid D post → (X : ℕ → VariableSet) (σ : ℕ → Demand) → TreesGo (dead_rules D e) (X (count pre)) (σ (count pre)) n w → PlaceGo (dead_rules D e) (dead_sound D e apart) X σ (hidden_all (join pre n post)) (join pre n post) (join pre w post)
  kids_join none post n w a b X σ g = place_cons (dead_rules D e) (dead_sound D e apart) n w post post X σ g (kids_self post b (λ i. X (suc i)) (λ i. σ (suc i)))
  kids_join (t ▸ pre) post n w a b X σ g = place_cons (dead_rules D e) (dead_sound D e apart) t t (join pre n post) (join pre w post) X σ (dead_self D e apart t a.0 (X 0) (σ 0)) (kids_join pre post n w a.1 b (λ i. X (suc i)) (λ i. σ (suc i)) g)

  place_goes : (k : Path) (n w : Tree) → PathAvoids D k → ReadAlike D e (summary n) (summary w) → (X : VariableSet) (q : Demand) → TreesGo (dead_rules D e) (known_at k n q X) (demand_at k n q) n w → TreesGo (dead_rules D e) X q (plug k n) (plug k w)
  place_goes Path.here n w a like X q g = g
  place_goes (Path.inside h xs m pre k post) n w a like X q g =
      let alike = summaries_join D e pre post (plug k n) (plug k w) (summary_plug D e k n w like) in
      one_node (dead_rules D e) (dead_sound D e apart) h xs xs m m (join pre (plug k n) post) (join pre (plug k w) post) X q (alive_alike D e h q (variables xs) m (summaries (join pre (plug k n) post)) (summaries (join pre (plug k w) post)) a.0 alike) refl alike.facts
      (kids_join pre post (plug k n) (plug k w) a.1 a.3 (needs h q X (join pre (plug k n) post)) (demand h (facts (join pre (plug k n) post)) q)
      (place_goes k n w a.2 like (needs h q X (join pre (plug k n) post) (count pre)) (demand h (facts (join pre (plug k n) post)) q (count pre)) g))

-- states that agree

agree_trans : (D : VariableSet) (s t v : State) → Agree D s t → Agree D t v → Agree D s v
agree_trans D s t v a b = record { vars = λ x h. a.vars x h ∙ b.vars x h; self = a.self ∙ b.self; answers = a.answers ∙ b.answers; turns = a.turns ∙ b.turns; events = a.events ∙ b.events }

pub agree_refl : (D : VariableSet) (s : State) → Agree D s s
agree_refl D s = record { vars = λ x h. refl; self = refl; answers = refl; turns = refl; events = refl }

joined : {A : Type 0} (D P Q : VariableSet) (x y z : Completion A) → Goes true (λ a. Agree D) (Agree D) (Agree D) x y → Goes true (λ a. Agree D) (Agree D) (Agree D) y z → Goes true (λ a. Both (Agree nothing) P) (Both (Agree nothing) Q) (Agree nothing) x x → Goes true (λ a. Both (Agree D) P) (Both (Agree D) Q) (Agree D) x z
unfolding Goes
joined D P Q (ok a s) (ok b t) (ok c v) g h f = (g.0 ∙ h.0, (agree_trans D s t v g.1 h.1, f.1.1))
joined D P Q (stop a s) (stop b t) (stop c v) g h f = (g.0 ∙ h.0, (agree_trans D s t v g.1 h.1, f.1.1))
joined D P Q (halt a s) (halt b t) (halt c v) g h f = (g.0 ∙ h.0, agree_trans D s t v g.1 h.1)
joined D P Q out y (ok c v) g h f = tt
joined D P Q out y (stop c v) g h f = tt
joined D P Q out y (halt c v) g h f = tt
joined D P Q out y out g h f = tt
joined D P Q (ok a s) (ok b t) z g h f = absurd h
joined D P Q (stop a s) (stop b t) z g h f = absurd h
joined D P Q (halt a s) (halt b t) z g h f = absurd h
joined D P Q x y z g h f = absurd g

none_nothing : (xs : List Variable) → NoneIn nothing xs
none_nothing [] = tt
none_nothing (x ∷ xs) = (refl, none_nothing xs)

mutual
  pub avoids_nothing : (n : Tree) → Avoids nothing n
  avoids_nothing (node h xs n ts) = (none_nothing (variables xs), all_avoid_nothing ts)

  pub all_avoid_nothing : (ts : Trees) → AllAvoid nothing ts
  all_avoid_nothing none = tt
  all_avoid_nothing (t ▸ ts) = (avoids_nothing t, all_avoid_nothing ts)

pub no_init : (s : State) → Initialised nothing s
unfolding Initialised
no_init s x h = absurd (true≢false (sym h))

pub no_within : (k : VariableSet) → Within nothing k
unfolding Within
no_within k x h = absurd (true≢false (sym h))

pub no_off : (xs : List Variable) → Off xs nothing
unfolding Off
no_off xs x h = absurd (true≢false (sym h))

-- from the general form
pub plain_goes : (u : Rules) (q : Demand) (n w : Tree) → TreesGo u nothing q n w → (r : Request q) (s t : State) → u.A s t → Goes u.weak (λ a. u.A) u.A u.A (means u.left n q r s) (means u.right w q r t)
unfolding TreesGo
plain_goes u q n w g r s t a = goes_map u.weak _ (λ a. u.A) _ u.A u.A _ _ (λ a s t z. z.0) (λ s t z. z.0) (g r nothing (no_within nothing) (no_off (hidden n)) s t (a, no_init s))

pub insensitive : law.Insensitive
insensitive e D apart n av q r s t a = plain_goes (dead_rules D e) q n n (dead_self D e apart n av nothing q) r s t a

pub from_same : (D : VariableSet) (e : Environment) → Apart e D → (X : VariableSet) (q : Demand) (n w : Tree) → Avoids D w → Same e D X q n w → TreesGo (dead_rules D e) X q n w
unfolding TreesGo
from_same D e apart X q n w av same r l within o s t b =
    joined D _ _ (means e n q r s) (means e w q r s) (means e w q r t) (same.by r s (init_less X l s within b.1))
    (goes_map true _ (λ a. Agree D) _ (Agree D) (Agree D) _ _ (λ a s t z. z.0) (λ s t z. z.0) (dead_self D e apart w av nothing q r nothing (no_within nothing) (no_off (hidden w)) s t (b.0, no_init s)))
    (dead_self nothing e (λ x h. absurd (true≢false (sym h))) n (avoids_nothing n) nothing q r l (no_within l) o s s (agree_refl nothing s, b.1))

pub congruence : law.Congruence
congruence e D apart k n w pa av like X q same =
    place_goes D e apart k n w pa like X q (from_same D e apart (known_at k n q X) (demand_at k n q) n w av same)

pub to_same : (D : VariableSet) (e : Environment) (X : VariableSet) (q : Demand) (n w : Tree) → Off (hidden n) X → TreesGo (dead_rules D e) X q n w → Same e D X q n w
unfolding TreesGo
to_same D e X q n w off g = record { by = λ r s i. goes_map true _ (λ a. Agree D) _ (Agree D) (Agree D) _ _ (λ a s t z. z.0) (λ s t z. z.0) (g r X (within_refl X) off s s (agree_refl D s, i)) }

pub congruent_same : law.CongruentSame
congruent_same e D apart k n w pa av like X q off same = to_same D e X q (plug k n) (plug k w) off (congruence e D apart k n w pa av like X q same)

-- bodies

module _ (e : Environment) (D : VariableSet) (apart : Apart e D) where
  same_ran : (o o' : Outcome) (s t : State) → o ≡ o' → Agree D s t → ran e o s ≡ ran e o' t
  same_ran o o' s t p g =
      ap (λ v. Some (record { events = reverse v; final = seen e.shared s.vars; outcome = o })) g.events
      ∙ ap (λ f. Some (record { events = reverse t.events; final = f; outcome = o })) (seen_agree D e apart s t g)
      ∙ ap (λ o. Some (record { events = reverse t.events; final = seen e.shared t.vars; outcome = o })) p

  same_end : {A : Type 0} (f : A → Outcome) (x y : Completion A) → Goes true (λ a. Agree D) (Agree D) (Agree D) x y → (ends_as e f x ≡ None) ⊎ (ends_as e f x ≡ ends_as e f y)
  unfolding Goes
  same_end f (ok a s) (ok b t) g = inr (same_ran (f a) (f b) s t (ap f g.0) g.1)
  same_end f (stop a s) (stop b t) g = inr (same_ran (outcome_of_stop a) (outcome_of_stop b) s t (ap outcome_of_stop g.0) g.1)
  same_end f (halt a s) (halt b t) g = inr (same_ran (outcome_of_halt a) (outcome_of_halt b) s t (ap outcome_of_halt g.0) g.1)
  same_end f out y g = inl refl
  same_end f x y g = absurd g

pub body_same : order.BodySame
body_same e D X apart k n w same = record { by = λ vars this answers turns i. same_end e D apart (outcome_of_reply k) _ _ (same.by (body_request k) (start_of vars this answers turns) i) }

pub congruent_body : law.CongruentBody
congruent_body e D apart k n w pa av like X b off same = body_same e D X apart b (plug k n) (plug k w) (congruent_same e D apart k n w pa av like X (body_demand b) off same)

-- the order

goes_refl : {A : Type 0} (D : VariableSet) (x : Completion A) → Goes true (λ a. Agree D) (Agree D) (Agree D) x x
unfolding Goes
goes_refl D (ok a s) = (refl, agree_refl D s)
goes_refl D (stop a s) = (refl, agree_refl D s)
goes_refl D (halt a s) = (refl, agree_refl D s)
goes_refl D out = tt

goes_trans : {A : Type 0} (D : VariableSet) (x y z : Completion A) → Goes true (λ a. Agree D) (Agree D) (Agree D) x y → Goes true (λ a. Agree D) (Agree D) (Agree D) y z → Goes true (λ a. Agree D) (Agree D) (Agree D) x z
unfolding Goes
goes_trans D (ok a s) (ok b t) (ok c v) g h = (g.0 ∙ h.0, agree_trans D s t v g.1 h.1)
goes_trans D (stop a s) (stop b t) (stop c v) g h = (g.0 ∙ h.0, agree_trans D s t v g.1 h.1)
goes_trans D (halt a s) (halt b t) (halt c v) g h = (g.0 ∙ h.0, agree_trans D s t v g.1 h.1)
goes_trans D out y (ok c v) g h = tt
goes_trans D out y (stop c v) g h = tt
goes_trans D out y (halt c v) g h = tt
goes_trans D out y out g h = tt
goes_trans D (ok a s) (ok b t) z g h = absurd h
goes_trans D (stop a s) (stop b t) z g h = absurd h
goes_trans D (halt a s) (halt b t) z g h = absurd h
goes_trans D x y z g h = absurd g

pub reflexive : order.Reflexive
reflexive e D X q n = record { by = λ r s i. goes_refl D (means e n q r s) }

pub transitive : order.Transitive
transitive e D X q n w v a b = record { by = λ r s i. goes_trans D _ _ _ (a.by r s i) (b.by r s i) }

less_dead : (C D : VariableSet) → Within C D → (s t : State) → Agree C s t → Agree D s t
unfolding Within
less_dead C D k s t a = record { vars = λ x d. a.vars x (at x (C x) refl d); self = a.self; answers = a.answers; turns = a.turns; events = a.events }
  where
    at : (x : Variable) (b : Bool) → C x ≡ b → D x ≡ false → C x ≡ false
    at x true c d = absurd (true≢false (sym (k x c) ∙ d))
    at x false c d = c

goes_less : {A : Type 0} (C D : VariableSet) → Within C D → (x y : Completion A) → Goes true (λ a. Agree C) (Agree C) (Agree C) x y → Goes true (λ a. Agree D) (Agree D) (Agree D) x y
unfolding Goes
goes_less C D k (ok a s) (ok b t) g = (g.0, less_dead C D k s t g.1)
goes_less C D k (stop a s) (stop b t) g = (g.0, less_dead C D k s t g.1)
goes_less C D k (halt a s) (halt b t) g = (g.0, less_dead C D k s t g.1)
goes_less C D k out (ok b t) g = tt
goes_less C D k out (stop b t) g = tt
goes_less C D k out (halt b t) g = tt
goes_less C D k out out g = tt
goes_less C D k x y g = absurd g

pub weaker : order.Weaker
weaker e C D X Y c x q n w same = record { by = λ r s i. goes_less C D c _ _ (same.by r s (init_less X Y s x i)) }

pub body_reflexive : order.BodyReflexive
body_reflexive e k X n = record { by = λ vars this answers turns i. inr refl }

both_runs : {A : Type 0} (x y z : Option A) → (x ≡ None) ⊎ (x ≡ y) → (y ≡ None) ⊎ (y ≡ z) → (x ≡ None) ⊎ (x ≡ z)
both_runs x y z (inl p) q = inl p
both_runs x y z (inr p) (inl q) = inl (p ∙ q)
both_runs x y z (inr p) (inr q) = inr (p ∙ q)

pub body_transitive : order.BodyTransitive
body_transitive e k X n w v a b = record { by = λ vars this answers turns i. both_runs _ _ _ (a.by vars this answers turns i) (b.by vars this answers turns i) }
