-- A step in the code of a body by which a scope in it loses a name: the body runs as before, where nobody else sees the name and nothing that is left
-- mentions it.
use Rattle.std.specs.Prelude.{ℕ, suc, ◌≤◌, ◌≡◌, refl, [], ◌∷◌, ◌++◌, not}
use Rattle.std.proofs.Common.{ap, ◌∙◌, sym, subst, subst₂, length, arith}
use Rattle.mini_model.specs.declared.place.Position.{Position}
use Rattle.mini_model.specs.declared.shape.Shape.{Shape}
use Rattle.mini_model.specs.declared.shape.Shape.TheVariants as shape
use Rattle.mini_model.specs.Tree.{Tree, Trees, node, none, ◌▸◌, count, shape_of}
use Rattle.mini_model.specs.Position.{child_position}
use Rattle.mini_model.specs.Rewriting.{Step}
use Rattle.mini_laws.specs.Value.{Declared, VariableSet, nothing, variables}
use Rattle.mini_laws.specs.State.{Environment}
use Rattle.mini_laws.specs.Demand.{Demand}
use Rattle.mini_laws.specs.Naming.{summary, summary_of, summaries, facts, facts_all, nth_absent, scope_of}
use Rattle.mini_laws.specs.Body.{BodyKind, body_demand}
use Rattle.mini_laws.specs.Bodies.{Around, below, bodies, bodies_from, arrow_kind}
use Rattle.mini_laws.specs.Skeleton.{Within, Off, hidden, hidden_all, needs, Rules, Sound, TreesGo}
use Rattle.mini_laws.specs.Fits.{Fits}
use Rattle.mini_laws.specs.Asking.{demand}
use Rattle.mini_laws.specs.Substitution.{alone}
use Rattle.mini_laws.specs.Congruence.{Apart, Avoids, AllAvoid, dead_rules}
use Rattle.mini_laws.proofs.Congruent.{kids_self, from_same, to_same, body_same, weaker}
use Rattle.mini_laws.proofs.Dead.{dead_sound, dead_self, AllAlike, all_alike_self, alive_alike}
use Rattle.mini_laws.proofs.Fitting.{fits_children}
use Rattle.mini_laws.proofs.Fundamental.{PlaceGo, one_node, place_cons}
use Rattle.mini_laws.proofs.Simulation.{off_front, off_back, within_refl}
use Rattle.mini_kept.specs.AlikeBodies.{RunsAs, BodiesKept}
use Rattle.mini_kept.specs.Without.{Assured, Steadies, Permits}
use Rattle.mini_kept.proofs.BodyLists.{kept_itself, each_of as each_body}
use Rattle.mini_rows.specs.PastBlocks.{PastBlocks}
use Rattle.mini_rows.specs.Steady.{bindings, all_bindings, Begun, nothing_begun, known_in, own_rows, OwnStep, own_here, own_inside, OwnStepIn, own_first, own_later}
use Rattle.mini_rows.specs.Switches.{Switches}
use Rattle.mini_rows.proofs.OwnPartLawful.{bodiless}
use Rattle.mini_rows.proofs.PastKept.{lost}
use Rattle.mini_rows.proofs.PastLost.{Lost, Loses, loses_read, loses_kind}
use Rattle.mini_rows.proofs.OwnLightens.{as_step}
use Rattle.mini_rows.proofs.SteadyLawful.{at_start, known_steady, needs_still, Lists, children_list, begun_wide}
use Rattle.mini_rows.proofs.Valued.{begun_off}

-- ---- a step by a row is one by which some symbol is lost

module _ (c : Tree) (V : Assured) where
  -- in this code of a body of which this is known, by what is begun there
  abbrev pub LosesThere : ℕ → Begun → Position → Tree → Tree → Type 0
  LosesThere k L = Lost (known_in c V L) k

module _ (options : Switches) (c : Tree) (V : Assured) where
  mutual
    pub some_step : {L : Begun} {p : Position} {t u : Tree} → OwnStep (own_rows (PastBlocks options) c V) L p t u → (k : ℕ) × OwnStep (LosesThere c V k) L p t u
    some_step (own_here L p n w r) = let (k, l) = lost options (known_in c V L) p n w r in (k, own_here L p n w l)
    some_step (own_inside L p h xs ts us b s) = let (k, l) = some_steps s in (k, own_inside L p h xs ts us b l)

    some_steps : {Λ : ℕ → Begun} {π : ℕ → Position} {ts us : Trees} → OwnStepIn (own_rows (PastBlocks options) c V) Λ π ts us → (k : ℕ) × OwnStepIn (LosesThere c V k) Λ π ts us
    some_steps (own_first Λ π t u ts s) = let (k, l) = some_step s in (k, own_first Λ π t u ts l)
    some_steps (own_later Λ π t ts us s) = let (k, l) = some_steps s in (k, own_later Λ π t ts us l)

module _ (c : Tree) (V : Assured) (k : ℕ) where
  abbrev R : Begun → Position → Tree → Tree → Type 0
  R = LosesThere c V k

  pub lost_step : {L : Begun} {p : Position} {t u : Tree} → OwnStep R L p t u → Step (Loses k) p t u
  lost_step = as_step R (Loses k) (λ L p n w r. (known_in c V L, r))

  abbrev D : VariableSet
  D = alone (Declared k)

  mutual
    pub lost_read : {L : Begun} {p : Position} {t u : Tree} → OwnStep R L p t u → summary t ≡ summary u
    lost_read (own_here L p n w r) = loses_read k p n w (known_in c V L, r)
    lost_read (own_inside L p h xs ts us b s) = ap (λ is. summary_of h (variables xs) 0 is) (lost_reads s)

    lost_reads : {Λ : ℕ → Begun} {π : ℕ → Position} {ts us : Trees} → OwnStepIn R Λ π ts us → summaries ts ≡ summaries us
    lost_reads (own_first Λ π t u ts s) = ap (λ i. i ∷ summaries ts) (lost_read s)
    lost_reads (own_later Λ π t ts us s) = ap (λ is. summary t ∷ is) (lost_reads s)

  pub lost_kind : {L : Begun} {p : Position} {t u : Tree} → OwnStep R L p t u → arrow_kind (shape_of t) ≡ arrow_kind (shape_of u)
  lost_kind (own_here L p n w r) = loses_kind k p n w (known_in c V L, r)
  lost_kind (own_inside L p h xs ts us b s) = refl

  -- the bodies in it are among those that were there

  around_same : (a : Around) (h : Shape) {Λ : ℕ → Begun} {π : ℕ → Position} {ts us : Trees} → OwnStepIn R Λ π ts us → below a h ts ≡ below a h us
  around_same a (shape.Class c) {ts = ts} s = (λ j i. record (below a (shape.Class c) ts i) { extends = not (nth_absent (facts_all (lost_reads s j)) 1) })
  around_same a h s = refl

  mutual
    pub lost_bodies : {L : Begun} {p : Position} {t u : Tree} → OwnStep R L p t u → (a : Around) → BodiesKept (bodies a t) (bodies a u)
    lost_bodies (own_here L p n w r) a = r.bodied a
    lost_bodies (own_inside L p h xs ts us b s) a =
        subst₂ BodiesKept (sym (λ i. bodiless a h 0 (node h xs 0 ts) ts b i ++ bodies_from (below a h ts) 0 ts)) (ap (λ α. bodies_from α 0 us) (around_same a h s) ∙ sym (λ i. bodiless a h 0 (node h xs 0 us) us b i ++ bodies_from (below a h us) 0 us))
        (lost_bodies_in s (below a h ts) 0)

    lost_bodies_in : {Λ : ℕ → Begun} {π : ℕ → Position} {ts us : Trees} → OwnStepIn R Λ π ts us → (α : ℕ → Around) (i : ℕ) → BodiesKept (bodies_from α i ts) (bodies_from α i us)
    lost_bodies_in (own_first Λ π t u ts s) α i = each_body (bodies (α i) t) (bodies_from α (suc i) ts) (bodies (α i) u) (bodies_from α (suc i) ts) (lost_bodies s (α i)) (kept_itself (bodies_from α (suc i) ts))
    lost_bodies_in (own_later Λ π t ts us s) α i = each_body (bodies (α i) t) (bodies_from α (suc i) ts) (bodies (α i) t) (bodies_from α (suc i) us) (kept_itself (bodies (α i) t)) (lost_bodies_in s α (suc i))

  -- and it runs as before, from a start that initialises what is known, which no scope in it hides

  module _ (e : Environment) (z : Permits nothing D e) (y : Steadies V e) where
    abbrev apart : Apart e D
    apart = z.unseen.shared

    abbrev U : Rules
    U = dead_rules D e

    abbrev sound : Sound U
    sound = dead_sound D e apart

    -- the variables that have values there, behind what has declared L
    abbrev I : Begun → VariableSet
    I L = (known_in c V L).initial

    facts_count : (ts : Trees) → length (facts ts) ≡ count ts
    facts_count none = refl
    facts_count (t ▸ ts) = ap suc (facts_count ts)

    mutual
      lost_goes : {L : Begun} {p : Position} {t u : Tree} → OwnStep R L p t u → ((j : ℕ) → bindings j t ≤ bindings j c) → Off (hidden t) (I L) → Avoids D u → (X : VariableSet) → Within (I L) X → (q : Demand) → Fits p q → Lists L.in_lexical q → TreesGo U X q t u
      lost_goes (own_here L p n w r) less o av X wide q f a =
          from_same D e apart X q n w av (weaker e D D (I L) X (within_refl D) wide q n w (r.means e z (known_steady c V L e y) o q f))
      lost_goes (own_inside L p h xs ts us b s) less o av X wide q f a =
          let inner = off_back (scope_of h (summaries ts)) (hidden_all ts) (I L) o in
          let fewer : (j : ℕ) → all_bindings j ts ≤ bindings j c = λ j. omega (arith, less j) in
          one_node U sound h xs xs 0 0 ts us X q (alive_alike D e h q (variables xs) 0 (summaries ts) (summaries us) av.0 (subst (AllAlike D e (summaries ts)) (lost_reads s) (all_alike_self D e (summaries ts)))) refl (ap facts_all (lost_reads s))
          (lost_goes_in s fewer (begun_off c V.initial h p L ts inner fewer) av.1 (needs h q X ts) (begun_wide c V.initial h p q L X ts f a wide inner fewer) (demand h (facts ts) q) (λ i. subst (λ m. Fits (child_position h p m i) (demand h (facts ts) q i)) (facts_count ts) (fits_children h (facts ts) p q f i)) (children_list h p q L ts f a))

      lost_goes_in : {Λ : ℕ → Begun} {π : ℕ → Position} {ts us : Trees} → OwnStepIn R Λ π ts us → ((j : ℕ) → all_bindings j ts ≤ bindings j c) → ((i : ℕ) → Off (hidden_all ts) (I (Λ i))) → AllAvoid D us → (X : ℕ → VariableSet) → ((i : ℕ) → Within (I (Λ i)) (X i)) → (σ : ℕ → Demand) → ((i : ℕ) → Fits (π i) (σ i)) → ((i : ℕ) → Lists (Λ i).in_lexical (σ i)) → PlaceGo U sound X σ (hidden_all ts) ts us
      lost_goes_in (own_first Λ π t u ts s) less o av X wide σ f a = place_cons U sound t u ts ts X σ (lost_goes s (λ j. omega (arith, less j)) (off_front (hidden t) (hidden_all ts) (I (Λ 0)) (o 0)) av.0 (X 0) (wide 0) (σ 0) (f 0) (a 0)) (kids_self D e apart ts av.1 (λ i. X (suc i)) (λ i. σ (suc i)))
      lost_goes_in (own_later Λ π t ts us s) less o av X wide σ f a =
          place_cons U sound t t ts us X σ (dead_self D e apart t av.0 (X 0) (σ 0)) (lost_goes_in s (λ j. omega (arith, less j)) (λ i. off_back (hidden t) (hidden_all ts) (I (Λ (suc i))) (o (suc i))) av.1 (λ i. X (suc i)) (λ i. wide (suc i)) (λ i. σ (suc i)) (λ i. f (suc i)) (λ i. a (suc i)))

    abbrev J : VariableSet
    J = (at_start c V).initial

    pub lost_runs : {p : Position} {t u : Tree} → OwnStep R nothing_begun p t u → ((j : ℕ) → bindings j t ≤ bindings j c) → Off (hidden t) J → Avoids D u → (b : BodyKind) → Fits p (body_demand b) → (X : VariableSet) → Within J X → RunsAs e b b X t u
    lost_runs {t = t} {u = u} s less o av b fit X wide =
        record { by = (body_same e D X apart b t u (weaker e D D J X (within_refl D) wide (body_demand b) t u (to_same D e J (body_demand b) t u o (lost_goes s less o av J (within_refl J) (body_demand b) fit tt)))).by }

    -- and so does a node over it that is its own body
    pub lost_runs_over : (h : Shape) (n : ℕ) (p : Position) {ts us : Trees} → OwnStepIn R (λ i. nothing_begun) (child_position h p (count ts)) ts us → ((j : ℕ) → all_bindings j ts ≤ bindings j c) → Off (hidden (node h [] n ts)) J → AllAvoid D us → (b : BodyKind) → Fits p (body_demand b) → (X : VariableSet) → Within J X → RunsAs e b b X (node h [] n ts) (node h [] n us)
    lost_runs_over h n p {ts = ts} {us = us} s less o av b fit X wide =
        record { by = (body_same e D X apart b (node h [] n ts) (node h [] n us) (weaker e D D J X (within_refl D) wide (body_demand b) (node h [] n ts) (node h [] n us) (to_same D e J (body_demand b) (node h [] n ts) (node h [] n us) o (goes (body_demand b) fit)))).by }
      where
        inner : Off (hidden_all ts) J
        inner = off_back (scope_of h (summaries ts)) (hidden_all ts) J o

        goes : (q : Demand) → Fits p q → TreesGo U J q (node h [] n ts) (node h [] n us)
        goes q f =
            one_node U sound h [] [] n n ts us J q (alive_alike D e h q [] n (summaries ts) (summaries us) tt (subst (AllAlike D e (summaries ts)) (lost_reads s) (all_alike_self D e (summaries ts)))) refl (ap facts_all (lost_reads s))
            (lost_goes_in s less (λ i. inner) av (needs h q J ts) (needs_still h q J J ts (within_refl J) inner) (demand h (facts ts) q) (λ i. subst (λ m. Fits (child_position h p m i) (demand h (facts ts) q i)) (facts_count ts) (fits_children h (facts ts) p q f i)) (λ i. tt))
