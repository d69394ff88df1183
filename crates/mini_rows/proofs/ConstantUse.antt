-- A constant may be put in the place of a read of a variable that holds it, whatever is evaluated before.
use Rattle.std.specs.Prelude.{not, ◌&&◌, codes, length, if◌then◌else◌}
use Rattle.std.proofs.lemmas.Bool.{and_parts, eq-eqb}
use Rattle.std.proofs.Common.{◌≡◌, ℕ, suc, Bool, true, false, List, [], ◌∷◌, Some, None, refl, sym, ap, ◌∙◌, subst}
use Rattle.mini_model.specs.declared.name.Name.{Name}
use Rattle.mini_model.specs.declared.shape.Shape.{Shape}
use Rattle.mini_model.specs.declared.shape.Shape.TheVariants as shape
use Rattle.mini_model.specs.Tree.{Tree, Trees, node, none, ◌▸◌, count, identifier}
use Rattle.mini_model.specs.Paths.{append}
use Rattle.mini_model.specs.Weight.{same_text}
use Rattle.mini_laws.specs.Value.{Value, Declared, VariableSet, Slot, Holds, choose, variable_eq, nothing, variables}
use Rattle.mini_laws.specs.State.{State, Completion, ok, stop, halt, out, Environment, either, with_vars}
use Rattle.mini_laws.specs.Demand.{Want, Val, Demand, As, Callee, OfType, AnEntry, Stat, Request, Reply}
use Rattle.mini_laws.specs.Command.{act, run, read_slot, at_variable, set_var}
use Rattle.mini_laws.specs.Naming.{EvalName, PlainName, summary, summaries, summary_of, facts_all, naming}
use Rattle.mini_laws.specs.Asking.{demand}
use Rattle.mini_laws.specs.Replies.{valued}
use Rattle.mini_laws.specs.Expressions.{get_identifier}
use Rattle.mini_laws.specs.Step.{step, means}
use Rattle.mini_laws.specs.Same.{Goes, Agree}
use Rattle.mini_laws.specs.Skeleton.{hidden_all, needs, Rules, Sound, Both, TreesGo}
use Rattle.mini_laws.specs.Steady.{SparedBy, Spares, AllSpare}
use Rattle.mini_laws.specs.Substitution.{alone}
use Rattle.mini_laws.specs.Truth.{told}
use Rattle.mini_laws.specs.Congruence.{Alive, Avoids, AllAvoid}
use Rattle.mini_laws.proofs.Congruent.{plain_goes}
use Rattle.mini_laws.proofs.Dead.{dead_sound, alive_self, self_goes}
use Rattle.mini_laws.proofs.Fundamental.{one_node, PlaceGo, place_none, place_cons}
use Rattle.mini_laws.proofs.Runs.{either_ok}
use Rattle.mini_laws.proofs.Sparing.{Stays, steady_rules, steady_sound, itself}
use Rattle.mini_laws.proofs.Truth.{coherent}
use Rattle.mini_kept.specs.Without.{Unseen}
use Rattle.mini_terms.specs.Reading.{is_item, by_value, is_typed_by_value}
use Rattle.mini_terms.proofs.Reading.{typed_by_value}
use Rattle.mini_rows.specs.Sketches.{shape_by, Asked, AsValue, asked_below}
use Rattle.mini_rows.specs.Unused.{resolved, is_constant, is_called_by_value, Gathered, OfValues, gathered_below}
use Rattle.mini_rows.proofs.CalledReads.{called_read, name_called_read}
use Rattle.mini_rows.proofs.ItemReads.{item_read}
use Rattle.mini_rows.proofs.Passing.{value_there}
use Rattle.mini_rows.proofs.Avoiding.{Without, AllWithout, without, all_without, node_without, spared_by, spares}
use Rattle.mini_rows.proofs.SingleUse.{head_of, before, place, Step, led, is_end, end_of, Well, Spared, PassedIn, Passed, summaries_put, summaries_led}
use Rattle.mini_rows.proofs.SingleMeaning.{Before, Opens, Gathers, Suits, suits_below, first_goes}
use Rattle.mini_rows.proofs.UnusedNames.{all_avoided}

there_before : (ps : Trees) (t : Tree) (ts : Trees) → Before (count ps) (length (facts_all (summaries (append ps (t ▸ ts)))))
there_before none t ts = tt
there_before (p ▸ ps) t ts = there_before ps t ts

module _ (e : Environment) (k : ℕ) (z : Unseen (alone (Declared k)) e) (v : Value) where
  abbrev D : VariableSet
  D = alone (Declared k)

  own : variable_eq (Declared k) (Declared k) ≡ true
  own = eq-eqb k k refl

  -- states that agree but on the variable, which holds the value in the first
  pub record Holding (s t : State) : Type 0 where
    pub agree : Agree D s t
    pub has : s.vars (Declared k) ≡ Holds v

  abbrev Go : {A : Type 0} → Completion A → Completion A → Type 0
  Go x y = Goes true (λ a. Holding) Holding Holding x y

  abbrev Kept : State → State → Type 0
  Kept = Stays e (Declared k) (z.foreign (Declared k) own) (Holds v)

  kept_too : {A : Type 0} (x y : Completion A) → Goes true (λ a. Agree D) (Agree D) (Agree D) x y → Goes false (λ a. Kept) Kept Kept x x → Go x y
  unfolding Goes
  kept_too (ok a s) (ok b t) g h = (g.0, record { agree = g.1; has = h.1.has })
  kept_too (stop a s) (stop b t) g h = (g.0, record { agree = g.1; has = h.1.has })
  kept_too (halt a s) (halt b t) g h = (g.0, record { agree = g.1; has = h.1.has })
  kept_too out (ok b t) g h = tt
  kept_too out (stop b t) g h = tt
  kept_too out (halt b t) g h = tt
  kept_too out out g h = tt
  kept_too x y g h = absurd g

  abbrev pub rules : Rules
  rules = record { weak = true; left = e; right = e; A = Holding; N = λ names names'. Alive D e names names' × SparedBy (Declared k) names }

  sound : Sound rules
  unfolding steady_rules
  sound = record { acts = λ names names' n o s t h. kept_too (act e names o s) (act e names' o t) ((dead_sound D e z.shared).acts names names' n.0 o s t h.agree) ((steady_sound e (Declared k) (z.foreign (Declared k) own) (Holds v)).acts names names (refl, n.1) o s s (itself e (Declared k) (z.foreign (Declared k) own) (Holds v) s h.has)) }

  -- what doesn't mention it
  self : (t : Tree) → Avoids D t → (X : VariableSet) (q : Demand) → TreesGo rules X q t t
  self t a X q =
      self_goes rules sound (λ q t. Avoids D t × Spares (Declared k) q t) (λ σ ts. AllAvoid D ts × AllSpare (Declared k) σ ts)
      (λ h q xs n ts a. (alive_self D e h q (variables xs) n (summaries ts) a.0.0, a.1.0)) (λ h q xs n ts a. (a.0.1, a.1.1)) (λ σ t ts a. (a.0.0, a.1.0)) (λ σ t ts a. (a.0.1, a.1.1)) t X q (a, spares k t a q)

  rest_self : (ts : Trees) → AllAvoid D ts → (X : ℕ → VariableSet) (σ : ℕ → Demand) → PlaceGo rules sound X σ (hidden_all ts) ts ts
  rest_self none a X σ = place_none rules sound X σ
  rest_self (t ▸ ts) a X σ = place_cons rules sound t t ts ts X σ (self t a.0 (X 0) (σ 0)) (rest_self ts a.1 (λ i. X (suc i)) (λ i. σ (suc i)))

  -- a list with one that goes
  list_goes : (ps : Trees) (t u : Tree) (ts : Trees) → AllAvoid D ps → AllAvoid D ts → (X : ℕ → VariableSet) (σ : ℕ → Demand) → TreesGo rules (X (count ps)) (σ (count ps)) t u → PlaceGo rules sound X σ (hidden_all (append ps (t ▸ ts))) (append ps (t ▸ ts)) (append ps (u ▸ ts))
  list_goes none t u ts a b X σ g = place_cons rules sound t u ts ts X σ g (rest_self ts b (λ i. X (suc i)) (λ i. σ (suc i)))
  list_goes (p ▸ ps) t u ts a b X σ g = place_cons rules sound p p (append ps (t ▸ ts)) (append ps (u ▸ ts)) X σ (self p a.0 (X 0) (σ 0)) (list_goes ps t u ts a.1 b (λ i. X (suc i)) (λ i. σ (suc i)) g)

  pub agreeing : {A : Type 0} (x y : Completion A) → Go x y → Goes true (λ a. Agree D) (Agree D) (Agree D) x y
  unfolding Goes
  agreeing (ok a s) (ok b t) g = (g.0, g.1.agree)
  agreeing (stop a s) (stop b t) g = (g.0, g.1.agree)
  agreeing (halt a s) (halt b t) g = (g.0, g.1.agree)
  agreeing out (ok b t) g = tt
  agreeing out (stop b t) g = tt
  agreeing out (halt b t) g = tt
  agreeing out out g = tt
  agreeing x y g = absurd g

  all_joined : (ps : Trees) (t : Tree) (ts : Trees) → AllAvoid D ps → Without k (summary t) → AllAvoid D ts → AllWithout k (summaries (append ps (t ▸ ts)))
  all_joined none t ts a b c = (b, all_without k ts c)
  all_joined (p ▸ ps) t ts a b c = (without k p a.0, all_joined ps t ts a.1 b c)

  -- ---- a node with one part that goes

  -- what its parent reads of it
  pub record Seen (t u : Tree) : Type 0 where
    pub without : Without k (summary t)
    pub same : summary t ≡ summary u

  pub seen_in : (h : Shape) (ps : Trees) (t u : Tree) (ts : Trees) → AllAvoid D ps → AllAvoid D ts → Seen t u → Seen (node h [] 0 (append ps (t ▸ ts))) (node h [] 0 (append ps (u ▸ ts)))
  seen_in h ps t u ts a b s = record { without = node_without k h [] 0 (summaries (append ps (t ▸ ts))) refl (all_joined ps t ts a s.without b); same = ap (summary_of h [] 0) (summaries_put ps t u ts s.same) }

  pub node_goes : (h : Shape) (ps : Trees) (t u : Tree) (ts : Trees) → AllAvoid D ps → AllAvoid D ts → Seen t u → (X : VariableSet) (q : Demand) → ((Y : VariableSet) → TreesGo rules Y (demand h (facts_all (summaries (append ps (t ▸ ts)))) q (count ps)) t u) → TreesGo rules X q (node h [] 0 (append ps (t ▸ ts))) (node h [] 0 (append ps (u ▸ ts)))
  node_goes h ps t u ts a b s X q g =
      let kids = append ps (t ▸ ts) in
      let is = summaries kids in
      let same = summaries_put ps t u ts s.same in
      one_node rules sound h [] [] 0 0 kids (append ps (u ▸ ts)) X q (subst (λ js. Alive D e (naming h q [] 0 is) (naming h q [] 0 js)) same (alive_self D e h q [] 0 is tt), spared_by k h q [] 0 is refl (all_joined ps t ts a s.without b)) refl (ap facts_all same)
      (list_goes ps t u ts a b (needs h q X kids) (demand h (facts_all is) q) (g (needs h q X kids (count ps))))

  -- ---- the read

  read_holds : (spelling : List ℕ) (s : State) → s.vars (Declared k) ≡ Holds v → means e (identifier (resolved spelling k)) (As Val) tt s ≡ ok v s
  unfolding means step act at_variable read_slot either
  read_holds spelling s h = go (same_text spelling (codes "eval"))
    where
      at_slot : (o : Slot) → o ≡ Holds v → either (read_slot o s) (λ a t. ok a t) (λ y t. stop y t) ≡ ok v s
      at_slot o q = subst (λ o. either (read_slot o s) (λ a t. ok a t) (λ y t. stop y t) ≡ ok v s) (sym q) refl

      go : (b : Bool) → run {q = λ i. Stat None} e (naming shape.Identifier (As Val) (Declared k ∷ []) 0 []) (λ i r z. out) (valued (As Val) tt (get_identifier (if b then EvalName else PlainName))) s ≡ ok v s
      go true = at_slot (s.vars (Declared k)) h
      go false = at_slot (s.vars (Declared k)) h

  module _ (spelling : List ℕ) (init : Tree) (known : (s : State) → means e init (As Val) tt s ≡ ok v s) (item : is_item init ≡ true) where
    abbrev read : Tree
    read = identifier (resolved spelling k)

    abbrev Replies : Tree → (q : Demand) (r : Request q) → Reply q r → State → Type 0
    Replies t q r a s = means e t q r s ≡ ok a s

    value_goes : (w : Want) (l : VariableSet) (s t : State) → Both Holding l s t → Goes true (λ a. Both Holding l) (Both Holding l) Holding (means e read (As w) tt s) (means e init (As w) tt t)
    unfolding Goes told either
    value_goes w l s t b =
        subst (λ y. Goes true (λ a. Both Holding l) (Both Holding l) Holding (means e read (As w) tt s) y) (sym (coherent init w e t ∙ ap (told w) (known t)))
        (subst (λ x. Goes true (λ a. Both Holding l) (Both Holding l) Holding x (told w (ok v t))) (sym (coherent read w e s ∙ ap (told w) (read_holds spelling s b.0.has)))
        (refl, b))

    entry_goes : (l : VariableSet) (s t : State) → Both Holding l s t → Goes true (λ a. Both Holding l) (Both Holding l) Holding (means e read AnEntry tt s) (means e init AnEntry tt t)
    unfolding Goes by_value either
    entry_goes l s t b =
        subst (λ y. Goes true (λ a. Both Holding l) (Both Holding l) Holding (means e read AnEntry tt s) y) (sym (item_read init item e t ∙ ap (by_value AnEntry tt) (known t)))
        (subst (λ x. Goes true (λ a. Both Holding l) (Both Holding l) Holding x (by_value AnEntry tt (ok v t))) (sym (item_read read refl e s ∙ ap (by_value AnEntry tt) (read_holds spelling s b.0.has)))
        (refl, b))

    callee_goes : not (same_text spelling (codes "eval")) && is_called_by_value init ≡ true → (l : VariableSet) (s t : State) → Both Holding l s t → Goes true (λ a. Both Holding l) (Both Holding l) Holding (means e read Callee tt s) (means e init Callee tt t)
    unfolding Goes by_value either
    callee_goes c l s t b =
        let (plain, called) = and_parts (not (same_text spelling (codes "eval"))) (is_called_by_value init) c in
        subst (λ y. Goes true (λ a. Both Holding l) (Both Holding l) Holding (means e read Callee tt s) y) (sym (called_read init called e t ∙ ap (by_value Callee tt) (known t)))
        (subst (λ x. Goes true (λ a. Both Holding l) (Both Holding l) Holding x (by_value Callee tt (ok v t))) (sym (name_called_read (resolved spelling k) plain e s ∙ ap (by_value Callee tt) (read_holds spelling s b.0.has)))
        (refl, b))

    type_goes : is_typed_by_value init ≡ true → (l : VariableSet) (s t : State) → Both Holding l s t → Goes true (λ a. Both Holding l) (Both Holding l) Holding (means e read OfType tt s) (means e init OfType tt t)
    unfolding Goes
    type_goes c l s t b =
        subst (λ y. Goes true (λ a. Both Holding l) (Both Holding l) Holding (means e read OfType tt s) y) (sym (typed_by_value init c e t ∙ known t))
        (subst (λ x. Goes true (λ a. Both Holding l) (Both Holding l) Holding x (ok v t)) (sym (typed_by_value read refl e s ∙ read_holds spelling s b.0.has))
        (refl, b))

    -- ---- the path

    module _ (x : Name) (named : x.symbol ≡ Some (record { 0 = k })) (plain : summary read ≡ summary init) where
      pub led_without : (ss : List Step) → Spared x ss → Without k (summary (led ss read))
      led_without [] f = record { lets = refl; name = refl; functions = refl }
      led_without (s ∷ ss) f =
          node_without k (shape_by (head_of s.lead)) [] 0 (summaries (append (before s.lead) (led ss read ▸ s.rest))) refl
          (all_joined (before s.lead) (led ss read) s.rest (all_avoided x k named (before s.lead) f.0.0) (led_without ss f.1) (all_avoided x k named s.rest f.0.1))

      kids_without : (s : Step) (ss : List Step) → Spared x (s ∷ ss) → AllWithout k (summaries (append (before s.lead) (led ss read ▸ s.rest)))
      kids_without s ss f = all_joined (before s.lead) (led ss read) s.rest (all_avoided x k named (before s.lead) f.0.0) (led_without ss f.1) (all_avoided x k named s.rest f.0.1)

      pub path_goes : (m : Gathered) (c : Asked) (ss : List Step) → Well c ss → Spared x ss → PassedIn m init spelling ss → (q : Demand) → Suits c q (end_of spelling init ss) → (X : VariableSet) → TreesGo rules X q (led ss read) (led ss init)
      unfolding TreesGo
      path_goes m AsValue [] w f p (As d) u X r l wl ol s t b = value_goes d l s t b
      path_goes m AsValue [] w f p AnEntry u X r l wl ol s t b = entry_goes l s t b
      path_goes m AsValue [] w f p Callee u X r l wl ol s t b = callee_goes u l s t b
      path_goes m AsValue [] w f p OfType u X r l wl ol s t b = type_goes u l s t b
      path_goes m AsValue [] w f p q u X r l wl ol s t b = absurd u
      path_goes m c [] w f p q u X r l wl ol s t b = absurd w
      path_goes m c (s ∷ ss) w f p q u X r l wl ol y y' b =
          let h = shape_by (head_of s.lead) in
          let ps = before s.lead in
          let kids = λ (t : Tree). append ps (led ss t ▸ s.rest) in
          let is = summaries (kids read) in
          let same : is ≡ summaries (kids init) = summaries_led s ss read init plain in
          let below = suits_below c s.lead (is_end ss) w.0 (end_of spelling init ss) p.0.2 (facts_all is) (there_before ps (led ss read) s.rest) q u r in
          let first = all_avoided x k named ps f.0.0 in
          let last = all_avoided x k named s.rest f.0.1 in
          one_node rules sound h [] [] 0 0 (kids read) (kids init) X q (subst (λ js. Alive D e (naming h q [] 0 is) (naming h q [] 0 js)) same (alive_self D e h q [] 0 is tt), spared_by k h q [] 0 is refl (kids_without s ss f)) refl (ap facts_all same)
          (list_goes ps (led ss read) (led ss init) s.rest first last (needs h q X (kids read)) (demand h (facts_all is) q)
          (path_goes (gathered_below m h (place 0 ps)) (asked_below (head_of s.lead) c (place 0 ps)) ss w.1 f.1 p.1 (demand h (facts_all is) q (count ps)) below (needs h q X (kids read) (count ps)))) r l wl ol y y' b

      pub constant_goes : (c : Asked) (ss : List Step) → Well c ss → Spared x ss → Passed init spelling ss → (q : Demand) → Suits c q (end_of spelling init ss) → (r : Request q) (s t : State) → Agree D s t → s.vars (Declared k) ≡ Holds v → Goes true (λ a. Agree D) (Agree D) (Agree D) (means e (led ss read) q r s) (means e (led ss init) q r t)
      constant_goes c ss w f p q u r s t a h = agreeing (means e (led ss read) q r s) (means e (led ss init) q r t) (plain_goes rules q (led ss read) (led ss init) (path_goes OfValues c ss w f p q u nothing) r s t (record { agree = a; has = h }))

-- ---- whatever the initializer is

module _ (e : Environment) (k : ℕ) (z : Unseen (alone (Declared k)) e) (x : Name) (named : x.symbol ≡ Some (record { 0 = k })) (spelling : List ℕ) (init : Tree) (plain : summary (identifier (resolved spelling k)) ≡ summary init) (item : is_item init ≡ true) where
  abbrev after : Value → State → State
  after v s = with_vars s (set_var s.vars (Declared k) (Holds v))

  pub agrees : (v : Value) (s : State) → Agree (alone (Declared k)) (after v s) s
  agrees v s = record { vars = λ y d. ap (λ c. choose c (Holds v) (s.vars y)) d; self = refl; answers = refl; turns = refl; events = refl }

  -- what a tree reads may be put there
  pub moves_there : (c : Asked) (ss : List Step) → Well c ss → Spared x ss → Passed init spelling ss → (q : Demand) → Suits c q (end_of spelling init ss) → Gathers OfValues q → (r : Request q) → Opens q r → (s : State) → Goes true (λ a. Agree (alone (Declared k))) (Agree (alone (Declared k))) (Agree (alone (Declared k))) (either (means e init (As Val) tt s) (λ v t. means e (led ss (identifier (resolved spelling k))) q r (after v t)) (λ y t. stop y t)) (means e (led ss init) q r s)
  moves_there c ss w f p q u n r i s = by (is_constant init) refl
    where
      by : (b : Bool) → is_constant init ≡ b → Goes true (λ a. Agree (alone (Declared k))) (Agree (alone (Declared k))) (Agree (alone (Declared k))) (either (means e init (As Val) tt s) (λ v t. means e (led ss (identifier (resolved spelling k))) q r (after v t)) (λ y t. stop y t)) (means e (led ss init) q r s)
      by false o = first_goes e k z x named spelling init plain item o OfValues c ss w f p q u n r i s
      by true o =
          let (there, known) = value_there e init o in
          let (v, is) = known in
          subst (λ c. Goes true (λ a. Agree (alone (Declared k))) (Agree (alone (Declared k))) (Agree (alone (Declared k))) c (means e (led ss init) q r s)) (sym (ap (λ y. either y (λ v t. means e (led ss (identifier (resolved spelling k))) q r (after v t)) (λ y t. stop y t)) (is s) ∙ either_ok v s (λ v t. means e (led ss (identifier (resolved spelling k))) q r (after v t)) (λ y t. stop y t)))
          (constant_goes e k z v spelling init is item x named plain c ss w f p q u r (after v s) s (agrees v s) (ap (λ b. choose b (Holds v) (s.vars (Declared k))) (eq-eqb k k refl)))
