-- A step at any place of a tree answers a question with no more than before, or a scope goes that
-- declares the variable.
use Rattle.std.specs.Prelude.{ℕ, suc, ◌+◌, ◌≤◌, ◌≡◌, ◌⊎◌, refl, ◌||◌, ◌&&◌, Bool, true, List, [], ◌∷◌, ◌++◌, Option, None}
use Rattle.std.proofs.Common.{ap, sym, subst, inl, inr}
use Rattle.mini_model.specs.declared.name.Name.{Name}
use Rattle.mini_model.specs.declared.name.SymbolId.{SymbolId}
use Rattle.mini_model.specs.declared.place.Position.{Position}
use Rattle.mini_model.specs.declared.shape.Shape.{Shape}
use Rattle.mini_model.specs.Tree.{Tree, Trees, node, none, ◌▸◌, count}
use Rattle.mini_model.specs.Position.{child_position}
use Rattle.mini_model.specs.Rewriting.{Step, here, inside, StepIn, first, later}
use Rattle.mini_accept.specs.WellShaped.{Slot, Filling, refused, these, each, each_or_last, pieces, filling, class_of, is_whole, is_strict_in, is_last, fits, fill}
use Rattle.mini_laws.specs.declared.names.Use.{Use}
use Rattle.mini_laws.specs.declared.names.Binding.{Binding}
use Rattle.mini_laws.specs.Scopes.{use_of, opening_of, opened}
use Rattle.mini_laws.specs.Resolved.{Environment}
use Rattle.mini_laws.specs.Scoped.{Scoped, AllScoped}
use Rattle.mini_laws.specs.Symbols.{symbols_in, declared as declared_in, declared_from, times, Within}
use Rattle.mini_laws.specs.Value.{Variable}
use Rattle.mini_kept.specs.KeepsNames.{Stands}
use Rattle.mini_kept.specs.Lifted.{KeepsNames, InitStays}
use Rattle.mini_kept.specs.Loosely.{symbol_for}
use Rattle.mini_kept.specs.Placed.{fits_place}
use Rattle.mini_kept.proofs.Bools.{left, right}
use Rattle.mini_kept.proofs.LooseScopes.{AllKeep, AllStand, children_alike, children_found, found_both}
use Rattle.mini_kept.proofs.FixedSteps.{stand_on, scoped_on, first_less, later_less}
use Rattle.mini_kept.proofs.Members.{merges}
use Rattle.mini_kept.proofs.Placed.{Placed, placed_below}
use Rattle.mini_kept.proofs.Stepping.{all_stand, no_steps, one_of, steps_keep}
use Rattle.mini_shrink.specs.Pace.{Pace, AtMost, followed, ends_after, in_turn, Setting, below, Question, pace, paces}
use Rattle.mini_shrink.specs.Shrinking.{SameFound, LooksUp, Changed, Named, OwnShrinks, seen_around, LessAround, ShowsLess}
use Rattle.mini_shrink.proofs.Paces.{itself, same, both, ended_inside, around, kept_around, AllAtMost, turned}

-- ---- in an environment that gives each name the same symbol

module _ (q : Question) (k : LooksUp q) where
  mutual
    unfolding pace

    pub found : (c : Setting) (env env' : Environment) → SameFound env env' → (t : Tree) → pace q c env t ≡ pace q c env' t
    found c env env' f (node h xs n ts) = λ i. followed (k.before c env env' f h xs n ts i) (in_turn h (all_found (opened c.used h ts) (below (q.orders c h ts) c h n) 0 env env' f ts i))

    all_found : (sc : ℕ → List Binding) (cs : ℕ → Setting) (i : ℕ) (env env' : Environment) → SameFound env env' → (ts : Trees) → paces q sc cs i env ts ≡ paces q sc cs i env' ts
    all_found sc cs i env env' f none = refl
    all_found sc cs i env env' f (t ▸ ts) =
        let inner = found_both env env' (sc i) (sc i) f (λ u s. refl) in
        λ j. ends_after (q.ends (cs i) t) (found (cs i) (env ++ sc i) (env' ++ sc i) inner t j) ∷ all_found sc cs (suc i) (env ++ sc i) (env' ++ sc i) inner ts j

  -- and where each scope does
  pub scopes_found : (sc sc' : ℕ → List Binding) → ((j : ℕ) → SameFound (sc j) (sc' j)) → (cs : ℕ → Setting) (i : ℕ) (env env' : Environment) → SameFound env env' → (ts : Trees) → paces q sc' cs i env' ts ≡ paces q sc cs i env ts
  unfolding pace
  scopes_found sc sc' z cs i env env' f none = refl
  scopes_found sc sc' z cs i env env' f (t ▸ ts) =
      let inner = found_both env env' (sc i) (sc' i) f (z i) in
      λ j. ends_after (q.ends (cs i) t) (sym (found (cs i) (env ++ sc i) (env' ++ sc' i) inner t) j) ∷ scopes_found sc sc' z cs (suc i) (env ++ sc i) (env' ++ sc' i) inner ts j

  paces_on : (sc : ℕ → List Binding) (cs : ℕ → Setting) (i : ℕ) (env : Environment) (ts : Trees) → paces q sc cs (suc i) env ts ≡ paces q (λ j. sc (suc j)) (λ j. cs (suc j)) i env ts
  unfolding pace
  paces_on sc cs i env none = refl
  paces_on sc cs i env (t ▸ ts) = ap (λ l. ends_after (q.ends (cs (suc i)) t) (pace q (cs (suc i)) (env ++ sc (suc i)) t) ∷ l) (paces_on sc cs (suc i) (env ++ sc (suc i)) ts)

-- ---- a step

same_all : (ps qs : List Pace) → ps ≡ qs → AllAtMost ps qs
same_all ps qs e = subst (AllAtMost ps) e (by ps)
  where
    by : (rs : List Pace) → AllAtMost rs rs
    by [] = tt
    by (r ∷ rs) = (itself r, by rs)

module _ (R : Position → Tree → Tree → Type 0) (l : KeepsNames R) (stays : InitStays R) (x : Variable) (q : Question) (k : LooksUp q) (own : OwnShrinks R q) (asks : (p : Position) (n w : Tree) → R p n w → ShowsLess q x p n w) where
  record AllLess (sc sc' : ℕ → List Binding) (vs : ℕ → Use) (ts us : Trees) : Type 0 where
    declared : Option SymbolId
    either : (declared ≡ symbol_for x) ⊎ (declared ≡ None)
    less : times declared (declared_from sc' vs 0 us) + 1 ≤ times declared (declared_from sc vs 0 ts)

  abbrev AllOrGone : (ℕ → List Binding) → (ℕ → List Binding) → (ℕ → Setting) → Environment → Environment → Trees → Trees → Type 0
  AllOrGone sc sc' cs env env' ts us = AllAtMost (paces q sc' cs 0 env' us) (paces q sc cs 0 env ts) ⊎ AllLess sc sc' (λ j. (cs j).used) ts us

  record Scopes (sc sc' : ℕ → List Binding) : Type 0 where
    within : (j : ℕ) → Within (symbols_in (sc' j)) (symbols_in (sc j))
    found : (j : ℕ) → SameFound (sc j) (sc' j)

  scopes_on : (sc sc' : ℕ → List Binding) → Scopes sc sc' → Scopes (λ j. sc (suc j)) (λ j. sc' (suc j))
  scopes_on sc sc' z = record { within = λ j. z.within (suc j); found = λ j. z.found (suc j) }

  first_or_gone : (o : Position) (sc sc' : ℕ → List Binding) → Scopes sc sc' → (cs : ℕ → Setting) (env env' : Environment) → SameFound env env' → (t u : Tree) (ts : Trees) → Named t u → LessAround q x o (cs 0) (env ++ sc 0) t u → AllOrGone sc sc' cs env env' (t ▸ ts) (u ▸ ts)
  unfolding pace
  first_or_gone o sc sc' z cs env env' f t u ts m (inl e) =
      let inner = found_both env env' (sc 0) (sc' 0) f (z.found 0) in
      inl (
        subst (λ b. AtMost (ends_after b (pace q (cs 0) (env' ++ sc' 0) u)) (ends_after (q.ends (cs 0) t) (pace q (cs 0) (env ++ sc 0) t))) (sym (own.ends (cs 0) t u m))
            (ended_inside (q.ends (cs 0) t) (pace q (cs 0) (env' ++ sc' 0) u) (pace q (cs 0) (env ++ sc 0) t) (kept_around o (pace q (cs 0) (env' ++ sc' 0) u) (pace q (cs 0) (env ++ sc 0) t) (subst (λ p. AtMost (seen_around o p) (seen_around o (pace q (cs 0) (env ++ sc 0) t))) (found q k (cs 0) (env ++ sc 0) (env' ++ sc' 0) inner u) e))),
        same_all (paces q sc' cs 1 (env' ++ sc' 0) ts) (paces q sc cs 1 (env ++ sc 0) ts) (scopes_found q k sc sc' z.found cs 1 (env ++ sc 0) (env' ++ sc' 0) inner ts),
      )
  first_or_gone o sc sc' z cs env env' f t u ts m (inr g) = inr (record { declared = g.declared; either = g.either; less = first_less g.declared sc sc' z.within (λ j. (cs j).used) t u ts g.less })

  later_or_gone : (sc sc' : ℕ → List Binding) → Scopes sc sc' → (cs : ℕ → Setting) (env env' : Environment) → SameFound env env' → (t : Tree) (ts us : Trees)
      → AllOrGone (λ j. sc (suc j)) (λ j. sc' (suc j)) (λ j. cs (suc j)) (env ++ sc 0) (env' ++ sc' 0) ts us → AllOrGone sc sc' cs env env' (t ▸ ts) (t ▸ us)
  unfolding pace
  later_or_gone sc sc' z cs env env' f t ts us (inl e) =
      let inner = found_both env env' (sc 0) (sc' 0) f (z.found 0) in
      inl (
        same (ends_after (q.ends (cs 0) t) (pace q (cs 0) (env' ++ sc' 0) t)) (ends_after (q.ends (cs 0) t) (pace q (cs 0) (env ++ sc 0) t)) (ap (ends_after (q.ends (cs 0) t)) (sym (found q k (cs 0) (env ++ sc 0) (env' ++ sc' 0) inner t))),
        subst (λ ps. AllAtMost ps (paces q sc cs 1 (env ++ sc 0) ts)) (sym (paces_on q k sc' cs 0 (env' ++ sc' 0) us)) (subst (AllAtMost (paces q (λ j. sc' (suc j)) (λ j. cs (suc j)) 0 (env' ++ sc' 0) us)) (sym (paces_on q k sc cs 0 (env ++ sc 0) ts)) e),
      )
  later_or_gone sc sc' z cs env env' f t ts us (inr g) = inr (record { declared = g.declared; either = g.either; less = later_less g.declared sc sc' z.within (λ j. (cs j).used) t ts us g.less })

  node_or_gone : (p : Position) (c : Setting) (env : Environment) (h : Shape) (xs : List Name) (n : ℕ) (ts us : Trees) → Changed R p c h ts us → AllOrGone (opened c.used h ts) (opened c.used h us) (below (q.orders c h ts) c h n) env env ts us → LessAround q x p c env (node h xs n ts) (node h xs n us)
  unfolding pace declared_in
  node_or_gone p c env h xs n ts us z (inl e) =
      let cs = below (q.orders c h ts) c h n in
      let ps : List Pace = paces q (opened c.used h us) (below (q.orders c h us) c h n) 0 env us in
      let rs : List Pace = paces q (opened c.used h ts) cs 0 env ts in
      inl (around p (followed (q.before c env h xs n us) (in_turn h ps)) (followed (q.before c env h xs n ts) (in_turn h rs)) (both (q.before c env h xs n us) (q.before c env h xs n ts) (in_turn h ps) (in_turn h rs) (own.before p c env h xs n ts us z)
      (turned h ps rs (subst (λ o. AllAtMost (paces q (opened c.used h us) (below o c h n) 0 env us) rs) (sym (own.orders p c h ts us z)) e))))
  node_or_gone p c env h xs n ts us z (inr g) = inr (record { declared = g.declared; either = g.either; less = g.less })

  abbrev AllNamed : Trees → Trees → Type 0
  AllNamed none none = Unit {0}
  AllNamed none (u ▸ us) = ⊥
  AllNamed (t ▸ ts) none = ⊥
  AllNamed (t ▸ ts) (u ▸ us) = Named t u × AllNamed ts us

  all_named : (π : ℕ → Position) (i : ℕ) (ts us : Trees) → AllKeep π i ts us → AllNamed ts us
  all_named π i none none a = tt
  all_named π i none (u ▸ us) a = absurd a
  all_named π i (t ▸ ts) none a = absurd a
  all_named π i (t ▸ ts) (u ▸ us) a = (record { bound = a.0.bound; lexical = a.0.lexical }, all_named π (suc i) ts us a.1)

  mutual
    unfolding Scoped

    pub step_less : {p : Position} {t u : Tree} → Step R p t u → (strict : Bool) (s : Slot) → fits_place p s ≡ true → fits strict s t ≡ true → (c : Setting) (env : Environment) → Stands p c.used t → Scoped c.used env t → LessAround q x p c env t u
    step_less (here p n w r) strict s o e c env st a = (asks p n w r).by strict s o e c env st a
    step_less (inside p h xs n ts us z) strict s o e c env st a =
        let π = child_position h p (count ts) in
        let below_fits = right (is_whole (class_of s) h xs n ts) (fill (is_strict_in strict h) (filling strict s h) ts) e in
        let placed = placed_below strict s h p (count ts) o in
        let stand = all_stand strict s h xs n ts e p (count ts) c.used st in
        let kept = steps_keep R l stays z (is_strict_in strict h) (filling strict s h) placed below_fits in
        let m = merges strict s h xs n ts e c.used in
        let alike : Scopes (opened c.used h ts) (opened c.used h us) = record { within = children_alike (opening_of c.used h) π (use_of h c.used) env ts us m kept stand a.1; found = children_found (opening_of c.used h) π (use_of h c.used) env ts us m kept stand a.1 } in
        node_or_gone p c env h xs n ts us (record { step = z; kept = kept; scopes = alike.within })
        (steps_less z (is_strict_in strict h) (filling strict s h) placed below_fits (opened c.used h ts) (opened c.used h us) alike (below (q.orders c h ts) c h n) env env (λ u r. refl) (all_named π 0 ts us kept) stand a.1)

    steps_less : {π : ℕ → Position} {ts us : Trees} → StepIn R π ts us → (strict : Bool) (g : Filling) → Placed π g → fill strict g ts ≡ true → (sc sc' : ℕ → List Binding) → Scopes sc sc' → (cs : ℕ → Setting) (env env' : Environment) → SameFound env env' → AllNamed ts us → AllStand π (λ j. (cs j).used) 0 ts → AllScoped sc (λ j. (cs j).used) 0 env ts → AllOrGone sc sc' cs env env' ts us
    steps_less (first π t u ts z) strict refused o e sc sc' w cs env env' f ms st a = absurd (cc e)
    steps_less (first π t u ts z) strict (these []) o e sc sc' w cs env env' f ms st a = absurd (cc e)
    steps_less (first π t u ts z) strict (these (s ∷ ss)) o e sc sc' w cs env env' f ms st a = first_or_gone (π 0) sc sc' w cs env env' f t u ts ms.0 (step_less z strict s o.0 (left (fits strict s t) (fill strict (these ss) ts) e) (cs 0) (env ++ sc 0) st.0 a.0)
    steps_less (first π t u ts z) strict (each s) o e sc sc' w cs env env' f ms st a = first_or_gone (π 0) sc sc' w cs env env' f t u ts ms.0 (step_less z strict s (o 0) (left (fits strict s t) (fill strict (each s) ts) e) (cs 0) (env ++ sc 0) st.0 a.0)
    steps_less (first π t u ts z) strict (each_or_last s r) o e sc sc' w cs env env' f ms st a =
        let (d, placed, fit) = one_of R l (π 0) strict s r (is_last ts) t (o 0).0 (o 0).1 (left (fits strict s t || (is_last ts && fits strict r t)) (fill strict (each_or_last s r) ts) e) in
        first_or_gone (π 0) sc sc' w cs env env' f t u ts ms.0 (step_less z strict d placed fit (cs 0) (env ++ sc 0) st.0 a.0)
    steps_less (first π t u ts z) strict (pieces g) o e sc sc' w cs env env' f ms st a = absurd (no_steps R l g (first π t u ts z) e)
    steps_less (later π t ts us z) strict refused o e sc sc' w cs env env' f ms st a = absurd (cc e)
    steps_less (later π t ts us z) strict (these []) o e sc sc' w cs env env' f ms st a = absurd (cc e)
    steps_less (later π t ts us z) strict (these (s ∷ ss)) o e sc sc' w cs env env' f ms st a =
        later_or_gone sc sc' w cs env env' f t ts us (steps_less z strict (these ss) o.1 (right (fits strict s t) (fill strict (these ss) ts) e) (λ j. sc (suc j)) (λ j. sc' (suc j)) (scopes_on sc sc' w) (λ j. cs (suc j)) (env ++ sc 0) (env' ++ sc' 0) (found_both env env' (sc 0) (sc' 0) f (w.found 0)) ms.1 (stand_on π (λ j. (cs j).used) 0 ts st.1) (scoped_on sc (λ j. (cs j).used) 0 (env ++ sc 0) ts a.1))
    steps_less (later π t ts us z) strict (each s) o e sc sc' w cs env env' f ms st a =
        later_or_gone sc sc' w cs env env' f t ts us (steps_less z strict (each s) (λ j. o (suc j)) (right (fits strict s t) (fill strict (each s) ts) e) (λ j. sc (suc j)) (λ j. sc' (suc j)) (scopes_on sc sc' w) (λ j. cs (suc j)) (env ++ sc 0) (env' ++ sc' 0) (found_both env env' (sc 0) (sc' 0) f (w.found 0)) ms.1 (stand_on π (λ j. (cs j).used) 0 ts st.1) (scoped_on sc (λ j. (cs j).used) 0 (env ++ sc 0) ts a.1))
    steps_less (later π t ts us z) strict (each_or_last s r) o e sc sc' w cs env env' f ms st a =
        later_or_gone sc sc' w cs env env' f t ts us (steps_less z strict (each_or_last s r) (λ j. o (suc j)) (right (fits strict s t || (is_last ts && fits strict r t)) (fill strict (each_or_last s r) ts) e) (λ j. sc (suc j)) (λ j. sc' (suc j)) (scopes_on sc sc' w) (λ j. cs (suc j)) (env ++ sc 0) (env' ++ sc' 0) (found_both env env' (sc 0) (sc' 0) f (w.found 0)) ms.1 (stand_on π (λ j. (cs j).used) 0 ts st.1) (scoped_on sc (λ j. (cs j).used) 0 (env ++ sc 0) ts a.1))
    steps_less (later π t ts us z) strict (pieces g) o e sc sc' w cs env env' f ms st a = absurd (no_steps R l g (later π t ts us z) e)
