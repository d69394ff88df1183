-- A step at any place of a tree keeps what a write of each variable does, or what declares it goes.
use Rattle.std.specs.Prelude.{ℕ, suc, ◌+◌, ◌≤◌, ◌≡◌, ◌⊎◌, refl, ◌||◌, ◌&&◌, Bool, true, false, List, [], ◌∷◌, ◌++◌, Option, None}
use Rattle.std.proofs.Common.{ap, ◌∙◌, sym, subst, inl, inr, arith, true≢false}
use Rattle.std.proofs.lemmas.Bool.{eq-eqb}
use Rattle.mini_model.specs.declared.name.Name.{Name}
use Rattle.mini_model.specs.declared.name.SymbolId.{SymbolId}
use Rattle.mini_model.specs.declared.place.Position.{Position}
use Rattle.mini_model.specs.declared.place.Position.TheVariants.{Elsewhere}
use Rattle.mini_model.specs.declared.shape.Shape.{Shape}
use Rattle.mini_model.specs.Tree.{Tree, Trees, node, none, ◌▸◌, count, shape_of}
use Rattle.mini_model.specs.Position.{child_position}
use Rattle.mini_model.specs.Rewriting.{Step, here, inside, StepIn, first, later}
use Rattle.mini_accept.specs.WellShaped.{Slot, one, a_program, Filling, refused, these, each, each_or_last, pieces, filling, class_of, is_whole, is_strict_in, is_last, fits, fill, IsWellShaped}
use Rattle.mini_laws.specs.declared.names.Use.{Use}
use Rattle.mini_laws.specs.declared.names.Use.TheVariants.{Read}
use Rattle.mini_laws.specs.declared.names.Binding.{Binding}
use Rattle.mini_laws.specs.DeclaredNames.{is_inner}
use Rattle.mini_laws.specs.Scopes.{use_of, opening_of, opened}
use Rattle.mini_laws.specs.Resolved.{Environment}
use Rattle.mini_laws.specs.Scoped.{Scoped, AllScoped}
use Rattle.mini_laws.specs.Symbols.{symbols_in, declared as declared_in, declared_from, declared_symbols, times, most, Distinct, Within}
use Rattle.mini_laws.specs.Value.{Variable, Declared, Global, choose, is_in}
use Rattle.mini_laws.specs.State.{Writable}
use Rattle.mini_laws.specs.Naming.{summary, summaries}
use Rattle.mini_laws.specs.Fixity.{fixity_by, declared_by, stricter, fixed_by, fixed_by_any}
use Rattle.mini_laws.proofs.Changes.{times_three}
use Rattle.mini_kept.specs.KeepsNames.{Stands}
use Rattle.mini_kept.specs.Lifted.{KeepsNames, InitStays}
use Rattle.mini_kept.specs.Loosely.{symbol_for, LessOften, FixedKept, undeclared}
use Rattle.mini_kept.specs.Placed.{fits_place}
use Rattle.mini_kept.proofs.Bools.{left, right}
use Rattle.mini_kept.proofs.Fixed.{steps_summaries}
use Rattle.mini_kept.proofs.LooseScopes.{AllStand, children_alike}
use Rattle.mini_kept.proofs.Members.{merges}
use Rattle.mini_kept.proofs.Placed.{Placed, placed_below}
use Rattle.mini_kept.proofs.Stepping.{all_stand, no_steps, one_of, steps_keep}
use Rattle.mini_kept.proofs.Using.{also}

-- what keeps all of it
pub fixed_anyway : (p : Position) (n w : Tree) → ((x : Variable) → fixed_by n x ≡ fixed_by w x) → FixedKept p n w
fixed_anyway p n w f = record { by = λ strict s k e v env st a x. inl (f x) }

-- ---- from an index on

pub stand_on : (π : ℕ → Position) (vs : ℕ → Use) (i : ℕ) (ts : Trees) → AllStand π vs (suc i) ts → AllStand (λ j. π (suc j)) (λ j. vs (suc j)) i ts
stand_on π vs i none s = tt
stand_on π vs i (t ▸ ts) s = (s.0, stand_on π vs (suc i) ts s.1)

pub scoped_on : (sc : ℕ → List Binding) (vs : ℕ → Use) (i : ℕ) (env : Environment) (ts : Trees) → AllScoped sc vs (suc i) env ts → AllScoped (λ j. sc (suc j)) (λ j. vs (suc j)) i env ts
unfolding Scoped
scoped_on sc vs i env none a = tt
scoped_on sc vs i env (t ▸ ts) a = (a.0, scoped_on sc vs (suc i) (env ++ sc (suc i)) ts a.1)

declared_on : (sc : ℕ → List Binding) (vs : ℕ → Use) (i : ℕ) (ts : Trees) → declared_from sc vs (suc i) ts ≡ declared_from (λ j. sc (suc j)) (λ j. vs (suc j)) i ts
unfolding declared_in
declared_on sc vs i none = refl
declared_on sc vs i (t ▸ ts) = ap (λ l. symbols_in (sc (suc i)) ++ (declared_in (vs (suc i)) t ++ l)) (declared_on sc vs (suc i) ts)

-- ---- scopes that declare no symbol more often

module _ (k : Option SymbolId) where
  -- the same children
  rest_within : (sc sc' : ℕ → List Binding) → ((j : ℕ) → Within (symbols_in (sc' j)) (symbols_in (sc j))) → (vs : ℕ → Use) (i : ℕ) (ts : Trees) → times k (declared_from sc' vs i ts) ≤ times k (declared_from sc vs i ts)
  unfolding declared_in
  rest_within sc sc' w vs i none = omega arith
  rest_within sc sc' w vs i (t ▸ ts) =
      omega (
        arith,
        w i k,
        times_three k (symbols_in (sc i)) (declared_in (vs i) t) (declared_from sc vs (suc i) ts),
        times_three k (symbols_in (sc' i)) (declared_in (vs i) t) (declared_from sc' vs (suc i) ts),
        rest_within sc sc' w vs (suc i) ts,
      )

  pub first_less : (sc sc' : ℕ → List Binding) → ((j : ℕ) → Within (symbols_in (sc' j)) (symbols_in (sc j))) → (vs : ℕ → Use) (t u : Tree) (ts : Trees) → times k (declared_in (vs 0) u) + 1 ≤ times k (declared_in (vs 0) t)
      → times k (declared_from sc' vs 0 (u ▸ ts)) + 1 ≤ times k (declared_from sc vs 0 (t ▸ ts))
  unfolding declared_in
  first_less sc sc' w vs t u ts less =
      omega (
        arith,
        less,
        w 0 k,
        times_three k (symbols_in (sc 0)) (declared_in (vs 0) t) (declared_from sc vs 1 ts),
        times_three k (symbols_in (sc' 0)) (declared_in (vs 0) u) (declared_from sc' vs 1 ts),
        rest_within sc sc' w vs 1 ts,
      )

  pub later_less : (sc sc' : ℕ → List Binding) → ((j : ℕ) → Within (symbols_in (sc' j)) (symbols_in (sc j))) → (vs : ℕ → Use) (t : Tree) (ts us : Trees)
      → times k (declared_from (λ j. sc' (suc j)) (λ j. vs (suc j)) 0 us) + 1 ≤ times k (declared_from (λ j. sc (suc j)) (λ j. vs (suc j)) 0 ts) → times k (declared_from sc' vs 0 (t ▸ us)) + 1 ≤ times k (declared_from sc vs 0 (t ▸ ts))
  unfolding declared_in
  later_less sc sc' w vs t ts us less =
      omega (
        arith,
        less,
        w 0 k,
        ap (times k) (declared_on sc vs 0 ts),
        ap (times k) (declared_on sc' vs 0 us),
        times_three k (symbols_in (sc 0)) (declared_in (vs 0) t) (declared_from sc vs 1 ts),
        times_three k (symbols_in (sc' 0)) (declared_in (vs 0) t) (declared_from sc' vs 1 us),
      )

module _ (x : Variable) where
  abbrev OrLess : Use → Tree → Tree → Type 0
  OrLess v t u = (fixed_by t x ≡ fixed_by u x) ⊎ LessOften v x t u

  record AllLess (sc sc' : ℕ → List Binding) (vs : ℕ → Use) (ts us : Trees) : Type 0 where
    declared : Option SymbolId
    either : (declared ≡ symbol_for x) ⊎ (declared ≡ None)
    less : times declared (declared_from sc' vs 0 us) + 1 ≤ times declared (declared_from sc vs 0 ts)

  abbrev AllOrLess : (ℕ → List Binding) → (ℕ → List Binding) → (ℕ → Use) → Trees → Trees → Type 0
  AllOrLess sc sc' vs ts us = (fixed_by_any ts x ≡ fixed_by_any us x) ⊎ AllLess sc sc' vs ts us

  first_or_less : (sc sc' : ℕ → List Binding) → ((j : ℕ) → Within (symbols_in (sc' j)) (symbols_in (sc j))) → (vs : ℕ → Use) (t u : Tree) (ts : Trees) → OrLess (vs 0) t u → AllOrLess sc sc' vs (t ▸ ts) (u ▸ ts)
  first_or_less sc sc' w vs t u ts (inl e) = inl (ap (λ f. stricter f (fixed_by_any ts x)) e)
  first_or_less sc sc' w vs t u ts (inr l) = inr (record { declared = l.declared; either = l.either; less = first_less l.declared sc sc' w vs t u ts l.less })

  later_or_less : (sc sc' : ℕ → List Binding) → ((j : ℕ) → Within (symbols_in (sc' j)) (symbols_in (sc j))) → (vs : ℕ → Use) (t : Tree) (ts us : Trees) → AllOrLess (λ j. sc (suc j)) (λ j. sc' (suc j)) (λ j. vs (suc j)) ts us → AllOrLess sc sc' vs (t ▸ ts) (t ▸ us)
  later_or_less sc sc' w vs t ts us (inl e) = inl (ap (stricter (fixed_by t x)) e)
  later_or_less sc sc' w vs t ts us (inr l) = inr (record { declared = l.declared; either = l.either; less = later_less l.declared sc sc' w vs t ts us l.less })

  node_or_less : (v : Use) (h : Shape) (xs : List Name) (n : ℕ) (ts us : Trees) → summaries ts ≡ summaries us → AllOrLess (opened v h ts) (opened v h us) (use_of h v) ts us → OrLess v (node h xs n ts) (node h xs n us)
  unfolding declared_in
  node_or_less v h xs n ts us i (inl e) = inl (λ j. stricter (choose (is_in x (declared_by h (i j))) (fixity_by h) Writable) (e j))
  node_or_less v h xs n ts us i (inr l) = inr (record { declared = l.declared; either = l.either; less = l.less })

  -- ---- a step at any place

  module _ (R : Position → Tree → Tree → Type 0) (l : KeepsNames R) (stays : InitStays R) (reads : (p : Position) (n w : Tree) → R p n w → summary n ≡ summary w) (fixed : (p : Position) (n w : Tree) → R p n w → FixedKept p n w) where
    same_summaries : {π : ℕ → Position} {ts us : Trees} → StepIn R π ts us → summaries ts ≡ summaries us
    same_summaries s = steps_summaries (λ y. true) R (record { reads = reads; fixed = λ p n w r y d. absurd (true≢false d) }) s

    mutual
      unfolding Scoped

      step_less : {p : Position} {t u : Tree} → Step R p t u → (strict : Bool) (s : Slot) → fits_place p s ≡ true → fits strict s t ≡ true → (v : Use) (env : Environment) → Stands p v t → Scoped v env t → OrLess v t u
      step_less (here p n w r) strict s q e v env st a = (fixed p n w r).by strict s q e v env st a x
      step_less (inside p h xs n ts us z) strict s q e v env st a =
          let π = child_position h p (count ts) in
          let below = right (is_whole (class_of s) h xs n ts) (fill (is_strict_in strict h) (filling strict s h) ts) e in
          let placed = placed_below strict s h p (count ts) q in
          let stand = all_stand strict s h xs n ts e p (count ts) v st in
          let kept = steps_keep R l stays z (is_strict_in strict h) (filling strict s h) placed below in
          node_or_less v h xs n ts us (same_summaries z)
          (steps_less z (is_strict_in strict h) (filling strict s h) placed below (opened v h ts) (opened v h us) (children_alike (opening_of v h) π (use_of h v) env ts us (merges strict s h xs n ts e v) kept stand a.1) (use_of h v) env stand a.1)

      steps_less : {π : ℕ → Position} {ts us : Trees} → StepIn R π ts us → (strict : Bool) (g : Filling) → Placed π g → fill strict g ts ≡ true → (sc sc' : ℕ → List Binding) → ((j : ℕ) → Within (symbols_in (sc' j)) (symbols_in (sc j))) → (vs : ℕ → Use) (env : Environment) → AllStand π vs 0 ts → AllScoped sc vs 0 env ts → AllOrLess sc sc' vs ts us
      steps_less (first π t u ts z) strict refused q e sc sc' w vs env st a = absurd (cc e)
      steps_less (first π t u ts z) strict (these []) q e sc sc' w vs env st a = absurd (cc e)
      steps_less (first π t u ts z) strict (these (s ∷ ss)) q e sc sc' w vs env st a = first_or_less sc sc' w vs t u ts (step_less z strict s q.0 (left (fits strict s t) (fill strict (these ss) ts) e) (vs 0) (env ++ sc 0) st.0 a.0)
      steps_less (first π t u ts z) strict (each s) q e sc sc' w vs env st a = first_or_less sc sc' w vs t u ts (step_less z strict s (q 0) (left (fits strict s t) (fill strict (each s) ts) e) (vs 0) (env ++ sc 0) st.0 a.0)
      steps_less (first π t u ts z) strict (each_or_last s r) q e sc sc' w vs env st a =
          let (c, placed, fit) = one_of R l (π 0) strict s r (is_last ts) t (q 0).0 (q 0).1 (left (fits strict s t || (is_last ts && fits strict r t)) (fill strict (each_or_last s r) ts) e) in
          first_or_less sc sc' w vs t u ts (step_less z strict c placed fit (vs 0) (env ++ sc 0) st.0 a.0)
      steps_less (first π t u ts z) strict (pieces g) q e sc sc' w vs env st a = absurd (no_steps R l g (first π t u ts z) e)
      steps_less (later π t ts us z) strict refused q e sc sc' w vs env st a = absurd (cc e)
      steps_less (later π t ts us z) strict (these []) q e sc sc' w vs env st a = absurd (cc e)
      steps_less (later π t ts us z) strict (these (s ∷ ss)) q e sc sc' w vs env st a = later_or_less sc sc' w vs t ts us (steps_less z strict (these ss) q.1 (right (fits strict s t) (fill strict (these ss) ts) e) (λ j. sc (suc j)) (λ j. sc' (suc j)) (λ j. w (suc j)) (λ j. vs (suc j)) (env ++ sc 0) (stand_on π vs 0 ts st.1) (scoped_on sc vs 0 (env ++ sc 0) ts a.1))
      steps_less (later π t ts us z) strict (each s) q e sc sc' w vs env st a = later_or_less sc sc' w vs t ts us (steps_less z strict (each s) (λ j. q (suc j)) (right (fits strict s t) (fill strict (each s) ts) e) (λ j. sc (suc j)) (λ j. sc' (suc j)) (λ j. w (suc j)) (λ j. vs (suc j)) (env ++ sc 0) (stand_on π vs 0 ts st.1) (scoped_on sc vs 0 (env ++ sc 0) ts a.1))
      steps_less (later π t ts us z) strict (each_or_last s r) q e sc sc' w vs env st a =
          later_or_less sc sc' w vs t ts us (steps_less z strict (each_or_last s r) (λ j. q (suc j)) (right (fits strict s t || (is_last ts && fits strict r t)) (fill strict (each_or_last s r) ts) e) (λ j. sc (suc j)) (λ j. sc' (suc j)) (λ j. w (suc j)) (λ j. vs (suc j)) (env ++ sc 0) (stand_on π vs 0 ts st.1) (scoped_on sc vs 0 (env ++ sc 0) ts a.1))
      steps_less (later π t ts us z) strict (pieces g) q e sc sc' w vs env st a = absurd (no_steps R l g (later π t ts us z) e)

    -- so in a program what a write of each variable does stays that is still declared
    pub program_fixed : (t u : Tree) → Step R Elsewhere t u → IsWellShaped t → Scoped Read [] t → Distinct (declared_symbols t) → undeclared u x ≡ false → fixed_by t x ≡ fixed_by u x
    program_fixed t u s e a d h = by (step_less s false (one a_program) refl e Read [] (also (is_inner (shape_of t)) true refl) a)
      where
        -- each symbol is declared once, and no name without one
        gone : (y : Variable) → LessOften Read y t u → undeclared u y ≡ false → ⊥
        gone y l n = by_symbol y l.declared l.either l.less n
          where
            by_symbol : (z : Variable) (k : Option SymbolId) → (k ≡ symbol_for z) ⊎ (k ≡ None) → times k (declared_symbols u) + 1 ≤ times k (declared_symbols t) → undeclared u z ≡ false → ⊥
            by_symbol z k (inr e) less n = let never : times k (declared_symbols t) ≤ 0 = subst (λ j. times k (declared_symbols t) ≤ most j) e (d k) in absurd (omega (arith, less, never))
            by_symbol (Global s) k (inl e) less n = let never : times k (declared_symbols t) ≤ 0 = subst (λ j. times k (declared_symbols t) ≤ most j) e (d k) in absurd (omega (arith, less, never))
            by_symbol (Declared m) k (inl e) less n =
                let once : times k (declared_symbols t) ≤ 1 = subst (λ j. times k (declared_symbols t) ≤ most j) e (d k) in
                let none_left : times k (declared_symbols u) ≡ 0 = omega (arith, less, once) in
                true≢false (sym (eq-eqb (times (symbol_for (Declared m)) (declared_symbols u)) 0 (subst (λ j. times j (declared_symbols u) ≡ 0) e none_left)) ∙ n)

        by : OrLess Read t u → fixed_by t x ≡ fixed_by u x
        by (inl f) = f
        by (inr less) = absurd (gone x less h)
