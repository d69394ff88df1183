-- A symbol that a step drops is declared no more in a program, and so mentioned nowhere.
use Rattle.std.specs.Prelude.{ℕ, suc, ◌+◌, ◌≤◌, ◌≡◌, refl, Bool, true, false, List, [], ◌∷◌, ◌++◌, Option, Some, None, if◌then◌else◌}
use Rattle.std.proofs.Common.{ap, ◌∙◌, sym, subst, arith}
use Rattle.std.proofs.lemmas.List.{map-append}
use Rattle.mini_model.specs.declared.name.Name.{Name}
use Rattle.mini_model.specs.declared.name.SymbolId.{SymbolId}
use Rattle.mini_model.specs.declared.place.Position.{Position}
use Rattle.mini_model.specs.declared.shape.Shape.{Shape}
use Rattle.mini_model.specs.declared.shape.Shape.TheVariants as shape
use Rattle.mini_model.specs.Tree.{Tree, Trees, node, none, ◌▸◌, is_absent}
use Rattle.mini_model.specs.Rewriting.{Step, here, inside, StepIn, first, later}
use Rattle.mini_laws.specs.declared.names.Use.{Use}
use Rattle.mini_laws.specs.declared.names.Use.TheVariants.{Read}
use Rattle.mini_laws.specs.declared.names.Binding.{Binding}
use Rattle.mini_laws.specs.Scopes.{use_of, opening_of, scopes_by, opened}
use Rattle.mini_laws.specs.Resolved.{Environment, with_symbol, gives_value, plain_name, other_name, written_name, or_else, is_for, own_symbol, symbol_of}
use Rattle.mini_laws.specs.Scoped.{NamesScoped, OwnScoped, Scoped, AllScoped}
use Rattle.mini_laws.specs.Symbols.{symbols_in, declared as declared_in, declared_from, is_same, times}
use Rattle.mini_laws.specs.Edits.{Kept, AllKept}
use Rattle.mini_laws.proofs.Writing.{same_lists}
use Rattle.mini_laws.proofs.Changes.{as_it_is, below, scopes_kept, at_same, times_both, times_three}
use Rattle.mini_laws.specs.Value.{Declared, variables, variable_eq, variable_by}
use Rattle.mini_laws.specs.Congruence.{NoneIn, Avoids, AllAvoid}
use Rattle.mini_laws.specs.Substitution.{alone}
use Rattle.mini_kept.specs.Loosely.{symbol}

-- ---- a step at any place

all_themselves : (ts : Trees) → AllKept ts ts
all_themselves none = tt
all_themselves (t ▸ ts) = (as_it_is t, all_themselves ts)

same_from : (x : Option SymbolId) (sc sc' : ℕ → List Binding) → ((i : ℕ) → sc' i ≡ sc i) → (vs : ℕ → Use) (i : ℕ) (ts : Trees) → times x (declared_from sc' vs i ts) ≡ times x (declared_from sc vs i ts)
unfolding declared_in
same_from x sc sc' e vs i none = refl
same_from x sc sc' e vs i (t ▸ ts) =
    omega (
      arith,
      times_three x (symbols_in (sc i)) (declared_in (vs i) t) (declared_from sc vs (suc i) ts),
      times_three x (symbols_in (sc' i)) (declared_in (vs i) t) (declared_from sc' vs (suc i) ts),
      ap (λ bs. times x (symbols_in bs)) (e i),
      same_from x sc sc' e vs (suc i) ts,
    )

module _ (R : Position → Tree → Tree → Type 0) (x : Option SymbolId) (kept : (p : Position) (n w : Tree) → R p n w → Kept n w) (less : (p : Position) (n w : Tree) → R p n w → (v : Use) → times x (declared_in v w) + 1 ≤ times x (declared_in v n)) where
  mutual
    step_names : {p : Position} {t u : Tree} → Step R p t u → Kept t u
    step_names (here p n w r) = kept p n w r
    step_names (inside p h xs n ts us s) = below h xs n ts us (steps_names s)

    steps_names : {π : ℕ → Position} {ts us : Trees} → StepIn R π ts us → AllKept ts us
    steps_names (first π t u ts s) = (step_names s, all_themselves ts)
    steps_names (later π t ts us s) = (as_it_is t, steps_names s)

  mutual
    unfolding declared_in

    pub step_less : {p : Position} {t u : Tree} → Step R p t u → (v : Use) → times x (declared_in v u) + 1 ≤ times x (declared_in v t)
    step_less (here p n w r) v = less p n w r v
    step_less (inside p h xs n ts us s) v = steps_less (opened v h ts) (opened v h us) (λ i. at_same (scopes_by (opening_of v h) ts) (scopes_by (opening_of v h) us) i (scopes_kept (opening_of v h) ts us (steps_names s))) (use_of h v) 0 s

    steps_less : {π : ℕ → Position} {ts us : Trees} (sc sc' : ℕ → List Binding) → ((i : ℕ) → sc' i ≡ sc i) → (vs : ℕ → Use) (i : ℕ) → StepIn R π ts us → times x (declared_from sc' vs i us) + 1 ≤ times x (declared_from sc vs i ts)
    steps_less sc sc' e vs i (first π t u ts s) =
        omega (
          arith,
          times_three x (symbols_in (sc i)) (declared_in (vs i) t) (declared_from sc vs (suc i) ts),
          times_three x (symbols_in (sc' i)) (declared_in (vs i) u) (declared_from sc' vs (suc i) ts),
          ap (λ bs. times x (symbols_in bs)) (e i),
          step_less s (vs i),
          same_from x sc sc' e vs (suc i) ts,
        )
    steps_less sc sc' e vs i (later π t ts us s) =
        omega (
          arith,
          times_three x (symbols_in (sc i)) (declared_in (vs i) t) (declared_from sc vs (suc i) ts),
          times_three x (symbols_in (sc' i)) (declared_in (vs i) t) (declared_from sc' vs (suc i) us),
          ap (λ bs. times x (symbols_in bs)) (e i),
          steps_less sc sc' e vs (suc i) s,
        )

-- ---- a scoped tree mentions the symbols that it declares, and those around it

module _ (k : ℕ) where
  unsame : (y : Option SymbolId) (n : ℕ) → (if is_same (symbol k) y then 1 else 0) + n ≡ 0 → (is_same (symbol k) y ≡ false) × (n ≡ 0)
  unsame y n e = by (is_same (symbol k) y) refl
    where
      by : (b : Bool) → is_same (symbol k) y ≡ b → (is_same (symbol k) y ≡ false) × (n ≡ 0)
      by true q = let f : 1 + n ≡ 0 = sym (ap (λ c. (if c then 1 else 0) + n) q) ∙ e in absurd (omega (arith, f))
      by false q = let f : 0 + n ≡ 0 = sym (ap (λ c. (if c then 1 else 0) + n) q) ∙ e in (q, omega (arith, f))

  either_unsame : (y z : Option SymbolId) → is_same (symbol k) y ≡ false → is_same (symbol k) z ≡ false → is_same (symbol k) (or_else y z) ≡ false
  either_unsame None z p q = q
  either_unsame (Some y) z p q = p

  if_unsame : (b : Bool) (y : Option SymbolId) → is_same (symbol k) y ≡ false → is_same (symbol k) (if b then y else None) ≡ false
  if_unsame true y p = p
  if_unsame false y p = refl

  unfound : (v : Use) (s : List ℕ) (env : Environment) → times (symbol k) (symbols_in env) ≡ 0 → is_same (symbol k) (symbol_of v s env) ≡ false
  unfound v s [] e = refl
  unfound v s (b ∷ env) e =
      let (own, rest) = unsame b.name.symbol (times (symbol k) (symbols_in env)) e in
      either_unsame (symbol_of v s env) (own_symbol v s b) (unfound v s env rest) (if_unsame (is_for v s b) b.name.symbol own)

  another : (s : List ℕ) (y : Option SymbolId) → is_same (symbol k) y ≡ false → variable_eq (Declared k) (variable_by s y) ≡ false
  another s None e = refl
  another s (Some y) e = e

  names_avoid : (v : Use) (env : Environment) (xs : List Name) → NamesScoped v env xs → times (symbol k) (symbols_in env) ≡ 0 → NoneIn (alone (Declared k)) (variables xs)
  names_avoid v env [] s e = tt
  names_avoid v env (x ∷ xs) s e = (another x.spelling x.symbol (ap (is_same (symbol k)) s.0 ∙ unfound v x.spelling env e), names_avoid v env xs s.1 e)

  -- the name of a declarator is found where others are
  other_avoid : (v : Use) (env : Environment) (xs : List Name) → times (symbol k) (symbols_in env) ≡ 0 → NoneIn (alone (Declared k)) (variables (other_name v env xs))
  other_avoid v env [] e = tt
  other_avoid v env (x ∷ xs) e = by (is_same (symbol_of Read x.spelling env) (symbol_of v x.spelling env))
    where
      by : (b : Bool) → NoneIn (alone (Declared k)) (variables (if b then [] else with_symbol Read env x ∷ []))
      by true = tt
      by false = (another x.spelling (symbol_of Read x.spelling env) (unfound Read x.spelling env e), tt)

  written_avoid : (v : Use) (env : Environment) (ts : Trees) → times (symbol k) (symbols_in env) ≡ 0 → NoneIn (alone (Declared k)) (variables (written_name v env ts))
  written_avoid v env none e = tt
  written_avoid v env (id ▸ none) e = tt
  written_avoid v env (id ▸ (init ▸ ts)) e = by (gives_value v (is_absent init))
    where
      by : (b : Bool) → NoneIn (alone (Declared k)) (variables (if b then other_name v env (plain_name id) else []))
      by true = other_avoid v env (plain_name id) e
      by false = tt

  own_avoid : (v : Use) (env : Environment) (h : Shape) (xs : List Name) (ts : Trees) → OwnScoped v env h xs ts → times (symbol k) (symbols_in env) ≡ 0 → NoneIn (alone (Declared k)) (variables xs)
  own_avoid v env shape.VariableDeclarator xs ts s e = subst (λ ys. NoneIn (alone (Declared k)) (variables ys)) (sym (same_lists xs (written_name v env ts) s)) (written_avoid v env ts e)
  own_avoid v env h xs ts s e = names_avoid v env xs s e

  none_inside : (env bs : Environment) → times (symbol k) (symbols_in env) ≡ 0 → times (symbol k) (symbols_in bs) ≡ 0 → times (symbol k) (symbols_in (env ++ bs)) ≡ 0
  none_inside env bs e f =
      let both = ap (times (symbol k)) (map-append (λ (b : Binding). b.name.symbol) env bs) in
      omega (arith, both, times_both (symbol k) (symbols_in env) (symbols_in bs), e, f)

  mutual
    unfolding Scoped declared_in

    pub avoids : (v : Use) (env : Environment) (t : Tree) → Scoped v env t → times (symbol k) (symbols_in env) ≡ 0 → times (symbol k) (declared_in v t) ≡ 0 → Avoids (alone (Declared k)) t
    avoids v env (node h xs n ts) s e d = (own_avoid v env h xs ts s.0 e, all_avoid (opened v h ts) (use_of h v) 0 env ts s.1 e d)

    all_avoid : (sc : ℕ → List Binding) (vs : ℕ → Use) (i : ℕ) (env : Environment) (ts : Trees) → AllScoped sc vs i env ts → times (symbol k) (symbols_in env) ≡ 0 → times (symbol k) (declared_from sc vs i ts) ≡ 0 → AllAvoid (alone (Declared k)) ts
    all_avoid sc vs i env none s e d = tt
    all_avoid sc vs i env (t ▸ ts) s e d =
        let parts = times_three (symbol k) (symbols_in (sc i)) (declared_in (vs i) t) (declared_from sc vs (suc i) ts) in
        let own : times (symbol k) (symbols_in (sc i)) ≡ 0 = omega (arith, parts, d) in
        let inner = none_inside env (sc i) e own in
        (avoids (vs i) (env ++ sc i) t s.0 inner (omega (arith, parts, d)), all_avoid sc vs (suc i) (env ++ sc i) ts s.1 inner (omega (arith, parts, d)))
