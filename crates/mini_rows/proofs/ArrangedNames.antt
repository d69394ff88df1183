-- Names, symbols, numbers and early errors of a tree are those of its parts, where plain heads are above them.
use Rattle.std.specs.Prelude.{ℕ, zero, suc, ◌≡◌, refl, ◌||◌, not, Bool, true, false, List, [], ◌∷◌, ◌++◌, Option, if◌then◌else◌}
use Rattle.std.proofs.Common.{ap, ◌∙◌, sym, subst, arith}
use Rattle.std.proofs.lemmas.List.{append-nil}
use Rattle.mini_model.specs.declared.name.Name.{Name}
use Rattle.mini_model.specs.declared.name.SymbolId.{SymbolId}
use Rattle.mini_model.specs.Tree.{Tree, Trees, none, ◌▸◌}
use Rattle.mini_model.specs.declared.operator.AssignmentOperator.TheVariants.{Assign}
use Rattle.mini_laws.specs.declared.names.Use.{Use}
use Rattle.mini_laws.specs.declared.names.Binding.{Binding}
use Rattle.mini_laws.specs.declared.names.Targets.{Targets}
use Rattle.mini_laws.specs.DeclaredNames.{lexical_names, with_names, is_inner, has_inner, any_inner}
use Rattle.mini_laws.specs.Scopes.{use_of, opened, scopes_by, at_or_empty, lexical_scope}
use Rattle.mini_laws.specs.Resolved.{Environment}
use Rattle.mini_laws.specs.Scoped.{OwnScoped, Scoped, AllScoped}
use Rattle.mini_laws.specs.Symbols.{symbols_in, declared as declared_in, declared_from, times}
use Rattle.mini_laws.specs.Early.{Path, scope_declarations, clashing, early_names, all_early_names, targets_of, is_bad_jump, early_jumps, all_early_jumps}
use Rattle.mini_laws.proofs.Changes.{times_three}
use Rattle.mini_kept.specs.Carried.{numbers, all_numbers}
use Rattle.mini_kept.specs.KeepsNames.{count_of}
use Rattle.mini_kept.proofs.Below.{both_counts, empty_both, both_empty}
use Rattle.mini_kept.proofs.Anywhere.{once_anywhere, targets_anywhere}
use Rattle.mini_rows.specs.Sketches.{Head, AList, Call, New, StaticMember, Property, Spread, Interpolation, Yield, Assignment, Return, If, Block, shape_by, Asked, AsWhole, AsValue, asked_below, use_by, Leap, Returning, Yielding, leaps}
use Rattle.mini_rows.proofs.Arranging.{Plain, Below, Leaping, Any, Local, sum_below, Summed}

-- ---- scopes

opened_by : (xs : List Name) (j : ℕ) → xs ≡ [] → at_or_empty (lexical_scope xs ∷ []) j ≡ []
unfolding with_names
opened_by [] zero e = refl
opened_by [] (suc j) e = refl
opened_by (x ∷ xs) j e = absurd (cc e)

pub nothing_opened : (v : Use) (h : Head) (ts : Trees) → Plain h ts → (j : ℕ) → opened v (shape_by h) ts j ≡ []
unfolding scopes_by
nothing_opened v Block none p j = refl
nothing_opened v Block (t ▸ ts) p j = opened_by (lexical_names t) j p.0
nothing_opened v h ts p j = refl

pub used_below : (v : Use) (h : Head) (c : Asked) (j : ℕ) → use_of (shape_by h) (use_by v c) j ≡ use_by v (asked_below h c j)
used_below v AList AsWhole j = refl
used_below v AList c j = refl
used_below v (Call b) c zero = refl
used_below v (Call b) c (suc j) = refl
used_below v New c zero = refl
used_below v New c (suc j) = refl
used_below v (StaticMember b) c zero = refl
used_below v (Property b true) c zero = refl
used_below v (Property b false) c zero = refl
used_below v Spread AsValue j = refl
used_below v Spread c j = refl
used_below v Interpolation c zero = refl
used_below v Interpolation AsValue (suc j) = refl
used_below v Interpolation c (suc j) = refl
used_below v (Property b d) c (suc j) = refl
used_below v (StaticMember b) c (suc j) = refl
used_below v (Assignment Assign) c zero = refl
used_below v (Assignment o) c zero = refl
used_below v (Assignment o) c (suc j) = refl
used_below v If c zero = refl
used_below v If c (suc j) = refl
used_below v h c j = refl

-- a plain head has no name
pub unnamed_head : (u : Use) (env : Environment) (h : Head) (ts : Trees) → OwnScoped u env (shape_by h) [] ts
unnamed_head u env AList ts = tt
unnamed_head u env h ts = tt

-- a jump that needs nothing
pub nothing_asked : (ls : List Leap) → Leaping Any ls
nothing_asked [] = tt
nothing_asked (l ∷ ls) = (tt, nothing_asked ls)

module _ (v : Use) (env : Environment) where
  abbrev pub ScopedAs : Asked → Tree → Type 0
  ScopedAs c t = Scoped (use_by v c) env t

  pub scoped_below : (cs : ℕ → Asked) (scope : ℕ → List Binding) → ((j : ℕ) → scope j ≡ []) → (uses : ℕ → Use) → ((j : ℕ) → uses j ≡ use_by v (cs j)) → (i : ℕ) (e : Environment) → e ≡ env → (ts : Trees) → AllScoped scope uses i e ts → Below ScopedAs cs i ts
  unfolding Scoped
  scoped_below cs scope z uses w i e q none a = tt
  scoped_below cs scope z uses w i e q (t ▸ ts) a =
      let same : e ++ scope i ≡ env = ap (λ r. e ++ r) (z i) ∙ append-nil e ∙ q in
      (subst (λ u. Scoped u env t) (w i) (subst (λ r. Scoped (uses i) r t) same a.0), scoped_below cs scope z uses w (suc i) (e ++ scope i) same ts a.1)

  pub below_scoped : (cs : ℕ → Asked) (scope : ℕ → List Binding) → ((j : ℕ) → scope j ≡ []) → (uses : ℕ → Use) → ((j : ℕ) → uses j ≡ use_by v (cs j)) → (i : ℕ) (e : Environment) → e ≡ env → (ts : Trees) → Below ScopedAs cs i ts → AllScoped scope uses i e ts
  unfolding Scoped
  below_scoped cs scope z uses w i e q none a = tt
  below_scoped cs scope z uses w i e q (t ▸ ts) a =
      let same : e ++ scope i ≡ env = ap (λ r. e ++ r) (z i) ∙ append-nil e ∙ q in
      (subst (λ r. Scoped (uses i) r t) (sym same) (subst (λ u. Scoped u env t) (sym (w i)) a.0), below_scoped cs scope z uses w (suc i) (e ++ scope i) same ts a.1)

  pub scoped_local : Local Any ScopedAs
  unfolding Scoped
  scoped_local = record {
    down = λ h c ts p a. (nothing_asked (leaps h), scoped_below (asked_below h c) (opened (use_by v c) (shape_by h) ts) (nothing_opened (use_by v c) h ts p) (use_of (shape_by h) (use_by v c)) (used_below v h c) 0 env refl ts a.1);
    up = λ h c ts p l a. (unnamed_head (use_by v c) env h ts, below_scoped (asked_below h c) (opened (use_by v c) (shape_by h) ts) (nothing_opened (use_by v c) h ts p) (use_of (shape_by h) (use_by v c)) (used_below v h c) 0 env refl ts a);
  }

-- ---- symbols and numbers

module _ (v : Use) (x : Option SymbolId) where
  abbrev pub symbol_times : Asked → Tree → ℕ
  symbol_times c t = times x (declared_in (use_by v c) t)

  pub symbols_below : (cs : ℕ → Asked) (scope : ℕ → List Binding) → ((j : ℕ) → scope j ≡ []) → (uses : ℕ → Use) → ((j : ℕ) → uses j ≡ use_by v (cs j)) → (i : ℕ) (ts : Trees) → times x (declared_from scope uses i ts) ≡ sum_below symbol_times cs i ts
  unfolding declared_in
  symbols_below cs scope z uses w i none = refl
  symbols_below cs scope z uses w i (t ▸ ts) =
      omega (arith, times_three x (symbols_in (scope i)) (declared_in (uses i) t) (declared_from scope uses (suc i) ts), ap (λ bs. times x (symbols_in bs)) (z i), ap (λ u. times x (declared_in u t)) (w i), symbols_below cs scope z uses w (suc i) ts)

  pub symbols_summed : Summed symbol_times
  unfolding declared_in
  symbols_summed h c ts p = symbols_below (asked_below h c) (opened (use_by v c) (shape_by h) ts) (nothing_opened (use_by v c) h ts p) (use_of (shape_by h) (use_by v c)) (used_below v h c) 0 ts

module _ (k : ℕ) where
  abbrev pub number_times : Asked → Tree → ℕ
  number_times c t = count_of k (numbers t)

  pub numbers_below : (cs : ℕ → Asked) (i : ℕ) (ts : Trees) → count_of k (all_numbers ts) ≡ sum_below number_times cs i ts
  unfolding numbers
  numbers_below cs i none = refl
  numbers_below cs i (t ▸ ts) = omega (arith, both_counts k (numbers t) (all_numbers ts), numbers_below cs (suc i) ts)

  pub numbers_summed : Summed number_times
  unfolding numbers
  numbers_summed h c ts p = numbers_below (asked_below h c) 0 ts

-- ---- whether an inner expression stands in it

pub no_inner_head : (h : Head) → is_inner (shape_by h) ≡ false
no_inner_head AList = refl
no_inner_head h = refl

module _ (b : Bool) where
  abbrev pub InnerIf : Asked → Tree → Type 0
  InnerIf c t = (has_inner t || b) ≡ b

  pub or_both : (x y : Bool) → ((x || y) || b) ≡ b → ((x || b) ≡ b) × ((y || b) ≡ b)
  or_both true y e = (e, by y)
    where
      by : (y : Bool) → (y || b) ≡ b
      by true = e
      by false = refl
  or_both false y e = (refl, e)

  pub both_or : (x y : Bool) → (x || b) ≡ b → (y || b) ≡ b → ((x || y) || b) ≡ b
  both_or true y e f = e
  both_or false y e f = f

  pub inner_below : (cs : ℕ → Asked) (i : ℕ) (ts : Trees) → (any_inner ts || b) ≡ b → Below InnerIf cs i ts
  unfolding has_inner
  inner_below cs i none e = tt
  inner_below cs i (t ▸ ts) e =
      let (x, y) = or_both (has_inner t) (any_inner ts) e in
      (x, inner_below cs (suc i) ts y)

  pub below_inner : (cs : ℕ → Asked) (i : ℕ) (ts : Trees) → Below InnerIf cs i ts → (any_inner ts || b) ≡ b
  unfolding has_inner
  below_inner cs i none a = refl
  below_inner cs i (t ▸ ts) a = both_or (has_inner t) (any_inner ts) a.0 (below_inner cs (suc i) ts a.1)

  pub inner_local : Local Any InnerIf
  unfolding has_inner
  inner_local = record {
    down = λ h c ts p e. (nothing_asked (leaps h), inner_below (asked_below h c) 0 ts (sym (ap (λ a. (a || any_inner ts) || b) (no_inner_head h)) ∙ e));
    up = λ h c ts p l a. ap (λ a. (a || any_inner ts) || b) (no_inner_head h) ∙ below_inner (asked_below h c) 0 ts a;
  }

-- ---- early errors

no_clash : (h : Head) (ts : Trees) → Plain h ts → clashing [] (scope_declarations (shape_by h) [] ts) ≡ []
unfolding scope_declarations
no_clash Block ts p = p.1
no_clash h ts p = refl

abbrev pub Once : Asked → Tree → Type 0
Once c t = early_names [] t ≡ []

pub once_below : (cs : ℕ → Asked) (p : Path) (i : ℕ) (ts : Trees) → all_early_names p i ts ≡ [] → Below Once cs i ts
unfolding early_names
once_below cs p i none e = tt
once_below cs p i (t ▸ ts) e =
    let (x, y) = empty_both (early_names (p ++ i ∷ []) t) (all_early_names p (suc i) ts) e in
    (once_anywhere (p ++ i ∷ []) [] t x, once_below cs p (suc i) ts y)

pub below_once : (cs : ℕ → Asked) (p : Path) (i : ℕ) (ts : Trees) → Below Once cs i ts → all_early_names p i ts ≡ []
unfolding early_names
below_once cs p i none a = refl
below_once cs p i (t ▸ ts) a = both_empty (early_names (p ++ i ∷ []) t) (all_early_names p (suc i) ts) (once_anywhere [] (p ++ i ∷ []) t a.0) (below_once cs p (suc i) ts a.1)

pub once_local : Local Any Once
unfolding early_names
once_local = record {
  down = λ h c ts p e. (nothing_asked (leaps h), once_below (asked_below h c) [] 0 ts (empty_both (clashing [] (scope_declarations (shape_by h) [] ts)) (all_early_names [] 0 ts) e).1);
  up = λ h c ts p l a. both_empty (clashing [] (scope_declarations (shape_by h) [] ts)) (all_early_names [] 0 ts) (no_clash h ts p) (below_once (asked_below h c) [] 0 ts a);
}

same_targets : (h : Head) (ts : Trees) (g : Targets) (i : ℕ) → targets_of (shape_by h) ts g i ≡ g
unfolding targets_of
same_targets AList ts g i = refl
same_targets h ts g i = refl

-- what a jump out of the body needs
abbrev pub HasTarget : Targets → Leap → Type 0
HasTarget g Returning = g.returns ≡ true
HasTarget g Yielding = g.yields ≡ true

abbrev nowhere : List Path
nowhere = [] ∷ []

named_target : (b : Bool) → (if not b then nowhere else []) ≡ [] → b ≡ true
named_target true e = refl
named_target false e = absurd (cc e)

aimed_at : (h : Head) (ts : Trees) (g : Targets) → (if is_bad_jump (shape_by h) ts g then nowhere else []) ≡ [] → Leaping (HasTarget g) (leaps h)
aimed_at Return ts g e = (named_target g.returns e, tt)
aimed_at (Yield b) ts g e = (named_target g.yields e, tt)
aimed_at h ts g e = tt

no_bad : (h : Head) (ts : Trees) (g : Targets) → Leaping (HasTarget g) (leaps h) → is_bad_jump (shape_by h) ts g ≡ false
no_bad Return ts g l = ap not l.0
no_bad (Yield b) ts g l = ap not l.0
no_bad h ts g l = refl

module _ (g : Targets) where
  abbrev pub Aimed : Asked → Tree → Type 0
  Aimed c t = early_jumps g [] t ≡ []

  pub aimed_below : (cs : ℕ → Asked) (targets : ℕ → Targets) → ((j : ℕ) → targets j ≡ g) → (p : Path) (i : ℕ) (ts : Trees) → all_early_jumps targets p i ts ≡ [] → Below Aimed cs i ts
  unfolding early_jumps
  aimed_below cs targets z p i none e = tt
  aimed_below cs targets z p i (t ▸ ts) e =
      let (x, y) = empty_both (early_jumps (targets i) (p ++ i ∷ []) t) (all_early_jumps targets p (suc i) ts) e in
      (targets_anywhere g (p ++ i ∷ []) [] t (subst (λ r. early_jumps r (p ++ i ∷ []) t ≡ []) (z i) x), aimed_below cs targets z p (suc i) ts y)

  pub below_aimed : (cs : ℕ → Asked) (targets : ℕ → Targets) → ((j : ℕ) → targets j ≡ g) → (p : Path) (i : ℕ) (ts : Trees) → Below Aimed cs i ts → all_early_jumps targets p i ts ≡ []
  unfolding early_jumps
  below_aimed cs targets z p i none a = refl
  below_aimed cs targets z p i (t ▸ ts) a =
      both_empty (early_jumps (targets i) (p ++ i ∷ []) t) (all_early_jumps targets p (suc i) ts) (subst (λ r. early_jumps r (p ++ i ∷ []) t ≡ []) (sym (z i)) (targets_anywhere g [] (p ++ i ∷ []) t a.0)) (below_aimed cs targets z p (suc i) ts a.1)

  pub aimed_local : Local (HasTarget g) Aimed
  unfolding early_jumps
  aimed_local = record {
    down = λ h c ts p e. (
        let (x, y) = empty_both (if is_bad_jump (shape_by h) ts g then nowhere else []) (all_early_jumps (targets_of (shape_by h) ts g) [] 0 ts) e in
        (aimed_at h ts g x, aimed_below (asked_below h c) (targets_of (shape_by h) ts g) (same_targets h ts g) [] 0 ts y)
        );
    up = λ h c ts p l a. both_empty (if is_bad_jump (shape_by h) ts g then nowhere else []) (all_early_jumps (targets_of (shape_by h) ts g) [] 0 ts) (ap (λ b. if b then nowhere else []) (no_bad h ts g l)) (below_aimed (asked_below h c) (targets_of (shape_by h) ts g) (same_targets h ts g) [] 0 ts a);
  }
