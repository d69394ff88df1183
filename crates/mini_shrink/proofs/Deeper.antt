-- What a node tells of `arguments`, of a direct eval and of what a `var` is given is no more after
-- a step below it, and what it asks of an environment.
use Rattle.std.specs.Prelude.{ℕ, suc, ◌≡◌, ◌≤◌, ◌+◌, refl, Bool, true, false, ◌&&◌, ◌||◌, not, List, [], ◌∷◌, map, Option, Some, None, if◌then◌else◌}
use Rattle.std.specs.List.{list_any}
use Rattle.std.proofs.Common.{ap, ◌∙◌, sym, arith, true≢false}
use Rattle.mini_model.specs.declared.name.Name.{Name}
use Rattle.mini_model.specs.declared.name.SymbolId.{SymbolId}
use Rattle.mini_model.specs.declared.place.Position.{Position}
use Rattle.mini_model.specs.declared.shape.Shape.{Shape}
use Rattle.mini_model.specs.declared.shape.Shape.TheVariants as shape
use Rattle.mini_model.specs.Tree.{Tree, Trees, none, ◌▸◌, count, shape_of, is_absent}
use Rattle.mini_model.specs.Position.{child_position}
use Rattle.mini_model.specs.Rewriting.{Step, here, inside, StepIn, first, later}
use Rattle.mini_laws.specs.declared.names.Use.{Use}
use Rattle.mini_laws.specs.declared.names.Use.TheVariants.{Read, Hoisted, Headed}
use Rattle.mini_laws.specs.declared.names.Binding.{Binding}
use Rattle.mini_laws.specs.DeclaredNames.{bound_names}
use Rattle.mini_laws.specs.Scopes.{opened}
use Rattle.mini_laws.specs.Resolved.{Environment, with_symbol, gives_value}
use Rattle.mini_laws.specs.Strict.{is_strict_in}
use Rattle.mini_laws.specs.Symbols.{symbols_in, is_same, times, Within}
use Rattle.mini_laws.specs.ScopeList.{names_in, any_has_eval, by_symbol}
use Rattle.mini_laws.specs.Mentions.{Mention, same_variable, is_among}
use Rattle.mini_laws.specs.Shared.{names_arguments, reached_params, written_by, given_values, write_at, is_pattern, names_in_pattern, own_pattern_writes}
use Rattle.mini_kept.specs.Frames.{unbracketed}
use Rattle.mini_kept.specs.KeepsShapes.{KeepsShapes}
use Rattle.mini_kept.proofs.LooseScopes.{AllKeep}
use Rattle.mini_shrink.specs.Pace.{reads_if, Setting}
use Rattle.mini_shrink.specs.Shrinking.{SameFound, LooksUp, OwnShrinks}
use Rattle.mini_shrink.specs.Questions.{asks, mentions_such, sets_such, pattern_gives, names_at, arguments_at, seen_from, seen_at}
use Rattle.mini_shrink.proofs.Fitting.{AsksFewerThere}
use Rattle.mini_shrink.proofs.Owns.{implied, or_implied, and_implied, if_implied, any_map, names_shrink, arguments_less, evals_less}

-- ---- what is asked of an environment

pub names_look_up : (ys : Setting → Shape → ℕ → Trees → List Name) (s : ℕ) → LooksUp (asks (names_at ys s))
names_look_up ys s = record { before = λ c env env' f h xs n ts. refl }

pub mentions_look_up : (p : Mention → Bool) → LooksUp (asks (mentions_such p))
mentions_look_up p = record { before = λ c env env' f h xs n ts. refl }

pub seen_looks_up : (s : ℕ) → LooksUp (asks (seen_at s))
seen_looks_up s = record { before = λ c env env' f h xs n ts. refl }

pub sets_look_up : (p : Mention → Bool) → LooksUp (asks (sets_such p))
sets_look_up p = record { before = λ c env env' f h xs n ts. refl }

same_found : (env env' : Environment) → SameFound env env' → (ys : List Name) → map (with_symbol Read env) ys ≡ map (with_symbol Read env') ys
same_found env env' f [] = refl
same_found env env' f (y ∷ ys) = λ j. record { spelling = y.spelling; symbol = f Read y.spelling j } ∷ same_found env env' f ys j

same_patterned : (u : Use) (env env' : Environment) → SameFound env env' → (h : Shape) (ts : Trees) → own_pattern_writes u env h ts ≡ own_pattern_writes u env' h ts
same_patterned u env env' f shape.VariableDeclarator none = refl
same_patterned u env env' f shape.VariableDeclarator (t ▸ none) = refl
same_patterned u env env' f shape.VariableDeclarator (t ▸ (i ▸ ts)) = ap (λ ys. if gives_value u (is_absent i) then ys else []) (same_found env env' f (names_in_pattern t))
same_patterned u env env' f h ts = refl

pub pattern_gives_looks_up : (s : ℕ) → LooksUp (asks (pattern_gives s))
pattern_gives_looks_up s = record { before = λ c env env' f h xs n ts. ap (λ ys. reads_if (is_among (by_symbol s) ys)) (same_patterned c.used env env' f h ts) }

-- ---- a symbol among the names of a scope

module _ (s : ℕ) where
  abbrev y : Option SymbolId
  y = Some (record { 0 = s })

  same_by : (x : Name) → same_variable (by_symbol s) x ≡ is_same y x.symbol
  same_by x = by x.symbol
    where
      by : (z : Option SymbolId) → same_variable (by_symbol s) (record { spelling = x.spelling; symbol = z }) ≡ is_same y z
      by None = refl
      by (Some z) = refl

  counted : (bs : List Binding) → is_among (by_symbol s) (names_in bs) ≡ true → 1 ≤ times y (symbols_in bs)
  counted [] e = absurd (cc e)
  counted (b ∷ bs) e = by (is_same y b.name.symbol) (sym (ap (λ c. c || is_among (by_symbol s) (names_in bs)) (same_by b.name)) ∙ e) (counted bs)
    where
      by : (c : Bool) → (c || is_among (by_symbol s) (names_in bs)) ≡ true → (is_among (by_symbol s) (names_in bs) ≡ true → 1 ≤ times y (symbols_in bs)) → 1 ≤ (if c then 1 else 0) + times y (symbols_in bs)
      by true e f = omega arith
      by false e f = omega (arith, f e)

  among : (bs : List Binding) → 1 ≤ times y (symbols_in bs) → is_among (by_symbol s) (names_in bs) ≡ true
  among [] e = absurd (omega (arith, e))
  among (b ∷ bs) e = ap (λ c. c || is_among (by_symbol s) (names_in bs)) (same_by b.name) ∙ by (is_same y b.name.symbol) e (among bs)
    where
      by : (c : Bool) → 1 ≤ (if c then 1 else 0) + times y (symbols_in bs) → (1 ≤ times y (symbols_in bs) → is_among (by_symbol s) (names_in bs) ≡ true) → (c || is_among (by_symbol s) (names_in bs)) ≡ true
      by true e f = refl
      by false e f = f (omega (arith, e))

  pub among_within : (bs bs' : List Binding) → Within (symbols_in bs') (symbols_in bs) → is_among (by_symbol s) (names_in bs') ≡ true → is_among (by_symbol s) (names_in bs) ≡ true
  among_within bs bs' w e = among bs (omega (arith, counted bs' e, w y))

  seen_scopes : (sc sc' : ℕ → List Binding) → ((j : ℕ) → Within (symbols_in (sc' j)) (symbols_in (sc j))) → (i : ℕ) (ts : Trees) → seen_from sc' i ts (by_symbol s) ≡ true → seen_from sc i ts (by_symbol s) ≡ true
  seen_scopes sc sc' w i none e = e
  seen_scopes sc sc' w i (t ▸ ts) e =
      let b = any_has_eval (t ▸ ts) in
      or_implied (b && is_among (by_symbol s) (names_in (sc' i))) (seen_from sc' (suc i) ts (by_symbol s)) (b && is_among (by_symbol s) (names_in (sc i))) (seen_from sc (suc i) ts (by_symbol s))
      (and_implied b (is_among (by_symbol s) (names_in (sc' i))) b (is_among (by_symbol s) (names_in (sc i))) (λ k. k) (among_within (sc i) (sc' i) (w i))) (seen_scopes sc sc' w (suc i) ts) e

  module _ (R : Position → Tree → Tree → Type 0) (a : AsksFewerThere R) where
    seen_less : (sc sc' : ℕ → List Binding) → ((j : ℕ) → Within (symbols_in (sc' j)) (symbols_in (sc j))) → (i : ℕ) {π : ℕ → Position} {ts us : Trees} → StepIn R π ts us → seen_from sc' i us (by_symbol s) ≡ true → seen_from sc i ts (by_symbol s) ≡ true
    seen_less sc sc' w i (first π t u ts z) e =
        or_implied (any_has_eval (u ▸ ts) && is_among (by_symbol s) (names_in (sc' i))) (seen_from sc' (suc i) ts (by_symbol s)) (any_has_eval (t ▸ ts) && is_among (by_symbol s) (names_in (sc i))) (seen_from sc (suc i) ts (by_symbol s))
        (and_implied (any_has_eval (u ▸ ts)) (is_among (by_symbol s) (names_in (sc' i))) (any_has_eval (t ▸ ts)) (is_among (by_symbol s) (names_in (sc i))) (evals_less R a (first π t u ts z)) (among_within (sc i) (sc' i) (w i))) (seen_scopes sc sc' w (suc i) ts) e
    seen_less sc sc' w i (later π t ts us z) e =
        or_implied (any_has_eval (t ▸ us) && is_among (by_symbol s) (names_in (sc' i))) (seen_from sc' (suc i) us (by_symbol s)) (any_has_eval (t ▸ ts) && is_among (by_symbol s) (names_in (sc i))) (seen_from sc (suc i) ts (by_symbol s))
        (and_implied (any_has_eval (t ▸ us)) (is_among (by_symbol s) (names_in (sc' i))) (any_has_eval (t ▸ ts)) (is_among (by_symbol s) (names_in (sc i))) (evals_less R a (later π t ts us z)) (among_within (sc i) (sc' i) (w i))) (seen_less sc sc' w (suc i) z) e

    pub seen_shrinks : OwnShrinks R (asks (seen_at s))
    seen_shrinks = record {
      before = λ p c env h xs n ts us z. implied (seen_at s c env h xs n us) (seen_at s c env h xs n ts) (seen_less (opened c.used h ts) (opened c.used h us) z.scopes 0 z.step);
      orders = λ p c h ts us z. refl;
      ends = λ c t u z. refl;
    }

    -- ---- `arguments`

    reached : (strict : Bool) (p q b d : Tree) → bound_names q ≡ bound_names p → (names_arguments q ≡ true → names_arguments p ≡ true) → (names_arguments d ≡ true → names_arguments b ≡ true)
        → is_among (by_symbol s) (if not strict && (names_arguments q || names_arguments d) then bound_names q else []) ≡ true → is_among (by_symbol s) (if not strict && (names_arguments p || names_arguments b) then bound_names p else []) ≡ true
    reached strict p q b d e f g k =
        let later_names : Bool = not strict && (names_arguments q || names_arguments d) in
        let names : Bool = not strict && (names_arguments p || names_arguments b) in
        if_implied later_names names (by_symbol s) (bound_names p) (and_implied (not strict) (names_arguments q || names_arguments d) (not strict) (names_arguments p || names_arguments b) (λ x. x) (or_implied (names_arguments q) (names_arguments d) (names_arguments p) (names_arguments b) f g))
        (sym (ap (λ ys. is_among (by_symbol s) (if later_names then ys else [])) e) ∙ k)

    reached_less : (strict : Bool) (h : Shape) (π : ℕ → Position) (ts us : Trees) → AllKeep π 0 ts us → StepIn R π ts us → is_among (by_symbol s) (reached_params strict h us) ≡ true → is_among (by_symbol s) (reached_params strict h ts) ≡ true
    reached_less strict (shape.Function d g ds) π _ _ k (first _ t u none z) e = e
    reached_less strict (shape.Function d g ds) π _ _ k (first _ t u (p ▸ none) z) e = e
    reached_less strict (shape.Function d g ds) π _ _ k (first _ t u (p ▸ (b ▸ ts)) z) e = e
    reached_less strict (shape.Function d g ds) π _ _ k (later _ t _ _ (first _ p q none z)) e = e
    reached_less strict (shape.Function d g ds) π _ _ k (later _ t _ _ (first _ p q (b ▸ ts) z)) e = reached strict p q b b k.1.0.bound (arguments_less R a z) (λ x. x) e
    reached_less strict (shape.Function d g ds) π _ _ k (later _ t _ _ (later _ p _ _ (first _ b c ts z))) e = reached strict p p b c refl (λ x. x) (arguments_less R a z) e
    reached_less strict (shape.Function d g ds) π _ _ k (later _ t _ _ (later _ p _ _ (later _ b ts us z))) e = e
    reached_less strict h π ts us k z e = e

    pub arguments_shrink : OwnShrinks R (asks (names_at arguments_at s))
    arguments_shrink = names_shrink R arguments_at s (λ p c h n ts us z. reached_less (is_strict_in c.strict h) h (child_position h p (count ts)) ts us z.kept z.step)

-- ---- what a `var` is given

module _ (R : Position → Tree → Tree → Type 0) (shapes : KeepsShapes R) where
  absent_stays : {p : Position} {t u : Tree} → Step R p t u → is_absent t ≡ true → is_absent u ≡ true
  absent_stays (here p n w r) e = (shapes.asked p n w r).absent e
  absent_stays (inside p h xs n ts us z) e = e

  -- a declarator gives a value only if it did
  gives_still : (v : Use) (i j : Tree) → (is_absent i ≡ true → is_absent j ≡ true) → gives_value v (is_absent j) ≡ true → gives_value v (is_absent i) ≡ true
  gives_still Headed i j f e = refl
  gives_still Hoisted i j f e = by (is_absent i) (is_absent j) f e
    where
      by : (x y : Bool) → (x ≡ true → y ≡ true) → not y ≡ true → not x ≡ true
      by true true f e = e
      by true false f e = absurd (true≢false (sym (f refl)))
      by false y f e = refl
  gives_still v i j f e = absurd (true≢false (sym e))

  given_if : (g : Name → Bool) (a c : Bool) (ys zs : List Name) → ys ≡ zs → (a ≡ true → c ≡ true) → list_any g (if a then ys else []) ≡ true → list_any g (if c then zs else []) ≡ true
  given_if g true true ys zs e f k = sym (ap (list_any g) e) ∙ k
  given_if g true false ys zs e f k = absurd (true≢false (sym (f refl)))
  given_if g false c ys zs e f k = absurd (true≢false (sym k))

  written_same : (xs : List Name) (t u : Tree) → bound_names u ≡ bound_names t → written_by xs u ≡ written_by xs t
  written_same [] t u e = e
  written_same (x ∷ xs) t u e = refl

  given_less : (g : Name → Bool) (v : Use) (h : Shape) (xs : List Name) (π : ℕ → Position) (ts us : Trees) → AllKeep π 0 ts us → StepIn R π ts us → list_any g (given_values v h xs us) ≡ true → list_any g (given_values v h xs ts) ≡ true
  given_less g v shape.VariableDeclarator xs π _ _ k (first _ t u none z) e = e
  given_less g v shape.VariableDeclarator xs π _ _ k (first _ t u (i ▸ ts) z) e = given_if g (gives_value v (is_absent i)) (gives_value v (is_absent i)) (written_by xs u) (written_by xs t) (written_same xs t u k.0.bound) (λ x. x) e
  given_less g v shape.VariableDeclarator xs π _ _ k (later _ t _ _ (first _ i j ts z)) e = given_if g (gives_value v (is_absent j)) (gives_value v (is_absent i)) (written_by xs t) (written_by xs t) refl (gives_still v i j (absent_stays z)) e
  given_less g v shape.VariableDeclarator xs π _ _ k (later _ t _ _ (later _ i ts us z)) e = e
  given_less g v h xs π ts us k z e = absurd (true≢false (sym e))

  pub sets_shrink : (p : Mention → Bool) → OwnShrinks R (asks (sets_such p))
  sets_shrink p = record {
    before = λ o c env h xs n ts us z. implied (sets_such p c env h xs n us) (sets_such p c env h xs n ts)
        (or_implied _ _ _ _ (λ e. e) λ e. any_map p (write_at c.around) (given_values c.used h xs ts) ∙ given_less (λ y. p (write_at c.around y)) c.used h xs (child_position h o (count ts)) ts us z.kept z.step (sym (any_map p (write_at c.around) (given_values c.used h xs us)) ∙ e));
    orders = λ o c h ts us z. refl;
    ends = λ c t u z. refl;
  }

  -- ---- what a pattern of a `var` is given

  pattern_by : (h : Shape) → is_pattern (unbracketed h) ≡ is_pattern h
  pattern_by (shape.BindingProperty shorthand computed) = refl
  pattern_by (shape.AssignmentTargetPropertyProperty computed) = refl
  pattern_by shape.AssignmentTargetPropertyIdentifier = refl
  pattern_by (shape.MethodDefinition k computed is_static) = refl
  pattern_by (shape.PropertyDefinition computed is_static) = refl
  pattern_by h = refl

  pattern_same : (t u : Tree) → unbracketed (shape_of u) ≡ unbracketed (shape_of t) → bound_names u ≡ bound_names t → names_in_pattern u ≡ names_in_pattern t
  pattern_same t u e b = λ j. if (sym (pattern_by (shape_of u)) ∙ ap is_pattern e ∙ pattern_by (shape_of t)) j then b j else []

  patterned_less : (g : Name → Bool) (v : Use) (env : Environment) (h : Shape) (p : Position) (m : ℕ) (ts us : Trees) → AllKeep (child_position h p m) 0 ts us → StepIn R (child_position h p m) ts us → list_any g (own_pattern_writes v env h us) ≡ true → list_any g (own_pattern_writes v env h ts) ≡ true
  patterned_less g v env shape.VariableDeclarator p m _ _ k (first _ t u none z) e = e
  patterned_less g v env shape.VariableDeclarator p m _ _ k (first _ t u (i ▸ ts) z) e =
      let found : Tree → List Name = λ d. map (with_symbol Read env) (names_in_pattern d) in
      given_if g (gives_value v (is_absent i)) (gives_value v (is_absent i)) (found u) (found t) (ap (map (with_symbol Read env)) (pattern_same t u (k.0.root refl) k.0.bound)) (λ x. x) e
  patterned_less g v env shape.VariableDeclarator p m _ _ k (later _ t _ _ (first _ i j ts z)) e =
      let found : List Name = map (with_symbol Read env) (names_in_pattern t) in
      given_if g (gives_value v (is_absent j)) (gives_value v (is_absent i)) found found refl (gives_still v i j (absent_stays z)) e
  patterned_less g v env shape.VariableDeclarator p m _ _ k (later _ t _ _ (later _ i ts us z)) e = e
  patterned_less g v env h p m ts us k z e = absurd (true≢false (sym e))

  pub pattern_gives_shrink : (s : ℕ) → OwnShrinks R (asks (pattern_gives s))
  pattern_gives_shrink s = record {
    before = λ o c env h xs n ts us z. implied (pattern_gives s c env h xs n us) (pattern_gives s c env h xs n ts) (patterned_less (same_variable (by_symbol s)) c.used env h o (count ts) ts us z.kept z.step);
    orders = λ o c h ts us z. refl;
    ends = λ c t u z. refl;
  }
