-- What a node itself tells of its names is no more after a step below it.
use Rattle.std.specs.Prelude.{ℕ, zero, suc, ◌≡◌, refl, Bool, true, false, ◌&&◌, ◌||◌, List, [], ◌∷◌, ◌++◌, map, if◌then◌else◌}
use Rattle.std.specs.List.{list_any}
use Rattle.std.proofs.Common.{ap, ◌∙◌, sym, subst, true≢false}
use Rattle.mini_model.specs.declared.kind.VariableDeclarationKind.TheVariants.{Var}
use Rattle.mini_model.specs.declared.name.Name.{Name}
use Rattle.mini_model.specs.declared.place.Position.{Position}
use Rattle.mini_model.specs.declared.place.Position.TheVariants.{Expr}
use Rattle.mini_model.specs.declared.shape.Shape.{Shape}
use Rattle.mini_model.specs.declared.shape.Shape.TheVariants as shape
use Rattle.mini_model.specs.Tree.{Tree, Trees, none, ◌▸◌, count}
use Rattle.mini_model.specs.Position.{child_position, callee_seat}
use Rattle.mini_model.specs.Rewriting.{Step, here, inside, StepIn, first, later}
use Rattle.mini_laws.specs.declared.names.Declared.TheVariants as declared
use Rattle.mini_laws.specs.DeclaredNames.{names_of, all_names, bound_names, is_spelled}
use Rattle.mini_laws.specs.ScopeList.{has_eval, any_has_eval, is_eval_call, calls_eval, is_eval_callee, by_symbol}
use Rattle.mini_laws.specs.Mentions.{Mention, same_variable, is_among}
use Rattle.mini_laws.specs.Shared.{is_of_function, names_arguments, any_names_arguments, is_name_of_variable, is_arguments, spelled_among, own_caught}
use Rattle.mini_laws.specs.Foreign.{own_pattern_names, own_lexical, own_switched, has_number, any_has_number, params_with, own_params_around}
use Rattle.mini_kept.specs.SameNames.{SameNames, is_name, is_among as is_listed}
use Rattle.mini_kept.proofs.SameScopes.{same_name, name_itself}
use Rattle.mini_kept.proofs.LooseScopes.{AllKeep}
use Rattle.mini_kept.proofs.Below.{all_bound, first_bound}
use Rattle.mini_shrink.specs.Pace.{AtMost, reads_if, Setting}
use Rattle.mini_shrink.specs.Shrinking.{Changed, OwnShrinks}
use Rattle.mini_shrink.specs.Questions.{asks, mentions_such, names_at, lexical_at, switched_at, pattern_at, caught_at, params_at}
use Rattle.mini_shrink.proofs.Fitting.{AsksFewerThere}
use Rattle.mini_shrink.proofs.Paces.{itself}

-- ---- tests

pub implied : (a b : Bool) → (a ≡ true → b ≡ true) → AtMost (reads_if a) (reads_if b)
implied true true f = tt
implied true false f = absurd (true≢false (sym (f refl)))
implied false true f = tt
implied false false f = tt

pub or_implied : (a b c d : Bool) → (a ≡ true → c ≡ true) → (b ≡ true → d ≡ true) → (a || b) ≡ true → (c || d) ≡ true
or_implied true b true d f g e = refl
or_implied true b false d f g e = absurd (true≢false (sym (f refl)))
or_implied false b true d f g e = refl
or_implied false b false d f g e = g e

pub and_implied : (a b c d : Bool) → (a ≡ true → c ≡ true) → (b ≡ true → d ≡ true) → (a && b) ≡ true → (c && d) ≡ true
and_implied true b true d f g e = g e
and_implied true b false d f g e = absurd (true≢false (sym (f refl)))
and_implied false b c d f g e = absurd (cc e)

pub if_implied : (a b : Bool) (x : Name) (xs : List Name) → (a ≡ true → b ≡ true) → is_among x (if a then xs else []) ≡ true → is_among x (if b then xs else []) ≡ true
if_implied true true x xs f e = e
if_implied true false x xs f e = absurd (true≢false (sym (f refl)))
if_implied false b x xs f e = absurd (cc e)

-- ---- what holds of one of the same names

found_name : (g : Name → Bool) (ys : List Name) → list_any g ys ≡ true → (y : Name) × (g y ≡ true) × (is_listed ys y ≡ true)
found_name g [] e = absurd (cc e)
found_name g (y ∷ ys) e = by (g y) refl e (found_name g ys)
  where
    by : (b : Bool) → g y ≡ b → (b || list_any g ys) ≡ true → (list_any g ys ≡ true → (z : Name) × (g z ≡ true) × (is_listed ys z ≡ true)) → (z : Name) × (g z ≡ true) × (is_listed (y ∷ ys) z ≡ true)
    by true k e f = (y, k, ap (λ b. b || is_listed ys y) (name_itself y))
    by false k e f = let (z, u, v) = f e in (z, u, second (is_name y z) (is_listed ys z) v)
      where
        second : (a b : Bool) → b ≡ true → (a || b) ≡ true
        second true b e = refl
        second false b e = e

listed_name : (g : Name → Bool) (ys : List Name) (y : Name) → is_listed ys y ≡ true → g y ≡ true → list_any g ys ≡ true
listed_name g [] y e k = absurd (cc e)
listed_name g (z ∷ ys) y e k = by (is_name z y) refl e (λ f. listed_name g ys y f k)
  where
    by : (b : Bool) → is_name z y ≡ b → (b || is_listed ys y) ≡ true → (is_listed ys y ≡ true → list_any g ys ≡ true) → (g z || list_any g ys) ≡ true
    by true f e r = ap (λ b. b || list_any g ys) (ap g (same_name z y f) ∙ k)
    by false f e r = second (g z) (list_any g ys) (r e)
      where
        second : (a b : Bool) → b ≡ true → (a || b) ≡ true
        second true b e = refl
        second false b e = e

pub any_same : (g : Name → Bool) (us ts : List Name) → SameNames us ts → list_any g us ≡ true → list_any g ts ≡ true
any_same g us ts f e = let (y, k, i) = found_name g us e in listed_name g ts y (sym (f y) ∙ i) k

pub any_map : {A B : Type 0} (p : B → Bool) (f : A → B) (xs : List A) → list_any p (map f xs) ≡ list_any (λ x. p (f x)) xs
any_map p f [] = refl
any_map p f (x ∷ xs) = ap (λ b. p (f x) || b) (any_map p f xs)

-- ---- names below

all_lexical : (π : ℕ → Position) (i : ℕ) (ts us : Trees) → AllKeep π i ts us → all_names declared.Lexical us ≡ all_names declared.Lexical ts
unfolding names_of
all_lexical π i none none k = refl
all_lexical π i none (u ▸ us) k = absurd k
all_lexical π i (t ▸ ts) none k = absurd k
all_lexical π i (t ▸ ts) (u ▸ us) k = λ j. k.0.lexical j ++ all_lexical π (suc i) ts us k.1 j

hoisted_twice : (xs ys xs' ys' : List Name) → SameNames xs xs' → SameNames ys ys' → SameNames (xs ++ ys) (xs' ++ ys')
hoisted_twice xs ys xs' ys' f g x = listed_both xs ys ∙ (λ j. f x j || g x j) ∙ sym (listed_both xs' ys')
  where
    listed_both : (xs ys : List Name) → is_listed (xs ++ ys) x ≡ (is_listed xs x || is_listed ys x)
    listed_both [] ys = refl
    listed_both (y ∷ xs) ys = ap (λ b. is_name y x || b) (listed_both xs ys) ∙ over (is_name y x)
      where
        over : (b : Bool) → (b || (is_listed xs x || is_listed ys x)) ≡ ((b || is_listed xs x) || is_listed ys x)
        over true = refl
        over false = refl

all_hoisted : (π : ℕ → Position) (i : ℕ) (ts us : Trees) → AllKeep π i ts us → SameNames (all_names declared.Hoisted us) (all_names declared.Hoisted ts)
unfolding names_of
all_hoisted π i none none k x = refl
all_hoisted π i none (u ▸ us) k x = absurd k
all_hoisted π i (t ▸ ts) none k x = absurd k
all_hoisted π i (t ▸ ts) (u ▸ us) k x = hoisted_twice (names_of declared.Hoisted u) (all_names declared.Hoisted us) (names_of declared.Hoisted t) (all_names declared.Hoisted ts) k.0.hoisted (all_hoisted π (suc i) ts us k.1) x

class_names : (d : Bool) (b : Bool) (π : ℕ → Position) (ts us : Trees) → AllKeep π 0 ts us → own_lexical b (shape.Class d) us ≡ own_lexical b (shape.Class d) ts
class_names d b π none none k = refl
class_names d b π none (u ▸ us) k = absurd k
class_names d b π (t ▸ ts) none k = absurd k
class_names d b π (t ▸ none) (u ▸ none) k = refl
class_names d b π (t ▸ none) (u ▸ (v ▸ us)) k = absurd k.1
class_names d b π (t ▸ (s ▸ ts)) (u ▸ none) k = absurd k.1
class_names d b π (t ▸ (s ▸ none)) (u ▸ (v ▸ none)) k = refl
class_names d b π (t ▸ (s ▸ none)) (u ▸ (v ▸ (w ▸ us))) k = absurd k.1.1
class_names d b π (t ▸ (s ▸ (r ▸ ts))) (u ▸ (v ▸ none)) k = absurd k.1.1
class_names d b π (t ▸ (s ▸ (r ▸ none))) (u ▸ (v ▸ (w ▸ none))) k = refl
class_names d b π (t ▸ (s ▸ (r ▸ none))) (u ▸ (v ▸ (w ▸ (x ▸ us)))) k = absurd k.1.1.1
class_names d b π (t ▸ (s ▸ (r ▸ (q ▸ ts)))) (u ▸ (v ▸ (w ▸ none))) k = absurd k.1.1.1
class_names d b π (t ▸ (s ▸ (r ▸ (q ▸ ts)))) (u ▸ (v ▸ (w ▸ (x ▸ us)))) k = λ j. k.0.bound j ++ k.1.1.1.0.bound j

lexical_same : (b : Bool) (h : Shape) (π : ℕ → Position) (ts us : Trees) → AllKeep π 0 ts us → own_lexical b h us ≡ own_lexical b h ts
lexical_same b (shape.VariableDeclaration Var) π ts us k = refl
lexical_same b (shape.VariableDeclaration d) π ts us k = all_bound π ts us k
lexical_same true (shape.Function true g ds) π ts us k = refl
lexical_same b (shape.Function d g ds) π ts us k = first_bound π ts us k
lexical_same b (shape.Class d) π ts us k = class_names d b π ts us k
lexical_same b shape.CatchClause π ts us k = first_bound π ts us k
lexical_same b shape.ImportDeclaration π ts us k = all_bound π ts us k
lexical_same b h π ts us k = refl

pattern_same : (h : Shape) (n : ℕ) (π : ℕ → Position) (ts us : Trees) → AllKeep π 0 ts us → own_pattern_names h n us ≡ own_pattern_names h n ts
pattern_same shape.ObjectPattern n π ts us k = all_bound π ts us k
pattern_same shape.ArrayPattern n π ts us k = all_bound π ts us k
pattern_same shape.AssignmentPattern zero π ts us k = refl
pattern_same shape.AssignmentPattern (suc n) π ts us k = all_bound π ts us k
pattern_same h n π ts us k = refl

switched_same : (h : Shape) (π : ℕ → Position) (ts us : Trees) → AllKeep π 0 ts us → own_switched h us ≡ own_switched h ts
switched_same shape.SwitchStatement π ts us k = all_lexical π 0 ts us k
switched_same h π ts us k = refl

-- ---- questions about names

module _ (R : Position → Tree → Tree → Type 0) where
  -- a node's own names are the same
  pub names_shrink : (ys : Setting → Shape → ℕ → Trees → List Name) (s : ℕ) → ((p : Position) (c : Setting) (h : Shape) (n : ℕ) (ts us : Trees) → Changed R p c h ts us → is_among (by_symbol s) (ys c h n us) ≡ true → is_among (by_symbol s) (ys c h n ts) ≡ true) → OwnShrinks R (asks (names_at ys s))
  names_shrink ys s f = record {
    before = λ p c env h xs n ts us z. implied (is_among (by_symbol s) (ys c h n us)) (is_among (by_symbol s) (ys c h n ts)) (f p c h n ts us z);
    orders = λ p c h ts us z. refl;
    ends = λ c t u z. refl;
  }

  among_same : (x : Name) (ys zs : List Name) → ys ≡ zs → is_among x ys ≡ true → is_among x zs ≡ true
  among_same x ys zs e f = sym (ap (is_among x) e) ∙ f

  pub lexical_shrinks : (s : ℕ) → OwnShrinks R (asks (names_at lexical_at s))
  lexical_shrinks s = names_shrink lexical_at s (λ p c h n ts us z. among_same (by_symbol s) (own_lexical c.is_body h us) (own_lexical c.is_body h ts) (lexical_same c.is_body h (child_position h p (count ts)) ts us z.kept))

  pub pattern_shrinks : (s : ℕ) → OwnShrinks R (asks (names_at pattern_at s))
  pattern_shrinks s = names_shrink pattern_at s (λ p c h n ts us z. among_same (by_symbol s) (own_pattern_names h n us) (own_pattern_names h n ts) (pattern_same h n (child_position h p (count ts)) ts us z.kept))

  pub switched_shrinks : (s : ℕ) → OwnShrinks R (asks (names_at switched_at s))
  switched_shrinks s = names_shrink switched_at s (λ p c h n ts us z. among_same (by_symbol s) (own_switched h us) (own_switched h ts) (switched_same h (child_position h p (count ts)) ts us z.kept))

  -- `var`s under a parameter of `catch` of their name
  spelled_any : (x : Name) (ps ys : List Name) → is_among x (spelled_among ps ys) ≡ list_any (λ y. is_spelled y.spelling ps && same_variable x y) ys
  spelled_any x ps [] = refl
  spelled_any x ps (y ∷ ys) = by (is_spelled y.spelling ps) (spelled_any x ps ys)
    where
      by : (b : Bool) → is_among x (spelled_among ps ys) ≡ list_any (λ z. is_spelled z.spelling ps && same_variable x z) ys → is_among x (if b then y ∷ spelled_among ps ys else spelled_among ps ys) ≡ ((b && same_variable x y) || list_any (λ z. is_spelled z.spelling ps && same_variable x z) ys)
      by true e = ap (λ b. same_variable x y || b) e
      by false e = e

  caught_same : (x : Name) (ps ps' ys ys' : List Name) → ps' ≡ ps → SameNames ys' ys → is_among x (spelled_among ps' ys') ≡ true → is_among x (spelled_among ps ys) ≡ true
  caught_same x ps ps' ys ys' e f g =
      spelled_any x ps ys ∙ any_same (λ y. is_spelled y.spelling ps && same_variable x y) ys' ys f (sym (spelled_any x ps ys') ∙ sym (ap (λ r. is_among x (spelled_among r ys')) e) ∙ g)

  caught_names : (x : Name) (h : Shape) (π : ℕ → Position) (ts us : Trees) → AllKeep π 0 ts us → is_among x (own_caught h us) ≡ true → is_among x (own_caught h ts) ≡ true
  caught_names x shape.CatchClause π none none k e = e
  caught_names x shape.CatchClause π none (u ▸ us) k e = absurd k
  caught_names x shape.CatchClause π (t ▸ ts) none k e = absurd k
  caught_names x shape.CatchClause π (t ▸ ts) (u ▸ us) k e = caught_same x (bound_names t) (bound_names u) (all_names declared.Hoisted ts) (all_names declared.Hoisted us) k.0.bound (all_hoisted π 1 ts us k.1) e
  caught_names x h π ts us k e = e

  pub caught_shrinks : (s : ℕ) → OwnShrinks R (asks (names_at caught_at s))
  caught_shrinks s = names_shrink caught_at s (λ p c h n ts us z. caught_names (by_symbol s) h (child_position h p (count ts)) ts us z.kept)

  -- ---- names as they are mentioned

  pub mentions_shrink : (p : Mention → Bool) → OwnShrinks R (asks (mentions_such p))
  mentions_shrink p = record { before = λ o c env h xs n ts us z. itself _; orders = λ o c h ts us z. refl; ends = λ c t u z. refl }

  -- ---- what stands below a step

  module _ (a : AsksFewerThere R) where
    pub callee_less : {p : Position} {t u : Tree} → Step R p t u → p ≡ Expr callee_seat → is_eval_callee u ≡ true → is_eval_callee t ≡ true
    callee_less (here p n w r) e k = a.callee n w (subst (λ q. R q n w) e r) k
    callee_less (inside p shape.Identifier xs n ts us z) e k = k
    callee_less (inside p h xs n ts us z) e k = absurd (cc k)

    callees_less : {π : ℕ → Position} {ts us : Trees} → StepIn R π ts us → π 0 ≡ Expr callee_seat → calls_eval us ≡ true → calls_eval ts ≡ true
    callees_less (first π t u ts z) e k = callee_less z e k
    callees_less (later π t ts us z) e k = k

    call_less : (p : Position) (h : Shape) (m : ℕ) {ts us : Trees} → StepIn R (child_position h p m) ts us → is_eval_call h us ≡ true → is_eval_call h ts ≡ true
    call_less p (shape.CallExpression false) m z k = callees_less z refl k
    call_less p (shape.CallExpression true) m z k = absurd (cc k)
    call_less p h m z k = absurd (cc k)

    mutual
      unfolding has_eval

      pub eval_less : {p : Position} {t u : Tree} → Step R p t u → has_eval u ≡ true → has_eval t ≡ true
      eval_less (here p n w r) e = a.eval p n w r e
      eval_less (inside p h xs n ts us z) e = or_implied (is_eval_call h us) (any_has_eval us) (is_eval_call h ts) (any_has_eval ts) (call_less p h (count ts) z) (evals_less z) e

      pub evals_less : {π : ℕ → Position} {ts us : Trees} → StepIn R π ts us → any_has_eval us ≡ true → any_has_eval ts ≡ true
      evals_less (first π t u ts z) e = or_implied (has_eval u) (any_has_eval ts) (has_eval t) (any_has_eval ts) (eval_less z) (λ k. k) e
      evals_less (later π t ts us z) e = or_implied (has_eval t) (any_has_eval us) (has_eval t) (any_has_eval ts) (λ k. k) (evals_less z) e

    mutual
      unfolding names_arguments

      pub arguments_less : {p : Position} {t u : Tree} → Step R p t u → names_arguments u ≡ true → names_arguments t ≡ true
      arguments_less (here p n w r) e = a.arguments p n w r e
      arguments_less (inside p h xs n ts us z) e =
          or_implied (is_name_of_variable h && is_arguments xs) (any_names_arguments (is_of_function h) 0 us) (is_name_of_variable h && is_arguments xs) (any_names_arguments (is_of_function h) 0 ts) (λ k. k) (all_arguments_less (is_of_function h) 0 z) e

      all_arguments_less : {π : ℕ → Position} {ts us : Trees} (f : ℕ → Bool) (i : ℕ) → StepIn R π ts us → any_names_arguments f i us ≡ true → any_names_arguments f i ts ≡ true
      all_arguments_less f i (first π t u ts z) e =
          or_implied (f i && names_arguments u) (any_names_arguments f (suc i) ts) (f i && names_arguments t) (any_names_arguments f (suc i) ts) (and_implied (f i) (names_arguments u) (f i) (names_arguments t) (λ k. k) (arguments_less z)) (λ k. k) e
      all_arguments_less f i (later π t ts us z) e = or_implied (f i && names_arguments t) (any_names_arguments f (suc i) us) (f i && names_arguments t) (any_names_arguments f (suc i) ts) (λ k. k) (all_arguments_less f (suc i) z) e

    mutual
      unfolding has_number

      pub number_less : {p : Position} {t u : Tree} (b : ℕ) → Step R p t u → has_number b u ≡ true → has_number b t ≡ true
      number_less b (here p n w r) e = a.number p n w r b e
      number_less b (inside p h xs n ts us z) e = or_implied _ (any_has_number b us) _ (any_has_number b ts) (λ k. k) (numbers_less b z) e

      numbers_less : {π : ℕ → Position} {ts us : Trees} (b : ℕ) → StepIn R π ts us → any_has_number b us ≡ true → any_has_number b ts ≡ true
      numbers_less b (first π t u ts z) e = or_implied (has_number b u) (any_has_number b ts) (has_number b t) (any_has_number b ts) (number_less b z) (λ k. k) e
      numbers_less b (later π t ts us z) e = or_implied (has_number b t) (any_has_number b us) (has_number b t) (any_has_number b ts) (λ k. k) (numbers_less b z) e

    -- ---- parameters

    params_less : (x : Name) (b : ℕ) (t u : Tree) → bound_names u ≡ bound_names t → (has_number b u ≡ true → has_number b t ≡ true) → is_among x (params_with b u) ≡ true → is_among x (params_with b t) ≡ true
    params_less x b t u e f k = if_implied (has_number b u) (has_number b t) x (bound_names t) f (sym (ap (λ ys. is_among x (if has_number b u then ys else [])) e) ∙ k)

    around_less : (x : Name) (b : ℕ) (h : Shape) (π : ℕ → Position) (ts us : Trees) → AllKeep π 0 ts us → StepIn R π ts us → is_among x (own_params_around b h us) ≡ true → is_among x (own_params_around b h ts) ≡ true
    around_less x b (shape.Function d g ds) π _ _ k (first _ t u none z) e = e
    around_less x b (shape.Function d g ds) π _ _ k (first _ t u (p ▸ ts) z) e = e
    around_less x b (shape.Function d g ds) π _ _ k (later _ t _ _ (first _ p q ts z)) e = params_less x b p q k.1.0.bound (number_less b z) e
    around_less x b (shape.Function d g ds) π _ _ k (later _ t _ _ (later _ p ts us z)) e = e
    around_less x b (shape.ArrowFunctionExpression ds) π _ _ k (first _ p q ts z) e = params_less x b p q k.0.bound (number_less b z) e
    around_less x b (shape.ArrowFunctionExpression ds) π _ _ k (later _ p ts us z) e = e
    around_less x b h π ts us k z e = e

    pub params_shrink : (b s : ℕ) → OwnShrinks R (asks (names_at (params_at b) s))
    params_shrink b s = names_shrink (params_at b) s (λ p c h n ts us z. around_less (by_symbol s) b h (child_position h p (count ts)) ts us z.kept z.step)
