-- Where each binder is spelled in a scope of its body, a tree whose scopes declare no symbol binds
-- none: neither for a `var` nor otherwise, as far as what is spelled around it is no name of it.
use Rattle.std.specs.Prelude.{ℕ, suc, ◌+◌, ◌≡◌, ◌⊎◌, refl, Bool, true, false, ◌&&◌, ◌||◌, List, [], ◌∷◌, ◌++◌, Option, Some, None, if◌then◌else◌}
use Rattle.std.specs.List.{list_any, list_all}
use Rattle.std.proofs.Common.{ap, ◌∙◌, sym, subst, arith, inl, inr, true≢false}
use Rattle.mini_model.specs.declared.name.Name.{Name}
use Rattle.mini_model.specs.declared.name.SymbolId.{SymbolId}
use Rattle.mini_model.specs.declared.shape.Shape.{Shape}
use Rattle.mini_model.specs.declared.shape.Shape.TheVariants as shape
use Rattle.mini_model.specs.Tree.{Tree, Trees, node, none, ◌▸◌}
use Rattle.mini_model.specs.Weight.{same_text}
use Rattle.mini_accept.specs.WellShaped.{is_same_flag}
use Rattle.mini_laws.specs.declared.names.Use.{Use}
use Rattle.mini_laws.specs.declared.names.Use.TheVariants.{Hoisted, Headed}
use Rattle.mini_laws.specs.declared.names.Binding.{Binding}
use Rattle.mini_laws.specs.DeclaredNames.{names_of, is_spelled}
use Rattle.mini_laws.specs.Foreign.{own_pattern_names}
use Rattle.mini_laws.specs.Mentions.{same_variable, is_among}
use Rattle.mini_laws.specs.Resolved.{Environment, serves, is_for, or_else, own_symbol, symbol_of}
use Rattle.mini_laws.specs.Scoped.{NamesScoped, OwnScoped, Scoped, AllScoped}
use Rattle.mini_laws.specs.Scopes.{use_of, opened}
use Rattle.mini_laws.specs.ScopeList.{by_symbol}
use Rattle.mini_laws.specs.Symbols.{symbols_in, declared as declared_in, declared_from, is_same, times}
use Rattle.mini_laws.proofs.Changes.{times_three}
use Rattle.mini_laws.proofs.Numbers.{symbol_of_both}
use Rattle.mini_kept.specs.Loosely.{symbol}
use Rattle.mini_kept.proofs.Bools.{left, right}
use Rattle.mini_kept.proofs.Hoisting.{bound_scoped}
use Rattle.mini_kept.proofs.SameScopes.{same_texts}
use Rattle.mini_kept.proofs.Unbound.{bound_at, Other, Unbound, AllUnbound}
use Rattle.mini_shrink.specs.Cover.{Spellings, is_hoisting, use_if, with_scope, begins_body, spelled_first, is_covered, are_covered}
use Rattle.mini_shrink.proofs.Moments.{or_either}

-- ---- symbols that an environment doesn't give

module _ (k : ℕ) where
  abbrev x : Name
  x = by_symbol k

  pub by_same : (y : Name) → is_same (symbol k) y.symbol ≡ false → same_variable x y ≡ false
  by_same y e = by y.spelling y.symbol e
    where
      by : (s : List ℕ) (z : Option SymbolId) → is_same (symbol k) z ≡ false → same_variable x (record { spelling = s; symbol = z }) ≡ false
      by s None e = refl
      by s (Some z) e = e

  pub same_by : (y : Name) → same_variable x y ≡ false → is_same (symbol k) y.symbol ≡ false
  same_by y e = by y.spelling y.symbol e
    where
      by : (s : List ℕ) (z : Option SymbolId) → same_variable x (record { spelling = s; symbol = z }) ≡ false → is_same (symbol k) z ≡ false
      by s None e = refl
      by s (Some z) e = e

  -- a list in which a symbol doesn't stand begins with another
  split_times : (z y : Option SymbolId) (n : ℕ) → (if is_same z y then 1 else 0) + n ≡ 0 → (is_same z y ≡ false) × (n ≡ 0)
  split_times z y n e = by (is_same z y) refl
    where
      by : (b : Bool) → is_same z y ≡ b → (is_same z y ≡ false) × (n ≡ 0)
      by true q = let f : 1 + n ≡ 0 = sym (ap (λ c. (if c then 1 else 0) + n) q) ∙ e in absurd (omega (arith, f))
      by false q = let f : 0 + n ≡ 0 = sym (ap (λ c. (if c then 1 else 0) + n) q) ∙ e in (q, omega (arith, f))

  -- a name has a symbol, and another than this
  abbrev Another : Option SymbolId → Type 0
  Another None = ⊥
  Another (Some y) = is_same (symbol k) (Some y) ≡ false

  another : (y : Option SymbolId) → is_same None y ≡ false → is_same (symbol k) y ≡ false → Another y
  another None e f = absurd (true≢false e)
  another (Some y) e f = f

  pub or_unsame : (y z : Option SymbolId) → is_same (symbol k) y ≡ false → is_same (symbol k) z ≡ false → is_same (symbol k) (or_else y z) ≡ false
  or_unsame None z p q = q
  or_unsame (Some y) z p q = p

  another_first : (y z : Option SymbolId) → Another y → is_same (symbol k) (or_else y z) ≡ false
  another_first None z a = absurd a
  another_first (Some y) z a = a

  or_another : (y z : Option SymbolId) → is_same (symbol k) y ≡ false → Another z → Another (or_else y z)
  or_another None z p a = a
  or_another (Some y) z p a = p

  first_another : (y z : Option SymbolId) → Another y → Another (or_else y z)
  first_another None z a = absurd a
  first_another (Some y) z a = a

  if_unsame : (b : Bool) (y : Option SymbolId) → is_same (symbol k) y ≡ false → is_same (symbol k) (if b then y else None) ≡ false
  if_unsame true y p = p
  if_unsame false y p = refl

  pub unfound : (v : Use) (s : List ℕ) (env : Environment) → times (symbol k) (symbols_in env) ≡ 0 → is_same (symbol k) (symbol_of v s env) ≡ false
  unfound v s [] e = refl
  unfound v s (b ∷ env) e =
      let (own, rest) = split_times (symbol k) b.name.symbol (times (symbol k) (symbols_in env)) e in
      or_unsame (symbol_of v s env) (own_symbol v s b) (unfound v s env rest) (if_unsame (is_for v s b) b.name.symbol own)

  -- names that an environment gives other symbols
  pub names_other : (v : Use) (env : Environment) (xs : List Name) → NamesScoped v env xs → times (symbol k) (symbols_in env) ≡ 0 → Other k xs
  names_other v env [] s e = tt
  names_other v env (y ∷ ys) s e = (by_same y (ap (is_same (symbol k)) s.0 ∙ unfound v y.spelling env e), names_other v env ys s.1 e)

  -- a scope with the spelling gives another symbol
  found : (v : Use) (s : List ℕ) (bs : List Binding) → list_any (is_for v s) bs ≡ true → times None (symbols_in bs) ≡ 0 → times (symbol k) (symbols_in bs) ≡ 0 → Another (symbol_of v s bs)
  found v s [] e f g = absurd (true≢false (sym e))
  found v s (b ∷ bs) e f g =
      let (some, all) = split_times None b.name.symbol (times None (symbols_in bs)) f in
      let (own, rest) = split_times (symbol k) b.name.symbol (times (symbol k) (symbols_in bs)) g in
      by (is_for v s b) refl some own (λ h. found v s bs h all rest) (unfound v s bs rest) e
    where
      by : (c : Bool) → is_for v s b ≡ c → is_same None b.name.symbol ≡ false → is_same (symbol k) b.name.symbol ≡ false → (list_any (is_for v s) bs ≡ true → Another (symbol_of v s bs)) → is_same (symbol k) (symbol_of v s bs) ≡ false → (c || list_any (is_for v s) bs) ≡ true → Another (or_else (symbol_of v s bs) (own_symbol v s b))
      by true q some own ih un e = or_another (symbol_of v s bs) (own_symbol v s b) un (subst (λ c. Another (if c then b.name.symbol else None)) (sym q) (another b.name.symbol some own))
      by false q some own ih un e = first_another (symbol_of v s bs) (own_symbol v s b) (ih e)

  -- ---- what is spelled around is no name of it

  abbrev pub Far : Bool → Spellings → Environment → Type 0
  Far v spells env = (s : List ℕ) → spells v s ≡ true → is_same (symbol k) (symbol_of (use_if v) s env) ≡ false

  -- scopes all of whose names have symbols, and none has this
  abbrev pub Free : List Binding → Type 0
  Free bs = (times None (symbols_in bs) ≡ 0) × (times (symbol k) (symbols_in bs) ≡ 0)

  pub further : (v : Bool) (spells : Spellings) (env bs : Environment) → Far v spells env → Free bs → Far v spells (env ++ bs)
  further v spells env bs a f s e = ap (is_same (symbol k)) (symbol_of_both (use_if v) s env bs) ∙ or_unsame (symbol_of (use_if v) s bs) (symbol_of (use_if v) s env) (unfound (use_if v) s bs f.1) (a s e)

  pub far_scope : (v : Bool) (spells : Spellings) (env bs : Environment) → Far v spells env → Free bs → Far v (with_scope spells bs) (env ++ bs)
  far_scope v spells env bs a f s e = by (or_either (spells v s) (list_any (is_for (use_if v) s) bs) e)
    where
      by : (spells v s ≡ true) ⊎ (list_any (is_for (use_if v) s) bs ≡ true) → is_same (symbol k) (symbol_of (use_if v) s (env ++ bs)) ≡ false
      by (inl g) = further v spells env bs a f s g
      by (inr g) = ap (is_same (symbol k)) (symbol_of_both (use_if v) s env bs) ∙ another_first (symbol_of (use_if v) s bs) (symbol_of (use_if v) s env) (found (use_if v) s bs g f.0 f.1)

  pub far_if : (c v : Bool) (first spells : Spellings) (env : Environment) → Far v first env → Far v spells env → Far v (if c then first else spells) env
  far_if true v first spells env a b = a
  far_if false v first spells env a b = b

  -- ---- names as a use finds them

  same_serving : (u : Use) (b : Binding) → serves u b ≡ serves (use_if (is_hoisting u)) b
  same_serving Hoisted b = refl
  same_serving Headed b = refl
  same_serving u b = refl

  as_hoisting : (u : Use) (s : List ℕ) (env : Environment) → symbol_of u s env ≡ symbol_of (use_if (is_hoisting u)) s env
  as_hoisting u s [] = refl
  as_hoisting u s (b ∷ env) = λ j. or_else (as_hoisting u s env j) (if (same_serving u b j && same_text b.name.spelling s) then b.name.symbol else None)

  pub found_as : (u : Use) (v : Bool) → is_hoisting u ≡ v → (s : List ℕ) (env : Environment) → symbol_of u s env ≡ symbol_of (use_if v) s env
  found_as u v e s env = as_hoisting u s env ∙ ap (λ w. symbol_of (use_if w) s env) e

  pub far_names : (u : Use) (v : Bool) → is_hoisting u ≡ v → (spells : Spellings) (env : Environment) → Far v spells env → (xs : List Name) → NamesScoped u env xs → list_all (λ y. spells (is_hoisting u) y.spelling) xs ≡ true → Other k xs
  far_names u v e spells env a [] s f = tt
  far_names u v e spells env a (y ∷ ys) s f =
      let here = left (spells (is_hoisting u) y.spelling) (list_all (λ z. spells (is_hoisting u) z.spelling) ys) f in (
        by_same y (ap (is_same (symbol k)) (s.0 ∙ found_as u v e y.spelling env) ∙ a y.spelling (sym (ap (λ w. spells w y.spelling) e) ∙ here)),
        far_names u v e spells env a ys s.1 (right (spells (is_hoisting u) y.spelling) (list_all (λ z. spells (is_hoisting u) z.spelling) ys) f),
      )

  -- ---- a pattern spells what it binds

  pub spelled_far : (u : Use) (v : Bool) → is_hoisting u ≡ v → (env : Environment) (xs : List Name) → NamesScoped u env xs → Other k xs → (s : List ℕ) → is_spelled s xs ≡ true → is_same (symbol k) (symbol_of (use_if v) s env) ≡ false
  spelled_far u v e env [] a o s f = absurd (true≢false (sym f))
  spelled_far u v e env (y ∷ ys) a o s f = by (spelled_far u v e env ys a.1 o.1 s) (or_either (same_text y.spelling s) (is_spelled s ys) f)
    where
      by : (is_spelled s ys ≡ true → is_same (symbol k) (symbol_of (use_if v) s env) ≡ false) → (same_text y.spelling s ≡ true) ⊎ (is_spelled s ys ≡ true) → is_same (symbol k) (symbol_of (use_if v) s env) ≡ false
      by rest (inl g) = ap (λ r. is_same (symbol k) (symbol_of (use_if v) r env)) (sym (same_texts y.spelling s g)) ∙ ap (is_same (symbol k)) (sym (found_as u v e y.spelling env) ∙ sym a.0) ∙ same_by y o.0
      by rest (inr g) = rest g

  -- names among which the variable isn't
  pub none_among : (ys : List Name) → is_among x ys ≡ false → Other k ys
  none_among [] e = tt
  none_among (y ∷ ys) e = by (none_among ys) (same_variable x y) refl e
    where
      by : (is_among x ys ≡ false → Other k ys) → (c : Bool) → same_variable x y ≡ c → (c || is_among x ys) ≡ false → (same_variable x y ≡ false) × Other k ys
      by rest true q f = absurd (true≢false f)
      by rest false q f = (q, rest f)

  pub flagged : (u : Use) (v c : Bool) → (is_same_flag v (is_hoisting u) && c) ≡ true → (is_hoisting u ≡ v) × (c ≡ true)
  flagged u v c e = by (is_hoisting u) refl v e
    where
      by : (w : Bool) → is_hoisting u ≡ w → (v : Bool) → (is_same_flag v w && c) ≡ true → (is_hoisting u ≡ v) × (c ≡ true)
      by true q true f = (q, f)
      by true q false f = absurd (true≢false (sym f))
      by false q true f = absurd (true≢false (sym f))
      by false q false f = (q, f)

  pub first_far : (v : Bool) (u : Use) (env : Environment) (h : Shape) (xs : List Name) (n : ℕ) (ts : Trees) → Scoped u env (node h xs n ts) → is_among x (own_pattern_names h n ts) ≡ false → Far v (spelled_first u h n ts) env
  unfolding names_of
  first_far v u env h xs n ts a p s e =
      let (w, f) = flagged u v (is_spelled s (own_pattern_names h n ts)) e in
      spelled_far u v w env (own_pattern_names h n ts) (scoped h n a) (none_among (own_pattern_names h n ts) p) s f
    where
      scoped : (h : Shape) (n : ℕ) → Scoped u env (node h xs n ts) → NamesScoped u env (own_pattern_names h n ts)
      scoped shape.ObjectPattern n a = bound_scoped u env (node shape.ObjectPattern xs n ts) a
      scoped shape.ArrayPattern n a = bound_scoped u env (node shape.ArrayPattern xs n ts) a
      scoped shape.AssignmentPattern (suc n) a = bound_scoped u env (node shape.AssignmentPattern xs (suc n) ts) a
      scoped h n a = tt

  -- ---- patterns bind other names

  abbrev mutual
    pub Unpatterned : Tree → Type 0
    Unpatterned (node h xs n ts) = (is_among x (own_pattern_names h n ts) ≡ false) × AllUnpatterned ts

    pub AllUnpatterned : Trees → Type 0
    AllUnpatterned none = Unit {0}
    AllUnpatterned (t ▸ ts) = Unpatterned t × AllUnpatterned ts

  -- ---- binders whose use looks for a `var` (true) or for any name

  abbrev mutual
    pub UnboundIn : Bool → Use → Tree → Type 0
    UnboundIn v u (node h xs n ts) = (is_hoisting u ≡ v → Other k (bound_at h xs)) × AllUnboundIn v (use_of h u) 0 ts

    pub AllUnboundIn : Bool → (ℕ → Use) → ℕ → Trees → Type 0
    AllUnboundIn v us i none = Unit {0}
    AllUnboundIn v us i (t ▸ ts) = UnboundIn v (us i) t × AllUnboundIn v us (suc i) ts

  pub own_scoped : (u : Use) (env : Environment) (h : Shape) (xs : List Name) (ts : Trees) → OwnScoped u env h xs ts → NamesScoped u env (bound_at h xs)
  own_scoped u env shape.BindingIdentifier xs ts a = a
  own_scoped u env h xs ts a = tt

  -- no scope of a tree declares the symbol, and each name that one declares has a symbol
  abbrev pub Undeclared : Use → Tree → Type 0
  Undeclared u t = (times None (declared_in u t) ≡ 0) × (times (symbol k) (declared_in u t) ≡ 0)

  mutual
    unfolding Scoped declared_in is_covered

    pub covered_unbound : (v : Bool) (u : Use) (spells : Spellings) (env : Environment) (t : Tree) → is_covered u spells t ≡ true → Scoped u env t → Undeclared u t → Unpatterned t → Far v spells env → UnboundIn v u t
    covered_unbound v u spells env (node h xs n ts) c a d p f =
        let own = list_all (λ y. spells (is_hoisting u) y.spelling) (bound_at h xs) in
        let under = are_covered (opened u h ts) (use_of h u) (begins_body h n) (spelled_first u h n ts) 0 spells ts in (
          λ e. far_names u v e spells env f (bound_at h xs) (own_scoped u env h xs ts a.0) (left own under c),
          all_covered_unbound v (opened u h ts) (use_of h u) (begins_body h n) (spelled_first u h n ts) 0 spells env ts (right own under c) a.1 d p.1 (far_if (begins_body h n 0) v (spelled_first u h n ts) spells env (first_far v u env h xs n ts a p.0) f) (first_far v u env h xs n ts a p.0),
        )

    pub all_covered_unbound : (v : Bool) (sc : ℕ → List Binding) (us : ℕ → Use) (begins : ℕ → Bool) (first : Spellings) (i : ℕ) (spells : Spellings) (env : Environment) (ts : Trees) → are_covered sc us begins first i spells ts ≡ true → AllScoped sc us i env ts
        → (times None (declared_from sc us i ts) ≡ 0) × (times (symbol k) (declared_from sc us i ts) ≡ 0) → AllUnpatterned ts → Far v (if begins i then first else spells) env → Far v first env → AllUnboundIn v us i ts
    all_covered_unbound v sc us begins first i spells env none c a d p f g = tt
    all_covered_unbound v sc us begins first i spells env (t ▸ ts) c a d p f g =
        let next = with_scope (if begins i then first else spells) (sc i) in
        let some = times_three None (symbols_in (sc i)) (declared_in (us i) t) (declared_from sc us (suc i) ts) in
        let own = times_three (symbol k) (symbols_in (sc i)) (declared_in (us i) t) (declared_from sc us (suc i) ts) in
        let free : Free (sc i) = (omega (arith, some, d.0), omega (arith, own, d.1)) in
        let here : Undeclared (us i) t = (omega (arith, some, d.0), omega (arith, own, d.1)) in
        let far = far_scope v (if begins i then first else spells) env (sc i) f free in (
          covered_unbound v (us i) next (env ++ sc i) t (left (is_covered (us i) next t) (are_covered sc us begins first (suc i) next ts) c) a.0 here p.0 far,
          all_covered_unbound v sc us begins first (suc i) next (env ++ sc i) ts (right (is_covered (us i) next t) (are_covered sc us begins first (suc i) next ts) c) a.1 (omega (arith, some, d.0), omega (arith, own, d.1)) p.1 (far_if (begins (suc i)) v first next (env ++ sc i) (further v first env (sc i) g free) far) (further v first env (sc i) g free),
        )

  either_unbound : (u : Use) (o : Type 0) → (is_hoisting u ≡ true → o) → (is_hoisting u ≡ false → o) → o
  either_unbound u o f g = by (is_hoisting u) refl
    where
      by : (w : Bool) → is_hoisting u ≡ w → o
      by true e = f e
      by false e = g e

  mutual
    pub unbound_both : (u : Use) (t : Tree) → UnboundIn true u t → UnboundIn false u t → Unbound k t
    unbound_both u (node h xs n ts) a b = (either_unbound u (Other k (bound_at h xs)) a.0 b.0, all_unbound_both (use_of h u) 0 ts a.1 b.1)

    pub all_unbound_both : (us : ℕ → Use) (i : ℕ) (ts : Trees) → AllUnboundIn true us i ts → AllUnboundIn false us i ts → AllUnbound k ts
    all_unbound_both us i none a b = tt
    all_unbound_both us i (t ▸ ts) a b = (unbound_both (us i) t a.0 b.0, all_unbound_both us (suc i) ts a.1 b.1)
